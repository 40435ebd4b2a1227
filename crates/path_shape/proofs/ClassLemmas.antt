-- The patterns that go past one more token, and the class of a path behind it.
use Rattle.std.proofs.Common.{◌≡◌, ℕ, suc, ◌<◌, ◌≤◌, Bool, true, false, ◌&&◌, ◌||◌, List, [], ◌∷◌, ◌++◌, length, map, Option, Some, None, IfSome, refl, sym, ap, ◌∙◌, arith}
use Rattle.std.specs.Prelude.{option_map, unwrap_or, nat_lt, if◌then◌else◌}
use Rattle.std.proofs.lemmas.Bool.{false≢true, ltb-true, ltb-false}
use Rattle.path_shape.specs.declared.shape.FieldClass.{FieldClass}
use Rattle.path_shape.specs.Patterns.{Pattern, covers, matches, goes_past, longer, longest, class_or, class_at, is_open}
use Rattle.path_shape.specs.Walk.{Going, pattern_from, patterns_in, is_any, goes_on, narrow, ends_on, ending}

abbrev pub Found : Type 0
Found = ℕ × FieldClass

pub lt_true : (a b : ℕ) → a < b → nat_lt a b ≡ true
lt_true a b lt = go (nat_lt a b) refl
  where
    go : (t : Bool) → nat_lt a b ≡ t → nat_lt a b ≡ true
    go true e = e
    go false e = absurd (let le = ltb-false a b e in omega arith)

pub lt_false : (a b : ℕ) → b ≤ a → nat_lt a b ≡ false
lt_false a b le = go (nat_lt a b) refl
  where
    go : (t : Bool) → nat_lt a b ≡ t → nat_lt a b ≡ false
    go true e = absurd (let lt = ltb-true a b e in omega arith)
    go false e = e

lt_suc : (a b : ℕ) → nat_lt (suc a) (suc b) ≡ nat_lt a b
lt_suc a b = go (nat_lt a b) refl
  where
    go : (t : Bool) → nat_lt a b ≡ t → nat_lt (suc a) (suc b) ≡ nat_lt a b
    go true e = lt_true (suc a) (suc b) (let lt = ltb-true a b e in omega arith) ∙ sym e
    go false e = lt_false (suc a) (suc b) (let le = ltb-false a b e in omega arith) ∙ sym e

pub longer_keeps : (P : ℕ → Type 0) (first : Found) (second : Option Found) → P first.0 → IfSome second (λ f. P f.0) → P (longer first second).0
longer_keeps P first None h h' = h
longer_keeps P first (Some second) h h' = go (nat_lt first.0 second.0)
  where
    go : (t : Bool) → P (if t then second else first).0
    go true = h'
    go false = h

-- a pattern on the stack has a token, so what matches has some length
pub longest_some : (path : List (List ℕ)) (ps : List Going) → IfSome (longest path (map pattern_from ps)) (λ f. 0 < f.0)
longest_some path [] = tt
longest_some path (p ∷ ps) = go (longest_some path ps) (matches (p.0 ∷ p.1.0) path)
  where
    go : IfSome (longest path (map pattern_from ps)) (λ f. 0 < f.0) → (m : Bool)
        → IfSome (if m then Some (longer (length (p.0 ∷ p.1.0), p.1.1) (longest path (map pattern_from ps))) else longest path (map pattern_from ps)) (λ f. 0 < f.0)
    go rest true = longer_keeps (λ n. 0 < n) (length (p.0 ∷ p.1.0), p.1.1) (longest path (map pattern_from ps)) (omega arith) rest
    go rest false = rest

-- and what matches one token has no other
longest_one : (name : List ℕ) (ps : List Going) → IfSome (longest (name ∷ []) (map pattern_from ps)) (λ f. f.0 ≤ 1)
longest_one name [] = tt
longest_one name ((t, ([], c)) ∷ ps) = go (longest_one name ps) (covers t name && true)
  where
    go : IfSome (longest (name ∷ []) (map pattern_from ps)) (λ f. f.0 ≤ 1) → (m : Bool)
        → IfSome (if m then Some (longer (length (t ∷ []), c) (longest (name ∷ []) (map pattern_from ps))) else longest (name ∷ []) (map pattern_from ps)) (λ f. f.0 ≤ 1)
    go rest true = longer_keeps (λ n. n ≤ 1) (length (t ∷ []), c) (longest (name ∷ []) (map pattern_from ps)) (omega arith) rest
    go rest false = rest
longest_one name ((t, (u ∷ us, c)) ∷ ps) = go (longest_one name ps) (covers t name)
  where
    go : IfSome (longest (name ∷ []) (map pattern_from ps)) (λ f. f.0 ≤ 1) → (m : Bool)
        → IfSome (if m && false then Some (longer (length (t ∷ u ∷ us), c) (longest (name ∷ []) (map pattern_from ps))) else longest (name ∷ []) (map pattern_from ps)) (λ f. f.0 ≤ 1)
    go rest true = rest
    go rest false = rest

-- what matches one token, and what matches more: the longer
abbrev pub raised : Option Found → Option Found → Option Found
raised one None = one
raised one (Some more) = Some (suc more.0, more.1)

ended_step : (n : ℕ) (c : FieldClass) (one more : Option Found) → n ≤ 1 → IfSome more (λ f. 0 < f.0)
    → Some (longer (n, c) (raised one more)) ≡ raised (Some (longer (n, c) one)) more
ended_step n c one None le some = refl
ended_step n c one (Some f) le some = rw (lt_true n (suc f.0) (omega (arith, some))) refl

further_step : (n : ℕ) (c : FieldClass) (one more : Option Found) → 0 < n → IfSome one (λ f. f.0 ≤ 1)
    → Some (longer (suc n, c) (raised one more)) ≡ raised one (Some (longer (n, c) more))
further_step n c None None some le = refl
further_step n c (Some f) None some le = rw (lt_false (suc n) f.0 (omega (arith, le))) refl
further_step n c one (Some f) some le = rw (lt_suc n f.0) (go (nat_lt n f.0))
  where
    go : (t : Bool) → ◌≡◌ {A = Option Found} (Some (if t then (suc f.0, f.1) else (suc n, c))) (Some (suc (if t then f else (n, c)).0, (if t then f else (n, c)).1))
    go true = refl
    go false = refl

pub longest-down : (name : List ℕ) (path : List (List ℕ)) (ps : List Going)
    → longest (name ∷ path) (map pattern_from ps) ≡ raised (longest (name ∷ []) (map pattern_from ps)) (longest path (map pattern_from (narrow name ps)))
longest-down name path [] = refl
longest-down name path ((t, ([], c)) ∷ ps) = go (longest-down name path ps) (covers t name) refl
  where
    go : longest (name ∷ path) (map pattern_from ps) ≡ raised (longest (name ∷ []) (map pattern_from ps)) (longest path (map pattern_from (narrow name ps)))
        → (m : Bool) → covers t name ≡ m
        → longest (name ∷ path) (map pattern_from ((t, ([], c)) ∷ ps)) ≡ raised (longest (name ∷ []) (map pattern_from ((t, ([], c)) ∷ ps))) (longest path (map pattern_from (narrow name ((t, ([], c)) ∷ ps))))
    go rest true m = rw m (ap (λ l. Some (longer (length (t ∷ []), c) l)) rest ∙ ended_step (length (t ∷ [])) c (longest (name ∷ []) (map pattern_from ps)) (longest path (map pattern_from (narrow name ps))) (omega arith) (longest_some path (narrow name ps)))
    go rest false m = rw m rest
longest-down name path ((t, (u ∷ us, c)) ∷ ps) = go (longest-down name path ps) (covers t name) refl (matches (u ∷ us) path) refl
  where
    go : longest (name ∷ path) (map pattern_from ps) ≡ raised (longest (name ∷ []) (map pattern_from ps)) (longest path (map pattern_from (narrow name ps)))
        → (m : Bool) → covers t name ≡ m → (k : Bool) → matches (u ∷ us) path ≡ k
        → longest (name ∷ path) (map pattern_from ((t, (u ∷ us, c)) ∷ ps)) ≡ raised (longest (name ∷ []) (map pattern_from ((t, (u ∷ us, c)) ∷ ps))) (longest path (map pattern_from (narrow name ((t, (u ∷ us, c)) ∷ ps))))
    go rest true m true k = rw (m, k) (ap (λ l. Some (longer (length (t ∷ u ∷ us), c) l)) rest ∙ further_step (length (u ∷ us)) c (longest (name ∷ []) (map pattern_from ps)) (longest path (map pattern_from (narrow name ps))) (omega arith) (longest_one name ps))
    go rest true m false k = rw (m, k) rest
    go rest false m b k = rw m rest

class_or-raised : (class : FieldClass) (one more : Option Found) → class_or class (raised one more) ≡ class_or (class_or class one) more
class_or-raised class one None = refl
class_or-raised class one (Some f) = refl

pub class_at-down : (class : FieldClass) (name : List ℕ) (path : List (List ℕ)) (ps : List Going)
    → class_at class (map pattern_from ps) (name ∷ path) ≡ class_at (class_at class (map pattern_from ps) (name ∷ [])) (map pattern_from (narrow name ps)) path
class_at-down class name path ps = ap (class_or class) (longest-down name path ps) ∙ class_or-raised class (longest (name ∷ []) (map pattern_from ps)) (longest path (map pattern_from (narrow name ps)))

pub is_open-down : (name : List ℕ) (path : List (List ℕ)) (ps : List Going) → is_open (map pattern_from ps) (name ∷ path) ≡ is_open (map pattern_from (narrow name ps)) path
is_open-down name path [] = refl
is_open-down name path ((t, ([], c)) ∷ ps) = go (is_open-down name path ps) (covers t name) refl
  where
    go : is_open (map pattern_from ps) (name ∷ path) ≡ is_open (map pattern_from (narrow name ps)) path → (m : Bool) → covers t name ≡ m
        → is_open (map pattern_from ((t, ([], c)) ∷ ps)) (name ∷ path) ≡ is_open (map pattern_from (narrow name ((t, ([], c)) ∷ ps))) path
    go rest true m = rw m rest
    go rest false m = rw m rest
is_open-down name path ((t, (u ∷ us, c)) ∷ ps) = go (is_open-down name path ps) (covers t name) refl
  where
    go : is_open (map pattern_from ps) (name ∷ path) ≡ is_open (map pattern_from (narrow name ps)) path → (m : Bool) → covers t name ≡ m
        → is_open (map pattern_from ((t, (u ∷ us, c)) ∷ ps)) (name ∷ path) ≡ is_open (map pattern_from (narrow name ((t, (u ∷ us, c)) ∷ ps))) path
    go rest true m = rw m (ap (λ b. goes_past (u ∷ us) path || b) rest)
    go rest false m = rw m rest

longest-root : (ps : List Going) → longest [] (map pattern_from ps) ≡ None
longest-root [] = refl
longest-root (p ∷ ps) = longest-root ps

pub class_at-root : (class : FieldClass) (ps : List Going) → class_at class (map pattern_from ps) [] ≡ class
class_at-root class ps = ap (class_or class) (longest-root ps)

pub is_open-append : (ps qs : List Pattern) (path : List (List ℕ)) → is_open (ps ++ qs) path ≡ (is_open ps path || is_open qs path)
is_open-append [] qs path = refl
is_open-append (p ∷ ps) qs path = go (is_open-append ps qs path) (goes_past p.0 path)
  where
    go : is_open (ps ++ qs) path ≡ (is_open ps path || is_open qs path) → (m : Bool) → (m || is_open (ps ++ qs) path) ≡ ((m || is_open ps path) || is_open qs path)
    go rest true = refl
    go rest false = rest

pub or_true : (a : Bool) → (a || true) ≡ true
or_true true = refl
or_true false = refl

-- where there is a pattern, the path is open
pub any_open : (ps : List Going) → is_any ps ≡ true → is_open (patterns_in ps) [] ≡ true
any_open [] any = absurd (false≢true any)
any_open (p ∷ ps) any = refl

pub none_left : (ps : List Going) → is_any ps ≡ false → ps ≡ []
none_left [] any = refl
none_left (p ∷ ps) any = absurd (false≢true (sym any))

pub goes_on-append : (ts : List (List ℕ)) (c : FieldClass) (ps qs : List Going) → goes_on ts c (ps ++ qs) ≡ goes_on ts c ps ++ qs
goes_on-append [] c ps qs = refl
goes_on-append (t ∷ ts) c ps qs = refl

pub narrow-append : (name : List ℕ) (ps qs : List Going) → narrow name (ps ++ qs) ≡ narrow name ps ++ narrow name qs
narrow-append name [] qs = refl
narrow-append name (p ∷ ps) qs = go (narrow-append name ps qs) (covers p.0 name)
  where
    go : narrow name (ps ++ qs) ≡ narrow name ps ++ narrow name qs → (m : Bool)
        → (if m then goes_on p.1.0 p.1.1 (narrow name (ps ++ qs)) else narrow name (ps ++ qs)) ≡ (if m then goes_on p.1.0 p.1.1 (narrow name ps) else narrow name ps) ++ narrow name qs
    go rest true = ap (goes_on p.1.0 p.1.1) rest ∙ goes_on-append p.1.0 p.1.1 (narrow name ps) (narrow name qs)
    go rest false = rest

abbrev pub first_or : Option FieldClass → Option FieldClass → Option FieldClass
first_or None later = later
first_or (Some found) later = Some found

pub first_or-none : (found : Option FieldClass) → first_or found None ≡ found
first_or-none None = refl
first_or-none (Some found) = refl

one_step : (c : FieldClass) (rest : Option FieldClass) → ◌≡◌ {A = Option Found} (Some (longer (1, c) (option_map (λ k. (1, k)) rest))) (Some (1, c))
one_step c None = refl
one_step c (Some k) = refl

longest-ended : (name : List ℕ) (ps : List Going) → longest (name ∷ []) (map pattern_from ps) ≡ option_map (λ k. (1, k)) (ending name ps)
longest-ended name [] = refl
longest-ended name ((t, ([], c)) ∷ ps) = go (longest-ended name ps) (covers t name) refl
  where
    go : longest (name ∷ []) (map pattern_from ps) ≡ option_map (λ k. (1, k)) (ending name ps) → (m : Bool) → covers t name ≡ m
        → longest (name ∷ []) (map pattern_from ((t, ([], c)) ∷ ps)) ≡ option_map (λ k. (1, k)) (ending name ((t, ([], c)) ∷ ps))
    go rest true m = rw m (ap (λ l. Some (longer (1, c) l)) rest ∙ one_step c (ending name ps))
    go rest false m = rw m rest
longest-ended name ((t, (u ∷ us, c)) ∷ ps) = go (longest-ended name ps) (covers t name) refl
  where
    go : longest (name ∷ []) (map pattern_from ps) ≡ option_map (λ k. (1, k)) (ending name ps) → (m : Bool) → covers t name ≡ m
        → longest (name ∷ []) (map pattern_from ((t, (u ∷ us, c)) ∷ ps)) ≡ option_map (λ k. (1, k)) (ending name ((t, (u ∷ us, c)) ∷ ps))
    go rest true m = rw m rest
    go rest false m = rw m rest

class_or-ended : (class : FieldClass) (o : Option FieldClass) → class_or class (option_map (λ k. (1, k)) o) ≡ unwrap_or o class
class_or-ended class None = refl
class_or-ended class (Some k) = refl

pub class_at-one : (class : FieldClass) (name : List ℕ) (ps : List Going) → class_at class (map pattern_from ps) (name ∷ []) ≡ unwrap_or (ending name ps) class
class_at-one class name ps = ap (class_or class) (longest-ended name ps) ∙ class_or-ended class (ending name ps)

pub ending-append : (name : List ℕ) (ps qs : List Going) → ending name (ps ++ qs) ≡ first_or (ending name ps) (ending name qs)
ending-append name [] qs = refl
ending-append name (p ∷ ps) qs = go (ending-append name ps qs) (covers p.0 name) p.1.0
  where
    go : ending name (ps ++ qs) ≡ first_or (ending name ps) (ending name qs) → (m : Bool) (ts : List (List ℕ))
        → (if m then ends_on ts p.1.1 (ending name (ps ++ qs)) else ending name (ps ++ qs)) ≡ first_or (if m then ends_on ts p.1.1 (ending name ps) else ending name ps) (ending name qs)
    go rest true [] = refl
    go rest true (t ∷ ts) = rest
    go rest false ts = rest
