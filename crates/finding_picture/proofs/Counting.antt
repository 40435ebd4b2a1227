-- What one more version changes of those that count from a place on.
use Rattle.std.proofs.Common.{◌≡◌, ℕ, ◌+◌, ◌-◌, ◌<◌, ◌≤◌, ◌||◌, Bool, true, false, List, [], ◌∷◌, ◌++◌, Bor, length, drop, get_or, map, take, ap, arith, refl, sym, ◌∙◌}
use Rattle.std.specs.Prelude.{if◌then◌else◌}
use Rattle.std.specs.List.{list_any}
use Rattle.std.proofs.Math.Seq.{take-length}
use Rattle.std.proofs.lemmas.Bool.{cond-true}
use Rattle.std.proofs.lemmas.List.{drop_at, drop-append-le, drop-map, length-drop, length-map, length-take, map_more}
use Rattle.std.proofs.lemmas.List.Folds.{list_any-append}
use Rattle.object_past.specs.declared.version.Version.{Version}
use Rattle.finding_picture.specs.Lasting.{is_upto, since}

or_true : (b : Bool) → (b || true) ≡ true
or_true true = refl
or_true false = refl

or_false : (b : Bool) → (b || false) ≡ b
or_false true = refl
or_false false = refl

any_upto : (p : Version → Bool) (ys : List Version) (x : Version) → p x ≡ true → list_any p (ys ++ x ∷ []) ≡ true
any_upto p ys x upto = list_any-append p ys (x ∷ []) ∙ ap (λ b. list_any p ys || (b || false)) upto ∙ or_true (list_any p ys)

any_behind : (p : Version → Bool) (ys : List Version) (x : Version) → p x ≡ false → list_any p (ys ++ x ∷ []) ≡ list_any p ys
any_behind p ys x behind = list_any-append p ys (x ∷ []) ∙ ap (λ b. list_any p ys || (b || false)) behind ∙ or_false (list_any p ys)

either : {X : Type 0} (b : Bool) (a c d e more : List X) → a ≡ d ++ more → c ≡ e ++ more → (if b then a else c) ≡ (if b then d else e) ++ more
either true a c d e more first second = first
either false a c d e more first second = second

-- one at or below the place is the first that counts
since_upto : (place : ℕ) (ys : List Version) (x : Version) → is_upto place x ≡ true → since place (ys ++ x ∷ []) ≡ x ∷ []
unfolding since
since_upto place [] x upto = refl
since_upto place (y ∷ ys) x upto =
    cond-true (list_any (is_upto place) (ys ++ x ∷ [])) (since place (ys ++ x ∷ [])) (y ∷ (ys ++ x ∷ [])) (any_upto (is_upto place) ys x upto)
    ∙ since_upto place ys x upto

-- one behind it counts beside the others
since_behind : (place : ℕ) (ys : List Version) (x : Version) → is_upto place x ≡ false → since place (ys ++ x ∷ []) ≡ since place ys ++ x ∷ []
unfolding since
since_behind place [] x behind = refl
since_behind place (y ∷ ys) x behind =
    ap (λ b. if b then since place (ys ++ x ∷ []) else y ∷ (ys ++ x ∷ [])) (any_behind (is_upto place) ys x behind)
    ∙ either (list_any (is_upto place) ys) _ _ (since place ys) (y ∷ ys) (x ∷ []) (since_behind place ys x behind) refl

upto_next : (place i : ℕ) (ys zs : List Version) (x : Version) → zs ≡ ys ++ x ∷ [] → length ys ≡ i → is_upto place x ≡ true → since place zs ≡ drop i zs
upto_next place i ys zs x more size upto =
    ap (since place) more ∙ since_upto place ys x upto ∙ sym (drop_at ys (x ∷ []) i size) ∙ ap (drop i) (sym more)

behind_next : (place first : ℕ) (ys zs : List Version) (x : Version) → zs ≡ ys ++ x ∷ [] → first ≤ length ys → is_upto place x ≡ false → since place ys ≡ drop first ys
    → since place zs ≡ drop first zs
behind_next place first ys zs x more bound behind held =
    ap (since place) more ∙ since_behind place ys x behind ∙ ap (λ l. l ++ x ∷ []) held ∙ sym (drop-append-le first ys (x ∷ []) bound) ∙ ap (drop first) (sym more)

-- the same of versions behind references
abbrev seen : List (Bor Version) → List Version
seen versions = map (λ one. one.now) versions

more_seen : (vs : List (Bor Version)) (i : ℕ) (x : Bor Version) → i < length vs → x ≡ get_or vs i x → seen (take (i + 1) vs) ≡ seen (take i vs) ++ x.now ∷ []
more_seen vs i x inside is = map_more (λ (one : Bor Version). one.now) vs i x inside ∙ ap (λ (one : Bor Version). seen (take i vs) ++ one.now ∷ []) (sym is)

seen_length : (vs : List (Bor Version)) (i : ℕ) → i < length vs → length (seen (take i vs)) ≡ i
seen_length vs i inside = omega (arith, inside, length-map (take i vs) (λ (one : Bor Version). one.now), length-take i vs)

pub upto_seen : (place : ℕ) (vs : List (Bor Version)) (i first : ℕ) (x : Bor Version) → i < length vs → x ≡ get_or vs i x → is_upto place x.now ≡ true → first ≡ i
    → since place (seen (take (i + 1) vs)) ≡ drop first (seen (take (i + 1) vs))
upto_seen place vs i first x inside is upto at =
    upto_next place i (seen (take i vs)) (seen (take (i + 1) vs)) x.now (more_seen vs i x inside is) (seen_length vs i inside) upto
    ∙ ap (λ n. drop n (seen (take (i + 1) vs))) (sym at)

pub behind_seen : (place : ℕ) (vs : List (Bor Version)) (i before first : ℕ) (x : Bor Version) → i < length vs → x ≡ get_or vs i x → is_upto place x.now ≡ false → first ≡ before
    → before ≤ i → since place (seen (take i vs)) ≡ drop before (seen (take i vs)) → since place (seen (take (i + 1) vs)) ≡ drop first (seen (take (i + 1) vs))
behind_seen place vs i before first x inside is behind at bound held =
    behind_next place before (seen (take i vs)) (seen (take (i + 1) vs)) x.now (more_seen vs i x inside is) (omega (arith, bound, seen_length vs i inside)) behind held
    ∙ ap (λ n. drop n (seen (take (i + 1) vs))) (sym at)

-- the rest of a slice of references
pub rest_seen : (n : ℕ) (vs : List (Bor Version)) → seen (take (length vs - n) (drop n vs)) ≡ drop n (seen vs)
rest_seen n vs =
    ap (λ k. seen (take k (drop n vs))) (sym (length-drop n vs))
    ∙ ap seen (take-length (drop n vs))
    ∙ sym (drop-map (λ (one : Bor Version). one.now) n vs)
