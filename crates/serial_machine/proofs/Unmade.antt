-- Versions without a maker, put one after the other.
use Rattle.std.proofs.Common.{◌≡◌, ◌≢◌, ℕ, suc, ◌<◌, ◌≤◌, ◌⊎◌, Bool, true, false, cond, ◌&&◌, nat_lt, nat_le, List, [], ◌∷◌, ◌++◌, map, Option, Some, None, All, AllPairs, inl, inr, refl, sym, ap, ◌∙◌, arith, true≢false}
use Rattle.std.specs.List.{filter}
use Rattle.std.proofs.lemmas.Bool.Decides.{leb_tells}
use Rattle.std.proofs.lemmas.List.Kept.{AllPairs-filter}
use Rattle.base_types.specs.declared.kubernetes.key.ObjectKey.{ObjectKey}
use Rattle.base_types.specs.Keys.{same_key}
use Rattle.history_model.proofs.KeyLemmas.{key_tells, key_is, key_differs}
use Rattle.history_model.proofs.Latest.{latest_is}
use Rattle.history_model.proofs.Members.{here, there, all_at, all_from, pairs_head, pairs_tail}
use Rattle.history_model.proofs.Steps.{in_filter}
use Rattle.history_model.specs.Histories.{History, Version}
use Rattle.history_model.specs.Machine.{Step, Put, put_at, after, after_all, snapshot_map, step_place}
use Rattle.history_model.specs.Readable.{IsReadable}
use Rattle.history_model.specs.States.{Map, latest, newer, IsLatest}
use Rattle.serial_machine.specs.Held.{HasMade, has_no_maker, is_unmade, unmade, unmade_puts, or_else, objects_of, objects_upto, end_of_steps}
use Rattle.serial_machine.specs.declared.machine.Machine.{Machine}

pub and_parts : (a b : Bool) → (a && b) ≡ true → (a ≡ true) × (b ≡ true)
and_parts true b e = (refl, e)
and_parts false b e = absurd (true≢false (sym e))

le_true : (a b : ℕ) → nat_le a b ≡ true → a ≤ b
le_true a b e = go (leb_tells a b)
  where
    go : ((nat_le a b ≡ true) × (a ≤ b)) ⊎ ((nat_le a b ≡ false) × (b < a)) → a ≤ b
    go (inl w) = w.1
    go (inr w) = absurd (true≢false (sym e ∙ w.0))

pub lt_true : (a b : ℕ) → nat_lt a b ≡ true → a < b
lt_true a b e = le_true (suc a) b e

true_le : (a b : ℕ) → a ≤ b → nat_le a b ≡ true
true_le a b l = go (leb_tells a b)
  where
    go : ((nat_le a b ≡ true) × (a ≤ b)) ⊎ ((nat_le a b ≡ false) × (b < a)) → nat_le a b ≡ true
    go (inl w) = w.0
    go (inr w) = absurd (omega (arith, w.1, l))

pub true_lt : (a b : ℕ) → a < b → nat_lt a b ≡ true
true_lt a b l = true_le (suc a) b (omega (arith, l))

-- what an unmade version is
pub unmade_parts : (low high : ℕ) (v : Version) → is_unmade low high v ≡ true → (has_no_maker v.maker ≡ true) × ((low < v.revision) × (v.revision ≤ high))
unmade_parts low high v e =
    let p : (has_no_maker v.maker ≡ true) × ((nat_lt low v.revision && nat_le v.revision high) ≡ true) = and_parts (has_no_maker v.maker) (nat_lt low v.revision && nat_le v.revision high) e in
    let q : (nat_lt low v.revision ≡ true) × (nat_le v.revision high ≡ true) = and_parts (nat_lt low v.revision) (nat_le v.revision high) p.1 in
    (p.0, (lt_true low v.revision q.0, le_true v.revision high q.1))

pub is_unmade_by : (low high : ℕ) (v : Version) → has_no_maker v.maker ≡ true → low < v.revision → v.revision ≤ high → is_unmade low high v ≡ true
is_unmade_by low high v m l u = rw (m, true_lt low v.revision l, true_le v.revision high u) refl

-- the first in front of the others
put_same : (map : Map) (key other : ObjectKey) (entry : Option Version) → key ≡ other → put_at map key entry other ≡ entry
put_same map key other entry e = rw (key_is other key (sym e)) refl

put_other : (map : Map) (key other : ObjectKey) (entry : Option Version) → (key ≡ other → ⊥) → put_at map key entry other ≡ map other
put_other map key other entry n = rw (key_differs other key (λ e. n (sym e))) refl

pub puts_after : (ws : List Version) (objects : Map) (key : ObjectKey) (high : ℕ) → AllPairs (λ v w. v.revision < w.revision) ws → All (λ v. v.revision ≤ high) ws
    → after_all objects (map Put ws) key ≡ or_else (latest ws key high) (objects key)
puts_after [] objects key high rising upto = refl
puts_after (v ∷ ws) objects key high rising upto =
    puts_after ws (after objects (Put v)) key high (pairs_tail (λ a b. a.revision < b.revision) v ws rising) (all_from (λ w. w.revision ≤ high) ws (λ w c. all_at (λ z. z.revision ≤ high) (v ∷ ws) w upto (there v w ws c)))
    ∙ go (key_tells v.key key) (latest ws key high) (latest_is ws key high)
  where
    below : nat_le v.revision high ≡ true
    below = true_le v.revision high (all_at (λ z. z.revision ≤ high) (v ∷ ws) v upto (here v ws))

    go : ((same_key v.key key ≡ true) × (v.key ≡ key)) ⊎ ((same_key v.key key ≡ false) × (v.key ≢ key)) → (rest : Option Version) → IsLatest ws key high rest
        → or_else rest (put_at objects v.key (Some v) key) ≡ or_else (newer (cond (same_key v.key key && nat_le v.revision high) (Some v) None) rest) (objects key)
    go (inl t) None is = rw (t.0, below) (put_same objects v.key key (Some v) t.1)
    go (inl t) (Some u) is = rw (t.0, below, true_lt v.revision u.revision (all_at (λ z. v.revision < z.revision) ws u (pairs_head (λ a b. a.revision < b.revision) v ws rising) is.0)) refl
    go (inr t) None is = rw t.0 (put_other objects v.key key (Some v) t.1)
    go (inr t) (Some u) is = rw t.0 refl

pub unmade_after : (h : History) (objects : Map) (low high : ℕ) (key : ObjectKey) → IsReadable h
    → after_all objects (unmade_puts h low high) key ≡ or_else (latest (unmade h low high) key high) (objects key)
unmade_after h objects low high key r = puts_after (unmade h low high) objects key high
    (AllPairs-filter (λ v w. v.revision < w.revision) (is_unmade low high) h.versions r.versions.rising)
    (all_from (λ v. v.revision ≤ high) (unmade h low high) (λ v c. (unmade_parts low high v (in_filter (is_unmade low high) h.versions v c).1).1.1))

pub after_append : (xs ys : List Step) (objects : Map) → after_all objects (xs ++ ys) ≡ after_all (after_all objects xs) ys
after_append [] ys objects = refl
after_append (x ∷ xs) ys objects = after_append xs ys (after objects x)

pub end_append : (start : ℕ) (xs ys : List Step) → end_of_steps start (xs ++ ys) ≡ end_of_steps (end_of_steps start xs) ys
end_append start [] ys = refl
end_append start (x ∷ xs) ys = end_append (step_place x) xs ys

-- what a machine shows up to a place is what its steps left, and behind them the versions without a maker
pub shown_upto : (h : History) (machine : Machine) (done : List Step) (place : ℕ) (key : ObjectKey) → HasMade h machine done
    → objects_upto h machine place key ≡ after_all (snapshot_map h) (done ++ unmade_puts h (end_of_steps h.start done) place) key
shown_upto h machine done place key made =
    ap (or_else (latest (unmade h machine.place place) key place)) (made.objects key)
    ∙ sym (unmade_after h (after_all (snapshot_map h) done) machine.place place key made.readable)
    ∙ ap (λ z. after_all (after_all (snapshot_map h) done) (unmade_puts h z place) key) made.place
    ∙ ap (λ (m : Map). m key) (sym (after_append done (unmade_puts h (end_of_steps h.start done) place) (snapshot_map h)))

-- none lie between a place and itself
none_between : (low : ℕ) (versions : List Version) → filter (is_unmade low low) versions ≡ []
none_between low [] = refl
none_between low (v ∷ vs) = go (is_unmade low low v) refl (none_between low vs)
  where
    go : (t : Bool) → is_unmade low low v ≡ t → filter (is_unmade low low) vs ≡ [] → filter (is_unmade low low) (v ∷ vs) ≡ []
    go true e rest = let p = unmade_parts low low v e in absurd (omega (arith, p.1.0, p.1.1))
    go false e rest = rw e rest

pub shown_here : (h : History) (machine : Machine) (done : List Step) (key : ObjectKey) → HasMade h machine done
    → objects_upto h machine machine.place key ≡ after_all (snapshot_map h) done key
shown_here h machine done key made =
    ap (λ vs. or_else (latest vs key machine.place) (objects_of h machine key)) (none_between machine.place h.versions)
    ∙ made.objects key

-- the versions up to a place aren't behind it
pub not_unmade : (low high : ℕ) (v : Version) → v.revision ≤ low → is_unmade low high v ≡ false
not_unmade low high v l = go (is_unmade low high v) refl
  where
    go : (t : Bool) → is_unmade low high v ≡ t → is_unmade low high v ≡ false
    go true e = absurd (omega (arith, l, (unmade_parts low high v e).1.0))
    go false e = e

pub above_unmade : (low high : ℕ) (v : Version) → high < v.revision → is_unmade low high v ≡ false
above_unmade low high v l = go (is_unmade low high v) refl
  where
    go : (t : Bool) → is_unmade low high v ≡ t → is_unmade low high v ≡ false
    go true e = absurd (omega (arith, l, (unmade_parts low high v e).1.1))
    go false e = e
