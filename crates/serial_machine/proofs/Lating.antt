-- The versions without a maker are put, one after another.
use Rattle.std.proofs.Common.{◌≡◌, ℕ, zero, suc, ◌+◌, ◌<◌, ◌≤◌, ◌⊎◌, true, false, List, [], ◌∷◌, ◌++◌, append-nil, length, get_or, take, drop, map, AllPairs, Contains, inl, inr, refl, sym, ap, ◌∙◌, subst, arith}
use Rattle.std.specs.List.{filter}
use Rattle.std.proofs.lemmas.Bool.{leb-true}
use Rattle.base_types.proofs.Upto.{Upto}
use Rattle.std.proofs.lemmas.List.{map-append, take_more, take-append-drop, get_or-take, length-take}
use Rattle.std.proofs.lemmas.List.Elements.{Contains-get_or, filter-append}
use Rattle.history_model.proofs.Members.{here, there, in_cons, all_at, pairs_head, pairs_tail}
use Rattle.history_model.specs.Histories as histories
use Rattle.history_model.specs.Histories.{History}
use Rattle.history_model.specs.Machine.{Step, Put}
use Rattle.object_past.specs.Modelled.{version_of}
use Rattle.object_past.specs.declared.version.Version.{Version}
use Rattle.serial_machine.proofs.Unmade.{not_unmade, above_unmade}
use Rattle.serial_machine.specs.Held.{HasMade, is_unmade, unmade_puts, end_of_steps}
use Rattle.serial_machine.specs.declared.machine.Machine.{Machine}

pub skip_front : (place high : ℕ) (versions : List Version) (n : ℕ) → ((v : Version) → Contains (take n versions) v → v.revision ≤ place)
    → filter (is_unmade place high) (map version_of (drop n versions)) ≡ filter (is_unmade place high) (map version_of versions)
skip_front place high versions zero below = refl
skip_front place high [] (suc n) below = refl
skip_front place high (v ∷ vs) (suc n) below = skip_front place high vs n (λ w c. below w (there v w (take n vs) c))
    ∙ rw (not_unmade place high (version_of v) (below v (here v (take n vs)))) refl

pub kept_behind : (versions : List Version) (n : ℕ) (v : histories.Version) → Contains (map version_of (drop n versions)) v → Contains (map version_of versions) v
kept_behind versions zero v c = c
kept_behind [] (suc n) v c = c
kept_behind (w ∷ ws) (suc n) v c = there (version_of w) v (map version_of ws) (kept_behind ws n v c)

abbrev pub late_in : ℕ → ℕ → List Version → List Step
late_in low high versions = map Put (filter (is_unmade low high) (map version_of versions))

module _ (low high : ℕ) (versions : List Version) (i : ℕ) (v : Version) (within : i < length versions) (is : v ≡ get_or versions i v) where
  so_far : take (i + 1) versions ≡ take i versions ++ v ∷ []
  so_far = take_more versions i v within ∙ ap (λ z. take i versions ++ z ∷ []) (sym is)

  split : late_in low high (take (i + 1) versions) ≡ late_in low high (take i versions) ++ late_in low high (v ∷ [])
  split = ap (late_in low high) so_far ∙ ap (λ l. map Put (filter (is_unmade low high) l)) (map-append version_of (take i versions) (v ∷ []))
      ∙ ap (map Put) (filter-append (is_unmade low high) (map version_of (take i versions)) (map version_of (v ∷ []))) ∙ map-append Put (filter (is_unmade low high) (map version_of (take i versions))) (filter (is_unmade low high) (map version_of (v ∷ [])))

  pub late_more : is_unmade low high (version_of v) ≡ true → late_in low high (take (i + 1) versions) ≡ late_in low high (take i versions) ++ Put (version_of v) ∷ []
  late_more e = split ∙ ap (λ l. late_in low high (take i versions) ++ l) (let one : late_in low high (v ∷ []) ≡ Put (version_of v) ∷ [] = rw e refl in one)

  pub late_skipped : is_unmade low high (version_of v) ≡ false → late_in low high (take (i + 1) versions) ≡ late_in low high (take i versions)
  late_skipped e = split ∙ ap (λ l. late_in low high (take i versions) ++ l) (let none : late_in low high (v ∷ []) ≡ [] = rw e refl in none) ∙ append-nil (late_in low high (take i versions))

  none_above : (vs : List Version) → ((w : Version) → Contains vs w → high < w.revision) → late_in low high vs ≡ []
  none_above [] above = refl
  none_above (w ∷ ws) above = rw (above_unmade low high (version_of w) (above w (here w ws))) (none_above ws (λ x c. above x (there w x ws c)))

  behind : (d : List Version) → drop i versions ≡ v ∷ d → AllPairs (λ a b. a.revision < b.revision) (drop i versions) → high < v.revision → late_in low high (drop i versions) ≡ []
  behind d e rising l = none_above (drop i versions) (λ w c. at w (in_cons v d w (subst (λ l. Contains l w) e c)))
    where
      at : (w : Version) → (v ≡ w) ⊎ Contains d w → high < w.revision
      at w (inl q) = omega (arith, l, ap (λ (z : Version). z.revision) q)
      at w (inr c) = omega (arith, l, all_at (λ (z : Version). v.revision < z.revision) d w (pairs_head (λ a b. a.revision < b.revision) v d (subst (AllPairs (λ (a b : Version). a.revision < b.revision)) e rising)) c)

  -- behind a version above the place there are none
  pub late_stops : (d : List Version) → drop i versions ≡ v ∷ d → AllPairs (λ a b. a.revision < b.revision) (drop i versions) → high < v.revision
      → late_in low high (take i versions) ≡ late_in low high versions
  late_stops d e rising l = sym (append-nil (late_in low high (take i versions))) ∙ ap (λ z. late_in low high (take i versions) ++ z) (sym (behind d e rising l))
      ∙ sym (map-append Put (filter (is_unmade low high) (map version_of (take i versions))) (filter (is_unmade low high) (map version_of (drop i versions))))
      ∙ ap (map Put) (sym (filter-append (is_unmade low high) (map version_of (take i versions)) (map version_of (drop i versions))))
      ∙ ap (λ z. map Put (filter (is_unmade low high) z)) (sym (map-append version_of (take i versions) (drop i versions)))
      ∙ ap (late_in low high) (take-append-drop i versions)

-- those in front of the first that is above the place
pub taken_upto : (place : ℕ) (versions : List Version) (n : ℕ) → Upto (λ (v : Version). v.revision) place versions n → n ≤ length versions → (v : Version) → Contains (take n versions) v → v.revision ≤ place
taken_upto place versions n parts bound v among =
    let front : among.0 < n = (let before = among.1 in omega (arith, length-take n versions)) in
    let low : (get_or versions among.0 v).revision ≤ place = leb-true _ place (parts.0 among.0 v (omega arith) front) in
    let of : (get_or versions among.0 v).revision ≡ v.revision = ap (λ (x : Version). x.revision) (sym (get_or-take n versions among.0 v front) ∙ among.2) in
    omega arith

pub rising_behind : (versions : List Version) (n : ℕ) → AllPairs (λ a b. a.revision < b.revision) versions → AllPairs (λ a b. a.revision < b.revision) (drop n versions)
rising_behind versions zero p = p
rising_behind [] (suc n) p = p
rising_behind (v ∷ vs) (suc n) p = rising_behind vs n (pairs_tail (λ a b. a.revision < b.revision) v vs p)

pub item_in : (versions : List Version) (i : ℕ) (v : Version) → i < length versions → v ≡ get_or versions i v → Contains versions v
item_in versions i v within is = subst (λ w. Contains versions w) (sym is) (Contains-get_or versions i v within)

-- all of them, of the history
pub late_all : (h : History) (machine : Machine) (done : List Step) (upto : ℕ) (behind all known : List Version) → h.versions ≡ map version_of known → all ≡ known
    → ((high : ℕ) → filter (is_unmade machine.place high) (map version_of behind) ≡ filter (is_unmade machine.place high) (map version_of all)) → HasMade h machine done
    → late_in machine.place upto behind ≡ unmade_puts h (end_of_steps h.start done) upto
late_all h machine done upto behind all known past e same made = ap (map Put) (same upto) ∙ ap (λ l. map Put (filter (is_unmade machine.place upto) (map version_of l))) e
    ∙ ap (λ l. map Put (filter (is_unmade machine.place upto) l)) (sym past) ∙ ap (λ z. unmade_puts h z upto) made.place
