-- One turn after another has its line, and each write is there.
use Rattle.std.proofs.Common.{◌≡◌, ℕ, ◌+◌, ◌<◌, Bool, true, false, if◌then◌else◌, List, [], ◌∷◌, ◌++◌, length, get_or, take, map, Option, Some, None, IsSome, option_map, slice_get, filter_map, refl, sym, ap, ◌∙◌, subst, true≢false}
use Rattle.std.proofs.lemmas.List.{get_or_default, map-append}
use Rattle.std.proofs.lemmas.Option.{same_Some, slice_get_within}
use Rattle.history_model.specs.Outcomes.{Write}
use Rattle.log_context.specs.Known.{Known}
use Rattle.write_groups.proofs.Lists.{made_one}
use Rattle.window_writes.specs.Turns.{made_write, removed_write, write_of_turn}
use Rattle.window_writes.specs.declared.writes.WriteTurn.{WriteTurn}

-- one turn more has its line
pub lines_more : {X Y Z : Type 0} (f : X → Option Y) (g : Y → Z) (xs : List X) (i : ℕ) (d : X) (z : Z) (lines : List Z) → i < length xs → option_map g (f (get_or xs i d)) ≡ Some z
    → lines ≡ map g (filter_map f (take i xs)) → lines ++ z ∷ [] ≡ map g (filter_map f (take (i + 1) xs))
lines_more {X} {Y} f g xs i d z lines within told so_far = go (f (get_or xs i d)) refl told
  where
    is : get_or xs i d ≡ get_or xs i (get_or xs i d)
    is = get_or_default xs i d (get_or xs i d) within

    go : (o : Option Y) → f (get_or xs i d) ≡ o → option_map g o ≡ Some z → lines ++ z ∷ [] ≡ map g (filter_map f (take (i + 1) xs))
    go None e q = absurd (cc q)
    go (Some y) e q =
        ap (λ l. l ++ z ∷ []) so_far ∙ ap (λ w. map g (filter_map f (take i xs)) ++ w ∷ []) (sym (same_Some (g y) z q))
        ∙ sym (map-append g (filter_map f (take i xs)) (y ∷ [])) ∙ ap (map g) (made_one f xs i (get_or xs i d) y (filter_map f (take i xs)) within is e refl)

some_there : {X Y : Type 0} (g : X → Y) (xs : List X) (i : ℕ) → IsSome (option_map g (slice_get xs i)) → i < length xs
some_there {X} g xs i some = go (slice_get xs i) refl some
  where
    go : (o : Option X) → slice_get xs i ≡ o → IsSome (option_map g o) → i < length xs
    go None e some = absurd (true≢false (sym some))
    go (Some x) e some = slice_get_within xs i x e

module _ (known : Known) (turn : WriteTurn) where
  abbrev by_kind : Bool → Option Write
  by_kind removes = if removes then option_map (removed_write turn) (slice_get known.removals turn.position) else option_map (made_write turn) (slice_get known.versions turn.position)

  pub removal_there : turn.removes ≡ true → IsSome (write_of_turn known turn) → turn.position < length known.removals
  removal_there e some = some_there (removed_write turn) known.removals turn.position (subst (λ b. IsSome (by_kind b)) e some)

  pub version_there : turn.removes ≡ false → IsSome (write_of_turn known turn) → turn.position < length known.versions
  version_there e some = some_there (made_write turn) known.versions turn.position (subst (λ b. IsSome (by_kind b)) e some)
