-- The lines of events are placed one after the other.
use Rattle.std.proofs.Common.{◌≡◌, ℕ, zero, suc, ◌+◌, ◌<◌, ◌⊎◌, inl, inr, List, [], ◌∷◌, ◌++◌, length, get_or, Option, Some, None, slice_get, All, AllPairs, IsSome, refl, sym, ap, ◌∙◌, subst, arith}
use Rattle.std.proofs.lemmas.List.{length-append}
use Rattle.std.proofs.lemmas.Option.{same_Some, slice_get-get_or, slice_get_within}
use Rattle.base_types.specs.declared.verdict.placed.PlacedLine.{PlacedLine}
use Rattle.event_claims.specs.Lines.{IsLined}
use Rattle.history_model.proofs.Fits.{same_event}
use Rattle.history_model.proofs.Members.{all_from, in_at}
use Rattle.history_model.proofs.OutcomeLaw.{get_within}
use Rattle.history_model.specs.Events.{Event}
use Rattle.history_model.specs.Histories.{History, IsEvent}
use Rattle.history_model.specs.Local.{IsRightUnder}
use Rattle.history_model.specs.Placed.{ArePlacedLines, IsPlacedLine}
use Rattle.history_model.specs.Readable.{IsReadable}
use Rattle.judge_pool.specs.Lines.{AreLines}
use Rattle.log_context.specs.Histories.{history_of}
use Rattle.log_context.specs.Known.{Known}
use Rattle.window_writes.proofs.TurnShowing.{event_here}
use Rattle.log_verdict.specs.Findings.{ExplainsEach}
use Rattle.log_verdict.specs.Placing.{IsLineFound}

-- the lines of the first n events
pub record ArePlacedUpTo (h : History) (choice : List ℕ) (n : ℕ) (lines : List PlacedLine) : Type 0 where
  pub all : length lines ≡ n
  pub each : (number : ℕ) (event : Event) (line : PlacedLine) → IsEvent h number event → slice_get lines number ≡ Some line → IsPlacedLine h choice number event line

get_pushed : {X : Type 0} (xs : List X) (x : X) (i : ℕ) (y : X) → slice_get (xs ++ x ∷ []) i ≡ Some y → (slice_get xs i ≡ Some y) ⊎ ((i ≡ length xs) × (x ≡ y))
get_pushed [] x zero y e = inr (refl, same_Some x y e)
get_pushed [] x (suc i) y e = absurd (cc e)
get_pushed (z ∷ zs) x zero y e = inl e
get_pushed (z ∷ zs) x (suc i) y e = go (get_pushed zs x i y e)
  where
    go : (slice_get zs i ≡ Some y) ⊎ ((i ≡ length zs) × (x ≡ y)) → (slice_get (z ∷ zs) (suc i) ≡ Some y) ⊎ ((suc i ≡ length (z ∷ zs)) × (x ≡ y))
    go (inl q) = inl q
    go (inr q) = inr (ap suc q.0, q.1)

-- what holds of each two holds of those at two places
pub pairs_at : {X : Type 0} (R : X → X → Type 0) (xs : List X) (i j : ℕ) (x y : X) → AllPairs R xs → i < j → slice_get xs i ≡ Some x → slice_get xs j ≡ Some y → R x y
pairs_at R xs i j x y pairs l a b =
    subst (λ z. R z y) (same_Some (get_or xs i x) x (sym (slice_get-get_or xs i x (slice_get_within xs i x a)) ∙ a))
    (subst (λ z. R (get_or xs i x) z) (same_Some (get_or xs j x) y (sym (slice_get-get_or xs j x (slice_get_within xs j y b)) ∙ b)) (pairs i j x l (slice_get_within xs j y b)))

module _ (h : History) (choice : List ℕ) where
  pub placed_none : ArePlacedUpTo h choice 0 []
  placed_none = record { all = refl; each = λ number event line k at. absurd (cc at) }

  pub placed_more : (n : ℕ) (lines : List PlacedLine) (event : Event) (line : PlacedLine) → IsEvent h n event → IsPlacedLine h choice n event line → ArePlacedUpTo h choice n lines
      → ArePlacedUpTo h choice (n + 1) (lines ++ line ∷ [])
  placed_more n lines event line k placed are = record {
    all = (let l = are.all in omega (arith, l, length-append lines (line ∷ [])));
    each = λ number other found q at. each number other found q (get_pushed lines line number found at);
  }
    where
      each : (number : ℕ) (other : Event) (found : PlacedLine) → IsEvent h number other → (slice_get lines number ≡ Some found) ⊎ ((number ≡ length lines) × (line ≡ found)) → IsPlacedLine h choice number other found
      each number other found q (inl at) = are.each number other found q at
      each number other found q (inr e) =
          subst (IsPlacedLine h choice number other) e.1
          (subst (λ m. IsPlacedLine h choice m other line) (sym last) (subst (λ z. IsPlacedLine h choice n z line) (same_event h n event other k (subst (λ m. IsEvent h m other) last q)) placed))
        where
          last : number ≡ n
          last = e.0 ∙ are.all

  -- the lines so far come before that of the next event
  pub placed_before : IsReadable h → (n : ℕ) (lines : List PlacedLine) (event : Event) (line : PlacedLine) → IsEvent h n event → IsPlacedLine h choice n event line → ArePlacedUpTo h choice n lines
      → All (λ earlier. earlier.line < line.line) lines
  placed_before r n lines event line k placed are = all_from (λ earlier. earlier.line < line.line) lines (λ earlier c. go earlier (in_at lines earlier c))
    where
      go : (earlier : PlacedLine) → (i : ℕ) × (slice_get lines i ≡ Some earlier) → earlier.line < line.line
      go earlier (i, at) = by (get_within h.events i (let l = slice_get_within h.events n event k in omega (arith, l, below)))
        where
          below : i < n
          below = let l = slice_get_within lines i earlier at in omega (arith, l, are.all)

          by : (other : Event) × IsEvent h i other → earlier.line < line.line
          by (other, q) = let l = pairs_at (λ (a b : Event). a.line < b.line) h.events i n other event r.lines below q k in omega (arith, l, (are.each i other earlier q at).of_event, placed.of_event)

  pub placed_all : (n : ℕ) (lines : List PlacedLine) → n ≡ length h.events → ArePlacedUpTo h choice n lines → ArePlacedLines h choice lines
  placed_all n lines whole are = record { all = are.all ∙ whole; each = are.each }

  -- what is found of an event that is right
  pub line_found : (n : ℕ) (event : Event) (found : Option PlacedLine) → IsRightUnder h choice n event → IsLined h choice n event found → IsSome found
  line_found n event None right lined = absurd (lined right)
  line_found n event (Some line) right lined = refl

  pub line_placed : (n : ℕ) (event : Event) (found : Option PlacedLine) (line : PlacedLine) → found ≡ Some line → IsLined h choice n event found → IsPlacedLine h choice n event line
  line_placed n event found line is lined = by.1
    where
      by : IsRightUnder h choice n event × IsPlacedLine h choice n event line
      by = subst (IsLined h choice n event) is lined

-- what was found of the event of this number, in a list that is handed on
pub found_at : (known : Known) (choice : List ℕ) (found given : List (Option PlacedLine)) (n : ℕ) (d : Option PlacedLine) → ExplainsEach known choice
    → AreLines (length known.log) (IsLineFound known choice) found → given ≡ found → n < length given
    → (event : Event) × IsEvent (history_of known) n event × IsLined (history_of known) choice n event (get_or given n d)
found_at known choice found given n d explains are same below =
    let all = are.all in
    let within : n < length found = subst (λ lines. n < length lines) same below in
    let here = event_here known n (omega (arith, within, all)) in
    let at = slice_get-get_or given n d below in
    (here.0, here.1, are.each n (get_or given n d) (subst (λ lines. slice_get lines n ≡ Some (get_or given n d)) same at) here.0 here.1 explains.chosen)
