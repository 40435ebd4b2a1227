-- The placement of an explained log can be written and read, and is verified.
use Rattle.std.proofs.Common.{ℕ, ◌≤◌, List, length, subst, arith}
use Rattle.base_types.specs.Choices.{IsChoice}
use Rattle.base_types.specs.declared.verdict.placed.PlacedLine.{PlacedLine}
use Rattle.context_intake.specs.Contexts.{IsContextOf}
use Rattle.history_model.specs.Checking as checking
use Rattle.history_model.specs.Histories.{History, ranges}
use Rattle.history_model.specs.Outcomes as model
use Rattle.history_model.specs.Placed.{ArePlacedLines, IsPlacedDecision}
use Rattle.history_model.specs.Readable.{IsReadable}
use Rattle.verdict_text.specs.Outcome.{explained_text}
use Rattle.verdict_text.specs.Reading.{IsPlacement}
use Rattle.verdict_text.specs.Words.{IsNumber}
use Rattle.log_context.specs.Histories.{history_of}
use Rattle.log_context.specs.Known.{Known}
use Rattle.context_laws.proofs.PlacedNumbers.{event_at, fits_at, placement_is}
use Rattle.context_laws.proofs.PlacedTexts.{AreShort, explained_short}
use Rattle.context_laws.proofs.ToldNumbers.{told_few, told_lines, told_numbers, told_undecided}
use Rattle.context_laws.specs.Placing.{ExplainedAreRight, longest_text}

-- what the model of history knows of printed placements
abbrev pub PrintedVerified : Type 0
PrintedVerified = (h : History) (choice : List ℕ) (lines : List PlacedLine) → IsReadable h → model.IsLeastOfRuns h choice → ArePlacedLines h choice lines → checking.IsVerified h lines

-- the choice of a run is one place for each removal
chosen : (h : History) (choice : List ℕ) → model.IsLeastOfRuns h choice → IsChoice (ranges h) choice
chosen h choice least = subst (IsChoice (ranges h)) least.chosen least.run.placed.chosen

-- the lines of an explained log can be written and read, and their text isn't too long
module _ (setup log : List ℕ) (known : Known) (is : IsContextOf setup log known) (lines : List PlacedLine) (e : model.IsExplanation (history_of known) lines) where
  short : AreShort (length known.events) lines
  short k placed at =
      let h = history_of known in
      let numbers = told_numbers setup log known is in
      let places = chosen h e.choice e.least in
      let found = event_at h e.choice is.told.readable numbers places lines e.placed k placed at in (
        fits_at h e.choice is.told.readable numbers places lines e.placed k placed at,
        λ behind. subst (λ d. IsPlacedDecision h k found.0 d placed.decision) (told_undecided setup log known is k found.0 found.1 behind) found.2.decision,
      )

  few : IsNumber (length (history_of known).events)
  few =
      let events = told_few setup log known is in
      let all = told_lines setup log known is in
      omega (arith, events, all)

  is_placement : IsPlacement lines
  is_placement = placement_is (history_of known) e.choice is.told.readable (told_numbers setup log known is) (chosen (history_of known) e.choice e.least) lines e.placed few

  short_text : length (explained_text lines) ≤ longest_text
  short_text =
      let text = explained_short (length known.events) lines is_placement.counted short in
      let events = told_few setup log known is in
      let all = told_lines setup log known is in
      let same = e.placed.all in
      omega (arith, text, events, all, same)

pub explained_right : PrintedVerified → ExplainedAreRight
explained_right law setup log known lines context e = record {
  readable = is_placement setup log known context lines e;
  short = short_text setup log known context lines e;
  verified = law (history_of known) e.choice lines context.told.readable e.least e.placed;
}
