-- What `judge` printed of an explained log is verified.
use Rattle.std.proofs.Common.{◌≡◌, ◌≤◌, List, length, refl, sym, ap, subst, arith}
use Rattle.base_types.specs.declared.verdict.placed.Outcome.TheVariants.{Explained, Unexplained}
use Rattle.base_types.specs.declared.verdict.placed.PlacedLine.{PlacedLine}
use Rattle.context_laws.specs.Placing.{ExplainedAreRight}
use Rattle.history_model.specs.Outcomes as model
use Rattle.log_verdict.specs.Judging.{IsPrinted}
use Rattle.log_verdict.specs.Verifying.{most_placement}
use Rattle.log_verdict.specs.declared.verified.Verified.TheVariants.{Judged}
use Rattle.serial_machine.specs.declared.checked.Checked.TheVariants.{Holds}
use Rattle.verdict_text.specs.Outcome.{explained_text}
use Rattle.log_context.specs.Histories.{history_of}
use Rattle.log_context.specs.Known.{Known}
use Rattle.kubepast.specs.PrintedHolds.{PrintedHolds}

explained : (known : Known) (found : model.Outcome) (lines : List PlacedLine) → model.IsOutcome (history_of known) found → IsPrinted known found (Explained lines) → model.IsOutcome (history_of known) (model.Explained lines)
explained known (model.Explained others) lines is printed =
    let told : Explained lines ≡ Explained others = printed in
    let same : lines ≡ others = cc in
    subst (model.IsExplanation (history_of known)) (sym same) is
explained known (model.Unexplained number reason low high writes) lines is (event, name, known_is, named, told) =
    absurd (let no : Explained lines ≡ Unexplained event.line name reason low high _ = told in cc)

pub printed_holds : ExplainedAreRight → PrintedHolds
printed_holds law files setup log placement lines (known, context, outcome) same =
    let right = law (files setup) (files log) known lines context (explained known outcome.found lines outcome.is outcome.printed) in
    let most = right.short in
    let long : length (files placement) ≡ length (explained_text lines) = ap length same in
    let short : length (files placement) ≤ most_placement = omega (arith, most, long) in
    (Judged Holds, (known, context, (short, (lines, record { lines_are = right.readable; spelled = sym same }, right.verified))), refl)
