use Rattle.std.proofs.Common.{◌≡◌, ◌<◌, ◌-◌, length, get_or, List, ℕ, inl, inr, ap, ◌∙◌, arith}
use Rattle.std.specs.Prelude.{All}
use Rattle.std.proofs.lemmas.Bool.{cases_lt, ltb-true, lt-ltb}
use Rattle.std.proofs.lemmas.List.{get_or_default}
use Rattle.base_types.specs.declared.verdict.placed.PlacedLine.{PlacedLine}
use Rattle.base_types.specs.Placements.{RisesByLine}
use Rattle.verdict_text.proofs.reading.rises_to.Goals as goal

-- what is above the last line is above all
above_all : (lines : List PlacedLine) (last : PlacedLine) (number : ℕ) → RisesByLine lines → 0 < length lines → last ≡ get_or lines (length lines - 1) last
    → last.line < number → All (λ earlier. earlier.line < number) lines
above_all lines last number rising some at above = λ k d within.
    let line_at : last.line ≡ (get_or lines (length lines - 1) last).line = ap (λ (p : PlacedLine). p.line) at in
    elim (cases_lt k (length lines - 1)) [
      | inl before ↦
          let pair = rising k (length lines - 1) d before (omega arith) in
          let same = get_or_default lines (length lines - 1) d last (omega arith) in
          let pair_line : (get_or lines (length lines - 1) d).line ≡ (get_or lines (length lines - 1) last).line = ap (λ (p : PlacedLine). p.line) same in
          omega (arith, pair, line_at, pair_line)
      | inr not_before ↦
          let here : k ≡ length lines - 1 = omega arith in
          let same = get_or_default lines k d last within in
          let here_line : (get_or lines k d).line ≡ (get_or lines (length lines - 1) last).line = ap (λ (p : PlacedLine). p.line) (same ∙ ap (λ n. get_or lines n last) here) in
          omega (arith, line_at, here_line)
    ]

-- and the other way round
above_last : (lines : List PlacedLine) (last : PlacedLine) (number : ℕ) → 0 < length lines → last ≡ get_or lines (length lines - 1) last
    → All (λ earlier. earlier.line < number) lines → last.line < number
above_last lines last number some at all =
    let line_at : last.line ≡ (get_or lines (length lines - 1) last).line = ap (λ (p : PlacedLine). p.line) at in
    let below = all (length lines - 1) last (omega arith) in
    omega (arith, line_at, below)

pub returns-in-Some : goal.returns-in-Some
returns-in-Some c =
    let item = c.in-Some.ensures.item in (
      λ above. above_all c.args.lines.now c.in-Some.before.now c.args.number c.requires item.3.0 item.1 (ltb-true c.in-Some.before.now.line c.args.number above),
      λ all. lt-ltb c.in-Some.before.now.line c.args.number (above_last c.args.lines.now c.in-Some.before.now c.args.number item.3.0 item.1 all),
    )
