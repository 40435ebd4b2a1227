-- The table of how many events were judged how.
use Rattle.std.specs.Prelude.{◌≡◌, ℕ, Bool, true, false, List, [], ◌∷◌, ◌++◌, Option, Some, None, length, codes, count_by, flat_map, sum_by}
use Rattle.base_types.specs.declared.kubernetes.request.Decision.{Decision}
use Rattle.base_types.specs.declared.kubernetes.request.Decision.TheVariants.{Allow, Forbid}
use Rattle.log_picture.specs.Kinds.{is_of, kind_words, kinds}
use Rattle.log_picture.specs.Texts.{counts_head}
use Rattle.log_picture.specs.declared.kind.AnswerKind.{AnswerKind}
use Rattle.markup.specs.Pieces.{fixed, number, shown}
use Rattle.write_groups.specs.declared.event.LogEvent.{LogEvent}

abbrev pub same_decision : Decision → Decision → Bool
same_decision Allow Allow = true
same_decision Allow Forbid = false
same_decision Forbid Allow = false
same_decision Forbid Forbid = true

abbrev pub is_decided : Decision → Option Decision → Bool
is_decided decision None = false
is_decided decision (Some decided) = same_decision decision decided

-- the event's judged decision is this one
abbrev pub has_decision : Decision → LogEvent → Bool
has_decision decision event = is_decided decision event.decision

unfoldable pub row_text : List ℕ → ℕ → List ℕ
row_text words count = shown (
    fixed (codes "<tr><th scope=\"row\">") ∷ fixed words ∷ fixed (codes "</th><td>") ∷ number count
    ∷ fixed (codes "</td></tr>\n") ∷ [])

-- how many events and checkpoints are of the kind
unfoldable pub kind_row : List LogEvent → AnswerKind → List ℕ
kind_row log kind = row_text (kind_words kind) (count_by (is_of kind) log)

unfoldable pub decisions_text : ℕ → ℕ → List ℕ
decisions_text allowed forbidden = shown (
    fixed (codes "</tbody>\n</table>\n<p>Judged decisions: ") ∷ number allowed ∷ fixed (codes " allow, ") ∷ number forbidden
    ∷ fixed (codes " forbid.</p>\n") ∷ [])

-- all events and checkpoints, and those with a judged decision
unfoldable pub totals_text : List LogEvent → List ℕ
totals_text log =
    row_text (codes "all") (length log)
    ++ decisions_text (count_by (has_decision Allow) log) (count_by (has_decision Forbid) log)

-- a row for each kind, and then for all
unfoldable pub counts_text : List LogEvent → List ℕ
counts_text log = counts_head ++ (flat_map (kind_row log) kinds ++ totals_text log)

-- each event and each checkpoint is in the count of one kind
abbrev pub KindsAddUp : Type 0
KindsAddUp = (log : List LogEvent) → sum_by (λ kind. count_by (is_of kind) log) kinds ≡ length log
