-- The table of removals: their ranges, and where the placement puts each.
use Rattle.std.specs.Prelude.{ℕ, ◌==◌, List, [], ◌∷◌, ◌++◌, Option, Some, None, codes, flat_map, slice_get, option_and_then, if◌then◌else◌}
use Rattle.base_types.specs.Keys.{key_spelling}
use Rattle.base_types.specs.declared.verdict.placed.PlacedAnswer.{PlacedAnswer}
use Rattle.base_types.specs.declared.verdict.placed.PlacedAnswer.TheVariants.{Made, Removed, At, Nowhere}
use Rattle.base_types.specs.declared.verdict.placed.PlacedLine.{PlacedLine}
use Rattle.log_picture.specs.Limits.{removal_limit, rest_of, spread}
use Rattle.log_picture.specs.Texts.{removals_head}
use Rattle.log_picture.specs.declared.gone.TheConstants.{TABLE_END}
use Rattle.markup.specs.Pieces.{fixed, number, told, shown}
use Rattle.object_past.specs.declared.removal.Removal.{Removal}
use Rattle.write_groups.specs.Lines.{line_at}
use Rattle.write_groups.specs.declared.event.LogEvent.{LogEvent}

abbrev pub removed_at : PlacedAnswer → Option ℕ
removed_at (Made revision) = None
removed_at (Removed place) = Some place
removed_at (At place) = None
removed_at Nowhere = None

-- where a placed line puts the removal of the event of this line
abbrev pub removed_by : ℕ → PlacedLine → Option ℕ
removed_by line placed = if placed.line == line then removed_at placed.answer else None

-- where the placement puts the removal of the event of this number, whose placed line has the same number
abbrev pub place_of : List LogEvent → List PlacedLine → ℕ → Option ℕ
place_of log lines n = option_and_then (removed_by (line_at log n)) (slice_get lines n)

unfoldable pub place_text : Option ℕ → List ℕ
place_text None = codes "not placed"
place_text (Some place) = shown (number place ∷ [])

unfoldable pub removed_text : List LogEvent → Removal → List ℕ
removed_text log removal = shown (
    fixed (codes "<tr><td>") ∷ number (line_at log removal.range.event)
    ∷ fixed (codes "</td><td>") ∷ told (key_spelling removal.key)
    ∷ fixed (codes "</td><td>") ∷ told removal.uid
    ∷ fixed (codes "</td><td>") ∷ number removal.last
    ∷ fixed (codes "</td><td>") ∷ number removal.range.low
    ∷ fixed (codes " to ") ∷ number removal.range.high
    ∷ fixed (codes "</td><td>") ∷ [])

abbrev pub row_end : List ℕ
row_end = codes "</td></tr>\n"

unfoldable pub removal_row : List LogEvent → List PlacedLine → Removal → List ℕ
removal_row log lines removal = removed_text log removal ++ (place_text (place_of log lines removal.range.event) ++ row_end)

-- the table of those that are drawn
unfoldable pub removals_table : List LogEvent → List PlacedLine → List Removal → List ℕ
removals_table log lines removals =
    removals_head ++ flat_map (removal_row log lines) (spread removal_limit removals) ++ TABLE_END.now

-- the same, and how many others there are
unfoldable pub removals_text : List LogEvent → List PlacedLine → List Removal → List ℕ
removals_text log lines removals =
    removals_table log lines removals ++ rest_of removal_limit removals (codes "Removals that aren't listed")
