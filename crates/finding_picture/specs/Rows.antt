-- The writes in the window as a table.
use Rattle.std.specs.Prelude.{ℕ, List, [], ◌∷◌, ◌++◌, Option, Some, None, codes, length, take}
use Rattle.std.specs.List.{flat_map}
use Rattle.audit_event.specs.declared.event.Event.{Event}
use Rattle.base_types.specs.declared.verdict.placed.WriteLine.{WriteLine}
use Rattle.base_types.specs.declared.verdict.placed.WriteLine.TheVariants.{Made, Removed}
use Rattle.markup.specs.Limits.{rest_text}
use Rattle.markup.specs.Moments.{moment_text}
use Rattle.markup.specs.Pieces.{fixed, number, told, shown}
use Rattle.finding_picture.specs.Limits.{most_writes}
use Rattle.finding_picture.specs.Looking.{event_on}

-- who wrote, and when it was received and answered
unfoldable pub event_cells : Option Event → List ℕ
event_cells None = shown (fixed (codes "<td>-</td><td>-</td><td>-</td></tr>\n") ∷ [])
event_cells (Some event) =
    shown (fixed (codes "<td>") ∷ told event.user.name ∷ fixed (codes "</td><td>") ∷ [])
    ++ (moment_text event.received
    ++ (shown (fixed (codes "</td><td>") ∷ [])
    ++ (moment_text event.staged
    ++ shown (fixed (codes "</td></tr>\n") ∷ []))))

-- line, object, user and times
unfoldable pub author_text : List Event → ℕ → List ℕ → List ℕ
author_text events line key =
    shown (
    fixed (codes "</td><td>") ∷ number line
    ∷ fixed (codes "</td><td><code>") ∷ told key ∷ fixed (codes "</code></td>") ∷ [])
    ++ event_cells (event_on events line)

unfoldable pub row_text : List Event → WriteLine → List ℕ
row_text events (Made revision line key) =
    shown (fixed (codes "<tr><td>made ") ∷ number revision ∷ fixed (codes " ") ∷ []) ++ author_text events line key
row_text events (Removed low high line key) =
    shown (fixed (codes "<tr><td>removed from ") ∷ number low ∷ fixed (codes " to ") ∷ number high ∷ fixed (codes " ") ∷ []) ++ author_text events line key

-- the first of them as rows, and how many others there are
unfoldable pub rows_text : List Event → List WriteLine → List ℕ
rows_text events writes =
    shown (fixed (codes "<h2>Writes in the window</h2>\n<table>\n<tr><th scope=\"col\">Revision or range</th><th scope=\"col\">Line</th><th scope=\"col\">Object</th><th scope=\"col\">User</th><th scope=\"col\">Received</th><th scope=\"col\">Staged</th></tr>\n") ∷ [])
    ++ (flat_map (row_text events) (take most_writes writes)
    ++ (shown (fixed (codes "</table>\n") ∷ [])
    ++ rest_text most_writes (length writes) (codes "Writes that aren't listed")))
