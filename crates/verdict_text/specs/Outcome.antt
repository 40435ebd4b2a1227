-- The text of an outcome: `explained` with its lines, or `unexplained` with its writes.
use Rattle.std.specs.Prelude.{ℕ, List, [], ◌∷◌, ◌++◌, length, codes, decimal}
use Rattle.std.specs.List.{flat_map}
use Rattle.base_types.specs.declared.verdict.claim.Reason.{Reason}
use Rattle.base_types.specs.declared.verdict.placed.PlacedLine.{PlacedLine}
use Rattle.base_types.specs.declared.verdict.placed.WriteLine.{WriteLine}
use Rattle.base_types.specs.declared.verdict.placed.WriteLine.TheVariants.{Made, Removed}
use Rattle.base_types.specs.declared.verdict.placed.Outcome.{Outcome}
use Rattle.base_types.specs.declared.verdict.placed.Outcome.TheVariants.{Explained, Unexplained}
use Rattle.base_types.specs.Escapes.{escaped}
use Rattle.base_types.specs.Reasons.{code_number}
use Rattle.verdict_text.specs.Words.{spaced, ended}
use Rattle.verdict_text.specs.Placed.{placed_text}

-- `explained N`
abbrev pub count_text : ℕ → List ℕ
count_text count = spaced (codes "explained" ∷ decimal count ∷ [])

abbrev pub placed_lines : List PlacedLine → List ℕ
placed_lines lines = flat_map (λ placed. ended (placed_text placed)) lines

-- how many lines follow, and then each of them
abbrev pub explained_text : List PlacedLine → List ℕ
explained_text lines = ended (count_text (length lines)) ++ placed_lines lines

-- U1 to U14
abbrev pub code_text : Reason → List ℕ
code_text reason = codes "U" ++ decimal (code_number reason)

abbrev pub write_text : WriteLine → List ℕ
write_text (Made revision line key) = spaced (codes "made" ∷ decimal revision ∷ decimal line ∷ key ∷ [])
write_text (Removed low high line key) = spaced (codes "removed" ∷ decimal low ∷ decimal high ∷ decimal line ∷ key ∷ [])

abbrev pub writes_text : List WriteLine → List ℕ
writes_text writes = flat_map (λ write. ended (write_text write)) writes

-- the whole text of an outcome
abbrev pub outcome_text : Outcome → List ℕ
outcome_text (Explained lines) = explained_text lines
outcome_text (Unexplained line audit_id reason low high writes) =
    ended (spaced (codes "unexplained" ∷ decimal line ∷ escaped audit_id ∷ code_text reason ∷ decimal low ∷ decimal high ∷ []))
    ++ writes_text writes
