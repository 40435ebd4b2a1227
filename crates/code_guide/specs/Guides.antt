-- The text of each code.
use Rattle.std.specs.Prelude.{ℕ, List, [], ◌∷◌, ◌++◌, Option, None, bytes_eq, codes, if◌then◌else◌}
use Rattle.code_guide.specs.FileGuides.{file_guides}
use Rattle.code_guide.specs.LimitGuides.{limit_guides}
use Rattle.code_guide.specs.LogGuides.{log_guides}
use Rattle.code_guide.specs.MakingGuides.{making_guides}
use Rattle.code_guide.specs.SetupGuides.{setup_guides}
use Rattle.code_guide.specs.StatusGuides.{status_guides}
use Rattle.code_guide.specs.Texts.{Guide, text_in}
use Rattle.code_guide.specs.VerdictGuides.{verdict_guides}

-- the codes of one word
abbrev pub word_guides : List Guide
word_guides = log_guides ++ setup_guides ++ verdict_guides

-- those of two words, by the first
abbrev pub guides_of : List ℕ → List Guide
guides_of family =
    if bytes_eq family (codes "status") then status_guides
    else if bytes_eq family (codes "limit") then limit_guides
    else if bytes_eq family (codes "setup") then making_guides
    else if bytes_eq family (codes "file") then file_guides
    else []

-- the text of a code, by its words
abbrev pub text_of : List (List ℕ) → Option (List ℕ)
text_of [] = None
text_of (code ∷ []) = text_in word_guides code
text_of (family ∷ code ∷ []) = text_in (guides_of family) code
text_of (family ∷ code ∷ other ∷ others) = None
