-- The texts of the rules that a setup can break.
use Rattle.std.specs.Prelude.{List, [], ◌∷◌, codes}
use Rattle.code_guide.specs.Texts.{Guide, guide}
use Rattle.code_guide.specs.declared.setup_codes.TheConstants.{S1, S2, S3, S4, S5, S6, S7, S8, S9, S10, S11, S12, S13, S14, S15}

unfoldable pub setup_guides : List Guide
setup_guides =
    guide (codes "S1") S1.now
    ∷ guide (codes "S2") S2.now
    ∷ guide (codes "S3") S3.now
    ∷ guide (codes "S4") S4.now
    ∷ guide (codes "S5") S5.now
    ∷ guide (codes "S6") S6.now
    ∷ guide (codes "S7") S7.now
    ∷ guide (codes "S8") S8.now
    ∷ guide (codes "S9") S9.now
    ∷ guide (codes "S10") S10.now
    ∷ guide (codes "S11") S11.now
    ∷ guide (codes "S12") S12.now
    ∷ guide (codes "S13") S13.now
    ∷ guide (codes "S14") S14.now
    ∷ guide (codes "S15") S15.now
    ∷ []
