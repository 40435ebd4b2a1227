-- The texts of the rules that an event of the log can break.
use Rattle.std.specs.Prelude.{List, [], ◌∷◌, codes}
use Rattle.code_guide.specs.Texts.{Guide, guide}
use Rattle.code_guide.specs.declared.log_codes.TheConstants.{M1, M2, M3, M4, M5, M6, M7, M8, M9, M10, M11, M12}

unfoldable pub log_guides : List Guide
log_guides =
    guide (codes "M1") M1.now
    ∷ guide (codes "M2") M2.now
    ∷ guide (codes "M3") M3.now
    ∷ guide (codes "M4") M4.now
    ∷ guide (codes "M5") M5.now
    ∷ guide (codes "M6") M6.now
    ∷ guide (codes "M7") M7.now
    ∷ guide (codes "M8") M8.now
    ∷ guide (codes "M9") M9.now
    ∷ guide (codes "M10") M10.now
    ∷ guide (codes "M11") M11.now
    ∷ guide (codes "M12") M12.now
    ∷ []
