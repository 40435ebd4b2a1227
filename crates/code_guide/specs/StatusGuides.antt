-- The texts of the exit statuses.
use Rattle.std.specs.Prelude.{List, [], ◌∷◌, codes}
use Rattle.code_guide.specs.Texts.{Guide, guide}
use Rattle.code_guide.specs.declared.statuses.TheConstants.{STATUS_0, STATUS_1, STATUS_2, STATUS_3, STATUS_4, STATUS_5, STATUS_6, STATUS_7, STATUS_8, STATUS_70}

unfoldable pub status_guides : List Guide
status_guides =
    guide (codes "0") STATUS_0.now
    ∷ guide (codes "1") STATUS_1.now
    ∷ guide (codes "2") STATUS_2.now
    ∷ guide (codes "3") STATUS_3.now
    ∷ guide (codes "4") STATUS_4.now
    ∷ guide (codes "5") STATUS_5.now
    ∷ guide (codes "6") STATUS_6.now
    ∷ guide (codes "7") STATUS_7.now
    ∷ guide (codes "8") STATUS_8.now
    ∷ guide (codes "70") STATUS_70.now
    ∷ []
