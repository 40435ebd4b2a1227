-- The texts of the reasons for which an event is unexplained or a placement wrong.
use Rattle.std.specs.Prelude.{List, [], ◌∷◌, codes}
use Rattle.code_guide.specs.Texts.{Guide, guide}
use Rattle.code_guide.specs.declared.verdict_codes.TheConstants.{U1, U2, U3, U4, U5, U6, U7, U8, U9, U10, U11, U12, U13, U14, V1, V2}

unfoldable pub verdict_guides : List Guide
verdict_guides =
    guide (codes "U1") U1.now
    ∷ guide (codes "U2") U2.now
    ∷ guide (codes "U3") U3.now
    ∷ guide (codes "U4") U4.now
    ∷ guide (codes "U5") U5.now
    ∷ guide (codes "U6") U6.now
    ∷ guide (codes "U7") U7.now
    ∷ guide (codes "U8") U8.now
    ∷ guide (codes "U9") U9.now
    ∷ guide (codes "U10") U10.now
    ∷ guide (codes "U11") U11.now
    ∷ guide (codes "U12") U12.now
    ∷ guide (codes "U13") U13.now
    ∷ guide (codes "U14") U14.now
    ∷ guide (codes "V1") V1.now
    ∷ guide (codes "V2") V2.now
    ∷ []
