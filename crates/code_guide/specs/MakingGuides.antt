-- The texts of the reasons for which no setup can be made.
use Rattle.std.specs.Prelude.{List, [], ◌∷◌, codes}
use Rattle.code_guide.specs.Texts.{Guide, guide}
use Rattle.code_guide.specs.declared.making_codes.TheConstants.{SETUP_TIME, SETUP_POLICY, SETUP_EMPTY, SETUP_RESOURCES}

unfoldable pub making_guides : List Guide
making_guides =
    guide (codes "time") SETUP_TIME.now
    ∷ guide (codes "policy") SETUP_POLICY.now
    ∷ guide (codes "empty") SETUP_EMPTY.now
    ∷ guide (codes "resources") SETUP_RESOURCES.now
    ∷ []
