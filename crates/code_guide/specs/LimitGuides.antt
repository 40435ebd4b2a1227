-- The texts of the limits.
use Rattle.std.specs.Prelude.{List, [], ◌∷◌, codes}
use Rattle.code_guide.specs.Texts.{Guide, guide}
use Rattle.code_guide.specs.declared.limits.TheConstants.{LIMIT_SETUP, LIMIT_LINE, LIMIT_EVENTS, LIMIT_INPUT, LIMIT_FILE, LIMIT_PLACEMENT, LIMIT_POOL}

unfoldable pub limit_guides : List Guide
limit_guides =
    guide (codes "setup") LIMIT_SETUP.now
    ∷ guide (codes "line") LIMIT_LINE.now
    ∷ guide (codes "events") LIMIT_EVENTS.now
    ∷ guide (codes "input") LIMIT_INPUT.now
    ∷ guide (codes "file") LIMIT_FILE.now
    ∷ guide (codes "placement") LIMIT_PLACEMENT.now
    ∷ guide (codes "pool") LIMIT_POOL.now
    ∷ []
