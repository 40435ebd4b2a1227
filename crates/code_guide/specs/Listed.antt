-- The lists of guides that the program has.
use Rattle.std.specs.Prelude.{ℕ, Bool, List, bytes_eq}
use Rattle.code_guide.specs.declared.guide.Guide.{Guide as AnyGuide}
use Rattle.code_guide.specs.Texts.{Guide, guide}

abbrev pub is_named : List ℕ → AnyGuide → Bool
is_named name given = bytes_eq name given.name.now

abbrev pub guide_of : AnyGuide → Guide
guide_of given = guide given.name.now given.text.now
