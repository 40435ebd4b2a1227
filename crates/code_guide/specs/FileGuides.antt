-- The texts of the faults of a file that a setup is to be made of.
use Rattle.std.specs.Prelude.{List, [], ◌∷◌, codes}
use Rattle.code_guide.specs.Texts.{Guide, guide}
use Rattle.code_guide.specs.declared.file_codes.TheConstants.{FILE_JSON, FILE_KIND, FILE_PAGES, FILE_UNKNOWN, FILE_VERSION, FILE_TWICE, FILE_REVISION}

unfoldable pub file_guides : List Guide
file_guides =
    guide (codes "json") FILE_JSON.now
    ∷ guide (codes "kind") FILE_KIND.now
    ∷ guide (codes "pages") FILE_PAGES.now
    ∷ guide (codes "unknown") FILE_UNKNOWN.now
    ∷ guide (codes "version") FILE_VERSION.now
    ∷ guide (codes "twice") FILE_TWICE.now
    ∷ guide (codes "revision") FILE_REVISION.now
    ∷ []
