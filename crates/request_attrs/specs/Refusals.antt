-- The URIs that have no attributes.
use Rattle.std.specs.Prelude.{◌≡◌, ℕ, ◌+◌, ⊤, List, slice_index, slice_get, Some, EachIndex, IsUtf8}
use Rattle.std.specs.Char.{IsAsciiHexdigit}
use Rattle.request_attrs.specs.declared.fault.UriFault.{UriFault}
use Rattle.request_attrs.specs.declared.fault.UriFault.TheVariants.{NoSlash, BadEscape, NotText, OutOfMemory}
use Rattle.percent_encoding.specs.Percent.{percent_decode}
use Rattle.request_attrs.specs.Paths.{raw_path, path_of}

abbrev pub BeginsWithSlash : List ℕ → Type 0
BeginsWithSlash uri = slice_get uri 0 ≡ Some 47

-- two hexadecimal digits follow each `%`
abbrev pub EscapesAreWhole : List ℕ → Type 0
EscapesAreWhole path =
    EachIndex path (λ k. slice_index path k ≡ 37 → IsAsciiHexdigit (slice_index path (k + 1)) × IsAsciiHexdigit (slice_index path (k + 2)))

-- the URI has attributes
pub record IsReadable (uri : List ℕ) : Type 0 where
  pub slash : BeginsWithSlash uri
  pub escapes : EscapesAreWhole (raw_path uri)
  pub utf8 : IsUtf8 (path_of uri)

-- the first of the three that the URI lacks; want of memory says nothing of it
abbrev pub IsCause : List ℕ → UriFault → Type 0
IsCause uri NoSlash = ¬ BeginsWithSlash uri
IsCause uri BadEscape = BeginsWithSlash uri × (¬ EscapesAreWhole (raw_path uri))
IsCause uri NotText = BeginsWithSlash uri × EscapesAreWhole (raw_path uri) × (¬ IsUtf8 (path_of uri))
IsCause uri OutOfMemory = ⊤

-- why a path can't be decoded to a text
abbrev pub IsDecodingCause : List ℕ → UriFault → Type 0
IsDecodingCause path NoSlash = ⊥
IsDecodingCause path BadEscape = ⊥
IsDecodingCause path NotText = ¬ IsUtf8 (percent_decode path)
IsDecodingCause path OutOfMemory = ⊤
