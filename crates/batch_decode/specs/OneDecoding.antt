-- A line decodes in one way.
use Rattle.std.specs.Prelude.{◌≡◌, ℕ, List}
use Rattle.batch_decode.specs.Batches.{IsDecoded}
use Rattle.batch_decode.specs.declared.decoded.Decoded.{Decoded}

abbrev pub OneDecoding : Type 0
OneDecoding = (bytes : List ℕ) (a b : Decoded) → IsDecoded bytes a → IsDecoded bytes b → a ≡ b
