-- What a page is put together of. So its definition tells which parts come from the input: these are escaped.
use Rattle.std.specs.Prelude.{ℕ, List, decimal}
use Rattle.std.specs.List.{flat_map}
use Rattle.markup.specs.Escaping.{escaped}

pub data Piece : Type 0 where
  fixed : List ℕ → Piece  -- markup and words of the program's own
  number : ℕ → Piece  -- in decimal digits
  told : List ℕ → Piece  -- a text of the input, escaped

abbrev pub shown_piece : Piece → List ℕ
shown_piece (Piece.fixed markup) = markup
shown_piece (Piece.number n) = decimal n
shown_piece (Piece.told text) = escaped text

abbrev pub shown : List Piece → List ℕ
shown pieces = flat_map shown_piece pieces
