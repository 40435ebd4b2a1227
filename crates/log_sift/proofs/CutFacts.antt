-- The first line of some bytes.
use Rattle.std.proofs.Common.{◌≡◌, ℕ, suc, ◌+◌, ◌-◌, ◌<◌, ◌≤◌, List, [], ◌∷◌, ◌++◌, length, take, drop, slice_index, slice_range, refl, sym, ap, ◌∙◌, arith}
use Rattle.std.proofs.Math.Seq.{drop-length}
use Rattle.std.proofs.lemmas.List.{length-drop, length-take-le, take_rest}
use Rattle.line_reader.specs.Lines.{newline, last_line, lines_of}
use Rattle.line_reader.specs.Search.{HasNoNewline}
use Rattle.line_reader.proofs.LineFacts.{line_cut, rest_of-line, rest_of-none, whole_lines-line, whole_lines-none}
use Rattle.log_sift.specs.Cutting.{BeginsWith, closed, line_texts}

-- a line and its newline at the front
pub begins_closed : (line more : List ℕ) → HasNoNewline line → BeginsWith (line ++ newline ∷ more) line (closed line) more
begins_closed line more none = record {
  lines = rw (whole_lines-line line more none, rest_of-line line more none) refl;
  texts = rw (whole_lines-line line more none, rest_of-line line more none) refl;
}

last_line-some : (bytes : List ℕ) → 0 < length bytes → last_line bytes ≡ bytes ∷ []
last_line-some [] some = absurd (omega (arith, some))
last_line-some (byte ∷ bytes) some = refl

-- a line without a newline
pub begins_open : (bytes : List ℕ) → 0 < length bytes → HasNoNewline bytes → BeginsWith bytes bytes bytes []
begins_open bytes some none = record {
  lines = rw (whole_lines-none bytes none, rest_of-none bytes none, last_line-some bytes some) refl;
  texts = rw (whole_lines-none bytes none, rest_of-none bytes none, last_line-some bytes some) refl;
}

take_closed : (line more : List ℕ) → take (suc (length line)) (line ++ newline ∷ more) ≡ closed line
take_closed [] more = refl
take_closed (byte ∷ line) more = ap (λ rest. byte ∷ rest) (take_closed line more)

-- the line up to a newline
pub cut_closed : (log : List ℕ) (start end : ℕ) → start ≤ end → end < length log → slice_index log end ≡ newline → HasNoNewline (take (end - start) (drop start log))
    → BeginsWith (drop start log) (slice_range log start end) (slice_range log start (end + 1)) (drop (end + 1) log)
cut_closed log start end first within is none =
    let line : List ℕ = take (end - start) (drop start log) in
    let more : List ℕ = drop (end + 1) log in
    let cut : drop start log ≡ line ++ newline ∷ more = line_cut log start end first within is in
    let left = length-drop start log in
    let long : length line ≡ end - start = length-take-le (end - start) (drop start log) (omega (arith, first, within, left)) in
    let count : end + 1 - start ≡ suc (length line) = omega (arith, first, long) in
    let text : slice_range log start (end + 1) ≡ closed line = ap (λ n. take n (drop start log)) count ∙ ap (λ bytes. take (suc (length line)) bytes) cut ∙ take_closed line more in
    let begins = begins_closed line more none in record {
      lines = ap lines_of cut ∙ begins.lines;
      texts = ap line_texts cut ∙ begins.texts ∙ ap (λ first. first ∷ line_texts more) (sym text);
    }

-- the last line, which lacks its newline
pub cut_open : (log : List ℕ) (start : ℕ) → start < length log → HasNoNewline (drop start log)
    → BeginsWith (drop start log) (slice_range log start (length log)) (slice_range log start (length log)) (drop (length log) log)
cut_open log start within none =
    let left = length-drop start log in
    rw (take_rest log start, drop-length log) (begins_open (drop start log) (omega (arith, within, left)) none)
