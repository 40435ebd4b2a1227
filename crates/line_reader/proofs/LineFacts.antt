-- Lines, newlines and counts.
use Rattle.std.proofs.Common.{◌≡◌, ◌≢◌, ℕ, suc, ◌+◌, ◌<◌, ◌≤◌, List, [], ◌∷◌, ◌++◌, length, take, drop, slice_index, ◌-◌, Bool, true, false, All, refl, sym, ◌∙◌, ap, arith, append_assoc}
use Rattle.std.proofs.lemmas.Bool.{eqb-true}
use Rattle.std.specs.Prelude.{nat_eq}
use Rattle.std.proofs.Common.{add-one}
use Rattle.std.proofs.Math.Nat.{sub_self}
use Rattle.std.proofs.Math.Seq.{drop-cons, take-add}
use Rattle.std.proofs.lemmas.List.{take-append-drop, drop-drop}
use Rattle.std.proofs.lemmas.List.Elements.{All-append, All-cons}
use Rattle.line_reader.specs.Lines.{newline, whole_lines, rest_of, is_dropped, number_after, numbered, count_behind}
use Rattle.line_reader.specs.Search.{HasNoNewline, Skips, IsLineAt}

pub All-head : {X : Type 0} (P : X → Type 0) (x : X) (xs : List X) → All P (x ∷ xs) → P x
All-head P x xs all = all 0 x (omega arith)

pub All-tail : {X : Type 0} (P : X → Type 0) (x : X) (xs : List X) → All P (x ∷ xs) → All P xs
All-tail P x xs all = λ k d within. all (suc k) d (omega (arith, within))

pub not_newline : (byte : ℕ) → byte ≢ newline → nat_eq byte newline ≡ false
not_newline byte differs = go (nat_eq byte newline) refl
  where
    go : (t : Bool) → nat_eq byte newline ≡ t → nat_eq byte newline ≡ false
    go true is = absurd (differs (eqb-true byte newline is))
    go false is = is

pub whole_lines-line : (line more : List ℕ) → HasNoNewline line → whole_lines (line ++ newline ∷ more) ≡ line ∷ whole_lines more
whole_lines-line [] more none = refl
whole_lines-line (byte ∷ line) more none = rw (not_newline byte (All-head (λ b. b ≢ newline) byte line none), whole_lines-line line more (All-tail (λ b. b ≢ newline) byte line none)) refl

pub rest_of-line : (line more : List ℕ) → HasNoNewline line → rest_of (line ++ newline ∷ more) ≡ rest_of more
rest_of-line [] more none = refl
rest_of-line (byte ∷ line) more none = rw (not_newline byte (All-head (λ b. b ≢ newline) byte line none), whole_lines-line line more (All-tail (λ b. b ≢ newline) byte line none)) (rest_of-line line more (All-tail (λ b. b ≢ newline) byte line none))

pub whole_lines-none : (bytes : List ℕ) → HasNoNewline bytes → whole_lines bytes ≡ []
whole_lines-none [] none = refl
whole_lines-none (byte ∷ bytes) none = rw (not_newline byte (All-head (λ b. b ≢ newline) byte bytes none), whole_lines-none bytes (All-tail (λ b. b ≢ newline) byte bytes none)) refl

pub rest_of-none : (bytes : List ℕ) → HasNoNewline bytes → rest_of bytes ≡ bytes
rest_of-none [] none = refl
rest_of-none (byte ∷ bytes) none = rw (not_newline byte (All-head (λ b. b ≢ newline) byte bytes none), whole_lines-none bytes (All-tail (λ b. b ≢ newline) byte bytes none)) (ap (λ rest. byte ∷ rest) (rest_of-none bytes (All-tail (λ b. b ≢ newline) byte bytes none)))

pub count_behind-append : (number : ℕ) (xs ys : List (List ℕ)) → count_behind number (xs ++ ys) ≡ count_behind (count_behind number xs) ys
count_behind-append number [] ys = refl
count_behind-append number (x ∷ xs) ys = count_behind-append (number_after number) xs ys

-- lines that are all dropped are counted, and nothing more
pub numbered-dropped : (number : ℕ) (xs ys : List (List ℕ)) → All (λ line. is_dropped line ≡ true) xs → numbered number (xs ++ ys) ≡ numbered (count_behind number xs) ys
numbered-dropped number [] ys all = refl
numbered-dropped number (x ∷ xs) ys all = rw (All-head (λ l. is_dropped l ≡ true) x xs all) (numbered-dropped (number_after number) xs ys (All-tail (λ l. is_dropped l ≡ true) x xs all))

-- no bytes are skipped
pub skips_none : (bytes : List ℕ) (number : ℕ) → Skips bytes number 0 number
skips_none bytes number = record { within = omega arith; lines = []; cut = λ more. refl; rest = λ more. refl; dropped = λ k d within. absurd (omega (arith, within)); counted = refl }

-- a line that ends at `end`: the bytes from its start on are the line, a newline and the others
pub line_cut : (bytes : List ℕ) (start end : ℕ) → start ≤ end → end < length bytes → slice_index bytes end ≡ newline → drop start bytes ≡ take (end - start) (drop start bytes) ++ newline ∷ drop (end + 1) bytes
line_cut bytes start end first within is =
    let behind : drop (end - start) (drop start bytes) ≡ drop end bytes = drop-drop (end - start) start bytes ∙ ap (λ n. drop n bytes) (omega (arith, first)) in
    let head : drop end bytes ≡ newline ∷ drop (end + 1) bytes = drop-cons bytes end 0 within ∙ (rw (is, add-one end) refl) in
    sym (take-append-drop (end - start) (drop start bytes)) ∙ ap (λ rest. take (end - start) (drop start bytes) ++ rest) (behind ∙ head)

-- the same with whatever comes behind
line_cut_more : (bytes more : List ℕ) (start end : ℕ) → start ≤ end → end < length bytes → slice_index bytes end ≡ newline → drop start bytes ++ more ≡ take (end - start) (drop start bytes) ++ newline ∷ (drop (end + 1) bytes ++ more)
line_cut_more bytes more start end first within is =
    ap (λ front. front ++ more) (line_cut bytes start end first within is) ∙ append_assoc (take (end - start) (drop start bytes)) (newline ∷ drop (end + 1) bytes) more

-- a dropped line more is skipped
pub skips_more : (bytes : List ℕ) (number start behind end : ℕ) → Skips bytes number start behind → start ≤ end → end < length bytes → slice_index bytes end ≡ newline → HasNoNewline (take (end - start) (drop start bytes)) → is_dropped (take (end - start) (drop start bytes)) ≡ true → Skips bytes number (end + 1) (number_after behind)
skips_more bytes number start behind end s first within is none dropped = record {
  within = omega (arith, within);
  lines = s.lines ++ take (end - start) (drop start bytes) ∷ [];
  cut = λ more. s.cut more
      ∙ ap (λ rest. s.lines ++ whole_lines rest) (line_cut_more bytes more start end first within is)
      ∙ ap (λ lines. s.lines ++ lines) (whole_lines-line (take (end - start) (drop start bytes)) (drop (end + 1) bytes ++ more) none)
      ∙ sym (append_assoc s.lines (take (end - start) (drop start bytes) ∷ []) (whole_lines (drop (end + 1) bytes ++ more)));
  rest = λ more. s.rest more
      ∙ ap (λ rest. rest_of rest) (line_cut_more bytes more start end first within is)
      ∙ rest_of-line (take (end - start) (drop start bytes)) (drop (end + 1) bytes ++ more) none;
  dropped = All-append (λ line. is_dropped line ≡ true) s.lines (take (end - start) (drop start bytes) ∷ []) s.dropped (All-cons (λ line. is_dropped line ≡ true) (take (end - start) (drop start bytes)) [] dropped (λ k d none. absurd (omega (arith, none))));
  counted = ap (λ n. number_after n) s.counted ∙ sym (count_behind-append number s.lines (take (end - start) (drop start bytes) ∷ []));
}

-- no newline from `start` to `from`, and none from there to `end`
pub none_through : (bytes : List ℕ) (start from end : ℕ) → start ≤ from → from ≤ end → HasNoNewline (take (from - start) (drop start bytes)) → HasNoNewline (take (end - from) (drop from bytes)) → HasNoNewline (take (end - start) (drop start bytes))
none_through bytes start from end first last before behind =
    let middle : drop (from - start) (drop start bytes) ≡ drop from bytes = drop-drop (from - start) start bytes ∙ ap (λ n. drop n bytes) (omega (arith, first)) in
    let whole : take (end - start) (drop start bytes) ≡ take (from - start) (drop start bytes) ++ take (end - from) (drop from bytes) =
    ap (λ n. take n (drop start bytes)) (omega (arith, first, last)) ∙ take-add (from - start) (end - from) (drop start bytes) ∙ ap (λ rest. take (from - start) (drop start bytes) ++ take (end - from) rest) middle in
    rw whole (All-append (λ byte. byte ≢ newline) (take (from - start) (drop start bytes)) (take (end - from) (drop from bytes)) before behind)

-- no newline from `start` to `from`, and none behind
pub none_behind : (bytes : List ℕ) (start from : ℕ) → start ≤ from → HasNoNewline (take (from - start) (drop start bytes)) → HasNoNewline (drop from bytes) → HasNoNewline (drop start bytes)
none_behind bytes start from first before behind =
    let middle : drop (from - start) (drop start bytes) ≡ drop from bytes = drop-drop (from - start) start bytes ∙ ap (λ n. drop n bytes) (omega (arith, first)) in
    let whole : drop start bytes ≡ take (from - start) (drop start bytes) ++ drop from bytes =
    sym (take-append-drop (from - start) (drop start bytes)) ∙ ap (λ rest. take (from - start) (drop start bytes) ++ rest) middle in
    rw whole (All-append (λ byte. byte ≢ newline) (take (from - start) (drop start bytes)) (drop from bytes) before behind)

-- no byte lies between a place and itself
pub none_between : (bytes : List ℕ) (start : ℕ) → HasNoNewline (take (start - start) (drop start bytes))
none_between bytes start = rw (sub_self start) (λ k d within. absurd (omega (arith, within)))

pub line_at : (bytes : List ℕ) (start end : ℕ) → start ≤ end → end < length bytes → slice_index bytes end ≡ newline → HasNoNewline (take (end - start) (drop start bytes)) → is_dropped (take (end - start) (drop start bytes)) ≡ false → IsLineAt bytes start (end - start)
line_at bytes start end first within is none kept =
    let ends : start + (end - start) ≡ end = omega (arith, first) in record {
      within = omega (arith, first, within);
      cut = rw ends (line_cut bytes start end first within is);
      line = none;
      kept = kept;
    }
