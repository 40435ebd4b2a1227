-- The line of a JSON value is read as what the value's own text is: the newline behind it changes nothing.
use Rattle.std.proofs.Common.{◌≡◌, ℕ, ◌≤◌, List, [], ◌∷◌, ◌++◌, Bool, true, false, cond, option_and_then, refl, sym, ap, ap₂, ◌∙◌, append_assoc, append-nil}
use Rattle.json.specs.Json.{value, if_last}
use Rattle.json.specs.Lex.{lex, between, in_word, tokens, punctuate, fresh, token, string_token, Lexeme}
use Rattle.json.specs.Print.{quoted, IsNumber}
use Rattle.json.specs.Token.{Token}
use Rattle.json.specs.Token as sort
use Rattle.json.specs.Tree.{json_tokens, HasNumbers, ItemsHaveNumbers, MembersHaveNumbers}
use Rattle.json.specs.Tree as tree
use Rattle.json.specs.Word.{ends_word, word}
use Rattle.json.proofs.Printed.Numbers.{lex-number, in_word-ended}
use Rattle.json.proofs.Printed.Strings.{content-escape, lex-escape}
use Rattle.json.proofs.Printed.Tokens.{tokens-print}
use Rattle.json.proofs.Printed.Trees.{value-json_tokens, ArePrintable-json_tokens}
use Rattle.serde_json.specs.Data.{Data, null, boolean, number, string, array, object, Items, no_items, item, Members, no_members, member}
use Rattle.serde_json.specs.Read.{read, of_json, max_depth}
use Rattle.serde_json.specs.Written.{outline, items_outline, members_outline, number_text, compact_text, items_text, members_text, comma_if}
use Rattle.serde_json.proofs.Texts.{print-outline}

-- two texts that end a word and are read alike
record Alike (r s : List ℕ) : Type 0 where
  ended_r : ends_word r ≡ true
  ended_s : ends_word s ≡ true
  same : lex between r ≡ lex between s

comma_alike : (later : Bool) (r s : List ℕ) → lex between r ≡ lex between s → lex between (comma_if later ++ r) ≡ lex between (comma_if later ++ s)
unfolding lex
comma_alike true r s same = ap (λ l. Lexeme.comma ∷ l) same
comma_alike false r s same = same

quoted_alike : (text r s : List ℕ) → lex between r ≡ lex between s → lex between (quoted text ++ r) ≡ lex between (quoted text ++ s)
unfolding lex
quoted_alike text r s same = lexed r ∙ ap (λ l. token (sort.string text) ∷ l) same ∙ sym (lexed s)
  where
    lexed : (t : List ℕ) → lex between (quoted text ++ t) ≡ token (sort.string text) ∷ lex between t
    lexed t = rw append_assoc (ap₂ (λ o l. token (string_token o) ∷ l) (content-escape text t) (lex-escape text t))

word_alike : (r s : List ℕ) → Alike r s → lex in_word r ≡ lex in_word s
word_alike r s h = in_word-ended r h.ended_r ∙ h.same ∙ sym (in_word-ended s h.ended_s)

literal_alike : (t : Token) (r s : List ℕ) → Alike r s → token (cond (ends_word r) t sort.bad) ∷ lex in_word r ≡ token (cond (ends_word s) t sort.bad) ∷ lex in_word s
literal_alike t r s h = ap₂ (λ b l. token (cond b t sort.bad) ∷ l) (h.ended_r ∙ sym h.ended_s) (word_alike r s h)

number_alike : (text r s : List ℕ) → IsNumber text → Alike r s → lex between (text ++ r) ≡ lex between (text ++ s)
number_alike text r s is h = lex-number text r is h.ended_r ∙ ap (λ l. token (sort.number text) ∷ l) h.same ∙ sym (lex-number text s is h.ended_s)

items_end : (ds : Items) (r : List ℕ) → ends_word (items_text true ds ++ r) ≡ true
items_end no_items r = refl
items_end (item d ds) r = refl

members_end : (ms : Members) (r : List ℕ) → ends_word (members_text true ms ++ r) ≡ true
members_end no_members r = refl
members_end (member k d ms) r = refl

item_apart : (a b c r : List ℕ) → (a ++ (b ++ c)) ++ r ≡ a ++ (b ++ (c ++ r))
item_apart a b c r = simp append_assoc

member_apart : (a b c d r : List ℕ) → (a ++ (b ++ 58 ∷ (c ++ d))) ++ r ≡ a ++ (b ++ 58 ∷ (c ++ (d ++ r)))
member_apart a b c d r = simp append_assoc

mutual
  unfolding lex word

  value_alike : (d : Data) (r s : List ℕ) → HasNumbers (outline d) → Alike r s → lex between (compact_text d ++ r) ≡ lex between (compact_text d ++ s)
  value_alike null r s numbers h = literal_alike sort.null r s h
  value_alike (boolean true) r s numbers h = literal_alike (sort.boolean true) r s h
  value_alike (boolean false) r s numbers h = literal_alike (sort.boolean false) r s h
  value_alike (number n) r s numbers h = number_alike (number_text n) r s numbers h
  value_alike (string text) r s numbers h = quoted_alike text r s h.same
  value_alike (array ds) r s numbers h = ap (λ l. token sort.begin_array ∷ l) (items_alike false ds r s numbers h.same)
  value_alike (object ms) r s numbers h = ap (λ l. token sort.begin_object ∷ l) (members_alike false ms r s numbers h.same)

  items_alike : (later : Bool) (ds : Items) (r s : List ℕ) → ItemsHaveNumbers (items_outline ds) → lex between r ≡ lex between s → lex between (items_text later ds ++ r) ≡ lex between (items_text later ds ++ s)
  items_alike later no_items r s numbers same = ap (λ l. token sort.end_array ∷ l) same
  items_alike later (item d ds) r s numbers same =
      let rest = items_text true ds in
      let h : Alike (rest ++ r) (rest ++ s) = record { ended_r = items_end ds r; ended_s = items_end ds s; same = items_alike true ds r s numbers.1 same } in
      ap (lex between) (item_apart (comma_if later) (compact_text d) rest r)
      ∙ comma_alike later (compact_text d ++ (rest ++ r)) (compact_text d ++ (rest ++ s)) (value_alike d (rest ++ r) (rest ++ s) numbers.0 h)
      ∙ ap (lex between) (sym (item_apart (comma_if later) (compact_text d) rest s))

  members_alike : (later : Bool) (ms : Members) (r s : List ℕ) → MembersHaveNumbers (members_outline ms) → lex between r ≡ lex between s → lex between (members_text later ms ++ r) ≡ lex between (members_text later ms ++ s)
  members_alike later no_members r s numbers same = ap (λ l. token sort.end_object ∷ l) same
  members_alike later (member k d ms) r s numbers same =
      let rest = members_text true ms in
      let h : Alike (rest ++ r) (rest ++ s) = record { ended_r = members_end ms r; ended_s = members_end ms s; same = members_alike true ms r s numbers.1 same } in
      let inner = ap (λ l. Lexeme.colon ∷ l) (value_alike d (rest ++ r) (rest ++ s) numbers.0 h) in
      ap (lex between) (member_apart (comma_if later) (quoted k) (compact_text d) rest r)
      ∙ comma_alike later _ _ (quoted_alike k (58 ∷ (compact_text d ++ (rest ++ r))) (58 ∷ (compact_text d ++ (rest ++ s))) inner)
      ∙ ap (lex between) (sym (member_apart (comma_if later) (quoted k) (compact_text d) rest s))

newline_alike : Alike (10 ∷ []) []
unfolding lex
newline_alike = record { ended_r = refl; ended_s = refl; same = refl }

-- the tokens of a value's line
tokens_line : (d : Data) → HasNumbers (outline d) → tokens (compact_text d ++ 10 ∷ []) ≡ json_tokens (outline d)
tokens_line d numbers =
    ap (punctuate fresh) (value_alike d (10 ∷ []) [] numbers newline_alike) ∙ ap tokens (append-nil (compact_text d) ∙ sym (print-outline d))
    ∙ tokens-print (json_tokens (outline d)) (ArePrintable-json_tokens (outline d) numbers)

-- what a value's line is read as
pub read_line : (d : Data) → HasNumbers (outline d) → tree.depth (outline d) ≤ max_depth → read (compact_text d ++ 10 ∷ []) ≡ of_json (outline d)
read_line d numbers shallow =
    ap (λ ts. option_and_then of_json (option_and_then (λ p. if_last p.0 p.1) (value max_depth ts))) (tokens_line d numbers ∙ sym (append-nil (json_tokens (outline d))))
    ∙ ap (λ o. option_and_then of_json (option_and_then (λ p. if_last p.0 p.1) o)) (value-json_tokens (outline d) max_depth [] shallow)
