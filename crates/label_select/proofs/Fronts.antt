-- Fronts of bytes of a class, spaces and prefixes.
use Rattle.std.proofs.Common.{◌≡◌, ◌≢◌, ℕ, zero, suc, ◌+◌, ◌-◌, ◌≤◌, Bool, true, false, List, [], ◌∷◌, ◌++◌, length, take, drop, Some, None, refl, sym, ap, ◌∙◌, ◌==◌, ◌&&◌, if◌then◌else◌, bytes_eq, arith, length-append}
use Rattle.std.specs.List.{list_all}
use Rattle.std.proofs.lemmas.Bool.{false_from_ne_true}
use Rattle.std.proofs.lemmas.Bool.Decides.{Decides-eqb}
use Rattle.std.proofs.lemmas.List.{take-append-drop}
use Rattle.std.proofs.lemmas.Slice.Eq.{bytes_eq-Decides}
use Rattle.std.proofs.Math.Seq.{take-append_seam, drop-append_seam}
use Rattle.label_select.specs.Bytes.{is_in_class, front, behind, after}
use Rattle.label_select.specs.Grammar.{spaces}
use Rattle.label_select.specs.Readings.{is_empty}
use Rattle.label_select.specs.declared.bytes.Class.{Class}
use Rattle.label_select.specs.declared.bytes.Class.TheVariants.{Space}

-- the text doesn't begin with a byte of the class
abbrev pub Stops : Class → List ℕ → Type 0
Stops class [] = Unit {0}
Stops class (b ∷ rest) = is_in_class class b ≡ false

pub cut : (class : Class) (text : List ℕ) → text ≡ front class text ++ behind class text
cut class [] = refl
cut class (b ∷ rest) =
    elim (is_in_class class b) as (λ v. b ∷ rest ≡ (if v then b ∷ front class rest else []) ++ (if v then behind class rest else b ∷ rest)) [
      | true ↦ ap (λ l. b ∷ l) (cut class rest)
      | false ↦ refl
    ]

all_step : (class : Class) (b : ℕ) (rest : List ℕ) → list_all (is_in_class class) rest ≡ true → (v : Bool) → is_in_class class b ≡ v → list_all (is_in_class class) (if v then b ∷ rest else []) ≡ true
all_step class b rest all true is = rw is all
all_step class b rest all false is = refl

pub front-all : (class : Class) (text : List ℕ) → list_all (is_in_class class) (front class text) ≡ true
front-all class [] = refl
front-all class (b ∷ rest) = all_step class b (front class rest) (front-all class rest) (is_in_class class b) refl

stops_step : (class : Class) (b : ℕ) (rest behind_rest : List ℕ) → Stops class behind_rest → (v : Bool) → is_in_class class b ≡ v → Stops class (if v then behind_rest else b ∷ rest)
stops_step class b rest behind_rest stops true is = stops
stops_step class b rest behind_rest stops false is = is

pub behind-stops : (class : Class) (text : List ℕ) → Stops class (behind class text)
behind-stops class [] = tt
behind-stops class (b ∷ rest) = stops_step class b rest (behind class rest) (behind-stops class rest) (is_in_class class b) refl

pub behind-stopped : (class : Class) (text : List ℕ) → Stops class text → behind class text ≡ text
behind-stopped class [] stops = refl
behind-stopped class (b ∷ rest) stops = rw stops refl

pub front-stopped : (class : Class) (text : List ℕ) → Stops class text → front class text ≡ []
front-stopped class [] stops = refl
front-stopped class (b ∷ rest) stops = rw stops refl

-- a word of bytes of the class, where something else follows
pub first_passes : (test : ℕ → Bool) (b : ℕ) (word : List ℕ) → list_all test (b ∷ word) ≡ true → test b ≡ true
first_passes test b word all = elim (test b) as (λ v. (v && list_all test word) ≡ true → v ≡ true) [ true ↦ λ e. refl | false ↦ λ e. e ] all

pub others_pass : (test : ℕ → Bool) (b : ℕ) (word : List ℕ) → list_all test (b ∷ word) ≡ true → list_all test word ≡ true
others_pass test b word all = elim (test b) as (λ v. (v && list_all test word) ≡ true → list_all test word ≡ true) [ true ↦ λ e. e | false ↦ λ e. absurd (cc) ] all

pub front-append : (class : Class) (word rest : List ℕ) → list_all (is_in_class class) word ≡ true → Stops class rest → front class (word ++ rest) ≡ word
front-append class [] rest all stops = front-stopped class rest stops
front-append class (b ∷ word) rest all stops =
    rw (first_passes (is_in_class class) b word all) (ap (λ l. b ∷ l) (front-append class word rest (others_pass (is_in_class class) b word all) stops))

pub behind-append : (class : Class) (word rest : List ℕ) → list_all (is_in_class class) word ≡ true → Stops class rest → behind class (word ++ rest) ≡ rest
behind-append class [] rest all stops = behind-stopped class rest stops
behind-append class (b ∷ word) rest all stops =
    rw (first_passes (is_in_class class) b word all) (behind-append class word rest (others_pass (is_in_class class) b word all) stops)

pub behind-spaces : (n : ℕ) (text : List ℕ) → behind Space (spaces n ++ text) ≡ behind Space text
behind-spaces zero text = refl
behind-spaces (suc n) text = behind-spaces n text

space_step : (b : ℕ) (rest : List ℕ) → (n : ℕ) × (rest ≡ spaces n ++ behind Space rest) → (v : Bool) → (b == 32) ≡ v → (n : ℕ) × (b ∷ rest ≡ spaces n ++ (if v then behind Space rest else b ∷ rest))
space_step b rest cut true is =
    let same : b ≡ 32 = (Decides-eqb b 32).0 is in
    (suc cut.0, ap (λ c. c ∷ rest) same ∙ ap (λ l. 32 ∷ l) cut.1)
space_step b rest cut false is = (zero, refl)

pub spaces-cut : (text : List ℕ) → (n : ℕ) × (text ≡ spaces n ++ behind Space text)
spaces-cut [] = (zero, refl)
spaces-cut (b ∷ rest) = space_step b rest (spaces-cut rest) (b == 32) refl

pub after-append : (prefix rest : List ℕ) → after prefix (prefix ++ rest) ≡ Some rest
after-append prefix rest =
    let same : bytes_eq (take (length prefix) (prefix ++ rest)) prefix ≡ true = (bytes_eq-Decides (take (length prefix) (prefix ++ rest)) prefix).1 (take-append_seam prefix rest) in
    rw same (ap Some (drop-append_seam prefix rest))

after_step : (prefix text rest : List ℕ) (v : Bool) → bytes_eq (take (length prefix) text) prefix ≡ v → (if v then Some (drop (length prefix) text) else None) ≡ Some rest → text ≡ prefix ++ rest
after_step prefix text rest true is e =
    let begins : take (length prefix) text ≡ prefix = (bytes_eq-Decides (take (length prefix) text) prefix).0 is in
    let ends : drop (length prefix) text ≡ rest = cc in
    sym (take-append-drop (length prefix) text) ∙ ap (λ l. l ++ drop (length prefix) text) begins ∙ ap (λ l. prefix ++ l) ends
after_step prefix text rest false is e = absurd (cc)

pub after-is : (prefix text rest : List ℕ) → after prefix text ≡ Some rest → text ≡ prefix ++ rest
after-is prefix text rest e = after_step prefix text rest (bytes_eq (take (length prefix) text) prefix) refl e

-- what is left is no longer
pub behind-length : (class : Class) (text : List ℕ) → length (behind class text) ≤ length text
behind-length class text = omega (arith, ap length (cut class text), length-append (front class text) (behind class text))

pub after-length : (prefix text rest : List ℕ) → after prefix text ≡ Some rest → length text ≡ length prefix + length rest
after-length prefix text rest e = ap length (after-is prefix text rest e) ∙ length-append prefix rest

-- the front is what the rest doesn't reach
pub front-take : (class : Class) (text : List ℕ) → take (length text - length (behind class text)) text ≡ front class text
front-take class text =
    let n : length text - length (behind class text) ≡ length (front class text) = omega (arith, ap length (cut class text), length-append (front class text) (behind class text)) in
    ap (λ k. take k text) n ∙ ap (take (length (front class text))) (cut class text) ∙ take-append_seam (front class text) (behind class text)

pub filled_from : (text : List ℕ) → text ≢ [] → is_empty text ≡ false
filled_from [] some = absurd (some refl)
filled_from (b ∷ text) some =
    false_from_ne_true (is_empty (b ∷ text)) (λ e. let none : length (b ∷ text) ≡ 0 = (Decides-eqb (length (b ∷ text)) 0).0 e in absurd (omega arith))
