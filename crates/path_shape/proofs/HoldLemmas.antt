-- What an answer holds of what is asked.
use Rattle.std.proofs.Common.{◌≡◌, ℕ, zero, suc, ◌+◌, ◌<◌, ◌≤◌, Bool, true, false, ◌&&◌, List, [], ◌∷◌, length, get_or, drop, Option, Some, None, refl, sym, ap, subst, ◌∙◌, arith}
use Rattle.std.specs.Prelude.{option_and_then, option_map, if◌then◌else◌, is_some}
use Rattle.std.specs.Borrow.{Bor}
use Rattle.path_shape.proofs.FormLemmas.{silent_step, loud_step}
use Rattle.std.proofs.lemmas.Bool.{false≢true}
use Rattle.base_types.specs.Meaning.{Meaning, null, flag, whole, words, items, members, no_kids, kid, Fields, no_fields, field, kids_of, fields_of}
use Rattle.base_types.specs.Parts.{member_of}
use Rattle.path_shape.specs.Forms.{says_nothing, has_no_fields, thin, thin_kids, thin_fields, left_of, is_held_by, is_held_by_child, are_held_in_turn, are_held_by_name}
use Rattle.path_shape.specs.Holding.{object_or_null}

-- where nothing is answered, nothing that says something is held
pub silent_holds_none : (t u : Meaning) → says_nothing t ≡ false → says_nothing u ≡ true → is_held_by t u ≡ false
silent_holds_none null u loud silent = absurd (false≢true (sym loud))
silent_holds_none (flag b) null loud silent = refl
silent_holds_none (flag b) (flag c) loud silent = absurd (false≢true silent)
silent_holds_none (flag b) (whole c) loud silent = absurd (false≢true silent)
silent_holds_none (flag b) (words c) loud silent = absurd (false≢true silent)
silent_holds_none (flag b) (items c) loud silent = refl
silent_holds_none (flag b) (members c) loud silent = refl
silent_holds_none (whole b) null loud silent = refl
silent_holds_none (whole b) (flag c) loud silent = absurd (false≢true silent)
silent_holds_none (whole b) (whole c) loud silent = absurd (false≢true silent)
silent_holds_none (whole b) (words c) loud silent = absurd (false≢true silent)
silent_holds_none (whole b) (items c) loud silent = refl
silent_holds_none (whole b) (members c) loud silent = refl
silent_holds_none (words b) null loud silent = refl
silent_holds_none (words b) (flag c) loud silent = absurd (false≢true silent)
silent_holds_none (words b) (whole c) loud silent = absurd (false≢true silent)
silent_holds_none (words b) (words c) loud silent = absurd (false≢true silent)
silent_holds_none (words b) (items c) loud silent = refl
silent_holds_none (words b) (members c) loud silent = refl
silent_holds_none (items no_kids) u loud silent = absurd (false≢true (sym loud))
silent_holds_none (items (kid t ts)) null loud silent = refl
silent_holds_none (items (kid t ts)) (flag c) loud silent = refl
silent_holds_none (items (kid t ts)) (whole c) loud silent = refl
silent_holds_none (items (kid t ts)) (words c) loud silent = refl
silent_holds_none (items (kid t ts)) (items no_kids) loud silent = refl
silent_holds_none (items (kid t ts)) (items (kid u us)) loud silent = absurd (false≢true silent)
silent_holds_none (items (kid t ts)) (members c) loud silent = refl
silent_holds_none (members no_fields) u loud silent = absurd (false≢true (sym loud))
silent_holds_none (members (field k t ms)) null loud silent = refl
silent_holds_none (members (field k t ms)) (flag c) loud silent = refl
silent_holds_none (members (field k t ms)) (whole c) loud silent = refl
silent_holds_none (members (field k t ms)) (words c) loud silent = refl
silent_holds_none (members (field k t ms)) (items c) loud silent = refl
silent_holds_none (members (field k t ms)) (members no_fields) loud silent = refl
silent_holds_none (members (field k t ms)) (members (field l u ns)) loud silent = absurd (false≢true silent)

-- what says something is held by a value just where it is held by what is left of it
pub held-left_of : (t u : Meaning) → says_nothing t ≡ false → is_held_by t (thin u) ≡ is_held_by_child t (left_of u)
held-left_of t u loud = go (says_nothing (thin u)) refl
  where
    go : (silent : Bool) → says_nothing (thin u) ≡ silent → is_held_by t (thin u) ≡ is_held_by_child t (if says_nothing (thin u) then None else Some (thin u))
    go true s = rw s (silent_holds_none t (thin u) loud s)
    go false s = rw s refl

pub held-left : (t : Meaning) (o : Option Meaning) → says_nothing t ≡ false → is_held_by_child t (option_map thin o) ≡ is_held_by_child t (option_and_then left_of o)
held-left t None loud = refl
held-left t (Some u) loud = held-left_of t u loud

pub map_now : (o : Option (Bor Meaning)) → option_map (λ v. thin v.now) o ≡ option_map thin (option_map (λ v. v.now) o)
map_now None = refl
map_now (Some v) = refl

pub kids_held_length : (ts us : List Meaning) → are_held_in_turn (thin_kids (kids_of ts)) (thin_kids (kids_of us)) ≡ true → length ts ≡ length us
kids_held_length [] [] held = refl
kids_held_length [] (u ∷ us) held = absurd (false≢true held)
kids_held_length (t ∷ ts) [] held = absurd (false≢true held)
kids_held_length (t ∷ ts) (u ∷ us) held = ap suc (kids_held_length ts us (both (is_held_by (thin t) (thin u)) held))
  where
    both : (first : Bool) → (first && are_held_in_turn (thin_kids (kids_of ts)) (thin_kids (kids_of us))) ≡ true → are_held_in_turn (thin_kids (kids_of ts)) (thin_kids (kids_of us)) ≡ true
    both true h = h
    both false h = absurd (false≢true h)

pub kids_other_length : (ts us : List Meaning) → (length ts ≡ length us → ⊥) → false ≡ are_held_in_turn (thin_kids (kids_of ts)) (thin_kids (kids_of us))
kids_other_length ts us other = go (are_held_in_turn (thin_kids (kids_of ts)) (thin_kids (kids_of us))) refl
  where
    go : (held : Bool) → are_held_in_turn (thin_kids (kids_of ts)) (thin_kids (kids_of us)) ≡ held → false ≡ are_held_in_turn (thin_kids (kids_of ts)) (thin_kids (kids_of us))
    go true h = absurd (other (kids_held_length ts us h))
    go false h = sym h

-- how the members seen so far are held: all of them, and the rest
pub record IsHeldTo (all rest : Fields) (holder : Option Fields) (silent : Bool) : Type 0 where
  pub held : are_held_by_name all (object_or_null holder) ≡ are_held_by_name rest (object_or_null holder)
  pub quiet : silent ≡ true → all ≡ rest
  pub loud : silent ≡ false → (has_no_fields all ≡ false) × (is_some holder ≡ true)

abbrev Entry : Type 0
Entry = List ℕ × Meaning

pub held_none : (all : Fields) (holder : Option Fields) → IsHeldTo all all holder true
held_none all holder = record { held = refl; quiet = λ _. refl; loud = λ e. absurd (false≢true (sym e)) }

pub held_silent : (ms : List Entry) (i : ℕ) (name : List ℕ) (value : Meaning) (m : Entry) (all : Fields) (holder : Option Fields) (silent after : Bool) → i < length ms → m ≡ get_or ms i m → (name, value) ≡ m
    → says_nothing (thin value) ≡ true → after ≡ silent
    → IsHeldTo all (thin_fields (fields_of (drop i ms))) holder silent → IsHeldTo all (thin_fields (fields_of (drop (i + 1) ms))) holder after
held_silent ms i name value m all holder silent after lt at is quiet same h =
    let step = silent_step ms i m lt at (subst (λ (n : Entry). says_nothing (thin n.1) ≡ true) is quiet) in
    rw same (subst (λ rest. IsHeldTo all rest holder silent) step h)

loud_before : (k : List ℕ) (t : Meaning) (all rest : Fields) (holder : Option Fields) (silent : Bool) → IsHeldTo all (field k t rest) holder silent → has_no_fields all ≡ false
loud_before k t all rest holder true h = ap has_no_fields (h.quiet refl)
loud_before k t all rest holder false h = (h.loud refl).0

child_there : (k : List ℕ) (t : Meaning) (holder : Option Fields) → is_held_by_child t (member_of k (object_or_null holder)) ≡ true → is_some holder ≡ true
child_there k t None held = absurd (false≢true held)
child_there k t (Some ms) held = refl

pub held_step : (ms : List Entry) (i : ℕ) (name : List ℕ) (value : Meaning) (m : Entry) (all : Fields) (holder : Option Fields) (silent after : Bool) → i < length ms → m ≡ get_or ms i m → (name, value) ≡ m
    → says_nothing (thin value) ≡ false → is_held_by_child (thin value) (member_of name (object_or_null holder)) ≡ true → after ≡ false
    → IsHeldTo all (thin_fields (fields_of (drop i ms))) holder silent → IsHeldTo all (thin_fields (fields_of (drop (i + 1) ms))) holder after
held_step ms i name value m all holder silent after lt at is loud held now h =
    let step = loud_step ms i m lt at (subst (λ (n : Entry). says_nothing (thin n.1) ≡ false) is loud) in
    let h' = subst (λ rest. IsHeldTo all rest holder silent) step h in
    let held' : is_held_by_child (thin m.1) (member_of m.0 (object_or_null holder)) ≡ true = subst (λ (n : Entry). is_held_by_child (thin n.1) (member_of n.0 (object_or_null holder)) ≡ true) is held in record {
      held = h'.held ∙ rw held' refl;
      quiet = λ e. absurd (false≢true (sym now ∙ e));
      loud = λ _. (loud_before m.0 (thin m.1) all (thin_fields (fields_of (drop (i + 1) ms))) holder silent h', child_there m.0 (thin m.1) holder held');
    }

missing_all : (all : Fields) (holder : Option Fields) → are_held_by_name all (object_or_null holder) ≡ false → is_held_by_child (members all) (option_map members holder) ≡ false
missing_all all None h = refl
missing_all all (Some ms) h = h

pub held_missing : (ms : List Entry) (i : ℕ) (name : List ℕ) (value : Meaning) (m : Entry) (all : Fields) (holder : Option Fields) (silent : Bool) → i < length ms → m ≡ get_or ms i m → (name, value) ≡ m
    → says_nothing (thin value) ≡ false → is_held_by_child (thin value) (member_of name (object_or_null holder)) ≡ false
    → IsHeldTo all (thin_fields (fields_of (drop i ms))) holder silent
    → (has_no_fields all ≡ false) × (is_held_by_child (members all) (option_map members holder) ≡ false)
held_missing ms i name value m all holder silent lt at is loud missing h =
    let step = loud_step ms i m lt at (subst (λ (n : Entry). says_nothing (thin n.1) ≡ false) is loud) in
    let h' = subst (λ rest. IsHeldTo all rest holder silent) step h in
    let missing' : is_held_by_child (thin m.1) (member_of m.0 (object_or_null holder)) ≡ false = subst (λ (n : Entry). is_held_by_child (thin n.1) (member_of n.0 (object_or_null holder)) ≡ false) is missing in
    (loud_before m.0 (thin m.1) all (thin_fields (fields_of (drop (i + 1) ms))) holder silent h', missing_all all holder (h'.held ∙ rw missing' refl))

pub held_end : (all : Fields) (holder : Option Fields) (silent : Bool) → IsHeldTo all no_fields holder silent → silent ≡ false
    → (has_no_fields all ≡ false) × (is_held_by_child (members all) (option_map members holder) ≡ true)
held_end all None silent h loud = absurd (false≢true (h.loud loud).1)
held_end all (Some ms) silent h loud = ((h.loud loud).0, h.held)

pub drop_all : (ms : List Entry) (i : ℕ) → length ms ≤ i → thin_fields (fields_of (drop i ms)) ≡ no_fields
drop_all [] zero le = refl
drop_all [] (suc i) le = refl
drop_all (m ∷ ms) zero le = absurd (omega arith)
drop_all (m ∷ ms) (suc i) le = drop_all ms i (omega arith)
