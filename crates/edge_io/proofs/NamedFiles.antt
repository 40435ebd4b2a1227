-- What a read of one file leaves of the names of all files.
use Rattle.std.proofs.Common.{◌≡◌, ◌≢◌, ℕ, ◌+◌, ◌<◌, suc, zero, List, [], ◌∷◌, length, get_or, Some, None, Bool, true, false, refl, sym, ◌∙◌, ap, slice_set, arith}
use Rattle.std.specs.Str.{bytes_eq}
use Rattle.std.specs.List.{position, position_from}
use Rattle.std.proofs.lemmas.Slice.Eq.{bytes_eq-Decides}
use Rattle.std.proofs.lemmas.Iterator.Adapters.{position_from-zero}
use Rattle.std.proofs.lemmas.List.Quantifiers.{position-Some}
use Rattle.std.proofs.lemmas.List.{get_or-set_same, get_or-set_other, length-set}
use Rattle.edge_io.specs.Files.{HeldFile, left_of}

-- a name that differs is not the file's
pub other_name : (a b : List ℕ) → a ≢ b → bytes_eq a b ≡ false
other_name a b differs = go (bytes_eq a b) refl
  where
    go : (t : Bool) → bytes_eq a b ≡ t → bytes_eq a b ≡ false
    go true is = absurd (differs ((bytes_eq-Decides a b).0 is))
    go false is = is

-- the first file of a name is the one that counts
pub left_of-first : (files : List HeldFile) (name : List ℕ) (at : ℕ) (d : HeldFile) → at < length files → bytes_eq (get_or files at d).name name ≡ true → ((k : ℕ) → k < at → bytes_eq (get_or files k d).name name ≡ false) → left_of files name ≡ (get_or files at d).left
left_of-first [] name at d within here before = absurd (omega (arith, within))
left_of-first (file ∷ files) name zero d within here before = rw here refl
left_of-first (file ∷ files) name (suc at) d within here before =
    rw (before 0 (omega arith)) (left_of-first files name at d (omega (arith, within)) here (λ k below. before (suc k) (omega (arith, below))))

-- a name that no file has
none_here : (t : Bool) (file : HeldFile) (files : List HeldFile) (name : List ℕ) (from : ℕ) → bytes_eq file.name name ≡ t → position_from (λ file. bytes_eq file.name name) from (file ∷ files) ≡ None → (position_from (λ file. bytes_eq file.name name) (from + 1) files ≡ None → left_of files name ≡ []) → left_of (file ∷ files) name ≡ []
none_here true file files name from is none rest = absurd (let h : Some from ≡ None = rw is at none in cc)
none_here false file files name from is none rest = rw is (rest (rw is at none))

pub left_of-none : (files : List HeldFile) (name : List ℕ) (from : ℕ) → position_from (λ file. bytes_eq file.name name) from files ≡ None → left_of files name ≡ []
left_of-none [] name from none = refl
left_of-none (file ∷ files) name from none = none_here (bytes_eq file.name name) file files name from refl none (left_of-none files name (from + 1))

pub left_of-unnamed : (files : List HeldFile) (name : List ℕ) → position (λ file. bytes_eq file.name name) files ≡ None → left_of files name ≡ []
left_of-unnamed files name none = left_of-none files name 0 (sym (position_from-zero (λ file. bytes_eq file.name name) files) ∙ none)

-- the other names keep what is left of them
pub left_of-set_other : (files : List HeldFile) (name : List ℕ) (at : ℕ) (file d : HeldFile) (other : List ℕ) → other ≢ name → at < length files → (get_or files at d).name ≡ name → file.name ≡ name → left_of (slice_set files at file) other ≡ left_of files other
left_of-set_other [] name at file d other differs within here named = refl
left_of-set_other (f ∷ files) name zero file d other differs within here named =
    let old : bytes_eq f.name other ≡ false = other_name f.name other (λ e. differs (sym e ∙ here)) in
    let new : bytes_eq file.name other ≡ false = other_name file.name other (λ e. differs (sym e ∙ named)) in
    rw (old, new) refl
left_of-set_other (f ∷ files) name (suc at) file d other differs within here named =
    rw (left_of-set_other files name at file d other differs (omega (arith, within)) here named) refl

-- what a read of the file that counts leaves of its name and of the others
pub record IsRead (files : List HeldFile) (name : List ℕ) (at : ℕ) (file d : HeldFile) : Type 0 where
  pub before : left_of files name ≡ (get_or files at d).left
  pub after : left_of (slice_set files at file) name ≡ file.left
  pub others : (other : List ℕ) → other ≢ name → left_of (slice_set files at file) other ≡ left_of files other

pub is_read : (files : List HeldFile) (name : List ℕ) (at : ℕ) (file d : HeldFile) → position (λ f. bytes_eq f.name name) files ≡ Some at → file.name ≡ (get_or files at d).name → IsRead files name at file d
is_read files name at file d found named =
    let first = position-Some (λ f. bytes_eq f.name name) files at d found in
    let here : (get_or files at d).name ≡ name = (bytes_eq-Decides (get_or files at d).name name).0 first.1 in
    let long : length (slice_set files at file) ≡ length files = length-set files at file in
    let same : get_or (slice_set files at file) at d ≡ file = get_or-set_same files at file d first.0 in
    let is_here : bytes_eq file.name name ≡ true = (bytes_eq-Decides file.name name).1 (named ∙ here) in
    record {
      before = left_of-first files name at d first.0 first.1 first.2;
      after = left_of-first (slice_set files at file) name at d (rw long first.0) (rw same is_here) (λ k below. rw (get_or-set_other files at k file d (omega (arith, below))) (first.2 k below)) ∙ ap (λ f. f.left) same;
      others = λ other differs. left_of-set_other files name at file d other differs first.0 here (named ∙ here);
    }
