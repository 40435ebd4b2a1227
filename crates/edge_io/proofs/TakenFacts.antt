-- What was taken of a name, in front of what is left of it.
use Rattle.std.proofs.Common.{◌≡◌, ℕ, List, [], ◌∷◌, ◌++◌, length, Option, Some, None, refl, sym, ◌∙◌, ap, subst, arith, append_assoc}
use Rattle.std.proofs.lemmas.List.{append-nil}
use Rattle.std.specs.Io.KnownBytes.{Consumes, Keeps, IsAtEnd}
use Rattle.edge_io.specs.Whole.{HasTaken}

pub taken_nothing : (old : Option (List ℕ)) → HasTaken old old []
taken_nothing old = λ bytes told. (bytes, told, refl)

consumed : (middle now : Option (List ℕ)) (left piece : List ℕ) → middle ≡ Some left → Consumes middle now piece → (behind : List ℕ) × (now ≡ Some behind) × (left ≡ piece ++ behind)
consumed None now left piece told taken = absurd (let no : None ≡ Some left = told in cc)
consumed (Some x) None left piece told taken = absurd taken
consumed (Some x) (Some y) left piece told taken = (y, refl, (let same : x ≡ left = cc in sym same ∙ taken))

kept : (middle now : Option (List ℕ)) (left : List ℕ) → middle ≡ Some left → Keeps middle now → now ≡ Some left
kept None now left told keeps = absurd (let no : None ≡ Some left = told in cc)
kept (Some x) None left told keeps = absurd keeps
kept (Some x) (Some y) left told keeps = ap Some keeps ∙ told

-- a read took this piece
pub taken_piece : (old now : Option (List ℕ)) (piece : List ℕ) → Consumes old now piece → HasTaken old now piece
taken_piece old now piece taken = λ bytes told. consumed old now bytes piece told taken

-- a read failed
pub taken_kept : (old now : Option (List ℕ)) → Keeps old now → HasTaken old now []
taken_kept old now keeps = λ bytes told. (bytes, kept old now bytes told keeps, refl)

pub taken_then : (old middle now : Option (List ℕ)) (front piece : List ℕ) → HasTaken old middle front → HasTaken middle now piece → HasTaken old now (front ++ piece)
taken_then old middle now front piece first second = λ bytes told.
    let before = first bytes told in
    let after = second before.0 before.1 in
    (after.0, after.1, before.2 ∙ ap (λ left. front ++ left) after.2 ∙ sym (append_assoc front piece after.0))

at_end : (now : Option (List ℕ)) (left : List ℕ) → now ≡ Some left → IsAtEnd now → left ≡ []
at_end None left told end = absurd (let no : None ≡ Some left = told in cc)
at_end (Some x) left told end = let same : x ≡ left = cc in sym same ∙ end

-- all that was told was taken
pub taken_all : (old now : Option (List ℕ)) (front bytes : List ℕ) → HasTaken old now front → old ≡ Some bytes → IsAtEnd now → bytes ≡ front
taken_all old now front bytes h told end =
    let before = h bytes told in
    before.2 ∙ ap (λ left. front ++ left) (at_end now before.0 before.1 end) ∙ append-nil front

pub taken_as : (old now : Option (List ℕ)) (a b : List ℕ) → a ≡ b → HasTaken old now a → HasTaken old now b
taken_as old now a b is h = subst (λ l. HasTaken old now l) is h

pub nothing_is : {X : Type 0} (piece : List X) → length piece ≡ 0 → piece ≡ []
nothing_is [] none = refl
nothing_is (byte ∷ piece) none = absurd (omega (arith, none))
