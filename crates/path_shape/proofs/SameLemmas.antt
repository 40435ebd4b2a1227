-- Thin forms that are the same, item by item and member by member.
use Rattle.std.proofs.Common.{◌≡◌, ℕ, zero, suc, ◌+◌, ◌<◌, ◌≤◌, ◌⊎◌, inl, inr, Bool, true, false, List, [], ◌∷◌, length, get_or, drop, take, Some, None, refl, sym, ap, subst, ◌∙◌, arith, drop-cons}
use Rattle.std.specs.Prelude.{option_and_then, if◌then◌else◌}
use Rattle.std.specs.Ordering.{nat_cmp, ordering_reverse}
use Rattle.std.specs.declared.cmp.Ordering.TheVariants.{Less}
use Rattle.std.specs.Cmp.Lexicographic.{slice_cmp, nat_list_cmp_total}
use Rattle.std.proofs.lemmas.Bool.{false≢true}
use Rattle.base_types.specs.Meaning.{Meaning, Kids, no_kids, kid, Fields, no_fields, field, kids_of, fields_of, items, members}
use Rattle.base_types.specs.Names.{AreSorted}
use Rattle.base_types.specs.Parts.{lookup}
use Rattle.path_shape.specs.Forms.{says_nothing, has_no_kids, has_no_fields, thin, thin_kids, thin_fields, left_of}
use Rattle.path_shape.specs.declared.sameness.Turn.TheVariants.{Both, First, Second, Differ}
use Rattle.path_shape.specs.Merge.{IsTurn}
use Rattle.path_shape.proofs.FormLemmas.{Entry, silent_step, loud_step, lookup-thin_fields, sorted-drop, lookup_here, lookup_before, left_silent, left_loud, silent_left, loud_left}

abbrev pub SameKids : List Meaning → List Meaning → Type 0
SameKids xs ys = thin_kids (kids_of xs) ≡ thin_kids (kids_of ys)

pub kids_length : (xs ys : List Meaning) → SameKids xs ys → length xs ≡ length ys
kids_length [] [] same = refl
kids_length [] (y ∷ ys) same = absurd (cc)
kids_length (x ∷ xs) [] same = absurd (cc)
kids_length (x ∷ xs) (y ∷ ys) same = let rest : SameKids xs ys = cc in ap suc (kids_length xs ys rest)

pub kids_at : (xs ys : List Meaning) (i : ℕ) (x y : Meaning) → SameKids xs ys → i < length xs → i < length ys → x ≡ get_or xs i x → y ≡ get_or ys i y → thin x ≡ thin y
kids_at [] ys i x y same lt lt' at at' = absurd (omega arith)
kids_at (a ∷ xs) [] i x y same lt lt' at at' = absurd (omega arith)
kids_at (a ∷ xs) (b ∷ ys) zero x y same lt lt' at at' = let heads : thin a ≡ thin b = cc in ap thin at ∙ heads ∙ sym (ap thin at')
kids_at (a ∷ xs) (b ∷ ys) (suc i) x y same lt lt' at at' = let rest : SameKids xs ys = cc in kids_at xs ys i x y rest (omega arith) (omega arith) at at'

pub kids_step : (xs ys : List Meaning) (i : ℕ) (x y : Meaning) → i < length xs → i < length ys → x ≡ get_or xs i x → y ≡ get_or ys i y → thin x ≡ thin y
    → SameKids (take i xs) (take i ys) → SameKids (take (suc i) xs) (take (suc i) ys)
kids_step [] ys i x y lt lt' at at' here so = absurd (omega arith)
kids_step (a ∷ xs) [] i x y lt lt' at at' here so = absurd (omega arith)
kids_step (a ∷ xs) (b ∷ ys) zero x y lt lt' at at' here so = ap (λ t. kid t no_kids) (sym (ap thin at) ∙ here ∙ ap thin at')
kids_step (a ∷ xs) (b ∷ ys) (suc i) x y lt lt' at at' here so =
    let heads : thin a ≡ thin b = cc in
    let rest : SameKids (take i xs) (take i ys) = cc in
    let more = kids_step xs ys i x y (omega arith) (omega arith) at at' here rest in
    λ j. kid (heads j) (more j)

-- the same is left of two lists, or of two objects, just where their thin parts are the same
pub lists_same : (ts us : Kids) → (ts ≡ us → (if has_no_kids ts then None else Some (items ts)) ≡ (if has_no_kids us then None else Some (items us)))
    × ((if has_no_kids ts then None else Some (items ts)) ≡ (if has_no_kids us then None else Some (items us)) → ts ≡ us)
lists_same no_kids no_kids = (λ _. refl, λ _. refl)
lists_same no_kids (kid u us) = (λ e. absurd (cc), λ e. absurd (cc))
lists_same (kid t ts) no_kids = (λ e. absurd (cc), λ e. absurd (cc))
lists_same (kid t ts) (kid u us) = (λ e. ap (λ k. Some (items k)) e, λ e. cc)

pub objects_same : (ms ns : Fields) → (ms ≡ ns → (if has_no_fields ms then None else Some (members ms)) ≡ (if has_no_fields ns then None else Some (members ns)))
    × ((if has_no_fields ms then None else Some (members ms)) ≡ (if has_no_fields ns then None else Some (members ns)) → ms ≡ ns)
objects_same no_fields no_fields = (λ _. refl, λ _. refl)
objects_same no_fields (field k u us) = (λ e. absurd (cc), λ e. absurd (cc))
objects_same (field k t ts) no_fields = (λ e. absurd (cc), λ e. absurd (cc))
objects_same (field k t ts) (field l u us) = (λ e. ap (λ k. Some (members k)) e, λ e. cc)

abbrev pub Agree : List Entry → List Entry → Type 0
Agree xs ys = thin_fields (fields_of xs) ≡ thin_fields (fields_of ys)

-- two lists agree just where what is left of them does
pub record IsMerged (xs ys : List Entry) (i j : ℕ) : Type 0 where
  pub in_first : i ≤ length xs
  pub in_second : j ≤ length ys
  pub forth : Agree xs ys → Agree (drop i xs) (drop j ys)
  pub back : Agree (drop i xs) (drop j ys) → Agree xs ys

pub merged_none : (xs ys : List Entry) → IsMerged xs ys 0 0
merged_none xs ys = record { in_first = omega arith; in_second = omega arith; forth = λ h. h; back = λ h. h }

pub merged_first : (xs ys : List Entry) (i j : ℕ) (x y : Entry) → i < length xs → x ≡ get_or xs i x → IsTurn x y First → IsMerged xs ys i j → IsMerged xs ys (i + 1) j
merged_first xs ys i j x y lt at turn m =
    let step = silent_step xs i x lt at turn.1 in record {
      in_first = omega arith;
      in_second = m.in_second;
      forth = λ h. sym step ∙ m.forth h;
      back = λ h. m.back (step ∙ h);
    }

pub merged_second : (xs ys : List Entry) (i j : ℕ) (x y : Entry) → j < length ys → y ≡ get_or ys j y → IsTurn x y Second → IsMerged xs ys i j → IsMerged xs ys i (j + 1)
merged_second xs ys i j x y lt at turn m =
    let step = silent_step ys j y lt at turn.1 in record {
      in_first = m.in_first;
      in_second = omega arith;
      forth = λ h. m.forth h ∙ step;
      back = λ h. m.back (h ∙ sym step);
    }

pub merged_both : (xs ys : List Entry) (i j : ℕ) (x y : Entry) → i < length xs → j < length ys → x ≡ get_or xs i x → y ≡ get_or ys j y → IsTurn x y Both → IsMerged xs ys i j → IsMerged xs ys (i + 1) (j + 1)
merged_both xs ys i j x y lt lt' at at' turn m = go (says_nothing (thin x.1)) refl
  where
    go : (silent : Bool) → says_nothing (thin x.1) ≡ silent → IsMerged xs ys (i + 1) (j + 1)
    go true s =
        let s' = silent_left y.1 (sym turn.1 ∙ left_silent x.1 s) in
        let one = silent_step xs i x lt at s in
        let two = silent_step ys j y lt' at' s' in record {
          in_first = omega arith;
          in_second = omega arith;
          forth = λ h. sym one ∙ m.forth h ∙ two;
          back = λ h. m.back (one ∙ h ∙ sym two);
        }
    go false s =
        let s' = loud_left y.1 (thin x.1) (sym turn.1 ∙ left_loud x.1 s) in
        let one = loud_step xs i x lt at s in
        let two = loud_step ys j y lt' at' s'.0 in record {
          in_first = omega arith;
          in_second = omega arith;
          forth = λ h. let e = sym one ∙ m.forth h ∙ two in cc;
          back = λ h. m.back (one ∙ (λ k. field (turn.0 k) (sym s'.1 k) (h k)) ∙ sym two);
        }

-- lists that agree have the same left of the members of each name
agree_lookup : (xs ys : List Entry) (name : List ℕ) → AreSorted xs → AreSorted ys → Agree xs ys
    → option_and_then left_of (lookup name (fields_of xs)) ≡ option_and_then left_of (lookup name (fields_of ys))
agree_lookup xs ys name s s' agree = sym (lookup-thin_fields name xs s) ∙ ap (lookup name) agree ∙ lookup-thin_fields name ys s'

heads_differ : (x y : Entry) (xs ys : List Entry) → AreSorted (x ∷ xs) → AreSorted (y ∷ ys) → IsTurn x y Differ → Agree (x ∷ xs) (y ∷ ys) → ⊥
heads_differ x y xs ys s s' (inl t) agree =
    let found = agree_lookup (x ∷ xs) (y ∷ ys) x.0 s s' agree in
    let here = ap (option_and_then left_of) (lookup_here x xs) in
    let there : lookup x.0 (fields_of (y ∷ ys)) ≡ Some y.1 = subst (λ n. lookup n (fields_of (y ∷ ys)) ≡ Some y.1) (sym t.0) (lookup_here y ys) in
    t.1 (sym here ∙ found ∙ ap (option_and_then left_of) there)
heads_differ x y xs ys s s' (inr (inl t)) agree =
    let found = agree_lookup (x ∷ xs) (y ∷ ys) x.0 s s' agree in
    let here = ap (option_and_then left_of) (lookup_here x xs) in
    let none = ap (option_and_then left_of) (lookup_before x.0 y ys s' t.0) in
    let gone : Some (thin x.1) ≡ None = sym (left_loud x.1 t.1) ∙ sym here ∙ found ∙ none in
    cc
heads_differ x y xs ys s s' (inr (inr t)) agree =
    let found = agree_lookup (x ∷ xs) (y ∷ ys) y.0 s s' agree in
    let less : slice_cmp nat_cmp y.0 x.0 ≡ Less = nat_list_cmp_total.antisymm y.0 x.0 ∙ ap ordering_reverse t.0 in
    let here = ap (option_and_then left_of) (lookup_here y ys) in
    let none = ap (option_and_then left_of) (lookup_before y.0 x xs s less) in
    let gone : Some (thin y.1) ≡ None = sym (left_loud y.1 t.1) ∙ sym here ∙ sym found ∙ none in
    cc

pub merged_differ : (xs ys : List Entry) (i j : ℕ) (x y : Entry) → AreSorted xs → AreSorted ys → i < length xs → j < length ys → x ≡ get_or xs i x → y ≡ get_or ys j y → IsTurn x y Differ
    → IsMerged xs ys i j → Agree xs ys → ⊥
merged_differ xs ys i j x y s s' lt lt' at at' turn m agree =
    let cut : drop i xs ≡ x ∷ drop (suc i) xs = rw (drop-cons xs i x) (ap (λ z. z ∷ drop (suc i) xs) (sym at)) in
    let cut' : drop j ys ≡ y ∷ drop (suc j) ys = rw (drop-cons ys j y) (ap (λ z. z ∷ drop (suc j) ys) (sym at')) in
    heads_differ x y (drop (suc i) xs) (drop (suc j) ys) (subst AreSorted cut (sorted-drop xs i s)) (subst AreSorted cut' (sorted-drop ys j s')) turn
    (sym (ap (λ l. thin_fields (fields_of l)) cut) ∙ m.forth agree ∙ ap (λ l. thin_fields (fields_of l)) cut')

no_more : (ms : Fields) → has_no_fields ms ≡ true → ms ≡ no_fields
no_more no_fields h = refl
no_more (field k t ms) h = absurd (false≢true h)

pub merged_end : (xs ys : List Entry) (i j : ℕ) → IsMerged xs ys i j → has_no_fields (thin_fields (fields_of (drop i xs))) ≡ true → has_no_fields (thin_fields (fields_of (drop j ys))) ≡ true → Agree xs ys
merged_end xs ys i j m none none' = m.back (no_more _ none ∙ sym (no_more _ none'))

rest_gone : (ms : List Entry) (i : ℕ) → length ms ≤ i → thin_fields (fields_of (drop i ms)) ≡ no_fields
rest_gone [] zero le = refl
rest_gone [] (suc i) le = refl
rest_gone (m ∷ ms) zero le = absurd (omega arith)
rest_gone (m ∷ ms) (suc i) le = rest_gone ms i (omega arith)

-- one list is at its end: lists that agree have nothing left
pub merged_left : (xs ys : List Entry) (i j : ℕ) → IsMerged xs ys i j → (length xs ≤ i) ⊎ (length ys ≤ j) → Agree xs ys
    → (has_no_fields (thin_fields (fields_of (drop i xs))) ≡ true) × (has_no_fields (thin_fields (fields_of (drop j ys))) ≡ true)
merged_left xs ys i j m (inl past) agree =
    let none = rest_gone xs i past in (ap has_no_fields none, ap has_no_fields (sym (m.forth agree) ∙ none))
merged_left xs ys i j m (inr past) agree =
    let none = rest_gone ys j past in (ap has_no_fields (m.forth agree ∙ none), ap has_no_fields none)
