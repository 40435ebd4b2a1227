-- What a search for an item of an array, or for a member of an object, found in chunks.
use Rattle.std.proofs.Common.{◌≡◌, ℕ, ◌<◌, List, length, get_or, set, Option, Some, IfSome, refl, sym, ap, subst, ◌∙◌}
use Rattle.base_types.specs.Edits.{put}
use Rattle.base_types.specs.Meaning.{Meaning, items, members, kids_of, fields_of}
use Rattle.base_types.specs.Names.{AreSorted}
use Rattle.base_types.specs.Pointers.{index_of, child_of}
use Rattle.base_types.specs.Search.{IsNamedAt, IsPlaceFor}
use Rattle.base_types.proofs.Placing.{put_changed}
use Rattle.base_types.proofs.Removing.{sorted_changed}
use Rattle.json_patch.specs.Joined.{joined, IsPlaceIn, number_of}
use Rattle.json_patch.specs.Targets.{with_child}
use Rattle.json_patch.specs.declared.chunks.Place.{Place}
use Rattle.json_patch.proofs.Joins.{number_within, read_at, written_at}
use Rattle.json_patch.proofs.Paths.{item_there, with_item, member_there}

pub found_place : (ps parts : List (List Meaning)) (found : Option Place) (place : Place) → ps ≡ parts → found ≡ Some place → IfSome found (IsPlaceIn ps) → IsPlaceIn parts place
found_place ps parts found place same is here = subst (λ l. IsPlaceIn l place) same (subst (λ o. IfSome o (IsPlaceIn ps)) is here)

pub found_number : (token : List ℕ) (ps parts : List (List Meaning)) (found : Option Place) (place : Place) → ps ≡ parts → found ≡ Some place → IfSome found (λ p. index_of token ≡ Some (number_of ps p))
    → index_of token ≡ Some (number_of parts place)
found_number token ps parts found place same is number =
    subst (λ l. index_of token ≡ Some (number_of l place)) same (subst (λ o. IfSome o (λ p. index_of token ≡ Some (number_of ps p))) is number)

-- the item that is found is the container's child, and what is written there is its new child
pub place_there : (token : List ℕ) (parts : List (List Meaning)) (list : List Meaning) (place : Place) (part : List Meaning) (t : Meaning) → joined parts ≡ list → IsPlaceIn parts place
    → index_of token ≡ Some (number_of parts place) → part ≡ get_or parts place.part part → t ≡ get_or part place.offset t → child_of token (items (kids_of list)) ≡ Some t
place_there token parts list place part t view here number is read =
    let within = subst (λ l. number_of parts place < length l) view (number_within parts place here) in
    item_there token list (number_of parts place) t number within (subst (λ l. t ≡ get_or l (number_of parts place) t) view (read_at parts place part t here is read))

pub place_written : (token : List ℕ) (parts : List (List Meaning)) (list : List Meaning) (place : Place) (part : List Meaning) (u : Meaning) → joined parts ≡ list → IsPlaceIn parts place
    → index_of token ≡ Some (number_of parts place) → part ≡ get_or parts place.part part
    → with_child token u (items (kids_of list)) ≡ items (kids_of (joined (set parts place.part (set part place.offset u))))
place_written token parts list place part u view here number is =
    with_item token list (number_of parts place) u number ∙ ap (λ l. items (kids_of (set l (number_of parts place) u))) (sym view)
    ∙ ap (λ l. items (kids_of l)) (sym (written_at parts place part u here is))

-- the same of a member of an object
pub named_there : (first : List ℕ) (parts : List (List (List ℕ × Meaning))) (list : List (List ℕ × Meaning)) (place : Place) (part : List (List ℕ × Meaning)) (m : List ℕ × Meaning) → joined parts ≡ list → AreSorted (joined parts)
    → IsPlaceIn parts place → IsNamedAt first (joined parts) (number_of parts place) → part ≡ get_or parts place.part part → m ≡ get_or part place.offset m → child_of first (members (fields_of list)) ≡ Some m.1
named_there first parts list place part m view sorted here named is read =
    subst (λ l. child_of first (members (fields_of l)) ≡ Some m.1) view (member_there first (joined parts) (number_of parts place) m sorted named (read_at parts place part m here is read))

pub put_written : (first : List ℕ) (parts : List (List (List ℕ × Meaning))) (list : List (List ℕ × Meaning)) (place : Place) (part : List (List ℕ × Meaning)) (m : List ℕ × Meaning) (u : Meaning) → joined parts ≡ list
    → AreSorted (joined parts) → IsPlaceIn parts place → IsNamedAt first (joined parts) (number_of parts place) → part ≡ get_or parts place.part part → m ≡ get_or part place.offset m
    → fields_of (joined (set parts place.part (set part place.offset (m.0, u)))) ≡ put first u (fields_of list)
put_written first parts list place part m u view sorted here named is read =
    ap fields_of (written_at parts place part (m.0, u) here is) ∙ put_changed first (joined parts) (number_of parts place) m u u sorted named (read_at parts place part m here is read) refl
    ∙ ap (λ l. put first u (fields_of l)) view

pub named_written : (first : List ℕ) (parts : List (List (List ℕ × Meaning))) (list : List (List ℕ × Meaning)) (place : Place) (part : List (List ℕ × Meaning)) (m : List ℕ × Meaning) (u : Meaning) → joined parts ≡ list
    → AreSorted (joined parts) → IsPlaceIn parts place → IsNamedAt first (joined parts) (number_of parts place) → part ≡ get_or parts place.part part → m ≡ get_or part place.offset m
    → members (put first u (fields_of list)) ≡ members (fields_of (joined (set parts place.part (set part place.offset (m.0, u)))))
named_written first parts list place part m u view sorted here named is read = ap members (sym (put_written first parts list place part m u view sorted here named is read))

pub named_sorted : (first : List ℕ) (parts : List (List (List ℕ × Meaning))) (place : Place) (part : List (List ℕ × Meaning)) (m : List ℕ × Meaning) (u : Meaning) → AreSorted (joined parts)
    → IsPlaceIn parts place → IsNamedAt first (joined parts) (number_of parts place) → part ≡ get_or parts place.part part → m ≡ get_or part place.offset m
    → AreSorted (joined (set parts place.part (set part place.offset (m.0, u))))
named_sorted first parts place part m u sorted here named is read =
    subst AreSorted (sym (written_at parts place part (m.0, u) here is)) (sorted_changed first (joined parts) (number_of parts place) m u sorted named (read_at parts place part m here is read))

-- what a search of the lent chunks found, of the chunks themselves
pub found_named : (name first : List ℕ) (ps parts : List (List (List ℕ × Meaning))) (place : Place) → ps ≡ parts → name ≡ first → IsNamedAt name (joined ps) (number_of ps place) → IsNamedAt first (joined parts) (number_of parts place)
found_named name first ps parts place same is named = subst (λ l. IsNamedAt first (joined l) (number_of l place)) same (subst (λ k. IsNamedAt k (joined ps) (number_of ps place)) is named)

pub absent_in : (name first : List ℕ) (ps parts : List (List (List ℕ × Meaning))) (place : Place) → ps ≡ parts → name ≡ first → IsPlaceFor name (joined ps) (number_of ps place) → IsPlaceFor first (joined parts) (number_of parts place)
absent_in name first ps parts place same is absent = subst (λ l. IsPlaceFor first (joined l) (number_of l place)) same (subst (λ k. IsPlaceFor k (joined ps) (number_of ps place)) is absent)

pub found_absent : (name first : List ℕ) (ps parts : List (List (List ℕ × Meaning))) (list : List (List ℕ × Meaning)) (place : Place) → ps ≡ parts → joined parts ≡ list → name ≡ first
    → IsPlaceFor name (joined ps) (number_of ps place) → IsPlaceFor first list (number_of ps place)
found_absent name first ps parts list place same view is absent =
    subst (λ l. IsPlaceFor first l (number_of ps place)) (ap joined same ∙ view) (subst (λ k. IsPlaceFor k (joined ps) (number_of ps place)) is absent)
