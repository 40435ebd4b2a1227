-- Of which resources there are lists, and with which file first something is wrong.
use Rattle.std.proofs.Common.{◌≡◌, ℕ, ◌+◌, ◌-◌, ◌<◌, List, [], ◌∷◌, length, drop, get_or, Bool, true, false, cond, not, ◌&&◌, ◌||◌, Option, Some, None, bytes_eq, codes, if◌then◌else◌, refl, sym, ◌∙◌, ap, subst, arith}
use Rattle.std.specs.Prelude.{is_none, is_some, option_map, slice_get}
use Rattle.std.specs.BTreeSet.{BTreeSet, Updates, contains_by}
use Rattle.std.specs.List.{list_any}
use Rattle.std.specs.Ordering.{is_eq}
use Rattle.std.proofs.lemmas.List.{at_drop_more, drop_all, drop_more, length-drop}
use Rattle.std.proofs.lemmas.Option.{slice_get-get_or}
use Rattle.base_types.specs.Meaning.{Meaning}
use Rattle.base_types.proofs.Found.{same_some}
use Rattle.cluster_setup.specs.declared.fault.FileFault.{FileFault}
use Rattle.cluster_setup.specs.declared.fault.FileFault.TheVariants.{Pages, Twice, Revision}
use Rattle.cluster_setup.specs.declared.fault.SetupRefusal.TheVariants.{File}
use Rattle.cluster_setup.specs.declared.finding.FoundResource.{FoundResource}
use Rattle.cluster_setup.specs.Files.{group_of, is_listing, word}
use Rattle.cluster_setup.specs.Found.{is_listed_again, source_of}
use Rattle.cluster_setup.specs.Indexed.{AreListed, IsFirstWrong, Names, by_names, pair_of, refined, source_found}
use Rattle.cluster_setup.specs.Refusing.{file_fault, first_refused, refused_or}
use Rattle.cluster_setup.proofs.SourceFacts.{same_names, some_source}

pub none_listed : (set : BTreeSet Names) → set.keys ≡ [] → AreListed set []
none_listed set empty = λ list. ap (list_any (λ (names : Names). is_eq (by_names (group_of (word (codes "apiVersion") list)) (word (codes "kind") list) names))) empty

listed_cases : (listing group kind others : Bool) → listing ≡ true → cond (group && kind) true others ≡ ((listing && kind && group) || others)
listed_cases true true true others is = refl
listed_cases true true false others is = refl
listed_cases true false true others is = refl
listed_cases true false false others is = refl
listed_cases false group kind others is = absurd (cc)

-- one list in front of files
pub one_listed : (old new : BTreeSet Names) (names : Names) (tree : Meaning) (later : List Meaning) → is_listing tree ≡ true
    → names.0.now ≡ group_of (word (codes "apiVersion") tree) → names.1.now ≡ word (codes "kind") tree
    → Updates (λ (x y : Names). by_names x.0.now x.1.now y) old new names true → AreListed old later → AreListed new (tree ∷ later)
one_listed old new names tree later listing grouped kinded updates held = λ list.
    let group = group_of (word (codes "apiVersion") list) in
    let kind = word (codes "kind") list in
    let query : Names = (record { ref_ptr = (0, 0); now = group }, record { ref_ptr = (0, 0); now = kind }) in
    updates.0 query
    ∙ ap (λ b. cond b true (contains_by (by_names group kind) old)) (same_names names.0.now names.1.now query)
    ∙ ap (λ g. cond (bytes_eq g group && bytes_eq names.1.now kind) true (contains_by (by_names group kind) old)) grouped
    ∙ ap (λ k. cond (bytes_eq (group_of (word (codes "apiVersion") tree)) group && bytes_eq k kind) true (contains_by (by_names group kind) old)) kinded
    ∙ ap (cond (bytes_eq (group_of (word (codes "apiVersion") tree)) group && bytes_eq (word (codes "kind") tree) kind) true) (held list)
    ∙ listed_cases (is_listing tree) (bytes_eq (group_of (word (codes "apiVersion") tree)) group) (bytes_eq (word (codes "kind") tree) kind) (is_listed_again later list) listing

other_cases : (listing kind group others : Bool) → listing ≡ false → others ≡ ((listing && kind && group) || others)
other_cases true kind group others is = absurd (cc)
other_cases false kind group others is = refl

-- a file that is no list in front of files
pub none_more : (set : BTreeSet Names) (tree : Meaning) (later : List Meaning) → is_listing tree ≡ false → AreListed set later → AreListed set (tree ∷ later)
none_more set tree later other held = λ list.
    held list
    ∙ other_cases (is_listing tree) (bytes_eq (word (codes "kind") tree) (word (codes "kind") list)) (bytes_eq (group_of (word (codes "apiVersion") tree)) (group_of (word (codes "apiVersion") list)))
    (is_listed_again later list) other

no_list : (listing again : Bool) → listing ≡ false → false ≡ (listing && again)
no_list true again is = absurd (cc)
no_list false again is = refl

pub none_again : (tree : Meaning) (later : List Meaning) → is_listing tree ≡ false → false ≡ (is_listing tree && is_listed_again later tree)
none_again tree later other = no_list (is_listing tree) (is_listed_again later tree) other

both_not : (listing added again : Bool) → listing ≡ true → added ≡ not again → not added ≡ (listing && again)
both_not true added true is said = ap not said
both_not true added false is said = ap not said
both_not false added again is said = absurd (cc)

-- a list whose names were there
pub again_told : (old : BTreeSet Names) (names : Names) (added : Bool) (tree : Meaning) (later : List Meaning) → is_listing tree ≡ true
    → names.0.now ≡ group_of (word (codes "apiVersion") tree) → names.1.now ≡ word (codes "kind") tree
    → added ≡ not (contains_by (by_names names.0.now names.1.now) old) → AreListed old later → not added ≡ (is_listing tree && is_listed_again later tree)
again_told old names added tree later listing grouped kinded said held =
    both_not (is_listing tree) added (is_listed_again later tree) listing
    (said ∙ ap (λ g. not (contains_by (by_names g names.1.now) old)) grouped
    ∙ ap (λ k. not (contains_by (by_names (group_of (word (codes "apiVersion") tree)) k) old)) kinded ∙ ap not (held tree))

some_mapped : {A B : Type 0} (f : A → B) (found : Option A) → is_some found ≡ is_some (option_map f found)
some_mapped f None = refl
some_mapped f (Some a) = refl

not_twice : (b c : Bool) → c ≡ not b → b ≡ not c
not_twice true c is = sym (ap not is)
not_twice false c is = sym (ap not is)

-- whether no document has the resource of a list
pub unfound_told : (trees : List Meaning) (list : Meaning) (found : Option FoundResource) (none : Bool) → is_some found ≡ not none
    → option_map pair_of found ≡ source_found trees list → none ≡ is_none (source_of trees list)
unfound_told trees list found none said is =
    not_twice none (is_some found) said ∙ ap not (some_mapped pair_of found ∙ ap (λ o. is_some o) is ∙ some_source trees list)

-- the first cause that is there
abbrev pub cause_of : (more none again start : Bool) → FileFault → Option FileFault
cause_of more none again start unfound =
    if more then Some Pages else (if none then Some unfound else (if again then Some Twice else (if start then None else Some Revision)))

pub by_source : (more none again start : Bool) (unfound : FileFault) → more ≡ false → none ≡ true → Some unfound ≡ cause_of more none again start unfound
by_source false true again start unfound a b = refl
by_source false false again start unfound a b = absurd (cc)
by_source true none again start unfound a b = absurd (cc)

-- nothing is wrong with no files
pub none_wrong : (trees : List Meaning) → IsFirstWrong trees (length trees) None
none_wrong trees = ap (first_refused trees) (drop_all (length trees) trees (omega arith))

in_front : (trees : List Meaning) (at : ℕ) (tree : Meaning) (fault : Option FileFault) → at < length trees → tree ≡ get_or trees at tree
    → fault ≡ file_fault trees (drop (at + 1) trees) tree
    → first_refused trees (drop at trees) ≡ refused_or trees (drop (at + 1) trees) fault (first_refused trees (drop (at + 1) trees))
in_front trees at tree fault within is told =
    at_drop_more (first_refused trees) trees at tree within
    ∙ ap (λ t. first_refused trees (t ∷ drop (at + 1) trees)) (sym is)
    ∙ ap (λ f. refused_or trees (drop (at + 1) trees) f (first_refused trees (drop (at + 1) trees))) (sym told)

-- the number of a file, counted from 1, by how many stand behind it
numbered : (trees : List Meaning) (at : ℕ) → at < length trees → length trees - length (drop (at + 1) trees) ≡ at + 1
numbered trees at within = let behind = length-drop (at + 1) trees in omega (arith, behind, within)

-- something is wrong with the file in front of those that were looked at
pub wrong_here : (trees : List Meaning) (at : ℕ) (tree : Meaning) (code : FileFault) → at < length trees → tree ≡ get_or trees at tree
    → Some (refined trees tree code) ≡ file_fault trees (drop (at + 1) trees) tree → IsFirstWrong trees at (Some (at, code))
wrong_here trees at tree code within is told = (
  within,
  (
    tree,
    slice_get-get_or trees at tree within ∙ ap (λ t. Some t) (sym is),
    in_front trees at tree (Some (refined trees tree code)) within is told ∙ ap (λ n. Some (File n (refined trees tree code))) (numbered trees at within),
  ),
)

-- nothing is wrong with it
pub wrong_later : (trees : List Meaning) (at : ℕ) (tree : Meaning) (found : Option (ℕ × FileFault)) → at < length trees → tree ≡ get_or trees at tree
    → None ≡ file_fault trees (drop (at + 1) trees) tree → IsFirstWrong trees (at + 1) found → IsFirstWrong trees at found
wrong_later trees at tree None within is told first = in_front trees at tree None within is told ∙ first
wrong_later trees at tree (Some found) within is told first = (
  first.0,
  (
    first.1.0,
    first.1.1,
    in_front trees at tree None within is told ∙ first.1.2,
  ),
)

-- a file at a place, in front of those behind it
pub listed_more : (set : BTreeSet Names) (trees : List Meaning) (at : ℕ) (tree : Meaning) → at < length trees → tree ≡ get_or trees at tree
    → AreListed set (tree ∷ drop (at + 1) trees) → AreListed set (drop at trees)
listed_more set trees at tree within is held =
    subst (AreListed set) (ap (λ t. t ∷ drop (at + 1) trees) is ∙ sym (drop_more trees at tree within)) held

-- what is wrong with the file at a place, looked for among all files
pub refused_told : (trees : List Meaning) (at : ℕ) (item tree : Meaning) (code made : FileFault) → at < length trees → item ≡ get_or trees at item
    → made ≡ refined trees item code → slice_get trees at ≡ Some tree → File (at + 1) made ≡ File (at + 1) (refined trees tree code)
refused_told trees at item tree code made within is told there =
    let same : item ≡ tree = same_some item tree (ap (λ t. Some t) is ∙ sym (slice_get-get_or trees at item within) ∙ there) in
    ap (λ f. File (at + 1) f) (told ∙ ap (λ t. refined trees t code) same)
