-- What the index of the resources tells, as one after another is put into it.
use Rattle.std.proofs.Common.{◌≡◌, ℕ, ◌+◌, ◌<◌, List, [], ◌∷◌, length, get_or, drop, slice_get, Bool, true, false, ◌&&◌, cond, Some, None, bytes_eq, refl, sym, ap, ◌∙◌}
use Rattle.std.specs.Prelude.{option_and_then}
use Rattle.std.specs.BTreeMap.{BTreeMap, Updates, get, IsEmpty}
use Rattle.std.specs.Cmp.Lexicographic.{slice_cmp}
use Rattle.std.specs.Map.{lookup}
use Rattle.std.specs.Ordering.{is_eq, nat_cmp}
use Rattle.std.proofs.lemmas.Map.Text.{is_eq-slice_cmp}
use Rattle.std.proofs.lemmas.Option.{slice_get-get_or}
use Rattle.std.proofs.lemmas.Slice.Eq.{bytes_eq-Decides}
use Rattle.setup_file.specs.declared.setup.Tracked.{Tracked}
use Rattle.setup_file.specs.Indexed.{Places, Groups, place_among, place_of, PutsPlace, AreIndexedFrom}
use Rattle.setup_file.specs.Resources.{is_resource, tracked_as}
use Rattle.setup_file.proofs.Seen.{cut}

-- what a map with one more text has at a text
at_text : {X : Type 0} (old new : BTreeMap (List ℕ) X) (key : List ℕ) (value : X) (text : List ℕ) → Updates (slice_cmp nat_cmp) old new key (Some value)
    → get (slice_cmp nat_cmp) new text ≡ cond (bytes_eq key text) (Some value) (get (slice_cmp nat_cmp) old text)
at_text old new key value text updates =
    updates.0 text ∙ ap (λ same. cond same (Some value) (get (slice_cmp nat_cmp) old text)) (is_eq-slice_cmp key text)

pub no_place : (places : Places) (resource : List ℕ) → IsEmpty places → get (slice_cmp nat_cmp) places resource ≡ None
no_place places resource empty = ap (lookup (λ key. is_eq (slice_cmp nat_cmp resource key))) empty

-- the places of one group change at one type
pub place_put : (old new : Groups) (tracked : Tracked) (before after : Places) (place : ℕ)
    → ((resource : List ℕ) → place_among resource (get (slice_cmp nat_cmp) old tracked.group) ≡ get (slice_cmp nat_cmp) before resource)
    → Updates (slice_cmp nat_cmp) old new tracked.group (Some after)
    → Updates (slice_cmp nat_cmp) before after tracked.resource (Some place)
    → PutsPlace old new tracked place
place_put old new tracked before after place was groups places = λ group resource.
    ap (place_among resource) (at_text old new tracked.group after group groups)
    ∙ by group resource (bytes_eq tracked.group group) refl
  where
    by : (group resource : List ℕ) (same : Bool) → bytes_eq tracked.group group ≡ same
        → place_among resource (cond same (Some after) (get (slice_cmp nat_cmp) old group)) ≡ cond (same && bytes_eq tracked.resource resource) (Some place) (place_of old group resource)
    by group resource false is = refl
    by group resource true is =
        at_text before after tracked.resource place resource places
        ∙ ap (cond (bytes_eq tracked.resource resource) (Some place))
        (sym (was resource) ∙ ap (λ g. place_of old g resource) ((bytes_eq-Decides tracked.group group).0 is))

-- one more place from the last
pub indexed_more : (all : List Tracked) (old new : Groups) (tracked : Tracked) (place : ℕ) → place < length all → tracked ≡ get_or all place tracked
    → PutsPlace old new tracked place → AreIndexedFrom (place + 1) old all → AreIndexedFrom place new all
indexed_more all old new tracked place within at puts held = λ group resource.
    ap (option_and_then (slice_get all)) (puts group resource)
    ∙ by group resource (is_resource group resource tracked) refl
    ∙ ap (λ resources. tracked_as resources group resource) (sym (cut all place tracked within at))
  where
    here : slice_get all place ≡ Some tracked
    here = slice_get-get_or all place tracked within ∙ ap Some (sym at)

    by : (group resource : List ℕ) (is : Bool) → is_resource group resource tracked ≡ is
        → option_and_then (slice_get all) (cond is (Some place) (place_of old group resource)) ≡ cond is (Some tracked) (tracked_as (drop (place + 1) all) group resource)
    by group resource true was = here
    by group resource false was = held group resource

-- no place yet
pub none_indexed : (all : List Tracked) (groups : Groups) → IsEmpty groups → AreIndexedFrom (length all) groups all
none_indexed all groups empty = λ group resource.
    ap (λ found. option_and_then (slice_get all) (place_among resource found)) (ap (lookup (λ key. is_eq (slice_cmp nat_cmp group key))) empty)
    ∙ ap (λ resources. tracked_as resources group resource) (sym (drop_all all))
  where
    drop_all : (xs : List Tracked) → drop (length xs) xs ≡ []
    drop_all [] = refl
    drop_all (x ∷ xs) = drop_all xs
