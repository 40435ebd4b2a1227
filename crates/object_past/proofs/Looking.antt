-- What is looked up by keys and places.
use Rattle.std.proofs.Common.{◌≡◌, ℕ, ◌<◌, ◌≤◌, Bor, option_map, ⊎_elim, Bool, true, false, ◌&&◌, eqb, List, [], ◌∷◌, map, Option, Some, None, slice_get, true≢false, refl, sym, ◌∙◌, subst, ap, arith}
use Rattle.std.specs.List.{All, AllPairs, Contains, find}
use Rattle.std.proofs.lemmas.Bool.{eqb-true}
use Rattle.std.proofs.lemmas.List.Elements.{All-map}
use Rattle.base_types.specs.declared.kubernetes.key.ObjectKey.{ObjectKey}
use Rattle.history_model.proofs.Latest.{latest_is, latest_same}
use Rattle.history_model.proofs.Members.{all_at, apart, at_in, here, in_cons, not_in_none, pairs_cons, pairs_head, pairs_tail, there}
use Rattle.history_model.proofs.WordLemmas.{find_is, found_in, not_found}
use Rattle.history_model.specs.Histories as history
use Rattle.base_types.specs.Keys.{same_key}
use Rattle.history_model.specs.States.{latest}
use Rattle.object_past.specs.Indexed.{AreEntries}
use Rattle.object_past.specs.Modelled.{version_of}
use Rattle.object_past.specs.Past.{AreRising}
use Rattle.object_past.specs.declared.entry.Entry.{Entry}
use Rattle.object_past.specs.declared.version.Version.{Version}
use Rattle.object_past.proofs.Searching.{find_none, has}

pub in_map : {A B : Type 0} (f : A → B) (xs : List A) (x : A) → Contains xs x → Contains (map f xs) (f x)
in_map f [] x among = absurd (not_in_none among)
in_map f (y ∷ ys) x among = ⊎_elim
    (λ is. subst (λ z. Contains (map f (y ∷ ys)) (f z)) is (here (f y) (map f ys)))
    (λ later. there (f y) (f x) (map f ys) (in_map f ys x later))
    (in_cons y ys x among)

pub from_map : {A B : Type 0} (f : A → B) (xs : List A) (b : B) → Contains (map f xs) b → (a : A) × Contains xs a × (f a ≡ b)
from_map f [] b among = absurd (not_in_none among)
from_map f (x ∷ xs) b among = ⊎_elim
    (λ is. (x, here x xs, is))
    (λ later. let found = from_map f xs b later in (found.0, there x found.0 xs found.1, found.2))
    (in_cons (f x) (map f xs) b among)

pub rising_mapped : (versions : List Version) → AreRising versions → AllPairs (λ a b. a.revision < b.revision) (map version_of versions)
rising_mapped [] rising = λ i j d less within. absurd (omega arith)
rising_mapped (v ∷ vs) rising = pairs_cons (λ a b. a.revision < b.revision) (version_of v) (map version_of vs)
    (All-map (λ w. v.revision < w.revision) version_of vs (pairs_head (λ a b. a.revision < b.revision) v vs rising))
    (rising_mapped vs (pairs_tail (λ a b. a.revision < b.revision) v vs rising))

-- the version of a key and a revision, where the version of the revision is known
abbrev pub fits : ObjectKey → ℕ → Version → Bool
fits key revision v = same_key v.key key && eqb v.revision revision

fits_parts : (a b : Bool) → (a && b) ≡ true → (a ≡ true) × (b ≡ true)
fits_parts true b is = (refl, is)
fits_parts false b is = cc

fits_both : (a b : Bool) → a ≡ true → b ≡ true → (a && b) ≡ true
fits_both a b p q = rw (p, q) refl

pub fitting_none : (versions : List Version) (key : ObjectKey) (revision : ℕ) → find (has (λ (v : Version). v.revision) revision) versions ≡ None → find (fits key revision) versions ≡ None
fitting_none versions key revision none = find_none (fits key revision) versions
    (λ v among passes. not_found (has (λ (v : Version). v.revision) revision) versions none v among (fits_parts (same_key v.key key) (eqb v.revision revision) passes).1)

only_one : (versions : List Version) (key : ObjectKey) (revision : ℕ) (v w : Version) → AreRising versions → find (has (λ (v : Version). v.revision) revision) versions ≡ Some v
    → Contains versions w → fits key revision w ≡ true → w ≡ v
only_one versions key revision v w rising found among passes =
    let at = found_in (has (λ (v : Version). v.revision) revision) versions v found in
    apart (λ (x : Version). x.revision) versions w v rising among at.0
    (eqb-true w.revision revision (fits_parts (same_key w.key key) (eqb w.revision revision) passes).1 ∙ sym (eqb-true v.revision revision at.1))

pub fitting_other : (versions : List Version) (key : ObjectKey) (revision : ℕ) (v : Version) → AreRising versions → find (has (λ (v : Version). v.revision) revision) versions ≡ Some v
    → same_key v.key key ≡ false → find (fits key revision) versions ≡ None
fitting_other versions key revision v rising found differs = find_none (fits key revision) versions
    (λ w among passes. true≢false (sym (ap (λ (x : Version). same_key x.key key) (sym (only_one versions key revision v w rising found among passes))
    ∙ (fits_parts (same_key w.key key) (eqb w.revision revision) passes).0) ∙ differs))

pub fitting_found : (versions : List Version) (key : ObjectKey) (revision : ℕ) (v : Version) → AreRising versions → find (has (λ (v : Version). v.revision) revision) versions ≡ Some v
    → same_key v.key key ≡ true → find (fits key revision) versions ≡ Some v
fitting_found versions key revision v rising found same =
    let at = found_in (has (λ (v : Version). v.revision) revision) versions v found in
    find_is (fits key revision) versions v at.0 (fits_both (same_key v.key key) (eqb v.revision revision) same at.1)
    (λ w among passes. only_one versions key revision v w rising found among passes)

-- the entry of each version of the key
entry_for : (versions : List Version) (key : ObjectKey) (entries : List Entry) → AreEntries versions key entries → (w : history.Version) → Contains (map version_of versions) w → w.key ≡ key
    → (entry : Entry) × Contains entries entry × (entry.revision ≡ w.revision)
entry_for versions key entries are w among of_key =
    let v = from_map version_of versions w among in
    let entry = are.full v.0 v.1 (ap (λ (x : history.Version). x.key) v.2 ∙ of_key) in
    (entry.1, (entry.0, entry.2, entry.3), entry.4 ∙ ap (λ (x : history.Version). x.revision) v.2)

pub latest_before : (versions : List Version) (key : ObjectKey) (entries : List Entry) (place : ℕ) → AreRising versions → AreEntries versions key entries → All (λ entry. place < entry.revision) entries
    → latest (map version_of versions) key place ≡ None
latest_before versions key entries place rising are above =
    latest_same (map version_of versions) key place (latest (map version_of versions) key place) None (rising_mapped versions rising) (latest_is (map version_of versions) key place)
    (λ w among of_key.
    let entry = entry_for versions key entries are w among of_key in
    let high : place < entry.0.revision = all_at (λ e. place < e.revision) entries entry.0 above entry.1 in
    let same : entry.0.revision ≡ w.revision = entry.2 in
    omega arith)

pub latest_at : (versions : List Version) (key : ObjectKey) (entries : List Entry) (place : ℕ) (entry : Entry) → AreRising versions → AreEntries versions key entries → Contains entries entry
    → entry.revision ≤ place → All (λ other. other.revision ≤ place → other.revision ≤ entry.revision) entries
    → (v : Version) × (slice_get versions entry.position ≡ Some v) × (latest (map version_of versions) key place ≡ Some (version_of v))
latest_at versions key entries place entry rising are among upto last =
    let sound = are.sound entry among in
    let v : Version = sound.0 in
    let same : v.revision ≡ entry.revision = sound.3 in (
      v,
      sound.1,
      latest_same (map version_of versions) key place (latest (map version_of versions) key place) (Some (version_of v)) (rising_mapped versions rising) (latest_is (map version_of versions) key place) (
        in_map version_of versions v (at_in versions entry.position v sound.1),
        sound.2,
        omega arith,
        λ w there of_key below.
            let other = entry_for versions key entries are w there of_key in
            let is : other.0.revision ≡ w.revision = other.2 in
            let order : other.0.revision ≤ entry.revision = all_at (λ o. o.revision ≤ place → o.revision ≤ entry.revision) entries other.0 last other.1 (omega arith) in
            omega arith,
      ),
    )

-- a version that is lent
pub modelled : (found : Option (Bor Version)) → option_map (λ (v : Bor Version). version_of v.now) found ≡ option_map version_of (option_map (λ (v : Bor Version). v.now) found)
modelled None = refl
modelled (Some v) = refl
