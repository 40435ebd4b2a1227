-- The version since which a value stays.
use Rattle.std.proofs.Common.{◌≡◌, ℕ, ◌+◌, ◌<◌, ◌≤◌, Option, Some, None, List, length, AllPairs, Contains, slice_get, unwrap_or, option_map, refl, subst, arith}
use Rattle.std.specs.Option.{option_or}
use Rattle.std.proofs.lemmas.Option.{slice_get_within}
use Rattle.history_model.proofs.Members.{apart, at_in, in_at}
use Rattle.base_types.specs.Meaning.{Meaning}
use Rattle.base_types.specs.declared.kubernetes.key.ObjectKey.{ObjectKey}
use Rattle.object_past.specs.declared.version.Version.{Version}
use Rattle.log_context.specs.Known.{Known}
use Rattle.history_query.proofs.Alike.{AreAlikeFrom, IsAlikeSince, IsAmong, IsFirstAlike, alike_more, alike_none, alike_past, alike_whole}
use Rattle.history_query.specs.Appending.{Appends}
use Rattle.history_query.specs.Blaming.{IsBlame, IsBlameOf, IsSameAt, IsSince, value_pointed}
use Rattle.history_query.specs.Sights.{IsSight}
use Rattle.history_query.specs.declared.sight.ObjectSight.{ObjectSight}

-- another version of the version's key, at or below its revision
abbrev pub IsBefore : Version → Version → Type 0
IsBefore v other = (other.key ≡ v.key) × (other.revision ≤ v.revision)

-- what the first `n` versions tell
abbrev pub IsSinceAmong : List Meaning → List (List ℕ) → Version → List Version → ℕ → Option Version → Type 0
IsSinceAmong trees pointer v versions n since = IsAlikeSince (λ (w : Version). w.revision) (IsBefore v) (IsSameAt trees pointer v) versions n since

-- another version of the same object with the same value, by its parts
abbrev pub IsAlike : List Meaning → List (List ℕ) → Version → Version → Type 0
IsAlike trees pointer v other = (other.uid ≡ v.uid) × (value_pointed trees pointer other ≡ value_pointed trees pointer v)

same_at : (trees : List Meaning) (pointer : List (List ℕ)) (v other : Version) → IsAlike trees pointer v other → IsSameAt trees pointer v other
same_at trees pointer v other is = record { uid = is.0; value = is.1 }

at_same : (trees : List Meaning) (pointer : List (List ℕ)) (v other : Version) → IsSameAt trees pointer v other → IsAlike trees pointer v other
at_same trees pointer v other is = (is.uid, is.value)

-- one version more
pub since_past : (trees : List Meaning) (pointer : List (List ℕ)) (v : Version) (versions : List Version) (n : ℕ) (other : Version) (since : Option Version)
    → slice_get versions n ≡ Some other → (IsBefore v other → ⊥) → IsSinceAmong trees pointer v versions n since → IsSinceAmong trees pointer v versions (n + 1) since
since_past trees pointer v versions n other since stands not h = alike_past (λ (w : Version). w.revision) (IsBefore v) (IsSameAt trees pointer v) versions n other since stands not h

pub since_none : (trees : List Meaning) (pointer : List (List ℕ)) (v : Version) (versions : List Version) (n : ℕ) (other : Version)
    → AllPairs (λ a b. a.revision < b.revision) versions → slice_get versions n ≡ Some other → IsBefore v other → (IsAlike trees pointer v other → ⊥)
    → IsSinceAmong trees pointer v versions (n + 1) None
since_none trees pointer v versions n other rising stands before not =
    alike_none (λ (w : Version). w.revision) (IsBefore v) (IsSameAt trees pointer v) versions n other rising stands before (λ is. not (at_same trees pointer v other is))

pub since_more : (trees : List Meaning) (pointer : List (List ℕ)) (v : Version) (versions : List Version) (n : ℕ) (other : Version) (since : Option Version)
    → AllPairs (λ a b. a.revision < b.revision) versions → slice_get versions n ≡ Some other → IsBefore v other → IsAlike trees pointer v other
    → IsSinceAmong trees pointer v versions n since → IsSinceAmong trees pointer v versions (n + 1) (option_or since (Some other))
since_more trees pointer v versions n other since rising stands before is h =
    alike_more (λ (w : Version). w.revision) (IsBefore v) (IsSameAt trees pointer v) versions n other since rising stands before (same_at trees pointer v other is) h

-- what a reference to a version points to; one more version is put behind
pub pointed_or : {R : Type 0} (at : R → Version) (since : Option R) (other : R) → option_map at (option_or since (Some other)) ≡ option_or (option_map at since) (Some (at other))
pointed_or at None other = refl
pointed_or at (Some x) other = refl

pub pointed_unwrapped : {R : Type 0} (at : R → Version) (since : Option R) (other : R) → at (unwrap_or since other) ≡ unwrap_or (option_map at since) (at other)
pointed_unwrapped at None other = refl
pointed_unwrapped at (Some x) other = refl

-- all versions tell since when the value stays
pub since_whole : (known : Known) (pointer : List (List ℕ)) (v : Version) (since : Option Version) → AllPairs (λ a b. a.revision < b.revision) known.versions → Contains known.versions v
    → IsSinceAmong known.trees pointer v known.versions (length known.versions) since → IsSince known pointer v (unwrap_or since v)
since_whole known pointer v since rising known_is so_far = record {
  known_is = at_in known.versions first.among.position _ first.among.stands;
  of_key = first.counts.0;
  upto = first.counts.1;
  stays = λ other c key from upto. first.alike other (among other c) (key, upto) from;
  least = λ other c key upto stays. first.least other (among other c) (key, upto) (λ w a counts from. stays w (at_in known.versions a.position w a.stands) counts.0 from counts.1);
}
  where
    among : (w : Version) → Contains known.versions w → IsAmong known.versions (length known.versions) w
    among w c = let found = in_at known.versions w c in record { position = found.0; below = slice_get_within known.versions found.0 w found.1; stands = found.1 }

    alone : AreAlikeFrom (λ (w : Version). w.revision) (IsBefore v) (IsSameAt known.trees pointer v) known.versions (length known.versions) v.revision
    alone = λ w a counts from.
        let least : v.revision ≤ w.revision = from in
        let most : w.revision ≤ v.revision = counts.1 in
        let same : v ≡ w = apart (λ (x : Version). x.revision) known.versions v w rising known_is (at_in known.versions a.position w a.stands) (omega arith) in
        subst (IsSameAt known.trees pointer v) same (record { uid = refl; value = refl })

    first : IsFirstAlike (λ (w : Version). w.revision) (IsBefore v) (IsSameAt known.trees pointer v) known.versions (length known.versions) (unwrap_or since v)
    first = alike_whole (λ (w : Version). w.revision) (IsBefore v) (IsSameAt known.trees pointer v) known.versions (length known.versions) v since (among v known_is) (refl, omega arith) alone so_far

-- what is told of one sight of the object
pub blame_told : (known : Known) (key : ObjectKey) (pointer : List (List ℕ)) (place : ℕ) (sight : ObjectSight) (old new : List ℕ) → IsSight known key place sight
    → Appends (IsBlameOf known pointer sight) old new → Appends (IsBlame known key pointer place) old new
blame_told known key pointer place sight old new is blamed = record { told = blamed.told; is = (sight, is, blamed.is); behind = blamed.behind }
