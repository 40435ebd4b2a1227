-- What is found behind a version that may end its incarnation.
use Rattle.std.proofs.Common.{◌≡◌, ◌≢◌, ℕ, Bool, true, false, not, List, Option, Some, None, option_map, Bor, refl, sym, ap, subst, true≢false}
use Rattle.std.specs.Prelude.{IfNone, IfSome, is_some}
use Rattle.base_types.specs.declared.verdict.claim.Range.{Range}
use Rattle.base_types.specs.declared.kubernetes.key.ObjectKey.{ObjectKey}
use Rattle.object_past.specs.Modelled.{recorded}
use Rattle.past_building.specs.Ended.{IsEnd, revision_of}
use Rattle.past_building.specs.Modelled.{removal_of}
use Rattle.object_past.specs.declared.version.Version.{Version}

-- a removal with copies of the version's texts
pub recorded_is : (v : Version) (range : Range) (key : ObjectKey) (uid : List ℕ) → key ≡ v.key → uid ≡ v.uid
    → recorded (record { key = key; uid = uid; last = v.revision; range = range }) ≡ removal_of v range
recorded_is v range key uid keys uids = λ i. record { key = keys i; uid = uids i; last = v.revision; range = range }

-- the next revision, as the match on the next version gives it
pub next_some : (after : Option (Bor Version)) (v : Bor Version) → after ≡ Some v → revision_of (option_map (λ x. x.now) after) ≡ Some v.now.revision
next_some after v is = ap (λ o. revision_of (option_map (λ x. x.now) o)) is

pub next_none : (after : Option (Bor Version)) → after ≡ None → revision_of (option_map (λ x. x.now) after) ≡ None
next_none after is = ap (λ o. revision_of (option_map (λ x. x.now) o)) is

pub end_some : (version : Version) (after : Option (Bor Version)) (v : Bor Version) → after ≡ Some v → v.now.uid ≢ version.uid → IsEnd version (option_map (λ x. x.now) after)
end_some version after v is other = subst (λ o. IsEnd version (option_map (λ x. x.now) o)) (sym is) other

pub end_none : (version : Version) (after : Option (Bor Version)) → after ≡ None → IsEnd version (option_map (λ x. x.now) after)
end_none version after is = subst (λ o. IsEnd version (option_map (λ x. x.now) o)) (sym is) tt

-- a range that was found, and none
pub found_range : (found : Option Range) (P : Range → Type 0) → is_some found ≡ true → IfSome found P → (range : Range) × P range
found_range None P there held = absurd (true≢false (sym there))
found_range (Some range) P there held = (range, held)

pub no_range : (found : Option Range) (P : Type 0) → is_some found ≡ false → IfNone found P → P
no_range None P none held = held
no_range (Some range) P none held = absurd (true≢false none)

pub unlike : (b : Bool) → false ≡ not b → b ≡ true
unlike true is = refl
unlike false is = absurd (true≢false (sym is))
