-- What may grant at a place may grant where the object is clouded, or where the version that counts began.
use Rattle.std.proofs.Common.{◌≡◌, ℕ, ◌<◌, ◌≤◌, ◌⊎◌, ⊎_elim, inl, inr, Option, None, List, length, take, refl, sym, subst, arith}
use Rattle.std.specs.List.{Any, Contains}
use Rattle.std.proofs.lemmas.Bool.{cases_lt}
use Rattle.std.proofs.lemmas.List.{take_all}
use Rattle.base_types.proofs.Quantifiers.{Any-contains}
use Rattle.base_types.specs.declared.kubernetes.key.ObjectKey.{ObjectKey}
use Rattle.base_types.specs.declared.kubernetes.request.RequestAttrs.{RequestAttrs}
use Rattle.base_types.specs.declared.kubernetes.request.User.{User}
use Rattle.clouds.specs.Clouds.{IsClouded}
use Rattle.clouds.specs.FirstPlace.{HoldsNowhere, IsFirstPlace, IsLeastPlace}
use Rattle.rbac_rules.specs.Granting.{Grants}
use Rattle.rbac_timeline.specs.declared.history.Stored.{Stored}
use Rattle.rbac_timeline.specs.declared.version.RbacVersion.{RbacVersion}
use Rattle.rbac_timeline.specs.declared.way.Way.{Way}
use Rattle.rbac_timeline.specs.Extents.{IsSubject, MayGrant, MayGrantByRole}
use Rattle.rbac_timeline.specs.Kept.{MayGrantByListed, stored_of}
use Rattle.rbac_timeline.specs.Kinds.{IsBindingOf, role_key}
use Rattle.rbac_timeline.specs.Searched.{IsFirstPair}
use Rattle.rbac_timeline.specs.Pairs.{AreVersionsBetween}
use Rattle.rbac_timeline.specs.Known.{Known, writes_of}
use Rattle.rbac_timeline.specs.States.{By, Everything, MayBeThere, Nothing, Reading, ReadsRules}
use Rattle.rbac_timeline.proofs.Decided.{decide_clouded}
use Rattle.rbac_timeline.proofs.Pairing.{IsFirstPair-cover, IsFirstPlace-cover}

-- a version of the key begins at the place, behind `low`
abbrev pub BeginsBehind : Known → ObjectKey → ℕ → ℕ → Type 0
BeginsBehind known key low place = (version : RbacVersion) × Contains known.versions version × (version.key ≡ key) × (low < version.revision) × (place ≡ version.revision)

abbrev pub IsStart : Known → ObjectKey → ℕ → ℕ → Type 0
IsStart known key low place = (place ≡ low) ⊎ BeginsBehind known key low place

-- a version that may be there at a place may be there where it began, or at `low`
pub there_from : (known : Known) (key : ObjectKey) (version : RbacVersion) (start place : ℕ) → version.revision ≤ start → start ≤ place → MayBeThere known key place version → MayBeThere known key start version
there_from known key version start place begun upto there = record {
  latest = record {
    known = there.latest.known;
    of_key = there.latest.of_key;
    upto = begun;
    latest = λ other among other_key other_upto. there.latest.latest other among other_key (omega arith);
  };
  not_gone = λ end is. let before = there.not_gone end is in omega arith;
}

start_of : (known : Known) (key : ObjectKey) (version : RbacVersion) (low place : ℕ) → low ≤ place → MayBeThere known key place version
    → (start : ℕ) × (low ≤ start) × (start ≤ place) × IsStart known key low start × MayBeThere known key start version
start_of known key version low place from there =
    let upto : version.revision ≤ place = there.latest.upto in
    ⊎_elim
    (λ (behind : low < version.revision). (
      version.revision,
      omega arith,
      upto,
      inr (version, there.latest.known, there.latest.of_key, behind, refl),
      there_from known key version version.revision place (omega arith) upto there,
    ))
    (λ (before : version.revision ≤ low). (low, omega arith, from, inl refl, there_from known key version low place before from there))
    (cases_lt low version.revision)

module _ {X : Type 0} (reads : Reading X) (known : Known) (key : ObjectKey) (grants : X → Type 0) where
  -- at the start of what may grant it may grant
  abbrev Starts : ℕ → ℕ → Type 0
  Starts low place = (start : ℕ) × (low ≤ start) × (start ≤ place) × IsStart known key low start × MayGrant reads known key start grants

  pub read_at : (version : RbacVersion) (x : X) (start : ℕ) → MayBeThere known key start version → reads version.content x → grants x → MayGrant reads known key start grants
  read_at version x start there read granted = ⊎_elim
      (λ clouded. (Everything, inl clouded, tt))
      (λ clear. (By x, (clear, (version, there, read)), granted))
      (decide_clouded (writes_of known) key start)

  pub may_starts : (low place : ℕ) → low ≤ place → MayGrant reads known key place grants → IsClouded (writes_of known) key place ⊎ Starts low place
  may_starts low place from (Nothing, is, granted) = absurd granted
  may_starts low place from (By x, is, granted) =
      let s = start_of known key is.1.0 low place from is.1.1 in
      inr (s.0, s.1, s.2, s.3, read_at is.1.0 x s.0 s.4 is.1.2 granted)
  may_starts low place from (Everything, inl clouded, granted) = inl clouded
  may_starts low place from (Everything, inr (version, there, unread), granted) =
      let s = start_of known key version low place from there in
      inr (s.0, s.1, s.2, s.3, (Everything, inr (version, s.4, unread), tt))

-- the versions that are kept between two places begin there
pub begins_there : (known : Known) (key : ObjectKey) (low high place : ℕ) (between : List Stored) (P : ℕ → Type 0) → AreVersionsBetween known.versions key low high between → place ≤ high
    → BeginsBehind known key low place → P place → Any (λ s. (place ≡ s.revision) × P place) between
begins_there known key low high place between P are upto begins holds =
    let same : place ≡ begins.0.revision = begins.4 in
    Any-contains (λ (s : Stored). (place ≡ s.revision) × P place) between (stored_of begins.0) (are.full begins.0 begins.1 begins.2 begins.3 (omega arith)) (begins.4, holds)

-- the places at which a role may grant are found among its starts
pub role_cover : (known : Known) (role : ObjectKey) (attrs : RequestAttrs) (low high : ℕ) (between : List Stored) (i : ℕ) (first : Option ℕ) → AreVersionsBetween known.versions role low high between
    → length between ≤ i
    → IsFirstPlace (λ n. (((n ≡ low) × MayGrantByRole known role n attrs) ⊎ IsClouded (writes_of known) role n) ⊎ Any (λ s. (n ≡ s.revision) × MayGrantByRole known role n attrs) (take i between)) low high first
    → IsFirstPlace (λ n. MayGrantByRole known role n attrs) low high first
role_cover known role attrs low high between i first are end found =
    IsFirstPlace-cover
    (λ n. (((n ≡ low) × MayGrantByRole known role n attrs) ⊎ IsClouded (writes_of known) role n) ⊎ Any (λ s. (n ≡ s.revision) × MayGrantByRole known role n attrs) (take i between))
    (λ n. MayGrantByRole known role n attrs) low high first
    (λ n either. ⊎_elim (λ start. ⊎_elim (λ at. at.1) (λ clouded. (Everything, inl clouded, tt)) start) (λ any. any.4.1) either)
    (λ n from upto may. ⊎_elim
    (λ clouded. (n, from, omega arith, inl (inr clouded)))
    (λ s.
    let bound : s.0 ≤ n = s.2 in (
      s.0,
      s.1,
      s.2,
      ⊎_elim
          (λ is. inl (inl (is, s.4)))
          (λ begins. inr (subst (λ l. Any (λ v. (s.0 ≡ v.revision) × MayGrantByRole known role s.0 attrs) l) (sym (take_all i between end))
          (begins_there known role low high s.0 between (λ p. MayGrantByRole known role p attrs) are (omega arith) begins s.4)))
          s.3,
    ))
    (may_starts ReadsRules known role (λ rules. Grants rules attrs) low n from may))
    found

-- and those at which a binding may
pub key_cover : (known : Known) (way : Way) (who : User) (attrs : RequestAttrs) (key : ObjectKey) (low high : ℕ) (between : List Stored) (i : ℕ) (best : Option (ℕ × ℕ))
    → AreVersionsBetween known.versions key low high between → length between ≤ i
    → IsFirstPair (λ r b. (((b ≡ low) × MayGrantByListed known way r b who attrs key) ⊎ (IsClouded (writes_of known) key b × MayGrantByListed known way r b who attrs key))
    ⊎ Any (λ s. (b ≡ s.revision) × MayGrantByListed known way r b who attrs key) (take i between)) low high best
    → IsFirstPair (λ r b. MayGrantByListed known way r b who attrs key) low high best
key_cover known way who attrs key low high between i best are end found =
    IsFirstPair-cover
    (λ r b. (((b ≡ low) × MayGrantByListed known way r b who attrs key) ⊎ (IsClouded (writes_of known) key b × MayGrantByListed known way r b who attrs key))
    ⊎ Any (λ s. (b ≡ s.revision) × MayGrantByListed known way r b who attrs key) (take i between))
    (λ r b. MayGrantByListed known way r b who attrs key) low high best
    (λ r b either. ⊎_elim (λ start. ⊎_elim (λ at. at.1) (λ clouded. clouded.1) start) (λ any. any.4.1) either)
    (λ r b from upto may. ⊎_elim
    (λ clouded. (b, from, omega arith, inl (inr (clouded, may))))
    (λ s.
    let bound : s.0 ≤ b = s.2 in
    let there : MayGrantByListed known way r s.0 who attrs key = (may.0, may.1, s.4) in (
      s.0,
      s.1,
      s.2,
      ⊎_elim
          (λ is. inl (inl (is, there)))
          (λ begins. inr (subst (λ l. Any (λ v. (s.0 ≡ v.revision) × MayGrantByListed known way r s.0 who attrs key) l) (sym (take_all i between end))
          (begins_there known key low high s.0 between (λ p. MayGrantByListed known way r p who attrs key) are (omega arith) begins there)))
          s.3,
    ))
    (may_starts (IsBindingOf key) known key (λ binding. IsSubject way key who binding × MayGrantByRole known (role_key key binding) r attrs) low b from may.2))
    found

-- a clouded binding may grant with the roles anywhere
pub clouded_cover : (known : Known) (way : Way) (who : User) (attrs : RequestAttrs) (key : ObjectKey) (low high place : ℕ) (best : Option (ℕ × ℕ)) → IsLeastPlace (IsClouded (writes_of known) key) low high place
    → IsFirstPair (λ r b. (b ≡ place) × MayGrantByListed known way r b who attrs key) low high best
    → IsFirstPair (λ r b. IsClouded (writes_of known) key b × MayGrantByListed known way r b who attrs key) low high best
clouded_cover known way who attrs key low high place best least found =
    IsFirstPair-cover
    (λ r b. (b ≡ place) × MayGrantByListed known way r b who attrs key) (λ r b. IsClouded (writes_of known) key b × MayGrantByListed known way r b who attrs key) low high best
    (λ r b at. (subst (λ n. IsClouded (writes_of known) key n) (sym at.0) least.here, at.1))
    (λ r b from upto both. (place, least.from_low, least.least b from both.0, (refl, (both.1.0, both.1.1, (Everything, inl least.here, tt)))))
    found

pub no_clouded : (known : Known) (way : Way) (who : User) (attrs : RequestAttrs) (key : ObjectKey) (low high : ℕ) → HoldsNowhere (IsClouded (writes_of known) key) low high
    → IsFirstPair (λ r b. IsClouded (writes_of known) key b × MayGrantByListed known way r b who attrs key) low high None
no_clouded known way who attrs key low high nowhere = λ r b r_from r_upto b_from b_upto both. nowhere b b_from b_upto both.0
