-- What grants to a user is of a version that names it, and is found among the reigns under its name.
use Rattle.std.proofs.Common.{◌≡◌, ℕ, ◌≤◌, ◌⊎◌, ⊎_elim, inl, inr, List, max, refl, sym, subst, arith}
use Rattle.std.specs.List.{Any, Contains}
use Rattle.base_types.proofs.Quantifiers.{Any-contains}
use Rattle.base_types.specs.declared.kubernetes.key.ObjectKey.{ObjectKey}
use Rattle.base_types.specs.declared.kubernetes.request.RequestAttrs.{RequestAttrs}
use Rattle.base_types.specs.declared.kubernetes.request.User.{User as Asker}
use Rattle.rbac_rules.specs.declared.binding.Binding.{Binding}
use Rattle.rbac_rules.specs.declared.binding.Subject.{Subject}
use Rattle.rbac_rules.specs.declared.binding.Subject.TheVariants.{Group, ServiceAccount, User}
use Rattle.rbac_rules.specs.Matching.{Matches}
use Rattle.rbac_timeline.specs.declared.reigns.Reign.{Reign}
use Rattle.rbac_timeline.specs.declared.version.RbacVersion.{RbacVersion}
use Rattle.rbac_timeline.specs.declared.way.Way.{Way}
use Rattle.rbac_timeline.specs.Choices.{IsKnownKey}
use Rattle.rbac_timeline.specs.Extents.{IsSubject, MayGrantByRole, MayGrantInWay, MayGrantNameless, MustGrantByRole, MustGrantInWay, bindings_in, by_create, by_key}
use Rattle.rbac_timeline.specs.Found.{MayGrantNamed, MayGrantReigning, MustGrantNamed, MustGrantReigning, StartsReigning}
use Rattle.rbac_timeline.specs.Kept.{IsKnownUnsure, MayGrantByListed, MayGrantOf, MustGrantByListed}
use Rattle.rbac_timeline.specs.Kinds.{IsBindingOf, IsKeyOf, IsReached, role_key, subjects_of}
use Rattle.rbac_timeline.specs.Known.{Known}
use Rattle.rbac_timeline.specs.Reigning.{AreReignsOf, AsGroup, AsUser, IsReignOf, Means}
use Rattle.rbac_timeline.specs.Sound.{AreSound}
use Rattle.rbac_timeline.specs.States.{By, Everything, IsBindingState, IsGranted, MayBeThere, Nothing, State}
use Rattle.rbac_timeline.specs.Unsure.{last_place}
use Rattle.rbac_timeline.proofs.Beginning.{read_at, there_from}
use Rattle.rbac_timeline.proofs.Extremes.{least_state, read_binding}
use Rattle.rbac_timeline.proofs.Naming.{subjects_from, way_kind}

-- a subject that means the user names it, or one of its groups
means_one : (who : Asker) (subject : Subject) → Matches subject who → Means AsUser subject who.name ⊎ Any (λ group. Means AsGroup subject group) who.groups
means_one who (User name) matches = inl (sym matches)
means_one who (Group name) matches = inr (matches.0, name, matches.1, matches.2, refl)
means_one who (ServiceAccount namespace name) matches = inl matches.1

module _ (known : Known) (way : Way) (place : ℕ) (who : Asker) (attrs : RequestAttrs) where
  -- the version of a state of a binding, under its own key
  pub record IsStated (key : ObjectKey) (version : RbacVersion) (binding : Binding) : Type 0 where
    pub of_key : version.key ≡ key
    pub there : MayBeThere known version.key place version
    pub readable : IsBindingOf version.key version.content binding
    pub subject : Subject
    pub named : Contains (subjects_of version.key version.content) subject
    pub matches : Matches subject who

  pub stated : (key : ObjectKey) (binding : Binding) → IsKeyOf (bindings_in way) key → (is : IsBindingState known key place (By binding)) → Any (λ subject. Matches subject who) binding.subjects
      → IsStated key is.1.0 binding
  stated key binding kind is any =
      let version : RbacVersion = is.1.0 in
      let of_key : version.key ≡ key = is.1.1.latest.of_key in record {
        of_key = of_key;
        there = subst (λ k. MayBeThere known k place version) (sym of_key) is.1.1;
        readable = subst (λ k. IsBindingOf k version.content binding) (sym of_key) is.1.2;
        subject = any.1;
        named = subst (λ k. Contains (subjects_of k version.content) any.1) (sym of_key) (subjects_from key version.content binding any.1 (way_kind way key kind) is.1.2 (any.0, any.2, any.3));
        matches = any.4;
      }

  module _ (role_place : ℕ) where
    abbrev MustBy : (Subject → Type 0) → Type 0
    MustBy names = MustGrantNamed known names way role_place place who attrs

    must_split : (key : ObjectKey) (version : RbacVersion) (binding : Binding) → IsStated key version binding → MustGrantByListed known way role_place place who attrs key
        → MustBy (λ s. Means AsUser s who.name) ⊎ Any (λ group. MustBy (λ s. Means AsGroup s group)) who.groups
    must_split key version binding is must =
        let listed = subst (λ k. MustGrantByListed known way role_place place who attrs k) (sym is.of_key) must in
        ⊎_elim
        (λ user. inl (record { version = version; there = is.there; named = Any-contains (λ s. Means AsUser s who.name) (subjects_of version.key version.content) is.subject is.named user; must = listed }))
        (λ groups. inr (
          groups.0,
          groups.1,
          groups.2,
          groups.3,
          record { version = version; there = is.there; named = Any-contains (λ s. Means AsGroup s groups.1) (subjects_of version.key version.content) is.subject is.named groups.4; must = listed },
        ))
        (means_one who is.subject is.matches)

    must_by_state : (key : ObjectKey) → IsKeyOf (bindings_in way) key → MustGrantByListed known way role_place place who attrs key → (state : State Binding) → IsBindingState known key place state
        → IsGranted (λ binding. IsSubject way key who binding × MustGrantByRole known (role_key key binding) role_place attrs) state
        → MustBy (λ s. Means AsUser s who.name) ⊎ Any (λ group. MustBy (λ s. Means AsGroup s group)) who.groups
    must_by_state key kind must Nothing is granted = absurd granted
    must_by_state key kind must (By binding) is granted = must_split key is.1.0 binding (stated key binding kind is granted.0.matches) must
    must_by_state key kind must Everything is granted = absurd (must.2 Nothing (inl is))

    -- the user, or one of its groups, is named by what grants for certain
    pub must_parts : AreSound known.versions known.ends → MustGrantInWay known way role_place place who attrs
        → MustBy (λ s. Means AsUser s who.name) ⊎ Any (λ group. MustBy (λ s. Means AsGroup s group)) who.groups
    must_parts sound in_way =
        let key = in_way.key in
        let least = least_state (IsBindingOf key) known sound key place (read_binding key) in
        let kind = in_way.way_of.of_kind in
        must_by_state key kind (kind, in_way.way_of.reached, in_way.must) least.state least.possible (in_way.must least.state least.possible)

    -- and then its reign has the place
    pub must_reigning : (names : Subject → Type 0) (reigns : List Reign) → place ≤ last_place → AreReignsOf known names reigns → MustBy names → MustGrantReigning known way role_place place who attrs reigns
    must_reigning names reigns fits are must =
        let version = must.version in
        let subject = must.named in
        let any = are.full version subject.1 must.there.latest.known (subject.0, subject.2, subject.3) subject.4 in
        let is : IsReignOf known.versions known.ends version any.1 = any.4 in
        let first : any.1.first ≡ version.revision = is.first in
        let begun : version.revision ≤ place = must.there.latest.upto in
        let last : place ≤ any.1.last = is.last place fits must.there.latest must.there.not_gone in
        (any.0, any.1, any.2, any.3, ((omega arith, last), subst (λ k. MustGrantByListed known way role_place place who attrs k) (sym is.of_key) must.must))

    abbrev MayBy : (Subject → Type 0) → Type 0
    MayBy names = MayGrantNamed known names way role_place place who attrs

    -- what may grant says so itself, has no name, or isn't known
    may_by_state : (key : ObjectKey) → IsKnownKey known key → IsKeyOf (bindings_in way) key → IsReached key attrs → (state : State Binding) → IsBindingState known key place state
        → IsGranted (λ binding. IsSubject way key who binding × MayGrantByRole known (role_key key binding) role_place attrs) state
        → MayBy (λ s. Matches s who) ⊎ (MayGrantNameless known way place attrs ⊎ MayGrantOf known (IsKnownUnsure known place) way role_place place who attrs)
    may_by_state key is_known kind reached Nothing is granted = absurd granted
    may_by_state key is_known kind reached (By binding) is granted =
        let version : RbacVersion = is.1.0 in
        let of : IsStated key version binding = stated key binding kind is granted.0.matches in
        inl (record {
          version = version;
          there = of.there;
          named = Any-contains (λ s. Matches s who) (subjects_of version.key version.content) of.subject of.named of.matches;
          of_kind = subst (λ k. IsKeyOf (bindings_in way) k) (sym of.of_key) kind;
          reached = subst (λ k. IsReached k attrs) (sym of.of_key) reached;
          binding = binding;
          readable = of.readable;
          granted = subst (λ k. IsSubject way k who binding × MayGrantByRole known (role_key k binding) role_place attrs) (sym of.of_key) granted;
        })
    may_by_state key is_known kind reached Everything is granted = inr (inr (key, (is_known, is), (kind, reached, (Everything, is, granted))))

    pub may_parts : MayGrantInWay known way role_place place who attrs
        → MayBy (λ s. Matches s who) ⊎ (MayGrantNameless known way place attrs ⊎ MayGrantOf known (IsKnownUnsure known place) way role_place place who attrs)
    may_parts (by_key key of may) = may_by_state key of.is_known of.of_kind of.reached may.0 may.1 may.2
    may_parts (by_create create) = inr (inl create)

    -- the user, or one of its groups, is named
    pub may_split : MayBy (λ s. Matches s who) → MayBy (λ s. Means AsUser s who.name) ⊎ Any (λ group. MayBy (λ s. Means AsGroup s group)) who.groups
    may_split may =
        let named = may.named in
        let subject = named.1 in
        let among : Contains (subjects_of may.version.key may.version.content) subject = (named.0, named.2, named.3) in
        ⊎_elim
        (λ user. inl (record {
          version = may.version;
          there = may.there;
          named = Any-contains (λ s. Means AsUser s who.name) (subjects_of may.version.key may.version.content) subject among user;
          of_kind = may.of_kind;
          reached = may.reached;
          binding = may.binding;
          readable = may.readable;
          granted = may.granted;
        }))
        (λ groups. inr (
          groups.0,
          groups.1,
          groups.2,
          groups.3,
          record {
            version = may.version;
            there = may.there;
            named = Any-contains (λ s. Means AsGroup s groups.1) (subjects_of may.version.key may.version.content) subject among groups.4;
            of_kind = may.of_kind;
            reached = may.reached;
            binding = may.binding;
            readable = may.readable;
            granted = may.granted;
          },
        ))
        (means_one who subject named.4)

    -- and then it may where its reign begins, or the range
    pub may_starts_reigning : (names : Subject → Type 0) (reigns : List Reign) (low high : ℕ) → low ≤ place → place ≤ high → place ≤ last_place → AreReignsOf known names reigns → MayBy names
        → (start : ℕ) × (low ≤ start) × (start ≤ place) × StartsReigning known way low high who attrs reigns role_place start
    may_starts_reigning names reigns low high from upto fits are may =
        let version = may.version in
        let named = may.named in
        let any = are.full version named.1 may.there.latest.known (named.0, named.2, named.3) named.4 in
        let reign : Reign = any.1 in
        let is : IsReignOf known.versions known.ends version reign = any.4 in
        let first : reign.first ≡ version.revision = is.first in
        let begun : version.revision ≤ place = may.there.latest.upto in
        let last : place ≤ reign.last = is.last place fits may.there.latest may.there.not_gone in
        let start : ℕ = max low reign.first in
        let there = there_from known version.key version start place (omega arith) (omega arith) may.there in
        let grants = read_at (IsBindingOf version.key) known version.key (λ binding. IsSubject way version.key who binding × MayGrantByRole known (role_key version.key binding) role_place attrs)
        version may.binding start there may.readable may.granted in
        let listed : MayGrantByListed known way role_place start who attrs version.key = (may.of_kind, may.reached, grants) in (
          start,
          omega arith,
          omega arith,
          (any.0, reign, any.2, any.3, ((omega arith, omega arith), (refl, subst (λ k. MayGrantByListed known way role_place start who attrs k) (sym is.of_key) listed))),
        )

    -- or at the place itself
    pub may_reigning : (names : Subject → Type 0) (reigns : List Reign) → place ≤ last_place → AreReignsOf known names reigns → MayBy names → MayGrantReigning known way role_place place who attrs reigns
    may_reigning names reigns fits are may =
        let found = may_starts_reigning names reigns place place (omega arith) (omega arith) fits are may in
        let any = found.3 in
        let from : place ≤ found.0 = found.1 in
        let upto : found.0 ≤ place = found.2 in
        let same : found.0 ≡ place = omega arith in
        (any.0, any.1, any.2, any.3, (any.4.0, subst (λ n. MayGrantByListed known way role_place n who attrs any.1.key) same any.4.1.1))
