-- A test that tells of versions and removals that they are sound.
use Rattle.std.proofs.Common.{◌≡◌, ◌<◌, ◌⊎◌, Bool, true, false, not, ◌&&◌, ◌||◌, ◌==◌, List, [], ◌∷◌, length, get_or, map, Decides, refl, subst, arith}
use Rattle.std.specs.Prelude.{nat_le, nat_lt}
use Rattle.std.specs.List.{All, AllPairs, Contains, list_all, list_any}
use Rattle.std.specs.declared.cmp.Ordering.{Ordering}
use Rattle.std.specs.declared.cmp.Ordering.TheVariants.{Equal, Greater, Less}
use Rattle.std.proofs.lemmas.Bool.{and_parts}
use Rattle.std.proofs.lemmas.Bool.Decides.{Decides-and, Decides-eqb, Decides-ltb, Decides-not, Decides-or}
use Rattle.std.proofs.lemmas.List.{get_or_default, length-map}
use Rattle.std.proofs.lemmas.List.Kept.{AllPairs-cons}
use Rattle.std.proofs.Math.ListN.{get_or-map}
use Rattle.base_types.proofs.Quantifiers.{Any-map, Any-unmap}
use Rattle.clouds.specs.declared.span.KeyRevision.{KeyRevision}
use Rattle.rbac_timeline.specs.declared.version.RbacEnd.{RbacEnd}
use Rattle.rbac_timeline.specs.declared.version.RbacVersion.{RbacVersion}
use Rattle.base_types.specs.Keys.{same_key}
use Rattle.clouds.specs.Kept.{key_order}
use Rattle.rbac_timeline.specs.Known.{key_revision}
use Rattle.rbac_timeline.specs.Sound.{AreSound, IsSoundEnd}
use Rattle.rbac_timeline.proofs.Hiding.{same_key-Decides}
use Rattle.rbac_timeline.proofs.Passing.{Decides-leb}
use Rattle.rbac_timeline.proofs.Telling.{Decides-all, Decides-any, Decides-implies}

all_from_each : {X : Type 0} (P : X → Type 0) (xs : List X) → ((x : X) → Contains xs x → P x) → All P xs
all_from_each P xs each = λ k d within. each (get_or xs k d) (k, within, get_or_default xs k (get_or xs k d) d within)

-- a test of each element with each later one
abbrev pub all_pairs : {X : Type 0} → (X → X → Bool) → List X → Bool
all_pairs test [] = true
all_pairs test (x ∷ xs) = list_all (test x) xs && all_pairs test xs

pairs_told : {X : Type 0} (test : X → X → Bool) (R : X → X → Type 0) → ((x y : X) → Decides (test x y) (R x y)) → (xs : List X) → all_pairs test xs ≡ true → AllPairs R xs
pairs_told test R tells [] passed = λ i j d before within. absurd (omega arith)
pairs_told test R tells (x ∷ xs) passed =
    let parts = and_parts (list_all (test x) xs) (all_pairs test xs) passed in
    AllPairs-cons R x xs (all_from_each (R x) xs ((Decides-all (test x) (R x) (tells x) xs).0 parts.0)) (pairs_told test R tells xs parts.1)

pairs_unmap : {X Y : Type 0} (f : X → Y) (R : Y → Y → Type 0) (xs : List X) → AllPairs R (map f xs) → AllPairs (λ a b. R (f a) (f b)) xs
pairs_unmap f R xs all = λ i j d before within.
    subst (λ y. R (f (get_or xs i d)) y) (get_or-map f xs j d)
    (subst (λ y. R y (get_or (map f xs) j (f d))) (get_or-map f xs i d) (all i j (f d) before (let same : length (map f xs) ≡ length xs = length-map xs f in omega arith)))

contains_map : {X Y : Type 0} (f : X → Y) (xs : List X) (x : X) → Contains xs x → Contains (map f xs) (f x)
contains_map f xs x among =
    let any = Any-map f (λ y. y ≡ f x) xs (among.0, x, among.1, among.2, refl) in
    (any.0, any.2, subst (λ y. get_or (map f xs) any.0 y ≡ y) any.4 any.3)

abbrev is_less : Ordering → Bool
is_less Less = true
is_less Equal = false
is_less Greater = false

is_less-Decides : (o : Ordering) → Decides (is_less o) (o ≡ Less)
is_less-Decides Less = ((λ yes. refl), (λ is. refl))
is_less-Decides Equal = ((λ yes. absurd (cc)), (λ is. cc))
is_less-Decides Greater = ((λ yes. absurd (cc)), (λ is. cc))

abbrev is_before : KeyRevision → KeyRevision → Bool
is_before a b = is_less (key_order a.key b.key) || (same_key a.key b.key && nat_lt a.revision b.revision)

abbrev IsEarlier : KeyRevision → KeyRevision → Type 0
IsEarlier a b = (key_order a.key b.key ≡ Less) ⊎ ((a.key ≡ b.key) × (a.revision < b.revision))

is_before-Decides : (a b : KeyRevision) → Decides (is_before a b) (IsEarlier a b)
is_before-Decides a b = Decides-or (is_less (key_order a.key b.key)) (same_key a.key b.key && nat_lt a.revision b.revision) (is_less-Decides (key_order a.key b.key))
    (Decides-and (same_key a.key b.key) (nat_lt a.revision b.revision) (same_key-Decides a.key b.key) (Decides-ltb a.revision b.revision))

-- a removal's last version, and the versions behind it
abbrev is_last : RbacEnd → KeyRevision → Bool
is_last end r = same_key r.key end.key && (r.revision == end.last)

abbrev is_outside : RbacEnd → KeyRevision → Bool
is_outside end r = not (same_key r.key end.key && nat_lt end.last r.revision) || nat_lt end.high r.revision

abbrev is_sound_end : List KeyRevision → RbacEnd → Bool
is_sound_end revisions end = list_any (is_last end) revisions && (nat_lt end.last end.low && (nat_le end.low end.high && list_all (is_outside end) revisions))

abbrev are_apart : RbacEnd → RbacEnd → Bool
are_apart a b = not (same_key a.key b.key && (a.last == b.last))

abbrev pub are_sound : List KeyRevision → List RbacEnd → Bool
are_sound revisions ends = all_pairs is_before revisions && (list_all (is_sound_end revisions) ends && all_pairs are_apart ends)

is_outside-Decides : (end : RbacEnd) (r : KeyRevision) → Decides (is_outside end r) ((r.key ≡ end.key) × (end.last < r.revision) → end.high < r.revision)
is_outside-Decides end r = Decides-implies (same_key r.key end.key && nat_lt end.last r.revision) (nat_lt end.high r.revision)
    (Decides-and (same_key r.key end.key) (nat_lt end.last r.revision) (same_key-Decides r.key end.key) (Decides-ltb end.last r.revision))
    (Decides-ltb end.high r.revision)

sound_end : (versions : List RbacVersion) (end : RbacEnd) → is_sound_end (map key_revision versions) end ≡ true → IsSoundEnd versions end
sound_end versions end passed =
    let revisions = map key_revision versions in
    let first = and_parts (list_any (is_last end) revisions) (nat_lt end.last end.low && (nat_le end.low end.high && list_all (is_outside end) revisions)) passed in
    let second = and_parts (nat_lt end.last end.low) (nat_le end.low end.high && list_all (is_outside end) revisions) first.1 in
    let third = and_parts (nat_le end.low end.high) (list_all (is_outside end) revisions) second.1 in
    record {
      of_version = Any-unmap key_revision (λ (r : KeyRevision). (r.key ≡ end.key) × (r.revision ≡ end.last)) versions
          ((Decides-any (is_last end) (λ (r : KeyRevision). (r.key ≡ end.key) × (r.revision ≡ end.last))
          (λ r. Decides-and (same_key r.key end.key) (r.revision == end.last) (same_key-Decides r.key end.key) (Decides-eqb r.revision end.last)) revisions).0 first.0);
      behind = (Decides-ltb end.last end.low).0 second.0;
      ordered = (Decides-leb end.low end.high).0 third.0;
      before_next = λ next among of_key later.
          (Decides-all (is_outside end) (λ (r : KeyRevision). (r.key ≡ end.key) × (end.last < r.revision) → end.high < r.revision) (is_outside-Decides end) revisions).0 third.1
          (key_revision next) (contains_map key_revision versions next among) (of_key, later);
    }

-- what passes is sound
pub sound_by_test : (versions : List RbacVersion) (ends : List RbacEnd) → are_sound (map key_revision versions) ends ≡ true → AreSound versions ends
sound_by_test versions ends passed =
    let revisions = map key_revision versions in
    let first = and_parts (all_pairs is_before revisions) (list_all (is_sound_end revisions) ends && all_pairs are_apart ends) passed in
    let second = and_parts (list_all (is_sound_end revisions) ends) (all_pairs are_apart ends) first.1 in
    record {
      rising = pairs_unmap key_revision IsEarlier versions (pairs_told is_before IsEarlier is_before-Decides revisions first.0);
      sound_ends = all_from_each (IsSoundEnd versions) ends (λ end among.
          sound_end versions end ((Decides-all (is_sound_end revisions) (λ e. is_sound_end revisions e ≡ true) (λ e. ((λ yes. yes), (λ yes. yes))) ends).0 second.0 end among));
      distinct = pairs_told are_apart (λ (a b : RbacEnd). (a.key ≡ b.key) × (a.last ≡ b.last) → ⊥)
          (λ a b. Decides-not (same_key a.key b.key && (a.last == b.last)) (Decides-and (same_key a.key b.key) (a.last == b.last) (same_key-Decides a.key b.key) (Decides-eqb a.last b.last)))
          ends second.1;
    }
