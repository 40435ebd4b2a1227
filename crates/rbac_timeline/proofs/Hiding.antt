-- The tests of covers and of clouds tell what is covered and what is clouded.
use Rattle.std.proofs.Common.{◌≡◌, ℕ, ◌<◌, ◌&&◌, List, Option, Some, None, Decides, bytes_eq, nat_eq, drop, length, refl, ap}
use Rattle.std.specs.Prelude.{nat_lt, MatchOption}
use Rattle.std.specs.List.{list_all, starts_with}
use Rattle.std.proofs.lemmas.Bool.Decides.{Decides-and, Decides-eqb, Decides-like, Decides-ltb}
use Rattle.std.proofs.lemmas.Slice.Eq.{bytes_eq-Decides, starts_is}
use Rattle.base_types.specs.Covers.{Covers, TakesName}
use Rattle.base_types.specs.declared.kubernetes.key.Cover.{Cover}
use Rattle.base_types.specs.declared.kubernetes.key.CoverName.{CoverName}
use Rattle.base_types.specs.declared.kubernetes.key.CoverName.TheVariants.{Any as AnyName, Exact, Prefix}
use Rattle.base_types.specs.declared.kubernetes.key.ObjectKey.{ObjectKey}
use Rattle.clouds.specs.Clouds.{IsClouded, IsHiddenBy}
use Rattle.clouds.specs.Writes.{Writes}
use Rattle.clouds.specs.declared.span.KeyRevision.{KeyRevision}
use Rattle.clouds.specs.declared.span.OpaqueSpan.{OpaqueSpan}
use Rattle.base_types.specs.Keys.{same_key}
use Rattle.base_types.proofs.KeyLemmas.{key_from_parts}
use Rattle.rbac_timeline.specs.Hidden.{covers, is_clouded, is_hidden_by, is_unseen, takes_name, takes_namespace}
use Rattle.rbac_timeline.proofs.Telling.{Decides-all, Decides-any, Decides-implies}

pub same_key-Decides : (a b : ObjectKey) → Decides (same_key a b) (a ≡ b)
same_key-Decides a b = Decides-like (same_key a b)
    (λ parts. key_from_parts a b parts.0 parts.1.0 parts.1.1.0 parts.1.1.1)
    (λ is. (ap (λ (k : ObjectKey). k.group) is, (ap (λ (k : ObjectKey). k.resource) is, (ap (λ (k : ObjectKey). k.namespace) is, ap (λ (k : ObjectKey). k.name) is))))
    (Decides-and (bytes_eq a.group b.group) _ (bytes_eq-Decides a.group b.group)
    (Decides-and (bytes_eq a.resource b.resource) _ (bytes_eq-Decides a.resource b.resource)
    (Decides-and (bytes_eq a.namespace b.namespace) (bytes_eq a.name b.name) (bytes_eq-Decides a.namespace b.namespace) (bytes_eq-Decides a.name b.name))))

takes_name-Decides : (name : CoverName) (text : List ℕ) → Decides (takes_name name text) (TakesName name text)
takes_name-Decides (Exact given) text = bytes_eq-Decides text given
takes_name-Decides (Prefix front) text =
    let told = starts_is Decides-eqb text front (starts_with nat_eq text front) refl in
    ((λ yes. (drop (length front) text, told.0 yes)), (λ found. told.1 found.0 found.1))
takes_name-Decides AnyName text = ((λ yes. tt), (λ any. refl))

pub takes_namespace-Decides : (namespace : Option (List ℕ)) (text : List ℕ) → Decides (takes_namespace namespace text) (MatchOption namespace (Unit {0}) (λ given. text ≡ given))
takes_namespace-Decides None text = ((λ yes. tt), (λ any. refl))
takes_namespace-Decides (Some given) text = bytes_eq-Decides text given

pub covers-Decides : (cover : Cover) (key : ObjectKey) → Decides (covers cover key) (Covers cover key)
covers-Decides cover key = Decides-like (covers cover key)
    (λ parts. record { group = parts.0; resource = parts.1.0; namespace = parts.1.1.0; name = parts.1.1.1 })
    (λ (parts : Covers cover key). (parts.group, (parts.resource, (parts.namespace, parts.name))))
    (Decides-and (bytes_eq key.group cover.group) _ (bytes_eq-Decides key.group cover.group)
    (Decides-and (bytes_eq key.resource cover.resource) _ (bytes_eq-Decides key.resource cover.resource)
    (Decides-and (takes_namespace cover.namespace key.namespace) (takes_name cover.name key.name)
    (takes_namespace-Decides cover.namespace key.namespace) (takes_name-Decides cover.name key.name))))

-- a revision of the key behind `high` is above the place
abbrev IsUnseen : ObjectKey → ℕ → ℕ → KeyRevision → Type 0
IsUnseen key high place r = (r.key ≡ key) × (high < r.revision) → place < r.revision

is_unseen-Decides : (key : ObjectKey) (high place : ℕ) (r : KeyRevision) → Decides (is_unseen key high place r) (IsUnseen key high place r)
is_unseen-Decides key high place r = Decides-implies (same_key r.key key && nat_lt high r.revision) (nat_lt place r.revision)
    (Decides-and (same_key r.key key) (nat_lt high r.revision) (same_key-Decides r.key key) (Decides-ltb high r.revision))
    (Decides-ltb place r.revision)

is_hidden_by-Decides : (revisions : List KeyRevision) (key : ObjectKey) (place : ℕ) (span : OpaqueSpan) → Decides (is_hidden_by revisions key place span) (IsHiddenBy revisions key place span)
is_hidden_by-Decides revisions key place span = Decides-like (is_hidden_by revisions key place span)
    (λ parts. record { hides = parts.0; begun = parts.1.0; unseen = λ r among of_key behind. parts.1.1 r among (of_key, behind) })
    (λ (parts : IsHiddenBy revisions key place span). (parts.hides, (parts.begun, (λ r among of_key. parts.unseen r among of_key.0 of_key.1))))
    (Decides-and (covers span.cover key) _ (covers-Decides span.cover key)
    (Decides-and (nat_lt span.low place) (list_all (is_unseen key span.high place) revisions) (Decides-ltb span.low place)
    (Decides-all (is_unseen key span.high place) (IsUnseen key span.high place) (is_unseen-Decides key span.high place) revisions)))

pub is_clouded-Decides : (writes : Writes) (key : ObjectKey) (place : ℕ) → Decides (is_clouded writes key place) (IsClouded writes key place)
is_clouded-Decides writes key place =
    Decides-any (is_hidden_by writes.revisions key place) (IsHiddenBy writes.revisions key place) (is_hidden_by-Decides writes.revisions key place) writes.spans
