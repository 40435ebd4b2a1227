-- What tests of objects tell.
use Rattle.std.proofs.Common.{◌≡◌, ℕ, ◌-◌, ◌+◌, ◌<◌, ◌≤◌, ◌⊎◌, ◌==◌, ◌++◌, length, get_or, take, All, Bool, true, false, not, Bor, List, [], ◌∷◌, map, find, Option, Some, None, is_some, Contains, inl, inr, refl, sym, ap, ◌∙◌, subst, true≢false}
use Rattle.std.specs.Prelude.{◌↔◌, IsTrue, IsSome, IsNone, IfSome, IfNone, option_map}
use Rattle.std.specs.Prelude.{bytes_eq}
use Rattle.std.specs.Cmp.Lexicographic.{bytes_decides}
use Rattle.std.proofs.lemmas.List.{take_more, take_all}
use Rattle.std.proofs.lemmas.List.Elements.{All-append}
use Rattle.base_types.specs.declared.kubernetes.key.ObjectKey.{ObjectKey}
use Rattle.clouds.specs.Clouds as cloud
use Rattle.clouds.specs.FirstPlace.{IsLeastPlace, HoldsNowhere}
use Rattle.clouds.specs.Writes.{Writes}
use Rattle.history_model.proofs.Members.{not_in_none, in_cons, all_at, all_from}
use Rattle.history_model.specs.Clouds.{IsClouded, IsCloudedWithin}
use Rattle.history_model.specs.Events.{Event}
use Rattle.history_model.specs.Histories as histories
use Rattle.history_model.specs.Histories.{History, Removal}
use Rattle.history_model.specs.Machine.{MayRemove, MeetsPreconditions}
use Rattle.object_past.specs.Modelled.{version_of}
use Rattle.object_past.specs.declared.version.Version.{Version}
use Rattle.write_groups.specs.Met.{asks_uid}

-- the first of two facts holds, or the test tells the second
pub first_holds : {P Q : Type 0} → P → IsTrue true ↔ (P ⊎ Q)
first_holds p = ((λ t. inl p), λ held. refl)

pub second_told : {P Q : Type 0} (b : Bool) → (P → ⊥) → (IsTrue b ↔ Q) → IsTrue b ↔ (P ⊎ Q)
second_told {P} {Q} b n told = ((λ t. inr (told.0 t)), λ held. by held)
  where
    by : P ⊎ Q → IsTrue b
    by (inl p) = absurd (n p)
    by (inr q) = told.1 q

pub neither : {P Q : Type 0} → (P → ⊥) → (Q → ⊥) → IsTrue false ↔ (P ⊎ Q)
neither {P} {Q} n m = ((λ t. absurd (true≢false (sym t))), λ held. absurd (by held))
  where
    by : P ⊎ Q → ⊥
    by (inl p) = n p
    by (inr q) = m q

pub told_by : {P Q : Type 0} (b : Bool) → (IsTrue b ↔ P) → (P → Q) → (Q → P) → IsTrue b ↔ Q
told_by b told f g = ((λ t. f (told.0 t)), λ q. told.1 (g q))

pub untold : {P : Type 0} (b : Bool) → (IsTrue b ↔ P) → b ≡ false → P → ⊥
untold b told e p = true≢false (sym (told.1 p) ∙ e)

pub not_so : {P : Type 0} → (P → ⊥) → IsTrue false ↔ P
not_so n = ((λ t. absurd (true≢false (sym t))), λ p. absurd (n p))

pub not_told : {P : Type 0} (b : Bool) → (IsTrue b ↔ P) → IsTrue (not b) ↔ (P → ⊥)
not_told {P} true told = ((λ t. absurd (true≢false (sym t))), λ n. absurd (n (told.0 refl)))
not_told {P} false told = ((λ t p. true≢false (sym (told.1 p))), λ n. refl)

-- an object is there, or none is
pub some_told : {X : Type 0} (b : Bool) (o p : Option X) → b ≡ is_some o → o ≡ p → IsTrue b ↔ IsSome p
some_told b o p e s = ((λ t. ap is_some (sym s) ∙ sym e ∙ t), λ i. e ∙ ap is_some s ∙ i)

pub none_told : {X : Type 0} (b : Bool) (o p : Option X) → b ≡ not (is_some o) → o ≡ p → IsTrue b ↔ IsNone p
none_told b o p e s = ((λ t. opens (is_some p) (sym t ∙ e ∙ ap (λ z. not (is_some z)) s)), λ i. e ∙ ap (λ z. not (is_some z)) s ∙ ap not i)
  where
    opens : (c : Bool) → true ≡ not c → c ≡ false
    opens true q = absurd (true≢false q)
    opens false q = refl

-- what is lent is there where the value is
pub lent_some : (o : Option (Bor Version)) → is_some (option_map (λ v. version_of v.now) o) ≡ is_some o
lent_some None = refl
lent_some (Some v) = refl

find_mapped : {A B : Type 0} (f : A → B) (test : B → Bool) (xs : List A) → find test (map f xs) ≡ option_map f (find (λ x. test (f x)) xs)
find_mapped f test [] = refl
find_mapped {A} {B} f test (x ∷ xs) = go (find_mapped f test xs) (test (f x)) refl
  where
    go : find test (map f xs) ≡ option_map f (find (λ y. test (f y)) xs) → (t : Bool) → test (f x) ≡ t → find test (map f (x ∷ xs)) ≡ option_map f (find (λ y. test (f y)) (x ∷ xs))
    go rest true e = rw e refl
    go rest false e = rw e rest

modelled : (found : Option (Bor Version)) → option_map (λ (v : Bor Version). version_of v.now) found ≡ option_map version_of (option_map (λ (v : Bor Version). v.now) found)
modelled None = refl
modelled (Some v) = refl

-- the version of a revision
pub version_found : (h : History) (versions : List Version) (revision : ℕ) (found : Option (Bor Version)) → h.versions ≡ map version_of versions
    → option_map (λ (v : Bor Version). v.now) found ≡ find (λ v. v.revision == revision) versions
    → option_map (λ (v : Bor Version). version_of v.now) found ≡ find (λ v. v.revision == revision) h.versions
version_found h versions revision found past e = modelled found ∙ ap (option_map version_of) e ∙ sym (find_mapped version_of (λ (v : histories.Version). v.revision == revision) versions)
    ∙ ap (find (λ (v : histories.Version). v.revision == revision)) (sym past)

-- clouds from one place to another
pub clouded_about : (writes : Writes) (h : History) (key : ObjectKey) (low high : ℕ) (o : Option ℕ) (b : Bool)
    → ((k : ObjectKey) (place : ℕ) → cloud.IsClouded writes k place ↔ IsClouded h k place)
    → IfSome o (IsLeastPlace (cloud.IsClouded writes key) low high) → IfNone o (HoldsNowhere (cloud.IsClouded writes key) low high) → b ≡ is_some o → IsTrue b ↔ IsCloudedWithin h key low high
clouded_about writes h key low high None b k some none e = ((λ t. absurd (true≢false (sym t ∙ e))), λ w. absurd (none w.0 w.1 w.2 ((k key w.0).1 w.3)))
clouded_about writes h key low high (Some place) b k some none e = ((λ t. (place, some.from_low, some.upto_high, (k key place).0 some.here)), λ w. e)

-- the conditions of a removal
module _ (h : History) (event : Event) (removal : Removal) (last : ℕ) where
  pub no_uid : (IfSome event.conditions.uid (λ wanted. wanted ≡ removal.uid) → ⊥) → IsTrue false ↔ MeetsPreconditions h event removal last
  no_uid n = not_so (λ m. n m.uid)

  pub no_revision : event.conditions.revision ≡ None → IfSome event.conditions.uid (λ wanted. wanted ≡ removal.uid) → IsTrue true ↔ MeetsPreconditions h event removal last
  no_revision e uid = ((λ t. record { uid = uid; revision = subst (λ o. IfSome o (λ wanted. (wanted ≡ last) ⊎ IsCloudedWithin h removal.key (removal.range.low - 1) removal.range.high)) (sym e) tt }), λ m. refl)

  pub by_revision : (b : Bool) (wanted : ℕ) → event.conditions.revision ≡ Some wanted → IfSome event.conditions.uid (λ asked. asked ≡ removal.uid)
      → (IsTrue b ↔ ((wanted ≡ last) ⊎ IsCloudedWithin h removal.key (removal.range.low - 1) removal.range.high)) → IsTrue b ↔ MeetsPreconditions h event removal last
  by_revision b wanted e uid told = (
    (λ t. record { uid = uid; revision = subst (λ o. IfSome o (λ asked. (asked ≡ last) ⊎ IsCloudedWithin h removal.key (removal.range.low - 1) removal.range.high)) (sym e) (told.0 t) }),
    λ m. told.1 (subst (λ o. IfSome o (λ asked. (asked ≡ last) ⊎ IsCloudedWithin h removal.key (removal.range.low - 1) removal.range.high)) e m.revision),
  )

-- the object to remove
module _ (h : History) (event : Event) (removal : Removal) (object : Option histories.Version) where
  pub nothing_to_remove : None ≡ object → IsTrue false ↔ MayRemove h event removal object
  nothing_to_remove e = not_so (λ m. subst (MayRemove h event removal) (sym e) m)

  pub other_to_remove : (v : histories.Version) → Some v ≡ object → (v.uid ≡ removal.uid → ⊥) → IsTrue false ↔ MayRemove h event removal object
  other_to_remove v e n = not_so (λ m. n (by (subst (MayRemove h event removal) (sym e) m)))
    where
      by : MayRemove h event removal (Some v) → v.uid ≡ removal.uid
      by m = m.0

  pub may_by : (b : Bool) (v : histories.Version) → Some v ≡ object → v.uid ≡ removal.uid → (IsTrue b ↔ MeetsPreconditions h event removal v.revision) → IsTrue b ↔ MayRemove h event removal object
  may_by b v e uid told = ((λ t. subst (MayRemove h event removal) e (uid, told.0 t)), λ m. told.1 (by (subst (MayRemove h event removal) (sym e) m)))
    where
      by : MayRemove h event removal (Some v) → MeetsPreconditions h event removal v.revision
      by m = m.1

-- beside a fault that there isn't
pub and_none : {P F : Type 0} (b : Bool) (fault : Option F) → (IsTrue b ↔ P) → is_some fault ≡ false → IsTrue b ↔ (P × (fault ≡ None))
and_none b None told e = ((λ t. (told.0 t, refl)), λ held. told.1 held.0)
and_none b (Some code) told e = absurd (true≢false e)

pub and_some : {P F : Type 0} (fault : Option F) → is_some fault ≡ true → P × (fault ≡ None) → ⊥
and_some fault e held = true≢false (sym e ∙ ap is_some held.1)

pub second_holds : {P Q : Type 0} → Q → IsTrue true ↔ (P ⊎ Q)
second_holds q = ((λ t. inr q), λ held. refl)

pub both_told : {P : Type 0} (b listable : Bool) → P → b ≡ listable → IsTrue b ↔ (P × (listable ≡ true))
both_told b listable p e = ((λ t. (p, sym e ∙ t)), λ held. e ∙ held.1)

-- all of a list, one after another
pub all_more : {X : Type 0} (P : X → Type 0) (xs : List X) (i : ℕ) (x : X) → i < length xs → x ≡ get_or xs i x → P x → All P (take i xs) → All P (take (i + 1) xs)
all_more {X} P xs i x within is p all = subst (All P) (sym (take_more xs i x within ∙ ap (λ z. take i xs ++ z ∷ []) (sym is))) (All-append P (take i xs) (x ∷ []) all (all_from P (x ∷ []) (λ y c. one y (in_cons x [] y c))))
  where
    one : (y : X) → (x ≡ y) ⊎ Contains [] y → P y
    one y (inl e) = subst P e p
    one y (inr c) = absurd (not_in_none c)

pub all_done : {X : Type 0} (P : X → Type 0) (xs : List X) (i : ℕ) → length xs ≤ i → All P (take i xs) → IsTrue true ↔ All P xs
all_done P xs i over all = ((λ t. subst (All P) (take_all i xs over) all), λ held. refl)

pub one_fails : {X : Type 0} (P : X → Type 0) (xs : List X) (i : ℕ) (x : X) → i < length xs → x ≡ get_or xs i x → (P x → ⊥) → IsTrue false ↔ All P xs
one_fails P xs i x within is n = not_so (λ all. n (all_at P xs x all (i, within, sym is)))

pub false_told : (b listable : Bool) → b ≡ listable → IsTrue (not b) ↔ (listable ≡ false)
false_told true listable e = ((λ t. absurd (true≢false (sym t))), λ f. absurd (true≢false (e ∙ f)))
false_told false listable e = ((λ t. sym e), λ f. refl)

pub lent_revision : (o : Option (Bor Version)) → option_map (λ (v : Bor Version). v.now.revision) o ≡ option_map (λ (v : histories.Version). v.revision) (option_map (λ (v : Bor Version). version_of v.now) o)
lent_revision None = refl
lent_revision (Some v) = refl

pub uid_told : (wanted : Option (List ℕ)) (uid : List ℕ) → IsTrue (asks_uid wanted uid) ↔ IfSome wanted (λ asked. asked ≡ uid)
uid_told None uid = ((λ t. tt), λ held. refl)
uid_told (Some asked) uid = ((λ t. (bytes_decides asked uid).0 t), λ held. (bytes_decides asked uid).1 held)

pub uid_same : (a b : List ℕ) (differ : Bool) → differ ≡ not (bytes_eq a b) → differ ≡ false → a ≡ b
uid_same a b differ e f = go (bytes_eq a b) refl
  where
    go : (t : Bool) → bytes_eq a b ≡ t → a ≡ b
    go true q = (bytes_decides a b).0 q
    go false q = absurd (true≢false (sym (ap not q) ∙ sym e ∙ f))

pub flipped : (r s : Bool) → s ≡ not r → r ≡ not s
flipped true s e = sym (ap not e)
flipped false s e = sym (ap not e)
