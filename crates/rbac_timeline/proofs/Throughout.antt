-- What holds up to places of caches.
use Rattle.std.proofs.Common.{◌≡◌, ℕ, ◌+◌, ◌<◌, ◌≤◌, ◌⊎◌, ⊎_elim, inl, inr, min, Option, Some, None, List, refl, subst, sym, ap, arith}
use Rattle.std.specs.BTreeMap.{BTreeMap}
use Rattle.std.specs.List.{AllPairs, Contains}
use Rattle.std.specs.Option.{IfSome, MatchOption}
use denote.Ref.{Bor}
use Rattle.std.proofs.lemmas.Bool.{cases_lt}
use Rattle.base_types.specs.declared.kubernetes.key.ObjectKey.{ObjectKey}
use Rattle.clouds.specs.FirstPlace.{IsLeastPlace}
use Rattle.clouds.specs.Items.{items_at}
use Rattle.clouds.specs.Kept.{key_order}
use Rattle.rbac_rules.specs.declared.binding.Binding.{Binding}
use Rattle.rbac_timeline.specs.declared.history.Content.{Content}
use Rattle.rbac_timeline.specs.declared.history.Content.TheVariants.{Bound as BoundTo}
use Rattle.rbac_timeline.specs.declared.history.Gap.{Gap}
use Rattle.rbac_timeline.specs.declared.history.Stored.{Stored}
use Rattle.rbac_timeline.specs.declared.lasting.Until.{Until}
use Rattle.rbac_timeline.specs.declared.version.RbacEnd.{RbacEnd}
use Rattle.rbac_timeline.specs.declared.version.RbacVersion.{RbacVersion}
use Rattle.rbac_timeline.specs.Kept.{AreStored, IsRemovalOf, stored_of}
use Rattle.rbac_timeline.specs.Known.{Known}
use Rattle.rbac_timeline.specs.Lasting.{HoldsUntil, HoldsUpTo, IsLast, NoneBegins, NoneRemoved}
use Rattle.rbac_timeline.specs.States.{IsEndOf, IsLatestVersion}
use Rattle.rbac_timeline.proofs.Holding.{one_end}

pub IsLast-all : (P : ℕ → Type 0) (place high : ℕ) → place ≤ high → ((n : ℕ) → place ≤ n → n ≤ high → P n) → IsLast P place high high
IsLast-all P place high within all = record { holds_upto = record { from = within; upto = omega arith; throughout = all }; behind = inl refl }

pub HoldsUpTo-here : (P : ℕ → Type 0) (place high : ℕ) → place ≤ high → P place → HoldsUpTo P place high place
HoldsUpTo-here P place high within here = record { from = omega arith; upto = within; throughout = λ n from upto. let same : place ≡ n = omega arith in subst P same here }

pub HoldsUpTo-map : (P Q : ℕ → Type 0) (place high reached : ℕ) → ((n : ℕ) → place ≤ n → n ≤ high → P n → Q n) → HoldsUpTo P place high reached → HoldsUpTo Q place high reached
HoldsUpTo-map P Q place high reached forth is = record {
  from = is.from;
  upto = is.upto;
  throughout = λ n from upto. let bound : reached ≤ high = is.upto in forth n from (omega arith) (is.throughout n from upto);
}

pub IsLast-map : (P Q : ℕ → Type 0) (place high last : ℕ) → ((n : ℕ) → place ≤ n → n ≤ high → P n → Q n) → ((n : ℕ) → Q n → P n) → IsLast P place high last → IsLast Q place high last
IsLast-map P Q place high last forth back is = record {
  holds_upto = HoldsUpTo-map P Q place high last forth is.holds_upto;
  behind = ⊎_elim (λ (end : last ≡ high). inl end) (λ (fails : P (last + 1) → ⊥). inr (λ holds. fails (back (last + 1) holds))) is.behind;
}

pub IsLast-both : (P Q R : ℕ → Type 0) (place high a b last : ℕ) → last ≡ min a b → ((n : ℕ) → P n → Q n → R n) → ((n : ℕ) → R n → P n × Q n) → IsLast P place high a → IsLast Q place high b
    → IsLast R place high last
IsLast-both P Q R place high a b last is join parts first second =
    let a_from : place ≤ a = first.holds_upto.from in
    let a_upto : a ≤ high = first.holds_upto.upto in
    let b_from : place ≤ b = second.holds_upto.from in
    let b_upto : b ≤ high = second.holds_upto.upto in
    record {
      holds_upto = record {
        from = omega arith;
        upto = omega arith;
        throughout = λ n from upto. join n (first.holds_upto.throughout n from (omega arith)) (second.holds_upto.throughout n from (omega arith));
      };
      behind = ⊎_elim
          (λ (less : a < b).
          let same : a ≡ last = omega arith in
          subst (λ n. (n ≡ high) ⊎ (R (n + 1) → ⊥)) same (fails_behind P a (λ n holds. (parts n holds).0) first.behind))
          (λ (more : b ≤ a).
          let same : b ≡ last = omega arith in
          subst (λ n. (n ≡ high) ⊎ (R (n + 1) → ⊥)) same (fails_behind Q b (λ n holds. (parts n holds).1) second.behind))
          (cases_lt a b);
    }
  where
    fails_behind : (S : ℕ → Type 0) (n : ℕ) → ((m : ℕ) → R m → S m) → (n ≡ high) ⊎ (S (n + 1) → ⊥) → (n ≡ high) ⊎ (R (n + 1) → ⊥)
    fails_behind S n each behind = ⊎_elim (λ (end : n ≡ high). inl end) (λ (fails : S (n + 1) → ⊥). inr (λ holds. fails (each (n + 1) holds))) behind

pub HoldsUntil-map : (P Q : ℕ → ℕ → Type 0) (first second high : ℕ) (until : Until) → ((a b : ℕ) → P a b → Q a b) → HoldsUntil P first second high until → HoldsUntil Q first second high until
HoldsUntil-map P Q first second high until forth holds = record {
  first_from = holds.first_from;
  first_upto = holds.first_upto;
  second_from = holds.second_from;
  second_upto = holds.second_upto;
  throughout = λ a b a_from a_upto b_from b_upto. forth a b (holds.throughout a b a_from a_upto b_from b_upto);
}

-- the least place is behind those at which it fails
pub least_there : (P : ℕ → Type 0) (low high place : ℕ) → low ≤ place → place ≤ high → ((n : ℕ) → low ≤ n → n < place → P n → ⊥) → P place → IsLeastPlace P low high place
least_there P low high place from upto fails here = record {
  from_low = from;
  upto_high = upto;
  here = here;
  least = λ other other_from holds. ⊎_elim
      (λ (early : other < place). absurd (fails other other_from early holds))
      (λ (late : place ≤ other). late)
      (cases_lt other place);
}

-- a search of one cache: up to where in another cache all places below this one are barred
pub record AreBarred (barred : ℕ → ℕ → Type 0) (start low high place last : ℕ) : Type 0 where
  pub from : low ≤ place
  pub upto : place ≤ high
  pub below : HoldsUpTo (λ a. (b : ℕ) → low ≤ b → b < place → barred a b) start high last

pub AreBarred-start : (barred : ℕ → ℕ → Type 0) (start low high : ℕ) → low ≤ high → start ≤ high → AreBarred barred start low high low high
AreBarred-start barred start low high range within = record {
  from = omega arith;
  upto = range;
  below = record { from = within; upto = omega arith; throughout = λ a from upto b b_from b_below. absurd (omega arith) };
}

barred_upto : (barred : ℕ → ℕ → Type 0) (start low high place last next : ℕ) (until : Until) → next ≡ min last until.first → AreBarred barred start low high place last → HoldsUntil barred start place high until
    → HoldsUpTo (λ a. (b : ℕ) → low ≤ b → b ≤ until.second → barred a b) start high next
barred_upto barred start low high place last next until is so_far block =
    let last_from : start ≤ last = so_far.below.from in
    let last_upto : last ≤ high = so_far.below.upto in
    let first_from : start ≤ until.first = block.first_from in
    record {
      from = omega arith;
      upto = omega arith;
      throughout = λ a from upto b b_from b_upto. ⊎_elim
          (λ (early : b < place). so_far.below.throughout a from (omega arith) b b_from early)
          (λ (late : place ≤ b). block.throughout a b from (omega arith) late b_upto)
          (cases_lt b place);
    }

pub AreBarred-more : (barred : ℕ → ℕ → Type 0) (start low high place last next : ℕ) (until : Until) → next ≡ min last until.first → until.second < high → AreBarred barred start low high place last
    → HoldsUntil barred start place high until → AreBarred barred start low high (until.second + 1) next
AreBarred-more barred start low high place last next until is before so_far block =
    let from : low ≤ place = so_far.from in
    let behind : place ≤ until.second = block.second_from in
    let all = barred_upto barred start low high place last next until is so_far block in
    record {
      from = omega arith;
      upto = omega arith;
      below = record { from = all.from; upto = all.upto; throughout = λ a a_from a_upto b b_from b_below. all.throughout a a_from a_upto b b_from (omega arith) };
    }

pub AreBarred-all : (barred : ℕ → ℕ → Type 0) (start low high place last next : ℕ) (until : Until) → next ≡ min last until.first → high ≤ until.second → AreBarred barred start low high place last
    → HoldsUntil barred start place high until → HoldsUpTo (λ a. (b : ℕ) → low ≤ b → b ≤ high → barred a b) start high next
AreBarred-all barred start low high place last next until is past so_far block =
    let all = barred_upto barred start low high place last next until is so_far block in
    record { from = all.from; upto = all.upto; throughout = λ a a_from a_upto b b_from b_upto. all.throughout a a_from a_upto b b_from (omega arith) }

-- from what is stored to what is known
pub NoneBegins-stored : (histories : BTreeMap ObjectKey (List Stored)) (versions : List RbacVersion) (key : ObjectKey) (place n : ℕ) (all : List Stored) → AreStored histories versions
    → items_at key_order histories key ≡ all → ((stored : Stored) → Contains all stored → place < stored.revision → n < stored.revision) → NoneBegins versions key place n
NoneBegins-stored histories versions key place n all are is none = λ version among of_key above.
    none (stored_of version) (subst (λ l. Contains l (stored_of version)) is (subst (λ k. Contains (items_at key_order histories k) (stored_of version)) of_key (are.found version among))) above

pub not_removed : (ends : List RbacEnd) → AllPairs (λ a b. (a.key ≡ b.key) × (a.last ≡ b.last) → ⊥) ends → (key : ObjectKey) (last place n : ℕ) (gap : Option Gap) → IsRemovalOf ends key last gap
    → MatchOption gap (Unit {0}) (λ g. place < g.low → n < g.low) → (version : RbacVersion) → version.key ≡ key → version.revision ≡ last → (end : RbacEnd) → IsEndOf ends version end → place < end.low → n < end.low
not_removed ends distinct key last place n None removal until version of_key revision end is before = absurd (removal version of_key revision end is)
not_removed ends distinct key last place n (Some gap) removal until version of_key revision end is before =
    let found = removal version of_key revision in
    let low : gap.low ≡ found.0.low = ap (λ (g : Gap). g.low) found.2 in
    let same : found.0.low ≡ end.low = ap (λ (e : RbacEnd). e.low) (one_end ends distinct version found.0 end found.1 is) in
    let later : n < gap.low = until (omega arith) in
    omega arith

pub NoneBegins-known : (histories : BTreeMap ObjectKey (List Stored)) (versions : List RbacVersion) (key : ObjectKey) (place n : ℕ) (all : List Stored) → AreStored histories versions
    → items_at key_order histories key ≡ all → NoneBegins versions key place n → (stored : Stored) → Contains all stored → place < stored.revision → n < stored.revision
NoneBegins-known histories versions key place n all are is none stored among above =
    let found = are.among key stored (subst (λ l. Contains l stored) (sym is) among) in
    let same : stored.revision ≡ found.0.revision = ap (λ (s : Stored). s.revision) found.3 in
    let later : n < found.0.revision = none found.0 found.1 found.2 (omega arith) in
    omega arith

-- up to where no removal that is known begins, the one that is kept doesn't
pub removal_unbegun : (known : Known) (key : ObjectKey) (last place n : ℕ) (gap : Option Gap) (version : RbacVersion) → IsLatestVersion known.versions key place version → version.revision ≡ last
    → IsRemovalOf known.ends key last gap → NoneRemoved known key place n → MatchOption gap (Unit {0}) (λ g. place < g.low → n < g.low)
removal_unbegun known key last place n None version latest revision removal none = tt
removal_unbegun known key last place n (Some gap) version latest revision removal none = λ before.
    let found = removal version latest.of_key revision in
    let low : gap.low ≡ found.0.low = ap (λ (g : Gap). g.low) found.2 in
    let later : n < found.0.low = none version found.0 latest found.1 (omega arith) in
    omega arith

-- two latest versions have one revision
pub one_revision : (versions : List RbacVersion) (key : ObjectKey) (place : ℕ) (a b : RbacVersion) → IsLatestVersion versions key place a → IsLatestVersion versions key place b → a.revision ≡ b.revision
one_revision versions key place a b first second =
    let up : a.revision ≤ b.revision = second.latest a first.known first.of_key first.upto in
    let down : b.revision ≤ a.revision = first.latest b second.known second.of_key second.upto in
    omega arith

-- the role that is found in what a version holds
pub IfSome-role : (T : ObjectKey → Type 0) (content : Content) (found : Option (Bor ObjectKey)) → IfSome found (λ role. (binding : Binding) × (content ≡ BoundTo binding role.now))
    → ((binding : Binding) (role : ObjectKey) → content ≡ BoundTo binding role → T role) → IfSome found (λ role. T role.now)
IfSome-role T content None some each = tt
IfSome-role T content (Some role) some each = each some.0 role.now some.1
