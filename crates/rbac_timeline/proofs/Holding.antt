-- From what is kept to what is known.
use Rattle.std.proofs.Common.{◌≡◌, ◌≢◌, ℕ, ◌<◌, ◌≤◌, ◌↔◌, ⊎_elim, Option, Some, None, List, [], length, get_or, sym, ◌∙◌, subst, ap, arith}
use Rattle.std.specs.BTreeMap.{BTreeMap}
use Rattle.std.specs.List.{AllPairs, Contains}
use Rattle.std.specs.Option.{IfNone, IfSome, MatchOption}
use denote.Ref.{Bor}
use Rattle.std.proofs.lemmas.Bool.{cases_order}
use Rattle.std.proofs.lemmas.List.{get_or_default}
use Rattle.base_types.specs.declared.kubernetes.key.ObjectKey.{ObjectKey}
use Rattle.clouds.specs.Items.{items_at}
use Rattle.clouds.specs.Kept.{key_order}
use Rattle.rbac_timeline.specs.declared.history.Gap.{Gap}
use Rattle.rbac_timeline.specs.declared.history.Stored.{Stored}
use Rattle.rbac_timeline.specs.declared.version.RbacEnd.{RbacEnd}
use Rattle.rbac_timeline.specs.declared.version.RbacVersion.{RbacVersion}
use Rattle.rbac_timeline.specs.Kept.{AreGaps, AreStored, IsLatestStored, IsRemovalOf, gap_of, stored_of}
use Rattle.rbac_timeline.specs.States.{IsEndOf, IsLatestVersion, NoneUpto}

pub latest_version : (histories : BTreeMap ObjectKey (List Stored)) (versions : List RbacVersion) (key : ObjectKey) (place : ℕ) (stored : Stored) → AreStored histories versions
    → IsLatestStored (items_at key_order histories key) place stored → (version : RbacVersion) × IsLatestVersion versions key place version × (stored ≡ stored_of version)
latest_version histories versions key place stored are latest =
    let found = are.among key stored latest.among in
    let version = found.0 in
    let same : stored.revision ≡ version.revision = ap (λ (s : Stored). s.revision) found.3 in
    let upto = latest.upto in (
      version,
      record {
        known = found.1;
        of_key = found.2;
        upto = omega arith;
        latest = λ other among of_key other_upto.
            let there = subst (λ k. Contains (items_at key_order histories k) (stored_of other)) of_key (are.found other among) in
            let bound : other.revision ≤ stored.revision = latest.latest (stored_of other) there other_upto in
            omega arith;
      },
      found.3,
    )

pub no_version : (histories : BTreeMap ObjectKey (List Stored)) (versions : List RbacVersion) (key : ObjectKey) (place : ℕ) → AreStored histories versions
    → ((stored : Stored) → Contains (items_at key_order histories key) stored → place < stored.revision) → NoneUpto versions key place
no_version histories versions key place are none = λ version among of_key.
    none (stored_of version) (subst (λ k. Contains (items_at key_order histories k) (stored_of version)) of_key (are.found version among))

-- a version has one removal
pub one_end : (ends : List RbacEnd) → AllPairs (λ a b. (a.key ≡ b.key) × (a.last ≡ b.last) → ⊥) ends → (version : RbacVersion) (a b : RbacEnd) → IsEndOf ends version a → IsEndOf ends version b → a ≡ b
one_end ends distinct version a b is_a is_b =
    let key : a.key ≡ b.key = is_a.of_key ∙ sym is_b.of_key in
    let last : a.last ≡ b.last = is_a.of_last ∙ sym is_b.of_last in
    let in_a = is_a.known in
    let in_b = is_b.known in
    let b_there : get_or ends in_b.0 a ≡ b = get_or_default ends in_b.0 a b in_b.1 ∙ in_b.2 in
    ⊎_elim
    (λ same. sym in_a.2 ∙ ap (λ k. get_or ends k a) same ∙ b_there)
    (λ apart. ⊎_elim
    (λ before. absurd (distinct in_a.0 in_b.0 a before in_b.1
    (ap (λ (e : RbacEnd). e.key) in_a.2 ∙ key ∙ sym (ap (λ (e : RbacEnd). e.key) b_there), ap (λ (e : RbacEnd). e.last) in_a.2 ∙ last ∙ sym (ap (λ (e : RbacEnd). e.last) b_there))))
    (λ behind. absurd (distinct in_b.0 in_a.0 a behind in_a.1
    (ap (λ (e : RbacEnd). e.key) b_there ∙ sym key ∙ sym (ap (λ (e : RbacEnd). e.key) in_a.2), ap (λ (e : RbacEnd). e.last) b_there ∙ sym last ∙ sym (ap (λ (e : RbacEnd). e.last) in_a.2))))
    apart)
    (cases_order in_a.0 in_b.0)

-- the removal that is kept behind a version is its removal
pub end_kept : (gaps : BTreeMap ObjectKey (List Gap)) (ends : List RbacEnd) (key : ObjectKey) (gap : Gap) (version : RbacVersion) → AreGaps gaps ends → version.key ≡ key
    → Contains (items_at key_order gaps key) gap → gap.last ≡ version.revision → (end : RbacEnd) × IsEndOf ends version end × (gap ≡ gap_of end)
end_kept gaps ends key gap version are of_key among last =
    let found = are.among key gap among in
    let end = found.0 in
    let same : gap.last ≡ end.last = ap (λ (g : Gap). g.last) found.3 in
    (end, record { known = found.1; of_key = found.2 ∙ sym of_key; of_last = sym same ∙ last }, found.3)

pub no_end : (gaps : BTreeMap ObjectKey (List Gap)) (ends : List RbacEnd) (key : ObjectKey) (version : RbacVersion) → AreGaps gaps ends → version.key ≡ key
    → ((gap : Gap) → Contains (items_at key_order gaps key) gap → gap.last ≢ version.revision) → (end : RbacEnd) → IsEndOf ends version end → ⊥
no_end gaps ends key version are of_key none end is =
    none (gap_of end) (subst (λ k. Contains (items_at key_order gaps k) (gap_of end)) (is.of_key ∙ of_key) (are.found end is.known)) is.of_last

pub none_in_empty : (stored : List Stored) (place : ℕ) → stored ≡ [] → (s : Stored) → Contains stored s → place < s.revision
none_in_empty stored place empty s among = let none : length stored ≡ 0 = ap (λ (l : List Stored). length l) empty in let within = among.1 in absurd (omega arith)

-- what was found among the key's versions, in whatever way it is shown
pub IfSome-version : (histories : BTreeMap ObjectKey (List Stored)) (versions : List RbacVersion) (key : ObjectKey) (place : ℕ) (found : Option (Bor Stored)) (all : List Stored)
    → AreStored histories versions → items_at key_order histories key ≡ all → IfSome found (λ s. IsLatestStored all place s.now)
    → IfSome found (λ s. (version : RbacVersion) × IsLatestVersion versions key place version × (s.now ≡ stored_of version))
IfSome-version histories versions key place None all are is latest = tt
IfSome-version histories versions key place (Some s) all are is latest =
    latest_version histories versions key place s.now are (subst (λ l. IsLatestStored l place s.now) (sym is) latest)

pub IfNone-version : (histories : BTreeMap ObjectKey (List Stored)) (versions : List RbacVersion) (key : ObjectKey) (place : ℕ) (found : Option (Bor Stored)) (all : List Stored)
    → AreStored histories versions → items_at key_order histories key ≡ all → IfNone found ((s : Stored) → Contains all s → place < s.revision) → IfNone found (NoneUpto versions key place)
IfNone-version histories versions key place None all are is none =
    no_version histories versions key place are (subst (λ l. (s : Stored) → Contains l s → place < s.revision) (sym is) none)
IfNone-version histories versions key place (Some s) all are is none = tt

-- the removal that was found among the key's removals
pub IsRemovalOf-found : (gaps : BTreeMap ObjectKey (List Gap)) (ends : List RbacEnd) (key : ObjectKey) (last : ℕ) (found : Option Gap) (all : List Gap) → AreGaps gaps ends → items_at key_order gaps key ≡ all
    → IfSome found (Contains all) → IfSome found (λ gap. gap.last ≡ last) → IfNone found ((gap : Gap) → Contains all gap → gap.last ≢ last) → IsRemovalOf ends key last found
IsRemovalOf-found gaps ends key last None all are is among of_last none = λ version of_key revision end is_end.
    no_end gaps ends key version are of_key (λ gap there same. none gap (subst (λ l. Contains l gap) is there) (same ∙ revision)) end is_end
IsRemovalOf-found gaps ends key last (Some gap) all are is among of_last none = λ version of_key revision.
    end_kept gaps ends key gap version are of_key (subst (λ l. Contains l gap) (sym is) among) (of_last ∙ sym revision)

pub no_gap : (gaps : List Gap) (last : ℕ) → gaps ≡ [] → (gap : Gap) → Contains gaps gap → gap.last ≢ last
no_gap gaps last empty gap among = let none : length gaps ≡ 0 = ap (λ (l : List Gap). length l) empty in let within = among.1 in absurd (omega arith)

-- what the removal says of the version's object
pub not_gone_by : (ends : List RbacEnd) → AllPairs (λ a b. (a.key ≡ b.key) × (a.last ≡ b.last) → ⊥) ends → (key : ObjectKey) (last place : ℕ) (gap : Option Gap) → IsRemovalOf ends key last gap
    → (version : RbacVersion) → version.key ≡ key → version.revision ≡ last → MatchOption gap (Unit {0}) (λ g. place < g.high) ↔ ((end : RbacEnd) → IsEndOf ends version end → place < end.high)
not_gone_by ends distinct key last place None removal version of_key revision = ((λ always end is. absurd (removal version of_key revision end is)), (λ all. tt))
not_gone_by ends distinct key last place (Some gap) removal version of_key revision =
    let found = removal version of_key revision in
    let high : gap.high ≡ found.0.high = ap (λ (g : Gap). g.high) found.2 in (
      (λ before end is. let same : found.0.high ≡ end.high = ap (λ (e : RbacEnd). e.high) (one_end ends distinct version found.0 end found.1 is) in omega arith),
      (λ all. let before : place < found.0.high = all found.0 found.1 in omega arith),
    )

pub certain_by : (ends : List RbacEnd) → AllPairs (λ a b. (a.key ≡ b.key) × (a.last ≡ b.last) → ⊥) ends → (key : ObjectKey) (last place : ℕ) (gap : Option Gap) → IsRemovalOf ends key last gap
    → (version : RbacVersion) → version.key ≡ key → version.revision ≡ last → MatchOption gap (Unit {0}) (λ g. place < g.low) ↔ ((end : RbacEnd) → IsEndOf ends version end → place < end.low)
certain_by ends distinct key last place None removal version of_key revision = ((λ always end is. absurd (removal version of_key revision end is)), (λ all. tt))
certain_by ends distinct key last place (Some gap) removal version of_key revision =
    let found = removal version of_key revision in
    let low : gap.low ≡ found.0.low = ap (λ (g : Gap). g.low) found.2 in (
      (λ before end is. let same : found.0.low ≡ end.low = ap (λ (e : RbacEnd). e.low) (one_end ends distinct version found.0 end found.1 is) in omega arith),
      (λ all. let before : place < found.0.low = all found.0 found.1 in omega arith),
    )

pub both_iff : {P Q R : Type 0} → P ↔ Q → Q ↔ R → P ↔ R
both_iff pq qr = ((λ p. qr.0 (pq.0 p)), (λ r. pq.1 (qr.1 r)))
