-- The fault of a write, by what is found at its revision.
use Rattle.std.proofs.Common.{rules, ◌≡◌, ◌≢◌, ℕ, ◌+◌, ◌-◌, ◌++◌, ◌<◌, ◌≤◌, ◌==◌, ◌⊎◌, inl, inr, Bool, true, false, nat_le, List, [], ◌∷◌, length, map, Option, Some, None, slice_get, option_map, find, Any, Contains, refl, sym, ap, ◌∙◌, subst, arith}
use Rattle.std.specs.BTreeMap.{get}
use Rattle.std.specs.Ordering.{nat_cmp}
use Rattle.std.proofs.lemmas.Bool.Decides.{eqb_tells}
use Rattle.std.proofs.lemmas.List.{length-append}
use Rattle.std.proofs.lemmas.Option.{same_Some}
use Rattle.base_types.specs.declared.verdict.claim.Reason.{Reason}
use Rattle.base_types.specs.declared.verdict.claim.Reason.TheVariants.{U3}
use Rattle.base_types.specs.declared.kubernetes.key.ObjectKey.{ObjectKey}
use Rattle.history_model.proofs.KeyLemmas.{key_is, key_differs}
use Rattle.history_model.proofs.Members.{all_at}
use Rattle.history_model.proofs.OneList.{first_making_same}
use Rattle.history_model.proofs.WordLemmas.{IsMadeBy, found_in, eq_test, made_version, same_making, test_eq}
use Rattle.history_model.specs.Events as model
use Rattle.history_model.specs.Groups.{Making, IsMaking, IsAnsweredWith, IsKeyOf}
use Rattle.history_model.specs.Histories as past
use Rattle.history_model.specs.Histories.{History, ByEvent, IsEvent}
use Rattle.history_model.specs.Makers.{IsMadeVersion, IsSnapshotVersion}
use Rattle.history_model.specs.Making.{IsEntryAfter, IsEntryBefore, IsLeastFault}
use Rattle.history_model.specs.Readable.{IsReadable}
use Rattle.history_model.specs.States.{latest}
use Rattle.history_model.specs.Words.{answer_word, is_by, word, write_word, At, Makes, Strays}
use Rattle.node_number.proofs.Growing.{slice_get-last}
use Rattle.object_past.specs.Faulted.{AreFaults, IsFaultBy, IsFaultOf, IsLeastFoundFault}
use Rattle.object_past.specs.Modelled.{maker_of, version_of}
use Rattle.object_past.specs.Past.{Recorded, HasPast}
use Rattle.object_past.specs.declared.version.Maker.{Maker}
use Rattle.object_past.specs.declared.version.Maker.TheVariants.{Snapshot, Event, Unknown}
use Rattle.object_past.specs.declared.version.Version.{Version}
use Rattle.past_building.proofs.Mapped.{any_in}
use Rattle.past_building.proofs.Numbered.{making_from}
use Rattle.past_building.specs.Written.{making_at, AreAllJudged, IsJudgedAt}
use Rattle.past_building.specs.declared.maker.JudgedWrite.{JudgedWrite}
use Rattle.write_groups.specs.Members.{AreGroupsOf, IsGroupOf}
use Rattle.write_groups.specs.Modelled.{HasEvents}
use Rattle.write_groups.specs.declared.event.LogEvent.{LogEvent}
use Rattle.write_groups.specs.declared.groups.Group.{Group}
use Rattle.log_context.proofs.SelectorLemmas.{other_place}
use Rattle.log_context.specs.Makings.{AreFaultsUpTo, AreMakersCodes, AreMakingsOf, IsCodeIn, Makings, code_in, making_code}

-- what is found in a list is found in what is made of it
find_map : {X Y : Type 0} (test : Y → Bool) (f : X → Y) (xs : List X) → find test (map f xs) ≡ option_map f (find (λ x. test (f x)) xs)
find_map test f [] = refl
find_map {X} {Y} test f (x ∷ xs) = go (test (f x)) refl (find_map test f xs)
  where
    go : (b : Bool) → test (f x) ≡ b → find test (map f xs) ≡ option_map f (find (λ z. test (f z)) xs) → find test (map f (x ∷ xs)) ≡ option_map f (find (λ z. test (f z)) (x ∷ xs))
    go true e rest = rw e refl
    go false e rest = rw e rest

le_true : (a b : ℕ) → a ≤ b → nat_le a b ≡ true
le_true a b l = search rules

le_false : (a b : ℕ) → b < a → nat_le a b ≡ false
le_false a b l = search rules

-- the object before a write is one
pub entry_same : (h : History) (m : Making) (a b : Option past.Version) → IsEntryBefore h m a → IsEntryBefore h m b → a ≡ b
entry_same h m a b = go (latest h.versions m.item.key (m.item.revision - 1))
  where
    go : (found : Option past.Version) → IsEntryAfter h m found a → IsEntryAfter h m found b → a ≡ b
    go None p q = p ∙ sym q
    go (Some v) (inl p) (inl q) = p.1 ∙ sym q.1
    go (Some v) (inl p) (inr q) = absurd (q.0 p.0)
    go (Some v) (inr p) (inl q) = absurd (p.0 q.0)
    go (Some v) (inr p) (inr q) = p.1 ∙ sym q.1

by_other : (number : ℕ) (maker : Maker) → maker ≢ Event number → is_by number (maker_of maker) ≡ false
by_other number Snapshot differs = refl
by_other number (Event n) differs = go (n == number) refl
  where
    go : (b : Bool) → (n == number) ≡ b → (n == number) ≡ false
    go true e = absurd (differs (ap Event (eq_test n number e)))
    go false e = e
by_other number Unknown differs = refl

by_self : (number : ℕ) (maker : Maker) → maker ≡ Event number → is_by number (maker_of maker) ≡ true
by_self number maker e = ap (λ w. is_by number (maker_of w)) e ∙ test_eq number number refl

module _ (h : History) (m : Making) (r : IsReadable h) (k : IsMaking h m) where
  write_fault : (fault : Option Reason) → IsLeastFoundFault h m fault → IsFaultBy h m.number m.event At fault
  write_fault fault f = subst (λ answer. Rattle.object_past.specs.Faulted.IsFindingFault h m.number m.event answer fault) (sym k.made) f

  -- a write that was answered with a revision up to the start
  pub old_fault : (fault : Option Reason) → m.item.revision ≤ h.start → IsLeastFoundFault h m fault → IsFaultOf h m.number m.event fault
  old_fault fault l f = subst (λ w. IsFaultBy h m.number m.event w fault) (sym is) (write_fault fault f)
    where
      is : word h m.number m.event ≡ At
      is = ap (answer_word h m.number m.event) k.made ∙ (let e = le_true m.item.revision h.start l in rw e refl)

  module _ (known : Recorded) (has : HasPast known h) (above : h.start < m.item.revision) where
    found : Option Version
    found = find (λ v. v.revision == m.item.revision) known.versions

    word_at : (o : Option Version) → find (λ (v : Version). v.revision == m.item.revision) known.versions ≡ o → word h m.number m.event ≡ write_word m (option_map version_of o)
    word_at o e = ap (answer_word h m.number m.event) k.made ∙ (let f = le_false m.item.revision h.start above in rw f
        (ap (write_word m) (ap (find (λ v. v.revision == m.item.revision)) has.versions ∙ find_map (λ v. v.revision == m.item.revision) version_of known.versions ∙ ap (option_map version_of) e)))

    pub lacking_fault : (fault : Option Reason) → find (λ (v : Version). v.revision == m.item.revision) known.versions ≡ None → IsLeastFoundFault h m fault → IsFaultOf h m.number m.event fault
    lacking_fault fault e f = subst (λ w. IsFaultBy h m.number m.event w fault) (sym (word_at None e)) (write_fault fault f)

    module _ (v : Version) (e : find (λ (w : Version). w.revision == m.item.revision) known.versions ≡ Some v) where
      pub stray_fault : v.key ≢ m.item.key → IsFaultOf h m.number m.event (Some U3)
      stray_fault differs = subst (λ w. IsFaultBy h m.number m.event w (Some U3)) (sym is) refl
        where
          is : word h m.number m.event ≡ Strays
          is = word_at (Some v) e ∙ (let f = key_differs v.key m.item.key differs in rw f refl)

      pub finding_fault : (fault : Option Reason) → v.key ≡ m.item.key → v.maker ≢ Event m.number → IsLeastFoundFault h m fault → IsFaultOf h m.number m.event fault
      finding_fault fault same other f = subst (λ w. IsFaultBy h m.number m.event w fault) (sym is) (write_fault fault f)
        where
          is : word h m.number m.event ≡ At
          is = word_at (Some v) e ∙ (let p = key_is v.key m.item.key same in let q = by_other m.number v.maker other in rw (p, q) refl)

      pub maker_fault : (makings : Makings) → AreMakersCodes h makings → v.key ≡ m.item.key → v.maker ≡ Event m.number → IsFaultOf h m.number m.event (making_code makings m.number)
      maker_fault makings codes same maker = subst (λ w. IsFaultBy h m.number m.event w (making_code makings m.number)) (sym is) by
        where
          is : word h m.number m.event ≡ Makes m
          is = word_at (Some v) e ∙ (let p = key_is v.key m.item.key same in let q = by_self m.number v.maker maker in rw (p, q) refl)

          among : Contains h.versions (version_of v)
          among = (found_in (λ (w : past.Version). w.revision == m.item.revision) h.versions (version_of v)
              (ap (find (λ w. w.revision == m.item.revision)) has.versions ∙ find_map (λ w. w.revision == m.item.revision) version_of known.versions ∙ ap (option_map version_of) e)).0

          code : (w : Making) × (w.number ≡ m.number) × IsMaking h w × ((before : Option past.Version) × IsEntryBefore h w before × IsLeastFault h w before (making_code makings m.number))
          code = codes (version_of v) m.number among (ap maker_of maker)

          one : code.0 ≡ m
          one = let s = same_making h code.0 m code.2 k code.1 in λ i. record { number = code.1 i; event = s.0 i; item = s.1 i; created = s.2 i }

          by : (before : Option past.Version) → IsEntryBefore h m before → IsLeastFault h m before (making_code makings m.number)
          by before entry = subst (λ b. IsLeastFault h m b (making_code makings m.number))
              (entry_same h m code.3.0 before (subst (λ w. IsEntryBefore h w code.3.0) one code.3.1) entry)
              (subst (λ w. IsLeastFault h w code.3.0 (making_code makings m.number)) one code.3.2)

-- one revision belongs to one key
key_same : (h : History) (revision : ℕ) (a b : ObjectKey) → IsReadable h → IsKeyOf h revision a → IsKeyOf h revision b → a ≡ b
key_same h revision a b r x y = sym x.of_key ∙ ap (λ (z : model.Item). z.key) (same_making h x.m y.m x.first.holds.making y.first.holds.making
    (first_making_same h (IsAnsweredWith h revision) x.m y.m r (λ m k. k.making) x.first y.first)).1 ∙ y.of_key

module _ (h : History) (events : List LogEvent) (groups : List Group) (judged : List JudgedWrite) (makings : Makings) (r : IsReadable h) (all : HasEvents events h)
    (grouped : AreGroupsOf h groups) (are : AreAllJudged h events groups judged) (of : AreMakingsOf judged makings) where
  belongs_to : (v : past.Version) (number : ℕ) → Contains h.versions v → v.maker ≡ ByEvent number → IsKeyOf h v.revision v.key
  belongs_to v number c e = go (r.versions.sound v c)
    where
      go : IsSnapshotVersion h v ⊎ IsMadeVersion h v → IsKeyOf h v.revision v.key
      go (inl s) = absurd (cc (s.maker, e))
      go (inr s) = s.belongs

  judged_one : (m : Making) (v : past.Version) → IsMadeBy h m v → (one : JudgedWrite) × Contains judged one × (one.number ≡ m.number)
  judged_one m v b = go (grouped.full m b.making (subst (λ n. h.start < n) b.at_revision b.above))
    where
      go : Any (λ group. group.revision ≡ m.item.revision) groups → (one : JudgedWrite) × Contains judged one × (one.number ≡ m.number)
      go some = by (are.full group m.number known (is.full m (record { making = b.making; of_key = sym b.of_key ∙ same; at_revision = sym at })))
        where
          pair : (group : Group) × Contains groups group × (group.revision ≡ m.item.revision)
          pair = any_in (λ (group : Group). group.revision ≡ m.item.revision) groups some

          group : Group
          group = pair.0

          known : Contains groups group
          known = pair.1

          at : group.revision ≡ m.item.revision
          at = pair.2

          is : IsGroupOf h group
          is = all_at (IsGroupOf h) groups group grouped.sound known

          same : v.key ≡ group.key
          same = key_same h v.revision v.key group.key r (belongs_to v m.number b.known b.maker) (subst (λ n. IsKeyOf h n group.key) (at ∙ sym b.at_revision) is.belongs)

          by : Any (λ one. one.number ≡ m.number) judged → (one : JudgedWrite) × Contains judged one × (one.number ≡ m.number)
          by any = let p = any_in (λ (one : JudgedWrite). one.number ≡ m.number) judged any in (p.0, p.1, p.2)

  pub makers_codes : AreMakersCodes h makings
  makers_codes v number c e = go (made_version h v number r c e)
    where
      go : (m : Making) × (m.number ≡ number) × IsMadeBy h m v
          → (m : Making) × (m.number ≡ number) × IsMaking h m × ((before : Option past.Version) × IsEntryBefore h m before × IsLeastFault h m before (making_code makings number))
      go (m, n, b) = (m, n, b.making, at (get nat_cmp makings number) (of number) refl)
        where
          one : (one : JudgedWrite) × Contains judged one × (one.number ≡ m.number)
          one = judged_one m v b

          at : (o : Option (Option Reason)) → IsCodeIn judged number o → get nat_cmp makings number ≡ o
              → (before : Option past.Version) × IsEntryBefore h m before × IsLeastFault h m before (making_code makings number)
          at None none q = absurd (none one.0 one.1 (one.2 ∙ n))
          at (Some code) (judge, known, numbered, is) q = by (all_at (λ (x : JudgedWrite). IsJudgedAt h events x.number x) judged judge are.sound known)
            where
              by : IsJudgedAt h events judge.number judge → (before : Option past.Version) × IsEntryBefore h m before × IsLeastFault h m before (making_code makings number)
              by (own, (w, taken, made)) = (
                made.0,
                subst (λ x. IsEntryBefore h x made.0) same made.1,
                subst (λ z. IsLeastFault h m made.0 z) (is ∙ sym (ap code_in q)) (subst (λ x. IsLeastFault h x made.0 judge.making) same made.2),
              )
                where
                  same : w ≡ m
                  same = same_Some w m (sym taken ∙ ap (making_at events) (numbered ∙ sym n) ∙ making_from h events m all b.making)

-- the fault of one more event
pub faults_next : (h : History) (n : ℕ) (event : model.Event) (fault : Option Reason) (faults : List (Option Reason)) → IsEvent h n event → IsFaultOf h n event fault
    → AreFaultsUpTo h n faults → AreFaultsUpTo h (n + 1) (faults ++ fault ∷ [])
faults_next h n event fault faults at is are = record {
  all = let long = are.all in let more : length (faults ++ fault ∷ []) ≡ length faults + 1 = length-append faults (fault ∷ []) in omega (arith, long, more);
  each = λ number e f known found. go number e f known found (eqb_tells number n);
}
  where
    go : (number : ℕ) (e : model.Event) (f : Option Reason) → IsEvent h number e → slice_get (faults ++ fault ∷ []) number ≡ Some f
        → (((number == n) ≡ true) × (number ≡ n)) ⊎ (((number == n) ≡ false) × (number ≢ n)) → IsFaultOf h number e f
    go number e f known found (inl (t, same)) = subst (λ z. IsFaultOf h number e z) last (subst (λ z. IsFaultOf h number z fault) one (subst (λ z. IsFaultOf h z event fault) (sym same) is))
      where
        one : event ≡ e
        one = same_Some event e (sym at ∙ ap (slice_get h.events) (sym same) ∙ known)

        last : fault ≡ f
        last = same_Some fault f (sym (slice_get-last faults fault) ∙ ap (slice_get (faults ++ fault ∷ [])) (are.all ∙ sym same) ∙ found)
    go number e f known found (inr (t, other)) = are.each number e f known (sym (other_place faults fault number (λ q. other (q ∙ are.all))) ∙ found)

pub faults_all : (h : History) (n : ℕ) (faults : List (Option Reason)) → n ≡ length h.events → AreFaultsUpTo h n faults → AreFaults h faults
faults_all h n faults whole are = record { all = are.all ∙ whole; each = are.each }
