-- Who made a revision, found among the writes of its group one after another.
use Rattle.std.proofs.Common.{◌≡◌, ℕ, ◌<◌, ⊎_elim, Bool, true, false, ◌&&◌, List, [], ◌∷◌, Option, Some, None, option_and_then, option_map, refl, sym, ap, ◌∙◌, subst, true≢false}
use Rattle.std.specs.Prelude.{◌↔◌, IsTrue, is_none, is_some, if◌then◌else◌, Contains, find}
use Rattle.base_types.specs.declared.verdict.claim.Reason.{Reason}
use Rattle.base_types.specs.declared.kubernetes.key.ObjectKey.{ObjectKey}
use Rattle.history_model.proofs.JudgingLemmas.{judged_once}
use Rattle.history_model.proofs.Members.{here, there, in_cons, not_in_none, pairs_head, pairs_tail, all_at}
use Rattle.history_model.specs.Clouds.{MayBeUnrecorded}
use Rattle.history_model.specs.Events as event
use Rattle.history_model.specs.Groups.{Making, IsMaking, IsKeyOf, IsMember, IsFirstMaking}
use Rattle.history_model.specs.Histories as past
use Rattle.history_model.specs.Judging.{IsJudgedBefore}
use Rattle.history_model.specs.Makers.{CouldHaveMade, MustHaveMade, NoMaking, IsMakerOf, IsMadeVersion, IsShowing, sole, able, unrecorded, faulty}
use Rattle.history_model.specs.Making.{HasFault, IsEntryBefore, IsLeastFault}
use Rattle.write_groups.specs.Members.{AreInOrder, IsGroupOf}
use Rattle.write_groups.specs.Modelled.{HasEvents}
use Rattle.write_groups.specs.declared.event.LogEvent.{LogEvent}
use Rattle.write_groups.specs.declared.groups.Group.{Group}
use Rattle.past_building.proofs.Entries.{entry_same}
use Rattle.past_building.proofs.Mapped.{no_true}
use Rattle.past_building.proofs.Numbered.{making_from, making_is, making_once}
use Rattle.past_building.proofs.Telling.{found_is_least}
use Rattle.past_building.specs.Chosen.{finding_at, first_write, must_have_made, first_maker, first_able, or_maker, unseen_maker, maker_among, shown_by}
use Rattle.past_building.specs.Faults.{found_code}
use Rattle.past_building.specs.Removals.{or_first}
use Rattle.object_past.specs.Faulted.{IsLeastFoundFault}
use Rattle.object_past.specs.Modelled.{maker_of, version_of}
use Rattle.object_past.specs.declared.version.Version.{Version}
use Rattle.past_building.specs.Written.{making_at, IsJudgement, AreJudged}
use Rattle.past_building.specs.declared.maker.JudgedWrite.{JudgedWrite}
use Rattle.object_past.specs.declared.version.Maker.{Maker}
use Rattle.object_past.specs.declared.version.Maker.TheVariants.{Event}

-- the first of the numbers whose judgement passes a test
pub record IsFoundFirst (h : past.History) (members : List ℕ) (Holds : Making → Type 0) (number : ℕ) : Type 0 where
  pub m : Making
  pub numbered : m.number ≡ number
  pub making : IsMaking h m
  pub known : Contains members number
  pub holds : Holds m
  pub first : (other : Making) → IsMaking h other → Holds other → Contains members other.number → IsJudgedBefore other.event m.event → ⊥

-- the test tells of what holds
abbrev pub Tells : past.History → (ℕ → Type 0) → (Making → Type 0) → (JudgedWrite → Bool) → Type 0
Tells h Known Holds test = (m : Making) (judged : JudgedWrite) → IsMaking h m → Known m.number → judged.number ≡ m.number → IsJudgement h m judged → IsTrue (test judged) ↔ Holds m

abbrev pub IsSearched : past.History → List ℕ → (Making → Type 0) → Option ℕ → Type 0
IsSearched h members Holds None = (other : Making) → IsMaking h other → Contains members other.number → Holds other → ⊥
IsSearched h members Holds (Some number) = IsFoundFirst h members Holds number

number_of : Option JudgedWrite → Option ℕ
number_of found = option_map (λ one. one.number) found

pub searched : (h : past.History) (events : List LogEvent) (Known : ℕ → Type 0) (Holds : Making → Type 0) (test : JudgedWrite → Bool) → HasEvents events h → Tells h Known Holds test
    → (members : List ℕ) (judged : List JudgedWrite) → ((n : ℕ) → Contains members n → Known n) → AreInOrder h members → AreJudged h events members judged
    → IsSearched h members Holds (option_map (λ one. one.number) (find test judged))
searched h events Known Holds test all tells [] [] known order zipped = λ other making among holds. not_in_none among
searched h events Known Holds test all tells [] (j ∷ judged) known order zipped = absurd zipped
searched h events Known Holds test all tells (n ∷ members) [] known order zipped = absurd zipped
searched h events Known Holds test all tells (n ∷ members) (j ∷ judged) known order zipped = by (test j) refl
    (searched h events Known Holds test all tells members judged (λ k among. known k (there n k members among)) (pairs_tail (λ a b. (x y : event.Event) → past.IsEvent h a x → past.IsEvent h b y → IsJudgedBefore x y) n members order) zipped.1)
  where
    m : Making
    m = zipped.0.1.0

    at_m : making_at events n ≡ Some m
    at_m = zipped.0.1.1

    is_m : IsMaking h m
    is_m = (making_is h events n m all at_m).0

    number_m : m.number ≡ n
    number_m = (making_is h events n m all at_m).1

    told : IsTrue (test j) ↔ Holds m
    told = tells m j is_m (subst Known (sym number_m) (known n (here n members))) (zipped.0.0 ∙ sym number_m) zipped.0.1.2

    by : (t : Bool) → test j ≡ t → IsSearched h members Holds (option_map (λ one. one.number) (find test judged))
        → IsSearched h (n ∷ members) Holds (option_map (λ one. one.number) (if t then Some j else find test judged))
    by true is rest = subst (λ k. IsFoundFirst h (n ∷ members) Holds k) (number_m ∙ sym zipped.0.0) (record {
      m = m;
      numbered = refl;
      making = is_m;
      known = subst (Contains (n ∷ members)) (sym number_m) (here n members);
      holds = told.0 is;
      first = λ other making holds among before. ⊎_elim
          (λ same. let one = making_once h other m making is_m (sym same ∙ sym number_m) in
          judged_once m.event m.event (subst (λ x. IsJudgedBefore x.event m.event) one before) (subst (λ x. IsJudgedBefore x.event m.event) one before))
          (λ later. judged_once other.event m.event before
          (all_at (λ b. (x y : event.Event) → past.IsEvent h n x → past.IsEvent h b y → IsJudgedBefore x y) members other.number
          (pairs_head (λ a b. (x y : event.Event) → past.IsEvent h a x → past.IsEvent h b y → IsJudgedBefore x y) n members order) later
          m.event other.event (subst (λ k. past.IsEvent h k m.event) number_m is_m.known) making.known))
          (in_cons n members other.number among);
    })
    by false is rest = go (option_map (λ one. one.number) (find test judged)) rest
      where
        not_m : Holds m → ⊥
        not_m holds = true≢false (sym (told.1 holds) ∙ is)

        not_here : (other : Making) → IsMaking h other → Holds other → n ≡ other.number → ⊥
        not_here other making holds same = not_m (subst Holds (making_once h other m making is_m (sym same ∙ sym number_m)) holds)

        go : (found : Option ℕ) → IsSearched h members Holds found → IsSearched h (n ∷ members) Holds found
        go None none = λ other making among holds. ⊎_elim
            (λ same. not_here other making holds same)
            (λ later. none other making later holds)
            (in_cons n members other.number among)
        go (Some number) found = record {
          m = found.m;
          numbered = found.numbered;
          making = found.making;
          known = there n number members found.known;
          holds = found.holds;
          first = λ other making holds among before. ⊎_elim
              (λ same. not_here other making holds same)
              (λ later. found.first other making holds later before)
              (in_cons n members other.number among);
        }

-- a write that could have made the revision, by its judgement
pub tells_able : (h : past.History) (Known : ℕ → Type 0) (key : ObjectKey) (revision : ℕ) → ((m : Making) → IsMaking h m → Known m.number → IsMember h key revision m)
    → Tells h Known (CouldHaveMade h key revision) (λ one. is_none one.making)
tells_able h Known key revision members = λ m judged making known numbered judgement. (forth m judged.making (members m making known) judgement, back m judged.making judgement)
  where
    forth : (m : Making) (found : Option Reason) → IsMember h key revision m → (before : Option past.Version) × IsEntryBefore h m before × IsLeastFault h m before found
        → IsTrue (is_none found) → CouldHaveMade h key revision m
    forth m None member fault t = record { member = member; before = fault.0; entry = fault.1; faultless = fault.2 }
    forth m (Some code) member fault t = absurd (no_true t)

    back : (m : Making) (found : Option Reason) → (before : Option past.Version) × IsEntryBefore h m before × IsLeastFault h m before found
        → CouldHaveMade h key revision m → IsTrue (is_none found)
    back m None fault could = refl
    back m (Some code) fault could = absurd (could.faultless code (subst (λ b. HasFault h m b code) (entry_same h m fault.0 could.before fault.1 could.entry) fault.2.0))

-- why a write could not have found its answer, by its number
finding_least : (h : past.History) (events : List LogEvent) (body : ℕ → Option ℕ → Bool) (m : Making) (number : ℕ) → HasEvents events h → h.body ≡ body → IsMaking h m → number ≡ m.number
    → IsLeastFoundFault h m (finding_at body events number)
finding_least h events body m number all bodies making same =
    subst (λ n. IsLeastFoundFault h m (finding_at body events n)) (sym same)
    (subst (λ o. IsLeastFoundFault h m (option_and_then (found_code body) o)) (sym (making_from h events m all making)) (found_is_least h body m bodies))

pub tells_must : (h : past.History) (events : List LogEvent) (body : ℕ → Option ℕ → Bool) (Known : ℕ → Type 0) (key : ObjectKey) (revision : ℕ) → HasEvents events h → h.body ≡ body
    → ((m : Making) → IsMaking h m → Known m.number → IsMember h key revision m)
    → Tells h Known (MustHaveMade h key revision) (must_have_made (finding_at body events))
tells_must h events body Known key revision all bodies members = λ m judged making known numbered judgement.
    go m (is_none judged.making) (finding_at body events judged.number) (tells_able h Known key revision members m judged making known numbered judgement)
    (finding_least h events body m judged.number all bodies making numbered)
  where
    go : (m : Making) (a : Bool) (finding : Option Reason) → (IsTrue a ↔ CouldHaveMade h key revision m) → IsLeastFoundFault h m finding
        → IsTrue (a && is_some finding) ↔ MustHaveMade h key revision m
    go m false finding told fault = ((λ t. absurd (no_true t)), λ must. told.1 must.made)
    go m true None told fault = ((λ t. absurd (no_true t)), λ must. absurd (fault must.code must.not_found))
    go m true (Some code) told fault = ((λ t. record { made = told.0 refl; code = code; not_found = fault.0 }), λ must. refl)

-- a write of the group is a member
pub of_group : (h : past.History) (group : Group) → IsGroupOf h group → (m : Making) → IsMaking h m → Contains group.members m.number → IsMember h group.key group.revision m
of_group h group grouped m making among = let known = grouped.known m.number among in
    subst (IsMember h group.key group.revision) (making_once h known.0 m known.1.making making known.2) known.1

-- the first that a search finds is the first of all
first_found : (h : past.History) (group : Group) (Holds : Making → Type 0) (number : ℕ) → IsGroupOf h group → ((m : Making) → Holds m → IsMember h group.key group.revision m)
    → (found : IsFoundFirst h group.members Holds number) → IsFirstMaking Holds found.m
first_found h group Holds number grouped member found = record {
  holds = found.holds;
  none_before = λ other holds before. found.first other (member other holds).making holds (grouped.full other (member other holds)) before;
}

none_found : (h : past.History) (group : Group) (Holds : Making → Type 0) → IsGroupOf h group → ((m : Making) → Holds m → IsMember h group.key group.revision m)
    → IsSearched h group.members Holds None → NoMaking Holds
none_found h group Holds grouped member none = λ m holds. none m (member m holds).making (grouped.full m (member m holds)) holds

-- the maker that is chosen, and the write whose answer shows the version
pub record IsChosen (h : past.History) (group : Group) (maker : Maker) (shown : ℕ) : Type 0 where
  pub made : IsMakerOf h group.key group.revision (maker_of maker)
  pub m : Making
  pub numbered : m.number ≡ shown
  pub making : IsMaking h m
  pub showing : IsShowing h group.key group.revision (maker_of maker) m

pub chosen : (h : past.History) (events : List LogEvent) (body : ℕ → Option ℕ → Bool) (group : Group) (judged : List JudgedWrite) (first : ℕ) (may : Bool) → HasEvents events h → h.body ≡ body
    → IsGroupOf h group → AreJudged h events group.members judged → option_map (λ one. one.number) (find (λ one. true) judged) ≡ Some first
    → (IsTrue may ↔ MayBeUnrecorded h group.key group.revision)
    → IsChosen h group (maker_among (finding_at body events) judged first may) (shown_by first (maker_among (finding_at body events) judged first may))
chosen h events body group judged first may all bodies grouped zipped head told = go (first_maker (finding_at body events) judged) (first_able judged)
    (searched h events Known (MustHaveMade h group.key group.revision) (must_have_made (finding_at body events)) all (tells_must h events body Known group.key group.revision all bodies members)
    group.members judged (λ n among. among) grouped.order zipped)
    (searched h events Known (CouldHaveMade h group.key group.revision) (λ one. is_none one.making) all (tells_able h Known group.key group.revision members) group.members judged (λ n among. among) grouped.order zipped)
  where
    Known : ℕ → Type 0
    Known n = Contains group.members n

    members : (m : Making) → IsMaking h m → Contains group.members m.number → IsMember h group.key group.revision m
    members = of_group h group grouped

    foremost : IsFoundFirst h group.members (IsMember h group.key group.revision) first
    foremost = subst (IsSearched h group.members (IsMember h group.key group.revision)) head
        (searched h events Known (IsMember h group.key group.revision) (λ one. true) all (λ m one making known numbered judgement. ((λ t. members m making known), λ member. refl)) group.members judged (λ n among. among) grouped.order zipped)

    by_event : (n : ℕ) (m : Making) → m.number ≡ n → IsMaking h m → IsMember h group.key group.revision m → IsMakerOf h group.key group.revision (past.ByEvent n) → IsChosen h group (Event n) n
    by_event n m numbered making member made = record { made = made; m = m; numbered = numbered; making = making; showing = (member, numbered) }

    unseen : (b : Bool) → may ≡ b → NoMaking (CouldHaveMade h group.key group.revision) → IsChosen h group (unseen_maker first b) (shown_by first (unseen_maker first b))
    unseen true is none = record {
      made = unrecorded refl none (told.0 is);
      m = foremost.m;
      numbered = foremost.numbered;
      making = foremost.making;
      showing = first_found h group (IsMember h group.key group.revision) first grouped (λ m member. member) foremost;
    }
    unseen false is none = by_event first foremost.m foremost.numbered foremost.making foremost.holds
        (faulty foremost.m (ap past.ByEvent (sym foremost.numbered)) none (λ may_be. true≢false (sym (told.1 may_be) ∙ is)) (first_found h group (IsMember h group.key group.revision) first grouped (λ m member. member) foremost))

    go : (a b : Option ℕ) → IsSearched h group.members (MustHaveMade h group.key group.revision) a → IsSearched h group.members (CouldHaveMade h group.key group.revision) b
        → IsChosen h group (or_maker (or_first a b) (unseen_maker first may)) (shown_by first (or_maker (or_first a b) (unseen_maker first may)))
    go (Some n) b found rest = by_event n found.m found.numbered found.making found.holds.made.member
        (sole found.m (ap past.ByEvent (sym found.numbered)) (first_found h group (MustHaveMade h group.key group.revision) n grouped (λ m must. must.made.member) found))
    go None (Some n) none found = by_event n found.m found.numbered found.making found.holds.member
        (able found.m (ap past.ByEvent (sym found.numbered)) (none_found h group (MustHaveMade h group.key group.revision) grouped (λ m must. must.made.member) none)
        (first_found h group (CouldHaveMade h group.key group.revision) n grouped (λ m could. could.member) found))
    go None None none no_able = unseen may refl (none_found h group (CouldHaveMade h group.key group.revision) grouped (λ m could. could.member) no_able)

-- a search for anything finds the first
pub first_find : (judged : List JudgedWrite) → option_map (λ one. one.number) (find (λ one. true) judged) ≡ first_write judged
first_find [] = refl
first_find (one ∷ judged) = refl

-- the version that the chosen maker's answer, or the first one, shows
pub made_version : (h : past.History) (events : List LogEvent) (group : Group) (v : Version) (shown : ℕ) (m : Making) → IsChosen h group v.maker shown → HasEvents events h → IsGroupOf h group
    → making_at events shown ≡ Some m → v.key ≡ group.key → v.revision ≡ group.revision → v.uid ≡ m.item.uid → v.node.0 ≡ m.item.tree → IsMadeVersion h (version_of v)
made_version h events group v shown m choice all grouped at key revision uid tree =
    let is = making_is h events shown m all at in
    let one : choice.m ≡ m = making_once h choice.m m choice.making is.0 (choice.numbered ∙ sym is.1) in
    record {
      above = subst (λ n. h.start < n) (sym revision) grouped.above;
      belongs = subst (λ k. IsKeyOf h v.revision k) (sym key) (subst (λ n. IsKeyOf h n group.key) (sym revision) grouped.belongs);
      maker = subst (λ k. IsMakerOf h k v.revision (maker_of v.maker)) (sym key) (subst (λ n. IsMakerOf h group.key n (maker_of v.maker)) (sym revision) choice.made);
      m = m;
      shown = subst (λ k. IsShowing h k v.revision (maker_of v.maker) m) (sym key) (subst (λ n. IsShowing h group.key n (maker_of v.maker) m) (sym revision)
          (subst (IsShowing h group.key group.revision (maker_of v.maker)) one choice.showing));
      uid = uid;
      tree = tree;
    }
