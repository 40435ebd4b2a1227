-- Decisions of a log by the roles and bindings at places.
use Rattle.std.proofs.Common.{◌≡◌, ◌<◌, ◌≤◌, ◌↔◌, ℕ, ◌⊎◌, inl, inr, Bool, true, false, List, Option, Some, None, option_map, option_and_then, slice_get, refl, sym, ap, ◌∙◌, arith}
use Rattle.std.specs.Option.{IfNone, IfSome}
use Rattle.std.proofs.lemmas.Bool.{cases_lt}
use Rattle.std.proofs.lemmas.Option.{same_Some}
use Rattle.audit_event.specs.declared.event.Event.{Event}
use Rattle.base_types.specs.PlaceOrder.{AreLeastPlaces, IsUpTo, ComesFirst}
use Rattle.base_types.specs.declared.verdict.placed.Places.{Places}
use Rattle.base_types.specs.declared.kubernetes.request.Decision.{Decision}
use Rattle.base_types.specs.declared.kubernetes.request.Decision.TheVariants.{Allow, Forbid}
use Rattle.base_types.specs.declared.kubernetes.request.Possible.{Possible}
use Rattle.base_types.specs.declared.kubernetes.request.RequestAttrs.{RequestAttrs}
use Rattle.base_types.specs.declared.kubernetes.request.User.{User}
use Rattle.rbac_timeline.proofs.Possible.{is_possible-Decides}
use Rattle.rbac_timeline.specs.Deciding.{is_possible}
use Rattle.rbac_timeline.specs.Decisions.{IsDecidedAt, IsPossible}
use Rattle.rbac_timeline.specs.Known.{Known}
use Rattle.rbac_timeline.specs.Searched.{all_at}
use Rattle.rbac_timeline.specs.Sound.{AreSound}
use Rattle.write_groups.specs.declared.event.LogEvent.{LogEvent}
use Rattle.log_context.specs.Given.{AreNoneGiven, IsGivenWithin, judged_in, says}
use Rattle.log_context.specs.Histories.{decides_by, decides_test}
use Rattle.log_context.specs.Judged.{judged_user}

-- what the test asks of the event's decision
pub judged_decides : (events : List Event) (log : List LogEvent) (rbac : Known) (number : ℕ) (event : Event) (decision : Decision) → Some (event, decision) ≡ judged_in events log number
    → (places : Places) → decides_test events log rbac number places ≡ is_possible rbac places (judged_user event) event.attrs decision
judged_decides events log rbac number event decision at places = go (slice_get events number) (option_and_then (λ (l : LogEvent). l.decision) (slice_get log number)) at
  where
    go : (e : Option Event) (d : Option Decision) → ◌≡◌ {A = Option (Event × Decision)} (Some (event, decision)) (option_and_then (λ (x : Event). option_map (λ (y : Decision). (x, y)) d) e)
        → decides_by rbac places e d ≡ is_possible rbac places (judged_user event) event.attrs decision
    go None d is = absurd (cc is)
    go (Some x) None is = absurd (cc is)
    go (Some x) (Some y) is = ap (λ (p : Event × Decision). is_possible rbac places (judged_user p.0) p.0.attrs p.1) (sym (same_Some (event, decision) (x, y) is))

pub unjudged_decides : (events : List Event) (log : List LogEvent) (rbac : Known) (number : ℕ) → None ≡ judged_in events log number → (places : Places) → decides_test events log rbac number places ≡ true
unjudged_decides events log rbac number at places = go (slice_get events number) (option_and_then (λ (l : LogEvent). l.decision) (slice_get log number)) at
  where
    go : (e : Option Event) (d : Option Decision) → ◌≡◌ {A = Option (Event × Decision)} None (option_and_then (λ (x : Event). option_map (λ (y : Decision). (x, y)) d) e) → decides_by rbac places e d ≡ true
    go None d is = refl
    go (Some x) None is = refl
    go (Some x) (Some y) is = absurd (cc is)

-- the first place is below the others
rising_or_same : (a b : ℕ) → a ≤ b → (rest : Type 0) → rest → ComesFirst a b rest
rising_or_same a b upto rest holds = go (cases_lt a b)
  where
    go : (a < b) ⊎ (b ≤ a) → ComesFirst a b rest
    go (inl less) = inl less
    go (inr more) = inr ((let same : a ≡ b = omega arith in same), holds)

lowest_first : (low : ℕ) (other : Places) → low ≤ other.roles → low ≤ other.cluster_roles → low ≤ other.bindings → low ≤ other.cluster_bindings → IsUpTo (all_at low) other
lowest_first low other r c b d =
    rising_or_same low other.roles r (ComesFirst low other.cluster_roles (ComesFirst low other.bindings (low ≤ other.cluster_bindings)))
    (rising_or_same low other.cluster_roles c (ComesFirst low other.bindings (low ≤ other.cluster_bindings))
    (rising_or_same low other.bindings b (low ≤ other.cluster_bindings) d))

-- where each place would do, the least is the first
pub all_given : (decides : Places → Bool) (low high : ℕ) → ((places : Places) → decides places ≡ true) → low ≤ high → AreLeastPlaces (IsGivenWithin decides low high) (all_at low)
all_given decides low high all upto = record {
  decided = record {
    within = record {
      roles_from = omega arith;
      roles_upto = upto;
      cluster_roles_from = omega arith;
      cluster_roles_upto = upto;
      bindings_from = omega arith;
      bindings_upto = upto;
      cluster_bindings_from = omega arith;
      cluster_bindings_upto = upto;
    };
    right = all (all_at low);
  };
  least = λ other given. lowest_first low other given.within.roles_from given.within.cluster_roles_from given.within.bindings_from given.within.cluster_bindings_from;
}

pub none_given : (decides : Places → Bool) (low high : ℕ) → high < low → AreNoneGiven decides low high
none_given decides low high over = λ places given. let from : low ≤ places.roles = given.within.roles_from in let upto : places.roles ≤ high = given.within.roles_upto in omega arith

pub judged_given : (events : List Event) (log : List LogEvent) (rbac : Known) (number low high : ℕ) (event : Event) (decision : Decision) → AreSound rbac.versions rbac.ends
    → Some (event, decision) ≡ judged_in events log number → (places : Places) → AreLeastPlaces (IsDecidedAt rbac low high (judged_user event) event.attrs decision) places
    → AreLeastPlaces (IsGivenWithin (decides_test events log rbac number) low high) places
judged_given events log rbac number low high event decision sound at places least = record {
  decided = record {
    within = least.decided.within;
    right = judged_decides events log rbac number event decision at places ∙ (is_possible-Decides rbac sound places (judged_user event) event.attrs decision).1 least.decided.possible;
  };
  least = λ other given. least.least other (record {
    within = given.within;
    possible = (is_possible-Decides rbac sound other (judged_user event) event.attrs decision).0 (sym (judged_decides events log rbac number event decision at other) ∙ given.right);
  });
}

pub judged_none : (events : List Event) (log : List LogEvent) (rbac : Known) (number low high : ℕ) (event : Event) (decision : Decision) → AreSound rbac.versions rbac.ends
    → Some (event, decision) ≡ judged_in events log number → ((places : Places) → IsDecidedAt rbac low high (judged_user event) event.attrs decision places → ⊥)
    → AreNoneGiven (decides_test events log rbac number) low high
judged_none events log rbac number low high event decision sound at none = λ places given. none places (record {
  within = given.within;
  possible = (is_possible-Decides rbac sound places (judged_user event) event.attrs decision).0 (sym (judged_decides events log rbac number event decision at places) ∙ given.right);
})

-- two tests of one fact are the same
pub same_test : (a b : Bool) (P : Type 0) → ((a ≡ true) ↔ P) → ((b ≡ true) ↔ P) → a ≡ b
same_test true true P p q = refl
same_test true false P p q = absurd (cc (q.1 (p.0 refl)))
same_test false true P p q = absurd (cc (p.1 (q.0 refl)))
same_test false false P p q = refl

-- what the timeline says of a decision
pub says_possible : (rbac : Known) (places : Places) (who : User) (attrs : RequestAttrs) (possible : Possible) → AreSound rbac.versions rbac.ends
    → ((possible.allow ≡ true) ↔ IsPossible rbac places who attrs Allow) → ((possible.forbid ≡ true) ↔ IsPossible rbac places who attrs Forbid)
    → (decision : Decision) → says possible decision ≡ is_possible rbac places who attrs decision
says_possible rbac places who attrs possible sound allow forbid Allow = same_test possible.allow (is_possible rbac places who attrs Allow) _ allow (is_possible-Decides rbac sound places who attrs Allow)
says_possible rbac places who attrs possible sound allow forbid Forbid = same_test possible.forbid (is_possible rbac places who attrs Forbid) _ forbid (is_possible-Decides rbac sound places who attrs Forbid)

-- what is found is found under a weaker fact
pub some_weaker : {T : Type 0} (r : Option T) (P Q : T → Type 0) → ((t : T) → P t → Q t) → IfSome r P → IfSome r Q
some_weaker None P Q weaker holds = tt
some_weaker (Some t) P Q weaker holds = weaker t holds

pub none_weaker : {T : Type 0} (r : Option T) (P Q : Type 0) → (P → Q) → IfNone r P → IfNone r Q
none_weaker None P Q weaker holds = weaker holds
none_weaker (Some t) P Q weaker holds = tt
