-- No event of a log ends before it begins.
use Rattle.std.proofs.Common.{ℕ, ℤ, pos, ◌≤ℤ◌, ◌+ℤ◌, ◌-ℤ◌, List, All, sym, subst, arith}
use Rattle.std.proofs.lemmas.Int.{ints}
use Rattle.audit_event.specs.Events as audit
use Rattle.audit_event.specs.declared.event.Event.{Event}
use Rattle.history_model.proofs.Members.{all_at, at_in}
use Rattle.history_model.specs.Events as model
use Rattle.history_model.specs.Histories.{History, IsEvent}
use Rattle.base_types.specs.Meaning.{Meaning}
use Rattle.setup_file.specs.declared.setup.Setup.{Setup}
use Rattle.log_context.proofs.LogLemmas.{Standing, of_event, of_checkpoint, standing}
use Rattle.log_context.specs.Logged.{AreLogged}
use Rattle.write_groups.proofs.Belonging.{logged_from, IsLogged as IsLoggedAt}
use Rattle.write_groups.specs.Modelled.{HasEvents}
use Rattle.write_groups.specs.declared.event.LogEvent.{LogEvent}

-- what clocks may be off widens the time of an event
widened : (received staged : ℤ) (slack : ℕ) → received ≤ℤ staged → (received -ℤ pos slack) ≤ℤ (staged +ℤ pos slack)
widened received staged slack upto = omega (arith, ints)

pub in_time : (setup : Setup) (events : List Event) (trees : List Meaning) (log : List LogEvent) (h : History) → All audit.IsSound events → AreLogged setup trees events log → HasEvents log h
    → (number : ℕ) (event : model.Event) → IsEvent h number event → event.lo ≤ℤ event.hi
in_time setup events trees log h all logged has number event known = go (logged_from log h number event has known)
  where
    go : IsLoggedAt log number event → event.lo ≤ℤ event.hi
    go l = subst (λ (e : model.Event). e.lo ≤ℤ e.hi) l.is (by (standing setup trees events log logged number l.logged l.at))
      where
        by : Standing setup trees events number l.logged → l.logged.lo.0 ≤ℤ l.logged.hi.0
        by (of_event told at is) =
            let rising = (all_at audit.IsSound events told all (at_in events number told at)).times.rising in
            subst (λ (z : ℤ). z ≤ℤ l.logged.hi.0) (sym is.lo) (subst (λ (z : ℤ). (told.received.0 -ℤ pos setup.slack) ≤ℤ z) (sym is.hi) (widened told.received.0 told.staged.0 setup.slack rising))
        by (of_checkpoint place checkpoint at known is) =
            subst (λ (z : ℤ). z ≤ℤ l.logged.hi.0) (sym is.lo) (subst (λ (z : ℤ). pos 0 ≤ℤ z) (sym is.hi) (omega (arith, ints)))
