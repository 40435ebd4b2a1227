use Rattle.std.proofs.Common.{find, ◌==◌}
use Rattle.history_model.specs.Histories.{Removal}
use Rattle.write_groups.specs.Modelled.{event_of}
use Rattle.log_moments.proofs.Placing.{listed_is, removed_has_none, saw_is, standing_is}
use Rattle.log_moments.specs.declared.standing.RevisionStanding.TheVariants.{Nowhere}
use Rattle.log_moments.proofs.standing.standing_of.Goals as goal

pub returns-in-Made : goal.returns-in-Made
returns-in-Made c = λ h s p.
    standing_is h (event_of c.args.event.now) c.args.number _ _ _ c.in-Made.is (c.write_standing.ensures h (event_of c.args.event.now) c.in-Made.created s p)

pub returns-in-Removed : goal.returns-in-Removed
returns-in-Removed c = λ h s p.
    standing_is h (event_of c.args.event.now) c.args.number _ _ Nowhere c.in-Removed.is
    (removed_has_none h (event_of c.args.event.now) c.in-Removed.key c.in-Removed.uid (find (λ (removal : Removal). removal.range.event == c.args.number) h.removals))

pub returns-in-Opaque : goal.returns-in-Opaque
returns-in-Opaque c = λ h s p. standing_is h (event_of c.args.event.now) c.args.number _ _ Nowhere c.in-Opaque.is (λ numbers has. has)

pub returns-in-Saw : goal.returns-in-Saw
returns-in-Saw c = λ h s p. saw_is h (event_of c.args.event.now) c.args.number _ c.in-Saw.item c.in-Saw.is

pub returns-in-SawNone : goal.returns-in-SawNone
returns-in-SawNone c = λ h s p. standing_is h (event_of c.args.event.now) c.args.number _ _ Nowhere c.in-SawNone.is (λ numbers has. has)

pub returns-in-SawSome : goal.returns-in-SawSome
returns-in-SawSome c = λ h s p. standing_is h (event_of c.args.event.now) c.args.number _ _ Nowhere c.in-SawSome.is (λ numbers has. has)

pub returns-in-SawOther : goal.returns-in-SawOther
returns-in-SawOther c = λ h s p. standing_is h (event_of c.args.event.now) c.args.number _ _ Nowhere c.in-SawOther.is (λ numbers has. has)

pub returns-in-Listed : goal.returns-in-Listed
returns-in-Listed c = λ h s p. listed_is h (event_of c.args.event.now) c.args.number _ c.in-Listed.listing c.in-Listed.is

pub returns-in-Free : goal.returns-in-Free
returns-in-Free c = λ h s p. standing_is h (event_of c.args.event.now) c.args.number _ _ Nowhere c.in-Free.is (λ numbers has. has)

pub returns-in-Aside : goal.returns-in-Aside
returns-in-Aside c = λ h s p. standing_is h (event_of c.args.event.now) c.args.number _ _ Nowhere c.in-Aside.is (λ numbers has. has)
