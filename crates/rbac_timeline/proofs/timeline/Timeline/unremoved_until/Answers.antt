use Rattle.std.proofs.Common.{◌≡◌, ℕ, ◌<◌, ◌∙◌, ap, arith, subst, sym}
use Rattle.std.specs.Option.{MatchOption}
use Rattle.rbac_timeline.specs.declared.history.Stored.{Stored}
use Rattle.rbac_timeline.specs.Known.{Known}
use Rattle.rbac_timeline.specs.Lasting.{NoneRemoved}
use Rattle.rbac_timeline.specs.Sound.{AreSound}
use Rattle.rbac_timeline.proofs.Throughout.{IsLast-all, IsLast-map, not_removed, one_revision, removal_unbegun}
use Rattle.rbac_timeline.proofs.timeline.Timeline.unremoved_until.Goals as goal

pub returns-in-Some : goal.returns-in-Some
returns-in-Some c =
    let known = c.args.self.now in
    let key = c.args.key.now in
    let place : ℕ = c.args.place in
    let sound : AreSound known.versions known.ends = subst (λ (k : Known). AreSound k.versions k.ends) c.self.view_is c.self.invariant.sound in
    let found = c.in-Some.ensures.some in
    let stored : found.0.revision ≡ c.in-Some.stored.now.revision = sym (ap (λ (s : Stored). s.revision) found.2) in
    IsLast-map (λ (n : ℕ). MatchOption c.removal.result (Unit {0}) (λ gap. place < gap.low → n < gap.low)) (NoneRemoved known key place) place c.args.high _
    (λ n from upto until version end latest is before.
    not_removed known.ends sound.distinct key c.in-Some.stored.now.revision place n c.removal.result c.removal.ensures until version latest.of_key
    (one_revision known.versions key place version found.0 latest found.1 ∙ stored) end is before)
    (λ n none. removal_unbegun known key c.in-Some.stored.now.revision place n c.removal.result found.0 found.1 stored c.removal.ensures none)
    c.gap_until.ensures

pub returns-in-None : goal.returns-in-None
returns-in-None c =
    IsLast-all (NoneRemoved c.args.self.now c.args.key.now c.args.place) c.args.place c.args.high c.requires
    (λ n from upto version end latest is before. let above = c.in-None.ensures.none version latest.known latest.of_key in let below = latest.upto in absurd (omega arith))
