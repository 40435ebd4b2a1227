use Rattle.rbac_timeline.specs.Reigning.{AddsReigns, reign_of}
use Rattle.std.proofs.Common.{◌∷◌, [], subst}
use Rattle.rbac_timeline.proofs.Ruling.{AddsReigns-all, AddsReigns-more, AddsReigns-none}
use Rattle.rbac_timeline.proofs.reign_index.ReignIndex.add_each.Goals as goal

pub loop-subject-init : goal.loop-subject-init
loop-subject-init c = AddsReigns-none c.args.self.now c.args.subjects.now (reign_of c.args.begun.now)

pub loop-subject-preserved : goal.loop-subject-preserved
loop-subject-preserved c =
    AddsReigns-more c.args.self.now c.loop-subject.self c.add.new.self c.args.subjects.now c.loop-subject.subject-index c.subject-item.result (reign_of c.args.begun.now)
    c.loop-subject-test.true c.subject-item.is c.loop-subject.invariant
    (subst (λ r. AddsReigns c.loop-subject.self c.add.new.self (c.subject-item.result ∷ []) r) c.in_ok-reign.ensures c.in_ok-add.ensures)

pub returns : goal.returns
returns c = AddsReigns-all c.args.self.now c.loop-subject.self c.args.subjects.now c.loop-subject.subject-index (reign_of c.args.begun.now) c.loop-subject-test.false c.loop-subject.invariant
