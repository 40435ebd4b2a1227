use Rattle.std.proofs.Common.{sym, subst}
use Rattle.base_types.specs.Meaning.{no_fields, fields_of}
use Rattle.base_types.specs.Names.{AreSorted}
use Rattle.cluster_setup.specs.Making.{say}
use Rattle.cluster_setup.proofs.Gathered.{folded}
use Rattle.cluster_setup.proofs.NoMembers.{no_members_sorted}
use Rattle.cluster_setup.proofs.building.said.Goals as goal

pub invariant_of-fields : goal.invariant_of-fields
invariant_of-fields c = subst AreSorted (sym c.new.ensures.items) no_members_sorted

pub loop-name-preserved : goal.loop-name-preserved
loop-name-preserved c =
    folded (λ fields named. say named.0.now named.1.now fields) no_fields c.args.texts.now c.loop-name.name-index _
    (fields_of c.loop-name.fields) (fields_of c.say.new.fields) c.loop-name-test.true c.loop-name.invariant c.in_ok-say.ensures
