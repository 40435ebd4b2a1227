use Rattle.std.proofs.Common.{option_map}
use Rattle.object_past.specs.Modelled.{version_of}
use Rattle.past_building.proofs.Entries.{used_in}
use Rattle.past_building.specs.Modelled.{making_of}
use Rattle.past_building.proofs.versions.judge.Goals as goal

pub returns-clause-judged : goal.returns-clause-judged
returns-clause-judged g c = λ h of e latest. (
  option_map (λ v. version_of v.now) c.entry_before-before.result,
  c.entry_before-before.ensures h c.args.grown.now of.surroundings e latest,
  c.in_ok-making_fault.ensures h of.surroundings.times of.judged (λ made. used_in h c.args.grown.now (making_of c.args.making) c.is_reused-is_used.result e (c.is_reused-is_used.ensures made)),
)
