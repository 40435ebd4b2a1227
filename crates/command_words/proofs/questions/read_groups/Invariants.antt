use Rattle.std.proofs.Common.{◌≡◌, map}
use Rattle.command_words.proofs.questions.read_groups.Given as goal

abbrev pub invariant-loop-group : goal.invariant-loop-group
invariant-loop-group l = l.groups ≡ map (λ x. x.now) l.yielded
