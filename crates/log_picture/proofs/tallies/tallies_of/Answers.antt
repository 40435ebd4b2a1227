use Rattle.std.proofs.Common.{take, arith}
use Rattle.std.proofs.lemmas.List.{length-take}
use Rattle.log_picture.proofs.Tallying.{few_so_far}
use Rattle.log_picture.proofs.tallies.tallies_of.Goals as goal

pub count_version-requires : goal.count_version-requires
count_version-requires c =
    few_so_far (take c.loop-version.version-index c.args.versions.now) c.loop-version.tallies c.loop-version.invariant
    (omega (arith, length-take c.loop-version.version-index c.args.versions.now))
