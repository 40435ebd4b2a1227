use Rattle.std.proofs.Common.{◌≡◌, take}
use Rattle.std.specs.List.{fold}
use Rattle.log_picture.specs.Overview.{greater}
use Rattle.log_picture.proofs.overview.greatest_revision.Given as goal

abbrev pub invariant-loop-version : goal.invariant-loop-version
invariant-loop-version l = l.greatest ≡ fold greater l.fn.start (take l.version-index l.versions)
