use Rattle.std.proofs.Common.{◌≡◌, length}
use Rattle.std.specs.Prelude.{map}
use Rattle.setup_file.specs.Forms.{has_only}
use Rattle.setup_file.proofs.form.has_only.Given as goal

abbrev pub invariant-members : goal.invariant-members
invariant-members l = has_only (map (λ known. known.now) l.known) l.initial.rest ≡ has_only (map (λ known. known.now) l.known) l.rest

abbrev pub decreases-members : goal.decreases-members
decreases-members l = length l.rest
