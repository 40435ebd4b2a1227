use Rattle.label_select.proofs.Fronts.{behind-length, front-take}
use Rattle.label_select.proofs.bytes.front.Goals as goal

pub slice_bounds-result-count : goal.slice_bounds-result-count
slice_bounds-result-count c = rw c.behind.ensures (behind-length c.args.class c.args.bytes.now)

pub returns : goal.returns
returns c = rw c.behind.ensures (front-take c.args.class c.args.bytes.now)
