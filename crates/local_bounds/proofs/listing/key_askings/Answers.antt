use Rattle.local_bounds.proofs.AskedLists.{all_asked}
use Rattle.local_bounds.proofs.listing.key_askings.Goals as goal

pub returns : goal.returns
returns g c = λ h k s. all_asked h c.args.number c.get-place.result c.args.listing.now c.in_ok-lacked.lacked.items c.get-place.ensures.value (c.in_ok-lacked.ensures h k.of_past)
    c.in_ok-askings.askings.items c.in_ok-others.others.items c.append.new.self.items
    (rw c.as_slice.ensures at c.in_ok-askings.ensures h k s) (rw c.deref.ensures.value at c.in_ok-others.ensures h k s) c.in_ok-append.ensures.items
