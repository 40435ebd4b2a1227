use Rattle.std.proofs.Common.{◌≡◌, ◌<◌, get_or, length, ap, subst, ◌∙◌}
use Rattle.batch_decode.proofs.ListLemmas.{item_read}
use Rattle.batch_decode.proofs.line.decode_items.Goals as goal

pub loop-i-preserved : goal.loop-i-preserved
loop-i-preserved c =
    let l = c.loop-i in
    let item = c.item-item.result in
    let all = c.deref-item-items.ensures.value in
    let within : l.i < length c.args.list.now.items = subst (λ vs. l.i < length vs) all c.loop-i-test.true in
    let at : item ≡ get_or c.args.list.now.items l.i item = c.item-item.is ∙ ap (λ vs. get_or vs l.i item) all in
    let read = item_read c.args.list.now.items l.i item l.events c.push.new.self c.in-Ok.event within at l.invariant.count l.invariant.each l.invariant.sound c.in-Ok.ensures.event c.in-Ok.ensures.sound c.in_ok-push-in-Ok.ensures.ok in
    record { count = read.0; each = read.1; sound = read.2 }
