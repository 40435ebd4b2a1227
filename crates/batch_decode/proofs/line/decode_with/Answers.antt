use Rattle.borrowed_json.specs.View.{view}
use Rattle.audit_event.specs.Events.{IsValueOf}
use Rattle.batch_decode.proofs.ListLemmas.{decoded_line}
use Rattle.batch_decode.proofs.line.decode_with.Goals as goal

pub returns-in-Ok : goal.returns-in-Ok
returns-in-Ok c =
    let read = rw c.as_slice.ensures at c.in-Ok.ensures.ok in
    let is : IsValueOf c.args.line.now.bytes (view c.in-Ok.value) = record { utf8 = read.0; reads = read.1 } in
    decoded_line c.args.line.now (view c.in-Ok.value) c.decode_value.result is c.decode_value.ensures.decodes c.decode_value.ensures.sound
