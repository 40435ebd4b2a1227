use Rattle.std.proofs.Common.{◌<◌, length}
use Rattle.std.proofs.lemmas.Option.{slice_get-get_or}
use Rattle.object_past.specs.Modelled.{version_of}
use Rattle.log_context.specs.Histories.{history_of}
use Rattle.window_writes.proofs.TurnShowing.{first_is, members_some}
use Rattle.window_writes.proofs.writes.first_writer.Goals as goal

pub bounds-members-0 : goal.bounds-members-0
bounds-members-0 c = members_some (history_of c.args.context.now) c.requires.readable (version_of c.args.version.now) c.requires.made c.group-members.result.now c.group-members.ensures

pub returns : goal.returns
returns c =
    let numbers = c.group-members.result.now in
    let within : 0 < length numbers = members_some (history_of c.args.context.now) c.requires.readable (version_of c.args.version.now) c.requires.made numbers c.group-members.ensures in
    first_is c.args.context.now c.requires.readable c.args.version.now c.requires.made numbers _ c.group-members.ensures (slice_get-get_or numbers 0 _ within)
