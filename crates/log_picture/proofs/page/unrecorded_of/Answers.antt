use Rattle.std.proofs.Common.{◌∙◌, ℕ, ap, option_map}
use Rattle.std.proofs.lemmas.Option.{slice_get-map}
use Rattle.log_picture.specs.declared.revised.UnrecordedWrite.{UnrecordedWrite}
use Rattle.write_groups.specs.Modelled.{event_of}
use Rattle.log_picture.proofs.page.unrecorded_of.Goals as goal

abbrev unrecorded_at : ℕ → ℕ → UnrecordedWrite
unrecorded_at line low = record { line = line; low = low }

pub returns : goal.returns
returns c =
    ap (unrecorded_at c.args.event.now.line)
    (c.window-window.ensures.low (event_of c.args.event.now) (slice_get-map event_of c.args.context.now.log c.args.number ∙ ap (option_map event_of) c.requires.at))
