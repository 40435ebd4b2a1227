use Rattle.std.proofs.Common.{ap}
use Rattle.write_groups.specs.Modelled.{event_of, answer_of}
use Rattle.local_bounds.proofs.Subjects.{made_subject}
use Rattle.local_bounds.proofs.subject.subject_of.Goals as goal

pub returns-in-Made : goal.returns-in-Made
returns-in-Made c = λ h number f place map. made_subject h number (event_of c.args.event.now) c.in-Made.item c.in-Made.created place map c.args.finding c.found_sight.result (ap answer_of c.in-Made.is) c.found_sight.ensures f
