-- What the line of an event says that was drawn.
use Rattle.case_maker.specs.declared.event.Event.{Event}
use Rattle.case_maker.specs.Event.{Wording, wording_of}

-- what the line of a drawn event says
abbrev pub wording : Event → Wording
wording event = wording_of event.exchange event.name event.number event.revision event.objects.now
