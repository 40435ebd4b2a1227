-- What joins a page to the pages before it and behind it.
use Rattle.audit_event.specs.declared.event.Event.{Event}
use Rattle.page_chains.specs.declared.page.Asked.{Asked}
use Rattle.page_chains.specs.declared.page.Joint.{Joint}
use Rattle.page_chains.specs.Pages.{token_of}

abbrev pub joint_of : Event → Asked → Joint
joint_of event asked = record { namespace = event.attrs.namespace; token = token_of event; asked = asked }
