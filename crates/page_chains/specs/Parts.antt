-- The pages that can be parts of a chain.
use Rattle.std.specs.Prelude.{Bool, ◌||◌, not, List, Option, Some, None, is_some, if◌then◌else◌}
use Rattle.std.specs.List.{filter_map}
use Rattle.audit_event.specs.declared.event.Event.{Event}
use Rattle.setup_file.specs.declared.setup.Setup.{Setup}
use Rattle.page_chains.specs.declared.page.Page.{Page}
use Rattle.page_chains.specs.Pages.{is_first, page_of}

-- a list that was asked for from its start and was answered to its end is in no chain
abbrev pub is_part : Page → Bool
is_part page = is_some page.token || not (is_first page.asked)

abbrev pub part_in : Option Page → Option Page
part_in None = None
part_in (Some page) = if is_part page then Some page else None

abbrev pub part_of : Setup → Event → Option Page
part_of setup event = part_in (page_of setup event)

abbrev pub parts_of : Setup → List Event → List Page
parts_of setup events = filter_map (part_of setup) events
