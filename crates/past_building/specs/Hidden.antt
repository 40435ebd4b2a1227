-- What is hidden by unrecorded writes, and what shows objects again.
use Rattle.std.specs.Prelude.{◌≡◌, ◌↔◌, ℕ, List, ◌++◌, Option, Some, None, map, Contains}
use Rattle.std.specs.List.{filter_map}
use Rattle.base_types.specs.declared.kubernetes.key.ObjectKey.{ObjectKey}
use Rattle.clouds.specs.declared.span.KeyRevision.{KeyRevision}
use Rattle.clouds.specs.declared.span.OpaqueSpan.{OpaqueSpan}
use Rattle.history_model.specs.Histories.{History, Version}
use Rattle.history_model.specs.Windows.{low_end, high_end}
use Rattle.write_groups.specs.Modelled.{event_of}
use Rattle.write_groups.specs.declared.event.Item.{Item}
use Rattle.write_groups.specs.declared.event.LogEvent.{LogEvent}
use Rattle.write_groups.specs.declared.event.Shown.{Shown}
use Rattle.write_groups.specs.declared.event.Shown.TheVariants.{Made, Removed, Opaque, Saw, SawNone, SawSome, SawOther, Listed, Free, Aside}
use Rattle.write_groups.specs.declared.groups.Group.{Group}

abbrev pub item_slot : Item → KeyRevision
item_slot item = record { key = item.key; revision = item.revision }

abbrev pub group_slot : Group → KeyRevision
group_slot group = record { key = group.key; revision = group.revision }

abbrev pub slots_of : List Item → List Group → List KeyRevision
slots_of snapshot groups = map item_slot snapshot ++ map group_slot groups

-- the slots are the keys and revisions of the history's versions
abbrev pub HasSlots : List KeyRevision → History → Type 0
HasSlots slots h = (key : ObjectKey) (revision : ℕ)
    → Contains slots (record { key = key; revision = revision }) ↔ ((v : Version) × Contains h.versions v × (v.key ≡ key) × (v.revision ≡ revision))

abbrev pub unrecorded_if : History → LogEvent → Shown → Option OpaqueSpan
unrecorded_if h event (Made item created) = None
unrecorded_if h event (Removed key uid) = None
unrecorded_if h event (Opaque cover) = Some (record { cover = cover; low = low_end h (event_of event); high = high_end h (event_of event) })
unrecorded_if h event (Saw item) = None
unrecorded_if h event (SawNone key) = None
unrecorded_if h event (SawSome key) = None
unrecorded_if h event (SawOther key) = None
unrecorded_if h event (Listed listing) = None
unrecorded_if h event Free = None
unrecorded_if h event Aside = None

-- the unrecorded write that an event stands for, with the ends of its window
abbrev pub unrecorded_at : History → LogEvent → Option OpaqueSpan
unrecorded_at h event = unrecorded_if h event event.answer

-- the unrecorded writes of a log, by line
abbrev pub unrecorded_in : History → List LogEvent → List OpaqueSpan
unrecorded_in h events = filter_map (unrecorded_at h) events
