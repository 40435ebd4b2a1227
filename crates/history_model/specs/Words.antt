-- What an event is in a placement: a write that made its revision, a removal, an answer at a place, or nothing.
use Rattle.std.specs.Prelude.{ℕ, Bool, false, if◌then◌else◌, nat_le, ◌==◌, Option, Some, None, find}
use Rattle.history_model.specs.Events.{Event, Answer, Made, Removed, Opaque, Saw, SawNone, SawSome, SawOther, Listed, Free, Aside}
use Rattle.history_model.specs.Groups.{Making}
use Rattle.history_model.specs.Histories.{History, Version, Removal, Maker, Snapshot, ByEvent, Unknown}
use Rattle.base_types.specs.Keys.{same_key}

pub data Word : Type 0 where
  Makes : Making → Word
  Removes : Removal → Word
  -- the answer stands at a place of the event's window
  At : Word
  -- the write of another key than that of the revision that it was answered with
  Strays : Word
  Nothing : Word

abbrev pub is_by : ℕ → Maker → Bool
is_by number Snapshot = false
is_by number (ByEvent maker) = maker == number
is_by number Unknown = false

-- at the version of the answer's revision: it was made, found, or belongs to another key
abbrev pub write_word : Making → Option Version → Word
write_word m None = At
write_word m (Some v) = if same_key v.key m.item.key then (if is_by m.number v.maker then Makes m else At) else Strays

abbrev pub removal_word : Option Removal → Word
removal_word None = At
removal_word (Some removal) = Removes removal

abbrev pub answer_word : History → ℕ → Event → Answer → Word
answer_word h number event (Made item created) = if nat_le item.revision h.start then At
    else write_word (record { number = number; event = event; item = item; created = created }) (find (λ v. v.revision == item.revision) h.versions)
answer_word h number event (Removed key uid) = removal_word (find (λ removal. removal.range.event == number) h.removals)
answer_word h number event (Opaque cover) = Nothing
answer_word h number event (Saw item) = At
answer_word h number event (SawNone key) = At
answer_word h number event (SawSome key) = At
answer_word h number event (SawOther key) = At
answer_word h number event (Listed listing) = At
answer_word h number event Free = Nothing
answer_word h number event Aside = Nothing

abbrev pub word : History → ℕ → Event → Word
word h number event = answer_word h number event event.answer
