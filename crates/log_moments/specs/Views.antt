-- The history of which a log and what it tells are known.
use Rattle.std.specs.Prelude.{◌≡◌, ◌≤◌, ◌*◌, ◌↔◌, Option, Some, None}
use Rattle.history_model.specs.Events.{Event, Answer}
use Rattle.history_model.specs.Histories.{History}
use Rattle.history_model.specs.Words.{Word}
use Rattle.log_moments.specs.Nexts.{AreNexts}
use Rattle.log_moments.specs.Things.{HasNumbers, ShowsList, ShowsVersion}
use Rattle.log_moments.specs.declared.numbers.NumberRange.{NumberRange}
use Rattle.log_moments.specs.declared.standing.RevisionStanding.{RevisionStanding}
use Rattle.log_moments.specs.declared.standing.RevisionStanding.TheVariants.{Writes, Shows, Lists, Nowhere}
use Rattle.log_moments.specs.declared.view.LogView.{LogView}
use Rattle.object_past.specs.Past.{HasPast}
use Rattle.past_building.specs.Modelled.{AreCloudsOf}
use Rattle.strict_order.specs.declared.thing.Thing.{Thing}
use Rattle.write_groups.specs.Modelled.{HasEvents, HasTimes, item_of, listing_of}

pub record IsLogViewOf (view : LogView) (h : History) : Type 0 where
  pub start : h.start ≡ view.start
  pub events : HasEvents view.log.now h
  pub times : HasTimes view.windows.now h
  pub clouds : AreCloudsOf view.clouds.now h
  pub past : HasPast view.past.now h
  pub nexts : AreNexts view.past.now.versions view.nexts.now

-- what gives the event with this answer, which is this in a placement, its numbers
abbrev pub IsRevisionStanding : History → Event → Answer → Word → RevisionStanding → Type 0
IsRevisionStanding h event answer word (Writes revision) = (numbers : NumberRange)
    → HasNumbers h event answer word numbers ↔ ((numbers.least ≡ 2 * revision) × (numbers.greatest ≡ 2 * revision))
IsRevisionStanding h event answer word (Shows item) = (numbers : NumberRange) → HasNumbers h event answer word numbers ↔ ShowsVersion h event (item_of item.now) numbers
IsRevisionStanding h event answer word (Lists listing) = (numbers : NumberRange) → HasNumbers h event answer word numbers ↔ ShowsList event (listing_of listing.now) numbers
IsRevisionStanding h event answer word Nowhere = (numbers : NumberRange) → HasNumbers h event answer word numbers → ⊥

-- these are the numbers, or there are none
abbrev pub AreNumbers : (NumberRange → Type 0) → Option NumberRange → Type 0
AreNumbers Has None = (numbers : NumberRange) → Has numbers → ⊥
AreNumbers Has (Some numbers) = Has numbers × (numbers.least ≤ numbers.greatest)

-- this is the event's thing, or there is none
abbrev pub IsFoundThing : (Thing → Type 0) → Option Thing → Type 0
IsFoundThing Is None = (thing : Thing) → Is thing → ⊥
IsFoundThing Is (Some thing) = Is thing × (thing.least ≤ thing.greatest)
