-- Small histories, whose moments are seconds, with the outcomes that they must have.
use Rattle.std.specs.Prelude.{ℕ, pos, true, false, List, [], ◌∷◌, Some, None, codes}
use Rattle.base_types.specs.declared.verdict.claim.Reason.TheVariants.{U3, U7, U9, U10, U12}
use Rattle.base_types.specs.declared.kubernetes.key.Cover.{Cover}
use Rattle.base_types.specs.declared.kubernetes.key.CoverName.TheVariants.{Exact}
use Rattle.base_types.specs.declared.kubernetes.key.ObjectKey.{ObjectKey}
use Rattle.base_types.specs.declared.verdict.placed.PlacedAnswer.{PlacedAnswer}
use Rattle.base_types.specs.declared.verdict.placed.PlacedAnswer.TheVariants as placed
use Rattle.base_types.specs.declared.verdict.placed.PlacedLine.{PlacedLine}
use Rattle.history_model.specs.Events.{Text, Item, Conditions, Answer, Made, Removed, Opaque, Saw, SawNone, SawOther, Free, MostRecent, Event}
use Rattle.history_model.specs.Histories.{History, Span, Version, Maker, Snapshot, ByEvent, Removal}
use Rattle.history_model.specs.Outcomes.{Outcome, Explained, Unexplained, MadeAt, RemovedIn}
use Rattle.history_model.specs.Windows.{last_place}

abbrev pub a : ObjectKey
a = record { group = []; resource = codes "configmaps"; namespace = codes "d"; name = codes "a" }

abbrev pub b : ObjectKey
b = record { group = []; resource = codes "configmaps"; namespace = codes "d"; name = codes "b" }

abbrev pub p : ObjectKey
p = record { group = []; resource = codes "pods"; namespace = codes "d"; name = codes "p" }

-- an object of a revision and a uid, with one of two trees
abbrev pub object : ObjectKey → ℕ → Text → ℕ → Item
object key revision uid tree = record { key = key; revision = revision; uid = uid; tree = tree }

abbrev pub no_conditions : Conditions
no_conditions = record { revision = None; uid = None }

-- a request of a line, from a moment to a moment
abbrev pub asked : ℕ → ℕ → ℕ → Conditions → Answer → Event
asked line from to conditions answer = record {
  line = line;
  lo = pos from;
  hi = pos to;
  reading = MostRecent;
  conditions = conditions;
  answer = answer;
  other_level = false;
  omitted_stage = false;
  decision = None;
}

abbrev pub request : ℕ → ℕ → ℕ → Answer → Event
request line from to answer = asked line from to no_conditions answer

abbrev pub written : ℕ → ℕ → ℕ → Span
written revision from to = record { revision = revision; lo = pos from; hi = pos to }

abbrev pub version : Item → Maker → Version
version item maker = record { key = item.key; revision = item.revision; uid = item.uid; tree = item.tree; maker = maker }

-- a history from revision 10 on, in which each body is right and no decision is judged
abbrev pub history : List Item → List Event → List ℕ → List Span → List Version → List Removal → History
history snapshot events order spans versions removals = record {
  start = 10;
  lag = 0;
  snapshot = snapshot;
  events = events;
  order = order;
  spans = spans;
  versions = versions;
  removals = removals;
  body = λ event tree. true;
  listable = λ event tree. true;
  decides = λ event places. true;
}

abbrev pub line : ℕ → PlacedAnswer → PlacedLine
line number answer = record { line = number; answer = answer; decision = None }

abbrev pub A : Text
A = codes "A"

abbrev pub B : Text
B = codes "B"

abbrev pub E : Text
E = codes "E"

-- A create, and a get that shows its object.
abbrev pub create_and_get : History
create_and_get = history [] (request 1 1 2 (Made (object a 11 A 1) true) ∷ request 2 3 4 (Saw (object a 11 A 1)) ∷ [])
    (0 ∷ 1 ∷ []) (written 11 1 2 ∷ []) (version (object a 11 A 1) (ByEvent 0) ∷ []) []

abbrev pub create_and_get_outcome : Outcome
create_and_get_outcome = Explained (line 1 (placed.Made 11) ∷ line 2 (placed.At 11) ∷ [])

-- A get that shows an object before it is made; with a second of slack it can be explained.
abbrev pub seen_before_made : History
seen_before_made = history [] (request 1 1 2 (Saw (object a 11 A 1)) ∷ request 2 3 4 (Made (object a 11 A 1) true) ∷ [])
    (0 ∷ 1 ∷ []) (written 11 3 4 ∷ []) (version (object a 11 A 1) (ByEvent 1) ∷ []) []

abbrev pub seen_before_made_outcome : Outcome
seen_before_made_outcome = Unexplained 0 U10 10 10 []

abbrev pub seen_within_slack : History
seen_within_slack = history [] (request 1 0 3 (Saw (object a 11 A 1)) ∷ request 2 2 5 (Made (object a 11 A 1) true) ∷ [])
    (0 ∷ 1 ∷ []) (written 11 2 5 ∷ []) (version (object a 11 A 1) (ByEvent 1) ∷ []) []

abbrev pub seen_within_slack_outcome : Outcome
seen_within_slack_outcome = Explained (line 1 (placed.At 11) ∷ line 2 (placed.Made 11) ∷ [])

-- Two updates that were answered with one revision: the second changed nothing.
abbrev pub unchanged_update : History
unchanged_update = history (object a 9 A 1 ∷ []) (request 1 1 2 (Made (object a 14 A 2) false) ∷ request 2 1 3 (Made (object a 14 A 2) false) ∷ [])
    (0 ∷ 1 ∷ []) (written 14 1 2 ∷ []) (version (object a 9 A 1) Snapshot ∷ version (object a 14 A 2) (ByEvent 0) ∷ []) []

abbrev pub unchanged_update_outcome : Outcome
unchanged_update_outcome = Explained (line 1 (placed.Made 14) ∷ line 2 (placed.At 14) ∷ [])

-- Where both ask for the revision before, the second could not have found the first one's.
abbrev pub at_nine : Conditions
at_nine = record { revision = Some 9; uid = None }

abbrev pub second_update : History
second_update = history (object a 9 A 1 ∷ []) (asked 1 1 2 at_nine (Made (object a 14 A 2) false) ∷ asked 2 1 3 at_nine (Made (object a 14 A 2) false) ∷ [])
    (0 ∷ 1 ∷ []) (written 14 1 2 ∷ []) (version (object a 9 A 1) Snapshot ∷ version (object a 14 A 2) (ByEvent 0) ∷ []) []

abbrev pub second_update_outcome : Outcome
second_update_outcome = Unexplained 1 U7 10 last_place (MadeAt 14 1 a ∷ [])

-- the removal of the object a, anywhere behind revision 14
abbrev pub removal_of_a : Removal
removal_of_a = record { key = a; uid = A; last = 14; range = record { event = 1; low = 15; high = last_place } }

-- A removal that a reader sees before it is answered.
abbrev pub removal_seen_early : History
removal_seen_early = history []
    (request 1 1 2 (Made (object a 14 A 1) true) ∷ request 2 3 8 (Removed a A) ∷ request 3 4 6 (Saw (object a 14 A 1)) ∷ request 4 5 7 (SawNone a) ∷ [])
    (0 ∷ 2 ∷ 3 ∷ 1 ∷ []) (written 14 1 2 ∷ []) (version (object a 14 A 1) (ByEvent 0) ∷ []) (removal_of_a ∷ [])

abbrev pub removal_seen_early_outcome : Outcome
removal_seen_early_outcome = Explained (line 1 (placed.Made 14) ∷ line 2 (placed.Removed 15) ∷ line 3 (placed.At 14) ∷ line 4 (placed.At 15) ∷ [])

-- One removal for all readers: gone before revision 16 for one, there behind it for another.
abbrev pub one_removal : History
one_removal = history []
    (request 1 1 2 (Made (object a 14 A 1) true) ∷ request 2 3 20 (Removed a A) ∷ request 3 5 6 (SawNone a)
    ∷ request 4 7 8 (Made (object b 16 B 1) true) ∷ request 5 9 10 (Saw (object a 14 A 1)) ∷ [])
    (0 ∷ 2 ∷ 3 ∷ 4 ∷ 1 ∷ []) (written 14 1 2 ∷ written 16 7 8 ∷ [])
    (version (object a 14 A 1) (ByEvent 0) ∷ version (object b 16 B 1) (ByEvent 3) ∷ []) (removal_of_a ∷ [])

abbrev pub one_removal_outcome : Outcome
one_removal_outcome = Unexplained 4 U10 16 last_place (RemovedIn 15 last_place 2 a ∷ MadeAt 16 4 b ∷ [])

-- A removal for which the next object leaves no place.
abbrev pub removal_without_place : History
removal_without_place = history []
    (request 1 1 2 (Made (object a 20 A 1) true) ∷ request 2 3 4 (Removed a A) ∷ request 3 5 6 (Made (object a 21 E 1) true) ∷ [])
    (0 ∷ 1 ∷ 2 ∷ []) (written 20 1 2 ∷ written 21 5 6 ∷ [])
    (version (object a 20 A 1) (ByEvent 0) ∷ version (object a 21 E 1) (ByEvent 2) ∷ []) []

abbrev pub removal_without_place_outcome : Outcome
removal_without_place_outcome = Unexplained 1 U9 20 20 (MadeAt 20 1 a ∷ [])

-- A Conflict of a request whose condition is met; without the condition there is nothing to be right about.
abbrev pub conflict : History
conflict = history [] (request 1 1 2 (Made (object a 14 A 1) true) ∷ asked 2 3 4 (record { revision = Some 14; uid = None }) (SawOther a) ∷ [])
    (0 ∷ 1 ∷ []) (written 14 1 2 ∷ []) (version (object a 14 A 1) (ByEvent 0) ∷ []) []

abbrev pub conflict_outcome : Outcome
conflict_outcome = Unexplained 1 U12 14 last_place (MadeAt 14 1 a ∷ [])

abbrev pub conflict_unasked : History
conflict_unasked = history [] (request 1 1 2 (Made (object a 14 A 1) true) ∷ request 2 3 4 Free ∷ [])
    (0 ∷ 1 ∷ []) (written 14 1 2 ∷ []) (version (object a 14 A 1) (ByEvent 0) ∷ []) []

abbrev pub conflict_unasked_outcome : Outcome
conflict_unasked_outcome = Explained (line 1 (placed.Made 14) ∷ line 2 placed.Nowhere ∷ [])

-- A binding of a pod hides the write that the next reader sees; the revision behind it shows the pod again.
abbrev pub P : Text
P = codes "P"

abbrev pub pod_cover : Cover
pod_cover = record { group = []; resource = codes "pods"; namespace = Some (codes "d"); name = Exact (codes "p"); creates = true }

abbrev pub hidden_write : History
hidden_write = history (object p 9 P 1 ∷ [])
    (request 1 1 2 (Opaque pod_cover) ∷ request 2 3 4 (Saw (object p 12 P 2))
    ∷ asked 3 5 6 (record { revision = Some 12; uid = Some P }) (Made (object p 15 P 3) false) ∷ request 4 7 8 (Saw (object p 15 P 3)) ∷ [])
    (0 ∷ 1 ∷ 2 ∷ 3 ∷ []) (written 15 5 6 ∷ []) (version (object p 9 P 1) Snapshot ∷ version (object p 15 P 3) (ByEvent 2) ∷ []) []

abbrev pub hidden_write_outcome : Outcome
hidden_write_outcome = Explained (line 1 placed.Nowhere ∷ line 2 (placed.At 11) ∷ line 3 (placed.Made 15) ∷ line 4 (placed.At 15) ∷ [])

abbrev pub hidden_no_more : History
hidden_no_more = history (object p 9 P 1 ∷ [])
    (request 1 1 2 (Opaque pod_cover) ∷ request 2 3 4 (Saw (object p 12 P 2))
    ∷ asked 3 5 6 (record { revision = Some 12; uid = Some P }) (Made (object p 15 P 3) false) ∷ request 4 7 8 (Saw (object p 15 P 3))
    ∷ request 5 9 10 (Saw (object p 13 P 2)) ∷ [])
    (0 ∷ 1 ∷ 2 ∷ 3 ∷ 4 ∷ []) (written 15 5 6 ∷ []) (version (object p 9 P 1) Snapshot ∷ version (object p 15 P 3) (ByEvent 2) ∷ []) []

abbrev pub hidden_no_more_outcome : Outcome
hidden_no_more_outcome = Unexplained 4 U10 15 last_place (MadeAt 15 3 p ∷ [])

-- A revision that comes before a smaller one.
abbrev pub out_of_turn : History
out_of_turn = history [] (request 1 1 2 (Made (object a 12 A 1) true) ∷ request 2 3 4 (Made (object b 11 B 1) true) ∷ [])
    (0 ∷ 1 ∷ []) (written 11 3 4 ∷ written 12 1 2 ∷ [])
    (version (object b 11 B 1) (ByEvent 1) ∷ version (object a 12 A 1) (ByEvent 0) ∷ []) []

abbrev pub out_of_turn_outcome : Outcome
out_of_turn_outcome = Unexplained 0 U3 10 10 []
