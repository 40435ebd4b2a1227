-- The table's first row that applies gives what the decisions give, one after another.
use Rattle.std.proofs.Common.{◌≡◌, ℕ, Bool, true, false, not, ◌&&◌, if◌then◌else◌, nat_le, List, [], ◌∷◌, Option, Some, None, inl, inr, refl, sym, ap, ◌∙◌, arith}
use Rattle.std.proofs.lemmas.Bool.{true≢false, false≢true, and_parts, and_cases, and_left, and_right, leb-false, lt-leb}
use Rattle.base_types.specs.Meaning.{Meaning}
use Rattle.base_types.specs.Texts.{◌>>=◌}
use Rattle.audit_event.specs.declared.event.Event.{Event}
use Rattle.setup_file.specs.declared.lists.ListRead.{ListRead}
use Rattle.setup_file.specs.declared.setup.Setup.{Setup}
use Rattle.setup_file.specs.declared.setup.SnapshotObject.{SnapshotObject}
use Rattle.setup_file.specs.declared.setup.Tracked.{Tracked}
use Rattle.answer_class.specs.Bodies.{is_finalizing, is_ended, answered_object}
use Rattle.answer_class.specs.Classes.{key_named, path_key, saw, listed, listed_within, read_by, read_class, is_missing, asked_name, is_taken, is_conflict, conflict_class, taken_class, refused_class, is_outside, is_out_of_sight, later_class, removed_uid, removed, is_made_by, made_class, is_hidden, succeeded_class, is_dry, is_idle, tracked_class, class_in, class_of}
use Rattle.answer_class.specs.Covers.{cover_of}
use Rattle.answer_class.specs.Lists.{extent_of, answered_list}
use Rattle.setup_file.specs.Requests.{tracked_of}
use Rattle.answer_class.specs.Requests.{is_empty, verb_of, is_write, is_read, is_completing, effect_of, is_own, is_unknown, succeeds, is_code, is_done, is_open}
use Rattle.answer_class.specs.Table.{when, is_write_event, is_read_event, idle_request, bygone_write, unanswered_write, unrecorded_write, is_made, counts, made_object, made_before, removed_object, other_write, outside_log, unknown_read, old_read, not_found, already_exists, conflict, is_get, is_list, got_object, listed_objects, other_read, rows, first_row, by_table_of, by_table}
use Rattle.answer_class.specs.Times.{is_early, is_before}
use Rattle.answer_class.specs.declared.answer.Answer.{Answer}
use Rattle.answer_class.specs.declared.answer.Answer.TheVariants.{Made, Removed, Opaque, Saw, SawNone, SawSome, SawOther, Free, Aside}
use Rattle.answer_class.specs.declared.request.Verb.{Verb}
use Rattle.answer_class.specs.declared.request.Verb.TheVariants.{Create, Update, Patch, Delete, DeleteCollection, Get, Listing, Other}

-- ---- rows and decisions

-- a row before rows that give `rest` is a decision before `rest`
row : (applies : Bool) (answer : Answer) (later : List (Option Answer)) (rest : Answer) → first_row later ≡ rest
    → first_row (when applies answer ∷ later) ≡ if applies then answer else rest
row true answer later rest is = refl
row false answer later rest is = is

-- a row that applies to nothing
never : {X : Type 0} (found : Option X) (applies : X → Bool) (answer : X → Answer) → ((x : X) → applies x ≡ false)
    → (found >>= (λ x. when (applies x) (answer x))) ≡ None
never None applies answer unmet = refl
never (Some x) applies answer unmet = ap (λ b. when b (answer x)) (unmet x)

-- ---- the rows of a write that was made

-- two rows that share a condition
two_rows : (made counted : Bool) (new old : Answer) (later : List (Option Answer)) (rest : Answer) → first_row later ≡ rest
    → first_row (when (made && counted) new ∷ when (made && not counted) old ∷ later) ≡ if made then (if counted then new else old) else rest
two_rows true true new old later rest is = refl
two_rows true false new old later rest is = refl
two_rows false counted new old later rest is = is

removal : (made early : Bool) (answer hidden : Answer) (later : List (Option Answer)) → made ≡ true
    → first_row (when (made && not early) answer ∷ Some hidden ∷ later) ≡ if early then hidden else answer
removal false early answer hidden later is = absurd (false≢true is)
removal true true answer hidden later is = refl
removal true false answer hidden later is = refl

abbrev removed_of : Setup → Tracked → Event → Option (List ℕ) → Option Answer
removed_of setup tracked event found =
    found >>= (λ uid. when (succeeds event.status.code && not (is_early setup event)) (Removed (path_key tracked event.attrs) uid))

removed_rows : (setup : Setup) (tracked : Tracked) (event : Event) (found : Option (List ℕ)) (later : List (Option Answer)) → succeeds event.status.code ≡ true
    → first_row (removed_of setup tracked event found ∷ Some (Opaque (cover_of tracked event)) ∷ later) ≡ removed setup tracked event found
removed_rows setup tracked event None later is = refl
removed_rows setup tracked event (Some uid) later is =
    removal (succeeds event.status.code) (is_early setup event) (Removed (path_key tracked event.attrs) uid) (Opaque (cover_of tracked event)) later is

abbrev made_of : Event → SnapshotObject → Answer
made_of event object = Made object.key object.revision object.uid object.tree (is_code 201 event.status.code)

abbrev made_object_of : Setup → Event → Option SnapshotObject → Option Answer
made_object_of setup event found = found >>= (λ object. when (is_made event object && counts setup event object) (made_of event object))

abbrev made_before_of : Setup → Event → Option SnapshotObject → Option Answer
made_before_of setup event found = found >>= (λ object. when (is_made event object && not (counts setup event object)) Aside)

abbrev removed_from : Setup → Tracked → Event → Option SnapshotObject → Option Answer
removed_from setup tracked event found = removed_of setup tracked event (removed_uid (verb_of event.attrs.verb) event found)

made_rows : (setup : Setup) (tracked : Tracked) (event : Event) (found : Option SnapshotObject) (later : List (Option Answer)) → succeeds event.status.code ≡ true
    → first_row (made_object_of setup event found ∷ made_before_of setup event found ∷ removed_from setup tracked event found ∷ Some (Opaque (cover_of tracked event)) ∷ later)
    ≡ made_class setup tracked event found
made_rows setup tracked event None later is = removed_rows setup tracked event (removed_uid (verb_of event.attrs.verb) event None) later is
made_rows setup tracked event (Some object) later is =
    two_rows (is_made event object) (counts setup event object) (made_of event object) Aside
    (removed_from setup tracked event (Some object) ∷ Some (Opaque (cover_of tracked event)) ∷ later)
    (removed setup tracked event (removed_uid (verb_of event.attrs.verb) event (Some object)))
    (removed_rows setup tracked event (removed_uid (verb_of event.attrs.verb) event (Some object)) later is)

-- ---- these rows at any other event

undone : (code : Option ℕ) → succeeds code ≡ false → is_done code ≡ false
undone None unmet = refl
undone (Some code) unmet = elim (and_cases (nat_le 200 code) (nat_le code 299) unmet) [
  | inl low ↦ and_left (nat_le 200 code) (nat_le code 202) low
  | inr high ↦ and_right (nat_le 200 code) (nat_le code 202) (lt-leb code 202 (omega (arith, leb-false code 299 high)))
]

unmade : (verb : Verb) (code : Option ℕ) (tree : Meaning) → (is_write verb && succeeds code) ≡ false → (is_done code && is_made_by verb tree) ≡ false
unmade Create code tree unmet = and_left (is_done code) true (undone code unmet)
unmade Update code tree unmet = and_left (is_done code) (not (is_ended tree)) (undone code unmet)
unmade Patch code tree unmet = and_left (is_done code) (not (is_ended tree)) (undone code unmet)
unmade Delete code tree unmet = and_left (is_done code) (is_finalizing tree) (undone code unmet)
unmade DeleteCollection code tree unmet = and_left (is_done code) false (undone code unmet)
unmade Get code tree unmet = and_right (is_done code) false refl
unmade Listing code tree unmet = and_right (is_done code) false refl
unmade Other code tree unmet = and_right (is_done code) false refl

unremoved : (verb : Verb) (event : Event) (found : Option SnapshotObject) → is_write verb ≡ false → removed_uid verb event found ≡ None
unremoved Create event found unmet = refl
unremoved Update event found unmet = absurd (true≢false unmet)
unremoved Patch event found unmet = absurd (true≢false unmet)
unremoved Delete event found unmet = absurd (true≢false unmet)
unremoved DeleteCollection event found unmet = refl
unremoved Get event found unmet = refl
unremoved Listing event found unmet = refl
unremoved Other event found unmet = refl

no_object : (setup : Setup) (event : Event) (found : Option SnapshotObject) → (is_write_event event && succeeds event.status.code) ≡ false → made_object_of setup event found ≡ None
no_object setup event found unmet =
    never found (λ object. is_made event object && counts setup event object) (made_of event)
    (λ object. and_left (is_made event object) (counts setup event object) (unmade (verb_of event.attrs.verb) event.status.code object.tree unmet))

no_object_before : (setup : Setup) (event : Event) (found : Option SnapshotObject) → (is_write_event event && succeeds event.status.code) ≡ false → made_before_of setup event found ≡ None
no_object_before setup event found unmet =
    never found (λ object. is_made event object && not (counts setup event object)) (λ object. Aside)
    (λ object. and_left (is_made event object) (not (counts setup event object)) (unmade (verb_of event.attrs.verb) event.status.code object.tree unmet))

no_removal : (setup : Setup) (tracked : Tracked) (event : Event) (found : Option SnapshotObject) → (is_write_event event && succeeds event.status.code) ≡ false
    → removed_from setup tracked event found ≡ None
no_removal setup tracked event found unmet = elim (and_cases (is_write_event event) (succeeds event.status.code) unmet) [
  | inl reads ↦ ap (removed_of setup tracked event) (unremoved (verb_of event.attrs.verb) event found reads)
  | inr fails ↦
      never (removed_uid (verb_of event.attrs.verb) event found) (λ uid. succeeds event.status.code && not (is_early setup event)) (λ uid. Removed (path_key tracked event.attrs) uid)
      (λ uid. and_left (succeeds event.status.code) (not (is_early setup event)) fails)
]

-- ---- the rows of writes

passed_by : (made before ended : Option Answer) (later : List (Option Answer)) (rest : Answer) → made ≡ None → before ≡ None → ended ≡ None → first_row later ≡ rest
    → first_row (made ∷ before ∷ ended ∷ None ∷ later) ≡ rest
passed_by made before ended later rest no_made no_before no_ended is = (λ i. first_row (no_made i ∷ no_before i ∷ no_ended i ∷ None ∷ later)) ∙ is

written : (succeeded hidden : Bool) (answer shown rest : Answer) (made before ended : Option Answer) (later : List (Option Answer))
    → (succeeded ≡ true → first_row (made ∷ before ∷ ended ∷ Some answer ∷ later) ≡ shown)
    → (succeeded ≡ false → first_row (made ∷ before ∷ ended ∷ None ∷ later) ≡ rest)
    → first_row (when (succeeded && hidden) answer ∷ made ∷ before ∷ ended ∷ when succeeded answer ∷ later) ≡ if succeeded then (if hidden then answer else shown) else rest
written true true answer shown rest made before ended later if_made if_not = refl
written true false answer shown rest made before ended later if_made if_not = if_made refl
written false hidden answer shown rest made before ended later if_made if_not = if_not refl

-- ---- the rows of reads

nothing : {X : Type 0} (found : Option X) → (found >>= (λ x. when false Free)) ≡ None
nothing None = refl
nothing (Some x) = refl

-- neither a get nor a list
unread : (object : Option SnapshotObject) (list : Option ListRead) (ok : Bool)
    → first_row ((object >>= (λ o. when false Free)) ∷ (list >>= (λ l. when false Free)) ∷ None ∷ []) ≡ if ok then Free else Free
unread object list true = (λ i. first_row (nothing object i ∷ nothing list i ∷ None ∷ []))
unread object list false = (λ i. first_row (nothing object i ∷ nothing list i ∷ None ∷ []))

got_rows : (tracked : Tracked) (event : Event) (ok empty : Bool) (found : Option SnapshotObject)
    → first_row ((found >>= (λ object. when (ok && not empty) (Saw (path_key tracked event.attrs) object.revision object.uid object.tree))) ∷ None ∷ when ok Aside ∷ [])
    ≡ if ok then (if empty then Aside else saw tracked event found) else Free
got_rows tracked event false empty None = refl
got_rows tracked event false empty (Some object) = refl
got_rows tracked event true true None = refl
got_rows tracked event true true (Some object) = refl
got_rows tracked event true false None = refl
got_rows tracked event true false (Some object) = refl

listed_rows : (tracked : Tracked) (event : Event) (ok own : Bool) (found : Option ListRead)
    → first_row (None ∷ (found >>= (λ list. when (ok && own) (listed_within tracked event list (extent_of event.attrs list.rest)))) ∷ when ok Aside ∷ [])
    ≡ if ok then (if own then listed tracked event found else Aside) else Free
listed_rows tracked event false own None = refl
listed_rows tracked event false own (Some list) = refl
listed_rows tracked event true true None = refl
listed_rows tracked event true true (Some list) = refl
listed_rows tracked event true false None = refl
listed_rows tracked event true false (Some list) = refl

abbrev got_by : Verb → Bool → Tracked → Event → Option Answer
got_by verb ok tracked event = answered_object tracked event >>= (λ object.
    when (is_get verb && ok && not (is_empty event.attrs.name)) (Saw (path_key tracked event.attrs) object.revision object.uid object.tree))

abbrev listed_by : Verb → Bool → Tracked → Event → Option Answer
listed_by verb ok tracked event = answered_list tracked event >>= (λ list.
    when (is_list verb && ok && is_own (effect_of tracked event.attrs)) (listed_within tracked event list (extent_of event.attrs list.rest)))

reads_by : (verb : Verb) (ok : Bool) (tracked : Tracked) (event : Event)
    → first_row (got_by verb ok tracked event ∷ listed_by verb ok tracked event ∷ when (is_read verb && ok) Aside ∷ []) ≡ if ok then read_by verb tracked event else Free
reads_by Create ok tracked event = unread (answered_object tracked event) (answered_list tracked event) ok
reads_by Update ok tracked event = unread (answered_object tracked event) (answered_list tracked event) ok
reads_by Patch ok tracked event = unread (answered_object tracked event) (answered_list tracked event) ok
reads_by Delete ok tracked event = unread (answered_object tracked event) (answered_list tracked event) ok
reads_by DeleteCollection ok tracked event = unread (answered_object tracked event) (answered_list tracked event) ok
reads_by Get ok tracked event =
    let is : first_row (got_by Get ok tracked event ∷ None ∷ when ok Aside ∷ []) ≡ if ok then read_by Get tracked event else Free =
    got_rows tracked event ok (is_empty event.attrs.name) (answered_object tracked event) in
    (λ i. first_row (got_by Get ok tracked event ∷ nothing (answered_list tracked event) i ∷ when ok Aside ∷ [])) ∙ is
reads_by Listing ok tracked event =
    let is : first_row (None ∷ listed_by Listing ok tracked event ∷ when ok Aside ∷ []) ≡ if ok then read_by Listing tracked event else Free =
    listed_rows tracked event ok (is_own (effect_of tracked event.attrs)) (answered_list tracked event) in
    (λ i. first_row (nothing (answered_object tracked event) i ∷ listed_by Listing ok tracked event ∷ when ok Aside ∷ [])) ∙ is
reads_by Other ok tracked event = unread (answered_object tracked event) (answered_list tracked event) ok

-- ---- from the last row to the first

abbrev read_rows : Tracked → Event → List (Option Answer)
read_rows tracked event = got_object tracked event ∷ listed_objects tracked event ∷ other_read event ∷ []

abbrev conflict_rows : Tracked → Event → List (Option Answer)
conflict_rows tracked event = conflict tracked event ∷ read_rows tracked event

abbrev taken_rows : Tracked → Event → List (Option Answer)
taken_rows tracked event = already_exists tracked event ∷ conflict_rows tracked event

abbrev refused_rows : Tracked → Event → List (Option Answer)
refused_rows tracked event = not_found tracked event ∷ taken_rows tracked event

abbrev seen_rows : Setup → Tracked → Event → List (Option Answer)
seen_rows setup tracked event = old_read setup event ∷ refused_rows tracked event

abbrev known_rows : Setup → Tracked → Event → List (Option Answer)
known_rows setup tracked event = unknown_read tracked event ∷ seen_rows setup tracked event

abbrev later_rows : Setup → Tracked → Event → List (Option Answer)
later_rows setup tracked event = outside_log setup tracked event ∷ known_rows setup tracked event

abbrev written_rows : Setup → Tracked → Event → List (Option Answer)
written_rows setup tracked event =
    unrecorded_write setup tracked event
    ∷ made_object setup tracked event
    ∷ made_before setup tracked event
    ∷ removed_object setup tracked event
    ∷ other_write tracked event
    ∷ later_rows setup tracked event

abbrev answered_rows : Setup → Tracked → Event → List (Option Answer)
answered_rows setup tracked event = unanswered_write tracked event ∷ written_rows setup tracked event

abbrev logged_rows : Setup → Tracked → Event → List (Option Answer)
logged_rows setup tracked event = bygone_write setup event ∷ answered_rows setup tracked event

abbrev asked_rows : Setup → Tracked → Event → List (Option Answer)
asked_rows setup tracked event = idle_request tracked event ∷ logged_rows setup tracked event

reads_are : (tracked : Tracked) (event : Event) → first_row (read_rows tracked event) ≡ read_class tracked event
reads_are tracked event = reads_by (verb_of event.attrs.verb) (is_code 200 event.status.code) tracked event

conflicts_are : (tracked : Tracked) (event : Event) → first_row (conflict_rows tracked event) ≡ conflict_class tracked event
conflicts_are tracked event =
    row (is_conflict tracked event) (SawOther (path_key tracked event.attrs)) (read_rows tracked event) (read_class tracked event) (reads_are tracked event)

names_are : (tracked : Tracked) (event : Event) (found : Option (List ℕ)) (later : List (Option Answer)) → first_row later ≡ conflict_class tracked event
    → first_row ((found >>= (λ name. when (is_taken tracked event name) (SawSome (key_named tracked event.attrs name)))) ∷ later) ≡ taken_class tracked event found
names_are tracked event None later is = is
names_are tracked event (Some name) later is =
    row (is_taken tracked event name) (SawSome (key_named tracked event.attrs name)) later (conflict_class tracked event) is

refused_are : (tracked : Tracked) (event : Event) → first_row (refused_rows tracked event) ≡ refused_class tracked event
refused_are tracked event =
    row (is_missing tracked event) (SawNone (path_key tracked event.attrs)) (taken_rows tracked event) (taken_class tracked event (asked_name event))
    (names_are tracked event (asked_name event) (conflict_rows tracked event) (conflicts_are tracked event))

abbrev seen_class : Setup → Tracked → Event → Answer
seen_class setup tracked event = if is_read_event event && is_out_of_sight setup event then Aside else refused_class tracked event

seen_are : (setup : Setup) (tracked : Tracked) (event : Event) → first_row (seen_rows setup tracked event) ≡ seen_class setup tracked event
seen_are setup tracked event =
    row (is_read_event event && is_out_of_sight setup event) Aside (refused_rows tracked event) (refused_class tracked event) (refused_are tracked event)

abbrev known_class : Setup → Tracked → Event → Answer
known_class setup tracked event = if is_read_event event && is_unknown (effect_of tracked event.attrs) then Aside else seen_class setup tracked event

known_are : (setup : Setup) (tracked : Tracked) (event : Event) → first_row (known_rows setup tracked event) ≡ known_class setup tracked event
known_are setup tracked event =
    row (is_read_event event && is_unknown (effect_of tracked event.attrs)) Aside (seen_rows setup tracked event) (seen_class setup tracked event) (seen_are setup tracked event)

later_are : (setup : Setup) (tracked : Tracked) (event : Event) → first_row (later_rows setup tracked event) ≡ later_class setup tracked event
later_are setup tracked event =
    row (is_outside setup tracked event) Aside (known_rows setup tracked event) (known_class setup tracked event) (known_are setup tracked event)

abbrev is_done_write : Event → Bool
is_done_write event = is_write_event event && succeeds event.status.code

abbrev written_class : Setup → Tracked → Event → Answer
written_class setup tracked event = if is_done_write event then succeeded_class setup tracked event else later_class setup tracked event

written_are : (setup : Setup) (tracked : Tracked) (event : Event) → first_row (written_rows setup tracked event) ≡ written_class setup tracked event
written_are setup tracked event =
    let found = answered_object tracked event in
    written (is_done_write event) (is_hidden setup tracked event) (Opaque (cover_of tracked event)) (made_class setup tracked event found) (later_class setup tracked event)
    (made_object setup tracked event) (made_before setup tracked event) (removed_object setup tracked event) (later_rows setup tracked event)
    (λ met. made_rows setup tracked event found (later_rows setup tracked event) (and_parts (is_write_event event) (succeeds event.status.code) met).1)
    (λ unmet. passed_by (made_object setup tracked event) (made_before setup tracked event) (removed_object setup tracked event) (later_rows setup tracked event) (later_class setup tracked event)
    (no_object setup event found unmet) (no_object_before setup event found unmet) (no_removal setup tracked event found unmet) (later_are setup tracked event))

abbrev answered_class : Setup → Tracked → Event → Answer
answered_class setup tracked event = if is_write_event event && is_open event.status.code then Opaque (cover_of tracked event) else written_class setup tracked event

answered_are : (setup : Setup) (tracked : Tracked) (event : Event) → first_row (answered_rows setup tracked event) ≡ answered_class setup tracked event
answered_are setup tracked event =
    row (is_write_event event && is_open event.status.code) (Opaque (cover_of tracked event)) (written_rows setup tracked event) (written_class setup tracked event) (written_are setup tracked event)

abbrev logged_class : Setup → Tracked → Event → Answer
logged_class setup tracked event = if is_write_event event && is_before setup event then Aside else answered_class setup tracked event

logged_are : (setup : Setup) (tracked : Tracked) (event : Event) → first_row (logged_rows setup tracked event) ≡ logged_class setup tracked event
logged_are setup tracked event =
    row (is_write_event event && is_before setup event) Aside (answered_rows setup tracked event) (answered_class setup tracked event) (answered_are setup tracked event)

abbrev asked_class : Setup → Tracked → Event → Answer
asked_class setup tracked event = if is_idle tracked event then Free else logged_class setup tracked event

asked_are : (setup : Setup) (tracked : Tracked) (event : Event) → first_row (asked_rows setup tracked event) ≡ asked_class setup tracked event
asked_are setup tracked event = row (is_idle tracked event) Free (logged_rows setup tracked event) (logged_class setup tracked event) (logged_are setup tracked event)

all_are : (setup : Setup) (tracked : Tracked) (event : Event) → first_row (rows setup tracked event) ≡ tracked_class setup tracked event
all_are setup tracked event = row (is_dry event) Free (asked_rows setup tracked event) (asked_class setup tracked event) (asked_are setup tracked event)

tabled_in : (setup : Setup) (tracked : Option Tracked) (event : Event) → by_table_of setup tracked event ≡ class_in setup tracked event
tabled_in setup None event = refl
tabled_in setup (Some tracked) event = ap (λ answer. if is_completing event.stage then answer else Aside) (all_are setup tracked event)

-- the table and the decisions give one class
pub tabled : (setup : Setup) (event : Event) → by_table setup event ≡ class_of setup event
tabled setup event = tabled_in setup (tracked_of setup event.attrs) event

pub tabled_from : (setup : Setup) (event : Event) (answer : Answer) → answer ≡ class_of setup event → answer ≡ by_table setup event
tabled_from setup event answer is = is ∙ sym (tabled setup event)
