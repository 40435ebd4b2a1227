-- What a setup and a log tell has numbers such as a text may have, and few events.
use Rattle.std.proofs.Common.{◌≡◌, ℕ, ◌+◌, ◌≤◌, Bool, true, false, not, List, ◌++◌, length, length-append, Option, Some, None, slice_get, codes, refl, sym, ap, subst, ◌∙◌, if◌then◌else◌, arith}
use Rattle.std.specs.Prelude.{⊤}
use Rattle.std.proofs.lemmas.List.{length-map}
use Rattle.std.proofs.lemmas.Option.{slice_get_within}
use Rattle.base_types.specs.Revisions.{IsRevision, revision_of}
use Rattle.base_types.specs.declared.kubernetes.request.RequestAttrs.{RequestAttrs}
use Rattle.base_types.specs.Meaning.{Meaning}
use Rattle.audit_event.specs.declared.event.Event.{Event}
use Rattle.answer_class.specs.Classes.{class_of}
use Rattle.answer_class.specs.Requests.{first_value}
use Rattle.answer_class.specs.declared.answer.Answer.{Answer}
use Rattle.answer_class.specs.declared.answer.Answer.TheVariants.{Made, Removed, Opaque, Saw, SawNone, SawSome, SawOther, Listed, Free, Aside}
use Rattle.context_intake.specs.Contexts.{IsContextOf}
use Rattle.history_model.proofs.Members.{all_at, at_in}
use Rattle.history_model.specs.Events as model
use Rattle.history_model.specs.Histories.{IsEvent}
use Rattle.log_intake.proofs.CheckpointFacts.{few_read}
use Rattle.page_chains.specs.Chains.{chains_of}
use Rattle.setup_file.specs.declared.setup.Checkpoint.{Checkpoint}
use Rattle.setup_file.specs.declared.setup.Setup.{Setup}
use Rattle.log_context.proofs.LogLemmas.{Standing, of_event, of_checkpoint, logged_length, standing}
use Rattle.log_context.specs.Histories.{history_of}
use Rattle.log_context.specs.Known.{Known}
use Rattle.log_context.specs.Logged.{IsLogged, IsLoggedCheckpoint}
use Rattle.log_context.specs.Readings as readings
use Rattle.log_context.specs.Shown.{IsShownAs}
use Rattle.write_groups.proofs.Belonging.{IsLogged as IsLoggedAt, logged_from}
use Rattle.write_groups.specs.Modelled.{answer_of, event_of, item_of, reading_of}
use Rattle.write_groups.specs.declared.event.LogEvent.{LogEvent}
use Rattle.write_groups.specs.declared.event.Reading.{Reading}
use Rattle.write_groups.specs.declared.event.Reading.TheVariants.{MostRecent, AnyVersion, NotOlderThan, Exactly, Checkpoint as AtCheckpoint}
use Rattle.write_groups.specs.declared.event.Shown.{Shown}
use Rattle.verdict_text.specs.Words.{IsNumber}
use Rattle.context_laws.proofs.AnsweredRevisions.{ShowsRevision, shows_revision}
use Rattle.context_laws.proofs.CheckpointRevisions.{checkpoint_revision, few_chains}
use Rattle.context_laws.proofs.LogBounds.{AreFew, log_few}
use Rattle.context_laws.proofs.PlacedNumbers.{AreNumbers}

revision_small : (revision : ℕ) → IsRevision revision → IsNumber revision
revision_small revision is = let most = is.1 in omega (arith, most)

abbrev IsNoCheckpoint : Reading → Type 0
IsNoCheckpoint MostRecent = ⊤
IsNoCheckpoint AnyVersion = ⊤
IsNoCheckpoint (NotOlderThan revision) = ⊤
IsNoCheckpoint (Exactly revision) = ⊤
IsNoCheckpoint (AtCheckpoint revision) = ⊥

one_reading : (b : Bool) (x y : Reading) → IsNoCheckpoint x → IsNoCheckpoint y → IsNoCheckpoint (if b then x else y)
one_reading true x y p q = p
one_reading false x y p q = q

by_revision : (attrs : RequestAttrs) (revision : Option ℕ) → IsNoCheckpoint (readings.reading_by attrs revision)
by_revision attrs None = tt
by_revision attrs (Some revision) = one_reading (readings.wants_exactly attrs) (Exactly revision) (NotOlderThan revision) tt tt

by_text : (attrs : RequestAttrs) (text : Option (List ℕ)) → IsNoCheckpoint (readings.reading_from attrs text)
by_text attrs None = tt
by_text attrs (Some text) = by_revision attrs (revision_of text)

-- no request is read as a checkpoint
reads_none : (attrs : RequestAttrs) → IsNoCheckpoint (readings.reading_of attrs)
reads_none attrs =
    let asked = first_value (codes "resourceVersion") attrs in
    one_reading (not (readings.is_read attrs)) MostRecent (if readings.takes_any attrs then AnyVersion else readings.reading_from attrs asked) tt
    (one_reading (readings.takes_any attrs) AnyVersion (readings.reading_from attrs asked) tt (by_text attrs asked))

not_checkpoint : (reading : Reading) (revision : ℕ) → IsNoCheckpoint reading → reading_of reading ≡ model.Checkpoint revision → ⊥
not_checkpoint MostRecent revision none e = cc e
not_checkpoint AnyVersion revision none e = cc e
not_checkpoint (NotOlderThan other) revision none e = cc e
not_checkpoint (Exactly other) revision none e = cc e
not_checkpoint (AtCheckpoint other) revision none e = none

-- the revision that a write made
made_revision : (trees : List Meaning) (answer : Answer) (is : Shown) (item : model.Item) (created : Bool) → ShowsRevision answer → IsShownAs trees answer is → answer_of is ≡ model.Made item created → IsRevision item.revision
made_revision trees (Made key revision uid tree by) is item created shows (shown, same, of) e =
    let made : model.Made (item_of shown) by ≡ model.Made item created = sym (ap answer_of same) ∙ e in
    let one : item_of shown ≡ item = cc made in
    subst IsRevision (sym of.revision ∙ ap (λ (i : model.Item). i.revision) one) shows
made_revision trees (Removed key uid) is item created shows same e = absurd (cc (ap answer_of same, e))
made_revision trees (Opaque cover) is item created shows same e = absurd (cc (ap answer_of same, e))
made_revision trees (Saw key revision uid tree) is item created shows (shown, same, of) e = absurd (cc (ap answer_of same, e))
made_revision trees (SawNone key) is item created shows same e = absurd (cc (ap answer_of same, e))
made_revision trees (SawSome key) is item created shows same e = absurd (cc (ap answer_of same, e))
made_revision trees (SawOther key) is item created shows same e = absurd (cc (ap answer_of same, e))
made_revision trees (Listed group resource namespace revision whole items selector) is item created shows (listing, same, of) e = absurd (cc (ap answer_of same, e))
made_revision trees Free is item created shows same e = absurd (cc (ap answer_of same, e))
made_revision trees Aside is item created shows same e = absurd (cc (ap answer_of same, e))

-- the numbers that an event or a checkpoint tells
record TellsSmall (logged : LogEvent) : Type 0 where
  line : IsNumber logged.line
  made : (item : model.Item) (created : Bool) → answer_of logged.answer ≡ model.Made item created → IsNumber item.revision
  checkpoint : (revision : ℕ) → reading_of logged.reading ≡ model.Checkpoint revision → IsNumber revision

event_tells : (setup : Setup) (trees : List Meaning) (event : Event) (logged : LogEvent) → event.line ≤ 1099511627776 → IsLogged setup trees event logged → TellsSmall logged
event_tells setup trees event logged line is = record {
  line = (let same = is.line in omega (arith, line, same));
  made = λ item created e. revision_small item.revision (made_revision trees (class_of setup event) logged.answer item created (shows_revision setup event) is.answer e);
  checkpoint = λ revision e. absurd (not_checkpoint logged.reading revision (subst IsNoCheckpoint (sym is.reading) (reads_none event.attrs)) e);
}

checkpoint_tells : (trees : List Meaning) (number : ℕ) (checkpoint : Checkpoint) (logged : LogEvent) → number ≤ 4204304 → IsRevision checkpoint.revision → IsLoggedCheckpoint trees number checkpoint logged → TellsSmall logged
checkpoint_tells trees number checkpoint logged few revision is = record {
  line = (let same = is.line in omega (arith, few, same));
  made = λ item created e. absurd (cc (ap answer_of is.answer.1, e));
  checkpoint = λ other e.
      let same : model.Checkpoint checkpoint.revision ≡ model.Checkpoint other = sym (ap reading_of is.reading) ∙ e in
      let one : checkpoint.revision ≡ other = cc same in
      subst IsNumber one (revision_small checkpoint.revision revision);
}

module _ (setup log : List ℕ) (known : Known) (is : IsContextOf setup log known) where
  events_few : AreFew known.events
  events_few = log_few log known.events is.log_is

  checkpoints_are : known.setup.checkpoints ≡ is.read.checkpoints ++ chains_of is.read known.events
  checkpoints_are = ap (λ (s : Setup). s.checkpoints) is.chained

  checkpoints_few : length known.setup.checkpoints ≤ 4204304
  checkpoints_few =
      let whole = ap length checkpoints_are in
      let both = length-append is.read.checkpoints (chains_of is.read known.events) in
      let given = few_read setup is.read is.setup_is.1 in
      let chains = few_chains is.read known.events in
      let events = events_few.few in
      omega (arith, whole, both, given, chains, events)

  -- what stands in the log: the events, and behind them the checkpoints, which have no decision
  logged_at : (number : ℕ) (logged : LogEvent) → slice_get known.log number ≡ Some logged → TellsSmall logged × (length known.events ≤ number → logged.decision ≡ None)
  logged_at number logged at = go (standing known.setup known.trees known.events known.log is.told.logged number logged at)
    where
      go : Standing known.setup known.trees known.events number logged → TellsSmall logged × (length known.events ≤ number → logged.decision ≡ None)
      go (of_event event here told) =
          let within = slice_get_within known.events number event here in
          let line = all_at (λ (e : Event). e.line ≤ 1099511627776) known.events event events_few.lines (at_in known.events number event here) in
          (event_tells known.setup known.trees event logged line told, λ behind. absurd (omega (arith, within, behind)))
      go (of_checkpoint place checkpoint same here told) =
          let within = slice_get_within known.setup.checkpoints place checkpoint here in
          let few = checkpoints_few in
          let revision = checkpoint_revision setup is.read known.events place checkpoint is.setup_is.1 (subst (λ l. slice_get l place ≡ Some checkpoint) checkpoints_are here) in
          (checkpoint_tells known.trees (place + 1) checkpoint logged (omega (arith, within, few)) revision told, λ behind. told.decision)

  event_logged : (number : ℕ) (event : model.Event) → IsEvent (history_of known) number event → IsLoggedAt known.log number event
  event_logged number event at = logged_from known.log (history_of known) number event refl at

  pub told_numbers : AreNumbers (history_of known)
  told_numbers = record {
    lines = λ number event at. (let l = event_logged number event at in subst (λ (e : model.Event). IsNumber e.line) l.is (logged_at number l.logged l.at).0.line);
    made = λ number event item created at e. (let l = event_logged number event at in (logged_at number l.logged l.at).0.made item created (ap (λ (x : model.Event). x.answer) l.is ∙ e));
    checkpoints = λ number event revision at e. (let l = event_logged number event at in (logged_at number l.logged l.at).0.checkpoint revision (ap (λ (x : model.Event). x.reading) l.is ∙ e));
  }

  pub told_undecided : (number : ℕ) (event : model.Event) → IsEvent (history_of known) number event → length known.events ≤ number → event.decision ≡ None
  told_undecided number event at behind =
      let l = event_logged number event at in
      subst (λ (e : model.Event). e.decision ≡ None) l.is ((logged_at number l.logged l.at).1 behind)

  pub told_few : length known.events ≤ 4194304
  told_few = events_few.few

  pub told_lines : length (history_of known).events ≤ length known.events + 4204304
  told_lines =
      let mapped = length-map known.log event_of in
      let long = logged_length known.setup known.trees known.events known.log is.told.logged in
      let few = checkpoints_few in
      omega (arith, mapped, long, few)
