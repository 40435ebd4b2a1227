-- The first rule that a value breaks, rule after rule.
use Rattle.std.proofs.Common.{◌≡◌, ℕ, ◌+◌, ◌<◌, ◌≤◌, Bool, List, Option, Some, IsSome, refl, sym, ap, subst, ◌∙◌, inl, inr, ◌==◌, if◌then◌else◌, arith, rules}
use Rattle.std.proofs.Math.Nat.{eq-or-lt_of_le}
use Rattle.std.proofs.lemmas.Bool.{cases_lt}
use Rattle.serde_json.specs.Data.{Data}
use Rattle.request_attrs.specs.declared.fault.UriFault.{UriFault}
use Rattle.request_attrs.specs.declared.fault.UriFault.TheVariants.{NoSlash, BadEscape, NotText, OutOfMemory}
use Rattle.request_attrs.specs.Refusals.{IsCause}
use Rattle.audit_event.specs.declared.fault.Malformed.{Malformed}
use Rattle.audit_event.specs.declared.fault.Malformed.TheVariants.{M1, M2, M3, M4, M5, M6, M7, M8, M9, M10, M11, M12}
use Rattle.audit_event.specs.declared.fault.EventFault.{EventFault}
use Rattle.audit_event.specs.declared.fault.EventFault.TheVariants.{Malformed as Broken}
use Rattle.audit_event.specs.declared.fault.EventFault.TheVariants as Fault
use Rattle.audit_event.specs.declared.reading.Recording.{Recording}
use Rattle.audit_event.specs.declared.reading.Request.{Request}
use Rattle.audit_event.specs.Events.{fault_for, IsUnreadable, IsCauseFrom}
use Rattle.audit_event.specs.Levels.{level_in, stage_in}
use Rattle.audit_event.specs.Recorded.{IsRecordingOf, IsRequestRead}
use Rattle.audit_event.specs.Rules.{rank, Keeps, BreaksFrom, audit_id_in, uri_in}
use Rattle.audit_event.specs.Times.{times_in}

-- a rule by its place
ruled : ℕ → Malformed
ruled n =
    if n == 1 then M1 else (if n == 2 then M2 else (if n == 3 then M3 else (if n == 4 then M4 else (if n == 5 then M5 else (if n == 6 then M6 else (if n == 7 then M7 else (if n == 8 then M8 else (if n == 9 then M9 else (if n == 10 then M10 else (if n == 11 then M11 else M12))))))))))

ruled-rank : (code : Malformed) → ruled (rank code) ≡ code
unfolding ruled
ruled-rank M1 = refl
ruled-rank M2 = refl
ruled-rank M3 = refl
ruled-rank M4 = refl
ruled-rank M5 = refl
ruled-rank M6 = refl
ruled-rank M7 = refl
ruled-rank M8 = refl
ruled-rank M9 = refl
ruled-rank M10 = refl
ruled-rank M11 = refl
ruled-rank M12 = refl

-- the rules from a place on, up to another, are kept
abbrev pub KeptFrom : ℕ → ℕ → Data → (Data → Bool) → Type 0
KeptFrom low high value heading = (other : Malformed) → low ≤ rank other → rank other < high → Keeps heading other value

pub kept_none : (place : ℕ) (value : Data) (heading : Data → Bool) → KeptFrom place place value heading
kept_none place value heading other low high = absurd (omega arith)

-- one rule more
pub kept_more : (low : ℕ) (code : Malformed) (value : Data) (heading : Data → Bool) → KeptFrom low (rank code) value heading → Keeps heading code value → KeptFrom low (rank code + 1) value heading
kept_more low code value heading kept here other above below =
    let within : rank other ≤ rank code = omega arith in
    elim (eq-or-lt_of_le within) [
      | inr less ↦ kept other above less
      | inl same ↦ (let is : code ≡ other = sym (ruled-rank code) ∙ ap ruled (sym same) ∙ ruled-rank other in subst (λ rule. Keeps heading rule value) is here)
    ]

-- of two stretches of rules the first is kept, and the second is broken
pub broken_later : (low high : ℕ) (code : Malformed) (value : Data) (heading : Data → Bool) → KeptFrom low high value heading → BreaksFrom high heading code value → BreaksFrom low heading code value
broken_later low high code value heading kept breaks = record {
  broken = breaks.broken;
  earlier = λ other above below. elim (cases_lt (rank other) high) [
    | inl less ↦ kept other above less
    | inr more ↦ breaks.earlier other more below
  ];
}

-- a URI that `attrs_of` refuses has no attributes
pub unreadable : (uri : List ℕ) (fault : UriFault) → IsCause uri fault → IsUnreadable uri (fault_for fault)
unreadable uri NoSlash cause = (refl, λ reads. cause reads.slash)
unreadable uri BadEscape cause = (refl, λ reads. cause.1 reads.escapes)
unreadable uri NotText cause = (refl, λ reads. cause.2 reads.utf8)
unreadable uri OutOfMemory cause = tt

-- what breaks a later rule breaks none of these
pub later_cause : (low high : ℕ) (value : Data) (fault : EventFault) → ((heading : Data → Bool) → KeptFrom low high value heading) → IsCauseFrom high value fault → IsCauseFrom low value fault
later_cause low high value (Broken code) kept cause = λ heading. broken_later low high code value heading (kept heading) (cause heading)
later_cause low high value Fault.OutOfMemory kept cause = tt

has : {A : Type 0} (found : Option A) (x : A) → found ≡ Some x → IsSome found
has found x is = search rules

-- the rules on when and how much
pub recording_kept : (value : Data) (recording : Recording) → IsRecordingOf value recording → (heading : Data → Bool) → KeptFrom 3 7 value heading
recording_kept value recording is heading =
    kept_more 3 M6 value heading
    (kept_more 3 M5 value heading
    (kept_more 3 M4 value heading
    (kept_more 3 M3 value heading (kept_none 3 value heading) (has (level_in value) recording.level is.level))
    (has (stage_in value) recording.stage is.stage))
    (has (times_in value) recording.times is.times))
    is.numbers

-- and those on the request
pub request_kept : (value : Data) (request : Request) → IsRequestRead value request → (heading : Data → Bool) → KeptFrom 3 7 value heading → KeptFrom 3 10 value heading
request_kept value request is heading kept =
    kept_more 3 M9 value heading
    (kept_more 3 M8 value heading
    (kept_more 3 M7 value heading kept (has (audit_id_in value) request.audit_id is.audit_id))
    (has (uri_in value) is.attrs.uri is.attrs.has_uri))
    (record { verb = is.attrs.verb; uri = is.attrs.uri; has_verb = is.attrs.has_verb; has_uri = is.attrs.has_uri; readable = is.attrs.readable })
