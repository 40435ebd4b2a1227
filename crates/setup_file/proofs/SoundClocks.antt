-- The clocks of a setup are sound.
use Rattle.std.proofs.Common.{◌≡◌, ℕ, ℤ, pos, negsuc, ◌^◌, ◌≤◌, nat_le, int_lt, [], ◌∷◌, inl, inr, Option, Some, None, IfSome, Ok, subst, ap, arith, codes}
use Rattle.std.proofs.lemmas.Bool.{leb-true}
use Rattle.base_types.specs.declared.kubernetes.revision.Moment.{Moment}
use Rattle.base_types.specs.Meaning.{Meaning}
use Rattle.base_types.specs.Parts.{member_of, text_of, whole_of}
use Rattle.setup_file.specs.declared.clocks.Clocks.{Clocks}
use Rattle.setup_file.specs.declared.clocks.Start.{Start}
use Rattle.setup_file.specs.declared.fault.SetupRule.TheVariants.{S4, S5, S6}
use Rattle.setup_file.specs.Clocks.{time_of, start_of, until_of, nanos_within, nanos_of}
use Rattle.base_types.specs.Texts.{revision_at}
use Rattle.setup_file.specs.Forms.{is_form}
use Rattle.timestamps.specs.Timestamps.{moment_of}
use Rattle.setup_file.specs.Reading.{chained, clocks_of}
use Rattle.base_types.specs.Moments.{IsMoment}
use Rattle.setup_file.specs.Steps.{or_breaks}
use Rattle.base_types.proofs.Found.{same_some, found_both, where_true, either}
use Rattle.setup_file.proofs.Chains.{chained_both, kept_both, same_kept, not_broken}
use Rattle.timestamps.proofs.Moments.{moment_is_sound}

time_is_sound : (tree : Meaning) (moment : Moment) → time_of tree ≡ Some moment → IsMoment moment.0
time_is_sound tree moment e = let text = found_both (text_of tree) moment_of moment e in moment_is_sound text.0 moment text.2

start_is_sound : (tree : Meaning) (start : Start) → start_of tree ≡ Some start → IsMoment start.time.0
start_is_sound tree start e =
    let form = where_true (is_form (codes "revision" ∷ codes "time" ∷ []) tree) _ start e in
    let revision = found_both (revision_at (codes "revision") tree) _ start form.1 in
    let value = found_both (member_of (codes "time") tree) _ start revision.2 in
    let time = found_both (time_of value.0) _ start value.2 in
    let is = same_some _ start time.2 in
    subst IsMoment (ap (λ (s : Start). s.time.0) is) (time_is_sound value.0 time.0 time.1)

-- the moment, where there is one, is one that a setup may have
abbrev pub MayEndAt : Option Moment → Type 0
MayEndAt until = IfSome until (λ moment. IsMoment moment.0)

until_is_sound : (start : Moment) (member : Option Meaning) (until : Option Moment) → until_of start member ≡ Some until → MayEndAt until
until_is_sound start None until e = subst MayEndAt (same_some None until e) tt
until_is_sound start (Some tree) until e =
    let moment = found_both (time_of tree) _ until e in
    elim (either (int_lt moment.0.0 start.0) None (Some (Some moment.0)) (Some until) moment.2) [
      | inl early ↦ absurd (no early.1)
      | inr late ↦ subst MayEndAt (same_some (Some moment.0) until late.1) (time_is_sound tree moment.0 moment.1)
    ]
  where
    no : ◌≡◌ {A = Option (Option Moment)} None (Some until) → ⊥
    no f = cc

nanos_are_within : (number : ℤ) (nanos : ℕ) → nanos_within number ≡ Some nanos → nanos ≤ 10 ^ 18
nanos_are_within (pos n) nanos e =
    let few = where_true (nat_le n (10 ^ 18)) (Some n) nanos e in
    subst (λ m. m ≤ 10 ^ 18) (same_some n nanos few.1) (leb-true n (10 ^ 18) few.0)
nanos_are_within (negsuc n) nanos e = absurd (cc)

nanos_are_few : (member : Option Meaning) (nanos : ℕ) → nanos_of member ≡ Some nanos → nanos ≤ 10 ^ 18
nanos_are_few None nanos e = subst (λ m. m ≤ 10 ^ 18) (same_some 0 nanos e) (omega arith)
nanos_are_few (Some tree) nanos e = let number = found_both (whole_of tree) nanos_within nanos e in nanos_are_within number.0 nanos number.2

pub record AreSoundClocks (clocks : Clocks) : Type 0 where
  pub slack : clocks.slack ≤ 10 ^ 18
  pub lag : clocks.lag ≤ 10 ^ 18
  pub start_time : IsMoment clocks.start_time.0
  pub until : MayEndAt clocks.until

pub clocks_are_sound : (tree : Meaning) (clocks : Clocks) → clocks_of tree ≡ Ok clocks → AreSoundClocks clocks
clocks_are_sound tree clocks e =
    let start = kept_both (or_breaks S4 (chained (member_of (codes "start") tree) start_of)) _ clocks e in
    let until = kept_both (or_breaks S5 (until_of start.0.time (member_of (codes "until") tree))) _ clocks start.2 in
    let slack = kept_both (or_breaks S6 (nanos_of (member_of (codes "slackNanos") tree))) _ clocks until.2 in
    let lag = kept_both (or_breaks S6 (nanos_of (member_of (codes "lagNanos") tree))) _ clocks slack.2 in
    let member = chained_both (member_of (codes "start") tree) start_of start.0 (not_broken S4 _ start.0 start.1) in
    subst AreSoundClocks (same_kept _ clocks lag.2) (record {
      slack = nanos_are_few (member_of (codes "slackNanos") tree) slack.0 (not_broken S6 _ slack.0 slack.1);
      lag = nanos_are_few (member_of (codes "lagNanos") tree) lag.0 (not_broken S6 _ lag.0 lag.1);
      start_time = start_is_sound member.0 start.0 member.2;
      until = until_is_sound start.0.time (member_of (codes "until") tree) until.0 (not_broken S5 _ until.0 until.1);
    })
