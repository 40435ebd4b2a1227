-- A setup and a log have one page.
use Rattle.std.proofs.Common.{◌≡◌, ◌++◌, ℕ, List, Option, Some, None, inl, inr, refl, sym, ◌∙◌, ap, subst}
use Rattle.base_types.specs.declared.verdict.claim.Reason.{Reason}
use Rattle.base_types.specs.declared.kubernetes.key.ObjectKey.{ObjectKey}
use Rattle.base_types.specs.declared.verdict.placed.Outcome.{Outcome}
use Rattle.base_types.specs.declared.verdict.placed.Outcome.TheVariants.{Explained, Unexplained}
use Rattle.base_types.specs.declared.verdict.placed.PlacedLine.{PlacedLine}
use Rattle.base_types.specs.declared.verdict.placed.WriteLine.{WriteLine}
use Rattle.context_intake.proofs.OneContextFacts.{one_context, one_refusal, one_way}
use Rattle.finding_picture.specs.Caches.{caches_section, caches_text}
use Rattle.finding_picture.specs.Heading.{heading_text, verdict_text}
use Rattle.finding_picture.specs.Hiding.{hiding_section, hiding_text}
use Rattle.finding_picture.specs.Objects.{key_on, object_section, object_text}
use Rattle.finding_picture.specs.Page.{event_sections, object_sections, page_text}
use Rattle.finding_picture.specs.Places.{band_text, drawing_text, places_text}
use Rattle.finding_picture.specs.declared.finding.Finding.{Finding}
use Rattle.log_picture.specs.Page.{IsLogPage, OnePage, events_text, log_page_text, objects_text, sections_text}
use Rattle.log_picture.specs.declared.changed.Changed.{Changed}
use Rattle.log_verdict.proofs.OnceFacts.{judged_once}
use Rattle.log_verdict.specs.Answers.{Answer, answer, outcome_status, refusal_answer}
use Rattle.log_context.proofs.OneHistory.{one_told}
use Rattle.log_context.specs.Known.{Known}
use Rattle.log_verdict.specs.declared.judged.JudgedLog.{JudgedLog}
use Rattle.log_verdict.specs.declared.judged.JudgedLog.TheVariants.{Verdict}
use Rattle.companion.specs.Picturing.{IsPage, IsPictured, TellsFinding}

-- ---- no page hangs on how a context groups the writes

-- a context with the groups of another one
abbrev regrouped : Known → Known → Known
regrouped a b = record b { groups = a.groups }

same_log_page : (a b : Known) (lines : List PlacedLine) (changes : List Changed) → log_page_text (regrouped a b) lines changes ≡ log_page_text b lines changes
unfolding log_page_text sections_text events_text objects_text
same_log_page a b lines changes = refl

same_events : (a b : Known) (f : Finding) → event_sections (regrouped a b) f ≡ event_sections b f
unfolding event_sections places_text
same_events a b f = refl

same_object : (a b : Known) (key : Option ObjectKey) (low : ℕ) → object_text (regrouped a b) key low ≡ object_text b key low
unfolding object_text
same_object a b None low = refl
same_object a b (Some key) low = refl

same_hiding : (a b : Known) (key : Option ObjectKey) → hiding_text (regrouped a b) key ≡ hiding_text b key
unfolding hiding_text
same_hiding a b None = refl
same_hiding a b (Some key) = refl

same_caches : (a b : Known) (f : Finding) → caches_text (regrouped a b) f ≡ caches_text b f
unfolding caches_text caches_section
same_caches a b f = refl

same_objects : (a b : Known) (f : Finding) → object_sections (regrouped a b) f ≡ object_sections b f
unfolding object_sections object_section hiding_section
same_objects a b f =
    let key = key_on b.log f.line in
    λ i. same_object a b key f.low i ++ (same_hiding a b key i ++ same_caches a b f i)

same_page : (a b : Known) (f : Finding) → page_text (regrouped a b) f ≡ page_text b f
unfolding page_text
same_page a b f = rw (same_events a b f, same_objects a b f) refl

-- ---- no page hangs on where a finding is lent from

-- what a finding tells, lent from nowhere
abbrev plain : Finding → Finding
plain f = record {
  line = f.line;
  audit_id = record { ref_ptr = (0, 0); now = f.audit_id.now };
  reason = f.reason;
  low = f.low;
  high = f.high;
  writes = record { ref_ptr = (0, 0); now = f.writes.now };
}

plain_page : (known : Known) (f : Finding) → page_text known f ≡ page_text known (plain f)
unfolding page_text event_sections object_sections heading_text verdict_text places_text drawing_text band_text caches_text
plain_page known f = refl

module _ (f g : Finding) (line : ℕ) (audit_id : List ℕ) (reason : Reason) (low high : ℕ) (writes : List WriteLine) where
  one_plain : TellsFinding f line audit_id reason low high writes → TellsFinding g line audit_id reason low high writes → plain f ≡ plain g
  one_plain x y =
      let lines : f.line ≡ g.line = x.same_line ∙ sym y.same_line in
      let names : f.audit_id.now ≡ g.audit_id.now = x.same_audit_id ∙ sym y.same_audit_id in
      let reasons : f.reason ≡ g.reason = x.same_reason ∙ sym y.same_reason in
      let lows : f.low ≡ g.low = x.same_low ∙ sym y.same_low in
      let highs : f.high ≡ g.high = x.same_high ∙ sym y.same_high in
      let all : f.writes.now ≡ g.writes.now = x.same_writes ∙ sym y.same_writes in
      λ i. record {
        line = lines i;
        audit_id = record { ref_ptr = (0, 0); now = names i };
        reason = reasons i;
        low = lows i;
        high = highs i;
        writes = record { ref_ptr = (0, 0); now = all i };
      }

  one_finding_page : (known : Known) → TellsFinding f line audit_id reason low high writes → TellsFinding g line audit_id reason low high writes → page_text known f ≡ page_text known g
  one_finding_page known x y = plain_page known f ∙ ap (page_text known) (one_plain x y) ∙ sym (plain_page known g)

-- ---- an outcome has one page

log_page_in : (a b : Known) (lines : List PlacedLine) (page : List ℕ) → IsLogPage b lines page → IsLogPage (regrouped a b) lines page
log_page_in a b lines page is = record { changes = is.changes; changed = is.changed; text = is.text ∙ sym (same_log_page a b lines is.changes) }

page_in : (a b : Known) (outcome : Outcome) (page : List ℕ) → IsPage b outcome page → IsPage (regrouped a b) outcome page
page_in a b (Explained lines) page is = log_page_in a b lines page is
page_in a b (Unexplained line audit_id reason low high writes) page (f, tells, is) = (f, tells, is ∙ sym (same_page a b f))

page_once : OnePage → (known : Known) (outcome : Outcome) (page other : List ℕ) → IsPage known outcome page → IsPage known outcome other → page ≡ other
page_once one known (Explained lines) page other x y = one known lines page other x y
page_once one known (Unexplained line audit_id reason low high writes) page other (f, tells, is) (g, tells', is') =
    is ∙ one_finding_page f g line audit_id reason low high writes known tells tells' ∙ sym is'

same_outcome : (a b : Outcome) → ◌≡◌ {A = JudgedLog} (Verdict a) (Verdict b) → a ≡ b
same_outcome a b same = cc

pub pictured_once : OnePage → (setup log : List ℕ) (a b : Answer) → IsPictured setup log a → IsPictured setup log b → a ≡ b
pictured_once one setup log a b (inl (refusal, is, told)) (inl (refusal', is', told')) = told ∙ ap refusal_answer (one_refusal setup log refusal refusal' is is') ∙ sym told'
pictured_once one setup log a b (inl (refusal, is, told)) (inr (known, context, shown)) = absurd (one_way setup log refusal known is context)
pictured_once one setup log a b (inr (known, context, shown)) (inl (refusal, is, told)) = absurd (one_way setup log refusal known is context)
pictured_once one setup log a b (inr (known, context, x)) (inr (known', context', y)) =
    let same = one_context setup log known known' context context' in
    let outcomes = same_outcome x.outcome y.outcome (judged_once setup log (Verdict x.outcome) (Verdict y.outcome) (known, context, x.is) (known', context', y.is)) in
    let alike : known ≡ regrouped known known' = one_told known known' context.told context'.told same.0 same.1 in
    let here : IsPage known x.outcome y.page = subst (λ outcome. IsPage known outcome y.page) (sym outcomes)
    (subst (λ k. IsPage k y.outcome y.page) (sym alike) (page_in known known' y.outcome y.page y.shown)) in
    let pages : x.page ≡ y.page = page_once one known x.outcome x.page y.page x.shown here in
    x.answers ∙ (λ i. answer (outcome_status (outcomes i)) (pages i)) ∙ sym y.answers
