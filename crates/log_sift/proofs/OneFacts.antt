-- Each line of a log becomes one thing.
use Rattle.std.proofs.Common.{◌≡◌, ℕ, inl, inr, List, [], ◌∷◌, Option, Some, None, Result, Ok, Err, sym, ◌∙◌, refl, ap, subst, arith, true≢false}
use Rattle.line_reader.specs.Lines.{lines_of}
use Rattle.audit_event.specs.declared.event.Event.{Event}
use Rattle.batch_decode.specs.declared.decoded.Decoded.{Decoded}
use Rattle.batch_decode.specs.declared.decoded.ItemFault.{ItemFault}
use Rattle.batch_decode.proofs.Alone.{one_decoding}
use Rattle.log_intake.specs.Steps.{InOrder}
use Rattle.log_intake.proofs.StepFacts.{in_order_keeps, in_order_once}
use Rattle.log_sift.specs.declared.answer.LeftCause.{LeftCause}
use Rattle.log_sift.specs.declared.answer.Fate.{Fate}
use Rattle.log_sift.specs.declared.answer.Fate.TheVariants.{Blank, Stays, Left}
use Rattle.log_sift.specs.Sift.{IsSifted, KeepsDecoded, KeepsEvent, KeepsLine, SiftsLine, SiftsLines, behind_events, unless_fault}
use Rattle.log_sift.proofs.DistinctFacts.{IsDistinct, event_keeps, event_once}

decoded_once : (kept : List Event) (decoded : Decoded) (a b : Result (List Event) LeftCause) → IsDistinct kept → KeepsDecoded kept decoded a → KeepsDecoded kept decoded b → a ≡ b
decoded_once kept decoded a b distinct x y =
    let same = in_order_once KeepsEvent IsDistinct event_keeps event_once kept decoded.events x.0 y.0 distinct x.1 y.1 in
    x.2 ∙ ap (behind_events decoded.fault) same ∙ sym y.2

whole_distinct : (fault : Option ItemFault) (kept after : List Event) → IsDistinct kept → Ok after ≡ unless_fault fault kept → IsDistinct after
whole_distinct None kept after distinct is = let same : after ≡ kept = cc in subst IsDistinct (sym same) distinct
whole_distinct (Some fault) kept after distinct is = absurd cc

decoded_keeps : (kept after : List Event) (decoded : Decoded) (events : Result (List Event) LeftCause) → IsDistinct kept → InOrder KeepsEvent kept decoded.events events → Ok after ≡ behind_events decoded.fault events → IsDistinct after
decoded_keeps kept after decoded (Ok next) distinct takes is = whole_distinct decoded.fault next after (in_order_keeps KeepsEvent IsDistinct event_keeps kept next decoded.events distinct takes) is
decoded_keeps kept after decoded (Err cause) distinct takes is = absurd cc

pub line_keeps : (kept after : List Event) (line : List ℕ) → IsDistinct kept → KeepsLine kept line (Ok after) → IsDistinct after
line_keeps kept after line distinct (inl (long, is)) = absurd cc
line_keeps kept after line distinct (inr (short, (decoded, decodes, keeps))) = decoded_keeps kept after decoded keeps.0 distinct keeps.1 keeps.2

pub line_once : (kept : List Event) (line : List ℕ) (a b : Result (List Event) LeftCause) → IsDistinct kept → KeepsLine kept line a → KeepsLine kept line b → a ≡ b
line_once kept line a b distinct (inl x) (inl y) = x.1 ∙ sym y.1
line_once kept line a b distinct (inl x) (inr y) = absurd (let long = x.0 in let short = y.0 in omega (arith, long, short))
line_once kept line a b distinct (inr x) (inl y) = absurd (let short = x.0 in let long = y.0 in omega (arith, long, short))
line_once kept line a b distinct (inr (short, (d, is, keeps))) (inr (short', (d', is', keeps'))) =
    let same = one_decoding line d' d is' is in
    decoded_once kept d a b distinct keeps (subst (λ e. KeepsDecoded kept e b) same keeps')

sift_keeps : (kept after : List Event) (line : List ℕ) (fate : Fate) → IsDistinct kept → SiftsLine kept line fate after → IsDistinct after
sift_keeps kept after line Blank distinct sifts = subst IsDistinct (sym sifts.1) distinct
sift_keeps kept after line Stays distinct sifts = line_keeps kept after line distinct sifts.1
sift_keeps kept after line (Left cause) distinct sifts = subst IsDistinct (sym sifts.2) distinct

sift_once : (kept x y : List Event) (line : List ℕ) (a b : Fate) → IsDistinct kept → SiftsLine kept line a x → SiftsLine kept line b y → (a ≡ b) × (x ≡ y)
sift_once kept x y line Blank Blank distinct s t = (refl, s.1 ∙ sym t.1)
sift_once kept x y line Blank Stays distinct s t = absurd (true≢false (sym s.0 ∙ t.0))
sift_once kept x y line Blank (Left cause) distinct s t = absurd (true≢false (sym s.0 ∙ t.0))
sift_once kept x y line Stays Blank distinct s t = absurd (true≢false (sym t.0 ∙ s.0))
sift_once kept x y line Stays Stays distinct s t = (refl, (let same = line_once kept line (Ok x) (Ok y) distinct s.1 t.1 in cc))
sift_once kept x y line Stays (Left cause) distinct s t = absurd (let same = line_once kept line (Ok x) (Err cause) distinct s.1 t.1 in cc)
sift_once kept x y line (Left cause) Blank distinct s t = absurd (true≢false (sym t.0 ∙ s.0))
sift_once kept x y line (Left cause) Stays distinct s t = absurd (let same = line_once kept line (Err cause) (Ok y) distinct s.1 t.1 in cc)
sift_once kept x y line (Left cause) (Left other) distinct s t =
    let same = line_once kept line (Err cause) (Err other) distinct s.1 t.1 in
    let one : cause ≡ other = cc in
    (ap Left one, s.2 ∙ sym t.2)

pub lines_once : (lines : List (List ℕ)) (kept x y : List Event) (a b : List Fate) → IsDistinct kept → SiftsLines kept lines a x → SiftsLines kept lines b y → (a ≡ b) × (x ≡ y)
lines_once [] kept x y [] [] distinct s t = (refl, s ∙ sym t)
lines_once [] kept x y [] (b ∷ others) distinct s t = absurd t
lines_once [] kept x y (a ∷ more) b distinct s t = absurd s
lines_once (line ∷ lines) kept x y [] b distinct s t = absurd s
lines_once (line ∷ lines) kept x y (a ∷ more) [] distinct s t = absurd t
lines_once (line ∷ lines) kept x y (a ∷ more) (b ∷ others) distinct s t =
    let here = sift_once kept s.0 t.0 line a b distinct s.1 t.1 in
    let rest = lines_once lines s.0 x y more others (sift_keeps kept s.0 line a distinct s.1) s.2 (subst (λ next. SiftsLines next lines others y) (sym here.1) t.2) in
    (ap (λ fate. fate ∷ more) here.0 ∙ ap (λ fates. b ∷ fates) rest.0, rest.1)

pub none_distinct : IsDistinct []
none_distinct i j d below within = absurd (omega (arith, within))

pub one_sifting : (log : List ℕ) (a b : List Fate) → IsSifted log a → IsSifted log b → a ≡ b
one_sifting log a b x y = (lines_once (lines_of log) [] x.kept y.kept a b none_distinct x.sifts y.sifts).0
