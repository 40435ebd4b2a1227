-- From the marks of one cover to its spans.
use Rattle.std.proofs.Common.{◌≡◌, ℕ, List, [], ◌∷◌, ◌++◌, Option, refl, ◌∙◌, ap}
use Rattle.std.specs.List.{Any}
use Rattle.std.proofs.lemmas.List.{map-append}
use Rattle.base_types.proofs.Quantifiers.{Any-map, Any-unmap, Any-weaker}
use Rattle.base_types.specs.Covers.{Covers}
use Rattle.base_types.specs.declared.kubernetes.key.Cover.{Cover}
use Rattle.base_types.specs.declared.kubernetes.key.ObjectKey.{ObjectKey}
use Rattle.clouds.specs.declared.mark.Mark.{Mark}
use Rattle.clouds.specs.declared.span.OpaqueSpan.{OpaqueSpan}
use Rattle.clouds.specs.FirstPlace.{HoldsNowhere, IsFirstPlace}
use Rattle.clouds.specs.Hiding.{ReachesKey}
use Rattle.clouds.specs.Marks.{Reaches, span_of, spans_of}
use Rattle.clouds.proofs.FirstPlaces.{IsFirstPlace-same}

pub reach_from_marks : (cover : Cover) (marks : List Mark) (key : ObjectKey) (place revision : ℕ) → Covers cover key → Any (Reaches place revision) marks → Any (ReachesKey key place revision) (spans_of cover marks)
reach_from_marks cover marks key place revision covers any =
    Any-map (span_of cover) (ReachesKey key place revision) marks (Any-weaker (Reaches place revision) (λ mark. ReachesKey key place revision (span_of cover mark)) marks (λ mark reaches. (covers, reaches.0, reaches.1)) any)

pub reach_of_marks : (cover : Cover) (marks : List Mark) (key : ObjectKey) (place revision : ℕ) → Any (ReachesKey key place revision) (spans_of cover marks) → Any (Reaches place revision) marks
reach_of_marks cover marks key place revision any =
    Any-weaker (λ mark. ReachesKey key place revision (span_of cover mark)) (Reaches place revision) marks (λ mark reaches. (reaches.1, reaches.2)) (Any-unmap (span_of cover) (ReachesKey key place revision) marks any)

pub reach_covers : (cover : Cover) (marks : List Mark) (key : ObjectKey) (place revision : ℕ) → Any (ReachesKey key place revision) (spans_of cover marks) → Covers cover key
reach_covers cover marks key place revision any = (Any-unmap (span_of cover) (ReachesKey key place revision) marks any).4.0

pub IsFirstPlace-covered : (cover : Cover) (marks : List Mark) (key : ObjectKey) (revision low high : ℕ) (place : Option ℕ) → Covers cover key
    → IsFirstPlace (λ n. Any (Reaches n revision) marks) low high place → IsFirstPlace (λ n. Any (ReachesKey key n revision) (spans_of cover marks)) low high place
IsFirstPlace-covered cover marks key revision low high place covers first =
    IsFirstPlace-same (λ n. Any (Reaches n revision) marks) (λ n. Any (ReachesKey key n revision) (spans_of cover marks)) low high place
    (λ n. reach_from_marks cover marks key n revision covers) (λ n. reach_of_marks cover marks key n revision) first

pub HoldsNowhere-uncovered : (cover : Cover) (marks : List Mark) (key : ObjectKey) (revision low high : ℕ) → (Covers cover key → ⊥)
    → HoldsNowhere (λ n. Any (ReachesKey key n revision) (spans_of cover marks)) low high
HoldsNowhere-uncovered cover marks key revision low high uncovered = λ place from upto any. uncovered (reach_covers cover marks key place revision any)

-- one span more
pub spans_of-push : (cover : Cover) (marks : List Mark) (mark : Mark) (span : OpaqueSpan) → cover ≡ span.cover → mark.low ≡ span.low → mark.high ≡ span.high
    → spans_of cover (marks ++ mark ∷ []) ≡ spans_of cover marks ++ span ∷ []
spans_of-push cover marks mark span same low high =
    let is : span_of cover mark ≡ span = same_span cover mark span same low high in
    map-append (span_of cover) marks (mark ∷ []) ∙ ap (λ (s : OpaqueSpan). spans_of cover marks ++ s ∷ []) is
  where
    same_span : (cover : Cover) (mark : Mark) (span : OpaqueSpan) → cover ≡ span.cover → mark.low ≡ span.low → mark.high ≡ span.high → span_of cover mark ≡ span
    same_span cover mark span same low high = rw (same, low, high) refl
