-- A block whose places don't meet a range has no span that does.
use Rattle.std.proofs.Common.{◌≡◌, ℕ, ◌-◌, ◌<◌, ◌≤◌, ⊎_elim, List, length, get_or, map, sym, ◌∙◌, subst, ap, arith}
use Rattle.std.proofs.lemmas.Bool.{cases_lt}
use Rattle.std.proofs.lemmas.List.{get_or-map}
use Rattle.span_index.specs.Blocks.{AreBlocks, IsBlock, IsWithin}
use Rattle.span_index.specs.Meeting.{Meets, NoneMeets}
use Rattle.span_index.specs.declared.Entry.{Entry}
use Rattle.span_index.specs.declared.Span.{Span}

abbrev pub spans_of : List Entry → List Span
spans_of entries = map (λ e. e.span) entries

hull_meets : (low high : ℕ) (span hull : Span) → IsWithin span hull → Meets low high span → Meets low high hull
hull_meets low high span hull within meets =
    let from = within.from in
    let upto = within.upto in
    let first = meets.0 in
    let last = meets.1 in
    (omega arith, omega arith)

module _ (entries : List Entry) (entry : Entry) (rest count low high : ℕ) (positive : 0 < rest) (upto : rest ≤ count) (bound : count ≤ length entries) (is : entry ≡ get_or entries (rest - 1) entry)
    (none : NoneMeets (spans_of entries) rest count low high) where
  span_at : (k : ℕ) (d : Span) → k < count → get_or (spans_of entries) k d ≡ (get_or entries k entry).span
  span_at k d within = get_or-map (λ (e : Entry). e.span) entries k entry d (omega arith)

  pub skip_one : (Meets low high entry.span → ⊥) → NoneMeets (spans_of entries) (rest - 1) count low high
  skip_one not = λ k d from within meets. ⊎_elim
      (λ (before : k < rest).
      let same : k ≡ rest - 1 = omega arith in
      let here : (get_or entries k entry).span ≡ entry.span = ap (λ n. (get_or entries n entry).span) same ∙ ap (λ (e : Entry). e.span) (sym is) in
      not (subst (λ s. Meets low high s) (span_at k d within ∙ here) meets))
      (λ (behind : rest ≤ k). none k d behind within meets)
      (cases_lt k rest)

  pub skip_block : AreBlocks entries → (Meets low high entry.hull → ⊥) → NoneMeets (spans_of entries) entry.from count low high
  skip_block blocks not = λ k d from within meets.
      let block : IsBlock entries (rest - 1) entry = subst (λ e. IsBlock entries (rest - 1) e) (sym is) (blocks (rest - 1) entry (omega arith)) in
      ⊎_elim
      (λ (before : k < rest - 1). not (hull_meets low high (get_or entries k entry).span entry.hull (block.others k entry from before) (subst (λ s. Meets low high s) (span_at k d within) meets)))
      (λ (behind : rest - 1 ≤ k). skip_one (λ own. not (hull_meets low high entry.span entry.hull block.own own)) k d behind within meets)
      (cases_lt k (rest - 1))

  pub block_upto : AreBlocks entries → entry.from ≤ count
  block_upto blocks =
      let block : IsBlock entries (rest - 1) entry = subst (λ e. IsBlock entries (rest - 1) e) (sym is) (blocks (rest - 1) entry (omega arith)) in
      let from = block.from in
      omega arith
