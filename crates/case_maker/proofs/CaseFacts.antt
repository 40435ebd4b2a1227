-- One more event of a case.
use Rattle.std.proofs.Common.{◌≡◌, ℕ, zero, suc, ◌+◌, ◌-◌, ◌≤◌, List, [], ◌∷◌, ◌++◌, sym, ap, ◌∙◌, arith}
use Rattle.std.specs.List.{flat_map, range_with_len}
use Rattle.std.proofs.lemmas.List.{append-nil}
use Rattle.std.proofs.lemmas.List.Concat.{flat_map-append}
use Rattle.case_maker.specs.declared.cluster.Cluster.{Cluster}
use Rattle.case_maker.specs.declared.exchange.Exchange.{Exchange}
use Rattle.case_maker.specs.declared.exchange.Exchange.TheVariants.{Create, Miss, Update, Get, Delete, List as ListAll}
use Rattle.case_maker.specs.Exchanges.{revision_after}
use Rattle.case_maker.specs.Cluster.{state_after, state_past, exchange_at, line_at}
use Rattle.case_maker.specs.Case.{log_text}

revision_rises : (exchange : Exchange) (revision : ℕ) → revision_after exchange revision ≤ revision + 1
revision_rises (Create held) revision = omega arith
revision_rises Miss revision = omega arith
revision_rises (Update held) revision = omega arith
revision_rises (Get held) revision = omega arith
revision_rises (Delete held) revision = omega arith
revision_rises (ListAll held) revision = omega arith

pub revision_bound : (seed number : ℕ) → (state_after seed number).revision ≤ 10 + number
revision_bound seed zero = omega arith
revision_bound seed (suc number) =
    let before = revision_bound seed number in
    let one = revision_rises (exchange_at (state_after seed number) (suc number)) (state_after seed number).revision in
    omega (arith, before, one)

range_push : (a n : ℕ) → range_with_len a (suc n) ≡ range_with_len a n ++ (a + n) ∷ []
range_push a zero = let same : a ≡ a + 0 = omega arith in ap (λ k. k ∷ []) same
range_push a (suc n) =
    let same : a + 1 + n ≡ a + suc n = omega arith in
    ap (λ l. a ∷ l) (range_push (a + 1) n ∙ ap (λ k. range_with_len (a + 1) n ++ k ∷ []) same)

log_push : (seed n : ℕ) → log_text seed (suc n) ≡ log_text seed n ++ line_at (state_after seed n) (suc n)
log_push seed n =
    let line = λ (number : ℕ). line_at (state_after seed (number - 1)) number in
    let next : 1 + n ≡ suc n = omega arith in
    let back : suc n - 1 ≡ n = omega arith in
    ap (flat_map line) (range_push 1 n) ∙ flat_map-append line (range_with_len 1 n) ((1 + n) ∷ [])
    ∙ ap (λ l. log_text seed n ++ l) (append-nil (line (1 + n)) ∙ ap line next ∙ ap (λ k. line_at (state_after seed k) (suc n)) back)

pub event_step : (seed event : ℕ) (cluster after : Cluster) (log longer : List ℕ) → 1 ≤ event → cluster ≡ state_after seed (event - 1) → log ≡ log_text seed (event - 1)
    → after ≡ state_past cluster event → longer ≡ log ++ line_at cluster event → (after ≡ state_after seed (event + 1 - 1)) × (longer ≡ log_text seed (event + 1 - 1))
event_step seed zero cluster after log longer some state written past line = absurd (omega arith)
event_step seed (suc n) cluster after log longer some state written past line =
    let back : suc n - 1 ≡ n = omega arith in
    let on : suc n + 1 - 1 ≡ suc n = omega arith in
    let here : cluster ≡ state_after seed n = rw back at state in
    let so_far : log ≡ log_text seed n = rw back at written in (
      rw on (past ∙ ap (λ s. state_past s (suc n)) here),
      rw on (line ∙ ap (λ l. l ++ line_at cluster (suc n)) so_far ∙ ap (λ s. log_text seed n ++ line_at s (suc n)) here ∙ sym (log_push seed n)),
    )
