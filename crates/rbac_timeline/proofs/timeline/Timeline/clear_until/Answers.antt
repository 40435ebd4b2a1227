use Rattle.std.proofs.Common.{ℕ, ◌<◌, ◌≤◌, ⊎_elim, arith}
use Rattle.std.proofs.lemmas.Bool.{cases_lt}
use Rattle.rbac_timeline.specs.Lasting.{NoneClouded}
use Rattle.rbac_timeline.proofs.Throughout.{IsLast-all, IsLast-map}
use Rattle.rbac_timeline.proofs.timeline.Timeline.clear_until.Goals as goal

pub last_before-requires : goal.last_before-requires
last_before-requires c = let from = c.in-Some.ensures.from_low in record { behind = omega arith; within = c.requires }

pub returns-in-Some : goal.returns-in-Some
returns-in-Some c =
    let place : ℕ = c.args.place in
    let first : ℕ = c.in-Some.clouded in
    let behind : place < first = let from = c.in-Some.ensures.from_low in omega arith in
    IsLast-map (λ (n : ℕ). n < first) (NoneClouded c.args.self.now c.args.key.now place) place c.args.high _
    (λ n from upto before m above m_upto clouded. let late : first ≤ m = c.in-Some.ensures.least m (omega arith) clouded in omega arith)
    (λ n none. ⊎_elim (λ (before : n < first). before) (λ (upto : first ≤ n). absurd (none first behind upto c.in-Some.ensures.here)) (cases_lt n first))
    c.last_before.ensures

pub returns-in-None : goal.returns-in-None
returns-in-None c =
    let place : ℕ = c.args.place in
    IsLast-all (NoneClouded c.args.self.now c.args.key.now place) place c.args.high c.requires (λ n from upto m above m_upto clouded. c.in-None.ensures m (omega arith) (omega arith) clouded)
