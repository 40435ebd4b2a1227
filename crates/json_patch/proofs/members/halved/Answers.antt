use Rattle.std.proofs.Common.{◌≡◌, ℕ, ◌+◌, ◌-◌, ◌/◌, ◌<◌, length, take, subst, arith}
use Rattle.std.proofs.lemmas.Bool.{both_ways}
use Rattle.json_patch.specs.Joined.{joined}
use Rattle.json_patch.proofs.Naming.{Below, before_part, after_part}
use Rattle.json_patch.proofs.members.halved.Goals as goal

pub returns-then-begins_behind-clause-narrowed : goal.returns-then-begins_behind-clause-narrowed
returns-then-begins_behind-clause-narrowed c =
    let parts = c.args.parts.now in
    let low = c.args.rest.low in
    let high = c.args.rest.high in
    let some = c.requires.some in
    let most = c.requires.narrowed.within in
    let middle : ℕ = low + (high - low) / 2 in
    let within : middle < length parts = omega arith in
    record {
      order = omega arith;
      within = omega arith;
      before = c.requires.narrowed.before;
      after = after_part parts middle c.index-parts-middle.result c.args.name.now within c.index-parts-middle.is c.requires.sorted c.begins_behind.ensures.some (c.begins_behind.ensures.order.0 c.if-begins_behind.true);
    }

pub returns-clause-narrowed : goal.returns-clause-narrowed
returns-clause-narrowed c =
    let parts = c.args.parts.now in
    let low = c.args.rest.low in
    let high = c.args.rest.high in
    let some = c.requires.some in
    let most = c.requires.narrowed.within in
    let middle : ℕ = low + (high - low) / 2 in
    let within : middle < length parts = omega arith in
    let same : middle ≡ middle + 1 - 1 = omega arith in
    record {
      order = omega arith;
      within = most;
      before = subst (λ n. Below c.args.name.now (joined (take n parts))) same
          (before_part parts middle c.index-parts-middle.result c.args.name.now within c.index-parts-middle.is c.requires.sorted c.begins_behind.ensures.some (λ above. both_ways _ c.if-begins_behind.false (c.begins_behind.ensures.order.1 above)));
      after = c.requires.narrowed.after;
    }
