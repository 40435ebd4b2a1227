use Rattle.std.proofs.Common.{◌≡◌, ◌+◌, ◌-◌, ◌^◌, min, max, arith}
use Rattle.base_types.specs.Meaning.{kids_of, fields_of}
use Rattle.json_patch.specs.Joined.{joined}
use Rattle.json_patch.specs.Limits.{kids_values, kids_depth, fields_values, fields_depth}
use Rattle.json_patch.proofs.Sizes.{values_more, depth_more, fields_values_more, fields_depth_more}
use Rattle.json_patch.proofs.size.+size_of.Goals as goal

pub size_of_items-loop-part-preserved : goal.size_of_items-loop-part-preserved
size_of_items-loop-part-preserved t c =
    let l = c.loop-part in
    let parts = c.deref-part-items.result.now in
    let size = c.size_of_part-size in
    let sum : c.saturating_add-values.result ≡ min (l.values + size.result.values) (2 ^ 64 - 1) = c.saturating_add-values.ensures in
    let most : c.max-depth.result ≡ max l.depth size.result.depth = grind (arith, c.max-depth.ensures) in
    let size_fits = size.ensures.depth in
    let depth_fits = l.invariant.depth_fits in
    record {
      values_fit = omega arith;
      depth_fits = omega arith;
      values = values_more parts l.part-index c.part-item.result (kids_values (kids_of (joined parts))) l.values size.result.values c.saturating_add-values.result c.loop-part-test.true c.part-item.is l.invariant.values size.ensures.values sum;
      depth = depth_more parts l.part-index c.part-item.result (kids_depth (kids_of (joined parts))) l.depth size.result.depth c.max-depth.result c.loop-part-test.true c.part-item.is l.invariant.depth size.ensures.depth most;
    }

pub size_of_members-loop-part-preserved : goal.size_of_members-loop-part-preserved
size_of_members-loop-part-preserved t c =
    let l = c.loop-part in
    let parts = c.deref-part-items.result.now in
    let size = c.size_of_member_part-size in
    let sum : c.saturating_add-values.result ≡ min (l.values + size.result.values) (2 ^ 64 - 1) = c.saturating_add-values.ensures in
    let most : c.max-depth.result ≡ max l.depth size.result.depth = grind (arith, c.max-depth.ensures) in
    let size_fits = size.ensures.depth in
    let depth_fits = l.invariant.depth_fits in
    record {
      values_fit = omega arith;
      depth_fits = omega arith;
      values = fields_values_more parts l.part-index c.part-item.result (fields_values (fields_of (joined parts))) l.values size.result.values c.saturating_add-values.result c.loop-part-test.true c.part-item.is l.invariant.values size.ensures.values sum;
      depth = fields_depth_more parts l.part-index c.part-item.result (fields_depth (fields_of (joined parts))) l.depth size.result.depth c.max-depth.result c.loop-part-test.true c.part-item.is l.invariant.depth size.ensures.depth most;
    }
