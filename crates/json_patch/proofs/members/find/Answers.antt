use Rattle.std.proofs.Common.{◌≡◌, ◌<◌, ◌+◌, ◌-◌, length, drop, [], subst, arith}
use Rattle.std.proofs.lemmas.List.{get_or_read}
use Rattle.base_types.proofs.Ordered.{named_within}
use Rattle.json_patch.specs.Joined.{joined}
use Rattle.json_patch.proofs.Naming.{Above, part_sorted, named_in_part, place_in_part}
use Rattle.json_patch.proofs.members.find.Goals as goal

pub find-requires : goal.find-requires
find-requires c =
    let parts = c.args.parts.now in
    let most = c.begun-count.ensures.within in
    let some = c.if-count-eq0.false in
    let within : c.begun-count.result - 1 < length parts = omega arith in
    part_sorted parts (c.begun-count.result - 1) c.index-parts-part.result within c.index-parts-part.is c.requires

pub returns-in-Ok-clause-place : goal.returns-in-Ok-clause-place
returns-in-Ok-clause-place c =
    let parts = c.args.parts.now in
    let part = c.index-parts-part.result in
    let most = c.begun-count.ensures.within in
    let some = c.if-count-eq0.false in
    let within : c.begun-count.result - 1 < length parts = omega arith in
    let here : c.in-Ok.offset < length part = named_within part c.args.name.now c.in-Ok.offset c.in-Ok.ensures.found in
    record { part = within; offset = subst (λ l. c.in-Ok.offset < length l) (get_or_read parts (c.begun-count.result - 1) part within c.index-parts-part.is []) here }

pub returns-in-Ok-clause-named : goal.returns-in-Ok-clause-named
returns-in-Ok-clause-named c =
    let parts = c.args.parts.now in
    let most = c.begun-count.ensures.within in
    let some = c.if-count-eq0.false in
    let within : c.begun-count.result - 1 < length parts = omega arith in
    named_in_part parts (c.begun-count.result - 1) c.in-Ok.offset c.index-parts-part.result c.args.name.now within c.index-parts-part.is c.in-Ok.ensures.found

pub returns-in-Err-clause-absent : goal.returns-in-Err-clause-absent
returns-in-Err-clause-absent c =
    let parts = c.args.parts.now in
    let count = c.begun-count.result in
    let most = c.begun-count.ensures.within in
    let some = c.if-count-eq0.false in
    let within : count - 1 < length parts = omega arith in
    let same : count ≡ count - 1 + 1 = omega arith in
    let above = subst (λ n. Above c.args.name.now (joined (drop n parts))) same c.begun-count.ensures.after in
    place_in_part parts (count - 1) c.in-Err.offset c.index-parts-part.result c.args.name.now within c.index-parts-part.is c.begun-count.ensures.before above c.in-Err.ensures.place
