use Rattle.std.proofs.Common.{◌≡◌, ◌<◌, ◌+◌, ◌-◌, false, Some, None, option_map, length, slice_get, get_or, rules, sym, ap, ◌∙◌, subst, arith}
use Rattle.std.proofs.lemmas.Option.{slice_get-get_or}
use Rattle.past_building.proofs.Finding.{AreFoundBehind, AreFoundFrom, all_found, found_behind, linked_before}
use Rattle.past_building.specs.Ended.{IsFoundAfter}
use Rattle.past_building.proofs.removals.find_removals.Goals as goal

pub nexts_of-requires : goal.nexts_of-requires
nexts_of-requires c = linked_before c.args.versions.now c.args.earlier.now c.requires.traced.linked

pub loop-i-preserved-in-Continue-branch-4 : goal.loop-i-preserved-in-Continue-branch-4
loop-i-preserved-in-Continue-branch-4 c =
    let versions = c.args.versions.now in
    let firsts = c.args.firsts.now in
    let nexts = c.in_ok-nexts.nexts.items in
    let i = c.loop-i.i - 1 in
    let within : i < length versions = search (rules, arith) in
    let at : slice_get versions i ≡ Some c.index-versions-i.result =
    slice_get-get_or versions i c.index-versions-i.result within ∙ ap Some (sym c.index-versions-i.is) in
    let more : i + 1 ≡ c.loop-i.i = omega (arith, c.loop-i-test.true) in
    let flag = slice_get-get_or firsts i false (let long = c.requires.traced.flagged.all in omega (arith, long, within)) in
    let found = c.index.result.now in
    let next = slice_get-get_or nexts i found (let long = c.requires.traced.linked.all in let all = c.in_ok-nexts.ensures.all in omega (arith, all, long, within)) ∙ ap Some (sym c.index.ensures) in
    let done = subst (λ n. AreFoundBehind c.args.log.windows.now c.args.log.events.now c.args.log.removed.now versions n c.loop-i.removals.items) (sym more) c.loop-i.invariant in
    subst (AreFoundBehind c.args.log.windows.now c.args.log.events.now c.args.log.removed.now versions i) (sym c.in_ok-push.ensures.items)
    (found_behind c.args.log.windows.now c.args.log.events.now c.args.log.removed.now versions firsts c.args.earlier.now nexts i c.index-versions-i.result (get_or firsts i false) found
    (option_map (λ v. v.now) c.version_at-after.result) c.loop-i.removals.items (Some c.in-Some.removal)
    c.requires.traced.rising c.requires.traced.flagged c.requires.traced.linked c.in_ok-nexts.ensures at flag next c.version_at-after.ensures
    (subst (IsFoundAfter c.args.log.windows.now c.args.log.events.now c.args.log.removed.now c.index-versions-i.result (get_or firsts i false) (option_map (λ v. v.now) c.version_at-after.result)) c.in-Some.is c.in_ok-removal.ensures) done)

pub loop-i-preserved : goal.loop-i-preserved
loop-i-preserved c =
    let versions = c.args.versions.now in
    let firsts = c.args.firsts.now in
    let nexts = c.in_ok-nexts.nexts.items in
    let i = c.loop-i.i - 1 in
    let within : i < length versions = search (rules, arith) in
    let at : slice_get versions i ≡ Some c.index-versions-i.result =
    slice_get-get_or versions i c.index-versions-i.result within ∙ ap Some (sym c.index-versions-i.is) in
    let more : i + 1 ≡ c.loop-i.i = omega (arith, c.loop-i-test.true) in
    let flag = slice_get-get_or firsts i false (let long = c.requires.traced.flagged.all in omega (arith, long, within)) in
    let found = c.index.result.now in
    let next = slice_get-get_or nexts i found (let long = c.requires.traced.linked.all in let all = c.in_ok-nexts.ensures.all in omega (arith, all, long, within)) ∙ ap Some (sym c.index.ensures) in
    let done = subst (λ n. AreFoundBehind c.args.log.windows.now c.args.log.events.now c.args.log.removed.now versions n c.loop-i.removals.items) (sym more) c.loop-i.invariant in
    found_behind c.args.log.windows.now c.args.log.events.now c.args.log.removed.now versions firsts c.args.earlier.now nexts i c.index-versions-i.result (get_or firsts i false) found
    (option_map (λ v. v.now) c.version_at-after.result) c.loop-i.removals.items None
    c.requires.traced.rising c.requires.traced.flagged c.requires.traced.linked c.in_ok-nexts.ensures at flag next c.version_at-after.ensures
    (subst (IsFoundAfter c.args.log.windows.now c.args.log.events.now c.args.log.removed.now c.index-versions-i.result (get_or firsts i false) (option_map (λ v. v.now) c.version_at-after.result)) c.in_default.is c.in_ok-removal.ensures) done

pub returns : goal.returns
returns c = λ h log is.
    let none : c.loop-i.i ≡ 0 = search (rules, arith) in
    all_found h c.args.versions.now c.loop-i.removals.items is (subst (λ n. AreFoundFrom h c.args.versions.now n c.loop-i.removals.items) none (c.loop-i.invariant h log is))
