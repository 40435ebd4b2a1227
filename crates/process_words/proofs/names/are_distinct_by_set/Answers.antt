use Rattle.std.proofs.Common.{◌≡◌, ◌+◌, ◌-◌, ◌<◌, [], true, length, map, string_bytes, drop, Global, arith, rules, sym, ◌∙◌, ap, subst}
use Rattle.std.proofs.lemmas.List.{drop_all}
use Rattle.process_words.specs.Names.{are_distinct}
use Rattle.process_words.proofs.NameFacts.{AreHeld, equal_behind, held_twice, item_in_front, none_held, one_held}
use Rattle.process_words.proofs.names.are_distinct_by_set.Goals as goal

pub loop-at-init : goal.loop-at-init
loop-at-init c =
    let names = c.args.names.now in
    let none : map (string_bytes {Z = Global}) (drop (length names) names) ≡ [] = ap (map (string_bytes {Z = Global})) (drop_all (length names) names (omega arith)) in
    subst (AreHeld c.new-behind.result) (sym none) (none_held c.new-behind.result c.new-behind.ensures.empty)

pub returns-then-not-branch : goal.returns-then-not-branch
returns-then-not-branch c =
    let names = c.args.names.now in
    let at = c.loop-at.at - 1 in
    let within : at < length names = search (rules, arith) in
    let more : at + 1 ≡ c.loop-at.at = omega (arith, c.loop-at-test.true) in
    let held = subst (λ n. AreHeld c.loop-at.behind (map (string_bytes {Z = Global}) (drop n names))) (sym more) c.loop-at.invariant in
    let name = c.as_str.result in
    let front = item_in_front (string_bytes {Z = Global}) names at c.index-names-at.result name.now within c.index-names-at.is (sym c.as_str.ensures.value) in
    sym (equal_behind (string_bytes {Z = Global}) at names
    (ap are_distinct front ∙ held_twice c.loop-at.behind name (map (string_bytes {Z = Global}) (drop (at + 1) names)) c.in_ok-insert.field-0 held c.in_ok-insert.ensures.added (search rules)))

pub loop-at-preserved : goal.loop-at-preserved
loop-at-preserved c =
    let names = c.args.names.now in
    let at = c.loop-at.at - 1 in
    let within : at < length names = search (rules, arith) in
    let more : at + 1 ≡ c.loop-at.at = omega (arith, c.loop-at-test.true) in
    let held = subst (λ n. AreHeld c.loop-at.behind (map (string_bytes {Z = Global}) (drop n names))) (sym more) c.loop-at.invariant in
    let name = c.as_str.result in
    let front = item_in_front (string_bytes {Z = Global}) names at c.index-names-at.result name.now within c.index-names-at.is (sym c.as_str.ensures.value) in
    subst (AreHeld c.insert.new.self) (sym front)
    (one_held c.loop-at.behind c.insert.new.self name (map (string_bytes {Z = Global}) (drop (at + 1) names)) c.in_ok-insert.field-0 held c.in_ok-insert.ensures.added (search rules) c.in_ok-insert.ensures.updates)

pub returns : goal.returns
returns c =
    let none : c.loop-at.at ≡ 0 = search (rules, arith) in
    sym (subst (λ n. are_distinct (map (string_bytes {Z = Global}) (drop n c.args.names.now)) ≡ true) none c.loop-at.invariant.differ)
