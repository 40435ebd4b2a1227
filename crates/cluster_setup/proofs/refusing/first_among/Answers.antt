use Rattle.std.proofs.Common.{◌≡◌, ◌+◌, ◌-◌, ◌<◌, length, drop, rules, arith, sym, ap, subst, ◌∙◌}
use Rattle.std.proofs.lemmas.List.{drop_all}
use Rattle.std.specs.Prelude.{option_map}
use Rattle.cluster_setup.specs.Files.{or_empty, start_word}
use Rattle.cluster_setup.specs.Indexed.{AreListed, IsFirstWrong, refined}
use Rattle.cluster_setup.specs.Refusing.{file_fault}
use Rattle.cluster_setup.proofs.ListedFacts.{listed_more, none_wrong, wrong_here, wrong_later}
use Rattle.cluster_setup.proofs.refusing.first_among.Goals as goal

pub loop-at-init : goal.loop-at-init
loop-at-init c =
    let trees = c.args.trees.now in (
      subst (AreListed c.args.behind.now) (sym (drop_all (length trees) trees (omega arith))) c.requires.none,
      none_wrong trees,
    )

pub file_fault-requires : goal.file_fault-requires
file_fault-requires c = c.start_of-start.ensures ∙ ap (λ all. or_empty (start_word all)) (sym c.requires.told)

pub loop-at-preserved-in-Some : goal.loop-at-preserved-in-Some
loop-at-preserved-in-Some c =
    let trees = c.args.trees.now in
    let tree = c.index-trees-at.result in
    let at = c.loop-at.at - 1 in
    let within : at < length trees = search (rules, arith) in
    let more : at + 1 ≡ c.loop-at.at = omega (arith, c.loop-at-test.true) in
    let held = subst (λ n. AreListed c.loop-at.behind (drop n trees)) (sym more) c.loop-at.invariant.0 in
    let told = subst (λ all. option_map (refined all tree) c.file_fault.result ≡ file_fault all (drop (at + 1) trees) tree) c.requires.told
    (c.file_fault.ensures (drop (at + 1) trees) (c.in_ok-again.ensures.again (drop (at + 1) trees) held)) in (
      listed_more c.add_listed.new.behind trees at tree within c.index-trees-at.is (c.in_ok-again.ensures.listed (drop (at + 1) trees) held),
      wrong_here trees at tree c.in-Some.code within c.index-trees-at.is (sym (ap (option_map (refined trees tree)) c.in-Some.is) ∙ told),
    )

pub loop-at-preserved : goal.loop-at-preserved
loop-at-preserved c =
    let trees = c.args.trees.now in
    let tree = c.index-trees-at.result in
    let at = c.loop-at.at - 1 in
    let within : at < length trees = search (rules, arith) in
    let more : at + 1 ≡ c.loop-at.at = omega (arith, c.loop-at-test.true) in
    let held = subst (λ n. AreListed c.loop-at.behind (drop n trees)) (sym more) c.loop-at.invariant.0 in
    let told = subst (λ all. option_map (refined all tree) c.file_fault.result ≡ file_fault all (drop (at + 1) trees) tree) c.requires.told
    (c.file_fault.ensures (drop (at + 1) trees) (c.in_ok-again.ensures.again (drop (at + 1) trees) held)) in (
      listed_more c.add_listed.new.behind trees at tree within c.index-trees-at.is (c.in_ok-again.ensures.listed (drop (at + 1) trees) held),
      wrong_later trees at tree c.loop-at.first within c.index-trees-at.is (sym (ap (option_map (refined trees tree)) c.in_default.is) ∙ told)
          (subst (λ n. IsFirstWrong trees n c.loop-at.first) (sym more) c.loop-at.invariant.1),
    )

pub returns : goal.returns
returns c =
    let none : c.loop-at.at ≡ 0 = search (rules, arith) in
    subst (λ n. IsFirstWrong c.args.trees.now n c.loop-at.first) none c.loop-at.invariant.1
