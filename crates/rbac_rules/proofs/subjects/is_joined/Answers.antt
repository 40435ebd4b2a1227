use Rattle.std.proofs.Common.{lit<}
use Rattle.std.proofs.lemmas.Str.Pattern.{strip_prefix_char}
use Rattle.base_types.proofs.MatchingLemmas.{begins_from_strip}
use Rattle.rbac_rules.proofs.Accounts.{joined_by_rest, told_behind, told_none}
use Rattle.rbac_rules.proofs.subjects.is_joined.Goals as goal

pub returns-in-Some-strip_prefix : goal.returns-in-Some-strip_prefix
returns-in-Some-strip_prefix c =
    let begins = begins_from_strip c.args.namespace.now c.args.text.now c.in-Some.rest.now c.in-Some.ensures.cases in
    let colon = rw c.in-Some-strip_prefix.is at (strip_prefix_char 58 c.in-Some.rest.now c.strip_prefix-2.result c.strip_prefix-2.ensures.cases (lit< tt)) in
    joined_by_rest c.args.text.now c.args.namespace.now c.args.name.now c.in-Some.rest.now _ begins
    (told_behind c.in-Some.rest.now c.in-Some-strip_prefix.behind.now c.args.name.now c.eq.result colon c.eq.ensures)

pub returns-in-None : goal.returns-in-None
returns-in-None c =
    let begins = begins_from_strip c.args.namespace.now c.args.text.now c.in-Some.rest.now c.in-Some.ensures.cases in
    let none = rw c.in-None.is at (strip_prefix_char 58 c.in-Some.rest.now c.strip_prefix-2.result c.strip_prefix-2.ensures.cases (lit< tt)) in
    joined_by_rest c.args.text.now c.args.namespace.now c.args.name.now c.in-Some.rest.now _ begins (told_none c.in-Some.rest.now c.args.name.now none)
