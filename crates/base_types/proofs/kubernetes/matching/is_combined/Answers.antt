use Rattle.std.proofs.Common.{sym, ◌∙◌, lit<}
use Rattle.std.proofs.lemmas.Str.Pattern.{strip_prefix_char}
use Rattle.base_types.proofs.MatchingLemmas.{begins_from_strip, combined_by_rest, not_combined, told_behind, told_none}
use Rattle.base_types.proofs.kubernetes.matching.is_combined.Goals as goal

pub returns-in_default : goal.returns-in_default
returns-in_default c = sym (not_combined c.args.text.now c.args.resource.now c.args.subresource.now c.in_default.ensures.cases)

pub returns-in-Some-strip_prefix : goal.returns-in-Some-strip_prefix
returns-in-Some-strip_prefix c =
    let begins = begins_from_strip c.args.resource.now c.args.text.now c.in-Some.rest.now c.in-Some.ensures.cases in
    let slash = rw c.in-Some-strip_prefix.is at (strip_prefix_char 47 c.in-Some.rest.now c.strip_prefix-2.result c.strip_prefix-2.ensures.cases (lit< tt)) in
    c.eq.ensures ∙ combined_by_rest c.args.text.now _ _ c.in-Some.rest.now _ begins (told_behind c.in-Some.rest.now c.in-Some-strip_prefix.behind.now c.args.subresource.now slash)

pub returns-in-None : goal.returns-in-None
returns-in-None c =
    let begins = begins_from_strip c.args.resource.now c.args.text.now c.in-Some.rest.now c.in-Some.ensures.cases in
    let none = rw c.in-None.is at (strip_prefix_char 47 c.in-Some.rest.now c.strip_prefix-2.result c.strip_prefix-2.ensures.cases (lit< tt)) in
    combined_by_rest c.args.text.now _ _ c.in-Some.rest.now _ begins (told_none c.in-Some.rest.now c.args.subresource.now none)
