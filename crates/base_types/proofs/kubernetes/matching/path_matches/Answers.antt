use Rattle.std.proofs.Common.{◌∙◌, ap, sym, nat_eq, lit<}
use Rattle.std.specs.List.{starts_with}
use Rattle.std.proofs.lemmas.Str.Pattern.{strip_suffix_char, starts_text}
use Rattle.base_types.proofs.MatchingLemmas.{front_matches, whole_matches}
use Rattle.base_types.proofs.kubernetes.matching.path_matches.Goals as goal

pub returns-in-Some : goal.returns-in-Some
returns-in-Some c =
    let cut = rw c.in-Some.is at (strip_suffix_char 42 c.as_str.result.now c.strip_suffix.result c.strip_suffix.ensures.cases (lit< tt)) in
    let begins = starts_text c.starts_with.result c.in-Some.front.now c.as_str-in-Some.result.now c.starts_with.ensures.cases in
    begins ∙ ap (λ path. starts_with nat_eq path c.in-Some.front.now) c.as_str-in-Some.ensures.value
    ∙ front_matches c.args.entry.now c.in-Some.front.now c.args.path.now (sym c.as_str.ensures.value ∙ cut)

pub returns-in-None : goal.returns-in-None
returns-in-None c =
    let none = rw c.in-None.is at (strip_suffix_char 42 c.as_str.result.now c.strip_suffix.result c.strip_suffix.ensures.cases (lit< tt)) in
    c.eq.ensures ∙ whole_matches c.args.entry.now c.args.path.now (rw c.as_str.ensures.value at none)
