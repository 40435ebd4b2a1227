use Rattle.std.proofs.Common.{not, bytes_eq, rules, ap, ◌∙◌, true≢false}
use Rattle.std.specs.Cmp.Lexicographic.{bytes_decides}
use Rattle.past_building.proofs.Ending.{unlike}
use Rattle.past_building.proofs.Keeping.{continues_latest, continues_other}
use Rattle.past_building.proofs.grown.continued.Goals as goal

pub returns-then-ne : goal.returns-then-ne
returns-then-ne c =
    let latest = c.in_ok-latest.latest.now in
    continues_other c.args.versions.now c.args.version.now c.args.before c.in_ok-position.position latest c.requires.rising c.requires.last (search rules) (search rules)
    (λ same. true≢false (c.if-ne.ensures ∙ ap not ((bytes_decides latest.uid c.args.version.now.uid).1 same)))

pub returns : goal.returns
returns c =
    let latest = c.in_ok-latest.latest.now in
    continues_latest c.args.versions.now c.args.firsts.now c.args.version.now c.args.before c.in_ok-position.position latest c.flag_at.result c.requires.flagged c.requires.last
    (search rules) (search rules) ((bytes_decides latest.uid c.args.version.now.uid).0 (unlike (bytes_eq latest.uid c.args.version.now.uid) c.if-ne.ensures)) c.flag_at.ensures
