use Rattle.std.proofs.Common.{◌≡◌, ◌+◌, ◌-◌, ◌<◌, get_or, length, rules, sym, subst, arith}
use Rattle.std.proofs.lemmas.Option.{slice_get-get_or}
use Rattle.log_moments.proofs.Following.{AreNextsFrom, nexts_more}
use Rattle.log_moments.proofs.nexts.nexts_of.Goals as goal

pub loop-i-preserved : goal.loop-i-preserved
loop-i-preserved c =
    let versions = c.args.versions.now in
    let i = c.loop-i.i - 1 in
    let within : i < length versions = search (rules, arith) in
    let at = slice_get-get_or versions i c.index-versions-i.result within in
    let more : i + 1 ≡ c.loop-i.i = omega (arith, c.loop-i-test.true) in
    nexts_more versions i (get_or versions i c.index-versions-i.result) c.in_ok-nexts-2.field-0 c.loop-i.firsts c.put_first.new.firsts c.loop-i.nexts.items c.requires at c.in_ok-nexts-2.ensures.next c.in_ok-nexts-2.ensures.put
    (subst (λ n. AreNextsFrom versions n c.loop-i.firsts c.loop-i.nexts.items) (sym more) c.loop-i.invariant)
