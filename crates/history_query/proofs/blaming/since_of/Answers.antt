use Rattle.std.proofs.Common.{◌≡◌, ◌+◌, ◌<◌, Bor, Some, length, slice_get, option_map, refl, sym, ap, subst, ◌∙◌, arith, AllPairs}
use Rattle.std.proofs.lemmas.Option.{slice_get_read}
use Rattle.object_past.specs.declared.version.Version.{Version}
use Rattle.history_query.proofs.BlameFacts.{IsSinceAmong, pointed_or, pointed_unwrapped, since_more, since_none, since_past, since_whole}
use Rattle.history_query.specs.Blaming.{IsSince}
use Rattle.history_query.proofs.blaming.since_of.Goals as goal
use Rattle.history_query.proofs.blaming.since_of.Goals.{then-is_before+then-is_same_at, then-is_before+else-is_same_at, else-is_before}

pub loop-other-preserved : goal.loop-other-preserved
loop-other-preserved c =
    let known = c.args.context.now in
    let pointer = c.args.pointer.now in
    let v = c.args.version.now in
    let versions = c.versions-versions.result.now in
    let i = c.loop-other.other-index in
    let other = c.other-item.result in
    let stands : slice_get versions i ≡ Some other = slice_get_read versions (length versions) i other refl c.loop-other-test.true c.other-item.is in
    let at = λ (w : Bor Version). w.now in
    elim c.if-is_before.branch [
      | then-is_before+then-is_same_at w ↦
          subst (IsSinceAmong known.trees pointer v versions (i + 1)) (sym (ap (option_map at) (w.since-is ∙ w.or-since.ensures) ∙ pointed_or at c.loop-other.since _))
          (since_more known.trees pointer v versions i other (option_map at c.loop-other.since) c.versions-versions.ensures.rising stands (c.is_before.ensures.0 w.if-is_before.true) (w.is_same_at.ensures.0 w.if-is_same_at.true) c.loop-other.invariant)
      | then-is_before+else-is_same_at w ↦
          subst (IsSinceAmong known.trees pointer v versions (i + 1)) (sym (ap (option_map at) w.since-is))
          (since_none known.trees pointer v versions i other c.versions-versions.ensures.rising stands (c.is_before.ensures.0 w.if-is_before.true)
          (λ same. let there = w.is_same_at.ensures.1 same in cc (there, w.if-is_same_at.false)))
      | else-is_before w ↦
          subst (IsSinceAmong known.trees pointer v versions (i + 1)) (sym (ap (option_map at) w.since-is))
          (since_past known.trees pointer v versions i other (option_map at c.loop-other.since) stands
          (λ before. let there = c.is_before.ensures.1 before in cc (there, w.if-is_before.false)) c.loop-other.invariant)
    ]

pub returns : goal.returns
returns c =
    let known = c.args.context.now in
    let pointer = c.args.pointer.now in
    let v = c.args.version.now in
    let versions = c.versions-versions.result.now in
    let at = λ (w : Bor Version). w.now in
    let are : versions ≡ known.versions = c.versions-versions.ensures.versions ∙ c.past.ensures.versions in
    let whole : c.loop-other.other-index ≡ length known.versions = omega (arith, c.loop-other-test.false, c.loop-other.auto.other-index-end, ap length are) in
    let so_far = subst (λ l. IsSinceAmong known.trees pointer v l c.loop-other.other-index (option_map at c.loop-other.since)) are c.loop-other.invariant in
    subst (IsSince known pointer v) (sym (ap at c.unwrap_or.ensures ∙ pointed_unwrapped at c.loop-other.since c.args.version))
    (since_whole known pointer v (option_map at c.loop-other.since)
    (subst (λ l. AllPairs (λ (a b : Version). a.revision < b.revision) l) are c.versions-versions.ensures.rising) c.requires
    (subst (λ n. IsSinceAmong known.trees pointer v known.versions n (option_map at c.loop-other.since)) whole so_far))
