use Rattle.judge_pool.proofs.Gathering.{one_list}
use Rattle.judge_pool.proofs.source.one_list_law.Goals as goal

pub returns : goal.returns
returns g c = λ source a b.
    -- threads may share a source: its laws hold wherever a thread runs, and so here
    let laws = g.met.S.ClaimSource g.world.𝓛 g.world.𝓜 g.world.𝓡 ((λ s x. x), (λ x. x), (λ x. x), λ x. x) in
    one_list (g.S.ClaimSource.is_claim source) (g.S.ClaimSource.events source) (λ event x y below of_x of_y. laws.one source event x y below of_x of_y) a b
