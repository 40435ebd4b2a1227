use Rattle.std.proofs.Common.{◌≤◌, sym, subst}
use Rattle.std.specs.Prelude.{All, IsSome}
use Rattle.setup_file.specs.Resources.{tracked_as}
use Rattle.setup_file.specs.Sound.{IsLaterList}
use Rattle.setup_file.specs.declared.setup.Checkpoint.{Checkpoint}
use Rattle.page_chains.specs.Following.{AreChains}
use Rattle.page_chains.specs.Pages.{pages_of}
use Rattle.page_chains.proofs.ChainLemmas.{each_chain, all_tracked, all_late}
use Rattle.page_chains.proofs.PartLemmas.{found_of_parts}
use Rattle.page_chains.proofs.SoundLemmas.{all_later}
use Rattle.page_chains.proofs.chain.chains.Goals as goal

pub returns-clause-chains : goal.returns-clause-chains
returns-clause-chains c =
    found_of_parts c.args.setup.now c.args.events.now c.as_slice.result.now c.in_ok-parts.parts c.as_slice-2.result.now c.in_ok-found.found
    c.in_ok-found.ensures.chains c.as_slice-2.ensures c.in_ok-parts.ensures.parts c.as_slice.ensures

pub returns-clause-each : goal.returns-clause-each
returns-clause-each c =
    let setup = c.args.setup.now in
    let events = c.args.events.now in
    subst (AreChains (pages_of setup events)) (sym (returns-clause-chains c)) (each_chain (pages_of setup events))

pub returns-clause-tracked : goal.returns-clause-tracked
returns-clause-tracked c =
    let setup = c.args.setup.now in
    subst (All (λ (chain : Checkpoint). IsSome (tracked_as setup.resources chain.group chain.resource))) (sym (returns-clause-chains c)) (all_tracked setup c.args.events.now)

pub returns-clause-not_below : goal.returns-clause-not_below
returns-clause-not_below c =
    let setup = c.args.setup.now in
    subst (All (λ (chain : Checkpoint). setup.start ≤ chain.revision)) (sym (returns-clause-chains c)) (all_late setup c.args.events.now)

pub returns-clause-sound : goal.returns-clause-sound
returns-clause-sound c = λ sound.
    let setup = c.args.setup.now in
    subst (All (IsLaterList setup.start setup.resources)) (sym (returns-clause-chains c)) (all_later setup c.args.events.now sound)
