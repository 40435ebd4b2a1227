use Rattle.std.proofs.Common.{◌≡◌, ◌++◌, get_or, None, string_bytes, ap, ◌∙◌}
use Rattle.case_maker.specs.Random.{drawn}
use Rattle.case_maker.specs.Exchanges.{exchange_of}
use Rattle.case_maker.specs.Event.{event_text, wording_of}
use Rattle.case_maker.specs.Cluster.{name_drawn, choice_drawn, exchange_at}
use Rattle.case_maker.proofs.cluster.append_next.Goals as goal

pub returns-clause-line : goal.returns-clause-line
returns-clause-line c =
    let state = c.args.cluster.now in
    let number = c.args.number in
    let old = string_bytes c.args.log.now in
    let name : c.draw-name.result ≡ name_drawn state = c.draw-name.ensures.value in
    let choice : c.draw-choice.result ≡ choice_drawn state = c.draw-choice.ensures.value ∙ ap (λ s. drawn s 8) c.draw-name.ensures.state in
    let exchange : c.choose-exchange.result ≡ exchange_at state number = c.choose-exchange.ensures
    ∙ ap (λ n. exchange_of (get_or state.objects n None) c.draw-choice.result number state.revision) name
    ∙ ap (λ k. exchange_of (get_or state.objects (name_drawn state) None) k number state.revision) choice in
    c.in_ok-append_event.ensures
    ∙ ap (λ e. old ++ event_text number (wording_of e c.draw-name.result number state.revision state.objects)) exchange
    ∙ ap (λ n. old ++ event_text number (wording_of (exchange_at state number) n number state.revision state.objects)) name
