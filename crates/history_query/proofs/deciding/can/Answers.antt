use Rattle.std.proofs.Common.{◌≡◌, ◌∙◌, codes, ap, sym, rules}
use Rattle.setup_file.specs.declared.setup.Setup.{Setup}
use Rattle.verdict_text.specs.Words.{ended}
use Rattle.history_query.proofs.CanFacts.{decision_told, judged_told, unjudged_told}
use Rattle.history_query.specs.Deciding.{possible_word}
use Rattle.history_query.specs.Telling.{unknown_text}
use Rattle.history_query.specs.Telling.IsToldText.{nothing, something}
use Rattle.history_query.proofs.deciding.can.Goals as goal
use Rattle.history_query.proofs.deciding.can.Goals.{then-not-setup+in_ok-push_str, else-not-setup+then-is_below_start+in_ok-push_str-2, else-not-setup+else-is_below_start+in_ok-writeln}

pub returns : goal.returns
returns c =
    let known = c.args.context.now in
    let place = c.args.place in
    let who = c.args.who.now in
    let attrs = c.args.attrs.now in
    let text = c.from_vec.result in
    let setup : known.setup.authorize ≡ c.setup.result.now.authorize = sym (ap (λ (s : Setup). s.authorize) c.setup.ensures.setup) in
    elim c.if-not-setup.branch [
      | then-not-setup+in_ok-push_str w ↦
          let is : text ≡ ended (codes "unjudged") = search rules in
          unjudged_told known place who attrs text (setup ∙ w.if-not-setup.true) is
      | else-not-setup+then-is_below_start+in_ok-push_str-2 w ↦
          let is : text ≡ unknown_text = search rules in
          judged_told known place who attrs text (setup ∙ w.if-not-setup.false)
          (nothing (w.is_below_start.ensures.0 w.if-is_below_start.true) is)
      | else-not-setup+else-is_below_start+in_ok-writeln w ↦
          let possible = w.decide-possible.result in
          let is : text ≡ ended (possible_word possible.allow possible.forbid) = search rules in
          judged_told known place who attrs text (setup ∙ w.if-not-setup.false)
          (something (λ below. let there = w.is_below_start.ensures.1 below in cc (there, w.if-is_below_start.false))
          (decision_told known place who attrs possible w.timeline.result.now w.equal_places.result text w.timeline.ensures.timeline w.equal_places.ensures
          w.decide-possible.ensures.allow w.decide-possible.ensures.forbid is))
    ]
