use Rattle.std.proofs.Common.{string_bytes, ◌++◌}
use Rattle.std.specs.Prelude.{codes}
use Rattle.case_maker.specs.Event.{verb_text}
use Rattle.case_maker.specs.Drawn.{wording}
use Rattle.case_maker.proofs.Chains.{appended}
use Rattle.case_maker.proofs.event.append_wording.Goals as goal

pub returns : goal.returns
returns c =
    let old = string_bytes c.args.log.now in
    let w = wording c.args.event.now in
    let path = rw c.request_of-request.ensures.path at c.in_ok-append_path.ensures in
    let named = rw (c.request_of-request.ensures.verb, c.request_of-request.ensures.code) at c.in_ok-append_verb.ensures in
    let behind_verb = w.uri ++ verb_text w.verb w.code in
    let verb = appended (string_bytes c.append_verb.new.log) (string_bytes c.append_path.new.log) old w.uri (verb_text w.verb w.code) path named in
    let asked = appended (string_bytes c.append_asked_member.new.log) (string_bytes c.append_verb.new.log) old behind_verb w.asked verb c.in_ok-append_asked_member.ensures in
    let member = appended (string_bytes c.push_str.new.self) (string_bytes c.append_asked_member.new.log) old (behind_verb ++ w.asked) (codes ",\"responseObject\":") asked c.in_ok-push_str.ensures.bytes in
    appended (string_bytes c.append_answer.new.log) (string_bytes c.push_str.new.self) old (behind_verb ++ w.asked ++ codes ",\"responseObject\":") w.answered member c.in_ok-append_answer.ensures
