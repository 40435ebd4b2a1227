use Rattle.std.proofs.Common.{◌≡◌, ◌<◌, ◌++◌, ◌∷◌, [], take, length, string_bytes, sym, ◌∙◌, arith}
use Rattle.std.proofs.lemmas.Bool.{false≢true}
use Rattle.case_maker.specs.Bodies.{held_text, present_texts}
use Rattle.case_maker.proofs.Present.{present_none, present_some, written_more, written_first, some_more}
use Rattle.case_maker.proofs.bodies.append_present.Goals as goal
use Rattle.case_maker.proofs.bodies.append_present.Goals.{in-Some+in_ok-append_held, then-follows+in_ok-push, else-follows, in_default}

pub loop-name-preserved : goal.loop-name-preserved
loop-name-preserved c =
    let within : c.loop-name.name < length c.args.objects.now = omega arith in
    let texts = present_texts (take c.loop-name.name c.args.objects.now) in
    elim c.match-object.branch [
      | in-Some+in_ok-append_held w ↦
          let more = present_some c.args.objects.now c.loop-name.name w.in-Some.held within w.in-Some.is in
          elim w.if-follows.branch [
            | then-follows+in_ok-push w' ↦
                let comma = rw (w'.in_ok-push.ensures.ascii (omega arith)) at w'.in_ok-push.ensures.bytes in
                let behind : string_bytes w.if-follows.log ≡ string_bytes c.loop-name.log ++ 44 ∷ [] = rw w'.log-is comma in
                record {
                  written = rw (more, w.log-is) (written_more (string_bytes w.append_held.new.log) (string_bytes w.if-follows.log) (string_bytes c.loop-name.log) (string_bytes c.args.log.now)
                      texts (held_text c.loop-name.name w.in-Some.held) (c.loop-name.invariant.some w'.if-follows.true) c.loop-name.invariant.written behind w.in_ok-append_held.ensures);
                  empty = λ e. absurd (false≢true (sym e ∙ w.follows-is));
                  some = λ e none. some_more texts (held_text c.loop-name.name w.in-Some.held) (sym more ∙ none);
                }
            | else-follows w' ↦
                let last : string_bytes w.append_held.new.log ≡ string_bytes c.loop-name.log ++ held_text c.loop-name.name w.in-Some.held = rw (← w'.log-is) w.in_ok-append_held.ensures in
                record {
                  written = rw (more, w.log-is) (written_first (string_bytes w.append_held.new.log) (string_bytes c.loop-name.log) (string_bytes c.args.log.now)
                      texts (held_text c.loop-name.name w.in-Some.held) (c.loop-name.invariant.empty w'.if-follows.false) c.loop-name.invariant.written last);
                  empty = λ e. absurd (false≢true (sym e ∙ w.follows-is));
                  some = λ e none. some_more texts (held_text c.loop-name.name w.in-Some.held) (sym more ∙ none);
                }
          ]
      | in_default w ↦
          let same = present_none c.args.objects.now c.loop-name.name within w.in_default.is in
          record {
            written = rw (same, w.log-is) c.loop-name.invariant.written;
            empty = λ e. same ∙ c.loop-name.invariant.empty (sym w.follows-is ∙ e);
            some = λ e none. c.loop-name.invariant.some (sym w.follows-is ∙ e) (sym same ∙ none);
          }
    ]
