use Rattle.std.proofs.Common.{string_bytes, ◌++◌}
use Rattle.std.specs.List.{join_with_byte}
use Rattle.case_maker.specs.Bodies.{list_head, present_texts}
use Rattle.case_maker.proofs.Chains.{appended}
use Rattle.std.specs.Prelude.{codes}
use Rattle.case_maker.proofs.bodies.append_list.Goals as goal

pub returns : goal.returns
returns c =
    let all = join_with_byte 44 (present_texts c.args.objects.now) in
    let present = appended (string_bytes c.append_present.new.log) (string_bytes c.write.new.self) (string_bytes c.args.log.now) (list_head c.args.revision) all
    c.in_ok-write.ensures.bytes c.in_ok-append_present.ensures in
    appended (string_bytes c.push_str.new.self) (string_bytes c.append_present.new.log) (string_bytes c.args.log.now) (list_head c.args.revision ++ all) (codes "]}")
    present c.in_ok-push_str.ensures.bytes
