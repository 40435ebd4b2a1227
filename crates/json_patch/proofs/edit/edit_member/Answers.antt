use Rattle.std.proofs.Common.{Some}
use Rattle.base_types.specs.Meaning.{fields_of}
use Rattle.json_patch.proofs.Sizes.{member_added, member_removed, member_replaced}
use Rattle.json_patch.proofs.edit.edit_member.Goals as goal

pub returns-in_ok-put_member-in-Add-clause-size : goal.returns-in_ok-put_member-in-Add-clause-size
returns-in_ok-put_member-in-Add-clause-size c =
    let put = c.in_ok-put_member-in-Add.ensures in
    rw c.in-Add.is (member_added _ c.in-Add.value c.args.list.now (fields_of c.put_member.new.list) c.in_ok-put_member-in-Add.field-0 put.sorted put.old put.put)

pub returns-in-Some-clause-size : goal.returns-in-Some-clause-size
returns-in-Some-clause-size c =
    let take = c.in-Some.ensures in
    rw c.in-Remove.is (member_removed c.args.token.now c.args.list.now (fields_of c.take.new.self) (Some c.in-Some.value) take.sorted take.taken take.left)

pub returns-in_ok-put_member-in-Some-get-clause-size : goal.returns-in_ok-put_member-in-Some-get-clause-size
returns-in_ok-put_member-in-Some-get-clause-size c =
    let put = c.in_ok-put_member-in-Some-get.ensures in
    rw c.in-Replace.is (member_replaced _ c.in-Replace.value c.args.list.now (fields_of c.put_member-in-Some-get.new.list) c.in_ok-put_member-in-Some-get.field-0 put.sorted put.old put.put)
