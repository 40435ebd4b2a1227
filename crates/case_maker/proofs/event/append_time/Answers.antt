use Rattle.std.proofs.Common.{◌/◌, ◌%◌, ◌++◌, string_bytes, arith}
use Rattle.std.specs.Prelude.{codes}
use Rattle.case_maker.specs.Event.{two_digits, three_digits}
use Rattle.case_maker.proofs.Chains.{appended}
use Rattle.case_maker.proofs.event.append_time.Goals as goal

pub returns : goal.returns
returns c =
    let old = string_bytes c.args.log.now in
    let date = codes "2024-05-01T10:" in
    let minutes = two_digits (c.args.millis / 60000) in
    let seconds = two_digits (c.args.millis / 1000 % 60) in
    let millis = three_digits (c.args.millis % 1000) in
    let colon = rw (c.in_ok-push.ensures.ascii (omega arith)) at c.in_ok-push.ensures.bytes in
    let point = rw (c.in_ok-push-2.ensures.ascii (omega arith)) at c.in_ok-push-2.ensures.bytes in
    let first = appended (string_bytes c.append_two_digits.new.log) (string_bytes c.push_str.new.self) old date minutes c.in_ok-push_str.ensures.bytes c.in_ok-append_two_digits.ensures in
    let second = appended (string_bytes c.push.new.self) (string_bytes c.append_two_digits.new.log) old (date ++ minutes) (codes ":") first colon in
    let third = appended (string_bytes c.append_two_digits-2.new.log) (string_bytes c.push.new.self) old (date ++ minutes ++ codes ":") seconds second c.in_ok-append_two_digits-2.ensures in
    let fourth = appended (string_bytes c.push-2.new.self) (string_bytes c.append_two_digits-2.new.log) old (date ++ minutes ++ codes ":" ++ seconds) (codes ".") third point in
    let fifth = appended (string_bytes c.append_three_digits.new.log) (string_bytes c.push-2.new.self) old (date ++ minutes ++ codes ":" ++ seconds ++ codes ".") millis fourth c.in_ok-append_three_digits.ensures in
    appended (string_bytes c.push_str-2.new.self) (string_bytes c.append_three_digits.new.log) old (date ++ minutes ++ codes ":" ++ seconds ++ codes "." ++ millis) (codes "000Z") fifth c.in_ok-push_str-2.ensures.bytes
