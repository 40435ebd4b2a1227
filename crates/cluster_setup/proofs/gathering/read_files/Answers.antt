use Rattle.std.proofs.Common.{◌≡◌, ◌+◌, map, string_bytes, drop, Global, ap, rules}
use Rattle.std.proofs.lemmas.List.{drop_all}
use Rattle.cluster_setup.proofs.GatheringFacts.{all_read, ended, ended_for_memory, none_read, read_on}
use Rattle.process_words.proofs.NameFacts.{item_in_front}
use Rattle.cluster_setup.proofs.gathering.read_files.Goals as goal

pub loop-name-init : goal.loop-name-init
loop-name-init g c = none_read (map (string_bytes {Z = Global}) c.args.names.now) c.args.given.now.items (g.D.Desk.left c.args.desk.now) (g.D.Desk.faults c.args.desk.now) c.requires.differ

pub loop-name-preserved : goal.loop-name-preserved
loop-name-preserved g c =
    let names = c.args.names.now in
    let at = c.loop-name.name-index in
    let name = c.deref.result.now in
    let named : string_bytes {Z = Global} c.name-item.result ≡ name = search (rules, c.deref.ensures) in
    let left = g.D.Desk.left in
    let faults = g.D.Desk.faults in
    let first = c.in-Ok.ensures.reads in
    read_on (map (string_bytes {Z = Global}) names) (map (string_bytes {Z = Global}) (drop at names)) (map (string_bytes {Z = Global}) (drop (at + 1) names)) name
    c.args.given.now.items c.loop-name.given.items (left c.args.desk.now) (left c.loop-name.desk) (left c.read_whole.new.desk)
    (faults c.args.desk.now) (faults c.loop-name.desk) (faults c.read_whole.new.desk)
    (item_in_front (string_bytes {Z = Global}) names at c.name-item.result name c.loop-name-test.true c.name-item.is named) c.loop-name.invariant first.counted c.in-Ok.ensures.others
    c.in-Ok.bytes c.push.new.self.items first.answers first.within first.whole first.taken c.in-Ok-push.ensures.items

pub returns-in-Err-push : goal.returns-in-Err-push
returns-in-Err-push g c =
    let names = c.args.names.now in
    let at = c.loop-name.name-index in
    let name = c.deref.result.now in
    let named : string_bytes {Z = Global} c.name-item.result ≡ name = search (rules, c.deref.ensures) in
    let left = g.D.Desk.left in
    let faults = g.D.Desk.faults in
    let first = c.in-Ok.ensures.reads in
    ended_for_memory (map (string_bytes {Z = Global}) names) (map (string_bytes {Z = Global}) (drop at names)) (map (string_bytes {Z = Global}) (drop (at + 1) names)) name
    c.args.given.now.items c.loop-name.given.items (left c.args.desk.now) (left c.loop-name.desk) (left c.read_whole.new.desk)
    (faults c.args.desk.now) (faults c.loop-name.desk) (faults c.read_whole.new.desk)
    (item_in_front (string_bytes {Z = Global}) names at c.name-item.result name c.loop-name-test.true c.name-item.is named) c.loop-name.invariant first.counted c.in-Ok.ensures.others
    c.push.new.self.items first.taken

pub returns-in-Err : goal.returns-in-Err
returns-in-Err g c =
    let names = c.args.names.now in
    let at = c.loop-name.name-index in
    let name = c.deref.result.now in
    let named : string_bytes {Z = Global} c.name-item.result ≡ name = search (rules, c.deref.ensures) in
    let left = g.D.Desk.left in
    let faults = g.D.Desk.faults in
    let first = c.in-Err.ensures.reads in
    ended (map (string_bytes {Z = Global}) names) (map (string_bytes {Z = Global}) (drop at names)) (map (string_bytes {Z = Global}) (drop (at + 1) names)) name
    c.args.given.now.items c.loop-name.given.items (left c.args.desk.now) (left c.loop-name.desk) (left c.read_whole.new.desk)
    (faults c.args.desk.now) (faults c.loop-name.desk) (faults c.read_whole.new.desk)
    (item_in_front (string_bytes {Z = Global}) names at c.name-item.result name c.loop-name-test.true c.name-item.is named) c.loop-name.invariant first.counted c.in-Err.ensures.others
    c.in-Err.stop first.answers first.fault first.taken

pub returns : goal.returns
returns g c =
    let names = c.args.names.now in
    let at = c.loop-name.name-index in
    all_read (map (string_bytes {Z = Global}) names) (map (string_bytes {Z = Global}) (drop at names)) c.args.given.now.items c.loop-name.given.items
    (g.D.Desk.left c.args.desk.now) (g.D.Desk.left c.loop-name.desk) (g.D.Desk.faults c.args.desk.now) (g.D.Desk.faults c.loop-name.desk) tt
    (ap (map (string_bytes {Z = Global})) (drop_all at names c.loop-name-test.false)) c.loop-name.invariant
