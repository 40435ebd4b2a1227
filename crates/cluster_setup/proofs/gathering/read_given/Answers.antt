use Rattle.std.proofs.Common.{map, string_bytes, Global, refl}
use Rattle.cluster_setup.proofs.GatheringFacts.{given_all, given_stopped, nothing_given, policy_stopped}
use Rattle.cluster_setup.proofs.gathering.read_given.Goals as goal

pub returns-in-Ok-read_files : goal.returns-in-Ok-read_files
returns-in-Ok-read_files g c =
    let left = g.D.Desk.left in
    let faults = g.D.Desk.faults in
    let first = c.in-Ok-read_whole.ensures.reads in
    given_all c.args.policy.now (map (string_bytes {Z = Global}) c.args.names.now) (left c.args.desk.now) (left c.read_whole.new.desk) (faults c.args.desk.now) (faults c.read_whole.new.desk)
    c.requires c.in-Ok-read_whole.bytes first.answers first.within first.whole first.counted first.taken c.in-Ok-read_whole.ensures.others
    c.new-files.result.items c.read_files.new.given.items (left c.read_files.new.desk) (faults c.read_files.new.desk)
    (record { policy = c.in-Ok-read_whole.bytes; files = c.read_files.new.given }) c.in-Ok-read_files.field-0 refl refl c.new-files.ensures.items c.in-Ok-read_files.ensures

pub returns-in-Ok-read_whole : goal.returns-in-Ok-read_whole
returns-in-Ok-read_whole g c =
    let left = g.D.Desk.left in
    let faults = g.D.Desk.faults in
    let first = c.in-Ok-read_whole.ensures.reads in
    given_stopped c.args.policy.now (map (string_bytes {Z = Global}) c.args.names.now) (left c.args.desk.now) (left c.read_whole.new.desk) (faults c.args.desk.now) (faults c.read_whole.new.desk)
    c.requires c.in-Ok-read_whole.bytes first.answers first.within first.whole first.counted first.taken c.in-Ok-read_whole.ensures.others
    c.new-files.result.items c.read_files.new.given.items (left c.read_files.new.desk) (faults c.read_files.new.desk) c.in-Err-read_files.stop c.in-Err-read_files.ensures

pub returns-in_default : goal.returns-in_default
returns-in_default g c = nothing_given c.args.policy.now (map (string_bytes {Z = Global}) c.args.names.now) (g.D.Desk.left c.args.desk.now) (g.D.Desk.faults c.args.desk.now)

pub returns : goal.returns
returns g c =
    let first = c.in-Err.ensures.reads in
    policy_stopped c.args.policy.now (map (string_bytes {Z = Global}) c.args.names.now) (g.D.Desk.left c.args.desk.now) (g.D.Desk.left c.read_whole.new.desk)
    (g.D.Desk.faults c.args.desk.now) (g.D.Desk.faults c.read_whole.new.desk) c.in-Err.stop c.requires first.answers first.fault first.counted first.taken c.in-Err.ensures.others
