use Rattle.std.proofs.Common.{sym, ◌∙◌, arith}
use Rattle.edge_io.proofs.NamedFiles.{IsRead, is_read, left_of-unnamed}
use Rattle.edge_io.proofs.files.give_named.Goals as goal

read_of : (c : goal.After-slice_known-in-Some-1) → IsRead c.args.files.now c.args.name.now c.in-Some.at c.give.new.self c.index-files-at.result
read_of c = is_read c.args.files.now c.args.name.now c.in-Some.at c.give.new.self c.index-files-at.result (sym c.find_named.ensures ∙ c.in-Some.is) c.give.ensures.name

pub returns-in-Some-clause-count : goal.returns-in-Some-clause-count
returns-in-Some-clause-count c = rw (read_of c).before c.give.ensures.count

pub returns-in-Some-clause-given : goal.returns-in-Some-clause-given
returns-in-Some-clause-given c = rw ((read_of c).before, (read_of c).after) c.give.ensures.given

pub returns-in-Some-clause-others : goal.returns-in-Some-clause-others
returns-in-Some-clause-others c = (read_of c).others

pub returns-in-None-clause-count : goal.returns-in-None-clause-count
returns-in-None-clause-count c = rw (left_of-unnamed c.args.files.now c.args.name.now (sym c.find_named.ensures ∙ c.in-None.is)) (omega arith)
