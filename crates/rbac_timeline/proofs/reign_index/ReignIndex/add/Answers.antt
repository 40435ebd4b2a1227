use Rattle.rbac_timeline.proofs.Ruling.{AddsReigns-account, AddsReigns-group, AddsReigns-user}
use Rattle.rbac_timeline.proofs.reign_index.ReignIndex.add.Goals as goal

pub returns-in-User : goal.returns-in-User
returns-in-User c = rw c.in-User.is (AddsReigns-user c.args.self.now c.add_under.new.map c.args.reign _ c.in_ok-add_under-in-User.ensures)

pub returns-in-Group : goal.returns-in-Group
returns-in-Group c = rw c.in-Group.is (AddsReigns-group c.args.self.now c.add_under-in-Group.new.map c.args.reign _ c.in_ok-add_under-in-Group.ensures)

pub returns : goal.returns
returns c = rw c.in-ServiceAccount.is (AddsReigns-account c.args.self.now c.add_under-in-ServiceAccount.new.map c.args.reign _ _ _ c.in-Ok.ensures c.in_ok-add_under-in-ServiceAccount.ensures)
