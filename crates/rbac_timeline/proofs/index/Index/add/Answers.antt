use Rattle.rbac_timeline.proofs.Mentions.{IsIndexed-account, IsIndexed-group, IsIndexed-user}
use Rattle.rbac_timeline.proofs.index.Index.add.Goals as goal

pub returns-in-User : goal.returns-in-User
returns-in-User c = λ mentions are. rw c.in-User.is (IsIndexed-user c.args.self.now c.add_under.new.index _ c.args.key.now mentions c.in_ok-add_under-in-User.ensures are)

pub returns-in-Group : goal.returns-in-Group
returns-in-Group c = λ mentions are. rw c.in-Group.is (IsIndexed-group c.args.self.now c.add_under-in-Group.new.index _ c.args.key.now mentions c.in_ok-add_under-in-Group.ensures are)

pub returns : goal.returns
returns c = λ mentions are.
    rw c.in-ServiceAccount.is (IsIndexed-account c.args.self.now c.add_account.new.accounts _ _ c.args.key.now mentions c.in_ok-add_account-in-ServiceAccount.ensures are)
