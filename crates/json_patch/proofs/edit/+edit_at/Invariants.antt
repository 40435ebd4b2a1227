use Rattle.std.proofs.Common.{◌+◌, ◌*◌, length}
use Rattle.json_patch.proofs.edit.+edit_at.Given as goal

abbrev pub decreases-edit_at : goal.decreases-edit_at
decreases-edit_at l = 2 * length l.rest.now

abbrev pub decreases-edit_below_items : goal.decreases-edit_below_items
decreases-edit_below_items l = 2 * length l.after.now + 1

abbrev pub decreases-edit_below_members : goal.decreases-edit_below_members
decreases-edit_below_members l = 2 * length l.after.now + 1
