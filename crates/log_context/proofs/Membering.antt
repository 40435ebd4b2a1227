-- The group of a revision.
use Rattle.std.proofs.Common.{◌≡◌, ◌==◌, ℕ, List, [], Some, None, find, refl, sym, ◌∙◌}
use Rattle.history_model.proofs.Members.{all_at}
use Rattle.history_model.proofs.WordLemmas.{eq_test, found_in, not_found, test_eq}
use Rattle.history_model.specs.Histories.{History}
use Rattle.write_groups.specs.Members.{AreGroupsOf, IsGroupOf}
use Rattle.write_groups.specs.declared.groups.Group.{Group}
use Rattle.log_context.specs.Membered.{AreMembersAt, grouped, lacking}

pub group_found : (h : History) (groups : List Group) → AreGroupsOf h groups → (revision : ℕ) (group : Group) → Some group ≡ find (λ (g : Group). g.revision == revision) groups → AreMembersAt h revision group.members
group_found h groups are revision group found =
    let here = found_in (λ (g : Group). g.revision == revision) groups group (sym found) in
    grouped group (eq_test group.revision revision here.1) refl (all_at (IsGroupOf h) groups group are.sound here.0)

pub group_lacking : (h : History) (groups : List Group) → AreGroupsOf h groups → (revision : ℕ) → None ≡ find (λ (g : Group). g.revision == revision) groups → AreMembersAt h revision []
group_lacking h groups are revision none = lacking refl (λ m is above same.
    let any = are.full m is above in
    not_found (λ (g : Group). g.revision == revision) groups (sym none) any.1 (any.0, any.2, any.3) (test_eq any.1.revision revision (any.4 ∙ same)))
