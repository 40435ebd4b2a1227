-- A list that a checkpoint may have.
use Rattle.std.proofs.Common.{◌≡◌, ◌&&◌, ◌||◌, ℕ, List, [], Some, true, subst, ap, ◌∙◌}
use Rattle.base_types.specs.Meaning.{Meaning}
use Rattle.base_types.proofs.Found.{same_some, found_both, where_true}
use Rattle.setup_file.specs.declared.lists.ListRead.{ListRead}
use Rattle.setup_file.specs.declared.setup.Tracked.{Tracked}
use Rattle.setup_file.specs.Checkpoints.{is_no_text, is_whole_at}
use Rattle.setup_file.specs.Lists.{list_of}
use Rattle.setup_file.specs.Parts.{fit_list_of}

pub list_fits : (start : ℕ) (tracked : Tracked) (namespace : List ℕ) (tree : Meaning) (list : ListRead) → fit_list_of start tracked namespace tree ≡ Some list
    → (list_of tracked [] namespace tree ≡ Some list) × (((is_no_text namespace || tracked.namespaced) && is_whole_at start list) ≡ true)
list_fits start tracked namespace tree list e =
    let read = found_both (list_of tracked [] namespace tree) _ list e in
    let fits = where_true ((is_no_text namespace || tracked.namespaced) && is_whole_at start read.0) (Some read.0) list read.2 in
    let same = same_some read.0 list fits.1 in
    (read.1 ∙ ap Some same, subst (λ found. ((is_no_text namespace || tracked.namespaced) && is_whole_at start found) ≡ true) same fits.0)
