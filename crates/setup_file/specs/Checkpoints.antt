-- Whole lists that must fit the log.
use Rattle.std.specs.Prelude.{ℕ, ◌+◌, Bool, true, false, ◌&&◌, ◌||◌, not, List, [], ◌∷◌, ◌++◌, length, Option, Some, None, nat_le, codes, decimal, if◌then◌else◌}
use Rattle.base_types.specs.Meaning.{Meaning}
use Rattle.base_types.specs.Parts.{member_of, items_of}
use Rattle.base_types.specs.Texts.{◌>>=◌, text_at}
use Rattle.setup_file.specs.declared.lists.ListRead.{ListRead}
use Rattle.setup_file.specs.declared.setup.Checkpoint.{Checkpoint}
use Rattle.setup_file.specs.declared.setup.Tracked.{Tracked}
use Rattle.setup_file.specs.Forms.{is_form}
use Rattle.setup_file.specs.Lists.{list_of}
use Rattle.setup_file.specs.Resources.{tracked_as}

abbrev pub is_no_text : List ℕ → Bool
is_no_text [] = true
is_no_text (byte ∷ bytes) = false

-- the list is whole, and it isn't older than the log
abbrev pub is_whole_at : ℕ → ListRead → Bool
is_whole_at start list = not list.rest && nat_le start list.revision

-- a checkpoint by its number
abbrev pub checkpoint_of : ℕ → List Tracked → ℕ → Meaning → Option Checkpoint
checkpoint_of start resources number tree = if is_form (codes "group" ∷ codes "resource" ∷ codes "namespace" ∷ codes "list" ∷ []) tree then (do
  group ← text_at (codes "group") tree
  resource ← text_at (codes "resource") tree
  namespace ← text_at (codes "namespace") tree
  tracked ← tracked_as resources group resource
  value ← member_of (codes "list") tree
  list ← list_of tracked [] namespace value
  if (is_no_text namespace || tracked.namespaced) && is_whole_at start list
      then Some (record {
        name = codes "checkpoint:" ++ decimal number;
        group = group;
        resource = resource;
        namespace = namespace;
        revision = list.revision;
        items = list.items;
      })
      else None)
    else None

-- the checkpoints from the one of this number on
abbrev pub checkpoints_from : ℕ → List Tracked → ℕ → List Meaning → Option (List Checkpoint)
checkpoints_from start resources number [] = Some []
checkpoints_from start resources number (tree ∷ trees) = do
  checkpoint ← checkpoint_of start resources number tree
  checkpoints ← checkpoints_from start resources (number + 1) trees
  Some (checkpoint ∷ checkpoints)

abbrev pub few_checkpoints : List Meaning → Option (List Meaning)
few_checkpoints trees = if nat_le (length trees) 10_000 then Some trees else None

abbrev pub checkpoints_of : ℕ → List Tracked → Option Meaning → Option (List Checkpoint)
checkpoints_of start resources None = Some []
checkpoints_of start resources (Some list) = do
  trees ← items_of list
  few ← few_checkpoints trees
  checkpoints_from start resources 1 few
