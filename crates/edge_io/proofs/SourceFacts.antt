-- What a read of one name leaves of the other names of a desk of files.
use Rattle.std.proofs.Common.{◌≡◌, ◌≢◌, ℕ, List, Option, String, string_bytes, string_cmp, nat_cmp, option_and_then, sym, ap, ◌∙◌}
use Rattle.std.specs.BTreeMap.{BTreeMap, get_by_text, UpdatesBy}
use Rattle.std.specs.Cmp.Lexicographic.{slice_cmp}
use Rattle.std.specs.Str.{bytes_eq}
use Rattle.std.proofs.lemmas.Map.{update_other}
use Rattle.std.proofs.lemmas.Map.Text.{btree_map_updates_text}
use Rattle.edge_io.specs.Sources.{left_of_source, left_of_name}
use Rattle.edge_io.specs.declared.system.Source.{Source}
use Rattle.edge_io.proofs.NamedFiles.{other_name}

pub others_left : {Y F I : Type 0} (file : F → Option (List ℕ)) (input : I → Option (List ℕ)) (m n : BTreeMap (String Y) (Source F I)) (name : List ℕ) (w : Option (Source F I))
    → UpdatesBy string_cmp (λ k. slice_cmp nat_cmp name (string_bytes k)) m n w → (other : List ℕ) → other ≢ name → left_of_name file input n other ≡ left_of_name file input m other
others_left file input m n name w updates other apart =
    let differs = other_name name other (λ e. apart (sym e)) in
    ap (option_and_then (left_of_source file input)) (btree_map_updates_text name m n w updates other ∙ update_other bytes_eq (get_by_text m) name w other differs)
