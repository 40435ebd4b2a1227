use Rattle.std.proofs.Common.{◌∙◌, sym}
use Rattle.std.specs.Prelude.{is_some}
use Rattle.std.proofs.lemmas.List.Folds.{list_all-map}
use Rattle.base_types.specs.Parts.{member_of}
use Rattle.setup_file.proofs.reading.has_all.Goals as goal

pub returns : goal.returns
returns c = c.has_each.ensures ∙ sym (list_all-map (λ name. is_some (member_of name c.args.value.now)) (λ name. name.now) c.args.names.now)
