use Rattle.std.proofs.Common.{◌∙◌, sym, bytes_eq}
use Rattle.setup_file.proofs.Mapped.{list_any-map}
use Rattle.setup_file.proofs.form.is_known.Goals as goal

pub returns : goal.returns
returns c = c.is_one_of.ensures ∙ sym (list_any-map (bytes_eq c.args.name.now) (λ known. known.now) c.args.known.now)
