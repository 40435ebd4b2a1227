use Rattle.std.proofs.Common.{sym, ◌∙◌}
use Rattle.path_shape.proofs.PassLemmas.{any_root, any_metadata, any_elsewhere}
use Rattle.path_shape.proofs.live.Live.is_any.Goals as goal

pub returns-then-is_root : goal.returns-then-is_root
returns-then-is_root c = sym (any_root c.args.self.unasked c.args.self.entries.now c.args.self.way.now (sym c.is_root.ensures ∙ c.if-is_root.true))

pub returns-then-is_metadata : goal.returns-then-is_metadata
returns-then-is_metadata c = sym (any_metadata c.args.self.unasked c.args.self.entries.now c.args.self.way.now (sym c.is_metadata.ensures ∙ c.if-is_metadata.true))

pub returns : goal.returns
returns c =
    c.any_past.ensures
    ∙ sym (any_elsewhere c.args.self.unasked c.args.self.entries.now c.args.self.way.now (sym c.is_root.ensures ∙ c.if-is_root.false) (sym c.is_metadata.ensures ∙ c.if-is_metadata.false))
