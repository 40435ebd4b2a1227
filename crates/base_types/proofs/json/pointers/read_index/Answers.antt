use Rattle.std.proofs.Common.{sym, ◌∙◌}
use Rattle.base_types.proofs.Indices.{index_read, index_past}
use Rattle.base_types.proofs.json.pointers.read_index.Goals as goal

pub returns-clause-some : goal.returns-clause-some
returns-clause-some c = index_read _ c.args.token.now c.parse.result c.ok.result c.ok.ensures.value c.parse.ensures.value.0 (sym c.is_index.ensures ∙ c.if-not-is_index.false)

pub returns-clause-none : goal.returns-clause-none
returns-clause-none c = index_past _ c.args.token.now c.parse.result c.ok.result c.ok.ensures.value c.parse.ensures.value.0 (sym c.is_index.ensures ∙ c.if-not-is_index.false)
