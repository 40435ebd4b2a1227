use Rattle.std.proofs.Common.{◌<◌, sym, subst}
use Rattle.std.specs.Prelude.{All}
use Rattle.object_past.specs.declared.version.Version.{Version}
use Rattle.past_building.proofs.grown.Grown.with.Goals as goal

pub add-requires-clause-above : goal.add-requires-clause-above
add-requires-clause-above c = subst (All (λ (v : Version). v.revision < c.args.version.revision)) (sym c.self.view_is) c.requires.above
