use Rattle.std.proofs.Common.{option_map, sym, ap, ◌∙◌}
use Rattle.past_building.proofs.Numbered.{write_found}
use Rattle.past_building.specs.Modelled.{making_of}
use Rattle.past_building.proofs.versions.write_at.Goals as goal

pub returns : goal.returns
returns c = sym c.making_at.ensures ∙ ap (λ r. option_map making_of r) c.in-Some.is

pub unreachable-requires : goal.unreachable-requires
unreachable-requires c = write_found c.args.events.now c.args.number c.requires (sym (ap (λ r. option_map making_of r) c.in-None.is) ∙ c.making_at.ensures)
