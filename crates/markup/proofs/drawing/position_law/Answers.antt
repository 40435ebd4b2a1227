use Rattle.markup.proofs.Positions.{first-is-left, last-is-right, places-rise}
use Rattle.markup.proofs.drawing.position_law.Goals as goal

pub returns-clause-rise : goal.returns-clause-rise
returns-clause-rise c = places-rise

pub returns-clause-first : goal.returns-clause-first
returns-clause-first c = first-is-left

pub returns-clause-last : goal.returns-clause-last
returns-clause-last c = last-is-right
