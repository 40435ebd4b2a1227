-- What the history that a setup and a log tell says of decisions, of answers and of bodies.
use Rattle.context_laws.specs.Bodies.{AreAsAsked}
use Rattle.context_laws.specs.Classes.{IsByTable}
use Rattle.context_laws.specs.Deciding.{DecidesByChoice}

-- each test that the history is made by is a statement
pub record AreStatements : Type 0 where
  pub decided : DecidesByChoice
  pub classes : IsByTable
  pub bodies : AreAsAsked
