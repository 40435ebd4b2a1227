use Rattle.log_picture.proofs.Keeping.{keeps}
use Rattle.log_picture.proofs.spreading.spread_law.Goals as goal

pub returns : goal.returns
returns g c = λ limit list some. keeps limit list some
