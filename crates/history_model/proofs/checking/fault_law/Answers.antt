use Rattle.history_model.proofs.CheckLaw.{one_fault_is, fault_is}
use Rattle.history_model.proofs.checking.fault_law.Goals as goal

pub returns-clause-one : goal.returns-clause-one
returns-clause-one c = λ h lines at other code different r x y. one_fault_is h r lines at other code different x y

pub returns-clause-fails : goal.returns-clause-fails
returns-clause-fails c = λ h lines at code r. fault_is h r lines at code
