use Rattle.history_model.proofs.LocalBounds.{absence_is, presence_is, kept, nothing_yet}
use Rattle.history_model.proofs.bounding.bound_law.Goals as goal

pub returns-clause-absence : goal.returns-clause-absence
returns-clause-absence c = λ h choice key place position v removal r chosen e a. absence_is h choice r chosen key place position v removal e a

pub returns-clause-presence : goal.returns-clause-presence
returns-clause-presence c = λ h choice key place position v removal r chosen e a. presence_is h choice r chosen key place position v removal e a

pub returns-clause-kept : goal.returns-clause-kept
returns-clause-kept c = λ h choice key place v r chosen e n. kept h choice r chosen key place v e n

pub returns-clause-none : goal.returns-clause-none
returns-clause-none c = λ h choice key place r chosen e. nothing_yet h choice r chosen key place e
