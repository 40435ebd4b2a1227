-- The answers of the check, in the terms of the model of history.
use Rattle.std.specs.Prelude.{List}
use Rattle.base_types.specs.declared.verdict.placed.PlacedLine.{PlacedLine}
use Rattle.history_model.specs.Checking as model
use Rattle.history_model.specs.Checking.{CheckCode, IsFirstFault, IsVerified}
use Rattle.history_model.specs.Histories.{History}
use Rattle.serial_machine.specs.declared.checked.Checked.{Checked}
use Rattle.serial_machine.specs.declared.checked.Checked.TheVariants as checked
use Rattle.serial_machine.specs.declared.fault.CheckFault.{CheckFault}
use Rattle.serial_machine.specs.declared.fault.CheckFault.TheVariants as fault
use Rattle.serial_machine.specs.declared.fault.WrongCode.{WrongCode}
use Rattle.serial_machine.specs.declared.fault.WrongCode.TheVariants as wrong

abbrev pub check_code : WrongCode → CheckCode
check_code wrong.V1 = model.V1
check_code wrong.V2 = model.V2
check_code (wrong.Judged reason) = model.Judged reason

-- a wrong line is the placement's first fault; want of memory says nothing
abbrev pub IsPlacementFault : History → List PlacedLine → CheckFault → Type 0
IsPlacementFault h lines (fault.Wrong line code) = IsFirstFault h lines line (check_code code)
IsPlacementFault h lines fault.OutOfMemory = Unit {0}

-- the placement is verified, or this is its first fault
abbrev pub IsChecked : History → List PlacedLine → Checked → Type 0
IsChecked h lines checked.Holds = IsVerified h lines
IsChecked h lines (checked.Wrong line code) = IsFirstFault h lines line (check_code code)
