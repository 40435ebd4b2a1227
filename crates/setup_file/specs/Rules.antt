-- The rules of a setup by their numbers.
use Rattle.std.specs.Prelude.{ℕ}
use Rattle.setup_file.specs.declared.fault.SetupRule.{SetupRule}
use Rattle.setup_file.specs.declared.fault.SetupRule.TheVariants.{S1, S2, S3, S4, S5, S6, S7, S8, S9, S10, S11, S12, S13, S14, S15}

-- the number in a rule's name
abbrev pub rule_number : SetupRule → ℕ
rule_number S1 = 1
rule_number S2 = 2
rule_number S3 = 3
rule_number S4 = 4
rule_number S5 = 5
rule_number S6 = 6
rule_number S7 = 7
rule_number S8 = 8
rule_number S9 = 9
rule_number S10 = 10
rule_number S11 = 11
rule_number S12 = 12
rule_number S13 = 13
rule_number S14 = 14
rule_number S15 = 15
