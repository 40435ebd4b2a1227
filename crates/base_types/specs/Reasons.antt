-- The codes U1 to U14 of what can't be explained, by their numbers.
use Rattle.std.specs.Prelude.{ℕ}
use Rattle.base_types.specs.declared.verdict.claim.Reason.{Reason}
use Rattle.base_types.specs.declared.verdict.claim.Reason.TheVariants.{U1, U2, U3, U4, U5, U6, U7, U8, U9, U10, U11, U12, U13, U14}

-- the number in a code's name, by which codes are compared
abbrev pub code_number : Reason → ℕ
code_number U1 = 1
code_number U2 = 2
code_number U3 = 3
code_number U4 = 4
code_number U5 = 5
code_number U6 = 6
code_number U7 = 7
code_number U8 = 8
code_number U9 = 9
code_number U10 = 10
code_number U11 = 11
code_number U12 = 12
code_number U13 = 13
code_number U14 = 14
