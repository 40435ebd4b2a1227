-- The random numbers of a case: a linear congruential generator.
use Rattle.std.specs.Prelude.{ℕ, ◌+◌, ◌*◌, ◌/◌, ◌%◌, ◌^◌}

-- what the state is after one draw
abbrev pub next_random : ℕ → ℕ
next_random state = (state * 6364136223846793005 + 1442695040888963407) % 2 ^ 64

-- a draw gives the high bits of that state
abbrev pub drawn : ℕ → ℕ → ℕ
drawn state below = next_random state / 2 ^ 33 % below
