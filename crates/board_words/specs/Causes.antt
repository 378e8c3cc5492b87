-- The number of each cause of a halt.
use Rattle.std.specs.Prelude.{ℕ, ◌≤◌}
use Rattle.board_words.specs.declared.halt.HaltCause.{HaltCause}
use Rattle.board_words.specs.declared.halt.HaltCause.TheVariants.{Budget, Memory, Fault}

-- the greater the number, the more urgent the cause
abbrev pub halt_number : HaltCause → ℕ
halt_number Budget = 1
halt_number Memory = 2
halt_number Fault = 3

-- 0, or the number of a cause
abbrev pub IsHaltWord : ℕ → Type 0
IsHaltWord n = n ≤ 3
