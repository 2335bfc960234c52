-- What is answered by a call that may meet a fault.
use Rattle.std.specs.Prelude.{ℕ, Option, None, Some, Result, Ok, Err}

-- the value, or the fault where one is met
abbrev pub answer : {T : Type 0} → Option ℕ → T → Result T ℕ
answer None value = Ok value
answer (Some kind) value = Err kind
