-- The functions of a program that have a body, each with its number by its name.
use Rattle.std.specs.Prelude.{◌≡◌, ℕ, List, is_some, if◌then◌else◌}
use Rattle.typing.specs.environment.Names.{Entries, value_in, with_value}
use Rattle.c_machine.specs.Program.{FunctionItem, number_in}

-- a name gets a number, unless it has one
abbrev pub with_first : List ℕ → ℕ → Entries ℕ → Entries ℕ
with_first name number numbers = if is_some (value_in name numbers) then numbers else with_value name number numbers

abbrev pub AreNumbers : List FunctionItem → Entries ℕ → Type 0
AreNumbers functions numbers = (name : List ℕ) → value_in name numbers ≡ number_in functions name
