-- The post of each instruction that touches registers alone.
use Rattle.std.specs.Prelude.{ℕ, Bool, [], ◌∷◌, ℤ, Option, None, Some, option_map}
use Rattle.std.specs.Option.{option_and_then}
use Rattle.arithmetic.specs.declared.op.Op.{Op}
use Rattle.graph.specs.declared.parts.KeyedValue.{KeyedValue}
use Rattle.graph.specs.declared.parts.Parts.{Parts}
use Rattle.graph.specs.Maps.{value_at, storage_of, held_by}
use Rattle.changes.specs.Posted.{Posted}
use Rattle.register_steps.specs.declared.line.Line.{Line}
use Rattle.register_steps.specs.Gaining.{line_post}
use Rattle.register_steps.specs.Lines.{nothing, kept, number_line, address_line, shifted, shifted_by, computed_line, converted_line, input_line}

-- the value that a register holds, with its key
abbrev pub entry_held : Parts → ℕ → Option KeyedValue
entry_held parts register = option_and_then (λ key. option_map (λ value. record { key = key; value = value }) (value_at parts.values key)) (held_by parts.registers register)

-- goes on with what a register holds; where it holds nothing no state follows
abbrev pub on_held : Option KeyedValue → (KeyedValue → Line) → Line
on_held None onward = nothing
on_held (Some held) onward = onward held

-- What a register gets.

abbrev pub line_of_address : Parts → ℕ → Line
line_of_address parts variable = address_line (storage_of parts.variables variable)

abbrev pub line_of_move : Parts → ℕ → Line
line_of_move parts from = on_held (entry_held parts from) (λ held. kept held.key)

abbrev pub line_of_shift : Parts → ℕ → ℤ → Line
line_of_shift parts at by = on_held (entry_held parts at) (λ address. shifted address.value by)

abbrev pub line_of_shift_by : Parts → ℕ → ℕ → ℤ → Line
line_of_shift_by parts at by scale = on_held (entry_held parts at) (λ address. on_held (entry_held parts by) (λ number. shifted_by address.value number.value scale))

abbrev pub line_of_compute : Parts → Op → ℕ → ℕ → ℕ → Bool → Line
line_of_compute parts op left right size signed = on_held (entry_held parts left) (λ one. on_held (entry_held parts right) (λ other. computed_line op size signed one.value other.value))

abbrev pub line_of_convert : Parts → ℕ → ℕ → Bool → Line
line_of_convert parts from size signed = on_held (entry_held parts from) (λ held. converted_line held.key held.value size signed)

-- The posts.

abbrev pub number_post : Parts → ℕ → ℕ → ℕ → Posted
number_post parts into number size = line_post parts [] into (number_line number size)

abbrev pub address_post : Parts → ℕ → ℕ → Posted
address_post parts into variable = line_post parts [] into (line_of_address parts variable)

abbrev pub move_post : Parts → ℕ → ℕ → Posted
move_post parts into from = line_post parts [] into (line_of_move parts from)

abbrev pub shift_post : Parts → ℕ → ℕ → ℤ → Posted
shift_post parts into at by = line_post parts (at ∷ []) into (line_of_shift parts at by)

abbrev pub shift_by_post : Parts → ℕ → ℕ → ℕ → ℤ → Posted
shift_by_post parts into at by scale = line_post parts (at ∷ by ∷ []) into (line_of_shift_by parts at by scale)

abbrev pub compute_post : Parts → ℕ → Op → ℕ → ℕ → ℕ → Bool → Posted
compute_post parts into op left right size signed = line_post parts (left ∷ right ∷ []) into (line_of_compute parts op left right size signed)

abbrev pub convert_post : Parts → ℕ → ℕ → ℕ → Bool → Posted
convert_post parts into from size signed = line_post parts (from ∷ []) into (line_of_convert parts from size signed)

abbrev pub input_post : Parts → ℕ → ℕ → Bool → Posted
input_post parts into size truth = line_post parts [] into (input_line size truth)
