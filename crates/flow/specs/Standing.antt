-- What stands at the points of a flow graph: which registers an instruction reads, and what stands behind it.
use Rattle.std.specs.Prelude.{ℕ, Bool, true, false, List, [], ◌∷◌, map, nat_eq, Option, None, Some, slice_get, if◌then◌else◌}
use Rattle.std.specs.Option.{option_map, option_map_or}
use Rattle.arithmetic.specs.declared.op.Op.{Op}
use Rattle.arithmetic.specs.declared.op.Op.TheVariants.{Left, Right}
use Rattle.flow.specs.declared.instruction.Instr.{Instr}
use Rattle.flow.specs.declared.instruction.Instr.TheVariants.{Number, Address, Move, Read, Write, Shift, ShiftBy, Compute, Convert, IfSame, IfDifferent, Allocate, AllocateNone, Release, Fill, Copy, Enter, Leave, Finish, Input, Call, Return, Close}
use Rattle.flow.specs.declared.flow_graph.Flow.{Flow}
use Rattle.flow.specs.declared.flow_graph.Standing.{Standing}
use Rattle.flow.specs.declared.flow_graph.Width.{Width}
use Rattle.flow.specs.Holding.{size_of, put_width, emptied_widths, put_variable, left_variables}
use Rattle.flow.specs.Machine.{size_in, size_after}
use Rattle.flow.specs.Runs.{parameters_of}

-- a register that is read, and the size that is asked for, if one is
pub record Asked : Type 0 where
  pub register : ℕ
  pub size : Option ℕ

abbrev pub any : ℕ → Asked
any register = record { register = register; size = None }

abbrev pub sized : ℕ → ℕ → Asked
sized size register = record { register = register; size = Some size }

-- whether an operation shifts
abbrev pub shifts : Op → Bool
shifts Left = true
shifts Right = true
shifts other = false

-- the arguments of a call are asked for in the sizes of the parameters
abbrev pub arguments_asked : Flow → List ℕ → List ℕ → List Asked
arguments_asked flow (argument ∷ arguments) (variable ∷ variables) =
    sized (size_in flow variable) argument ∷ arguments_asked flow arguments variables
arguments_asked flow arguments variables = []

-- the registers that an instruction reads; an address has 8 bytes
abbrev pub asked_by : Flow → Instr → List Asked
asked_by flow (Number into number size) = []
asked_by flow (Address into variable) = []
asked_by flow (Move into from) = any from ∷ []
asked_by flow (Read into at size pointer) = sized 8 at ∷ []
asked_by flow (Write at from size) = sized 8 at ∷ sized size from ∷ []
asked_by flow (Shift into at by) = sized 8 at ∷ []
asked_by flow (ShiftBy into at by scale) = sized 8 at ∷ sized 8 by ∷ []
-- the amount of a shift has the size of its own type
asked_by flow (Compute into op one other size signed) =
    sized size one ∷ (if shifts op then any other else sized size other) ∷ []
asked_by flow (Convert into from size signed) = any from ∷ []
asked_by flow (IfSame one other) = any one ∷ any other ∷ []
asked_by flow (IfDifferent one other) = any one ∷ any other ∷ []
asked_by flow (Allocate into bytes zeroed) = []
asked_by flow (AllocateNone into) = []
asked_by flow (Release at) = sized 8 at ∷ []
asked_by flow (Fill at from length) = sized 8 at ∷ any from ∷ []
asked_by flow (Copy to from length disjoint) = sized 8 to ∷ sized 8 from ∷ []
asked_by flow (Enter variables) = []
asked_by flow (Leave variables) = []
asked_by flow (Finish registers) = map any registers
asked_by flow (Input into size signed truth) = []
asked_by flow (Call function arguments into) = arguments_asked flow arguments (parameters_of flow function)
asked_by flow (Return None) = []
asked_by flow (Return (Some from)) = any from ∷ []
asked_by flow Close = []

-- whether a size is one that is asked for
abbrev pub is_asked_size : Option ℕ → ℕ → Bool
is_asked_size None size = true
is_asked_size (Some asked) size = nat_eq asked size

-- whether a register stands in the size that is asked for
abbrev pub stands_as_asked : List Width → Asked → Bool
stands_as_asked widths asked = option_map_or (is_asked_size asked.size) (size_of widths asked.register) false

-- the registers that an instruction empties: those that it reads, but for a move
abbrev pub emptied_by : Flow → Instr → List ℕ
emptied_by flow (Move into from) = []
emptied_by flow instr = map (λ asked. asked.register) (asked_by flow instr)

-- what stands at a point
abbrev pub stands_at : Flow → ℕ → Standing
stands_at flow point = option_map_or (λ standing. standing) (slice_get flow.stands point) (record { variables = []; registers = [] })

-- the size of a function's result: that of the register that stands at its exit
abbrev pub first_size : List Width → Option ℕ
first_size [] = None
first_size (first ∷ rest) = Some first.size

abbrev pub result_size : Flow → ℕ → Option ℕ
result_size flow function =
    option_map_or (λ found. first_size (stands_at flow found.exit).registers) (slice_get flow.functions function) None

-- the register that an instruction fills, and the size of its value
abbrev pub filled_by : Flow → Instr → List Width → Option Width
filled_by flow (Number into number size) widths = Some (record { register = into; size = size })
filled_by flow (Address into variable) widths = Some (record { register = into; size = 8 })
filled_by flow (Move into from) widths = option_map (λ size. record { register = into; size = size }) (size_of widths from)
filled_by flow (Read into at size pointer) widths = Some (record { register = into; size = size })
filled_by flow (Write at from size) widths = None
filled_by flow (Shift into at by) widths = Some (record { register = into; size = 8 })
filled_by flow (ShiftBy into at by scale) widths = Some (record { register = into; size = 8 })
filled_by flow (Compute into op one other size signed) widths = Some (record { register = into; size = size_after op size })
filled_by flow (Convert into from size signed) widths = Some (record { register = into; size = size })
filled_by flow (IfSame one other) widths = None
filled_by flow (IfDifferent one other) widths = None
filled_by flow (Allocate into bytes zeroed) widths = Some (record { register = into; size = 8 })
filled_by flow (AllocateNone into) widths = Some (record { register = into; size = 8 })
filled_by flow (Release at) widths = None
filled_by flow (Fill at from length) widths = None
filled_by flow (Copy to from length disjoint) widths = None
filled_by flow (Enter variables) widths = None
filled_by flow (Leave variables) widths = None
filled_by flow (Finish registers) widths = None
filled_by flow (Input into size signed truth) widths = Some (record { register = into; size = size })
filled_by flow (Call function arguments None) widths = None
filled_by flow (Call function arguments (Some into)) widths =
    option_map (λ size. record { register = into; size = size }) (result_size flow function)
filled_by flow (Return from) widths = None
filled_by flow Close widths = None

-- the registers that stand behind an instruction
abbrev pub with_filled : Option Width → List Width → List Width
with_filled None widths = widths
with_filled (Some new) widths = put_width new widths

abbrev pub registers_after : Flow → Instr → List Width → List Width
registers_after flow instr widths =
    with_filled (filled_by flow instr widths) (emptied_widths (emptied_by flow instr) widths)

-- the variables that stand behind an instruction
abbrev pub with_variables : List ℕ → List ℕ → List ℕ
with_variables [] variables = variables
with_variables (first ∷ rest) variables = with_variables rest (put_variable first variables)

abbrev pub variables_after : Instr → List ℕ → List ℕ
variables_after (Enter entered) variables = with_variables entered variables
variables_after (Leave gone) variables = left_variables gone variables
variables_after instr variables = variables

-- what stands behind an instruction
abbrev pub stands_after : Flow → Instr → Standing → Standing
stands_after flow instr standing = record {
  variables = variables_after instr standing.variables;
  registers = registers_after flow instr standing.registers;
}
