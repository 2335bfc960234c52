-- The instructions that touch registers alone, on a graph that shows a state.
use Rattle.std.proofs.Common.{◌≡◌, ℕ, Bool, true, false, ◌||◌, [], ◌∷◌, ℤ, nat_eq, Option, None, Some, refl, sym, subst}
use Rattle.std.specs.Prelude.{if◌then◌else◌}
use Rattle.std.proofs.lemmas.Bool.{false≢true}
use Rattle.arithmetic.specs.declared.op.Op.{Op}
use Rattle.arithmetic.specs.Computing.{computed}
use Rattle.arithmetic.specs.Conversion.{converted}
use Rattle.graph.specs.declared.parts.Parts.{Parts}
use Rattle.graph.specs.declared.value.Value.{Value}
use Rattle.graph.specs.declared.value.Value.TheVariants.{Const, Number as NumberValue, Any, Address as AddressValue}
use Rattle.graph.specs.Maps.{storage_of}
use Rattle.graph.specs.WellFormed.{passes_at}
use Rattle.flow.specs.declared.instruction.Instr.TheVariants.{Number, Address, Move, Shift, ShiftBy, Compute, Convert, Input}
use Rattle.register_steps.specs.Gaining.{size_held}
use Rattle.register_steps.specs.Lines.{nothing, kept, exactly, number_line, address_line, shifted, shifted_by, size_given, of_constants, computed_line, converted_line, input_line}
use Rattle.register_steps.specs.States.{GivesNumber, GivesAddress, GivesHeld, GivesShifted, GivesShiftedBy, GivesComputed, GivesConverted, GivesInput, Gains}
use Rattle.register_steps.specs.Steps.{entry_held, on_held, line_of_address, line_of_move, line_of_shift, line_of_shift_by, line_of_compute, line_of_convert}
use Rattle.register_steps.proofs.Simple.{number_right, address_right, move_right, input_right}
use Rattle.register_steps.proofs.Shifted.{shift_right, shift_by_right}
use Rattle.register_steps.proofs.Computed.{compute_right, convert_right}
use Rattle.plain.specs.Shown.{is_sure, IsPlainPost}
use Rattle.plain.specs.Laws.{GoesPlainly}
use Rattle.transfer.proofs.Ready.{size_stands}
use Rattle.plain.proofs.Registers.{gained_marks, IsSureLine, line_plain}
use Rattle.plain.proofs.Operands.{is_const, on_entry, sure_at, sure_value, number_value}

-- Constants, addresses of variables, moves and values from outside.

pub number_plain : (into number size : ℕ) → GoesPlainly (Number into number size)
number_plain into number size flow point parts post state marks step =
    line_plain parts step.graph state marks [] into false (GivesNumber number) size (number_line number size) post step.is step.shown (number_right parts number size step.may.sizes) (record { loss = refl; shows = refl }) step.posted

nothing_sure : (parts : Parts) → IsSureLine parts false nothing
nothing_sure parts = record { loss = refl; shows = refl }

address_sure : (parts : Parts) (found : Option ℕ) → IsSureLine parts false (address_line found)
address_sure parts None = nothing_sure parts
address_sure parts (Some object) = record { loss = refl; shows = refl }

pub address_plain : (into variable : ℕ) → GoesPlainly (Address into variable)
address_plain into variable flow point parts post state marks step =
    line_plain parts step.graph state marks [] into false (GivesAddress variable) 8 (line_of_address parts variable) post step.is step.shown (address_right parts variable step.graph) (address_sure parts (storage_of parts.variables variable)) step.posted

pub move_plain : (into from : ℕ) → GoesPlainly (Move into from)
move_plain into from flow point parts post state marks step =
    line_plain parts step.graph state marks [] into false (GivesHeld from) (size_held parts from) (line_of_move parts from) post step.is step.shown (move_right parts from step.graph)
    (on_entry parts from (IsSureLine parts false) (λ entry. kept entry.key) (nothing_sure parts) (λ entry found. record { loss = refl; shows = sure_at parts state marks step.shown.given step.shown.by from entry.key step.plain found.held }))
    step.posted

input_told : (parts : Parts) (size : ℕ) (truth : Bool) → (truth ≡ false) × ((nat_eq size 4 || nat_eq size 8) ≡ true) → IsSureLine parts true (input_line size truth)
input_told parts size true (plain, sized) = absurd (false≢true (sym plain))
input_told parts size false (plain, sized) = record { loss = refl; shows = sized }

pub input_plain : (into size : ℕ) (signed truth : Bool) → GoesPlainly (Input into size signed truth)
input_plain into size signed truth flow point parts post state marks step =
    line_plain parts step.graph state marks [] into true (GivesInput size truth) size (input_line size truth) post step.is step.shown (input_right parts size truth step.may.sizes) (input_told parts size truth step.plain) step.posted

-- Words that are moved.

shifted_sure : (parts : Parts) (value : Value) (by : ℤ) → is_sure value ≡ true → IsSureLine parts false (shifted value by)
shifted_sure parts (Const number size) by sure = record { loss = refl; shows = refl }
shifted_sure parts (NumberValue size) by sure = absurd (false≢true sure)
shifted_sure parts Any by sure = absurd (false≢true sure)
shifted_sure parts (AddressValue object offset target) by sure = record { loss = refl; shows = refl }

pub shift_plain : (into at : ℕ) (by : ℤ) → GoesPlainly (Shift into at by)
shift_plain into at by flow point parts post state marks step =
    line_plain parts step.graph state marks (at ∷ []) into false (GivesShifted at by) 8 (line_of_shift parts at by) post step.is step.shown (shift_right parts step.graph at by)
    (on_entry parts at (IsSureLine parts false) (λ entry. shifted entry.value by) (nothing_sure parts)
    (λ entry found. shifted_sure parts entry.value by (sure_value parts state marks step.shown.given step.shown.by at entry.key entry.value step.plain found.held found.is)))
    step.posted

shifted_by_sure : (parts : Parts) (value by : Value) (scale : ℤ) → is_sure value ≡ true → is_const by ≡ true → IsSureLine parts false (shifted_by value by scale)
shifted_by_sure parts value (Const number size) scale sure const = shifted_sure parts value _ sure
shifted_by_sure parts value (NumberValue size) scale sure const = absurd (false≢true const)
shifted_by_sure parts value Any scale sure const = absurd (false≢true const)
shifted_by_sure parts value (AddressValue object offset target) scale sure const = absurd (false≢true const)

pub shift_by_plain : (into at by : ℕ) (scale : ℤ) → GoesPlainly (ShiftBy into at by scale)
shift_by_plain into at by scale flow point parts post state marks step =
    line_plain parts step.graph state marks (at ∷ by ∷ []) into false (GivesShiftedBy at by scale) 8 (line_of_shift_by parts at by scale) post step.is step.shown (shift_by_right parts step.graph at by scale)
    (on_entry parts at (IsSureLine parts false) (λ entry. on_held (entry_held parts by) (λ number. shifted_by entry.value number.value scale)) (nothing_sure parts)
    (λ entry found. on_entry parts by (IsSureLine parts false) (λ number. shifted_by entry.value number.value scale) (nothing_sure parts)
    (λ number found'. shifted_by_sure parts entry.value number.value scale (sure_value parts state marks step.shown.given step.shown.by at entry.key entry.value step.plain.0 found.held found.is)
    (number_value parts state marks step.shown.given step.shown.by flow point step.fits step.graph by number.key number.value step.plain.1 found'.held found'.is))))
    step.posted

-- Operations and conversions.

constants_sure : (parts : Parts) (size : ℕ) (found : Option ℕ) → IsSureLine parts false (of_constants size found)
constants_sure parts size None = nothing_sure parts
constants_sure parts size (Some number) = record { loss = refl; shows = refl }

computed_sure : (parts : Parts) (op : Op) (size : ℕ) (signed : Bool) (one other : Value) → is_const one ≡ true → is_const other ≡ true → IsSureLine parts false (computed_line op size signed one other)
computed_sure parts op size signed (Const one one_size) (Const other other_size) const const' = constants_sure parts (size_given op size) (computed op size signed one other)
computed_sure parts op size signed (Const one one_size) (NumberValue other_size) const const' = absurd (false≢true const')
computed_sure parts op size signed (Const one one_size) Any const const' = absurd (false≢true const')
computed_sure parts op size signed (Const one one_size) (AddressValue object offset target) const const' = absurd (false≢true const')
computed_sure parts op size signed (NumberValue one_size) other const const' = absurd (false≢true const)
computed_sure parts op size signed Any other const const' = absurd (false≢true const)
computed_sure parts op size signed (AddressValue object offset target) other const const' = absurd (false≢true const)

pub compute_plain : (into : ℕ) (op : Op) (one other size : ℕ) (signed : Bool) → GoesPlainly (Compute into op one other size signed)
compute_plain into op one other size signed flow point parts post state marks step =
    line_plain parts step.graph state marks (one ∷ other ∷ []) into false (GivesComputed op one other size signed) (size_given op size) (line_of_compute parts op one other size signed) post step.is step.shown
    (compute_right parts step.graph op one other size signed step.may.sizes)
    (on_entry parts one (IsSureLine parts false) (λ entry. on_held (entry_held parts other) (λ second. computed_line op size signed entry.value second.value)) (nothing_sure parts)
    (λ entry found. on_entry parts other (IsSureLine parts false) (λ second. computed_line op size signed entry.value second.value) (nothing_sure parts)
    (λ second found'. computed_sure parts op size signed entry.value second.value
    (number_value parts state marks step.shown.given step.shown.by flow point step.fits step.graph one entry.key entry.value step.plain.0 found.held found.is)
    (number_value parts state marks step.shown.given step.shown.by flow point step.fits step.graph other second.key second.value step.plain.1 found'.held found'.is))))
    step.posted

converted_sure : (parts : Parts) (key : ℕ) (value : Value) (size : ℕ) (signed : Bool) → passes_at parts is_sure key ≡ true → is_const value ≡ true → IsSureLine parts false (converted_line key value size signed)
converted_sure parts key (Const number from) size signed sure const = by_size (nat_eq from size)
  where
    by_size : (b : Bool) → IsSureLine parts false (if b then kept key else exactly (Const (converted from signed size number) size))
    by_size true = record { loss = refl; shows = sure }
    by_size false = record { loss = refl; shows = refl }
converted_sure parts key (NumberValue from) size signed sure const = absurd (false≢true const)
converted_sure parts key Any size signed sure const = absurd (false≢true const)
converted_sure parts key (AddressValue object offset target) size signed sure const = absurd (false≢true const)

pub convert_plain : (into from size : ℕ) (signed : Bool) → GoesPlainly (Convert into from size signed)
convert_plain into from size signed flow point parts post state marks step =
    subst (λ (was : ℕ). IsPlainPost (Gains (from ∷ []) into (GivesConverted from was size signed)) state (gained_marks (from ∷ []) into false marks) post) (size_stands flow point parts step.may.fits step.graph from)
    (line_plain parts step.graph state marks (from ∷ []) into false (GivesConverted from (size_held parts from) size signed) size (line_of_convert parts from size signed) post step.is step.shown
    (convert_right parts step.graph from size signed step.may.sizes)
    (on_entry parts from (IsSureLine parts false) (λ entry. converted_line entry.key entry.value size signed) (nothing_sure parts)
    (λ entry found. converted_sure parts entry.key entry.value size signed (sure_at parts state marks step.shown.given step.shown.by from entry.key step.plain.known found.held)
    (number_value parts state marks step.shown.given step.shown.by flow point step.fits step.graph from entry.key entry.value step.plain found.held found.is)))
    step.posted)
