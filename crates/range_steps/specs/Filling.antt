-- A fill of bytes with one number, as `memset` does it (C11 7.24.6.1).
use Rattle.std.specs.Prelude.{◌≡◌, ℕ, zero, suc, ◌%◌, Bool, true, false, List, [], ◌∷◌, replicate, nat_eq, Option, None, Some, if◌then◌else◌}
use Rattle.bytes_core.specs.declared.word.Word.{Word}
use Rattle.bytes_core.specs.Access.{range_fault, filled}
use Rattle.bytes_core.specs.Value.{address_number}
use Rattle.graph.specs.declared.object.Object.{Object}
use Rattle.graph.specs.declared.value.Value.{Value}
use Rattle.graph.specs.declared.value.Value.TheVariants.{Const, Number, Any, Address}
use Rattle.graph.specs.declared.parts.Parts.{Parts}
use Rattle.graph.specs.Maps.{value_at, held_by}
use Rattle.graph.specs.State.{State}
use Rattle.changes.specs.Parts.{emptied, with_object, without_registers}
use Rattle.changes.specs.Posted.{Posted, no_post, on_held, on_reach}
use Rattle.changes.specs.Ranges.{with_range, cuts_none}
use Rattle.changes.specs.Reaching.{reach_of}
use Rattle.changes.specs.Following.{Leaves}

-- the lowest byte of what the register `from` holds fills so many bytes where the register `at` leads
pub record Fills (at from length : ℕ) (state next : State) : Type 0 where
  pub to : Word
  pub word : Word
  pub address : state.registers at ≡ Some to
  pub value : state.registers from ≡ Some word
  pub room : range_fault state.memory to length ≡ None
  pub leaves : Leaves (filled state.memory to (address_number state.memory word % 256) length) (emptied (at ∷ from ∷ []) state.registers) state next

pub record FaultsFilling (at from length kind : ℕ) (state : State) : Type 0 where
  pub to : Word
  pub word : Word
  pub address : state.registers at ≡ Some to
  pub value : state.registers from ≡ Some word
  pub fault : range_fault state.memory to length ≡ Some kind

-- the value is a constant whose lowest byte is 0
abbrev pub fills_zeros : Value → Bool
fills_zeros (Const number size) = nat_eq (number % 256) 0
fills_zeros (Number size) = false
fills_zeros Any = false
fills_zeros (Address object offset target) = false

-- zeros have class 0, and other bytes that are filled in class 1
abbrev pub class_filled : Bool → ℕ
class_filled zeros = if zeros then 0 else 1

-- where an edge is cut that is loss 3; and that bytes that are not 0 are one and the same is loss 6
abbrev pub loss_filled : Bool → Bool → Option ℕ
loss_filled false zeros = Some 3
loss_filled true false = Some 6
loss_filled true true = None

abbrev pub bytes_filled : Parts → List ℕ → ℕ → Bool → ℕ → Object → ℕ → Posted
bytes_filled parts gone length zeros key object from = record {
  graphs = without_registers gone (with_object key (with_range object from length [] (replicate length (class_filled zeros))) parts) ∷ [];
  kinds = [];
  loss = loss_filled (cuts_none from length object.edges) zeros;
}

abbrev pub fill_through : Parts → List ℕ → ℕ → ℕ → Option Value → Posted
fill_through parts gone length target None = no_post
fill_through parts gone length target (Some value) = on_reach parts (reach_of parts target length) (bytes_filled parts gone length (fills_zeros value))

-- a fill of no bytes is no access
abbrev pub filled_by : Parts → List ℕ → ℕ → ℕ → Option Value → Posted
filled_by parts gone zero target value = record { graphs = without_registers gone parts ∷ []; kinds = []; loss = None }
filled_by parts gone (suc more) target value = fill_through parts gone (suc more) target value

abbrev pub fill_post : Parts → ℕ → ℕ → ℕ → Posted
fill_post parts at from length =
    on_held (held_by parts.registers at) (λ target. on_held (held_by parts.registers from) (λ source.
    filled_by parts (at ∷ from ∷ []) length target (value_at parts.values source)))
