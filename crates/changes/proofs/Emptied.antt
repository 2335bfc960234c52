-- Registers that are emptied, there and back.
use Rattle.std.proofs.Common.{◌≡◌, ℕ, ◌<◌, Bool, true, false, List, length, Option, None, Some, refl, sym, ap, ◌∙◌, subst}
use Rattle.std.specs.Prelude.{IsSome, option_map, if◌then◌else◌}
use Rattle.std.specs.List.{All}
use Rattle.std.proofs.lemmas.Option.{same_Some, none-some}
use Rattle.bytes_core.specs.declared.block.Block.{Block}
use Rattle.bytes_core.specs.declared.word.Word.{Word}
use Rattle.bytes_core.specs.Valid.{IsMemory}
use Rattle.graph.specs.declared.parts.Parts.{Parts}
use Rattle.graph.specs.Maps.{value_at, held_by}
use Rattle.graph.specs.State.{State, IsState, IsWordBelow, IsByte, IsLedTo}
use Rattle.graph.specs.Meaning.{Assignment, Meets, maps_of}
use Rattle.graph.specs.Whole.{IsGraph}
use Rattle.graph.proofs.Closed.{closed_of}
use Rattle.changes.specs.Parts.{is_among, emptied, without_registers}
use Rattle.changes.specs.Following.{Leaves}
use Rattle.changes.proofs.Below.{AreThere, word_below}
use Rattle.changes.proofs.RegisterForm.{graph_without}
use Rattle.changes.proofs.RegistersChanged.{AgreeButHeld, AgreeButRegisters-back, registers_changed, held_without, without_agrees, emptied-words}

-- a state whose registers hold other words, or nothing
abbrev pub with_held : (ℕ → Option Word) → State → State
with_held held state = record state { registers = held }

-- the states of a step that changes registers alone
pub leaves_agrees : (held : ℕ → Option Word) (state next : State) → Leaves state.memory held state next → AgreeButHeld state next
leaves_agrees held state next leaves = record { memory = leaves.memory; variables = leaves.variables; ports = leaves.ports; roots = leaves.roots }

-- such a step leaves a state, where the registers hold words of it
pub leaves_state : (held : ℕ → Option Word) (state next : State) → IsState state → Leaves state.memory held state next →
    ((register : ℕ) (word : Word) → held register ≡ Some word → IsWordBelow (length state.memory) word) → IsState next
leaves_state held state next is leaves below = record {
  memory = subst IsMemory (sym leaves.memory) is.memory;
  bytes = subst (λ (memory : List Block). All (λ block. All IsByte block.bytes) memory) (sym leaves.memory) is.bytes;
  variables = λ variable number stands. subst (λ (memory : List Block). number < length memory) (sym leaves.memory) (is.variables variable number (sym (leaves.variables variable) ∙ stands));
  registers = λ register word stands. subst (λ (memory : List Block). IsWordBelow (length memory) word) (sym leaves.memory) (below register word (sym (leaves.registers register) ∙ stands));
  ports = subst (λ (ports : List Word). All (IsWordBelow (length next.memory)) ports) (sym leaves.ports)
      (subst (λ (memory : List Block). All (IsWordBelow (length memory)) state.ports) (sym leaves.memory) is.ports);
  roots = subst (λ (roots : List ℕ). All (IsLedTo next.ports) roots) (sym leaves.roots) (subst (λ (ports : List Word). All (IsLedTo ports) state.roots) (sym leaves.ports) is.roots);
}

-- what holds of the state behind where registers held words of values, and other words stand in other registers
pub held_state : (parts : Parts) (state : State) (given : Assignment) → IsGraph parts → IsState state → Meets (maps_of parts) state given → AreThere parts state given → (held : ℕ → Option ℕ) →
    ((register value : ℕ) → held register ≡ Some value → IsSome (value_at parts.values value)) → IsState (with_held (λ register. option_map given.word (held register)) state)
held_state parts state given graph is meets there held some = record {
  memory = is.memory;
  bytes = is.bytes;
  variables = is.variables;
  registers = λ register word stands. by_value register word (held register) refl stands;
  ports = is.ports;
  roots = is.roots;
}
  where
    by_value : (register : ℕ) (word : Word) (found : Option ℕ) → held register ≡ found → option_map given.word found ≡ Some word → IsWordBelow (length state.memory) word
    by_value register word None found stands = absurd (none-some word stands)
    by_value register word (Some value) found stands =
        subst (λ (w : Word). IsWordBelow (length state.memory) w) (same_Some (given.word value) word stands) (word_below parts state given graph.well_formed meets there value (some register value found))

-- Emptied registers.

module _ (gone : List ℕ) (parts : Parts) (graph : IsGraph parts) where
  abbrev behind : Parts
  behind = without_registers gone parts

  pub emptied_meets : (state next : State) (given : Assignment) → Leaves state.memory (emptied gone state.registers) state next → Meets (maps_of parts) state given → Meets (maps_of behind) next given
  emptied_meets state next given leaves meets =
      registers_changed (maps_of parts) (maps_of behind) state next given (without_agrees gone parts) (leaves_agrees (emptied gone state.registers) state next leaves)
      (λ register. leaves.registers register
      ∙ emptied-words given.word gone (held_by parts.registers) state.registers register (meets.registers register)
      ∙ ap (option_map given.word) (sym (held_without gone parts register)))
      meets

  pub emptied_state : (state next : State) → IsState state → Leaves state.memory (emptied gone state.registers) state next → IsState next
  emptied_state state next is leaves = leaves_state (emptied gone state.registers) state next is leaves (λ register word stands. by_test register word (is_among gone register) stands)
    where
      by_test : (register : ℕ) (word : Word) (b : Bool) → (if b then None else state.registers register) ≡ Some word → IsWordBelow (length state.memory) word
      by_test register word true stands = absurd (none-some word stands)
      by_test register word false stands = is.registers register word stands

  -- the state before, of which all words are there
  abbrev pub before : Assignment → State → State
  before given next = with_held (λ register. option_map given.word (held_by parts.registers register)) next

  pub before_meets : (next : State) (given : Assignment) → Meets (maps_of behind) next given → Meets (maps_of parts) (before given next) given
  before_meets next given meets =
      registers_changed (maps_of behind) (maps_of parts) next (before given next) given (AgreeButRegisters-back (maps_of parts) (maps_of behind) (without_agrees gone parts))
      (record { memory = refl; variables = λ at. refl; ports = refl; roots = refl }) (λ register. refl) meets

  pub before_state : (next : State) (given : Assignment) → IsState next → Meets (maps_of behind) next given → AreThere behind next given → IsState (before given next)
  before_state next given is meets there =
      held_state behind next given (graph_without gone parts graph) is meets there (held_by parts.registers) (λ register value held. (closed_of parts graph.well_formed).registers register value held)

  pub before_leaves : (next : State) (given : Assignment) → Meets (maps_of behind) next given → Leaves (before given next).memory (emptied gone (before given next).registers) (before given next) next
  before_leaves next given meets = record {
    memory = refl;
    registers = λ register. meets.registers register ∙ ap (option_map given.word) (held_without gone parts register)
        ∙ sym (emptied-words given.word gone (held_by parts.registers) (before given next).registers register refl);
    variables = λ variable. refl;
    ports = refl;
    roots = refl;
  }
