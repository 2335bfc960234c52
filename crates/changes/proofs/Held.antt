-- What registers hold in a graph and in a state; and the state in which registers hold what they held before a step emptied them.
use Rattle.std.proofs.Common.{◌≡◌, ℕ, true, false, ◌&&◌, length, nat_eq, Option, None, Some, refl, sym, ◌∙◌, ap, subst, eqb-true}
use Rattle.std.specs.Prelude.{IsSome, option_map}
use Rattle.std.specs.Option.{option_map_or}
use Rattle.std.proofs.lemmas.Bool.{false≢true}
use Rattle.std.proofs.lemmas.Option.{same_Some, none-some}
use Rattle.bytes_core.specs.declared.word.Word.{Word}
use Rattle.graph.specs.declared.parts.Held.{Held}
use Rattle.graph.specs.declared.parts.Parts.{Parts}
use Rattle.graph.specs.declared.value.Value.{Value}
use Rattle.graph.specs.Maps.{value_at, held_by}
use Rattle.graph.specs.Sizes.{value_size}
use Rattle.graph.specs.State.{State, IsWordBelow, IsState}
use Rattle.graph.specs.WellFormed.{IsWellFormed, passes_at, may_be_held}
use Rattle.graph.specs.Meaning.{maps_of, Assignment, Meets}
use Rattle.graph.proofs.Found.{Holds-some, found-all}
use Rattle.graph.proofs.Sent.{passes-some}
use Rattle.graph.proofs.Tests.{and_left, and_right}
use Rattle.changes.specs.Reaching.{names_no_segment, is_address_held}
use Rattle.changes.proofs.Below.{AreThere, word_below}
use Rattle.changes.proofs.RegistersChanged.{AgreeButRegisters, AgreeButRegisters-back, registers_changed}

-- the value of what a register holds
pub record IsHeldValue (parts : Parts) (key : ℕ) : Type 0 where
  pub value : Value
  pub is : value_at parts.values key ≡ Some value
  pub held : may_be_held value ≡ true

pub held_value : (parts : Parts) (register key : ℕ) → IsWellFormed parts → held_by parts.registers register ≡ Some key → IsHeldValue parts key
held_value parts register key form held =
    let passes = found-all (λ (held : Held). held.register) (λ held. held.value) (passes_at parts may_be_held) parts.registers register key form.registers_hold_values held in
    let found = Holds-some (value_at parts.values key) (passes-some may_be_held (value_at parts.values key) passes) in
    record { value = found.item; is = found.is; held = subst (λ (o : Option Value). option_map_or may_be_held o false ≡ true) found.is passes }

-- a register that holds a word holds a value with that word
pub record IsHeldAs (parts : Parts) (given : Assignment) (register : ℕ) (word : Word) : Type 0 where
  pub key : ℕ
  pub held : held_by parts.registers register ≡ Some key
  pub word_is : given.word key ≡ word

pub held_as : (parts : Parts) (state : State) (given : Assignment) (register : ℕ) (word : Word) → Meets (maps_of parts) state given → state.registers register ≡ Some word → IsHeldAs parts given register word
held_as parts state given register word meets is = by_held (held_by parts.registers register) refl (sym (meets.registers register) ∙ is)
  where
    by_held : (found : Option ℕ) → held_by parts.registers register ≡ found → option_map given.word found ≡ Some word → IsHeldAs parts given register word
    by_held None held mapped = absurd (none-some _ mapped)
    by_held (Some key) held mapped = record { key = key; held = held; word_is = same_Some _ _ mapped }

-- what is known of an address register
pub record IsAddress (parts : Parts) (key : ℕ) : Type 0 where
  pub value : Value
  pub is : value_at parts.values key ≡ Some value
  pub size : value_size value ≡ 8
  pub names : names_no_segment value ≡ true

pub address_at : (parts : Parts) (register key : ℕ) → held_by parts.registers register ≡ Some key → is_address_held parts register ≡ true → IsAddress parts key
address_at parts register key held address =
    let passes = sym (ap (λ (o : Option ℕ). option_map_or (passes_at parts (λ value. nat_eq (value_size value) 8 && names_no_segment value)) o false) held) ∙ address in
    let found = Holds-some (value_at parts.values key) (passes-some (λ value. nat_eq (value_size value) 8 && names_no_segment value) (value_at parts.values key) passes) in
    let both = subst (λ (o : Option Value). option_map_or (λ value. nat_eq (value_size value) 8 && names_no_segment value) o false ≡ true) found.is passes in
    record { value = found.item; is = found.is; size = eqb-true _ _ (and_left (nat_eq (value_size found.item) 8) (names_no_segment found.item) both); names = and_right (nat_eq (value_size found.item) 8) (names_no_segment found.item) both }

-- a register of which this is known holds something
pub address_held : (parts : Parts) (register : ℕ) → is_address_held parts register ≡ true → (key : ℕ) × (held_by parts.registers register ≡ Some key)
address_held parts register address = by_held (held_by parts.registers register) refl address
  where
    by_held : (found : Option ℕ) → held_by parts.registers register ≡ found → option_map_or (passes_at parts (λ value. nat_eq (value_size value) 8 && names_no_segment value)) found false ≡ true →
        (key : ℕ) × (held_by parts.registers register ≡ Some key)
    by_held None held address = absurd (false≢true address)
    by_held (Some key) held address = (key, held)

-- other registers
abbrev pub with_held : State → (ℕ → Option Word) → State
with_held state registers = record state { registers = registers }

module _ (one other : Parts) (form : IsWellFormed one) (next : State) (given : Assignment) (graphs : AgreeButRegisters (maps_of one) (maps_of other)) (meets : Meets (maps_of other) next given) where
  -- the state in which registers hold what the graph before says
  abbrev pub state_held : State
  state_held = with_held next (λ register. option_map given.word (held_by one.registers register))

  pub held_meets : Meets (maps_of one) state_held given
  held_meets = registers_changed (maps_of other) (maps_of one) next state_held given (AgreeButRegisters-back (maps_of one) (maps_of other) graphs)
      (record { memory = refl; variables = λ at. refl; ports = refl; roots = refl }) (λ register. refl) meets

  pub held_state : IsState next → AreThere one next given → IsState state_held
  held_state is there = record {
    memory = is.memory;
    bytes = is.bytes;
    variables = is.variables;
    registers = λ register word held. by_held register word (held_by one.registers register) refl held;
    ports = is.ports;
    roots = is.roots;
  }
    where
      by_held : (register : ℕ) (word : Word) (found : Option ℕ) → held_by one.registers register ≡ found → option_map given.word found ≡ Some word → IsWordBelow (length next.memory) word
      by_held register word None stands mapped = absurd (none-some word mapped)
      by_held register word (Some key) stands mapped =
          let value = held_value one register key form stands in
          subst (λ (w : Word). IsWordBelow (length next.memory) w) (same_Some _ _ mapped)
          (word_below one state_held given form held_meets there key (subst (λ (o : Option Value). IsSome o) (sym value.is) refl))
