-- A register that gets a value, and others that are emptied: there, and back.
use Rattle.std.proofs.Common.{◌≡◌, ℕ, Bool, true, false, List, Option, Some, nat_eq, refl, sym, ◌∙◌, ap}
use Rattle.std.specs.Prelude.{option_map, if◌then◌else◌}
use Rattle.bytes_core.specs.declared.word.Word.{Word}
use Rattle.graph.specs.declared.parts.Parts.{Parts}
use Rattle.graph.specs.Maps.{held_by}
use Rattle.graph.specs.State.{State}
use Rattle.graph.specs.WellFormed.{IsWellFormed}
use Rattle.graph.specs.Meaning.{maps_of, Assignment, Meets}
use Rattle.changes.specs.Parts.{emptied, put, without_registers}
use Rattle.changes.proofs.Held.{state_held}
use Rattle.changes.proofs.RegistersChanged.{AgreeButRegisters, held_with, held_without, registers_changed, emptied-words, put-words}
use Rattle.reinterpret.specs.Reading.{with_fresh}
use Rattle.changes.specs.Following.{Leaves}

module _ (gone : List ℕ) (into key : ℕ) (parts : Parts) where
  pub into_agrees : AgreeButRegisters (maps_of parts) (maps_of (with_fresh gone into key parts))
  into_agrees = record { objects = λ at. refl; values = λ at. refl; variables = λ at. refl; ports = refl; unequal = refl }

  pub into_held : (register : ℕ) → held_by (with_fresh gone into key parts).registers register ≡ put into key (emptied gone (held_by parts.registers)) register
  into_held register = held_with into key (without_registers gone parts) register ∙ by_test (nat_eq register into)
    where
      by_test : (b : Bool) → (if b then Some key else held_by (without_registers gone parts).registers register) ≡ (if b then Some key else emptied gone (held_by parts.registers) register)
      by_test true = refl
      by_test false = held_without gone parts register

  module _ (given : Assignment) where
    words_then : (words : ℕ → Option Word) (register : ℕ) → words register ≡ option_map given.word (held_by parts.registers register) →
        put into (given.word key) (emptied gone words) register ≡ option_map given.word (held_by (with_fresh gone into key parts).registers register)
    words_then words register same =
        put-words given.word into key (emptied gone (held_by parts.registers)) (emptied gone words) register (emptied-words given.word gone (held_by parts.registers) words register same)
        ∙ ap (option_map given.word) (sym (into_held register))

    -- there
    pub into_meets : (state next : State) → Meets (maps_of parts) state given → Leaves state.memory (put into (given.word key) (emptied gone state.registers)) state next → Meets (maps_of (with_fresh gone into key parts)) next given
    into_meets state next meets leaves =
        registers_changed (maps_of parts) (maps_of (with_fresh gone into key parts)) state next given into_agrees
        (record { memory = leaves.memory; variables = leaves.variables; ports = leaves.ports; roots = leaves.roots })
        (λ register. leaves.registers register ∙ words_then state.registers register (meets.registers register)) meets

    -- and back
    pub into_leaves : (form : IsWellFormed parts) (next : State) (meets : Meets (maps_of (with_fresh gone into key parts)) next given) →
        Leaves next.memory (put into (given.word key) (emptied gone (state_held parts (with_fresh gone into key parts) form next given into_agrees meets).registers)) (state_held parts (with_fresh gone into key parts) form next given into_agrees meets) next
    into_leaves form next meets = record {
      memory = refl;
      registers = λ register. meets.registers register ∙ sym (words_then (state_held parts (with_fresh gone into key parts) form next given into_agrees meets).registers register refl);
      variables = λ variable. refl;
      ports = refl;
      roots = refl;
    }
