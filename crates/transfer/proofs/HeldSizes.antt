-- The sizes of what registers hold, where registers are emptied, filled, or hold other values of the same sizes.
use Rattle.std.proofs.Common.{◌≡◌, ◌≢◌, ℕ, Bool, true, false, List, nat_eq, Option, None, Some, refl, sym, ◌∙◌, ap, eqb-true, eq-eqb}
use Rattle.std.specs.Prelude.{IsSome, option_map, if◌then◌else◌}
use Rattle.std.specs.Option.{option_and_then}
use Rattle.std.proofs.lemmas.Bool.{false≢true}
use Rattle.graph.specs.declared.parts.Parts.{Parts}
use Rattle.graph.specs.declared.value.Value.{Value}
use Rattle.graph.specs.Maps.{value_at, held_by}
use Rattle.graph.specs.Sizes.{value_size}
use Rattle.graph.specs.Whole.{IsGraph}
use Rattle.graph.proofs.Found.{IsSome-holds}
use Rattle.changes.specs.Parts.{emptied, is_among}
use Rattle.changes.proofs.Held.{held_value}
use Rattle.flow.specs.declared.flow_graph.Width.{Width}
use Rattle.flow.specs.Holding.{size_of, put_width, emptied_widths}
use Rattle.transfer.specs.Fitting.{held_size}
use Rattle.transfer.proofs.Widths.{size_emptied, size_put}

-- the size of the value with a key
abbrev pub size_at : Parts → ℕ → Option ℕ
size_at parts key = option_map value_size (value_at parts.values key)

module _ (parts after : Parts) (graph : IsGraph parts) (gone : List ℕ) where
  -- each value that is held keeps its size, under its key or another one
  mapped_held : (key_of : ℕ → ℕ) → ((key : ℕ) → IsSome (value_at parts.values key) → size_at after (key_of key) ≡ size_at parts key) → (register : ℕ) →
      held_by after.registers register ≡ option_map key_of (emptied gone (held_by parts.registers) register) → held_size after register ≡ (if is_among gone register then None else held_size parts register)
  mapped_held key_of sizes register is = ap (option_and_then (size_at after)) is ∙ by_test (is_among gone register)
    where
      by_held : (found : Option ℕ) → held_by parts.registers register ≡ found → option_and_then (size_at after) (option_map key_of found) ≡ option_and_then (size_at parts) found
      by_held None held = refl
      by_held (Some key) held = let value = held_value parts register key graph.well_formed held in sizes key (IsSome-holds _ _ value.is)

      by_test : (b : Bool) → option_and_then (size_at after) (option_map key_of (if b then None else held_by parts.registers register)) ≡ (if b then None else held_size parts register)
      by_test true = refl
      by_test false = by_held (held_by parts.registers register) refl

  id_map : (found : Option ℕ) → option_map (λ key. key) found ≡ found
  id_map None = refl
  id_map (Some key) = refl

  -- the registers that are emptied hold nothing, and others what they held
  pub emptied_held : ((key : ℕ) → IsSome (value_at parts.values key) → value_at after.values key ≡ value_at parts.values key) → (register : ℕ) →
      held_by after.registers register ≡ emptied gone (held_by parts.registers) register → held_size after register ≡ (if is_among gone register then None else held_size parts register)
  emptied_held values register is = mapped_held (λ key. key) (λ key some. ap (option_map value_size) (values key some)) register (is ∙ sym (id_map (emptied gone (held_by parts.registers) register)))

  module _ (widths : List Width) (fits : (register : ℕ) → held_size parts register ≡ size_of widths register) where
    behind : (register : ℕ) → held_size after register ≡ (if is_among gone register then None else held_size parts register) → held_size after register ≡ size_of (emptied_widths gone widths) register
    behind register is = is ∙ ap (λ (o : Option ℕ). if is_among gone register then None else o) (fits register) ∙ sym (size_emptied gone widths register)

    pub mapped_fit : (key_of : ℕ → ℕ) → ((key : ℕ) → IsSome (value_at parts.values key) → size_at after (key_of key) ≡ size_at parts key) →
        ((register : ℕ) → held_by after.registers register ≡ option_map key_of (emptied gone (held_by parts.registers) register)) → (register : ℕ) → held_size after register ≡ size_of (emptied_widths gone widths) register
    mapped_fit key_of sizes held register = behind register (mapped_held key_of sizes register (held register))

    pub emptied_fit : ((key : ℕ) → IsSome (value_at parts.values key) → value_at after.values key ≡ value_at parts.values key) →
        ((register : ℕ) → held_by after.registers register ≡ emptied gone (held_by parts.registers) register) → (register : ℕ) → held_size after register ≡ size_of (emptied_widths gone widths) register
    emptied_fit values held register = behind register (emptied_held values register (held register))

    -- one register is filled
    pub filled_fit : (into size key : ℕ) (value : Value) → ((key : ℕ) → IsSome (value_at parts.values key) → value_at after.values key ≡ value_at parts.values key) →
        ((register : ℕ) → register ≢ into → held_by after.registers register ≡ emptied gone (held_by parts.registers) register) →
        held_by after.registers into ≡ Some key → value_at after.values key ≡ Some value → value_size value ≡ size → (register : ℕ) →
        held_size after register ≡ size_of (put_width (record { register = into; size = size }) (emptied_widths gone widths)) register
    filled_fit into size key value values held here is size_is register =
        by_key (nat_eq register into) refl ∙ sym (size_put (record { register = into; size = size }) (emptied_widths gone widths) register)
      where
        by_key : (b : Bool) → nat_eq register into ≡ b → held_size after register ≡ (if b then Some size else size_of (emptied_widths gone widths) register)
        by_key true same =
            ap (held_size after) (eqb-true _ _ same) ∙ ap (option_and_then (size_at after)) here ∙ ap (option_map value_size) is ∙ ap Some size_is
        by_key false differ = behind register (emptied_held values register (held register (λ same. false≢true (sym differ ∙ eq-eqb register into same))))
