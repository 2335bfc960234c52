-- Lines that are right: where a register holds nothing, and by the value that it holds.
use Rattle.std.proofs.Common.{◌≡◌, ℕ, true, Option, None, Some, refl, sym, ◌∙◌, ap, subst}
use Rattle.std.specs.Prelude.{IsSome, option_map}
use Rattle.std.specs.Option.{option_and_then}
use Rattle.std.proofs.lemmas.Bool.{false≢true}
use Rattle.std.proofs.lemmas.Option.{same_Some, none-some}
use Rattle.bytes_core.specs.declared.word.Word.{Word}
use Rattle.graph.specs.declared.parts.KeyedValue.{KeyedValue}
use Rattle.graph.specs.declared.parts.Parts.{Parts}
use Rattle.graph.specs.declared.value.Value.{Value}
use Rattle.graph.specs.Maps.{value_at, held_by}
use Rattle.graph.specs.Sizes.{is_sized}
use Rattle.graph.specs.State.{State, IsState}
use Rattle.graph.specs.WellFormed.{may_be_held}
use Rattle.graph.specs.Whole.{IsGraph}
use Rattle.graph.specs.Meaning.{maps_of, Assignment, Meets}
use Rattle.graph.proofs.Found.{found-all}
use Rattle.changes.proofs.Held.{held_value}
use Rattle.register_steps.specs.declared.line.Line.{Line}
use Rattle.register_steps.specs.Gaining.{may_gain}
use Rattle.register_steps.specs.Lines.{nothing}
use Rattle.register_steps.specs.Steps.{entry_held, on_held}
use Rattle.register_steps.proofs.Gained.{HasGain, GainHasSize, IsRight}

-- a line is right for a word that a state has
pub record IsRightWord (parts : Parts) (gives : State → Assignment → Word) (size : ℕ) (line : Line) : Type 0 where
  pub may : may_gain parts line.gain ≡ true
  pub sized : GainHasSize parts size line.gain
  pub sound : (state : State) (given : Assignment) → IsState state → Meets (maps_of parts) state given → HasGain parts state given line.gain (gives state given)
  pub exact : line.loss ≡ None → (state : State) (given : Assignment) (word : Word) → IsState state → Meets (maps_of parts) state given → HasGain parts state given line.gain word → word ≡ gives state given

pub right_by : (parts : Parts) (gives : State → Assignment → Word) (Gives : State → Word → Type 0) (size : ℕ) (line : Line) → IsRightWord parts gives size line →
    ((state : State) (given : Assignment) (word : Word) → IsState state → Meets (maps_of parts) state given → Gives state word → word ≡ gives state given) →
    ((state : State) (given : Assignment) (word : Word) → IsState state → Meets (maps_of parts) state given → word ≡ gives state given → Gives state word) → IsRight parts Gives size line
right_by parts gives Gives size line right there back = record {
  may = right.may;
  sized = right.sized;
  sound = λ state given word is meets has. subst (λ (w : Word). HasGain parts state given line.gain w) (sym (there state given word is meets has)) (right.sound state given is meets);
  exact = λ none state given word is meets has. back state given word is meets (right.exact none state given word is meets has);
}

pub nothing_right : (parts : Parts) (Gives : State → Word → Type 0) (size : ℕ) →
    ((state : State) (given : Assignment) (word : Word) → IsState state → Meets (maps_of parts) state given → Gives state word → ⊥) → IsRight parts Gives size nothing
nothing_right parts Gives size none = record { may = refl; sized = tt; sound = none; exact = λ lossless state given word is meets has. absurd has }

-- what a register holds
pub record IsEntry (parts : Parts) (register : ℕ) (entry : KeyedValue) : Type 0 where
  pub held : held_by parts.registers register ≡ Some entry.key
  pub is : value_at parts.values entry.key ≡ Some entry.value
  pub may : may_be_held entry.value ≡ true
  pub sized : is_sized entry.value ≡ true

pub entry_word : (parts : Parts) (register : ℕ) (entry : KeyedValue) (state : State) (given : Assignment) → IsEntry parts register entry → Meets (maps_of parts) state given → state.registers register ≡ Some (given.word entry.key)
entry_word parts register entry state given has meets = meets.registers register ∙ ap (option_map given.word) has.held

pub entry_same : (parts : Parts) (register : ℕ) (entry : KeyedValue) (state : State) (given : Assignment) (word : Word) → IsEntry parts register entry → Meets (maps_of parts) state given → state.registers register ≡ Some word →
    word ≡ given.word entry.key
entry_same parts register entry state given word has meets holds = same_Some _ _ (sym holds ∙ entry_word parts register entry state given has meets)

module _ (parts : Parts) (graph : IsGraph parts) (register : ℕ) (Gives : State → Word → Type 0) (size : ℕ) (onward : KeyedValue → Line) where
  pub held_right : ((state : State) (word : Word) → Gives state word → IsSome (state.registers register)) → ((entry : KeyedValue) → IsEntry parts register entry → IsRight parts Gives size (onward entry)) →
      IsRight parts Gives size (on_held (entry_held parts register) onward)
  held_right holds right = by_key (held_by parts.registers register) refl
    where
      with_key : ℕ → Value → KeyedValue
      with_key key value = record { key = key; value = value }

      by_value : (key : ℕ) → held_by parts.registers register ≡ Some key → (found : Option Value) → value_at parts.values key ≡ found → IsRight parts Gives size (on_held (option_map (λ value. record { key = key; value = value }) found) onward)
      by_value key held None is = let there = held_value parts register key graph.well_formed held in absurd (none-some there.value (sym is ∙ there.is))
      by_value key held (Some value) is =
          let there = held_value parts register key graph.well_formed held in
          right (record { key = key; value = value }) (record {
            held = held;
            is = is;
            may = subst (λ (v : Value). may_be_held v ≡ true) (same_Some _ _ (sym there.is ∙ is)) there.held;
            sized = found-all (λ (entry : KeyedValue). entry.key) (λ entry. entry.value) is_sized parts.values key value graph.well_formed.values_are_sized is;
          })

      by_key : (found : Option ℕ) → held_by parts.registers register ≡ found →
          IsRight parts Gives size (on_held (option_and_then (λ key. option_map (λ value. record { key = key; value = value }) (value_at parts.values key)) found) onward)
      by_key None held = nothing_right parts Gives size
          (λ state given word is meets gives. false≢true (subst (λ (o : Option Word). IsSome o) (meets.registers register ∙ ap (option_map given.word) held) (holds state word gives)))
      by_key (Some key) held = by_value key held (value_at parts.values key) refl
