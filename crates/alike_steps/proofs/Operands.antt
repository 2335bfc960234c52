-- Where the post of an instruction names no loss, the graph knows that the operands of which an address number is taken are numbers.
use Rattle.std.proofs.Common.{◌≡◌, ℕ, Bool, true, false, List, length, Option, None, Some, refl, sym, ◌∙◌, ap}
use Rattle.std.specs.Prelude.{ℤ, option_map, if◌then◌else◌}
use Rattle.std.specs.Option.{option_and_then}
use Rattle.std.proofs.lemmas.Bool.{false≢true}
use Rattle.std.proofs.lemmas.Option.{none-some}
use Rattle.arithmetic.specs.declared.op.Op.{Op}
use Rattle.bytes_core.specs.declared.block.Block.{Block}
use Rattle.bytes_core.specs.declared.word.Word.{Word}
use Rattle.bytes_core.specs.declared.word.Word.TheVariants.{Plain}
use Rattle.bytes_core.specs.Value.{address_number}
use Rattle.graph.specs.declared.parts.KeyedValue.{KeyedValue}
use Rattle.graph.specs.declared.parts.Parts.{Parts}
use Rattle.graph.specs.declared.value.Value.{Value}
use Rattle.graph.specs.declared.value.Value.TheVariants.{Const, Number, Any, Address}
use Rattle.graph.specs.Alike.{renumbered_word}
use Rattle.graph.specs.Maps.{object_at, value_at}
use Rattle.graph.specs.Meaning.{HasWord, Ends, ends_of, maps_of, Assignment, Meets}
use Rattle.graph.specs.State.{State}
use Rattle.graph.specs.Whole.{IsGraph}
use Rattle.changes.proofs.Held.{IsHeldValue, held_value, IsHeldAs, held_as}
use Rattle.reinterpret.specs.Sameness.{is_plain}
use Rattle.register_steps.specs.Lines.{losing, truth, shifted_somewhere, shifted_by, is_test, of_others, computed_line, converted_line}
use Rattle.register_steps.specs.Steps.{entry_held}

-- a number has the same address number wherever blocks lie
pub address_alike : (there : ℕ → ℕ) (memory memory' : List Block) (word : Word) (number : ℕ) → word ≡ Plain number →
    address_number memory' (renumbered_word there word) ≡ address_number memory word
address_alike there memory memory' word number is =
    ap (λ (w : Word). address_number memory' (renumbered_word there w)) is ∙ sym (ap (address_number memory) is)

-- the word of a constant, or of a number
pub plain_word : (count : ℕ) (blocks : ℕ → List ℕ) (ends : ℕ → Ends) (value : Value) (word : Word) → is_plain value ≡ true → HasWord count blocks ends value word →
    (number : ℕ) × (word ≡ Plain number)
plain_word count blocks ends (Const number size) word plain has = (number, has)
plain_word count blocks ends (Number size) word plain has = (has.0, has.1)
plain_word count blocks ends Any word plain has = absurd (false≢true plain)
plain_word count blocks ends (Address object offset target) word plain has = absurd (false≢true plain)

-- What a register holds in a graph and in a state.

pub record HoldsEntry (parts : Parts) (given : Assignment) (register : ℕ) (word : Word) : Type 0 where
  pub entry : KeyedValue
  pub held : entry_held parts register ≡ Some entry
  pub is : value_at parts.values entry.key ≡ Some entry.value
  pub word_is : given.word entry.key ≡ word

pub holds_entry : (parts : Parts) (state : State) (given : Assignment) (register : ℕ) (word : Word) → IsGraph parts → Meets (maps_of parts) state given →
    state.registers register ≡ Some word → HoldsEntry parts given register word
holds_entry parts state given register word graph meets holds = record {
  entry = record { key = has.key; value = found.value };
  held = ap (λ (o : Option ℕ). option_and_then (λ key. option_map (λ value. record { key = key; value = value }) (value_at parts.values key)) o) has.held
      ∙ ap (λ (o : Option Value). option_map (λ value. record { key = has.key; value = value }) o) found.is;
  is = found.is;
  word_is = has.word_is;
}
  where
    has : IsHeldAs parts given register word
    has = held_as parts state given register word meets holds

    found : IsHeldValue parts has.key
    found = held_value parts register has.key graph.well_formed has.held

pub entry_plain : (parts : Parts) (state : State) (given : Assignment) (register : ℕ) (word : Word) (has : HoldsEntry parts given register word) → Meets (maps_of parts) state given →
    is_plain has.entry.value ≡ true → (number : ℕ) × (word ≡ Plain number)
entry_plain parts state given register word has meets plain =
    let found = plain_word (length state.memory) given.blocks (ends_of (object_at parts.objects) given.word) has.entry.value (given.word has.entry.key) plain
    (meets.values has.entry.key has.entry.value has.is) in
    (found.0, sym has.word_is ∙ found.1)

-- Where no loss is named.

-- a word is moved by a register
somewhere_lost : (address : Value) → (shifted_somewhere address).loss ≡ None → ⊥
somewhere_lost (Const number size) none = none-some 1 (sym none)
somewhere_lost (Number size) none = none-some 1 (sym none)
somewhere_lost Any none = none-some 1 (sym none)
somewhere_lost (Address object offset target) none = none-some 7 (sym none)

pub shifted_by_plain : (address number : Value) (scale : ℤ) → (shifted_by address number scale).loss ≡ None → is_plain number ≡ true
shifted_by_plain address (Const number size) scale none = refl
shifted_by_plain address (Number size) scale none = refl
shifted_by_plain address Any scale none = absurd (somewhere_lost address none)
shifted_by_plain address (Address object offset target) scale none = absurd (somewhere_lost address none)

-- an operation
others_lost : (op : Op) (size : ℕ) → (of_others op size).loss ≡ None → ⊥
others_lost op size none = by_test (is_test op) none
  where
    by_test : (b : Bool) → (if b then truth (Some 2) 4 else losing 1 (Number size)).loss ≡ None → ⊥
    by_test true none = none-some 2 (sym none)
    by_test false none = none-some 1 (sym none)

pub operands_plain : (op : Op) (size : ℕ) (signed : Bool) (one other : Value) → (computed_line op size signed one other).loss ≡ None → (is_plain one ≡ true) × (is_plain other ≡ true)
operands_plain op size signed (Const first first_size) (Const second second_size) none = (refl, refl)
operands_plain op size signed (Const first first_size) (Number second_size) none = absurd (others_lost op size none)
operands_plain op size signed (Const first first_size) Any none = absurd (others_lost op size none)
operands_plain op size signed (Const first first_size) (Address object offset target) none = absurd (others_lost op size none)
operands_plain op size signed (Number first_size) other none = absurd (others_lost op size none)
operands_plain op size signed Any other none = absurd (others_lost op size none)
operands_plain op size signed (Address object offset target) other none = absurd (others_lost op size none)

-- a conversion
pub converted_plain : (key : ℕ) (value : Value) (size : ℕ) (signed : Bool) → (converted_line key value size signed).loss ≡ None → is_plain value ≡ true
converted_plain key (Const number was) size signed none = refl
converted_plain key (Number was) size signed none = refl
converted_plain key Any size signed none = absurd (none-some 1 (sym none))
converted_plain key (Address object offset target) size signed none = absurd (none-some 1 (sym none))
