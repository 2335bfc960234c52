-- A test whether two values are the same comes to in a state that is alike as well what it comes to in the one.
--
-- It compares address numbers, and that of a dangling pointer may be another one there. Where no loss is named both words are numbers, or the graph knows how the test comes out; it
-- stands for the other state as well.
use Rattle.std.proofs.Common.{◌≡◌, ℕ, Bool, true, false, List, [], ◌∷◌, length, nat_eq, None, Some, ◌⊎◌, inl, inr, refl, sym, ◌∙◌, ap}
use Rattle.std.specs.Prelude.{◌&&◌, option_map, if◌then◌else◌}
use Rattle.std.specs.Ordering.{int_eq}
use Rattle.std.proofs.lemmas.Option.{same_Some, none-some}
use Rattle.bytes_core.specs.declared.word.Word.{Word}
use Rattle.bytes_core.specs.Value.{address_number, is_same_address}
use Rattle.graph.specs.declared.parts.Parts.{Parts}
use Rattle.graph.specs.declared.value.Value.{Value}
use Rattle.graph.specs.declared.value.Value.TheVariants.{Const, Number, Any, Address}
use Rattle.graph.specs.Alike.{renumbered_word}
use Rattle.graph.specs.AlikeStates.{AreAlikeStates}
use Rattle.graph.specs.Maps.{object_at, held_by}
use Rattle.graph.specs.Meaning.{ends_of, maps_of, Assignment, Meets, StandsFor}
use Rattle.graph.specs.State.{State, IsState}
use Rattle.graph.specs.Whole.{IsGraph}
use Rattle.graph.proofs.AlikeMeaning.{alike_states_meant}
use Rattle.changes.specs.Parts.{emptied}
use Rattle.changes.specs.Posted.{Posted}
use Rattle.reinterpret.specs.Comparing.{is_inside_live, unsure, null_compared, values_compared}
use Rattle.reinterpret.specs.Sameness.{Equals, is_plain, may_compare}
use Rattle.reinterpret.specs.Testing.{tested, equal_post}
use Rattle.reinterpret.specs.declared.comparison.Comparison.{Comparison}
use Rattle.reinterpret.specs.declared.comparison.Comparison.TheVariants as known
use Rattle.reinterpret.proofs.EqualSound.{held, are as values_are, post_is, tells}
use Rattle.reinterpret.proofs.Opened.{AreCompared}
use Rattle.reinterpret.proofs.Told.{Tells}
use Rattle.flow.specs.declared.instruction.Instr.TheVariants.{IfSame, IfDifferent}
use Rattle.transfer.proofs.Asked.{same_ready, different_ready}
use Rattle.alike_steps.specs.Laws.{GoesAlike}
use Rattle.alike_steps.proofs.Leaving.{left_with, left_leaves, held_there, emptied_leaves, going}
use Rattle.alike_steps.proofs.Operands.{address_alike, plain_word}
use Rattle.alike_steps.proofs.Registers.{GoesAlikeAlong}

-- a graph knows how a test comes out
abbrev IsTold : Comparison → Type 0
IsTold known.Same = Unit {0}
IsTold known.Different = Unit {0}
IsTold (known.Either kept other) = ⊥
IsTold known.Itself = ⊥
IsTold known.Unknown = ⊥

-- Where no loss is named two values are numbers, or the graph knows.
module _ (parts : Parts) (left right : ℕ) (gone : List ℕ) (same : Bool) where
  abbrev AreKnown : Value → Value → Type 0
  AreKnown one other = ((is_plain one ≡ true) × (is_plain other ≡ true)) ⊎ IsTold (values_compared parts left right one other)

  abbrev Lossless : Comparison → Type 0
  Lossless comparison = (tested parts gone same comparison).loss ≡ None

  unsure_lost : Lossless (unsure left right) → ⊥
  unsure_lost none = by_tests same (nat_eq left right) none
    where
      by_tests : (same b : Bool) → (tested parts gone same (if b then known.Itself else known.Unknown)).loss ≡ None → ⊥
      by_tests true true none = none-some 4 (sym none)
      by_tests false true none = none-some 4 (sym none)
      by_tests true false none = none-some 4 (sym none)
      by_tests false false none = none-some 4 (sym none)

  -- null and an address
  null_known : (number : ℕ) (value : Value) → Lossless (null_compared parts left right number value) → IsTold (null_compared parts left right number value)
  null_known number value none = by_test (nat_eq number 0 && is_inside_live parts value) none
    where
      by_test : (b : Bool) → Lossless (if b then known.Different else unsure left right) → IsTold (if b then known.Different else unsure left right)
      by_test true none = tt
      by_test false none = absurd (unsure_lost none)

  -- two addresses
  places_known : (sure equal : Bool) → Lossless (if sure then (if equal then known.Same else known.Different) else unsure left right) →
      IsTold (if sure then (if equal then known.Same else known.Different) else unsure left right)
  places_known true true none = tt
  places_known true false none = tt
  places_known false equal none = absurd (unsure_lost none)

  values_known : (one other : Value) → Lossless (values_compared parts left right one other) → AreKnown one other
  values_known (Const number size) (Const number' size') none = inl (refl, refl)
  values_known (Const number size) (Number size') none = inl (refl, refl)
  values_known (Const number size) Any none = absurd (unsure_lost none)
  values_known (Const number size) (Address object offset target) none = inr (null_known number (Address object offset target) none)
  values_known (Number size) (Const number' size') none = inl (refl, refl)
  values_known (Number size) (Number size') none = inl (refl, refl)
  values_known (Number size) Any none = absurd (unsure_lost none)
  values_known (Number size) (Address object offset target) none = absurd (unsure_lost none)
  values_known Any other none = absurd (unsure_lost none)
  values_known (Address object offset target) (Const number size) none = inr (null_known number (Address object offset target) none)
  values_known (Address object offset target) (Number size) none = absurd (unsure_lost none)
  values_known (Address object offset target) Any none = absurd (unsure_lost none)
  values_known (Address object offset target) (Address object' offset' target') none =
      inr (places_known (is_inside_live parts (Address object offset target) && is_inside_live parts (Address object' offset' target')) (nat_eq object object' && int_eq offset offset') none)

-- the word of what a register holds
word_held : (parts : Parts) (state : State) (given : Assignment) (register key : ℕ) (word : Word) → Meets (maps_of parts) state given → held_by parts.registers register ≡ Some key →
    state.registers register ≡ Some word → given.word key ≡ word
word_held parts state given register key word meets held holds = same_Some _ _ (sym (meets.registers register ∙ ap (option_map given.word) held) ∙ holds)

module _ (parts : Parts) (graph : IsGraph parts) (left right : ℕ) (may : may_compare parts left right ≡ true) (same : Bool) (none : (equal_post parts left right same).loss ≡ None) where
  abbrev first : ℕ
  first = (held parts graph left right may).0

  abbrev second : ℕ
  second = (held parts graph left right may).1

  abbrev values : AreCompared parts first second
  values = values_are parts graph left right may

  abbrev comparison : Comparison
  comparison = values_compared parts first second values.value values.second

  lossless : (tested parts (left ∷ right ∷ []) same comparison).loss ≡ None
  lossless = sym (ap (λ (p : Posted). p.loss) (post_is parts graph left right may same)) ∙ none

  -- the test of the words that two registers hold is that of the words of their values
  test_is : (state : State) (given : Assignment) (word word' : Word) → Meets (maps_of parts) state given → state.registers left ≡ Some word → state.registers right ≡ Some word' →
      is_same_address state.memory (given.word first) (given.word second) ≡ is_same_address state.memory word word'
  test_is state given word word' meets holds holds' =
      ap (λ (w : Word). is_same_address state.memory w (given.word second)) (word_held parts state given left first word meets (held parts graph left right may).2 holds)
      ∙ ap (is_same_address state.memory word) (word_held parts state given right second word' meets (held parts graph left right may).3 holds')

  module _ (there back : ℕ → ℕ) (paired : ℕ → Bool) (one other next : State) (is : IsState one) (is' : IsState other) (stands : StandsFor parts one)
      (are : AreAlikeStates there back paired one other) where
    stands' : StandsFor parts other
    stands' = (alike_states_meant there back paired parts one other graph.well_formed are).0 stands

    -- what the graph knows it knows of both
    told_alike : (comparison : Comparison) → IsTold comparison →
        Tells parts one stands.given graph.well_formed is.memory stands.meets first second comparison →
        Tells parts other stands'.given graph.well_formed is'.memory stands'.meets first second comparison →
        is_same_address other.memory (stands'.given.word first) (stands'.given.word second) ≡ is_same_address one.memory (stands.given.word first) (stands.given.word second)
    told_alike known.Same told here there = there ∙ sym here
    told_alike known.Different told here there = there ∙ sym here
    told_alike (known.Either kept gone) told here there = absurd told
    told_alike known.Itself told here there = absurd told
    told_alike known.Unknown told here there = absurd told

    test_alike : (word word' : Word) → one.registers left ≡ Some word → one.registers right ≡ Some word' →
        is_same_address other.memory (renumbered_word there word) (renumbered_word there word') ≡ is_same_address one.memory word word'
    test_alike word word' holds holds' = by_known (values_known parts first second (left ∷ right ∷ []) same values.value values.second lossless)
      where
        by_known : AreKnown parts first second (left ∷ right ∷ []) same values.value values.second →
            is_same_address other.memory (renumbered_word there word) (renumbered_word there word') ≡ is_same_address one.memory word word'
        by_known (inl plain) =
            let ends = ends_of (object_at parts.objects) stands.given.word in
            let number = plain_word (length one.memory) stands.given.blocks ends values.value (stands.given.word first) plain.0 (stands.meets.values first values.value values.is) in
            let number' = plain_word (length one.memory) stands.given.blocks ends values.second (stands.given.word second) plain.1 (stands.meets.values second values.second values.second_is) in
            let word_is = sym (word_held parts one stands.given left first word stands.meets (held parts graph left right may).2 holds) ∙ number.1 in
            let word_is' = sym (word_held parts one stands.given right second word' stands.meets (held parts graph left right may).3 holds') ∙ number'.1 in
            ap (λ (n : ℕ). nat_eq n (address_number other.memory (renumbered_word there word'))) (address_alike there one.memory other.memory word number.0 word_is)
            ∙ ap (nat_eq (address_number one.memory word)) (address_alike there one.memory other.memory word' number'.0 word_is')
        by_known (inr told) =
            sym (test_is other stands'.given (renumbered_word there word) (renumbered_word there word') stands'.meets
            (held_there there back paired one other left word are holds) (held_there there back paired one other right word' are holds'))
            ∙ told_alike comparison told (tells parts graph left right may one stands.given is stands.meets) (tells parts graph left right may other stands'.given is' stands'.meets)
            ∙ test_is one stands.given word word' stands.meets holds holds'

    pub equals_alike : Equals left right same one next → GoesAlike (Equals left right same) other next
    equals_alike equals =
        going there back paired (Equals left right same) other next (left_with other.memory (emptied (left ∷ right ∷ []) other.registers) other)
        (record {
          one = renumbered_word there equals.one;
          other = renumbered_word there equals.other;
          left_held = held_there there back paired one other left equals.one are equals.left_held;
          right_held = held_there there back paired one other right equals.other are equals.right_held;
          test = test_alike equals.one equals.other equals.left_held equals.right_held ∙ equals.test;
          leaves = left_leaves other.memory (emptied (left ∷ right ∷ []) other.registers) other;
        })
        (emptied_leaves there back paired one.memory other.memory (left ∷ right ∷ []) one other next are are.memories equals.leaves)

pub same_alike : (left right : ℕ) → GoesAlikeAlong (IfSame left right)
same_alike left right flow point parts post there back paired one other next graph may is none state state' stands are equals =
    equals_alike parts graph left right (same_ready flow point (IfSame left right) parts may graph left right refl) true (sym is.loss ∙ none)
    there back paired one other next state state' stands are equals

pub different_alike : (left right : ℕ) → GoesAlikeAlong (IfDifferent left right)
different_alike left right flow point parts post there back paired one other next graph may is none state state' stands are equals =
    equals_alike parts graph left right (different_ready flow point (IfDifferent left right) parts may graph left right refl) false (sym is.loss ∙ none)
    there back paired one other next state state' stands are equals
