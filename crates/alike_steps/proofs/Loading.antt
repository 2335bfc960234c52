-- What is loaded where the post of a read names no loss: a whole pointer, or bytes that are numbers. Alike memories load the same then.
use Rattle.std.proofs.Common.{◌≡◌, ℕ, zero, suc, ◌<◌, Bool, true, false, ◌&&◌, List, [], ◌∷◌, map, length, take, drop, get_or, ℤ, pos, nat_eq, Option, None, Some, refl, sym, ◌∙◌, ap, subst, eqb-true, arith}
use Rattle.std.specs.Prelude.{if◌then◌else◌}
use Rattle.std.specs.Int.{w64, to_le_bytes}
use Rattle.std.specs.List.{All, list_all}
use Rattle.std.proofs.lemmas.List.Elements.{All-nil, All-cons}
use Rattle.std.proofs.lemmas.Option.{none-some}
use Rattle.bytes_core.specs.declared.byte.Byte.{Byte}
use Rattle.bytes_core.specs.declared.byte.Byte.TheVariants.{Num}
use Rattle.bytes_core.specs.declared.block.Block.{Block}
use Rattle.bytes_core.specs.declared.word.Word.{Word}
use Rattle.bytes_core.specs.declared.word.Word.TheVariants.{Plain, To}
use Rattle.bytes_core.specs.Access.{access_fault, block_bytes, bytes_at, loaded}
use Rattle.bytes_core.specs.Value.{word_bytes, number_of}
use Rattle.graph.specs.declared.parts.KeyedValue.{KeyedValue}
use Rattle.graph.specs.declared.parts.Parts.{Parts}
use Rattle.graph.specs.declared.value.Value.{Value}
use Rattle.graph.specs.Alike.{renumbered_word}
use Rattle.graph.specs.AlikeMemories.{AreAlike}
use Rattle.graph.specs.AlikeSteps.{ByteDoesNotDangle}
use Rattle.graph.specs.Sizes.{is_scalar_size, is_sized}
use Rattle.graph.specs.State.{State}
use Rattle.graph.specs.Whole.{IsGraph}
use Rattle.graph.specs.Meaning.{HaveClasses, ends_of, maps_of, Assignment, Meets, StandsFor}
use Rattle.graph.proofs.AlikeSteps.{alike_respected}
use Rattle.graph.proofs.Found.{found-all}
use Rattle.graph.proofs.Tests.{and_left, and_right}
use Rattle.changes.specs.Posted.{Posted, on_reach}
use Rattle.changes.specs.Ranges.{meets_none}
use Rattle.changes.specs.Reaching.{value_reach, reach_of, is_address_held}
use Rattle.changes.proofs.Held.{IsHeldAs, held_as, IsAddress, address_at}
use Rattle.changes.proofs.Meeting.{IsMet, Led, Anywhere, Within, led}
use Rattle.changes.proofs.Node.{HaveClasses-range}
use Rattle.changes.proofs.RangeForm.{fit_now, plane_long}
use Rattle.changes.proofs.Reached.{on_room}
use Rattle.reinterpret.specs.Reading.{value_of, readable, are_class, one_graph, read_by, value_read, read_post}
use Rattle.reinterpret.proofs.Loaded.{value_of_holds, edge_loaded}
use Rattle.reinterpret.proofs.ReadSound.{read_held, IsReadable, readable_is}
use Rattle.reinterpret.proofs.Words.{AreNumbers, are_numbers}

-- a load takes in a whole pointer at a pointer type, or bytes that are numbers
pub data IsSure (memory : List Block) (at : Word) (size : ℕ) (pointer : Bool) : Type 0 where
  Whole : (block : ℕ) (offset : ℤ) → pointer ≡ true → loaded memory at size true ≡ To block offset → IsSure memory at size pointer
  OfNumbers : AreNumbers (bytes_at memory at size) → IsSure memory at size pointer

-- Alike memories.

none_dangles : (memory : List Block) (numbers : List ℕ) → All (ByteDoesNotDangle memory) (map Num numbers)
none_dangles memory [] = All-nil (ByteDoesNotDangle memory)
none_dangles memory (first ∷ rest) = All-cons (ByteDoesNotDangle memory) (Num first) (map Num rest) tt (none_dangles memory rest)

pub sure_alike : (there back : ℕ → ℕ) (paired : ℕ → Bool) (one other : List Block) → AreAlike there back paired one other → (at : Word) (size : ℕ) (pointer : Bool) → access_fault one at size ≡ None →
    IsSure one at size pointer → loaded other (renumbered_word there at) size pointer ≡ renumbered_word there (loaded one at size pointer)
sure_alike there back paired one other are at size pointer room (Whole block offset is whole) =
    ap (λ (b : Bool). loaded other (renumbered_word there at) size b) is
    ∙ (alike_respected.reads there back paired one other are).pointers at size block offset room whole
    ∙ sym (ap (renumbered_word there) (ap (λ (b : Bool). loaded one at size b) is ∙ whole))
sure_alike there back paired one other are at size pointer room (OfNumbers numbers) =
    (alike_respected.reads there back paired one other are).loads at size pointer room (subst (All (ByteDoesNotDangle one)) (sym numbers.are) (none_dangles one numbers.numbers))

-- What a graph tells.

low_class : (class : ℕ) → class < 2 → (classes : List ℕ) → list_all (nat_eq class) classes ≡ true → (i : ℕ) → get_or classes i 0 < 2
low_class class small [] all i = omega arith
low_class class small (first ∷ rest) all zero = let same = eqb-true class first (and_left (nat_eq class first) (list_all (nat_eq class) rest) all) in omega (arith, same, small)
low_class class small (first ∷ rest) all (suc i) = low_class class small rest (and_right (nat_eq class first) (list_all (nat_eq class) rest) all) i

first_numbers : (size : ℕ) (numbers : List ℕ) → AreNumbers (take size (map Num numbers))
first_numbers zero numbers = record { numbers = []; are = refl }
first_numbers (suc size) [] = record { numbers = []; are = refl }
first_numbers (suc size) (number ∷ rest) =
    let later = first_numbers size rest in
    record { numbers = number ∷ later.numbers; are = ap (λ (bytes : List Byte). Num number ∷ bytes) later.are }

module _ (parts : Parts) (graph : IsGraph parts) (at size : ℕ) (pointer : Bool) (into : ℕ) (scalar : is_scalar_size size ≡ true) (whole : pointer ≡ true → size ≡ 8) where
  module _ (state : State) (given : Assignment) (meets : Meets (maps_of parts) state given) (target : ℕ) (met : IsMet parts state given target size) where
    abbrev place : Word
    place = To met.number (pos met.from)

    bytes_are : bytes_at state.memory (To met.number (pos met.from)) size ≡ take size (drop met.from met.block.bytes)
    bytes_are = ap (λ (o : Option Block). block_bytes o (pos met.from) size) met.there

    long : length met.object.plane ≡ met.object.size
    long = plane_long parts graph.well_formed met.key met.object met.stands met.region met.live

    have : HaveClasses (take size (drop met.from met.object.plane)) (take size (drop met.from met.block.bytes))
    have = HaveClasses-range met.from size met.object.plane met.block.bytes met.node.classes

    of_class : (class : ℕ) → class < 2 → are_class class met.object.plane met.from size ≡ true → IsSure state.memory place size pointer
    of_class class small all =
        OfNumbers (subst AreNumbers (sym bytes_are)
        (are_numbers (take size (drop met.from met.object.plane)) (take size (drop met.from met.block.bytes)) (low_class class small (take size (drop met.from met.object.plane)) all) have))

    -- an edge of that place and size tells the value
    of_edge : (key : ℕ) → readable parts pointer (value_of met.object.edges met.from size) ≡ Some key → IsSure state.memory place size pointer
    of_edge key read = by_word (given.word key) refl
      where
        found : IsReadable parts pointer met.object.edges met.from size key
        found = readable_is parts pointer met.object.edges met.from size key (fit_now parts graph.well_formed met.key met.object met.stands met.region met.live).sizes read

        loaded_is : loaded state.memory place size pointer ≡ given.word key
        loaded_is =
            edge_loaded met.object given.word state.memory met.number met.from size met.block met.there met.node scalar met.room long pointer whole (length state.memory) given.blocks (ends_of (maps_of parts).objects given.word)
            key found.value found.is (found-all (λ (entry : KeyedValue). entry.key) (λ entry. entry.value) is_sized parts.values key found.value graph.well_formed.values_are_sized found.stands) found.size_is found.read
            (meets.values key found.value found.stands)

        stand : take size (drop met.from met.block.bytes) ≡ take size (word_bytes (given.word key))
        stand = value_of_holds met.block.bytes given.word met.object.edges met.from size key found.is met.node.edges

        by_word : (word : Word) → given.word key ≡ word → IsSure state.memory place size pointer
        by_word (Plain number) is =
            OfNumbers (subst AreNumbers (sym (bytes_are ∙ stand ∙ ap (λ (w : Word). take size (word_bytes w)) is)) (first_numbers size (to_le_bytes w64 number)))
        by_word (To block offset) is = by_kind pointer refl
          where
            by_kind : (b : Bool) → pointer ≡ b → IsSure state.memory place size pointer
            by_kind true kind = Whole block offset kind (ap (λ (b : Bool). loaded state.memory place size b) (sym kind) ∙ loaded_is ∙ is)
            by_kind false kind =
                let same : Plain (number_of state.memory (bytes_at state.memory place size)) ≡ To block offset = ap (λ (b : Bool). loaded state.memory place size b) (sym kind) ∙ loaded_is ∙ is in
                absurd cc

    met_sure : (value_read parts (at ∷ []) into size pointer met.key met.object met.from).loss ≡ None → IsSure state.memory place size pointer
    met_sure none = by_edge (readable parts pointer (value_of met.object.edges met.from size)) refl none
      where
        by_bytes : (zeros ones any : Parts) (a : Bool) → are_class 0 met.object.plane met.from size ≡ a → (b : Bool) → are_class 1 met.object.plane met.from size ≡ b → (c : Bool) →
            (if a then one_graph zeros None else (if b && c then one_graph ones None else one_graph any (Some 3))).loss ≡ None → IsSure state.memory place size pointer
        by_bytes zeros ones any true are b b_is c none = of_class 0 (omega arith) are
        by_bytes zeros ones any false a_is true are true none = of_class 1 (omega arith) are
        by_bytes zeros ones any false a_is true are false none = absurd (none-some 3 (sym none))
        by_bytes zeros ones any false a_is false b_is c none = absurd (none-some 3 (sym none))

        by_edge : (found : Option ℕ) → readable parts pointer (value_of met.object.edges met.from size) ≡ found → (read_by found parts (at ∷ []) into size pointer met.key met.object met.from).loss ≡ None →
            IsSure state.memory place size pointer
        by_edge (Some key) read none = of_edge key read
        by_edge None read none =
            by_bytes _ _ _ (are_class 0 met.object.plane met.from size) refl (are_class 1 met.object.plane met.from size) refl (meets_none met.from size met.object.edges) none

  -- what is read where no loss is named
  pub read_sure : is_address_held parts at ≡ true → (state : State) → StandsFor parts state → (to : Word) → state.registers at ≡ Some to → access_fault state.memory to size ≡ None →
      (read_post parts at size pointer into).loss ≡ None → IsSure state.memory to size pointer
  read_sure address state stands to holds room none = by_led (led parts state stands.given graph.well_formed stands.meets target.key size target_value.value target_value.is target_value.names
      (ap (λ (w : Word). access_fault state.memory w size) target.word_is ∙ room))
    where
      target : IsHeldAs parts stands.given at to
      target = held_as parts state stands.given at to stands.meets holds

      target_value : IsAddress parts target.key
      target_value = address_at parts at target.key target.held address

      post : read_post parts at size pointer into ≡ on_reach parts (reach_of parts target.key size) (value_read parts (at ∷ []) into size pointer)
      post = read_held parts at size pointer into target.key target.held

      by_led : Led parts state stands.given target.key size → IsSure state.memory to size pointer
      by_led (Anywhere any) =
          absurd (none-some 4 (sym none ∙ ap (λ (p : Posted). p.loss) post ∙ ap (λ (o : Option Value). (on_reach parts (value_reach parts target.key o size) (value_read parts (at ∷ []) into size pointer)).loss) any))
      by_led (Within met) =
          subst (λ (w : Word). IsSure state.memory w size pointer) (sym met.word ∙ target.word_is)
          (met_sure state stands.given stands.meets target.key met
          (ap (λ (p : Posted). p.loss) (sym (post ∙ on_room parts (reach_of parts target.key size) met.key met.from met.object (value_read parts (at ∷ []) into size pointer) met.reach met.stands)) ∙ none))
