-- What registers hold behind conversions and operations of the graph.
use Rattle.std.proofs.Common.{◌≡◌, ℕ, List, [], ◌∷◌, Bool, true, false, not, refl, sym, ap, ◌∙◌, Some, None, Option, option_map, nat_eq, if◌then◌else◌}
use Rattle.std.specs.Prelude.{◌*ℤ◌}
use Rattle.std.proofs.lemmas.Bool.{ne_eqb, and_from, not_from_false}
use Rattle.cbase.specs.declared.place.Place.{Place}
use Rattle.arithmetic.specs.Computing.{computed}
use Rattle.arithmetic.specs.Conversion.{converted}
use Rattle.arithmetic.specs.Value.{value}
use Rattle.bytes_core.specs.declared.block.Block.{Block}
use Rattle.bytes_core.specs.declared.word.Word.{Word}
use Rattle.bytes_core.specs.declared.word.Word.TheVariants.{Plain}
use Rattle.bytes_core.specs.Value.{address_number, moved}
use Rattle.choices.specs.declared.choice.Choice.{Choice}
use Rattle.c_machine.specs.Text.{Text}
use Rattle.c_machine.specs.State.{OutcomeIn}
use Rattle.flow.specs.declared.instruction.Instr.TheVariants as i
use Rattle.flow.specs.declared.flow_graph.Flow.{Flow}
use Rattle.flow.specs.Holding.{Held, put, emptied}
use Rattle.flow.specs.Machine as graph
use Rattle.flow.specs.Valid.{IsFlow}
use Rattle.simulation.specs.Edges.{One, Two}
use Rattle.simulation.specs.Running.{Setting}
use Rattle.simulation.specs.Slots.{Slot, InRegister, is_free, are_free, Holds}
use Rattle.simulation.specs.Turning.{Turns, Stays, Turned, Tested, Combines, Computed, ComputedAround, Moved, MovedAround, Calculates, Calculated, CalculatesWith, CalculatedWith}
use Rattle.simulation.specs.Worlds.{Side, state}
use Rattle.simulation.proofs.Registers.{held-put_same, held-put_other, free_first}
use Rattle.simulation.proofs.Holding.{holds-put, holds-popped, holds-both_popped, first_of, second_of, none_of, exchanged}
use Rattle.simulation.proofs.Meeting.{Meets, graph_along, graph_two}

-- where a value stands no other operand does
pub turned_free : (flow : Flow) (others : List Slot) {from register size : ℕ} {plain : Bool} {turn : List Block → Word → Word} {to into size' : ℕ} {plain' : Bool} →
    Turns flow others from register size plain turn to into size' plain' → is_free register others ≡ true → is_free into others ≡ true
turned_free flow others Stays free = free
turned_free flow others (Turned to into size' signed place edge free free') free'' = free
turned_free flow others (Tested test size'' middle off on to into size' place place' place'' place3 place4 edge free free' two one other free'') free3 = free''

pub pair_free : (one other : ℕ) (slots : List Slot) → is_free one slots ≡ true → is_free other slots ≡ true → are_free (one ∷ other ∷ []) slots ≡ true
pair_free one other slots free free' = rw (free, free') refl

-- none of two registers stands in the other one's slot
pub other_way : (one other size size' : ℕ) (plain plain' : Bool) (slots : List Slot) → is_free one (InRegister other size plain ∷ slots) ≡ true → is_free other slots ≡ true →
    is_free other (InRegister one size' plain' ∷ slots) ≡ true
other_way one other size size' plain plain' slots free free' =
    let differ = free_first one other size plain slots free in
    and_from (not (nat_eq one other)) (is_free other slots) (not_from_false (nat_eq one other) (ne_eqb one other (λ same. differ.0 (sym same)))) free'

module _ (t : Text) (flow : Flow) (setting : Setting) (valid : IsFlow flow) where
  by_truth : (n : ℕ) (same : Bool) (one : OutcomeIn t) (off on : graph.State) (choices : List Choice) →
      (same ≡ true → Meets t flow setting valid n one (graph.Went off choices)) → (same ≡ false → Meets t flow setting valid n one (graph.Went on choices)) →
      Meets t flow setting valid n one (graph.unless_barred (if same then graph.Went off choices else graph.Barred) (graph.unless_barred (if same then graph.Barred else graph.Went on choices) graph.Ended))
  by_truth n true one off on choices if_same if_other = if_same refl
  by_truth n false one off on choices if_same if_other = if_other refl

  -- a value is tested against 0
  pub tests_value : (n : ℕ) (one : OutcomeIn t) (choices : List Choice) (point : ℕ) (registers : List Held) (v : Side) (memory : List Block)
      (register size size' test middle off on : ℕ) (plain : Bool) (place place' place'' : Place) (word : Word) (slots : List Slot) (words : List Word) →
      One flow point (i.Number test 0 size') middle place → is_free test (InRegister register size plain ∷ slots) ≡ true → is_free register slots ≡ true →
      Two flow middle (i.IfSame register test) off place' (i.IfDifferent register test) on place'' → Holds memory registers (InRegister register size plain ∷ slots) (word ∷ words) →
      ((registers' : List Held) → nat_eq (address_number memory word) 0 ≡ true → Holds memory registers' slots words → Meets t flow setting valid n one (graph.Went (state off registers' v memory) choices)) →
      ((registers' : List Held) → nat_eq (address_number memory word) 0 ≡ false → Holds memory registers' slots words → Meets t flow setting valid n one (graph.Went (state on registers' v memory) choices)) →
      Meets t flow setting valid n one (graph.Went (state point registers v memory) choices)
  tests_value n one choices point registers v memory register size size' test middle off on plain place place' place'' word slots words edge free free' two holds if_same if_other =
      let new : Held = record { register = test; size = size'; word = Plain 0 } in
      let not_zero = free_first test register size plain slots free in
      let register_is = held-put_other new registers register (λ same. not_zero.0 (sym same)) ∙ holds.stands.0 in
      let after : Holds memory (emptied (register ∷ test ∷ []) (put new registers)) slots words =
      holds-both_popped memory (register ∷ test ∷ []) (put new registers) (InRegister test size' true) (InRegister register size plain) slots (Plain 0) word words
      (pair_free register test slots free' not_zero.1) (second_of test register []) (first_of register (test ∷ []))
      (holds-put memory test size' (Plain 0) true registers (InRegister register size plain ∷ slots) (word ∷ words) free tt holds) in
      graph_along t flow setting valid n one choices point registers v memory (i.Number test 0 size') middle place edge
      (graph_two t flow setting valid n one choices middle (put new registers) v memory (i.IfSame register test) off place' (i.IfDifferent register test) on place'' two
      (rw (register_is, held-put_same new registers)
      (by_truth n (nat_eq (address_number memory word) 0) one _ _ choices
      (λ same. if_same (emptied (register ∷ test ∷ []) (put new registers)) same after)
      (λ other. if_other (emptied (register ∷ test ∷ []) (put new registers)) other after))))

  pub turns : (n : ℕ) (one : OutcomeIn t) (choices : List Choice) (others : List Slot) (words : List Word) (memory : List Block) (v : Side)
      {from register size : ℕ} {plain : Bool} {turn : List Block → Word → Word} {to into size' : ℕ} {plain' : Bool} →
      Turns flow others from register size plain turn to into size' plain' → (registers : List Held) (word : Word) →
      Holds memory registers (InRegister register size plain ∷ others) (word ∷ words) →
      ((registers' : List Held) → Holds memory registers' (InRegister into size' plain' ∷ others) (turn memory word ∷ words) →
      Meets t flow setting valid n one (graph.Went (state to registers' v memory) choices)) →
      Meets t flow setting valid n one (graph.Went (state from registers v memory) choices)
  turns n one choices others words memory v Stays registers word holds each = each registers holds
  turns n one choices others words memory v (Turned {from = from} {register = register} {size = size} {plain = plain} to into size' signed place edge free free') registers word holds each =
      graph_along t flow setting valid n one choices from registers v memory (i.Convert into register size' signed) to place edge
      (rw holds.stands.0
      (each (put (record { register = into; size = size'; word = Plain (converted size signed size' (address_number memory word)) }) (emptied (register ∷ []) registers))
      (holds-put memory into size' (Plain (converted size signed size' (address_number memory word))) true (emptied (register ∷ []) registers) others words free tt
      (holds-popped memory (register ∷ []) registers (InRegister register size plain) others word words (none_of register others free') (first_of register []) holds))))
  turns n one choices others words memory v
      (Tested {from = from} {register = register} {size = size} {plain = plain} test size'' middle off on to into size' place place' place'' place3 place4 edge free free' two one' other' free'') registers word holds each =
      tests_value n one choices from registers v memory register size size'' test middle off on plain place place' place'' word others words edge free free' two holds
      (λ registers' same holds'.
      graph_along t flow setting valid n one choices off registers' v memory (i.Number into 0 size') to place3 one'
      (each (put (record { register = into; size = size'; word = Plain 0 }) registers')
      (rw same (holds-put memory into size' (Plain 0) true registers' others words free'' tt holds'))))
      (λ registers' other holds'.
      graph_along t flow setting valid n one choices on registers' v memory (i.Number into 1 size') to place4 other'
      (each (put (record { register = into; size = size'; word = Plain 1 }) registers')
      (rw other (holds-put memory into size' (Plain 1) true registers' others words free'' tt holds'))))

  -- an operation gives a value, or the run ends
  by_value : (n : ℕ) (back : Option Word → OutcomeIn t) (found : Option ℕ) (there : ℕ → graph.State) (choices : List Choice) →
      Meets t flow setting valid n (back None) graph.Ended → ((bits : ℕ) → found ≡ Some bits → Meets t flow setting valid n (back (Some (Plain bits))) (graph.Went (there bits) choices)) →
      Meets t flow setting valid n (back (option_map Plain found)) (graph.unless_barred (graph.if_computed found (λ bits. graph.Went (there bits) choices)) graph.Ended)
  by_value n back None there choices none each = none
  by_value n back (Some bits) there choices none each = each bits refl

  pub combines : (n : ℕ) (back : Option Word → OutcomeIn t) (choices : List Choice) (others : List Slot) (words : List Word) (memory : List Block) (v : Side)
      {from one other : ℕ} {combined : List Block → Word → Word → Option Word} {to into size : ℕ} {plain : Bool} →
      Combines flow from one other combined to into size plain → (registers : List Held) (first second : Word) (size' size'' : ℕ) (plain' plain'' : Bool) →
      is_free into others ≡ true → is_free one others ≡ true → is_free other others ≡ true →
      Holds memory registers (InRegister other size'' plain'' ∷ InRegister one size' plain' ∷ others) (second ∷ first ∷ words) →
      Meets t flow setting valid n (back None) graph.Ended →
      ((result : Word) (registers' : List Held) → combined memory first second ≡ Some result → Holds memory registers' (InRegister into size plain ∷ others) (result ∷ words) →
      Meets t flow setting valid n (back (Some result)) (graph.Went (state to registers' v memory) choices)) →
      Meets t flow setting valid n (back (combined memory first second)) (graph.Went (state from registers v memory) choices)
  combines n back choices others words memory v (Computed {from = from} {one = one} {other = other} what size signed to into place edge) registers first second size' size'' plain' plain'' free free' free'' holds none each =
      let gone : Holds memory (emptied (one ∷ other ∷ []) registers) others words =
      holds-both_popped memory (one ∷ other ∷ []) registers (InRegister other size'' plain'') (InRegister one size' plain') others second first words
      (pair_free one other others free' free'') (second_of other one []) (first_of one (other ∷ [])) holds in
      graph_along t flow setting valid n _ choices from registers v memory (i.Compute into what one other size signed) to place edge
      (rw (holds.stands.2.0, holds.stands.0)
      (by_value n back (computed what size signed (address_number memory first) (address_number memory second))
      (λ bits. state to (put (record { register = into; size = graph.size_after what size; word = Plain bits }) (emptied (one ∷ other ∷ []) registers)) v memory) choices none
      (λ bits is. each (Plain bits) (put (record { register = into; size = graph.size_after what size; word = Plain bits }) (emptied (one ∷ other ∷ []) registers)) (ap (option_map Plain) is)
      (holds-put memory into (graph.size_after what size) (Plain bits) true (emptied (one ∷ other ∷ []) registers) others words free tt gone))))
  combines n back choices others words memory v (ComputedAround {from = from} {one = one} {other = other} what size signed to into place edge) registers first second size' size'' plain' plain'' free free' free'' holds none each =
      let gone : Holds memory (emptied (other ∷ one ∷ []) registers) others words =
      holds-both_popped memory (other ∷ one ∷ []) registers (InRegister other size'' plain'') (InRegister one size' plain') others second first words
      (pair_free other one others free'' free') (first_of other (one ∷ [])) (second_of one other []) holds in
      graph_along t flow setting valid n _ choices from registers v memory (i.Compute into what other one size signed) to place edge
      (rw (holds.stands.2.0, holds.stands.0)
      (by_value n back (computed what size signed (address_number memory second) (address_number memory first))
      (λ bits. state to (put (record { register = into; size = graph.size_after what size; word = Plain bits }) (emptied (other ∷ one ∷ []) registers)) v memory) choices none
      (λ bits is. each (Plain bits) (put (record { register = into; size = graph.size_after what size; word = Plain bits }) (emptied (other ∷ one ∷ []) registers)) (ap (option_map Plain) is)
      (holds-put memory into (graph.size_after what size) (Plain bits) true (emptied (other ∷ one ∷ []) registers) others words free tt gone))))
  combines n back choices others words memory v (Moved {from = from} {one = one} {other = other} scale to into place edge) registers first second size' size'' plain' plain'' free free' free'' holds none each =
      let gone : Holds memory (emptied (one ∷ other ∷ []) registers) others words =
      holds-both_popped memory (one ∷ other ∷ []) registers (InRegister other size'' plain'') (InRegister one size' plain') others second first words
      (pair_free one other others free' free'') (second_of other one []) (first_of one (other ∷ [])) holds in
      let result : Word = moved first (value 8 true (address_number memory second) *ℤ scale) in
      graph_along t flow setting valid n _ choices from registers v memory (i.ShiftBy into one other scale) to place edge
      (rw (holds.stands.2.0, holds.stands.0)
      (each result (put (record { register = into; size = 8; word = result }) (emptied (one ∷ other ∷ []) registers)) refl
      (holds-put memory into 8 result false (emptied (one ∷ other ∷ []) registers) others words free tt gone)))
  combines n back choices others words memory v (MovedAround {from = from} {one = one} {other = other} scale to into place edge) registers first second size' size'' plain' plain'' free free' free'' holds none each =
      let gone : Holds memory (emptied (other ∷ one ∷ []) registers) others words =
      holds-both_popped memory (other ∷ one ∷ []) registers (InRegister other size'' plain'') (InRegister one size' plain') others second first words
      (pair_free other one others free'' free') (first_of other (one ∷ [])) (second_of one other []) holds in
      let result : Word = moved second (value 8 true (address_number memory first) *ℤ scale) in
      graph_along t flow setting valid n _ choices from registers v memory (i.ShiftBy into other one scale) to place edge
      (rw (holds.stands.2.0, holds.stands.0)
      (each result (put (record { register = into; size = 8; word = result }) (emptied (other ∷ one ∷ []) registers)) refl
      (holds-put memory into 8 result false (emptied (other ∷ one ∷ []) registers) others words free tt gone)))

  pub calculates : (n : ℕ) (back : Option Word → OutcomeIn t) (choices : List Choice) (others : List Slot) (words : List Word) (memory : List Block) (v : Side)
      {from one size other size' : ℕ} {plain plain' : Bool} {calculated : List Block → Word → Word → Option Word} {to into size'' : ℕ} {plain'' : Bool} →
      Calculates flow others from one size plain other size' plain' calculated to into size'' plain'' → (registers : List Held) (first second : Word) →
      Holds memory registers (InRegister other size' plain' ∷ InRegister one size plain ∷ others) (second ∷ first ∷ words) →
      Meets t flow setting valid n (back None) graph.Ended →
      ((result : Word) (registers' : List Held) → calculated memory first second ≡ Some result → Holds memory registers' (InRegister into size'' plain'' ∷ others) (result ∷ words) →
      Meets t flow setting valid n (back (Some result)) (graph.Went (state to registers' v memory) choices)) →
      Meets t flow setting valid n (back (calculated memory first second)) (graph.Went (state from registers v memory) choices)
  calculates n back choices others words memory v
      (Calculated {one = one} {size = size} {other = other} {size' = size'} {one' = one'} {size1 = size1} {other' = other'} {size2 = size2} {made = made} {plain = plain} {plain' = plain'} {plain1 = plain1} {plain2 = plain2}
      {left = left} {right = right} {behind = behind} {combined = combined} free free' turn turn' combine free'' turn'') registers first second holds none each =
      let one_free = turned_free flow (InRegister other size' plain' ∷ others) turn free in
      let one_free' = free_first one' other size' plain' others one_free in
      let other_free = turned_free flow (InRegister one' size1 plain1 ∷ others) turn' (other_way one' other size' size1 plain' plain1 others one_free free') in
      let other_free' = free_first other' one' size1 plain1 others other_free in
      turns n _ choices (InRegister other size' plain' ∷ others) (second ∷ words) memory v turn registers first
      (exchanged memory registers (InRegister other size' plain') (InRegister one size plain) others second first words holds)
      (λ registers1 holds1.
      turns n _ choices (InRegister one' size1 plain1 ∷ others) (left memory first ∷ words) memory v turn' registers1 second
      (exchanged memory registers1 (InRegister one' size1 plain1) (InRegister other size' plain') others (left memory first) second words holds1)
      (λ registers2 holds2.
      combines n (λ found. back (option_map (behind memory) found)) choices others words memory v combine registers2 (left memory first) (right memory second) size1 size2 plain1 plain2
      free'' one_free'.1 other_free'.1 holds2 none
      (λ result registers3 is holds3.
      turns n _ choices others words memory v turn'' registers3 result holds3
      (λ registers4 holds4. each (behind memory result) registers4 (ap (option_map (behind memory)) is) holds4))))

  pub calculates_with : (n : ℕ) (back : Option Word → OutcomeIn t) (choices : List Choice) (others : List Slot) (words : List Word) (memory : List Block) (v : Side)
      {from one size : ℕ} {plain : Bool} {calculated : List Block → Word → Option Word} {to into size' : ℕ} {plain' : Bool} →
      CalculatesWith flow others from one size plain calculated to into size' plain' → (registers : List Held) (word : Word) →
      Holds memory registers (InRegister one size plain ∷ others) (word ∷ words) →
      Meets t flow setting valid n (back None) graph.Ended →
      ((result : Word) (registers' : List Held) → calculated memory word ≡ Some result → Holds memory registers' (InRegister into size' plain' ∷ others) (result ∷ words) →
      Meets t flow setting valid n (back (Some result)) (graph.Went (state to registers' v memory) choices)) →
      Meets t flow setting valid n (back (calculated memory word)) (graph.Went (state from registers v memory) choices)
  calculates_with n back choices others words memory v
      (CalculatedWith {one = one} {size = size} {from1 = from1} {one' = one'} {size1 = size1} {from2 = from2} {plain = plain} {plain1 = plain1} {left = left} {behind = behind} {combined = combined}
      number bits size' place free turn edge free' combine free'' turn'') registers word holds none each =
      let one_free = turned_free flow others turn free in
      let number_free = free_first number one' size1 plain1 others free' in
      turns n _ choices others words memory v turn registers word holds
      (λ registers1 holds1.
      graph_along t flow setting valid n _ choices from1 registers1 v memory (i.Number number bits size') from2 place edge
      (combines n (λ found. back (option_map (behind memory) found)) choices others words memory v combine
      (put (record { register = number; size = size'; word = Plain bits }) registers1) (left memory word) (Plain bits) size1 size' plain1 true free'' one_free number_free.1
      (holds-put memory number size' (Plain bits) true registers1 (InRegister one' size1 plain1 ∷ others) (left memory word ∷ words) free' tt holds1) none
      (λ result registers3 is holds3.
      turns n _ choices others words memory v turn'' registers3 result holds3
      (λ registers4 holds4. each (behind memory result) registers4 (ap (option_map (behind memory)) is) holds4))))
