-- The graph of a fill's post stands for each state that follows, but through any word; and each fault that is met is listed.
use Rattle.std.proofs.Common.{◌≡◌, ◌≢◌, ℕ, zero, suc, ◌%◌, Bool, true, false, List, [], ◌∷◌, length, set, replicate, pos, Option, Some, refl, sym, ◌∙◌, ap, subst, eqb-true, arith}
use Rattle.std.specs.Prelude.{slice_get, option_map, Contains}
use Rattle.std.proofs.lemmas.Bool.{false≢true}
use Rattle.std.proofs.lemmas.List.{length-replicate}
use Rattle.std.proofs.lemmas.Option.{none-some}
use Rattle.bytes_core.specs.declared.byte.Byte.TheVariants.{Num}
use Rattle.bytes_core.specs.declared.block.Block.{Block}
use Rattle.bytes_core.specs.declared.word.Word.{Word}
use Rattle.bytes_core.specs.declared.word.Word.TheVariants.{To}
use Rattle.bytes_core.specs.Access.{access_fault, with_bytes, filled}
use Rattle.bytes_core.specs.Value.{address_number}
use Rattle.bytes_core.proofs.Kept.{written_nothing}
use Rattle.graph.specs.declared.object.Object.{Object}
use Rattle.graph.specs.declared.parts.Parts.{Parts}
use Rattle.graph.specs.declared.value.Value.{Value}
use Rattle.graph.specs.declared.value.Value.TheVariants.{Const, Number, Any, Address}
use Rattle.graph.specs.Maps.{value_at, held_by}
use Rattle.graph.specs.State.{State}
use Rattle.graph.specs.WellFormed.{IsWellFormed}
use Rattle.graph.specs.Whole.{IsGraph}
use Rattle.graph.specs.Meaning.{HaveClasses, Ends, HasWord, ends_of, maps_of, Assignment, Meets, StandsFor}
use Rattle.changes.specs.Parts.{emptied, with_object, without_registers}
use Rattle.changes.specs.Posted.{Posted, on_held, on_reach, SomeStandsFor}
use Rattle.changes.specs.Ranges.{spliced, with_range}
use Rattle.changes.specs.Reaching.{value_reach, reach_of, is_address_held}
use Rattle.changes.specs.Following.{Leaves}
use Rattle.changes.proofs.Held.{IsHeldAs, held_as, IsHeldValue, held_value, IsAddress, address_at}
use Rattle.changes.proofs.Meeting.{IsMet, Led, Anywhere, Within, led, kinds_listed}
use Rattle.changes.proofs.Node.{block_with}
use Rattle.changes.proofs.Reached.{on_room}
use Rattle.changes.proofs.Region.{with_block, region_changed}
use Rattle.changes.proofs.RegistersChanged.{without_agrees, held_without, registers_changed, emptied-words}
use Rattle.range_steps.specs.Filling.{Fills, FaultsFilling, fills_zeros, class_filled, bytes_filled, fill_through, filled_by, fill_post}
use Rattle.changes.proofs.Emptied.{emptied_meets}

-- a fill of a block that is there
pub filled_is : (memory : List Block) (number from count byte : ℕ) (block : Block) → slice_get memory number ≡ Some block →
    filled memory (To number (pos from)) byte count ≡ set memory number (block_with block (spliced block.bytes from (replicate count (Num byte))))
filled_is memory number from count byte block there = ap (λ (o : Option Block). with_bytes memory number o from (replicate count (Num byte))) there

-- bytes of one number have a class
pub numbers_have : (zeros : Bool) (number count : ℕ) → (zeros ≡ true → number ≡ 0) → HaveClasses (replicate count (class_filled zeros)) (replicate count (Num number))
numbers_have zeros number zero is = tt
numbers_have true number (suc count) is = (is refl, numbers_have true number count is)
numbers_have false number (suc count) is = (tt, numbers_have false number count is)

-- a constant whose lowest byte is 0 fills zeros
pub fills_zero : (memory : List Block) (count : ℕ) (blocks : ℕ → List ℕ) (ends : ℕ → Ends) (value : Value) (word : Word) → HasWord count blocks ends value word → fills_zeros value ≡ true → address_number memory word % 256 ≡ 0
fills_zero memory count blocks ends (Const number size) word has zeros = ap (λ (w : Word). address_number memory w % 256) has ∙ eqb-true (number % 256) 0 zeros
fills_zero memory count blocks ends (Number size) word has zeros = absurd (false≢true zeros)
fills_zero memory count blocks ends Any word has zeros = absurd (false≢true zeros)
fills_zero memory count blocks ends (Address object offset target) word has zeros = absurd (false≢true zeros)

-- the post where both registers hold something
pub fill_held : (parts : Parts) (at from length target source : ℕ) → held_by parts.registers at ≡ Some target → held_by parts.registers from ≡ Some source →
    fill_post parts at from length ≡ filled_by parts (at ∷ from ∷ []) length target (value_at parts.values source)
fill_held parts at from length target source at_held from_held =
    ap (λ (o : Option ℕ). on_held o (λ target. on_held (held_by parts.registers from) (λ source. filled_by parts (at ∷ from ∷ []) length target (value_at parts.values source)))) at_held
    ∙ ap (λ (o : Option ℕ). on_held o (λ source. filled_by parts (at ∷ from ∷ []) length target (value_at parts.values source))) from_held

module _ (parts : Parts) (graph : IsGraph parts) (at from : ℕ) (address : is_address_held parts at ≡ true) where
  abbrev form : IsWellFormed parts
  form = graph.well_formed

  abbrev gone : List ℕ
  gone = at ∷ from ∷ []

  abbrev behind : ℕ → Bool → ℕ → Object → ℕ → Parts
  behind count zeros key object start = without_registers gone (with_object key (with_range object start count [] (replicate count (class_filled zeros))) parts)

  -- an object that is filled is one whose block is
  pub filled_meets : (state next : State) (given : Assignment) (target count number : ℕ) (zeros : Bool) → Meets (maps_of parts) state given → (met : IsMet parts state given target count) → (zeros ≡ true → number ≡ 0) →
      Leaves (filled state.memory (given.word target) number count) (emptied gone state.registers) state next →
      Meets (maps_of (behind count zeros met.key met.object met.from)) next given
  filled_meets state next given target count number zeros meets met zero_is leaves =
      registers_changed (maps_of after) (maps_of (without_registers gone after)) middle next given (without_agrees gone after)
      (record {
        memory = leaves.memory ∙ ap (λ (w : Word). filled state.memory w number count) met.word ∙ filled_is state.memory met.number met.from count number met.block met.there;
        variables = leaves.variables;
        ports = leaves.ports;
        roots = leaves.roots;
      })
      (λ register. leaves.registers register ∙ emptied-words given.word gone (held_by parts.registers) state.registers register (meets.registers register) ∙ ap (option_map given.word) (sym (held_without gone after register)))
      (region_changed parts form state given met.key met.from count met.object [] (replicate count (class_filled zeros)) met.stands met.live met.region met.room met.number met.block
      (replicate count (Num number)) meets met.blocks met.there met.node (length-replicate count (Num number)) (numbers_have zeros number count zero_is) tt)
    where
      after : Parts
      after = with_object met.key (with_range met.object met.from count [] (replicate count (class_filled zeros))) parts

      middle : State
      middle = with_block state met.number (block_with met.block (spliced met.block.bytes met.from (replicate count (Num number))))

  pub fill_sound : (length : ℕ) (state next : State) → StandsFor parts state → Fills at from length state next → (fill_post parts at from length).loss ≢ Some 4 → SomeStandsFor (fill_post parts at from length).graphs next
  fill_sound zero state next stands fills precise = record {
    graph = without_registers gone parts;
    among = subst (λ (p : Posted). Contains p.graphs (without_registers gone parts)) (sym (fill_held parts at from zero target.key source.key target.held source.held)) (0, omega arith, refl);
    stands = record { given = stands.given; meets = emptied_meets gone parts graph state next stands.given leaves stands.meets };
  }
    where
      target : IsHeldAs parts stands.given at fills.to
      target = held_as parts state stands.given at fills.to stands.meets fills.address

      source : IsHeldAs parts stands.given from fills.word
      source = held_as parts state stands.given from fills.word stands.meets fills.value

      leaves : Leaves state.memory (emptied gone state.registers) state next
      leaves = subst (λ (memory : List Block). Leaves memory (emptied gone state.registers) state next) (written_nothing state.memory fills.to) fills.leaves
  fill_sound (suc more) state next stands fills precise = by_led (led parts state stands.given form stands.meets target.key (suc more) target_value.value target_value.is target_value.names
      (ap (λ (w : Word). access_fault state.memory w (suc more)) target.word_is ∙ fills.room))
    where
      target : IsHeldAs parts stands.given at fills.to
      target = held_as parts state stands.given at fills.to stands.meets fills.address

      source : IsHeldAs parts stands.given from fills.word
      source = held_as parts state stands.given from fills.word stands.meets fills.value

      target_value : IsAddress parts target.key
      target_value = address_at parts at target.key target.held address

      source_value : IsHeldValue parts source.key
      source_value = held_value parts from source.key form source.held

      post : fill_post parts at from (suc more) ≡ on_reach parts (reach_of parts target.key (suc more)) (bytes_filled parts gone (suc more) (fills_zeros source_value.value))
      post = fill_held parts at from (suc more) target.key source.key target.held source.held ∙ ap (fill_through parts gone (suc more) target.key) source_value.is

      leaves : Leaves (filled state.memory (stands.given.word target.key) (address_number state.memory fills.word % 256) (suc more)) (emptied gone state.registers) state next
      leaves = subst (λ (w : Word). Leaves (filled state.memory w (address_number state.memory fills.word % 256) (suc more)) (emptied gone state.registers) state next) (sym target.word_is) fills.leaves

      zero_is : fills_zeros source_value.value ≡ true → address_number state.memory fills.word % 256 ≡ 0
      zero_is zeros =
          fills_zero state.memory (length state.memory) stands.given.blocks (ends_of (maps_of parts).objects stands.given.word) source_value.value fills.word
          (subst (λ (w : Word). HasWord (length state.memory) stands.given.blocks (ends_of (maps_of parts).objects stands.given.word) source_value.value w) source.word_is (stands.meets.values source.key source_value.value source_value.is)) zeros

      by_led : Led parts state stands.given target.key (suc more) → SomeStandsFor (fill_post parts at from (suc more)).graphs next
      by_led (Anywhere any) = absurd (precise (ap (λ (p : Posted). p.loss) post
          ∙ ap (λ (o : Option Value). (on_reach parts (value_reach parts target.key o (suc more)) (bytes_filled parts gone (suc more) (fills_zeros source_value.value))).loss) any))
      by_led (Within met) = record {
        graph = behind (suc more) (fills_zeros source_value.value) met.key met.object met.from;
        among = subst (λ (p : Posted). Contains p.graphs (behind (suc more) (fills_zeros source_value.value) met.key met.object met.from))
            (sym (post ∙ on_room parts (reach_of parts target.key (suc more)) met.key met.from met.object (bytes_filled parts gone (suc more) (fills_zeros source_value.value)) met.reach met.stands))
            (0, omega arith, refl);
        stands = record { given = stands.given; meets = filled_meets state next stands.given target.key (suc more) (address_number state.memory fills.word % 256) (fills_zeros source_value.value) stands.meets met zero_is leaves };
      }

  pub fill_kinds : (length : ℕ) (state : State) (kind : ℕ) → StandsFor parts state → FaultsFilling at from length kind state → Contains (fill_post parts at from length).kinds kind
  fill_kinds zero state kind stands faults = absurd (none-some kind faults.fault)
  fill_kinds (suc more) state kind stands faults =
      subst (λ (p : Posted). Contains p.kinds kind) (sym (fill_held parts at from (suc more) target.key source.key target.held source.held ∙ ap (fill_through parts gone (suc more) target.key) source_value.is))
      (kinds_listed parts state stands.given form stands.meets target.key (suc more) target_value.value target_value.is target_value.names kind (ap (λ (w : Word). access_fault state.memory w (suc more)) target.word_is ∙ faults.fault)
      (bytes_filled parts gone (suc more) (fills_zeros source_value.value)))
    where
      target : IsHeldAs parts stands.given at faults.to
      target = held_as parts state stands.given at faults.to stands.meets faults.address

      source : IsHeldAs parts stands.given from faults.word
      source = held_as parts state stands.given from faults.word stands.meets faults.value

      target_value : IsAddress parts target.key
      target_value = address_at parts at target.key target.held address

      source_value : IsHeldValue parts source.key
      source_value = held_value parts from source.key form source.held
