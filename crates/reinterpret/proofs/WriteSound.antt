-- The graph of a write's post stands for each state that follows, but through any word; and each fault that is met is listed.
use Rattle.std.proofs.Common.{◌≡◌, ◌≢◌, ℕ, ◌≤◌, true, List, [], ◌∷◌, length, take, set, replicate, pos, Option, Some, refl, sym, ◌∙◌, ap, subst, arith}
use Rattle.std.specs.Prelude.{slice_get, option_map, Contains}
use Rattle.bytes_core.specs.declared.block.Block.{Block}
use Rattle.bytes_core.specs.declared.word.Word.{Word}
use Rattle.bytes_core.specs.declared.word.Word.TheVariants.{To}
use Rattle.bytes_core.specs.Access.{access_fault, with_bytes, stored}
use Rattle.bytes_core.specs.Value.{word_bytes}
use Rattle.graph.specs.declared.parts.Parts.{Parts}
use Rattle.graph.specs.declared.value.Value.{Value}
use Rattle.graph.specs.Maps.{value_at, held_by}
use Rattle.graph.specs.State.{State}
use Rattle.graph.specs.WellFormed.{IsWellFormed}
use Rattle.graph.specs.Meaning.{ends_of, maps_of, Assignment, Meets, StandsFor}
use Rattle.changes.specs.Parts.{emptied, with_object, without_registers}
use Rattle.changes.specs.Posted.{Posted, on_held, on_reach, SomeStandsFor}
use Rattle.changes.specs.Ranges.{spliced, edge_for, class_for, written_object}
use Rattle.changes.specs.Reaching.{value_reach, reach_of, is_address_held}
use Rattle.changes.proofs.Held.{IsHeldAs, held_as, IsHeldValue, held_value, IsAddress, address_at}
use Rattle.changes.proofs.Meeting.{IsMet, Led, Anywhere, Within, led, kinds_listed}
use Rattle.changes.proofs.Node.{block_with, low_has, low_long, written_holds}
use Rattle.changes.proofs.Reached.{on_room}
use Rattle.changes.proofs.Region.{with_block, region_changed}
use Rattle.changes.proofs.RegistersChanged.{without_agrees, held_without, registers_changed, emptied-words}
use Rattle.changes.specs.Following.{Leaves}
use Rattle.reinterpret.specs.States.{Writes, FaultsWriting}
use Rattle.reinterpret.specs.Writing.{edge_at, value_written, write_post}

-- a store to a block that is there
pub stored_is : (memory : List Block) (number from size : ℕ) (word : Word) (block : Block) → slice_get memory number ≡ Some block →
    stored memory (To number (pos from)) size word ≡ set memory number (block_with block (spliced block.bytes from (take size (word_bytes word))))
stored_is memory number from size word block there = ap (λ (o : Option Block). with_bytes memory number o from (take size (word_bytes word))) there

-- the post where both registers hold something
pub post_held : (parts : Parts) (at size from target source : ℕ) → held_by parts.registers at ≡ Some target → held_by parts.registers from ≡ Some source →
    write_post parts at size from ≡ on_reach parts (reach_of parts target size) (value_written parts (at ∷ from ∷ []) size source (value_at parts.values source))
post_held parts at size from target source at_held from_held =
    ap (λ (o : Option ℕ). on_held o (λ target. on_held (held_by parts.registers from) (λ source.
    on_reach parts (reach_of parts target size) (value_written parts (at ∷ from ∷ []) size source (value_at parts.values source))))) at_held
    ∙ ap (λ (o : Option ℕ). on_held o (λ source. on_reach parts (reach_of parts target size) (value_written parts (at ∷ from ∷ []) size source (value_at parts.values source)))) from_held

module _ (parts : Parts) (form : IsWellFormed parts) (at size from : ℕ) (address : is_address_held parts at ≡ true) (small : size ≤ 8) where
  abbrev gone : List ℕ
  gone = at ∷ from ∷ []

  -- an object written is one whose block is stored to
  pub written_meets : (state next : State) (given : Assignment) (target source : ℕ) (value : Value) → Meets (maps_of parts) state given → value_at parts.values source ≡ Some value → (met : IsMet parts state given target size) →
      Leaves (stored state.memory (given.word target) size (given.word source)) (emptied gone state.registers) state next →
      Meets (maps_of (without_registers gone (with_object met.key (written_object met.object (edge_at met.from size source) value) parts))) next given
  written_meets state next given target source value meets is met leaves =
      registers_changed (maps_of after) (maps_of (without_registers gone after)) middle next given (without_agrees gone after)
      (record {
        memory = leaves.memory ∙ ap (λ (w : Word). stored state.memory w size (given.word source)) met.word ∙ stored_is state.memory met.number met.from size (given.word source) met.block met.there;
        variables = leaves.variables;
        ports = leaves.ports;
        roots = leaves.roots;
      })
      (λ register. leaves.registers register ∙ emptied-words given.word gone (held_by parts.registers) state.registers register (meets.registers register) ∙ ap (option_map given.word) (sym (held_without gone after register)))
      (region_changed parts form state given met.key met.from size met.object (edge_for value (edge_at met.from size source)) (replicate size (class_for value)) met.stands met.live met.region met.room met.number met.block
      (take size (word_bytes (given.word source))) meets met.blocks met.there met.node (low_long size (given.word source) small)
      (low_has (length state.memory) given.blocks (ends_of (maps_of parts).objects given.word) size value (given.word source) small (meets.values source value is))
      (written_holds met.block.bytes (edge_at met.from size source) value given.word small (let e = met.node.size in let r = met.room in omega arith)))
    where
      after : Parts
      after = with_object met.key (written_object met.object (edge_at met.from size source) value) parts

      middle : State
      middle = with_block state met.number (block_with met.block (spliced met.block.bytes met.from (take size (word_bytes (given.word source)))))

  pub write_sound : (state next : State) → StandsFor parts state → Writes at size from state next → (write_post parts at size from).loss ≢ Some 4 → SomeStandsFor (write_post parts at size from).graphs next
  write_sound state next stands writes precise = by_led (led parts state stands.given form stands.meets target.key size target_value.value target_value.is target_value.names
      (ap (λ (w : Word). access_fault state.memory w size) target.word_is ∙ writes.room))
    where
      target : IsHeldAs parts stands.given at writes.to
      target = held_as parts state stands.given at writes.to stands.meets writes.address

      source : IsHeldAs parts stands.given from writes.word
      source = held_as parts state stands.given from writes.word stands.meets writes.value

      target_value : IsAddress parts target.key
      target_value = address_at parts at target.key target.held address

      source_value : IsHeldValue parts source.key
      source_value = held_value parts from source.key form source.held

      post : write_post parts at size from ≡ on_reach parts (reach_of parts target.key size) (value_written parts gone size source.key (Some source_value.value))
      post = post_held parts at size from target.key source.key target.held source.held
          ∙ ap (λ (o : Option Value). on_reach parts (reach_of parts target.key size) (value_written parts gone size source.key o)) source_value.is

      leaves : Leaves (stored state.memory (stands.given.word target.key) size (stands.given.word source.key)) (emptied gone state.registers) state next
      leaves = subst (λ (w : Word). Leaves (stored state.memory w size (stands.given.word source.key)) (emptied gone state.registers) state next) (sym target.word_is)
          (subst (λ (w : Word). Leaves (stored state.memory writes.to size w) (emptied gone state.registers) state next) (sym source.word_is) writes.leaves)

      by_led : Led parts state stands.given target.key size → SomeStandsFor (write_post parts at size from).graphs next
      by_led (Anywhere any) = absurd (precise (ap (λ (p : Posted). p.loss) post
          ∙ ap (λ (o : Option Value). (on_reach parts (value_reach parts target.key o size) (value_written parts gone size source.key (Some source_value.value))).loss) any))
      by_led (Within met) = record {
        graph = without_registers gone (with_object met.key (written_object met.object (edge_at met.from size source.key) source_value.value) parts);
        among = subst (λ (p : Posted). Contains p.graphs (without_registers gone (with_object met.key (written_object met.object (edge_at met.from size source.key) source_value.value) parts)))
            (sym (post ∙ on_room parts (reach_of parts target.key size) met.key met.from met.object (value_written parts gone size source.key (Some source_value.value)) met.reach met.stands)) (0, omega arith, refl);
        stands = record { given = stands.given; meets = written_meets state next stands.given target.key source.key source_value.value stands.meets source_value.is met leaves };
      }

  pub write_kinds : (state : State) (kind : ℕ) → StandsFor parts state → FaultsWriting at size from kind state → Contains (write_post parts at size from).kinds kind
  write_kinds state kind stands faults =
      subst (λ (p : Posted). Contains p.kinds kind) (sym (post_held parts at size from target.key source.key target.held source.held))
      (kinds_listed parts state stands.given form stands.meets target.key size target_value.value target_value.is target_value.names kind (ap (λ (w : Word). access_fault state.memory w size) target.word_is ∙ faults.fault)
      (value_written parts gone size source.key (value_at parts.values source.key)))
    where
      target : IsHeldAs parts stands.given at faults.to
      target = held_as parts state stands.given at faults.to stands.meets faults.address

      source : IsHeldAs parts stands.given from faults.word
      source = held_as parts state stands.given from faults.word stands.meets faults.value

      target_value : IsAddress parts target.key
      target_value = address_at parts at target.key target.held address
