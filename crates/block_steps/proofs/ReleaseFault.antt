-- Which fault a release meets in a state that a graph stands for.
use Rattle.std.proofs.Common.{◌≡◌, ℕ, ◌<◌, Bool, true, false, ◌&&◌, List, [], ◌∷◌, length, get_or, ℤ, pos, nat_eq, Option, None, Some, refl, sym, ◌∙◌, ap, subst, ◌⊎◌, inl, inr}
use Rattle.std.specs.Prelude.{slice_get, if◌then◌else◌}
use Rattle.std.specs.Ordering.{int_eq}
use Rattle.std.specs.Option.{option_map_or}
use Rattle.std.proofs.lemmas.Option.{same_Some, none-some, slice_get-get_or}
use Rattle.bytes_core.specs.declared.block.Block.{Block}
use Rattle.bytes_core.specs.declared.block.BlockKind.{BlockKind}
use Rattle.bytes_core.specs.declared.word.Word.{Word}
use Rattle.bytes_core.specs.declared.word.Word.TheVariants.{Plain, To}
use Rattle.bytes_core.specs.Fault.{double_free, invalid_free}
use Rattle.bytes_core.specs.Release.{is_heap, block_free_fault, free_fault}
use Rattle.graph.specs.declared.object.Object.{Object}
use Rattle.graph.specs.declared.object.Shape.TheVariants.{Region as RegionShape}
use Rattle.graph.specs.declared.parts.KeyedValue.{KeyedValue}
use Rattle.graph.specs.declared.parts.Parts.{Parts}
use Rattle.graph.specs.declared.value.Target.TheVariants.{Region}
use Rattle.graph.specs.declared.value.Value.TheVariants.{Const, Address}
use Rattle.graph.specs.Maps.{object_at, value_at}
use Rattle.graph.specs.State.{State, IsWordBelow, IsState}
use Rattle.graph.specs.WellFormed.{IsWellFormed, target_fits, leads_to_object}
use Rattle.graph.specs.Meaning.{IsGone, HasBlocksAs, own_offset, maps_of, Assignment, Meets}
use Rattle.graph.proofs.Found.{Holds-some, found-all}
use Rattle.graph.proofs.Sent.{passes-some}
use Rattle.block_steps.specs.Releasing.{IsRegionFound}
use Rattle.changes.proofs.Meeting.{region_only, has_block, word_of}

-- the fault of a release at an offset of an object
abbrev pub object_fault : Object → ℤ → Option ℕ
object_fault object offset = if is_heap object.kind && int_eq offset (pos 0) then (if object.live then None else Some double_free) else Some invalid_free

-- and through a plain number
abbrev pub number_fault : ℕ → Option ℕ
number_fault number = if nat_eq number 0 then None else Some invalid_free

-- the object of an address is a region
pub region_of : (parts : Parts) (key object : ℕ) (offset : ℤ) → IsWellFormed parts → value_at parts.values key ≡ Some (Address object offset Region) → IsRegionFound parts object
region_of parts key object offset form stands =
    let leads = found-all (λ (entry : KeyedValue). entry.key) (λ entry. entry.value) (leads_to_object parts) parts.values key (Address object offset Region) form.addresses_lead_to_objects stands in
    let held = Holds-some (object_at parts.objects object) (passes-some (λ found. target_fits Region found.shape) (object_at parts.objects object) leads) in
    record {
      found = held.item;
      is = held.is;
      region = region_only Region held.item.shape refl (subst (λ (o : Option Object). option_map_or (λ found. target_fits Region found.shape) o false ≡ true) held.is leads);
    }

-- a fault of a release is one of two
pub one_of_two : (memory : List Block) (word : Word) (kind : ℕ) → free_fault memory word ≡ Some kind → (kind ≡ double_free) ⊎ (kind ≡ invalid_free)
one_of_two memory (Plain number) kind is = by_test (nat_eq number 0) is
  where
    by_test : (b : Bool) → (if b then None else Some invalid_free) ≡ Some kind → (kind ≡ double_free) ⊎ (kind ≡ invalid_free)
    by_test true is = absurd (none-some kind is)
    by_test false is = inr (sym (same_Some _ _ is))
one_of_two memory (To number offset) kind is = by_block (slice_get memory number) is
  where
    by_tests : (b c : Bool) → (if b then (if c then None else Some double_free) else Some invalid_free) ≡ Some kind → (kind ≡ double_free) ⊎ (kind ≡ invalid_free)
    by_tests true true is = absurd (none-some kind is)
    by_tests true false is = inl (sym (same_Some _ _ is))
    by_tests false c is = inr (sym (same_Some _ _ is))

    by_block : (found : Option Block) → block_free_fault found offset ≡ Some kind → (kind ≡ double_free) ⊎ (kind ≡ invalid_free)
    by_block None is = inr (sym (same_Some _ _ is))
    by_block (Some block) is = by_tests (is_heap block.kind && int_eq offset (pos 0)) block.live is

module _ (parts : Parts) (form : IsWellFormed parts) (state : State) (given : Assignment) (is : IsState state) (meets : Meets (maps_of parts) state given) (at key : ℕ) (register : state.registers at ≡ Some (given.word key)) where
  pub constant_fault : (number size : ℕ) → value_at parts.values key ≡ Some (Const number size) → free_fault state.memory (given.word key) ≡ number_fault number
  constant_fault number size stands = ap (free_fault state.memory) (meets.values key (Const number size) stands)

  -- what a register holds names a block that is there
  pub address_fault : (object : ℕ) (offset : ℤ) (found : Object) → value_at parts.values key ≡ Some (Address object offset Region) → object_at parts.objects object ≡ Some found → found.shape ≡ RegionShape →
      free_fault state.memory (given.word key) ≡ object_fault found offset
  address_fault object offset found stands there region = by_life found.live refl
    where
      by_life : (b : Bool) → found.live ≡ b → free_fault state.memory (given.word key) ≡ object_fault found offset
      by_life true live =
          let has = has_block parts state given form meets key 0 object found there live region in
          ap (free_fault state.memory) (word_of parts state given form meets key 0 object has.number offset stands has.blocks)
          ∙ ap (λ (o : Option Block). block_free_fault o offset) has.at_number.there
          ∙ ap (λ (k : BlockKind). if is_heap k && int_eq offset (pos 0) then (if has.at_number.block.live then None else Some double_free) else Some invalid_free) has.at_number.node.kind
          ∙ ap (λ (b : Bool). if is_heap found.kind && int_eq offset (pos 0) then (if b then None else Some double_free) else Some invalid_free) (has.at_number.node.live ∙ sym live)
      by_life false dead = through (slice_get state.memory has.0) refl has.2
        where
          has : (number : ℕ) × (given.blocks object ≡ number ∷ []) × IsGone found.kind (slice_get state.memory number)
          has = subst (λ (b : Bool). HasBlocksAs b state.memory found given.word (λ value. own_offset (value_at parts.values value)) (given.blocks object)) dead (meets.objects object found there)

          word : given.word key ≡ To has.0 offset
          word = word_of parts state given form meets key 0 object has.0 offset stands has.1

          inside : has.0 < length state.memory
          inside = let below : IsWordBelow (length state.memory) (To has.0 offset) = is.registers at (To has.0 offset) (register ∙ ap Some word) in below.named

          nothing : Block
          nothing = record { base = 0; kind = found.kind; live = false; bytes = [] }

          through : (block : Option Block) → slice_get state.memory has.0 ≡ block → IsGone found.kind block → free_fault state.memory (given.word key) ≡ object_fault found offset
          through None none gone = absurd (none-some (get_or state.memory has.0 nothing) (sym none ∙ slice_get-get_or state.memory has.0 nothing inside))
          through (Some block) some gone =
              ap (free_fault state.memory) word
              ∙ ap (λ (o : Option Block). block_free_fault o offset) some
              ∙ ap (λ (k : BlockKind). if is_heap k && int_eq offset (pos 0) then (if block.live then None else Some double_free) else Some invalid_free) gone.1
              ∙ ap (λ (b : Bool). if is_heap found.kind && int_eq offset (pos 0) then (if b then None else Some double_free) else Some invalid_free) (gone.0 ∙ sym dead)
