-- Values that are moved.
use Rattle.std.proofs.Common.{◌≡◌, ℕ, ◌^◌, ◌<◌, Bool, true, false, List, [], ◌∷◌, length, nat_lt, Option, None, Some, refl, sym, ◌∙◌, ap, subst, lt-ltb}
use Rattle.std.specs.Prelude.{ℤ, pos, ◌+ℤ◌, ◌*ℤ◌, IsSome}
use Rattle.std.specs.Int.{w64, cast_signed}
use Rattle.std.specs.Option.{option_map_or}
use Rattle.std.proofs.lemmas.Bool.{false≢true}
use Rattle.std.proofs.lemmas.Option.{none-some}
use Rattle.arithmetic.specs.Value.{value}
use Rattle.bytes_core.specs.declared.word.Word.{Word}
use Rattle.bytes_core.specs.declared.word.Word.TheVariants.{Plain, To}
use Rattle.bytes_core.specs.Value.{address_number, wrapped, moved}
use Rattle.graph.specs.declared.object.Object.{Object}
use Rattle.graph.specs.declared.object.Shape.{Shape}
use Rattle.graph.specs.declared.object.Shape.TheVariants.{Region as RegionShape, Segment}
use Rattle.graph.specs.declared.parts.KeyedValue.{KeyedValue}
use Rattle.graph.specs.declared.parts.Parts.{Parts}
use Rattle.graph.specs.declared.value.Target.{Target}
use Rattle.graph.specs.declared.value.Target.TheVariants.{Region, First, Last, Each}
use Rattle.graph.specs.declared.value.Value.{Value}
use Rattle.graph.specs.declared.value.Value.TheVariants.{Const, Number, Any, Address}
use Rattle.graph.specs.Maps.{object_at, value_at}
use Rattle.graph.specs.State.{State, IsState, IsWordBelow}
use Rattle.graph.specs.WellFormed.{means_one, target_fits, leads_to_object, may_be_held}
use Rattle.graph.specs.Whole.{IsGraph}
use Rattle.graph.specs.Meaning.{HasShape, HasBlocksAs, end_word, block_word, first_of, last_of, Ends, ends_of, address_word, own_offset, maps_of, Assignment, Meets}
use Rattle.graph.proofs.Found.{Holds-some, found-all}
use Rattle.graph.proofs.Sent.{passes-some}
use Rattle.graph.proofs.Tests.{and_both}
use Rattle.register_steps.specs.Lines.{shifted, shifted_somewhere, shifted_by}
use Rattle.register_steps.specs.States.{GivesShifted, GivesShiftedBy}
use Rattle.register_steps.specs.Steps.{line_of_shift, line_of_shift_by, on_held, entry_held}
use Rattle.register_steps.proofs.Gained.{IsRight}
use Rattle.register_steps.proofs.Moved.{wrapped_below, beyond_moved}
use Rattle.register_steps.proofs.Right.{IsRightWord, right_by, IsEntry, entry_word, entry_same, held_right}

moved_below : (count : ℕ) (word : Word) (bytes : ℤ) → IsWordBelow count word → IsWordBelow count (moved word bytes)
moved_below count (Plain number) bytes below = record { small = wrapped_below (pos number +ℤ bytes); named = tt }
moved_below count (To block offset) bytes below = record { small = tt; named = below.named }

-- the addresses of an object whose offset changes
abbrev offset_behind : ℤ → ℤ → ℤ
offset_behind offset bytes = cast_signed w64 (wrapped (offset +ℤ bytes))

end_moved : (found : Option ℕ) (beyond : Word) (place : ℕ) (offset bytes : ℤ) → moved (end_word found beyond place offset) bytes ≡ end_word found beyond place (offset_behind offset bytes)
end_moved None beyond place offset bytes = beyond_moved beyond place offset bytes
end_moved (Some number) beyond place offset bytes = refl

-- a region has one block
abbrev HasOneIf : Target → List ℕ → Type 0
HasOneIf Region blocks = (number : ℕ) × (blocks ≡ number ∷ [])
HasOneIf First blocks = Unit {0}
HasOneIf Last blocks = Unit {0}
HasOneIf Each blocks = Unit {0}

address_moved : (target : Target) (blocks : List ℕ) (ends : Ends) (offset bytes : ℤ) → means_one target ≡ true → HasOneIf target blocks →
    moved (address_word target blocks ends offset) bytes ≡ address_word target blocks ends (offset_behind offset bytes)
address_moved Region blocks ends offset bytes one (number, is) =
    ap (λ (ns : List ℕ). moved (block_word (first_of ns) offset) bytes) is ∙ sym (ap (λ (ns : List ℕ). block_word (first_of ns) (offset_behind offset bytes)) is)
address_moved First blocks ends offset bytes one has = end_moved (first_of blocks) ends.after ends.head offset bytes
address_moved Last blocks ends offset bytes one has = end_moved (last_of blocks) ends.before ends.back offset bytes
address_moved Each blocks ends offset bytes one has = absurd (false≢true one)

region_shape : (shape : Shape) → target_fits Region shape ≡ true → shape ≡ RegionShape
region_shape RegionShape fits = refl
region_shape (Segment twofold head next prev back least next_value prev_value node) fits = absurd (false≢true fits)

module _ (parts : Parts) (graph : IsGraph parts) where
  leads : (key : ℕ) (value : Value) → value_at parts.values key ≡ Some value → leads_to_object parts value ≡ true
  leads key value is = found-all (λ (entry : KeyedValue). entry.key) (λ entry. entry.value) (leads_to_object parts) parts.values key value graph.well_formed.addresses_lead_to_objects is

  region_one : (object : ℕ) (state : State) (given : Assignment) → option_map_or (λ found. target_fits Region found.shape) (object_at parts.objects object) false ≡ true → Meets (maps_of parts) state given →
      (number : ℕ) × (given.blocks object ≡ number ∷ [])
  region_one object state given fits meets =
      let found = Holds-some (object_at parts.objects object) (passes-some (λ found. target_fits Region found.shape) (object_at parts.objects object) fits) in
      let shape = region_shape found.item.shape (subst (λ (o : Option Object). option_map_or (λ found. target_fits Region found.shape) o false ≡ true) found.is fits) in
      by_life found.item.live found.item shape state given (meets.objects object found.item found.is)
    where
      by_life : (b : Bool) (item : Object) → item.shape ≡ RegionShape → (state : State) (given : Assignment) →
          HasBlocksAs b state.memory item given.word (λ value. own_offset (value_at parts.values value)) (given.blocks object) → (number : ℕ) × (given.blocks object ≡ number ∷ [])
      by_life true item shape state given has =
          let one = subst (λ (s : Shape). HasShape s state.memory item given.word (λ value. own_offset (value_at parts.values value)) (given.blocks object)) shape has in (one.0, one.1)
      by_life false item shape state given has = (has.0, has.1)

  has_one : (object : ℕ) (target : Target) (state : State) (given : Assignment) → option_map_or (λ found. target_fits target found.shape) (object_at parts.objects object) false ≡ true → Meets (maps_of parts) state given →
      HasOneIf target (given.blocks object)
  has_one object Region state given fits meets = region_one object state given fits meets
  has_one object First state given fits meets = tt
  has_one object Last state given fits meets = tt
  has_one object Each state given fits meets = tt

  -- a value that is moved by so many bytes
  shifted_right : (key : ℕ) (bytes : ℤ) (held : Value) → value_at parts.values key ≡ Some held → may_be_held held ≡ true → IsRightWord parts (λ state given. moved (given.word key) bytes) 8 (shifted held bytes)
  shifted_right key bytes (Const number size) is may = record {
    may = and_both (nat_lt (wrapped (pos number +ℤ bytes)) (256 ^ 8)) true (lt-ltb _ _ (wrapped_below (pos number +ℤ bytes))) refl;
    sized = refl;
    sound = λ state given state_is meets. ap (λ (w : Word). moved w bytes) (meets.values key (Const number size) is);
    exact = λ none state given word state_is meets has. has ∙ sym (ap (λ (w : Word). moved w bytes) (meets.values key (Const number size) is));
  }
  shifted_right key bytes (Number size) is may = record {
    may = refl;
    sized = refl;
    sound = λ state given state_is meets. by_number (given.word key) (meets.values key (Number size) is);
    exact = λ none. absurd (none-some 1 (sym none));
  }
    where
      by_number : (word : Word) → (number : ℕ) × (word ≡ Plain number) × (number < 256 ^ size) → (number : ℕ) × (moved word bytes ≡ Plain number) × (number < 256 ^ 8)
      by_number word (number, same, fits) = (wrapped (pos number +ℤ bytes), ap (λ (w : Word). moved w bytes) same, wrapped_below (pos number +ℤ bytes))
  shifted_right key bytes Any is may = record {
    may = refl;
    sized = refl;
    sound = λ state given state_is meets. moved_below (length state.memory) (given.word key) bytes (meets.values key Any is);
    exact = λ none. absurd (none-some 1 (sym none));
  }
  shifted_right key bytes (Address object offset target) is may = record {
    may = and_both (leads_to_object parts (Address object offset target)) (means_one target) (leads key (Address object offset target) is) may;
    sized = refl;
    sound = λ state given state_is meets. moves state given meets;
    exact = λ none state given word state_is meets has. has ∙ sym (moves state given meets);
  }
    where
      moves : (state : State) (given : Assignment) → Meets (maps_of parts) state given →
          moved (given.word key) bytes ≡ address_word target (given.blocks object) (ends_of (object_at parts.objects) given.word object) (offset_behind offset bytes)
      moves state given meets =
          ap (λ (w : Word). moved w bytes) (meets.values key (Address object offset target) is)
          ∙ address_moved target (given.blocks object) (ends_of (object_at parts.objects) given.word object) offset bytes may (has_one object target state given (leads key (Address object offset target) is) meets)

  pub shift_right : (at : ℕ) (by : ℤ) → IsRight parts (GivesShifted at by) 8 (line_of_shift parts at by)
  shift_right at by = held_right parts graph at (GivesShifted at by) 8 (λ entry. shifted entry.value by) (λ state word gives. subst (λ (o : Option Word). IsSome o) (sym gives.holds) refl)
      (λ entry has. right_by parts (λ state given. moved (given.word entry.key) by) (GivesShifted at by) 8 (shifted entry.value by) (shifted_right entry.key by entry.value has.is has.may)
      (λ state given word is meets gives. gives.is ∙ ap (λ (w : Word). moved w by) (entry_same parts at entry state given gives.address has meets gives.holds))
      (λ state given word is meets same. record { address = given.word entry.key; holds = entry_word parts at entry state given has meets; is = same }))

  -- by a register

  by_number : (address : Word) (bytes : ℤ) (number : ℕ) (word : Word) → address ≡ Plain number → word ≡ moved address bytes → (n : ℕ) × (word ≡ Plain n) × (n < 256 ^ 8)
  by_number address bytes number word same is = (wrapped (pos number +ℤ bytes), is ∙ ap (λ (w : Word). moved w bytes) same, wrapped_below (pos number +ℤ bytes))

  anywhere : (state : State) (address : Word) (bytes : ℤ) (word : Word) → IsState state → (at : ℕ) → state.registers at ≡ Some address → word ≡ moved address bytes → IsWordBelow (length state.memory) word
  anywhere state address bytes word is at holds same =
      subst (λ (w : Word). IsWordBelow (length state.memory) w) (sym same) (moved_below (length state.memory) address bytes (is.registers at address holds))

  somewhere_right : (at by : ℕ) (scale : ℤ) (address : KeyedValue) → IsEntry parts at address → (held : Value) → value_at parts.values address.key ≡ Some held → IsRight parts (GivesShiftedBy at by scale) 8 (shifted_somewhere held)
  somewhere_right at by scale address has (Const number size) is = record {
    may = refl;
    sized = refl;
    sound = λ state given word state_is meets gives.
        by_number gives.address (value 8 true (address_number state.memory gives.number) *ℤ scale) number word (entry_same parts at address state given gives.address has meets gives.holds ∙ meets.values address.key (Const number size) is) gives.is;
    exact = λ none. absurd (none-some 1 (sym none));
  }
  somewhere_right at by scale address has (Number size) is = record {
    may = refl;
    sized = refl;
    sound = λ state given word state_is meets gives.
        let number = meets.values address.key (Number size) is in
        by_number gives.address (value 8 true (address_number state.memory gives.number) *ℤ scale) number.0 word (entry_same parts at address state given gives.address has meets gives.holds ∙ number.1) gives.is;
    exact = λ none. absurd (none-some 1 (sym none));
  }
  somewhere_right at by scale address has Any is = record {
    may = refl;
    sized = refl;
    sound = λ state given word state_is meets gives. anywhere state gives.address (value 8 true (address_number state.memory gives.number) *ℤ scale) word state_is at gives.holds gives.is;
    exact = λ none. absurd (none-some 1 (sym none));
  }
  somewhere_right at by scale address has (Address object offset target) is = record {
    may = refl;
    sized = refl;
    sound = λ state given word state_is meets gives. anywhere state gives.address (value 8 true (address_number state.memory gives.number) *ℤ scale) word state_is at gives.holds gives.is;
    exact = λ none. absurd (none-some 7 (sym none));
  }

  shifted_by_right : (at by : ℕ) (scale : ℤ) (address : KeyedValue) → IsEntry parts at address → (number : KeyedValue) → IsEntry parts by number → (held : Value) → value_at parts.values number.key ≡ Some held →
      IsRight parts (GivesShiftedBy at by scale) 8 (shifted_by address.value held scale)
  shifted_by_right at by scale address has number has_number (Const found size) is =
      right_by parts (λ state given. moved (given.word address.key) (value 8 true found *ℤ scale)) (GivesShiftedBy at by scale) 8 (shifted address.value (value 8 true found *ℤ scale))
      (shifted_right address.key (value 8 true found *ℤ scale) address.value has.is has.may)
      (λ state given word state_is meets gives.
      gives.is ∙ ap (λ (w : Word). moved w (value 8 true (address_number state.memory gives.number) *ℤ scale)) (entry_same parts at address state given gives.address has meets gives.holds)
      ∙ ap (λ (w : Word). moved (given.word address.key) (value 8 true (address_number state.memory w) *ℤ scale))
      (entry_same parts by number state given gives.number has_number meets gives.holds_number ∙ meets.values number.key (Const found size) is))
      (λ state given word state_is meets same. record {
        address = given.word address.key;
        number = given.word number.key;
        holds = entry_word parts at address state given has meets;
        holds_number = entry_word parts by number state given has_number meets;
        is = same ∙ sym (ap (λ (w : Word). moved (given.word address.key) (value 8 true (address_number state.memory w) *ℤ scale)) (meets.values number.key (Const found size) is));
      })
  shifted_by_right at by scale address has number has_number (Number size) is = somewhere_right at by scale address has address.value has.is
  shifted_by_right at by scale address has number has_number Any is = somewhere_right at by scale address has address.value has.is
  shifted_by_right at by scale address has number has_number (Address object offset target) is = somewhere_right at by scale address has address.value has.is

  pub shift_by_right : (at by : ℕ) (scale : ℤ) → IsRight parts (GivesShiftedBy at by scale) 8 (line_of_shift_by parts at by scale)
  shift_by_right at by scale =
      held_right parts graph at (GivesShiftedBy at by scale) 8 (λ address. on_held (entry_held parts by) (λ number. shifted_by address.value number.value scale))
      (λ state word gives. subst (λ (o : Option Word). IsSome o) (sym gives.holds) refl)
      (λ address has. held_right parts graph by (GivesShiftedBy at by scale) 8 (λ number. shifted_by address.value number.value scale) (λ state word gives. subst (λ (o : Option Word). IsSome o) (sym gives.holds_number) refl)
      (λ number has_number. shifted_by_right at by scale address has number has_number number.value has_number.is))
