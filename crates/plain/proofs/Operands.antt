-- What registers hold in a graph that shows a state: a constant or an address, and a constant where the register holds a plain number.
use Rattle.std.proofs.Common.{◌≡◌, ℕ, Bool, true, false, [], ◌∷◌, ℤ, Option, None, Some, refl, sym, ◌∙◌, ap, subst}
use Rattle.std.specs.Prelude.{option_map}
use Rattle.std.specs.Option.{option_map_or, option_and_then}
use Rattle.std.proofs.lemmas.Bool.{false≢true}
use Rattle.bytes_core.specs.declared.word.Word.TheVariants.{To}
use Rattle.graph.specs.declared.parts.KeyedValue.{KeyedValue}
use Rattle.graph.specs.declared.parts.Parts.{Parts}
use Rattle.graph.specs.declared.value.Target.{Target}
use Rattle.graph.specs.declared.value.Target.TheVariants.{Region}
use Rattle.graph.specs.declared.value.Value.{Value}
use Rattle.graph.specs.declared.value.Value.TheVariants.{Const, Number, Any, Address}
use Rattle.graph.specs.Maps.{value_at, held_by}
use Rattle.graph.specs.Meaning.{HasBlocksAs, own_offset, maps_of, Assignment, Meets}
use Rattle.graph.specs.State.{State}
use Rattle.graph.specs.WellFormed.{passes_at}
use Rattle.graph.specs.Whole.{IsGraph}
use Rattle.changes.proofs.Meeting.{IsRegionAt, region_at, has_block, word_of, region_target}
use Rattle.flow.specs.declared.flow_graph.Flow.{Flow}
use Rattle.register_steps.specs.declared.line.Line.{Line}
use Rattle.register_steps.specs.Lines.{nothing}
use Rattle.register_steps.specs.Steps.{entry_held, on_held}
use Rattle.transfer.specs.OfRegions.{FitsOfRegions}
use Rattle.transfer.proofs.Ready.{names_none}
use Rattle.plain.specs.Marks.{Marks}
use Rattle.plain.specs.Conditions.{IsKnown, HoldsNumber, is_plain}
use Rattle.plain.specs.Shown.{is_sure, may_show, IsShownBy}

module _ (flow : Flow) (point : ℕ) (parts : Parts) (fits : FitsOfRegions flow point parts) (graph : IsGraph parts) (state : State) (given : Assignment) (meets : Meets (maps_of parts) state given) where
  -- an address is that of a block
  pub address_leads : (key object : ℕ) (offset : ℤ) (target : Target) → value_at parts.values key ≡ Some (Address object offset target) → (number : ℕ) × (given.blocks object ≡ number ∷ []) × (given.word key ≡ To number offset)
  address_leads key object offset target is = by_life region.found.live refl
    where
      here : value_at parts.values key ≡ Some (Address object offset Region)
      here = is ∙ ap (λ (t : Target). Some (Address object offset t)) (region_target object offset target (names_none parts fits.regions graph key (Address object offset target) is))

      region : IsRegionAt parts state given graph.well_formed meets key 0 object
      region = region_at parts state given graph.well_formed meets key 0 object offset here

      word : (number : ℕ) → given.blocks object ≡ number ∷ [] → given.word key ≡ To number offset
      word number blocks = word_of parts state given graph.well_formed meets key 0 object number offset here blocks

      by_life : (b : Bool) → region.found.live ≡ b → (number : ℕ) × (given.blocks object ≡ number ∷ []) × (given.word key ≡ To number offset)
      by_life true live =
          let has = has_block parts state given graph.well_formed meets key 0 object region.found region.is live region.region in
          (has.number, has.blocks, word has.number has.blocks)
      by_life false dead =
          let has = subst (λ (b : Bool). HasBlocksAs b state.memory region.found given.word (λ value. own_offset (value_at parts.values value)) (given.blocks object)) dead (meets.objects object region.found region.is) in
          (has.0, has.1, word has.0 has.1)

-- what a register holds, with its key
pub record IsFound (parts : Parts) (register : ℕ) (entry : KeyedValue) : Type 0 where
  pub held : held_by parts.registers register ≡ Some entry.key
  pub is : value_at parts.values entry.key ≡ Some entry.value

pub on_entry : (parts : Parts) (register : ℕ) (P : Line → Type 0) (onward : KeyedValue → Line) → P nothing → ((entry : KeyedValue) → IsFound parts register entry → P (onward entry)) → P (on_held (entry_held parts register) onward)
on_entry parts register P onward none some = by_key (held_by parts.registers register) refl
  where
    by_value : (key : ℕ) → held_by parts.registers register ≡ Some key → (found : Option Value) → value_at parts.values key ≡ found → P (on_held (option_map (λ value. record { key = key; value = value }) found) onward)
    by_value key held None is = none
    by_value key held (Some value) is = some (record { key = key; value = value }) (record { held = held; is = is })

    by_key : (found : Option ℕ) → held_by parts.registers register ≡ found → P (on_held (option_and_then (λ key. option_map (λ value. record { key = key; value = value }) (value_at parts.values key)) found) onward)
    by_key None held = none
    by_key (Some key) held = by_value key held (value_at parts.values key) refl

-- a value is a constant
abbrev pub is_const : Value → Bool
is_const (Const number size) = true
is_const (Number size) = false
is_const Any = false
is_const (Address object offset target) = false

module _ (parts : Parts) (state : State) (marks : Marks) (given : Assignment) (shown : IsShownBy parts state marks given) where
  -- a register that holds no number from outside holds a constant or an address
  pub sure_at : (register key : ℕ) → IsKnown marks register → held_by parts.registers register ≡ Some key → passes_at parts is_sure key ≡ true
  sure_at register key known held = subst (λ (b : Bool). passes_at parts (may_show b) key ≡ true) known (shown.registers register key held)

  pub sure_value : (register key : ℕ) (value : Value) → IsKnown marks register → held_by parts.registers register ≡ Some key → value_at parts.values key ≡ Some value → is_sure value ≡ true
  sure_value register key value known held is = subst (λ (o : Option Value). option_map_or is_sure o false ≡ true) is (sure_at register key known held)

  -- and a constant, where that is a plain number
  pub number_value : (flow : Flow) (point : ℕ) → FitsOfRegions flow point parts → IsGraph parts → (register key : ℕ) (value : Value) → HoldsNumber state marks register → held_by parts.registers register ≡ Some key →
      value_at parts.values key ≡ Some value → is_const value ≡ true
  number_value flow point fits graph register key value holds held is = by_value value is (sure_value register key value holds.known held is)
    where
      by_value : (v : Value) → value_at parts.values key ≡ Some v → is_sure v ≡ true → is_const v ≡ true
      by_value (Const number size) stands sure = refl
      by_value (Number size) stands sure = sure
      by_value Any stands sure = sure
      by_value (Address object offset target) stands sure =
          let leads = address_leads flow point parts fits graph state given shown.meets key object offset target stands in
          ap is_plain (sym leads.2) ∙ holds.plain (given.word key) (shown.meets.registers register ∙ ap (option_map given.word) held)

-- what a register holds that holds something of a kind
pub record HoldsValue (parts : Parts) (register : ℕ) (test : Value → Bool) : Type 0 where
  pub key : ℕ
  pub value : Value
  pub held : held_by parts.registers register ≡ Some key
  pub is : value_at parts.values key ≡ Some value
  pub passes : test value ≡ true

pub holds_value : (parts : Parts) (register : ℕ) (test : Value → Bool) → option_map_or (passes_at parts test) (held_by parts.registers register) false ≡ true → HoldsValue parts register test
holds_value parts register test has = by_key (held_by parts.registers register) refl has
  where
    by_value : (key : ℕ) → held_by parts.registers register ≡ Some key → (found : Option Value) → value_at parts.values key ≡ found → option_map_or test found false ≡ true → HoldsValue parts register test
    by_value key held None is passes = absurd (false≢true passes)
    by_value key held (Some value) is passes = record { key = key; value = value; held = held; is = is; passes = passes }

    by_key : (found : Option ℕ) → held_by parts.registers register ≡ found → option_map_or (passes_at parts test) found false ≡ true → HoldsValue parts register test
    by_key None held passes = absurd (false≢true passes)
    by_key (Some key) held passes = by_value key held (value_at parts.values key) refl passes
