-- What steps ask for is there where a graph fits the point.
use Rattle.std.proofs.Common.{◌≡◌, ℕ, Bool, true, false, not, ◌&&◌, ◌||◌, List, [], ◌∷◌, map, length, nat_eq, nat_le, Option, None, Some, refl, sym, ◌∙◌, ap, subst, eqb-true, eq-eqb, le-leb, arith}
use Rattle.std.specs.Prelude.{IsSome, IsTrue, All, is_some, is_none, option_map, slice_get}
use Rattle.std.specs.List.{list_all, list_any}
use Rattle.std.specs.Option.{option_map_or, option_and_then}
use Rattle.std.proofs.lemmas.Bool.{false≢true}
use Rattle.std.proofs.lemmas.Option.{same_Some, none-some}
use Rattle.graph.specs.declared.object.Object.{Object}
use Rattle.graph.specs.declared.object.Shape.{Shape}
use Rattle.graph.specs.declared.object.Shape.TheVariants.{Region as RegionShape, Segment}
use Rattle.graph.specs.declared.parts.KeyedObject.{KeyedObject}
use Rattle.graph.specs.declared.parts.KeyedValue.{KeyedValue}
use Rattle.graph.specs.declared.parts.Parts.{Parts}
use Rattle.graph.specs.declared.value.Target.{Target}
use Rattle.graph.specs.declared.value.Target.TheVariants.{Region, First, Last, Each}
use Rattle.graph.specs.declared.value.Value.{Value}
use Rattle.graph.specs.declared.value.Value.TheVariants.{Const, Number, Any, Address}
use Rattle.graph.specs.Maps.{object_at, value_at, storage_of, held_by}
use Rattle.graph.specs.Nodes.{is_region}
use Rattle.graph.specs.Sizes.{value_size}
use Rattle.graph.specs.WellFormed.{passes_at, target_fits, leads_to_object, may_be_held}
use Rattle.graph.specs.Whole.{IsGraph}
use Rattle.graph.proofs.Found.{Holds, Holds-some, found-all}
use Rattle.graph.proofs.Sent.{passes-some}
use Rattle.graph.proofs.Tests.{and_left, and_right, and_both}
use Rattle.changes.specs.Following.{holds_size}
use Rattle.changes.specs.Reaching.{names_no_segment, is_address_held}
use Rattle.flow.specs.declared.flow_graph.Flow.{Flow}
use Rattle.flow.specs.declared.flow_graph.Variable.{Variable}
use Rattle.flow.specs.declared.flow_graph.Width.{Width}
use Rattle.flow.specs.Holding.{size_of}
use Rattle.flow.specs.Machine.{size_in}
use Rattle.flow.specs.Standing.{any, sized, stands_as_asked, is_asked_size, stands_at}
use Rattle.flow.specs.Valid.{is_fixed, is_local, is_object_size, same_size}
use Rattle.flow.specs.Valid as flows
use Rattle.flow.proofs.Ascending.{All-at}
use Rattle.graph.specs.WellFormed as graphs
use Rattle.reinterpret.specs.Sameness.{are_of_one_size, keys_compare, may_compare}
use Rattle.block_steps.specs.Entering.{MayEnter}
use Rattle.edge_steps.specs.Laws.{sizes_at}
use Rattle.heap_steps.specs.Leaving.{MayLeave}
use Rattle.heap_steps.specs.Regions.{AreRegions}
use Rattle.register_steps.specs.Gaining.{size_held}
use Rattle.settle.specs.Settled.{value_held, name_no_segment}
use Rattle.transfer.specs.Fitting.{held_size, FitsAt}

-- What is asked for.

pub asked_size : (widths : List Width) (register size : ℕ) → stands_as_asked widths (sized size register) ≡ true → size_of widths register ≡ Some size
asked_size widths register size asked = by_found (size_of widths register) asked
  where
    by_found : (found : Option ℕ) → option_map_or (is_asked_size (Some size)) found false ≡ true → found ≡ Some size
    by_found None asked = absurd (false≢true asked)
    by_found (Some other) asked = ap Some (sym (eqb-true _ _ asked))

pub asked_any : (widths : List Width) (register : ℕ) → stands_as_asked widths (any register) ≡ true → IsSome (size_of widths register)
asked_any widths register asked = by_found (size_of widths register) asked
  where
    by_found : (found : Option ℕ) → option_map_or (is_asked_size None) found false ≡ true → IsSome found
    by_found None asked = absurd (false≢true asked)
    by_found (Some other) asked = refl

-- What registers hold.

pub record HoldsSized (parts : Parts) (register size : ℕ) : Type 0 where
  pub key : ℕ
  pub value : Value
  pub held : held_by parts.registers register ≡ Some key
  pub is : value_at parts.values key ≡ Some value
  pub size_is : value_size value ≡ size

pub holds_sized : (parts : Parts) (register size : ℕ) → held_size parts register ≡ Some size → HoldsSized parts register size
holds_sized parts register size is = by_key (held_by parts.registers register) refl is
  where
    by_value : (key : ℕ) → held_by parts.registers register ≡ Some key → (found : Option Value) → value_at parts.values key ≡ found → option_map value_size found ≡ Some size → HoldsSized parts register size
    by_value key held None stands is = absurd (none-some size is)
    by_value key held (Some value) stands is = record { key = key; value = value; held = held; is = stands; size_is = same_Some _ _ is }

    by_key : (found : Option ℕ) → held_by parts.registers register ≡ found → option_and_then (λ key. option_map value_size (value_at parts.values key)) found ≡ Some size → HoldsSized parts register size
    by_key None held is = absurd (none-some size is)
    by_key (Some key) held is = by_value key held (value_at parts.values key) refl is

-- where all objects are regions no value that is held names a node of a segment
region_target : (target : Target) (shape : Shape) → is_region shape ≡ true → target_fits target shape ≡ true → (object : ℕ) (offset : _) → names_no_segment (Address object offset target) ≡ true
region_target Region shape region fits object offset = refl
region_target First RegionShape region fits object offset = absurd (false≢true fits)
region_target First (Segment twofold head next prev back least next_value prev_value node) region fits object offset = absurd (false≢true region)
region_target Last RegionShape region fits object offset = absurd (false≢true fits)
region_target Last (Segment twofold head next prev back least next_value prev_value node) region fits object offset = absurd (false≢true region)
region_target Each RegionShape region fits object offset = absurd (false≢true fits)
region_target Each (Segment twofold head next prev back least next_value prev_value node) region fits object offset = absurd (false≢true region)

module _ (parts : Parts) (regions : AreRegions parts.objects) (graph : IsGraph parts) where
  pub names_none : (key : ℕ) (value : Value) → value_at parts.values key ≡ Some value → names_no_segment value ≡ true
  names_none key (Const number size) is = refl
  names_none key (Number size) is = refl
  names_none key Any is = refl
  names_none key (Address object offset target) is =
      region_target target found.item.shape
      (found-all (λ (entry : KeyedObject). entry.key) (λ entry. entry.object) (λ (o : Object). is_region o.shape) parts.objects object found.item regions found.is)
      (subst (λ (o : Option Object). option_map_or (λ (o : Object). target_fits target o.shape) o false ≡ true) found.is leads) object offset
    where
      leads : leads_to_object parts (Address object offset target) ≡ true
      leads = found-all (λ (entry : KeyedValue). entry.key) (λ entry. entry.value) (leads_to_object parts) parts.values key (Address object offset target) graph.well_formed.addresses_lead_to_objects is

      found : Holds (object_at parts.objects object)
      found = Holds-some (object_at parts.objects object) (passes-some (λ (o : Object). target_fits target o.shape) (object_at parts.objects object) leads)

  -- so no register does
  pub none_named : (registers : List ℕ) → name_no_segment registers parts ≡ true
  none_named [] = refl
  none_named (register ∷ rest) =
      and_both (option_map_or names_no_segment (value_held parts register) true) (name_no_segment rest parts) (by_key (held_by parts.registers register)) (none_named rest)
    where
      by_value : (key : ℕ) (found : Option Value) → value_at parts.values key ≡ found → option_map_or names_no_segment found true ≡ true
      by_value key None is = refl
      by_value key (Some value) is = names_none key value is

      by_key : (found : Option ℕ) → option_map_or names_no_segment (option_and_then (value_at parts.values) found) true ≡ true
      by_key None = refl
      by_key (Some key) = by_value key (value_at parts.values key) refl

module _ (flow : Flow) (point : ℕ) (parts : Parts) (fits : FitsAt flow point parts) (graph : IsGraph parts) where
  -- a register that names no segment
  abbrev NamesNone : ℕ → Type 0
  NamesNone register = option_map_or names_no_segment (value_held parts register) true ≡ true

  held_names : (register size : ℕ) → NamesNone register → (has : HoldsSized parts register size) → names_no_segment has.value ≡ true
  held_names register size names has =
      sym (ap (λ (o : Option ℕ). option_map_or names_no_segment (option_and_then (value_at parts.values) o) true) has.held
      ∙ ap (λ (o : Option Value). option_map_or names_no_segment o true) has.is)
      ∙ names

  widths : List Width
  widths = (stands_at flow point).registers

  sized_here : (register size : ℕ) → size_of (stands_at flow point).registers register ≡ Some size → HoldsSized parts register size
  sized_here register size is = holds_sized parts register size (fits.registers register ∙ is)

  -- a register holds an address
  pub address_ready : (register : ℕ) → NamesNone register → stands_as_asked (stands_at flow point).registers (sized 8 register) ≡ true → is_address_held parts register ≡ true
  address_ready register names asked =
      let has = sized_here register 8 (asked_size (stands_at flow point).registers register 8 asked) in
      ap (λ (o : Option ℕ). option_map_or (passes_at parts (λ value. nat_eq (value_size value) 8 && names_no_segment value)) o false) has.held
      ∙ ap (λ (o : Option Value). option_map_or (λ value. nat_eq (value_size value) 8 && names_no_segment value) o false) has.is
      ∙ and_both (nat_eq (value_size has.value) 8) (names_no_segment has.value) (eq-eqb _ _ has.size_is) (held_names register 8 names has)

  -- a register holds a value of a size
  pub size_ready : (register size : ℕ) → stands_as_asked (stands_at flow point).registers (sized size register) ≡ true → holds_size parts register size ≡ true
  size_ready register size asked =
      let has = sized_here register size (asked_size (stands_at flow point).registers register size asked) in
      ap (λ (o : Option ℕ). option_map_or (passes_at parts (λ value. nat_eq (value_size value) size)) o false) has.held
      ∙ ap (λ (o : Option Value). option_map_or (λ value. nat_eq (value_size value) size) o false) has.is
      ∙ eq-eqb _ _ has.size_is

  -- a register holds something
  pub held_ready : (register : ℕ) → stands_as_asked (stands_at flow point).registers (any register) ≡ true → IsSome (held_by parts.registers register)
  held_ready register asked = by_size (size_of (stands_at flow point).registers register) refl (asked_any (stands_at flow point).registers register asked)
    where
      by_size : (found : Option ℕ) → size_of (stands_at flow point).registers register ≡ found → IsSome found → IsSome (held_by parts.registers register)
      by_size None is some = absurd (false≢true some)
      by_size (Some size) is some = let has = sized_here register size is in subst (λ (o : Option ℕ). IsSome o) (sym has.held) refl

  -- two registers hold values of one size
  pub compare_ready : (one other : ℕ) → NamesNone one → NamesNone other → same_size (size_of (stands_at flow point).registers one) (size_of (stands_at flow point).registers other) ≡ true → may_compare parts one other ≡ true
  compare_ready one other names names' same = by_sizes (size_of (stands_at flow point).registers one) refl (size_of (stands_at flow point).registers other) refl same
    where
      by_sizes : (first : Option ℕ) → size_of (stands_at flow point).registers one ≡ first → (second : Option ℕ) → size_of (stands_at flow point).registers other ≡ second → same_size first second ≡ true → may_compare parts one other ≡ true
      by_sizes None is second is_second same = absurd (false≢true same)
      by_sizes (Some size) is None is_second same = absurd (false≢true same)
      by_sizes (Some size) is (Some size') is_second same =
          let has = sized_here one size is in
          let has' = sized_here other size' is_second in
          ap (λ (o : Option ℕ). keys_compare parts o (held_by parts.registers other)) has.held
          ∙ ap (λ (o : Option ℕ). keys_compare parts (Some has.key) o) has'.held
          ∙ ap (λ (o : Option Value). option_map_or (λ value. passes_at parts (are_of_one_size value) has'.key) o false) has.is
          ∙ ap (λ (o : Option Value). option_map_or (are_of_one_size has.value) o false) has'.is
          ∙ and_both (nat_eq (value_size has.value) (value_size has'.value)) (names_no_segment has.value && names_no_segment has'.value)
          (eq-eqb _ _ (has.size_is ∙ eqb-true _ _ same ∙ sym has'.size_is))
          (and_both (names_no_segment has.value) (names_no_segment has'.value) (held_names one size names has) (held_names other size' names' has'))

  -- variables begin to stand
  small_sizes : All (λ variable. IsTrue (is_object_size variable.size)) flow.variables → (variables : List ℕ) → list_all (λ size. nat_le size 65536) (map (size_in flow) variables) ≡ true
  small_sizes all [] = refl
  small_sizes all (variable ∷ rest) = and_both (nat_le (size_in flow variable) 65536) (list_all (λ size. nat_le size 65536) (map (size_in flow) rest)) (by_found (slice_get flow.variables variable) refl) (small_sizes all rest)
    where
      by_found : (found : Option Variable) → slice_get flow.variables variable ≡ found → nat_le (option_map_or (λ (v : Variable). v.size) found 0) 65536 ≡ true
      by_found None is = le-leb 0 65536 (omega arith)
      by_found (Some found) is = All-at (λ (v : Variable). IsTrue (is_object_size v.size)) flow.variables variable found is all

  not_named : (variable : ℕ) → (is_local flow variable && not (list_any (nat_eq variable) (stands_at flow point).variables)) ≡ true → is_none (storage_of parts.variables variable) ≡ true
  not_named variable new = by_found (storage_of parts.variables variable) (fits.variables variable ∙ by_fixed (slice_get flow.variables variable) (and_left (is_local flow variable) (not (list_any (nat_eq variable) (stands_at flow point).variables)) new)
      (list_any (nat_eq variable) (stands_at flow point).variables) (and_right (is_local flow variable) (not (list_any (nat_eq variable) (stands_at flow point).variables)) new))
    where
      by_found : (found : Option ℕ) → is_some found ≡ false → is_none found ≡ true
      by_found None none = refl
      by_found (Some key) none = absurd (false≢true (sym none))

      by_stands : (b : Bool) → not b ≡ true → b ≡ false
      by_stands true is = absurd (false≢true is)
      by_stands false is = refl

      by_fixed : (found : Option Variable) → option_map_or (λ (v : Variable). not v.fixed) found false ≡ true → (b : Bool) → not b ≡ true → (option_map_or (λ (v : Variable). v.fixed) found false || b) ≡ false
      by_fixed None local b is = absurd (false≢true local)
      by_fixed (Some found) local b is = ap (λ (f : Bool). f || b) (by_stands found.fixed local) ∙ by_stands b is

  none_stored : (variables : List ℕ) → list_all (λ variable. is_local flow variable && not (list_any (nat_eq variable) (stands_at flow point).variables)) variables ≡ true →
      list_all (λ variable. is_none (storage_of parts.variables variable)) variables ≡ true
  none_stored [] all = refl
  none_stored (variable ∷ rest) all =
      and_both (is_none (storage_of parts.variables variable)) (list_all (λ variable. is_none (storage_of parts.variables variable)) rest)
      (not_named variable (and_left (is_local flow variable && not (list_any (nat_eq variable) (stands_at flow point).variables)) (list_all (λ variable. is_local flow variable && not (list_any (nat_eq variable) (stands_at flow point).variables)) rest) all))
      (none_stored rest (and_right (is_local flow variable && not (list_any (nat_eq variable) (stands_at flow point).variables)) (list_all (λ variable. is_local flow variable && not (list_any (nat_eq variable) (stands_at flow point).variables)) rest) all))

  many : (variables : List ℕ) → length (map (size_in flow) variables) ≡ length variables
  many [] = refl
  many (variable ∷ rest) = let later = many rest in omega arith

  none_equal : (first : ℕ) (rest : List ℕ) → not (list_any (nat_eq first) rest) ≡ list_all (λ other. not (nat_eq first other)) rest
  none_equal first [] = refl
  none_equal first (other ∷ rest) = by_test (nat_eq first other) (none_equal first rest)
    where
      by_test : (b : Bool) → not (list_any (nat_eq first) rest) ≡ list_all (λ other. not (nat_eq first other)) rest →
          not (b || list_any (nat_eq first) rest) ≡ (not b && list_all (λ other. not (nat_eq first other)) rest)
      by_test true later = refl
      by_test false later = later

  distinct_same : (variables : List ℕ) → flows.are_distinct variables ≡ graphs.are_distinct variables
  distinct_same [] = refl
  distinct_same (first ∷ rest) = ap (λ (b : Bool). b && flows.are_distinct rest) (none_equal first rest) ∙ ap (λ (b : Bool). list_all (λ other. not (nat_eq first other)) rest && b) (distinct_same rest)

  pub enter_ready : All (λ variable. IsTrue (is_object_size variable.size)) flow.variables → (variables : List ℕ) →
      (flows.are_distinct variables && list_all (λ variable. is_local flow variable && not (list_any (nat_eq variable) (stands_at flow point).variables)) variables) ≡ true → MayEnter parts variables (map (size_in flow) variables)
  enter_ready all variables scope = record {
    many = many variables;
    small = small_sizes all variables;
    distinct = sym (distinct_same variables) ∙ and_left (flows.are_distinct variables) (list_all (λ variable. is_local flow variable && not (list_any (nat_eq variable) (stands_at flow point).variables)) variables) scope;
    unnamed = none_stored variables (and_right (flows.are_distinct variables) (list_all (λ variable. is_local flow variable && not (list_any (nat_eq variable) (stands_at flow point).variables)) variables) scope);
  }

  -- variables that stand may be left
  some_named : (variables : List ℕ) → list_all (λ variable. list_any (nat_eq variable) (stands_at flow point).variables) variables ≡ true → list_all (λ variable. is_some (storage_of parts.variables variable)) variables ≡ true
  some_named [] all = refl
  some_named (variable ∷ rest) all =
      and_both (is_some (storage_of parts.variables variable)) (list_all (λ variable. is_some (storage_of parts.variables variable)) rest)
      (fits.variables variable ∙ by_stands (is_fixed flow variable) (list_any (nat_eq variable) (stands_at flow point).variables) (and_left (list_any (nat_eq variable) (stands_at flow point).variables) (list_all (λ variable. list_any (nat_eq variable) (stands_at flow point).variables) rest) all))
      (some_named rest (and_right (list_any (nat_eq variable) (stands_at flow point).variables) (list_all (λ variable. list_any (nat_eq variable) (stands_at flow point).variables) rest) all))
    where
      by_stands : (fixed stands : Bool) → stands ≡ true → (fixed || stands) ≡ true
      by_stands true stands is = refl
      by_stands false stands is = is

  pub leave_ready : (variables : List ℕ) → (flows.are_distinct variables && list_all (λ variable. list_any (nat_eq variable) (stands_at flow point).variables) variables) ≡ true → MayLeave parts variables
  leave_ready variables scope = record {
    distinct = sym (distinct_same variables) ∙ and_left (flows.are_distinct variables) (list_all (λ variable. list_any (nat_eq variable) (stands_at flow point).variables) variables) scope;
    named = some_named variables (and_right (flows.are_distinct variables) (list_all (λ variable. list_any (nat_eq variable) (stands_at flow point).variables) variables) scope);
  }

  -- the size of what a register holds is the one that stands
  pub size_stands : (register : ℕ) → size_held parts register ≡ sizes_at flow point register
  size_stands register = by_key (held_by parts.registers register) ∙ ap (λ (o : Option ℕ). option_map_or (λ size. size) o 0) (fits.registers register)
    where
      by_value : (found : Option Value) → option_map_or value_size found 0 ≡ option_map_or (λ size. size) (option_map value_size found) 0
      by_value None = refl
      by_value (Some value) = refl

      by_key : (found : Option ℕ) → option_map_or (λ key. option_map_or value_size (value_at parts.values key) 0) found 0
          ≡ option_map_or (λ size. size) (option_and_then (λ key. option_map value_size (value_at parts.values key)) found) 0
      by_key None = refl
      by_key (Some key) = by_value (value_at parts.values key)
