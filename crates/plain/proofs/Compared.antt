-- Of what a plain test compares the graph knows all.
use Rattle.std.proofs.Common.{◌≡◌, ℕ, Bool, true, false, not, ◌&&◌, ◌||◌, List, [], ◌∷◌, length, nat_eq, ℤ, Option, None, Some, refl, sym, ◌∙◌, ap, subst, eqb-true}
use Rattle.std.specs.Prelude.{slice_get, if◌then◌else◌}
use Rattle.std.specs.Option.{option_map_or}
use Rattle.std.specs.Ordering.{int_eq}
use Rattle.std.proofs.lemmas.Bool.{false≢true}
use Rattle.std.proofs.lemmas.Option.{same_Some}
use Rattle.bytes_core.specs.declared.block.Block.{Block}
use Rattle.bytes_core.specs.declared.word.Word.{Word}
use Rattle.bytes_core.specs.declared.word.Word.TheVariants.{Plain, To}
use Rattle.bytes_core.specs.Value.{is_inside}
use Rattle.graph.specs.declared.object.Object.{Object}
use Rattle.graph.specs.declared.parts.Parts.{Parts}
use Rattle.graph.specs.declared.value.Target.{Target}
use Rattle.graph.specs.declared.value.Target.TheVariants.{Region}
use Rattle.graph.specs.declared.value.Value.{Value}
use Rattle.graph.specs.declared.value.Value.TheVariants.{Const, Number, Any, Address}
use Rattle.graph.specs.Maps.{value_at}
use Rattle.graph.specs.Meaning.{HasBlocksAs, IsGone, own_offset, maps_of, Assignment, Meets}
use Rattle.graph.specs.Sizes.{value_size}
use Rattle.graph.specs.State.{State}
use Rattle.graph.specs.WellFormed.{passes_at, may_be_unequal, is_unequal_pair}
use Rattle.graph.specs.Whole.{IsGraph}
use Rattle.graph.proofs.Tests.{and_left, and_right, and_both}
use Rattle.changes.specs.Reaching.{is_excluded}
use Rattle.changes.proofs.Meeting.{IsRegionAt, region_at, has_block, region_target}
use Rattle.flow.specs.declared.flow_graph.Flow.{Flow}
use Rattle.reinterpret.specs.Comparing.{is_inside_live, null_compared, unsure, values_compared}
use Rattle.reinterpret.specs.declared.comparison.Comparison.{Comparison}
use Rattle.reinterpret.specs.declared.comparison.Comparison.TheVariants as known
use Rattle.transfer.specs.OfRegions.{FitsOfRegions}
use Rattle.transfer.proofs.Ready.{names_none}
use Rattle.plain.specs.Conditions.{compares_plainly}
use Rattle.plain.specs.Conditions as conditions
use Rattle.plain.specs.Shown.{is_sure, is_told}
use Rattle.plain.proofs.Operands.{address_leads, is_const}

-- all is known, or a number is compared with a constant of its size
abbrev pub IsSettled : Parts → Comparison → Type 0
IsSettled parts known.Same = Unit {0}
IsSettled parts known.Different = Unit {0}
IsSettled parts (known.Either kept other) = (is_unequal_pair parts (record { left = kept; right = other }) ≡ true) × (number : ℕ) × (size : ℕ) × (size' : ℕ) × (value_at parts.values kept ≡ Some (Const number size)) × (value_at parts.values other ≡ Some (Number size'))
IsSettled parts known.Itself = ⊥
IsSettled parts known.Unknown = ⊥

settled_if : (parts : Parts) (b : Bool) → IsSettled parts (if b then known.Same else known.Different)
settled_if parts true = tt
settled_if parts false = tt

-- a constant and a number of one size, 4 or 8
constant_pair : (parts : Parts) (kept other number size size' : ℕ) → value_at parts.values kept ≡ Some (Const number size) → value_at parts.values other ≡ Some (Number size') → size ≡ size' → (nat_eq size' 4 || nat_eq size' 8) ≡ true →
    is_unequal_pair parts (record { left = kept; right = other }) ≡ true
constant_pair parts kept other number size size' is is' same sized =
    and_both (not (nat_eq kept other)) (passes_at parts (λ one. passes_at parts (may_be_unequal one) other) kept) (by_key (nat_eq kept other) refl)
    (ap (λ (o : Option Value). option_map_or (λ one. passes_at parts (may_be_unequal one) other) o false) is
    ∙ ap (λ (o : Option Value). option_map_or (may_be_unequal (Const number size)) o false) is'
    ∙ ap (λ (n : ℕ). may_be_unequal (Const number n) (Number size')) same ∙ by_size (nat_eq size' 4) (nat_eq size' 8) sized)
  where
    by_key : (b : Bool) → nat_eq kept other ≡ b → not b ≡ true
    by_key true equal = absurd (false≢true (ap is_const (same_Some _ _ (sym is' ∙ ap (value_at parts.values) (sym (eqb-true _ _ equal)) ∙ is))))
    by_key false apart = refl

    by_size : (a b : Bool) → (a || b) ≡ true → (((a && a) || (b && b)) && not (true && false)) ≡ true
    by_size true b any = refl
    by_size false true any = refl
    by_size false false any = any

module _ (flow : Flow) (point : ℕ) (parts : Parts) (fits : FitsOfRegions flow point parts) (graph : IsGraph parts) (state : State) (given : Assignment) (meets : Meets (maps_of parts) state given) where
  -- an address inside a live block is one inside a live object
  inside_there : (key object : ℕ) (offset : ℤ) (target : Target) → value_at parts.values key ≡ Some (Address object offset target) → conditions.is_inside_live state.memory (given.word key) ≡ true →
      is_inside_live parts (Address object offset target) ≡ true
  inside_there key object offset target is inside =
      ap (λ (o : Option Object). option_map_or (λ found. found.live && is_inside found.size offset) o false) region.is ∙ by_life region.found.live refl
    where
      here : value_at parts.values key ≡ Some (Address object offset Region)
      here = is ∙ ap (λ (t : Target). Some (Address object offset t)) (region_target object offset target (names_none parts fits.regions graph key (Address object offset target) is))

      region : IsRegionAt parts state given graph.well_formed meets key 0 object
      region = region_at parts state given graph.well_formed meets key 0 object offset here

      leads : (number : ℕ) × (given.blocks object ≡ number ∷ []) × (given.word key ≡ To number offset)
      leads = address_leads flow point parts fits graph state given meets key object offset target is

      tests : (block : Option Block) → slice_get state.memory leads.0 ≡ block → option_map_or (λ (found : Block). found.live && is_inside (length found.bytes) offset) block false ≡ true
      tests block stands = sym (ap (conditions.is_inside_live state.memory) leads.2 ∙ ap (λ (o : Option Block). option_map_or (λ (found : Block). found.live && is_inside (length found.bytes) offset) o false) stands) ∙ inside

      first_same : (one other : ℕ) → one ∷ [] ≡ other ∷ [] → one ≡ other
      first_same one other same = same_Some _ _ (ap (λ (ns : List ℕ). slice_get ns 0) same)

      gone : (kind : _) (block : Option Block) → slice_get state.memory leads.0 ≡ block → IsGone kind block → ⊥
      gone kind None stands is_gone = false≢true (tests None stands)
      gone kind (Some block) stands is_gone = false≢true (sym is_gone.0 ∙ and_left block.live (is_inside (length block.bytes) offset) (tests (Some block) stands))

      by_life : (b : Bool) → region.found.live ≡ b → (region.found.live && is_inside region.found.size offset) ≡ true
      by_life true live =
          let has = has_block parts state given graph.well_formed meets key 0 object region.found region.is live region.region in
          let number_is : has.number ≡ leads.0 = first_same has.number leads.0 (sym has.blocks ∙ leads.1) in
          let there = ap (slice_get state.memory) (sym number_is) ∙ has.at_number.there in
          and_both region.found.live (is_inside region.found.size offset) live
          (ap (λ (n : ℕ). is_inside n offset) (sym has.at_number.node.size) ∙ and_right has.at_number.block.live (is_inside (length has.at_number.block.bytes) offset) (tests (Some has.at_number.block) there))
      by_life false dead =
          let has = subst (λ (b : Bool). HasBlocksAs b state.memory region.found given.word (λ value. own_offset (value_at parts.values value)) (given.blocks object)) dead (meets.objects object region.found region.is) in
          absurd (gone region.found.kind (slice_get state.memory has.0) (ap (slice_get state.memory) (first_same leads.0 has.0 (sym leads.1 ∙ has.1))) has.2)

  module _ (left right : ℕ) where
    null_settled : (number : ℕ) (value : Value) → (nat_eq number 0 && is_inside_live parts value) ≡ true → IsSettled parts (null_compared parts left right number value)
    null_settled number value both = subst (λ (b : Bool). IsSettled parts (if b then known.Different else unsure left right)) (sym both) tt

    -- two sides that are known
    pub sides_settled : (one other : Value) → value_at parts.values left ≡ Some one → value_at parts.values right ≡ Some other → is_sure one ≡ true → is_sure other ≡ true → compares_plainly state.memory (given.word left) (given.word right) ≡ true →
        IsSettled parts (values_compared parts left right one other)
    sides_settled (Const number size) (Const number' size') is is' sure sure' plain = settled_if parts (nat_eq number number')
    sides_settled (Const number size) (Number size') is is' sure sure' plain = absurd (false≢true sure')
    sides_settled (Const number size) Any is is' sure sure' plain = absurd (false≢true sure')
    sides_settled (Const number size) (Address object offset target) is is' sure sure' plain =
        let leads = address_leads flow point parts fits graph state given meets right object offset target is' in
        let both = sym (ap (λ (w : Word). compares_plainly state.memory w (given.word right)) (meets.values left (Const number size) is) ∙ ap (compares_plainly state.memory (Plain number)) leads.2) ∙ plain in
        null_settled number (Address object offset target)
        (and_both (nat_eq number 0) (is_inside_live parts (Address object offset target)) (and_left (nat_eq number 0) (conditions.is_inside_live state.memory (To leads.0 offset)) both)
        (inside_there right object offset target is' (ap (conditions.is_inside_live state.memory) leads.2 ∙ and_right (nat_eq number 0) (conditions.is_inside_live state.memory (To leads.0 offset)) both)))
    sides_settled (Number size) other is is' sure sure' plain = absurd (false≢true sure)
    sides_settled Any other is is' sure sure' plain = absurd (false≢true sure)
    sides_settled (Address object offset target) (Const number size) is is' sure sure' plain =
        let leads = address_leads flow point parts fits graph state given meets left object offset target is in
        let both = sym (ap (λ (w : Word). compares_plainly state.memory (given.word left) w) (meets.values right (Const number size) is') ∙ ap (λ (w : Word). compares_plainly state.memory w (Plain number)) leads.2) ∙ plain in
        null_settled number (Address object offset target)
        (and_both (nat_eq number 0) (is_inside_live parts (Address object offset target)) (and_left (nat_eq number 0) (conditions.is_inside_live state.memory (To leads.0 offset)) both)
        (inside_there left object offset target is (ap (conditions.is_inside_live state.memory) leads.2 ∙ and_right (nat_eq number 0) (conditions.is_inside_live state.memory (To leads.0 offset)) both)))
    sides_settled (Address object offset target) (Number size) is is' sure sure' plain = absurd (false≢true sure')
    sides_settled (Address object offset target) Any is is' sure sure' plain = absurd (false≢true sure')
    sides_settled (Address object offset target) (Address object' offset' target') is is' sure sure' plain =
        let leads = address_leads flow point parts fits graph state given meets left object offset target is in
        let leads' = address_leads flow point parts fits graph state given meets right object' offset' target' is' in
        let both = sym (ap (λ (w : Word). compares_plainly state.memory w (given.word right)) leads.2 ∙ ap (compares_plainly state.memory (To leads.0 offset)) leads'.2) ∙ plain in
        let here = inside_there left object offset target is (ap (conditions.is_inside_live state.memory) leads.2 ∙ and_left (conditions.is_inside_live state.memory (To leads.0 offset)) (conditions.is_inside_live state.memory (To leads'.0 offset')) both) in
        let here' = inside_there right object' offset' target' is' (ap (conditions.is_inside_live state.memory) leads'.2 ∙ and_right (conditions.is_inside_live state.memory (To leads.0 offset)) (conditions.is_inside_live state.memory (To leads'.0 offset')) both) in
        subst (λ (b : Bool). IsSettled parts (if b then (if nat_eq object object' && int_eq offset offset' then known.Same else known.Different) else unsure left right))
        (sym (and_both (is_inside_live parts (Address object offset target)) (is_inside_live parts (Address object' offset' target')) here here'))
        (settled_if parts (nat_eq object object' && int_eq offset offset'))

    -- a number from outside on the left, and one on the right
    pub left_settled : (one other : Value) → value_at parts.values left ≡ Some one → value_at parts.values right ≡ Some other → is_told one ≡ true → is_const other ≡ true → nat_eq (value_size one) (value_size other) ≡ true →
        IsSettled parts (values_compared parts left right one other)
    left_settled (Const number size) (Const number' size') is is' told const sizes = settled_if parts (nat_eq number number')
    left_settled (Number size) (Const number' size') is is' told const sizes = by_test (is_excluded parts left number')
      where
        by_test : (b : Bool) → IsSettled parts (if b then known.Different else known.Either right left)
        by_test true = tt
        by_test false = (constant_pair parts right left number' size' size is' is (sym (eqb-true _ _ sizes)) told, number', size', size, is', is)
    left_settled one (Number size) is is' told const sizes = absurd (false≢true const)
    left_settled one Any is is' told const sizes = absurd (false≢true const)
    left_settled one (Address object offset target) is is' told const sizes = absurd (false≢true const)
    left_settled Any (Const number size) is is' told const sizes = absurd (false≢true told)
    left_settled (Address object offset target) (Const number size) is is' told const sizes = absurd (false≢true told)

    pub right_settled : (one other : Value) → value_at parts.values left ≡ Some one → value_at parts.values right ≡ Some other → is_const one ≡ true → is_told other ≡ true → nat_eq (value_size one) (value_size other) ≡ true →
        IsSettled parts (values_compared parts left right one other)
    right_settled (Const number size) (Const number' size') is is' const told sizes = settled_if parts (nat_eq number number')
    right_settled (Const number size) (Number size') is is' const told sizes = by_test (is_excluded parts right number)
      where
        by_test : (b : Bool) → IsSettled parts (if b then known.Different else known.Either left right)
        by_test true = tt
        by_test false = (constant_pair parts left right number size size' is is' (eqb-true _ _ sizes) told, number, size, size', is, is')
    right_settled (Const number size) Any is is' const told sizes = absurd (false≢true told)
    right_settled (Const number size) (Address object offset target) is is' const told sizes = absurd (false≢true told)
    right_settled (Number size) other is is' const told sizes = absurd (false≢true const)
    right_settled Any other is is' const told sizes = absurd (false≢true const)
    right_settled (Address object offset target) other is is' const told sizes = absurd (false≢true const)
