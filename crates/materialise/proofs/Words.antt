-- What values become where a segment has no nodes stands for the words for which the values do.
use Rattle.std.proofs.Common.{◌≡◌, ℕ, true, false, List, [], ◌∷◌, nat_eq, ℤ, pos, Option, None, Some, refl, sym, ◌∙◌, ap, subst, arith, ◌⊎◌, inl, inr}
use Rattle.std.specs.Prelude.{◌+ℤ◌, ◌-ℤ◌}
use Rattle.std.specs.Int.{w64, cast_signed}
use Rattle.std.specs.Option.{option_map_or}
use Rattle.std.proofs.lemmas.Bool.{false≢true}
use Rattle.std.proofs.lemmas.Option.{none-some, same_Some}
use Rattle.bytes_core.specs.declared.word.Word.{Word}
use Rattle.bytes_core.specs.Value.{wrapped, moved}
use Rattle.graph.specs.declared.object.Links.{Links}
use Rattle.graph.specs.declared.object.Object.{Object}
use Rattle.graph.specs.declared.object.Shape.{Shape}
use Rattle.graph.specs.declared.object.Shape.TheVariants.{Region as RegionShape, Segment}
use Rattle.graph.specs.declared.value.Target.{Target}
use Rattle.graph.specs.declared.value.Target.TheVariants.{Region, First, Last, Each}
use Rattle.graph.specs.declared.value.Value.{Value}
use Rattle.graph.specs.declared.value.Value.TheVariants.{Const, Number, Any, Address}
use Rattle.graph.specs.declared.parts.Parts.{Parts}
use Rattle.graph.specs.Large.{leads_to}
use Rattle.graph.specs.Maps.{object_at}
use Rattle.graph.specs.Nodes.{links_in}
use Rattle.graph.specs.SplitLaws.{ends_by}
use Rattle.graph.specs.WellFormed.{IsWellFormed, Falls, means_one, target_fits, leads_to_object, is_outward}
use Rattle.graph.specs.Meaning.{end_word, block_word, first_of, last_of, Ends, ends_in, ends_of, no_ends, address_word, HasWord}
use Rattle.graph.proofs.Found.{Holds-some}
use Rattle.graph.proofs.Sent.{passes-some}
use Rattle.register_steps.proofs.Moved.{beyond_moved}
use Rattle.materialise.specs.Beyond.{moved_value}
use Rattle.materialise.proofs.Emptiable.{MayBeEmpty}
use Rattle.materialise.proofs.Emptied.{next_is, prev_is, no_region, step, step_cases, step_leads, step_same, both_clear, through_first, through_last, next_falls, prev_falls, ranks, emptied, emptied_same}

-- An address whose offset changes.

end_moved : (found : Option ℕ) (beyond : Word) (place : ℕ) (offset bytes : ℤ) → moved (end_word found beyond place offset) bytes ≡ end_word found beyond place (cast_signed w64 (wrapped (offset +ℤ bytes)))
end_moved None beyond place offset bytes = beyond_moved beyond place offset bytes
end_moved (Some number) beyond place offset bytes = refl

-- a region has one block
abbrev HasOneIf : Target → List ℕ → Type 0
HasOneIf Region blocks = (number : ℕ) × (blocks ≡ number ∷ [])
HasOneIf First blocks = Unit {0}
HasOneIf Last blocks = Unit {0}
HasOneIf Each blocks = Unit {0}

address_moved : (target : Target) (blocks : List ℕ) (ends : Ends) (offset bytes : ℤ) → means_one target ≡ true → HasOneIf target blocks →
    moved (address_word target blocks ends offset) bytes ≡ address_word target blocks ends (cast_signed w64 (wrapped (offset +ℤ bytes)))
address_moved Region blocks ends offset bytes one (number, is) =
    ap (λ (ns : List ℕ). moved (block_word (first_of ns) offset) bytes) is ∙ sym (ap (λ (ns : List ℕ). block_word (first_of ns) (cast_signed w64 (wrapped (offset +ℤ bytes)))) is)
address_moved First blocks ends offset bytes one has = end_moved (first_of blocks) ends.after ends.head offset bytes
address_moved Last blocks ends offset bytes one has = end_moved (last_of blocks) ends.before ends.back offset bytes
address_moved Each blocks ends offset bytes one has = absurd (false≢true one)

region_shape : (shape : Shape) → target_fits Region shape ≡ true → shape ≡ RegionShape
region_shape RegionShape fits = refl
region_shape (Segment twofold head next prev back least next_value prev_value node) fits = absurd (false≢true fits)

-- a value that is no address of the segment has its word whatever is said of that
pub clear_word : (key count : ℕ) (blocks blocks' : ℕ → List ℕ) (ends ends' : ℕ → Ends) → ((at : ℕ) → nat_eq at key ≡ false → (blocks' at ≡ blocks at) × (ends' at ≡ ends at)) →
    (value : Value) (word : Word) → leads_to key value ≡ false → HasWord count blocks ends value word → HasWord count blocks' ends' value word
clear_word key count blocks blocks' ends ends' same (Const number size) word clear has = has
clear_word key count blocks blocks' ends ends' same (Number size) word clear has = has
clear_word key count blocks blocks' ends ends' same Any word clear has = has
clear_word key count blocks blocks' ends ends' same (Address object offset target) word clear has =
    let both = same object clear in
    has ∙ sym (ap (λ (b : List ℕ). address_word target b (ends' object) offset) both.0 ∙ ap (λ (e : Ends). address_word target (blocks object) e offset) both.1)

module _ (parts : Parts) (form : IsWellFormed parts) (key : ℕ) (may : MayBeEmpty parts key) (count : ℕ) (blocks : ℕ → List ℕ) (word : ℕ → Word) (empty : blocks key ≡ [])
    (one : (object : ℕ) (found : Object) → object_at parts.objects object ≡ Some found → found.shape ≡ RegionShape → (number : ℕ) × (blocks object ≡ number ∷ [])) where
  abbrev pub ends : ℕ → Ends
  ends = ends_of (object_at parts.objects) word

  abbrev pub Has : Value → Word → Type 0
  Has value w = HasWord count blocks ends value w

  ends_here : ends key ≡ ends_by may.links word
  ends_here = ap (λ (o : Option Object). option_map_or (λ (object : Object). ends_in object.shape word) o no_ends) may.stands ∙ by_shape may.object.shape may.linked
    where
      by_shape : (shape : Shape) → links_in shape ≡ Some may.links → ends_in shape word ≡ ends_by may.links word
      by_shape RegionShape linked = absurd (none-some may.links linked)
      by_shape (Segment twofold head next prev back least next_value prev_value node) linked = ap (λ (l : Links). ends_by l word) (same_Some _ _ linked)

  first_is : (offset : ℤ) → address_word First (blocks key) (ends key) offset ≡ moved (word may.links.next_value) (offset -ℤ pos may.links.head)
  first_is offset = ap (λ (b : List ℕ). address_word First b (ends key) offset) empty ∙ ap (λ (e : Ends). address_word First [] e offset) ends_here

  last_is : (offset : ℤ) → address_word Last (blocks key) (ends key) offset ≡ moved (word may.links.prev_value) (offset -ℤ pos may.links.back)
  last_is offset = ap (λ (b : List ℕ). address_word Last b (ends key) offset) empty ∙ ap (λ (e : Ends). address_word Last [] e offset) ends_here

  has_one : (object : ℕ) (target : Target) → option_map_or (λ found. target_fits target found.shape) (object_at parts.objects object) false ≡ true → HasOneIf target (blocks object)
  has_one object Region fits =
      let found = Holds-some (object_at parts.objects object) (passes-some (λ found. target_fits Region found.shape) (object_at parts.objects object) fits) in
      one object found.item found.is (region_shape found.item.shape (subst (λ (o : Option Object). option_map_or (λ found. target_fits Region found.shape) o false ≡ true) found.is fits))
  has_one object First fits = tt
  has_one object Last fits = tt
  has_one object Each fits = tt

  -- a value that lies beyond an end, moved, stands for its word, moved
  moved_word : (value : Value) → is_outward value ≡ true → leads_to_object parts value ≡ true → (x w : Word) (bytes : ℤ) → Has value x → (Has (moved_value value bytes) w → w ≡ moved x bytes) × (w ≡ moved x bytes → Has (moved_value value bytes) w)
  moved_word (Const number size) outward leads x w bytes has = (λ is. is ∙ sym (ap (λ (v : Word). moved v bytes) has), λ is. is ∙ ap (λ (v : Word). moved v bytes) has)
  moved_word (Number size) outward leads x w bytes has = absurd (false≢true outward)
  moved_word Any outward leads x w bytes has = absurd (false≢true outward)
  moved_word (Address object offset target) outward leads x w bytes has = (λ is. is ∙ sym same, λ is. is ∙ same)
    where
      same : moved x bytes ≡ address_word target (blocks object) (ends object) (cast_signed w64 (wrapped (offset +ℤ bytes)))
      same = ap (λ (v : Word). moved v bytes) has ∙ address_moved target (blocks object) (ends object) offset bytes outward (has_one object target leads)

  abbrev HasNext : Type 0
  HasNext = Has (next_is parts form key may).value (word may.links.next_value)

  abbrev HasPrev : Type 0
  HasPrev = Has (prev_is parts form key may).value (word may.links.prev_value)

  abbrev Same : Value → Value → Type 0
  Same value after = (w : Word) → (Has value w → Has after w) × (Has after w → Has value w)

  at_first : HasNext → (offset : ℤ) → Same (Address key offset First) (moved_value (next_is parts form key may).value (offset -ℤ pos may.links.head))
  at_first next offset w =
      let is = next_is parts form key may in
      let both = moved_word is.value is.outward is.leads (word may.links.next_value) w (offset -ℤ pos may.links.head) next in
      (λ has. both.1 (has ∙ first_is offset), λ has. both.0 has ∙ sym (first_is offset))

  at_last : HasPrev → (offset : ℤ) → Same (Address key offset Last) (moved_value (prev_is parts form key may).value (offset -ℤ pos may.links.back))
  at_last prev offset w =
      let is = prev_is parts form key may in
      let both = moved_word is.value is.outward is.leads (word may.links.prev_value) w (offset -ℤ pos may.links.back) prev in
      (λ has. both.1 (has ∙ last_is offset), λ has. both.0 has ∙ sym (last_is offset))

  -- one step
  step_word : HasNext → HasPrev → (value : Value) → leads_to_object parts value ≡ true → Same value (step parts form key may value)
  step_word next prev value = step_cases parts form key may (λ v s. leads_to_object parts v ≡ true → Same v s)
      (λ v differs leads w. (λ has. has, λ has. has)) (λ offset leads. at_first next offset) (λ offset leads. at_last prev offset)
      (λ offset leads w. (λ has. has, λ has. has)) (λ offset leads. absurd (no_region parts form key may offset leads)) value

  -- both
  pub emptied_word : HasNext → HasPrev → (value : Value) → leads_to_object parts value ≡ true → Same value (emptied parts form key may value)
  emptied_word next prev value leads w =
      let one = step_word next prev value leads w in
      let other = step_word next prev (step parts form key may value) (step_leads parts form key may value leads) w in
      (λ has. other.0 (one.0 has), λ has. one.1 (other.1 has))

  -- what lies beyond the ends has its words where what it becomes has them
  first_back : HasNext → (value : Value) → is_outward value ≡ true → leads_to_object parts value ≡ true → Falls (ranks parts form key may) ((ranks parts form key may).last key) (Some value) →
      (w : Word) → Has (step parts form key may value) w → Has value w
  first_back next value = step_cases parts form key may
      (λ v s. is_outward v ≡ true → leads_to_object parts v ≡ true → Falls (ranks parts form key may) ((ranks parts form key may).last key) (Some v) → (w : Word) → Has s w → Has v w)
      (λ v differs outward leads falls w has. has) (λ offset outward leads falls w has. (at_first next offset w).1 has) (λ offset outward leads falls w has. let e : ⊥ = omega arith in absurd e)
      (λ offset outward leads falls w has. has) (λ offset outward leads falls w has. has) value

  last_back : HasPrev → (value : Value) → is_outward value ≡ true → leads_to_object parts value ≡ true → Falls (ranks parts form key may) ((ranks parts form key may).first key) (Some value) →
      (w : Word) → Has (step parts form key may value) w → Has value w
  last_back prev value = step_cases parts form key may
      (λ v s. is_outward v ≡ true → leads_to_object parts v ≡ true → Falls (ranks parts form key may) ((ranks parts form key may).first key) (Some v) → (w : Word) → Has s w → Has v w)
      (λ v differs outward leads falls w has. has) (λ offset outward leads falls w has. let e : ⊥ = omega arith in absurd e) (λ offset outward leads falls w has. (at_last prev offset w).1 has)
      (λ offset outward leads falls w has. has) (λ offset outward leads falls w has. has) value

  pub both_back : Has (emptied parts form key may (next_is parts form key may).value) (word may.links.next_value) → Has (emptied parts form key may (prev_is parts form key may).value) (word may.links.prev_value) → HasNext × HasPrev
  both_back next prev = by_one (both_clear parts form key may).one
    where
      over : (value other : Value) (w : Word) → value ≡ other → Has value w → Has other w
      over value other w same has = subst (λ (v : Value). Has v w) same has

      by_one : (leads_to key (next_is parts form key may).value ≡ false) ⊎ (leads_to key (prev_is parts form key may).value ≡ false) → HasNext × HasPrev
      by_one (inl clear) =
          let is = prev_is parts form key may in
          let has : HasNext = over _ _ (word may.links.next_value) (emptied_same parts form key may (next_is parts form key may).value clear) next in
          let stepped = through_first parts form key may is.value is.outward is.leads (prev_falls parts form key may) clear in
          (has, first_back has is.value is.outward is.leads (prev_falls parts form key may) (word may.links.prev_value) (over _ _ (word may.links.prev_value) (step_same parts form key may (step parts form key may is.value) stepped) prev))
      by_one (inr clear) =
          let is = next_is parts form key may in
          let has : HasPrev = over _ _ (word may.links.prev_value) (emptied_same parts form key may (prev_is parts form key may).value clear) prev in
          let stepped = through_last parts form key may is.value is.outward is.leads (next_falls parts form key may) clear in
          (last_back has is.value is.outward is.leads (next_falls parts form key may) (word may.links.next_value) (over _ _ (word may.links.next_value) (step_same parts form key may (step parts form key may is.value) stepped) next), has)
