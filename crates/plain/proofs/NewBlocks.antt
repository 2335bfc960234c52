-- A graph shows a state still where a block is made, and an object more stands for it.
use Rattle.std.proofs.Common.{◌≡◌, ◌≢◌, ℕ, suc, ◌-◌, ◌<◌, ◌≤◌, Bool, true, false, not, ◌&&◌, ◌||◌, List, [], ◌∷◌, ◌++◌, map, length, replicate, nat_eq, nat_lt, Option, None, Some, refl, sym, ◌∙◌, ap, subst, eqb-true, eq-eqb, ltb-true, ltb-false, lt-ltb, arith}
use Rattle.std.specs.Prelude.{slice_get, option_map, if◌then◌else◌}
use Rattle.std.specs.List.{list_all}
use Rattle.std.proofs.lemmas.Bool.{false≢true}
use Rattle.std.proofs.lemmas.List.{length-replicate, get_or-replicate, get_or_past, length-map}
use Rattle.std.proofs.lemmas.Option.{same_Some, none-some, slice_get-map, slice_get_past}
use Rattle.bytes_core.specs.declared.byte.Byte.TheVariants.{Num}
use Rattle.bytes_core.specs.declared.block.Block.{Block}
use Rattle.bytes_core.specs.declared.block.BlockKind.{BlockKind}
use Rattle.bytes_core.specs.Placement.{new_block, can_be_placed}
use Rattle.graph.specs.declared.edges.HasValue.{HasValue}
use Rattle.graph.specs.declared.object.Object.{Object}
use Rattle.graph.specs.declared.parts.KeyedObject.{KeyedObject}
use Rattle.graph.specs.declared.parts.Parts.{Parts}
use Rattle.graph.specs.DeadBlocks.{with_numbers, with_memory}
use Rattle.graph.specs.Maps.{object_at, value_at}
use Rattle.graph.specs.Meaning.{HaveClasses, HasBlocks, own_offset, maps_of, Assignment, Meets}
use Rattle.graph.specs.Nodes.{is_region}
use Rattle.graph.specs.State.{State, IsState}
use Rattle.graph.specs.WellFormed.{passes_at}
use Rattle.graph.specs.Whole.{IsGraph}
use Rattle.graph.proofs.Absent.{absent_elsewhere}
use Rattle.graph.proofs.Closed.{closed_of}
use Rattle.graph.proofs.DeadMore.{last_get}
use Rattle.graph.proofs.Found.{found-all}
use Rattle.graph.proofs.Tests.{and_left, and_right}
use Rattle.changes.specs.Parts.{with_object_more}
use Rattle.changes.proofs.Freed.{above, below_again}
use Rattle.changes.proofs.Meeting.{has_block}
use Rattle.changes.proofs.More.{with_new, object_more}
use Rattle.block_steps.specs.Blocks.{MakesBlock, new_object}
use Rattle.block_steps.proofs.ObjectForm.{object_new, object_else, has_object_more}
use Rattle.plain.specs.Marks.{Mark, Unwritten, Zeroed, Marks, with_new_blocks}
use Rattle.plain.specs.Shown.{is_sure, bare_mark, mark_at, is_loose_at, IsShownBy}
use Rattle.plain.proofs.Merged.{region_is}

-- Numbers from a bound on move up by one.

above_low : (bound number : ℕ) → number < bound → above bound number ≡ number
above_low bound number below = ap (λ (b : Bool). if b then number else suc number) (lt-ltb number bound below)

not_below : (number bound : ℕ) → bound ≤ number → nat_lt number bound ≡ false
not_below number bound over = by_test (nat_lt number bound) refl
  where
    by_test : (b : Bool) → nat_lt number bound ≡ b → nat_lt number bound ≡ false
    by_test true is = let l = ltb-true _ _ is in absurd (omega arith)
    by_test false is = is

above_high : (bound number : ℕ) → bound ≤ number → bound ≤ above bound number
above_high bound number over = by_test (nat_lt number bound) (not_below number bound over)
  where
    by_test : (b : Bool) → b ≡ false → bound ≤ (if b then number else suc number)
    by_test false is = omega arith
    by_test true is = over

there_and_back : (bound number : ℕ) → below_again bound (above bound number) ≡ number
there_and_back bound number = by_test (nat_lt number bound) refl
  where
    by_test : (b : Bool) → nat_lt number bound ≡ b → below_again bound (if b then number else suc number) ≡ number
    by_test true is = ap (λ (b : Bool). if b then number else number - 1) is
    by_test false is = ap (λ (b : Bool). if b then suc number else suc number - 1) (not_below (suc number) bound (let l = ltb-false _ _ is in omega arith)) ∙ omega arith

misses : (bound number : ℕ) → above bound number ≢ bound
misses bound number = by_test (nat_lt number bound) refl
  where
    by_test : (b : Bool) → nat_lt number bound ≡ b → (if b then number else suc number) ≢ bound
    by_test true is same = let l = ltb-true _ _ is in absurd (omega arith)
    by_test false is same = let l = ltb-false _ _ is in absurd (omega arith)

never : (bound : ℕ) (blocks : List ℕ) (place : ℕ) → slice_get (map (above bound) blocks) place ≢ Some bound
never bound blocks place stands = by_found (slice_get blocks place) (sym (slice_get-map (above bound) blocks place) ∙ stands)
  where
    by_found : (found : Option ℕ) → option_map (above bound) found ≡ Some bound → ⊥
    by_found None is = none-some bound is
    by_found (Some number) is = misses bound number (same_Some _ _ is)

-- numbers have the class of numbers, and zeros that of 0
numbers_have : (contents : List ℕ) (zeroed : Bool) → (not zeroed || list_all (nat_eq 0) contents) ≡ true → HaveClasses (replicate (length contents) (if zeroed then 0 else 1)) (map Num contents)
numbers_have [] zeroed zeros = tt
numbers_have (first ∷ rest) true zeros =
    (sym (eqb-true 0 first (and_left (nat_eq 0 first) (list_all (nat_eq 0) rest) zeros)), numbers_have rest true (and_right (nat_eq 0 first) (list_all (nat_eq 0) rest) zeros))
numbers_have (first ∷ rest) false zeros = (tt, numbers_have rest false refl)

head_same : (one other : ℕ) → one ∷ [] ≡ other ∷ [] → one ≡ other
head_same one other same = same_Some _ _ (ap (λ (ns : List ℕ). slice_get ns 0) same)

pub slice_below : {X : Type 0} (xs : List X) (number : ℕ) (x : X) → slice_get xs number ≡ Some x → number < length xs
slice_below xs number x is = by_test (nat_lt number (length xs)) refl
  where
    by_test : (b : Bool) → nat_lt number (length xs) ≡ b → number < length xs
    by_test true below = ltb-true _ _ below
    by_test false over = absurd (none-some x (sym (slice_get_past xs number (ltb-false _ _ over)) ∙ is))

past_is : (long size place : ℕ) → long ≡ size → size ≤ place → long ≤ place
past_is long size place same over = omega arith

abbrev pub new_mark : Bool → Mark
new_mark zeroed = if zeroed then Zeroed else Unwritten

abbrev pub with_block_marks : ℕ → Mark → Marks → Marks
with_block_marks count mark marks = record { of = with_new_blocks count mark marks.of; input = marks.input }

module _ (kind : BlockKind) (size : ℕ) (zeroed : Bool) (parts : Parts) (graph : IsGraph parts) (regions : list_all (λ (entry : KeyedObject). is_region entry.object.shape) parts.objects ≡ true) (state : State) (is : IsState state) (marks : Marks)
    (given : Assignment) (shown : IsShownBy parts state marks given) (left : List Block) (makes : MakesBlock kind size zeroed state.memory left) where
  abbrev count : ℕ
  count = length state.memory

  abbrev free : Assignment
  free = with_numbers (above count) (below_again count) given

  free_meets : Meets (maps_of parts) state free
  free_meets = absent_elsewhere state is (above count) (below_again count) (there_and_back count) (above_low count) (above_high count) (maps_of parts) given shown.meets

  -- the block of a live object
  old_block : (key number : ℕ) (object : Object) → object_at parts.objects key ≡ Some object → object.live ≡ true → free.blocks key ≡ number ∷ [] → (number < count) × (given.blocks key ≡ number ∷ [])
  old_block key number object stands live blocks =
      let has = has_block parts state given graph.well_formed shown.meets key 0 key object stands live
      (region_is object.shape (found-all (λ (entry : KeyedObject). entry.key) (λ entry. entry.object) (λ (o : Object). is_region o.shape) parts.objects key object regions stands)) in
      let below = slice_below state.memory has.number has.at_number.block has.at_number.there in
      let same : has.number ≡ number = sym (above_low count has.number below) ∙ head_same (above count has.number) number (sym (ap (map (above count)) has.blocks) ∙ blocks) in
      (subst (λ (n : ℕ). n < count) same below, has.blocks ∙ ap (λ (n : ℕ). n ∷ []) same)

  abbrev key_new : ℕ
  key_new = length parts.objects

  abbrev object : Object
  object = new_object kind size zeroed

  abbrev block : Block
  block = new_block kind makes.base makes.contents

  abbrev pub more : Parts
  more = with_object_more object parts

  abbrev pub now : Assignment
  now = with_new key_new count free

  long : length makes.contents ≡ size
  long = eqb-true _ _ (and_left (nat_eq (length makes.contents) size) (list_all (λ byte. nat_lt byte 256) makes.contents && can_be_placed state.memory block) makes.new)

  has : HasBlocks (state.memory ++ block ∷ []) object free.word (λ value. own_offset (value_at parts.values value)) (count ∷ [])
  has = (
    count,
    refl,
    record {
      block = block;
      there = last_get state.memory block;
      node = record {
        live = refl;
        kind = refl;
        size = length-map makes.contents Num ∙ long;
        edges = tt;
        classes = subst (λ (n : ℕ). HaveClasses (replicate n (if zeroed then 0 else 1)) (map Num makes.contents)) long (numbers_have makes.contents zeroed makes.zeros);
      };
    },
  )

  now_meets : Meets (maps_of more) (with_memory left state) now
  now_meets = subst (λ (memory : List Block). Meets (maps_of more) (with_memory memory state) now) (sym makes.is)
      (object_more key_new object (maps_of parts) (maps_of more) state block free (has_object_more kind size zeroed parts graph) (closed_of parts graph.well_formed) free_meets (λ key place. never count (given.blocks key) place) has)

  by_key : {P : ℕ → Object → Type 0} → P key_new object → ((at : ℕ) (found : Object) → at ≢ key_new → object_at parts.objects at ≡ Some found → P at found) → (at : ℕ) (found : Object) → object_at more.objects at ≡ Some found → P at found
  by_key {P} own other at found stands = by_test (nat_eq at key_new) refl
    where
      by_test : (b : Bool) → nat_eq at key_new ≡ b → P at found
      by_test true same =
          let at_is : key_new ≡ at = sym (eqb-true _ _ same) in
          subst (λ (k : ℕ). P k found) at_is (subst (λ (o : Object). P key_new o) (same_Some _ _ (sym (object_new kind size zeroed parts graph) ∙ ap (object_at more.objects) at_is ∙ stands)) own)
      by_test false apart =
          let differ : at ≢ key_new = λ same. false≢true (sym apart ∙ eq-eqb _ _ same) in
          other at found differ (sym (object_else kind size zeroed parts graph at differ) ∙ stands)

  pub own_block : now.blocks key_new ≡ count ∷ []
  own_block = ap (λ (b : Bool). if b then count ∷ [] else free.blocks key_new) (eq-eqb key_new key_new refl)

  new_marked : (number place : ℕ) → now.blocks key_new ≡ number ∷ [] → place < size → with_new_blocks count (new_mark zeroed) marks.of number place ≡ mark_at object place
  new_marked number place blocks below =
      ap (λ (n : ℕ). with_new_blocks count (new_mark zeroed) marks.of n place) (head_same number count (sym blocks ∙ own_block))
      ∙ ap (λ (b : Bool). if b then marks.of count place else new_mark zeroed) (not_below count count (omega arith))
      ∙ mark_is zeroed ∙ sym (ap bare_mark (get_or-replicate size place (if zeroed then 0 else 1) 0 below))
    where
      mark_is : (b : Bool) → new_mark b ≡ bare_mark (if b then 0 else 1)
      mark_is true = refl
      mark_is false = refl

  old_marked : (at number place : ℕ) (found : Object) → at ≢ key_new → object_at parts.objects at ≡ Some found → found.live ≡ true → now.blocks at ≡ number ∷ [] → place < found.size →
      with_new_blocks count (new_mark zeroed) marks.of number place ≡ mark_at found place
  old_marked at number place found differ stands live blocks below =
      let apart : nat_eq at key_new ≡ false = miss in
      let old = old_block at number found stands live (sym (ap (λ (b : Bool). if b then count ∷ [] else free.blocks at) apart) ∙ blocks) in
      ap (λ (b : Bool). if b then marks.of number place else new_mark zeroed) (lt-ltb number count old.0) ∙ shown.marked at number place found stands live old.1 below
    where
      miss : nat_eq at key_new ≡ false
      miss = by_test (nat_eq at key_new) refl
        where
          by_test : (b : Bool) → nat_eq at key_new ≡ b → nat_eq at key_new ≡ false
          by_test true same = absurd (differ (eqb-true _ _ same))
          by_test false same = same

  new_tight : (place : ℕ) → is_loose_at object place ≡ false
  new_tight place = by_test (nat_lt place size) refl
    where
      small : (b : Bool) → (nat_lt 1 (if b then 0 else 1) && true) ≡ false
      small true = refl
      small false = refl

      by_test : (b : Bool) → nat_lt place size ≡ b → is_loose_at object place ≡ false
      by_test true below = ap (λ (n : ℕ). nat_lt 1 n && true) (get_or-replicate size place (if zeroed then 0 else 1) 0 (ltb-true _ _ below)) ∙ small zeroed
      by_test false over = ap (λ (n : ℕ). nat_lt 1 n && true)
          (get_or_past (replicate size (if zeroed then 0 else 1)) place 0 (past_is _ size place (length-replicate size (if zeroed then 0 else 1)) (ltb-false _ _ over)))

  pub block_shown : IsShownBy more (with_memory left state) (with_block_marks count (new_mark zeroed) marks) now
  block_shown = record {
    meets = now_meets;
    marked = λ at number place found stands live blocks below.
        by_key {P = λ k o. o.live ≡ true → now.blocks k ≡ number ∷ [] → place < o.size → with_new_blocks count (new_mark zeroed) marks.of number place ≡ mark_at o place}
        (λ live blocks below. new_marked number place blocks below) (λ k o differ stands live blocks below. old_marked k number place o differ stands live blocks below) at found stands live blocks below;
    tight = λ at place found stands. by_key {P = λ k o. is_loose_at o place ≡ false} (new_tight place) (λ k o differ stands. shown.tight k place o stands) at found stands;
    edges = λ at found stands. by_key {P = λ k o. list_all (λ (edge : HasValue). passes_at parts is_sure edge.value) o.edges ≡ true} refl (λ k o differ stands. shown.edges k o stands) at found stands;
    registers = shown.registers;
  }
