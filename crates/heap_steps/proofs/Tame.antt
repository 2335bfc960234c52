-- Where nothing of a graph may lead anywhere, and in the memory that is made with zeros, nothing leads anywhere but what edges and links hold.
use Rattle.std.proofs.Common.{◌≡◌, ℕ, zero, suc, ◌+◌, ◌<◌, ◌≤◌, Bool, true, false, ◌&&◌, ◌||◌, not, List, [], ◌∷◌, length, take, drop, nat_eq, nat_le, nat_lt, Option, Some, refl, sym, ap, ◌∙◌, subst, eqb-true, leb-true, arith}
use Rattle.std.specs.Prelude.{slice_get, ℤ}
use Rattle.std.specs.Option.{option_map_or}
use Rattle.std.specs.List.{list_all, list_any}
use Rattle.std.proofs.lemmas.Bool.{false≢true, true≢false, lt-ltb, le-ltb, or_left, or_right}
use Rattle.std.proofs.lemmas.Option.{same_Some, none-some, slice_get_within}
use Rattle.bytes_core.specs.declared.byte.Byte.{Byte}
use Rattle.bytes_core.specs.declared.byte.Byte.TheVariants.{Num, Part}
use Rattle.bytes_core.specs.declared.block.Block.{Block}
use Rattle.bytes_core.specs.declared.word.Word.TheVariants.{Plain, To}
use Rattle.graph.specs.declared.edges.HasValue.{HasValue}
use Rattle.graph.specs.declared.object.Links.{Links}
use Rattle.graph.specs.declared.object.Object.{Object}
use Rattle.graph.specs.declared.object.Shape.{Shape}
use Rattle.graph.specs.declared.object.Shape.TheVariants.{Region as RegionShape, Segment}
use Rattle.graph.specs.declared.value.Value.{Value}
use Rattle.graph.specs.declared.value.Value.TheVariants.{Any}
use Rattle.graph.specs.declared.parts.Held.{Held}
use Rattle.graph.specs.declared.parts.KeyedObject.{KeyedObject}
use Rattle.graph.specs.declared.parts.Parts.{Parts}
use Rattle.graph.specs.Choices.{is_free, IsMadeWith}
use Rattle.graph.specs.Maps.{object_at, value_at}
use Rattle.graph.specs.Nodes.{is_region, links_in, own_node, node_in, node_of, link_edges}
use Rattle.graph.specs.State.{State}
use Rattle.graph.specs.Meaning.{HasClass, HaveClasses, HasShape, HasBlocksAs, own_offset, Assignment, Meets, maps_of}
use Rattle.graph.specs.WellFormed.{passes_at, lies_in, share_no_byte, link_is_any, has_class_a_byte, is_segment_storage}
use Rattle.graph.specs.Whole.{IsGraph}
use Rattle.graph.proofs.Closed.{passes-at}
use Rattle.graph.proofs.Found.{found-all}
use Rattle.graph.proofs.Tests.{and_left, and_right, and_both}
use Rattle.heap_steps.specs.Unreached.{has_loose_byte, is_any, holds_any, may_lead_anywhere}
use Rattle.heap_steps.proofs.Entries.{entry_found}
use Rattle.heap_steps.proofs.Leads.{IsNamed, InRegister, InPort, InEdge, IsTame}

-- a test that passes at an item
pub some_at : {X : Type 0} (test : X → Bool) (xs : List X) (place : ℕ) (x : X) → slice_get xs place ≡ Some x → test x ≡ true → list_any test xs ≡ true
some_at test [] place x is passes = absurd (none-some x is)
some_at test (first ∷ rest) zero x is passes = or_left (test first) (list_any test rest) (ap test (same_Some first x is) ∙ passes)
some_at test (first ∷ rest) (suc place) x is passes = or_right (test first) (list_any test rest) (some_at test rest place x is passes)

neither : (one other : Bool) → (one || other) ≡ false → (one ≡ false) × (other ≡ false)
neither true other none = absurd (true≢false none)
neither false other none = (refl, none)

clash : {P : Type 0} (b : Bool) → b ≡ true → b ≡ false → P
clash b passes fails = absurd (false≢true (sym fails ∙ passes))

-- a byte that may be part of a pointer, in no edge
pub loose_at : (edges : List HasValue) (from : ℕ) (plane : List ℕ) (i at class : ℕ) → at ≡ from + i → slice_get plane i ≡ Some class → 1 < class → is_free edges at ≡ true → has_loose_byte edges from plane ≡ true
loose_at edges from [] i at class same is above free = absurd (none-some class is)
loose_at edges from (first ∷ rest) zero at class same is above free =
    let first_is : first ≡ class = same_Some first class is in
    or_left (nat_lt 1 first && is_free edges from) (has_loose_byte edges (from + 1) rest)
    (and_both (nat_lt 1 first) (is_free edges from) (lt-ltb 1 first (omega arith)) (subst (λ (n : ℕ). is_free edges n ≡ true) (let s : at ≡ from = omega arith in s) free))
loose_at edges from (first ∷ rest) (suc i) at class same is above free =
    or_right (nat_lt 1 first && is_free edges from) (has_loose_byte edges (from + 1) rest) (loose_at edges (from + 1) rest i at class (omega arith) is above free)

-- the class of a part of a pointer
part_class : (class target k : ℕ) (offset : ℤ) → HasClass class (Part target offset k) → 1 < class
part_class zero target k offset has = absurd has
part_class (suc zero) target k offset has = absurd has
part_class (suc (suc class)) target k offset has = omega arith

class_at : (plane : List ℕ) (bytes : List Byte) (i target k : ℕ) (offset : ℤ) → HaveClasses plane bytes → slice_get bytes i ≡ Some (Part target offset k) → (class : ℕ) × (slice_get plane i ≡ Some class) × (1 < class)
class_at [] [] i target k offset has is = absurd (none-some (Part target offset k) is)
class_at [] (byte ∷ bytes) i target k offset has is = absurd has
class_at (class ∷ plane) [] i target k offset has is = absurd (none-some (Part target offset k) is)
class_at (class ∷ plane) (byte ∷ bytes) zero target k offset has is =
    (class, refl, part_class class target k offset (subst (λ (b : Byte). HasClass class b) (same_Some byte _ is) has.0))
class_at (class ∷ plane) (byte ∷ bytes) (suc i) target k offset has is = class_at plane bytes i target k offset has.1 is

-- a place of a link is in no edge
free_beside : (link : HasValue) (edges : List HasValue) → 1 ≤ link.size → list_all (share_no_byte link) edges ≡ true → is_free edges link.at ≡ true
free_beside link [] some apart = refl
free_beside link (edge ∷ rest) some apart =
    and_both (not (nat_le edge.at link.at && nat_lt link.at (edge.at + edge.size))) (is_free rest link.at)
    (by_test (nat_le (link.at + link.size) edge.at) refl (nat_le (edge.at + edge.size) link.at) refl (and_left (share_no_byte link edge) (list_all (share_no_byte link) rest) apart))
    (free_beside link rest some (and_right (share_no_byte link edge) (list_all (share_no_byte link) rest) apart))
  where
    below : nat_le edge.at link.at ≡ false → not (nat_le edge.at link.at && nat_lt link.at (edge.at + edge.size)) ≡ true
    below fails = ap (λ (b : Bool). not (b && nat_lt link.at (edge.at + edge.size))) fails

    above : (b : Bool) → nat_lt link.at (edge.at + edge.size) ≡ false → not (b && nat_lt link.at (edge.at + edge.size)) ≡ true
    above true fails = ap not fails
    above false fails = refl

    not_le : (one other : ℕ) → other < one → nat_le one other ≡ false
    not_le one other less = by_le (nat_le one other) refl
      where
        by_le : (b : Bool) → nat_le one other ≡ b → nat_le one other ≡ false
        by_le true is = let h = leb-true one other is in absurd (omega arith)
        by_le false is = is

    by_test : (b : Bool) → nat_le (link.at + link.size) edge.at ≡ b → (c : Bool) → nat_le (edge.at + edge.size) link.at ≡ c → (b || c) ≡ true → not (nat_le edge.at link.at && nat_lt link.at (edge.at + edge.size)) ≡ true
    by_test true before c behind either = let b = leb-true (link.at + link.size) edge.at before in below (not_le edge.at link.at (omega arith))
    by_test false before true behind either = let b = leb-true (edge.at + edge.size) link.at behind in above (nat_le edge.at link.at) (le-ltb link.at (edge.at + edge.size) (omega arith))
    by_test false before false behind either = absurd (false≢true either)

first_class : (plane : List ℕ) (at : ℕ) → at + 8 ≤ length plane → list_all (nat_eq 2) (take 8 (drop at plane)) ≡ true → slice_get plane at ≡ Some 2
first_class [] at inside all = absurd (omega arith)
first_class (class ∷ plane) zero inside all = ap Some (sym (eqb-true 2 class (and_left (nat_eq 2 class) (list_all (nat_eq 2) (take 7 plane)) all)))
first_class (class ∷ plane) (suc at) inside all = first_class plane at (omega arith) all

module _ (parts : Parts) (graph : IsGraph parts) (bound : may_lead_anywhere parts ≡ false) where
  no_loose : (key : ℕ) (object : Object) → object_at parts.objects key ≡ Some object → has_loose_byte (node_of object).edges 0 (node_of object).plane ≡ true → ⊥
  no_loose key object stands loose =
      let found = entry_found (λ (entry : KeyedObject). entry.key) (λ entry. entry.object) parts.objects key object stands in
      clash (list_any (λ (entry : KeyedObject). has_loose_byte (node_of entry.object).edges 0 (node_of entry.object).plane) parts.objects)
      (some_at (λ (entry : KeyedObject). has_loose_byte (node_of entry.object).edges 0 (node_of entry.object).plane) parts.objects found.0 found.1 found.2
      (subst (λ (o : Object). has_loose_byte (node_of o).edges 0 (node_of o).plane ≡ true) (sym found.4) loose))
      (neither (list_any (λ (entry : KeyedObject). has_loose_byte (node_of entry.object).edges 0 (node_of entry.object).plane) parts.objects) (holds_any parts) bound).0

  -- the links of a segment may be parts of pointers, and lie in no edge
  pub no_segment : (key : ℕ) (object : Object) (links : Links) → object_at parts.objects key ≡ Some object → links_in object.shape ≡ Some links → ⊥
  no_segment key object links stands linked = by_shape object.shape refl linked
    where
      of_object : (test : Object → Bool) → list_all (λ (entry : KeyedObject). test entry.object) parts.objects ≡ true → test object ≡ true
      of_object test all = found-all (λ (entry : KeyedObject). entry.key) (λ entry. entry.object) test parts.objects key object all stands

      live : (b : Bool) → is_region object.shape ≡ b → b ≡ false → object.live ≡ true
      live b region is =
          and_left object.live _ (subst (λ (c : Bool). (c || is_segment_storage object) ≡ true) (region ∙ is) (of_object (λ (object : Object). is_region object.shape || is_segment_storage object) graph.well_formed.segments_are_allocated))

      sized : object.live ≡ true → length (node_of object).plane ≡ object.size
      sized lives = eqb-true _ _ (subst (λ (b : Bool). (not b || nat_eq (length (node_of object).plane) object.size) ≡ true) lives (of_object has_class_a_byte graph.well_formed.planes_are_as_long))

      by_shape : (shape : Shape) → object.shape ≡ shape → links_in shape ≡ Some links → ⊥
      by_shape RegionShape shape_is linked' = none-some links linked'
      by_shape (Segment twofold head next prev back least next_value prev_value node) shape_is linked' =
          let link : HasValue = record { at = next; size = 8; value = next_value } in
          let edges_is : link_edges object.shape ≡ link_edges (Segment twofold head next prev back least next_value prev_value node) = ap link_edges shape_is in
          let first : slice_get (link_edges object.shape) 0 ≡ Some link = ap (λ (es : List HasValue). slice_get es 0) edges_is in
          let long = sized (live (is_region object.shape) refl (ap is_region shape_is)) in
          let inside : nat_le (next + 8) object.size ≡ true = passes-at (lies_in object.size) (link_edges object.shape) 0 link first (of_object (λ (object : Object). list_all (lies_in object.size) (link_edges object.shape)) graph.well_formed.links_lie_inside) in
          let within = leb-true (next + 8) object.size inside in
          let any = passes-at (link_is_any (node_of object).plane) (link_edges object.shape) 0 link first (of_object (λ (object : Object). list_all (link_is_any (node_of object).plane) (link_edges object.shape)) graph.well_formed.links_may_be_pointers) in
          let apart = passes-at (λ (l : HasValue). list_all (share_no_byte l) (node_of object).edges) (link_edges object.shape) 0 link first
          (of_object (λ (object : Object). list_all (λ (l : HasValue). list_all (share_no_byte l) (node_of object).edges) (link_edges object.shape)) graph.well_formed.links_have_no_edge) in
          no_loose key object stands
          (loose_at (node_of object).edges 0 (node_of object).plane next next 2 (omega arith) (first_class (node_of object).plane next (omega arith) any) (omega arith) (free_beside link (node_of object).edges (omega arith) apart))

  pub tame_bound : (state : State) (given : Assignment) → Meets (maps_of parts) state given → IsTame parts state given
  tame_bound state given meets = record {
    free = λ key object node number place target k offset block stands live is there size byte link edge. by_shape key object stands live node number is block there place target k offset byte edge object.shape refl;
    words = λ value number offset named any leads. no_any value any named;
    empty = λ key object links stands linked none. absurd (no_segment key object links stands linked);
  }
    where
      by_shape : (key : ℕ) (object : Object) → object_at parts.objects key ≡ Some object → object.live ≡ true → (node number : ℕ) → slice_get (given.blocks key) node ≡ Some number → (block : Block) → slice_get state.memory number ≡ Some block →
          (place target k : ℕ) (offset : ℤ) → slice_get block.bytes place ≡ Some (Part target offset k) → is_free (node_of object).edges place ≡ true → (shape : Shape) → object.shape ≡ shape → ⊥
      by_shape key object stands live node number is block there place target k offset byte edge (Segment twofold head next prev back least next_value prev_value template) shape_is = no_segment key object _ stands (ap links_in shape_is)
      by_shape key object stands live node number is block there place target k offset byte edge RegionShape shape_is =
          let own : ℕ → Option ℤ = λ value. own_offset (value_at parts.values value) in
          let has : HasShape RegionShape state.memory object given.word own (given.blocks key) =
          subst (λ (s : Shape). HasShape s state.memory object given.word own (given.blocks key)) shape_is
          (subst (λ (b : Bool). HasBlocksAs b state.memory object given.word own (given.blocks key)) live (meets.objects key object stands)) in
          let same_number : has.0 ≡ number = one has.0 node (sym (ap (λ (bs : List ℕ). slice_get bs node) has.1) ∙ is) in
          let same : block ≡ has.2.block = same_Some _ _ (sym there ∙ ap (slice_get state.memory) (sym same_number) ∙ has.2.there) in
          let class = class_at object.plane has.2.block.bytes place target k offset has.2.node.classes (ap (λ (b : Block). slice_get b.bytes place) (sym same) ∙ byte) in
          let plane_is : slice_get (node_of object).plane place ≡ Some class.0 = ap (λ (s : Shape). slice_get (node_in s (own_node object)).plane place) shape_is ∙ class.1 in
          no_loose key object stands (loose_at (node_of object).edges 0 (node_of object).plane place place class.0 (omega arith) plane_is class.2 edge)
        where
          one : (first node : ℕ) → slice_get (first ∷ []) node ≡ Some number → first ≡ number
          one first zero is' = same_Some _ _ is'
          one first (suc node) is' = absurd (none-some number is')

      any_at : (value : ℕ) → value_at parts.values value ≡ Some Any → passes_at parts is_any value ≡ true
      any_at value any = ap (λ (o : Option Value). option_map_or is_any o false) any

      none : holds_any parts ≡ false
      none = (neither (list_any (λ (entry : KeyedObject). has_loose_byte (node_of entry.object).edges 0 (node_of entry.object).plane) parts.objects) (holds_any parts) bound).1

      no_any : (value : ℕ) → value_at parts.values value ≡ Some Any → IsNamed parts value → ⊥
      no_any value any (InRegister register held) =
          let found = entry_found (λ (held : Held). held.register) (λ (held : Held). held.value) parts.registers register value held in
          let later = neither (list_any (λ (held : Held). passes_at parts is_any held.value) parts.registers) (list_any (passes_at parts is_any) parts.ports)
          (neither (list_any (λ (entry : KeyedObject). list_any (λ (edge : HasValue). passes_at parts is_any edge.value) (node_of entry.object).edges) parts.objects)
          (list_any (λ (held : Held). passes_at parts is_any held.value) parts.registers || list_any (passes_at parts is_any) parts.ports) none).1 in
          clash (list_any (λ (held : Held). passes_at parts is_any held.value) parts.registers)
          (some_at (λ (held : Held). passes_at parts is_any held.value) parts.registers found.0 found.1 found.2 (ap (passes_at parts is_any) found.4 ∙ any_at value any)) later.0
      no_any value any (InPort place is) =
          let later = neither (list_any (λ (held : Held). passes_at parts is_any held.value) parts.registers) (list_any (passes_at parts is_any) parts.ports)
          (neither (list_any (λ (entry : KeyedObject). list_any (λ (edge : HasValue). passes_at parts is_any edge.value) (node_of entry.object).edges) parts.objects)
          (list_any (λ (held : Held). passes_at parts is_any held.value) parts.registers || list_any (passes_at parts is_any) parts.ports) none).1 in
          clash (list_any (passes_at parts is_any) parts.ports) (some_at (passes_at parts is_any) parts.ports place value is (any_at value any)) later.1
      no_any value any (InEdge key object place edge stands is same) =
          let found = entry_found (λ (entry : KeyedObject). entry.key) (λ entry. entry.object) parts.objects key object stands in
          let first = (neither (list_any (λ (entry : KeyedObject). list_any (λ (edge : HasValue). passes_at parts is_any edge.value) (node_of entry.object).edges) parts.objects)
          (list_any (λ (held : Held). passes_at parts is_any held.value) parts.registers || list_any (passes_at parts is_any) parts.ports) none).0 in
          clash (list_any (λ (entry : KeyedObject). list_any (λ (edge : HasValue). passes_at parts is_any edge.value) (node_of entry.object).edges) parts.objects)
          (some_at (λ (entry : KeyedObject). list_any (λ (edge : HasValue). passes_at parts is_any edge.value) (node_of entry.object).edges) parts.objects found.0 found.1 found.2
          (subst (λ (o : Object). list_any (λ (edge : HasValue). passes_at parts is_any edge.value) (node_of o).edges ≡ true) (sym found.4)
          (some_at (λ (edge : HasValue). passes_at parts is_any edge.value) (node_of object).edges place edge is (ap (passes_at parts is_any) same ∙ any_at value any)))) first

-- The memory that is made with null and zeros.

pub tame_made : (parts : Parts) (state : State) → (made : IsMadeWith parts (λ value. Plain 0) (λ key place. Num 0) state) → IsTame parts state made.given
tame_made parts state made = record {
  free = λ key object node number place target k offset block stands live is there size byte link edge. differ key object node number place target k offset block stands is there size byte link edge;
  words = λ value number offset named any leads. absurd (let clash' : Plain 0 ≡ To number offset = sym (made.words value any) ∙ leads in cc);
  empty = λ key object links stands linked none. no_items (made.given.blocks key) (made.lengths key object links stands linked ∙ none);
}
  where
    no_items : (xs : List ℕ) → length xs ≡ 0 → xs ≡ []
    no_items [] size = refl
    no_items (x ∷ xs) size = absurd (omega arith)

    differ : (key : ℕ) (object : Object) (node number place target k : ℕ) (offset : ℤ) (block : Block) → object_at parts.objects key ≡ Some object → slice_get (made.given.blocks key) node ≡ Some number → slice_get state.memory number ≡ Some block →
        length block.bytes ≡ object.size → slice_get block.bytes place ≡ Some (Part target offset k) → is_free (link_edges object.shape) place ≡ true → is_free (node_of object).edges place ≡ true → ⊥
    differ key object node number place target k offset block stands is there size byte link edge =
        let within = slice_get_within block.bytes place (Part target offset k) byte in
        let chosen = made.bytes key object node number place stands is (omega arith) link edge in
        let same : chosen.block ≡ block = same_Some _ _ (sym chosen.stands ∙ there) in
        let zero_there : Num 0 ≡ Part target offset k = same_Some _ _ (sym chosen.is ∙ ap (λ (b : Block). slice_get b.bytes place) same ∙ byte) in
        cc
