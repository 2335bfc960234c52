-- The bytes that a block had before a range of it was changed: those of the edges that were there, and zeros where none was.
use Rattle.std.proofs.Common.{◌≡◌, ℕ, zero, suc, ◌+◌, ◌-◌, ◌<◌, ◌≤◌, Bool, true, false, ◌||◌, List, [], ◌∷◌, ◌++◌, map, replicate, length, take, drop, get_or, min, nat_eq, nat_le, nat_lt, Option, Some, refl, sym, ◌∙◌, ap, subst, eqb-true, leb-true, ltb-true, length-take, length-drop, arith}
use Rattle.std.specs.Prelude.{if◌then◌else◌}
use Rattle.std.specs.Int.{w64, to_le_bytes}
use Rattle.std.specs.List.{filter, list_all}
use Rattle.std.specs.Option.{option_map_or}
use Rattle.std.proofs.lemmas.Bool.{false≢true}
use Rattle.std.proofs.lemmas.List.{get_or-take, get_or-drop, length-replicate}
use Rattle.std.proofs.lemmas.List.Sums.{AllPass-from_list_all}
use Rattle.bytes_core.specs.declared.byte.Byte.{Byte}
use Rattle.bytes_core.specs.declared.byte.Byte.TheVariants.{Num, Part}
use Rattle.bytes_core.specs.declared.word.Word.{Word}
use Rattle.bytes_core.specs.declared.word.Word.TheVariants.{Plain}
use Rattle.bytes_core.specs.declared.block.Block.{Block}
use Rattle.bytes_core.specs.Value.{word_bytes}
use Rattle.graph.specs.declared.edges.HasValue.{HasValue}
use Rattle.graph.specs.declared.object.Object.{Object}
use Rattle.graph.specs.declared.value.Value.{Value}
use Rattle.graph.specs.declared.value.Value.TheVariants.{Const, Number, Any, Address}
use Rattle.graph.specs.declared.parts.Parts.{Parts}
use Rattle.graph.specs.Maps.{value_at}
use Rattle.graph.specs.Nodes.{own_node}
use Rattle.graph.specs.Sizes.{value_class, is_zero}
use Rattle.graph.specs.WellFormed.{edge_has_class, are_disjoint, lies_in}
use Rattle.graph.specs.Meaning.{HasClass, HaveClasses, HoldEdges, IsNode, Ends, HasWord}
use Rattle.graph.proofs.Tests.{and_left, and_right}
use Rattle.graph.proofs.Found.{Holds-some}
use Rattle.graph.proofs.Sent.{passes-some}
use Rattle.graph.proofs.Table.{covers, edge_byte, byte_at, table, length-table, HoldEdges-table, HaveClasses-table}
use Rattle.changes.specs.Ranges.{spliced, ends_before, begins_behind, is_beside, is_inside, cuts_none, with_range, edge_for, class_for, written_object}
use Rattle.changes.proofs.Splice.{length-spliced, spliced-twice, spliced-own, range_same, range_within}
use Rattle.changes.proofs.Node.{HaveClasses-range, take_replicate, HaveClasses-spliced, HoldEdges-left, HoldEdges-right, before_beside, behind_beside, beside_holds, block_with}

-- a byte of a value's word has the value's class
number_byte : (numbers : List ℕ) (i : ℕ) → HasClass 1 (get_or (map Num numbers) i (Num 0))
number_byte [] i = tt
number_byte (number ∷ rest) zero = tt
number_byte (number ∷ rest) (suc i) = number_byte rest i

value_byte : (count : ℕ) (blocks : ℕ → List ℕ) (ends : ℕ → Ends) (value : Value) (word : Word) (i : ℕ) → HasWord count blocks ends value word → HasClass (value_class value) (get_or (word_bytes word) i (Num 0))
value_byte count blocks ends (Const number size) word i is = subst (λ (w : Word). HasClass 1 (get_or (word_bytes w) i (Num 0))) (sym is) (number_byte (to_le_bytes w64 number) i)
value_byte count blocks ends (Number size) word i (number, is, fits) = subst (λ (w : Word). HasClass 1 (get_or (word_bytes w) i (Num 0))) (sym is) (number_byte (to_le_bytes w64 number) i)
value_byte count blocks ends Any word i is = tt
value_byte count blocks ends (Address object offset target) word i is = tt

pub zero_has : (class : ℕ) → HasClass class (Num 0)
zero_has zero = refl
zero_has (suc zero) = tt
zero_has (suc (suc class)) = tt

-- the class of a byte under an edge is that of the value
class_is : (plane : List ℕ) (edge : HasValue) (class place d : ℕ) → list_all (nat_eq class) (take edge.size (drop edge.at plane)) ≡ true → place < length plane →
    edge.at ≤ place → place < edge.at + edge.size → get_or plane place d ≡ class
class_is plane edge class place d all within low high =
    let pass = AllPass-from_list_all (nat_eq class) (take edge.size (drop edge.at plane)) all in
    let part : get_or (take edge.size (drop edge.at plane)) (place - edge.at) d ≡ get_or plane place d =
    get_or-take edge.size (drop edge.at plane) (place - edge.at) d (omega arith)
    ∙ get_or-drop edge.at plane (place - edge.at) d
    ∙ ap (λ (n : ℕ). get_or plane n d) (let e : edge.at + (place - edge.at) ≡ place = omega arith in e) in
    let long : length (take edge.size (drop edge.at plane)) ≡ min edge.size (length plane - edge.at) = length-take edge.size (drop edge.at plane) ∙ ap (min edge.size) (length-drop edge.at plane) in
    let equal : class ≡ get_or (take edge.size (drop edge.at plane)) (place - edge.at) d = eqb-true _ _ (pass (place - edge.at) d (omega arith)) in
    sym part ∙ sym equal

-- a plain number 0 at each place that no edge holds
abbrev pub blank : ℕ → Byte
blank place = Num 0

abbrev pub bytes_of : (ℕ → Word) → Object → List Byte
bytes_of word object = table (byte_at word blank object.edges) 0 object.size

-- the bytes of a range of them
abbrev pub range_of : (ℕ → Word) → Object → ℕ → ℕ → List Byte
range_of word object from count = take count (drop from (bytes_of word object))

module _ (bytes : List Byte) (from : ℕ) (new : List Byte) (room : from + length new ≤ length bytes) (word : ℕ → Word) where
  -- the edges of other bytes hold, where those beside the range hold here, and what is new stands in the other bytes
  all_hold : (other : List Byte) → length other ≡ length bytes → new ≡ take (length new) (drop from other) → (size : ℕ) → size ≡ length bytes → (edges : List HasValue) →
      list_all (lies_in size) edges ≡ true → cuts_none from (length new) edges ≡ true →
      HoldEdges bytes word (filter (ends_before from) edges) → HoldEdges bytes word (filter (begins_behind (from + length new)) edges) → HoldEdges other word edges → HoldEdges (spliced bytes from new) word edges
  all_hold other long_other new_is size long [] inside cuts before behind others = tt
  all_hold other long_other new_is size long (edge ∷ rest) inside cuts before behind others = (
    by_side (ends_before from edge) refl (begins_behind (from + length new) edge) refl before behind,
    all_hold other long_other new_is size long rest (and_right (lies_in size edge) (list_all (lies_in size) rest) inside)
        (and_right (is_beside from (length new) edge || is_inside from (length new) edge) (cuts_none from (length new) rest) cuts)
        (rest_of (ends_before from edge) (filter (ends_before from) rest) before) (rest_of (begins_behind (from + length new) edge) (filter (begins_behind (from + length new)) rest) behind) others.1,
  )
    where
      within : edge.at + edge.size ≤ length bytes
      within = subst (λ (n : ℕ). edge.at + edge.size ≤ n) long (leb-true _ _ (and_left (lies_in size edge) (list_all (lies_in size) rest) inside))

      in_range : is_inside from (length new) edge ≡ true → take edge.size (drop edge.at (spliced bytes from new)) ≡ take edge.size (word_bytes (word edge.value))
      in_range is =
          let low = leb-true _ _ (and_left (nat_le from edge.at) (nat_le (edge.at + edge.size) (from + length new)) is) in
          let high = leb-true _ _ (and_right (nat_le from edge.at) (nat_le (edge.at + edge.size) (from + length new)) is) in
          range_within bytes from new room (Num 0) edge.at edge.size low high
          ∙ range_same new other (edge.at - from) edge.at edge.size (Num 0) (omega arith) (omega arith) (λ i below.
          ap (λ (xs : List Byte). get_or xs (edge.at - from + i) (Num 0)) new_is
          ∙ get_or-take (length new) (drop from other) (edge.at - from + i) (Num 0) (omega arith) ∙ get_or-drop from other (edge.at - from + i) (Num 0)
          ∙ ap (λ (n : ℕ). get_or other n (Num 0)) (let e : from + (edge.at - from + i) ≡ edge.at + i = omega arith in e))
          ∙ others.0

      rest_of : (b : Bool) (kept : List HasValue) → HoldEdges bytes word (if b then edge ∷ kept else kept) → HoldEdges bytes word kept
      rest_of true kept holds = holds.1
      rest_of false kept holds = holds

      by_side : (a : Bool) → ends_before from edge ≡ a → (b : Bool) → begins_behind (from + length new) edge ≡ b →
          HoldEdges bytes word (if a then edge ∷ filter (ends_before from) rest else filter (ends_before from) rest) →
          HoldEdges bytes word (if b then edge ∷ filter (begins_behind (from + length new)) rest else filter (begins_behind (from + length new)) rest) →
          take edge.size (drop edge.at (spliced bytes from new)) ≡ take edge.size (word_bytes (word edge.value))
      by_side true is b b_is before behind = beside_holds bytes from new room word edge (before_beside from (length new) edge is) within ∙ before.0
      by_side false a_is true is before behind = beside_holds bytes from new room word edge (behind_beside from (length new) edge is) within ∙ behind.0
      by_side false a_is false b_is before behind = in_range (third (and_left (is_beside from (length new) edge || is_inside from (length new) edge) (cuts_none from (length new) rest) cuts))
        where
          third : ((ends_before from edge || begins_behind (from + length new) edge) || is_inside from (length new) edge) ≡ true → is_inside from (length new) edge ≡ true
          third any = sym (ap (λ (a : Bool). (a || begins_behind (from + length new) edge) || is_inside from (length new) edge) a_is ∙ ap (λ (b : Bool). b || is_inside from (length new) edge) b_is) ∙ any

module _ (parts : Parts) (count : ℕ) (blocks : ℕ → List ℕ) (ends : ℕ → Ends) (word : ℕ → Word) (words : (key : ℕ) (value : Value) → value_at parts.values key ≡ Some value → HasWord count blocks ends value (word key)) where
  edge_has : (plane : List ℕ) (edge : HasValue) (place d : ℕ) → edge_has_class parts plane edge ≡ true → place < length plane → covers edge place ≡ true →
      HasClass (get_or plane place d) (edge_byte word edge place)
  edge_has plane edge place d has within covered =
      let held = Holds-some (value_at parts.values edge.value) (passes-some (λ value. list_all (nat_eq (value_class value)) (take edge.size (drop edge.at plane))) (value_at parts.values edge.value) has) in
      let all = subst (λ (o : Option Value). option_map_or (λ value. list_all (nat_eq (value_class value)) (take edge.size (drop edge.at plane))) o false ≡ true) held.is has in
      let low = leb-true _ _ (and_left (nat_le edge.at place) (nat_lt place (edge.at + edge.size)) covered) in
      let high = ltb-true _ _ (and_right (nat_le edge.at place) (nat_lt place (edge.at + edge.size)) covered) in
      let class = class_is plane edge (value_class held.item) place d all within low high in
      subst (λ (c : ℕ). HasClass c (edge_byte word edge place)) (sym class) (value_byte count blocks ends held.item (word edge.value) (place - edge.at) (words edge.value held.item held.is))

  byte_has : (plane : List ℕ) (edges : List HasValue) (place d : ℕ) → list_all (edge_has_class parts plane) edges ≡ true → place < length plane →
      HasClass (get_or plane place d) (byte_at word blank edges place)
  byte_has plane [] place d has within = zero_has (get_or plane place d)
  byte_has plane (edge ∷ rest) place d has within =
      by_cases (covers edge place) refl (byte_has plane rest place d (and_right (edge_has_class parts plane edge) (list_all (edge_has_class parts plane) rest) has) within)
    where
      by_cases : (b : Bool) → covers edge place ≡ b → HasClass (get_or plane place d) (byte_at word blank rest place) →
          HasClass (get_or plane place d) (if b then edge_byte word edge place else byte_at word blank rest place)
      by_cases true is later = edge_has plane edge place d (and_left (edge_has_class parts plane edge) (list_all (edge_has_class parts plane) rest) has) within is
      by_cases false is later = later

  pub bytes_have : (object : Object) → length object.plane ≡ object.size → list_all (edge_has_class parts object.plane) object.edges ≡ true → HaveClasses object.plane (bytes_of word object)
  bytes_have object long has =
      subst (λ (n : ℕ). HaveClasses object.plane (table (byte_at word blank object.edges) 0 n)) long
      (HaveClasses-table (byte_at word blank object.edges) 0 object.plane (λ i d below. subst (λ (n : ℕ). HasClass (get_or object.plane i d) (byte_at word blank object.edges n)) (let e : i ≡ 0 + i = omega arith in e) (byte_has object.plane object.edges i d has below)))

  -- a live block with these bytes is one of the object
  pub node_made : (object : Object) (block : Block) → block.live ≡ true → block.kind ≡ object.kind → block.bytes ≡ bytes_of word object → length object.plane ≡ object.size →
      are_disjoint object.edges ≡ true → list_all (lies_in object.size) object.edges ≡ true → list_all (λ edge. nat_le edge.size 8) object.edges ≡ true →
      list_all (edge_has_class parts object.plane) object.edges ≡ true → IsNode object.size object.kind (own_node object) word block
  node_made object block live kind made long disjoint lie small has = record {
    live = live;
    kind = kind;
    size = ap length made ∙ length-table (byte_at word blank object.edges) 0 object.size;
    edges = subst (λ (bytes : List Byte). HoldEdges bytes word object.edges) (sym made) (HoldEdges-table word blank object.edges object.size disjoint lie small);
    classes = subst (λ (bytes : List Byte). HaveClasses object.plane bytes) (sym made) (bytes_have object long has);
  }

  pub long_range : (object : Object) (from count : ℕ) → from + count ≤ object.size → length (range_of word object from count) ≡ count
  long_range object from count within =
      length-take count (drop from (bytes_of word object)) ∙ ap (min count) (length-drop from (bytes_of word object))
      ∙ (let e = length-table (byte_at word blank object.edges) 0 object.size in omega arith)

  -- a block of the object with other edges and classes in a range, of which no edge overlaps it in part, is one of the object once its bytes there
  -- are those of the object's own edges
  pub node_before : (object : Object) (from size : ℕ) (inside : List HasValue) (classes : List ℕ) (block : Block) →
      length classes ≡ size → from + size ≤ object.size → length object.plane ≡ object.size →
      are_disjoint object.edges ≡ true → list_all (lies_in object.size) object.edges ≡ true → list_all (λ edge. nat_le edge.size 8) object.edges ≡ true →
      list_all (edge_has_class parts object.plane) object.edges ≡ true → cuts_none from size object.edges ≡ true →
      IsNode object.size object.kind (own_node (with_range object from size inside classes)) word block →
      IsNode object.size object.kind (own_node object) word (block_with block (spliced block.bytes from (range_of word object from size)))
  node_before object from size inside classes block many within long disjoint lie small has cuts node = record {
    live = node.live;
    kind = node.kind;
    size = length-spliced block.bytes from (range_of word object from size) room (Num 0) ∙ node.size;
    edges = all_hold block.bytes from (range_of word object from size) room word (bytes_of word object) (long_own ∙ sym node.size) (ap (λ (n : ℕ). take n (drop from (bytes_of word object))) (sym long_old)) object.size (sym node.size)
        object.edges lie (subst (λ (n : ℕ). cuts_none from n object.edges ≡ true) (sym long_old) cuts)
        (HoldEdges-left block.bytes word (filter (ends_before from) object.edges) (inside ++ filter (begins_behind (from + size)) object.edges) node.edges)
        (subst (λ (n : ℕ). HoldEdges block.bytes word (filter (begins_behind (from + n)) object.edges)) (sym long_old)
        (HoldEdges-right block.bytes word inside (filter (begins_behind (from + size)) object.edges)
        (HoldEdges-right block.bytes word (filter (ends_before from) object.edges) (inside ++ filter (begins_behind (from + size)) object.edges) node.edges)))
        own;
    classes = subst (λ (plane : List ℕ). HaveClasses plane (spliced block.bytes from (range_of word object from size))) plane_is
        (HaveClasses-spliced (spliced object.plane from classes) block.bytes from (take size (drop from object.plane)) (range_of word object from size) node.classes
        (HaveClasses-range from size object.plane (bytes_of word object) (bytes_have object long has)));
  }
    where
      long_own : length (bytes_of word object) ≡ object.size
      long_own = length-table (byte_at word blank object.edges) 0 object.size

      long_old : length (range_of word object from size) ≡ size
      long_old = long_range object from size within

      room : from + length (range_of word object from size) ≤ length block.bytes
      room = let a = long_old in let b = node.size in omega arith

      own : HoldEdges (bytes_of word object) word object.edges
      own = HoldEdges-table word blank object.edges object.size disjoint lie small

      long_mid : length (take size (drop from object.plane)) ≡ size
      long_mid = length-take size (drop from object.plane) ∙ ap (min size) (length-drop from object.plane) ∙ omega arith

      plane_is : spliced (spliced object.plane from classes) from (take size (drop from object.plane)) ≡ object.plane
      plane_is =
          spliced-twice object.plane from classes (omega arith) 0 (take size (drop from object.plane)) (long_mid ∙ sym many)
          ∙ spliced-own object.plane from (take size (drop from object.plane)) (let e = long_mid in omega arith) 0 (ap (λ (n : ℕ). length (take n (drop from object.plane))) (sym long_mid)) (ap (λ (n : ℕ). take n (drop from object.plane)) (sym long_mid))

-- bytes put back over those that were there
pub put_back : (bytes : List Byte) (from size : ℕ) (old : List Byte) → from + size ≤ length bytes → length old ≡ size → spliced (spliced bytes from old) from (take size (drop from bytes)) ≡ bytes
put_back bytes from size old room long =
    spliced-twice bytes from old (omega arith) (Num 0) (take size (drop from bytes)) (long_mid ∙ sym long)
    ∙ spliced-own bytes from (take size (drop from bytes)) (let e = long_mid in omega arith) (Num 0) (ap (λ (n : ℕ). length (take n (drop from bytes))) (sym long_mid)) (ap (λ (n : ℕ). take n (drop from bytes)) (sym long_mid))
  where
    long_mid : length (take size (drop from bytes)) ≡ size
    long_mid = length-take size (drop from bytes) ∙ ap (min size) (length-drop from bytes) ∙ omega arith

-- What a write leaves stands in the range: the lowest bytes of the value's word, also where that is the constant 0.

pub zeros_are : (bytes : List Byte) (n : ℕ) → HaveClasses (replicate n 0) bytes → bytes ≡ replicate n (Num 0)
zeros_are [] zero has = refl
zeros_are [] (suc n) has = elim has [ ]
zeros_are (byte ∷ bytes) zero has = elim has [ ]
zeros_are (Part block offset k ∷ bytes) (suc n) has = elim has.0 [ ]
zeros_are (Num number ∷ bytes) (suc n) has = ap (λ (m : ℕ). Num m ∷ bytes) has.0 ∙ ap (λ (bs : List Byte). Num 0 ∷ bs) (zeros_are bytes n has.1)

pub range_stands : (items : List ℕ) (from size class : ℕ) → from + size ≤ length items → take size (drop from (spliced items from (replicate size class))) ≡ replicate size class
range_stands items from size class room =
    let long = length-replicate size class in
    range_within items from (replicate size class) (omega arith) 0 from size (omega arith) (omega arith)
    ∙ ap (λ (n : ℕ). take size (drop n (replicate size class))) (let e : from - from ≡ 0 = omega arith in e)
    ∙ ap (λ (n : ℕ). take size (replicate n class)) (let e : size ≡ size + 0 = omega arith in e)
    ∙ take_replicate size 0 class

pub word_stands : (object : Object) (edge : HasValue) (value : Value) (count : ℕ) (blocks : ℕ → List ℕ) (ends : ℕ → Ends) (word : ℕ → Word) (block : Block) →
    edge.size ≤ 8 → edge.at + edge.size ≤ object.size → length object.plane ≡ object.size → HasWord count blocks ends value (word edge.value) →
    IsNode object.size object.kind (own_node (written_object object edge value)) word block →
    take edge.size (drop edge.at block.bytes) ≡ take edge.size (word_bytes (word edge.value))
word_stands object edge value count blocks ends word block small within long has node = by_zero (is_zero value) refl
  where
    by_zero : (b : Bool) → is_zero value ≡ b → take edge.size (drop edge.at block.bytes) ≡ take edge.size (word_bytes (word edge.value))
    by_zero false is =
        let held = HoldEdges-left block.bytes word (edge_for value edge) (filter (begins_behind (edge.at + edge.size)) object.edges)
        (HoldEdges-right block.bytes word (filter (ends_before edge.at) object.edges) (edge_for value edge ++ filter (begins_behind (edge.at + edge.size)) object.edges) node.edges) in
        let one : HoldEdges block.bytes word (edge ∷ []) = subst (λ (b : Bool). HoldEdges block.bytes word (if b then [] else edge ∷ [])) is held in
        one.0
    by_zero true is =
        zeros_are (take edge.size (drop edge.at block.bytes)) edge.size
        (subst (λ (plane : List ℕ). HaveClasses plane (take edge.size (drop edge.at block.bytes))) classes_are
        (HaveClasses-range edge.at edge.size (spliced object.plane edge.at (replicate edge.size (class_for value))) block.bytes node.classes))
        ∙ sym (zero_word value (word edge.value) is has)
      where
        classes_are : take edge.size (drop edge.at (spliced object.plane edge.at (replicate edge.size (class_for value)))) ≡ replicate edge.size 0
        classes_are = range_stands object.plane edge.at edge.size (class_for value) (omega arith) ∙ ap (λ (b : Bool). replicate edge.size (if b then 0 else value_class value)) is

        zero_bytes : take edge.size (replicate 8 (Num 0)) ≡ replicate edge.size (Num 0)
        zero_bytes = ap (λ (n : ℕ). take edge.size (replicate n (Num 0))) (let e : 8 ≡ edge.size + (8 - edge.size) = omega arith in e) ∙ take_replicate edge.size (8 - edge.size) (Num 0)

        zero_word : (value : Value) (w : Word) → is_zero value ≡ true → HasWord count blocks ends value w → take edge.size (word_bytes w) ≡ replicate edge.size (Num 0)
        zero_word (Const number size) w is has = ap (λ (w : Word). take edge.size (word_bytes w)) (has ∙ ap Plain (eqb-true _ _ is)) ∙ zero_bytes
        zero_word (Number size) w is has = absurd (false≢true is)
        zero_word Any w is has = absurd (false≢true is)
        zero_word (Address object offset target) w is has = absurd (false≢true is)
