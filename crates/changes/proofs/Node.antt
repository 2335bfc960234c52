-- Bytes in a range of a block, and what an object then says of it.
use Rattle.std.proofs.Common.{◌≡◌, ℕ, zero, suc, ◌+◌, ◌-◌, ◌≤◌, Bool, true, false, ◌||◌, List, [], ◌∷◌, ◌++◌, map, replicate, length, take, drop, min, nat_eq, nat_le, refl, sym, ◌∙◌, ap, subst, leb-true, arith, eqb-true, append_assoc, length-take, ◌⊎◌, inl, inr}
use Rattle.std.specs.Prelude.{if◌then◌else◌}
use Rattle.std.specs.Int.{w64, to_le_bytes}
use Rattle.std.specs.List.{filter, list_all}
use Rattle.std.proofs.lemmas.Bool.{false≢true}
use Rattle.std.proofs.lemmas.List.{length-replicate}
use Rattle.bytes_core.proofs.Written.{length-word_bytes}
use Rattle.bytes_core.specs.declared.byte.Byte.{Byte}
use Rattle.bytes_core.specs.declared.byte.Byte.TheVariants.{Num}
use Rattle.bytes_core.specs.declared.word.Word.{Word}
use Rattle.bytes_core.specs.declared.word.Word.TheVariants.{Plain, To}
use Rattle.bytes_core.specs.declared.block.Block.{Block}
use Rattle.bytes_core.specs.Value.{word_bytes}
use Rattle.planes.specs.Classes.{filled}
use Rattle.graph.specs.declared.edges.HasValue.{HasValue}
use Rattle.graph.specs.declared.object.Object.{Object}
use Rattle.graph.specs.declared.value.Value.{Value}
use Rattle.graph.specs.declared.value.Value.TheVariants.{Const, Number, Any, Address}
use Rattle.graph.specs.Nodes.{own_node}
use Rattle.graph.specs.Sizes.{is_zero}
use Rattle.graph.specs.WellFormed.{lies_in}
use Rattle.graph.specs.Meaning.{HaveClasses, HoldEdges, IsNode, Ends, HasWord}
use Rattle.graph.proofs.Tests.{and_left, and_right}
use Rattle.changes.specs.Ranges.{spliced, ends_before, begins_behind, is_beside, with_range, edge_for, class_for}
use Rattle.changes.proofs.Splice.{length-spliced, range_beside, range_within}

-- Classes.

pub HaveClasses-append : (one other : List ℕ) (bytes others : List Byte) → HaveClasses one bytes → HaveClasses other others → HaveClasses (one ++ other) (bytes ++ others)
HaveClasses-append [] other [] others has has' = has'
HaveClasses-append [] other (byte ∷ bytes) others has has' = elim has [ ]
HaveClasses-append (class ∷ one) other [] others has has' = elim has [ ]
HaveClasses-append (class ∷ one) other (byte ∷ bytes) others has has' = (has.0, HaveClasses-append one other bytes others has.1 has')

pub HaveClasses-take : (n : ℕ) (plane : List ℕ) (bytes : List Byte) → HaveClasses plane bytes → HaveClasses (take n plane) (take n bytes)
HaveClasses-take zero plane bytes has = tt
HaveClasses-take (suc n) [] [] has = tt
HaveClasses-take (suc n) [] (byte ∷ bytes) has = elim has [ ]
HaveClasses-take (suc n) (class ∷ plane) [] has = elim has [ ]
HaveClasses-take (suc n) (class ∷ plane) (byte ∷ bytes) has = (has.0, HaveClasses-take n plane bytes has.1)

pub HaveClasses-drop : (n : ℕ) (plane : List ℕ) (bytes : List Byte) → HaveClasses plane bytes → HaveClasses (drop n plane) (drop n bytes)
HaveClasses-drop zero plane bytes has = has
HaveClasses-drop (suc n) [] [] has = tt
HaveClasses-drop (suc n) [] (byte ∷ bytes) has = elim has [ ]
HaveClasses-drop (suc n) (class ∷ plane) [] has = elim has [ ]
HaveClasses-drop (suc n) (class ∷ plane) (byte ∷ bytes) has = HaveClasses-drop n plane bytes has.1

pub HaveClasses-length : (plane : List ℕ) (bytes : List Byte) → HaveClasses plane bytes → length plane ≡ length bytes
HaveClasses-length [] [] has = refl
HaveClasses-length [] (byte ∷ bytes) has = elim has [ ]
HaveClasses-length (class ∷ plane) [] has = elim has [ ]
HaveClasses-length (class ∷ plane) (byte ∷ bytes) has = ap suc (HaveClasses-length plane bytes has.1)

pub HaveClasses-spliced : (plane : List ℕ) (bytes : List Byte) (from : ℕ) (classes : List ℕ) (new : List Byte) → HaveClasses plane bytes → HaveClasses classes new →
    HaveClasses (spliced plane from classes) (spliced bytes from new)
HaveClasses-spliced plane bytes from classes new has has' =
    let same = HaveClasses-length classes new has' in
    HaveClasses-append (take from plane) (classes ++ drop (from + length classes) plane) (take from bytes) (new ++ drop (from + length new) bytes) (HaveClasses-take from plane bytes has)
    (HaveClasses-append classes (drop (from + length classes) plane) new (drop (from + length new) bytes) has'
    (subst (λ (n : ℕ). HaveClasses (drop n plane) (drop (from + length new) bytes)) (ap (λ (n : ℕ). from + n) (sym same)) (HaveClasses-drop (from + length new) plane bytes has)))

-- the classes of a range are those of its bytes
pub HaveClasses-range : (from count : ℕ) (plane : List ℕ) (bytes : List Byte) → HaveClasses plane bytes → HaveClasses (take count (drop from plane)) (take count (drop from bytes))
HaveClasses-range from count plane bytes has = HaveClasses-take count (drop from plane) (drop from bytes) (HaveClasses-drop from plane bytes has)

-- the bytes of a value's word have its class
number_has : (numbers : List ℕ) → HaveClasses (replicate (length numbers) 1) (map Num numbers)
number_has [] = tt
number_has (number ∷ rest) = (tt, number_has rest)

any_has : (bytes : List Byte) → HaveClasses (replicate (length bytes) 2) bytes
any_has [] = tt
any_has (byte ∷ rest) = (tt, any_has rest)

pub word_has : (count : ℕ) (blocks : ℕ → List ℕ) (ends : ℕ → Ends) (value : Value) (word : Word) → HasWord count blocks ends value word → HaveClasses (replicate 8 (class_for value)) (word_bytes word)
word_has count blocks ends (Const number size) word is = subst (λ (w : Word). HaveClasses (replicate 8 (class_for (Const number size))) (word_bytes w)) (sym is) (by_zero (nat_eq number 0) refl)
  where
    by_zero : (b : Bool) → nat_eq number 0 ≡ b → HaveClasses (replicate 8 (if b then 0 else 1)) (word_bytes (Plain number))
    by_zero true zero_is = subst (λ (n : ℕ). HaveClasses (replicate 8 0) (word_bytes (Plain n))) (sym (eqb-true _ _ zero_is)) (refl, (refl, (refl, (refl, (refl, (refl, (refl, (refl, tt))))))))
    by_zero false is = number_has (to_le_bytes w64 number)
word_has count blocks ends (Number size) word (number, is, fits) = subst (λ (w : Word). HaveClasses (replicate 8 1) (word_bytes w)) (sym is) (number_has (to_le_bytes w64 number))
word_has count blocks ends Any (Plain number) is = any_has (map Num (to_le_bytes w64 number))
word_has count blocks ends Any (To block offset) is = any_has (word_bytes (To block offset))
word_has count blocks ends (Address object offset target) (Plain number) is = any_has (map Num (to_le_bytes w64 number))
word_has count blocks ends (Address object offset target) (To block offset') is = any_has (word_bytes (To block offset'))

pub take_replicate : {A : Type 0} (size more : ℕ) (item : A) → take size (replicate (size + more) item) ≡ replicate size item
take_replicate zero more item = refl
take_replicate (suc size) more item =
    ap (λ (n : ℕ). take (suc size) (replicate n item)) (let e : suc size + more ≡ suc (size + more) = omega arith in e) ∙ ap (λ (xs : List _). item ∷ xs) (take_replicate size more item)

-- so have the lowest ones
pub low_has : (count : ℕ) (blocks : ℕ → List ℕ) (ends : ℕ → Ends) (size : ℕ) (value : Value) (word : Word) → size ≤ 8 → HasWord count blocks ends value word → HaveClasses (replicate size (class_for value)) (take size (word_bytes word))
low_has count blocks ends size value word small has =
    subst (λ (classes : List ℕ). HaveClasses classes (take size (word_bytes word)))
    (ap (λ (n : ℕ). take size (replicate n (class_for value))) (let e : 8 ≡ size + (8 - size) = omega arith in e) ∙ take_replicate size (8 - size) (class_for value))
    (HaveClasses-take size (replicate 8 (class_for value)) (word_bytes word) (word_has count blocks ends value word has))

-- Edges.

pub HoldEdges-append : (bytes : List Byte) (word : ℕ → Word) (one other : List HasValue) → HoldEdges bytes word one → HoldEdges bytes word other → HoldEdges bytes word (one ++ other)
HoldEdges-append bytes word [] other holds holds' = holds'
HoldEdges-append bytes word (edge ∷ one) other holds holds' = (holds.0, HoldEdges-append bytes word one other holds.1 holds')

pub HoldEdges-left : (bytes : List Byte) (word : ℕ → Word) (one other : List HasValue) → HoldEdges bytes word (one ++ other) → HoldEdges bytes word one
HoldEdges-left bytes word [] other holds = tt
HoldEdges-left bytes word (edge ∷ one) other holds = (holds.0, HoldEdges-left bytes word one other holds.1)

pub HoldEdges-right : (bytes : List Byte) (word : ℕ → Word) (one other : List HasValue) → HoldEdges bytes word (one ++ other) → HoldEdges bytes word other
HoldEdges-right bytes word [] other holds = holds
HoldEdges-right bytes word (edge ∷ one) other holds = HoldEdges-right bytes word one other holds.1

-- an edge beside a range lies before or behind
pub beside_either : (from count : ℕ) (edge : HasValue) → is_beside from count edge ≡ true → (edge.at + edge.size ≤ from) ⊎ (from + count ≤ edge.at)
beside_either from count edge is = either (ends_before from edge) refl (begins_behind (from + count) edge) refl is
  where
    either : (a : Bool) → nat_le (edge.at + edge.size) from ≡ a → (b : Bool) → nat_le (from + count) edge.at ≡ b → (a || b) ≡ true → (edge.at + edge.size ≤ from) ⊎ (from + count ≤ edge.at)
    either true a_is b b_is any = inl (leb-true _ _ a_is)
    either false a_is true b_is any = inr (leb-true _ _ b_is)
    either false a_is false b_is any = absurd (false≢true any)

pub before_beside : (from count : ℕ) (edge : HasValue) → ends_before from edge ≡ true → is_beside from count edge ≡ true
before_beside from count edge is = ap (λ (b : Bool). b || begins_behind (from + count) edge) is

pub behind_beside : (from count : ℕ) (edge : HasValue) → begins_behind (from + count) edge ≡ true → is_beside from count edge ≡ true
behind_beside from count edge is = by_test (ends_before from edge) (begins_behind (from + count) edge) is
  where
    by_test : (a b : Bool) → b ≡ true → (a || b) ≡ true
    by_test true b is = refl
    by_test false b is = is

module _ (bytes : List Byte) (from : ℕ) (new : List Byte) (room : from + length new ≤ length bytes) (word : ℕ → Word) where
  -- an edge beside a range holds its word before just where it does behind
  pub beside_holds : (edge : HasValue) → is_beside from (length new) edge ≡ true → edge.at + edge.size ≤ length bytes →
      take edge.size (drop edge.at (spliced bytes from new)) ≡ take edge.size (drop edge.at bytes)
  beside_holds edge is within = range_beside bytes from new room (Num 0) edge.at edge.size within (beside_either from (length new) edge is)

  -- edges beside the range hold afterwards
  pub beside_stays : (p : HasValue → Bool) → ((edge : HasValue) → p edge ≡ true → is_beside from (length new) edge ≡ true) → (size : ℕ) → size ≡ length bytes → (edges : List HasValue) → list_all (lies_in size) edges ≡ true →
      HoldEdges bytes word edges → HoldEdges (spliced bytes from new) word (filter p edges)
  beside_stays p beside size long [] inside holds = tt
  beside_stays p beside size long (edge ∷ rest) inside holds = by_side (p edge) refl (beside_stays p beside size long rest (and_right (lies_in size edge) (list_all (lies_in size) rest) inside) holds.1)
    where
      within : edge.at + edge.size ≤ length bytes
      within = subst (λ (n : ℕ). edge.at + edge.size ≤ n) long (leb-true _ _ (and_left (lies_in size edge) (list_all (lies_in size) rest) inside))

      by_side : (b : Bool) → p edge ≡ b → HoldEdges (spliced bytes from new) word (filter p rest) → HoldEdges (spliced bytes from new) word (if b then edge ∷ filter p rest else filter p rest)
      by_side true is later = (beside_holds edge (beside edge is) within ∙ holds.0, later)
      by_side false is later = later

pub filled_spliced : (classes : List ℕ) (from count class : ℕ) → filled classes from count class ≡ spliced classes from (replicate count class)
filled_spliced classes from count class = append_assoc (take from classes) (replicate count class) (drop (from + count) classes) ∙ ap (λ (n : ℕ). take from classes ++ (replicate count class ++ drop (from + n) classes)) (sym (length-replicate count class))

-- a block with other bytes
abbrev pub block_with : Block → List Byte → Block
block_with block bytes = record block { bytes = bytes }

-- after bytes are written in a range, the block is one of the object of which the edges and classes of these bytes are said there
pub node_in_range : (object : Object) (from count : ℕ) (inside : List HasValue) (classes : List ℕ) (word : ℕ → Word) (block : Block) (new : List Byte) →
    length new ≡ count → from + count ≤ object.size → list_all (lies_in object.size) object.edges ≡ true →
    HaveClasses classes new → HoldEdges (spliced block.bytes from new) word inside → IsNode object.size object.kind (own_node object) word block →
    IsNode object.size object.kind (own_node (with_range object from count inside classes)) word (block_with block (spliced block.bytes from new))
node_in_range object from count inside classes word block new long within lie has holds node = record {
  live = node.live;
  kind = node.kind;
  size = length-spliced block.bytes from new room (Num 0) ∙ node.size;
  edges = HoldEdges-append (spliced block.bytes from new) word (filter (ends_before from) object.edges) (inside ++ filter (begins_behind (from + count)) object.edges)
      (beside_stays block.bytes from new room word (ends_before from) (before_beside from (length new)) object.size (sym node.size) object.edges lie node.edges)
      (HoldEdges-append (spliced block.bytes from new) word inside (filter (begins_behind (from + count)) object.edges) holds
      (beside_stays block.bytes from new room word (begins_behind (from + count)) behind object.size (sym node.size) object.edges lie node.edges));
  classes = HaveClasses-spliced object.plane block.bytes from classes new node.classes has;
}
  where
    room : from + length new ≤ length block.bytes
    room = let a = long in let b = node.size in omega arith

    behind : (edge : HasValue) → begins_behind (from + count) edge ≡ true → is_beside from (length new) edge ≡ true
    behind edge is = behind_beside from (length new) edge (ap (λ (n : ℕ). begins_behind (from + n) edge) long ∙ is)

pub low_long : (size : ℕ) (word : Word) → size ≤ 8 → length (take size (word_bytes word)) ≡ size
low_long size word small = length-take size (word_bytes word) ∙ ap (min size) (length-word_bytes word) ∙ omega arith

-- the lowest bytes of a word, written in a range, are found there
pub low_within : (bytes : List Byte) (from size : ℕ) (word : Word) → size ≤ 8 → from + size ≤ length bytes → take size (drop from (spliced bytes from (take size (word_bytes word)))) ≡ take size (word_bytes word)
low_within bytes from size word small room =
    let long = low_long size word small in
    range_within bytes from (take size (word_bytes word)) (omega arith) (Num 0) from size (omega arith) (omega arith)
    ∙ ap (λ (n : ℕ). take size (drop n (take size (word_bytes word)))) (let e : from - from ≡ 0 = omega arith in e)
    ∙ take_twice size (word_bytes word)
  where
    take_twice : {A : Type 0} (n : ℕ) (xs : List A) → take n (take n xs) ≡ take n xs
    take_twice zero xs = refl
    take_twice (suc n) [] = refl
    take_twice (suc n) (x ∷ xs) = ap (λ ys. x ∷ ys) (take_twice n xs)

-- the edge of a value holds once the lowest bytes of its word are written
pub written_holds : (bytes : List Byte) (edge : HasValue) (value : Value) (word : ℕ → Word) → edge.size ≤ 8 → edge.at + edge.size ≤ length bytes →
    HoldEdges (spliced bytes edge.at (take edge.size (word_bytes (word edge.value)))) word (edge_for value edge)
written_holds bytes edge value word small room = own (is_zero value)
  where
    own : (b : Bool) → HoldEdges (spliced bytes edge.at (take edge.size (word_bytes (word edge.value)))) word (if b then [] else edge ∷ [])
    own true = tt
    own false = (low_within bytes edge.at edge.size (word edge.value) small room, tt)
