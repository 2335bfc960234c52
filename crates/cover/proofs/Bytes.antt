-- Bytes of a block of the one graph, seen by the other one.
use Rattle.std.proofs.Common.{◌≡◌, ℕ, zero, suc, ◌<◌, ◌≤◌, Bool, true, false, ◌&&◌, List, [], ◌∷◌, length, take, drop, get_or, nat_le, refl, sym, ◌∙◌, ap, subst, arith, leb-true, replicate, nat_eq, eqb-true, Option, None, Some, ◌⊎◌, inl, inr}
use Rattle.std.specs.Prelude.{Contains, if◌then◌else◌}
use Rattle.std.specs.List.{All}
use Rattle.std.proofs.lemmas.Bool.{false≢true}
use Rattle.std.proofs.lemmas.Option.{same_Some, none-some}
use Rattle.std.proofs.lemmas.List.Elements.{All-head, All-tail}
use Rattle.bytes_core.specs.declared.byte.Byte.{Byte}
use Rattle.bytes_core.specs.declared.byte.Byte.TheVariants.{Num, Part}
use Rattle.bytes_core.specs.declared.word.Word.{Word}
use Rattle.bytes_core.specs.declared.word.Word.TheVariants.{Plain}
use Rattle.bytes_core.specs.Value.{word_bytes}
use Rattle.planes.specs.Lanes.{are_at_most}
use Rattle.graph.specs.declared.edges.HasValue.{HasValue}
use Rattle.graph.specs.Meaning.{HasClass, HaveClasses, HoldsWord, HoldEdges}
use Rattle.cover.specs.declared.content.Content.TheVariants.{Fixed}
use Rattle.cover.specs.Covers.{content, Pairing, value_in, are_zeros, held_as, HasPartner}
use Rattle.graph.specs.Meaning.{Maps}
use Rattle.graph.specs.declared.template.Node.{Node}
use Rattle.graph.proofs.Tests.{and_left, and_right}

-- a byte of a class has each class above
class_above : (low high : ℕ) (byte : Byte) → low ≤ high → HasClass low byte → HasClass high byte
class_above zero zero byte below has = has
class_above zero (suc zero) (Num number) below has = tt
class_above zero (suc zero) (Part block offset k) below has = has
class_above zero (suc (suc high)) byte below has = tt
class_above (suc zero) zero byte below has = absurd (omega arith)
class_above (suc zero) (suc zero) byte below has = has
class_above (suc zero) (suc (suc high)) byte below has = tt
class_above (suc (suc low)) zero byte below has = absurd (omega arith)
class_above (suc (suc low)) (suc zero) byte below has = absurd (omega arith)
class_above (suc (suc low)) (suc (suc high)) byte below has = tt

pub classes_above : (low high : List ℕ) (bytes : List Byte) → are_at_most low high ≡ true → HaveClasses low bytes → HaveClasses high bytes
classes_above [] [] bytes most have = have
classes_above [] (class ∷ high) bytes most have = absurd (false≢true most)
classes_above (class ∷ low) [] bytes most have = absurd (false≢true most)
classes_above (class ∷ low) (other ∷ high) [] most have = have
classes_above (class ∷ low) (other ∷ high) (byte ∷ bytes) most have = (
  class_above class other byte (leb-true _ _ (and_left (nat_le class other) (are_at_most low high) most)) have.0,
  classes_above low high bytes (and_right (nat_le class other) (are_at_most low high) most) have.1,
)

-- an edge among those that hold
pub hold-at : (bytes : List Byte) (word : ℕ → Word) (edges : List HasValue) (edge : HasValue) → Contains edges edge → HoldEdges bytes word edges → HoldsWord bytes edge (word edge.value)
hold-at bytes word edges edge (place, within, is) hold = at edges place within is hold
  where
    at : (edges : List HasValue) (place : ℕ) → place < length edges → get_or edges place edge ≡ edge → HoldEdges bytes word edges → HoldsWord bytes edge (word edge.value)
    at [] place within is hold = absurd (omega arith)
    at (first ∷ rest) zero within is hold = subst (λ (one : HasValue). HoldsWord bytes one (word one.value)) is hold.0
    at (first ∷ rest) (suc place) within is hold = at rest place (omega arith) is hold.1

pub hold-all : (bytes : List Byte) (word : ℕ → Word) (P : HasValue → Type 0) → ((edge : HasValue) → P edge → HoldsWord bytes edge (word edge.value)) →
    (edges : List HasValue) → All P edges → HoldEdges bytes word edges
hold-all bytes word P each [] all = tt
hold-all bytes word P each (edge ∷ rest) all = (each edge (All-head P edge rest all), hold-all bytes word P each rest (All-tail P edge rest all))

-- zeros are the lowest bytes of the number 0

have-nothing : (bytes : List Byte) → HaveClasses [] bytes → bytes ≡ []
have-nothing [] have = refl
have-nothing (byte ∷ bytes) have = absurd have

have-range : (from size : ℕ) (plane : List ℕ) (bytes : List Byte) → HaveClasses plane bytes → HaveClasses (take size (drop from plane)) (take size (drop from bytes))
have-range (suc from) size [] [] have = have-none size
  where
    have-none : (size : ℕ) → HaveClasses (take size []) (take size [])
    have-none zero = tt
    have-none (suc size) = tt
have-range (suc from) size [] (byte ∷ bytes) have = absurd have
have-range (suc from) size (class ∷ plane) [] have = absurd have
have-range (suc from) size (class ∷ plane) (byte ∷ bytes) have = have-range from size plane bytes have.1
have-range zero zero plane bytes have = tt
have-range zero (suc size) [] [] have = tt
have-range zero (suc size) [] (byte ∷ bytes) have = absurd have
have-range zero (suc size) (class ∷ plane) [] have = absurd have
have-range zero (suc size) (class ∷ plane) (byte ∷ bytes) have = (have.0, have-range zero size plane bytes have.1)

zero_bytes : (count : ℕ) (bytes : List Byte) → HaveClasses (replicate count 0) bytes → bytes ≡ replicate count (Num 0)
zero_bytes zero bytes have = have-nothing bytes have
zero_bytes (suc count) [] have = absurd have
zero_bytes (suc count) (Num number ∷ bytes) have = let e = zero_bytes count bytes have.1 in ap (λ (n : ℕ). Num n ∷ bytes) have.0 ∙ ap (λ (bs : List Byte). Num 0 ∷ bs) e
zero_bytes (suc count) (Part block offset k ∷ bytes) have = absurd have.0

zero_word : (size : ℕ) → size ≤ 8 → take size (word_bytes (Plain 0)) ≡ replicate size (Num 0)
zero_word zero small = refl
zero_word (suc zero) small = refl
zero_word (suc (suc zero)) small = refl
zero_word (suc (suc (suc zero))) small = refl
zero_word (suc (suc (suc (suc zero)))) small = refl
zero_word (suc (suc (suc (suc (suc zero))))) small = refl
zero_word (suc (suc (suc (suc (suc (suc zero)))))) small = refl
zero_word (suc (suc (suc (suc (suc (suc (suc zero))))))) small = refl
zero_word (suc (suc (suc (suc (suc (suc (suc (suc zero)))))))) small = refl
zero_word (suc (suc (suc (suc (suc (suc (suc (suc (suc size))))))))) small = absurd (omega arith)

pub zeros-hold : (plane : List ℕ) (bytes : List Byte) (edge : HasValue) → edge.size ≤ 8 → take edge.size (drop edge.at plane) ≡ replicate edge.size 0 → HaveClasses plane bytes →
    HoldsWord bytes edge (Plain 0)
zeros-hold plane bytes edge small zeros have =
    zero_bytes edge.size (take edge.size (drop edge.at bytes)) (subst (λ (classes : List ℕ). HaveClasses classes (take edge.size (drop edge.at bytes))) zeros (have-range edge.at edge.size plane bytes have))
    ∙ sym (zero_word edge.size small)

-- an edge at the same place whose value is paired
pub record IsMatched (narrow : Maps) (pairing : Pairing) (other : Node) (edge : HasValue) : Type 0 where
  pub with : HasValue
  pub stands : Contains other.edges with
  pub at : with.at ≡ edge.at
  pub size : with.size ≡ edge.size
  pub paired : pairing.value edge.value ≡ Some (content narrow with.value)

-- zeros, which are paired as the constant 0
pub record IsOfZeros (pairing : Pairing) (other : Node) (edge : HasValue) : Type 0 where
  pub zeros : take edge.size (drop edge.at other.plane) ≡ replicate edge.size 0
  pub paired : pairing.value edge.value ≡ Some (Fixed 0 edge.size)

zeros-are : (count : ℕ) (plane : List ℕ) → are_zeros count plane ≡ true → take count plane ≡ replicate count 0
zeros-are zero plane are = refl
zeros-are (suc count) [] are = absurd (false≢true are)
zeros-are (suc count) (class ∷ plane) are =
    ap (λ (c : ℕ). c ∷ take count plane) (eqb-true class 0 (and_left (nat_eq class 0) (are_zeros count plane) are))
    ∙ ap (λ (cs : List ℕ). 0 ∷ cs) (zeros-are count plane (and_right (nat_eq class 0) (are_zeros count plane) are))

pub record IsEdgeIn (edges : List HasValue) (at size value : ℕ) : Type 0 where
  pub with : HasValue
  pub stands : Contains edges with
  pub at_is : with.at ≡ at
  pub size_is : with.size ≡ size
  pub value_is : with.value ≡ value

pub edge-in : (edges : List HasValue) (at size value : ℕ) → value_in edges at size ≡ Some value → IsEdgeIn edges at size value
edge-in [] at size value is = absurd (none-some value is)
edge-in (edge ∷ rest) at size value is = by_cases (nat_eq edge.at at && nat_eq edge.size size) refl is (λ later. edge-in rest at size value later)
  where
    by_cases : (hit : Bool) → (nat_eq edge.at at && nat_eq edge.size size) ≡ hit → (if hit then Some edge.value else value_in rest at size) ≡ Some value →
        (value_in rest at size ≡ Some value → IsEdgeIn rest at size value) → IsEdgeIn (edge ∷ rest) at size value
    by_cases true hit is later = record {
      with = edge;
      stands = (0, omega arith, refl);
      at_is = eqb-true _ _ (and_left (nat_eq edge.at at) (nat_eq edge.size size) hit);
      size_is = eqb-true _ _ (and_right (nat_eq edge.at at) (nat_eq edge.size size) hit);
      value_is = same_Some _ _ is;
    }
    by_cases false miss is later =
        let found = later is in
        let within = found.stands.1 in
        record { with = found.with; stands = (suc found.stands.0, omega arith, found.stands.2); at_is = found.at_is; size_is = found.size_is; value_is = found.value_is }

pub partner-cases : (narrow : Maps) (pairing : Pairing) (other : Node) (edge : HasValue) → HasPartner narrow pairing other edge → IsMatched narrow pairing other edge ⊎ IsOfZeros pairing other edge
partner-cases narrow pairing other edge has = by_value (value_in other.edges edge.at edge.size) refl has.held
  where
    by_zeros : (zeros : Bool) → are_zeros edge.size (drop edge.at other.plane) ≡ zeros → (if zeros then Some (Fixed 0 edge.size) else None) ≡ Some has.with → IsOfZeros pairing other edge
    by_zeros true are held = record { zeros = zeros-are edge.size (drop edge.at other.plane) are; paired = has.paired ∙ sym held }
    by_zeros false are held = absurd (none-some has.with held)

    by_value : (found : Option ℕ) → value_in other.edges edge.at edge.size ≡ found → held_as narrow other.plane edge.at edge.size found ≡ Some has.with →
        IsMatched narrow pairing other edge ⊎ IsOfZeros pairing other edge
    by_value None is held = inr (by_zeros (are_zeros edge.size (drop edge.at other.plane)) refl held)
    by_value (Some key) is held =
        let found = edge-in other.edges edge.at edge.size key is in
        inl (record {
          with = found.with;
          stands = found.stands;
          at = found.at_is;
          size = found.size_is;
          paired = has.paired ∙ sym held ∙ ap (λ (k : ℕ). Some (content narrow k)) (sym found.value_is);
        })
