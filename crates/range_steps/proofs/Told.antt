-- Two ranges of which one and the same is said have the same bytes, where edges tell each byte that may be other than 0.
use Rattle.std.proofs.Common.{◌≡◌, ℕ, zero, suc, ◌+◌, ◌-◌, ◌<◌, ◌≤◌, Bool, true, false, not, ◌&&◌, ◌||◌, List, [], ◌∷◌, map, length, take, drop, get_or, min, nat_le, nat_lt, refl, sym, ◌∙◌, ap, leb-true, ltb-true, length-take, length-drop, arith, ◌⊎◌, inl, inr}
use Rattle.std.specs.Prelude.{if◌then◌else◌}
use Rattle.std.specs.List.{filter}
use Rattle.std.proofs.lemmas.Bool.{false≢true, true≢false}
use Rattle.std.proofs.lemmas.List.{get_or-take, get_or-drop, ext_get_or}
use Rattle.bytes_core.specs.declared.byte.Byte.{Byte}
use Rattle.bytes_core.specs.declared.byte.Byte.TheVariants.{Num, Part}
use Rattle.bytes_core.specs.declared.word.Word.{Word}
use Rattle.graph.specs.declared.edges.HasValue.{HasValue}
use Rattle.graph.specs.Choices.{is_free}
use Rattle.graph.specs.Meaning.{HaveClasses, HoldEdges}
use Rattle.graph.proofs.Tests.{and_left, and_right}
use Rattle.changes.specs.Ranges.{is_beside, is_inside, cuts_none}
use Rattle.changes.proofs.Node.{beside_either}
use Rattle.range_steps.specs.Copying.{moved_edge, moved_edges, has_bare_byte}
use Rattle.range_steps.proofs.Untold.{not_bare}

-- a byte of class 0 is the number 0
zero_byte : (classes : List ℕ) (bytes : List Byte) (i : ℕ) → HaveClasses classes bytes → i < length classes → get_or classes i 0 ≡ 0 → get_or bytes i (Num 0) ≡ Num 0
zero_byte [] bytes i has below zeros = absurd (omega arith)
zero_byte (class ∷ classes) [] i has below zeros = absurd has
zero_byte (class ∷ classes) (byte ∷ bytes) zero has below zeros = by_class class byte (has.0, tt) zeros
  where
    by_class : (class : ℕ) (byte : Byte) → HaveClasses (class ∷ []) (byte ∷ []) → class ≡ 0 → byte ≡ Num 0
    by_class zero (Num number) has is = ap Num has.0
    by_class zero (Part block offset k) has is = absurd has.0
    by_class (suc class) byte has is = absurd (omega arith)
zero_byte (class ∷ classes) (byte ∷ bytes) (suc i) has below zeros = zero_byte classes bytes i has.1 (omega arith) zeros

module _ (one other : List Byte) (word : ℕ → Word) (from count at : ℕ) where
  abbrev byte_of : List Byte → ℕ → Byte
  byte_of bytes i = get_or bytes i (Num 0)

  -- a byte in a range that reads the same
  in_range : (at' at'' size i : ℕ) → take size (drop at' one) ≡ take size (drop at'' other) → i < size → byte_of one (at' + i) ≡ byte_of other (at'' + i)
  in_range at' at'' size i same below =
      sym (get_or-take size (drop at' one) i (Num 0) below ∙ get_or-drop at' one i (Num 0))
      ∙ ap (λ (bytes : List Byte). byte_of bytes i) same
      ∙ (get_or-take size (drop at'' other) i (Num 0) below ∙ get_or-drop at'' other i (Num 0))

  -- a byte that stands in an edge
  same_byte : (edges : List HasValue) → HoldEdges one word edges → HoldEdges other word (moved_edges edges from count at) → cuts_none from count edges ≡ true → (i : ℕ) → i < count → is_free edges (from + i) ≡ false →
      byte_of one (from + i) ≡ byte_of other (at + i)
  same_byte [] holds moved cuts i below told = absurd (true≢false told)
  same_byte (edge ∷ rest) holds moved cuts i below told =
      by_tests (nat_le edge.at (from + i)) refl (nat_lt (from + i) (edge.at + edge.size)) refl (is_inside from count edge) refl told moved
      (λ moved told. same_byte rest holds.1 moved (and_right (is_beside from count edge || is_inside from count edge) (cuts_none from count rest) cuts) i below told)
    where
      here : (is_beside from count edge || is_inside from count edge) ≡ true
      here = and_left (is_beside from count edge || is_inside from count edge) (cuts_none from count rest) cuts

      rest_of : (b : Bool) (kept : List HasValue) → HoldEdges other word (map (moved_edge from at) (if b then edge ∷ kept else kept)) → HoldEdges other word (map (moved_edge from at) kept)
      rest_of true kept holds = holds.1
      rest_of false kept holds = holds

      not_beside : edge.at ≤ from + i → from + i < edge.at + edge.size → (b : Bool) → is_beside from count edge ≡ b → (b || is_inside from count edge) ≡ true → is_inside from count edge ≡ true
      not_beside low high false is any = any
      not_beside low high true is any = by_side (beside_either from count edge is)
        where
          by_side : (edge.at + edge.size ≤ from) ⊎ (from + count ≤ edge.at) → is_inside from count edge ≡ true
          by_side (inl before) = absurd (omega arith)
          by_side (inr behind) = absurd (omega arith)

      by_tests : (b : Bool) → nat_le edge.at (from + i) ≡ b → (c : Bool) → nat_lt (from + i) (edge.at + edge.size) ≡ c → (d : Bool) → is_inside from count edge ≡ d → (not (b && c) && is_free rest (from + i)) ≡ false →
          HoldEdges other word (map (moved_edge from at) (if d then edge ∷ filter (is_inside from count) rest else filter (is_inside from count) rest)) →
          (HoldEdges other word (moved_edges rest from count at) → is_free rest (from + i) ≡ false → byte_of one (from + i) ≡ byte_of other (at + i)) → byte_of one (from + i) ≡ byte_of other (at + i)
      by_tests false b_is c c_is d d_is told moved later = later (rest_of d (filter (is_inside from count) rest) moved) told
      by_tests true b_is false c_is d d_is told moved later = later (rest_of d (filter (is_inside from count) rest) moved) told
      by_tests true low true high false d_is told moved later = absurd (false≢true (sym d_is ∙ not_beside (leb-true _ _ low) (ltb-true _ _ high) (is_beside from count edge) refl here))
      by_tests true low true high true inside told moved later =
          let l = leb-true _ _ low in let h = ltb-true _ _ high in
          let low' = leb-true _ _ (and_left (nat_le from edge.at) (nat_le (edge.at + edge.size) (from + count)) inside) in
          ap (byte_of one) (let e : from + i ≡ edge.at + (from + i - edge.at) = omega arith in e)
          ∙ in_range edge.at (at + (edge.at - from)) edge.size (from + i - edge.at) (holds.0 ∙ sym moved.0) (omega arith)
          ∙ ap (byte_of other) (let e : at + (edge.at - from) + (from + i - edge.at) ≡ at + i = omega arith in e)

  pub ranges_same : (edges : List HasValue) (plane : List ℕ) → from + count ≤ length one → at + count ≤ length other → from + count ≤ length plane → HoldEdges one word edges → HoldEdges other word (moved_edges edges from count at) →
      HaveClasses (take count (drop from plane)) (take count (drop from one)) → HaveClasses (take count (drop from plane)) (take count (drop at other)) →
      cuts_none from count edges ≡ true → has_bare_byte edges plane from count ≡ false → take count (drop at other) ≡ take count (drop from one)
  ranges_same edges plane room room' planes holds moved classes classes' cuts bare =
      ext_get_or (Num 0) (take count (drop at other)) (take count (drop from one)) (long other at room' ∙ sym (long one from room)) (λ i within. each i (let e = long other at room' in omega arith) (is_free edges (from + i)) refl)
    where
      long : {A : Type 0} (xs : List A) (start : ℕ) → start + count ≤ length xs → length (take count (drop start xs)) ≡ count
      long xs start enough = length-take count (drop start xs) ∙ ap (min count) (length-drop start xs) ∙ omega arith

      each : (i : ℕ) → i < count → (b : Bool) → is_free edges (from + i) ≡ b → byte_of (take count (drop at other)) i ≡ byte_of (take count (drop from one)) i
      each i below true free =
          let zeros = get_or-take count (drop from plane) i 0 below ∙ get_or-drop from plane i 0 ∙ not_bare edges plane from count bare i below free in
          let within : i < length (take count (drop from plane)) = (let e = long plane from planes in omega arith) in
          zero_byte (take count (drop from plane)) (take count (drop at other)) i classes' within zeros
          ∙ sym (zero_byte (take count (drop from plane)) (take count (drop from one)) i classes within zeros)
      each i below false told =
          get_or-take count (drop at other) i (Num 0) below ∙ get_or-drop at other i (Num 0)
          ∙ sym (same_byte edges holds moved cuts i below told)
          ∙ sym (get_or-take count (drop from one) i (Num 0) below ∙ get_or-drop from one i (Num 0))
