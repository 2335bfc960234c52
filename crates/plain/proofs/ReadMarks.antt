-- What the marks of a range tell of the edges and classes of a region there.
use Rattle.std.proofs.Common.{◌≡◌, ℕ, zero, suc, ◌+◌, ◌<◌, ◌≤◌, Bool, true, false, ◌&&◌, List, [], ◌∷◌, length, take, drop, get_or, nat_eq, ℤ, Option, None, Some, refl, sym, ◌∙◌, ap, eqb-true, eq-eqb, arith, length-take, length-drop}
use Rattle.std.specs.Prelude.{if◌then◌else◌}
use Rattle.std.specs.List.{list_all}
use Rattle.std.proofs.lemmas.Bool.{false≢true}
use Rattle.std.proofs.lemmas.List.{get_or-take, get_or-drop}
use Rattle.std.proofs.lemmas.Option.{none-some}
use Rattle.bytes_core.specs.declared.byte.Byte.{Byte}
use Rattle.bytes_core.specs.declared.word.Word.TheVariants.{To}
use Rattle.bytes_core.specs.Value.{word_bytes}
use Rattle.graph.specs.declared.edges.HasValue.{HasValue}
use Rattle.graph.proofs.Tests.{and_both}
use Rattle.reinterpret.specs.Reading.{value_of, are_class}
use Rattle.plain.specs.Marks.{Mark, Unwritten, Zeroed, Piece, is_in_range}
use Rattle.plain.specs.Conditions.{is_number}
use Rattle.plain.specs.Shown.{bare_mark, mark_in}
use Rattle.plain.proofs.Ranges.{is_piece, piece_at, piece_size, range_is, bare_no_piece}

-- an edge of a place and size gives the mark of a piece there
value_piece : (edges : List HasValue) (from size key : ℕ) (bare : Mark) → 0 < size → value_of edges from size ≡ Some key → is_piece (mark_in edges from bare) ≡ true
value_piece [] from size key bare some is = absurd (none-some key is)
value_piece (first ∷ rest) from size key bare some is =
    by_tests (nat_eq first.at from) refl (nat_eq first.size size) refl is (is_in_range first.at first.size from) refl (λ later. value_piece rest from size key bare some later)
  where
    by_tests : (a : Bool) → nat_eq first.at from ≡ a → (b : Bool) → nat_eq first.size size ≡ b → (if a && b then Some first.value else value_of rest from size) ≡ Some key → (c : Bool) → is_in_range first.at first.size from ≡ c →
        (value_of rest from size ≡ Some key → is_piece (mark_in rest from bare) ≡ true) → is_piece (if c then Piece first.at first.size else mark_in rest from bare) ≡ true
    by_tests a a_is b b_is same true here later = refl
    by_tests true a_is true b_is same false here later =
        absurd (false≢true (sym here ∙ range_is first.at first.size from (let e = eqb-true first.at from a_is in omega arith) (let e = eqb-true first.at from a_is in let e' = eqb-true first.size size b_is in omega arith)))
    by_tests true a_is false b_is same false here later = later same
    by_tests false a_is b b_is same false here later = later same

-- where the mark is no piece there is no such edge
pub no_value : (edges : List HasValue) (from size : ℕ) (bare : Mark) → 0 < size → mark_in edges from bare ≡ Zeroed → value_of edges from size ≡ None
no_value edges from size bare some zero_is = by_value (value_of edges from size) refl
  where
    by_value : (found : Option ℕ) → value_of edges from size ≡ found → value_of edges from size ≡ None
    by_value None is = is
    by_value (Some key) is = absurd (false≢true (ap is_piece (sym zero_is) ∙ value_piece edges from size key bare some is))

-- a byte with the mark of a piece lies in the edge of that place and size
pub piece_value : (edges : List HasValue) (place from size class : ℕ) → mark_in edges place (bare_mark class) ≡ Piece from size → (key : ℕ) × (value_of edges from size ≡ Some key)
piece_value [] place from size class is = absurd (bare_no_piece class from size is)
piece_value (first ∷ rest) place from size class is = by_tests (is_in_range first.at first.size place) is (nat_eq first.at from) refl (nat_eq first.size size) refl (λ later. piece_value rest place from size class later)
  where
    by_tests : (c : Bool) → (if c then Piece first.at first.size else mark_in rest place (bare_mark class)) ≡ Piece from size → (a : Bool) → nat_eq first.at from ≡ a → (b : Bool) → nat_eq first.size size ≡ b →
        (mark_in rest place (bare_mark class) ≡ Piece from size → (key : ℕ) × (value_of rest from size ≡ Some key)) → (key : ℕ) × ((if a && b then Some first.value else value_of rest from size) ≡ Some key)
    by_tests c same true a_is true b_is later = (first.value, refl)
    by_tests true same true a_is false b_is later = absurd (false≢true (sym b_is ∙ eq-eqb first.size size (ap piece_size same)))
    by_tests true same false a_is b b_is later = absurd (false≢true (sym a_is ∙ eq-eqb first.at from (ap piece_at same)))
    by_tests false same true a_is false b_is later = later same
    by_tests false same false a_is b b_is later = later same

-- a byte that is known to be 0 has class 0
zero_bare : (edges : List HasValue) (place : ℕ) (bare : Mark) → mark_in edges place bare ≡ Zeroed → bare ≡ Zeroed
zero_bare [] place bare is = is
zero_bare (edge ∷ rest) place bare is = by_test (is_in_range edge.at edge.size place) is (λ same. zero_bare rest place bare same)
  where
    by_test : (b : Bool) → (if b then Piece edge.at edge.size else mark_in rest place bare) ≡ Zeroed → (mark_in rest place bare ≡ Zeroed → bare ≡ Zeroed) → bare ≡ Zeroed
    by_test true same later = absurd (false≢true (ap is_piece (sym same)))
    by_test false same later = later same

abbrev is_unwritten : Mark → Bool
is_unwritten Unwritten = true
is_unwritten Zeroed = false
is_unwritten (Piece at size) = false

zero_class : (class : ℕ) → bare_mark class ≡ Zeroed → class ≡ 0
zero_class zero is = refl
zero_class (suc class) is = absurd (false≢true (ap is_unwritten (sym is)))

all_equal : (class : ℕ) (classes : List ℕ) → ((i : ℕ) → i < length classes → get_or classes i 0 ≡ class) → list_all (nat_eq class) classes ≡ true
all_equal class [] same = refl
all_equal class (first ∷ rest) same =
    and_both (nat_eq class first) (list_all (nat_eq class) rest) (eq-eqb class first (sym (same 0 (omega arith)))) (all_equal class rest (λ i below. same (suc i) (omega arith)))

pub zeros_class : (edges : List HasValue) (plane : List ℕ) (from size : ℕ) → from + size ≤ length plane → ((place : ℕ) → is_in_range from size place ≡ true → mark_in edges place (bare_mark (get_or plane place 0)) ≡ Zeroed) → are_class 0 plane from size ≡ true
zeros_class edges plane from size room zeros =
    all_equal 0 (take size (drop from plane)) (λ i below.
    let small : i < size = let e = length-take size (drop from plane) in let e' = length-drop from plane in omega arith in
    get_or-take size (drop from plane) i 0 small ∙ get_or-drop from plane i 0
    ∙ zero_class (get_or plane (from + i) 0) (zero_bare edges (from + i) (bare_mark (get_or plane (from + i) 0)) (zeros (from + i) (range_is from size (from + i) (omega arith) (omega arith)))))

-- bytes of a pointer are no numbers
pub pointer_parts : (size block : ℕ) (offset : ℤ) (bytes : List Byte) → 0 < size → bytes ≡ take size (word_bytes (To block offset)) → list_all is_number bytes ≡ true → ⊥
pointer_parts zero block offset bytes some is numbers = absurd (omega arith)
pointer_parts (suc size) block offset bytes some is numbers = false≢true (sym (ap (list_all is_number) is) ∙ numbers)
