-- Bytes that may be other than 0 and stand in no edge: what is left of the classes where the edges' bytes are taken out.
use Rattle.std.proofs.Common.{◌≡◌, ℕ, zero, suc, ◌+◌, ◌-◌, ◌<◌, ◌≤◌, Bool, true, false, not, ◌&&◌, ◌||◌, List, [], ◌∷◌, length, take, drop, replicate, get_or, min, nat_le, nat_lt, refl, sym, ◌∙◌, ap, subst, leb-true, ltb-true, le-leb, length-take, length-drop, arith}
use Rattle.std.specs.Prelude.{IsTrue, ◌↔◌, if◌then◌else◌}
use Rattle.std.specs.List.{All, list_all}
use Rattle.std.proofs.lemmas.Bool.{false≢true, true≢false, ltb-false}
use Rattle.std.proofs.lemmas.List.{get_or-take, get_or-drop, length-replicate, get_or-replicate}
use Rattle.planes.specs.Classes.{filled}
use Rattle.graph.specs.declared.edges.HasValue.{HasValue}
use Rattle.graph.specs.Choices.{is_free}
use Rattle.graph.specs.WellFormed.{lies_in}
use Rattle.graph.proofs.Tests.{and_left, and_right}
use Rattle.changes.specs.Ranges.{spliced}
use Rattle.changes.proofs.Node.{filled_spliced}
use Rattle.changes.proofs.Splice.{length-spliced, spliced-below, spliced-within, spliced-behind}
use Rattle.range_steps.specs.Copying.{has_bare_byte}

-- where no byte is bare, one that stands in no edge has class 0
pub not_bare : (edges : List HasValue) (plane : List ℕ) (from count : ℕ) → has_bare_byte edges plane from count ≡ false → (i : ℕ) → i < count → is_free edges (from + i) ≡ true → get_or plane (from + i) 0 ≡ 0
not_bare edges plane from zero none i below free = absurd (omega arith)
not_bare edges plane from (suc count) none zero below free =
    ap (λ (n : ℕ). get_or plane n 0) here
    ∙ by_class (nat_lt 0 (get_or plane from 0)) refl (is_free edges from) (subst (λ (n : ℕ). is_free edges n ≡ true) here free) none
  where
    here : from + 0 ≡ from
    here = omega arith

    by_class : (b : Bool) → nat_lt 0 (get_or plane from 0) ≡ b → (c : Bool) → c ≡ true → ((b && c) || has_bare_byte edges plane (from + 1) count) ≡ false → get_or plane from 0 ≡ 0
    by_class false low c is none = let l = ltb-false 0 (get_or plane from 0) low in omega arith
    by_class true above true is none = absurd (true≢false none)
    by_class true above false is none = absurd (false≢true is)
not_bare edges plane from (suc count) none (suc i) below free =
    ap (λ (n : ℕ). get_or plane n 0) next
    ∙ not_bare edges plane (from + 1) count (later (nat_lt 0 (get_or plane from 0) && is_free edges from) none) i (omega arith) (subst (λ (n : ℕ). is_free edges n ≡ true) next free)
  where
    next : from + suc i ≡ from + 1 + i
    next = omega arith

    later : (b : Bool) → (b || has_bare_byte edges plane (from + 1) count) ≡ false → has_bare_byte edges plane (from + 1) count ≡ false
    later true none = absurd (true≢false none)
    later false none = none

-- and where each byte has class 0, none is bare
zeros_bare : (edges : List HasValue) (plane : List ℕ) (from count : ℕ) → ((i : ℕ) → i < count → get_or plane (from + i) 0 ≡ 0) → has_bare_byte edges plane from count ≡ false
zeros_bare edges plane from zero zeros = refl
zeros_bare edges plane from (suc count) zeros =
    ap (λ (n : ℕ). (nat_lt 0 n && is_free edges from) || has_bare_byte edges plane (from + 1) count) first
    ∙ zeros_bare edges plane (from + 1) count (λ i below. ap (λ (n : ℕ). get_or plane n 0) (let e : from + 1 + i ≡ from + suc i = omega arith in e) ∙ zeros (suc i) (omega arith))
  where
    first : get_or plane from 0 ≡ 0
    first = ap (λ (n : ℕ). get_or plane n 0) (let e : from ≡ from + 0 = omega arith in e) ∙ zeros 0 (omega arith)

-- classes in which an edge's bytes are taken out
filled_at : (plane : List ℕ) (at size i : ℕ) → at + size ≤ length plane → get_or (filled plane at size 0) i 0 ≡ (if nat_le at i && nat_lt i (at + size) then 0 else get_or plane i 0)
filled_at plane at size i room = ap (λ (xs : List ℕ). get_or xs i 0) (filled_spliced plane at size 0) ∙ by_tests (nat_le at i) refl (nat_lt i (at + size)) refl
  where
    zeros : List ℕ
    zeros = replicate size 0

    many : length zeros ≡ size
    many = length-replicate size 0

    by_tests : (b : Bool) → nat_le at i ≡ b → (c : Bool) → nat_lt i (at + size) ≡ c → get_or (spliced plane at zeros) i 0 ≡ (if b && c then 0 else get_or plane i 0)
    by_tests true low true high =
        let l = leb-true _ _ low in let h = ltb-true _ _ high in
        spliced-within plane at zeros (let m = many in omega arith) 0 i l (let m = many in omega arith)
        ∙ get_or-replicate size (i - at) 0 0 (omega arith)
    by_tests true low false high = let h = ltb-false _ _ high in spliced-behind plane at zeros (let m = many in omega arith) 0 i (let m = many in omega arith)
    by_tests false low c high = spliced-below plane at zeros (let m = many in omega arith) 0 i (below (nat_lt i at) refl)
      where
        below : (d : Bool) → nat_lt i at ≡ d → i < at
        below true is = ltb-true _ _ is
        below false is = absurd (false≢true (sym low ∙ le-leb at i (ltb-false i at is)))

pub taken_out : (edge : HasValue) (edges : List HasValue) (plane : List ℕ) → edge.at + edge.size ≤ length plane → (from count : ℕ) →
    has_bare_byte edges (filled plane edge.at edge.size 0) from count ≡ has_bare_byte (edge ∷ edges) plane from count
taken_out edge edges plane room from zero = refl
taken_out edge edges plane room from (suc count) =
    ap (λ (b : Bool). b || has_bare_byte edges (filled plane edge.at edge.size 0) (from + 1) count) here
    ∙ ap (λ (b : Bool). (nat_lt 0 (get_or plane from 0) && is_free (edge ∷ edges) from) || b) (taken_out edge edges plane room (from + 1) count)
  where
    by_cover : (c a f : Bool) → (n : ℕ) → nat_lt 0 n ≡ a → (nat_lt 0 (if c then 0 else n) && f) ≡ (a && (not c && f))
    by_cover true true f n is = refl
    by_cover true false f n is = refl
    by_cover false a f n is = ap (λ (b : Bool). b && f) is

    here : (nat_lt 0 (get_or (filled plane edge.at edge.size 0) from 0) && is_free edges from) ≡ (nat_lt 0 (get_or plane from 0) && is_free (edge ∷ edges) from)
    here =
        ap (λ (n : ℕ). nat_lt 0 n && is_free edges from) (filled_at plane edge.at edge.size from room)
        ∙ by_cover (nat_le edge.at from && nat_lt from (edge.at + edge.size)) (nat_lt 0 (get_or plane from 0)) (is_free edges from) (get_or plane from 0) refl

-- what is left where all edges are taken out
pub bare_left : (plane : List ℕ) (from count : ℕ) (zeros : Bool) → from + count ≤ length plane → (IsTrue zeros ↔ All (λ (other : ℕ). other ≡ 0) (take count (drop from plane))) → not zeros ≡ has_bare_byte [] plane from count
bare_left plane from count true room zeros = sym (zeros_bare [] plane from count (λ i below. sym (read i below) ∙ zeros.0 refl i 0 (long i below)))
  where
    read : (i : ℕ) → i < count → get_or (take count (drop from plane)) i 0 ≡ get_or plane (from + i) 0
    read i below = get_or-take count (drop from plane) i 0 below ∙ get_or-drop from plane i 0

    long : (i : ℕ) → i < count → i < length (take count (drop from plane))
    long i below = let e = length-take count (drop from plane) ∙ ap (min count) (length-drop from plane) in omega arith
bare_left plane from count false room zeros = by_test (has_bare_byte [] plane from count) refl
  where
    by_test : (b : Bool) → has_bare_byte [] plane from count ≡ b → true ≡ has_bare_byte [] plane from count
    by_test true is = sym is
    by_test false is = absurd (false≢true (zeros.1 (λ i d below. each i d below (let e = length-take count (drop from plane) ∙ ap (min count) (length-drop from plane) in omega arith))))
      where
        each : (i d : ℕ) → i < length (take count (drop from plane)) → i < count → get_or (take count (drop from plane)) i d ≡ 0
        each i d within below =
            get_or_same (take count (drop from plane)) i d within
            ∙ get_or-take count (drop from plane) i 0 below ∙ get_or-drop from plane i 0 ∙ not_bare [] plane from count is i below refl
          where
            get_or_same : (xs : List ℕ) (i d : ℕ) → i < length xs → get_or xs i d ≡ get_or xs i 0
            get_or_same [] i d within = absurd (omega arith)
            get_or_same (x ∷ xs) zero d within = refl
            get_or_same (x ∷ xs) (suc i) d within = get_or_same xs i d (omega arith)

-- One edge more is taken out.

pub record IsOneOut (left : List HasValue) (plane taken after : List ℕ) (from count : ℕ) (rest : List HasValue) : Type 0 where
  pub same : has_bare_byte rest after from count ≡ has_bare_byte left taken from count
  pub long : length after ≡ length plane
  pub inside : list_all (lies_in (length plane)) rest ≡ true

pub one_out : (left : List HasValue) (plane taken after : List ℕ) (from count : ℕ) (d : HasValue) → 1 ≤ length left → list_all (lies_in (length plane)) left ≡ true → length taken ≡ length plane →
    after ≡ filled taken (get_or left 0 d).at (get_or left 0 d).size 0 → IsOneOut left plane taken after from count (take (length left - 1) (drop 1 left))
one_out [] plane taken after from count d some inside long fills = absurd (omega arith)
one_out (first ∷ rest) plane taken after from count d some inside long fills = subst (IsOneOut (first ∷ rest) plane taken after from count) (sym all) (record {
  same = ap (λ (xs : List ℕ). has_bare_byte rest xs from count) fills ∙ taken_out first rest taken room from count;
  long = ap length (fills ∙ filled_spliced taken first.at first.size 0) ∙ length-spliced taken first.at zeros (let m = many in let r = room in omega arith) 0 ∙ long;
  inside = and_right (lies_in (length plane) first) (list_all (lies_in (length plane)) rest) inside;
})
  where
    zeros : List ℕ
    zeros = replicate first.size 0

    many : length zeros ≡ first.size
    many = length-replicate first.size 0

    room : first.at + first.size ≤ length taken
    room = let l = leb-true _ _ (and_left (lies_in (length plane) first) (list_all (lies_in (length plane)) rest) inside) in let e = long in omega arith

    take_own : (n : ℕ) (xs : List HasValue) → length xs ≤ n → take n xs ≡ xs
    take_own zero [] enough = refl
    take_own zero (x ∷ xs) enough = absurd (omega arith)
    take_own (suc n) [] enough = refl
    take_own (suc n) (x ∷ xs) enough = ap (λ (ys : List HasValue). x ∷ ys) (take_own n xs (omega arith))

    all : take (suc (length rest) - 1) rest ≡ rest
    all = take_own (suc (length rest) - 1) rest (omega arith)

-- all are taken out
pub all_out : (edges left : List HasValue) (plane taken : List ℕ) (from count : ℕ) (zeros : Bool) → length left < 1 → from + count ≤ length plane → length taken ≡ length plane →
    (IsTrue zeros ↔ All (λ (other : ℕ). other ≡ 0) (take count (drop from taken))) → has_bare_byte left taken from count ≡ has_bare_byte edges plane from count → not zeros ≡ has_bare_byte edges plane from count
all_out edges [] plane taken from count zeros none room long all same = bare_left taken from count zeros (let e = long in omega arith) all ∙ same
all_out edges (first ∷ rest) plane taken from count zeros none room long all same = absurd (omega arith)
