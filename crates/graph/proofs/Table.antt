-- The bytes of an object: at each place the byte of the edge that covers it, or one of choice.
use Rattle.std.proofs.Common.{◌≡◌, ℕ, zero, suc, ◌+◌, ◌-◌, ◌<◌, ◌≤◌, Bool, true, false, ◌&&◌, ◌||◌, not, List, [], ◌∷◌, length, take, drop, get_or, nat_le, nat_lt, refl, sym, ◌∙◌, ap, subst, le-leb, leb-true, lt-ltb, ltb-true, arith}
use Rattle.std.specs.Prelude.{if◌then◌else◌}
use Rattle.std.specs.List.{list_all}
use Rattle.std.proofs.lemmas.Bool.{false≢true, not-true}
use Rattle.bytes_core.specs.declared.byte.Byte.{Byte}
use Rattle.bytes_core.specs.declared.byte.Byte.TheVariants.{Num}
use Rattle.bytes_core.specs.declared.word.Word.{Word}
use Rattle.bytes_core.specs.declared.word.Word.TheVariants.{Plain, To}
use Rattle.bytes_core.specs.Value.{word_bytes}
use Rattle.graph.specs.declared.edges.HasValue.{HasValue}
use Rattle.graph.specs.WellFormed.{share_no_byte, are_disjoint, lies_in}
use Rattle.graph.specs.Meaning.{HasClass, HaveClasses, HoldEdges}
use Rattle.graph.proofs.Tests.{and_left, and_right, and_both, list_all-implies}

-- whether a place lies in the range of an edge
abbrev pub covers : HasValue → ℕ → Bool
covers edge place = nat_le edge.at place && nat_lt place (edge.at + edge.size)

-- the byte of an edge's word at a place
abbrev pub edge_byte : (ℕ → Word) → HasValue → ℕ → Byte
edge_byte word edge place = get_or (word_bytes (word edge.value)) (place - edge.at) (Num 0)

abbrev pub byte_at : (ℕ → Word) → (ℕ → Byte) → List HasValue → ℕ → Byte
byte_at word fill [] place = fill place
byte_at word fill (edge ∷ rest) place = if covers edge place then edge_byte word edge place else byte_at word fill rest place

-- so many bytes from a place on
abbrev pub table : (ℕ → Byte) → ℕ → ℕ → List Byte
table at from zero = []
table at from (suc count) = at from ∷ table at (from + 1) count

pub length-table : (at : ℕ → Byte) (from count : ℕ) → length (table at from count) ≡ count
length-table at from zero = refl
length-table at from (suc count) = ap suc (length-table at (from + 1) count)

drop-table : (at : ℕ → Byte) (from skipped count : ℕ) → drop skipped (table at from (skipped + count)) ≡ table at (from + skipped) count
drop-table at from zero count = let e : from + 0 ≡ from = omega arith in let f : 0 + count ≡ count = omega arith in rw (e, f) refl
drop-table at from (suc skipped) count =
    let more : suc skipped + count ≡ suc (skipped + count) = omega arith in
    let place : from + 1 + skipped ≡ from + suc skipped = omega arith in
    ap (λ (n : ℕ). drop (suc skipped) (table at from n)) more ∙ drop-table at (from + 1) skipped count ∙ ap (λ (n : ℕ). table at n count) place

take-table : (at : ℕ → Byte) (from taken count : ℕ) → take taken (table at from (taken + count)) ≡ table at from taken
take-table at from zero count = refl
take-table at from (suc taken) count =
    let more : suc taken + count ≡ suc (taken + count) = omega arith in
    ap (λ (n : ℕ). take (suc taken) (table at from n)) more ∙ ap (λ (bs : List Byte). at from ∷ bs) (take-table at (from + 1) taken count)

-- a range of the table
range-table : (at : ℕ → Byte) (size from count : ℕ) → from + count ≤ size → take count (drop from (table at 0 size)) ≡ table at from count
range-table at size from count within =
    let parts : size ≡ from + (count + (size - from - count)) = omega arith in
    let start : 0 + from ≡ from = omega arith in
    ap (λ (n : ℕ). take count (drop from (table at 0 n))) parts
    ∙ ap (take count) (drop-table at 0 from (count + (size - from - count)))
    ∙ ap (λ (n : ℕ). take count (table at n (count + (size - from - count)))) start
    ∙ take-table at from count (size - from - count)

-- a table whose bytes are those of a list
take_of-table : (at : ℕ → Byte) (from count : ℕ) (xs : List Byte) → count ≤ length xs → ((i : ℕ) → i < count → at (from + i) ≡ get_or xs i (Num 0)) → table at from count ≡ take count xs
take_of-table at from zero xs enough same = refl
take_of-table at from (suc count) [] enough same = absurd (omega arith)
take_of-table at from (suc count) (x ∷ xs) enough same =
    let here : at from ≡ x = ap at (let e : from ≡ from + 0 = omega arith in e) ∙ same 0 (omega arith) in
    let later = take_of-table at (from + 1) count xs (omega arith)
    (λ i below. ap at (let e : from + 1 + i ≡ from + suc i = omega arith in e) ∙ same (suc i) (omega arith)) in
    ap (λ (b : Byte). b ∷ table at (from + 1) count) here ∙ ap (λ (bs : List Byte). x ∷ bs) later

-- an edge's bytes are found in its range
pub record IsFound (word : ℕ → Word) (fill : ℕ → Byte) (edges : List HasValue) (edge : HasValue) : Type 0 where
  pub found : (i : ℕ) → i < edge.size → byte_at word fill edges (edge.at + i) ≡ get_or (word_bytes (word edge.value)) i (Num 0)

abbrev AreFound : (ℕ → Word) → (ℕ → Byte) → List HasValue → List HasValue → Type 0
AreFound word fill edges [] = Unit {0}
AreFound word fill edges (edge ∷ rest) = IsFound word fill edges edge × AreFound word fill edges rest

covers-own : (edge : HasValue) (i : ℕ) → i < edge.size → covers edge (edge.at + i) ≡ true
covers-own edge i below =
    let low : nat_le edge.at (edge.at + i) ≡ true = le-leb _ _ (omega arith) in
    let high : nat_lt (edge.at + i) (edge.at + edge.size) ≡ true = lt-ltb _ _ (omega arith) in
    rw (low, high) refl

found_first : (word : ℕ → Word) (fill : ℕ → Byte) (edge : HasValue) (rest : List HasValue) → IsFound word fill (edge ∷ rest) edge
found_first word fill edge rest = record {
  found = λ i below.
      let own = covers-own edge i below in
      let place : edge.at + i - edge.at ≡ i = omega arith in
      ap (λ (b : Bool). if b then edge_byte word edge (edge.at + i) else byte_at word fill rest (edge.at + i)) own
      ∙ ap (λ (n : ℕ). get_or (word_bytes (word edge.value)) n (Num 0)) place;
}

-- an edge that shares no byte with the first covers none of its places
pub misses : (first edge : HasValue) (i : ℕ) → share_no_byte first edge ≡ true → i < edge.size → covers first (edge.at + i) ≡ false
misses first edge i apart below = by_cases (nat_le (first.at + first.size) edge.at) refl (nat_le (edge.at + edge.size) first.at) refl apart
  where
    by_cases : (b : Bool) → nat_le (first.at + first.size) edge.at ≡ b → (c : Bool) → nat_le (edge.at + edge.size) first.at ≡ c → (b || c) ≡ true → covers first (edge.at + i) ≡ false
    by_cases true before c is_c either =
        let low = leb-true _ _ before in
        outside (nat_le first.at (edge.at + i)) (nat_lt (edge.at + i) (first.at + first.size)) refl (omega arith)
      where
        outside : (a b : Bool) → nat_lt (edge.at + i) (first.at + first.size) ≡ b → first.at + first.size ≤ edge.at + i → (a && b) ≡ false
        outside a true is beyond = let l = ltb-true _ _ is in absurd (omega arith)
        outside true false is beyond = refl
        outside false false is beyond = refl
    by_cases false not_before true after either =
        let high = leb-true _ _ after in
        outside (nat_le first.at (edge.at + i)) (nat_lt (edge.at + i) (first.at + first.size)) refl (omega arith)
      where
        outside : (a b : Bool) → nat_le first.at (edge.at + i) ≡ a → edge.at + i < first.at → (a && b) ≡ false
        outside true b is beyond = let l = leb-true _ _ is in absurd (omega arith)
        outside false b is beyond = refl
    by_cases false not_before false not_after either = absurd (false≢true either)

found_later : (word : ℕ → Word) (fill : ℕ → Byte) (first : HasValue) (rest edges : List HasValue) → list_all (share_no_byte first) edges ≡ true → AreFound word fill rest edges → AreFound word fill (first ∷ rest) edges
found_later word fill first rest [] apart found = tt
found_later word fill first rest (edge ∷ more) apart found = (
  record {
    found = λ i below.
        ap (λ (b : Bool). if b then edge_byte word first (edge.at + i) else byte_at word fill rest (edge.at + i)) (misses first edge i (and_left (share_no_byte first edge) (list_all (share_no_byte first) more) apart) below)
        ∙ found.0.found i below;
  },
  found_later word fill first rest more (and_right (share_no_byte first edge) (list_all (share_no_byte first) more) apart) found.1,
)

all_found : (word : ℕ → Word) (fill : ℕ → Byte) (edges : List HasValue) → are_disjoint edges ≡ true → AreFound word fill edges edges
all_found word fill [] disjoint = tt
all_found word fill (edge ∷ rest) disjoint = (
  found_first word fill edge rest,
  found_later word fill edge rest rest (and_left (list_all (share_no_byte edge) rest) (are_disjoint rest) disjoint)
      (all_found word fill rest (and_right (list_all (share_no_byte edge) rest) (are_disjoint rest) disjoint)),
)

length-word_bytes : (word : Word) → length (word_bytes word) ≡ 8
length-word_bytes (Plain number) = refl
length-word_bytes (To block offset) = refl

holds : (word : ℕ → Word) (fill : ℕ → Byte) (all : List HasValue) (size : ℕ) (edges : List HasValue) → AreFound word fill all edges → list_all (lies_in size) edges ≡ true → list_all (λ edge. nat_le edge.size 8) edges ≡ true →
    HoldEdges (table (byte_at word fill all) 0 size) word edges
holds word fill all size [] found inside small = tt
holds word fill all size (edge ∷ rest) found inside small =
    let within = leb-true _ _ (and_left (lies_in size edge) (list_all (lies_in size) rest) inside) in
    let eight = leb-true _ _ (and_left (nat_le edge.size 8) (list_all (λ edge. nat_le edge.size 8) rest) small) in
    let long = length-word_bytes (word edge.value) in (
      range-table (byte_at word fill all) size edge.at edge.size within
          ∙ take_of-table (byte_at word fill all) edge.at edge.size (word_bytes (word edge.value)) (omega arith) found.0.found,
      holds word fill all size rest found.1 (and_right (lies_in size edge) (list_all (lies_in size) rest) inside) (and_right (nat_le edge.size 8) (list_all (λ edge. nat_le edge.size 8) rest) small),
    )

-- the table holds the word of each edge
pub HoldEdges-table : (word : ℕ → Word) (fill : ℕ → Byte) (edges : List HasValue) (size : ℕ) → are_disjoint edges ≡ true → list_all (lies_in size) edges ≡ true → list_all (λ edge. nat_le edge.size 8) edges ≡ true →
    HoldEdges (table (byte_at word fill edges) 0 size) word edges
HoldEdges-table word fill edges size disjoint inside small = holds word fill edges size edges (all_found word fill edges disjoint) inside small

-- a table whose bytes have the classes
pub HaveClasses-table : (at : ℕ → Byte) (from : ℕ) (plane : List ℕ) → ((i d : ℕ) → i < length plane → HasClass (get_or plane i d) (at (from + i))) → HaveClasses plane (table at from (length plane))
HaveClasses-table at from [] has = tt
HaveClasses-table at from (class ∷ plane) has = (
  subst (λ (n : ℕ). HasClass class (at n)) (let e : from + 0 ≡ from = omega arith in e) (has 0 0 (omega arith)),
  HaveClasses-table at (from + 1) plane (λ i d below. subst (λ (n : ℕ). HasClass (get_or plane i d) (at n)) (let e : from + suc i ≡ from + 1 + i = omega arith in e) (has (suc i) d (omega arith))),
)

-- Two lists of edges, of which the first goes before the second.

-- a place that no edge covers has the byte of choice
pub byte_outside : (word : ℕ → Word) (fill : ℕ → Byte) (edges : List HasValue) (place : ℕ) → list_all (λ edge. not (covers edge place)) edges ≡ true → byte_at word fill edges place ≡ fill place
byte_outside word fill [] place free = refl
byte_outside word fill (edge ∷ rest) place free =
    ap (λ (b : Bool). if b then edge_byte word edge place else byte_at word fill rest place)
    (not-true (covers edge place) (and_left (not (covers edge place)) (list_all (λ edge. not (covers edge place)) rest) free))
    ∙ byte_outside word fill rest place (and_right (not (covers edge place)) (list_all (λ edge. not (covers edge place)) rest) free)

same-table : (one other : ℕ → Byte) (from count : ℕ) → ((i : ℕ) → i < count → one (from + i) ≡ other (from + i)) → table one from count ≡ table other from count
same-table one other from zero same = refl
same-table one other from (suc count) same =
    let here : one from ≡ other from = ap one (let e : from ≡ from + 0 = omega arith in e) ∙ same 0 (omega arith) ∙ ap other (let e : from + 0 ≡ from = omega arith in e) in
    ap (λ (b : Byte). b ∷ table one (from + 1) count) here
    ∙ ap (λ (bs : List Byte). other from ∷ bs)
    (same-table one other (from + 1) count (λ i below. let place : from + 1 + i ≡ from + suc i = omega arith in ap one place ∙ same (suc i) (omega arith) ∙ ap other (sym place)))

-- an edge that shares no byte with any of these is covered by none of them
uncovered : (first : List HasValue) (edge : HasValue) (i : ℕ) → list_all (λ link. share_no_byte link edge) first ≡ true → i < edge.size → list_all (λ link. not (covers link (edge.at + i))) first ≡ true
uncovered [] edge i apart below = refl
uncovered (link ∷ rest) edge i apart below =
    and_both (not (covers link (edge.at + i))) (list_all (λ link. not (covers link (edge.at + i))) rest)
    (ap not (misses link edge i (and_left (share_no_byte link edge) (list_all (λ link. share_no_byte link edge) rest) apart) below))
    (uncovered rest edge i (and_right (share_no_byte link edge) (list_all (λ link. share_no_byte link edge) rest) apart) below)

-- edges of the second list hold their words as well, where no edge of the first shares a byte with them
pub HoldEdges-behind : (front : ℕ → Word) (inner : ℕ → Byte) (first : List HasValue) (word : ℕ → Word) (size : ℕ) (edges : List HasValue) →
    list_all (λ link. list_all (share_no_byte link) edges) first ≡ true → list_all (lies_in size) edges ≡ true →
    HoldEdges (table inner 0 size) word edges → HoldEdges (table (byte_at front inner first) 0 size) word edges
HoldEdges-behind front inner first word size [] apart inside hold = tt
HoldEdges-behind front inner first word size (edge ∷ rest) apart inside hold =
    let within = leb-true _ _ (and_left (lies_in size edge) (list_all (lies_in size) rest) inside) in
    let free = list_all-implies (λ link. share_no_byte link edge && list_all (share_no_byte link) rest) (λ link. share_no_byte link edge)
    (λ link both. and_left (share_no_byte link edge) (list_all (share_no_byte link) rest) both) first apart in (
      range-table (byte_at front inner first) size edge.at edge.size within
          ∙ same-table (byte_at front inner first) inner edge.at edge.size (λ i below. byte_outside front inner first (edge.at + i) (uncovered first edge i free below))
          ∙ sym (range-table inner size edge.at edge.size within)
          ∙ hold.0,
      HoldEdges-behind front inner first word size rest
          (list_all-implies (λ link. share_no_byte link edge && list_all (share_no_byte link) rest) (λ link. list_all (share_no_byte link) rest)
          (λ link both. and_right (share_no_byte link edge) (list_all (share_no_byte link) rest) both) first apart)
          (and_right (lies_in size edge) (list_all (lies_in size) rest) inside) hold.1,
    )
