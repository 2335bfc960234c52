-- Planes in which the bytes of edges that hold one value have class 0.
use Rattle.std.proofs.Common.{◌≡◌, ℕ, zero, suc, ◌+◌, ◌-◌, ◌≤◌, Bool, true, false, ◌||◌, not, List, [], ◌∷◌, length, take, drop, replicate, min, nat_eq, nat_le, refl, sym, ◌∙◌, ap, subst, eqb-true, leb-true, length-take, length-drop, arith, ◌⊎◌, inl, inr}
use Rattle.std.specs.Prelude.{if◌then◌else◌}
use Rattle.std.specs.List.{list_all}
use Rattle.std.proofs.lemmas.Bool.{false≢true}
use Rattle.std.proofs.lemmas.List.{length-replicate}
use Rattle.bytes_core.specs.declared.byte.Byte.{Byte}
use Rattle.bytes_core.specs.declared.byte.Byte.TheVariants.{Num, Part}
use Rattle.bytes_core.specs.declared.word.Word.{Word}
use Rattle.bytes_core.specs.declared.word.Word.TheVariants.{Plain}
use Rattle.bytes_core.specs.Value.{word_bytes}
use Rattle.planes.specs.Classes.{filled}
use Rattle.graph.specs.declared.edges.HasValue.{HasValue}
use Rattle.graph.specs.declared.value.Value.TheVariants.{Const}
use Rattle.graph.specs.Meaning.{HasClass, HaveClasses, HoldEdges, no_ends}
use Rattle.graph.specs.WellFormed.{lies_in}
use Rattle.graph.proofs.Tests.{and_left, and_right}
use Rattle.changes.specs.Ranges.{spliced}
use Rattle.changes.proofs.Node.{HaveClasses-length, HaveClasses-spliced, HaveClasses-range, take_replicate, low_has, filled_spliced}
use Rattle.changes.proofs.NodeBack.{zero_has, zeros_are, range_stands}
use Rattle.changes.proofs.Splice.{length-spliced, range_beside, spliced-twice, spliced-own}
use Rattle.changes.specs.Merging.{cleared}

-- an edge is not of the value, or beside a range
abbrev pub spares : ℕ → ℕ → ℕ → HasValue → Bool
spares gone at size edge = not (nat_eq edge.value gone) || (nat_le (edge.at + edge.size) at || nat_le (at + size) edge.at)

-- it is not of the value, or no longer than a word
abbrev pub is_short : ℕ → HasValue → Bool
is_short gone edge = not (nat_eq edge.value gone) || nat_le edge.size 8

abbrev once : ℕ → HasValue → List ℕ → List ℕ
once gone edge plane = if nat_eq edge.value gone then filled plane edge.at edge.size 0 else plane

once_here : (gone : ℕ) (edge : HasValue) (plane : List ℕ) → nat_eq edge.value gone ≡ true → once gone edge plane ≡ spliced plane edge.at (replicate edge.size 0)
once_here gone edge plane is = ap (λ (b : Bool). if b then filled plane edge.at edge.size 0 else plane) is ∙ filled_spliced plane edge.at edge.size 0

once_other : (gone : ℕ) (edge : HasValue) (plane : List ℕ) → nat_eq edge.value gone ≡ false → once gone edge plane ≡ plane
once_other gone edge plane is = ap (λ (b : Bool). if b then filled plane edge.at edge.size 0 else plane) is

zeros_room : (plane : List ℕ) (at size : ℕ) → at + size ≤ length plane → at + length (replicate {A = ℕ} size 0) ≤ length plane
zeros_room plane at size room = let e : length (replicate {A = ℕ} size 0) ≡ size = length-replicate size 0 in omega arith

once-length : (gone : ℕ) (edge : HasValue) (plane : List ℕ) → edge.at + edge.size ≤ length plane → length (once gone edge plane) ≡ length plane
once-length gone edge plane room = by_key (nat_eq edge.value gone) refl
  where
    by_key : (b : Bool) → nat_eq edge.value gone ≡ b → length (once gone edge plane) ≡ length plane
    by_key true is = ap length (once_here gone edge plane is) ∙ length-spliced plane edge.at (replicate edge.size 0) (zeros_room plane edge.at edge.size room) 0
    by_key false is = ap length (once_other gone edge plane is)

fits_first : (size : ℕ) (edge : HasValue) (rest : List HasValue) → list_all (lies_in size) (edge ∷ rest) ≡ true → edge.at + edge.size ≤ size
fits_first size edge rest all = leb-true _ _ (and_left (lies_in size edge) (list_all (lies_in size) rest) all)

fits_rest : (gone : ℕ) (edge : HasValue) (rest : List HasValue) (plane : List ℕ) → list_all (lies_in (length plane)) (edge ∷ rest) ≡ true → list_all (lies_in (length (once gone edge plane))) rest ≡ true
fits_rest gone edge rest plane all =
    ap (λ (n : ℕ). list_all (lies_in n) rest) (once-length gone edge plane (fits_first (length plane) edge rest all)) ∙ and_right (lies_in (length plane) edge) (list_all (lies_in (length plane)) rest) all

pub cleared-length : (gone : ℕ) (edges : List HasValue) (plane : List ℕ) → list_all (lies_in (length plane)) edges ≡ true → length (cleared gone edges plane) ≡ length plane
cleared-length gone [] plane all = refl
cleared-length gone (edge ∷ rest) plane all =
    cleared-length gone rest (once gone edge plane) (fits_rest gone edge rest plane all) ∙ once-length gone edge plane (fits_first (length plane) edge rest all)

-- Ranges beside such edges.

once-beside : (gone : ℕ) (edge : HasValue) (plane : List ℕ) (at size : ℕ) → edge.at + edge.size ≤ length plane → at + size ≤ length plane → spares gone at size edge ≡ true →
    take size (drop at (once gone edge plane)) ≡ take size (drop at plane)
once-beside gone edge plane at size room within spared = by_key (nat_eq edge.value gone) refl
  where
    sides : nat_eq edge.value gone ≡ true → (at + size ≤ edge.at) ⊎ (edge.at + length (replicate {A = ℕ} edge.size 0) ≤ at)
    sides is = by_side (nat_le (edge.at + edge.size) at) refl (nat_le (at + size) edge.at) refl
        (sym (ap (λ (b : Bool). not b || (nat_le (edge.at + edge.size) at || nat_le (at + size) edge.at)) is) ∙ spared)
      where
        by_side : (a : Bool) → nat_le (edge.at + edge.size) at ≡ a → (b : Bool) → nat_le (at + size) edge.at ≡ b → (a || b) ≡ true → (at + size ≤ edge.at) ⊎ (edge.at + length (replicate {A = ℕ} edge.size 0) ≤ at)
        by_side true a b b_is any = inr (let e : length (replicate {A = ℕ} edge.size 0) ≡ edge.size = length-replicate edge.size 0 in let l = leb-true _ _ a in omega arith)
        by_side false a_is true b any = inl (leb-true _ _ b)
        by_side false a_is false b_is any = absurd (false≢true any)

    by_key : (b : Bool) → nat_eq edge.value gone ≡ b → take size (drop at (once gone edge plane)) ≡ take size (drop at plane)
    by_key true is =
        ap (λ (xs : List ℕ). take size (drop at xs)) (once_here gone edge plane is)
        ∙ range_beside plane edge.at (replicate edge.size 0) (zeros_room plane edge.at edge.size room) 0 at size within (sides is)
    by_key false is = ap (λ (xs : List ℕ). take size (drop at xs)) (once_other gone edge plane is)

pub cleared-beside : (gone : ℕ) (edges : List HasValue) (plane : List ℕ) (at size : ℕ) → list_all (lies_in (length plane)) edges ≡ true → at + size ≤ length plane → list_all (spares gone at size) edges ≡ true →
    take size (drop at (cleared gone edges plane)) ≡ take size (drop at plane)
cleared-beside gone [] plane at size all within spared = refl
cleared-beside gone (edge ∷ rest) plane at size all within spared =
    cleared-beside gone rest (once gone edge plane) at size (fits_rest gone edge rest plane all)
    (subst (λ (n : ℕ). at + size ≤ n) (sym (once-length gone edge plane (fits_first (length plane) edge rest all))) within)
    (and_right (spares gone at size edge) (list_all (spares gone at size) rest) spared)
    ∙ once-beside gone edge plane at size (fits_first (length plane) edge rest all) within (and_left (spares gone at size edge) (list_all (spares gone at size) rest) spared)

-- Bytes.

-- what stands there, put there again
own_again : {A : Type 0} (items : List A) (at size : ℕ) (d : A) → at + size ≤ length items → spliced items at (take size (drop at items)) ≡ items
own_again items at size d room =
    let long : length (take size (drop at items)) ≡ size = length-take size (drop at items) ∙ ap (min size) (length-drop at items) ∙ omega arith in
    let own : take size (drop at items) ≡ take (length (take size (drop at items))) (drop at items) = ap (λ (n : ℕ). take n (drop at items)) (sym long) in
    spliced-own items at (take size (drop at items)) (omega arith) d (ap length own) own

zero_any : (n : ℕ) (classes : List ℕ) (bytes : List Byte) → length classes ≡ n → HaveClasses (replicate n 0) bytes → HaveClasses classes bytes
zero_any zero [] [] same has = tt
zero_any zero [] (byte ∷ bytes) same has = elim has [ ]
zero_any zero (class ∷ classes) bytes same has = absurd (omega arith)
zero_any (suc n) [] bytes same has = absurd (omega arith)
zero_any (suc n) (class ∷ classes) [] same has = elim has [ ]
zero_any (suc n) (class ∷ classes) (Num number ∷ bytes) same has = (subst (λ (k : ℕ). HasClass class (Num k)) (sym has.0) (zero_has class), zero_any n classes bytes (omega arith) has.1)
zero_any (suc n) (class ∷ classes) (Part block offset k ∷ bytes) same has = elim has.0 [ ]

-- the lowest bytes of the number 0
zeros_word : (size : ℕ) → size ≤ 8 → replicate size (Num 0) ≡ take size (word_bytes (Plain 0))
zeros_word size small =
    sym (ap (λ (n : ℕ). take size (replicate n (Num 0))) (let e : 8 ≡ size + (8 - size) = omega arith in e) ∙ take_replicate size (8 - size) (Num 0))
    ∙ ap (take size) whole
  where
    whole : replicate 8 (Num 0) ≡ word_bytes (Plain 0)
    whole = refl

short_here : (gone : ℕ) (edge : HasValue) → nat_eq edge.value gone ≡ true → is_short gone edge ≡ true → edge.size ≤ 8
short_here gone edge is short = leb-true _ _ (sym (ap (λ (b : Bool). not b || nat_le edge.size 8) is) ∙ short)

once_has : (gone : ℕ) (edge : HasValue) (plane : List ℕ) (bytes : List Byte) (word : ℕ → Word) → word gone ≡ Plain 0 → edge.at + edge.size ≤ length plane → is_short gone edge ≡ true →
    take edge.size (drop edge.at bytes) ≡ take edge.size (word_bytes (word edge.value)) → HaveClasses plane bytes → HaveClasses (once gone edge plane) bytes
once_has gone edge plane bytes word zero_is room short holds has = by_key (nat_eq edge.value gone) refl
  where
    long : length plane ≡ length bytes
    long = HaveClasses-length plane bytes has

    by_key : (b : Bool) → nat_eq edge.value gone ≡ b → HaveClasses (once gone edge plane) bytes
    by_key true is =
        let small = short_here gone edge is short in
        let own : take edge.size (word_bytes (Plain 0)) ≡ take edge.size (drop edge.at bytes) =
        sym (holds ∙ ap (λ (k : ℕ). take edge.size (word_bytes (word k))) (eqb-true _ _ is) ∙ ap (λ (w : Word). take edge.size (word_bytes w)) zero_is) in
        subst (λ (classes : List ℕ). HaveClasses classes bytes) (sym (once_here gone edge plane is))
        (subst (λ (bs : List Byte). HaveClasses (spliced plane edge.at (replicate edge.size 0)) bs) (own_again bytes edge.at edge.size (Num 0) (let e = long in omega arith))
        (HaveClasses-spliced plane bytes edge.at (replicate edge.size 0) (take edge.size (drop edge.at bytes)) has
        (subst (λ (bs : List Byte). HaveClasses (replicate edge.size 0) bs) own (low_has 0 (λ key. []) (λ key. no_ends) edge.size (Const 0 8) (Plain 0) small refl))))
    by_key false is = subst (λ (classes : List ℕ). HaveClasses classes bytes) (sym (once_other gone edge plane is)) has

-- where the value is 0, bytes that hold it have class 0
pub cleared-has : (gone : ℕ) (edges : List HasValue) (plane : List ℕ) (bytes : List Byte) (word : ℕ → Word) → word gone ≡ Plain 0 → list_all (lies_in (length plane)) edges ≡ true → list_all (is_short gone) edges ≡ true →
    HoldEdges bytes word edges → HaveClasses plane bytes → HaveClasses (cleared gone edges plane) bytes
cleared-has gone [] plane bytes word zero_is all short holds has = has
cleared-has gone (edge ∷ rest) plane bytes word zero_is all short holds has =
    cleared-has gone rest (once gone edge plane) bytes word zero_is (fits_rest gone edge rest plane all) (and_right (is_short gone edge) (list_all (is_short gone) rest) short) holds.1
    (once_has gone edge plane bytes word zero_is (fits_first (length plane) edge rest all) (and_left (is_short gone edge) (list_all (is_short gone) rest) short) holds.0 has)

-- bytes of such edges are zeros
abbrev pub AreZeros : ℕ → List HasValue → List Byte → Type 0
AreZeros gone [] bytes = Unit {0}
AreZeros gone (edge ∷ rest) bytes = (nat_eq edge.value gone ≡ true → take edge.size (drop edge.at bytes) ≡ take edge.size (word_bytes (Plain 0))) × AreZeros gone rest bytes

once_had : (gone : ℕ) (edge : HasValue) (plane : List ℕ) (bytes : List Byte) → edge.at + edge.size ≤ length plane → is_short gone edge ≡ true → HaveClasses (once gone edge plane) bytes →
    HaveClasses plane bytes × (nat_eq edge.value gone ≡ true → take edge.size (drop edge.at bytes) ≡ take edge.size (word_bytes (Plain 0)))
once_had gone edge plane bytes room short has = by_key (nat_eq edge.value gone) refl
  where
    long : length (once gone edge plane) ≡ length bytes
    long = HaveClasses-length (once gone edge plane) bytes has

    same_long : length (once gone edge plane) ≡ length plane
    same_long = once-length gone edge plane room

    by_key : (b : Bool) → nat_eq edge.value gone ≡ b → HaveClasses plane bytes × (nat_eq edge.value gone ≡ true → take edge.size (drop edge.at bytes) ≡ take edge.size (word_bytes (Plain 0)))
    by_key true is =
        let now = subst (λ (classes : List ℕ). HaveClasses classes bytes) (once_here gone edge plane is) has in
        let zeros = subst (λ (classes : List ℕ). HaveClasses classes (take edge.size (drop edge.at bytes))) (range_stands plane edge.at edge.size 0 room)
        (HaveClasses-range edge.at edge.size (spliced plane edge.at (replicate edge.size 0)) bytes now) in
        let own_long : length (take edge.size (drop edge.at plane)) ≡ edge.size = length-take edge.size (drop edge.at plane) ∙ ap (min edge.size) (length-drop edge.at plane) ∙ omega arith in (
          subst (λ (classes : List ℕ). HaveClasses classes bytes)
              (spliced-twice plane edge.at (replicate edge.size 0) (zeros_room plane edge.at edge.size room) 0 (take edge.size (drop edge.at plane)) (own_long ∙ sym (length-replicate edge.size 0))
              ∙ own_again plane edge.at edge.size 0 room)
              (subst (λ (bs : List Byte). HaveClasses (spliced (spliced plane edge.at (replicate edge.size 0)) edge.at (take edge.size (drop edge.at plane))) bs)
              (own_again bytes edge.at edge.size (Num 0) (let a = long in let b = same_long in omega arith))
              (HaveClasses-spliced (spliced plane edge.at (replicate edge.size 0)) bytes edge.at (take edge.size (drop edge.at plane)) (take edge.size (drop edge.at bytes)) now
              (zero_any edge.size (take edge.size (drop edge.at plane)) (take edge.size (drop edge.at bytes)) own_long zeros))),
          λ here. zeros_are (take edge.size (drop edge.at bytes)) edge.size zeros ∙ zeros_word edge.size (short_here gone edge is short),
        )
    by_key false is = (subst (λ (classes : List ℕ). HaveClasses classes bytes) (once_other gone edge plane is) has, λ here. absurd (false≢true (sym is ∙ here)))

pub cleared-had : (gone : ℕ) (edges : List HasValue) (plane : List ℕ) (bytes : List Byte) → list_all (lies_in (length plane)) edges ≡ true → list_all (is_short gone) edges ≡ true → HaveClasses (cleared gone edges plane) bytes →
    HaveClasses plane bytes × AreZeros gone edges bytes
cleared-had gone [] plane bytes all short has = (has, tt)
cleared-had gone (edge ∷ rest) plane bytes all short has =
    let later = cleared-had gone rest (once gone edge plane) bytes (fits_rest gone edge rest plane all) (and_right (is_short gone edge) (list_all (is_short gone) rest) short) has in
    let here = once_had gone edge plane bytes (fits_first (length plane) edge rest all) (and_left (is_short gone edge) (list_all (is_short gone) rest) short) later.0 in
    (here.0, (here.1, later.1))
