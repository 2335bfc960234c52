-- What is said of a node with its links as edges: what is said of it, and that it holds these links.
use Rattle.std.proofs.Common.{◌≡◌, ℕ, ◌+◌, ◌≤◌, Bool, true, false, not, List, [], ◌∷◌, ◌++◌, length, take, drop, replicate, nat_eq, nat_le, nat_lt, refl, sym, ◌∙◌, ap, subst, eqb-true, le-leb, eq-eqb, arith, ◌⊎◌, inl, inr}
use Rattle.std.specs.Prelude.{if◌then◌else◌}
use Rattle.std.specs.List.{filter, list_all}
use Rattle.std.proofs.lemmas.Bool.{false≢true, ltb-false, ne_eqb}
use Rattle.bytes_core.specs.declared.block.Block.{Block}
use Rattle.bytes_core.specs.declared.block.BlockKind.{BlockKind}
use Rattle.bytes_core.specs.declared.byte.Byte.{Byte}
use Rattle.bytes_core.specs.declared.word.Word.{Word}
use Rattle.bytes_core.specs.declared.word.Word.TheVariants.{Plain, To}
use Rattle.bytes_core.specs.Value.{word_bytes}
use Rattle.planes.specs.Classes.{filled}
use Rattle.graph.specs.declared.edges.HasValue.{HasValue}
use Rattle.graph.specs.declared.template.Node.{Node}
use Rattle.graph.specs.declared.value.Value.{Value}
use Rattle.graph.specs.declared.value.Value.TheVariants.{Const, Number, Any, Address}
use Rattle.graph.specs.Sizes.{value_class, is_zero}
use Rattle.graph.specs.Meaning.{HaveClasses, HoldsWord, HoldEdges, HoldsAt, IsNode, Ends, HasWord}
use Rattle.graph.proofs.Tests.{and_left, and_right, and_both, list_all-implies}
use Rattle.changes.specs.Ranges.{class_for}
use Rattle.changes.proofs.Node.{HaveClasses-range, HoldEdges-append, HoldEdges-left, HoldEdges-right, word_has}
use Rattle.changes.proofs.NodeBack.{zeros_are}
use Rattle.materialise.specs.SplitFirst.{with_edge, with_link}
use Rattle.materialise.proofs.Means.{filled_has}
use Rattle.materialise.proofs.Planes.{filled-length, filled-under, filled-beside, filled_had}

-- the eight bytes of a word are its lowest eight
pub whole_bytes : (word : Word) → take 8 (word_bytes word) ≡ word_bytes word
whole_bytes (Plain number) = refl
whole_bytes (To block offset) = refl

-- Edges.

filter_holds : (bytes : List Byte) (word : ℕ → Word) (test : HasValue → Bool) (edges : List HasValue) → HoldEdges bytes word edges → HoldEdges bytes word (filter test edges)
filter_holds bytes word test [] holds = tt
filter_holds bytes word test (edge ∷ rest) holds = by_test (test edge) (filter_holds bytes word test rest holds.1)
  where
    by_test : (b : Bool) → HoldEdges bytes word (filter test rest) → HoldEdges bytes word (if b then edge ∷ filter test rest else filter test rest)
    by_test true later = (holds.0, later)
    by_test false later = later

-- no edge begins at the place
abbrev pub is_free : ℕ → List HasValue → Bool
is_free place edges = list_all (λ other. not (nat_eq other.at place)) edges

module _ (bytes : List Byte) (word : ℕ → Word) (place : ℕ) where
  merged : (edges : List HasValue) → is_free place edges ≡ true → HoldEdges bytes word (filter (λ other. nat_lt other.at place) edges) → HoldEdges bytes word (filter (λ other. nat_lt place other.at) edges) → HoldEdges bytes word edges
  merged [] free low high = tt
  merged (edge ∷ rest) free low high =
      by_side (nat_lt edge.at place) refl (nat_lt place edge.at) refl low high (λ low high. merged rest (and_right (not (nat_eq edge.at place)) (is_free place rest) free) low high)
    where
      differs : not (nat_eq edge.at place) ≡ true
      differs = and_left (not (nat_eq edge.at place)) (is_free place rest) free

      equal : nat_lt edge.at place ≡ false → nat_lt place edge.at ≡ false → nat_eq edge.at place ≡ true
      equal a b = let low = ltb-false edge.at place a in let high = ltb-false place edge.at b in eq-eqb edge.at place (omega arith)

      by_side : (a : Bool) → nat_lt edge.at place ≡ a → (b : Bool) → nat_lt place edge.at ≡ b →
          HoldEdges bytes word (if a then edge ∷ filter (λ other. nat_lt other.at place) rest else filter (λ other. nat_lt other.at place) rest) →
          HoldEdges bytes word (if b then edge ∷ filter (λ other. nat_lt place other.at) rest else filter (λ other. nat_lt place other.at) rest) →
          (HoldEdges bytes word (filter (λ other. nat_lt other.at place) rest) → HoldEdges bytes word (filter (λ other. nat_lt place other.at) rest) → HoldEdges bytes word rest) → HoldEdges bytes word (edge ∷ rest)
      by_side true a true b low high later = (low.0, later low.1 high.1)
      by_side true a false b low high later = (low.0, later low.1 high)
      by_side false a true b low high later = (high.0, later low high.1)
      by_side false a false b low high later = absurd (false≢true (sym (ap not (equal a b)) ∙ differs))

module _ (bytes : List Byte) (word : ℕ → Word) (edge : HasValue) (edges : List HasValue) where
  abbrev low : List HasValue
  low = filter (λ other. nat_lt other.at edge.at) edges

  abbrev high : List HasValue
  high = filter (λ other. nat_lt edge.at other.at) edges

  pub more_holds : HoldsWord bytes edge (word edge.value) → HoldEdges bytes word edges → HoldEdges bytes word (with_edge edge edges)
  more_holds here holds = HoldEdges-append bytes word low (edge ∷ high) (filter_holds bytes word (λ other. nat_lt other.at edge.at) edges holds) (here, filter_holds bytes word (λ other. nat_lt edge.at other.at) edges holds)

  pub more_back : is_free edge.at edges ≡ true → HoldEdges bytes word (with_edge edge edges) → HoldsWord bytes edge (word edge.value) × HoldEdges bytes word edges
  more_back free holds =
      let right = HoldEdges-right bytes word low (edge ∷ high) holds in
      (right.0, merged bytes word edge.at edges free (HoldEdges-left bytes word low (edge ∷ high) holds) right.1)

-- a place that is free of edges is so of one more that begins elsewhere
free_filter : (place : ℕ) (test : HasValue → Bool) (edges : List HasValue) → is_free place edges ≡ true → is_free place (filter test edges) ≡ true
free_filter place test [] free = refl
free_filter place test (edge ∷ rest) free = by_test (test edge) (free_filter place test rest (and_right (not (nat_eq edge.at place)) (is_free place rest) free))
  where
    by_test : (b : Bool) → is_free place (filter test rest) ≡ true → is_free place (if b then edge ∷ filter test rest else filter test rest) ≡ true
    by_test true later = and_both (not (nat_eq edge.at place)) (is_free place (filter test rest)) (and_left (not (nat_eq edge.at place)) (is_free place rest) free) later
    by_test false later = later

free_append : (place : ℕ) (one other : List HasValue) → is_free place one ≡ true → is_free place other ≡ true → is_free place (one ++ other) ≡ true
free_append place [] other free free' = free'
free_append place (edge ∷ rest) other free free' =
    and_both (not (nat_eq edge.at place)) (is_free place (rest ++ other)) (and_left (not (nat_eq edge.at place)) (is_free place rest) free) (free_append place rest other (and_right (not (nat_eq edge.at place)) (is_free place rest) free) free')

pub free_more : (place : ℕ) (edge : HasValue) (edges : List HasValue) → nat_eq edge.at place ≡ false → is_free place edges ≡ true → is_free place (with_edge edge edges) ≡ true
free_more place edge edges other free =
    free_append place (filter (λ other. nat_lt other.at edge.at) edges) (edge ∷ filter (λ other. nat_lt edge.at other.at) edges) (free_filter place (λ other. nat_lt other.at edge.at) edges free)
    (and_both (not (nat_eq edge.at place)) (is_free place (filter (λ other. nat_lt edge.at other.at) edges)) (ap not other) (free_filter place (λ other. nat_lt edge.at other.at) edges free))

-- One link.

zero_word : (count : ℕ) (blocks : ℕ → List ℕ) (ends : ℕ → Ends) (value : Value) (word : Word) → is_zero value ≡ true → HasWord count blocks ends value word → word ≡ Plain 0
zero_word count blocks ends (Const number size) word is has = has ∙ ap Plain (eqb-true _ _ is)
zero_word count blocks ends (Number size) word is has = absurd (false≢true is)
zero_word count blocks ends Any word is has = absurd (false≢true is)
zero_word count blocks ends (Address object offset target) word is has = absurd (false≢true is)

class_low : (value : Value) → class_for value ≤ 2
class_low value = by_zero (is_zero value) value
  where
    by_zero : (b : Bool) (value : Value) → (if b then 0 else value_class value) ≤ 2
    by_zero true value = omega arith
    by_zero false (Const number size) = omega arith
    by_zero false (Number size) = omega arith
    by_zero false Any = omega arith
    by_zero false (Address object offset target) = omega arith

-- a node of which nothing is said in the eight bytes of a link
pub record HasRoom (size : ℕ) (node : Node) (at : ℕ) : Type 0 where
  pub inside : at + 8 ≤ size
  pub long : length node.plane ≡ size
  pub any : list_all (nat_eq 2) (take 8 (drop at node.plane)) ≡ true
  pub free : is_free at node.edges ≡ true

module _ (count : ℕ) (blocks : ℕ → List ℕ) (ends : ℕ → Ends) (word : ℕ → Word) (size : ℕ) (storage : BlockKind) (node : Node) (at : ℕ) (value : Value) (key : ℕ)
    (has : HasWord count blocks ends value (word key)) (room : HasRoom size node at) (block : Block) where
  abbrev link : HasValue
  link = record { at = at; size = 8; value = key }

  long_block : IsNode size storage node word block → at + 8 ≤ length block.bytes
  long_block is = subst (λ (n : ℕ). at + 8 ≤ n) (sym is.size) room.inside

  pub link_on : IsNode size storage node word block → HoldsAt block.bytes at (word key) → IsNode size storage (with_link value link node) word block
  link_on is holds = record {
    live = is.live;
    kind = is.kind;
    size = is.size;
    edges = by_zero (is_zero value);
    classes = filled_has node.plane block.bytes at 8 (class_for value) (long_block is)
        (subst (λ (bytes : List Byte). HaveClasses (replicate 8 (class_for value)) bytes) (sym holds) (word_has count blocks ends value (word key) has)) is.classes;
  }
    where
      by_zero : (b : Bool) → HoldEdges block.bytes word (if b then node.edges else with_edge link node.edges)
      by_zero true = is.edges
      by_zero false = more_holds block.bytes word link node.edges (holds ∙ sym (whole_bytes (word key))) is.edges

  pub link_back : IsNode size storage (with_link value link node) word block → IsNode size storage node word block × HoldsAt block.bytes at (word key)
  link_back is = (
    record {
      live = is.live;
      kind = is.kind;
      size = is.size;
      edges = edges_were (is_zero value) is.edges;
      classes = filled_had node.plane block.bytes at 8 (class_for value) within low is.classes;
    },
    by_zero (is_zero value) refl is.edges,
  )
    where
      within : at + 8 ≤ length node.plane
      within = subst (λ (n : ℕ). at + 8 ≤ n) (sym room.long) room.inside

      low : list_all (nat_le (class_for value)) (take 8 (drop at node.plane)) ≡ true
      low = list_all-implies (nat_eq 2) (nat_le (class_for value)) (λ other same. le-leb _ _ (let e : 2 ≡ other = eqb-true _ _ same in let l = class_low value in omega arith)) (take 8 (drop at node.plane)) room.any

      edges_were : (b : Bool) → HoldEdges block.bytes word (if b then node.edges else with_edge link node.edges) → HoldEdges block.bytes word node.edges
      edges_were true holds = holds
      edges_were false holds = (more_back block.bytes word link node.edges room.free holds).1

      by_zero : (b : Bool) → is_zero value ≡ b → HoldEdges block.bytes word (if b then node.edges else with_edge link node.edges) → HoldsAt block.bytes at (word key)
      by_zero false zero holds = (more_back block.bytes word link node.edges room.free holds).0 ∙ whole_bytes (word key)
      by_zero true zero holds =
          zeros_are (take 8 (drop at block.bytes)) 8
          (subst (λ (classes : List ℕ). HaveClasses classes (take 8 (drop at block.bytes)))
          (filled-under node.plane at 8 (class_for value) within ∙ ap (λ (b : Bool). replicate 8 (if b then 0 else value_class value)) zero)
          (HaveClasses-range at 8 (filled node.plane at 8 (class_for value)) block.bytes is.classes))
          ∙ sym (ap word_bytes (zero_word count blocks ends value (word key) zero has))

-- another link has room as before
pub room_more : (size : ℕ) (node : Node) (value : Value) (link : HasValue) (at : ℕ) → link.size ≡ 8 → (link.at + 8 ≤ at) ⊎ (at + 8 ≤ link.at) → HasRoom size node link.at → HasRoom size node at →
    HasRoom size (with_link value link node) at
room_more size node value link at eight apart one other = record {
  inside = other.inside;
  long = filled-length node.plane link.at link.size (class_for value) within ∙ other.long;
  any = ap (list_all (nat_eq 2)) (filled-beside node.plane link.at link.size (class_for value) at 8 within (subst (λ (n : ℕ). at + 8 ≤ n) (sym other.long) other.inside) (by_side apart)) ∙ other.any;
  free = by_zero (is_zero value);
}
  where
    within : link.at + link.size ≤ length node.plane
    within = let e = one.long in let i = one.inside in omega arith

    by_side : (link.at + 8 ≤ at) ⊎ (at + 8 ≤ link.at) → (at + 8 ≤ link.at) ⊎ (link.at + link.size ≤ at)
    by_side (inl before) = inr (omega arith)
    by_side (inr behind) = inl behind

    differs : (link.at + 8 ≤ at) ⊎ (at + 8 ≤ link.at) → link.at ≡ at → ⊥
    differs (inl before) same = omega arith
    differs (inr behind) same = omega arith

    by_zero : (b : Bool) → is_free at (if b then node.edges else with_edge link node.edges) ≡ true
    by_zero true = other.free
    by_zero false = free_more at link node.edges (ne_eqb link.at at (differs apart)) other.free
