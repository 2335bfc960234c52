-- A graph holds in its cells what each graph holds there that it covers.
use Rattle.std.proofs.Common.{◌≡◌, ℕ, suc, Bool, true, false, ◌&&◌, List, [], ◌∷◌, ◌++◌, Option, None, Some, refl, sym, ◌∙◌, ap, subst, nat_eq, eqb-true, append_assoc}
use Rattle.std.specs.Prelude.{option_map, slice_get, if◌then◌else◌}
use Rattle.std.specs.List.{All}
use Rattle.std.specs.Option.{option_map_or}
use Rattle.std.proofs.lemmas.Bool.{false≢true}
use Rattle.std.proofs.lemmas.List.Elements.{All-head, All-tail}
use Rattle.std.proofs.lemmas.Option.{same_Some, none-some}
use Rattle.graph.specs.declared.edges.HasValue.{HasValue}
use Rattle.graph.specs.declared.object.Object.{Object}
use Rattle.graph.specs.declared.template.Node.{Node}
use Rattle.graph.specs.declared.parts.Named.{Named}
use Rattle.graph.specs.declared.parts.Parts.{Parts}
use Rattle.graph.specs.declared.value.Value.{Value}
use Rattle.graph.specs.declared.value.Value.TheVariants.{Const, Number, Any, Address}
use Rattle.graph.specs.Maps.{object_at, value_at, storage_of}
use Rattle.graph.specs.Meaning.{Maps, maps_of}
use Rattle.graph.specs.Nodes.{node_of}
use Rattle.graph.specs.Whole.{IsGraph}
use Rattle.graph.specs.WellFormed.{is_storage}
use Rattle.graph.proofs.Found.{found-all}
use Rattle.graph.proofs.Tests.{and_left, and_right}
use Rattle.cover.specs.declared.cells.Cell.{Cell}
use Rattle.cover.specs.declared.content.Content.{Content}
use Rattle.cover.specs.declared.content.Content.TheVariants.{Fixed}
use Rattle.cover.specs.Covers.{content, content_of, value_in, held_in, held_as, Pairing, Fits, HasPartner, IsCover, Covers}
use Rattle.cover.specs.Cells.{is_constant, holds_constant, is_cell, cell_at, PutsCell, cells_of_edges, cells_of_object, cells_of_variables, constant_cells, held_of, held_behind, held_at, mixed_with, goes_on, print_from, fingerprint}
use Rattle.cover.proofs.Keyed.{found-place}

-- where a constant is held in the object of a variable
pub record IsCellOf (parts : Parts) (cell : Cell) : Type 0 where
  pub key : ℕ
  pub object : Object
  pub value : ℕ
  pub number : ℕ
  pub size : ℕ
  pub named : storage_of parts.variables cell.variable ≡ Some key
  pub stands : object_at parts.objects key ≡ Some object
  pub held : value_in (node_of object).edges cell.at cell.size ≡ Some value
  pub constant : value_at parts.values value ≡ Some (Const number size)

abbrev pub AreCellsOf : Parts → List Cell → Type 0
AreCellsOf parts [] = Unit {0}
AreCellsOf parts (cell ∷ rest) = IsCellOf parts cell × AreCellsOf parts rest

both-parts : (parts : Parts) (ones others : List Cell) → AreCellsOf parts ones → AreCellsOf parts others → AreCellsOf parts (ones ++ others)
both-parts parts [] others are are' = are'
both-parts parts (one ∷ ones) others are are' = (are.0, both-parts parts ones others are.1 are')

-- a key whose content is a constant has a constant
pub record IsConstantAt (parts : Parts) (key : ℕ) : Type 0 where
  pub number : ℕ
  pub size : ℕ
  pub is : value_at parts.values key ≡ Some (Const number size)

constant-at : (parts : Parts) (key : ℕ) → is_constant (content (maps_of parts) key) ≡ true → IsConstantAt parts key
constant-at parts key is = by_value (value_at parts.values key) refl is
  where
    by_value : (value : Option Value) → value_at parts.values key ≡ value → is_constant (content_of key value) ≡ true → IsConstantAt parts key
    by_value None there constant = absurd (false≢true constant)
    by_value (Some (Const number size)) there constant = record { number = number; size = size; is = there }
    by_value (Some (Number size)) there constant = absurd (false≢true constant)
    by_value (Some Any) there constant = absurd (false≢true constant)
    by_value (Some (Address object offset target)) there constant = absurd (false≢true constant)

cell-of : (parts : Parts) (key : ℕ) (object : Object) (variable : ℕ) (edge : HasValue) → storage_of parts.variables variable ≡ Some key → object_at parts.objects key ≡ Some object →
    is_cell (maps_of parts) object edge ≡ true → IsCellOf parts (cell_at variable edge)
cell-of parts key object variable edge named stands is =
    by_value (value_in (node_of object).edges edge.at edge.size) refl (and_right _ (holds_constant (maps_of parts) (value_in (node_of object).edges edge.at edge.size)) is)
  where
    by_value : (value : Option ℕ) → value_in (node_of object).edges edge.at edge.size ≡ value → holds_constant (maps_of parts) value ≡ true → IsCellOf parts (cell_at variable edge)
    by_value None there holds = absurd (false≢true holds)
    by_value (Some value) there holds =
        let constant = constant-at parts value holds in
        record { key = key; object = object; value = value; number = constant.number; size = constant.size; named = named; stands = stands; held = there; constant = constant.is }

cells-of-edges : (parts : Parts) (key : ℕ) (object : Object) (variable : ℕ) (edges : List HasValue) → storage_of parts.variables variable ≡ Some key → object_at parts.objects key ≡ Some object →
    AreCellsOf parts (cells_of_edges (maps_of parts) object variable edges)
cells-of-edges parts key object variable [] named stands = tt
cells-of-edges parts key object variable (edge ∷ rest) named stands = by_test (is_cell (maps_of parts) object edge) refl (cells-of-edges parts key object variable rest named stands)
  where
    by_test : (b : Bool) → is_cell (maps_of parts) object edge ≡ b → AreCellsOf parts (cells_of_edges (maps_of parts) object variable rest) →
        AreCellsOf parts (if b then cell_at variable edge ∷ cells_of_edges (maps_of parts) object variable rest else cells_of_edges (maps_of parts) object variable rest)
    by_test true is later = (cell-of parts key object variable edge named stands is, later)
    by_test false is later = later

cells-of-variables : (parts : Parts) (names : List Named) → ((place : ℕ) (named : Named) → slice_get names place ≡ Some named → storage_of parts.variables named.variable ≡ Some named.object) →
    AreCellsOf parts (cells_of_variables (maps_of parts) names)
cells-of-variables parts [] each = tt
cells-of-variables parts (named ∷ rest) each =
    both-parts parts (cells_of_object (maps_of parts) named.variable (object_at parts.objects named.object)) (cells_of_variables (maps_of parts) rest)
    (by_object (object_at parts.objects named.object) refl) (cells-of-variables parts rest (λ place. each (suc place)))
  where
    by_object : (object : Option Object) → object_at parts.objects named.object ≡ object → AreCellsOf parts (cells_of_object (maps_of parts) named.variable object)
    by_object None there = tt
    by_object (Some object) there = cells-of-edges parts named.object object named.variable (node_of object).edges (each 0 named refl) there

pub are-cells : (parts : Parts) → IsGraph parts → AreCellsOf parts (constant_cells parts)
are-cells parts graph = cells-of-variables parts parts.variables
    (λ place named there. found-place (λ (n : Named). n.variable) (λ n. n.object) parts.variables graph.well_formed.variables_ascend place named there)

-- a graph holds a constant in each of its cells
content-is : (parts : Parts) (cell : Cell) (is : IsCellOf parts cell) → held_at (maps_of parts) cell ≡ Some (Fixed is.number is.size)
content-is parts cell is =
    ap (held_behind (maps_of parts) cell) is.named
    ∙ (ap (held_of (maps_of parts) cell) is.stands
    ∙ (ap (held_as (maps_of parts) (node_of is.object).plane cell.at cell.size) is.held
    ∙ ap (λ (value : Option Value). Some (content_of is.value value)) is.constant))

print-on : (parts : Parts) (cells : List Cell) → AreCellsOf parts cells → (print : ℕ) → print_from (maps_of parts) cells print ≡ None → ⊥
print-on parts [] are print none = none-some print (sym none)
print-on parts (cell ∷ rest) are print none =
    print-on parts rest are.1 _ (sym (ap (λ (held : Option Content). goes_on (mixed_with print held) (print_from (maps_of parts) rest)) (content-is parts cell are.0)) ∙ none)

pub has_fingerprint : (parts : Parts) → IsGraph parts → fingerprint parts (constant_cells parts) ≡ None → ⊥
has_fingerprint parts graph none = print-on parts (constant_cells parts) (are-cells parts graph) 0 none

-- what it covers holds the same ones
module _ (wide narrow : Parts) (wide_is : IsGraph wide) (narrow_is : IsGraph narrow) (p : Pairing) (cover : IsCover (maps_of wide) (maps_of narrow) p) where
  record IsHeldPair (other : Node) (at size value : ℕ) : Type 0 where
    with : Content
    held : held_in (maps_of narrow) other at size ≡ Some with
    paired : p.value value ≡ Some with

  fixed-pair : (key number size : ℕ) (held : Content) → value_at wide.values key ≡ Some (Const number size) → p.value key ≡ Some held → held ≡ Fixed number size
  fixed-pair key number size held constant paired =
      let at = cover.values key held paired in
      subst (λ (value : Value). Fits (maps_of narrow) p value held) (same_Some _ _ (sym at.stands ∙ constant)) at.fits

  held-pair : (other : Node) (edges : List HasValue) (at size value : ℕ) → All (HasPartner (maps_of narrow) p other) edges → value_in edges at size ≡ Some value → IsHeldPair other at size value
  held-pair other [] at size value all is = absurd (none-some value is)
  held-pair other (edge ∷ rest) at size value all is =
      by_test (nat_eq edge.at at && nat_eq edge.size size) refl is (λ later. held-pair other rest at size value (All-tail (HasPartner (maps_of narrow) p other) edge rest all) later)
    where
      by_test : (hit : Bool) → (nat_eq edge.at at && nat_eq edge.size size) ≡ hit → (if hit then Some edge.value else value_in rest at size) ≡ Some value →
          (value_in rest at size ≡ Some value → IsHeldPair other at size value) → IsHeldPair other at size value
      by_test true hit found later =
          let partner = All-head (HasPartner (maps_of narrow) p other) edge rest all in
          record {
            with = partner.with;
            held = subst (λ (n : ℕ). held_in (maps_of narrow) other n size ≡ Some partner.with) (eqb-true _ _ (and_left (nat_eq edge.at at) (nat_eq edge.size size) hit))
                (subst (λ (n : ℕ). held_in (maps_of narrow) other edge.at n ≡ Some partner.with) (eqb-true _ _ (and_right (nat_eq edge.at at) (nat_eq edge.size size) hit)) partner.held);
            paired = subst (λ (n : ℕ). p.value n ≡ Some partner.with) (same_Some _ _ found) partner.paired;
          }
      by_test false miss found later = later found

  storage-pair : (variable key : ℕ) → storage_of wide.variables variable ≡ Some key → (with : ℕ) × (storage_of narrow.variables variable ≡ Some with) × (p.object key ≡ Some with)
  storage-pair variable key named = by_other (storage_of narrow.variables variable) refl (sym (ap (option_map p.object) named) ∙ cover.variables variable)
    where
      by_other : (found : Option ℕ) → storage_of narrow.variables variable ≡ found → option_map p.object (Some key) ≡ option_map Some found →
          (with : ℕ) × (storage_of narrow.variables variable ≡ Some with) × (p.object key ≡ Some with)
      by_other None there is = absurd (none-some (p.object key) (sym is))
      by_other (Some with) there is = (with, there, same_Some _ _ is)

  lives : (variable key : ℕ) (object : Object) → storage_of wide.variables variable ≡ Some key → object_at wide.objects key ≡ Some object → object.live ≡ true
  lives variable key object named stands =
      and_left object.live _ (sym (ap (λ (o : Option Object). option_map_or is_storage o false) stands)
      ∙ found-all (λ (named : Named). named.variable) (λ named. named.object) (λ key. option_map_or is_storage (object_at wide.objects key) false) wide.variables variable key wide_is.well_formed.variables_have_storage named)

  held-same : (cell : Cell) (is : IsCellOf wide cell) → held_at (maps_of narrow) cell ≡ Some (Fixed is.number is.size)
  held-same cell is =
      let found = storage-pair cell.variable is.key is.named in
      let pair = cover.objects is.key found.0 found.2 in
      let same : pair.one ≡ is.object = same_Some _ _ (sym pair.one_stands ∙ is.stands) in
      let alive = lives cell.variable is.key pair.one is.named pair.one_stands in
      let held = held-pair (node_of pair.other) (node_of pair.one).edges cell.at cell.size is.value (pair.alike.alike alive).edges
      (subst (λ (object : Object). value_in (node_of object).edges cell.at cell.size ≡ Some is.value) (sym same) is.held) in
      ap (held_behind (maps_of narrow) cell) found.1
      ∙ (ap (held_of (maps_of narrow) cell) pair.other_stands
      ∙ (held.held ∙ ap (λ (content : Content). Some content) (fixed-pair is.value is.number is.size held.with is.constant held.paired)))

  print-same : (cells : List Cell) → AreCellsOf wide cells → (print : ℕ) → print_from (maps_of narrow) cells print ≡ print_from (maps_of wide) cells print
  print-same [] are print = refl
  print-same (cell ∷ rest) are print =
      ap (λ (held : Option Content). goes_on (mixed_with print held) (print_from (maps_of narrow) rest)) (held-same cell are.0)
      ∙ (print-same rest are.1 _
      ∙ sym (ap (λ (held : Option Content). goes_on (mixed_with print held) (print_from (maps_of wide) rest)) (content-is wide cell are.0)))

pub same_fingerprint : (wide narrow : Parts) → IsGraph wide → IsGraph narrow → Covers wide narrow → fingerprint narrow (constant_cells wide) ≡ fingerprint wide (constant_cells wide)
same_fingerprint wide narrow wide_is narrow_is covers =
    print-same wide narrow wide_is narrow_is covers.pairing covers.cover (constant_cells wide) (are-cells wide wide_is) 0

-- the cell of an edge

pub cell_put : (maps : Maps) (object : Object) (variable : ℕ) (edge : HasValue) (before after : List Cell) (is : Bool) → is ≡ is_cell maps object edge → is ≡ true → after ≡ before ++ cell_at variable edge ∷ [] →
    PutsCell maps object variable edge before after
cell_put maps object variable edge before after is is_is is_true after_is = record {
  puts = λ rest.
      ap (λ (cells : List Cell). cells ++ cells_of_edges maps object variable rest) after_is
      ∙ (append_assoc before (cell_at variable edge ∷ []) (cells_of_edges maps object variable rest)
      ∙ sym (ap (λ (b : Bool). before ++ (if b then cell_at variable edge ∷ cells_of_edges maps object variable rest else cells_of_edges maps object variable rest)) (sym is_is ∙ is_true)));
}

pub no_cell_put : (maps : Maps) (object : Object) (variable : ℕ) (edge : HasValue) (cells : List Cell) (is : Bool) → is ≡ is_cell maps object edge → is ≡ false → PutsCell maps object variable edge cells cells
no_cell_put maps object variable edge cells is is_is is_false = record {
  puts = λ rest. sym (ap (λ (b : Bool). cells ++ (if b then cell_at variable edge ∷ cells_of_edges maps object variable rest else cells_of_edges maps object variable rest)) (sym is_is ∙ is_false));
}

-- the cells of an object more
pub object_put : (maps : Maps) (named : Named) (rest : List Named) (before after all : List Cell) → before ++ cells_of_variables maps (named ∷ rest) ≡ all →
    after ≡ before ++ cells_of_object maps named.variable (maps.objects named.object) → after ++ cells_of_variables maps rest ≡ all
object_put maps named rest before after all so_far after_is =
    ap (λ (cells : List Cell). cells ++ cells_of_variables maps rest) after_is
    ∙ (append_assoc before (cells_of_object maps named.variable (maps.objects named.object)) (cells_of_variables maps rest) ∙ so_far)
