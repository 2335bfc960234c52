-- A graph shows a state still where a number from outside is known to be a constant, or to differ from it.
use Rattle.std.proofs.Common.{◌≡◌, ◌≢◌, ℕ, Bool, true, false, not, List, [], ◌∷◌, map, nat_eq, Option, None, Some, refl, sym, ◌∙◌, ap, subst, eqb-true}
use Rattle.std.specs.Prelude.{option_map, if◌then◌else◌}
use Rattle.std.specs.List.{filter, list_all}
use Rattle.std.specs.Option.{option_map_or}
use Rattle.std.proofs.lemmas.Bool.{false≢true}
use Rattle.std.proofs.lemmas.Option.{same_Some, none-some}
use Rattle.planes.specs.Classes.{filled}
use Rattle.graph.specs.declared.edges.HasValue.{HasValue}
use Rattle.graph.specs.declared.object.Object.{Object}
use Rattle.graph.specs.declared.object.Shape.{Shape}
use Rattle.graph.specs.declared.object.Shape.TheVariants.{Region, Segment}
use Rattle.graph.specs.declared.parts.KeyedObject.{KeyedObject}
use Rattle.graph.specs.declared.parts.Parts.{Parts}
use Rattle.graph.specs.declared.value.Value.{Value}
use Rattle.graph.specs.declared.value.Value.TheVariants.{Const, Number}
use Rattle.graph.specs.Maps.{object_at, value_at, held_by}
use Rattle.graph.specs.Meaning.{Assignment}
use Rattle.graph.specs.Nodes.{is_region}
use Rattle.graph.specs.Sizes.{is_zero}
use Rattle.graph.specs.State.{State}
use Rattle.graph.specs.WellFormed.{IsWellFormed, passes_at}
use Rattle.graph.proofs.Found.{found-all}
use Rattle.graph.proofs.Tests.{and_left, and_right, list_all-implies}
use Rattle.changes.specs.Merging.{MayMerge, merged_key, merged_edge, merged_edges, cleared, merged_plane, merged_shape, merged_object, merged, with_unequal}
use Rattle.changes.proofs.MergedMeets.{objects_merged, merged_meets}
use Rattle.changes.proofs.MergedPairs.{apart_of, apart_at, apart_more}
use Rattle.reinterpret.proofs.HeldMerged.{held_merged}
use Rattle.plain.specs.Marks.{Marks}
use Rattle.plain.specs.Shown.{is_sure, may_show, IsShownBy}

pub region_is : (shape : Shape) → is_region shape ≡ true → shape ≡ Region
region_is Region is = refl
region_is (Segment twofold head next prev back least next_value prev_value node) is = absurd (false≢true is)

-- Edges none of which holds the value.

module _ (kept gone : ℕ) where
  abbrev spares : HasValue → Bool
  spares edge = not (nat_eq edge.value gone)

  filter_all : (edges : List HasValue) → list_all spares edges ≡ true → filter spares edges ≡ edges
  filter_all [] all = refl
  filter_all (edge ∷ rest) all = ap (λ (b : Bool). if b then edge ∷ filter spares rest else filter spares rest) (and_left (spares edge) (list_all spares rest) all) ∙ ap (λ (es : List HasValue). edge ∷ es) (filter_all rest (and_right (spares edge) (list_all spares rest) all))

  not_is : (b : Bool) → not b ≡ true → b ≡ false
  not_is true is = absurd (false≢true is)
  not_is false is = refl

  edge_same : (edge : HasValue) → spares edge ≡ true → merged_edge kept gone edge ≡ edge
  edge_same edge spared = ap (λ (b : Bool). record edge { value = if b then kept else edge.value }) (not_is (nat_eq edge.value gone) spared)

  map_all : (edges : List HasValue) → list_all spares edges ≡ true → map (merged_edge kept gone) edges ≡ edges
  map_all [] all = refl
  map_all (edge ∷ rest) all =
      ap (λ (e : HasValue). e ∷ map (merged_edge kept gone) rest) (edge_same edge (and_left (spares edge) (list_all spares rest) all)) ∙ ap (λ (es : List HasValue). edge ∷ es) (map_all rest (and_right (spares edge) (list_all spares rest) all))

  edges_same : (zero : Bool) (edges : List HasValue) → list_all spares edges ≡ true → merged_edges zero kept gone edges ≡ edges
  edges_same true edges all = filter_all edges all
  edges_same false edges all = map_all edges all

  cleared_same : (edges : List HasValue) (plane : List ℕ) → list_all spares edges ≡ true → cleared gone edges plane ≡ plane
  cleared_same [] plane all = refl
  cleared_same (edge ∷ rest) plane all =
      ap (λ (b : Bool). cleared gone rest (if b then filled plane edge.at edge.size 0 else plane)) (not_is (nat_eq edge.value gone) (and_left (spares edge) (list_all spares rest) all)) ∙ cleared_same rest plane (and_right (spares edge) (list_all spares rest) all)

  plane_same : (zero : Bool) (edges : List HasValue) (plane : List ℕ) → list_all spares edges ≡ true → merged_plane zero gone edges plane ≡ plane
  plane_same true edges plane all = cleared_same edges plane all
  plane_same false edges plane all = refl

  shape_same : (zero : Bool) (shape : Shape) → shape ≡ Region → merged_shape zero kept gone shape ≡ shape
  shape_same zero shape is = ap (merged_shape zero kept gone) is ∙ sym is

  object_same : (zero : Bool) (object : Object) → object.shape ≡ Region → list_all spares object.edges ≡ true → merged_object zero kept gone object ≡ object
  object_same zero object region all =
      ap (λ (s : Shape). record object { shape = s; edges = merged_edges zero kept gone object.edges; plane = merged_plane zero gone object.edges object.plane }) (shape_same zero object.shape region)
      ∙ ap (λ (es : List HasValue). record object { edges = es; plane = merged_plane zero gone object.edges object.plane }) (edges_same zero object.edges all)
      ∙ ap (λ (p : List ℕ). record object { plane = p }) (plane_same zero object.edges object.plane all)

module _ (parts : Parts) (form : IsWellFormed parts) (regions : list_all (λ (entry : KeyedObject). is_region entry.object.shape) parts.objects ≡ true) (state : State) (marks : Marks) (given : Assignment) (shown : IsShownBy parts state marks given)
    (kept gone number size size' : ℕ) (kept_is : value_at parts.values kept ≡ Some (Const number size)) (gone_is : value_at parts.values gone ≡ Some (Number size')) where
  spared : (edge : HasValue) → passes_at parts is_sure edge.value ≡ true → not (nat_eq edge.value gone) ≡ true
  spared edge sure = by_key (nat_eq edge.value gone) refl
    where
      by_key : (b : Bool) → nat_eq edge.value gone ≡ b → not b ≡ true
      by_key true same = absurd (false≢true (sym (ap (λ (o : Option Value). option_map_or is_sure o false) (ap (value_at parts.values) (eqb-true _ _ same) ∙ gone_is)) ∙ sure))
      by_key false apart = refl

  abbrev zero : Bool
  zero = passes_at parts is_zero kept

  object_back : (key : ℕ) (object : Object) → object_at (merged kept gone parts).objects key ≡ Some object → object_at parts.objects key ≡ Some object
  object_back key object is = by_object (object_at parts.objects key) refl (sym (objects_merged zero kept gone parts.objects key) ∙ is)
    where
      by_object : (found : Option Object) → object_at parts.objects key ≡ found → option_map (merged_object zero kept gone) found ≡ Some object → object_at parts.objects key ≡ Some object
      by_object None stands mapped = absurd (none-some object mapped)
      by_object (Some old) stands mapped =
          stands ∙ ap Some (sym (object_same kept gone zero old (region_is old.shape (found-all (λ (entry : KeyedObject). entry.key) (λ entry. entry.object) (λ (o : Object). is_region o.shape) parts.objects key old regions stands))
          (list_all-implies (λ (edge : HasValue). passes_at parts is_sure edge.value) (λ edge. not (nat_eq edge.value gone)) spared old.edges (shown.edges key old stands))) ∙ same_Some _ _ mapped)

  const_shown : (flag : Bool) → passes_at parts (may_show flag) kept ≡ true
  const_shown true = ap (λ (o : Option Value). option_map_or (may_show true) o false) kept_is
  const_shown false = ap (λ (o : Option Value). option_map_or (may_show false) o false) kept_is

  pub merged_shown : MayMerge parts kept gone → given.word kept ≡ given.word gone → IsShownBy (merged kept gone parts) state marks given
  merged_shown may same = record {
    meets = merged_meets parts form kept gone may state given same shown.meets;
    marked = λ key block place object is alive blocks below. shown.marked key block place object (object_back key object is) alive blocks below;
    tight = λ key place object is. shown.tight key place object (object_back key object is);
    edges = λ key object is. shown.edges key object (object_back key object is);
    registers = λ register key held. by_held register key (held_by parts.registers register) refl (sym (held_merged kept gone parts register) ∙ held);
  }
    where
      by_key : (register old key : ℕ) → held_by parts.registers register ≡ Some old → (b : Bool) → (if b then kept else old) ≡ key → passes_at parts (may_show (marks.input register)) key ≡ true
      by_key register old key held true is = subst (λ (k : ℕ). passes_at parts (may_show (marks.input register)) k ≡ true) is (const_shown (marks.input register))
      by_key register old key held false is = subst (λ (k : ℕ). passes_at parts (may_show (marks.input register)) k ≡ true) is (shown.registers register old held)

      by_held : (register key : ℕ) (found : Option ℕ) → held_by parts.registers register ≡ found → option_map (merged_key kept gone) found ≡ Some key → passes_at parts (may_show (marks.input register)) key ≡ true
      by_held register key None held mapped = absurd (none-some key mapped)
      by_held register key (Some old) held mapped = by_key register old key held (nat_eq old gone) (same_Some _ _ mapped)

pub unequal_shown : (parts : Parts) (state : State) (marks : Marks) (given : Assignment) → IsShownBy parts state marks given → (one other : ℕ) → given.word one ≢ given.word other → IsShownBy (with_unequal one other parts) state marks given
unequal_shown parts state marks given shown one other differ = record {
  meets = record {
    values = shown.meets.values;
    objects = shown.meets.objects;
    owners = shown.meets.owners;
    places = shown.meets.places;
    used = λ number block stands live. let owned = shown.meets.used number block stands live in record { object = owned.object; block = owned.block };
    variables = shown.meets.variables;
    registers = shown.meets.registers;
    ports = shown.meets.ports;
    rooted = shown.meets.rooted;
    unequal = apart_at given.word (with_unequal one other parts).unequal (apart_more given.word parts.unequal (record { left = one; right = other }) (apart_of given.word parts.unequal shown.meets.unequal) differ);
  };
  marked = shown.marked;
  tight = shown.tight;
  edges = shown.edges;
  registers = shown.registers;
}
