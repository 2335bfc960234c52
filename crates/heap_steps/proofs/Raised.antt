-- A segment that may have no nodes, as one that has one at least: what is made of it is a graph that stands for no more.
use Rattle.std.proofs.Common.{◌≡◌, ℕ, max, Bool, true, false, List, [], ◌∷◌, map, nat_eq, Option, None, Some, refl, sym, ap, ◌∙◌, eqb-true, arith}
use Rattle.std.specs.Prelude.{IsSome, option_map, if◌then◌else◌}
use Rattle.std.specs.Option.{option_map_or}
use Rattle.std.specs.List.{list_all}
use Rattle.std.proofs.lemmas.Option.{same_Some, none-some}
use Rattle.bytes_core.specs.declared.word.Word.{Word}
use Rattle.graph.specs.declared.edges.HasValue.{HasValue}
use Rattle.graph.specs.declared.object.Object.{Object}
use Rattle.graph.specs.declared.object.Shape.{Shape}
use Rattle.graph.specs.declared.object.Shape.TheVariants.{Region as RegionShape, Segment}
use Rattle.graph.specs.declared.template.Node.{Node}
use Rattle.graph.specs.declared.value.Target.{Target}
use Rattle.graph.specs.declared.value.Target.TheVariants.{Region, First, Last, Each}
use Rattle.graph.specs.declared.value.Value.{Value}
use Rattle.graph.specs.declared.value.Value.TheVariants.{Const, Number, Any, Address}
use Rattle.graph.specs.declared.parts.KeyedObject.{KeyedObject}
use Rattle.graph.specs.declared.parts.Parts.{Parts}
use Rattle.graph.specs.Maps.{object_at}
use Rattle.graph.specs.Nodes.{is_region, links_in, own_node, node_in, node_of, link_edges}
use Rattle.graph.specs.Meaning.{ends_in}
use Rattle.graph.specs.WellFormed.{is_storage, target_fits, leads_to_object, back_fits, nodes_of}
use Rattle.graph.proofs.Found.{Holds-some, IsSome-holds, found-here, found-later}
use Rattle.graph.proofs.Tests.{and_left, and_right, and_both}

-- a shape that stands for one node at least
abbrev pub raised_shape : Shape → Shape
raised_shape RegionShape = RegionShape
raised_shape (Segment twofold head next prev back least next_value prev_value node) = Segment twofold head next prev back (max 1 least) next_value prev_value node

abbrev pub raised_object : Object → Object
raised_object object = record object { shape = raised_shape object.shape }

abbrev pub raised_entry : ℕ → KeyedObject → KeyedObject
raised_entry key entry = if nat_eq entry.key key then record { key = entry.key; object = raised_object entry.object } else entry

abbrev pub raised : ℕ → Parts → Parts
raised key parts = record parts { objects = map (raised_entry key) parts.objects }

-- What a shape says of its nodes stays.

pub node_same : (shape : Shape) (own : Node) → node_in (raised_shape shape) own ≡ node_in shape own
node_same RegionShape own = refl
node_same (Segment twofold head next prev back least next_value prev_value node) own = refl

pub region_same : (shape : Shape) → is_region (raised_shape shape) ≡ is_region shape
region_same RegionShape = refl
region_same (Segment twofold head next prev back least next_value prev_value node) = refl

pub links_same : (shape : Shape) → link_edges (raised_shape shape) ≡ link_edges shape
links_same RegionShape = refl
links_same (Segment twofold head next prev back least next_value prev_value node) = refl

pub back_same : (parts : Parts) (size : ℕ) (shape : Shape) → back_fits parts size (links_in (raised_shape shape)) ≡ back_fits parts size (links_in shape)
back_same parts size RegionShape = refl
back_same parts size (Segment twofold head next prev back least next_value prev_value node) = refl

pub fits_same : (target : Target) (shape : Shape) → target_fits target (raised_shape shape) ≡ target_fits target shape
fits_same Region RegionShape = refl
fits_same First RegionShape = refl
fits_same Last RegionShape = refl
fits_same Each RegionShape = refl
fits_same Region (Segment twofold head next prev back least next_value prev_value node) = refl
fits_same First (Segment twofold head next prev back least next_value prev_value node) = refl
fits_same Last (Segment twofold head next prev back least next_value prev_value node) = refl
fits_same Each (Segment twofold head next prev back least next_value prev_value node) = refl

pub ends_same : (shape : Shape) (word : ℕ → Word) → ends_in (raised_shape shape) word ≡ ends_in shape word
ends_same RegionShape word = refl
ends_same (Segment twofold head next prev back least next_value prev_value node) word = refl

pub nodes_same : (shape : Shape) → nodes_of (raised_shape shape) ≡ nodes_of shape
nodes_same RegionShape = refl
nodes_same (Segment twofold head next prev back least next_value prev_value node) = omega arith

-- Entries.

module _ (key : ℕ) where
  pub all_raised : (test : ℕ → Object → Bool) → ((at : ℕ) (object : Object) → test at (raised_object object) ≡ test at object) → (entries : List KeyedObject) → list_all (λ (entry : KeyedObject). test entry.key entry.object) entries ≡ true →
      list_all (λ (entry : KeyedObject). test entry.key entry.object) (map (raised_entry key) entries) ≡ true
  all_raised test same [] all = refl
  all_raised test same (first ∷ rest) all =
      and_both (test (raised_entry key first).key (raised_entry key first).object) (list_all (λ (entry : KeyedObject). test entry.key entry.object) (map (raised_entry key) rest))
      (by_test (nat_eq first.key key)) (all_raised test same rest (and_right (test first.key first.object) (list_all (λ (entry : KeyedObject). test entry.key entry.object) rest) all))
    where
      passes : test first.key first.object ≡ true
      passes = and_left (test first.key first.object) (list_all (λ (entry : KeyedObject). test entry.key entry.object) rest) all

      by_test : (b : Bool) → (let entry = (if b then record { key = first.key; object = raised_object first.object } else first) in test entry.key entry.object ≡ true)
      by_test true = same first.key first.object ∙ passes
      by_test false = passes

  pub key_same : (entry : KeyedObject) → (raised_entry key entry).key ≡ entry.key
  key_same entry = by_test (nat_eq entry.key key)
    where
      by_test : (b : Bool) → (let e : KeyedObject = (if b then record { key = entry.key; object = raised_object entry.object } else entry) in e.key) ≡ entry.key
      by_test true = refl
      by_test false = refl

  -- what stands at a key
  pub raised_at : (entries : List KeyedObject) (at : ℕ) → object_at (map (raised_entry key) entries) at ≡ option_map (λ (object : Object). if nat_eq at key then raised_object object else object) (object_at entries at)
  raised_at [] at = refl
  raised_at (first ∷ rest) at = by_hit (nat_eq first.key at) refl (raised_at rest at)
    where
      by_hit : (b : Bool) → nat_eq first.key at ≡ b → object_at (map (raised_entry key) rest) at ≡ option_map (λ (object : Object). if nat_eq at key then raised_object object else object) (object_at rest at) →
          object_at (map (raised_entry key) (first ∷ rest)) at ≡ option_map (λ (object : Object). if nat_eq at key then raised_object object else object) (object_at (first ∷ rest) at)
      by_hit true hit later =
          found-here (λ (entry : KeyedObject). entry.key) (λ (entry : KeyedObject). entry.object) (raised_entry key first) (map (raised_entry key) rest) at (ap (λ (k : ℕ). nat_eq k at) (key_same first) ∙ hit)
          ∙ ap Some (by_test (nat_eq first.key key) refl)
          ∙ sym (ap (option_map (λ (object : Object). if nat_eq at key then raised_object object else object)) (found-here (λ (entry : KeyedObject). entry.key) (λ (entry : KeyedObject). entry.object) first rest at hit))
        where
          by_test : (b : Bool) → nat_eq first.key key ≡ b → (raised_entry key first).object ≡ (if nat_eq at key then raised_object first.object else first.object)
          by_test b is =
              ap (λ (c : Bool). (let e : KeyedObject = (if c then record { key = first.key; object = raised_object first.object } else first) in e.object)) is
              ∙ by_case b
              ∙ ap (λ (c : Bool). if c then raised_object first.object else first.object) (sym is ∙ ap (λ (k : ℕ). nat_eq k key) (eqb-true first.key at hit))
            where
              by_case : (c : Bool) → (let e : KeyedObject = (if c then record { key = first.key; object = raised_object first.object } else first) in e.object) ≡ (if c then raised_object first.object else first.object)
              by_case true = refl
              by_case false = refl
      by_hit false miss later =
          found-later (λ (entry : KeyedObject). entry.key) (λ (entry : KeyedObject). entry.object) (raised_entry key first) (map (raised_entry key) rest) at (ap (λ (k : ℕ). nat_eq k at) (key_same first) ∙ miss)
          ∙ later
          ∙ sym (ap (option_map (λ (object : Object). if nat_eq at key then raised_object object else object)) (found-later (λ (entry : KeyedObject). entry.key) (λ (entry : KeyedObject). entry.object) first rest at miss))

  -- a test of an object, where it is the same of the raised one
  test_raised : (test : Object → Bool) → ((object : Object) → test (raised_object object) ≡ test object) → (entries : List KeyedObject) (at : ℕ) →
      option_map_or test (object_at (map (raised_entry key) entries) at) false ≡ option_map_or test (object_at entries at) false
  test_raised test same entries at = ap (λ (o : Option Object). option_map_or test o false) (raised_at entries at) ∙ by_found (object_at entries at)
    where
      by_found : (found : Option Object) → option_map_or test (option_map (λ (object : Object). if nat_eq at key then raised_object object else object) found) false ≡ option_map_or test found false
      by_found None = refl
      by_found (Some object) = by_test (nat_eq at key)
        where
          by_test : (b : Bool) → test (if b then raised_object object else object) ≡ test object
          by_test true = same object
          by_test false = refl

  module _ (parts : Parts) where
    abbrev pub after : Parts
    after = raised key parts

    -- Form.

    pub on_nodes : (test : ℕ → Object → Node → Bool) → ((at : ℕ) (object : Object) (node : Node) → test at (raised_object object) node ≡ test at object node) →
        list_all (λ (entry : KeyedObject). test entry.key entry.object (node_of entry.object)) parts.objects ≡ true → list_all (λ (entry : KeyedObject). test entry.key entry.object (node_of entry.object)) after.objects ≡ true
    on_nodes test same all =
        all_raised (λ at object. test at object (node_of object)) (λ at object. ap (test at (raised_object object)) (node_same object.shape (own_node object)) ∙ same at object (node_of object)) parts.objects all

    pub on_links : (test : Object → List HasValue → Node → Bool) → ((object : Object) (links : List HasValue) (node : Node) → test (raised_object object) links node ≡ test object links node) →
        list_all (λ (entry : KeyedObject). test entry.object (link_edges entry.object.shape) (node_of entry.object)) parts.objects ≡ true →
        list_all (λ (entry : KeyedObject). test entry.object (link_edges entry.object.shape) (node_of entry.object)) after.objects ≡ true
    on_links test same all =
        all_raised (λ at object. test object (link_edges object.shape) (node_of object))
        (λ at object. ap (λ (links : List HasValue). test (raised_object object) links (node_of (raised_object object))) (links_same object.shape)
        ∙ ap (test (raised_object object) (link_edges object.shape)) (node_same object.shape (own_node object)) ∙ same object (link_edges object.shape) (node_of object)) parts.objects all

    pub leads_same : (value : Value) → leads_to_object after value ≡ leads_to_object parts value
    leads_same (Const number size) = refl
    leads_same (Number size) = refl
    leads_same Any = refl
    leads_same (Address object offset target) = test_raised (λ found. target_fits target found.shape) (λ found. fits_same target found.shape) parts.objects object

    pub storage_same : (at : ℕ) → option_map_or is_storage (object_at after.objects at) false ≡ option_map_or is_storage (object_at parts.objects at) false
    storage_same at = test_raised is_storage (λ object. refl) parts.objects at

    -- what is raised, and what stays
    pub record WasRaised (at : ℕ) (object : Object) : Type 0 where
      pub before : Object
      pub stood : object_at parts.objects at ≡ Some before
      pub is : object ≡ (if nat_eq at key then raised_object before else before)

    pub was_raised : (at : ℕ) (object : Object) → object_at after.objects at ≡ Some object → WasRaised at object
    was_raised at object stands = by_found (object_at parts.objects at) refl (sym (raised_at parts.objects at) ∙ stands)
      where
        by_found : (found : Option Object) → object_at parts.objects at ≡ found → option_map (λ (object : Object). if nat_eq at key then raised_object object else object) found ≡ Some object → WasRaised at object
        by_found None is mapped = absurd (none-some object mapped)
        by_found (Some before) is mapped = record { before = before; stood = is; is = sym (same_Some _ _ mapped) }

    pub some_raised : (at : ℕ) → IsSome (object_at parts.objects at) → IsSome (object_at after.objects at)
    some_raised at some = let held = Holds-some (object_at parts.objects at) some in IsSome-holds (object_at after.objects at) _ (raised_at parts.objects at ∙ ap (option_map _) held.is)

    pub some_lowered : (at : ℕ) → IsSome (object_at after.objects at) → IsSome (object_at parts.objects at)
    some_lowered at some = let held = Holds-some (object_at after.objects at) some in let was = was_raised at held.item held.is in IsSome-holds (object_at parts.objects at) was.before was.stood
