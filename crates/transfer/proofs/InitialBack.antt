-- A scalar that a static variable holds at the start: the graph before stands for the state before.
use Rattle.std.proofs.Common.{◌≡◌, ℕ, zero, suc, ◌+◌, ◌<◌, ◌≤◌, Bool, true, false, not, ◌||◌, List, [], ◌∷◌, ◌++◌, map, length, take, drop, set, get_or, nat_eq, nat_le, pos, replicate, Option, Some, ◌⊎◌, inl, inr, refl, sym, ◌∙◌, ap, subst, eqb-true, eq-eqb, le-leb, arith}
use Rattle.std.specs.Prelude.{slice_get, filter, AllPairs, Contains, if◌then◌else◌}
use Rattle.std.specs.List.{list_all}
use Rattle.std.specs.Option.{option_map_or}
use Rattle.std.proofs.lemmas.Bool.{false≢true}
use Rattle.std.proofs.lemmas.List.{length-replicate}
use Rattle.std.proofs.lemmas.Option.{same_Some, none-some, slice_get_within, get_or_from_slice_get}
use Rattle.bytes_core.specs.declared.block.Block.{Block}
use Rattle.bytes_core.specs.declared.byte.Byte.{Byte}
use Rattle.bytes_core.specs.declared.word.Word.{Word}
use Rattle.bytes_core.specs.declared.word.Word.TheVariants.{To}
use Rattle.bytes_core.specs.Access as access
use Rattle.bytes_core.specs.Value.{word_bytes}
use Rattle.graph.specs.declared.edges.HasValue.{HasValue}
use Rattle.graph.specs.declared.object.Object.{Object}
use Rattle.graph.specs.declared.parts.KeyedObject.{KeyedObject}
use Rattle.graph.specs.declared.parts.Named.{Named}
use Rattle.graph.specs.declared.parts.Parts.{Parts}
use Rattle.graph.specs.declared.value.Value.{Value}
use Rattle.graph.specs.DeadBlocks.{with_memory}
use Rattle.graph.specs.Maps.{object_at, storage_of}
use Rattle.graph.specs.Meaning.{Assignment, Meets, ends_of, maps_of}
use Rattle.graph.specs.Nodes.{is_region}
use Rattle.graph.specs.State.{State, IsState}
use Rattle.graph.specs.Sizes.{is_zero}
use Rattle.graph.specs.WellFormed.{IsWellFormed, are_distinct}
use Rattle.graph.proofs.Found.{Holds, IsSome-holds, Holds-some, found-all}
use Rattle.graph.proofs.Tests.{and_left, and_right, and_both}
use Rattle.changes.specs.Ranges.{ends_before, begins_behind, is_beside, is_inside, cuts_none, edges_around, edge_for, class_for, spliced, with_range, written_object}
use Rattle.changes.proofs.Below.{AreThere}
use Rattle.changes.proofs.KeptForm.{all_replaced}
use Rattle.changes.proofs.Node.{block_with}
use Rattle.changes.proofs.NodeBack.{word_stands}
use Rattle.changes.proofs.Objects.{replaced-here, replaced-other}
use Rattle.changes.proofs.RangeForm.{plane_long}
use Rattle.changes.proofs.Region.{IsRegionBlock, region_block, behind, block_before, state_before, before_there, before_meets, before_state, put_again}
use Rattle.changes.proofs.Value.{value_less}
use Rattle.changes.proofs.ValueForm.{value_new, has_one_more}
use Rattle.heap_steps.proofs.Listed.{Contains-first, Contains-later, Contains-cases, Contains-none}
use Rattle.reinterpret.proofs.WriteSound.{stored_is}
use Rattle.flow.specs.declared.flow_graph.Flow.{Flow}
use Rattle.flow.specs.declared.flow_graph.Initial.{Initial}
use Rattle.flow.specs.Holding.{Owned, block_of}
use Rattle.flow.specs.Runs.{initial_word}
use Rattle.flow.specs.Runs as runs
use Rattle.flow.specs.Valid.{is_initial, AreApart}
use Rattle.transfer.specs.Start.{AreNamed, with_initial}
use Rattle.transfer.proofs.InitialWritten.{region_is, same_word, named_after, IsStored, IsInitialValue, s, v, edge, more, after, after_is, more_graph, room, small, scalar_is, word_right, block_is, has_word}

-- Two variables have two objects.

not_found : (variables : List Named) (variable key : ℕ) → list_all (λ other. not (nat_eq key other)) (map (λ (named : Named). named.object) variables) ≡ true → storage_of variables variable ≡ Some key → ⊥
not_found [] variable key apart found = none-some key found
not_found (first ∷ rest) variable key apart found =
    by_first (nat_eq first.variable variable) found (λ later. not_found rest variable key (and_right (not (nat_eq key first.object)) (list_all (λ other. not (nat_eq key other)) (map (λ (named : Named). named.object) rest)) apart) later)
  where
    by_first : (b : Bool) → (if b then Some first.object else storage_of rest variable) ≡ Some key → (storage_of rest variable ≡ Some key → ⊥) → ⊥
    by_first true found later =
        false≢true (sym (ap not (eq-eqb key first.object (sym (same_Some _ _ found)))) ∙ and_left (not (nat_eq key first.object)) (list_all (λ other. not (nat_eq key other)) (map (λ (named : Named). named.object) rest)) apart)
    by_first false found later = later found

one_storage : (variables : List Named) (one other key : ℕ) → are_distinct (map (λ (named : Named). named.object) variables) ≡ true → storage_of variables one ≡ Some key → storage_of variables other ≡ Some key → one ≡ other
one_storage [] one other key distinct found found' = absurd (none-some key found)
one_storage (first ∷ rest) one other key distinct found found' =
    by_tests (nat_eq first.variable one) refl (nat_eq first.variable other) refl found found' (λ found found'. one_storage rest one other key (and_right (list_all (λ other. not (nat_eq first.object other)) keys) (are_distinct keys) distinct) found found')
  where
    keys : List ℕ
    keys = map (λ (named : Named). named.object) rest

    apart : list_all (λ other. not (nat_eq first.object other)) keys ≡ true
    apart = and_left (list_all (λ other. not (nat_eq first.object other)) keys) (are_distinct keys) distinct

    by_tests : (b : Bool) → nat_eq first.variable one ≡ b → (c : Bool) → nat_eq first.variable other ≡ c → (if b then Some first.object else storage_of rest one) ≡ Some key → (if c then Some first.object else storage_of rest other) ≡ Some key →
        (storage_of rest one ≡ Some key → storage_of rest other ≡ Some key → one ≡ other) → one ≡ other
    by_tests true b_is true c_is found found' later = sym (eqb-true _ _ b_is) ∙ eqb-true _ _ c_is
    by_tests true b_is false c_is found found' later = absurd (not_found rest other first.object apart (found' ∙ sym found))
    by_tests false b_is true c_is found found' later = absurd (not_found rest one first.object apart (found ∙ sym found'))
    by_tests false b_is false c_is found found' later = later found found'

-- Where edges come from.

-- an edge of a variable is that of one of the first so many scalars
pub record IsOfScalar (flow : Flow) (count variable : ℕ) (edge : HasValue) : Type 0 where
  pub place : ℕ
  pub scalar : Initial
  pub stands : slice_get flow.initial place ≡ Some scalar
  pub before : place < count
  pub variable_is : scalar.variable ≡ variable
  pub at_is : scalar.at ≡ edge.at
  pub size_is : scalar.size ≡ edge.size

-- so it is of all edges, and all objects live
pub record AreOfScalars (flow : Flow) (count : ℕ) (parts : Parts) : Type 0 where
  pub edges : (variable key : ℕ) (object : Object) (edge : HasValue) → storage_of parts.variables variable ≡ Some key → object_at parts.objects key ≡ Some object → Contains object.edges edge → IsOfScalar flow count variable edge
  pub live : list_all (λ (entry : KeyedObject). entry.object.live) parts.objects ≡ true

in_filter : (p : HasValue → Bool) (edges : List HasValue) (one : HasValue) → Contains (filter p edges) one → Contains edges one
in_filter p [] one there = absurd (Contains-none one there)
in_filter p (first ∷ rest) one there = by_test (p first) there (λ later. in_filter p rest one later)
  where
    by_test : (b : Bool) → Contains (if b then first ∷ filter p rest else filter p rest) one → (Contains (filter p rest) one → Contains rest one) → Contains (first ∷ rest) one
    by_test true there onward = by_cases (Contains-cases first one (filter p rest) there)
      where
        by_cases : (first ≡ one) ⊎ Contains (filter p rest) one → Contains (first ∷ rest) one
        by_cases (inl same) = subst (λ (e : HasValue). Contains (first ∷ rest) e) same (Contains-first first rest)
        by_cases (inr later) = Contains-later first one rest (onward later)
    by_test false there onward = Contains-later first one rest (onward there)

in_either : (one other : List HasValue) (item : HasValue) → Contains (one ++ other) item → Contains one item ⊎ Contains other item
in_either [] other item there = inr there
in_either (first ∷ rest) other item there = by_cases (Contains-cases first item (rest ++ other) there) (λ later. in_either rest other item later)
  where
    by_cases : (first ≡ item) ⊎ Contains (rest ++ other) item → (Contains (rest ++ other) item → Contains rest item ⊎ Contains other item) → Contains (first ∷ rest) item ⊎ Contains other item
    by_cases (inl same) onward = inl (subst (λ (e : HasValue). Contains (first ∷ rest) e) same (Contains-first first rest))
    by_cases (inr later) onward = by_side (onward later)
      where
        by_side : Contains rest item ⊎ Contains other item → Contains (first ∷ rest) item ⊎ Contains other item
        by_side (inl there) = inl (Contains-later first item rest there)
        by_side (inr there) = inr there

in_edge_for : (value : Value) (edge one : HasValue) → Contains (edge_for value edge) one → edge ≡ one
in_edge_for value edge one there = by_zero (is_zero value) there
  where
    by_zero : (b : Bool) → Contains (if b then [] else edge ∷ []) one → edge ≡ one
    by_zero true there = absurd (Contains-none one there)
    by_zero false there = by_cases (Contains-cases edge one [] there)
      where
        by_cases : (edge ≡ one) ⊎ Contains [] one → edge ≡ one
        by_cases (inl same) = same
        by_cases (inr later) = absurd (Contains-none one later)

module _ (flow : Flow) (parts : Parts) (are : AreNamed flow parts) (scalar : Initial) (right : is_initial flow scalar ≡ true) (count : ℕ) (here : slice_get flow.initial count ≡ Some scalar) (apart : AllPairs AreApart flow.initial)
    (from : AreOfScalars flow count parts) where
  abbrev stored : IsStored flow parts scalar.variable
  stored = s flow parts are scalar right

  abbrev value : IsInitialValue parts scalar.size scalar.word
  value = v flow parts are scalar right

  abbrev new : HasValue
  new = edge flow parts are scalar right

  abbrev behind_all : Parts
  behind_all = after flow parts are scalar right

  -- an edge of the object lies in the range, or beside it
  uncut : (one : HasValue) → Contains stored.object.edges one → (is_beside scalar.at scalar.size one || is_inside scalar.at scalar.size one) ≡ true
  uncut one there = by_apart (pair.apart of.variable_is)
    where
      of : IsOfScalar flow count scalar.variable one
      of = from.edges scalar.variable stored.key stored.object one stored.stored stored.stands there

      pair : AreApart of.scalar scalar
      pair = subst (λ (x : Initial). AreApart x scalar) (get_or_from_slice_get flow.initial of.place of.scalar scalar of.stands)
          (subst (λ (x : Initial). AreApart (get_or flow.initial of.place scalar) x) (get_or_from_slice_get flow.initial count scalar scalar here)
          (apart of.place count scalar of.before (slice_get_within flow.initial count scalar here)))

      or_true : (b : Bool) → (b || true) ≡ true
      or_true true = refl
      or_true false = refl

      at_is : of.scalar.at ≡ one.at
      at_is = of.at_is

      size_is : of.scalar.size ≡ one.size
      size_is = of.size_is

      by_apart : ((of.scalar.at ≡ scalar.at) × (of.scalar.size ≡ scalar.size)) ⊎ ((of.scalar.at + of.scalar.size ≤ scalar.at) ⊎ (scalar.at + scalar.size ≤ of.scalar.at)) → (is_beside scalar.at scalar.size one || is_inside scalar.at scalar.size one) ≡ true
      by_apart (inl (same_at, same_size)) =
          ap (λ (b : Bool). is_beside scalar.at scalar.size one || b)
          (and_both (nat_le scalar.at one.at) (nat_le (one.at + one.size) (scalar.at + scalar.size)) (le-leb _ _ (let a = at_is in omega arith)) (le-leb _ _ (let a = at_is in let b = size_is in omega arith)))
          ∙ or_true (is_beside scalar.at scalar.size one)
      by_apart (inr (inl ends)) = ap (λ (b : Bool). (b || begins_behind (scalar.at + scalar.size) one) || is_inside scalar.at scalar.size one) (le-leb _ _ (let a = at_is in let b = size_is in omega arith))
      by_apart (inr (inr begins)) =
          ap (λ (b : Bool). (ends_before scalar.at one || b) || is_inside scalar.at scalar.size one) (le-leb _ _ (let a = at_is in omega arith))
          ∙ ap (λ (b : Bool). b || is_inside scalar.at scalar.size one) (or_true (ends_before scalar.at one))

  all_uncut : (edges : List HasValue) → ((one : HasValue) → Contains edges one → Contains stored.object.edges one) → cuts_none scalar.at scalar.size edges ≡ true
  all_uncut [] among = refl
  all_uncut (first ∷ rest) among =
      and_both (is_beside scalar.at scalar.size first || is_inside scalar.at scalar.size first) (cuts_none scalar.at scalar.size rest)
      (uncut first (among first (Contains-first first rest))) (all_uncut rest (λ one there. among one (Contains-later first one rest there)))

  pub cuts : cuts_none scalar.at scalar.size stored.object.edges ≡ true
  cuts = all_uncut stored.object.edges (λ one there. there)

  -- so edges come behind
  later : (variable : ℕ) (one : HasValue) → IsOfScalar flow count variable one → IsOfScalar flow (count + 1) variable one
  later variable one of = record {
    place = of.place;
    scalar = of.scalar;
    stands = of.stands;
    before = let less = of.before in omega arith;
    variable_is = of.variable_is;
    at_is = of.at_is;
    size_is = of.size_is;
  }

  pub scalars_next : AreOfScalars flow (count + 1) (with_initial scalar parts)
  scalars_next = subst (AreOfScalars flow (count + 1)) (sym (after_is flow parts are scalar right)) (record {
    edges = λ variable key object one named there among. by_key variable key object one named there among (nat_eq key stored.key) refl;
    live = all_replaced (λ at object. object.live) stored.key (written_object stored.object new value.value) parts.objects stored.live from.live;
  })
    where
      own : (variable : ℕ) (one : HasValue) → storage_of parts.variables variable ≡ Some stored.key → Contains stored.object.edges one ⊎ (new ≡ one) → IsOfScalar flow (count + 1) variable one
      own variable one named (inl there) = later variable one (from.edges variable stored.key stored.object one named stored.stands there)
      own variable one named (inr same) = record {
        place = count;
        scalar = scalar;
        stands = here;
        before = omega arith;
        variable_is = one_storage parts.variables scalar.variable variable stored.key are.graph.well_formed.storage_is_distinct stored.stored named;
        at_is = ap (λ (e : HasValue). e.at) same;
        size_is = ap (λ (e : HasValue). e.size) same;
      }

      around : (one : HasValue) → Contains (edges_around stored.object.edges scalar.at scalar.size (edge_for value.value new)) one → Contains stored.object.edges one ⊎ (new ≡ one)
      around one there = by_front (in_either (filter (ends_before scalar.at) stored.object.edges) (edge_for value.value new ++ filter (begins_behind (scalar.at + scalar.size)) stored.object.edges) one there)
        where
          by_back : Contains (edge_for value.value new) one ⊎ Contains (filter (begins_behind (scalar.at + scalar.size)) stored.object.edges) one → Contains stored.object.edges one ⊎ (new ≡ one)
          by_back (inl there) = inr (in_edge_for value.value new one there)
          by_back (inr there) = inl (in_filter (begins_behind (scalar.at + scalar.size)) stored.object.edges one there)

          by_front : Contains (filter (ends_before scalar.at) stored.object.edges) one ⊎ Contains (edge_for value.value new ++ filter (begins_behind (scalar.at + scalar.size)) stored.object.edges) one → Contains stored.object.edges one ⊎ (new ≡ one)
          by_front (inl there) = inl (in_filter (ends_before scalar.at) stored.object.edges one there)
          by_front (inr there) = by_back (in_either (edge_for value.value new) (filter (begins_behind (scalar.at + scalar.size)) stored.object.edges) one there)

      by_key : (variable key : ℕ) (object : Object) (one : HasValue) → storage_of parts.variables variable ≡ Some key → object_at behind_all.objects key ≡ Some object → Contains object.edges one → (b : Bool) → nat_eq key stored.key ≡ b → IsOfScalar flow (count + 1) variable one
      by_key variable key object one named there among true same =
          own variable one (named ∙ ap Some (eqb-true _ _ same))
          (around one (subst (λ (o : Object). Contains o.edges one)
          (same_Some _ _ (sym there ∙ ap (object_at behind_all.objects) (eqb-true _ _ same) ∙ replaced-here stored.key (written_object stored.object new value.value) parts.objects (IsSome-holds _ _ stored.stands))) among))
      by_key variable key object one named there among false differ =
          later variable one (from.edges variable key object one named
          (sym (replaced-other stored.key (written_object stored.object new value.value) parts.objects key (λ same. false≢true (sym differ ∙ eq-eqb key stored.key same))) ∙ there) among)

-- each block of a graph whose objects are live regions is there
pub all_there : (parts : Parts) (state : State) (given : Assignment) → list_all (λ (entry : KeyedObject). is_region entry.object.shape) parts.objects ≡ true → list_all (λ (entry : KeyedObject). entry.object.live) parts.objects ≡ true →
    Meets (maps_of parts) state given → AreThere parts state given
all_there parts state given regions live meets key place number some found = by_place place (ap (λ (ns : List ℕ). slice_get ns place) (sym region.blocks) ∙ found)
  where
    object : Holds (object_at parts.objects key)
    object = Holds-some (object_at parts.objects key) some

    region : IsRegionBlock object.item state given key
    region = region_block parts state given key object.item meets object.is
        (found-all (λ (entry : KeyedObject). entry.key) (λ entry. entry.object) (λ object. object.live) parts.objects key object.item live object.is)
        (region_is object.item.shape (found-all (λ (entry : KeyedObject). entry.key) (λ entry. entry.object) (λ object. is_region object.shape) parts.objects key object.item regions object.is))

    by_place : (place : ℕ) → slice_get (region.number ∷ []) place ≡ Some number → number < length state.memory
    by_place zero is = subst (λ (n : ℕ). n < length state.memory) (same_Some _ _ is) (slice_get_within state.memory region.number region.block region.there)
    by_place (suc place) is = absurd (none-some number is)

module _ (flow : Flow) (parts : Parts) (are : AreNamed flow parts) (scalar : Initial) (right : is_initial flow scalar ≡ true) (count : ℕ) (here : slice_get flow.initial count ≡ Some scalar) (apart : AllPairs AreApart flow.initial)
    (from : AreOfScalars flow count parts) (next : State) (is : IsState next) (statics : List Owned) (shown : (at : ℕ) → next.variables at ≡ block_of statics at) (given : Assignment) (meets : Meets (maps_of (with_initial scalar parts)) next given) where
  abbrev its : IsStored flow parts scalar.variable
  its = s flow parts are scalar right

  abbrev value_is : IsInitialValue parts scalar.size scalar.word
  value_is = v flow parts are scalar right

  abbrev new_edge : HasValue
  new_edge = edge flow parts are scalar right

  abbrev wider : Parts
  wider = more flow parts are scalar right

  abbrev whole : Parts
  whole = after flow parts are scalar right

  whole_meets : Meets (maps_of whole) next given
  whole_meets = subst (λ (p : Parts). Meets (maps_of p) next given) (after_is flow parts are scalar right) meets

  abbrev classes : List ℕ
  classes = replicate scalar.size (class_for value_is.value)

  many : length classes ≡ scalar.size
  many = length-replicate scalar.size (class_for value_is.value)

  abbrev form : IsWellFormed wider
  form = (more_graph flow parts are scalar right).well_formed

  abbrev space : scalar.at + scalar.size ≤ its.object.size
  space = room flow parts are scalar right

  uncuts : cuts_none scalar.at scalar.size its.object.edges ≡ true
  uncuts = cuts flow parts are scalar right count here apart from

  abbrev before : State
  before = state_before wider form next given its.key scalar.at scalar.size its.object (edge_for value_is.value new_edge) classes its.stands its.live its.region space many uncuts whole_meets

  abbrev rb : IsRegionBlock (with_range its.object scalar.at scalar.size (edge_for value_is.value new_edge) classes) next given its.key
  rb = behind wider form next given its.key scalar.at scalar.size its.object (edge_for value_is.value new_edge) classes its.stands its.live its.region space many uncuts whole_meets

  -- the graph before stands for the state before, with the same words
  meets_before : Meets (maps_of parts) before given
  meets_before =
      value_less (length parts.values) value_is.value (maps_of parts) (maps_of wider) (has_one_more value_is.value parts are.graph value_is.fit.held) before given
      (before_meets wider form next given its.key scalar.at scalar.size its.object (edge_for value_is.value new_edge) classes its.stands its.live its.region space many uncuts whole_meets)

  is_before : IsState before
  is_before = before_state wider form next given its.key scalar.at scalar.size its.object (edge_for value_is.value new_edge) classes its.stands its.live its.region space many uncuts whole_meets is
      (all_there whole next given
      (subst (λ (p : Parts). list_all (λ (entry : KeyedObject). is_region entry.object.shape) p.objects ≡ true) (after_is flow parts are scalar right) (named_after flow parts are scalar right).regions)
      (subst (λ (p : Parts). list_all (λ (entry : KeyedObject). entry.object.live) p.objects ≡ true) (after_is flow parts are scalar right) (scalars_next flow parts are scalar right count here apart from).live) whole_meets)

  word_is : given.word (length parts.values) ≡ initial_word statics scalar.word
  word_is =
      same_word flow parts are scalar.size (scalar_is flow parts are scalar right) scalar.word (word_right flow parts are scalar right) (length next.memory) (length before.memory) given.blocks
      (ends_of (maps_of whole).objects given.word) (ends_of (maps_of parts).objects given.word) (given.word (length parts.values)) (initial_word statics scalar.word)
      (whole_meets.values (length parts.values) value_is.value (value_new value_is.value parts are.graph))
      (has_word flow parts are scalar right before statics shown given meets_before scalar.word (word_right flow parts are scalar right))

  stands_again : take scalar.size (drop scalar.at rb.block.bytes) ≡ take scalar.size (word_bytes (given.word (length parts.values)))
  stands_again =
      word_stands its.object new_edge value_is.value (length next.memory) given.blocks (ends_of (maps_of whole).objects given.word) given.word rb.block (small flow parts are scalar right) space
      (plane_long wider form its.key its.object its.stands its.region its.live) (whole_meets.values (length parts.values) value_is.value (value_new value_is.value parts are.graph)) rb.node

  -- the scalar written in the memory before gives the memory behind
  memory_again : runs.with_initial statics scalar before.memory ≡ next.memory
  memory_again =
      ap (λ (o : Option ℕ). option_map_or (λ block. access.stored before.memory (To block (pos scalar.at)) scalar.size (initial_word statics scalar.word)) o before.memory)
      (block_is flow parts are scalar right before statics shown given meets_before scalar.variable its rb.number rb.blocks)
      ∙ ap (λ (w : Word). access.stored before.memory (To rb.number (pos scalar.at)) scalar.size w) (sym word_is)
      ∙ stored_is before.memory rb.number scalar.at scalar.size (given.word (length parts.values))
      (block_before wider form next given its.key scalar.at scalar.size its.object (edge_for value_is.value new_edge) classes its.stands its.live its.region space many uncuts whole_meets)
      (before_there wider form next given its.key scalar.at scalar.size its.object (edge_for value_is.value new_edge) classes its.stands its.live its.region space many uncuts whole_meets)
      ∙ ap (λ (bytes : List Byte). set before.memory rb.number
      (block_with (block_before wider form next given its.key scalar.at scalar.size its.object (edge_for value_is.value new_edge) classes its.stands its.live its.region space many uncuts whole_meets)
      (spliced (block_before wider form next given its.key scalar.at scalar.size its.object (edge_for value_is.value new_edge) classes its.stands its.live its.region space many uncuts whole_meets).bytes scalar.at bytes))) (sym stands_again)
      ∙ put_again wider form next given its.key scalar.at scalar.size its.object (edge_for value_is.value new_edge) classes its.stands its.live its.region space many uncuts whole_meets

  -- what was before
  pub initial_back : (memory : List Block) × IsState (with_memory memory next) × Meets (maps_of parts) (with_memory memory next) given × (runs.with_initial statics scalar memory ≡ next.memory)
  initial_back = (before.memory, is_before, meets_before, memory_again)
