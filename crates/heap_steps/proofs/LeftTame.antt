-- Where a scope is left in a state in which nothing leads anywhere but what edges and links hold, it is so behind.
use Rattle.std.proofs.Common.{◌≡◌, ◌≢◌, ℕ, Bool, true, false, not, List, [], ◌∷◌, map, length, set, nat_eq, Option, None, Some, ◌⊎◌, inl, inr, refl, sym, ◌∙◌, ap, subst, eqb-true}
use Rattle.std.specs.Prelude.{option_map, slice_get, ℤ, if◌then◌else◌}
use Rattle.std.proofs.lemmas.Bool.{false≢true, cases_eq}
use Rattle.std.proofs.lemmas.Option.{same_Some, none-some}
use Rattle.bytes_core.specs.declared.byte.Byte.{Byte}
use Rattle.bytes_core.specs.declared.byte.Byte.TheVariants.{Part}
use Rattle.bytes_core.specs.declared.block.Block.{Block}
use Rattle.bytes_core.specs.Release.{is_heap, without}
use Rattle.bytes_core.proofs.Written.{slice_get-set_same, slice_get-set_other}
use Rattle.graph.specs.declared.edges.HasValue.{HasValue}
use Rattle.graph.specs.declared.object.Links.{Links}
use Rattle.graph.specs.declared.object.Object.{Object}
use Rattle.graph.specs.declared.object.Shape.{Shape}
use Rattle.graph.specs.declared.object.Shape.TheVariants.{Region as RegionShape}
use Rattle.graph.specs.declared.parts.KeyedObject.{KeyedObject}
use Rattle.graph.specs.declared.parts.Parts.{Parts}
use Rattle.graph.specs.Choices.{is_free}
use Rattle.graph.specs.Maps.{object_at, storage_of}
use Rattle.graph.specs.Meaning.{Assignment}
use Rattle.graph.specs.Nodes.{own_node, node_in, node_of, links_in, link_edges}
use Rattle.graph.specs.State.{State}
use Rattle.graph.specs.Whole.{IsGraph}
use Rattle.graph.proofs.Found.{IsSome-holds}
use Rattle.changes.specs.Dying.{died}
use Rattle.changes.specs.Parts.{replaced}
use Rattle.changes.proofs.Died.{dead}
use Rattle.changes.proofs.Objects.{replaced-here, replaced-other}
use Rattle.heap_steps.specs.Leaving.{without_block, EndsOne, EndsScope, MayLeave, without_variable, with_dead, with_dead_at, without_one, left}
use Rattle.heap_steps.proofs.EndedOne.{region, not_heap, ended}
use Rattle.heap_steps.proofs.Leads.{IsNamed, InRegister, InPort, InEdge, IsTame}
use Rattle.heap_steps.proofs.Left.{IsStored, stored, middle_is, middle_graph, rest_may}
use Rattle.heap_steps.proofs.Raised.{raised_object, raised_entry, raised, raised_at}

-- the bytes of a block are as they were
record WasBlock (memory : List Block) (number : ℕ) (block : Block) : Type 0 where
  was : Block
  there : slice_get memory number ≡ Some was
  bytes : was.bytes ≡ block.bytes

was_same : (memory : List Block) (number : ℕ) (block : Block) → slice_get memory number ≡ Some block → WasBlock memory number block
was_same memory number block there = record { was = block; there = there; bytes = refl }

was_set : (memory : List Block) (number its : ℕ) (old block : Block) → slice_get memory its ≡ Some old → slice_get (set memory its (dead old)) number ≡ Some block → (number ≡ its) ⊎ (number ≡ its → ⊥) → WasBlock memory number block
was_set memory number its old block there stands (inl same) = record {
  was = old;
  there = ap (slice_get memory) same ∙ there;
  bytes = ap (λ (b : Block). b.bytes) (same_Some _ _ (sym (slice_get-set_same memory its old (dead old) there) ∙ ap (slice_get (set memory its (dead old))) (sym same) ∙ stands));
}
was_set memory number its old block there stands (inr differ) = was_same memory number block (sym (slice_get-set_other memory its number (dead old) differ) ∙ stands)

was_block : (variable : ℕ) (state next : State) → EndsOne variable state next → (number : ℕ) (block : Block) → slice_get next.memory number ≡ Some block → WasBlock state.memory number block
was_block variable state next ends number block stands = by_stored (state.variables variable) refl
  where
    by_found : (its : ℕ) → state.variables variable ≡ Some its → (found : Option Block) → slice_get state.memory its ≡ found → WasBlock state.memory number block
    by_found its is None none =
        was_same state.memory number block (ap (λ (m : List Block). slice_get m number) (sym (ends.memory ∙ ap (λ (o : Option ℕ). without_block o state.memory) is ∙ ap (without state.memory its) none)) ∙ stands)
    by_found its is (Some old) there =
        was_set state.memory number its old block there
        (ap (λ (m : List Block). slice_get m number) (sym (ends.memory ∙ ap (λ (o : Option ℕ). without_block o state.memory) is ∙ ap (without state.memory its) there)) ∙ stands) (cases_eq number its)

    by_stored : (found : Option ℕ) → state.variables variable ≡ found → WasBlock state.memory number block
    by_stored None none = was_same state.memory number block (ap (λ (m : List Block). slice_get m number) (sym (ends.memory ∙ ap (λ (o : Option ℕ). without_block o state.memory) none)) ∙ stands)
    by_stored (Some its) is = by_found its is (slice_get state.memory its) refl

module _ (variable key : ℕ) (object : Object) (parts : Parts) (graph : IsGraph parts) (named : storage_of parts.variables variable ≡ Some key) (stands : object_at parts.objects key ≡ Some object) where
  abbrev after : Parts
  after = ended variable key object parts graph named stands

  bare_shape : (died object).shape ≡ RegionShape
  bare_shape = region variable key object parts graph named stands

  bare_edges : (node_of (died object)).edges ≡ []
  bare_edges = ap (λ (s : Shape). (node_in s (own_node (died object))).edges) bare_shape

  -- an object behind is one from before, or the one that died
  pub was_object : (at : ℕ) (found : Object) → object_at after.objects at ≡ Some found → (object_at parts.objects at ≡ Some found) ⊎ (found ≡ died object)
  was_object at found is = by_key (cases_eq at key)
    where
      by_key : (at ≡ key) ⊎ (at ≡ key → ⊥) → (object_at parts.objects at ≡ Some found) ⊎ (found ≡ died object)
      by_key (inl same) = inr (same_Some _ _ (sym is ∙ ap (object_at after.objects) same ∙ replaced-here key (died object) parts.objects (IsSome-holds _ _ stands)))
      by_key (inr differ) = inl (sym (replaced-other key (died object) parts.objects at differ) ∙ is)

  tame_one : (state next : State) (given : Assignment) → EndsOne variable state next → IsTame parts state given → IsTame after next given
  tame_one state next given ends tame = record {
    free = λ at found node number place target k offset block is lives own there size byte link edge. by_free at found node number place target k offset block is lives own there size byte link edge (was_object at found is);
    words = λ value number offset names any leads. tame.words value number offset (was_named value names) any leads;
    empty = λ at found links is linked none. by_empty at found links linked none (was_object at found is);
  }
    where
      by_free : (at : ℕ) (found : Object) (node number place target k : ℕ) (offset : ℤ) (block : Block) → object_at after.objects at ≡ Some found → found.live ≡ true → slice_get (given.blocks at) node ≡ Some number → slice_get next.memory number ≡ Some block →
          length block.bytes ≡ found.size → slice_get block.bytes place ≡ Some (Part target offset k) → is_free (link_edges found.shape) place ≡ true → is_free (node_of found).edges place ≡ true →
          (object_at parts.objects at ≡ Some found) ⊎ (found ≡ died object) → ⊥
      by_free at found node number place target k offset block is lives own there size byte link edge (inl was) =
          let before = was_block variable state next ends number block there in
          tame.free at found node number place target k offset before.was was lives own before.there (ap length before.bytes ∙ size) (ap (λ (bs : List Byte). slice_get bs place) before.bytes ∙ byte) link edge
      by_free at found node number place target k offset block is lives own there size byte link edge (inr gone) = false≢true (sym (ap (λ (o : Object). o.live) gone) ∙ lives)

      was_named : (value : ℕ) → IsNamed after value → IsNamed parts value
      was_named value (InRegister register held) = InRegister register held
      was_named value (InPort place is) = InPort place is
      was_named value (InEdge at found place edge is has same) = by_object (was_object at found is)
        where
          by_object : (object_at parts.objects at ≡ Some found) ⊎ (found ≡ died object) → IsNamed parts value
          by_object (inl was) = InEdge at found place edge was has same
          by_object (inr gone) = absurd (none-some edge (sym (ap (λ (es : List HasValue). slice_get es place) (ap (λ (o : Object). (node_of o).edges) gone ∙ bare_edges)) ∙ has))

      by_empty : (at : ℕ) (found : Object) (links : Links) → links_in found.shape ≡ Some links → links.least ≡ 0 → (object_at parts.objects at ≡ Some found) ⊎ (found ≡ died object) → given.blocks at ≡ []
      by_empty at found links linked none (inl was) = tame.empty at found links was linked none
      by_empty at found links linked none (inr gone) = absurd (none-some links (sym (ap (λ (o : Object). links_in o.shape) gone ∙ ap links_in bare_shape) ∙ linked))

pub all_tame : (which : List ℕ) (parts : Parts) → IsGraph parts → MayLeave parts which → (state next : State) (given : Assignment) → EndsScope which state next → IsTame parts state given → IsTame (left which parts) next given
all_tame [] parts graph may state next given leaves tame = record {
  free = λ at found node number place target k offset block is lives own there size byte link edge.
      tame.free at found node number place target k offset block is lives own (ap (λ (m : List Block). slice_get m number) (sym leaves.memory) ∙ there) size byte link edge;
  words = tame.words;
  empty = tame.empty;
}
all_tame (variable ∷ rest) parts graph may state next given (middle_state, first, later) tame =
    let store = stored variable rest parts graph may in
    all_tame rest (without_one variable parts) (middle_graph variable rest parts graph may) (rest_may variable rest parts graph may) middle_state next given later
    (subst (λ (p : Parts). IsTame p middle_state given) (sym (middle_is variable rest parts graph may))
    (tame_one variable store.key store.object parts graph store.named store.stands state middle_state given first tame))

-- A live object behind stood before.

pub all_was : (which : List ℕ) (parts : Parts) → IsGraph parts → MayLeave parts which → (at : ℕ) (found : Object) → object_at (left which parts).objects at ≡ Some found → found.live ≡ true → object_at parts.objects at ≡ Some found
all_was [] parts graph may at found is lives = is
all_was (variable ∷ rest) parts graph may at found is lives =
    let store = stored variable rest parts graph may in
    let later = all_was rest (without_one variable parts) (middle_graph variable rest parts graph may) (rest_may variable rest parts graph may) at found is lives in
    by_object store (was_object variable store.key store.object parts graph store.named store.stands at found (ap (λ (p : Parts). object_at p.objects at) (sym (middle_is variable rest parts graph may)) ∙ later))
  where
    by_object : (store : IsStored variable parts) → (object_at parts.objects at ≡ Some found) ⊎ (found ≡ died store.object) → object_at parts.objects at ≡ Some found
    by_object store (inl was) = was
    by_object store (inr gone) = absurd (false≢true (sym (ap (λ (o : Object). o.live) gone) ∙ lives))

-- A segment of the heap stands for one node at least before and behind.

maps_same : {X : Type 0} (f g h k : X → X) → ((x : X) → f (g x) ≡ h (k x)) → (xs : List X) → map f (map g xs) ≡ map h (map k xs)
maps_same f g h k same [] = refl
maps_same {X} f g h k same (x ∷ xs) = ap (λ (y : X). y ∷ map f (map g xs)) (same x) ∙ ap (λ (ys : List X). h (k x) ∷ ys) (maps_same f g h k same xs)

module _ (key : ℕ) where
  entry_same : (its : ℕ) (new : Object) → its ≢ key → (entry : KeyedObject) → replaced its new (raised_entry key entry) ≡ raised_entry key (replaced its new entry)
  entry_same its new differ entry = by_raised (nat_eq entry.key key) refl
    where
      made : Object → KeyedObject
      made object = record { key = entry.key; object = object }

      by_raised : (b : Bool) → nat_eq entry.key key ≡ b →
          replaced its new (if b then record { key = entry.key; object = raised_object entry.object } else entry)
          ≡ (if b then record { key = entry.key; object = raised_object (if nat_eq entry.key its then new else entry.object) } else replaced its new entry)
      by_raised true is =
          ap (λ (b : Bool). made (if b then new else raised_object entry.object)) (miss (nat_eq entry.key its) refl)
          ∙ sym (ap (λ (b : Bool). made (raised_object (if b then new else entry.object))) (miss (nat_eq entry.key its) refl))
        where
          miss : (b : Bool) → nat_eq entry.key its ≡ b → nat_eq entry.key its ≡ false
          miss true same = absurd (differ (sym (eqb-true _ _ same) ∙ eqb-true _ _ is))
          miss false is' = is'
      by_raised false is = refl

  heap_one : (variable : ℕ) (rest : List ℕ) (parts : Parts) (graph : IsGraph parts) (may : MayLeave parts (variable ∷ rest)) (heap : Object) → object_at parts.objects key ≡ Some heap → is_heap heap.kind ≡ true → (stored variable rest parts graph may).key ≢ key
  heap_one variable rest parts graph may heap stands is same =
      let store = stored variable rest parts graph may in
      let object_is : store.object ≡ heap = same_Some _ _ (sym store.stands ∙ ap (object_at parts.objects) same ∙ stands) in
      false≢true (sym (ap not is) ∙ ap (λ (o : Object). not (is_heap o.kind)) (sym object_is) ∙ not_heap variable store.key store.object parts graph store.named store.stands)

  raised_one : (variable : ℕ) (rest : List ℕ) (parts : Parts) (graph : IsGraph parts) (may : MayLeave parts (variable ∷ rest)) (may' : MayLeave (raised key parts) (variable ∷ rest)) → (stored variable rest parts graph may).key ≢ key →
      without_one variable (raised key parts) ≡ raised key (without_one variable parts)
  raised_one variable rest parts graph may may' differ =
      ap (λ (o : Option ℕ). with_dead_at o (without_variable variable (raised key parts))) store.named
      ∙ ap (λ (o : Option Object). with_dead store.key o (without_variable variable (raised key parts))) object_there
      ∙ ap (λ (objects : List KeyedObject). record (without_variable variable parts) { objects = objects }) (maps_same (replaced store.key (died store.object)) (raised_entry key) (raised_entry key) (replaced store.key (died store.object)) (entry_same store.key (died store.object) differ) parts.objects)
      ∙ ap (raised key) (sym (middle_is variable rest parts graph may))
    where
      store : IsStored variable parts
      store = stored variable rest parts graph may

      object_there : object_at (raised key parts).objects store.key ≡ Some store.object
      object_there =
          raised_at key parts.objects store.key ∙ ap (option_map (λ (object : Object). if nat_eq store.key key then raised_object object else object)) store.stands
          ∙ ap (λ (b : Bool). Some (if b then raised_object store.object else store.object)) (miss (nat_eq store.key key) refl)
        where
          miss : (b : Bool) → nat_eq store.key key ≡ b → nat_eq store.key key ≡ false
          miss true same = absurd (differ (eqb-true _ _ same))
          miss false is = is

  -- the object stays
  heap_still : (variable : ℕ) (rest : List ℕ) (parts : Parts) (graph : IsGraph parts) (may : MayLeave parts (variable ∷ rest)) (heap : Object) → object_at parts.objects key ≡ Some heap → is_heap heap.kind ≡ true → object_at (without_one variable parts).objects key ≡ Some heap
  heap_still variable rest parts graph may heap stands is =
      let store = stored variable rest parts graph may in
      ap (λ (p : Parts). object_at p.objects key) (middle_is variable rest parts graph may)
      ∙ replaced-other store.key (died store.object) parts.objects key (λ same. heap_one variable rest parts graph may heap stands is (sym same)) ∙ stands

  pub raised_left : (which : List ℕ) (parts : Parts) → IsGraph parts → MayLeave parts which → (heap : Object) → object_at parts.objects key ≡ Some heap → is_heap heap.kind ≡ true → left which (raised key parts) ≡ raised key (left which parts)
  raised_left [] parts graph may heap stands is = refl
  raised_left (variable ∷ rest) parts graph may heap stands is =
      ap (left rest) (raised_one variable rest parts graph may (record { distinct = may.distinct; named = may.named }) (heap_one variable rest parts graph may heap stands is))
      ∙ raised_left rest (without_one variable parts) (middle_graph variable rest parts graph may) (rest_may variable rest parts graph may) heap (heap_still variable rest parts graph may heap stands is) is
