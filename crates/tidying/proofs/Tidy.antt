-- Each dead object that stays is named, so that a graph that is not large has not many nodes.
use Rattle.std.proofs.Common.{◌≡◌, ℕ, ◌+◌, ◌≤◌, Bool, true, false, ◌&&◌, ◌||◌, not, cond, List, length, nat_eq, Option, None, Some, refl, sym, ◌∙◌, ap, subst, eqb-true, nat_le, le-leb, ◌<◌, ◌*◌, arith, ◌⊎◌, inl, inr}
use Rattle.std.specs.Prelude.{slice_get, option_map}
use Rattle.std.specs.List.{list_any}
use Rattle.std.specs.Option.{option_map_or}
use Rattle.std.proofs.lemmas.Bool.{false≢true, cases_lt}
use Rattle.std.proofs.lemmas.Option.{none-some, same_Some, slice_get-map}
use Rattle.graph.specs.declared.edges.HasValue.{HasValue}
use Rattle.graph.specs.declared.object.Shape.{Shape}
use Rattle.graph.specs.declared.object.Shape.TheVariants.{Region, Segment}
use Rattle.graph.specs.declared.value.Value.{Value}
use Rattle.graph.specs.declared.value.Value.TheVariants.{Const, Number, Any, Address}
use Rattle.graph.specs.declared.parts.Held.{Held}
use Rattle.graph.specs.declared.parts.KeyedObject.{KeyedObject}
use Rattle.graph.specs.declared.parts.KeyedValue.{KeyedValue}
use Rattle.graph.specs.declared.parts.Parts.{Parts}
use Rattle.graph.specs.Large.{live_nodes_of, live_nodes, leads_to, holds_address, is_addressed, addressed_dead, is_large}
use Rattle.graph.specs.Maps.{object_at, value_at}
use Rattle.graph.specs.Nodes.{is_region, node_of, back_edges, link_edges, links_in}
use Rattle.graph.specs.Renaming.{renamed, renamed_object, object_place, value_place}
use Rattle.graph.specs.Sizes.{is_constant}
use Rattle.graph.specs.Unheld.{with_only}
use Rattle.graph.specs.WellFormed.{passes_at, says_nothing, back_fits, is_null, nodes_of, nodes}
use Rattle.graph.specs.Whole.{IsGraph}
use Rattle.graph.proofs.Closed.{passes-at}
use Rattle.graph.proofs.Found.{IsSome-holds}
use Rattle.graph.proofs.Tests.{and_left, and_right}
use Rattle.tidying.specs.Held.{is_linked, is_stored, is_held, tells_of, stays, object_stays}
use Rattle.tidying.specs.Tidied.{tidied}
use Rattle.tidying.specs.Tidy.{IsTidy}
use Rattle.tidying.proofs.Fits.{tidied_is}
use Rattle.tidying.proofs.Lists.{any_place, stayed, sum_split}
use Rattle.tidying.proofs.Sizes.{region_nodes, value_in, in_kept, dead_bare, addressed_after}
use Rattle.tidying.proofs.Tests.{or_left, or_right, or_split, any_at}

any_implies : {X : Type 0} (test other : X → Bool) (xs : List X) → ((place : ℕ) (x : X) → slice_get xs place ≡ Some x → test x ≡ true → other x ≡ true) → list_any test xs ≡ true → list_any other xs ≡ true
any_implies test other xs implies any =
    let found = any_place test xs any in
    any_at other xs found.place found.item found.is (implies found.place found.item found.is found.passes)

-- an address is no constant, and not null
address_no_constant : (key : ℕ) (value : Value) → leads_to key value ≡ true → is_constant value ≡ true → ⊥
address_no_constant key (Const number size) leads constant = false≢true leads
address_no_constant key (Number size) leads constant = false≢true leads
address_no_constant key Any leads constant = false≢true leads
address_no_constant key (Address object offset target) leads constant = false≢true constant

address_not_null : (key : ℕ) (found : Option Value) → option_map_or (leads_to key) found false ≡ true → option_map_or is_null found false ≡ true → ⊥
address_not_null key None leads null = false≢true leads
address_not_null key (Some (Const number size)) leads null = false≢true leads
address_not_null key (Some (Number size)) leads null = false≢true leads
address_not_null key (Some Any) leads null = false≢true leads
address_not_null key (Some (Address object offset target)) leads null = false≢true null

module _ (parts : Parts) (graph : IsGraph parts) where
  -- what holds a value that is an address of an object holds an address of it
  module _ (key value : ℕ) (leads : passes_at parts (leads_to key) value ≡ true) where
    moved : (other : ℕ) → nat_eq other value ≡ true → passes_at parts (leads_to key) other ≡ true
    moved other same = ap (passes_at parts (leads_to key)) (eqb-true other value same) ∙ leads

    linked : (shape : Shape) (size : ℕ) → back_fits parts size (links_in shape) ≡ true → is_linked value shape ≡ true → list_any (λ (link : HasValue). passes_at parts (leads_to key) link.value) (link_edges shape) ≡ true
    linked Region size fits is = absurd (false≢true is)
    linked (Segment twofold head next prev back least next_value prev_value node) size fits is = by_split twofold fits (or_split (nat_eq next_value value) (nat_eq prev_value value) is)
      where
        by_split : (both : Bool) → back_fits parts size (links_in (Segment both head next prev back least next_value prev_value node)) ≡ true → (nat_eq next_value value ≡ true) ⊎ (nat_eq prev_value value ≡ true) →
            (passes_at parts (leads_to key) next_value || list_any (λ (link : HasValue). passes_at parts (leads_to key) link.value) (back_edges both prev prev_value)) ≡ true
        by_split both fits (inl same) = or_left (passes_at parts (leads_to key) next_value) (list_any (λ (link : HasValue). passes_at parts (leads_to key) link.value) (back_edges both prev prev_value)) (moved next_value same)
        by_split true fits (inr same) =
            or_right (passes_at parts (leads_to key) next_value) (passes_at parts (leads_to key) prev_value || false) (or_left (passes_at parts (leads_to key) prev_value) false (moved prev_value same))
        by_split false fits (inr same) =
            absurd (address_not_null key (value_at parts.values prev_value) (moved prev_value same)
            (and_right (nat_eq back 0) (passes_at parts is_null prev_value) (and_right (nat_eq prev 0) (nat_eq back 0 && passes_at parts is_null prev_value) fits)))

    stored : (place : ℕ) (entry : KeyedObject) → slice_get parts.objects place ≡ Some entry → is_stored value entry.object ≡ true → holds_address parts key entry.object ≡ true
    stored place entry is holds = by_split (or_split (list_any (λ (edge : HasValue). nat_eq edge.value value) (node_of entry.object).edges) (is_linked value entry.object.shape) holds)
      where
        by_split : (list_any (λ (edge : HasValue). nat_eq edge.value value) (node_of entry.object).edges ≡ true) ⊎ (is_linked value entry.object.shape ≡ true) → holds_address parts key entry.object ≡ true
        by_split (inl edges) =
            or_left (list_any (λ (edge : HasValue). passes_at parts (leads_to key) edge.value) (node_of entry.object).edges) (list_any (λ (link : HasValue). passes_at parts (leads_to key) link.value) (link_edges entry.object.shape))
            (any_implies (λ (edge : HasValue). nat_eq edge.value value) (λ (edge : HasValue). passes_at parts (leads_to key) edge.value) (node_of entry.object).edges (λ _ edge _ same. moved edge.value same) edges)
        by_split (inr links) =
            or_right (list_any (λ (edge : HasValue). passes_at parts (leads_to key) edge.value) (node_of entry.object).edges) (list_any (λ (link : HasValue). passes_at parts (leads_to key) link.value) (link_edges entry.object.shape))
            (linked entry.object.shape entry.object.size
            (passes-at (λ (entry : KeyedObject). back_fits parts entry.object.size (links_in entry.object.shape)) parts.objects place entry is graph.well_formed.links_back_fit) links)

    held_addresses : is_held parts value ≡ true → is_addressed parts key ≡ true
    held_addresses held = by_split (or_split (list_any (λ (entry : KeyedObject). is_stored value entry.object) parts.objects) (list_any (λ (held : Held). nat_eq held.value value) parts.registers || list_any (λ port. nat_eq port value) parts.ports) held)
      where
        by_rest : (list_any (λ (held : Held). nat_eq held.value value) parts.registers ≡ true) ⊎ (list_any (λ port. nat_eq port value) parts.ports ≡ true) →
            (list_any (λ (held : Held). passes_at parts (leads_to key) held.value) parts.registers || list_any (passes_at parts (leads_to key)) parts.ports) ≡ true
        by_rest (inl registers) =
            or_left (list_any (λ (held : Held). passes_at parts (leads_to key) held.value) parts.registers) (list_any (passes_at parts (leads_to key)) parts.ports)
            (any_implies (λ (held : Held). nat_eq held.value value) (λ (held : Held). passes_at parts (leads_to key) held.value) parts.registers (λ _ held _ same. moved held.value same) registers)
        by_rest (inr ports) =
            or_right (list_any (λ (held : Held). passes_at parts (leads_to key) held.value) parts.registers) (list_any (passes_at parts (leads_to key)) parts.ports)
            (any_implies (λ port. nat_eq port value) (passes_at parts (leads_to key)) parts.ports (λ _ port _ same. moved port same) ports)

        by_split : (list_any (λ (entry : KeyedObject). is_stored value entry.object) parts.objects ≡ true)
            ⊎ ((list_any (λ (held : Held). nat_eq held.value value) parts.registers || list_any (λ port. nat_eq port value) parts.ports) ≡ true) → is_addressed parts key ≡ true
        by_split (inl objects) =
            or_left (list_any (λ (entry : KeyedObject). holds_address parts key entry.object) parts.objects)
            (list_any (λ (held : Held). passes_at parts (leads_to key) held.value) parts.registers || list_any (passes_at parts (leads_to key)) parts.ports)
            (any_implies (λ (entry : KeyedObject). is_stored value entry.object) (λ (entry : KeyedObject). holds_address parts key entry.object) parts.objects stored objects)
        by_split (inr rest) =
            or_right (list_any (λ (entry : KeyedObject). holds_address parts key entry.object) parts.objects)
            (list_any (λ (held : Held). passes_at parts (leads_to key) held.value) parts.registers || list_any (passes_at parts (leads_to key)) parts.ports)
            (by_rest (or_split (list_any (λ (held : Held). nat_eq held.value value) parts.registers) (list_any (λ port. nat_eq port value) parts.ports) rest))

  -- a dead object that stays is named
  dead_named : (place : ℕ) (entry : KeyedObject) → slice_get parts.objects place ≡ Some entry → entry.object.live ≡ false → object_stays parts entry.key ≡ true → is_addressed parts entry.key ≡ true
  dead_named place entry is dead stay =
      by_split (or_split (list_any (λ (other : KeyedObject). other.object.live && nat_eq other.key entry.key) parts.objects) (list_any (λ (other : KeyedValue). stays parts other.key && leads_to entry.key other.value) parts.values) stay)
    where
      same_entry : (at : ℕ) (other : KeyedObject) → slice_get parts.objects at ≡ Some other → other.key ≡ entry.key → other ≡ entry
      same_entry at other there same =
          same_Some other entry (sym there ∙ ap (slice_get parts.objects) (sym (graph.keys.objects at other there) ∙ same ∙ graph.keys.objects place entry is) ∙ is)

      by_value : (value : ℕ) → passes_at parts (leads_to entry.key) value ≡ true → (passes_at parts is_constant value ≡ true → ⊥) →
          (is_held parts value ≡ true) ⊎ ((passes_at parts is_constant value && list_any (tells_of parts value) parts.unequal) ≡ true) → is_addressed parts entry.key ≡ true
      by_value value leads never (inl held) = held_addresses entry.key value leads held
      by_value value leads never (inr told) = absurd (never (and_left (passes_at parts is_constant value) (list_any (tells_of parts value) parts.unequal) told))

      by_split : (list_any (λ (other : KeyedObject). other.object.live && nat_eq other.key entry.key) parts.objects ≡ true) ⊎ (list_any (λ (other : KeyedValue). stays parts other.key && leads_to entry.key other.value) parts.values ≡ true) →
          is_addressed parts entry.key ≡ true
      by_split (inl lives) =
          let found = any_place (λ (other : KeyedObject). other.object.live && nat_eq other.key entry.key) parts.objects lives in
          let same = same_entry found.place found.item found.is (eqb-true found.item.key entry.key (and_right found.item.object.live (nat_eq found.item.key entry.key) found.passes)) in
          absurd (false≢true (sym dead ∙ sym (ap (λ (e : KeyedObject). e.object.live) same) ∙ and_left found.item.object.live (nat_eq found.item.key entry.key) found.passes))
      by_split (inr names) =
          let found = any_place (λ (other : KeyedValue). stays parts other.key && leads_to entry.key other.value) parts.values names in
          let leads = and_right (stays parts found.item.key) (leads_to entry.key found.item.value) found.passes in
          let stands = value_in parts graph found.place found.item found.is in
          by_value found.item.key (ap (λ (o : Option Value). option_map_or (leads_to entry.key) o false) stands ∙ leads)
          (λ constant. address_no_constant entry.key found.item.value leads (sym (ap (λ (o : Option Value). option_map_or is_constant o false) stands) ∙ constant))
          (or_split (is_held parts found.item.key) (passes_at parts is_constant found.item.key && list_any (tells_of parts found.item.key) parts.unequal)
          (and_left (stays parts found.item.key) (leads_to entry.key found.item.value) found.passes))

  abbrev kept : Parts
  kept = with_only (stays parts) (object_stays parts) parts

  abbrev sent : KeyedObject → KeyedObject
  sent entry = record { key = object_place kept entry.key; object = renamed_object (value_place kept) entry.object }

  tidy_after : IsTidy (renamed (object_place kept) (value_place kept) kept)
  tidy_after place entry is dead = by_found (slice_get kept.objects place) refl (sym (slice_get-map sent kept.objects place) ∙ is)
    where
      by_found : (found : Option KeyedObject) → slice_get kept.objects place ≡ found → option_map sent found ≡ Some entry → is_addressed (renamed (object_place kept) (value_place kept) kept) entry.key ≡ true
      by_found None there same = absurd (none-some entry same)
      by_found (Some old) there same =
          let was = stayed (λ (entry : KeyedObject). object_stays parts entry.key) parts.objects place old there in
          let become : sent old ≡ entry = same_Some (sent old) entry same in
          ap (λ (e : KeyedObject). is_addressed (renamed (object_place kept) (value_place kept) kept) e.key) (sym become)
          ∙ addressed_after parts graph old.key (IsSome-holds (object_at kept.objects old.key) old.object (in_kept parts graph place old there))
          ∙ dead_named was.place old was.is (ap (λ (e : KeyedObject). e.object.live) become ∙ dead) was.stays

  pub tidied_tidy : IsTidy (tidied parts)
  tidied_tidy = subst IsTidy (sym (tidied_is parts graph)) tidy_after

  -- then no more dead objects are there than are named
  pub tidy_nodes : IsTidy parts → nodes parts ≤ live_nodes parts + addressed_dead parts
  tidy_nodes tidy =
      sum_split (λ (entry : KeyedObject). nodes_of entry.object.shape) (λ (entry : KeyedObject). live_nodes_of entry.object) (λ (entry : KeyedObject). not entry.object.live && is_addressed parts entry.key) parts.objects
      (λ place entry is. by_life place entry is entry.object.live refl (is_addressed parts entry.key) (λ dead. tidy place entry is dead))
    where
      by_life : (place : ℕ) (entry : KeyedObject) → slice_get parts.objects place ≡ Some entry → (live : Bool) → entry.object.live ≡ live → (named : Bool) → (entry.object.live ≡ false → named ≡ true) →
          nodes_of entry.object.shape ≤ cond live (nodes_of entry.object.shape) 0 + cond (not live && named) 1 0
      by_life place entry is true lives named tells = omega arith
      by_life place entry is false dead true tells =
          let one = region_nodes entry.object.shape (and_left (is_region entry.object.shape) (says_nothing entry.object.edges entry.object.plane) (dead_bare parts graph place entry is dead)) in
          omega (arith, one)
      by_life place entry is false dead false tells = absurd (false≢true (tells dead))

not_or : (a b : Bool) → (a || b) ≡ false → (a ≡ false) × (b ≡ false)
not_or true b is = absurd (false≢true (sym is))
not_or false b is = (refl, is)

below : (bound count : ℕ) → nat_le bound count ≡ false → count < bound
below bound count is = by_case (cases_lt count bound)
  where
    by_case : (count < bound) ⊎ (bound ≤ count) → count < bound
    by_case (inl less) = less
    by_case (inr more) = absurd (false≢true (sym is ∙ le-leb bound count more))

pub few_nodes : (parts : Parts) (bound : ℕ) → IsGraph parts → IsTidy parts → is_large bound parts ≡ false → (nodes parts < 2 * bound) × (length parts.unequal < bound)
few_nodes parts bound graph tidy small =
    let one = not_or (nat_le bound (live_nodes parts)) (nat_le bound (addressed_dead parts) || nat_le bound (length parts.unequal)) small in
    let two = not_or (nat_le bound (addressed_dead parts)) (nat_le bound (length parts.unequal)) one.1 in
    let live = below bound (live_nodes parts) one.0 in
    let dead = below bound (addressed_dead parts) two.0 in
    let all = tidy_nodes parts graph tidy in
    (omega (arith, live, dead, all), below bound (length parts.unequal) two.1)
