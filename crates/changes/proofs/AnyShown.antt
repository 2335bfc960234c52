-- Each fault that an access through any word lists is met in some state, where with an object a region lives and the graph may have one object more.
use Rattle.std.proofs.Common.{◌≡◌, ℕ, zero, suc, ◌+◌, ◌<◌, Bool, true, false, ◌||◌, ◌&&◌, List, [], ◌∷◌, length, nat_eq, pos, negsuc, Option, None, Some, refl, sym, ◌∙◌, ap, subst, eqb-true, eq-eqb, arith}
use Rattle.std.specs.Prelude.{slice_get, Contains, if◌then◌else◌}
use Rattle.std.specs.List.{list_any}
use Rattle.std.proofs.lemmas.Bool.{false≢true}
use Rattle.std.proofs.lemmas.Option.{same_Some}
use Rattle.bytes_core.specs.declared.block.Block.{Block}
use Rattle.bytes_core.specs.declared.byte.Byte.{Byte}
use Rattle.bytes_core.specs.declared.byte.Byte.TheVariants.{Num}
use Rattle.bytes_core.specs.declared.word.Word.{Word}
use Rattle.bytes_core.specs.declared.word.Word.TheVariants.{Plain, To}
use Rattle.bytes_core.specs.Access.{is_within, block_fault, access_fault}
use Rattle.bytes_core.specs.Fault.{null_pointer_dereference, access_outside_object, access_to_dead_object, access_through_invalid_address}
use Rattle.graph.specs.declared.object.Object.{Object}
use Rattle.graph.specs.declared.object.Shape.{Shape}
use Rattle.graph.specs.declared.object.Shape.TheVariants.{Region as RegionShape, Segment}
use Rattle.graph.specs.declared.parts.KeyedObject.{KeyedObject}
use Rattle.graph.specs.declared.parts.Parts.{Parts}
use Rattle.graph.specs.declared.value.Value.TheVariants.{Any}
use Rattle.graph.specs.Choices.{IsChoice, IsMadeWith}
use Rattle.graph.specs.Maps.{object_at, value_at}
use Rattle.graph.specs.Meaning.{IsGone, HasShape, HasBlocksAs, own_offset}
use Rattle.graph.specs.Nodes.{is_region}
use Rattle.graph.specs.State.{State, IsState, IsWordBelow}
use Rattle.graph.specs.Whole.{IsGraph}
use Rattle.graph.proofs.Found.{IsSome-holds}
use Rattle.graph.proofs.OwnPlaces.{graph_numbered}
use Rattle.graph.proofs.Tests.{and_left, and_right}
use Rattle.graph.proofs.Witness.{chosen_state}
use Rattle.changes.specs.AnyWords.{HasPlaceForOne}
use Rattle.changes.specs.Reaching.{has_live_object}
use Rattle.changes.proofs.Appended.{found_within}
use Rattle.changes.proofs.DeadForm.{dead_one, with_dead_one, object_new, graph_dead_more, dead_less}
use Rattle.changes.proofs.NodeBack.{zero_has}
use Rattle.changes.proofs.Shown.{IsShown}

abbrev zero_byte : ℕ → ℕ → Byte
zero_byte key place = Num 0

-- a state in which this word stands for each value that may be any
by_word : (parts : Parts) (at count kind : ℕ) (word : Word) → IsGraph parts → value_at parts.values at ≡ Some Any → IsWordBelow (length parts.objects) word →
    ((state : State) → IsMadeWith parts (λ key. word) zero_byte state → access_fault state.memory word count ≡ Some kind) → IsShown parts at count kind
by_word parts at count kind word graph any below fault = record {
  state = found.0;
  is = found.1;
  given = found.2.given;
  meets = found.2.meets;
  fault = ap (λ (w : Word). access_fault found.0.memory w count) (found.2.words at any) ∙ fault found.0 found.2;
}
  where
    choice : IsChoice parts (λ key. word) zero_byte
    choice = record {
      words = λ key is. below;
      bytes = λ key object place class stands found. zero_has class;
      names = λ key place. tt;
      small = λ key place. omega arith;
    }

    found : (state : State) × IsState state × IsMadeWith parts (λ key. word) zero_byte state
    found = subst (λ (g : Parts). (state : State) × IsState state × IsMadeWith g (λ key. word) zero_byte state) (graph_numbered parts graph)
        (chosen_state parts (λ key. word) zero_byte graph.ascending graph.well_formed graph.within_limits (subst (λ (g : Parts). IsChoice g (λ key. word) zero_byte) (sym (graph_numbered parts graph)) choice))

region_only : (shape : Shape) → is_region shape ≡ true → shape ≡ RegionShape
region_only RegionShape is = refl
region_only (Segment twofold head next prev back least next_value prev_value node) is = absurd (false≢true is)

-- a live region
record IsAlive (parts : Parts) : Type 0 where
  key : ℕ
  object : Object
  stands : object_at parts.objects key ≡ Some object
  live : object.live ≡ true
  region : is_region object.shape ≡ true

abbrev lives : KeyedObject → Bool
lives entry = entry.object.live && is_region entry.object.shape

alive : (parts : Parts) → IsGraph parts → list_any lives parts.objects ≡ true → IsAlive parts
alive parts graph some =
    let found = go 0 parts.objects (λ place entry stands. graph.keys.objects place entry stands ∙ (let e : place ≡ 0 + place = omega arith in e)) some in
    record { key = 0 + found.0; object = found.1; stands = found.2; live = and_left found.1.live (is_region found.1.shape) found.3; region = and_right found.1.live (is_region found.1.shape) found.3 }
  where
    go : (from : ℕ) (entries : List KeyedObject) → ((place : ℕ) (entry : KeyedObject) → slice_get entries place ≡ Some entry → entry.key ≡ from + place) → list_any lives entries ≡ true →
        (place : ℕ) × (object : Object) × (object_at entries (from + place) ≡ Some object) × ((object.live && is_region object.shape) ≡ true)
    go from [] in_place some = absurd (false≢true some)
    go from (first ∷ rest) in_place some = by_first (lives first) refl some
        (λ later. go (suc from) rest (λ place entry stands. in_place (suc place) entry stands ∙ (let e : from + suc place ≡ suc from + place = omega arith in e)) later)
      where
        miss : (b : Bool) (place : ℕ) → nat_eq first.key (from + suc place) ≡ b → nat_eq first.key (from + suc place) ≡ false
        miss false place is = is
        miss true place is = let k = eqb-true _ _ is in let p = in_place 0 first refl in absurd (omega arith)

        by_first : (b : Bool) → lives first ≡ b → (b || list_any lives rest) ≡ true →
            (list_any lives rest ≡ true → (place : ℕ) × (object : Object) × (object_at rest (suc from + place) ≡ Some object) × ((object.live && is_region object.shape) ≡ true)) →
            (place : ℕ) × (object : Object) × (object_at (first ∷ rest) (from + place) ≡ Some object) × ((object.live && is_region object.shape) ≡ true)
        by_first true live some later = (0, first.object, ap (λ (b : Bool). if b then Some first.object else object_at rest (from + 0)) (eq-eqb first.key (from + 0) (in_place 0 first refl)), live)
        by_first false dead some later =
            let found = later some in (
              suc found.0,
              found.1,
              ap (λ (b : Bool). if b then Some first.object else object_at rest (from + suc found.0)) (miss (nat_eq first.key (from + suc found.0)) found.0 refl)
                  ∙ ap (object_at rest) (let e : from + suc found.0 ≡ suc from + found.0 = omega arith in e) ∙ found.2,
              found.3,
            )

module _ (parts : Parts) (graph : IsGraph parts) (at count : ℕ) (any : value_at parts.values at ≡ Some Any) where
  null_shown : IsShown parts at count null_pointer_dereference
  null_shown = by_word parts at count null_pointer_dereference (Plain 0) graph any (record { small = omega arith; named = tt }) (λ state made. refl)

  number_shown : IsShown parts at count access_through_invalid_address
  number_shown = by_word parts at count access_through_invalid_address (Plain 4096) graph any (record { small = omega arith; named = tt }) (λ state made. refl)

  below_count : (key : ℕ) (object : Object) → object_at parts.objects key ≡ Some object → key < length parts.objects
  below_count key object stands = found_within (λ (entry : KeyedObject). entry.key) (λ entry. entry.object) parts.objects graph.keys.objects key (IsSome-holds _ _ stands)

  outside_shown : IsAlive parts → IsShown parts at count access_outside_object
  outside_shown one =
      by_word parts at count access_outside_object (To one.key (negsuc 0)) graph any (record { small = tt; named = below_count one.key one.object one.stands }) (λ state made. fault state made)
    where
      at_block : (found : Option Block) (block : Block) → found ≡ Some block → block.live ≡ true → block_fault found (negsuc 0) count ≡ Some access_outside_object
      at_block found block is live =
          ap (λ (o : Option Block). block_fault o (negsuc 0) count) is ∙ ap (λ (b : Bool). if b then (if is_within (length block.bytes) (negsuc 0) count then None else Some access_outside_object) else Some access_to_dead_object) live

      fault : (state : State) → IsMadeWith parts (λ key. To one.key (negsuc 0)) zero_byte state → access_fault state.memory (To one.key (negsuc 0)) count ≡ Some access_outside_object
      fault state made =
          let has = subst (λ (b : Bool). HasBlocksAs b state.memory one.object made.given.word (λ value. own_offset (value_at parts.values value)) (made.given.blocks one.key)) one.live (made.meets.objects one.key one.object one.stands) in
          let is = subst (λ (shape : Shape). HasShape shape state.memory one.object made.given.word (λ value. own_offset (value_at parts.values value)) (made.given.blocks one.key)) (region_only one.object.shape one.region) has in
          let same : is.0 ≡ one.key = same_Some _ _ (ap (λ (ns : List ℕ). slice_get ns 0) (sym is.1 ∙ made.blocks one.key one.object one.stands one.region)) in
          at_block (slice_get state.memory one.key) is.2.block (ap (slice_get state.memory) (sym same) ∙ is.2.there) is.2.node.live

-- a dead object more has a block that any word may lead to
dead_shown : (parts : Parts) (graph : IsGraph parts) (at count : ℕ) → value_at parts.values at ≡ Some Any → HasPlaceForOne parts → IsShown parts at count access_to_dead_object
dead_shown parts graph at count any place = record { state = shown.state; is = shown.is; given = shown.given; meets = dead_less parts graph shown.state shown.given shown.meets; fault = shown.fault }
  where
    key : ℕ
    key = length parts.objects

    more : IsGraph (with_dead_one parts graph)
    more = graph_dead_more parts graph place.room

    at_block : (found : Option Block) (kind : _) → IsGone kind found → block_fault found (pos 0) count ≡ Some access_to_dead_object
    at_block None kind is = refl
    at_block (Some block) kind (dead, same) = ap (λ (b : Bool). if b then (if is_within (length block.bytes) (pos 0) count then None else Some access_outside_object) else Some access_to_dead_object) dead

    shown : IsShown (with_dead_one parts graph) at count access_to_dead_object
    shown = by_word (with_dead_one parts graph) at count access_to_dead_object (To key (pos 0)) more any (record { small = tt; named = below_count (with_dead_one parts graph) more at count any key dead_one (object_new parts graph) })
        (λ state made.
        let has = made.meets.objects key dead_one (object_new parts graph) in
        let same : has.0 ≡ key = same_Some _ _ (ap (λ (ns : List ℕ). slice_get ns 0) (sym has.1 ∙ made.blocks key dead_one (object_new parts graph) refl)) in
        at_block (slice_get state.memory key) dead_one.kind (subst (λ (n : ℕ). IsGone dead_one.kind (slice_get state.memory n)) same has.2))

-- the kinds that are listed: those for a graph with a live object, and for one without
pub any_shown : (parts : Parts) (graph : IsGraph parts) (at count kind : ℕ) → value_at parts.values at ≡ Some Any → HasPlaceForOne parts → (live : Bool) → has_live_object parts ≡ live →
    Contains (if live then null_pointer_dereference ∷ access_outside_object ∷ access_to_dead_object ∷ access_through_invalid_address ∷ [] else null_pointer_dereference ∷ access_to_dead_object ∷ access_through_invalid_address ∷ []) kind → IsShown parts at count kind
any_shown parts graph at count kind any place true live (zero, below, is) = subst (IsShown parts at count) is (null_shown parts graph at count any)
any_shown parts graph at count kind any place true live (suc zero, below, is) = subst (IsShown parts at count) is (outside_shown parts graph at count any (alive parts graph (place.region live)))
any_shown parts graph at count kind any place true live (suc (suc zero), below, is) = subst (IsShown parts at count) is (dead_shown parts graph at count any place)
any_shown parts graph at count kind any place true live (suc (suc (suc zero)), below, is) = subst (IsShown parts at count) is (number_shown parts graph at count any)
any_shown parts graph at count kind any place true live (suc (suc (suc (suc n))), below, is) = absurd (omega arith)
any_shown parts graph at count kind any place false live (zero, below, is) = subst (IsShown parts at count) is (null_shown parts graph at count any)
any_shown parts graph at count kind any place false live (suc zero, below, is) = subst (IsShown parts at count) is (dead_shown parts graph at count any place)
any_shown parts graph at count kind any place false live (suc (suc zero), below, is) = subst (IsShown parts at count) is (number_shown parts graph at count any)
any_shown parts graph at count kind any place false live (suc (suc (suc n)), below, is) = absurd (omega arith)
