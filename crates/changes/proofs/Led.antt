-- What calls need where an access leads to bytes of an object, and where registers hold something.
use Rattle.std.proofs.Common.{◌≡◌, ℕ, Bool, true, false, ℤ, pos, negsuc, Option, None, Some, refl, sym, ◌∙◌, ap, le-leb, leb-true, arith}
use Rattle.std.specs.Prelude.{IfOk, Result, Ok, Err, if◌then◌else◌}
use Rattle.std.specs.List.{list_all}
use Rattle.std.proofs.lemmas.Bool.{false≢true}
use Rattle.std.proofs.lemmas.Option.{same_Some, none-some}
use Rattle.bytes_core.specs.Fault.{access_outside_object, access_to_dead_object}
use Rattle.bytes_core.specs.Access.{is_within}
use Rattle.graph.specs.declared.object.Object.{Object}
use Rattle.graph.specs.declared.parts.Parts.{Parts}
use Rattle.graph.specs.declared.value.Value.{Value}
use Rattle.graph.specs.declared.value.Value.TheVariants.{Const, Number, Any, Address}
use Rattle.graph.specs.Maps.{object_at, value_at, held_by}
use Rattle.graph.specs.WellFormed.{lies_in}
use Rattle.graph.specs.Whole.{IsGraph}
use Rattle.graph.proofs.Tests.{list_all-implies}
use Rattle.changes.specs.declared.reach.Reach.{Reach}
use Rattle.changes.specs.declared.reach.Reach.TheVariants as to
use Rattle.changes.specs.Places.{IsRoom}
use Rattle.changes.specs.Reaching.{object_reach, value_reach, reach_of, is_address_held}
use Rattle.changes.proofs.Held.{held_value, address_at, address_held}
use Rattle.changes.proofs.RangeForm.{fit_now}
use Rattle.changes.proofs.Reached.{room_at}
use Rattle.changes.specs.Following.{LeadsToRegion}

pub if_ok : {T E : Type 0} {P Q : T → Type 0} (result : Result T E) → ((value : T) → P value → Q value) → IfOk result P → IfOk result Q
if_ok (Ok value) follows holds = follows value holds
if_ok (Err error) follows holds = tt

pub edges_small : (parts : Parts) (key from count : ℕ) (object : Object) → IsGraph parts → IsRoom parts key from count → object_at parts.objects key ≡ Some object → list_all (lies_in 65536) object.edges ≡ true
edges_small parts key from count object graph room stands =
    let same = same_Some _ _ (sym room.stands ∙ stands) in
    let fit = fit_now parts graph.well_formed key object stands (ap (λ (o : Object). o.shape) (sym same) ∙ room.region) (ap (λ (o : Object). o.live) (sym same) ∙ room.live) in
    let small = leb-true _ _ fit.small in
    list_all-implies (lies_in object.size) (lies_in 65536) (λ edge lies. let l = leb-true _ _ lies in le-leb _ _ (omega arith)) object.edges fit.inside

-- where an access leads to bytes of an object there is room

abbrev is_room : Reach → Bool
is_room to.Nothing = false
is_room (to.Fault kind) = false
is_room (to.Number small) = false
is_room (to.Anything live) = false
is_room (to.Room key from) = true

abbrev key_of : Reach → ℕ
key_of to.Nothing = 0
key_of (to.Fault kind) = 0
key_of (to.Number small) = 0
key_of (to.Anything live) = 0
key_of (to.Room key from) = key

record IsFound (parts : Parts) (key : ℕ) : Type 0 where
  object : Object
  stands : object_at parts.objects key ≡ Some object

object_found : (parts : Parts) (found : Option Object) (other key from : ℕ) (offset : ℤ) (count : ℕ) → object_at parts.objects other ≡ found → object_reach found other offset count ≡ to.Room key from → IsFound parts key
object_found parts None other key from offset count stands reach = absurd (false≢true (ap is_room reach))
object_found parts (Some object) other key from (negsuc before) count stands reach = by_life object.live reach
  where
    by_life : (b : Bool) → (if b then to.Fault access_outside_object else to.Fault access_to_dead_object) ≡ to.Room key from → IsFound parts key
    by_life true reach = absurd (false≢true (ap is_room reach))
    by_life false reach = absurd (false≢true (ap is_room reach))
object_found parts (Some object) other key from (pos start) count stands reach = by_tests object.live (is_within object.size (pos start) count) reach
  where
    by_tests : (b c : Bool) → (if b then (if c then to.Room other start else to.Fault access_outside_object) else to.Fault access_to_dead_object) ≡ to.Room key from → IsFound parts key
    by_tests false c reach = absurd (false≢true (ap is_room reach))
    by_tests true false reach = absurd (false≢true (ap is_room reach))
    by_tests true true reach = record { object = object; stands = ap (object_at parts.objects) (sym (ap key_of reach)) ∙ stands }

pub room_reached : (parts : Parts) (target size key from : ℕ) → IsGraph parts → LeadsToRegion parts target → reach_of parts target size ≡ to.Room key from → IsRoom parts key from size
room_reached parts target size key from graph leads reach =
    let object = by_value leads.value (sym (ap (λ (o : Option Value). value_reach parts target o size) leads.is) ∙ reach) in
    let room = room_at parts target size key from object.object leads.value graph.well_formed leads.is leads.names reach object.stands in
    record { object = object.object; stands = object.stands; live = room.live; region = room.region; room = room.room }
  where
    by_value : (value : Value) → value_reach parts target (Some value) size ≡ to.Room key from → IsFound parts key
    by_value (Const number count) reach = absurd (false≢true (ap is_room reach))
    by_value (Number count) reach = absurd (false≢true (ap is_room reach))
    by_value Any reach = absurd (false≢true (ap is_room reach))
    by_value (Address other offset t) reach = object_found parts (object_at parts.objects other) other key from offset size refl reach

-- the value of an address register
pub leads_held : (parts : Parts) (register key : ℕ) → is_address_held parts register ≡ true → held_by parts.registers register ≡ Some key → LeadsToRegion parts key
leads_held parts register key address held = let found = address_at parts register key held address in record { value = found.value; is = found.is; names = found.names }

-- registers that hold something
pub address_there : (parts : Parts) (register : ℕ) → is_address_held parts register ≡ true → held_by parts.registers register ≡ None → ⊥
address_there parts register address none = let held = address_held parts register address in none-some held.0 (sym none ∙ held.1)

pub value_there : (parts : Parts) (register key : ℕ) → IsGraph parts → held_by parts.registers register ≡ Some key → value_at parts.values key ≡ None → ⊥
value_there parts register key graph held none = let found = held_value parts register key graph.well_formed held in none-some found.value (sym none ∙ found.is)
