-- What is known where an access leads to bytes of an object.
use Rattle.std.proofs.Common.{◌≡◌, ℕ, zero, suc, ◌+◌, ◌≤◌, Bool, true, false, not, [], ◌∷◌, ℤ, pos, negsuc, Option, None, Some, refl, sym, ◌∙◌, ap, subst, leb-true, arith}
use Rattle.std.specs.Prelude.{Contains, if◌then◌else◌}
use Rattle.std.specs.Option.{option_map_or}
use Rattle.std.proofs.lemmas.Bool.{false≢true}
use Rattle.std.proofs.lemmas.Option.{same_Some}
use Rattle.bytes_core.specs.Fault.{access_outside_object, access_to_dead_object}
use Rattle.bytes_core.specs.Access.{is_within}
use Rattle.graph.specs.declared.object.Object.{Object}
use Rattle.graph.specs.declared.object.Shape.TheVariants.{Region as RegionShape}
use Rattle.graph.specs.declared.parts.KeyedValue.{KeyedValue}
use Rattle.graph.specs.declared.parts.Parts.{Parts}
use Rattle.graph.specs.declared.value.Target.{Target}
use Rattle.graph.specs.declared.value.Target.TheVariants.{Region}
use Rattle.graph.specs.declared.value.Value.{Value}
use Rattle.graph.specs.declared.value.Value.TheVariants.{Const, Number, Any, Address}
use Rattle.graph.specs.Maps.{object_at, value_at}
use Rattle.graph.specs.WellFormed.{IsWellFormed, target_fits, leads_to_object}
use Rattle.graph.proofs.Found.{found-all}
use Rattle.changes.specs.declared.reach.Reach.{Reach}
use Rattle.changes.specs.declared.reach.Reach.TheVariants as to
use Rattle.changes.specs.Posted.{Posted, on_object, on_reach}
use Rattle.changes.specs.Reaching.{number_kind, are_excluded, has_live_object, object_reach, value_reach, reach_of, names_no_segment}
use Rattle.changes.proofs.Meeting.{region_only, region_target}

-- a list of one
pub only_one : {X : Type 0} (one other : X) → Contains (one ∷ []) other → one ≡ other
only_one one other (zero, below, is) = is
only_one one other (suc place, below, is) = absurd (omega arith)

pub none_in : {X : Type 0} {A : Type 0} (other : X) → Contains [] other → A
none_in other (place, below, is) = absurd (omega arith)

-- a graph of a post comes from bytes of an object
pub record IsReached (parts : Parts) (reach : Reach) (onward : ℕ → Object → ℕ → Posted) (graph : Parts) : Type 0 where
  pub key : ℕ
  pub from : ℕ
  pub object : Object
  pub is : reach ≡ to.Room key from
  pub stands : object_at parts.objects key ≡ Some object
  pub among : Contains (onward key object from).graphs graph
  pub loss : (on_reach parts reach onward).loss ≡ (onward key object from).loss

pub reach_graph : (parts : Parts) (reach : Reach) (onward : ℕ → Object → ℕ → Posted) (graph : Parts) → Contains (on_reach parts reach onward).graphs graph → IsReached parts reach onward graph
reach_graph parts to.Nothing onward graph among = none_in graph among
reach_graph parts (to.Fault kind) onward graph among = none_in graph among
reach_graph parts (to.Number small) onward graph among = none_in graph among
reach_graph parts (to.Anything live) onward graph among = none_in graph among
reach_graph parts (to.Room key from) onward graph among = by_object (object_at parts.objects key) refl among
  where
    by_object : (found : Option Object) → object_at parts.objects key ≡ found → Contains (on_object found (λ object. onward key object from)).graphs graph → IsReached parts (to.Room key from) onward graph
    by_object None is among = none_in graph among
    by_object (Some object) is among = record {
      key = key;
      from = from;
      object = object;
      is = refl;
      stands = is;
      among = among;
      loss = ap (λ (o : Option Object). (on_object o (λ object. onward key object from)).loss) is;
    }

-- what a step goes on with where an access leads to bytes of an object
pub on_room : (parts : Parts) (reach : Reach) (key from : ℕ) (object : Object) (onward : ℕ → Object → ℕ → Posted) → reach ≡ to.Room key from → object_at parts.objects key ≡ Some object → on_reach parts reach onward ≡ onward key object from
on_room parts reach key from object onward is stands =
    ap (λ (r : Reach). on_reach parts r onward) is ∙ ap (λ (o : Option Object). on_object o (λ object. onward key object from)) stands

-- Where there is room, the value is an address of a live region.

abbrev is_room : Reach → Bool
is_room to.Nothing = false
is_room (to.Fault kind) = false
is_room (to.Number small) = false
is_room (to.Anything live) = false
is_room (to.Room key from) = true

abbrev key_of : Reach → ℕ
key_of to.Nothing = 0
key_of (to.Fault kind) = 0
key_of (to.Number small) = 0
key_of (to.Anything live) = 0
key_of (to.Room key from) = key

abbrev from_of : Reach → ℕ
from_of to.Nothing = 0
from_of (to.Fault kind) = 0
from_of (to.Number small) = 0
from_of (to.Anything live) = 0
from_of (to.Room key from) = from

pub record IsRoomAt (parts : Parts) (at count key from : ℕ) (object : Object) : Type 0 where
  pub address : value_at parts.values at ≡ Some (Address key (pos from) Region)
  pub live : object.live ≡ true
  pub region : object.shape ≡ RegionShape
  pub room : from + count ≤ object.size

pub room_at : (parts : Parts) (at count key from : ℕ) (object : Object) (value : Value) → IsWellFormed parts → value_at parts.values at ≡ Some value → names_no_segment value ≡ true → reach_of parts at count ≡ to.Room key from →
    object_at parts.objects key ≡ Some object → IsRoomAt parts at count key from object
room_at parts at count key from object value form is names reach stands = by_value value is names (sym (ap (λ (o : Option Value). value_reach parts at o count) is) ∙ reach)
  where
    no : (r : Reach) → is_room r ≡ false → r ≡ to.Room key from → ⊥
    no r room same = false≢true (sym room ∙ ap is_room same)

    address : (other : ℕ) (offset : ℤ) → value_at parts.values at ≡ Some (Address other offset Region) → (found : Option Object) → object_at parts.objects other ≡ found → object_reach found other offset count ≡ to.Room key from → IsRoomAt parts at count key from object
    address other offset is None found reach = absurd (no (to.Fault access_to_dead_object) refl reach)
    address other (negsuc before) is (Some held) found reach = by_life held.live reach
      where
        by_life : (b : Bool) → (if b then to.Fault access_outside_object else to.Fault access_to_dead_object) ≡ to.Room key from → IsRoomAt parts at count key from object
        by_life true reach = absurd (no (to.Fault access_outside_object) refl reach)
        by_life false reach = absurd (no (to.Fault access_to_dead_object) refl reach)
    address other (pos start) is (Some held) found reach = by_tests held.live refl (is_within held.size (pos start) count) refl reach
      where
        by_tests : (b : Bool) → held.live ≡ b → (c : Bool) → is_within held.size (pos start) count ≡ c →
            (if b then (if c then to.Room other start else to.Fault access_outside_object) else to.Fault access_to_dead_object) ≡ to.Room key from → IsRoomAt parts at count key from object
        by_tests false dead c within reach = absurd (no (to.Fault access_to_dead_object) refl reach)
        by_tests true live false within reach = absurd (no (to.Fault access_outside_object) refl reach)
        by_tests true live true within reach =
            let key_is : other ≡ key = ap key_of reach in
            let from_is : start ≡ from = ap from_of reach in
            let same : held ≡ object = same_Some _ _ (sym found ∙ ap (object_at parts.objects) key_is ∙ stands) in
            let leads = found-all (λ (entry : KeyedValue). entry.key) (λ entry. entry.value) (leads_to_object parts) parts.values at (Address other (pos start) Region) form.addresses_lead_to_objects is in
            let fits = subst (λ (o : Option Object). option_map_or (λ found. target_fits Region found.shape) o false ≡ true) found leads in
            record {
              address = is ∙ ap (λ (k : ℕ). Some (Address k (pos start) Region)) key_is ∙ ap (λ (n : ℕ). Some (Address key (pos n) Region)) from_is;
              live = ap (λ (o : Object). o.live) (sym same) ∙ live;
              region = ap (λ (o : Object). o.shape) (sym same) ∙ region_only Region held.shape refl fits;
              room = subst (λ (n : ℕ). n + count ≤ object.size) from_is (subst (λ (o : Object). start + count ≤ o.size) same (leb-true _ _ within));
            }

    by_value : (value : Value) → value_at parts.values at ≡ Some value → names_no_segment value ≡ true → value_reach parts at (Some value) count ≡ to.Room key from → IsRoomAt parts at count key from object
    by_value (Const number size) is names reach = absurd (no (to.Fault (number_kind number)) refl reach)
    by_value (Number size) is names reach = absurd (no (to.Number (not (are_excluded parts at 4096))) refl reach)
    by_value Any is names reach = absurd (no (to.Anything (has_live_object parts)) refl reach)
    by_value (Address other offset target) is names reach =
        address other offset (is ∙ ap (λ (t : Target). Some (Address other offset t)) (region_target other offset target names)) (object_at parts.objects other) refl reach
