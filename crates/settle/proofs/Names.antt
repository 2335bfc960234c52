-- Which values name an end of a segment, and what registers hold in other graphs.
use Rattle.std.proofs.Common.{◌≡◌, ℕ, Bool, true, false, List, Option, None, Some, refl, sym, ◌∙◌, ap}
use Rattle.std.specs.Prelude.{is_some, option_map, IsSome}
use Rattle.std.specs.Option.{option_and_then, option_map_or}
use Rattle.std.proofs.lemmas.Bool.{false≢true}
use Rattle.std.proofs.lemmas.Option.{none-some}
use Rattle.graph.specs.declared.value.Target.{Target}
use Rattle.graph.specs.declared.value.Target.TheVariants.{Region, First, Last, Each}
use Rattle.graph.specs.declared.value.Value.{Value}
use Rattle.graph.specs.declared.value.Value.TheVariants.{Const, Number, Any, Address}
use Rattle.graph.specs.declared.parts.Held.{Held}
use Rattle.graph.specs.declared.parts.KeyedValue.{KeyedValue}
use Rattle.graph.specs.declared.parts.Parts.{Parts}
use Rattle.graph.specs.Maps.{value_at, held_by}
use Rattle.graph.specs.Renaming.{renamed, renamed_value, numbered, object_place, value_place}
use Rattle.graph.specs.WellFormed.{IsWellFormed, HasAscendingKeys, passes_at, may_be_held, leads_to_object}
use Rattle.graph.proofs.Closed.{closed_of}
use Rattle.graph.proofs.Found.{found-all, found-changed}
use Rattle.graph.proofs.Numbered.{IsRenaming-places, numbered-renamed}
use Rattle.graph.proofs.Sent.{value_sent}
use Rattle.settle.specs.Settled.{value_held, cases_at, cases_of, cases_by}

abbrev pub is_end : Target → Bool
is_end Region = false
is_end First = true
is_end Last = true
is_end Each = false

abbrev pub names_end : Value → Bool
names_end (Const number size) = false
names_end (Number size) = false
names_end Any = false
names_end (Address object offset target) = is_end target

at_named : (parts : Parts) (object : ℕ) (target : Target) → is_some (cases_at parts object target) ≡ is_end target
at_named parts object Region = refl
at_named parts object First = refl
at_named parts object Last = refl
at_named parts object Each = refl

pub cases_named : (parts : Parts) (value : Value) → is_some (cases_of parts value) ≡ names_end value
cases_named parts (Const number size) = refl
cases_named parts (Number size) = refl
cases_named parts Any = refl
cases_named parts (Address object offset target) = at_named parts object target

pub held_named : (parts : Parts) (register : ℕ) → is_some (cases_by parts register) ≡ option_map_or names_end (value_held parts register) false
held_named parts register = by_held (value_held parts register)
  where
    by_held : (held : Option Value) → is_some (option_and_then (cases_of parts) held) ≡ option_map_or names_end held false
    by_held None = refl
    by_held (Some value) = cases_named parts value

-- where the same registers hold values that became others
pub held_changed : (parts after : Parts) (change : Value → Value) → IsWellFormed parts → after.registers ≡ parts.registers →
    ((at : ℕ) (value : Value) → value_at parts.values at ≡ Some value → value_at after.values at ≡ Some (change value)) →
    (register : ℕ) → value_held after register ≡ option_map change (value_held parts register)
held_changed parts after change form registers values register =
    ap (λ (entries : List Held). option_and_then (value_at after.values) (held_by entries register)) registers ∙ by_key (held_by parts.registers register) refl
  where
    by_value : (key : ℕ) (found : Option Value) → value_at parts.values key ≡ found → IsSome found → value_at after.values key ≡ option_map change found
    by_value key None is some = absurd (false≢true some)
    by_value key (Some value) is some = values key value is

    by_key : (found : Option ℕ) → held_by parts.registers register ≡ found → option_and_then (value_at after.values) found ≡ option_map change (option_and_then (value_at parts.values) found)
    by_key None is = refl
    by_key (Some key) is = by_value key (value_at parts.values key) refl ((closed_of parts form).registers register key is)

-- where keys become places
pub held_numbered : (parts : Parts) → HasAscendingKeys parts → IsWellFormed parts → (register : ℕ) →
    value_held (numbered parts) register ≡ option_map (renamed_value (object_place parts)) (value_held parts register)
held_numbered parts ascending form register =
    ap (λ (p : Parts). value_held p register) (numbered-renamed parts ascending)
    ∙ ap (option_and_then (value_at (renamed (object_place parts) (value_place parts) parts).values))
    (found-changed (λ (held : Held). held.register) (λ held. held.value) (λ (held : Held). held.register) (λ held. held.value)
    (λ held. record { register = held.register; value = value_place parts held.value }) (value_place parts) (λ _. refl) (λ _. refl) parts.registers register)
    ∙ by_key (held_by parts.registers register) refl
  where
    by_value : (key : ℕ) (found : Option Value) → value_at parts.values key ≡ found → IsSome found →
        value_at (renamed (object_place parts) (value_place parts) parts).values (value_place parts key) ≡ option_map (renamed_value (object_place parts)) found
    by_value key None is some = absurd (false≢true some)
    by_value key (Some value) is some = value_sent (object_place parts) (value_place parts) parts (IsRenaming-places parts) key value is

    by_key : (found : Option ℕ) → held_by parts.registers register ≡ found →
        option_and_then (value_at (renamed (object_place parts) (value_place parts) parts).values) (option_map (value_place parts) found)
        ≡ option_map (renamed_value (object_place parts)) (option_and_then (value_at parts.values) found)
    by_key None is = refl
    by_key (Some key) is = by_value key (value_at parts.values key) refl ((closed_of parts form).registers register key is)

pub renamed_end : (objects : ℕ → ℕ) (value : Value) → names_end (renamed_value objects value) ≡ names_end value
renamed_end objects (Const number size) = refl
renamed_end objects (Number size) = refl
renamed_end objects Any = refl
renamed_end objects (Address object offset target) = refl

-- what a register holds leads to an object that is there, and may be held
module _ (parts : Parts) (form : IsWellFormed parts) (register : ℕ) (value : Value) (held : value_held parts register ≡ Some value) where
  record Under : Type 0 where
    key : ℕ
    stands : held_by parts.registers register ≡ Some key
    is : value_at parts.values key ≡ Some value

  under : Under
  under = by_key (held_by parts.registers register) refl held
    where
      by_key : (found : Option ℕ) → held_by parts.registers register ≡ found → option_and_then (value_at parts.values) found ≡ Some value → Under
      by_key None stands is = absurd (none-some value is)
      by_key (Some key) stands is = record { key = key; stands = stands; is = is }

  pub held_leads : leads_to_object parts value ≡ true
  held_leads = found-all (λ (entry : KeyedValue). entry.key) (λ entry. entry.value) (leads_to_object parts) parts.values under.key value form.addresses_lead_to_objects under.is

  pub held_may : may_be_held value ≡ true
  held_may =
      let passes = found-all (λ (held : Held). held.register) (λ held. held.value) (passes_at parts may_be_held) parts.registers register under.key form.registers_hold_values under.stands in
      sym (ap (λ (o : Option Value). option_map_or may_be_held o false) under.is) ∙ passes
