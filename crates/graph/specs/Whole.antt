-- What a contract sees of a graph: its parts.
use Rattle.std.specs.Prelude.{◌≡◌, ℕ, [], map, slice_get, Some, IsTrue}
use Rattle.graph.specs.declared.contents.Contents.{Contents}
use Rattle.graph.specs.declared.graph.Graph.TheInside.{Inside}
use Rattle.graph.specs.declared.parts.Held.{Held}
use Rattle.graph.specs.declared.parts.KeyedObject.{KeyedObject}
use Rattle.graph.specs.declared.parts.KeyedValue.{KeyedValue}
use Rattle.graph.specs.declared.parts.Named.{Named}
use Rattle.graph.specs.declared.parts.Parts.{Parts}
use Rattle.graph.specs.Renaming.{objects_from, values_from, object_place, value_place, renamed_object, renamed_value, renamed_pair}
use Rattle.graph.specs.WellFormed.{HasAscendingKeys, IsWellFormed, is_within_limits}

-- the objects and the values have the keys 0, 1 and so on
abbrev pub entries_of : Contents → Parts
entries_of contents = record {
  objects = objects_from 0 contents.objects;
  values = values_from 0 contents.values;
  variables = contents.variables;
  registers = contents.registers;
  ports = contents.ports;
  unequal = contents.unequal;
}

abbrev pub parts_of : Inside → Parts
parts_of inside = entries_of inside.contents

-- nothing at all
abbrev pub no_contents : Contents
no_contents = record { objects = []; values = []; variables = []; registers = []; ports = []; unequal = [] }

abbrev pub no_parts : Parts
no_parts = record { objects = []; values = []; variables = []; registers = []; ports = []; unequal = [] }

-- parts with places in place of keys
abbrev pub placed : Parts → Contents
placed parts = record {
  objects = map (λ entry. renamed_object (value_place parts) entry.object) parts.objects;
  values = map (λ entry. renamed_value (object_place parts) entry.value) parts.values;
  variables = map {B = Named} (λ named. record { variable = named.variable; object = object_place parts named.object }) parts.variables;
  registers = map {B = Held} (λ held. record { register = held.register; value = value_place parts held.value }) parts.registers;
  ports = map (value_place parts) parts.ports;
  unequal = map (renamed_pair (value_place parts)) parts.unequal;
}

-- each key is the place of its entry
pub record HasPlaces (parts : Parts) : Type 0 where
  pub objects : (place : ℕ) (entry : KeyedObject) → slice_get parts.objects place ≡ Some entry → entry.key ≡ place
  pub values : (place : ℕ) (entry : KeyedValue) → slice_get parts.values place ≡ Some entry → entry.key ≡ place

-- what always holds of a graph
pub record IsGraph (parts : Parts) : Type 0 where
  pub well_formed : IsWellFormed parts
  pub within_limits : IsTrue (is_within_limits parts)
  pub ascending : HasAscendingKeys parts
  pub keys : HasPlaces parts
