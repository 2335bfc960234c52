-- Parts with their places for keys, from what they are kept as.
use Rattle.std.proofs.Common.{◌≡◌, ℕ, zero, suc, ◌+◌, true, List, [], ◌∷◌, Some, ap, sym, ◌∙◌, subst, arith}
use Rattle.std.specs.Prelude.{slice_get}
use Rattle.std.proofs.lemmas.Option.{same_Some, none-some}
use Rattle.graph.specs.declared.contents.Contents.{Contents}
use Rattle.graph.specs.declared.object.Object.{Object}
use Rattle.graph.specs.declared.value.Value.{Value}
use Rattle.graph.specs.declared.parts.KeyedObject.{KeyedObject}
use Rattle.graph.specs.declared.parts.KeyedValue.{KeyedValue}
use Rattle.graph.specs.declared.parts.Parts.{Parts}
use Rattle.graph.specs.Renaming.{numbered, objects_from, values_from}
use Rattle.graph.specs.WellFormed.{HasAscendingKeys, IsWellFormed, is_within_limits}
use Rattle.graph.specs.Whole.{HasPlaces, IsGraph, entries_of, placed}
use Rattle.graph.proofs.Numbered.{numbered_well_formed, numbered_within_limits, ascending_from}

-- what is kept of parts has the parts with their places for keys
pub numbered_is : (parts : Parts) (contents : Contents) → contents ≡ placed parts → entries_of contents ≡ numbered parts
numbered_is parts contents is = ap entries_of is

object_keys_from : (from : ℕ) (objects : List Object) (place : ℕ) (entry : KeyedObject) → slice_get (objects_from from objects) place ≡ Some entry → entry.key ≡ from + place
object_keys_from from [] place entry is = absurd (none-some entry is)
object_keys_from from (object ∷ rest) zero entry is = sym (ap (λ (e : KeyedObject). e.key) (same_Some _ _ is)) ∙ (let e : from ≡ from + 0 = omega arith in e)
object_keys_from from (object ∷ rest) (suc place) entry is = object_keys_from (from + 1) rest place entry is ∙ (let e : from + 1 + place ≡ from + suc place = omega arith in e)

value_keys_from : (from : ℕ) (values : List Value) (place : ℕ) (entry : KeyedValue) → slice_get (values_from from values) place ≡ Some entry → entry.key ≡ from + place
value_keys_from from [] place entry is = absurd (none-some entry is)
value_keys_from from (value ∷ rest) zero entry is = sym (ap (λ (e : KeyedValue). e.key) (same_Some _ _ is)) ∙ (let e : from ≡ from + 0 = omega arith in e)
value_keys_from from (value ∷ rest) (suc place) entry is = value_keys_from (from + 1) rest place entry is ∙ (let e : from + 1 + place ≡ from + suc place = omega arith in e)

-- what is kept has its places for keys
pub HasPlaces-entries : (contents : Contents) → HasPlaces (entries_of contents)
HasPlaces-entries contents = record {
  objects = λ place entry is. object_keys_from 0 contents.objects place entry is ∙ (let e : 0 + place ≡ place = omega arith in e);
  values = λ place entry is. value_keys_from 0 contents.values place entry is ∙ (let e : 0 + place ≡ place = omega arith in e);
}

-- what is kept of well-formed parts is a graph
pub IsGraph-placed : (parts : Parts) (contents : Contents) → HasAscendingKeys parts → IsWellFormed parts → is_within_limits parts ≡ true → contents ≡ placed parts → IsGraph (entries_of contents)
IsGraph-placed parts contents ascending well_formed within is = record {
  well_formed = subst IsWellFormed (sym (numbered_is parts contents is)) (numbered_well_formed parts ascending well_formed);
  within_limits = ap is_within_limits (numbered_is parts contents is) ∙ numbered_within_limits parts ∙ within;
  ascending = ascending_from contents;
  keys = HasPlaces-entries contents;
}
