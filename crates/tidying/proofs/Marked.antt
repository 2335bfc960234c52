-- Marks: what a list of marks tells behind each step.
use denote.Ref.{Bor}
use Rattle.std.proofs.Common.{◌≡◌, ℕ, zero, suc, ◌+◌, ◌≤◌, Bool, true, false, List, [], ◌∷◌, length, Option, None, Some, refl, sym, ◌∙◌, ap, subst, eq-eqb, ne_eqb, arith}
use Rattle.std.specs.Prelude.{slice_set, slice_get, option_map}
use Rattle.std.specs.List.{ItemBy}
use Rattle.std.specs.Option.{option_map_or}
use Rattle.std.proofs.lemmas.List.{set_past}
use Rattle.std.proofs.lemmas.Option.{slice_get_read, slice_get_past}
use Rattle.graph.specs.declared.value.Value.{Value}
use Rattle.graph.specs.declared.parts.KeyedValue.{KeyedValue}
use Rattle.graph.specs.declared.parts.Parts.{Parts}
use Rattle.graph.specs.Maps.{found_at, value_at}
use Rattle.graph.specs.Sizes.{is_constant}
use Rattle.graph.specs.WellFormed.{passes_at}
use Rattle.graph.specs.Whole.{IsGraph}
use Rattle.graph.proofs.Found.{found-here, found-later}

pub set_beyond : (marks : List Bool) (place : ℕ) → length marks ≤ place → marks ≡ slice_set marks place true
set_beyond marks place past = sym (set_past marks place true past)

-- where keys go up one by one, what stands at a key stands at that place
module _ {Entry Item : Type 0} (key : Entry → ℕ) (item : Entry → Item) where
  pub found_in_place : (from : ℕ) (entries : List Entry) → ((place : ℕ) (entry : Entry) → slice_get entries place ≡ Some entry → key entry ≡ from + place) →
      (at : ℕ) → found_at key item entries (from + at) ≡ option_map item (slice_get entries at)
  found_in_place from [] places at = refl
  found_in_place from (first ∷ rest) places zero =
      found-here key item first rest (from + 0) (eq-eqb (key first) (from + 0) (places 0 first refl))
  found_in_place from (first ∷ rest) places (suc at) =
      let here = places 0 first refl in
      found-later key item first rest (from + suc at) (ne_eqb (key first) (from + suc at) (λ same. absurd (omega (arith, here, same))))
      ∙ ap (found_at key item rest) (let e : from + suc at ≡ suc from + at = omega arith in e)
      ∙ found_in_place (suc from) rest (λ place entry stands. places (suc place) entry stands ∙ (let e : from + suc place ≡ suc from + place = omega arith in e)) at

pub value_in_place : (parts : Parts) → IsGraph parts → (key : ℕ) → value_at parts.values key ≡ option_map (λ (entry : KeyedValue). entry.value) (slice_get parts.values key)
value_in_place parts graph key =
    ap (value_at parts.values) (let e : key ≡ 0 + key = omega arith in e)
    ∙ found_in_place (λ (entry : KeyedValue). entry.key) (λ entry. entry.value) 0 parts.values (λ place entry stands. graph.keys.values place entry stands ∙ (let e : place ≡ 0 + place = omega arith in e)) key

-- what a look-up at a place gives
entry_get : (values : List KeyedValue) (place : ℕ) (found : Option (Bor KeyedValue)) (entry : Bor KeyedValue) → ItemBy (λ (x : Bor KeyedValue). x.now) values place place found → found ≡ Some entry →
    slice_get values place ≡ Some entry.now
entry_get values place found entry item is =
    let here = subst (λ (r : Option (Bor KeyedValue)). ItemBy (λ (x : Bor KeyedValue). x.now) values place place r) is item in
    slice_get_read values (length values) place entry.now refl here.3.0 here.1

entry_none : (values : List KeyedValue) (place : ℕ) (found : Option (Bor KeyedValue)) → ItemBy (λ (x : Bor KeyedValue). x.now) values place place found → found ≡ None → slice_get values place ≡ None
entry_none values place found item is = slice_get_past values place (subst (λ (r : Option (Bor KeyedValue)). ItemBy (λ (x : Bor KeyedValue). x.now) values place place r) is item).3

-- whether the value at a key is a constant
constant_is : (parts : Parts) → IsGraph parts → (key : ℕ) → passes_at parts is_constant key ≡ option_map_or is_constant (option_map (λ (entry : KeyedValue). entry.value) (slice_get parts.values key)) false
constant_is parts graph key = ap (λ (o : Option Value). option_map_or is_constant o false) (value_in_place parts graph key)

pub constant_found : (parts : Parts) → IsGraph parts → (values : List KeyedValue) → values ≡ parts.values → (key : ℕ) (found : Option (Bor KeyedValue)) (entry : Bor KeyedValue) →
    ItemBy (λ (x : Bor KeyedValue). x.now) values key key found → found ≡ Some entry → is_constant entry.now.value ≡ passes_at parts is_constant key
constant_found parts graph values same key found entry item is =
    sym (constant_is parts graph key
    ∙ ap (λ (o : Option KeyedValue). option_map_or is_constant (option_map (λ (entry : KeyedValue). entry.value) o) false) (ap (λ (vs : List KeyedValue). slice_get vs key) (sym same) ∙ entry_get values key found entry item is))

pub constant_none : (parts : Parts) → IsGraph parts → (values : List KeyedValue) → values ≡ parts.values → (key : ℕ) (found : Option (Bor KeyedValue)) →
    ItemBy (λ (x : Bor KeyedValue). x.now) values key key found → found ≡ None → false ≡ passes_at parts is_constant key
constant_none parts graph values same key found item is =
    sym (constant_is parts graph key
    ∙ ap (λ (o : Option KeyedValue). option_map_or is_constant (option_map (λ (entry : KeyedValue). entry.value) o) false) (ap (λ (vs : List KeyedValue). slice_get vs key) (sym same) ∙ entry_none values key found item is))
