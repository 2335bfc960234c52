-- Graphs in which no register names a segment are settled.
use Rattle.std.proofs.Common.{◌≡◌, ℕ, true, false, List, [], ◌∷◌, Option, None, Some, refl, ◌∙◌, ap}
use Rattle.std.specs.Option.{option_and_then, option_map_or}
use Rattle.std.proofs.lemmas.Bool.{false≢true}
use Rattle.graph.specs.declared.object.Object.{Object}
use Rattle.graph.specs.declared.object.Shape.{Shape}
use Rattle.graph.specs.declared.object.Shape.TheVariants.{Region as RegionShape, Segment}
use Rattle.graph.specs.declared.value.Target.{Target}
use Rattle.graph.specs.declared.value.Target.TheVariants.{Region, First, Last, Each}
use Rattle.graph.specs.declared.value.Value.{Value}
use Rattle.graph.specs.declared.value.Value.TheVariants.{Const, Number, Any, Address}
use Rattle.graph.specs.declared.parts.KeyedObject.{KeyedObject}
use Rattle.graph.specs.declared.parts.Parts.{Parts}
use Rattle.graph.specs.Maps.{object_at}
use Rattle.graph.specs.Nodes.{is_region}
use Rattle.graph.specs.WellFormed.{target_fits, leads_to_object}
use Rattle.graph.specs.Whole.{IsGraph}
use Rattle.graph.proofs.Found.{found-all}
use Rattle.graph.proofs.Tests.{and_left, and_right}
use Rattle.changes.specs.Reaching.{names_no_segment}
use Rattle.settle.specs.Laws.{has_regions_alone}
use Rattle.settle.specs.Settled.{value_held, cases_of, or_else, first_cases, name_no_segment, splits_left, settled}
use Rattle.settle.proofs.Fuel.{none_settled}
use Rattle.settle.proofs.Names.{held_leads}

none_of : (parts : Parts) (value : Value) → names_no_segment value ≡ true → cases_of parts value ≡ None
none_of parts (Const number size) names = refl
none_of parts (Number size) names = refl
none_of parts Any names = refl
none_of parts (Address object offset Region) names = refl
none_of parts (Address object offset First) names = absurd (false≢true names)
none_of parts (Address object offset Last) names = absurd (false≢true names)
none_of parts (Address object offset Each) names = refl

-- where each register names none, none does
none_first : (parts : Parts) (registers : List ℕ) → ((register : ℕ) (value : Value) → value_held parts register ≡ Some value → cases_of parts value ≡ None) → first_cases parts registers ≡ None
none_first parts [] each = refl
none_first parts (register ∷ rest) each = by_held (value_held parts register) refl ∙ none_first parts rest each
  where
    by_held : (held : Option Value) → value_held parts register ≡ held → or_else (option_and_then (cases_of parts) held) (first_cases parts rest) ≡ first_cases parts rest
    by_held None is = refl
    by_held (Some value) is = ap (λ (o : Option (List Parts)). or_else o (first_cases parts rest)) (each register value is)

named_first : (parts : Parts) (registers : List ℕ) → name_no_segment registers parts ≡ true → first_cases parts registers ≡ None
named_first parts [] names = refl
named_first parts (register ∷ rest) names =
    by_held (value_held parts register) (and_left (option_map_or names_no_segment (value_held parts register) true) (name_no_segment rest parts) names)
    ∙ named_first parts rest (and_right (option_map_or names_no_segment (value_held parts register) true) (name_no_segment rest parts) names)
  where
    by_held : (held : Option Value) → option_map_or names_no_segment held true ≡ true → or_else (option_and_then (cases_of parts) held) (first_cases parts rest) ≡ first_cases parts rest
    by_held None names = refl
    by_held (Some value) names = ap (λ (o : Option (List Parts)). or_else o (first_cases parts rest)) (none_of parts value names)

pub named_settled : (parts : Parts) (registers : List ℕ) → name_no_segment registers parts ≡ true → settled registers parts ≡ parts ∷ []
named_settled parts registers names = none_settled (splits_left registers parts) registers parts (named_first parts registers names)

-- of regions alone there is no address of a node of a segment
no_region : (target : Target) (shape : Shape) → is_region shape ≡ true → target_fits target shape ≡ true → target ≡ Region
no_region Region shape is fits = refl
no_region First RegionShape is fits = absurd (false≢true fits)
no_region First (Segment twofold head next prev back least next_value prev_value node) is fits = absurd (false≢true is)
no_region Last RegionShape is fits = absurd (false≢true fits)
no_region Last (Segment twofold head next prev back least next_value prev_value node) is fits = absurd (false≢true is)
no_region Each RegionShape is fits = absurd (false≢true fits)
no_region Each (Segment twofold head next prev back least next_value prev_value node) is fits = absurd (false≢true is)

module _ (parts : Parts) (graph : IsGraph parts) (registers : List ℕ) (regions : has_regions_alone parts ≡ true) where
  leads_none : (value : Value) → leads_to_object parts value ≡ true → cases_of parts value ≡ None
  leads_none (Const number size) leads = refl
  leads_none (Number size) leads = refl
  leads_none Any leads = refl
  leads_none (Address key offset target) leads = by_object (object_at parts.objects key) refl leads
    where
      by_object : (found : Option Object) → object_at parts.objects key ≡ found → option_map_or (λ found. target_fits target found.shape) found false ≡ true → cases_of parts (Address key offset target) ≡ None
      by_object None is fits = absurd (false≢true fits)
      by_object (Some object) is fits =
          ap (λ (t : Target). cases_of parts (Address key offset t))
          (no_region target object.shape (found-all (λ (entry : KeyedObject). entry.key) (λ entry. entry.object) (λ object. is_region object.shape) parts.objects key object regions is) fits)

  pub regions_settled : settled registers parts ≡ parts ∷ []
  regions_settled =
      none_settled (splits_left registers parts) registers parts
      (none_first parts registers (λ register value held. leads_none value (held_leads parts graph.well_formed register value held)))
