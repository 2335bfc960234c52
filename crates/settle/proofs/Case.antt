-- What each case of a segment that a value names has: fewer segments, or a region in place of what the value names.
use Rattle.std.proofs.Common.{◌≡◌, ℕ, ◌<◌, ◌⊎◌, Bool, true, false, List, [], ◌∷◌, length, nat_eq, ℤ, Option, None, Some, refl, sym, ◌∙◌, ap, subst, inl, inr, eq-eqb}
use Rattle.std.specs.Prelude.{is_some, option_map, if◌then◌else◌}
use Rattle.std.specs.Option.{option_and_then, option_map_or}
use Rattle.std.proofs.lemmas.Bool.{false≢true}
use Rattle.std.proofs.lemmas.Option.{same_Some, none-some}
use Rattle.graph.specs.declared.object.Links.{Links}
use Rattle.graph.specs.declared.object.Object.{Object}
use Rattle.graph.specs.declared.object.Shape.{Shape}
use Rattle.graph.specs.declared.object.Shape.TheVariants.{Region as RegionShape, Segment}
use Rattle.graph.specs.declared.value.Target.{Target}
use Rattle.graph.specs.declared.value.Target.TheVariants.{Region, First, Last, Each}
use Rattle.graph.specs.declared.value.Value.{Value}
use Rattle.graph.specs.declared.value.Value.TheVariants.{Const, Number, Any, Address}
use Rattle.graph.specs.declared.parts.Parts.{Parts}
use Rattle.graph.specs.Maps.{object_at, value_at}
use Rattle.graph.specs.Nodes.{links_in}
use Rattle.graph.specs.WellFormed.{IsWellFormed, HasAscendingKeys, is_within_limits, target_fits, leads_to_object, may_be_held, is_outward}
use Rattle.graph.specs.Whole.{IsGraph}
use Rattle.materialise.specs.Beyond.{step_beyond, emptied_value, beyond_end, value_after}
use Rattle.materialise.specs.Dropped.{links_at, dropped}
use Rattle.materialise.specs.Empty.{may_be_empty}
use Rattle.materialise.specs.SplitFirst.{first_value, first_target, split_first}
use Rattle.materialise.specs.SplitLast.{last_value, last_target, split_last}
use Rattle.materialise.specs.WithOne.{is_segment, is_twofold}
use Rattle.materialise.proofs.Case.{dropped_is, value_there}
use Rattle.materialise.proofs.Emptiable.{MayBeEmpty, may_be}
use Rattle.materialise.proofs.Emptied.{emptied_outward}
use Rattle.materialise.proofs.FinalCode.{both_at}
use Rattle.materialise.proofs.FinalGraph.{split_graph as last_graph}
use Rattle.materialise.proofs.FirstCase.{is_split, object as first_object, rest_object as first_rest, new_object as first_new, after_is as first_is, value_was as first_was}
use Rattle.materialise.proofs.Formed.{dropped_form, dropped_ascending}
use Rattle.materialise.proofs.LastCase.{rest_object as last_rest, new_object as last_new, after_is as last_is, value_was as last_was}
use Rattle.materialise.proofs.LastSplit.{twofold_segment}
use Rattle.materialise.proofs.SplitGraph.{split_graph as first_graph}
use Rattle.materialise.proofs.SplitThere.{segment_at}
use Rattle.settle.specs.Laws.{is_any}
use Rattle.settle.specs.Settled.{segments, cases_of}
use Rattle.settle.proofs.Counts.{left_falls, split_segments}
use Rattle.settle.proofs.Names.{is_end, names_end}

-- a case of the segment that a value names
pub record IsCase (parts case : Parts) (value : Value) : Type 0 where
  pub change : Value → Value
  pub form : IsWellFormed case
  pub ascending : HasAscendingKeys case
  pub registers : case.registers ≡ parts.registers
  pub values : (at : ℕ) (v : Value) → value_at parts.values at ≡ Some v → value_at case.values at ≡ Some (change v)
  pub ends : (v : Value) → names_end v ≡ false → names_end (change v) ≡ false
  pub any : (v : Value) → may_be_held v ≡ true → is_any (change v) ≡ is_any v
  pub falls : (segments case < segments parts) ⊎ ((segments case ≡ segments parts) × (names_end (change value) ≡ false))

-- Without the segment.

outward_end : (value : Value) → is_outward value ≡ true → is_any value ≡ false
outward_end (Const number size) is = refl
outward_end (Number size) is = refl
outward_end Any is = absurd (false≢true is)
outward_end (Address object offset target) is = refl

module _ (parts : Parts) (key : ℕ) (links : Links) where
  step_ends : (v : Value) → names_end v ≡ false → names_end (step_beyond parts key links v) ≡ false
  step_ends (Const number size) is = refl
  step_ends (Number size) is = refl
  step_ends Any is = refl
  step_ends (Address object offset target) is = by_key (nat_eq object key) target is
    where
      by_key : (b : Bool) (target : Target) → is_end target ≡ false → names_end (if b then beyond_end parts links (Address object offset target) target offset else Address object offset target) ≡ false
      by_key false target is = is
      by_key true Region is = refl
      by_key true First is = absurd (false≢true (sym is))
      by_key true Last is = absurd (false≢true (sym is))
      by_key true Each is = refl

  emptied_ends : (v : Value) → names_end v ≡ false → names_end (emptied_value parts key links v) ≡ false
  emptied_ends v is = step_ends (step_beyond parts key links v) (step_ends v is)

  emptied_any : (form : IsWellFormed parts) (may : MayBeEmpty parts key) (v : Value) → may_be_held v ≡ true → is_any (emptied_value parts key may.links v) ≡ is_any v
  emptied_any form may (Const number size) is = refl
  emptied_any form may (Number size) is = refl
  emptied_any form may Any is = refl
  emptied_any form may (Address object offset target) is = outward_end (emptied_value parts key may.links (Address object offset target)) (emptied_outward parts form key may (Address object offset target) is)

pub dropped_case : (parts : Parts) → IsGraph parts → (key : ℕ) (value : Value) → may_be_empty parts key ≡ true → IsCase parts (dropped key parts) value
dropped_case parts graph key value is =
    let may = may_be parts key is in
    let same = dropped_is parts graph.well_formed key may in
    record {
      change = emptied_value parts key may.links;
      form = dropped_form parts graph key may;
      ascending = dropped_ascending parts graph key may;
      registers = ap (λ (p : Parts). p.registers) same;
      values = λ at v there. ap (λ (p : Parts). value_at p.values at) same ∙ value_there parts graph.well_formed key may at ∙ ap (option_map (emptied_value parts key may.links)) there;
      ends = emptied_ends parts key may.links;
      any = emptied_any parts key may.links graph.well_formed may;
      falls = inl (subst (λ (p : Parts). segments p < segments parts) (sym same) (left_falls (value_after parts key may.links) key parts.objects may.object may.links may.stands may.linked));
    }

-- With a first node.

module _ (region key : ℕ) where
  first_ends : (v : Value) → names_end v ≡ false → names_end (first_value region key v) ≡ false
  first_ends (Const number size) is = refl
  first_ends (Number size) is = refl
  first_ends Any is = refl
  first_ends (Address object offset target) is = by_key (nat_eq object key) target is
    where
      by_key : (b : Bool) (target : Target) → is_end target ≡ false → names_end (if b then first_target region key target offset else Address object offset target) ≡ false
      by_key false target is = is
      by_key true Region is = refl
      by_key true First is = refl
      by_key true Last is = is
      by_key true Each is = refl

  first_any : (v : Value) → is_any (first_value region key v) ≡ is_any v
  first_any (Const number size) = refl
  first_any (Number size) = refl
  first_any Any = refl
  first_any (Address object offset target) = by_key (nat_eq object key) target
    where
      by_key : (b : Bool) (target : Target) → is_any (if b then first_target region key target offset else Address object offset target) ≡ false
      by_key false target = refl
      by_key true Region = refl
      by_key true First = refl
      by_key true Last = refl
      by_key true Each = refl

  last_ends : (v : Value) → names_end v ≡ false → names_end (last_value region key v) ≡ false
  last_ends (Const number size) is = refl
  last_ends (Number size) is = refl
  last_ends Any is = refl
  last_ends (Address object offset target) is = by_key (nat_eq object key) target is
    where
      by_key : (b : Bool) (target : Target) → is_end target ≡ false → names_end (if b then last_target region key target offset else Address object offset target) ≡ false
      by_key false target is = is
      by_key true Region is = refl
      by_key true First is = is
      by_key true Last is = refl
      by_key true Each is = refl

  last_any : (v : Value) → is_any (last_value region key v) ≡ is_any v
  last_any (Const number size) = refl
  last_any (Number size) = refl
  last_any Any = refl
  last_any (Address object offset target) = by_key (nat_eq object key) target
    where
      by_key : (b : Bool) (target : Target) → is_any (if b then last_target region key target offset else Address object offset target) ≡ false
      by_key false target = refl
      by_key true Region = refl
      by_key true First = refl
      by_key true Last = refl
      by_key true Each = refl

pub first_segments : (parts : Parts) → IsGraph parts → (key : ℕ) → is_segment parts key ≡ true → segments (split_first key parts) ≡ segments parts
first_segments parts graph key is =
    let split = is_split parts key is in
    ap segments (first_is parts graph key split)
    ∙ split_segments parts graph key (first_object parts graph key split) (first_rest parts graph key split) (record { key = length parts.objects; object = first_new parts graph key split }) split.stands refl refl refl

pub last_segments : (parts : Parts) → IsGraph parts → (key : ℕ) → is_segment parts key ≡ true → segments (split_last key parts) ≡ segments parts
last_segments parts graph key is =
    let split = is_split parts key is in
    ap segments (last_is parts graph key split)
    ∙ split_segments parts graph key (first_object parts graph key split) (last_rest parts graph key split) (record { key = length parts.objects; object = last_new parts graph key split }) split.stands refl refl refl

pub dropped_segments : (parts : Parts) → IsGraph parts → (key : ℕ) → may_be_empty parts key ≡ true → segments (dropped key parts) < segments parts
dropped_segments parts graph key is =
    let may = may_be parts key is in
    subst (λ (p : Parts). segments p < segments parts) (sym (dropped_is parts graph.well_formed key may)) (left_falls (value_after parts key may.links) key parts.objects may.object may.links may.stands may.linked)

pub first_case : (parts : Parts) → IsGraph parts → (key : ℕ) (offset : ℤ) → is_segment parts key ≡ true → is_within_limits (split_first key parts) ≡ true → IsCase parts (split_first key parts) (Address key offset First)
first_case parts graph key offset is few =
    let split = is_split parts key is in
    let whole = first_graph parts graph key (segment_at parts key is) few in
    let same = first_is parts graph key split in
    record {
      change = first_value (length parts.objects) key;
      form = whole.well_formed;
      ascending = whole.ascending;
      registers = ap (λ (p : Parts). p.registers) same;
      values = λ at v there. ap (λ (p : Parts). value_at p.values at) same ∙ first_was parts graph key split at v there;
      ends = first_ends (length parts.objects) key;
      any = λ v held. first_any (length parts.objects) key v;
      falls = inr (
        ap segments same ∙ split_segments parts graph key (first_object parts graph key split) (first_rest parts graph key split) (record { key = length parts.objects; object = first_new parts graph key split }) split.stands refl refl refl,
        ap (λ (b : Bool). names_end (if b then Address (length parts.objects) offset Region else Address key offset First)) (eq-eqb key key refl),
      );
    }

pub last_case : (parts : Parts) → IsGraph parts → (key : ℕ) (offset : ℤ) → is_twofold parts key ≡ true → is_within_limits (split_last key parts) ≡ true → IsCase parts (split_last key parts) (Address key offset Last)
last_case parts graph key offset both few =
    let is = twofold_segment parts key both in
    let split = is_split parts key is in
    let at = segment_at parts key is in
    let whole = last_graph parts graph key at (both_at parts key at.object at.links at.stands at.linked both) few in
    let same = last_is parts graph key split in
    record {
      change = last_value (length parts.objects) key;
      form = whole.well_formed;
      ascending = whole.ascending;
      registers = ap (λ (p : Parts). p.registers) same;
      values = λ at v there. ap (λ (p : Parts). value_at p.values at) same ∙ last_was parts graph key split at v there;
      ends = last_ends (length parts.objects) key;
      any = λ v held. last_any (length parts.objects) key v;
      falls = inr (
        ap segments same ∙ split_segments parts graph key (first_object parts graph key split) (last_rest parts graph key split) (record { key = length parts.objects; object = last_new parts graph key split }) split.stands refl refl refl,
        ap (λ (b : Bool). names_end (if b then Address (length parts.objects) offset Region else Address key offset Last)) (eq-eqb key key refl),
      );
    }

-- All cases.

abbrev pub EachOf : {X : Type 0} → (X → Type 0) → List X → Type 0
EachOf P [] = Unit {0}
EachOf P (x ∷ xs) = P x × EachOf P xs

abbrev pub AreCases : Parts → Value → List Parts → Type 0
AreCases parts value cases = EachOf (λ (case : Parts). is_within_limits case ≡ true → IsCase parts case value) cases

-- an address of an end leads to a segment, and one of the last node to one that is linked both ways
pub first_there : (parts : Parts) (key : ℕ) (offset : ℤ) → leads_to_object parts (Address key offset First) ≡ true → is_segment parts key ≡ true
first_there parts key offset leads = by_object (object_at parts.objects key) leads
  where
    by_shape : (shape : Shape) → target_fits First shape ≡ true → is_some (links_in shape) ≡ true
    by_shape RegionShape fits = absurd (false≢true fits)
    by_shape (Segment twofold head next prev back least next_value prev_value node) fits = refl

    by_object : (found : Option Object) → option_map_or (λ found. target_fits First found.shape) found false ≡ true → is_some (option_and_then (λ (object : Object). links_in object.shape) found) ≡ true
    by_object None leads = absurd (false≢true leads)
    by_object (Some object) leads = by_shape object.shape leads

pub last_there : (parts : Parts) (key : ℕ) (offset : ℤ) → leads_to_object parts (Address key offset Last) ≡ true → is_twofold parts key ≡ true
last_there parts key offset leads = by_object (object_at parts.objects key) leads
  where
    by_shape : (shape : Shape) → target_fits Last shape ≡ true → option_map_or (λ (links : Links). links.twofold) (links_in shape) false ≡ true
    by_shape RegionShape fits = absurd (false≢true fits)
    by_shape (Segment twofold head next prev back least next_value prev_value node) fits = fits

    by_object : (found : Option Object) → option_map_or (λ found. target_fits Last found.shape) found false ≡ true →
        option_map_or (λ (links : Links). links.twofold) (option_and_then (λ (object : Object). links_in object.shape) found) false ≡ true
    by_object None leads = absurd (false≢true leads)
    by_object (Some object) leads = by_shape object.shape leads

-- with or without the case without nodes
both_cases : (parts : Parts) (key : ℕ) (value : Value) (split : Parts) → (may_be_empty parts key ≡ true → IsCase parts (dropped key parts) value) → (is_within_limits split ≡ true → IsCase parts split value) →
    AreCases parts value (option_map_or (λ (links : Links). if nat_eq links.least 0 then dropped key parts ∷ split ∷ [] else split ∷ []) (links_at parts key) [])
both_cases parts key value split gone one = by_links (links_at parts key) gone
  where
    by_least : (b : Bool) → (b ≡ true → IsCase parts (dropped key parts) value) → AreCases parts value (if b then dropped key parts ∷ split ∷ [] else split ∷ [])
    by_least true gone = (λ few. gone refl, (one, tt))
    by_least false gone = (one, tt)

    by_links : (found : Option Links) → (option_map_or (λ (links : Links). nat_eq links.least 0) found false ≡ true → IsCase parts (dropped key parts) value) →
        AreCases parts value (option_map_or (λ (links : Links). if nat_eq links.least 0 then dropped key parts ∷ split ∷ [] else split ∷ []) found [])
    by_links None gone = tt
    by_links (Some links) gone = by_least (nat_eq links.least 0) gone

pub each_case : (parts : Parts) → IsGraph parts → (value : Value) → leads_to_object parts value ≡ true → (cases : List Parts) → cases_of parts value ≡ Some cases → AreCases parts value cases
each_case parts graph (Const number size) leads cases is = absurd (none-some cases is)
each_case parts graph (Number size) leads cases is = absurd (none-some cases is)
each_case parts graph Any leads cases is = absurd (none-some cases is)
each_case parts graph (Address key offset Region) leads cases is = absurd (none-some cases is)
each_case parts graph (Address key offset First) leads cases is =
    subst (AreCases parts (Address key offset First)) (same_Some _ _ is)
    (both_cases parts key (Address key offset First) (split_first key parts) (dropped_case parts graph key (Address key offset First)) (first_case parts graph key offset (first_there parts key offset leads)))
each_case parts graph (Address key offset Last) leads cases is =
    subst (AreCases parts (Address key offset Last)) (same_Some _ _ is)
    (both_cases parts key (Address key offset Last) (split_last key parts) (dropped_case parts graph key (Address key offset Last)) (last_case parts graph key offset (last_there parts key offset leads)))
each_case parts graph (Address key offset Each) leads cases is = absurd (none-some cases is)

-- One case has fewer segments, and the last one as many.
abbrev pub AreBoth : Parts → Value → List Parts → Type 0
AreBoth parts value [] = Unit {0}
AreBoth parts value (split ∷ []) = (is_within_limits split ≡ true → IsCase parts split value) × (segments split ≡ segments parts)
AreBoth parts value (gone ∷ (split ∷ [])) = IsCase parts gone value × (segments gone < segments parts) × (is_within_limits split ≡ true → IsCase parts split value) × (segments split ≡ segments parts)
AreBoth parts value (one ∷ (other ∷ (more ∷ rest))) = ⊥

told_apart : (parts : Parts) (key : ℕ) (value : Value) (split : Parts) → (may_be_empty parts key ≡ true → IsCase parts (dropped key parts) value × (segments (dropped key parts) < segments parts)) →
    (is_within_limits split ≡ true → IsCase parts split value) → segments split ≡ segments parts →
    AreBoth parts value (option_map_or (λ (links : Links). if nat_eq links.least 0 then dropped key parts ∷ split ∷ [] else split ∷ []) (links_at parts key) [])
told_apart parts key value split gone one same = by_links (links_at parts key) gone
  where
    by_least : (b : Bool) → (b ≡ true → IsCase parts (dropped key parts) value × (segments (dropped key parts) < segments parts)) → AreBoth parts value (if b then dropped key parts ∷ split ∷ [] else split ∷ [])
    by_least true gone = ((gone refl).0, (gone refl).1, one, same)
    by_least false gone = (one, same)

    by_links : (found : Option Links) → (option_map_or (λ (links : Links). nat_eq links.least 0) found false ≡ true → IsCase parts (dropped key parts) value × (segments (dropped key parts) < segments parts)) →
        AreBoth parts value (option_map_or (λ (links : Links). if nat_eq links.least 0 then dropped key parts ∷ split ∷ [] else split ∷ []) found [])
    by_links None gone = tt
    by_links (Some links) gone = by_least (nat_eq links.least 0) gone

pub both_told : (parts : Parts) → IsGraph parts → (value : Value) → leads_to_object parts value ≡ true → (cases : List Parts) → cases_of parts value ≡ Some cases → AreBoth parts value cases
both_told parts graph (Const number size) leads cases is = absurd (none-some cases is)
both_told parts graph (Number size) leads cases is = absurd (none-some cases is)
both_told parts graph Any leads cases is = absurd (none-some cases is)
both_told parts graph (Address key offset Region) leads cases is = absurd (none-some cases is)
both_told parts graph (Address key offset First) leads cases is =
    let there = first_there parts key offset leads in
    subst (AreBoth parts (Address key offset First)) (same_Some _ _ is)
    (told_apart parts key (Address key offset First) (split_first key parts) (λ empty. (dropped_case parts graph key (Address key offset First) empty, dropped_segments parts graph key empty)) (first_case parts graph key offset there)
    (first_segments parts graph key there))
both_told parts graph (Address key offset Last) leads cases is =
    let there = last_there parts key offset leads in
    subst (AreBoth parts (Address key offset Last)) (same_Some _ _ is)
    (told_apart parts key (Address key offset Last) (split_last key parts) (λ empty. (dropped_case parts graph key (Address key offset Last) empty, dropped_segments parts graph key empty)) (last_case parts graph key offset there)
    (last_segments parts graph key (twofold_segment parts key there)))
both_told parts graph (Address key offset Each) leads cases is = absurd (none-some cases is)
