-- A graph in which the last node of a segment is a region is a graph, and holds what the graph did.
use Rattle.std.proofs.Common.{◌≡◌, ℕ, suc, List, [], ◌∷◌, map, true, Option, None, Some, refl, sym, ◌∙◌, ap, subst}
use Rattle.std.specs.Prelude.{slice_get, option_map, IsSome}
use Rattle.std.specs.Option.{option_and_then}
use Rattle.graph.specs.declared.parts.KeyedObject.{KeyedObject}
use Rattle.graph.specs.declared.parts.KeyedValue.{KeyedValue}
use Rattle.graph.specs.declared.parts.Parts.{Parts}
use Rattle.graph.specs.Closed.{IsClosed}
use Rattle.graph.specs.Maps.{value_at, held_by}
use Rattle.graph.specs.Meaning.{maps_of}
use Rattle.graph.specs.Sizes.{value_size}
use Rattle.graph.specs.WellFormed.{is_within_limits}
use Rattle.graph.specs.Whole.{IsGraph}
use Rattle.graph.proofs.Closed.{closed_of}
use Rattle.graph.proofs.Found.{Holds-some}
use Rattle.changes.proofs.Appended.{ascending_in_place}
use Rattle.materialise.specs.Kept.{size_at, HoldsAsBefore}
use Rattle.materialise.specs.SplitLast.{split_last}
use Rattle.materialise.proofs.FinalForm.{form_now}
use Rattle.materialise.proofs.FinalThere.{region, later, split_is, value_there, values_in_place, objects_in_place}
use Rattle.materialise.proofs.FinalValues.{become_blind}
use Rattle.materialise.proofs.SplitThere.{IsSegmentAt}

map_alike : {A B : Type 0} (f g : A → B) (xs : List A) → ((place : ℕ) (x : A) → slice_get xs place ≡ Some x → f x ≡ g x) → map f xs ≡ map g xs
map_alike f g [] same = refl
map_alike {A} {B} f g (x ∷ xs) same =
    ap (λ (y : B). y ∷ map f xs) (same 0 x refl) ∙ ap (λ (ys : List B). g x ∷ ys) (map_alike f g xs (λ place y is. same (suc place) y is))

module _ (parts : Parts) (graph : IsGraph parts) (key : ℕ) (at : IsSegmentAt parts key) (twofold : at.links.twofold ≡ true) where
  abbrev after : Parts
  after = later parts graph key at

  pub graph_now : is_within_limits after ≡ true → IsGraph after
  graph_now few = record {
    well_formed = form_now parts graph key at twofold;
    within_limits = few;
    ascending = record {
      objects = ascending_in_place (λ (entry : KeyedObject). entry.key) (λ entry. entry.object) after.objects (objects_in_place parts graph key at);
      values = ascending_in_place (λ (entry : KeyedValue). entry.key) (λ entry. entry.value) after.values (values_in_place parts graph key at);
    };
    keys = record { objects = objects_in_place parts graph key at; values = values_in_place parts graph key at };
  }

  pub split_graph : is_within_limits (split_last key parts) ≡ true → IsGraph (split_last key parts)
  split_graph few = subst IsGraph (sym (split_is parts graph key at)) (graph_now (sym (ap is_within_limits (split_is parts graph key at)) ∙ few))

  closed : IsClosed (maps_of parts)
  closed = closed_of parts graph.well_formed

  size_same : (k : ℕ) → IsSome (value_at parts.values k) → size_at after k ≡ size_at parts k
  size_same k some =
      let found = Holds-some (value_at parts.values k) some in
      ap (option_map value_size) (value_there parts graph key at k found.item found.is)
      ∙ ap Some (become_blind (region parts graph key at) key value_size (λ object other offset at target to. refl) found.item)
      ∙ sym (ap (option_map value_size) found.is)

  by_held : (register : ℕ) (found : Option ℕ) → held_by parts.registers register ≡ found → option_and_then (size_at after) found ≡ option_and_then (size_at parts) found
  by_held register None is = refl
  by_held register (Some k) is = size_same k (closed.registers register k is)

  holds_now : HoldsAsBefore parts after
  holds_now = record {
    variables = λ variable. refl;
    registers = λ register. by_held register (held_by parts.registers register) refl;
    ports = map_alike (size_at after) (size_at parts) parts.ports (λ place port is. size_same port (closed.ports place port is));
  }

  pub split_holds : HoldsAsBefore parts (split_last key parts)
  split_holds = subst (λ (p : Parts). HoldsAsBefore parts p) (sym (split_is parts graph key at)) holds_now
