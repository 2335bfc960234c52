-- What the post of a fill says, together.
use Rattle.std.proofs.Common.{◌≡◌, ℕ, zero, suc, ◌+◌, ◌≤◌, Bool, true, List, [], ◌∷◌, replicate, Some, refl, sym, ◌∙◌, ap, subst}
use Rattle.std.specs.Prelude.{IsSome, Contains}
use Rattle.std.proofs.lemmas.List.{length-replicate}
use Rattle.graph.specs.declared.object.Object.{Object}
use Rattle.graph.specs.declared.object.Shape.TheVariants.{Region as RegionShape}
use Rattle.graph.specs.declared.parts.Parts.{Parts}
use Rattle.graph.specs.declared.post.Post.{Post}
use Rattle.graph.specs.Maps.{object_at, held_by}
use Rattle.graph.specs.WellFormed.{are_ascending}
use Rattle.graph.specs.Whole.{IsGraph}
use Rattle.changes.specs.Following.{StepMeans, WriteTail}
use Rattle.changes.specs.Parts.{with_object, without_registers}
use Rattle.changes.specs.Posted.{Posted, IsPost, SomeStandsFor}
use Rattle.changes.specs.Ranges.{with_range}
use Rattle.changes.specs.Reaching.{reach_of, is_address_held}
use Rattle.changes.proofs.Accesses.{lives_replaced, kinds_ascend}
use Rattle.changes.proofs.KeptForm.{graph_kept}
use Rattle.changes.proofs.RangeForm.{range_fit}
use Rattle.changes.proofs.Reached.{only_one, IsReached, reach_graph, IsRoomAt, room_at}
use Rattle.changes.proofs.RegisterForm.{graph_without}
use Rattle.changes.proofs.RegistersChanged.{held_without}
use Rattle.range_steps.specs.Filling.{Fills, FaultsFilling, fills_zeros, class_filled, bytes_filled, fill_post}
use Rattle.range_steps.proofs.FillSound.{fill_held, fill_sound, fill_kinds}
use Rattle.range_steps.proofs.FillExact.{target, target_value, source, source_value, post_suc, fill_follows}
use Rattle.range_steps.proofs.FillMet.{onward, fill_met}

-- a graph with bytes of one class, in which no edge lies, in a range of a live region is a graph
pub graph_filled : (parts : Parts) (key from count class : ℕ) (object : Object) → IsGraph parts → object_at parts.objects key ≡ Some object → object.shape ≡ RegionShape → object.live ≡ true → from + count ≤ object.size →
    IsGraph (with_object key (with_range object from count [] (replicate count class)) parts)
graph_filled parts key from count class object graph stands region live room =
    graph_kept parts key object (with_range object from count [] (replicate count class)) stands region region refl graph
    (range_fit parts graph.well_formed key object stands region live from count [] (replicate count class) room
    (record { many = length-replicate count class; holds = refl; home = refl; lie = refl; order = refl; sizes = refl; fits = refl; nonzero = refl }))

module _ (parts : Parts) (graph : IsGraph parts) (at from : ℕ) (address : is_address_held parts at ≡ true) (value_held : IsSome (held_by parts.registers from)) where
  abbrev gone : List ℕ
  gone = at ∷ from ∷ []

  abbrev zeros : Bool
  zeros = fills_zeros (source_value parts graph at from address value_held).value

  fill_ascending : (count : ℕ) → are_ascending (fill_post parts at from count).kinds ≡ true
  fill_ascending zero =
      let aimed = target parts graph at from address value_held in
      let given = source parts graph at from address value_held in
      ap (λ (p : Posted). are_ascending p.kinds) (fill_held parts at from zero aimed.0 given.0 aimed.1 given.1)
  fill_ascending (suc more) =
      ap (λ (p : Posted). are_ascending p.kinds) (post_suc parts graph at from address value_held more)
      ∙ kinds_ascend parts (reach_of parts (target parts graph at from address value_held).0 (suc more)) (onward parts graph at from address value_held more) (λ key start object. refl)

  fill_tail : (count : ℕ) (after : Parts) → Contains (fill_post parts at from count).graphs after → WriteTail parts gone after
  fill_tail zero after among =
      let aimed = target parts graph at from address value_held in
      let given = source parts graph at from address value_held in
      subst (WriteTail parts gone) (only_one (without_registers gone parts) after (subst (λ (p : Posted). Contains p.graphs after) (fill_held parts at from zero aimed.0 given.0 aimed.1 given.1) among))
      (record {
        keeps = record { graph = graph_without gone parts graph; ports = refl; variables = refl; unequal = refl; lives = λ key. refl; values = λ key some. refl };
        registers = held_without gone parts;
      })
  fill_tail (suc more) after among = subst (WriteTail parts gone) same tail
    where
      reached : IsReached parts (reach_of parts (target parts graph at from address value_held).0 (suc more)) (bytes_filled parts gone (suc more) zeros) after
      reached = reach_graph parts (reach_of parts (target parts graph at from address value_held).0 (suc more)) (bytes_filled parts gone (suc more) zeros) after
          (subst (λ (p : Posted). Contains p.graphs after) (post_suc parts graph at from address value_held more) among)

      room : IsRoomAt parts (target parts graph at from address value_held).0 (suc more) reached.key reached.from reached.object
      room =
          let value = target_value parts graph at from address value_held in
          room_at parts (target parts graph at from address value_held).0 (suc more) reached.key reached.from reached.object value.value graph.well_formed value.is value.names reached.is reached.stands

      filled : Object
      filled = with_range reached.object reached.from (suc more) [] (replicate (suc more) (class_filled zeros))

      middle : Parts
      middle = with_object reached.key filled parts

      same : without_registers gone middle ≡ after
      same = only_one (without_registers gone middle) after reached.among

      tail : WriteTail parts gone (without_registers gone middle)
      tail = record {
        keeps = record {
          graph = graph_without gone middle (graph_filled parts reached.key reached.from (suc more) (class_filled zeros) reached.object graph reached.stands room.region room.live room.room);
          ports = refl;
          variables = refl;
          unequal = refl;
          lives = lives_replaced reached.key reached.object filled parts reached.stands refl;
          values = λ key some. refl;
        };
        registers = held_without gone middle;
      }

pub fill_means : (parts : Parts) (at from count : ℕ) (given : Post) → IsGraph parts → is_address_held parts at ≡ true → IsSome (held_by parts.registers from) → IsPost (fill_post parts at from count) given →
    StepMeans parts (Fills at from count) (λ kind. FaultsFilling at from count kind) (WriteTail parts (at ∷ from ∷ [])) given
fill_means parts at from count given graph address value_held is = record {
  sound = λ state next is_state stands steps precise.
      subst (λ (graphs : List Parts). SomeStandsFor graphs next) (sym is.graphs) (fill_sound parts graph at from address count state next stands steps (λ any. precise (is.loss ∙ any)));
  exact = λ after next none among is_state stands.
      fill_follows parts graph at from address value_held count (sym is.loss ∙ none) next is_state
      (record { graph = after; among = subst (λ (graphs : List Parts). Contains graphs after) is.graphs among; stands = stands });
  kinds = λ state kind stands faults. subst (λ (kinds : List ℕ). Contains kinds kind) (sym is.kinds) (fill_kinds parts graph at from address count state kind stands faults);
  met = λ kind precise listed. fill_met parts graph at from address value_held count kind (λ any. precise (is.loss ∙ any)) (subst (λ (kinds : List ℕ). Contains kinds kind) is.kinds listed);
  ascending = ap are_ascending is.kinds ∙ fill_ascending parts graph at from address value_held count;
  tail = λ after among. fill_tail parts graph at from address value_held count after (subst (λ (graphs : List Parts). Contains graphs after) is.graphs among);
}
