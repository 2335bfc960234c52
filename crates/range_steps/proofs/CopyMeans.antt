-- What the post of a copy says, together, and what the graph keeps.
use Rattle.std.proofs.Common.{◌≡◌, ℕ, zero, suc, Bool, true, false, ◌&&◌, List, [], ◌∷◌, Option, None, Some, refl, sym, ◌∙◌, ap, subst}
use Rattle.std.specs.Prelude.{Contains}
use Rattle.graph.specs.declared.object.Object.{Object}
use Rattle.graph.specs.declared.parts.Parts.{Parts}
use Rattle.graph.specs.declared.post.Post.{Post}
use Rattle.graph.specs.Maps.{object_at}
use Rattle.graph.specs.WellFormed.{are_ascending}
use Rattle.graph.specs.Whole.{IsGraph}
use Rattle.changes.specs.declared.reach.Reach.{Reach}
use Rattle.changes.specs.declared.reach.Reach.TheVariants.{Nothing, Fault, Number, Anything, Room}
use Rattle.changes.specs.Following.{StepMeans, WriteTail}
use Rattle.changes.specs.Parts.{with_object, without_registers}
use Rattle.changes.specs.Posted.{Posted, IsPost, no_post, on_object, on_reach, reach_faults, SomeStandsFor}
use Rattle.changes.specs.Reaching.{reach_of, is_address_held}
use Rattle.changes.proofs.Accesses.{lives_replaced}
use Rattle.changes.proofs.Reached.{only_one, IsRoomAt, room_at}
use Rattle.changes.proofs.RegisterForm.{graph_without}
use Rattle.changes.proofs.RegistersChanged.{held_without}
use Rattle.range_steps.specs.Copies.{Copies, FaultsCopying}
use Rattle.range_steps.specs.Copying.{copied_object, overlap, object_written, object_copied, is_anywhere, may_overlap, with_overlap, copied_between, copy_post}
use Rattle.range_steps.proofs.Between.{post_held, no_overlap, never, IsCopied, copied_graph}
use Rattle.range_steps.proofs.CopySound.{copy_sound, copy_kinds}
use Rattle.range_steps.proofs.CopyExact.{source, source_value, target, target_value, post_suc, copy_follows}
use Rattle.range_steps.proofs.CopyMet.{copy_met}
use Rattle.range_steps.proofs.Moving.{graph_copied}

-- the kinds of a post ascend
any_ascends : (b live : Bool) → are_ascending (with_overlap b (reach_faults (Anything live))).kinds ≡ true
any_ascends true true = refl
any_ascends true false = refl
any_ascends false true = refl
any_ascends false false = refl

number_ascends : (small : Bool) → are_ascending (reach_faults (Number small)).kinds ≡ true
number_ascends true = refl
number_ascends false = refl

between_ascends : (parts : Parts) (gone : List ℕ) (disjoint : Bool) (count : ℕ) (source target : Reach) → are_ascending (copied_between parts gone disjoint count source target).kinds ≡ true
between_ascends parts gone disjoint count Nothing target = ap (λ (p : Posted). are_ascending p.kinds) (never disjoint (is_anywhere target) no_post)
between_ascends parts gone disjoint count (Fault kind) target = ap (λ (p : Posted). are_ascending p.kinds) (never disjoint (is_anywhere target) (reach_faults (Fault kind)))
between_ascends parts gone disjoint count (Number small) target = ap (λ (p : Posted). are_ascending p.kinds) (never disjoint (is_anywhere target) (reach_faults (Number small))) ∙ number_ascends small
between_ascends parts gone disjoint count (Anything live) target = any_ascends (disjoint && may_overlap parts count (Anything live) target) live
between_ascends parts gone disjoint count (Room key from) target = by_object (object_at parts.objects key)
  where
    last_ascends : (b : Bool) → are_ascending (with_overlap b no_post).kinds ≡ true
    last_ascends true = refl
    last_ascends false = refl

    by_bytes : (b : Bool) (object object' : Object) (other at : ℕ) → are_ascending (object_written parts gone b count object from other object' at).kinds ≡ true
    by_bytes true object object' other at = refl
    by_bytes false object object' other at = refl

    by_target : (object : Object) (target : Reach) → are_ascending (with_overlap (disjoint && may_overlap parts count (Room key from) target) (on_reach parts target (object_copied parts gone disjoint count key object from))).kinds ≡ true
    by_target object Nothing = ap (λ (p : Posted). are_ascending p.kinds) (no_overlap disjoint no_post)
    by_target object (Fault kind) = ap (λ (p : Posted). are_ascending p.kinds) (no_overlap disjoint (reach_faults (Fault kind)))
    by_target object (Number small) = ap (λ (p : Posted). are_ascending p.kinds) (no_overlap disjoint (reach_faults (Number small))) ∙ number_ascends small
    by_target object (Anything live) = any_ascends (disjoint && may_overlap parts count (Room key from) (Anything live)) live
    by_target object (Room other at) =
        ap (λ (p : Posted). are_ascending p.kinds) (no_overlap disjoint (on_reach parts (Room other at) (object_copied parts gone disjoint count key object from)))
        ∙ by_other (object_at parts.objects other)
      where
        by_other : (found : Option Object) → are_ascending (on_object found (λ object'. object_copied parts gone disjoint count key object from other object' at)).kinds ≡ true
        by_other None = refl
        by_other (Some object') = by_bytes (disjoint && overlap other at key from count) object object' other at

    by_object : (found : Option Object) → are_ascending (with_overlap (disjoint && may_overlap parts count (Room key from) target) (on_object found (λ object. on_reach parts target (object_copied parts gone disjoint count key object from)))).kinds ≡ true
    by_object None = last_ascends (disjoint && may_overlap parts count (Room key from) target)
    by_object (Some object) = by_target object target

module _ (parts : Parts) (graph : IsGraph parts) (to from : ℕ) (disjoint : Bool) (to_address : is_address_held parts to ≡ true) (from_address : is_address_held parts from ≡ true) where
  abbrev source_key : ℕ
  source_key = (source parts graph to from disjoint to_address from_address).0

  abbrev target_key : ℕ
  target_key = (target parts graph to from disjoint to_address from_address).0

  -- a graph that is emptied of registers alone
  emptied_tail : WriteTail parts (to ∷ from ∷ []) (without_registers (to ∷ from ∷ []) parts)
  emptied_tail = record {
    keeps = record {
      graph = graph_without (to ∷ from ∷ []) parts graph;
      ports = refl;
      variables = refl;
      unequal = refl;
      lives = λ key. refl;
      values = λ key some. refl;
    };
    registers = held_without (to ∷ from ∷ []) parts;
  }

  copy_tail : (length : ℕ) (after : Parts) → Contains (copy_post parts to from length disjoint).graphs after → WriteTail parts (to ∷ from ∷ []) after
  copy_tail zero after among =
      subst (WriteTail parts (to ∷ from ∷ []))
      (only_one (without_registers (to ∷ from ∷ []) parts) after (subst (λ (p : Posted). Contains p.graphs after)
      (post_held parts to from 0 target_key source_key disjoint (target parts graph to from disjoint to_address from_address).1 (source parts graph to from disjoint to_address from_address).1) among))
      emptied_tail
  copy_tail (suc more) after among = subst (WriteTail parts (to ∷ from ∷ [])) found.same tail
    where
      found : IsCopied parts (to ∷ from ∷ []) disjoint (suc more) (reach_of parts source_key (suc more)) (reach_of parts target_key (suc more)) after
      found = copied_graph parts (to ∷ from ∷ []) disjoint (suc more) (reach_of parts source_key (suc more)) (reach_of parts target_key (suc more)) after
          (subst (λ (p : Posted). Contains p.graphs after) (post_suc parts graph to from disjoint to_address from_address more) among)

      room : IsRoomAt parts source_key (suc more) found.key found.from found.object
      room =
          let value = source_value parts graph to from disjoint to_address from_address in
          room_at parts source_key (suc more) found.key found.from found.object value.value graph.well_formed value.is value.names found.source_is found.stands

      room' : IsRoomAt parts target_key (suc more) found.other found.at found.object'
      room' =
          let value = target_value parts graph to from disjoint to_address from_address in
          room_at parts target_key (suc more) found.other found.at found.object' value.value graph.well_formed value.is value.names found.target_is found.stands'

      middle : Parts
      middle = with_object found.other (copied_object found.object found.from found.object' found.at (suc more)) parts

      tail : WriteTail parts (to ∷ from ∷ []) (without_registers (to ∷ from ∷ []) middle)
      tail = record {
        keeps = record {
          graph = graph_without (to ∷ from ∷ []) middle
              (graph_copied parts graph found.key found.from (suc more) found.other found.at found.object found.object' found.stands room.region room.live room.room found.stands' room'.region room'.live room'.room);
          ports = refl;
          variables = refl;
          unequal = refl;
          lives = lives_replaced found.other found.object' (copied_object found.object found.from found.object' found.at (suc more)) parts found.stands' refl;
          values = λ key some. refl;
        };
        registers = held_without (to ∷ from ∷ []) middle;
      }

  -- kinds ascend
  copy_ascends : (length : ℕ) → are_ascending (copy_post parts to from length disjoint).kinds ≡ true
  copy_ascends zero =
      ap (λ (p : Posted). are_ascending p.kinds) (post_held parts to from 0 target_key source_key disjoint (target parts graph to from disjoint to_address from_address).1 (source parts graph to from disjoint to_address from_address).1)
  copy_ascends (suc more) =
      ap (λ (p : Posted). are_ascending p.kinds) (post_suc parts graph to from disjoint to_address from_address more)
      ∙ between_ascends parts (to ∷ from ∷ []) disjoint (suc more) (reach_of parts source_key (suc more)) (reach_of parts target_key (suc more))

pub copy_means : (parts : Parts) (to from length : ℕ) (disjoint : Bool) (given : Post) → IsGraph parts → is_address_held parts to ≡ true → is_address_held parts from ≡ true → IsPost (copy_post parts to from length disjoint) given →
    StepMeans parts (Copies to from length disjoint) (λ kind. FaultsCopying to from length disjoint kind) (WriteTail parts (to ∷ from ∷ [])) given
copy_means parts to from length disjoint given graph to_address from_address is = record {
  sound = λ state next is_state stands steps precise.
      subst (λ (graphs : List Parts). SomeStandsFor graphs next) (sym is.graphs) (copy_sound parts graph to from disjoint to_address from_address length state next stands steps (λ any. precise (is.loss ∙ any)));
  exact = λ after next none among is_state stands.
      copy_follows parts graph to from disjoint to_address from_address length after next (sym is.loss ∙ none) (subst (λ (graphs : List Parts). Contains graphs after) is.graphs among) is_state stands;
  kinds = λ state kind stands faults. subst (λ (kinds : List ℕ). Contains kinds kind) (sym is.kinds) (copy_kinds parts graph to from disjoint to_address from_address length state kind stands faults);
  met = λ kind precise listed. copy_met parts graph to from disjoint to_address from_address length kind (λ any. precise (is.loss ∙ any)) (subst (λ (kinds : List ℕ). Contains kinds kind) is.kinds listed);
  ascending = ap are_ascending is.kinds ∙ copy_ascends parts graph to from disjoint to_address from_address length;
  tail = λ after among. copy_tail parts graph to from disjoint to_address from_address length after (subst (λ (graphs : List Parts). Contains graphs after) is.graphs among);
}
