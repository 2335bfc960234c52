-- What calls of a copy need where there is room.
use Rattle.std.proofs.Common.{◌≡◌, ℕ, Bool, false, List, [], ◌∷◌, take, drop, Option, None, Some, sym, ◌∙◌, ap, subst}
use Rattle.std.specs.Prelude.{IfSome, if◌then◌else◌}
use Rattle.graph.specs.declared.edges.HasValue.{HasValue}
use Rattle.graph.specs.declared.object.Object.{Object}
use Rattle.graph.specs.declared.parts.Parts.{Parts}
use Rattle.graph.specs.declared.post.Post.{Post}
use Rattle.graph.specs.Maps.{object_at, held_by}
use Rattle.graph.specs.Whole.{IsGraph}
use Rattle.changes.specs.Parts.{with_object, without_registers}
use Rattle.changes.specs.Places.{IsRoom}
use Rattle.changes.specs.Posted.{Posted, IsPost, on_object}
use Rattle.changes.specs.Ranges.{with_range}
use Rattle.changes.proofs.RegisterForm.{graph_without}
use Rattle.range_steps.specs.Copying.{moved_edges, copied_object, copies_all, object_written, copied_by, copy_post}
use Rattle.range_steps.proofs.Between.{post_held}
use Rattle.range_steps.proofs.Moving.{graph_copied}

module _ (parts copied : Parts) (key from other at count : ℕ) (room : IsRoom parts key from count) (room' : IsRoom parts other at count)
    (is : IfSome (object_at parts.objects key) (λ source. IfSome (object_at parts.objects other) (λ target. copied ≡ with_object other (copied_object source from target at count) parts))) where
  copied_is : copied ≡ with_object other (copied_object room.object from room'.object at count) parts
  copied_is =
      subst (λ (o : Option Object). IfSome o (λ target. copied ≡ with_object other (copied_object room.object from target at count) parts)) room'.stands
      (subst (λ (o : Option Object). IfSome o (λ source. IfSome (object_at parts.objects other) (λ target. copied ≡ with_object other (copied_object source from target at count) parts))) room.stands is)

  -- the parts after a copy are those of a graph
  pub copied_ready : (after : Parts) (gone : List ℕ) → IsGraph parts → after ≡ without_registers gone copied → IsGraph after
  copied_ready after gone graph emptied =
      subst IsGraph (sym emptied) (graph_without gone copied (subst IsGraph (sym copied_is)
      (graph_copied parts graph key from count other at room.object room'.object room.stands room.region room.live room.room room'.stands room'.region room'.live room'.room)))

  -- and its graph is the one of the post
  pub copied_posted : (after : Parts) (gone : List ℕ) (loss : Option ℕ) (post : Post) → after ≡ without_registers gone copied →
      IfSome (object_at parts.objects key) (λ source. IfSome (object_at parts.objects other) (λ target. loss ≡ (if copies_all source from target at count then None else Some 3))) →
      IsPost (record { graphs = after ∷ []; kinds = []; loss = loss }) post →
      IsPost (on_object (object_at parts.objects key) (λ source. on_object (object_at parts.objects other) (λ target. object_written parts gone false count source from other target at))) post
  copied_posted after gone loss post emptied loss_is posted =
      subst (λ (o : Option Object). IsPost (on_object o (λ source. on_object (object_at parts.objects other) (λ target. object_written parts gone false count source from other target at))) post) (sym room.stands)
      (subst (λ (o : Option Object). IsPost (on_object o (λ target. object_written parts gone false count room.object from other target at)) post) (sym room'.stands)
      (record {
        graphs = posted.graphs ∙ ap (λ (g : Parts). g ∷ []) (emptied ∙ ap (without_registers gone) copied_is);
        kinds = posted.kinds;
        loss = posted.loss ∙ subst (λ (o : Option Object). IfSome o (λ target. loss ≡ (if copies_all room.object from target at count then None else Some 3))) room'.stands
            (subst (λ (o : Option Object). IfSome o (λ source. IfSome (object_at parts.objects other) (λ target. loss ≡ (if copies_all source from target at count then None else Some 3)))) room.stands loss_is);
      }))

-- what the range of an object gets, in terms of the object that is copied
pub source_copied : (parts copied after : Parts) (key from other at count : ℕ) (source : Object) (edges : List HasValue) → object_at parts.objects key ≡ Some source → copied ≡ parts → edges ≡ moved_edges source.edges from count at →
    IfSome (object_at copied.objects other) (λ target. after ≡ with_object other (with_range target at count edges (take count (drop from source.plane))) copied) →
    IfSome (object_at parts.objects key) (λ source. IfSome (object_at parts.objects other) (λ target. after ≡ with_object other (copied_object source from target at count) parts))
source_copied parts copied after key from other at count source edges stands same moved is =
    subst (λ (o : Option Object). IfSome o (λ source. IfSome (object_at parts.objects other) (λ target. after ≡ with_object other (copied_object source from target at count) parts))) (sym stands)
    (subst (λ (g : Parts). IfSome (object_at g.objects other) (λ target. after ≡ with_object other (copied_object source from target at count) g)) same
    (subst (λ (es : List HasValue). IfSome (object_at copied.objects other) (λ target. after ≡ with_object other (with_range target at count es (take count (drop from source.plane))) copied)) moved is))

-- the post by what the registers hold
pub copy_posted : (parts : Parts) (to from length target source : ℕ) (disjoint : Bool) (post : Post) → held_by parts.registers to ≡ Some target → held_by parts.registers from ≡ Some source →
    IsPost (copied_by parts (to ∷ from ∷ []) disjoint length source target) post → IsPost (copy_post parts to from length disjoint) post
copy_posted parts to from length target source disjoint post to_held from_held posted =
    subst (λ (p : Posted). IsPost p post) (sym (post_held parts to from length target source disjoint to_held from_held)) posted
