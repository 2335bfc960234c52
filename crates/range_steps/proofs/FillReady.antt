-- What calls of a fill need where there is room.
use Rattle.std.proofs.Common.{◌≡◌, ℕ, Bool, List, [], ◌∷◌, replicate, Option, Some, sym, ◌∙◌, ap, subst}
use Rattle.std.specs.Prelude.{IfSome}
use Rattle.graph.specs.declared.object.Object.{Object}
use Rattle.graph.specs.declared.parts.Parts.{Parts}
use Rattle.graph.specs.declared.post.Post.{Post}
use Rattle.graph.specs.declared.value.Value.{Value}
use Rattle.graph.specs.Maps.{object_at, value_at, held_by}
use Rattle.graph.specs.Whole.{IsGraph}
use Rattle.changes.specs.Parts.{with_object, without_registers}
use Rattle.changes.specs.Places.{IsRoom}
use Rattle.changes.specs.Posted.{Posted, IsPost, on_object}
use Rattle.changes.specs.Ranges.{cuts_none, with_range}
use Rattle.changes.proofs.RegisterForm.{graph_without}
use Rattle.range_steps.specs.Filling.{class_filled, loss_filled, bytes_filled, filled_by, fill_post}
use Rattle.range_steps.proofs.FillMeans.{graph_filled}
use Rattle.range_steps.proofs.FillSound.{fill_held}

module _ (parts copied filled : Parts) (key from count class : ℕ) (room : IsRoom parts key from count) (same : copied ≡ parts)
    (is : IfSome (object_at copied.objects key) (λ object. filled ≡ with_object key (with_range object from count [] (replicate count class)) copied)) where
  filled_is : filled ≡ with_object key (with_range room.object from count [] (replicate count class)) parts
  filled_is =
      subst (λ (o : Option Object). IfSome o (λ object. filled ≡ with_object key (with_range object from count [] (replicate count class)) parts)) room.stands
      (subst (λ (g : Parts). IfSome (object_at g.objects key) (λ object. filled ≡ with_object key (with_range object from count [] (replicate count class)) g)) same is)

  -- the parts after a fill are those of a graph
  pub filled_ready : (after : Parts) (gone : List ℕ) → IsGraph parts → after ≡ without_registers gone filled → IsGraph after
  filled_ready after gone graph emptied =
      subst IsGraph (sym emptied) (graph_without gone filled (subst IsGraph (sym filled_is)
      (graph_filled parts key from count class room.object graph room.stands room.region room.live room.room)))

  -- and its graph is the one of the post
  pub filled_posted : (after : Parts) (gone : List ℕ) (zeros : Bool) (loss : Option ℕ) (post : Post) → class ≡ class_filled zeros → after ≡ without_registers gone filled →
      IfSome (object_at parts.objects key) (λ object. loss ≡ loss_filled (cuts_none from count object.edges) zeros) → IsPost (record { graphs = after ∷ []; kinds = []; loss = loss }) post →
      IsPost (on_object (object_at parts.objects key) (λ object. bytes_filled parts gone count zeros key object from)) post
  filled_posted after gone zeros loss post class_is emptied loss_is posted =
      subst (λ (o : Option Object). IsPost (on_object o (λ object. bytes_filled parts gone count zeros key object from)) post) (sym room.stands)
      (record {
        graphs = posted.graphs ∙ ap (λ (g : Parts). g ∷ [])
            (emptied ∙ ap (without_registers gone) (filled_is ∙ ap (λ (c : ℕ). with_object key (with_range room.object from count [] (replicate count c)) parts) class_is));
        kinds = posted.kinds;
        loss = posted.loss ∙ subst (λ (o : Option Object). IfSome o (λ object. loss ≡ loss_filled (cuts_none from count object.edges) zeros)) room.stands loss_is;
      })

-- the post by what the registers hold
pub fill_posted : (parts : Parts) (at from count target source : ℕ) (value : Value) (post : Post) → held_by parts.registers at ≡ Some target → held_by parts.registers from ≡ Some source → value_at parts.values source ≡ Some value →
    IsPost (filled_by parts (at ∷ from ∷ []) count target (Some value)) post → IsPost (fill_post parts at from count) post
fill_posted parts at from count target source value post at_held from_held is posted =
    subst (λ (p : Posted). IsPost p post) (sym (fill_held parts at from count target source at_held from_held ∙ ap (filled_by parts (at ∷ from ∷ []) count target) is)) posted
