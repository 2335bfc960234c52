-- What calls of writes need where there is room.
use Rattle.std.proofs.Common.{◌≡◌, ℕ, true, List, [], ◌∷◌, Option, None, Some, sym, ◌∙◌, ap, subst}
use Rattle.std.specs.Prelude.{IfSome, if◌then◌else◌}
use Rattle.std.proofs.lemmas.Option.{same_Some, none-some}
use Rattle.graph.specs.declared.edges.HasValue.{HasValue}
use Rattle.graph.specs.declared.object.Object.{Object}
use Rattle.graph.specs.declared.parts.Parts.{Parts}
use Rattle.graph.specs.declared.post.Post.{Post}
use Rattle.graph.specs.declared.value.Value.{Value}
use Rattle.graph.specs.Maps.{object_at, value_at, held_by}
use Rattle.graph.specs.Sizes.{value_size}
use Rattle.graph.specs.WellFormed.{may_be_held}
use Rattle.graph.specs.Whole.{IsGraph}
use Rattle.changes.specs.Parts.{with_object, without_registers}
use Rattle.changes.specs.Places.{IsRoom}
use Rattle.changes.specs.Posted.{Posted, IsPost, on_object, on_reach}
use Rattle.changes.specs.Ranges.{cuts_none, written_object}
use Rattle.changes.specs.Reaching.{reach_of}
use Rattle.changes.proofs.Held.{held_value}
use Rattle.changes.proofs.RangeForm.{graph_written}
use Rattle.changes.proofs.RegisterForm.{graph_without}
use Rattle.changes.specs.Following.{holds_size}
use Rattle.reinterpret.specs.Exact.{IsWritable}
use Rattle.reinterpret.specs.Writing.{value_written, write_post}
use Rattle.changes.proofs.Accesses.{sized_at}
use Rattle.reinterpret.proofs.WriteSound.{post_held}

-- the parts after a write are those of a graph
pub written_ready : (parts copied written after : Parts) (gone : List ℕ) (key : ℕ) (edge : HasValue) (value : Value) → IsGraph parts → IsRoom parts key edge.at edge.size → IsWritable parts edge.value edge.size value → copied ≡ parts →
    IfSome (object_at copied.objects key) (λ object. written ≡ with_object key (written_object object edge value) copied) → after ≡ without_registers gone written → IsGraph after
written_ready parts copied written after gone key edge value graph room writable same is emptied =
    subst IsGraph (sym emptied) (graph_without gone written (subst IsGraph (sym (written_is parts copied written key edge value room same is))
    (graph_written parts key room.object edge value graph room.stands room.region room.live room.room writable.is writable.size_is writable.held)))
  where
    written_is : (parts copied written : Parts) (key : ℕ) (edge : HasValue) (value : Value) (room : IsRoom parts key edge.at edge.size) → copied ≡ parts →
        IfSome (object_at copied.objects key) (λ object. written ≡ with_object key (written_object object edge value) copied) → written ≡ with_object key (written_object room.object edge value) parts
    written_is parts copied written key edge value room same is =
        subst (λ (o : Option Object). IfSome o (λ object. written ≡ with_object key (written_object object edge value) parts)) room.stands
        (subst (λ (g : Parts). IfSome (object_at g.objects key) (λ object. written ≡ with_object key (written_object object edge value) g)) same is)

-- and its graph is the one of the post
pub written_posted : (parts copied written after : Parts) (gone : List ℕ) (key : ℕ) (edge : HasValue) (value : Value) (loss : Option ℕ) (post : Post) → IsRoom parts key edge.at edge.size → copied ≡ parts →
    IfSome (object_at copied.objects key) (λ object. written ≡ with_object key (written_object object edge value) copied) → after ≡ without_registers gone written →
    IfSome (object_at parts.objects key) (λ object. loss ≡ (if cuts_none edge.at edge.size object.edges then None else Some 3)) →
    IsPost (record { graphs = after ∷ []; kinds = []; loss = loss }) post →
    IsPost (on_object (object_at parts.objects key) (λ object. value_written parts gone edge.size edge.value (Some value) key object edge.at)) post
written_posted parts copied written after gone key edge value loss post room same is emptied loss_is posted =
    subst (λ (o : Option Object). IsPost (on_object o (λ object. value_written parts gone edge.size edge.value (Some value) key object edge.at)) post) (sym room.stands)
    (record {
      graphs = posted.graphs ∙ ap (λ (g : Parts). g ∷ []) (emptied ∙ ap (without_registers gone) written_is);
      kinds = posted.kinds;
      loss = posted.loss ∙ subst (λ (o : Option Object). IfSome o (λ object. loss ≡ (if cuts_none edge.at edge.size object.edges then None else Some 3))) room.stands loss_is;
    })
  where
    written_is : written ≡ with_object key (written_object room.object edge value) parts
    written_is =
        subst (λ (o : Option Object). IfSome o (λ object. written ≡ with_object key (written_object object edge value) parts)) room.stands
        (subst (λ (g : Parts). IfSome (object_at g.objects key) (λ object. written ≡ with_object key (written_object object edge value) g)) same is)

-- the value of the register that is written
pub writable_held : (parts : Parts) (register size key : ℕ) (value : Value) → IsGraph parts → holds_size parts register size ≡ true → held_by parts.registers register ≡ Some key → value_at parts.values key ≡ Some value → IsWritable parts key size value
writable_held parts register size key value graph sized held is =
    let found = sized_at parts register size sized in
    let same : found.key ≡ key = same_Some _ _ (sym found.held ∙ held) in
    let value_same : found.value ≡ value = same_Some _ _ (sym found.is ∙ ap (value_at parts.values) same ∙ is) in
    let may = held_value parts register key graph.well_formed held in
    record {
      is = is;
      size_is = ap value_size (sym value_same) ∙ found.size_is;
      held = subst (λ (v : Value). may_be_held v ≡ true) (same_Some _ _ (sym may.is ∙ is)) may.held;
    }

-- the post by what the registers hold
pub write_posted : (parts : Parts) (at size from target source : ℕ) (value : Value) (post : Post) → held_by parts.registers at ≡ Some target → held_by parts.registers from ≡ Some source → value_at parts.values source ≡ Some value →
    IsPost (on_reach parts (reach_of parts target size) (value_written parts (at ∷ from ∷ []) size source (Some value))) post → IsPost (write_post parts at size from) post
write_posted parts at size from target source value post at_held from_held is posted =
    subst (λ (p : Posted). IsPost p post) (sym (post_held parts at size from target source at_held from_held ∙ ap (λ (o : Option Value). on_reach parts (reach_of parts target size) (value_written parts (at ∷ from ∷ []) size source o)) is)) posted

-- a register that holds something
pub sized_there : (parts : Parts) (register size : ℕ) → holds_size parts register size ≡ true → held_by parts.registers register ≡ None → ⊥
sized_there parts register size sized none = let found = sized_at parts register size sized in none-some found.key (sym none ∙ found.held)
