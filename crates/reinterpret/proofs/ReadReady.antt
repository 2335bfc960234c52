-- What the calls of a read need, and what they come to.
use Rattle.std.proofs.Common.{◌≡◌, ℕ, ◌+◌, ◌≤◌, Bool, true, false, List, [], ◌∷◌, length, Option, None, Some, refl, sym, ◌∙◌, ap, subst, arith}
use Rattle.std.specs.Prelude.{IfSome}
use Rattle.std.specs.Option.{option_map_or}
use Rattle.std.proofs.lemmas.Option.{same_Some}
use Rattle.graph.specs.declared.object.Object.{Object}
use Rattle.graph.specs.declared.parts.Parts.{Parts}
use Rattle.graph.specs.declared.post.Post.{Post}
use Rattle.graph.specs.declared.value.Value.{Value}
use Rattle.graph.specs.declared.value.Value.TheVariants.{Const, Number}
use Rattle.graph.specs.Maps.{object_at, held_by}
use Rattle.graph.specs.Sizes.{is_scalar_size, is_sized}
use Rattle.graph.specs.WellFormed.{passes_at, may_be_held, may_stand_in, leads_to_object}
use Rattle.graph.specs.Whole.{IsGraph}
use Rattle.changes.specs.Parts.{with_object, with_value, with_register, without_registers}
use Rattle.changes.specs.Places.{IsRoom}
use Rattle.changes.specs.Posted.{Posted, IsPost, on_object, on_reach}
use Rattle.changes.specs.Ranges.{written_object}
use Rattle.changes.specs.Reaching.{reach_of}
use Rattle.changes.proofs.RangeForm.{fit_now, plane_long, graph_written}
use Rattle.changes.proofs.RegisterForm.{graph_without, graph_with}
use Rattle.changes.proofs.ValueForm.{IsFitValue, value_new, graph_with_value}
use Rattle.reinterpret.specs.Reading.{value_of, readable, unknown, one_graph, with_fresh, number_read, value_read, read_post}
use Rattle.reinterpret.specs.Writing.{edge_at}
use Rattle.reinterpret.proofs.Loaded.{value_of_passes}
use Rattle.reinterpret.proofs.ReadMeans.{region_held}
use Rattle.reinterpret.proofs.ReadSound.{read_held, readable_is, fresh_fit, zero_fit}

pub put_ready : (parts emptied after : Parts) (gone : List ℕ) (into key : ℕ) → IsGraph parts → passes_at parts may_be_held key ≡ true → emptied ≡ without_registers gone parts → after ≡ with_register into key emptied → IsGraph after
put_ready parts emptied after gone into key graph passes is put =
    subst IsGraph (sym (put ∙ ap (with_register into key) is)) (graph_with into key (without_registers gone parts) passes (graph_without gone parts graph))

pub put_posted : (parts emptied after : Parts) (gone : List ℕ) (into key : ℕ) (loss : Option ℕ) (post : Post) → emptied ≡ without_registers gone parts → after ≡ with_register into key emptied → IsPost (record { graphs = after ∷ []; kinds = []; loss = loss }) post →
    IsPost (one_graph (with_fresh gone into key parts) loss) post
put_posted parts emptied after gone into key loss post is put posted = subst (λ (g : Parts). IsPost (one_graph g loss) post) (put ∙ ap (with_register into key) is) posted

-- a value more

pub fit_value : (parts : Parts) (value : Value) → is_sized value ≡ true → leads_to_object parts value ≡ true → may_be_held value ≡ true → IsFitValue parts value
fit_value parts value sized leads held = record { sized = sized; leads = leads; held = held }

pub more_graph : (parts copied more : Parts) (value : Value) → IsGraph parts → IsFitValue parts value → copied ≡ parts → more ≡ with_value value copied → IsGraph more
more_graph parts copied more value graph fit same is = subst IsGraph (sym (is ∙ ap (with_value value) same)) (graph_with_value value parts graph fit)

pub more_held : (parts copied more : Parts) (value : Value) (key : ℕ) → IsGraph parts → IsFitValue parts value → copied ≡ parts → more ≡ with_value value copied → key ≡ length parts.values → passes_at more may_be_held key ≡ true
more_held parts copied more value key graph fit same is key_is =
    ap (λ (g : Parts). passes_at g may_be_held key) (is ∙ ap (with_value value) same) ∙ ap (passes_at (with_value value parts) may_be_held) key_is
    ∙ ap (λ (o : Option Value). option_map_or may_be_held o false) (value_new value parts graph) ∙ fit.held

pub more_posted : (parts copied more : Parts) (value : Value) (gone : List ℕ) (into key : ℕ) (loss : Option ℕ) (post : Post) → copied ≡ parts → more ≡ with_value value copied → key ≡ length parts.values →
    IsPost (one_graph (with_fresh gone into key more) loss) post → IsPost (one_graph (with_fresh gone into (length parts.values) (with_value value parts)) loss) post
more_posted parts copied more value gone into key loss post same is key_is posted =
    subst (λ (k : ℕ). IsPost (one_graph (with_fresh gone into k (with_value value parts)) loss) post) key_is (subst (λ (g : Parts). IsPost (one_graph (with_fresh gone into key g) loss) post) (is ∙ ap (with_value value) same) posted)

-- a number more, which the object holds

pub more_room : (parts copied more : Parts) (value : Value) (key from count : ℕ) → IsRoom parts key from count → copied ≡ parts → more ≡ with_value value copied → IsRoom more key from count
more_room parts copied more value key from count room same is =
    subst (λ (g : Parts). IsRoom g key from count) (sym (is ∙ ap (with_value value) same)) (record { object = room.object; stands = room.stands; live = room.live; region = room.region; room = room.room })

written_is : (parts copied more written : Parts) (size key from fresh : ℕ) → copied ≡ parts → more ≡ with_value (Number size) copied → fresh ≡ length parts.values → (room : IsRoom parts key from size) →
    IfSome (object_at more.objects key) (λ object. written ≡ with_object key (written_object object (edge_at from size fresh) (Number size)) more) →
    written ≡ with_object key (written_object room.object (edge_at from size (length parts.values)) (Number size)) (with_value (Number size) parts)
written_is parts copied more written size key from fresh same is fresh_is room written_by =
    subst (λ (o : Option Object). IfSome o (λ object. written ≡ with_object key (written_object object (edge_at from size (length parts.values)) (Number size)) (with_value (Number size) parts))) room.stands
    (subst (λ (k : ℕ). IfSome (object_at parts.objects key) (λ object. written ≡ with_object key (written_object object (edge_at from size k) (Number size)) (with_value (Number size) parts))) fresh_is
    (subst (λ (g : Parts). IfSome (object_at g.objects key) (λ object. written ≡ with_object key (written_object object (edge_at from size fresh) (Number size)) g)) (is ∙ ap (with_value (Number size)) same) written_by))

number_fit : (parts : Parts) (size : ℕ) → is_scalar_size size ≡ true → IsFitValue parts (Number size)
number_fit parts size scalar = record { sized = scalar; leads = refl; held = refl }

pub number_more : (parts copied more : Parts) (size : ℕ) → IsGraph parts → is_scalar_size size ≡ true → copied ≡ parts → more ≡ with_value (Number size) copied → IsGraph more
number_more parts copied more size graph scalar same is = more_graph parts copied more (Number size) graph (number_fit parts size scalar) same is

pub number_graph : (parts copied more written : Parts) (size key from fresh : ℕ) → IsGraph parts → is_scalar_size size ≡ true → copied ≡ parts → more ≡ with_value (Number size) copied → fresh ≡ length parts.values → IsRoom parts key from size →
    IfSome (object_at more.objects key) (λ object. written ≡ with_object key (written_object object (edge_at from size fresh) (Number size)) more) → IsGraph written
number_graph parts copied more written size key from fresh graph scalar same is fresh_is room written_by =
    subst IsGraph (sym (written_is parts copied more written size key from fresh same is fresh_is room written_by))
    (graph_written (with_value (Number size) parts) key room.object (edge_at from size (length parts.values)) (Number size) (graph_with_value (Number size) parts graph (number_fit parts size scalar))
    room.stands room.region room.live room.room (value_new (Number size) parts graph) refl refl)

pub number_held_in : (parts copied more written : Parts) (size key from fresh : ℕ) → IsGraph parts → copied ≡ parts → more ≡ with_value (Number size) copied → fresh ≡ length parts.values → IsRoom parts key from size →
    IfSome (object_at more.objects key) (λ object. written ≡ with_object key (written_object object (edge_at from size fresh) (Number size)) more) → passes_at written may_be_held fresh ≡ true
number_held_in parts copied more written size key from fresh graph same is fresh_is room written_by =
    ap (λ (g : Parts). passes_at g may_be_held fresh) (written_is parts copied more written size key from fresh same is fresh_is room written_by)
    ∙ ap (passes_at (with_value (Number size) parts) may_be_held) fresh_is ∙ ap (λ (o : Option Value). option_map_or may_be_held o false) (value_new (Number size) parts graph)

pub number_posted : (parts copied more written : Parts) (gone : List ℕ) (into size key from fresh : ℕ) (post : Post) → copied ≡ parts → more ≡ with_value (Number size) copied → fresh ≡ length parts.values → IsRoom parts key from size →
    IfSome (object_at more.objects key) (λ object. written ≡ with_object key (written_object object (edge_at from size fresh) (Number size)) more) → IsPost (one_graph (with_fresh gone into fresh written) None) post →
    IsPost (on_object (object_at parts.objects key) (λ object. number_read parts gone into size key object from)) post
number_posted parts copied more written gone into size key from fresh post same is fresh_is room written_by posted =
    subst (λ (o : Option Object). IsPost (on_object o (λ object. number_read parts gone into size key object from)) post) (sym room.stands)
    (subst (λ (k : ℕ). IsPost (one_graph (with_fresh gone into k (with_object key (written_object room.object (edge_at from size (length parts.values)) (Number size)) (with_value (Number size) parts))) None) post) fresh_is
    (subst (λ (g : Parts). IsPost (one_graph (with_fresh gone into fresh g) None) post) (written_is parts copied more written size key from fresh same is fresh_is room written_by) posted))

-- the value of an edge may be held
pub read_value_held : (parts : Parts) (pointer : Bool) (key from size value : ℕ) (object : Object) → IsGraph parts → IsRoom parts key from size → object_at parts.objects key ≡ Some object → readable parts pointer (value_of object.edges from size) ≡ Some value → passes_at parts may_be_held value ≡ true
read_value_held parts pointer key from size value object graph room stands read =
    let same = same_Some _ _ (sym room.stands ∙ stands) in
    let region = ap (λ (o : Object). o.shape) (sym same) ∙ room.region in
    let fit = fit_now parts graph.well_formed key object stands region (ap (λ (o : Object). o.live) (sym same) ∙ room.live) in
    let found = readable_is parts pointer object.edges from size value fit.sizes read in
    let home = value_of_passes (λ edge. passes_at parts (may_stand_in key) edge.value) object.edges from size value found.is fit.home in
    let may = subst (λ (o : Option Value). option_map_or (may_stand_in key) o false ≡ true) found.stands home in
    ap (λ (o : Option Value). option_map_or may_be_held o false) found.stands ∙ region_held parts key object value found.value graph.well_formed stands region found.stands may

-- the post by what the register holds
pub read_posted : (parts : Parts) (at size : ℕ) (pointer : Bool) (into target : ℕ) (post : Post) → held_by parts.registers at ≡ Some target → IsPost (on_reach parts (reach_of parts target size) (value_read parts (at ∷ []) into size pointer)) post →
    IsPost (read_post parts at size pointer into) post
read_posted parts at size pointer into target post held posted = subst (λ (p : Posted). IsPost p post) (sym (read_held parts at size pointer into target held)) posted

pub told_held : (parts : Parts) (pointer : Bool) (key from size value : ℕ) → IsGraph parts → (room : IsRoom parts key from size) → IfSome (object_at parts.objects key) (λ object. Some value ≡ readable parts pointer (value_of object.edges from size)) →
    passes_at parts may_be_held value ≡ true
told_held parts pointer key from size value graph room told =
    read_value_held parts pointer key from size value room.object graph room room.stands
    (sym (subst (λ (o : Option Object). IfSome o (λ object. Some value ≡ readable parts pointer (value_of object.edges from size))) room.stands told))

-- what is asked of the bytes of an object where there is room

pub plane_range : (parts : Parts) (key from size : ℕ) (object : Object) → IsGraph parts → IsRoom parts key from size → Some object ≡ object_at parts.objects key → from + size ≤ length object.plane
plane_range parts key from size object graph room stands =
    let same = same_Some _ _ (sym room.stands ∙ sym stands) in
    let long = plane_long parts graph.well_formed key room.object room.stands room.region room.live in
    subst (λ (o : Object). from + size ≤ length o.plane) same (let r = room.room in omega arith)

pub zero_sized : (parts : Parts) (size : ℕ) → is_scalar_size size ≡ true → is_sized (Const 0 size) ≡ true
zero_sized parts size scalar = (zero_fit parts size scalar).sized

pub unknown_fit : (parts : Parts) (pointer : Bool) (size : ℕ) (range : List ℕ) (value : Value) → is_scalar_size size ≡ true → value ≡ unknown pointer size range → IsFitValue parts value
unknown_fit parts pointer size range value scalar is = subst (IsFitValue parts) (sym is) (fresh_fit parts pointer size range scalar)
