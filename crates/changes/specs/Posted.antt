-- What a step on a graph comes to, and what its graphs say of the states that follow.
use Rattle.std.specs.Prelude.{◌≡◌, ℕ, List, [], ◌∷◌, Option, None, Some, Contains, if◌then◌else◌}
use Rattle.bytes_core.specs.Fault.{null_pointer_dereference, access_outside_object, access_to_dead_object, access_through_invalid_address}
use Rattle.graph.specs.declared.object.Object.{Object}
use Rattle.graph.specs.declared.parts.Parts.{Parts}
use Rattle.graph.specs.declared.post.Post.{Post}
use Rattle.graph.specs.Maps.{object_at}
use Rattle.graph.specs.Meaning.{StandsFor}
use Rattle.graph.specs.State.{State}
use Rattle.changes.specs.declared.reach.Reach.{Reach}
use Rattle.changes.specs.declared.reach.Reach.TheVariants as to

-- the graphs that stand for what follows, the kinds of fault that are met, and the loss that is named
pub record Posted : Type 0 where
  pub graphs : List Parts
  pub kinds : List ℕ
  pub loss : Option ℕ

pub record IsPost (posted : Posted) (post : Post) : Type 0 where
  pub graphs : post.graphs ≡ posted.graphs
  pub kinds : post.kinds ≡ posted.kinds
  pub loss : post.loss ≡ posted.loss

abbrev pub no_post : Posted
no_post = record { graphs = []; kinds = []; loss = None }

abbrev pub fault_only : ℕ → Posted
fault_only kind = record { graphs = []; kinds = kind ∷ []; loss = None }

-- goes on with the key of what a register holds
abbrev pub on_held : Option ℕ → (ℕ → Posted) → Posted
on_held None onward = no_post
on_held (Some key) onward = onward key

abbrev pub on_object : Option Object → (Object → Posted) → Posted
on_object None onward = no_post
on_object (Some object) onward = onward object

-- the post of an access that leads to no object
abbrev pub reach_faults : Reach → Posted
reach_faults to.Nothing = no_post
reach_faults (to.Fault kind) = fault_only kind
reach_faults (to.Number small) = record {
  graphs = [];
  kinds = if small then null_pointer_dereference ∷ access_through_invalid_address ∷ [] else access_through_invalid_address ∷ [];
  loss = None;
}
reach_faults (to.Anything live) = record {
  graphs = [];
  kinds = if live then null_pointer_dereference ∷ access_outside_object ∷ access_to_dead_object ∷ access_through_invalid_address ∷ []
      else null_pointer_dereference ∷ access_to_dead_object ∷ access_through_invalid_address ∷ [];
  loss = Some 4;
}
reach_faults (to.Room key from) = no_post

-- goes on where an access leads to bytes of an object
abbrev pub on_reach : Parts → Reach → (ℕ → Object → ℕ → Posted) → Posted
on_reach parts to.Nothing onward = reach_faults to.Nothing
on_reach parts (to.Fault kind) onward = reach_faults (to.Fault kind)
on_reach parts (to.Number small) onward = reach_faults (to.Number small)
on_reach parts (to.Anything live) onward = reach_faults (to.Anything live)
on_reach parts (to.Room key from) onward = on_object (object_at parts.objects key) (λ object. onward key object from)

-- one of the graphs stands for the state
pub record SomeStandsFor (graphs : List Parts) (state : State) : Type 0 where
  pub graph : Parts
  pub among : Contains graphs graph
  pub stands : StandsFor graph state
