-- What is known of the post of a graph along an edge.
use Rattle.std.specs.Prelude.{Bool, false, not, ◌||◌, nat_le, length}
use Rattle.std.specs.List.{list_any}
use Rattle.graph.specs.declared.parts.Parts.{Parts}
use Rattle.graph.specs.declared.post.Post.{Post}
use Rattle.changes.specs.Posted.{IsPost}
use Rattle.flow.specs.declared.flow_graph.Flow.{Flow}
use Rattle.flow.specs.declared.flow_graph.FlowEdge.{FlowEdge}
use Rattle.flow.specs.declared.instruction.Instr.{Instr}
use Rattle.flow.specs.declared.instruction.Instr.TheVariants.{Number, Address, Move, Read, Write, Shift, ShiftBy, Compute, Convert, IfSame, IfDifferent, Allocate, AllocateNone, Release, Fill, Copy, Enter, Leave, Finish, Input, Call, Return, Close}
use Rattle.block_steps.specs.Blocks.{has_room}
use Rattle.settle.specs.Settled.{settled, is_too_large}
use Rattle.transfer.specs.Means.{EdgeMeans}
use Rattle.transfer.specs.Through.{goes_through}
use Rattle.transfer.specs.Together.{post_along}

-- it is the one of the definition, with what that means
pub record IsPostAlong (flow : Flow) (edge : FlowEdge) (parts : Parts) (post : Post) : Type 0 where
  pub is : IsPost (post_along flow edge.instr parts) post
  pub means : EdgeMeans flow edge.from edge.instr parts post

-- the graph has no room for what an instruction makes: an object for each variable that begins to stand or block that is allocated, and a pair
-- of a test whether two values are the same
abbrev pub is_full : Instr → Parts → Bool
is_full (Number into number size) parts = false
is_full (Address into variable) parts = false
is_full (Move into from) parts = false
is_full (Read into at size pointer) parts = false
is_full (Write at from size) parts = false
is_full (Shift into at by) parts = false
is_full (ShiftBy into at by scale) parts = false
is_full (Compute into op one other size signed) parts = false
is_full (Convert into from size signed) parts = false
is_full (IfSame one other) parts = nat_le 1073741823 (length parts.unequal)
is_full (IfDifferent one other) parts = nat_le 1073741823 (length parts.unequal)
is_full (Allocate into bytes zeroed) parts = not (has_room parts 1)
is_full (AllocateNone into) parts = false
is_full (Release at) parts = false
is_full (Fill at from length) parts = false
is_full (Copy to from length disjoint) parts = false
is_full (Enter variables) parts = not (has_room parts (length variables))
is_full (Leave variables) parts = false
is_full (Finish registers) parts = false
is_full (Input into size signed truth) parts = false
is_full (Call function arguments into) parts = false
is_full (Return from) parts = false
is_full Close parts = false

-- along an edge: a segment that is named is too large to be split, or there is no room in one of the graphs that the graph then is
abbrev pub is_full_along : Instr → Parts → Bool
is_full_along instr parts = is_too_large (goes_through instr) parts || list_any (is_full instr) (settled (goes_through instr) parts)
