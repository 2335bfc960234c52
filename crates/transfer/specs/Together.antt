-- The posts of several graphs together.
use Rattle.std.specs.Prelude.{ℕ, Bool, false, ◌&&◌, List, [], ◌∷◌, length, map, flat_map, nat_eq, nat_lt, Option, None, Some, if◌then◌else◌}
use Rattle.std.specs.List.{list_any}
use Rattle.std.specs.Option.{option_map_or}
use Rattle.graph.specs.declared.parts.Parts.{Parts}
use Rattle.graph.specs.declared.post.Post.{Post}
use Rattle.changes.specs.Posted.{Posted}
use Rattle.flow.specs.declared.flow_graph.Flow.{Flow}
use Rattle.flow.specs.declared.instruction.Instr.{Instr}
use Rattle.settle.specs.Settled.{settled}
use Rattle.transfer.specs.Posts.{edge_post}
use Rattle.transfer.specs.Through.{goes_through}

-- what a post is
abbrev pub posted_of : Post → Posted
posted_of post = record { graphs = post.graphs; kinds = post.kinds; loss = post.loss }

-- ascending kinds with one more, and with some more
abbrev pub with_kind : ℕ → List ℕ → List ℕ
with_kind kind [] = kind ∷ []
with_kind kind (first ∷ rest) = if nat_lt kind first then kind ∷ first ∷ rest else (if nat_eq kind first then first ∷ rest else first ∷ with_kind kind rest)

abbrev pub with_kinds : List ℕ → List ℕ → List ℕ
with_kinds [] kinds = kinds
with_kinds (kind ∷ rest) kinds = with_kinds rest (with_kind kind kinds)

-- these kinds and those of each post, in ascending order
abbrev pub kinds_with : List ℕ → List Posted → List ℕ
kinds_with known [] = known
kinds_with known (first ∷ rest) = kinds_with (with_kinds known first.kinds) rest

abbrev pub lesser_loss : Option ℕ → Option ℕ → Option ℕ
lesser_loss None other = other
lesser_loss (Some one) None = Some one
lesser_loss (Some one) (Some other) = Some (if nat_lt other one then other else one)

-- the least of this loss and that of each post
abbrev pub least_loss : Option ℕ → List Posted → Option ℕ
least_loss known [] = known
least_loss known (first ∷ rest) = least_loss (lesser_loss known first.loss) rest

-- a post of an access through any word: loss 4 beside a kind
abbrev pub is_through_any : Posted → Bool
is_through_any posted = option_map_or (nat_eq 4) posted.loss false && nat_lt 0 (length posted.kinds)

-- Loss 4 beside a kind says that the graphs do not stand for all that follows. So it is the loss of all where it is that of one, whatever
-- else is lost.
abbrev pub loss_together : List Posted → Option ℕ
loss_together posts = if list_any is_through_any posts then Some 4 else least_loss None posts

abbrev pub together : List Posted → Posted
together posts = record { graphs = flat_map (λ posted. posted.graphs) posts; kinds = kinds_with [] posts; loss = loss_together posts }

-- The post of a graph: those of the graphs that it is where no register through which the instruction goes names a segment.
abbrev pub post_along : Flow → Instr → Parts → Posted
post_along flow instr parts = together (map (edge_post flow instr) (settled (goes_through instr) parts))
