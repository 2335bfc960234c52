-- What is found of an instruction in each of the graphs that a graph is.
use Rattle.std.specs.Prelude.{◌≡◌, ℕ, List, [], ◌∷◌, ◌++◌, map}
use Rattle.graph.specs.declared.parts.Parts.{Parts}
use Rattle.graph.specs.declared.post.Post.{Post}
use Rattle.changes.specs.Posted.{IsPost}
use Rattle.flow.specs.declared.flow_graph.Flow.{Flow}
use Rattle.flow.specs.declared.instruction.Instr.{Instr}
use Rattle.flow.specs.Standing.{stands_at, stands_after}
use Rattle.transfer.specs.Fitting.{FitWith}
use Rattle.transfer.specs.Means.{InstrMeans}
use Rattle.transfer.specs.Posts.{edge_post}
use Rattle.transfer.specs.Together.{posted_of, together}

-- the post of an instruction on a graph, with what that means
pub record IsPostIn (flow : Flow) (point : ℕ) (instr : Instr) (parts : Parts) (post : Post) : Type 0 where
  pub is : IsPost (edge_post flow instr parts) post
  pub means : InstrMeans flow point instr parts post
  pub fits : FitWith flow (stands_after flow instr (stands_at flow point)) post.graphs

-- one for each graph, in order
abbrev pub ArePostsIn : Flow → ℕ → Instr → List Parts → List Post → Type 0
ArePostsIn flow point instr [] [] = Unit {0}
ArePostsIn flow point instr [] (post ∷ posts) = ⊥
ArePostsIn flow point instr (parts ∷ rest) [] = ⊥
ArePostsIn flow point instr (parts ∷ rest) (post ∷ posts) = IsPostIn flow point instr parts post × ArePostsIn flow point instr rest posts

-- one more behind others
pub record IsMore (flow : Flow) (point : ℕ) (instr : Instr) (parts : Parts) (old new : List Post) : Type 0 where
  pub post : Post
  pub is : IsPostIn flow point instr parts post
  pub behind : new ≡ old ++ post ∷ []

-- all of them together
pub record IsPostOfAll (flow : Flow) (point : ℕ) (instr : Instr) (graphs : List Parts) (post : Post) : Type 0 where
  pub posts : List Post
  pub are : ArePostsIn flow point instr graphs posts
  pub is : IsPost (together (map posted_of posts)) post
