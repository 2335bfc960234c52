-- When a graph shows a state with marks: it stands for the state, its edges are the pieces, each byte of which the graph says that it is 0 is one that the marks say is 0, and no value is a number of which nothing is known, but for
-- those that came from outside.
use Rattle.std.specs.Prelude.{◌≡◌, ℕ, zero, suc, ◌<◌, ◌≤◌, Bool, true, false, ◌&&◌, ◌||◌, List, [], ◌∷◌, length, get_or, nat_eq, nat_lt, Some, None, Contains, if◌then◌else◌}
use Rattle.std.specs.List.{list_all}
use Rattle.graph.specs.declared.edges.HasValue.{HasValue}
use Rattle.graph.specs.declared.object.Object.{Object}
use Rattle.graph.specs.declared.parts.Parts.{Parts}
use Rattle.graph.specs.declared.post.Post.{Post}
use Rattle.graph.specs.declared.value.Value.{Value}
use Rattle.graph.specs.declared.value.Value.TheVariants.{Const, Number, Any, Address}
use Rattle.graph.specs.Choices.{is_free}
use Rattle.graph.specs.Maps.{object_at, held_by}
use Rattle.graph.specs.Meaning.{maps_of, Assignment, Meets}
use Rattle.graph.specs.State.{State}
use Rattle.graph.specs.WellFormed.{passes_at}
use Rattle.plain.specs.Marks.{Mark, Unwritten, Zeroed, Piece, Marks, is_in_range}

-- a constant or an address
abbrev pub is_sure : Value → Bool
is_sure (Const number size) = true
is_sure (Number size) = false
is_sure Any = false
is_sure (Address object offset target) = true

-- a constant, or a number of four or eight bytes
abbrev pub is_told : Value → Bool
is_told (Const number size) = true
is_told (Number size) = nat_eq size 4 || nat_eq size 8
is_told Any = false
is_told (Address object offset target) = false

-- what a register may hold that holds a number from outside, or does not
abbrev pub may_show : Bool → Value → Bool
may_show true value = is_told value
may_show false value = is_sure value

-- the mark of a byte of a region: that of the edge in which it lies, or else by its class
abbrev pub bare_mark : ℕ → Mark
bare_mark zero = Zeroed
bare_mark (suc class) = Unwritten

abbrev pub mark_in : List HasValue → ℕ → Mark → Mark
mark_in [] place bare = bare
mark_in (edge ∷ rest) place bare = if is_in_range edge.at edge.size place then Piece edge.at edge.size else mark_in rest place bare

abbrev pub mark_at : Object → ℕ → Mark
mark_at object place = mark_in object.edges place (bare_mark (get_or object.plane place 0))

-- a byte that may be part of a pointer lies in no edge
abbrev pub is_loose_at : Object → ℕ → Bool
is_loose_at object place = nat_lt 1 (get_or object.plane place 0) && is_free object.edges place

-- with these words and blocks
pub record IsShownBy (parts : Parts) (state : State) (marks : Marks) (given : Assignment) : Type 0 where
  pub meets : Meets (maps_of parts) state given
  pub marked : (key number place : ℕ) (object : Object) → object_at parts.objects key ≡ Some object → object.live ≡ true → given.blocks key ≡ number ∷ [] → place < object.size →
      marks.of number place ≡ mark_at object place
  pub tight : (key place : ℕ) (object : Object) → object_at parts.objects key ≡ Some object → is_loose_at object place ≡ false
  pub edges : (key : ℕ) (object : Object) → object_at parts.objects key ≡ Some object → list_all (λ (edge : HasValue). passes_at parts is_sure edge.value) object.edges ≡ true
  pub registers : (register key : ℕ) → held_by parts.registers register ≡ Some key → passes_at parts (may_show (marks.input register)) key ≡ true

pub record IsShown (parts : Parts) (state : State) (marks : Marks) : Type 0 where
  pub given : Assignment
  pub by : IsShownBy parts state marks given

-- one of these graphs does
pub record IsShownAmong (graphs : List Parts) (state : State) (marks : Marks) : Type 0 where
  pub graph : Parts
  pub among : Contains graphs graph
  pub shown : IsShown graph state marks

-- a post that names no loss and has one graph at most, which shows each state that follows, with the marks behind the step
pub record IsPlainPost (Steps : State → State → Type 0) (state : State) (after : Marks) (post : Post) : Type 0 where
  pub loss : post.loss ≡ None
  pub single : length post.graphs ≤ 1
  pub shows : (next : State) → Steps state next → IsShownAmong post.graphs next after
