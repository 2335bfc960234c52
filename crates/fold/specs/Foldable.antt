-- Which two objects are neighbours that fold.
use Rattle.std.specs.Prelude.{◌≡◌, ℕ, ◌+◌, ◌<◌, Bool, true, false, ◌&&◌, ◌||◌, not, length, slice_get, nat_eq, nat_le, nat_lt, Option, None, Some, is_some}
use Rattle.fold.specs.declared.fold.Fold.{Fold}
use Rattle.graph.specs.declared.object.Object.{Object}
use Rattle.graph.specs.declared.value.Value.{Value}
use Rattle.graph.specs.declared.parts.Parts.{Parts}
use Rattle.graph.specs.Maps.{object_at}
use Rattle.graph.specs.Nodes.{node_of}
use Rattle.graph.specs.WellFormed.{IsWellFormed, is_within_limits, passes_at}
use Rattle.fold.specs.Candidates.{candidates}
use Rattle.fold.specs.Folded.{folded}
use Rattle.fold.specs.Holders.{is_one_free}
use Rattle.fold.specs.Linked.{onward, backward, leads_on, leads_back, is_list}
use Rattle.fold.specs.Standing.{others, are_met}

-- there is a link, and its value passes a test
abbrev pub link_passes : Parts → (Value → Bool) → Option ℕ → Bool
link_passes parts test None = false
link_passes parts test (Some key) = passes_at parts test key

-- the first one leads to the second one, at the place to which links lead; linked both ways, the second one leads back to the first. There is a link
-- on of the second one, and a link back of the first
abbrev pub are_linked : Parts → Fold → Object → Object → Bool
are_linked parts fold one other =
    link_passes parts (leads_on fold.second fold.head) (onward (length parts.values) fold one)
    && ((not fold.twofold || link_passes parts (leads_back fold.first fold.back) (backward (length parts.values) fold other))
    && (is_some (onward (length parts.values) fold other) && is_some (backward (length parts.values) fold one)))

-- the links lie in a node of this size, and lead into it
abbrev pub is_inside : Fold → ℕ → Bool
is_inside fold size = nat_lt fold.head size && (nat_le (fold.next + 8) size && (not fold.twofold || nat_le (fold.prev + 8) size))

-- two different live heap objects of one size, each a region or a segment of the fold's direction and places
abbrev pub may_be_neighbours : Fold → Object → Object → Bool
may_be_neighbours fold one other =
    not (nat_eq fold.first fold.second) && (is_list fold one && (is_list fold other && (nat_eq one.size other.size && is_inside fold one.size)))

-- such objects are linked, agree in all that is no link, and one of them at least is free, where that is asked
abbrev pub are_neighbours : Parts → Fold → Object → Object → Bool
are_neighbours parts fold one other =
    may_be_neighbours fold one other
    && (are_linked parts fold one other
    && (are_met parts fold (others fold (node_of one).edges) (others fold (node_of other).edges) && is_one_free parts fold one other))

abbrev pub neighbours_at : Parts → Fold → Option Object → Option Object → Bool
neighbours_at parts fold None other = false
neighbours_at parts fold (Some one) None = false
neighbours_at parts fold (Some one) (Some other) = are_neighbours parts fold one other

abbrev pub has_neighbours : Parts → Fold → Bool
has_neighbours parts fold = neighbours_at parts fold (object_at parts.objects fold.first) (object_at parts.objects fold.second)

-- Two objects are foldable where they are neighbours, and one segment in place of them makes a graph. Addresses that the fold gives up are not there
-- in what is folded, so where something else holds one there is no graph: an address of the second node where nodes are linked one way, and else one of the
-- first node of the second segment, or of the last node of the first.
pub record IsFoldable (parts : Parts) (fold : Fold) : Type 0 where
  pub neighbours : has_neighbours parts fold ≡ true
  pub well_formed : IsWellFormed (folded fold parts)
  pub within_limits : is_within_limits (folded fold parts) ≡ true

abbrev pub IsUnfoldable : Parts → Fold → Type 0
IsUnfoldable parts fold = IsFoldable parts fold → ⊥

-- the links name the fold, and none that they name before it is foldable
pub record IsFirstOf (parts : Parts) (fold : Fold) : Type 0 where
  pub place : ℕ
  pub among : slice_get (candidates parts) place ≡ Some fold
  pub none : (earlier : ℕ) (other : Fold) → earlier < place → slice_get (candidates parts) earlier ≡ Some other → IsUnfoldable parts other

-- the first fold, in the order of keys and then of places; None where no two objects are foldable
abbrev pub IsFirstFold : Parts → Option Fold → Type 0
IsFirstFold parts None = (fold : Fold) → IsUnfoldable parts fold
IsFirstFold parts (Some fold) = IsFoldable parts fold × IsFirstOf parts fold
