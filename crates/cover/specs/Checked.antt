-- What is asked of a pairing that is finished: each clause holds of it, or of none.
use Rattle.std.specs.Prelude.{◌≡◌, ℕ, ◌<◌, Bool, true, false, List, length, Option, None, Some, slice_get, slice_index_or}
use Rattle.graph.specs.declared.edges.HasValue.{HasValue}
use Rattle.graph.specs.declared.object.Object.{Object}
use Rattle.graph.specs.declared.parts.Pair.{Pair}
use Rattle.graph.specs.Meaning.{Maps}
use Rattle.graph.specs.Nodes.{links_in, node_of}
use Rattle.planes.specs.Lanes.{are_at_most}
use Rattle.cover.specs.declared.content.Content.{Content}
use Rattle.cover.specs.declared.content.Content.TheVariants.{Fixed, Leads, Kept}
use Rattle.cover.specs.declared.found.Found.{Found}
use Rattle.cover.specs.Covers.{content, Pairing, Values, Objects, IsIn, IsCover, IsLeast, FitsAt, StandsIn, IsAddress, IsApart, IsPairOf, AreLinksAlike, known, AreVariablesPaired, AreRegistersPaired, ArePortsPaired}
use Rattle.cover.specs.Found.{pairing_of, IsSound, IsFollowed}

-- nothing covers
pub record IsUncovered (wide narrow : Maps) : Type 0 where
  pub none : (pairing : Pairing) → IsCover wide narrow pairing → IsLeast wide narrow pairing → ⊥

-- all that is forced is paired
pub record IsFinished (wide narrow : Maps) (found : Found) : Type 0 where
  pub sound : IsSound wide narrow found
  pub variables : AreVariablesPaired wide narrow (pairing_of found)
  pub registers : AreRegistersPaired wide narrow (pairing_of found)
  pub ports : ArePortsPaired wide narrow (pairing_of found)
  pub linked : (one : ℕ) → IsFollowed wide narrow found one

-- it is, or nothing covers
pub record Finishes (wide narrow : Maps) (found : Found) (fine : Bool) : Type 0 where
  pub finished : fine ≡ true → IsFinished wide narrow found
  pub clash : fine ≡ false → IsUncovered wide narrow

-- a clause holds, or nothing covers
pub record Settled (wide narrow : Maps) (clause : Type 0) (fine : Bool) : Type 0 where
  pub holds : fine ≡ true → clause
  pub clash : fine ≡ false → IsUncovered wide narrow

-- each value fits what it is paired with
abbrev pub AreFitting : Maps → Maps → Found → Type 0
AreFitting wide narrow found = (key : ℕ) (content : Content) → IsIn (pairing_of found) (Values key content) → FitsAt wide narrow (pairing_of found) key content

-- so many of them do
abbrev pub AreSomeFitting : Maps → Maps → Found → ℕ → Type 0
AreSomeFitting wide narrow found at = (key : ℕ) (content : Content) → key < at → IsIn (pairing_of found) (Values key content) → FitsAt wide narrow (pairing_of found) key content

-- an edge that holds an address has one of these at its range
abbrev pub StandsIfAddress : Maps → List HasValue → HasValue → Type 0
StandsIfAddress narrow ones edge = IsAddress (content narrow edge.value) → StandsIn ones edge

-- so have these edges
abbrev pub HaveAddresses : Maps → List HasValue → List HasValue → Type 0
HaveAddresses narrow ones others = (place : ℕ) (edge : HasValue) → slice_get others place ≡ Some edge → StandsIfAddress narrow ones edge

-- and so many of them
abbrev pub HaveSomeAddresses : Maps → List HasValue → List HasValue → ℕ → Type 0
HaveSomeAddresses narrow ones others at = (place : ℕ) (edge : HasValue) → place < at → slice_get others place ≡ Some edge → StandsIfAddress narrow ones edge

-- two objects look alike: what is asked of them but for the values that they name
pub record LooksAlike (narrow : Maps) (one other : Object) : Type 0 where
  pub live : other.live ≡ one.live
  pub kind : other.kind ≡ one.kind
  pub links : AreLinksAlike (links_in one.shape) (links_in other.shape)
  pub size : one.live ≡ true → other.size ≡ one.size
  pub classes : one.live ≡ true → are_at_most (node_of other).plane (node_of one).plane ≡ true
  pub addresses : one.live ≡ true → HaveAddresses narrow (node_of one).edges (node_of other).edges

pub record LookAlikeAt (wide narrow : Maps) (key with : ℕ) : Type 0 where
  pub one : Object
  pub other : Object
  pub one_stands : wide.objects key ≡ Some one
  pub other_stands : narrow.objects with ≡ Some other
  pub alike : LooksAlike narrow one other

-- objects that are paired do
abbrev pub AreAlike : Maps → Maps → Found → Type 0
AreAlike wide narrow found = (key with : ℕ) → IsIn (pairing_of found) (Objects key with) → LookAlikeAt wide narrow key with

abbrev pub AreSomeAlike : Maps → Maps → Found → ℕ → Type 0
AreSomeAlike wide narrow found at = (key with : ℕ) → key < at → IsIn (pairing_of found) (Objects key with) → LookAlikeAt wide narrow key with

-- the object with a key lives
abbrev pub LivesAt : (ℕ → Option Object) → ℕ → Type 0
LivesAt objects key = (object : Object) × (objects key ≡ Some object) × (object.live ≡ true)

-- it has a partner among these
abbrev pub HasPartnerAmong : List (Option ℕ) → ℕ → Type 0
HasPartnerAmong partners key = (with : ℕ) × (slice_index_or partners key None ≡ Some with)

-- so have so many of those that live
abbrev pub AreSomeLivePaired : (ℕ → Option Object) → List (Option ℕ) → ℕ → Type 0
AreSomeLivePaired objects partners at = (key : ℕ) → key < at → LivesAt objects key → HasPartnerAmong partners key

-- what is known of the values of a pair is apart
abbrev pub IsApartBy : Maps → Maps → Pairing → Pair → Type 0
IsApartBy wide narrow pairing pair = IsApart narrow (known wide pairing pair.left) (known wide pairing pair.right)

-- so it is of each unequal pair
abbrev pub ArePairsApart : Maps → Maps → Pairing → Type 0
ArePairsApart wide narrow pairing = (place : ℕ) (pair : Pair) → slice_get wide.unequal place ≡ Some pair → IsApartBy wide narrow pairing pair

abbrev pub AreSomePairsApart : Maps → Maps → Pairing → ℕ → Type 0
AreSomePairsApart wide narrow pairing at = (place : ℕ) (pair : Pair) → place < at → slice_get wide.unequal place ≡ Some pair → IsApartBy wide narrow pairing pair

-- none of so many unequal pairs is of these contents
abbrev pub IsNoneOf : Maps → Content → Content → ℕ → Type 0
IsNoneOf narrow one other at = (place : ℕ) (pair : Pair) → place < at → slice_get narrow.unequal place ≡ Some pair → IsPairOf narrow one other pair → ⊥

-- the key of its own that a content has
abbrev pub kept_of : Option Content → Option ℕ
kept_of None = None
kept_of (Some (Fixed number size)) = None
kept_of (Some (Leads object offset target)) = None
kept_of (Some (Kept key)) = Some key

-- the keys that are partners of so many values are marked, and none is of two
pub record Marking (found : Found) (marks : List Bool) (at : ℕ) : Type 0 where
  pub room : (one key : ℕ) → IsIn (pairing_of found) (Values one (Kept key)) → key < length marks
  pub marked : (one key : ℕ) → one < at → IsIn (pairing_of found) (Values one (Kept key)) → slice_index_or marks key false ≡ true
  pub only : (key : ℕ) → slice_index_or marks key false ≡ true → (one : ℕ) × (one < at) × IsIn (pairing_of found) (Values one (Kept key))
  pub apart : (one other key : ℕ) → one < at → other < at → IsIn (pairing_of found) (Values one (Kept key)) → IsIn (pairing_of found) (Values other (Kept key)) → one ≡ other

-- no value of the other graph that has a key of its own stands in two pairs
abbrev pub AreApartKept : Found → Type 0
AreApartKept found = (one other key : ℕ) → IsIn (pairing_of found) (Values one (Kept key)) → IsIn (pairing_of found) (Values other (Kept key)) → one ≡ other
