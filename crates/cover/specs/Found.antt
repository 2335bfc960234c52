-- What is paired so far, as a pairing; and what becomes of it where two more objects are paired.
use Rattle.std.specs.Prelude.{◌≡◌, ◌≢◌, ◌⊎◌, ℕ, suc, ◌+◌, ◌<◌, ◌≤◌, Bool, true, false, List, [], ◌∷◌, ◌++◌, length, Option, None, Some, slice_index_or, slice_get, ℤ, Contains, get_or}
use Rattle.std.specs.List.{All}
use Rattle.cover.specs.declared.found.Found.{Found}
use Rattle.cover.specs.declared.content.Content.{Content}
use Rattle.cover.specs.declared.content.Content.TheVariants.{Fixed, Leads, Kept}
use Rattle.graph.specs.declared.value.Target.{Target}
use Rattle.graph.specs.declared.value.Value.{Value}
use Rattle.graph.specs.declared.value.Value.TheVariants.{Const, Number, Any, Address}
use Rattle.graph.specs.Meaning.{Maps}
use Rattle.graph.specs.Nodes.{links_in, node_of}
use Rattle.graph.specs.declared.edges.HasValue.{HasValue}
use Rattle.graph.specs.declared.object.Links.{Links as ObjectLinks}
use Rattle.graph.specs.declared.object.Object.{Object}
use Rattle.graph.specs.declared.template.Node.{Node}
use Rattle.cover.specs.Covers.{held_in, content, Pairing, AreEndsPaired, Link, Objects, Values, IsReached, IsIn, IsCover}

abbrev pub pairing_of : Found → Pairing
pairing_of found = record {
  object = λ key. slice_index_or found.objects.items key None;
  back = λ key. slice_index_or found.back.items key None;
  value = λ key. slice_index_or found.values.items key None;
}

-- how many have no partner
abbrev pub alone : List (Option ℕ) → ℕ
alone [] = 0
alone (None ∷ rest) = suc (alone rest)
alone (Some with ∷ rest) = alone rest

-- there is a place for each object and each value, and as many objects stand in the queue as are paired
pub record HasPlaces (wide narrow : Maps) (found : Found) : Type 0 where
  pub objects : (key : ℕ) → length found.objects.items ≤ key → wide.objects key ≡ None
  pub back : (key : ℕ) → length found.back.items ≤ key → narrow.objects key ≡ None
  pub values : (key : ℕ) → length found.values.items ≤ key → wide.values key ≡ None
  pub queue : length found.queue.items + alone found.objects.items ≡ length found.objects.items
  pub few_objects : length found.objects.items < 4294967296
  pub few_values : length found.values.items < 4294967296

-- a partner other than this one
abbrev pub HasOther : Option ℕ → ℕ → Type 0
HasOther None with = ⊥
HasOther (Some other) with = other ≢ with

pub record Pairs (before after : Found) (one other : ℕ) (fine : Bool) : Type 0 where
  pub values : after.values.items ≡ before.values.items
  pub objects_length : length after.objects.items ≡ length before.objects.items
  pub back_length : length after.back.items ≡ length before.back.items
  -- what was paired stays so
  pub objects : (key with : ℕ) → slice_index_or before.objects.items key None ≡ Some with → slice_index_or after.objects.items key None ≡ Some with
  pub back : (key with : ℕ) → slice_index_or before.back.items key None ≡ Some with → slice_index_or after.back.items key None ≡ Some with
  pub paired : fine ≡ true → (slice_index_or after.objects.items one None ≡ Some other) × (slice_index_or after.back.items other None ≡ Some one)
  -- and nothing else is
  pub new : (key with : ℕ) → slice_index_or after.objects.items key None ≡ Some with →
      (slice_index_or before.objects.items key None ≡ Some with) ⊎ ((key ≡ one) × (with ≡ other) × (after.queue.items ≡ before.queue.items ++ one ∷ []))
  pub new_back : (key with : ℕ) → slice_index_or after.back.items key None ≡ Some with → (slice_index_or before.back.items key None ≡ Some with) ⊎ ((key ≡ other) × (with ≡ one))
  pub queue : (after.queue.items ≡ before.queue.items) ⊎ ((after.queue.items ≡ before.queue.items ++ one ∷ []) × (slice_index_or after.objects.items one None ≡ Some other))
  pub clash : fine ≡ false → HasOther (slice_index_or before.objects.items one None) other ⊎ HasOther (slice_index_or before.back.items other None) one

-- what is paired stands in the queue
abbrev pub IsCounted : Found → Found → Type 0
IsCounted before after = length after.queue.items + alone after.objects.items ≡ length before.queue.items + alone before.objects.items

-- each of two objects that are paired is the partner of the other
pub record AreMutual (found : Found) : Type 0 where
  pub there : (key with : ℕ) → slice_index_or found.objects.items key None ≡ Some with → slice_index_or found.back.items with None ≡ Some key
  pub back : (key with : ℕ) → slice_index_or found.back.items with None ≡ Some key → slice_index_or found.objects.items key None ≡ Some with

-- what always holds: all that is paired is reached, and an address is paired with its object
pub record IsSound (wide narrow : Maps) (found : Found) : Type 0 where
  pub places : HasPlaces wide narrow found
  pub both : AreMutual found
  pub reached : (link : Link) → IsIn (pairing_of found) link → IsReached wide narrow link
  pub addresses : (key one other : ℕ) (offset offset' : ℤ) (target target' : Target) → IsIn (pairing_of found) (Values key (Leads other offset target)) →
      wide.values key ≡ Some (Address one offset' target') → IsIn (pairing_of found) (Objects one other)
  pub queued : (one other : ℕ) → IsIn (pairing_of found) (Objects one other) → Contains found.queue.items one
  pub paired : (one : ℕ) → Contains found.queue.items one → (other : ℕ) × IsIn (pairing_of found) (Objects one other)

-- what is paired stays paired, and in its place in the queue
pub record Grows (before after : Found) : Type 0 where
  pub stays : (link : Link) → IsIn (pairing_of before) link → IsIn (pairing_of after) link
  pub queue : (place key : ℕ) → slice_get before.queue.items place ≡ Some key → slice_get after.queue.items place ≡ Some key
  pub objects : length after.objects.items ≡ length before.objects.items

-- no pairing covers
pub record IsNone (wide narrow : Maps) : Type 0 where
  pub none : (pairing : Pairing) → IsCover wide narrow pairing → ⊥

-- a link is put in; or else nothing covers
pub record Goes (wide narrow : Maps) (before after : Found) (link : Link) (fine : Bool) : Type 0 where
  pub sound : IsSound wide narrow after
  pub grows : Grows before after
  pub stands : fine ≡ true → IsIn (pairing_of after) link
  pub clash : fine ≡ false → IsNone wide narrow

-- one more value is paired
pub record Puts (before after : Found) (key : ℕ) (content : Content) : Type 0 where
  pub objects : after.objects.items ≡ before.objects.items
  pub back : after.back.items ≡ before.back.items
  pub queue : after.queue.items ≡ before.queue.items
  pub count : length after.values.items ≡ length before.values.items
  pub paired : slice_index_or after.values.items key None ≡ Some content
  pub values : (other : ℕ) (with : Content) → slice_index_or before.values.items other None ≡ Some with → slice_index_or after.values.items other None ≡ Some with
  pub new : (other : ℕ) (with : Content) → slice_index_or after.values.items other None ≡ Some with → (slice_index_or before.values.items other None ≡ Some with) ⊎ ((other ≡ key) × (with ≡ content))

-- the object to which a value leads is paired
pub record Aims (wide narrow : Maps) (before after : Found) (key : ℕ) (content : Content) (fine : Bool) : Type 0 where
  pub sound : IsSound wide narrow after
  pub grows : Grows before after
  pub values : after.values.items ≡ before.values.items
  pub aims : fine ≡ true → (one other : ℕ) (offset offset' : ℤ) (target target' : Target) → content ≡ Leads other offset target → wide.values key ≡ Some (Address one offset' target') →
      IsIn (pairing_of after) (Objects one other)
  pub clash : fine ≡ false → IsNone wide narrow

-- the object to which a value, or a content, leads
abbrev pub led_from : Option Value → Option ℕ
led_from None = None
led_from (Some (Const number size)) = None
led_from (Some (Number size)) = None
led_from (Some Any) = None
led_from (Some (Address object offset target)) = Some object

abbrev pub led_to : Content → Option ℕ
led_to (Fixed number size) = None
led_to (Leads object offset target) = Some object
led_to (Kept key) = None

-- the value of an edge is paired with what the other block, or node, holds
pub record IsLinked (narrow : Maps) (found : Found) (with : Node) (edge : HasValue) : Type 0 where
  pub holds : Content
  pub held : held_in narrow with edge.at edge.size ≡ Some holds
  pub stands : IsIn (pairing_of found) (Values edge.value holds)

-- so many of the edges are linked
pub record Linking (wide narrow : Maps) (before after : Found) (with : Node) (edges : List HasValue) (at : ℕ) : Type 0 where
  pub sound : IsSound wide narrow after
  pub grows : Grows before after
  pub linked : (k : ℕ) (d : HasValue) → k < at → k < length edges → IsLinked narrow after with (get_or edges k d)

pub record Links (wide narrow : Maps) (before after : Found) (with : Node) (edges : List HasValue) (fine : Bool) : Type 0 where
  pub sound : IsSound wide narrow after
  pub grows : Grows before after
  pub linked : fine ≡ true → All (IsLinked narrow after with) edges
  pub clash : fine ≡ false → IsNone wide narrow

-- a clause of covering holds of what is paired, or nothing covers
pub record Settles (wide narrow : Maps) (clause : Pairing → Type 0) (before after : Found) (fine : Bool) : Type 0 where
  pub sound : IsSound wide narrow after
  pub grows : Grows before after
  pub holds : fine ≡ true → clause (pairing_of after)
  pub clash : fine ≡ false → IsNone wide narrow

-- so many of two lists of entries have the same numbers, and what they hold is linked
pub record Naming {One Other : Type 0} (wide narrow : Maps) (number : One → ℕ) (other_number : Other → ℕ) (link : One → Other → Link) (ones : List One) (others : List Other) (before after : Found) (at : ℕ) :
    Type 0 where
  pub sound : IsSound wide narrow after
  pub grows : Grows before after
  pub linked : (place : ℕ) (one : One) (other : Other) → place < at → slice_get ones place ≡ Some one → slice_get others place ≡ Some other →
      (number one ≡ other_number other) × IsIn (pairing_of after) (link one other)

-- what lies behind two objects and before them is paired, where they are segments
abbrev pub AreEndsLinked : Maps → Found → Object → Object → Type 0
AreEndsLinked narrow found object with =
    (links other_links : ObjectLinks) → links_in object.shape ≡ Some links → links_in with.shape ≡ Some other_links → AreEndsPaired narrow (pairing_of found) links other_links

-- it is, or nothing covers
pub record LinksEnds (wide narrow : Maps) (before after : Found) (object with : Object) (fine : Bool) : Type 0 where
  pub sound : IsSound wide narrow after
  pub grows : Grows before after
  pub linked : fine ≡ true → AreEndsLinked narrow after object with
  pub clash : fine ≡ false → IsNone wide narrow

-- the values of the edges of an object that lives are linked with what its partner holds, or nothing covers
pub record LinksContents (wide narrow : Maps) (before after : Found) (object with : Object) (fine : Bool) : Type 0 where
  pub sound : IsSound wide narrow after
  pub grows : Grows before after
  pub linked : fine ≡ true → object.live ≡ true → All (IsLinked narrow after (node_of with)) (node_of object).edges
  pub clash : fine ≡ false → IsNone wide narrow

-- the values that an object names are linked with what its partner holds
pub record IsLinkedWith (narrow : Maps) (found : Found) (object with : Object) : Type 0 where
  pub ends : AreEndsLinked narrow found object with
  pub edges : object.live ≡ true → All (IsLinked narrow found (node_of with)) (node_of object).edges

-- those of the object with a key are
abbrev pub IsFollowed : Maps → Maps → Found → ℕ → Type 0
IsFollowed wide narrow found one =
    (other : ℕ) (object with : Object) → IsIn (pairing_of found) (Objects one other) → wide.objects one ≡ Some object → narrow.objects other ≡ Some with → IsLinkedWith narrow found object with

-- they are, or nothing covers
pub record Follows (wide narrow : Maps) (before after : Found) (one : ℕ) (fine : Bool) : Type 0 where
  pub sound : IsSound wide narrow after
  pub grows : Grows before after
  pub linked : fine ≡ true → IsFollowed wide narrow after one
  pub clash : fine ≡ false → IsNone wide narrow

-- those of so many objects of the queue are
pub record FollowsSome (wide narrow : Maps) (before after : Found) (at : ℕ) : Type 0 where
  pub sound : IsSound wide narrow after
  pub grows : Grows before after
  pub linked : (place one : ℕ) → place < at → slice_get after.queue.items place ≡ Some one → IsFollowed wide narrow after one

-- those of all objects that are paired are
pub record FollowsAll (wide narrow : Maps) (before after : Found) (fine : Bool) : Type 0 where
  pub sound : IsSound wide narrow after
  pub grows : Grows before after
  pub linked : fine ≡ true → (one : ℕ) → IsFollowed wide narrow after one
  pub clash : fine ≡ false → IsNone wide narrow

-- what variables, registers, ports and objects force is paired
pub record IsClosed (wide narrow : Maps) (found : Found) : Type 0 where
  pub variables : (variable one other : ℕ) → wide.variables variable ≡ Some one → narrow.variables variable ≡ Some other → IsIn (pairing_of found) (Objects one other)
  pub registers : (register one other : ℕ) → wide.registers register ≡ Some one → narrow.registers register ≡ Some other → IsIn (pairing_of found) (Values one (content narrow other))
  pub ports : (place one other : ℕ) → slice_get wide.ports place ≡ Some one → slice_get narrow.ports place ≡ Some other → IsIn (pairing_of found) (Values one (content narrow other))
  pub objects : (one : ℕ) → IsFollowed wide narrow found one
