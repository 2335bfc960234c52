-- When one graph, the wider one, covers another one: what the wider one says of its objects and values holds of
-- those of the other one with which they are paired.
use Rattle.std.specs.Prelude.{◌≡◌, ◌⊎◌, ℕ, zero, suc, ◌^◌, ◌<◌, ◌≤◌, Bool, true, false, ◌&&◌, nat_eq, if◌then◌else◌, List, [], ◌∷◌, map, drop, ℤ, Option, None, Some, option_map, slice_get, Contains}
use Rattle.std.specs.List.{All}
use Rattle.cover.specs.declared.content.Content.{Content}
use Rattle.cover.specs.declared.content.Content.TheVariants.{Fixed, Leads, Kept}
use Rattle.graph.specs.declared.edges.HasValue.{HasValue}
use Rattle.graph.specs.declared.object.Links.{Links}
use Rattle.graph.specs.declared.object.Object.{Object}
use Rattle.graph.specs.declared.value.Target.{Target}
use Rattle.graph.specs.declared.value.Value.{Value}
use Rattle.graph.specs.declared.value.Value.TheVariants.{Const, Number, Any, Address}
use Rattle.graph.specs.declared.template.Node.{Node}
use Rattle.graph.specs.declared.parts.Pair.{Pair}
use Rattle.graph.specs.declared.parts.Parts.{Parts}
use Rattle.graph.specs.Meaning.{Maps, maps_of}
use Rattle.graph.specs.Nodes.{links_in, node_of}
use Rattle.planes.specs.Lanes.{are_at_most}

-- What a value of a graph is. Two keys may hold equal constants or addresses; a number and any word have a key of their own.
abbrev pub content_of : ℕ → Option Value → Content
content_of key None = Kept key
content_of key (Some (Const number size)) = Fixed number size
content_of key (Some (Number size)) = Kept key
content_of key (Some Any) = Kept key
content_of key (Some (Address object offset target)) = Leads object offset target

abbrev pub content : Maps → ℕ → Content
content maps key = content_of key (maps.values key)

-- with what each object and value of the wider graph is paired; and back from the objects of the other one
pub record Pairing : Type 0 where
  pub object : ℕ → Option ℕ
  pub back : ℕ → Option ℕ
  pub value : ℕ → Option Content

-- Values.

-- a value that may be any of some numbers is paired with one of these, or with some of these
abbrev pub FitsNumber : Maps → ℕ → Content → Type 0
FitsNumber narrow size (Fixed number other) = (other ≡ size) × (number < 256 ^ size)
FitsNumber narrow size (Leads object offset target) = ⊥
FitsNumber narrow size (Kept key) = narrow.values key ≡ Some (Number size)

abbrev pub FitsAny : Maps → Content → Type 0
FitsAny narrow (Fixed number other) = (other ≡ 8) × (number < 256 ^ 8)
FitsAny narrow (Leads object offset target) = ⊥
FitsAny narrow (Kept key) = (narrow.values key ≡ Some Any) ⊎ (narrow.values key ≡ Some (Number 8))

-- an address is paired with an address of the object that is paired with its own
pub record FitsAddress (pairing : Pairing) (object : ℕ) (offset : ℤ) (target : Target) (content : Content) : Type 0 where
  pub other : ℕ
  pub paired : pairing.object object ≡ Some other
  pub is : content ≡ Leads other offset target

abbrev pub Fits : Maps → Pairing → Value → Content → Type 0
Fits narrow pairing (Const number size) content = content ≡ Fixed number size
Fits narrow pairing (Number size) content = FitsNumber narrow size content
Fits narrow pairing Any content = FitsAny narrow content
Fits narrow pairing (Address object offset target) content = FitsAddress pairing object offset target content

pub record FitsAt (wide narrow : Maps) (pairing : Pairing) (key : ℕ) (content : Content) : Type 0 where
  pub value : Value
  pub stands : wide.values key ≡ Some value
  pub fits : Fits narrow pairing value content

-- Edges.

-- the value of the edge with this range
abbrev pub value_in : List HasValue → ℕ → ℕ → Option ℕ
value_in [] at size = None
value_in (edge ∷ rest) at size = if nat_eq edge.at at && nat_eq edge.size size then Some edge.value else value_in rest at size

-- so many zeros stand first
abbrev pub are_zeros : ℕ → List ℕ → Bool
are_zeros zero plane = true
are_zeros (suc count) [] = false
are_zeros (suc count) (class ∷ plane) = nat_eq class 0 && are_zeros count plane

-- what a range of a block, or of a node, holds: the value of its edge, or zeros, which are the constant 0
abbrev pub held_as : Maps → List ℕ → ℕ → ℕ → Option ℕ → Option Content
held_as maps plane at size (Some key) = Some (content maps key)
held_as maps plane at size None = if are_zeros size (drop at plane) then Some (Fixed 0 size) else None

abbrev pub held_in : Maps → Node → ℕ → ℕ → Option Content
held_in maps node at size = held_as maps node.plane at size (value_in node.edges at size)

-- the value of an edge is paired with what the other block, or node, holds there
pub record HasPartner (narrow : Maps) (pairing : Pairing) (other : Node) (edge : HasValue) : Type 0 where
  pub with : Content
  pub held : held_in narrow other edge.at edge.size ≡ Some with
  pub paired : pairing.value edge.value ≡ Some with

-- an edge with an address stands on both sides
pub record StandsIn (edges : List HasValue) (edge : HasValue) : Type 0 where
  pub with : HasValue
  pub stands : Contains edges with
  pub at : with.at ≡ edge.at
  pub size : with.size ≡ edge.size

abbrev pub IsAddress : Content → Type 0
IsAddress (Fixed number size) = ⊥
IsAddress (Leads object offset target) = Unit {0}
IsAddress (Kept key) = ⊥

-- Objects.

-- the nodes of two segments are linked at the same places; the wider one need not have as many
pub record AreLinkedAlike (one other : Links) : Type 0 where
  pub twofold : other.twofold ≡ one.twofold
  pub head : other.head ≡ one.head
  pub next : other.next ≡ one.next
  pub prev : other.prev ≡ one.prev
  pub back : other.back ≡ one.back
  pub least : one.least ≤ other.least

-- both are regions, or both are segments whose nodes are linked alike
abbrev pub AreLinksAlike : Option Links → Option Links → Type 0
AreLinksAlike None None = Unit {0}
AreLinksAlike None (Some other) = ⊥
AreLinksAlike (Some one) None = ⊥
AreLinksAlike (Some one) (Some other) = AreLinkedAlike one other

-- what lies behind two segments is paired, and what lies before them
pub record AreEndsPaired (narrow : Maps) (pairing : Pairing) (one other : Links) : Type 0 where
  pub next : pairing.value one.next_value ≡ Some (content narrow other.next_value)
  pub prev : pairing.value one.prev_value ≡ Some (content narrow other.prev_value)

-- what is asked of what two objects that live say of the bytes of their blocks
pub record IsLiveAs (narrow : Maps) (pairing : Pairing) (one other : Object) : Type 0 where
  pub size : other.size ≡ one.size
  pub classes : are_at_most (node_of other).plane (node_of one).plane ≡ true
  pub edges : All (HasPartner narrow pairing (node_of other)) (node_of one).edges
  pub addresses : (place : ℕ) (edge : HasValue) → slice_get (node_of other).edges place ≡ Some edge → IsAddress (content narrow edge.value) → StandsIn (node_of one).edges edge

-- a region is paired with a region, and a segment with a segment
pub record IsAs (narrow : Maps) (pairing : Pairing) (one other : Object) : Type 0 where
  pub live : other.live ≡ one.live
  pub kind : other.kind ≡ one.kind
  pub links : AreLinksAlike (links_in one.shape) (links_in other.shape)
  pub ends : (links other_links : Links) → links_in one.shape ≡ Some links → links_in other.shape ≡ Some other_links → AreEndsPaired narrow pairing links other_links
  pub alike : one.live ≡ true → IsLiveAs narrow pairing one other

pub record ArePaired (wide narrow : Maps) (pairing : Pairing) (key with : ℕ) : Type 0 where
  pub one : Object
  pub other : Object
  pub one_stands : wide.objects key ≡ Some one
  pub other_stands : narrow.objects with ≡ Some other
  pub alike : IsAs narrow pairing one other

-- an object of this graph that lives is paired
abbrev pub AreLivePaired : (ℕ → Option Object) → (ℕ → Option ℕ) → Type 0
AreLivePaired objects pairs = (key : ℕ) (object : Object) → objects key ≡ Some object → object.live ≡ true → (with : ℕ) × (pairs key ≡ Some with)

-- Unequal pairs.

-- an unequal pair of these two, or two constants that differ
abbrev pub IsPairOf : Maps → Content → Content → Pair → Type 0
IsPairOf narrow one other pair =
    ((one ≡ content narrow pair.left) × (other ≡ content narrow pair.right))
    ⊎ ((one ≡ content narrow pair.right) × (other ≡ content narrow pair.left))

abbrev pub IsOther : ℕ → Content → Type 0
IsOther number (Fixed other size) = number ≡ other → ⊥
IsOther number (Leads object offset target) = ⊥
IsOther number (Kept key) = ⊥

abbrev pub DifferFixed : Content → Content → Type 0
DifferFixed (Fixed number size) other = IsOther number other
DifferFixed (Leads object offset target) other = ⊥
DifferFixed (Kept key) other = ⊥

abbrev pub AreApart : Maps → Content → Content → Type 0
AreApart narrow one other = ((place : ℕ) × (pair : Pair) × (slice_get narrow.unequal place ≡ Some pair) × IsPairOf narrow one other pair) ⊎ DifferFixed one other

-- what is known of a value of the wider graph without a choice: what it is paired with, or its own constant
abbrev pub known_of : Option Value → Option Content → Option Content
known_of (Some (Const number size)) paired = Some (Fixed number size)
known_of value paired = paired

abbrev pub known : Maps → Pairing → ℕ → Option Content
known wide pairing key = known_of (wide.values key) (pairing.value key)

abbrev pub IsApart : Maps → Option Content → Option Content → Type 0
IsApart narrow (Some one) (Some other) = AreApart narrow one other
IsApart narrow one other = Unit {0}

-- The whole.

-- the same variables stand for objects that are paired
abbrev pub AreVariablesPaired : Maps → Maps → Pairing → Type 0
AreVariablesPaired wide narrow pairing = (variable : ℕ) → option_map pairing.object (wide.variables variable) ≡ option_map Some (narrow.variables variable)

-- the same registers hold values that are paired
abbrev pub AreRegistersPaired : Maps → Maps → Pairing → Type 0
AreRegistersPaired wide narrow pairing =
    (register : ℕ) → option_map pairing.value (wide.registers register) ≡ option_map (λ key. Some (content narrow key)) (narrow.registers register)

-- as many ports have values that are paired
abbrev pub ArePortsPaired : Maps → Maps → Pairing → Type 0
ArePortsPaired wide narrow pairing = map pairing.value wide.ports ≡ map (λ key. Some (content narrow key)) narrow.ports

pub record IsCover (wide narrow : Maps) (pairing : Pairing) : Type 0 where
  pub variables : AreVariablesPaired wide narrow pairing
  pub registers : AreRegistersPaired wide narrow pairing
  pub ports : ArePortsPaired wide narrow pairing
  pub objects : (key with : ℕ) → pairing.object key ≡ Some with → ArePaired wide narrow pairing key with
  pub there : (key with : ℕ) → pairing.object key ≡ Some with → pairing.back with ≡ Some key
  pub back : (key with : ℕ) → pairing.back with ≡ Some key → pairing.object key ≡ Some with
  pub live : AreLivePaired wide.objects pairing.object
  pub other_live : AreLivePaired narrow.objects pairing.back
  pub values : (key : ℕ) (content : Content) → pairing.value key ≡ Some content → FitsAt wide narrow pairing key content
  pub unequal : (place : ℕ) (pair : Pair) → slice_get wide.unequal place ≡ Some pair → IsApart narrow (known wide pairing pair.left) (known wide pairing pair.right)

-- a pair of objects, or of a value and a content
pub data Link : Type 0 where
  Objects : ℕ → ℕ → Link
  Values : ℕ → Content → Link

-- the pairs that variables, registers and ports force, and those that these force
pub data IsReached (wide narrow : Maps) : Link → Type 0 where
  ByVariable : (variable one other : ℕ) → wide.variables variable ≡ Some one → narrow.variables variable ≡ Some other → IsReached wide narrow (Objects one other)
  ByRegister : (register one other : ℕ) → wide.registers register ≡ Some one → narrow.registers register ≡ Some other → IsReached wide narrow (Values one (content narrow other))
  ByPort : (place one other : ℕ) → slice_get wide.ports place ≡ Some one → slice_get narrow.ports place ≡ Some other → IsReached wide narrow (Values one (content narrow other))
  ByEdge : (one other : ℕ) (object with : Object) (edge : HasValue) (holds : Content) → IsReached wide narrow (Objects one other) →
      wide.objects one ≡ Some object → narrow.objects other ≡ Some with → object.live ≡ true → Contains (node_of object).edges edge → held_in narrow (node_of with) edge.at edge.size ≡ Some holds →
      IsReached wide narrow (Values edge.value holds)
  ByNext : (one other : ℕ) (object with : Object) (links other_links : Links) → IsReached wide narrow (Objects one other) → wide.objects one ≡ Some object → narrow.objects other ≡ Some with →
      links_in object.shape ≡ Some links → links_in with.shape ≡ Some other_links → IsReached wide narrow (Values links.next_value (content narrow other_links.next_value))
  ByPrev : (one other : ℕ) (object with : Object) (links other_links : Links) → IsReached wide narrow (Objects one other) → wide.objects one ≡ Some object → narrow.objects other ≡ Some with →
      links_in object.shape ≡ Some links → links_in with.shape ≡ Some other_links → IsReached wide narrow (Values links.prev_value (content narrow other_links.prev_value))
  ByAddress : (key one other : ℕ) (offset offset' : ℤ) (target target' : Target) → IsReached wide narrow (Values key (Leads other offset target)) → wide.values key ≡ Some (Address one offset' target') →
      IsReached wide narrow (Objects one other)

abbrev pub IsIn : Pairing → Link → Type 0
IsIn pairing (Objects one other) = pairing.object one ≡ Some other
IsIn pairing (Values key content) = pairing.value key ≡ Some content

-- nothing else is paired, and no value of the other graph that has a key of its own stands in two pairs
pub record IsLeast (wide narrow : Maps) (pairing : Pairing) : Type 0 where
  pub reached : (link : Link) → IsIn pairing link → IsReached wide narrow link
  pub apart : (one other key : ℕ) → pairing.value one ≡ Some (Kept key) → pairing.value other ≡ Some (Kept key) → one ≡ other

pub record Covers (wide narrow : Parts) : Type 0 where
  pub pairing : Pairing
  pub cover : IsCover (maps_of wide) (maps_of narrow) pairing
  pub least : IsLeast (maps_of wide) (maps_of narrow) pairing
