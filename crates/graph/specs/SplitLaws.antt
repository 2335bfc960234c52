-- What the addresses of a segment mean when nodes of it are split off.
use Rattle.std.specs.Prelude.{◌≡◌, ℕ, List, [], ◌∷◌, ◌++◌, ℤ, pos, Some, FitsSigned}
use Rattle.std.specs.Int.{w64}
use Rattle.bytes_core.specs.declared.word.Word.{Word}
use Rattle.bytes_core.specs.declared.word.Word.TheVariants.{To}
use Rattle.graph.specs.declared.object.Links.{Links}
use Rattle.graph.specs.declared.object.Object.{Object}
use Rattle.graph.specs.declared.parts.Parts.{Parts}
use Rattle.graph.specs.declared.value.Target.TheVariants.{Region, First, Last}
use Rattle.graph.specs.declared.value.Value.TheVariants.{Address}
use Rattle.graph.specs.Maps.{object_at, value_at}
use Rattle.graph.specs.Meaning.{last_or, Ends, address_word, Assignment, Meets, maps_of}
use Rattle.graph.specs.Nodes.{links_in}
use Rattle.graph.specs.State.{State}

-- the ends of nodes behind which this one lies, and of nodes before which it does
abbrev pub with_after : Ends → ℕ → Ends
with_after ends number = record ends { after = To number (pos ends.head) }

abbrev pub with_before : Ends → ℕ → Ends
with_before ends number = record ends { before = To number (pos ends.back) }

-- a row of nodes in two: each side lies beyond the other, and each may be without nodes
pub record AddressesAreSplit : Type 0 where
  -- an address of the first node is one of the front nodes, behind which the others lie
  pub first : (ends : Ends) (front : List ℕ) (number : ℕ) (rest : List ℕ) (offset : ℤ) → FitsSigned w64 offset →
      address_word First (front ++ number ∷ rest) ends offset ≡ address_word First front (with_after ends number) offset
  -- an address of the last node is one of the others, before which the front ones lie
  pub last : (ends : Ends) (number : ℕ) (front rest : List ℕ) (offset : ℤ) → FitsSigned w64 offset →
      address_word Last (number ∷ front ++ rest) ends offset ≡ address_word Last rest (with_before ends (last_or number front)) offset
  -- an address of a node at an end is one of its block
  pub first_node : (ends other : Ends) (number : ℕ) (rest : List ℕ) (offset : ℤ) → address_word First (number ∷ rest) ends offset ≡ address_word Region (number ∷ []) other offset
  pub last_node : (ends other : Ends) (front : List ℕ) (number : ℕ) (offset : ℤ) → address_word Last (front ++ number ∷ []) ends offset ≡ address_word Region (number ∷ []) other offset

-- the ends of a segment with these links
abbrev pub ends_by : Links → (ℕ → Word) → Ends
ends_by links word = record { head = links.head; back = links.back; after = word links.next_value; before = word links.prev_value }

-- values that are addresses of a segment have the words that they have when a node is split off
pub record HasSplitAddresses (parts : Parts) (given : Assignment) (key : ℕ) (links : Links) : Type 0 where
  -- the first node is split off
  pub of_first : (value : ℕ) (offset : ℤ) (number : ℕ) (rest : List ℕ) (other : Ends) → value_at parts.values value ≡ Some (Address key offset First) → given.blocks key ≡ number ∷ rest →
      given.word value ≡ address_word Region (number ∷ []) other offset
  pub behind_first : (value : ℕ) (offset : ℤ) (number : ℕ) (rest : List ℕ) → value_at parts.values value ≡ Some (Address key offset Last) → given.blocks key ≡ number ∷ rest → FitsSigned w64 offset →
      given.word value ≡ address_word Last rest (with_before (ends_by links given.word) number) offset
  -- the last node is split off
  pub of_last : (value : ℕ) (offset : ℤ) (front : List ℕ) (number : ℕ) (other : Ends) → value_at parts.values value ≡ Some (Address key offset Last) → given.blocks key ≡ front ++ number ∷ [] →
      given.word value ≡ address_word Region (number ∷ []) other offset
  pub before_last : (value : ℕ) (offset : ℤ) (front : List ℕ) (number : ℕ) → value_at parts.values value ≡ Some (Address key offset First) → given.blocks key ≡ front ++ number ∷ [] → FitsSigned w64 offset →
      given.word value ≡ address_word First front (with_after (ends_by links given.word) number) offset

abbrev pub SegmentsHaveSplitAddresses : Type 0
SegmentsHaveSplitAddresses = (parts : Parts) (state : State) (given : Assignment) (key : ℕ) (object : Object) (links : Links) →
    Meets (maps_of parts) state given → object_at parts.objects key ≡ Some object → links_in object.shape ≡ Some links → HasSplitAddresses parts given key links
