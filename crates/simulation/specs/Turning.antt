-- What the graph computes on registers, where other operands stand in slots of theirs: conversions and operations, along the edges between two points.
use Rattle.std.specs.Prelude.{◌≡◌, ℕ, Bool, true, false, List, ◌∷◌, nat_eq, ℤ, ◌*ℤ◌, Option, Some, option_map, if◌then◌else◌}
use Rattle.cbase.specs.declared.place.Place.{Place}
use Rattle.arithmetic.specs.declared.op.Op.{Op}
use Rattle.arithmetic.specs.Computing.{computed}
use Rattle.arithmetic.specs.Conversion.{converted}
use Rattle.arithmetic.specs.Value.{value}
use Rattle.bytes_core.specs.declared.block.Block.{Block}
use Rattle.bytes_core.specs.declared.word.Word.{Word}
use Rattle.bytes_core.specs.declared.word.Word.TheVariants.{Plain}
use Rattle.bytes_core.specs.Value.{address_number, moved}
use Rattle.flow.specs.declared.instruction.Instr.TheVariants as i
use Rattle.flow.specs.declared.flow_graph.Flow.{Flow}
use Rattle.flow.specs.Machine.{size_after}
use Rattle.simulation.specs.Edges.{One, Two}
use Rattle.simulation.specs.Slots.{Slot, InRegister, is_free}

-- What becomes of the word in a register, and in which one it stands then: it stays, it is converted, or it is tested against 0, and both ways meet.
pub data Turns (flow : Flow) (others : List Slot) : (from register size : ℕ) (plain : Bool) → (List Block → Word → Word) → (to into size' : ℕ) (plain' : Bool) → Type 0 where
  Stays : {from register size : ℕ} {plain : Bool} → Turns flow others from register size plain (λ memory word. word) from register size plain
  Turned : {from register size : ℕ} {plain : Bool} (to into size' : ℕ) (signed : Bool) (place : Place)
      → One flow from (i.Convert into register size' signed) to place → is_free into others ≡ true → is_free register others ≡ true
      → Turns flow others from register size plain (λ memory word. Plain (converted size signed size' (address_number memory word))) to into size' true
  Tested : {from register size : ℕ} {plain : Bool} (test size'' middle off on to into size' : ℕ) (place place' place'' place3 place4 : Place)
      → One flow from (i.Number test 0 size'') middle place → is_free test (InRegister register size plain ∷ others) ≡ true → is_free register others ≡ true
      → Two flow middle (i.IfSame register test) off place' (i.IfDifferent register test) on place''
      → One flow off (i.Number into 0 size') to place3 → One flow on (i.Number into 1 size') to place4 → is_free into others ≡ true
      → Turns flow others from register size plain (λ memory word. Plain (if nat_eq (address_number memory word) 0 then 0 else 1)) to into size' true

-- One operation on two registers. Its sides may stand the other way round.
pub data Combines (flow : Flow) : (from one other : ℕ) → (List Block → Word → Word → Option Word) → (to into size : ℕ) (plain : Bool) → Type 0 where
  Computed : {from one other : ℕ} (what : Op) (size : ℕ) (signed : Bool) (to into : ℕ) (place : Place)
      → One flow from (i.Compute into what one other size signed) to place
      → Combines flow from one other (λ memory first second. option_map Plain (computed what size signed (address_number memory first) (address_number memory second)))
      to into (size_after what size) true
  ComputedAround : {from one other : ℕ} (what : Op) (size : ℕ) (signed : Bool) (to into : ℕ) (place : Place)
      → One flow from (i.Compute into what other one size signed) to place
      → Combines flow from one other (λ memory first second. option_map Plain (computed what size signed (address_number memory second) (address_number memory first)))
      to into (size_after what size) true
  Moved : {from one other : ℕ} (scale : ℤ) (to into : ℕ) (place : Place) → One flow from (i.ShiftBy into one other scale) to place
      → Combines flow from one other (λ memory first second. Some (moved first (value 8 true (address_number memory second) *ℤ scale))) to into 8 false
  MovedAround : {from one other : ℕ} (scale : ℤ) (to into : ℕ) (place : Place) → One flow from (i.ShiftBy into other one scale) to place
      → Combines flow from one other (λ memory first second. Some (moved second (value 8 true (address_number memory first) *ℤ scale))) to into 8 false

-- Conversions of both sides, an operation, and a conversion of what it gives; the left side stands below the right one.
pub data Calculates (flow : Flow) (others : List Slot) : (from one size : ℕ) (plain : Bool) (other size' : ℕ) (plain' : Bool) → (List Block → Word → Word → Option Word) →
    (to into size'' : ℕ) (plain'' : Bool) → Type 0 where
  Calculated : {from one size other size' from1 one' size1 from2 other' size2 from3 made size3 to into size4 : ℕ} {plain plain' plain1 plain2 plain3 plain4 : Bool}
      {left right behind : List Block → Word → Word} {combined : List Block → Word → Word → Option Word}
      → is_free one (InRegister other size' plain' ∷ others) ≡ true → is_free other others ≡ true
      → Turns flow (InRegister other size' plain' ∷ others) from one size plain left from1 one' size1 plain1
      → Turns flow (InRegister one' size1 plain1 ∷ others) from1 other size' plain' right from2 other' size2 plain2
      → Combines flow from2 one' other' combined from3 made size3 plain3 → is_free made others ≡ true
      → Turns flow others from3 made size3 plain3 behind to into size4 plain4
      → Calculates flow others from one size plain other size' plain'
      (λ memory first second. option_map (behind memory) (combined memory (left memory first) (right memory second))) to into size4 plain4

-- The same where the right side is a number, which is made once the left side is converted.
pub data CalculatesWith (flow : Flow) (others : List Slot) : (from one size : ℕ) (plain : Bool) → (List Block → Word → Option Word) → (to into size' : ℕ) (plain' : Bool) → Type 0 where
  CalculatedWith : {from one size from1 one' size1 from2 from3 made size3 to into size4 : ℕ} {plain plain1 plain3 plain4 : Bool}
      {left behind : List Block → Word → Word} {combined : List Block → Word → Word → Option Word} (number bits size' : ℕ) (place : Place)
      → is_free one others ≡ true
      → Turns flow others from one size plain left from1 one' size1 plain1
      → One flow from1 (i.Number number bits size') from2 place → is_free number (InRegister one' size1 plain1 ∷ others) ≡ true
      → Combines flow from2 one' number combined from3 made size3 plain3 → is_free made others ≡ true
      → Turns flow others from3 made size3 plain3 behind to into size4 plain4
      → CalculatesWith flow others from one size plain (λ memory word. option_map (behind memory) (combined memory (left memory word) (Plain bits))) to into size4 plain4
