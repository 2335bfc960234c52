-- Where the operands that unfinished expressions hold stand in the graph.
use Rattle.std.specs.Prelude.{◌≡◌, ◌<◌, ℕ, Bool, true, false, not, ◌&&◌, List, [], ◌∷◌, nat_eq, ◌⊎◌, Some}
use Rattle.std.specs.List.{list_any}
use Rattle.bytes_core.specs.declared.block.Block.{Block}
use Rattle.bytes_core.specs.declared.word.Word.{Word}
use Rattle.bytes_core.specs.declared.word.Word.TheVariants.{Plain, To}
use Rattle.c_machine.specs.Words.{is_true}
use Rattle.flow.specs.Fitting.{FitsSize}
use Rattle.flow.specs.Holding.{Held, held_by}
use Rattle.flow.specs.Memories.{IsOffset}

-- where an operand stands
pub data Slot : Type 0 where
  -- in a register, with so many bytes, and whether it leads to no block
  InRegister : (register size : ℕ) (plain : Bool) → Slot
  -- nowhere: it is this number
  KnownAs : (number : ℕ) → Slot
  -- nowhere: whether it is true is known, and nothing else is asked of it
  Truth : (holds : Bool) → Slot
  -- nowhere: it is let go of before anything looks at it
  Gone : Slot

-- whether no operand stands in a register
abbrev pub is_free : ℕ → List Slot → Bool
is_free register [] = true
is_free register (InRegister other size plain ∷ slots) = not (nat_eq other register) && is_free register slots
is_free register (KnownAs number ∷ slots) = is_free register slots
is_free register (Truth holds ∷ slots) = is_free register slots
is_free register (Gone ∷ slots) = is_free register slots

-- whether each operand stands in a register or is known
abbrev pub is_whole : List Slot → Bool
is_whole [] = true
is_whole (InRegister register size plain ∷ slots) = is_whole slots
is_whole (KnownAs number ∷ slots) = is_whole slots
is_whole (Truth holds ∷ slots) = false
is_whole (Gone ∷ slots) = false

-- a number leads to no block
abbrev pub IsPlain : Word → Type 0
IsPlain (Plain number) = Unit {0}
IsPlain (To block offset) = ⊥

abbrev pub IsPlainWhere : Bool → Word → Type 0
IsPlainWhere true word = IsPlain word
IsPlainWhere false word = Unit {0}

-- an address has an offset of 64 bits with a sign
abbrev pub IsNear : Word → Type 0
IsNear (Plain number) = Unit {0}
IsNear (To block offset) = IsOffset offset

-- what is known of the word in a register of a size, plain or not
abbrev pub Suits : ℕ → Bool → Word → Type 0
Suits size plain word = FitsSize size word × IsNear word × IsPlainWhere plain word

-- operands stand where their slots say
abbrev pub Stands : List Block → List Held → List Slot → List Word → Type 0
Stands memory registers [] [] = Unit {0}
Stands memory registers [] (word ∷ words) = ⊥
Stands memory registers (slot ∷ slots) [] = ⊥
Stands memory registers (InRegister register size plain ∷ slots) (word ∷ words) =
    (held_by registers register ≡ Some (record { register = register; size = size; word = word })) × IsPlainWhere plain word × Stands memory registers slots words
Stands memory registers (KnownAs number ∷ slots) (word ∷ words) = (word ≡ Plain number) × Stands memory registers slots words
Stands memory registers (Truth holds ∷ slots) (word ∷ words) = (is_true memory word ≡ holds) × Stands memory registers slots words
Stands memory registers (Gone ∷ slots) (word ∷ words) = Stands memory registers slots words

-- what a register holds is one of the operands
abbrev pub Among : List Slot → List Word → Held → Type 0
Among [] words held = ⊥
Among (slot ∷ slots) [] held = ⊥
Among (InRegister register size plain ∷ slots) (word ∷ words) held = ((register ≡ held.register) × (word ≡ held.word)) ⊎ Among slots words held
Among (KnownAs number ∷ slots) (word ∷ words) held = Among slots words held
Among (Truth holds ∷ slots) (word ∷ words) held = Among slots words held
Among (Gone ∷ slots) (word ∷ words) held = Among slots words held

-- each register holds an operand or a number
abbrev pub AreRooted : List Slot → List Word → List Held → Type 0
AreRooted slots words [] = Unit {0}
AreRooted slots words (held ∷ rest) = (IsPlain held.word ⊎ Among slots words held) × AreRooted slots words rest

-- registers stand in ascending order
abbrev pub AreAbove : ℕ → List Held → Type 0
AreAbove register [] = Unit {0}
AreAbove register (held ∷ rest) = (register < held.register) × AreAbove register rest

abbrev pub AreAscending : List Held → Type 0
AreAscending [] = Unit {0}
AreAscending (held ∷ rest) = AreAbove held.register rest × AreAscending rest

pub record Holds (memory : List Block) (registers : List Held) (slots : List Slot) (operands : List Word) : Type 0 where
  pub stands : Stands memory registers slots operands
  pub rooted : AreRooted slots operands registers
  pub ascending : AreAscending registers

-- whether no operand stands in one of these registers
abbrev pub are_free : List ℕ → List Slot → Bool
are_free [] slots = true
are_free (register ∷ registers) slots = is_free register slots && are_free registers slots

-- whether an operand stands in none but these registers
abbrev pub is_in : List ℕ → Slot → Bool
is_in registers (InRegister register size plain) = list_any (nat_eq register) registers
is_in registers (KnownAs number) = true
is_in registers (Truth holds) = true
is_in registers Gone = true

-- whether operands stand in none but these registers
abbrev pub are_in : List ℕ → List Slot → Bool
are_in registers [] = true
are_in registers (slot ∷ slots) = is_in registers slot && are_in registers slots
