-- What braces fill, by the numbers of types and structs, and what it means.
use Rattle.std.specs.Prelude.{◌≡◌, ◌<◌, ℕ, Bool, true, false, List, [], Option, None, Some, length, slice_get, option_map, IfSome}
use Rattle.cbase.specs.declared.abi.Abi.{Abi}
use Rattle.cbase.specs.declared.structs.StructDef.{StructDef}
use Rattle.cbase.specs.Offset.{fields_of}
use Rattle.typing.specs.Initialisers.{Slot, Filled, One, Members, Items, filled_of, Next, Sets, NoMember, Full}
use Rattle.typing.specs.Outcomes.{Outcome, Passes, Refused}
use Rattle.expressions.specs.declared.found.Found.{Found}
use Rattle.expressions.specs.declared.found.Found.TheVariants.{Passes as FoundToPass, Refused as FoundRefused}
use Rattle.expressions.specs.declared.part.Slot.{Slot as SlotByNumber}
use Rattle.expressions.specs.Context.{Context, Agrees}
use Rattle.expressions.specs.Nests.{slot_at}
use Rattle.expressions.specs.Numbers.{Numbering}
use Rattle.items.specs.declared.initialisers.filled.Filled.{Filled as FilledByNumber}
use Rattle.items.specs.declared.initialisers.filled.Filled.TheVariants as kept
use Rattle.items.specs.declared.initialisers.next.Next.{Next as NextByNumber}
use Rattle.items.specs.declared.initialisers.next.Next.TheVariants as comes

-- what is meant, where the structs are these
abbrev pub filled_at : Numbering → List StructDef → FilledByNumber → Filled
filled_at n structs (kept.One slot) = One (slot_at n slot)
filled_at n structs (kept.Nothing offset) = Members offset []
filled_at n structs (kept.Members offset of) = Members offset (fields_of structs of)
filled_at n structs (kept.Items offset item count bytes) = Items offset (n.ctype item) count bytes

-- a struct that has its members, which do not change any more (C11 6.7.2.3p1)
abbrev pub is_complete : Option StructDef → Bool
is_complete None = false
is_complete (Some definition) = definition.complete

-- it means the same later: its numbers are those of types among so many, and of a complete struct
abbrev pub IsKept : ℕ → List StructDef → FilledByNumber → Type 0
IsKept count structs (kept.One slot) = slot.ctype < count
IsKept count structs (kept.Nothing offset) = Unit {0}
IsKept count structs (kept.Members offset of) = is_complete (slice_get structs of) ≡ true
IsKept count structs (kept.Items offset item all bytes) = item < count

abbrev pub IsFilled : Context → SlotByNumber → Option FilledByNumber → Type 0
IsFilled context slot found =
    IfSome found (IsKept (length context.types) context.structs)
    × ((n : Numbering) (abi : Abi) → Agrees n context → filled_of abi context.structs (slot_at n slot) ≡ option_map (filled_at n context.structs) found)

-- a part of the object, where there is one
abbrev pub IsSlot : Context → (Numbering → Abi → Option Slot) → Option SlotByNumber → Type 0
IsSlot context told slot =
    IfSome slot (λ set. set.ctype < length context.types)
    × ((n : Numbering) (abi : Abi) → Agrees n context → told n abi ≡ option_map (slot_at n) slot)

-- what the next part sets
abbrev pub next_at : Numbering → NextByNumber → Next
next_at n (comes.Sets index slot) = Sets index (slot_at n slot)
next_at n (comes.NoMember place) = NoMember place
next_at n comes.Full = Full

abbrev pub IsNextBelow : ℕ → NextByNumber → Type 0
IsNextBelow count (comes.Sets index slot) = slot.ctype < count
IsNextBelow count (comes.NoMember place) = Unit {0}
IsNextBelow count comes.Full = Unit {0}

abbrev pub IsNext : Context → (Numbering → Abi → Next) → NextByNumber → Type 0
IsNext context told next =
    IsNextBelow (length context.types) next × ((n : Numbering) (abi : Abi) → Agrees n context → told n abi ≡ next_at n next)

-- where no part is left, nothing is handed on
abbrev pub outcome_of : Found (Unit {0}) → Outcome (Unit {0})
outcome_of (FoundToPass told) = Passes tt []
outcome_of (FoundRefused first) = Refused first
