-- What is found of a constant of an enum (C11 6.7.2.2): its value, and that it is declared behind it.
use Rattle.std.specs.Prelude.{◌≡◌, ℕ, List, ◌∷◌, ◌++◌, map, Option, None, Some}
use Rattle.cbase.specs.declared.abi.Abi.{Abi}
use Rattle.cbase.specs.declared.place.Place.{Place}
use Rattle.cbase.specs.declared.tree.spec.Enumerator.{Enumerator}
use Rattle.typing.specs.declared.ctypes.found.Broken.TheVariants.{Rule}
use Rattle.typing.specs.ctypes.Kinds.{kind_of}
use Rattle.typing.specs.declared.fault.Fault.{Fault}
use Rattle.typing.specs.Faults.{fault}
use Rattle.typing.specs.Outcomes.{Outcome, Refused, with_front}
use Rattle.typing.specs.NamedTypes.{NamedType}
use Rattle.typing.specs.Typing.{Finds, EnumeratorsAre}
use Rattle.typing.specs.values.Values.{int_value, next_value}
use Rattle.expressions.specs.declared.found.Found.{Found}
use Rattle.expressions.specs.declared.found.Found.TheVariants.{Passes as FoundToPass, Refused as FoundRefused}
use Rattle.expressions.specs.declared.handed_row.HandedRow.{HandedRow}
use Rattle.expressions.specs.declared.known.Known.{Known}
use Rattle.expressions.specs.Context.{Context, Declared, declared, Agrees, Grows}
use Rattle.expressions.specs.Numbers.{Numbering, handed_at}
use Rattle.expressions.specs.Language.{language}

-- a value, where an int has it
abbrev pub int_found : Place → Option ℕ → Found ℕ
int_found place None = FoundRefused (fault place (Rule 9))
int_found place (Some bits) = FoundToPass bits

-- the value that an operand gives a constant
abbrev pub IsIntValue : Context → Place → Known → Found ℕ → Type 0
IsIntValue context place known found = (n : Numbering) → Agrees n context → found ≡ int_found place (int_value (kind_of context.structs (n.ctype known.ctype)) known.value)

-- a constant in front of others: whatever is found of the others behind it is found of all, or it is refused
pub record EnumeratorPasses (abi : Abi) (next : Option ℕ) (constant : Enumerator) (old new : Context) (bits : ℕ) : Type 0 where
  pub rows : List HandedRow
  pub handed : new.handed ≡ old.handed ++ rows
  pub grows : Grows old new
  pub goes : (n : Numbering) → Agrees n new → (further : List Enumerator) (outcome : Outcome NamedType) (after : Declared)
      → Finds (language abi n) (declared new) (EnumeratorsAre (next_value bits) further outcome) after
      → Finds (language abi n) (declared old) (EnumeratorsAre next (constant ∷ further) (with_front (map (handed_at n) rows) outcome)) after

pub record EnumeratorStops (abi : Abi) (next : Option ℕ) (constant : Enumerator) (old new : Context) (first : Fault) : Type 0 where
  pub grows : Grows old new
  pub found : (n : Numbering) → Agrees n new → (further : List Enumerator) → Finds (language abi n) (declared old) (EnumeratorsAre next (constant ∷ further) (Refused first)) (declared new)

abbrev pub IsEnumerated : Abi → Option ℕ → Enumerator → Context → Context → Found ℕ → Type 0
IsEnumerated abi next constant old new (FoundToPass bits) = EnumeratorPasses abi next constant old new bits
IsEnumerated abi next constant old new (FoundRefused first) = EnumeratorStops abi next constant old new first
