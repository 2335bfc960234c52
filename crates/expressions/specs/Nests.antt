-- What the walk over the parts that lie in a tree does, of which the rules of each form are made.
use denote.Ref.{MutBor}
use Rattle.std.specs.Prelude.{ℕ, ◌+◌, ◌≤◌, ◌<◌, Option, None, Some, Result, IfOk, IfSome, length}
use Rattle.cbase.specs.declared.abi.Abi.{Abi}
use Rattle.cbase.specs.declared.no_memory.NoMemory.{NoMemory}
use Rattle.cbase.specs.declared.tree.expr.ExprForm.TheOpen.{Struct, Enum}
use Rattle.cbase.specs.declared.tree.spec.TypeSpec.TheVariants.{Struct as StructSpec, Enum as EnumSpec}
use Rattle.cbase.specs.declared.tree.init.Init.{Init}
use Rattle.ctrees.specs.Levels.{expr_levels, stmt_levels, init_levels, spec_levels, type_name_levels}
use Rattle.typing.specs.Initialisers.{Slot, Subject}
use Rattle.typing.specs.Known.{Known}
use Rattle.typing.specs.NamedTypes.{NamedType}
use Rattle.typing.specs.Typing.{ExpressionIs, NameOfTypeIs, WordsAre, StatementIs, InitialiserIs, SurplusIs}
use Rattle.expressions.specs.declared.found.Found.{Found}
use Rattle.expressions.specs.declared.found.Found.TheVariants.{Passes, Refused}
use Rattle.expressions.specs.declared.checker.Within.{Within}
use Rattle.expressions.specs.declared.part.Part.{Part}
use Rattle.expressions.specs.declared.part.Part.TheVariants.{Expression, TypeName as NameOfType, Statement, Initialiser, Members, Enumerators}
use Rattle.expressions.specs.declared.part.Slot.{Slot as SlotByNumber}
use Rattle.expressions.specs.declared.part.Subject.{Subject as SubjectKept}
use Rattle.expressions.specs.declared.part.Told.{Told}
use Rattle.expressions.specs.declared.part.Told.TheVariants as told
use Rattle.expressions.specs.Context.{Context}
use Rattle.expressions.specs.Found.{an_expression, a_type, nothing}
use Rattle.expressions.specs.Numbers.{Numbering}
use Rattle.expressions.specs.Walked.{Walked, Says, SaysBy, Tells}

-- the sizes in a type name lie in it, and it has no level of its own: it is asked of a level above them
abbrev pub part_levels : Part → ℕ
part_levels (Expression expr) = expr_levels expr.now
part_levels (NameOfType name) = type_name_levels name.now + 1
part_levels (Statement stmt) = stmt_levels stmt.now
part_levels (Initialiser subject slot init) = init_levels init.now
part_levels (Members name fields) = spec_levels (StructSpec name.now (Some fields.now))
part_levels (Enumerators name values) = spec_levels (EnumSpec name.now (Some values.now))

-- the number of a type that is handed in with a part is one of so many
abbrev pub IsPartBelow : ℕ → Part → Type 0
IsPartBelow count (Expression expr) = Unit {0}
IsPartBelow count (NameOfType name) = Unit {0}
IsPartBelow count (Statement stmt) = Unit {0}
IsPartBelow count (Initialiser subject slot init) = IfSome slot (λ set. set.ctype < count)
IsPartBelow count (Members name fields) = Unit {0}
IsPartBelow count (Enumerators name values) = Unit {0}

-- what an initialiser sets
abbrev pub subject_of : SubjectKept → Subject
subject_of subject = record { place = subject.place; fixed = subject.fixed }

abbrev pub slot_at : Numbering → SlotByNumber → Slot
slot_at n slot = record { ctype = n.ctype slot.ctype; offset = slot.offset; braces = slot.braces }

-- what is told of an expression, of a type name and of a struct or an enum with braces, and of a statement and an initialiser
abbrev pub IsToldExpression : Tells Known → Context → Context → Found Told → Type 0
IsToldExpression tells old new (Passes (told.Expression known)) = Walked tells an_expression old new (Passes known)
IsToldExpression tells old new (Passes (told.TypeName named)) = ⊥
IsToldExpression tells old new (Passes told.Nothing) = ⊥
IsToldExpression tells old new (Refused first) = Walked tells an_expression old new (Refused first)

abbrev pub IsToldType : Tells NamedType → Context → Context → Found Told → Type 0
IsToldType tells old new (Passes (told.Expression known)) = ⊥
IsToldType tells old new (Passes (told.TypeName named)) = Walked tells a_type old new (Passes named)
IsToldType tells old new (Passes told.Nothing) = ⊥
IsToldType tells old new (Refused first) = Walked tells a_type old new (Refused first)

abbrev pub IsToldNothing : Tells (Unit {0}) → Context → Context → Found Told → Type 0
IsToldNothing tells old new (Passes (told.Expression known)) = ⊥
IsToldNothing tells old new (Passes (told.TypeName named)) = ⊥
IsToldNothing tells old new (Passes told.Nothing) = Walked tells nothing old new (Passes tt)
IsToldNothing tells old new (Refused first) = Walked tells nothing old new (Refused first)

-- an initialiser of what is set, or one for which there is no place
abbrev pub SaysInitialiser : Abi → SubjectKept → Option SlotByNumber → Init → Tells (Unit {0})
SaysInitialiser abi subject None init = Says abi (SurplusIs subject.place init)
SaysInitialiser abi subject (Some slot) init = SaysBy abi (λ n. InitialiserIs (subject_of subject) (slot_at n slot) init)

abbrev pub IsTold : Abi → Part → Context → Context → Found Told → Type 0
IsTold abi (Expression expr) old new found = IsToldExpression (Says abi (ExpressionIs expr.now)) old new found
IsTold abi (NameOfType name) old new found = IsToldType (Says abi (NameOfTypeIs name.now)) old new found
IsTold abi (Statement stmt) old new found = IsToldNothing (Says abi (StatementIs stmt.now)) old new found
IsTold abi (Initialiser subject slot init) old new found = IsToldNothing (SaysInitialiser abi subject slot init.now) old new found
IsTold abi (Members name fields) old new found = IsToldType (Says abi (WordsAre (Struct name.now (Some fields.now)))) old new found
IsTold abi (Enumerators name values) old new found = IsToldType (Says abi (WordsAre (Enum name.now (Some values.now)))) old new found

-- a function that walks over parts of at most `depth` levels
pub record Nests (abi : Abi) (depth : ℕ) (pre : MutBor Context → Within → Part → Type 0)
    (post : MutBor Context → Within → Part → Result (Found Told) NoMemory → MutBor Context → Type 0) : Type 0 where
  pub callable : (old : MutBor Context) (part : Part) → part_levels part ≤ depth → IsPartBelow (length old.now.types) part → pre old (record { abi = abi; depth = depth }) part
  pub told : (old new : MutBor Context) (part : Part) (r : Result (Found Told) NoMemory) → part_levels part ≤ depth → post old (record { abi = abi; depth = depth }) part r new
      → IfOk r (λ found. IsTold abi part old.now new.now found)
