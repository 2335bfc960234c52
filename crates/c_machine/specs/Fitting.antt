-- Numbers and sizes that fit: operands have 64 bits, and so has each number that a text gives: constants, sizes and offsets; and each object in scope
-- has as many bytes as the text says.
use Rattle.std.specs.Prelude.{◌≡◌, ℕ, ◌^◌, ◌<◌, true, List, [], ◌∷◌, ◌++◌, length, Option, None, Some, slice_get}
use Rattle.std.specs.List.{flat_map}
use Rattle.cbase.specs.declared.place.Place.{Place}
use Rattle.bytes_core.specs.declared.block.Block.{Block}
use Rattle.bytes_core.specs.declared.word.Word.{Word}
use Rattle.bytes_core.specs.declared.word.Word.TheVariants.{Plain, To}
use Rattle.cbase.specs.declared.ctype.CType.{CType}
use Rattle.typing.specs.Entities.{Entity, ObjectIs, FunctionIs, EnumeratorIs, TypedefIs}
use Rattle.typing.specs.Outcomes.{Handed, ExpressionHanded, StoreHanded, ObjectHanded, LinkHanded, FunctionHanded, ParameterHanded}
use Rattle.typing.specs.values.Values.{is_whole}
use Rattle.c_machine.specs.declared.kind.Kind.{Kind}
use Rattle.c_machine.specs.declared.kind.Kind.TheVariants.{Integer, Pointer, Array, Struct, Void}
use Rattle.c_machine.specs.declared.object.Object.{Object}
use Rattle.c_machine.specs.declared.variable.Variable.{Variable}
use Rattle.c_machine.specs.declared.task.Task.TheVariants.{Push, Shift, Load, Convert, Apply, Operate, Pick, Store, Update, CountBy, CopyStruct, RunBuiltIn, MakeObject, MakeParameter, MakeStatic, Zero, GiveBack, EndOfBody}
use Rattle.c_machine.specs.Program.{Program, size_of}
use Rattle.c_machine.specs.State.{TaskIn, Scope, StateIn, objects_of}
use Rattle.c_machine.specs.Text.{Standing, ConstantStands, BuiltInStands, Form, Known, Member, Store as Stored, Parameter, Function, Text}
use Rattle.c_machine.specs.Trees.{kind_in, text_of}

-- each item of a list has it; and what may be there has it where it is there
abbrev pub Each : {X : Type 0} → (X → Type 0) → List X → Type 0
Each P [] = Unit {0}
Each P (item ∷ rest) = P item × Each P rest

abbrev pub IfThere : {X : Type 0} → (X → Type 0) → Option X → Type 0
IfThere P None = Unit {0}
IfThere P (Some item) = P item

-- a number of 64 bits without sign; and a plain operand is one
abbrev pub IsNumber : ℕ → Type 0
IsNumber number = number < 2 ^ 64

abbrev pub Fits : Word → Type 0
Fits (Plain number) = IsNumber number
Fits (To block offset) = Unit {0}

-- integers are of a type that the data layouts have, and sizes are such numbers
abbrev pub HasSize : Kind → Type 0
HasSize (Integer of) = is_whole of ≡ true
HasSize (Pointer bytes) = IsNumber bytes
HasSize (Array bytes) = IsNumber bytes
HasSize (Struct bytes) = IsNumber bytes
HasSize Void = Unit {0}

abbrev pub IsSized : Object → Type 0
IsSized object = IsNumber object.bytes

-- an object of a text that a block has: one of its functions has it as a parameter, or a name declares it there; and one that lives as long as the program
-- runs
pub data IsLocalOf (t : Text) : Object → Type 0 where
  ParameterIs : (number : ℕ) (function : Function t.Stmt) (place : ℕ) (param : Parameter) → slice_get t.functions number ≡ Some function →
      slice_get function.params place ≡ Some param → IsLocalOf t param.object
  MainParameterIs : (main : Function t.Stmt) (place : ℕ) (param : Parameter) → t.main ≡ Some main → slice_get main.params place ≡ Some param → IsLocalOf t param.object
  AutomaticIs : (place : Place) (object : Object) → t.automatic place ≡ Some object → IsLocalOf t object

abbrev pub IsStaticOf : Text → Object → Type 0
IsStaticOf t object = (place : ℕ) × (slice_get t.statics place ≡ Some object)

-- the numbers and kinds of a thing to do, and the object that it makes
abbrev pub TaskFits : (t : Text) → TaskIn t → Type 0
TaskFits t (Push number) = IsNumber number
TaskFits t (Shift bytes) = IsNumber bytes
TaskFits t (Load place kind) = HasSize kind
TaskFits t (Convert from to) = HasSize from × HasSize to
TaskFits t (Apply op kind) = HasSize kind
TaskFits t (Operate op left right) = HasSize left × HasSize right
TaskFits t (Pick kind one other) = HasSize kind
TaskFits t (Store place kind) = HasSize kind
TaskFits t (Update op place kind right) = HasSize kind × HasSize right
TaskFits t (CountBy up behind place kind) = HasSize kind
TaskFits t (CopyStruct place bytes) = IsNumber bytes
TaskFits t (RunBuiltIn what place result) = HasSize result
TaskFits t (MakeObject object) = IsSized object × IsLocalOf t object
TaskFits t (MakeParameter object) = IsSized object × IsLocalOf t object
TaskFits t (MakeStatic object) = IsSized object × IsStaticOf t object
TaskFits t (Zero place bytes) = IsNumber bytes
TaskFits t (GiveBack place kind) = HasSize kind
TaskFits t (EndOfBody is_main result close held) = HasSize result
TaskFits t other = Unit {0}

-- a block of that number has so many bytes
pub record HasBytes (memory : List Block) (number count : ℕ) : Type 0 where
  pub block : Block
  pub stands : slice_get memory number ≡ Some block
  pub size : length block.bytes ≡ count

-- an object in scope is one of these of the text, and its block has as many bytes as that
pub record HasItsSize (Is : Object → Type 0) (memory : List Block) (variable : Variable) : Type 0 where
  pub object : Object
  pub is : Is object
  pub token : object.token ≡ variable.token
  pub bytes : HasBytes memory variable.block object.bytes

-- the objects of all functions that run
abbrev pub own_objects : (t : Text) → StateIn t → Scope
own_objects t state = objects_of state.frame ++ flat_map objects_of state.callers

-- what is to be done and what unfinished expressions hold fits, and objects in scope have their sizes
pub record IsFitting (t : Text) (state : StateIn t) : Type 0 where
  pub tasks : Each (TaskFits t) state.tasks
  pub operands : Each Fits state.operands
  pub objects : Each (HasItsSize (IsLocalOf t) state.memory) (own_objects t state)
  pub statics : Each (HasItsSize (IsStaticOf t) state.memory) state.statics

-- the numbers of a text: of each expression its constant or how many bytes stand before a member, what its name stands for, and its type; what
-- initialisers set, objects, and functions
abbrev pub FormFits : {E S : Type 0} → Form E S → Type 0
FormFits (Known bits) = IfThere IsNumber bits
FormFits (Member base bytes through) = IsNumber bytes
FormFits other = Unit {0}

abbrev pub StandingFits : Standing → Type 0
StandingFits (ConstantStands bits) = IsNumber bits
StandingFits (BuiltInStands name params result) = Each HasSize params × HasSize result
StandingFits other = Unit {0}

pub record StoreFits (store : Stored) : Type 0 where
  pub offset : IsNumber store.offset
  pub kind : HasSize store.kind

pub record FunctionFits {S : Type 0} (function : Function S) : Type 0 where
  pub objects : Each (λ param. IsSized param.object) function.params
  pub kinds : Each (λ param. HasSize param.kind) function.params
  pub result : HasSize function.result

pub record IsFittingText (t : Text) : Type 0 where
  pub forms : (expr : t.Expr) → FormFits (t.form expr)
  pub kinds : (expr : t.Expr) → HasSize (t.kind expr)
  pub names : (expr : t.Expr) → StandingFits (t.stands expr)
  pub objects : (place : Place) → IfThere IsSized (t.automatic place)
  pub stores : (place : Place) (expr : t.Expr) → IfThere StoreFits (t.store place expr)
  pub statics : Each IsSized t.statics
  pub functions : Each FunctionFits t.functions
  pub main : IfThere FunctionFits t.main

-- the numbers of what typing hands on
abbrev pub TypeFits : Program → CType → Type 0
TypeFits p ctype = HasSize (kind_in p ctype) × IsNumber (size_of p ctype)

abbrev pub EntityFits : Program → Entity → Type 0
EntityFits p (ObjectIs object) = Unit {0}
EntityFits p (FunctionIs function) = Each (TypeFits p) function.params × TypeFits p function.result
EntityFits p (EnumeratorIs bits) = IsNumber bits
EntityFits p (TypedefIs ctype) = Unit {0}

abbrev pub RowFits : Program → Handed → Type 0
RowFits p (ExpressionHanded row) = TypeFits p row.ctype × (IfThere (EntityFits p) row.stands × IfThere IsNumber row.value)
RowFits p (StoreHanded row) = TypeFits p row.ctype × IsNumber row.offset
RowFits p (ObjectHanded row) = TypeFits p row.ctype
RowFits p (LinkHanded row) = Unit {0}
RowFits p (FunctionHanded row) = TypeFits p row.result
RowFits p (ParameterHanded row) = TypeFits p row.ctype

abbrev pub IsFittingProgram : Program → Type 0
IsFittingProgram p = Each (RowFits p) p.handed

-- the text of a program has just these, and no others
abbrev pub DoTextsFit : Type 0
DoTextsFit = (p : Program) → IsFittingProgram p → IsFittingText (text_of p)
