-- What a call calls, as the code tells it, for each program that its context stands for.
use Rattle.std.specs.Prelude.{◌≡◌, ℕ, Bool, true, false, not, ◌&&◌, nat_eq, List, [], ◌∷◌, ◌++◌, length, map, take, Option, None, Some, is_some, slice_get, if◌then◌else◌}
use Rattle.cbase.specs.declared.place.Place.{Place}
use Rattle.cbase.specs.declared.tree.expr.Expr.{Expr}
use Rattle.cbase.specs.declared.tree.init.Init.{Init}
use Rattle.cbase.specs.declared.tree.stmt.Stmt.{Stmt}
use Rattle.expressions.specs.Context.{Context}
use Rattle.expressions.specs.Numbers.{Numbering}
use Rattle.c_machine.specs.declared.built_in.BuiltIn.{BuiltIn}
use Rattle.c_machine.specs.declared.kind.Kind.{Kind}
use Rattle.c_machine.specs.Expressions.{built_in}
use Rattle.c_machine.specs.declared.object.Object.{Object}
use Rattle.c_machine.specs.Program.{Program, FunctionItem, number_in}
use Rattle.c_machine.specs.Text.{Standing, BuiltInStands, BodyStands, Function, Text}
use Rattle.c_machine.specs.Trees.{body_stands, function_as, kind_in, text_of}
use Rattle.c_text.specs.declared.parameters.Parameters.{Parameters}
use Rattle.c_text.specs.Parameters.{types_by}
use Rattle.c_text.specs.Standing.{built_in_by}
use Rattle.c_text.specs.Stands.{StandsFor}
use Rattle.flow.specs.declared.instruction.Instr.TheVariants as i
use Rattle.lowering.specs.declared.called.Called.{Called}
use Rattle.lowering.specs.declared.called.Called.TheVariants.{BuiltIn as OfBuiltIn, Body, Nothing}
use Rattle.lowering.specs.Kinds.{is_void, width}
use Rattle.lowering.specs.LetGo.{fills, fills_by}
use Rattle.lowering.specs.Moves.{MoveOf, Line, Emits, Fails, taking}
use Rattle.lowering.specs.Source.{Source, IsSource, Reads}
use Rattle.lowering.specs.Table.{argument_moves, are_sized, built_in_line, gives, registers_from, result_into}
use Rattle.lowering.specs.Told.{IsLine}

-- the kinds of parameters
pub record AreParameterKinds (context : Context) (params : Parameters) (kinds : List Kind) : Type 0 where
  pub of : (n : Numbering) (p : Program) → StandsFor n context p → kinds ≡ map (kind_in p) (types_by n p params)

pub record AreFirstKinds (context : Context) (params : Parameters) (count : ℕ) (kinds : List Kind) : Type 0 where
  pub of : (n : Numbering) (p : Program) → StandsFor n context p → kinds ≡ map (kind_in p) (take count (types_by n p params))

-- whether a name stands for a function that can be called
abbrev pub is_callable : (t : Text) → Standing → Bool
is_callable t (BuiltInStands name params result) = true
is_callable t (BodyStands number) = is_some (slice_get t.functions number)
is_callable t other = false

-- what a name stands for that is called
abbrev pub Calls : (p : Program) → Called → Standing → Type 0
Calls p (OfBuiltIn what params made) standing = (name : List ℕ) × (standing ≡ BuiltInStands name params made) × (built_in name ≡ what)
Calls p (Body number params sized made) standing =
    (function : Function Stmt) × (standing ≡ BodyStands number) × (slice_get (text_of p).functions number ≡ Some function)
    × (params ≡ map (λ param. param.kind) function.params) × (sized ≡ are_sized function.params) × (made ≡ function.result)
Calls p Nothing standing = is_callable (text_of p) standing ≡ false

-- whether each parameter of these kinds has a value, and its object the size of that
abbrev pub are_sized_as : List Kind → List Object → Bool
are_sized_as [] objects = true
are_sized_as (kind ∷ kinds) [] = true
are_sized_as (kind ∷ kinds) (object ∷ objects) = (not (is_void kind) && nat_eq (width kind) object.bytes) && are_sized_as kinds objects

-- calls of functions that are built in, and of those that have a body, by name, by number and where they are defined
pub record IsBuiltInCalled (context : Context) (name : List ℕ) (signature : ℕ) (called : Called) : Type 0 where
  pub of : (n : Numbering) (p : Program) → StandsFor n context p → Calls p called (built_in_by n p (Some name) (n.signature signature))

pub record IsBodyCalled (source : Source) (name : List ℕ) (called : Called) : Type 0 where
  pub of : (p : Program) → IsSource source p → Calls p called (body_stands (number_in source.functions name))

pub record IsNumberedCalled (source : Source) (number : ℕ) (called : Called) : Type 0 where
  pub of : (p : Program) → IsSource source p → Calls p called (BodyStands number)

pub record IsDefinedCalled (context : Context) (number token : ℕ) (called : Called) : Type 0 where
  pub of : (p : Program) (function : FunctionItem) → Reads context p → function.token ≡ token
      → called ≡ Body number (map (λ param. param.kind) (function_as p function).params) (are_sized (function_as p function).params) (function_as p function).result

pub record IsCalled (source : Source) (callee : Expr) (called : Called) : Type 0 where
  pub of : (p : Program) → IsSource source p → Calls p called ((text_of p).stands callee)

-- the line of a call of it
abbrev pub called_line : (t : Text) → Called → List t.Expr → ℕ → Option ℕ → ℕ → ℕ → Place → Line t
called_line t (OfBuiltIn what params made) args spare kept into r place =
    if gives what params made then built_in_line t what args params made spare kept r place else taking 0 (Fails ∷ [])
called_line t (Body number params sized made) args spare kept into r place =
    if sized then taking (length args) (argument_moves t args params spare r ++ Emits (i.Call number (registers_from r args) (result_into made into)) place ∷ [])
    else taking 0 (Fails ∷ [])
called_line t Nothing args spare kept into r place = taking 0 (Fails ∷ [])

pub record IsLineOfCalled (source : Source) (called : Called) (args : List Expr) (spare : ℕ) (kept : Option ℕ) (into : ℕ) (place : Place) (taken taken' : ℕ)
    (before after : List (MoveOf Expr Stmt Init)) : Type 0 where
  pub of : (p : Program) → IsSource source p → IsLine (called_line (text_of p) called args spare kept into taken place) taken taken' before after

pub record IsBuiltInLine (source : Source) (what : BuiltIn) (args : List Expr) (params : List Kind) (made : Kind) (spare : ℕ) (kept : Option ℕ) (place : Place)
    (taken taken' : ℕ) (before after : List (MoveOf Expr Stmt Init)) : Type 0 where
  pub of : (p : Program) → IsSource source p → IsLine (built_in_line (text_of p) what args params made spare kept taken place) taken taken' before after

-- whether what is called leaves no register where its value is not used
abbrev pub fills_called : Called → Bool
fills_called (OfBuiltIn what params made) = fills what
fills_called (Body number params sized made) = false
fills_called Nothing = false

pub record Fills (source : Source) (callee : Expr) (nothing : Bool) : Type 0 where
  pub of : (p : Program) → IsSource source p → nothing ≡ fills_by ((text_of p).stands callee)
