-- What holds of the relation as a whole.
use Rattle.std.specs.Prelude.{◌≡◌, ℕ, List, [], ◌∷◌, ◌++◌, length, Option, None, Some}
use Rattle.cbase.specs.declared.abi.Abi.{Abi}
use Rattle.cbase.specs.declared.ctype.CType.{CType}
use Rattle.cbase.specs.declared.place.Place.{Place}
use Rattle.cbase.specs.declared.structs.StructDef.{StructDef}
use Rattle.cbase.specs.declared.tree.expr.Expr.{Expr}
use Rattle.cbase.specs.declared.tree.item.Item.{Item}
use Rattle.cbase.specs.declared.tree.stmt.Stmt.{Stmt}
use Rattle.typing.specs.declared.ctypes.found.Broken.{Broken}
use Rattle.typing.specs.declared.fault.Fault.{Fault}
use Rattle.typing.specs.Faults.{fault, least, all_at, IsFirst}
use Rattle.typing.specs.FileScope.{FileScope}
use Rattle.typing.specs.Forms.{Step}
use Rattle.typing.specs.Items.{FindsInFile, ItemsAre, ItemIs}
use Rattle.typing.specs.Known.{Known}
use Rattle.typing.specs.Language.{Language}
use Rattle.typing.specs.Outcomes.{Outcome}
use Rattle.typing.specs.Paths.{Way, indices_on, LeadsFrom}
use Rattle.typing.specs.Typing.{ExpressionIs, StatementIs, Finds}

-- an expression has at most one outcome in an environment, and so has a statement
pub record HasOneOutcome (l : Language) : Type 0 where
  pub expressions : (before : l.Environment) (expr : Expr) (first second : Outcome Known) (after other : l.Environment)
      → Finds l before (ExpressionIs expr first) after → Finds l before (ExpressionIs expr second) other → (first ≡ second) × (after ≡ other)
  pub statements : (before : l.Environment) (stmt : Stmt) (first second : Outcome (Unit {0})) (after other : l.Environment)
      → Finds l before (StatementIs stmt first) after → Finds l before (StatementIs stmt second) other → (first ≡ second) × (after ≡ other)

-- and so have an item of a file, and items one behind the other
pub record ItemsHaveOneOutcome (l : Language) (file : FileScope l) : Type 0 where
  pub one : (before : l.Environment) (place : Place) (item : Item) (first second : Outcome (Unit {0})) (after other : l.Environment)
      → FindsInFile l file before (ItemIs place item first) after → FindsInFile l file before (ItemIs place item second) other → (first ≡ second) × (after ≡ other)
  pub several : (before : l.Environment) (items : List (Place × Item)) (first second : Outcome (Unit {0})) (after other : l.Environment)
      → FindsInFile l file before (ItemsAre items first) after → FindsInFile l file before (ItemsAre items second) other → (first ≡ second) × (after ≡ other)

-- of what is found twice at one place this is named: nothing where neither is anything
abbrev pub IsNamedOf : Place → Option Broken → Option Broken → Option Broken → Type 0
IsNamedOf place one other None = all_at place one ++ all_at place other ≡ []
IsNamedOf place one other (Some first) = IsFirst (all_at place one ++ all_at place other) (fault place first)

-- the least of the two
abbrev pub TheLeastIsNamed : Type 0
TheLeastIsNamed = (place : Place) (one other : Option Broken) → IsNamedOf place one other (least one other)

-- of things that are broken one is named
abbrev pub OneIsNamed : Type 0
OneIsNamed = (fault : Fault) (others : List Fault) → (first : Fault) × IsFirst (fault ∷ others) first

-- a way leads somewhere or stops, where each of its indices has a value
abbrev pub EachPathLeads : Type 0
EachPathLeads = (abi : Abi) (structs : List StructDef) (word : Place) (t : CType) (path : List Step) (indices : List ℕ)
    → indices_on path ≡ length indices → (way : Way) × LeadsFrom abi structs word t path indices way
