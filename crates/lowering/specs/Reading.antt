-- How the code reads the trees of a program: for each program that its context stands for.
use Rattle.std.specs.Prelude.{◌≡◌, ℕ, Bool, List, Option, None, Some, if◌then◌else◌}
use Rattle.cbase.specs.declared.tree.expr.Expr.{Expr}
use Rattle.cbase.specs.declared.tree.expr.ExprForm.TheOpen as tree
use Rattle.cbase.specs.declared.tree.identifier.Identifier.{Identifier}
use Rattle.cbase.specs.declared.tree.init.Init.{Init}
use Rattle.cbase.specs.declared.tree.operators.BinaryOp.{BinaryOp}
use Rattle.cbase.specs.declared.tree.stmt.Stmt.{Stmt}
use Rattle.expressions.specs.Context.{Context}
use Rattle.c_machine.specs.declared.kind.Kind.{Kind}
use Rattle.c_machine.specs.Expressions.{value_kind}
use Rattle.c_machine.specs.Program.{Program, constant_of}
use Rattle.c_machine.specs.Text.{Standing, ObjectStands, ConstantStands, Form, Text}
use Rattle.c_machine.specs.Text as text
use Rattle.c_machine.specs.Trees.{form_of, text_of}
use Rattle.c_machine.specs.Words.{scalar_bytes}
use Rattle.lowering.specs.declared.form.TreeForm.{TreeForm}
use Rattle.lowering.specs.declared.form.TreeForm.TheVariants as told
use Rattle.lowering.specs.Kinds.{is_void}
use Rattle.lowering.specs.LetGo.{leaves_nothing}
use Rattle.lowering.specs.Moves.{MoveOf, Line}
use Rattle.lowering.specs.Source.{Source, IsSource, Reads}
use Rattle.lowering.specs.Table.{load_line, value_line, place_line, work_line, assign_line, update_line, count_line, call_line, void_line, dropped_line}
use Rattle.lowering.specs.Told.{IsLine}

-- the kind of an expression, and of its value
pub record IsKind (context : Context) (expr : Expr) (kind : Kind) : Type 0 where
  pub of : (p : Program) → Reads context p → kind ≡ (text_of p).kind expr

pub record IsValueKind (context : Context) (expr : Expr) (kind : Kind) : Type 0 where
  pub of : (p : Program) → Reads context p → kind ≡ value_kind (text_of p) expr

-- what a name stands for: the constant of an enum with these bits, and none
pub record IsConstant (context : Context) (expr : Expr) (bits : ℕ) : Type 0 where
  pub of : (p : Program) → Reads context p → (text_of p).stands expr ≡ ConstantStands bits

pub record IsNoConstant (context : Context) (expr : Expr) : Type 0 where
  pub of : (p : Program) → Reads context p → (bits : ℕ) → (text_of p).stands expr ≡ ConstantStands bits → ⊥

-- the token of the object that a name stands for, if it stands for one
abbrev pub token_of : Standing → Option ℕ
token_of (ObjectStands token) = Some token
token_of other = None

pub record IsObjectToken (context : Context) (expr : Expr) (token : Option ℕ) : Type 0 where
  pub of : (p : Program) → Reads context p → token ≡ token_of ((text_of p).stands expr)

-- the variable of the object that a name stands for
abbrev pub named_variable : (ℕ → Option ℕ) → Standing → Option ℕ
named_variable variable (ObjectStands token) = variable token
named_variable variable other = None

-- a form
abbrev pub form_in : TreeForm → Form Expr Stmt
form_in told.Name = text.Name
form_in (told.Known bits) = text.Known bits
form_in (told.Unary op arg) = text.Unary op arg
form_in (told.Binary op left right) = text.Binary op left right
form_in (told.Assign op left right) = text.Assign op left right
form_in (told.Count up after arg) = text.Count up after arg
form_in (told.Choose test one other) = text.Choose test one other
form_in (told.Cast arg) = text.Cast arg
form_in (told.Index base index) = text.Index base index
form_in (told.Member base offset through) = text.Member base offset through
form_in (told.Call callee args) = text.Call callee args
form_in (told.Inner body close) = text.Inner body close
form_in told.AssertFail = text.AssertFail

pub record IsForm (context : Context) (expr : Expr) (form : Form Expr Stmt) : Type 0 where
  pub of : (p : Program) → Reads context p → form ≡ (text_of p).form expr

-- those of constants, and of members
pub record IsKnown (context : Context) (expr : Expr) (form : Form Expr Stmt) : Type 0 where
  pub of : (p : Program) → Reads context p → form ≡ text.Known (constant_of p expr)

pub record IsMember (context : Context) (base : Expr) (name : Identifier) (through : Bool) (form : Form Expr Stmt) : Type 0 where
  pub of : (p : Program) (expr : Expr) → Reads context p → form ≡ form_of p expr (tree.ExprForm::Member base name through)

-- the lines of a load, of a value, of an address, and of an expression whose value is not used
pub record IsLoadLine (context : Context) (expr : Expr) (spare into taken taken' : ℕ) (before after : List (MoveOf Expr Stmt Init)) : Type 0 where
  pub of : (p : Program) → Reads context p → IsLine (load_line (text_of p) expr spare into taken (scalar_bytes ((text_of p).kind expr))) taken taken' before after

pub record IsValueLine (source : Source) (expr : Expr) (spare into : ℕ) (form : Form Expr Stmt) (taken taken' : ℕ) (before after : List (MoveOf Expr Stmt Init)) : Type 0 where
  pub of : (p : Program) → IsSource source p → IsLine (value_line (text_of p) expr spare into taken form) taken taken' before after

pub record IsPlaceLine (context : Context) (found : Option ℕ) (expr : Expr) (spare into : ℕ) (form : Form Expr Stmt) (taken taken' : ℕ)
    (before after : List (MoveOf Expr Stmt Init)) : Type 0 where
  pub of : (p : Program) (variable : ℕ → Option ℕ) → Reads context p → found ≡ named_variable variable ((text_of p).stands expr)
      → IsLine (place_line (text_of p) variable expr spare into taken form) taken taken' before after

pub record IsWorkLine (source : Source) (expr : Expr) (spare : ℕ) (form : Form Expr Stmt) (taken taken' : ℕ) (before after : List (MoveOf Expr Stmt Init)) : Type 0 where
  pub of : (p : Program) → IsSource source p → IsLine (work_line (text_of p) expr spare taken form) taken taken' before after

-- lines that serve values that are used and those that are not: of assignments, of `++` and `--`, and of calls
abbrev pub assigned_line : (t : Text) → t.Expr → Option BinaryOp → t.Expr → t.Expr → ℕ → Option ℕ → ℕ → Line t
assigned_line t expr None left right spare kept r = assign_line t expr left right spare kept r (t.kind left)
assigned_line t expr (Some op) left right spare kept r = update_line t op expr left right spare kept r (t.kind left) (scalar_bytes (t.kind left))

pub record IsAssignedLine (context : Context) (expr : Expr) (op : Option BinaryOp) (left right : Expr) (spare : ℕ) (kept : Option ℕ) (taken taken' : ℕ)
    (before after : List (MoveOf Expr Stmt Init)) : Type 0 where
  pub of : (p : Program) → Reads context p → IsLine (assigned_line (text_of p) expr op left right spare kept taken) taken taken' before after

pub record IsCountedLine (context : Context) (expr : Expr) (up behind : Bool) (arg : Expr) (spare : ℕ) (kept : Option ℕ) (taken taken' : ℕ)
    (before after : List (MoveOf Expr Stmt Init)) : Type 0 where
  pub of : (p : Program) → Reads context p
      → IsLine (count_line (text_of p) up behind expr arg spare kept taken ((text_of p).kind arg) (scalar_bytes ((text_of p).kind arg))) taken taken' before after

pub record IsCalledLine (source : Source) (callee : Expr) (args : List Expr) (spare : ℕ) (kept : Option ℕ) (into taken taken' : ℕ)
    (before after : List (MoveOf Expr Stmt Init)) : Type 0 where
  pub of : (p : Program) → IsSource source p → IsLine (call_line (text_of p) callee args spare kept into taken ((text_of p).stands callee)) taken taken' before after

-- expressions whose value is not used: those that are no comma, those that leave no value, and whether a form leaves none
abbrev pub other_work_line : (t : Text) → t.Expr → ℕ → ℕ → Form t.Expr t.Stmt → Line t
other_work_line t expr spare r form =
    if is_void (value_kind t expr) then void_line t expr spare r form
    else (if leaves_nothing t form then void_line t expr spare r form else dropped_line t expr spare)

pub record IsOtherWorkLine (source : Source) (expr : Expr) (spare : ℕ) (form : Form Expr Stmt) (taken taken' : ℕ) (before after : List (MoveOf Expr Stmt Init)) : Type 0 where
  pub of : (p : Program) → IsSource source p → IsLine (other_work_line (text_of p) expr spare taken form) taken taken' before after

pub record IsVoidLine (source : Source) (expr : Expr) (spare : ℕ) (form : Form Expr Stmt) (taken taken' : ℕ) (before after : List (MoveOf Expr Stmt Init)) : Type 0 where
  pub of : (p : Program) → IsSource source p → IsLine (void_line (text_of p) expr spare taken form) taken taken' before after

pub record LeavesNothing (source : Source) (form : Form Expr Stmt) (nothing : Bool) : Type 0 where
  pub of : (p : Program) → IsSource source p → nothing ≡ leaves_nothing (text_of p) form
