-- How the code works out how many registers an expression leaves that hold what it let go of: parts that are still to be looked at, and the most so far.
use Rattle.std.specs.Prelude.{◌≡◌, ℕ, ◌+◌, max, Bool, false, true, List, [], ◌∷◌, if◌then◌else◌}
use Rattle.cbase.specs.declared.tree.expr.Expr.{Expr}
use Rattle.cbase.specs.declared.tree.operators.BinaryOp.{BinaryOp}
use Rattle.cbase.specs.declared.tree.stmt.Stmt.{Stmt}
use Rattle.c_machine.specs.declared.built_in.BuiltIn.{BuiltIn}
use Rattle.c_machine.specs.declared.kind.Kind.{Kind}
use Rattle.c_machine.specs.Program.{Program}
use Rattle.c_machine.specs.Expressions.{value_kind}
use Rattle.c_machine.specs.Text.{Form, Text}
use Rattle.c_machine.specs.Trees.{text_of}
use Rattle.c_machine.specs.Words.{scalar_bytes}
use Rattle.lowering.specs.declared.called.Called.{Called}
use Rattle.lowering.specs.declared.called.Called.TheVariants.{BuiltIn as OfFunction, Body, Nothing}
use Rattle.lowering.specs.declared.conversion.Conversion.{Conversion}
use Rattle.lowering.specs.declared.left.Pending.{Pending}
use Rattle.lowering.specs.declared.left.Search.{Search}
use Rattle.lowering.specs.Kinds.{is_void}
use Rattle.lowering.specs.LetGo.{Wanted, AsValue, AsTest, left_as, left_of, left_both, left_by_assign, leaves_nothing, left_converted, left_by_load, left_by_binary, left_by_arguments, left_by_built_in, left_by_call, left_by_value, left_by_place, left_by_work, left_by_test, left_within}
use Rattle.lowering.specs.Source.{Source, IsSource}

-- what is looked at: an expression; one as a kind, and behind a conversion; arguments of parameters; and an expression by its form, with what is wanted of it
pub data Part : Type 0 where
  Whole : Wanted → Expr → Part
  As : Expr → (in_spare : Bool) → Kind → Part
  Converted : Expr → (in_spare : Bool) → Conversion → Part
  Arguments : List Expr → List Kind → Part
  Loaded : Expr → (in_spare : Bool) → Part
  TwoTests : Expr → Expr → Part
  TwoValues : Expr → Expr → Part
  TwoSides : Expr → BinaryOp → Expr → Expr → (in_spare : Bool) → Part
  Stored : Expr → Expr → Kind → Part
  OfBuiltIn : BuiltIn → List Expr → List Kind → (in_spare : Bool) → Part
  OfCalled : Called → List Expr → (in_spare : Bool) → Part
  OfCall : Expr → List Expr → (in_spare : Bool) → Part
  OfValue : Expr → (in_spare : Bool) → Form Expr Stmt → Part
  OfPlace : (in_spare : Bool) → Form Expr Stmt → Part
  OfWork : Expr → Form Expr Stmt → Part
  OfOtherWork : Expr → Form Expr Stmt → Part
  OfTest : Expr → Form Expr Stmt → Part

abbrev pub left_by_called : (p : Program) → (Wanted → Expr → ℕ) → Called → List Expr → Bool → ℕ
left_by_called p left (OfFunction what params made) args in_spare = left_by_built_in (text_of p) left what args params in_spare
left_by_called p left (Body number params sized made) args in_spare = left_by_arguments (text_of p) left args params
left_by_called p left Nothing args in_spare = 0

-- of an expression that is no comma, and whose value is not used
abbrev pub left_by_other_work : (t : Text) → (Wanted → t.Expr → ℕ) → t.Expr → Form t.Expr t.Stmt → ℕ
left_by_other_work t left expr form =
    if is_void (value_kind t expr) then left_by_value t left expr false form
    else (if leaves_nothing t form then left_by_value t left expr false form else left_both 1 (left (AsValue true) expr))

-- how many registers a part leaves, where so many levels are left
abbrev pub left_part : (p : Program) → ℕ → Part → ℕ
left_part p levels (Whole wanted expr) = left_within levels (text_of p) wanted expr
left_part p levels (As expr in_spare kind) = left_as (text_of p) (left_within levels (text_of p)) expr in_spare kind
left_part p levels (Converted expr in_spare change) = left_converted (text_of p) (left_within levels (text_of p)) expr in_spare change
left_part p levels (Arguments args params) = left_by_arguments (text_of p) (left_within levels (text_of p)) args params
left_part p levels (Loaded expr in_spare) = left_by_load (text_of p) (left_within levels (text_of p)) expr in_spare (scalar_bytes ((text_of p).kind expr))
left_part p levels (TwoTests one other) = max (left_within levels (text_of p) AsTest one) (left_within levels (text_of p) AsTest other)
left_part p levels (TwoValues one other) = max (left_within levels (text_of p) (AsValue false) one) (left_within levels (text_of p) (AsValue false) other)
left_part p levels (Stored one other kind) = left_by_assign (text_of p) (left_within levels (text_of p)) one other kind
left_part p levels (OfBuiltIn what args params in_spare) = left_by_built_in (text_of p) (left_within levels (text_of p)) what args params in_spare
left_part p levels (TwoSides expr op one other in_spare) = left_by_binary (text_of p) (left_within levels (text_of p)) expr op one other in_spare
left_part p levels (OfCalled called args in_spare) = left_by_called p (left_within levels (text_of p)) called args in_spare
left_part p levels (OfCall callee args in_spare) = left_by_call (text_of p) (left_within levels (text_of p)) args in_spare ((text_of p).stands callee)
left_part p levels (OfValue expr in_spare form) = left_by_value (text_of p) (left_within levels (text_of p)) expr in_spare form
left_part p levels (OfPlace in_spare form) = left_by_place (text_of p) (left_within levels (text_of p)) in_spare form
left_part p levels (OfWork expr form) = left_by_work (text_of p) (left_within levels (text_of p)) expr form
left_part p levels (OfOtherWork expr form) = left_by_other_work (text_of p) (left_within levels (text_of p)) expr form
left_part p levels (OfTest expr form) = left_by_test (text_of p) (left_within levels (text_of p)) expr form

-- what a search comes to: the most so far, and what each part that it has still to look at leaves, with those ahead of it
abbrev pub most_in : (p : Program) → List (Pending) → ℕ
most_in p [] = 0
most_in p (next ∷ rest) = max (next.ahead + left_within next.levels (text_of p) next.wanted next.expr) (most_in p rest)

abbrev pub worth : (p : Program) → Search → ℕ
worth p search = max search.most (most_in p search.pending)

-- a part is added to a search, with so many registers ahead of it
pub record IsAdded (source : Source) (levels ahead : ℕ) (part : Part) (before after : Search) : Type 0 where
  pub of : (p : Program) → IsSource source p → worth p after ≡ max (ahead + left_part p levels part) (worth p before)

-- what a search comes to
pub record ComesTo (source : Source) (search : Search) (count : ℕ) : Type 0 where
  pub of : (p : Program) → IsSource source p → count ≡ worth p search

-- how many registers an expression leaves, and one as a kind
pub record IsLeft (source : Source) (wanted : Wanted) (expr : Expr) (count : ℕ) : Type 0 where
  pub of : (p : Program) → IsSource source p → count ≡ left_of (text_of p) wanted expr

pub record IsLeftAs (source : Source) (expr : Expr) (in_spare : Bool) (kind : Kind) (count : ℕ) : Type 0 where
  pub of : (p : Program) → IsSource source p → count ≡ left_as (text_of p) (left_of (text_of p)) expr in_spare kind

-- a search comes to what it came to
pub record StaysWorth (source : Source) (before after : Search) : Type 0 where
  pub of : (p : Program) → IsSource source p → worth p after ≡ worth p before
