-- Lines of addresses, and of expressions whose value is not used, for each program that the context stands for.
use Rattle.std.proofs.Common.{◌≡◌, ℕ, ◌+◌, Bool, true, false, List, ◌∷◌, ◌++◌, Option, None, Some, refl, sym, ap, ◌∙◌}
use Rattle.std.specs.Prelude.{if◌then◌else◌}
use Rattle.cbase.specs.declared.place.Place.{Place}
use Rattle.cbase.specs.declared.tree.expr.Expr.{Expr}
use Rattle.cbase.specs.declared.tree.init.Init.{Init}
use Rattle.cbase.specs.declared.tree.operators.BinaryOp.{BinaryOp}
use Rattle.cbase.specs.declared.tree.stmt.Stmt.{Stmt}
use Rattle.expressions.specs.Context.{Context}
use Rattle.c_machine.specs.declared.kind.Kind.{Kind}
use Rattle.c_machine.specs.Program.{Program}
use Rattle.c_machine.specs.Text.{Standing, ObjectStands, ConstantStands, BuiltInStands, BodyStands, NothingStands, Form, Name, Assign, Count, Member, Call}
use Rattle.c_machine.specs.Trees.{text_of}
use Rattle.lowering.specs.Kinds.{is_void}
use Rattle.lowering.specs.LetGo.{leaves_nothing}
use Rattle.lowering.specs.Moves.{Evaluates, Locates, taking}
use Rattle.lowering.specs.Reading.{IsValueKind, IsPlaceLine, IsOtherWorkLine, IsVoidLine, IsAssignedLine, IsCountedLine, IsCalledLine, LeavesNothing, named_variable}
use Rattle.lowering.specs.Source.{Source, Reads}
use Rattle.lowering.specs.Table.{addressed, dropped_line, named_moves, object_moves, place_line, shifted_in, shifts, void_line}
use Rattle.lowering.specs.Told.{IsLine}
use Rattle.lowering.proofs.Onward.{Moves, Line, alone, line_as}

-- a line that is that of an address
place_as : (context : Context) (found : Option ℕ) (expr : Expr) (spare into : ℕ) (form : Form Expr Stmt) (line : Line) (taken taken' : ℕ) (before after : Moves) →
    ((p : Program) (variable : ℕ → Option ℕ) → Reads context p → found ≡ named_variable variable ((text_of p).stands expr)
    → line ≡ place_line (text_of p) variable expr spare into taken form) →
    IsLine line taken taken' before after → IsPlaceLine context found expr spare into form taken taken' before after
place_as context found expr spare into form line taken taken' before after same is = record {
  of = λ p variable reads finds.
      line_as _ _ taken taken' before after (same p variable reads finds) is;
}

named_as : (variable : ℕ → Option ℕ) (place : Place) (into : ℕ) (standing : Standing) →
    object_moves {E = Expr} {S = Stmt} {I = Init} (named_variable variable standing) place into ≡ named_moves variable place into standing
named_as variable place into (ObjectStands token) = refl
named_as variable place into (ConstantStands bits) = refl
named_as variable place into (BuiltInStands name params made) = refl
named_as variable place into (BodyStands number) = refl
named_as variable place into NothingStands = refl

pub place_named : (context : Context) (found : Option ℕ) (expr : Expr) (spare into taken : ℕ) (before after : Moves) →
    after ≡ object_moves found expr.place into ++ before → IsPlaceLine context found expr spare into Name taken taken before after
place_named context found expr spare into taken before after is =
    place_as context found expr spare into Name (taking 0 (object_moves found expr.place into)) taken taken before after
    (λ p variable reads finds. ap (λ (found : Option ℕ). taking 0 (object_moves found expr.place into)) finds
    ∙ ap (taking 0) (named_as variable expr.place into ((text_of p).stands expr)))
    (alone (object_moves found expr.place into) taken before after is)

pub place_member : (context : Context) (found : Option ℕ) (expr base : Expr) (offset spare into taken taken' : ℕ) (before after : Moves) →
    IsLine (taking 1 (Locates base spare (shifted_in offset taken into) ∷ shifts taken into offset expr.place)) taken taken' before after →
    IsPlaceLine context found expr spare into (Member base offset false) taken taken' before after
place_member context found expr base offset spare into taken taken' before after is =
    place_as context found expr spare into (Member base offset false) _ taken taken' before after (λ p variable reads finds. refl) is

pub place_pointed : (context : Context) (found : Option ℕ) (expr base : Expr) (kind : Kind) (offset spare into taken taken' : ℕ) (before after : Moves) →
    IsValueKind context base kind → IsLine (addressed kind 1 (Evaluates base spare (shifted_in offset taken into) ∷ shifts taken into offset expr.place)) taken taken' before after →
    IsPlaceLine context found expr spare into (Member base offset true) taken taken' before after
place_pointed context found expr base kind offset spare into taken taken' before after k is =
    place_as context found expr spare into (Member base offset true) _ taken taken' before after
    (λ p variable reads finds. ap (λ (kind : Kind). addressed kind 1 (Evaluates base spare (shifted_in offset taken into) ∷ shifts taken into offset expr.place)) (k.of p reads)) is

-- expressions whose value is not used
pub void_assigned : (source : Source) (expr : Expr) (op : Option BinaryOp) (left right : Expr) (spare taken taken' : ℕ) (before after : Moves) →
    IsAssignedLine source.context expr op left right spare None taken taken' before after → IsVoidLine source expr spare (Assign op left right) taken taken' before after
void_assigned source expr None left right spare taken taken' before after is = record { of = λ p source. is.of p source.reads }
void_assigned source expr (Some op) left right spare taken taken' before after is = record { of = λ p source. is.of p source.reads }

pub void_counted : (source : Source) (expr : Expr) (up behind : Bool) (arg : Expr) (spare taken taken' : ℕ) (before after : Moves) →
    IsCountedLine source.context expr up behind arg spare None taken taken' before after → IsVoidLine source expr spare (Count up behind arg) taken taken' before after
void_counted source expr up behind arg spare taken taken' before after is = record { of = λ p source. is.of p source.reads }

pub void_called : (source : Source) (expr callee : Expr) (args : List Expr) (spare taken taken' : ℕ) (before after : Moves) →
    IsCalledLine source callee args spare None spare taken taken' before after → IsVoidLine source expr spare (Call callee args) taken taken' before after
void_called source expr callee args spare taken taken' before after is = record { of = λ p source. is.of p source }

pub void_work : (source : Source) (expr : Expr) (kind : Kind) (spare : ℕ) (form : Form Expr Stmt) (taken taken' : ℕ) (before after : Moves) →
    IsValueKind source.context expr kind → is_void kind ≡ true → IsVoidLine source expr spare form taken taken' before after →
    IsOtherWorkLine source expr spare form taken taken' before after
void_work source expr kind spare form taken taken' before after k void is = record {
  of = λ p source.
      line_as _ _ taken taken' before after
      (ap (λ (void : Bool). if void then void_line (text_of p) expr spare taken form
      else (if leaves_nothing (text_of p) form then void_line (text_of p) expr spare taken form else dropped_line (text_of p) expr spare))
      (sym void ∙ ap is_void (k.of p source.reads)))
      (is.of p source);
}

pub nothing_work : (source : Source) (expr : Expr) (kind : Kind) (nothing : Bool) (spare : ℕ) (form : Form Expr Stmt) (taken taken' : ℕ) (before after : Moves) →
    IsValueKind source.context expr kind → is_void kind ≡ false → LeavesNothing source form nothing → nothing ≡ true →
    IsVoidLine source expr spare form taken taken' before after → IsOtherWorkLine source expr spare form taken taken' before after
nothing_work source expr kind nothing spare form taken taken' before after k void leaves none is = record {
  of = λ p source.
      line_as _ _ taken taken' before after
      (ap (λ (nothing : Bool). if nothing then void_line (text_of p) expr spare taken form else dropped_line (text_of p) expr spare) (sym none ∙ leaves.of p source)
      ∙ ap (λ (void : Bool). if void then void_line (text_of p) expr spare taken form
      else (if leaves_nothing (text_of p) form then void_line (text_of p) expr spare taken form else dropped_line (text_of p) expr spare))
      (sym void ∙ ap is_void (k.of p source.reads)))
      (is.of p source);
}
