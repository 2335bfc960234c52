-- Lines of expressions, for each program that the context stands for.
use Rattle.std.proofs.Common.{◌≡◌, ℕ, ◌+◌, Bool, List, [], ◌∷◌, ◌++◌, Option, None, Some, refl, ap, ◌∙◌}
use Rattle.cbase.specs.declared.tree.expr.Expr.{Expr}
use Rattle.cbase.specs.declared.tree.operators.BinaryOp.{BinaryOp}
use Rattle.cbase.specs.declared.tree.operators.UnaryOp.TheVariants as u
use Rattle.cbase.specs.declared.tree.stmt.Stmt.{Stmt}
use Rattle.expressions.specs.Context.{Context}
use Rattle.c_machine.specs.declared.kind.Kind.{Kind}
use Rattle.c_machine.specs.declared.kind.Kind.TheVariants.{Void}
use Rattle.c_machine.specs.Program.{Program}
use Rattle.c_machine.specs.Text.{Standing, ObjectStands, ConstantStands, BuiltInStands, BodyStands, NothingStands, Form, Name, Unary, Assign, Count, Cast, Index, Member, Call}
use Rattle.c_machine.specs.Trees.{text_of}
use Rattle.c_machine.specs.Words.{scalar_bytes}
use Rattle.lowering.specs.Moves.{Converts, taking}
use Rattle.lowering.specs.Reading.{IsKind, IsNoConstant, IsLoadLine, IsValueLine, IsAssignedLine, IsCountedLine, IsCalledLine}
use Rattle.lowering.specs.Source.{Source}
use Rattle.lowering.specs.Table.{load_line, name_line, assign_line, update_line, count_line, value_line}
use Rattle.lowering.specs.Told.{IsLine, trees}
use Rattle.lowering.proofs.Onward.{Moves, alone, line_as}
use Rattle.lowering.proofs.SameLines.{same_load, same_assign, same_update, same_count}

-- a load
pub load_is : (context : Context) (expr : Expr) (kind : Kind) (spare into taken taken' : ℕ) (before after : Moves) →
    IsKind context expr kind → IsLine (load_line (trees kind) expr spare into taken (scalar_bytes kind)) taken taken' before after →
    IsLoadLine context expr spare into taken taken' before after
load_is context expr kind spare into taken taken' before after k is = record {
  of = λ p reads.
      line_as _ _ taken taken' before after
      (ap (λ (kind : Kind). load_line (trees kind) expr spare into taken (scalar_bytes kind)) (k.of p reads)
      ∙ same_load p expr spare into taken (scalar_bytes ((text_of p).kind expr))) is;
}

pub load_index : (source : Source) (expr base index : Expr) (spare into taken taken' : ℕ) (before after : Moves) →
    IsLoadLine source.context expr spare into taken taken' before after → IsValueLine source expr spare into (Index base index) taken taken' before after
load_index source expr base index spare into taken taken' before after load = record { of = λ p is. load.of p is.reads }

pub load_member : (source : Source) (expr base : Expr) (offset : ℕ) (through : Bool) (spare into taken taken' : ℕ) (before after : Moves) →
    IsLoadLine source.context expr spare into taken taken' before after → IsValueLine source expr spare into (Member base offset through) taken taken' before after
load_member source expr base offset through spare into taken taken' before after load = record { of = λ p is. load.of p is.reads }

pub load_follow : (source : Source) (expr arg : Expr) (spare into taken taken' : ℕ) (before after : Moves) →
    IsLoadLine source.context expr spare into taken taken' before after → IsValueLine source expr spare into (Unary u.Follow arg) taken taken' before after
load_follow source expr arg spare into taken taken' before after load = record { of = λ p is. load.of p is.reads }

-- names
no_constant : (p : Program) (expr : Expr) (spare into r : ℕ) (standing : Standing) → ((bits : ℕ) → standing ≡ ConstantStands bits → ⊥) →
    load_line (text_of p) expr spare into r (scalar_bytes ((text_of p).kind expr)) ≡ name_line (text_of p) expr spare into r standing
no_constant p expr spare into r (ConstantStands bits) not = absurd (not bits refl)
no_constant p expr spare into r (ObjectStands token) not = refl
no_constant p expr spare into r (BuiltInStands name params result) not = refl
no_constant p expr spare into r (BodyStands number) not = refl
no_constant p expr spare into r NothingStands not = refl

pub name_loads : (source : Source) (expr : Expr) (spare into taken taken' : ℕ) (before after : Moves) → IsNoConstant source.context expr →
    IsLoadLine source.context expr spare into taken taken' before after → IsValueLine source expr spare into Name taken taken' before after
name_loads source expr spare into taken taken' before after none load = record {
  of = λ p is.
      line_as _ _ taken taken' before after (no_constant p expr spare into taken ((text_of p).stands expr) (none.of p is.reads)) (load.of p is.reads);
}

-- a line that asks nothing of a text
pub value_alone : (source : Source) (expr : Expr) (spare into : ℕ) (form : Form Expr Stmt) (moves : Moves) (taken : ℕ) (before after : Moves) →
    ((p : Program) → taking 0 moves ≡ value_line (text_of p) expr spare into taken form) → after ≡ moves ++ before →
    IsValueLine source expr spare into form taken taken before after
value_alone source expr spare into form moves taken before after same is = record {
  of = λ p source.
      line_as _ _ taken taken before after (same p) (alone moves taken before after is);
}

-- casts
pub cast_is : (source : Source) (expr arg : Expr) (kind : Kind) (spare into taken : ℕ) (before after : Moves) → IsKind source.context expr kind →
    after ≡ Converts arg kind spare into ∷ before → IsValueLine source expr spare into (Cast arg) taken taken before after
cast_is source expr arg kind spare into taken before after k is = record {
  of = λ p source.
      line_as _ _ taken taken before after (ap (λ (kind : Kind). taking 0 (Converts arg kind spare into ∷ [])) (k.of p source.reads))
      (alone (Converts arg kind spare into ∷ []) taken before after is);
}

-- assignments, `++` and `--`
pub assign_is : (context : Context) (expr left right : Expr) (kind : Kind) (spare : ℕ) (kept : Option ℕ) (taken taken' : ℕ) (before after : Moves) →
    IsKind context left kind → IsLine (assign_line (trees Void) expr left right spare kept taken kind) taken taken' before after →
    IsAssignedLine context expr None left right spare kept taken taken' before after
assign_is context expr left right kind spare kept taken taken' before after k is = record {
  of = λ p reads.
      line_as _ _ taken taken' before after
      (same_assign p expr left right spare kept taken kind ∙ ap (assign_line (text_of p) expr left right spare kept taken) (k.of p reads)) is;
}

pub update_is : (context : Context) (expr : Expr) (op : BinaryOp) (left right : Expr) (kind other : Kind) (spare : ℕ) (kept : Option ℕ) (taken taken' : ℕ) (before after : Moves) →
    IsKind context left kind → IsKind context right other →
    IsLine (update_line (trees other) op expr left right spare kept taken kind (scalar_bytes kind)) taken taken' before after →
    IsAssignedLine context expr (Some op) left right spare kept taken taken' before after
update_is context expr op left right kind other spare kept taken taken' before after k j is = record {
  of = λ p reads.
      line_as _ _ taken taken' before after
      (ap (λ (other : Kind). update_line (trees other) op expr left right spare kept taken kind (scalar_bytes kind)) (j.of p reads)
      ∙ same_update p op expr left right spare kept taken kind (scalar_bytes kind)
      ∙ ap (λ (kind : Kind). update_line (text_of p) op expr left right spare kept taken kind (scalar_bytes kind)) (k.of p reads)) is;
}

pub count_is : (context : Context) (expr : Expr) (up behind : Bool) (arg : Expr) (kind : Kind) (spare : ℕ) (kept : Option ℕ) (taken taken' : ℕ) (before after : Moves) →
    IsKind context arg kind → IsLine (count_line (trees Void) up behind expr arg spare kept taken kind (scalar_bytes kind)) taken taken' before after →
    IsCountedLine context expr up behind arg spare kept taken taken' before after
count_is context expr up behind arg kind spare kept taken taken' before after k is = record {
  of = λ p reads.
      line_as _ _ taken taken' before after
      (same_count p up behind expr arg spare kept taken kind (scalar_bytes kind)
      ∙ ap (λ (kind : Kind). count_line (text_of p) up behind expr arg spare kept taken kind (scalar_bytes kind)) (k.of p reads)) is;
}

pub value_assigned : (source : Source) (expr : Expr) (op : Option BinaryOp) (left right : Expr) (spare into taken taken' : ℕ) (before after : Moves) →
    IsAssignedLine source.context expr op left right spare (Some into) taken taken' before after →
    IsValueLine source expr spare into (Assign op left right) taken taken' before after
value_assigned source expr None left right spare into taken taken' before after assigned = record { of = λ p is. assigned.of p is.reads }
value_assigned source expr (Some op) left right spare into taken taken' before after assigned = record { of = λ p is. assigned.of p is.reads }

pub value_counted : (source : Source) (expr : Expr) (up behind : Bool) (arg : Expr) (spare into taken taken' : ℕ) (before after : Moves) →
    IsCountedLine source.context expr up behind arg spare (Some into) taken taken' before after →
    IsValueLine source expr spare into (Count up behind arg) taken taken' before after
value_counted source expr up behind arg spare into taken taken' before after counted = record { of = λ p is. counted.of p is.reads }

pub value_called : (source : Source) (expr callee : Expr) (args : List Expr) (spare into taken taken' : ℕ) (before after : Moves) →
    IsCalledLine source callee args spare (Some into) into taken taken' before after →
    IsValueLine source expr spare into (Call callee args) taken taken' before after
value_called source expr callee args spare into taken taken' before after called = record { of = λ p is. called.of p is }
