-- Lines that ask a text only for places, and for one kind, are the same in a program and in the trees of which nothing else is known.
use Rattle.std.proofs.Common.{◌≡◌, ℕ, suc, Bool, List, [], ◌∷◌, Option, None, Some, refl, ap}
use Rattle.cbase.specs.declared.tree.expr.Expr.{Expr}
use Rattle.cbase.specs.declared.tree.operators.BinaryOp.{BinaryOp}
use Rattle.cbase.specs.declared.tree.operators.UnaryOp.{UnaryOp}
use Rattle.cbase.specs.declared.tree.operators.UnaryOp.TheVariants.{Address, Follow, Plus, Minus, Flip, Not}
use Rattle.c_machine.specs.declared.kind.Kind.{Kind}
use Rattle.c_machine.specs.declared.kind.Kind.TheVariants.{Integer, Pointer, Array, Struct, Void}
use Rattle.c_machine.specs.Program.{Program}
use Rattle.c_machine.specs.Trees.{text_of}
use Rattle.lowering.specs.declared.conversion.Conversion.{Conversion}
use Rattle.lowering.specs.declared.conversion.Conversion.TheVariants.{Nothing, Resized, Tested, Dropped, Unknown}
use Rattle.lowering.specs.Kinds.{as_operand}
use Rattle.lowering.specs.Moves.{Converts}
use Rattle.lowering.specs.Table.{load_line, plus_line, unary_line, assign_line, update_line, count_line, argument_moves}
use Rattle.lowering.specs.Told.{trees}
use Rattle.typing.specs.ctypes.Integers.{promoted}

pub same_load : (p : Program) (expr : Expr) (spare into r : ℕ) (bytes : Option ℕ) →
    load_line (trees ((text_of p).kind expr)) expr spare into r bytes ≡ load_line (text_of p) expr spare into r bytes
same_load p expr spare into r None = refl
same_load p expr spare into r (Some bytes) = refl

same_plus : (p : Program) (expr arg : Expr) (spare into r : ℕ) (change : Conversion) →
    plus_line (trees Void) expr arg spare into r change ≡ plus_line (text_of p) expr arg spare into r change
same_plus p expr arg spare into r Nothing = refl
same_plus p expr arg spare into r (Resized bytes signed) = refl
same_plus p expr arg spare into r Tested = refl
same_plus p expr arg spare into r Dropped = refl
same_plus p expr arg spare into r Unknown = refl

pub same_unary : (p : Program) (expr : Expr) (op : UnaryOp) (arg : Expr) (spare into r : ℕ) (kind : Kind) →
    unary_line (trees Void) expr op arg spare into r kind ≡ unary_line (text_of p) expr op arg spare into r kind
same_unary p expr Plus arg spare into r (Integer of) = same_plus p expr arg spare into r (as_operand of (promoted of))
same_unary p expr Minus arg spare into r (Integer of) = refl
same_unary p expr Flip arg spare into r (Integer of) = refl
same_unary p expr Address arg spare into r (Integer of) = refl
same_unary p expr Follow arg spare into r (Integer of) = refl
same_unary p expr Not arg spare into r (Integer of) = refl
same_unary p expr op arg spare into r (Pointer bytes) = other op
  where
    other : (op : UnaryOp) → unary_line (trees Void) expr op arg spare into r (Pointer bytes) ≡ unary_line (text_of p) expr op arg spare into r (Pointer bytes)
    other Plus = refl
    other Minus = refl
    other Flip = refl
    other Address = refl
    other Follow = refl
    other Not = refl
same_unary p expr op arg spare into r (Array bytes) = other op
  where
    other : (op : UnaryOp) → unary_line (trees Void) expr op arg spare into r (Array bytes) ≡ unary_line (text_of p) expr op arg spare into r (Array bytes)
    other Plus = refl
    other Minus = refl
    other Flip = refl
    other Address = refl
    other Follow = refl
    other Not = refl
same_unary p expr op arg spare into r (Struct bytes) = other op
  where
    other : (op : UnaryOp) → unary_line (trees Void) expr op arg spare into r (Struct bytes) ≡ unary_line (text_of p) expr op arg spare into r (Struct bytes)
    other Plus = refl
    other Minus = refl
    other Flip = refl
    other Address = refl
    other Follow = refl
    other Not = refl
same_unary p expr op arg spare into r Void = other op
  where
    other : (op : UnaryOp) → unary_line (trees Void) expr op arg spare into r Void ≡ unary_line (text_of p) expr op arg spare into r Void
    other Plus = refl
    other Minus = refl
    other Flip = refl
    other Address = refl
    other Follow = refl
    other Not = refl

pub same_assign : (p : Program) (expr left right : Expr) (spare : ℕ) (kept : Option ℕ) (r : ℕ) (kind : Kind) →
    assign_line (trees Void) expr left right spare kept r kind ≡ assign_line (text_of p) expr left right spare kept r kind
same_assign p expr left right spare kept r (Integer of) = refl
same_assign p expr left right spare kept r (Pointer bytes) = refl
same_assign p expr left right spare kept r (Array bytes) = refl
same_assign p expr left right spare kept r (Struct bytes) = refl
same_assign p expr left right spare kept r Void = refl

pub same_update : (p : Program) (op : BinaryOp) (expr left right : Expr) (spare : ℕ) (kept : Option ℕ) (r : ℕ) (kind : Kind) (bytes : Option ℕ) →
    update_line (trees ((text_of p).kind right)) op expr left right spare kept r kind bytes ≡ update_line (text_of p) op expr left right spare kept r kind bytes
same_update p op expr left right spare kept r kind None = refl
same_update p op expr left right spare kept r kind (Some bytes) = refl

pub same_count : (p : Program) (up behind : Bool) (expr arg : Expr) (spare : ℕ) (kept : Option ℕ) (r : ℕ) (kind : Kind) (bytes : Option ℕ) →
    count_line (trees Void) up behind expr arg spare kept r kind bytes ≡ count_line (text_of p) up behind expr arg spare kept r kind bytes
same_count p up behind expr arg spare kept r kind None = refl
same_count p up behind expr arg spare kept r kind (Some bytes) = refl

pub same_arguments : (p : Program) (args : List Expr) (params : List Kind) (spare r : ℕ) →
    argument_moves (trees Void) args params spare r ≡ argument_moves (text_of p) args params spare r
same_arguments p [] [] spare r = refl
same_arguments p [] (param ∷ params) spare r = refl
same_arguments p (arg ∷ args) [] spare r = refl
same_arguments p (arg ∷ args) (param ∷ params) spare r = ap (λ moves. Converts arg param spare r ∷ moves) (same_arguments p args params spare (suc r))
