-- What a call gives, handed on; and lines that are the same.
use Rattle.std.proofs.Common.{◌≡◌, ℕ, ◌+◌, List, ◌++◌, subst, arith}
use Rattle.std.specs.Prelude.{Option, None, Some, Result, Ok, Err, OnOk, IfOk, IfNone}
use Rattle.cbase.specs.declared.tree.expr.Expr.{Expr}
use Rattle.cbase.specs.declared.tree.init.Init.{Init}
use Rattle.cbase.specs.declared.tree.stmt.Stmt.{Stmt}
use Rattle.lowering.specs.Moves.{MoveOf, LineOf, taking}
use Rattle.lowering.specs.Told.{IsLine}

pub on_ok : {V E : Type 0} {A B : Type 0} (result : Result V E) → (A → B) → OnOk result A → OnOk result B
on_ok (Ok value) onward is = onward is
on_ok (Err error) onward is = tt

pub if_ok : {V E : Type 0} {P Q : V → Type 0} (result : Result V E) → ((value : V) → P value → Q value) → IfOk result P → IfOk result Q
if_ok (Ok value) onward is = onward value is
if_ok (Err error) onward is = tt

pub if_none : {V : Type 0} {A : Type 0} (found : Option V) → found ≡ None → IfNone found A → A
if_none None none is = is
if_none (Some value) none is = absurd cc

-- a line in front, where its registers are taken
abbrev pub Moves : Type 0
Moves = List (MoveOf Expr Stmt Init)

abbrev pub Line : Type 0
Line = LineOf Expr Stmt Init

pub line_as : (one other : Line) (taken taken' : ℕ) (before after : Moves) → one ≡ other → IsLine one taken taken' before after → IsLine other taken taken' before after
line_as one other taken taken' before after same is = subst (λ (line : Line). IsLine line taken taken' before after) same is

-- one that has no registers of its own
pub alone : (moves : Moves) (taken : ℕ) (before after : Moves) → after ≡ moves ++ before → IsLine (taking 0 moves) taken taken before after
alone moves taken before after is = (omega arith, is)
