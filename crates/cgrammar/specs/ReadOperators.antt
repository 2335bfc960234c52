-- Operators behind an operand that is read (C11 6.5.5 to 6.5.17): `inner` reads what stands to the right of them, with
-- one level less. An operand to the left has to have one level less, too.
use Rattle.std.specs.Prelude.{ℕ, zero, suc, ◌+◌, max, nat_le, if◌then◌else◌, List, [], ◌∷◌, length, Option, None, Some, codes}
use Rattle.cbase.specs.declared.place.Place.{Place}
use Rattle.cbase.specs.declared.tree.expr.Expr.{Expr}
use Rattle.cbase.specs.declared.tree.expr.ExprForm.{ExprForm}
use Rattle.cbase.specs.declared.tree.expr.ExprForm.TheVariants.{Binary, Assign, Choose}
use Rattle.cbase.specs.declared.tree.operators.BinaryOp.{BinaryOp}
use Rattle.cbase.specs.declared.tree.operators.BinaryOp.TheVariants.{Comma}
use Rattle.cgrammar.specs.Operators.{mark_row, binary_rows, assignment_rows}
use Rattle.cgrammar.specs.Outcomes.{Outcome, Stopped, Read, Reader, continued, or_else, with_right, after_mark}
use Rattle.cgrammar.specs.Phrases.{Context, counted, numbered}
use Rattle.cgrammar.specs.ReadLevels.{Level}
use Rattle.cgrammar.specs.Terminals.{Terminal, is_mark}
use Rattle.cgrammar.specs.declared.reading.operand.Operand.{Operand}

-- an expression with that number
abbrev pub expression_of : ℕ → Place → ExprForm → Expr
expression_of number place form = record { number = number; place = place; form = form }

abbrev pub expr_of : Operand → Expr
expr_of operand = operand.expr

abbrev pub itself : Expr → Expr
itself expr = expr

-- what is left where nothing stands to the right of an operator that goes on with an operand
abbrev pub stopped : Expr → Context → Terminal → List Terminal → Outcome Expr
stopped left context mark row = Stopped left context.expressions (mark ∷ row)

-- binary operators that are no looser than `loosest`, each to the left
abbrev pub binary_with : (Expr → ℕ → Reader Expr) → Level → ℕ → Expr → ℕ → Context → Terminal → List Terminal → Option (ℕ × BinaryOp) → Outcome Expr
binary_with go inner loosest left levels context mark row None = Read left levels context (mark ∷ row)
binary_with go inner loosest left levels context mark row (Some entry) =
    if nat_le loosest entry.0
    then (if nat_le levels inner.most
    then with_right (inner.operation (entry.0 + 1) context row) (stopped left context mark row)
    (λ right number. expression_of number mark.place (Binary entry.1 left right))
    (λ right others behind rest. go (numbered behind mark.place (Binary entry.1 left right)) (1 + max levels others) (counted behind) rest)
    else stopped left context mark row)
    else Read left levels context (mark ∷ row)

unfoldable pub read_operations : Level → ℕ → ℕ → Expr → ℕ → Reader Expr
read_operations inner loosest zero left levels context row = Read left levels context row
read_operations inner loosest (suc count) left levels context [] = Read left levels context []
read_operations inner loosest (suc count) left levels context (mark ∷ row) =
    binary_with (read_operations inner loosest count) inner loosest left levels context mark row (mark_row binary_rows mark)

-- an operand and the binary operators behind it; each takes a token, so that there are no more of them than tokens
abbrev pub operations_from : Level → ℕ → Operand → ℕ → Reader Expr
operations_from inner loosest operand levels context row = read_operations inner loosest (length row + 1) operand.expr levels context row

-- a `?`, and what stands on both sides of the `:`
unfoldable pub read_choice : Level → Expr → ℕ → Reader Expr
read_choice inner test levels context [] = Read test levels context []
read_choice inner test levels context (mark ∷ row) =
    if is_mark (codes "?") mark
    then (if nat_le levels inner.most
    then (or_else (inner.expression context row) (stopped test context mark row) (λ one ones first rest.
    after_mark (codes ":") rest (stopped test context mark row) (λ colon others.
    with_right (inner.conditional first others) (stopped test context mark row)
    (λ other number. expression_of number mark.place (Choose test one other))
    (λ other twos behind more. Read (numbered behind mark.place (Choose test one other)) (1 + max levels (max ones twos)) (counted behind) more))))
    else stopped test context mark row)
    else Read test levels context (mark ∷ row)

abbrev pub conditional_from : Level → Operand → ℕ → Reader Expr
conditional_from inner operand levels context row =
    continued (operations_from inner 0 operand levels context row) itself (read_choice inner)

-- an assignment operator behind a unary expression
abbrev pub assignment_with : Level → Operand → ℕ → Context → Terminal → List Terminal → Option (Option BinaryOp) → Outcome Expr
assignment_with inner operand levels context mark row None = conditional_from inner operand levels context (mark ∷ row)
assignment_with inner operand levels context mark row (Some op) =
    if operand.unary
    then (if nat_le levels inner.most
    then with_right (inner.assignment context row) (stopped operand.expr context mark row)
    (λ right number. expression_of number mark.place (Assign op operand.expr right))
    (λ right others behind rest. Read (numbered behind mark.place (Assign op operand.expr right)) (1 + max levels others) (counted behind) rest)
    else stopped operand.expr context mark row)
    else conditional_from inner operand levels context (mark ∷ row)

unfoldable pub assignment_from : Level → Operand → ℕ → Reader Expr
assignment_from inner operand levels context [] = conditional_from inner operand levels context []
assignment_from inner operand levels context (mark ∷ row) = assignment_with inner operand levels context mark row (mark_row assignment_rows mark)

-- commas, each to the left
unfoldable pub read_commas : Level → ℕ → Expr → ℕ → Reader Expr
read_commas inner zero left levels context row = Read left levels context row
read_commas inner (suc count) left levels context [] = Read left levels context []
read_commas inner (suc count) left levels context (mark ∷ row) =
    if is_mark (codes ",") mark
    then (if nat_le levels inner.most
    then with_right (inner.assignment context row) (stopped left context mark row)
    (λ right number. expression_of number mark.place (Binary Comma left right))
    (λ right others behind rest. read_commas inner count (numbered behind mark.place (Binary Comma left right)) (1 + max levels others) (counted behind) rest)
    else stopped left context mark row)
    else Read left levels context (mark ∷ row)

abbrev pub expression_from : Level → Operand → ℕ → Reader Expr
expression_from inner operand levels context row =
    continued (assignment_from inner operand levels context row) itself
    (λ left others behind rest. read_commas inner (length rest + 1) left others behind rest)
