-- How far the reader reaches: what reads on behind a tree reaches at least as far as what stands behind the tree.
use Rattle.std.proofs.Common.{ℕ, zero, suc, Bool, true, false, ◌+◌, ◌≤◌, max, nat_le, List, [], ◌∷◌, codes, length, Some, None, arith}
use Rattle.std.specs.Prelude.{if◌then◌else◌, Option}
use Rattle.cbase.specs.declared.tree.expr.Expr.{Expr}
use Rattle.cbase.specs.declared.tree.expr.ExprForm.TheVariants.{Binary, Assign, Choose}
use Rattle.cbase.specs.declared.tree.operators.BinaryOp.{BinaryOp}
use Rattle.cbase.specs.declared.tree.operators.BinaryOp.TheVariants.{Comma}
use Rattle.cgrammar.proofs.Reached.{Reaches, IsWithin, IsWithinLevel}
use Rattle.cgrammar.specs.Operators.{mark_row, binary_rows, assignment_rows}
use Rattle.cgrammar.specs.Outcomes.{Outcome, Nothing, Stopped, Read, Reader, or_else, continued, with_right, after_first, after_mark}
use Rattle.cgrammar.specs.Phrases.{Context, counted, numbered}
use Rattle.cgrammar.specs.ReadLevels.{Level}
use Rattle.cgrammar.specs.ReadOperators.{expression_of, itself, stopped, binary_with, read_operations, operations_from, read_choice, conditional_from, assignment_with, assignment_from, read_commas}
use Rattle.cgrammar.specs.Terminals.{Terminal, is_mark}
use Rattle.cgrammar.specs.declared.reading.operand.Operand.{Operand}

pub reaches_more : {A : Type 0} (outcome : Outcome A) (row longer : List Terminal) → length row ≤ length longer → Reaches outcome row → Reaches outcome longer
reaches_more Nothing row longer more is = is
reaches_more (Stopped tree expressions rest) row longer more is = omega (arith, is, more)
reaches_more (Read tree levels behind rest) row longer more is = omega (arith, is, more)

-- combinators
pub continued_reaches : {A B : Type 0} (outcome : Outcome A) (whole : A → B) (go : A → ℕ → Context → List Terminal → Outcome B) (row : List Terminal)
    → Reaches outcome row → ((tree : A) (levels : ℕ) (behind : Context) (rest : List Terminal) → Reaches (go tree levels behind rest) rest) → Reaches (continued outcome whole go) row
continued_reaches Nothing whole go row is further = is
continued_reaches (Stopped tree expressions rest) whole go row is further = is
continued_reaches (Read tree levels behind rest) whole go row is further = reaches_more (go tree levels behind rest) rest row is (further tree levels behind rest)

pub right_reaches : {A B : Type 0} (outcome : Outcome A) (without : Outcome B) (whole : A → ℕ → B) (go : A → ℕ → Context → List Terminal → Outcome B) (row longer : List Terminal)
    → IsWithin outcome row → length row ≤ length longer → Reaches without longer
    → ((tree : A) (levels : ℕ) (behind : Context) (rest : List Terminal) → Reaches (go tree levels behind rest) rest) → Reaches (with_right outcome without whole go) longer
right_reaches Nothing without whole go row longer is more none further = none
right_reaches (Stopped tree expressions rest) without whole go row longer is more none further = omega (arith, is, more)
right_reaches (Read tree levels behind rest) without whole go row longer is more none further =
    reaches_more (go tree levels behind rest) rest longer (omega (arith, is, more)) (further tree levels behind rest)

-- where what stands to the right reaches, so does the whole
pub right_goes : {A B : Type 0} (outcome : Outcome A) (without : Outcome B) (whole : A → ℕ → B) (go : A → ℕ → Context → List Terminal → Outcome B) (row : List Terminal)
    → Reaches outcome row → ((tree : A) (levels : ℕ) (behind : Context) (rest : List Terminal) → Reaches (go tree levels behind rest) rest) → Reaches (with_right outcome without whole go) row
right_goes Nothing without whole go row is further = absurd is
right_goes (Stopped tree expressions rest) without whole go row is further = is
right_goes (Read tree levels behind rest) without whole go row is further =
    reaches_more (go tree levels behind rest) rest row is (further tree levels behind rest)

pub or_else_reaches : {A B : Type 0} (outcome : Outcome A) (without : Outcome B) (go : A → ℕ → Context → List Terminal → Outcome B) (row longer : List Terminal)
    → IsWithin outcome row → length row ≤ length longer → Reaches without longer
    → ((tree : A) (levels : ℕ) (behind : Context) (rest : List Terminal) → length rest ≤ length longer → Reaches (go tree levels behind rest) longer) → Reaches (or_else outcome without go) longer
or_else_reaches Nothing without go row longer is more none further = none
or_else_reaches (Stopped tree expressions rest) without go row longer is more none further = none
or_else_reaches (Read tree levels behind rest) without go row longer is more none further = further tree levels behind rest (omega (arith, is, more))

first_chosen : {B : Type 0} (test : Bool) (one other : Outcome B) (longer : List Terminal) → Reaches one longer → Reaches other longer → Reaches (if test then one else other) longer
first_chosen true one other longer p q = p
first_chosen false one other longer p q = q

pub chosen_reaches : {B : Type 0} (test : Bool) (one other : Outcome B) (longer : List Terminal) → Reaches one longer → Reaches other longer → Reaches (if test then one else other) longer
chosen_reaches test one other longer p q = first_chosen test one other longer p q

pub after_first_reaches : {B : Type 0} (test : Terminal → Bool) (row : List Terminal) (without : Outcome B) (go : Terminal → List Terminal → Outcome B) (longer : List Terminal)
    → length row ≤ length longer → Reaches without longer → ((first : Terminal) (others : List Terminal) → Reaches (go first others) others) → Reaches (after_first test row without go) longer
after_first_reaches test [] without go longer more none further = none
after_first_reaches test (first ∷ others) without go longer more none further =
    chosen_reaches (test first) (go first others) without longer (reaches_more (go first others) others longer (omega (arith, more)) (further first others)) none

read_reaches : {A : Type 0} (tree : A) (levels : ℕ) (behind : Context) (rest : List Terminal) → Reaches (Read tree levels behind rest) rest
read_reaches tree levels behind rest = omega arith

-- binary operators
binary_reaches : (go : Expr → ℕ → Reader Expr) → ((left : Expr) (levels : ℕ) (context : Context) (row : List Terminal) → Reaches (go left levels context row) row)
    → (inner : Level) → IsWithinLevel inner → (loosest : ℕ) (left : Expr) (levels : ℕ) (context : Context) (mark : Terminal) (row : List Terminal) (entry : Option (ℕ × BinaryOp))
    → Reaches (binary_with go inner loosest left levels context mark row entry) (mark ∷ row)
binary_reaches go further inner within loosest left levels context mark row None = read_reaches left levels context (mark ∷ row)
binary_reaches go further inner within loosest left levels context mark row (Some entry) =
    let stop : Reaches (stopped left context mark row) (mark ∷ row) = omega arith in
    chosen_reaches (nat_le loosest entry.0) _ (Read left levels context (mark ∷ row)) (mark ∷ row)
    (chosen_reaches (nat_le levels inner.most) _ (stopped left context mark row) (mark ∷ row)
    (right_reaches (inner.operation (entry.0 + 1) context row) (stopped left context mark row)
    (λ right number. expression_of number mark.place (Binary entry.1 left right))
    (λ right others behind rest. go (numbered behind mark.place (Binary entry.1 left right)) (1 + max levels others) (counted behind) rest)
    row (mark ∷ row) (within.operation (entry.0 + 1) context row) (omega arith) stop
    (λ right others behind rest. further (numbered behind mark.place (Binary entry.1 left right)) (1 + max levels others) (counted behind) rest))
    stop)
    (read_reaches left levels context (mark ∷ row))

pub operations_reach : (inner : Level) → IsWithinLevel inner → (loosest count : ℕ) (left : Expr) (levels : ℕ) (context : Context) (row : List Terminal)
    → Reaches (read_operations inner loosest count left levels context row) row
unfolding read_operations
operations_reach inner within loosest zero left levels context row = read_reaches left levels context row
operations_reach inner within loosest (suc count) left levels context [] = read_reaches left levels context []
operations_reach inner within loosest (suc count) left levels context (mark ∷ row) =
    binary_reaches (read_operations inner loosest count) (operations_reach inner within loosest count) inner within loosest left levels context mark row (mark_row binary_rows mark)

-- a `?`
pub choice_reaches : (inner : Level) → IsWithinLevel inner → (test : Expr) (levels : ℕ) (context : Context) (row : List Terminal) → Reaches (read_choice inner test levels context row) row
unfolding read_choice
choice_reaches inner within test levels context [] = read_reaches test levels context []
choice_reaches inner within test levels context (mark ∷ row) =
    let stop : Reaches (stopped test context mark row) (mark ∷ row) = omega arith in
    chosen_reaches (is_mark (codes "?") mark) _ (Read test levels context (mark ∷ row)) (mark ∷ row)
    (chosen_reaches (nat_le levels inner.most) _ (stopped test context mark row) (mark ∷ row)
    (or_else_reaches (inner.expression context row) (stopped test context mark row) _ row (mark ∷ row) (within.expression context row) (omega arith) stop
    (λ one ones first rest inside. colon mark row stop one ones first rest inside))
    stop)
    (read_reaches test levels context (mark ∷ row))
  where
    colon : (mark : Terminal) (row : List Terminal) → Reaches (stopped test context mark row) (mark ∷ row) → (one : Expr) (ones : ℕ) (first : Context) (rest : List Terminal) → length rest ≤ length (mark ∷ row)
        → Reaches (after_mark (codes ":") rest (stopped test context mark row) (λ colon others.
        with_right (inner.conditional first others) (stopped test context mark row)
        (λ other number. expression_of number mark.place (Choose test one other))
        (λ other twos behind more. Read (numbered behind mark.place (Choose test one other)) (1 + max levels (max ones twos)) (counted behind) more))) (mark ∷ row)
    colon mark row stop one ones first [] inside = stop
    colon mark row stop one ones first (token ∷ others) inside =
        chosen_reaches (is_mark (codes ":") token) _ (stopped test context mark row) (mark ∷ row)
        (right_reaches (inner.conditional first others) (stopped test context mark row)
        (λ other number. expression_of number mark.place (Choose test one other))
        (λ other twos behind more. Read (numbered behind mark.place (Choose test one other)) (1 + max levels (max ones twos)) (counted behind) more)
        others (mark ∷ row) (within.conditional first others) (omega (arith, inside)) stop
        (λ other twos behind more. read_reaches (numbered behind mark.place (Choose test one other)) (1 + max levels (max ones twos)) (counted behind) more))
        stop

pub conditional_reaches : (inner : Level) → IsWithinLevel inner → (operand : Operand) (levels : ℕ) (context : Context) (row : List Terminal) → Reaches (conditional_from inner operand levels context row) row
conditional_reaches inner within operand levels context row =
    continued_reaches (operations_from inner 0 operand levels context row) itself (read_choice inner) row
    (operations_reach inner within 0 (length row + 1) operand.expr levels context row)
    (choice_reaches inner within)

-- assignment operators
assigned_reaches : (inner : Level) → IsWithinLevel inner → (operand : Operand) (levels : ℕ) (context : Context) (mark : Terminal) (row : List Terminal) (op : Option (Option BinaryOp))
    → Reaches (assignment_with inner operand levels context mark row op) (mark ∷ row)
assigned_reaches inner within operand levels context mark row None = conditional_reaches inner within operand levels context (mark ∷ row)
assigned_reaches inner within operand levels context mark row (Some op) =
    let stop : Reaches (stopped operand.expr context mark row) (mark ∷ row) = omega arith in
    chosen_reaches operand.unary _ (conditional_from inner operand levels context (mark ∷ row)) (mark ∷ row)
    (chosen_reaches (nat_le levels inner.most) _ (stopped operand.expr context mark row) (mark ∷ row)
    (right_reaches (inner.assignment context row) (stopped operand.expr context mark row)
    (λ right number. expression_of number mark.place (Assign op operand.expr right))
    (λ right others behind rest. Read (numbered behind mark.place (Assign op operand.expr right)) (1 + max levels others) (counted behind) rest)
    row (mark ∷ row) (within.assignment context row) (omega arith) stop
    (λ right others behind rest. read_reaches (numbered behind mark.place (Assign op operand.expr right)) (1 + max levels others) (counted behind) rest))
    stop)
    (conditional_reaches inner within operand levels context (mark ∷ row))

pub assignment_reaches : (inner : Level) → IsWithinLevel inner → (operand : Operand) (levels : ℕ) (context : Context) (row : List Terminal) → Reaches (assignment_from inner operand levels context row) row
unfolding assignment_from
assignment_reaches inner within operand levels context [] = conditional_reaches inner within operand levels context []
assignment_reaches inner within operand levels context (mark ∷ row) = assigned_reaches inner within operand levels context mark row (mark_row assignment_rows mark)

-- commas
pub commas_reach : (inner : Level) → IsWithinLevel inner → (count : ℕ) (left : Expr) (levels : ℕ) (context : Context) (row : List Terminal)
    → Reaches (read_commas inner count left levels context row) row
unfolding read_commas
commas_reach inner within zero left levels context row = read_reaches left levels context row
commas_reach inner within (suc count) left levels context [] = read_reaches left levels context []
commas_reach inner within (suc count) left levels context (mark ∷ row) =
    let stop : Reaches (stopped left context mark row) (mark ∷ row) = omega arith in
    chosen_reaches (is_mark (codes ",") mark) _ (Read left levels context (mark ∷ row)) (mark ∷ row)
    (chosen_reaches (nat_le levels inner.most) _ (stopped left context mark row) (mark ∷ row)
    (right_reaches (inner.assignment context row) (stopped left context mark row)
    (λ right number. expression_of number mark.place (Binary Comma left right))
    (λ right others behind rest. read_commas inner count (numbered behind mark.place (Binary Comma left right)) (1 + max levels others) (counted behind) rest)
    row (mark ∷ row) (within.assignment context row) (omega arith) stop
    (λ right others behind rest. commas_reach inner within count (numbered behind mark.place (Binary Comma left right)) (1 + max levels others) (counted behind) rest))
    stop)
    (read_reaches left levels context (mark ∷ row))
