-- What the reader leaves of a row of a table says what the row begins with.
use Rattle.std.proofs.Common.{◌≡◌, ℕ, zero, suc, ◌+◌, ◌≤◌, true, List, [], ◌∷◌, ◌++◌, take, drop, length, refl, ap, sym, ◌∙◌, subst, arith, nat_le, Option, None, Some}
use Rattle.std.proofs.lemmas.Bool.{leb-true}
use Rattle.cbase.specs.declared.tree.expr.Expr.{Expr}
use Rattle.cbase.specs.declared.tree.stmt.Stmt.{Stmt}
use Rattle.ctrees.specs.Levels.{expr_levels}
use Rattle.cgrammar.proofs.Exact.{expressions_complete, expressions_sound, blocks_complete, blocks_sound}
use Rattle.cgrammar.proofs.Fronts.{front_of_both, take_and_drop}
use Rattle.cgrammar.proofs.Reached.{IsSound, Goes, goes_on_expression}
use Rattle.cgrammar.proofs.ReadAt.{Leaves, IsSpelled, spelled_left, goes_less, goes_some}
use Rattle.cgrammar.specs.FrontOf.{front_of}
use Rattle.cgrammar.specs.Grammar.{Spells}
use Rattle.cgrammar.specs.Outcomes.{Outcome, Nothing, Read}
use Rattle.cgrammar.specs.Phrases.{Context, Expression, CompoundStatement}
use Rattle.cgrammar.specs.ReadStatements.{read_block}
use Rattle.cgrammar.specs.Reader.{level}
use Rattle.cgrammar.specs.Readings.{at_first, block_levels}
use Rattle.cgrammar.specs.Scope.{Names}
use Rattle.cgrammar.specs.Terminals.{Terminal}
use Rattle.cgrammar.specs.TextRows.{TextRow, few_levels, row_of_text, typedefs, IsLongestFront, BeginsNoExpression, HasExpression, HaveExpressions, IsLongestBlockFront, BeginsNoBlock, HasBlock, HaveBlocks}

left_over : (n : ℕ) (xs : List Terminal) → n ≤ length xs → length (drop n xs) + n ≡ length xs
left_over zero xs inside = omega arith
left_over (suc n) [] inside = absurd (omega (arith, inside))
left_over (suc n) (x ∷ xs) inside = omega (arith, left_over n xs (omega (arith, inside)))

-- a front with that rest is what was taken
taken_front : (row front : List Terminal) (taken : ℕ) → row ≡ front ++ drop taken row → front ≡ take taken row
taken_front row front taken whole =
    sym (front_of_both front (drop taken row))
    ∙ (ap (λ (xs : List Terminal). front_of xs (drop taken row)) (sym whole ∙ sym (take_and_drop taken row)) ∙ front_of_both (take taken row) (drop taken row))

expression_front : (most : ℕ) (scope : List Names) (row : List Terminal) (outcome : Outcome Expr) (tree : Expr) (taken : ℕ)
    → IsSound Expression expr_levels most (at_first scope) row outcome → Leaves outcome tree (drop taken row)
    → (behind : Context) × Spells (Expression tree) (at_first scope) (take taken row) behind
expression_front most scope row outcome tree taken sound leaves =
    let spelled : IsSpelled Expression expr_levels most (at_first scope) row tree (drop taken row) = spelled_left Expression expr_levels most (at_first scope) row outcome tree (drop taken row) sound leaves in
    (spelled.behind, subst (λ front. Spells (Expression tree) (at_first scope) front spelled.behind) (taken_front row spelled.fronts.front taken spelled.fronts.whole) spelled.fronts.spelled)

no_longer : (most : ℕ) (scope : List Names) (row : List Terminal) (outcome : Outcome Expr) (tree : Expr) (taken : ℕ) → taken ≤ length row
    → outcome ≡ (level most).expression (at_first scope) row → Leaves outcome tree (drop taken row)
    → (other : Expr) (count : ℕ) (behind : Context) → count ≤ length row → Spells (Expression other) (at_first scope) (take count row) behind → expr_levels other ≤ most → count ≤ taken
no_longer most scope row outcome tree taken inside is leaves other count behind within spells small =
    let goes = expressions_complete most other (at_first scope) behind (take count row) (drop count row) spells small in
    let there : Goes goes_on_expression other (expr_levels other) behind (drop count row) outcome =
    subst (Goes goes_on_expression other (expr_levels other) behind (drop count row))
    (ap (λ (xs : List Terminal). (level most).expression (at_first scope) xs) (take_and_drop count row) ∙ sym is) goes in
    let less = goes_less other (expr_levels other) behind (drop count row) outcome tree (drop taken row) there leaves in
    omega (arith, less, left_over taken row inside, left_over count row within)

-- the reader's answer is the longest expression
pub longest_front : (scope : List Names) (row : List Terminal) (tree : Expr) (taken : ℕ) → nat_le taken (length row) ≡ true
    → Leaves ((level few_levels).expression (at_first scope) row) tree (drop taken row) → IsLongestFront scope row tree taken
longest_front scope row tree taken inside leaves = (
  expression_front few_levels scope row ((level few_levels).expression (at_first scope) row) tree taken (expressions_sound few_levels (at_first scope) row) leaves,
  no_longer few_levels scope row ((level few_levels).expression (at_first scope) row) tree taken (leb-true taken (length row) inside) refl leaves,
)

no_front : (most : ℕ) (scope : List Names) (row : List Terminal) → (level most).expression (at_first scope) row ≡ Nothing
    → (other : Expr) (count : ℕ) (behind : Context) → count ≤ length row → Spells (Expression other) (at_first scope) (take count row) behind → expr_levels other ≤ most → ⊥
no_front most scope row nothing other count behind within spells small =
    goes_some other (expr_levels other) behind (drop count row) ((level most).expression (at_first scope) (take count row ++ drop count row))
    (expressions_complete most other (at_first scope) behind (take count row) (drop count row) spells small)
    (ap (λ (xs : List Terminal). (level most).expression (at_first scope) xs) (take_and_drop count row) ∙ nothing)

pub begins_none : (scope : List Names) (row : List Terminal) → (level few_levels).expression (at_first scope) row ≡ Nothing → BeginsNoExpression scope row
begins_none scope row nothing = no_front few_levels scope row nothing

block_front : (most : ℕ) (scope : List Names) (row : List Terminal) (outcome : Outcome (List Stmt)) (body : List Stmt) (taken : ℕ)
    → IsSound CompoundStatement block_levels most (at_first scope) row outcome → Leaves outcome body (drop taken row)
    → (behind : Context) × Spells (CompoundStatement body) (at_first scope) (take taken row) behind
block_front most scope row outcome body taken sound leaves =
    let spelled : IsSpelled CompoundStatement block_levels most (at_first scope) row body (drop taken row) = spelled_left CompoundStatement block_levels most (at_first scope) row outcome body (drop taken row) sound leaves in
    (spelled.behind, subst (λ front. Spells (CompoundStatement body) (at_first scope) front spelled.behind) (taken_front row spelled.fronts.front taken spelled.fronts.whole) spelled.fronts.spelled)

block_rest : (outcome : Outcome (List Stmt)) (body other : List Stmt) (levels : ℕ) (behind : Context) (rest end : List Terminal)
    → outcome ≡ Read other levels behind end → Leaves outcome body rest → length rest ≤ length end
block_rest outcome body other levels behind rest end is leaves =
    let left : (other ≡ body) × (end ≡ rest) = subst (λ o. Leaves o body rest) is leaves in
    omega (arith, ap length (left.1))

no_longer_block : (most : ℕ) (scope : List Names) (row : List Terminal) (outcome : Outcome (List Stmt)) (body : List Stmt) (taken : ℕ) → taken ≤ length row
    → outcome ≡ read_block (level most) (at_first scope) row → Leaves outcome body (drop taken row)
    → (other : List Stmt) (count : ℕ) (behind : Context) → count ≤ length row → Spells (CompoundStatement other) (at_first scope) (take count row) behind → block_levels other ≤ most → count ≤ taken
no_longer_block most scope row outcome body taken inside is leaves other count behind within spells small =
    let read = blocks_complete most other (at_first scope) behind (take count row) (drop count row) spells small in
    let there : outcome ≡ Read other (block_levels other) behind (drop count row) =
    is ∙ (ap (λ (xs : List Terminal). read_block (level most) (at_first scope) xs) (sym (take_and_drop count row)) ∙ read) in
    let less = block_rest outcome body other (block_levels other) behind (drop taken row) (drop count row) there leaves in
    omega (arith, less, left_over taken row inside, left_over count row within)

pub only_block : (scope : List Names) (row : List Terminal) (body : List Stmt) (taken : ℕ) → nat_le taken (length row) ≡ true
    → Leaves (read_block (level few_levels) (at_first scope) row) body (drop taken row) → IsLongestBlockFront scope row body taken
only_block scope row body taken inside leaves = (
  block_front few_levels scope row (read_block (level few_levels) (at_first scope) row) body taken (blocks_sound few_levels (at_first scope) row) leaves,
  no_longer_block few_levels scope row (read_block (level few_levels) (at_first scope) row) body taken (leb-true taken (length row) inside) refl leaves,
)

no_block_front : (most : ℕ) (scope : List Names) (row : List Terminal) → read_block (level most) (at_first scope) row ≡ Nothing
    → (other : List Stmt) (count : ℕ) (behind : Context) → count ≤ length row → Spells (CompoundStatement other) (at_first scope) (take count row) behind → block_levels other ≤ most → ⊥
no_block_front most scope row nothing other count behind within spells small =
    let read = blocks_complete most other (at_first scope) behind (take count row) (drop count row) spells small in
    let clash : Nothing ≡ Read other (block_levels other) behind (drop count row) =
    sym nothing ∙ (ap (λ (xs : List Terminal). read_block (level most) (at_first scope) xs) (sym (take_and_drop count row)) ∙ read) in
    cc clash

pub begins_no_block : (scope : List Names) (row : List Terminal) → read_block (level few_levels) (at_first scope) row ≡ Nothing → BeginsNoBlock scope row
begins_no_block scope row nothing = no_block_front few_levels scope row nothing

-- what the reader has to leave of each row of a table
abbrev pub LeavesExpression : List Names → List Terminal → Option (Expr × ℕ) → Type 0
LeavesExpression scope row None = (level few_levels).expression (at_first scope) row ≡ Nothing
LeavesExpression scope row (Some found) =
    (nat_le found.1 (length row) ≡ true) × Leaves ((level few_levels).expression (at_first scope) row) found.0 (drop found.1 row)

abbrev pub LeaveExpressions : List (TextRow Expr) → Type 0
LeaveExpressions [] = Unit {0}
LeaveExpressions (row ∷ rows) = LeavesExpression (typedefs row.names) (row_of_text row.text) row.expected × LeaveExpressions rows

has_expression : (scope : List Names) (row : List Terminal) (expected : Option (Expr × ℕ)) → LeavesExpression scope row expected → HasExpression scope row expected
has_expression scope row None leaves = begins_none scope row leaves
has_expression scope row (Some found) leaves = longest_front scope row found.0 found.1 leaves.0 leaves.1

pub have_expressions : (rows : List (TextRow Expr)) → LeaveExpressions rows → HaveExpressions rows
have_expressions [] leave = tt
have_expressions (row ∷ rows) leave = (has_expression (typedefs row.names) (row_of_text row.text) row.expected leave.0, have_expressions rows leave.1)

abbrev pub LeavesBlock : List Names → List Terminal → Option (List Stmt × ℕ) → Type 0
LeavesBlock scope row None = read_block (level few_levels) (at_first scope) row ≡ Nothing
LeavesBlock scope row (Some found) =
    (nat_le found.1 (length row) ≡ true) × Leaves (read_block (level few_levels) (at_first scope) row) found.0 (drop found.1 row)

abbrev pub LeaveBlocks : List (TextRow (List Stmt)) → Type 0
LeaveBlocks [] = Unit {0}
LeaveBlocks (row ∷ rows) = LeavesBlock (typedefs row.names) (row_of_text row.text) row.expected × LeaveBlocks rows

has_block : (scope : List Names) (row : List Terminal) (expected : Option (List Stmt × ℕ)) → LeavesBlock scope row expected → HasBlock scope row expected
has_block scope row None leaves = begins_no_block scope row leaves
has_block scope row (Some found) leaves = only_block scope row found.0 found.1 leaves.0 leaves.1

pub have_blocks : (rows : List (TextRow (List Stmt))) → LeaveBlocks rows → HaveBlocks rows
have_blocks [] leave = tt
have_blocks (row ∷ rows) leave = (has_block (typedefs row.names) (row_of_text row.text) row.expected leave.0, have_blocks rows leave.1)
