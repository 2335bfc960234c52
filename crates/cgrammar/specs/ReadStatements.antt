-- Statements and blocks (C11 6.8): `inner` reads what stands in them, with one level less.
use Rattle.std.specs.Prelude.{ℕ, ◌+◌, max, Bool, if◌then◌else◌, List, [], ◌∷◌, length, Option, None, Some, codes}
use Rattle.cbase.specs.declared.place.Place.{Place}
use Rattle.cbase.specs.declared.tree.expr.Expr.{Expr}
use Rattle.cbase.specs.declared.tree.stmt.Stmt.{Stmt}
use Rattle.cbase.specs.declared.tree.stmt.StmtForm.TheVariants.{Declare, Eval, Block, If, While, Do, For, Break, Continue, Return}
use Rattle.cgrammar.specs.Firsts.{begins_declaration}
use Rattle.cgrammar.specs.FrontOf.{front_of}
use Rattle.cgrammar.specs.FrontReadings.{begins_with_label}
use Rattle.cgrammar.specs.Grammar.{inside}
use Rattle.cgrammar.specs.Outcomes.{Outcome, Nothing, Read, Reader, then_read, after_first, after_mark, has_first, behind_first}
use Rattle.cgrammar.specs.Phrases.{Context}
use Rattle.cgrammar.specs.ReadDeclarations.{leaving, read_declaration}
use Rattle.cgrammar.specs.ReadLevels.{Level, read_until_brace}
use Rattle.cgrammar.specs.ReadStarts.{statement_start}
use Rattle.cgrammar.specs.Terminals.{Terminal, is_mark, is_word, first_place, last_place, begins_with_typedef}
use Rattle.cgrammar.specs.Trees.{statement}
use Rattle.cgrammar.specs.declared.reading.starts.StatementStart.{StatementStart}
use Rattle.cgrammar.specs.declared.reading.starts.StatementStart.TheVariants as start

-- a block, a scope of its own (C11 6.8.2)
unfoldable pub read_block : Level → Reader (List Stmt)
read_block level context row =
    after_mark (codes "{") row Nothing (λ opening others.
    then_read (read_until_brace level.item (length others + 1) (inside context) others) (λ body levels within rest.
    Read body levels (leaving within) (behind_first rest)))

-- an expression that may be left out before a token
unfoldable pub read_maybe : Level → (Terminal → Bool) → Reader (Option Expr)
read_maybe inner ends context row =
    if has_first ends row then Read None 0 context row
    else then_read (inner.expression context row) (λ expr levels behind rest. Read (Some expr) levels behind rest)

-- a declaration as a statement
abbrev pub declared_statement : Level → Reader Stmt
declared_statement inner context row =
    then_read (read_declaration inner context row) (λ decl levels behind rest.
    Read (statement (first_place (front_of row rest)) (last_place (front_of row rest)) (Declare decl)) (1 + levels) behind rest)

abbrev pub expression_statement : Level → Reader Stmt
expression_statement inner context row =
    then_read (inner.expression context row) (λ expr levels behind rest.
    after_mark (codes ";") rest Nothing (λ semicolon others.
    Read (statement (first_place row) semicolon.place (Eval (Some expr))) (1 + levels) behind others))

-- a declaration, or an expression that may be left out with its `;` (C11 6.8.3, 6.8.5.3)
unfoldable pub read_clause : Level → Reader Stmt
read_clause inner context row =
    if has_first (begins_declaration context.scope) row then declared_statement inner context row
    else after_mark (codes ";") row (expression_statement inner context row)
    (λ semicolon others. Read (statement semicolon.place semicolon.place (Eval None)) 1 context others)

-- an expression behind a `(`, where no name of a typedef stands
abbrev pub untyped : Level → Reader Expr
untyped inner context row = if begins_with_typedef context.scope row then Nothing else inner.expression context row

-- a statement in an `if` or in a loop, a block for names (C11 6.8.4p3, 6.8.5p5)
abbrev pub substatement : Level → Reader Stmt
substatement inner context row =
    then_read (inner.statement (inside context) row) (λ stmt levels within rest. Read stmt levels (leaving within) rest)

-- `if` (C11 6.8.4.1): an `else` belongs to the nearest
abbrev pub otherwise_behind : Level → Place → Place → Expr → ℕ → Stmt → ℕ → Reader Stmt
otherwise_behind inner place close test tests one ones context row =
    after_first (is_word (codes "else")) row (Read (statement place one.after (If test close one None)) (1 + max tests ones) (leaving context) row)
    (λ otherwise others. then_read (substatement inner context others) (λ other twos behind rest.
    Read (statement place other.after (If test close one (Some other))) (1 + max tests (max ones twos)) (leaving behind) rest))

unfoldable pub read_if : Level → Place → Reader Stmt
read_if inner place context row =
    after_mark (codes "(") row Nothing (λ opening others.
    then_read (untyped inner (inside context) others) (λ test tests behind rest.
    after_mark (codes ")") rest Nothing (λ closing more.
    then_read (substatement inner behind more) (λ one ones last end. otherwise_behind inner place closing.place test tests one ones last end))))

unfoldable pub read_while : Level → Place → Reader Stmt
read_while inner place context row =
    after_mark (codes "(") row Nothing (λ opening others.
    then_read (untyped inner (inside context) others) (λ test tests behind rest.
    after_mark (codes ")") rest Nothing (λ closing more.
    then_read (substatement inner behind more) (λ body levels last end.
    Read (statement place body.after (While test closing.place body)) (1 + max tests levels) (leaving last) end))))

unfoldable pub read_do : Level → Place → Reader Stmt
read_do inner place context row =
    then_read (substatement inner (inside context) row) (λ body levels behind rest.
    after_first (is_word (codes "while")) rest Nothing (λ while others.
    after_mark (codes "(") others Nothing (λ opening more.
    then_read (untyped inner behind more) (λ test tests last end.
    after_mark (codes ")") end Nothing (λ closing ends.
    after_mark (codes ";") ends Nothing (λ semicolon final.
    Read (statement place semicolon.place (Do body test closing.place)) (1 + max levels tests) (leaving last) final))))))

unfoldable pub read_for : Level → Place → Reader Stmt
read_for inner place context row =
    after_mark (codes "(") row Nothing (λ opening others.
    then_read (inner.clause (inside context) others) (λ first firsts one rest.
    then_read (read_maybe inner (is_mark (codes ";")) one rest) (λ test tests two more.
    after_mark (codes ";") more Nothing (λ semicolon end.
    then_read (read_maybe inner (is_mark (codes ")")) two end) (λ next nexts three ends.
    after_mark (codes ")") ends Nothing (λ closing final.
    then_read (substatement inner three final) (λ body levels within over.
    Read (statement place body.after (For first test semicolon.place next closing.place body)) (1 + max (max firsts tests) (max nexts levels)) (leaving within) over)))))))

unfoldable pub read_return : Level → Place → Reader Stmt
read_return inner place context row =
    then_read (read_maybe inner (is_mark (codes ";")) context row) (λ value levels behind rest.
    after_mark (codes ";") rest Nothing (λ semicolon others. Read (statement place semicolon.place (Return value)) (1 + levels) behind others))

abbrev pub statement_with : Level → Context → Terminal → List Terminal → StatementStart → Outcome Stmt
statement_with inner context first row start.Block =
    then_read (read_block inner context (first ∷ row)) (λ body levels behind rest.
    Read (statement first.place (last_place (front_of (first ∷ row) rest)) (Block body)) (1 + levels) behind rest)
statement_with inner context first row start.If = read_if inner first.place context row
statement_with inner context first row start.While = read_while inner first.place context row
statement_with inner context first row start.Do = read_do inner first.place context row
statement_with inner context first row start.For = read_for inner first.place context row
statement_with inner context first row start.Break =
    after_mark (codes ";") row Nothing (λ semicolon others. Read (statement first.place semicolon.place Break) 1 context others)
statement_with inner context first row start.Continue =
    after_mark (codes ";") row Nothing (λ semicolon others. Read (statement first.place semicolon.place Continue) 1 context others)
statement_with inner context first row start.Return = read_return inner first.place context row
statement_with inner context first row start.Other =
    if begins_declaration context.scope first then Nothing else read_clause inner context (first ∷ row)

-- a statement without its labels
unfoldable pub read_unlabeled : Level → Reader Stmt
read_unlabeled inner context [] = Nothing
read_unlabeled inner context (first ∷ row) = statement_with inner context first row (statement_start first)

-- a statement (C11 6.8.1): labels leave no trace
unfoldable pub read_statement : Level → Reader Stmt
read_statement inner context [] = Nothing
read_statement inner context (first ∷ []) = read_unlabeled inner context (first ∷ [])
read_statement inner context (first ∷ (second ∷ row)) =
    if begins_with_label context.scope (first ∷ (second ∷ row)) then read_statement inner context row
    else read_unlabeled inner context (first ∷ (second ∷ row))

-- what stands in a block: a statement that begins with a type or a storage word is a declaration
unfoldable pub read_item : Level → Reader Stmt
read_item inner context row =
    if has_first (begins_declaration context.scope) row then read_clause inner context row else read_statement inner context row
