-- The reader of statements and blocks is complete, rule by rule of the grammar.
use Rattle.std.proofs.Common.{◌≡◌, ℕ, zero, suc, ◌+◌, ◌<◌, ◌≤◌, Bool, true, false, ◌&&◌, not, refl, ap, sym, ◌∙◌, List, [], ◌∷◌, ◌++◌, length, map, codes, IsTrue, inl, inr, arith, Option, Some, None, ◌⊎◌}
use Rattle.std.specs.List.{list_any}
use Rattle.std.specs.Str.{bytes_eq}
use Rattle.cbase.specs.declared.place.Place.{Place}
use Rattle.cbase.specs.declared.tree.decl.Decl.{Decl}
use Rattle.cbase.specs.declared.tree.expr.Expr.{Expr}
use Rattle.cbase.specs.declared.tree.stmt.Stmt.{Stmt}
use Rattle.cbase.specs.declared.tree.stmt.StmtForm.TheVariants.{Declare, Eval, Block, If, While, Do, For, Break, Continue, Return}
use Rattle.ctokens.specs.declared.token.TokenKind.TheVariants.{Word}
use Rattle.ctokens.specs.SymbolTables.{keyword_symbol, name_symbol, passed_symbol}
use Rattle.ctrees.specs.Weight.{joined}
use Rattle.ctrees.specs.Levels.{depth, decl_levels, expr_levels, stmt_levels}
use Rattle.cgrammar.proofs.CompletingOutcomes.{go_true, go_false, go_read, go_past, not_is, braces_of_none, braces_of_more, row_of_two, row_of_three}
use Rattle.cgrammar.proofs.CompletingTokens.{by_mark, by_word, begins_apart, operand_no_mark, operand_row_no_mark}
use Rattle.cgrammar.proofs.CompletingParts.{read_levels, ends_known, expression_read, not_declaration_row, declaration_row, declaration_row_no_mark, fewer}
use Rattle.cgrammar.proofs.Contexts.{scopes_kept}
use Rattle.cgrammar.proofs.Firsts.{first}
use Rattle.cgrammar.proofs.Fronts.{front_of_both}
use Rattle.cgrammar.proofs.Labels.{labels_apart}
use Rattle.cgrammar.proofs.Reached.{Completes, Ends, goes_on_expression, goes_on_statement}
use Rattle.cgrammar.proofs.Scopes.{left_entered}
use Rattle.cgrammar.proofs.Starting.{starts, operand_not_mark, operand_not_word, statement_not_mark, statement_not_else}
use Rattle.cgrammar.proofs.TokenKinds.{named_words, other_mark, other_word, mark_is_no_name, mark_is_no_word}
use Rattle.cgrammar.proofs.TreeLevels.{levels_stmt, levels_declare, levels_empty, levels_eval, levels_block, levels_if, levels_if_else, levels_while, levels_do, levels_for, levels_break, levels_continue, levels_of_return}
use Rattle.cgrammar.proofs.Truth.{and-both, not-true, clash, false-of}
use Rattle.cgrammar.specs.Firsts.{begins_declaration, Begins}
use Rattle.cgrammar.specs.FrontReadings.{begins_with_label}
use Rattle.cgrammar.specs.Grammar.{Spells, inside, outside, NoMoreItems, NextDeclaration, NextStatement}
use Rattle.cgrammar.specs.Outcomes.{Read, has_first, has_mark}
use Rattle.cgrammar.specs.Phrases.{Context, scoped, Expression, Declaration, CompoundStatement, BlockItems, Statement, Substatement, FirstClause, MaybeExpression}
use Rattle.cgrammar.specs.ReadDeclarations.{leaving}
use Rattle.cgrammar.specs.ReadLevels.{Level, read_until_brace}
use Rattle.cgrammar.specs.ReadStarts.{postfix_start, statement_start}
use Rattle.cgrammar.specs.ReadStatements.{read_block, read_maybe, read_clause, untyped, read_if, read_while, read_do, read_for, read_return, statement_with, read_unlabeled, read_statement, read_item}
use Rattle.cgrammar.specs.Reader.{level}
use Rattle.cgrammar.specs.Scope.{Names, left}
use Rattle.cgrammar.specs.Starts.{begins_operand, begins_statement, operand_words}
use Rattle.cgrammar.specs.Terminals.{Terminal, is_word, IsWord, is_mark, IsMark, is_name, IsName, is_typedef, IsNoType, begins_with_typedef, first_place, last_place}
use Rattle.cgrammar.specs.Trees.{statement}
use Rattle.cgrammar.specs.declared.reading.starts.StatementStart.{StatementStart}
use Rattle.cgrammar.specs.declared.reading.starts.StatementStart.TheVariants as start

-- outside the innermost scope again
left_outside : (before within : Context) → left within.scope ≡ before.scope → ◌≡◌ {A = Context} (leaving within) (outside before within)
left_outside before within is = ap (λ (scope : List Names). scoped within scope) is

-- a statement that is read in a scope of its own, which is left again
left_read : (stmt : Stmt) (levels : ℕ) (before within : Context) (rest : List Terminal) → left within.scope ≡ before.scope → levels ≡ stmt_levels stmt
    → Read stmt levels (leaving within) rest ≡ Read stmt (stmt_levels stmt) (outside before within) rest
left_read stmt levels before within rest is same = ap (λ (c : Context). Read stmt levels c rest) (left_outside before within is) ∙ read_levels stmt (outside before within) rest same

-- blocks
pub complete_one_block : (before within : Context) (xs : List Terminal) (body : List Stmt) (opening closing : Terminal)
    → IsMark (codes "{") opening
    → Spells (BlockItems body) (inside before) xs within
    → IsMark (codes "}") closing
    → Completes (BlockItems body) (inside before) xs within
    → Completes (CompoundStatement body) before (opening ∷ (xs ++ (closing ∷ []))) (outside before within)
unfolding read_block
complete_one_block before within xs body opening closing p1 d1 p2 c1 n rest small =
    ap (λ row. read_block (level n) before (opening ∷ row)) (row_of_two xs (closing ∷ []) rest)
    ∙ go_true _ p1 (go_read _ (c1 n (length (xs ++ (closing ∷ rest)) + 1) (closing ∷ rest) (omega arith) small p2)
    (ap (λ (c : Context). Read body (joined depth (map stmt_levels body)) c rest) (left_outside before within (scopes_kept (BlockItems body) (inside before) within xs d1 ∙ left_entered before.scope))))

pub complete_no_more_items : (before : Context)
    → Completes (BlockItems []) before [] before
complete_no_more_items before n count rest enough small closes = braces_of_none (level n).item count before rest enough closes

-- declarations as statements
clause_of_declaration : (m : ℕ) (before after : Context) (xs rest : List Terminal) (decl : Decl) → Spells (Declaration decl) before xs after → Completes (Declaration decl) before xs after → decl_levels decl ≤ m
    → read_clause (level m) before (xs ++ rest) ≡ Read (statement (first_place xs) (last_place xs) (Declare decl)) (stmt_levels (statement (first_place xs) (last_place xs) (Declare decl))) after rest
unfolding read_clause
clause_of_declaration m before after xs rest decl spelled completes small =
    go_true _ (declaration_row before.scope xs rest (first spelled)) (go_read _ (completes m rest small)
    (ap (λ (front : List Terminal). Read (statement (first_place front) (last_place front) (Declare decl)) (1 + decl_levels decl) after rest) (front_of_both xs rest)
    ∙ read_levels _ after rest (sym (levels_declare (first_place xs) (last_place xs) decl))))

item_of_declaration : (m : ℕ) (before : Context) (xs rest : List Terminal) → Begins (begins_declaration before.scope) xs → read_item (level m) before (xs ++ rest) ≡ read_clause (level m) before (xs ++ rest)
unfolding read_item
item_of_declaration m before xs rest begins = go_true _ (declaration_row before.scope xs rest begins) refl

pub complete_next_declaration : (before middle after : Context) (xs ys : List Terminal) (decl : Decl) (others : List Stmt)
    → Spells (Declaration decl) before xs middle
    → Spells (BlockItems others) middle ys after
    → Completes (Declaration decl) before xs middle
    → Completes (BlockItems others) middle ys after
    → Completes (BlockItems (statement (first_place xs) (last_place xs) (Declare decl) ∷ others)) before (xs ++ ys) after
complete_next_declaration before middle after xs ys decl others d1 d2 c1 c2 zero count rest enough small closes = absurd (let levels = levels_declare (first_place xs) (last_place xs) decl in omega (arith, small, levels))
complete_next_declaration before middle after xs ys decl others d1 d2 c1 c2 (suc m) zero rest enough small closes = absurd (omega (arith, enough))
complete_next_declaration before middle after xs ys decl others d1 d2 c1 c2 (suc m) (suc count) rest enough small closes =
    let levels = levels_declare (first_place xs) (last_place xs) decl in
    let less : length (ys ++ rest) < count = let far = fewer (begins_declaration before.scope) xs (ys ++ rest) (first d1) in let same = ap (λ (r : List Terminal). length r) (row_of_two xs ys rest) in omega (arith, enough, far, same) in
    ap (λ row. read_until_brace (level (suc m)).item (suc count) before row) (row_of_two xs ys rest)
    ∙ braces_of_more (level (suc m)).item count before (xs ++ (ys ++ rest)) (statement (first_place xs) (last_place xs) (Declare decl)) (stmt_levels (statement (first_place xs) (last_place xs) (Declare decl))) middle (ys ++ rest) others (joined depth (map stmt_levels others)) after rest
    (declaration_row_no_mark before.scope (codes "}") xs (ys ++ rest) (first d1))
    (item_of_declaration m before xs (ys ++ rest) (first d1) ∙ clause_of_declaration m before middle xs (ys ++ rest) decl d1 c1 (omega (arith, small, levels)))
    (c2 (suc m) count rest less (omega (arith, small)) closes)

item_of_statement : (m : ℕ) (before : Context) (xs rest : List Terminal) → Begins (λ t. not (begins_declaration before.scope t)) xs → read_item (level m) before (xs ++ rest) ≡ read_statement (level m) before (xs ++ rest)
unfolding read_item
item_of_statement m before xs rest begins =
    go_false _ (begins_apart (λ t. not (begins_declaration before.scope t)) (begins_declaration before.scope) xs rest (λ t is. not-true (begins_declaration before.scope t) is) begins) refl

statement_no_brace : (token : Terminal) → begins_statement token ≡ true → is_mark (codes "}") token ≡ false
statement_no_brace token is = false-of (is_mark (codes "}") token) (λ mark. statement_not_mark (codes "}") token refl refl is mark)

statement_no_else : (token : Terminal) → begins_statement token ≡ true → is_word (codes "else") token ≡ false
statement_no_else token is = false-of (is_word (codes "else") token) (λ word. statement_not_else token is word)

declaration_no_else : (scopes : List Names) (token : Terminal) → begins_declaration scopes token ≡ true → is_word (codes "else") token ≡ false
unfolding keyword_symbol name_symbol passed_symbol
declaration_no_else scopes token is =
    false-of (is_word (codes "else") token) (λ word. clash (begins_declaration scopes token) is (by_word (begins_declaration scopes) (codes "else") token word refl))

items_no_else : (body : List Stmt) (before after : Context) (xs rest : List Terminal) → Spells (BlockItems body) before xs after → has_first (is_word (codes "else")) rest ≡ false → has_first (is_word (codes "else")) (xs ++ rest) ≡ false
items_no_else body before after xs rest NoMoreItems none = none
items_no_else body before after xs rest (NextDeclaration {xs = ws} {ys} decl more) none =
    ap (has_first (is_word (codes "else"))) (row_of_two ws ys rest) ∙ begins_apart (begins_declaration before.scope) (is_word (codes "else")) ws (ys ++ rest) (declaration_no_else before.scope) (first decl)
items_no_else body before after xs rest (NextStatement {xs = ws} {ys} stmt more) none =
    ap (has_first (is_word (codes "else"))) (row_of_two ws ys rest) ∙ begins_apart begins_statement (is_word (codes "else")) ws (ys ++ rest) statement_no_else (starts stmt)

no_else_ends : (dangling : Bool) (rest : List Terminal) → has_first (is_word (codes "else")) rest ≡ false → Ends (goes_on_statement dangling) rest
no_else_ends dangling [] none = refl
no_else_ends true (token ∷ rest) none = not_is _ none
no_else_ends false (token ∷ rest) none = refl

brace_no_else : (rest : List Terminal) → IsTrue (has_mark (codes "}") rest) → has_first (is_word (codes "else")) rest ≡ false
brace_no_else [] is = refl
brace_no_else (token ∷ rest) is = mark_is_no_word (codes "}") (codes "else") token is

pub complete_next_statement : (before middle after : Context) (xs ys : List Terminal) (dangling : Bool) (stmt : Stmt) (others : List Stmt)
    → Spells (Statement dangling stmt) before xs middle
    → Spells (BlockItems others) middle ys after
    → Completes (Statement dangling stmt) before xs middle
    → Completes (BlockItems others) middle ys after
    → Completes (BlockItems (stmt ∷ others)) before (xs ++ ys) after
complete_next_statement before middle after xs ys dangling stmt others d1 d2 c1 c2 zero count rest enough small closes = absurd (let levels = levels_stmt stmt in omega (arith, small, levels))
complete_next_statement before middle after xs ys dangling stmt others d1 d2 c1 c2 (suc m) zero rest enough small closes = absurd (omega (arith, enough))
complete_next_statement before middle after xs ys dangling stmt others d1 d2 c1 c2 (suc m) (suc count) rest enough small closes =
    let less : length (ys ++ rest) < count = let far = fewer begins_statement xs (ys ++ rest) (starts d1) in let same = ap (λ (r : List Terminal). length r) (row_of_two xs ys rest) in omega (arith, enough, far, same) in
    ap (λ row. read_until_brace (level (suc m)).item (suc count) before row) (row_of_two xs ys rest)
    ∙ braces_of_more (level (suc m)).item count before (xs ++ (ys ++ rest)) stmt (stmt_levels stmt) middle (ys ++ rest) others (joined depth (map stmt_levels others)) after rest
    (begins_apart begins_statement (is_mark (codes "}")) xs (ys ++ rest) statement_no_brace (starts d1))
    (item_of_statement m before xs (ys ++ rest) (first d1) ∙ c1 (suc m) (ys ++ rest) (omega (arith, small)) (no_else_ends dangling (ys ++ rest) (items_no_else others middle after ys rest d2 (brace_no_else rest closes))))
    (c2 (suc m) count rest less (omega (arith, small)) closes)

-- expressions that may be left out
pub complete_no_expression : (before : Context)
    → Completes (MaybeExpression None) before [] before
unfolding read_maybe
complete_no_expression before n ends rest small has each = go_true _ has refl

closing_or_semicolon : (token : Terminal) → (IsTrue (is_mark (codes ")") token)) ⊎ (IsTrue (is_mark (codes ";") token)) → goes_on_expression token ≡ false
unfolding postfix_start
closing_or_semicolon token (inl is) = by_mark goes_on_expression (codes ")") token is refl
closing_or_semicolon token (inr is) = by_mark goes_on_expression (codes ";") token is refl

maybe_ends : (ends : Terminal → Bool) (rest : List Terminal) → IsTrue (has_first ends rest) → ((token : Terminal) → IsTrue (ends token) → (IsTrue (is_mark (codes ")") token)) ⊎ (IsTrue (is_mark (codes ";") token))) → Ends goes_on_expression rest
maybe_ends ends [] has each = refl
maybe_ends ends (token ∷ rest) has each = not_is _ (closing_or_semicolon token (each token has))

operand_no_end : (ends : Terminal → Bool) → ((token : Terminal) → IsTrue (ends token) → (IsTrue (is_mark (codes ")") token)) ⊎ (IsTrue (is_mark (codes ";") token))) → (token : Terminal) → begins_operand token ≡ true → ends token ≡ false
operand_no_end ends each token is = false-of (ends token) (λ on. step (each token on))
  where
    step : (IsTrue (is_mark (codes ")") token)) ⊎ (IsTrue (is_mark (codes ";") token)) → ⊥
    step (inl closing) = operand_not_mark (codes ")") token refl is closing
    step (inr semicolon) = operand_not_mark (codes ";") token refl is semicolon

pub complete_some_expression : (before after : Context) (xs : List Terminal) (expr : Expr)
    → Spells (Expression expr) before xs after
    → Completes (Expression expr) before xs after
    → Completes (MaybeExpression (Some expr)) before xs after
unfolding read_maybe
complete_some_expression before after xs expr d1 c1 n ends rest small has each =
    go_false _ (begins_apart begins_operand ends xs rest (operand_no_end ends each) (starts d1))
    (go_read _ (expression_read n before xs expr after rest c1 small (maybe_ends ends rest has each)) refl)

-- the first clause of a `for`
mark_no_declaration : (scopes : List Names) (bytes : List ℕ) (token : Terminal) → IsMark bytes token → begins_declaration scopes token ≡ false
mark_no_declaration scopes bytes token is = by_mark (begins_declaration scopes) bytes token is refl

clause_of_nothing : (inner : Level) (before : Context) (semicolon : Terminal) (rest : List Terminal) → IsMark (codes ";") semicolon
    → read_clause inner before (semicolon ∷ rest) ≡ Read (statement semicolon.place semicolon.place (Eval None)) (stmt_levels (statement semicolon.place semicolon.place (Eval None))) before rest
unfolding read_clause
clause_of_nothing inner before semicolon rest is =
    go_false _ (mark_no_declaration before.scope (codes ";") semicolon is) (go_true _ is (read_levels _ before rest (sym (levels_empty semicolon.place semicolon.place))))

place_of_front : (xs rest : List Terminal) → Begins begins_operand xs → first_place (xs ++ rest) ≡ first_place xs
place_of_front [] rest begins = absurd begins
place_of_front (token ∷ xs) rest begins = refl

clause_of_expression : (m : ℕ) (before after : Context) (xs : List Terminal) (expr : Expr) (semicolon : Terminal) (rest : List Terminal) → IsNoType before.scope xs → Spells (Expression expr) before xs after → IsMark (codes ";") semicolon → Completes (Expression expr) before xs after → expr_levels expr ≤ m
    → read_clause (level m) before (xs ++ (semicolon ∷ rest)) ≡ Read (statement (first_place xs) semicolon.place (Eval (Some expr))) (stmt_levels (statement (first_place xs) semicolon.place (Eval (Some expr)))) after rest
unfolding read_clause postfix_start
clause_of_expression m before after xs expr semicolon rest none spelled is completes small =
    go_false _ (not_declaration_row before.scope xs (semicolon ∷ rest) (first spelled) none)
    (go_past (is_mark (codes ";")) (xs ++ (semicolon ∷ rest)) _ _ (operand_row_no_mark (codes ";") xs (semicolon ∷ rest) refl (starts spelled))
    ∙ go_read _ (expression_read m before xs expr after (semicolon ∷ rest) completes small (ends_known goes_on_expression (codes ";") semicolon rest is refl))
    (go_true _ is
    (ap (λ (place : Place). Read (statement place semicolon.place (Eval (Some expr))) (1 + expr_levels expr) after rest) (place_of_front xs (semicolon ∷ rest) (starts spelled))
    ∙ read_levels _ after rest (sym (levels_eval (first_place xs) semicolon.place expr)))))

pub complete_first_declaration : (before after : Context) (xs : List Terminal) (decl : Decl)
    → Spells (Declaration decl) before xs after
    → Completes (Declaration decl) before xs after
    → Completes (FirstClause (statement (first_place xs) (last_place xs) (Declare decl))) before xs after
complete_first_declaration before after xs decl d1 c1 zero rest small = absurd (let levels = levels_declare (first_place xs) (last_place xs) decl in omega (arith, small, levels))
complete_first_declaration before after xs decl d1 c1 (suc m) rest small = let levels = levels_declare (first_place xs) (last_place xs) decl in clause_of_declaration m before after xs rest decl d1 c1 (omega (arith, small, levels))

pub complete_first_left_out : (before : Context) (semicolon : Terminal)
    → IsMark (codes ";") semicolon
    → Completes (FirstClause (statement semicolon.place semicolon.place (Eval None))) before (semicolon ∷ []) before
complete_first_left_out before semicolon p1 zero rest small = absurd (let levels = levels_empty semicolon.place semicolon.place in omega (arith, small, levels))
complete_first_left_out before semicolon p1 (suc m) rest small = clause_of_nothing (level m) before semicolon rest p1

pub complete_first_expression : (before after : Context) (xs : List Terminal) (expr : Expr) (semicolon : Terminal)
    → IsNoType before.scope xs
    → Spells (Expression expr) before xs after
    → IsMark (codes ";") semicolon
    → Completes (Expression expr) before xs after
    → Completes (FirstClause (statement (first_place xs) semicolon.place (Eval (Some expr)))) before (xs ++ (semicolon ∷ [])) after
complete_first_expression before after xs expr semicolon p1 d1 p2 c1 zero rest small = absurd (let levels = levels_eval (first_place xs) semicolon.place expr in omega (arith, small, levels))
complete_first_expression before after xs expr semicolon p1 d1 p2 c1 (suc m) rest small =
    let levels = levels_eval (first_place xs) semicolon.place expr in
    ap (λ row. read_clause (level m) before row) (row_of_two xs (semicolon ∷ []) rest) ∙ clause_of_expression m before after xs expr semicolon rest p1 d1 p2 c1 (omega (arith, small, levels))

-- statements
unlabeled : (inner : Level) (before : Context) (front : Terminal) (row : List Terminal) → begins_with_label before.scope (front ∷ row) ≡ false → read_statement inner before (front ∷ row) ≡ read_unlabeled inner before (front ∷ row)
unfolding read_statement
unlabeled inner before front [] none = refl
unlabeled inner before front (second ∷ row) none = go_false _ none refl

no_label : (scopes : List Names) (front : Terminal) (row : List Terminal) → is_name front ≡ false → begins_with_label scopes (front ∷ row) ≡ false
no_label scopes front [] is = refl
no_label scopes front (second ∷ row) is = ap (λ (b : Bool). b && (not (is_typedef scopes front) && is_mark (codes ":") second)) is

statement_begun : (inner : Level) (before : Context) (front : Terminal) (row : List Terminal) (begun : StatementStart) → begins_with_label before.scope (front ∷ row) ≡ false → statement_start front ≡ begun
    → read_statement inner before (front ∷ row) ≡ statement_with inner before front row begun
unfolding read_unlabeled
statement_begun inner before front row begun none is = unlabeled inner before front row none ∙ ap (λ s. statement_with inner before front row s) is

statement_of_word : (inner : Level) (before : Context) (bytes : List ℕ) (word : Terminal) (row : List Terminal) (begun : StatementStart) → IsWord bytes word
    → is_name (record { kind = Word; bytes = bytes; place = word.place }) ≡ false → statement_start (record { kind = Word; bytes = bytes; place = word.place }) ≡ begun
    → read_statement inner before (word ∷ row) ≡ statement_with inner before word row begun
statement_of_word inner before bytes word row begun is named starts_so =
    statement_begun inner before word row begun (no_label before.scope word row (by_word is_name bytes word is named)) (by_word statement_start bytes word is starts_so)

block_front : (inner : Level) (before : Context) (opening : Terminal) (row : List Terminal) → IsMark (codes "{") opening → read_statement inner before (opening ∷ row) ≡ statement_with inner before opening row start.Block
unfolding statement_start
block_front inner before opening row is = statement_begun inner before opening row start.Block (no_label before.scope opening row (mark_is_no_name (codes "{") opening is)) (go_true _ is refl)

block_statement : (m : ℕ) (before within : Context) (xs rest : List Terminal) (body : List Stmt) → Begins (is_mark (codes "{")) xs → read_block (level m) before (xs ++ rest) ≡ Read body (joined depth (map stmt_levels body)) within rest
    → read_statement (level m) before (xs ++ rest) ≡ Read (statement (first_place xs) (last_place xs) (Block body)) (stmt_levels (statement (first_place xs) (last_place xs) (Block body))) within rest
block_statement m before within [] rest body begins is = absurd begins
block_statement m before within (opening ∷ xs) rest body begins is =
    block_front (level m) before opening (xs ++ rest) begins
    ∙ go_read _ is
    (ap (λ (front : List Terminal). Read (statement opening.place (last_place front) (Block body)) (1 + joined depth (map stmt_levels body)) within rest) (front_of_both (opening ∷ xs) rest)
    ∙ read_levels _ within rest (sym (levels_block opening.place (last_place (opening ∷ xs)) body)))

pub complete_block_statement : (before within : Context) (xs : List Terminal) (body : List Stmt)
    → Spells (CompoundStatement body) before xs within
    → Completes (CompoundStatement body) before xs within
    → Completes (Statement false (statement (first_place xs) (last_place xs) (Block body))) before xs within
complete_block_statement before within xs body d1 c1 zero rest small ends = absurd (let levels = levels_block (first_place xs) (last_place xs) body in omega (arith, small, levels))
complete_block_statement before within xs body d1 c1 (suc m) rest small ends =
    let levels = levels_block (first_place xs) (last_place xs) body in
    block_statement m before within xs rest body (starts d1) (c1 m rest (omega (arith, small, levels)))

semicolon_start : (semicolon : Terminal) → IsMark (codes ";") semicolon → statement_start semicolon ≡ start.Other
unfolding statement_start
semicolon_start semicolon is = by_mark statement_start (codes ";") semicolon is refl

pub complete_empty_statement : (before : Context) (semicolon : Terminal)
    → IsMark (codes ";") semicolon
    → Completes (Statement false (statement semicolon.place semicolon.place (Eval None))) before (semicolon ∷ []) before
complete_empty_statement before semicolon p1 zero rest small ends = absurd (let levels = levels_empty semicolon.place semicolon.place in omega (arith, small, levels))
complete_empty_statement before semicolon p1 (suc m) rest small ends =
    statement_begun (level m) before semicolon rest start.Other (no_label before.scope semicolon rest (mark_is_no_name (codes ";") semicolon p1)) (semicolon_start semicolon p1)
    ∙ go_false _ (mark_no_declaration before.scope (codes ";") semicolon p1) (clause_of_nothing (level m) before semicolon rest p1)

operand_no_word : (bytes : List ℕ) (token : Terminal) → list_any (bytes_eq bytes) named_words ≡ true → list_any (bytes_eq bytes) operand_words ≡ false → begins_operand token ≡ true → is_word bytes token ≡ false
operand_no_word bytes token named none is = false-of (is_word bytes token) (λ word. operand_not_word bytes token named none is word)

operand_statement_start : (token : Terminal) → begins_operand token ≡ true → statement_start token ≡ start.Other
unfolding statement_start
operand_statement_start token is =
    go_false _ (operand_no_mark (codes "{") refl token is)
    (go_false _ (operand_no_word (codes "if") token refl refl is)
    (go_false _ (operand_no_word (codes "while") token refl refl is)
    (go_false _ (operand_no_word (codes "do") token refl refl is)
    (go_false _ (operand_no_word (codes "for") token refl refl is)
    (go_false _ (operand_no_word (codes "break") token refl refl is)
    (go_false _ (operand_no_word (codes "continue") token refl refl is)
    (go_false _ (operand_no_word (codes "return") token refl refl is) refl)))))))

no_colon_second : (a b c : Bool) → c ≡ false → (a && (b && c)) ≡ false
no_colon_second true true c is = is
no_colon_second true false c is = refl
no_colon_second false b c is = refl

expression_no_label : (before after : Context) (xs : List Terminal) (expr : Expr) (semicolon : Terminal) (rest : List Terminal) → Spells (Expression expr) before xs after → IsMark (codes ";") semicolon → begins_with_label before.scope (xs ++ (semicolon ∷ rest)) ≡ false
expression_no_label before after [] expr semicolon rest spelled is = absurd (starts spelled)
expression_no_label before after (only ∷ []) expr semicolon rest spelled is =
    no_colon_second (is_name only) (not (is_typedef before.scope only)) (is_mark (codes ":") semicolon) (other_mark (codes ";") (codes ":") semicolon refl is)
expression_no_label before after (front ∷ (second ∷ xs)) expr semicolon rest spelled is =
    no_colon_second (is_name front) (not (is_typedef before.scope front)) (is_mark (codes ":") second) (false-of (is_mark (codes ":") second) (λ colon. labels_apart front second xs expr before after colon spelled))

statement_of_expression : (inner : Level) (before : Context) (xs rest : List Terminal) → Begins begins_operand xs → begins_with_label before.scope (xs ++ rest) ≡ false → has_first (begins_declaration before.scope) (xs ++ rest) ≡ false
    → read_statement inner before (xs ++ rest) ≡ read_clause inner before (xs ++ rest)
statement_of_expression inner before [] rest begins none off = absurd begins
statement_of_expression inner before (token ∷ xs) rest begins none off =
    statement_begun inner before token (xs ++ rest) start.Other none (operand_statement_start token begins) ∙ go_false _ off refl

pub complete_expression_statement : (before after : Context) (xs : List Terminal) (expr : Expr) (semicolon : Terminal)
    → IsNoType before.scope xs
    → Spells (Expression expr) before xs after
    → IsMark (codes ";") semicolon
    → Completes (Expression expr) before xs after
    → Completes (Statement false (statement (first_place xs) semicolon.place (Eval (Some expr)))) before (xs ++ (semicolon ∷ [])) after
complete_expression_statement before after xs expr semicolon p1 d1 p2 c1 zero rest small ends = absurd (let levels = levels_eval (first_place xs) semicolon.place expr in omega (arith, small, levels))
complete_expression_statement before after xs expr semicolon p1 d1 p2 c1 (suc m) rest small ends =
    let levels = levels_eval (first_place xs) semicolon.place expr in
    ap (λ row. read_statement (level m) before row) (row_of_two xs (semicolon ∷ []) rest)
    ∙ (statement_of_expression (level m) before xs (semicolon ∷ rest) (starts d1) (expression_no_label before after xs expr semicolon rest d1 p2) (not_declaration_row before.scope xs (semicolon ∷ rest) (first d1) p1)
    ∙ clause_of_expression m before after xs expr semicolon rest p1 d1 p2 c1 (omega (arith, small, levels)))

-- an expression between brackets
no_typedef_row : (scopes : List Names) (xs rest : List Terminal) → Begins begins_operand xs → IsNoType scopes xs → begins_with_typedef scopes (xs ++ rest) ≡ false
no_typedef_row scopes [] rest begins none = absurd begins
no_typedef_row scopes (token ∷ xs) rest begins none = not-true (is_typedef scopes token) none

untyped_read : (m : ℕ) (before after : Context) (xs : List Terminal) (expr : Expr) (closing : Terminal) (rest : List Terminal) → IsNoType before.scope xs → Spells (Expression expr) before xs after → IsMark (codes ")") closing → Completes (Expression expr) before xs after → expr_levels expr ≤ m
    → untyped (level m) before (xs ++ (closing ∷ rest)) ≡ Read expr (expr_levels expr) after (closing ∷ rest)
unfolding postfix_start
untyped_read m before after xs expr closing rest none spelled is completes small =
    go_false _ (no_typedef_row before.scope xs (closing ∷ rest) (starts spelled) none)
    (expression_read m before xs expr after (closing ∷ rest) completes small (ends_known goes_on_expression (codes ")") closing rest is refl))

rest_no_else : (rest : List Terminal) → Ends (goes_on_statement true) rest → has_first (is_word (codes "else")) rest ≡ false
rest_no_else [] ends = refl
rest_no_else (token ∷ rest) ends = not-true (is_word (codes "else") token) ends

-- statements in an `if` or in a loop
pub complete_one_substatement : (before within : Context) (xs : List Terminal) (dangling : Bool) (stmt : Stmt)
    → Spells (Statement dangling stmt) (inside before) xs within
    → Completes (Statement dangling stmt) (inside before) xs within
    → Completes (Substatement dangling stmt) before xs (outside before within)
complete_one_substatement before within xs dangling stmt d1 c1 n rest small ends =
    go_read _ (c1 n rest small ends) (left_read stmt (stmt_levels stmt) before within rest (scopes_kept (Statement dangling stmt) (inside before) within xs d1 ∙ left_entered before.scope) refl)

pub complete_if_statement : (before middle after : Context) (xs ys : List Terminal) (test : Expr) (dangling : Bool) (stmt : Stmt) (word opening closing : Terminal)
    → IsWord (codes "if") word
    → IsMark (codes "(") opening
    → IsNoType (inside before).scope xs
    → Spells (Expression test) (inside before) xs middle
    → IsMark (codes ")") closing
    → Spells (Substatement dangling stmt) middle ys after
    → Completes (Expression test) (inside before) xs middle
    → Completes (Substatement dangling stmt) middle ys after
    → Completes (Statement true (statement word.place stmt.after (If test closing.place stmt None))) before (word ∷ (opening ∷ (xs ++ (closing ∷ ys)))) (outside before after)
unfolding read_if statement_start keyword_symbol name_symbol passed_symbol
complete_if_statement before middle after xs ys test dangling stmt word opening closing p1 p2 p3 d1 p4 d2 c1 c2 zero rest small ends = absurd (let levels = levels_if word.place stmt.after test closing.place stmt in omega (arith, small, levels))
complete_if_statement before middle after xs ys test dangling stmt word opening closing p1 p2 p3 d1 p4 d2 c1 c2 (suc m) rest small ends =
    let levels = levels_if word.place stmt.after test closing.place stmt in
    let kept = ap left (scopes_kept (Substatement dangling stmt) middle after ys d2) ∙ (scopes_kept (Expression test) (inside before) middle xs d1 ∙ left_entered before.scope) in
    ap (λ row. read_statement (level m) before (word ∷ (opening ∷ row))) (row_of_two xs (closing ∷ ys) rest)
    ∙ (statement_of_word (level m) before (codes "if") word (opening ∷ (xs ++ (closing ∷ (ys ++ rest)))) start.If p1 refl refl
    ∙ go_true _ p2 (go_read _ (untyped_read m (inside before) middle xs test closing (ys ++ rest) p3 d1 p4 c1 (omega (arith, small, levels)))
    (go_true _ p4 (go_read _ (c2 m rest (omega (arith, small, levels)) (no_else_ends dangling rest (rest_no_else rest ends)))
    (go_past (is_word (codes "else")) rest _ _ (rest_no_else rest ends) ∙ left_read _ _ before after rest kept (sym levels))))))

row_of_else : (xs : List Terminal) (closing : Terminal) (ys : List Terminal) (otherwise : Terminal) (zs rest : List Terminal) → (xs ++ (closing ∷ (ys ++ (otherwise ∷ zs)))) ++ rest ≡ xs ++ (closing ∷ (ys ++ (otherwise ∷ (zs ++ rest))))
row_of_else xs closing ys otherwise zs rest = row_of_two xs (closing ∷ (ys ++ (otherwise ∷ zs))) rest ∙ ap (λ (row : List Terminal). xs ++ (closing ∷ row)) (row_of_two ys (otherwise ∷ zs) rest)

pub complete_if_else_statement : (before first second after : Context) (xs ys zs : List Terminal) (test : Expr) (dangling : Bool) (one other : Stmt) (word opening closing otherwise : Terminal)
    → IsWord (codes "if") word
    → IsMark (codes "(") opening
    → IsNoType (inside before).scope xs
    → Spells (Expression test) (inside before) xs first
    → IsMark (codes ")") closing
    → Spells (Substatement false one) first ys second
    → IsWord (codes "else") otherwise
    → Spells (Substatement dangling other) second zs after
    → Completes (Expression test) (inside before) xs first
    → Completes (Substatement false one) first ys second
    → Completes (Substatement dangling other) second zs after
    → Completes (Statement dangling (statement word.place other.after (If test closing.place one (Some other)))) before (word ∷ (opening ∷ (xs ++ (closing ∷ (ys ++ (otherwise ∷ zs)))))) (outside before after)
unfolding read_if statement_start keyword_symbol name_symbol passed_symbol
complete_if_else_statement before first second after xs ys zs test dangling one other word opening closing otherwise p1 p2 p3 d1 p4 d2 p5 d3 c1 c2 c3 zero rest small ends = absurd (let levels = levels_if_else word.place other.after test closing.place one other in omega (arith, small, levels))
complete_if_else_statement before first second after xs ys zs test dangling one other word opening closing otherwise p1 p2 p3 d1 p4 d2 p5 d3 c1 c2 c3 (suc m) rest small ends =
    let levels = levels_if_else word.place other.after test closing.place one other in
    let kept = ap left (scopes_kept (Substatement dangling other) second after zs d3) ∙ (ap left (scopes_kept (Substatement false one) first second ys d2) ∙ (scopes_kept (Expression test) (inside before) first xs d1 ∙ left_entered before.scope)) in
    ap (λ row. read_statement (level m) before (word ∷ (opening ∷ row))) (row_of_else xs closing ys otherwise zs rest)
    ∙ (statement_of_word (level m) before (codes "if") word (opening ∷ (xs ++ (closing ∷ (ys ++ (otherwise ∷ (zs ++ rest)))))) start.If p1 refl refl
    ∙ go_true _ p2 (go_read _ (untyped_read m (inside before) first xs test closing (ys ++ (otherwise ∷ (zs ++ rest))) p3 d1 p4 c1 (omega (arith, small, levels)))
    (go_true _ p4 (go_read _ (c2 m (otherwise ∷ (zs ++ rest)) (omega (arith, small, levels)) refl)
    (go_true _ p5 (go_read _ (c3 m rest (omega (arith, small, levels)) ends) (left_read _ _ before after rest kept (sym levels))))))))

pub complete_while_statement : (before middle after : Context) (xs ys : List Terminal) (test : Expr) (dangling : Bool) (body : Stmt) (word opening closing : Terminal)
    → IsWord (codes "while") word
    → IsMark (codes "(") opening
    → IsNoType (inside before).scope xs
    → Spells (Expression test) (inside before) xs middle
    → IsMark (codes ")") closing
    → Spells (Substatement dangling body) middle ys after
    → Completes (Expression test) (inside before) xs middle
    → Completes (Substatement dangling body) middle ys after
    → Completes (Statement dangling (statement word.place body.after (While test closing.place body))) before (word ∷ (opening ∷ (xs ++ (closing ∷ ys)))) (outside before after)
unfolding read_while statement_start keyword_symbol name_symbol passed_symbol
complete_while_statement before middle after xs ys test dangling body word opening closing p1 p2 p3 d1 p4 d2 c1 c2 zero rest small ends = absurd (let levels = levels_while word.place body.after test closing.place body in omega (arith, small, levels))
complete_while_statement before middle after xs ys test dangling body word opening closing p1 p2 p3 d1 p4 d2 c1 c2 (suc m) rest small ends =
    let levels = levels_while word.place body.after test closing.place body in
    let kept = ap left (scopes_kept (Substatement dangling body) middle after ys d2) ∙ (scopes_kept (Expression test) (inside before) middle xs d1 ∙ left_entered before.scope) in
    ap (λ row. read_statement (level m) before (word ∷ (opening ∷ row))) (row_of_two xs (closing ∷ ys) rest)
    ∙ (statement_of_word (level m) before (codes "while") word (opening ∷ (xs ++ (closing ∷ (ys ++ rest)))) start.While p1 refl refl
    ∙ go_true _ p2 (go_read _ (untyped_read m (inside before) middle xs test closing (ys ++ rest) p3 d1 p4 c1 (omega (arith, small, levels)))
    (go_true _ p4 (go_read _ (c2 m rest (omega (arith, small, levels)) ends) (left_read _ _ before after rest kept (sym levels))))))

row_of_do : (xs : List Terminal) (while opening : Terminal) (ys : List Terminal) (closing semicolon : Terminal) (rest : List Terminal)
    → (xs ++ (while ∷ (opening ∷ (ys ++ (closing ∷ (semicolon ∷ [])))))) ++ rest ≡ xs ++ (while ∷ (opening ∷ (ys ++ (closing ∷ (semicolon ∷ rest)))))
row_of_do xs while opening ys closing semicolon rest = row_of_two xs (while ∷ (opening ∷ (ys ++ (closing ∷ (semicolon ∷ []))))) rest ∙ ap (λ (row : List Terminal). xs ++ (while ∷ (opening ∷ row))) (row_of_two ys (closing ∷ (semicolon ∷ [])) rest)

pub complete_do_statement : (before middle after : Context) (xs ys : List Terminal) (test : Expr) (dangling : Bool) (body : Stmt) (word while opening closing semicolon : Terminal)
    → IsWord (codes "do") word
    → Spells (Substatement dangling body) (inside before) xs middle
    → IsWord (codes "while") while
    → IsMark (codes "(") opening
    → IsNoType middle.scope ys
    → Spells (Expression test) middle ys after
    → IsMark (codes ")") closing
    → IsMark (codes ";") semicolon
    → Completes (Substatement dangling body) (inside before) xs middle
    → Completes (Expression test) middle ys after
    → Completes (Statement false (statement word.place semicolon.place (Do body test closing.place))) before (word ∷ (xs ++ (while ∷ (opening ∷ (ys ++ (closing ∷ (semicolon ∷ []))))))) (outside before after)
unfolding read_do statement_start keyword_symbol name_symbol passed_symbol
complete_do_statement before middle after xs ys test dangling body word while opening closing semicolon p1 d1 p2 p3 p4 d2 p5 p6 c1 c2 zero rest small ends = absurd (let levels = levels_do word.place semicolon.place body test closing.place in omega (arith, small, levels))
complete_do_statement before middle after xs ys test dangling body word while opening closing semicolon p1 d1 p2 p3 p4 d2 p5 p6 c1 c2 (suc m) rest small ends =
    let levels = levels_do word.place semicolon.place body test closing.place in
    let kept = scopes_kept (Expression test) middle after ys d2 ∙ (ap left (scopes_kept (Substatement dangling body) (inside before) middle xs d1) ∙ left_entered before.scope) in
    ap (λ row. read_statement (level m) before (word ∷ row)) (row_of_do xs while opening ys closing semicolon rest)
    ∙ (statement_of_word (level m) before (codes "do") word (xs ++ (while ∷ (opening ∷ (ys ++ (closing ∷ (semicolon ∷ rest)))))) start.Do p1 refl refl
    ∙ go_read _ (c1 m (while ∷ (opening ∷ (ys ++ (closing ∷ (semicolon ∷ rest))))) (omega (arith, small, levels)) (no_else_ends dangling (while ∷ (opening ∷ (ys ++ (closing ∷ (semicolon ∷ rest))))) (other_word (codes "while") (codes "else") while refl p2)))
    (go_true _ p2 (go_true _ p3 (go_read _ (untyped_read m middle after ys test closing (semicolon ∷ rest) p4 d2 p5 c2 (omega (arith, small, levels)))
    (go_true _ p5 (go_true _ p6 (left_read _ _ before after rest kept (sym levels))))))))

row_of_for : (ws xs : List Terminal) (semicolon : Terminal) (ys : List Terminal) (closing : Terminal) (zs rest : List Terminal)
    → (ws ++ (xs ++ (semicolon ∷ (ys ++ (closing ∷ zs))))) ++ rest ≡ ws ++ (xs ++ (semicolon ∷ (ys ++ (closing ∷ (zs ++ rest)))))
row_of_for ws xs semicolon ys closing zs rest =
    row_of_three ws xs (semicolon ∷ (ys ++ (closing ∷ zs))) rest ∙ ap (λ (row : List Terminal). ws ++ (xs ++ (semicolon ∷ row))) (row_of_two ys (closing ∷ zs) rest)

pub complete_for_statement : (before one two three after : Context) (ws xs ys zs : List Terminal) (first : Stmt) (test next : Option Expr) (dangling : Bool) (body : Stmt) (word opening semicolon closing : Terminal)
    → IsWord (codes "for") word
    → IsMark (codes "(") opening
    → Spells (FirstClause first) (inside before) ws one
    → Spells (MaybeExpression test) one xs two
    → IsMark (codes ";") semicolon
    → Spells (MaybeExpression next) two ys three
    → IsMark (codes ")") closing
    → Spells (Substatement dangling body) three zs after
    → Completes (FirstClause first) (inside before) ws one
    → Completes (MaybeExpression test) one xs two
    → Completes (MaybeExpression next) two ys three
    → Completes (Substatement dangling body) three zs after
    → Completes (Statement dangling (statement word.place body.after (For first test semicolon.place next closing.place body))) before (word ∷ (opening ∷ (ws ++ (xs ++ (semicolon ∷ (ys ++ (closing ∷ zs))))))) (outside before after)
unfolding read_for statement_start keyword_symbol name_symbol passed_symbol
complete_for_statement before one two three after ws xs ys zs first test next dangling body word opening semicolon closing p1 p2 d1 d2 p3 d3 p4 d4 c1 c2 c3 c4 zero rest small ends = absurd (let levels = levels_for word.place body.after first test semicolon.place next closing.place body in omega (arith, small, levels))
complete_for_statement before one two three after ws xs ys zs first test next dangling body word opening semicolon closing p1 p2 d1 d2 p3 d3 p4 d4 c1 c2 c3 c4 (suc m) rest small ends =
    let levels = levels_for word.place body.after first test semicolon.place next closing.place body in
    let kept = ap left (scopes_kept (Substatement dangling body) three after zs d4) ∙ (scopes_kept (MaybeExpression next) two three ys d3 ∙ (scopes_kept (MaybeExpression test) one two xs d2 ∙ (scopes_kept (FirstClause first) (inside before) one ws d1 ∙ left_entered before.scope))) in
    ap (λ row. read_statement (level m) before (word ∷ (opening ∷ row))) (row_of_for ws xs semicolon ys closing zs rest)
    ∙ (statement_of_word (level m) before (codes "for") word (opening ∷ (ws ++ (xs ++ (semicolon ∷ (ys ++ (closing ∷ (zs ++ rest))))))) start.For p1 refl refl
    ∙ go_true _ p2 (go_read _ (c1 m (xs ++ (semicolon ∷ (ys ++ (closing ∷ (zs ++ rest))))) (omega (arith, small, levels)))
    (go_read _ (c2 m (is_mark (codes ";")) (semicolon ∷ (ys ++ (closing ∷ (zs ++ rest)))) (omega (arith, small, levels)) p3 (λ t is. inr is))
    (go_true _ p3 (go_read _ (c3 m (is_mark (codes ")")) (closing ∷ (zs ++ rest)) (omega (arith, small, levels)) p4 (λ t is. inl is))
    (go_true _ p4 (go_read _ (c4 m rest (omega (arith, small, levels)) ends)
    (left_read _ _ before after rest kept (sym levels)))))))))

pub complete_break_statement : (before : Context) (word semicolon : Terminal)
    → IsWord (codes "break") word
    → IsMark (codes ";") semicolon
    → Completes (Statement false (statement word.place semicolon.place Break)) before (word ∷ (semicolon ∷ [])) before
unfolding statement_start keyword_symbol name_symbol passed_symbol
complete_break_statement before word semicolon p1 p2 zero rest small ends = absurd (let levels = levels_break word.place semicolon.place in omega (arith, small, levels))
complete_break_statement before word semicolon p1 p2 (suc m) rest small ends =
    statement_of_word (level m) before (codes "break") word (semicolon ∷ rest) start.Break p1 refl refl
    ∙ go_true _ p2 (read_levels _ before rest (sym (levels_break word.place semicolon.place)))

pub complete_continue_statement : (before : Context) (word semicolon : Terminal)
    → IsWord (codes "continue") word
    → IsMark (codes ";") semicolon
    → Completes (Statement false (statement word.place semicolon.place Continue)) before (word ∷ (semicolon ∷ [])) before
unfolding statement_start keyword_symbol name_symbol passed_symbol
complete_continue_statement before word semicolon p1 p2 zero rest small ends = absurd (let levels = levels_continue word.place semicolon.place in omega (arith, small, levels))
complete_continue_statement before word semicolon p1 p2 (suc m) rest small ends =
    statement_of_word (level m) before (codes "continue") word (semicolon ∷ rest) start.Continue p1 refl refl
    ∙ go_true _ p2 (read_levels _ before rest (sym (levels_continue word.place semicolon.place)))

pub complete_return_statement : (before after : Context) (xs : List Terminal) (value : Option Expr) (word semicolon : Terminal)
    → IsWord (codes "return") word
    → Spells (MaybeExpression value) before xs after
    → IsMark (codes ";") semicolon
    → Completes (MaybeExpression value) before xs after
    → Completes (Statement false (statement word.place semicolon.place (Return value))) before (word ∷ (xs ++ (semicolon ∷ []))) after
unfolding read_return statement_start keyword_symbol name_symbol passed_symbol
complete_return_statement before after xs value word semicolon p1 d1 p2 c1 zero rest small ends = absurd (let levels = levels_of_return word.place semicolon.place value in omega (arith, small, levels))
complete_return_statement before after xs value word semicolon p1 d1 p2 c1 (suc m) rest small ends =
    let levels = levels_of_return word.place semicolon.place value in
    ap (λ row. read_statement (level m) before (word ∷ row)) (row_of_two xs (semicolon ∷ []) rest)
    ∙ (statement_of_word (level m) before (codes "return") word (xs ++ (semicolon ∷ rest)) start.Return p1 refl refl
    ∙ go_read _ (c1 m (is_mark (codes ";")) (semicolon ∷ rest) (omega (arith, small, levels)) p2 (λ t is. inr is)) (go_true _ p2 (read_levels _ after rest (sym levels))))

labeled : (inner : Level) (before : Context) (label colon : Terminal) (row : List Terminal) → IsName label → IsNoType before.scope (label ∷ []) → IsMark (codes ":") colon → read_statement inner before (label ∷ (colon ∷ row)) ≡ read_statement inner before row
unfolding read_statement
labeled inner before label colon row named none is = go_true _ (and-both named (and-both none is)) refl

pub complete_labeled_statement : (before after : Context) (xs : List Terminal) (dangling : Bool) (stmt : Stmt) (label colon : Terminal)
    → IsName label
    → IsNoType before.scope (label ∷ [])
    → IsMark (codes ":") colon
    → Spells (Statement dangling stmt) before xs after
    → Completes (Statement dangling stmt) before xs after
    → Completes (Statement dangling stmt) before (label ∷ (colon ∷ xs)) after
complete_labeled_statement before after xs dangling stmt label colon p1 p2 p3 d1 c1 zero rest small ends = absurd (let levels = levels_stmt stmt in omega (arith, small, levels))
complete_labeled_statement before after xs dangling stmt label colon p1 p2 p3 d1 c1 (suc m) rest small ends = labeled (level m) before label colon (xs ++ rest) p1 p2 p3 ∙ c1 (suc m) rest small ends
