-- The reader is complete on primary expressions (C11 6.5.1, 7.19).
use Rattle.std.proofs.Common.{◌≡◌, ℕ, suc, true, false, not, ◌+◌, max, map, List, [], ◌∷◌, ◌++◌, codes, length, refl, ap, sym, subst, ◌∙◌, arith}
use Rattle.std.proofs.lemmas.List.{append_assoc}
use Rattle.cbase.specs.declared.tree.decl.TypeName.{TypeName}
use Rattle.cbase.specs.declared.tree.expr.Expr.{Expr}
use Rattle.cbase.specs.declared.tree.expr.ExprForm.TheVariants.{Name, Constant, OffsetOf, Inner}
use Rattle.cbase.specs.declared.tree.expr.Part.{Part}
use Rattle.cbase.specs.declared.tree.expr.Part.TheVariants.{Member as NamedPart}
use Rattle.cbase.specs.declared.tree.stmt.Stmt.{Stmt}
use Rattle.ctrees.specs.Levels.{depth, expr_levels, part_levels, stmt_levels, type_name_levels}
use Rattle.ctrees.specs.Weight.{joined}
use Rattle.ctokens.proofs.Choices.{chosen_yes}
use Rattle.cgrammar.proofs.CompleteCommas.{expression_at}
use Rattle.cgrammar.proofs.CompleteOperandStarts.{name_starts, constant_starts, bracket_starts, offset_of_starts, opens_not, opens_no_block, opens_expression, read_as_plain}
use Rattle.cgrammar.proofs.CompletePostfixes.{Postfixed}
use Rattle.cgrammar.proofs.CompleteSteps.{goes_exactly, continued_read}
use Rattle.cgrammar.proofs.CompleteTokens.{mark_test, closing_no_expression, closing_no_path}
use Rattle.cgrammar.proofs.Firsts.{first_tokens}
use Rattle.cgrammar.proofs.Fronts.{front_of_both}
use Rattle.cgrammar.proofs.Reached.{Completes, goes_on_expression, goes_on_type_name}
use Rattle.cgrammar.proofs.Starting.{starts}
use Rattle.cgrammar.proofs.TokenKinds.{name_is_no_mark, constant_is_no_mark, word_is_no_mark}
use Rattle.cgrammar.proofs.TreeLevels.{levels_name, levels_constant, levels_inner, levels_offset_of}
use Rattle.cgrammar.proofs.Truth.{not-true}
use Rattle.cgrammar.specs.Constants.{IsConstant}
use Rattle.cgrammar.specs.Firsts.{Begins, is_plain}
use Rattle.cgrammar.specs.FrontOf.{front_of}
use Rattle.cgrammar.specs.Grammar.{Spells}
use Rattle.cgrammar.specs.Outcomes.{Outcome, Nothing, Read, then_read, continued, after_first, after_mark, has_mark}
use Rattle.cgrammar.specs.Phrases.{Context, counted, numbered, Expression, PrimaryExpression, CompoundStatement, NameOfType, MemberPath}
use Rattle.cgrammar.specs.ReadLevels.{Level}
use Rattle.cgrammar.specs.ReadOperands.{read_cast, closed, opens, read_plain, read_bracket, read_cast_to, statement_expression, read_offset_of, read_path, read_postfixes, postfixes_from}
use Rattle.cgrammar.specs.ReadOperators.{expr_of, expression_from}
use Rattle.cgrammar.specs.ReadStatements.{read_block}
use Rattle.cgrammar.specs.ReadTypes.{read_type_name}
use Rattle.cgrammar.specs.Reader.{level}
use Rattle.cgrammar.specs.Starts.{begins_operand}
use Rattle.cgrammar.specs.Terminals.{Terminal, is_mark, IsMark, IsWord, is_name, IsName, IsNoType, last_place}
use Rattle.cgrammar.specs.Trees.{identifier}
use Rattle.cgrammar.specs.declared.reading.operand.Operand.{Operand}
use Rattle.cgrammar.specs.declared.reading.starts.OperandStart.TheVariants as operand

-- the postfix operators follow
pub postfixes_follow : (m : ℕ) (before : Context) (row : List Terminal) (e : Expr) (levels : ℕ) (after : Context) (rest : List Terminal) → expr_levels e ≡ levels
    → read_cast (level m) before row ≡ postfixes_from (level m) row e levels after rest → Postfixed m before e after rest row
postfixes_follow m before row e levels after rest same is =
    (length rest + 1, omega arith, is ∙ ap (λ (n : ℕ). read_postfixes (level m) row (length rest + 1) e n after rest) (sym same))

pub complete_one_name : (before : Context) (name : Terminal) → IsName name → Completes (PrimaryExpression (numbered before name.place (Name name.bytes))) before (name ∷ []) (counted before)
complete_one_name before name is m rest fits =
    postfixes_follow m before (name ∷ rest) (numbered before name.place (Name name.bytes)) 1 (counted before) rest (levels_name before.expressions name.place name.bytes)
    (read_as_plain (level m) before name rest operand.Name (opens_not before name rest (name_is_no_mark (codes "(") name is)) (name_starts name is))

pub complete_one_constant : (before : Context) (token : Terminal) → IsConstant token → Completes (PrimaryExpression (numbered before token.place (Constant token.bytes))) before (token ∷ []) (counted before)
complete_one_constant before token is m rest fits =
    postfixes_follow m before (token ∷ rest) (numbered before token.place (Constant token.bytes)) 1 (counted before) rest (levels_constant before.expressions token.place token.bytes)
    (read_as_plain (level m) before token rest operand.Constant (opens_not before token rest (constant_is_no_mark (codes "(") token is)) (constant_starts token is))

-- an expression in brackets
opens_spelled : (context : Context) (first : Terminal) (xs more : List Terminal) → is_mark (codes "(") first ≡ true → Begins begins_operand xs → Begins is_plain xs → IsNoType context.scope xs
    → opens context.scope first (xs ++ more) ≡ true
opens_spelled context first [] more is begins plain no_type = absurd begins
opens_spelled context first (next ∷ xs) more is begins plain no_type = opens_expression context first next (xs ++ more) is begins plain (not-true _ no_type)

bracketed_read : (inner : Level) (context : Context) (opening : Terminal) (row : List Terminal) (e : Expr) (levels : ℕ) (behind : Context) (closing : Terminal) (rest : List Terminal)
    → opens context.scope opening row ≡ true → read_cast inner context (opening ∷ row) ≡ closed inner (opening ∷ row) (read_cast inner context row)
unfolding read_cast
bracketed_read inner context opening row e levels behind closing rest is = chosen_yes (opens context.scope opening row) (closed inner (opening ∷ row) (read_cast inner context row)) (read_plain inner context (opening ∷ row)) is

closed_read : (inner : Level) (start : List Terminal) (outcome : Outcome Operand) (e : Expr) (levels : ℕ) (behind : Context) (closing : Terminal) (rest : List Terminal)
    → continued outcome expr_of (expression_from inner) ≡ Read e levels behind (closing ∷ rest) → is_mark (codes ")") closing ≡ true
    → closed inner start outcome ≡ postfixes_from inner start e levels behind rest
closed_read inner start outcome e levels behind closing rest read ends =
    continued_read outcome expr_of (expression_from inner) e levels behind (closing ∷ rest) (λ expr others last more. after_mark (codes ")") more Nothing (λ closing end. postfixes_from inner start expr others last end)) read
    ∙ chosen_yes (is_mark (codes ")") closing) (postfixes_from inner start e levels behind rest) Nothing ends

pub complete_bracketed : (before after : Context) (xs : List Terminal) (expr : Expr) (opening closing : Terminal)
    → IsMark (codes "(") opening → IsNoType before.scope xs → IsMark (codes ")") closing
    → Spells (Expression expr) before xs after → Completes (Expression expr) before xs after
    → Completes (PrimaryExpression expr) before (opening ∷ (xs ++ (closing ∷ []))) after
complete_bracketed before after xs expr opening closing is no_type ends spelled whole m rest fits =
    let here : expr_levels expr ≡ expr_levels expr = refl in
    subst (λ row. Postfixed m before expr after rest (opening ∷ row)) (sym (append_assoc xs (closing ∷ []) rest))
    (postfixes_follow m before (opening ∷ row) expr (expr_levels expr) after rest here
    (bracketed_read (level m) before opening row expr (expr_levels expr) after closing rest
    (opens_spelled before opening xs (closing ∷ rest) is (starts spelled) (first_tokens (Expression expr) before after xs spelled) no_type)
    ∙ closed_read (level m) (opening ∷ row) (read_cast (level m) before row) expr (expr_levels expr) after closing rest
    (goes_exactly goes_on_expression expr (expr_levels expr) after closing rest (expression_at m before row) (closing_no_expression closing ends) (whole (suc m) (closing ∷ rest) (omega (arith, fits)))) ends))
  where
    row : List Terminal
    row = xs ++ (closing ∷ rest)

-- a block in brackets
block_read : (inner : Level) (context : Context) (opening : Terminal) (row : List Terminal) (body : List Stmt) (levels : ℕ) (behind : Context) (closing : Terminal) (rest : List Terminal)
    → has_mark (codes "{") row ≡ true → read_block inner context row ≡ Read body levels behind (closing ∷ rest) → is_mark (codes ")") closing ≡ true
    → read_bracket inner context opening row ≡ postfixes_from inner (opening ∷ row) (numbered behind opening.place (Inner body (last_place (front_of row (closing ∷ rest))))) (1 + levels) (counted behind) rest
unfolding read_bracket
block_read inner context opening row body levels behind closing rest is read ends =
    chosen_yes (has_mark (codes "{") row) (statement_expression inner context opening row) (read_cast_to inner context opening row) is
    ∙ ap (λ o. then_read o (λ body levels behind rest.
    after_mark (codes ")") rest Nothing (λ closing others.
    postfixes_from inner (opening ∷ row) (numbered behind opening.place (Inner body (last_place (front_of row rest)))) (1 + levels) (counted behind) others))) read
    ∙ chosen_yes (is_mark (codes ")") closing) (postfixes_from inner (opening ∷ row) (numbered behind opening.place (Inner body (last_place (front_of row (closing ∷ rest))))) (1 + levels) (counted behind) rest) Nothing ends

opens_no_expression : (context : Context) (first : Terminal) (xs more : List Terminal) → Begins (is_mark (codes "{")) xs → opens context.scope first (xs ++ more) ≡ false
opens_no_expression context first [] more begins = absurd begins
opens_no_expression context first (next ∷ xs) more begins = opens_no_block context first next (xs ++ more) begins

has_brace : (xs more : List Terminal) → Begins (is_mark (codes "{")) xs → has_mark (codes "{") (xs ++ more) ≡ true
has_brace [] more begins = absurd begins
has_brace (next ∷ xs) more begins = begins

pub complete_statement_expression : (before after : Context) (xs : List Terminal) (body : List Stmt) (opening closing : Terminal)
    → IsMark (codes "(") opening → IsMark (codes ")") closing
    → Spells (CompoundStatement body) before xs after → Completes (CompoundStatement body) before xs after
    → Completes (PrimaryExpression (numbered after opening.place (Inner body (last_place xs)))) before (opening ∷ (xs ++ (closing ∷ []))) (counted after)
complete_statement_expression before after xs body opening closing is ends spelled whole m rest fits =
    subst (λ row. Postfixed m before (numbered after opening.place (Inner body (last_place xs))) (counted after) rest (opening ∷ row)) (sym (append_assoc xs (closing ∷ []) rest))
    (postfixes_follow m before (opening ∷ row) (numbered after opening.place (Inner body (last_place xs))) (1 + joined depth (map stmt_levels body)) (counted after) rest levels
    (read_as_plain (level m) before opening row operand.Bracket (opens_no_expression before opening xs (closing ∷ rest) (starts spelled)) (bracket_starts opening is)
    ∙ block_read (level m) before opening row body (joined depth (map stmt_levels body)) after closing rest (has_brace xs (closing ∷ rest) (starts spelled)) (whole m (closing ∷ rest) (omega (arith, fits, levels))) ends
    ∙ ap (λ (front : List Terminal). postfixes_from (level m) (opening ∷ row) (numbered after opening.place (Inner body (last_place front))) (1 + joined depth (map stmt_levels body)) (counted after) rest) (front_of_both xs (closing ∷ rest))))
  where
    row : List Terminal
    row = xs ++ (closing ∷ rest)

    levels : expr_levels (numbered after opening.place (Inner body (last_place xs))) ≡ 1 + joined depth (map stmt_levels body)
    levels = levels_inner after.expressions opening.place body (last_place xs)

-- `__builtin_offsetof`
abbrev offset : Level → Terminal → List Terminal → TypeName → ℕ → Terminal → List Part → ℕ → Context → List Terminal → Outcome Operand
offset inner word row to levels name path others last end =
    postfixes_from inner (word ∷ row) (numbered last word.place (OffsetOf to (NamedPart (identifier name) ∷ path))) (1 + max levels others) (counted last) end

offset_read : (inner : Level) (context : Context) (word opening : Terminal) (row : List Terminal) (to : TypeName) (levels : ℕ) (behind : Context) (comma name : Terminal) (four : List Terminal)
    (path : List Part) (others : ℕ) (last : Context) (closing : Terminal) (end : List Terminal)
    → is_mark (codes "(") opening ≡ true → read_type_name inner context row ≡ Read to levels behind (comma ∷ (name ∷ four)) → is_mark (codes ",") comma ≡ true → is_name name ≡ true
    → read_path inner (length four + 1) behind four ≡ Read path others last (closing ∷ end) → is_mark (codes ")") closing ≡ true
    → read_offset_of inner context word (opening ∷ row) ≡ offset inner word (opening ∷ row) to levels name path others last end
unfolding read_offset_of
offset_read inner context word opening row to levels behind comma name four path others last closing end is read commas named members ends =
    chosen_yes (is_mark (codes "(") opening) _ Nothing is
    ∙ ap (λ o. then_read o (λ to levels behind two.
    after_mark (codes ",") two Nothing (λ comma three.
    after_first is_name three Nothing (λ name four.
    then_read (read_path inner (length four + 1) behind four) (λ path others last five.
    after_mark (codes ")") five Nothing (λ closing end. offset inner word (opening ∷ row) to levels name path others last end)))))) read
    ∙ chosen_yes (is_mark (codes ",") comma) _ Nothing commas
    ∙ chosen_yes (is_name name) _ Nothing named
    ∙ ap (λ o. then_read o (λ path others last five. after_mark (codes ")") five Nothing (λ closing end. offset inner word (opening ∷ row) to levels name path others last end))) members
    ∙ chosen_yes (is_mark (codes ")") closing) _ Nothing ends

comma_no_type_name : (token : Terminal) → IsMark (codes ",") token → goes_on_type_name token ≡ false
comma_no_type_name token is = mark_test goes_on_type_name false (codes ",") token is (λ place. refl)

offset_row : (xs ys rest : List Terminal) (comma name closing : Terminal) → (xs ++ (comma ∷ (name ∷ (ys ++ (closing ∷ []))))) ++ rest ≡ xs ++ (comma ∷ (name ∷ (ys ++ (closing ∷ rest))))
offset_row xs ys rest comma name closing =
    append_assoc xs (comma ∷ (name ∷ (ys ++ (closing ∷ [])))) rest ∙ ap (λ (row : List Terminal). xs ++ (comma ∷ (name ∷ row))) (append_assoc ys (closing ∷ []) rest)

pub complete_offset_of_member : (before middle after : Context) (xs ys : List Terminal) (to : TypeName) (path : List Part) (word opening comma name closing : Terminal)
    → IsWord (codes "__builtin_offsetof") word → IsMark (codes "(") opening → IsMark (codes ",") comma → IsName name → IsMark (codes ")") closing
    → Completes (NameOfType to) before xs middle → Completes (MemberPath path) middle ys after
    → Completes (PrimaryExpression (numbered after word.place (OffsetOf to (NamedPart (identifier name) ∷ path)))) before (word ∷ (opening ∷ (xs ++ (comma ∷ (name ∷ (ys ++ (closing ∷ []))))))) (counted after)
complete_offset_of_member before middle after xs ys to path word opening comma name closing is opens commas named ends one other m rest fits =
    subst (λ row. Postfixed m before whole (counted after) rest (word ∷ (opening ∷ row))) (sym (offset_row xs ys rest comma name closing))
    (postfixes_follow m before (word ∷ (opening ∷ row)) whole (1 + max (type_name_levels to) (joined depth (map part_levels path))) (counted after) rest levels
    (read_as_plain (level m) before word (opening ∷ row) operand.OffsetOf (opens_not before word (opening ∷ row) (word_is_no_mark (codes "__builtin_offsetof") (codes "(") word is)) (offset_of_starts word is)
    ∙ offset_read (level m) before word opening row to (type_name_levels to) middle comma name (ys ++ (closing ∷ rest)) path (joined depth (map part_levels path)) after closing rest opens
    (one m (comma ∷ (name ∷ (ys ++ (closing ∷ rest)))) (omega (arith, fits, levels)) (ap not (comma_no_type_name comma commas))) commas named
    (other m (length (ys ++ (closing ∷ rest)) + 1) (closing ∷ rest) (omega arith) (omega (arith, fits, levels)) (ap not (closing_no_path closing ends))) ends))
  where
    whole : Expr
    whole = numbered after word.place (OffsetOf to (NamedPart (identifier name) ∷ path))

    row : List Terminal
    row = xs ++ (comma ∷ (name ∷ (ys ++ (closing ∷ rest))))

    levels : expr_levels whole ≡ 1 + max (type_name_levels to) (joined depth (map part_levels path))
    levels = levels_offset_of after.expressions word.place to (identifier name) path
