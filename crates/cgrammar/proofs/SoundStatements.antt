-- Statements and blocks are read as the grammar spells them.
use Rattle.std.proofs.Common.{◌≡◌, ℕ, ◌+◌, inl, inr, Bool, true, false, ◌&&◌, not, List, [], ◌∷◌, ◌++◌, length, refl, ap, sym, ◌∙◌, subst, arith, codes, None, Some}
use Rattle.std.specs.Prelude.{if◌then◌else◌}
use Rattle.cbase.specs.declared.place.Place.{Place}
use Rattle.cbase.specs.declared.tree.decl.Decl.{Decl}
use Rattle.cbase.specs.declared.tree.expr.Expr.{Expr}
use Rattle.cbase.specs.declared.tree.stmt.Stmt.{Stmt}
use Rattle.cbase.specs.declared.tree.stmt.StmtForm.TheVariants.{Declare, Eval, Block}
use Rattle.ctrees.specs.Levels.{expr_levels, maybe_levels, stmt_levels}
use Rattle.cgrammar.proofs.Contexts.{scopes_kept}
use Rattle.cgrammar.proofs.Fronts.{front_of_both}
use Rattle.cgrammar.proofs.Scopes.{left_entered}
use Rattle.cgrammar.proofs.SoundDeclarations.{sound_declaration}
use Rattle.cgrammar.proofs.SoundLists.{levels_of_all, sound_until_brace, no_type, no_typedef, no_declaration}
use Rattle.cgrammar.proofs.SoundSays.{spelled_as, says_statement, says_substatement, says_item, SoundLevel}
use Rattle.cgrammar.proofs.SoundSteps.{Splits, split_none, split_last, split_first, split_more, Sound, Reads, sound_nothing, made, sound_then, sound_if, sound_first, first_of, one_more, larger, larger_fits, one_more_fits}
use Rattle.cgrammar.proofs.Starting.{starts}
use Rattle.cgrammar.proofs.TreeLevels.{levels_declare, levels_empty, levels_eval, levels_block, levels_if, levels_if_else, levels_while, levels_do, levels_for, levels_break, levels_continue, levels_of_return}
use Rattle.cgrammar.proofs.Truth.{and-left, and-right}
use Rattle.cgrammar.specs.Firsts.{begins_declaration, Begins}
use Rattle.cgrammar.specs.FrontOf.{front_of}
use Rattle.cgrammar.specs.FrontReadings.{begins_with_label}
use Rattle.cgrammar.specs.Grammar.{Spells, inside, outside, OneBlock, NoMoreItems, NextDeclaration, NextStatement, BlockStatement, EmptyStatement, ExpressionStatement, OneSubstatement, IfStatement, IfElseStatement, WhileStatement, DoStatement, ForStatement, FirstDeclaration, FirstLeftOut, FirstExpression, NoExpression, SomeExpression, BreakStatement, ContinueStatement, ReturnStatement, LabeledStatement}
use Rattle.cgrammar.specs.Outcomes.{Outcome, Nothing, Stopped, Read, has_first, has_mark, after_mark}
use Rattle.cgrammar.specs.Phrases.{Context, scoped}
use Rattle.cgrammar.specs.Phrases.{Expression, Declaration, CompoundStatement, BlockItems, Statement, Substatement, FirstClause, MaybeExpression}
use Rattle.cgrammar.specs.ReadDeclarations.{leaving, read_declaration}
use Rattle.cgrammar.specs.ReadLevels.{Level, read_until_brace}
use Rattle.cgrammar.specs.ReadStarts.{statement_start}
use Rattle.cgrammar.specs.ReadStatements.{read_block, read_maybe, declared_statement, expression_statement, read_clause, untyped, substatement, read_if, read_while, read_do, read_for, read_return, statement_with, read_unlabeled, read_statement, read_item}
use Rattle.cgrammar.specs.Scope.{Names, left}
use Rattle.cgrammar.specs.Terminals.{Terminal, is_mark, IsMark, is_word, IsWord, is_name, is_typedef, IsNoType, begins_with_typedef, first_place, last_place}
use Rattle.cgrammar.specs.Trees.{statement}
use Rattle.cgrammar.specs.declared.reading.starts.StatementStart.{StatementStart}
use Rattle.cgrammar.specs.declared.reading.starts.StatementStart.TheVariants as start

pub front_is : {row front rest : List Terminal} → Splits row front rest → front_of row rest ≡ front
front_is {front} {rest} split = ap (λ (row : List Terminal). front_of row rest) split.is ∙ front_of_both front rest

first_place_is : (test : Terminal → Bool) (row front rest : List Terminal) → Splits row front rest → Begins test front → first_place row ≡ first_place front
first_place_is test row [] rest split begins = absurd begins
first_place_is test row (first ∷ others) rest split begins = ap first_place split.is

-- the names in scope behind what is a scope of its own are those before it
leaves : {A : Type 0} {says : A → Context → List Terminal → Context → List Terminal → Type 0} {levels : A → ℕ} {most count : ℕ} {row rest : List Terminal} {tree : A} (context within : Context)
    → left within.scope ≡ context.scope
    → Sound says levels most context row (Read tree count (outside context within) rest)
    → Sound says levels most context row (Read tree count (leaving within) rest)
leaves {says} {levels} {most} {count} {row} {rest} {tree} context within kept is =
    subst (λ (scope : List Names). Sound says levels most context row (Read tree count (scoped within scope) rest)) (sym kept) is

-- blocks
abbrev pub says_body : List Stmt → Context → List Terminal → Context → List Terminal → Type 0
says_body body before front behind rest = Spells (BlockItems body) before front behind × (has_mark (codes "}") rest ≡ true)

next_item : (stmt : Stmt) (others : List Stmt) (before middle behind : Context) (front fronts between : List Terminal) → says_item stmt before front middle between → Spells (BlockItems others) middle fronts behind → Spells (BlockItems (stmt ∷ others)) before (front ++ fronts) behind
next_item stmt others before middle behind front fronts between (inl (decl, same, spelled)) more =
    subst (λ (stmt : Stmt). Spells (BlockItems (stmt ∷ others)) before (front ++ fronts) behind) (sym same) (NextDeclaration spelled more)
next_item stmt others before middle behind front fronts between (inr (dangling, spelled)) more = NextStatement spelled more

pub sound_items : (inner : Level) (count : ℕ) → SoundLevel inner → Reads says_body (levels_of_all stmt_levels) inner.most (read_until_brace inner.item count)
sound_items inner count is =
    sound_until_brace says_item says_body stmt_levels inner.most inner.item count is.item
    (λ before row ends. (NoMoreItems, ends))
    (λ stmt others before middle behind front fronts between rest spelled more. (next_item stmt others before middle behind front fronts between spelled more.0, more.1))

pub sound_block : (inner : Level) → SoundLevel inner → Reads (spelled_as CompoundStatement) (levels_of_all stmt_levels) inner.most (read_block inner)
unfolding read_block
sound_block inner is context row =
    sound_first _ row _ _ (λ none. sound_nothing) (λ opening others from marked.
    sound_then (read_until_brace inner.item (length others + 1) (inside context) others) _ (sound_items inner (length others + 1) is (inside context) others) (λ body levels within rest read.
    let closing = first_of (is_mark (codes "}")) rest read.spelled.1 in
    let kept : left within.scope ≡ context.scope = scopes_kept (BlockItems body) (inside context) within read.front read.spelled.0 ∙ left_entered context.scope in
    leaves context within kept
    (made (split_first from (split_more read.whole (split_last closing.1))) (OneBlock opening closing.0 marked read.spelled.0 closing.2) read.same read.fits)))

pub sound_maybe : (inner : Level) (ends : Terminal → Bool) → SoundLevel inner → Reads (spelled_as MaybeExpression) maybe_levels inner.most (read_maybe inner ends)
unfolding read_maybe
sound_maybe inner ends is context row =
    sound_if (has_first ends row) _ _
    (λ none. made (split_none row) NoExpression refl (omega arith))
    (λ some. sound_then (inner.expression context row) _ (is.expression context row) (λ expr levels behind rest read. made read.whole (SomeExpression read.spelled) read.same read.fits))

-- a declaration, and an expression with its `;`, as a statement or as a clause
sound_declared : (inner : Level) (tells : Stmt → Context → List Terminal → Context → List Terminal → Type 0) → SoundLevel inner
    → ((decl : Decl) (before behind : Context) (front rest : List Terminal) → Spells (Declaration decl) before front behind → tells (statement (first_place front) (last_place front) (Declare decl)) before front behind rest)
    → Reads tells stmt_levels (inner.most + 1) (declared_statement inner)
sound_declared inner tells is make context row =
    sound_then (read_declaration inner context row) _ (sound_declaration inner is context row) (λ decl levels behind rest read.
    subst (λ (front : List Terminal). Sound tells stmt_levels (inner.most + 1) context row (Read (statement (first_place front) (last_place front) (Declare decl)) (1 + levels) behind rest)) (sym (front_is read.whole))
    (made read.whole (make decl context behind read.front rest read.spelled) (one_more read.same ∙ sym (levels_declare (first_place read.front) (last_place read.front) decl)) (one_more_fits read.fits)))

sound_expression_statement : (inner : Level) (tells : Stmt → Context → List Terminal → Context → List Terminal → Type 0) (context : Context) (row : List Terminal) → SoundLevel inner
    → begins_with_typedef context.scope row ≡ false
    → ((expr : Expr) (semicolon : Terminal) (behind : Context) (front rest : List Terminal) → IsNoType context.scope front → Spells (Expression expr) context front behind → IsMark (codes ";") semicolon
    → tells (statement (first_place front) semicolon.place (Eval (Some expr))) context (front ++ (semicolon ∷ [])) behind rest)
    → Sound tells stmt_levels (inner.most + 1) context row (expression_statement inner context row)
sound_expression_statement inner tells context row is untyped_row make =
    sound_then (inner.expression context row) _ (is.expression context row) (λ expr levels behind rest read.
    sound_first _ rest _ _ (λ none. sound_nothing) (λ semicolon others from marked.
    subst (λ (place : Place). Sound tells stmt_levels (inner.most + 1) context row (Read (statement place semicolon.place (Eval (Some expr))) (1 + levels) behind others)) (sym (first_place_is _ row read.front rest read.whole (starts read.spelled)))
    (made (split_more read.whole (split_last from)) (make expr semicolon behind read.front others (no_type context.scope row read.front rest read.whole untyped_row) read.spelled marked)
    (one_more read.same ∙ sym (levels_eval (first_place read.front) semicolon.place expr)) (one_more_fits read.fits))))

sound_expression_or_none : (inner : Level) (tells : Stmt → Context → List Terminal → Context → List Terminal → Type 0) (context : Context) (row : List Terminal) → SoundLevel inner
    → begins_with_typedef context.scope row ≡ false
    → ((expr : Expr) (semicolon : Terminal) (behind : Context) (front rest : List Terminal) → IsNoType context.scope front → Spells (Expression expr) context front behind → IsMark (codes ";") semicolon
    → tells (statement (first_place front) semicolon.place (Eval (Some expr))) context (front ++ (semicolon ∷ [])) behind rest)
    → ((semicolon : Terminal) (rest : List Terminal) → IsMark (codes ";") semicolon → tells (statement semicolon.place semicolon.place (Eval None)) context (semicolon ∷ []) context rest)
    → Sound tells stmt_levels (inner.most + 1) context row
    (after_mark (codes ";") row (expression_statement inner context row) (λ semicolon others. Read (statement semicolon.place semicolon.place (Eval None)) 1 context others))
sound_expression_or_none inner tells context row is untyped_row make none_there =
    sound_first _ row _ _ (λ some. sound_expression_statement inner tells context row is untyped_row make)
    (λ semicolon others from marked. made (split_last from) (none_there semicolon others marked) (sym (levels_empty semicolon.place semicolon.place)) (omega arith))

pub sound_clause : (inner : Level) → SoundLevel inner → Reads (spelled_as FirstClause) stmt_levels (inner.most + 1) (read_clause inner)
unfolding read_clause
sound_clause inner is context row =
    sound_if (has_first (begins_declaration context.scope) row) _ _
    (λ declares. sound_declared inner (spelled_as FirstClause) is (λ decl before behind front rest spelled. FirstDeclaration spelled) context row)
    (λ other. sound_expression_or_none inner (spelled_as FirstClause) context row is (no_typedef context.scope row (no_declaration context.scope row other))
    (λ expr semicolon behind front rest no_name spelled marked. FirstExpression semicolon no_name spelled marked)
    (λ semicolon rest marked. FirstLeftOut semicolon marked))

-- an expression or nothing before a `;`, as a statement
sound_plain_clause : (inner : Level) (context : Context) (row : List Terminal) → SoundLevel inner → has_first (begins_declaration context.scope) row ≡ false
    → Sound says_statement stmt_levels (inner.most + 1) context row (read_clause inner context row)
unfolding read_clause
sound_plain_clause inner context row is other =
    sound_if (has_first (begins_declaration context.scope) row) _ _
    (λ declares. let wrong : true ≡ false = sym declares ∙ other in cc wrong)
    (λ again. sound_expression_or_none inner says_statement context row is (no_typedef context.scope row (no_declaration context.scope row other))
    (λ expr semicolon behind front rest no_name spelled marked. (false, ExpressionStatement semicolon no_name spelled marked, refl))
    (λ semicolon rest marked. (false, EmptyStatement semicolon marked, refl)))

-- an expression that begins with no typedef's name
abbrev says_untyped : Expr → Context → List Terminal → Context → List Terminal → Type 0
says_untyped expr before front behind rest = IsNoType before.scope front × Spells (Expression expr) before front behind

sound_untyped : (inner : Level) → SoundLevel inner → Reads says_untyped expr_levels inner.most (untyped inner)
sound_untyped inner is context row =
    sound_if (begins_with_typedef context.scope row) _ _ (λ typed. sound_nothing) (λ plain. with_no_type (inner.expression context row) plain (is.expression context row))
  where
    with_no_type : (outcome : Outcome Expr) → begins_with_typedef context.scope row ≡ false → Sound (spelled_as Expression) expr_levels inner.most context row outcome → Sound says_untyped expr_levels inner.most context row outcome
    with_no_type Nothing plain is = sound_nothing
    with_no_type (Stopped tree expressions rest) plain is =
        let known = is.is in
        record { is = record { behind = known.behind; counts = known.counts; front = known.front; whole = known.whole; spelled = (no_type context.scope row known.front rest known.whole plain, known.spelled); fits = known.fits } }
    with_no_type (Read tree count behind rest) plain is =
        let known = is.is in made known.whole (no_type context.scope row known.front rest known.whole plain, known.spelled) known.same known.fits

no_dangling : (dangling : Bool) (test : Terminal → Bool) (row others : List Terminal) (first : Terminal) → row ≡ first ∷ others → test first ≡ true → (dangling && has_first test row) ≡ false → dangling ≡ false
no_dangling false test row others first from holds fails = refl
no_dangling true test row others first from holds fails = sym (sym (ap (has_first test) (sym from)) ∙ holds) ∙ fails

sound_substatement : (inner : Level) → SoundLevel inner → Reads says_substatement stmt_levels inner.most (substatement inner)
sound_substatement inner is context row =
    sound_then (inner.statement (inside context) row) _ (is.statement (inside context) row) (λ stmt levels within rest read.
    leaves context within (scopes_kept (Statement read.spelled.0 stmt) (inside context) within read.front read.spelled.1 ∙ left_entered context.scope)
    (made read.whole (read.spelled.0, OneSubstatement read.spelled.1, read.spelled.2) read.same read.fits))

sound_if_statement : (inner : Level) (context : Context) (word : Terminal) (row : List Terminal) → SoundLevel inner → IsWord (codes "if") word
    → Sound says_statement stmt_levels (inner.most + 1) context (word ∷ row) (read_if inner word.place context row)
unfolding read_if
sound_if_statement inner context word row is worded =
    sound_first _ row _ _ (λ none. sound_nothing) (λ opening others from marked.
    sound_then (untyped inner (inside context) others) _ (sound_untyped inner is (inside context) others) (λ test tests behind rest read.
    sound_first _ rest _ _ (λ none. sound_nothing) (λ closing more next closes.
    sound_then (substatement inner behind more) _ (sound_substatement inner is behind more) (λ one ones last end read_one.
    let kept : left last.scope ≡ context.scope =
    ap left (scopes_kept (Substatement read_one.spelled.0 one) behind last read_one.front read_one.spelled.1)
    ∙ (scopes_kept (Expression test) (inside context) behind read.front read.spelled.1
    ∙ left_entered context.scope) in
    sound_first _ end _ _
    (λ alone. leaves context last kept (made (split_first refl (split_first from (split_more read.whole (split_first next read_one.whole))))
    (true, IfStatement word opening closing worded marked read.spelled.0 read.spelled.1 closes read_one.spelled.1, alone)
    (one_more (larger read.same read_one.same) ∙ sym (levels_if word.place one.after test closing.place one))
    (one_more_fits (larger_fits read.fits read_one.fits))))
    (λ otherwise further then_else elses.
    let whole_one = subst (λ (dangling : Bool). Spells (Substatement dangling one) behind read_one.front last) (no_dangling read_one.spelled.0 (is_word (codes "else")) end further otherwise then_else elses read_one.spelled.2) read_one.spelled.1 in
    sound_then (substatement inner last further) _ (sound_substatement inner is last further) (λ other twos final over read_other.
    leaves context final (ap left (scopes_kept (Substatement read_other.spelled.0 other) last final read_other.front read_other.spelled.1) ∙ kept)
    (made (split_first refl (split_first from (split_more read.whole (split_first next (split_more read_one.whole (split_first then_else read_other.whole))))))
    (read_other.spelled.0, IfElseStatement word opening closing otherwise worded marked read.spelled.0 read.spelled.1 closes whole_one elses read_other.spelled.1, read_other.spelled.2)
    (one_more (larger read.same (larger read_one.same read_other.same)) ∙ sym (levels_if_else word.place other.after test closing.place one other))
    (one_more_fits (larger_fits read.fits (larger_fits read_one.fits read_other.fits))))))))))

sound_while_statement : (inner : Level) (context : Context) (word : Terminal) (row : List Terminal) → SoundLevel inner → IsWord (codes "while") word
    → Sound says_statement stmt_levels (inner.most + 1) context (word ∷ row) (read_while inner word.place context row)
unfolding read_while
sound_while_statement inner context word row is worded =
    sound_first _ row _ _ (λ none. sound_nothing) (λ opening others from marked.
    sound_then (untyped inner (inside context) others) _ (sound_untyped inner is (inside context) others) (λ test tests behind rest read.
    sound_first _ rest _ _ (λ none. sound_nothing) (λ closing more next closes.
    sound_then (substatement inner behind more) _ (sound_substatement inner is behind more) (λ body levels last end read_body.
    leaves context last
    (ap left (scopes_kept (Substatement read_body.spelled.0 body) behind last read_body.front read_body.spelled.1)
    ∙ (scopes_kept (Expression test) (inside context) behind read.front read.spelled.1
    ∙ left_entered context.scope))
    (made (split_first refl (split_first from (split_more read.whole (split_first next read_body.whole))))
    (read_body.spelled.0, WhileStatement word opening closing worded marked read.spelled.0 read.spelled.1 closes read_body.spelled.1, read_body.spelled.2)
    (one_more (larger read.same read_body.same) ∙ sym (levels_while word.place body.after test closing.place body))
    (one_more_fits (larger_fits read.fits read_body.fits)))))))

sound_do_statement : (inner : Level) (context : Context) (word : Terminal) (row : List Terminal) → SoundLevel inner → IsWord (codes "do") word
    → Sound says_statement stmt_levels (inner.most + 1) context (word ∷ row) (read_do inner word.place context row)
unfolding read_do
sound_do_statement inner context word row is worded =
    sound_then (substatement inner (inside context) row) _ (sound_substatement inner is (inside context) row) (λ body levels behind rest read_body.
    sound_first _ rest _ _ (λ none. sound_nothing) (λ while others from whiles.
    sound_first _ others _ _ (λ none. sound_nothing) (λ opening more next marked.
    sound_then (untyped inner behind more) _ (sound_untyped inner is behind more) (λ test tests last end read.
    sound_first _ end _ _ (λ none. sound_nothing) (λ closing ends third closes.
    sound_first _ ends _ _ (λ none. sound_nothing) (λ semicolon final fourth ended.
    leaves context last
    (scopes_kept (Expression test) behind last read.front read.spelled.1
    ∙ (ap left (scopes_kept (Substatement read_body.spelled.0 body) (inside context) behind read_body.front read_body.spelled.1)
    ∙ left_entered context.scope))
    (made (split_first refl (split_more read_body.whole (split_first from (split_first next (split_more read.whole (split_first third (split_last fourth)))))))
    (false, DoStatement word while opening closing semicolon worded read_body.spelled.1 whiles marked read.spelled.0 read.spelled.1 closes ended, refl)
    (one_more (larger read_body.same read.same) ∙ sym (levels_do word.place semicolon.place body test closing.place))
    (one_more_fits (larger_fits read_body.fits read.fits)))))))))

sound_for_statement : (inner : Level) (context : Context) (word : Terminal) (row : List Terminal) → SoundLevel inner → IsWord (codes "for") word
    → Sound says_statement stmt_levels (inner.most + 1) context (word ∷ row) (read_for inner word.place context row)
unfolding read_for
sound_for_statement inner context word row is worded =
    sound_first _ row _ _ (λ none. sound_nothing) (λ opening others from marked.
    sound_then (inner.clause (inside context) others) _ (is.clause (inside context) others) (λ first firsts one rest read_first.
    sound_then (read_maybe inner (is_mark (codes ";")) one rest) _ (sound_maybe inner (is_mark (codes ";")) is one rest) (λ test tests two more read_test.
    sound_first _ more _ _ (λ none. sound_nothing) (λ semicolon end second ended.
    sound_then (read_maybe inner (is_mark (codes ")")) two end) _ (sound_maybe inner (is_mark (codes ")")) is two end) (λ next nexts three ends read_next.
    sound_first _ ends _ _ (λ none. sound_nothing) (λ closing final third closes.
    sound_then (substatement inner three final) _ (sound_substatement inner is three final) (λ body levels within over read_body.
    let kept : left within.scope ≡ context.scope =
    ap left (scopes_kept (Substatement read_body.spelled.0 body) three within read_body.front read_body.spelled.1)
    ∙ (scopes_kept (MaybeExpression next) two three read_next.front read_next.spelled
    ∙ (scopes_kept (MaybeExpression test) one two read_test.front read_test.spelled
    ∙ (scopes_kept (FirstClause first) (inside context) one read_first.front read_first.spelled
    ∙ left_entered context.scope))) in
    leaves context within kept
    (made (split_first refl (split_first from (split_more read_first.whole (split_more read_test.whole (split_first second (split_more read_next.whole (split_first third read_body.whole)))))))
    (read_body.spelled.0, ForStatement word opening semicolon closing worded marked read_first.spelled read_test.spelled ended read_next.spelled closes read_body.spelled.1, read_body.spelled.2)
    (one_more (larger (larger read_first.same read_test.same) (larger read_next.same read_body.same)) ∙ sym (levels_for word.place body.after first test semicolon.place next closing.place body))
    (one_more_fits (larger_fits (larger_fits read_first.fits read_test.fits) (larger_fits read_next.fits read_body.fits)))))))))))

sound_return_statement : (inner : Level) (context : Context) (word : Terminal) (row : List Terminal) → SoundLevel inner → IsWord (codes "return") word
    → Sound says_statement stmt_levels (inner.most + 1) context (word ∷ row) (read_return inner word.place context row)
unfolding read_return
sound_return_statement inner context word row is worded =
    sound_then (read_maybe inner (is_mark (codes ";")) context row) _ (sound_maybe inner (is_mark (codes ";")) is context row) (λ value levels behind rest read.
    sound_first _ rest _ _ (λ none. sound_nothing) (λ semicolon others from marked.
    made (split_first refl (split_more read.whole (split_last from))) (false, ReturnStatement word semicolon worded read.spelled marked, refl)
    (one_more read.same ∙ sym (levels_of_return word.place semicolon.place value)) (one_more_fits read.fits)))

sound_block_statement : (inner : Level) (context : Context) (first : Terminal) (row : List Terminal) → SoundLevel inner
    → Sound says_statement stmt_levels (inner.most + 1) context (first ∷ row) (statement_with inner context first row start.Block)
sound_block_statement inner context first row is =
    sound_then (read_block inner context (first ∷ row)) _ (sound_block inner is context (first ∷ row)) (λ body levels behind rest read.
    let first_is = first_place_is _ (first ∷ row) read.front rest read.whole (starts read.spelled) in
    subst (λ (place : Place). Sound says_statement stmt_levels (inner.most + 1) context (first ∷ row) (Read (statement place (last_place (front_of (first ∷ row) rest)) (Block body)) (1 + levels) behind rest)) (sym first_is)
    (subst (λ (front : List Terminal). Sound says_statement stmt_levels (inner.most + 1) context (first ∷ row) (Read (statement (first_place read.front) (last_place front) (Block body)) (1 + levels) behind rest)) (sym (front_is read.whole))
    (made read.whole (false, BlockStatement read.spelled, refl) (one_more read.same ∙ sym (levels_block (first_place read.front) (last_place read.front) body)) (one_more_fits read.fits))))

-- with what a statement begins
abbrev StatementBegins : Terminal → StatementStart → Type 0
StatementBegins token start.Block = Unit {0}
StatementBegins token start.If = IsWord (codes "if") token
StatementBegins token start.While = IsWord (codes "while") token
StatementBegins token start.Do = IsWord (codes "do") token
StatementBegins token start.For = IsWord (codes "for") token
StatementBegins token start.Break = IsWord (codes "break") token
StatementBegins token start.Continue = IsWord (codes "continue") token
StatementBegins token start.Return = IsWord (codes "return") token
StatementBegins token start.Other = Unit {0}

choose_statement : (P : StatementStart → Type 0) (test : Bool) (first second : StatementStart) → (test ≡ true → P first) → P second → P (if test then first else second)
choose_statement P true first second holds fails = holds refl
choose_statement P false first second holds fails = fails

statement_begins : (token : Terminal) → StatementBegins token (statement_start token)
unfolding statement_start
statement_begins token =
    choose_statement (StatementBegins token) (is_mark (codes "{") token) _ _ (λ is. tt)
    (choose_statement (StatementBegins token) (is_word (codes "if") token) _ _ (λ is. is)
    (choose_statement (StatementBegins token) (is_word (codes "while") token) _ _ (λ is. is)
    (choose_statement (StatementBegins token) (is_word (codes "do") token) _ _ (λ is. is)
    (choose_statement (StatementBegins token) (is_word (codes "for") token) _ _ (λ is. is)
    (choose_statement (StatementBegins token) (is_word (codes "break") token) _ _ (λ is. is)
    (choose_statement (StatementBegins token) (is_word (codes "continue") token) _ _ (λ is. is)
    (choose_statement (StatementBegins token) (is_word (codes "return") token) _ _ (λ is. is) tt)))))))

sound_statement_with : (inner : Level) (context : Context) (first : Terminal) (row : List Terminal) (begins : StatementStart) → SoundLevel inner → StatementBegins first begins
    → Sound says_statement stmt_levels (inner.most + 1) context (first ∷ row) (statement_with inner context first row begins)
sound_statement_with inner context first row start.Block is begins = sound_block_statement inner context first row is
sound_statement_with inner context first row start.If is begins = sound_if_statement inner context first row is begins
sound_statement_with inner context first row start.While is begins = sound_while_statement inner context first row is begins
sound_statement_with inner context first row start.Do is begins = sound_do_statement inner context first row is begins
sound_statement_with inner context first row start.For is begins = sound_for_statement inner context first row is begins
sound_statement_with inner context first row start.Break is begins =
    sound_first _ row _ _ (λ none. sound_nothing) (λ semicolon others from marked.
    made (split_first refl (split_last from)) (false, BreakStatement first semicolon begins marked, refl) (sym (levels_break first.place semicolon.place)) (omega arith))
sound_statement_with inner context first row start.Continue is begins =
    sound_first _ row _ _ (λ none. sound_nothing) (λ semicolon others from marked.
    made (split_first refl (split_last from)) (false, ContinueStatement first semicolon begins marked, refl) (sym (levels_continue first.place semicolon.place)) (omega arith))
sound_statement_with inner context first row start.Return is begins = sound_return_statement inner context first row is begins
sound_statement_with inner context first row start.Other is begins =
    sound_if (begins_declaration context.scope first) _ _ (λ declares. sound_nothing) (λ plain. sound_plain_clause inner context (first ∷ row) is plain)

sound_unlabeled : (inner : Level) → SoundLevel inner → Reads says_statement stmt_levels (inner.most + 1) (read_unlabeled inner)
unfolding read_unlabeled
sound_unlabeled inner is context [] = sound_nothing
sound_unlabeled inner is context (first ∷ row) = sound_statement_with inner context first row (statement_start first) is (statement_begins first)

sound_labeled : (most : ℕ) (context : Context) (label colon : Terminal) (row : List Terminal) (outcome : Outcome Stmt) → begins_with_label context.scope (label ∷ (colon ∷ row)) ≡ true
    → Sound says_statement stmt_levels most context row outcome → Sound says_statement stmt_levels most context (label ∷ (colon ∷ row)) outcome
sound_labeled most context label colon row outcome labeled is = step outcome is
  where
    further : (not (is_typedef context.scope label) && is_mark (codes ":") colon) ≡ true
    further = and-right (is_name label) (not (is_typedef context.scope label) && is_mark (codes ":") colon) labeled

    spells : (stmt : Stmt) (front rest : List Terminal) (behind : Context) → says_statement stmt context front behind rest → says_statement stmt context (label ∷ (colon ∷ front)) behind rest
    spells stmt front rest behind (dangling, spelled, ends) = (
      dangling,
      LabeledStatement label colon (and-left (is_name label) (not (is_typedef context.scope label) && is_mark (codes ":") colon) labeled)
          (and-left (not (is_typedef context.scope label)) (is_mark (codes ":") colon) further) (and-right (not (is_typedef context.scope label)) (is_mark (codes ":") colon) further) spelled,
      ends,
    )

    step : (outcome : Outcome Stmt) → Sound says_statement stmt_levels most context row outcome → Sound says_statement stmt_levels most context (label ∷ (colon ∷ row)) outcome
    step Nothing known = sound_nothing
    step (Stopped tree expressions rest) known =
        let read = known.is in
        record { is = record { behind = read.behind; counts = read.counts; front = label ∷ (colon ∷ read.front); whole = split_first refl (split_first refl read.whole); spelled = spells tree read.front [] read.behind read.spelled; fits = read.fits } }
    step (Read tree count behind rest) known =
        let read = known.is in
        made (split_first refl (split_first refl read.whole)) (spells tree read.front rest behind read.spelled) read.same read.fits

pub sound_statement : (inner : Level) → SoundLevel inner → Reads says_statement stmt_levels (inner.most + 1) (read_statement inner)
unfolding read_statement
sound_statement inner is context [] = sound_nothing
sound_statement inner is context (first ∷ []) = sound_unlabeled inner is context (first ∷ [])
sound_statement inner is context (first ∷ (second ∷ row)) =
    sound_if (begins_with_label context.scope (first ∷ (second ∷ row))) _ _
    (λ labeled. sound_labeled (inner.most + 1) context first second row (read_statement inner context row) labeled (sound_statement inner is context row))
    (λ plain. sound_unlabeled inner is context (first ∷ (second ∷ row)))

-- a statement as what stands in a block
sound_as_item : (most : ℕ) (context : Context) (row : List Terminal) (outcome : Outcome Stmt) → Sound says_statement stmt_levels most context row outcome → Sound says_item stmt_levels most context row outcome
sound_as_item most context row Nothing is = sound_nothing
sound_as_item most context row (Stopped tree expressions rest) is =
    let read = is.is in
    record { is = record { behind = read.behind; counts = read.counts; front = read.front; whole = read.whole; spelled = inr (read.spelled.0, read.spelled.1); fits = read.fits } }
sound_as_item most context row (Read tree count behind rest) is =
    let read = is.is in made read.whole (inr (read.spelled.0, read.spelled.1)) read.same read.fits

sound_declaration_item : (inner : Level) (context : Context) (row : List Terminal) → SoundLevel inner → has_first (begins_declaration context.scope) row ≡ true
    → Sound says_item stmt_levels (inner.most + 1) context row (read_clause inner context row)
unfolding read_clause
sound_declaration_item inner context row is declares =
    sound_if (has_first (begins_declaration context.scope) row) _ _
    (λ again. sound_declared inner says_item is (λ decl before behind front rest spelled. inl (decl, refl, spelled)) context row)
    (λ other. let wrong : true ≡ false = sym declares ∙ other in cc wrong)

pub sound_item : (inner : Level) → SoundLevel inner → Reads says_item stmt_levels (inner.most + 1) (read_item inner)
unfolding read_item
sound_item inner is context row =
    sound_if (has_first (begins_declaration context.scope) row) _ _
    (λ declares. sound_declaration_item inner context row is declares)
    (λ plain. sound_as_item (inner.most + 1) context row (read_statement inner context row) (sound_statement inner is context row))
