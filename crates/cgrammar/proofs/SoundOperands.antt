-- Operands are read as the grammar spells them.
use Rattle.std.proofs.Common.{◌≡◌, ℕ, zero, suc, ◌+◌, ◌≤◌, Bool, true, false, ◌&&◌, not, List, [], ◌∷◌, length, refl, ap, sym, ◌∙◌, subst, arith, codes, Option, None, Some, max, nat_le}
use Rattle.std.specs.Prelude.{if◌then◌else◌}
use Rattle.cbase.specs.declared.place.Place.{Place}
use Rattle.cbase.specs.declared.tree.expr.Expr.{Expr}
use Rattle.cbase.specs.declared.tree.expr.ExprForm.{ExprForm}
use Rattle.cbase.specs.declared.tree.expr.ExprForm.TheVariants.{Name, Constant, Unary, Count, SizeOf, OffsetOf, Index, Member, Call, Inner, AssertFail}
use Rattle.cbase.specs.declared.tree.expr.Part.TheVariants.{Member as NamedPart, At}
use Rattle.cbase.specs.declared.tree.operators.UnaryOp.{UnaryOp}
use Rattle.ctokens.specs.declared.token.TokenKind.{TokenKind}
use Rattle.ctokens.specs.declared.token.TokenKind.TheVariants.{Word, Number, Letter, Quoted, Mark}
use Rattle.ctrees.specs.Levels.{expr_levels, part_levels}
use Rattle.cgrammar.proofs.Fronts.{front_of_both}
use Rattle.cgrammar.proofs.Integers.{integer_exact}
use Rattle.cgrammar.proofs.Reached.{operand_levels}
use Rattle.cgrammar.proofs.SoundBrackets.{Closes, brackets_close}
use Rattle.cgrammar.proofs.SoundLists.{levels_of_all, sound_list, no_type, no_typedef}
use Rattle.cgrammar.proofs.SoundOperators.{operand_cast, operand_unary, fits_tree, le_of, sound_expression_from}
use Rattle.cgrammar.proofs.SoundSays.{spelled_as, says_operand, SoundLevel}
use Rattle.cgrammar.proofs.SoundStatements.{front_is, sound_block}
use Rattle.cgrammar.proofs.SoundSteps.{split_none, split_last, split_first, split_more, Got, Sound, Reads, sound_nothing, sound_held, got, made, held, sound_then, sound_right, sound_else, sound_if, sound_first, sound_prepended, first_of, one_more, larger, larger_fits, one_more_fits}
use Rattle.cgrammar.proofs.SoundTypes.{sound_type_name}
use Rattle.cgrammar.proofs.TreeLevels.{levels_name, levels_constant, levels_assert_fail, levels_unary, levels_count, levels_cast, levels_size_of, levels_size_of_type, levels_offset_of, levels_index, levels_member, levels_call, levels_call_of_nothing, levels_inner, levels_named_part, levels_at}
use Rattle.cgrammar.proofs.Truth.{and-left, and-right}
use Rattle.cgrammar.specs.Constants.{IsConstant, IsOfKind}
use Rattle.cgrammar.specs.Firsts.{begins_type}
use Rattle.cgrammar.specs.FrontOf.{front_of}
use Rattle.cgrammar.specs.Grammar.{Spells, CastOperator, OnePostfix, CountBefore, UnaryOperator, SizeOfExpression, SizeOfTypeName, OnePrimary, IndexOperator, CallOfNothing, CallOperator, MemberOperator, CountBehind, OneArgument, MoreArguments, OneName, OneConstant, Bracketed, StatementExpression, OffsetOfMember, NoMoreMembers, PathToMember, PathToItem, FailedAssertion}
use Rattle.cgrammar.specs.Operators.{mark_row, unary_rows, count_rows, member_rows, IsUnary, IsCount, IsMember}
use Rattle.cgrammar.specs.Outcomes.{Outcome, Nothing, Stopped, Read, Reader, has_first, has_mark, behind_first}
use Rattle.cgrammar.specs.Phrases.{Context, counted, numbered}
use Rattle.cgrammar.specs.Phrases.{Assignment, CastExpression, UnaryExpression, PostfixExpression, PrimaryExpression, Arguments, MemberPath}
use Rattle.cgrammar.specs.ReadLevels.{Level, read_list}
use Rattle.cgrammar.specs.ReadOperands.{unary_operand, prefixed, unary_alone, index_behind, call_behind, member_behind, postfix_with, goes_on, read_postfixes, postfixes_from, read_path, behind_matched, statement_expression, read_cast_to, read_bracket, begins_type_in_brackets, read_size_of, read_offset_of, failed_assertion, read_assert_fail, plain_with, read_plain, opens, closed, read_cast}
use Rattle.cgrammar.specs.ReadOperators.{expression_of, expression_from}
use Rattle.cgrammar.specs.ReadStarts.{is_constant, counting_start, unary_start, operand_start, count_start, member_start, postfix_start}
use Rattle.cgrammar.specs.ReadStatements.{read_block}
use Rattle.cgrammar.specs.ReadTypes.{read_type_name, never}
use Rattle.cgrammar.specs.Scope.{Names}
use Rattle.cgrammar.specs.Terminals.{Terminal, is_mark, IsMark, is_word, IsWord, is_name, IsName, begins_with_typedef, first_word_place, last_place}
use Rattle.cgrammar.specs.Trees.{identifier}
use Rattle.cgrammar.specs.declared.reading.operand.Operand.{Operand}
use Rattle.cgrammar.specs.declared.reading.starts.OperandStart.{OperandStart}
use Rattle.cgrammar.specs.declared.reading.starts.OperandStart.TheVariants as start
use Rattle.cgrammar.specs.declared.reading.starts.PostfixStart.{PostfixStart}
use Rattle.cgrammar.specs.declared.reading.starts.PostfixStart.TheVariants as postfix

-- what is known of an operand with the operators behind it that are read
abbrev pub PostfixGot : ℕ → Context → List Terminal → Expr → ℕ → Context → List Terminal → Type 0
PostfixGot most before whole base levels context row = Got (spelled_as PostfixExpression) expr_levels most before whole base levels context row

abbrev pub OperandSound : ℕ → Context → List Terminal → Outcome Operand → Type 0
OperandSound most before whole outcome = Sound says_operand operand_levels most before whole outcome

stopped_there : (most : ℕ) (before : Context) (whole : List Terminal) (base : Expr) (levels : ℕ) (context : Context) (row : List Terminal)
    → PostfixGot most before whole base levels context row → OperandSound most before whole (Stopped (unary_operand base) context.expressions row)
stopped_there most before whole base levels context row known = held context known.whole (OnePostfix known.spelled) (fits_tree known.same known.fits)

sound_index : (go : Expr → ℕ → Reader Operand) (inner : Level) (base : Expr) (levels : ℕ) (before context : Context) (mark : Terminal) (row whole : List Terminal)
    → SoundLevel inner → IsMark (codes "[") mark → levels ≤ inner.most
    → PostfixGot (inner.most + 1) before whole base levels context (mark ∷ row)
    → ((next : Expr) (others : ℕ) (behind : Context) (rest : List Terminal) → PostfixGot (inner.most + 1) before whole next others behind rest → OperandSound (inner.most + 1) before whole (go next others behind rest))
    → OperandSound (inner.most + 1) before whole (index_behind go inner base levels context mark row)
sound_index go inner base levels before context mark row whole is marked inside known next =
    let stops = stopped_there (inner.most + 1) before whole base levels context (mark ∷ row) known in
    sound_else (inner.expression context row) _ _ (is.expression context row) stops (λ index others behind rest read.
    sound_first _ rest _ _ (λ none. stops) (λ closing more from closes.
    next (numbered behind mark.place (Index base index)) (1 + max levels others) (counted behind) more
    (got (split_more known.whole (split_first refl (split_more read.whole (split_last from)))) (IndexOperator mark closing known.spelled marked read.spelled closes)
    (one_more (larger known.same read.same) ∙ sym (levels_index behind.expressions mark.place base index)) (one_more_fits (larger_fits inside read.fits)))))

sound_arguments : (inner : Level) (count : ℕ) → SoundLevel inner → Reads (spelled_as Arguments) (levels_of_all expr_levels) inner.most (read_list never inner.assignment count)
sound_arguments inner count is =
    sound_list (spelled_as Assignment) (spelled_as Arguments) expr_levels inner.most never inner.assignment count is.assignment
    (λ expr before behind front rest spelled. OneArgument spelled)
    (λ expr exprs comma before middle behind front others between rest spelled marked more. MoreArguments comma spelled marked more)

sound_call : (go : Expr → ℕ → Reader Operand) (inner : Level) (base : Expr) (levels : ℕ) (before context : Context) (mark : Terminal) (row whole : List Terminal)
    → SoundLevel inner → IsMark (codes "(") mark → levels ≤ inner.most
    → (known : PostfixGot (inner.most + 1) before whole base levels context (mark ∷ row))
    → ((next : Expr) (others : ℕ) (behind : Context) (rest : List Terminal) → PostfixGot (inner.most + 1) before whole next others behind rest → OperandSound (inner.most + 1) before whole (go next others behind rest))
    → OperandSound (inner.most + 1) before whole (call_behind go inner (first_word_place known.front) base levels context mark row)
sound_call go inner base levels before context mark row whole is marked inside known next =
    let stops = stopped_there (inner.most + 1) before whole base levels context (mark ∷ row) known in
    sound_first _ row _ _
    (λ some. sound_if (begins_with_typedef context.scope row) _ _ (λ typed. stops)
    (λ plain. sound_else (read_list never inner.assignment (length row + 1) context row) _ _ (sound_arguments inner (length row + 1) is context row) stops (λ arguments others behind rest read.
    sound_first _ rest _ _ (λ none. stops) (λ closing more from closes.
    next (numbered behind (first_word_place known.front) (Call base arguments)) (1 + max levels others) (counted behind) more
    (got (split_more known.whole (split_first refl (split_more read.whole (split_last from))))
    (CallOperator mark closing known.spelled marked (no_type context.scope row read.front rest read.whole plain) read.spelled closes)
    (one_more (larger known.same read.same) ∙ sym (levels_call behind.expressions (first_word_place known.front) base arguments)) (one_more_fits (larger_fits inside read.fits)))))))
    (λ closing more from closes. next (numbered context (first_word_place known.front) (Call base [])) (1 + levels) (counted context) more
    (got (split_more known.whole (split_first refl (split_last from))) (CallOfNothing mark closing known.spelled marked closes)
    (one_more known.same ∙ sym (levels_call_of_nothing context.expressions (first_word_place known.front) base)) (one_more_fits inside)))

sound_member : (go : Expr → ℕ → Reader Operand) (inner : Level) (through : Bool) (base : Expr) (levels : ℕ) (before context : Context) (mark : Terminal) (row whole : List Terminal)
    → IsMember through mark → levels ≤ inner.most
    → PostfixGot (inner.most + 1) before whole base levels context (mark ∷ row)
    → ((next : Expr) (others : ℕ) (behind : Context) (rest : List Terminal) → PostfixGot (inner.most + 1) before whole next others behind rest → OperandSound (inner.most + 1) before whole (go next others behind rest))
    → OperandSound (inner.most + 1) before whole (member_behind go through base levels context mark row)
sound_member go inner through base levels before context mark row whole marked inside known next =
    sound_first _ row _ _ (λ none. stopped_there (inner.most + 1) before whole base levels context (mark ∷ row) known) (λ name more from named.
    next (numbered context mark.place (Member base (identifier name) through)) (1 + levels) (counted context) more
    (got (split_more known.whole (split_first refl (split_last from))) (MemberOperator mark name known.spelled marked named)
    (one_more known.same ∙ sym (levels_member context.expressions mark.place base (identifier name) through)) (one_more_fits inside)))

-- what goes on with an operand behind it
abbrev PostfixBegins : Terminal → PostfixStart → Type 0
PostfixBegins token postfix.Index = IsMark (codes "[") token
PostfixBegins token postfix.Call = IsMark (codes "(") token
PostfixBegins token (postfix.Member through) = IsMember through token
PostfixBegins token (postfix.Count up) = IsCount up token
PostfixBegins token postfix.Other = Unit {0}

choose_postfix : (P : PostfixStart → Type 0) (test : Bool) (first second : PostfixStart) → (test ≡ true → P first) → P second → P (if test then first else second)
choose_postfix P true first second holds fails = holds refl
choose_postfix P false first second holds fails = fails

postfix_begins : (token : Terminal) → PostfixBegins token (postfix_start token)
unfolding postfix_start
postfix_begins token =
    choose_postfix (PostfixBegins token) (is_mark (codes "[") token) _ _ (λ is. is)
    (choose_postfix (PostfixBegins token) (is_mark (codes "(") token) _ _ (λ is. is)
    (members (mark_row member_rows token) refl))
  where
    counts : (found : Option Bool) → mark_row count_rows token ≡ found → PostfixBegins token (count_start found)
    counts None is = tt
    counts (Some up) is = is

    members : (found : Option Bool) → mark_row member_rows token ≡ found → PostfixBegins token (member_start found token)
    members None is = counts (mark_row count_rows token) refl
    members (Some through) is = is

sound_postfix_with : (go : Expr → ℕ → Reader Operand) (inner : Level) (base : Expr) (levels : ℕ) (before context : Context) (mark : Terminal) (row whole : List Terminal) (begins : PostfixStart)
    → SoundLevel inner → PostfixBegins mark begins → (goes_on begins ≡ true → levels ≤ inner.most)
    → PostfixGot (inner.most + 1) before whole base levels context (mark ∷ row)
    → ((next : Expr) (others : ℕ) (behind : Context) (rest : List Terminal) → PostfixGot (inner.most + 1) before whole next others behind rest → OperandSound (inner.most + 1) before whole (go next others behind rest))
    → OperandSound (inner.most + 1) before whole (postfix_with go inner whole base levels context mark row begins)
sound_postfix_with go inner base levels before context mark row whole postfix.Index is marked inside known next =
    sound_index go inner base levels before context mark row whole is marked (inside refl) known next
sound_postfix_with go inner base levels before context mark row whole postfix.Call is marked inside known next =
    let front : front_of whole (mark ∷ row) ≡ known.front = ap (λ (all : List Terminal). front_of all (mark ∷ row)) known.whole.is ∙ front_of_both known.front (mark ∷ row) in
    subst (λ (front : List Terminal). OperandSound (inner.most + 1) before whole (call_behind go inner (first_word_place front) base levels context mark row)) (sym front)
    (sound_call go inner base levels before context mark row whole is marked (inside refl) known next)
sound_postfix_with go inner base levels before context mark row whole (postfix.Member through) is marked inside known next =
    sound_member go inner through base levels before context mark row whole marked (inside refl) known next
sound_postfix_with go inner base levels before context mark row whole (postfix.Count up) is marked inside known next =
    next (numbered context mark.place (Count up true base)) (1 + levels) (counted context) row
    (got (split_more known.whole (split_last refl)) (CountBehind mark known.spelled marked) (one_more known.same ∙ sym (levels_count context.expressions mark.place up true base)) (one_more_fits (inside refl)))
sound_postfix_with go inner base levels before context mark row whole postfix.Other is marked inside known next =
    made known.whole (OnePostfix known.spelled) known.same known.fits

not_over : (goes inside : Bool) → (goes && not inside) ≡ false → goes ≡ true → inside ≡ true
not_over true true none holds = refl
not_over true false none holds = sym none
not_over false inside none holds = cc holds

pub sound_postfixes : (inner : Level) (count : ℕ) (base : Expr) (levels : ℕ) (before context : Context) (row whole : List Terminal)
    → SoundLevel inner → PostfixGot (inner.most + 1) before whole base levels context row
    → OperandSound (inner.most + 1) before whole (read_postfixes inner whole count base levels context row)
unfolding read_postfixes
sound_postfixes inner zero base levels before context row whole is known = made known.whole (OnePostfix known.spelled) known.same known.fits
sound_postfixes inner (suc count) base levels before context [] whole is known = made known.whole (OnePostfix known.spelled) known.same known.fits
sound_postfixes inner (suc count) base levels before context (mark ∷ row) whole is known =
    sound_if (goes_on (postfix_start mark) && not (nat_le levels inner.most)) _ _
    (λ over. stopped_there (inner.most + 1) before whole base levels context (mark ∷ row) known)
    (λ inside. sound_postfix_with (read_postfixes inner whole count) inner base levels before context mark row whole (postfix_start mark) is (postfix_begins mark)
    (λ goes. le_of (not_over (goes_on (postfix_start mark)) (nat_le levels inner.most) inside goes)) known
    (λ next others behind rest more. sound_postfixes inner count next others before behind rest whole is more))

-- a primary expression and the operators behind it
sound_from_primary : (inner : Level) (base : Expr) (levels : ℕ) (before context : Context) (row whole : List Terminal)
    → SoundLevel inner → Got (spelled_as PrimaryExpression) expr_levels (inner.most + 1) before whole base levels context row
    → OperandSound (inner.most + 1) before whole (postfixes_from inner whole base levels context row)
sound_from_primary inner base levels before context row whole is known =
    sound_postfixes inner (length row + 1) base levels before context row whole is (got known.whole (OnePrimary known.spelled) known.same known.fits)

pub sound_path : (inner : Level) (count : ℕ) → SoundLevel inner → Reads (spelled_as MemberPath) (levels_of_all part_levels) inner.most (read_path inner count)
unfolding read_path
sound_path inner zero is context row = sound_nothing
sound_path inner (suc count) is context row =
    sound_if (has_mark (codes ".") row) _ _
    (λ dotted.
    let dot = first_of (is_mark (codes ".")) row dotted in
    sound_first _ (behind_first row) _ _ (λ none. sound_nothing) (λ name rest from named.
    sound_prepended (NamedPart (identifier name)) 0 (read_path inner count context rest) (sound_path inner count is context rest) (λ parts others behind more read.
    made (split_first dot.1 (split_first from read.whole)) (PathToMember dot.0 name dot.2 named read.spelled) (larger (sym (levels_named_part (identifier name))) read.same) (larger_fits (omega arith) read.fits))))
    (λ no_dot. sound_if (has_mark (codes "[") row) _ _
    (λ opened.
    let opening = first_of (is_mark (codes "[")) row opened in
    sound_then (inner.conditional context (behind_first row)) _ (is.conditional context (behind_first row)) (λ index levels behind rest read.
    sound_first _ rest _ _ (λ none. sound_nothing) (λ closing others from closes.
    sound_prepended (At index) levels (read_path inner count behind others) (sound_path inner count is behind others) (λ parts more last end read_parts.
    made (split_first opening.1 (split_more read.whole (split_first from read_parts.whole))) (PathToItem opening.0 closing opening.2 read.spelled closes read_parts.spelled)
    (larger (read.same ∙ sym (levels_at index)) read_parts.same) (larger_fits read.fits read_parts.fits)))))
    (λ ends. made (split_none row) NoMoreMembers refl (omega arith)))

-- operands behind a mark or a word
abbrev says_cast : Operand → Context → List Terminal → Context → List Terminal → Type 0
says_cast operand before front behind rest = Spells (CastExpression operand.expr) before front behind

abbrev says_unary : Operand → Context → List Terminal → Context → List Terminal → Type 0
says_unary operand before front behind rest = Spells (UnaryExpression operand.expr) before front behind

sound_as_cast : (most : ℕ) (context : Context) (row : List Terminal) (outcome : Outcome Operand) → OperandSound most context row outcome → Sound says_cast operand_levels most context row outcome
sound_as_cast most context row Nothing is = sound_nothing
sound_as_cast most context row (Stopped operand expressions rest) is =
    let known = is.is in
    sound_held (record { behind = known.behind; counts = known.counts; front = known.front; whole = known.whole; spelled = operand_cast operand known.spelled; fits = known.fits })
sound_as_cast most context row (Read operand count behind rest) is = let known = is.is in made known.whole (operand_cast operand known.spelled) known.same known.fits

sound_alone : (most : ℕ) (context : Context) (row : List Terminal) (outcome : Outcome Operand) → OperandSound most context row outcome → Sound says_unary operand_levels most context row (unary_alone outcome)
sound_alone most context row Nothing is = sound_nothing
sound_alone most context row (Stopped operand expressions rest) is =
    let known = is.is in
    sound_if operand.unary _ _ (λ unary. sound_held (record { behind = known.behind; counts = known.counts; front = known.front; whole = known.whole; spelled = operand_unary operand unary known.spelled; fits = known.fits })) (λ cast. sound_nothing)
sound_alone most context row (Read operand count behind rest) is =
    let known = is.is in sound_if operand.unary _ _ (λ unary. made known.whole (operand_unary operand unary known.spelled) known.same known.fits) (λ cast. sound_nothing)

sound_prefixed : (says : Operand → Context → List Terminal → Context → List Terminal → Type 0) (most : ℕ) (context : Context) (first : Terminal) (row : List Terminal) (outcome : Outcome Operand) (place : Place) (wrapped : Expr → ExprForm)
    → Sound says operand_levels most context row outcome
    → ((operand : Operand) (front rest : List Terminal) (behind : Context) → says operand context front behind rest → Spells (UnaryExpression (numbered behind place (wrapped operand.expr))) context (first ∷ front) (counted behind))
    → ((number : ℕ) (expr : Expr) → expr_levels (expression_of number place (wrapped expr)) ≡ 1 + expr_levels expr)
    → OperandSound (most + 1) context (first ∷ row) (prefixed outcome place wrapped)
sound_prefixed says most context first row outcome place wrapped is make deep =
    sound_right outcome _ _ _ is sound_nothing
    (λ operand behind front rest split spelled fits. held (counted behind) (split_first refl split) (make operand front [] behind spelled) (fits_tree (sym (deep behind.expressions operand.expr)) (one_more_fits fits)))
    (λ operand levels behind rest read. made (split_first refl read.whole) (make operand read.front rest behind read.spelled) (one_more read.same ∙ sym (deep behind.expressions operand.expr)) (one_more_fits read.fits))

-- behind an open bracket
sound_statement_expression : (inner : Level) (context : Context) (first : Terminal) (row : List Terminal) → SoundLevel inner → IsMark (codes "(") first
    → OperandSound (inner.most + 1) context (first ∷ row) (statement_expression inner context first row)
sound_statement_expression inner context first row is marked =
    sound_then (read_block inner context row) _ (sound_block inner is context row) (λ body levels behind rest read.
    sound_first _ rest _ _ (λ none. sound_nothing) (λ closing others from closes.
    subst (λ (front : List Terminal). OperandSound (inner.most + 1) context (first ∷ row) (postfixes_from inner (first ∷ row) (numbered behind first.place (Inner body (last_place front))) (1 + levels) (counted behind) others)) (sym (front_is read.whole))
    (sound_from_primary inner (numbered behind first.place (Inner body (last_place read.front))) (1 + levels) context (counted behind) others (first ∷ row) is
    (got (split_first refl (split_more read.whole (split_last from))) (StatementExpression first closing marked read.spelled closes)
    (one_more read.same ∙ sym (levels_inner behind.expressions first.place body (last_place read.front))) (one_more_fits read.fits)))))

sound_cast_to : (inner : Level) (context : Context) (first : Terminal) (row : List Terminal) → SoundLevel inner → IsMark (codes "(") first
    → OperandSound (inner.most + 1) context (first ∷ row) (read_cast_to inner context first row)
sound_cast_to inner context first row is marked =
    sound_then (read_type_name inner context row) _ (sound_type_name inner is context row) (λ to levels behind rest read.
    sound_first _ rest _ _ (λ none. sound_nothing) (λ closing others from closes.
    sound_right (inner.cast behind others) _ _ _ (is.cast behind others) sound_nothing
    (λ operand last front end split spelled fits.
    held (counted last) (split_first refl (split_more read.whole (split_first from split))) (CastOperator first closing marked read.spelled closes (operand_cast operand spelled))
    (fits_tree (sym (levels_cast last.expressions first.place to operand.expr)) (one_more_fits (larger_fits (fits_tree read.same read.fits) fits))))
    (λ operand more last end read_cast.
    made (split_first refl (split_more read.whole (split_first from read_cast.whole))) (CastOperator first closing marked read.spelled closes (operand_cast operand read_cast.spelled))
    (one_more (larger read.same read_cast.same) ∙ sym (levels_cast last.expressions first.place to operand.expr)) (one_more_fits (larger_fits read.fits read_cast.fits)))))

sound_bracket : (inner : Level) (context : Context) (first : Terminal) (row : List Terminal) → SoundLevel inner → IsMark (codes "(") first
    → OperandSound (inner.most + 1) context (first ∷ row) (read_bracket inner context first row)
unfolding read_bracket
sound_bracket inner context first row is marked =
    sound_if (has_mark (codes "{") row) _ _ (λ block. sound_statement_expression inner context first row is marked) (λ cast. sound_cast_to inner context first row is marked)

sound_size_of : (inner : Level) (context : Context) (word : Terminal) (row : List Terminal) → SoundLevel inner → IsWord (codes "sizeof") word
    → OperandSound (inner.most + 1) context (word ∷ row) (read_size_of inner context word row)
unfolding read_size_of
sound_size_of inner context word row is worded =
    sound_if (begins_type_in_brackets context.scope row) _ _
    (λ typed.
    let opening = first_of (is_mark (codes "(")) row (and-left (has_mark (codes "(") row) (has_first (begins_type context.scope) (behind_first row)) typed) in
    sound_then (read_type_name inner context (behind_first row)) _ (sound_type_name inner is context (behind_first row)) (λ to levels behind rest read.
    sound_first _ rest _ _ (λ none. sound_nothing) (λ closing others from closes.
    made (split_first refl (split_first opening.1 (split_more read.whole (split_last from)))) (SizeOfTypeName word opening.0 closing worded opening.2 read.spelled closes)
    (one_more read.same ∙ sym (levels_size_of_type behind.expressions word.place to)) (one_more_fits read.fits))))
    (λ plain. sound_prefixed says_unary inner.most context word row (unary_alone (inner.cast context row)) word.place SizeOf (sound_alone inner.most context row (inner.cast context row) (is.cast context row))
    (λ operand front rest behind spelled. SizeOfExpression word worded spelled) (λ number expr. levels_size_of number word.place expr))

sound_offset_of : (inner : Level) (context : Context) (word : Terminal) (row : List Terminal) → SoundLevel inner → IsWord (codes "__builtin_offsetof") word
    → OperandSound (inner.most + 1) context (word ∷ row) (read_offset_of inner context word row)
unfolding read_offset_of
sound_offset_of inner context word row is worded =
    sound_first _ row _ _ (λ none. sound_nothing) (λ opening one from marked.
    sound_then (read_type_name inner context one) _ (sound_type_name inner is context one) (λ to levels behind two read.
    sound_first _ two _ _ (λ none. sound_nothing) (λ comma three second commas.
    sound_first _ three _ _ (λ none. sound_nothing) (λ name four third named.
    sound_then (read_path inner (length four + 1) behind four) _ (sound_path inner (length four + 1) is behind four) (λ path others last five read_parts.
    sound_first _ five _ _ (λ none. sound_nothing) (λ closing end fourth closes.
    sound_from_primary inner (numbered last word.place (OffsetOf to (NamedPart (identifier name) ∷ path))) (1 + max levels others) context (counted last) end (word ∷ row) is
    (got (split_first refl (split_first from (split_more read.whole (split_first second (split_first third (split_more read_parts.whole (split_last fourth)))))))
    (OffsetOfMember word opening comma name closing worded marked read.spelled commas named read_parts.spelled closes)
    (one_more (larger read.same read_parts.same) ∙ sym (levels_offset_of last.expressions word.place to (identifier name) path))
    (one_more_fits (larger_fits read.fits read_parts.fits)))))))))

sound_failed : (inner : Level) (context : Context) (word opening : Terminal) (row others : List Terminal) (rest : Option (List Terminal)) → SoundLevel inner
    → IsWord (codes "__assert_fail") word → row ≡ opening ∷ others → IsMark (codes "(") opening → behind_matched (41 ∷ []) others ≡ rest
    → OperandSound (inner.most + 1) context (word ∷ row) (failed_assertion inner context word (word ∷ row) rest)
sound_failed inner context word opening row others None is worded from marked found = sound_nothing
sound_failed inner context word opening row others (Some rest) is worded from marked found = step (brackets_close (41 ∷ []) others rest found)
  where
    step : Closes (41 ∷ []) others rest → OperandSound (inner.most + 1) context (word ∷ row) (failed_assertion inner context word (word ∷ row) (Some rest))
    step (inside, closing, more, split, matched, closes, ends) =
        sound_from_primary inner (numbered context word.place AssertFail) 1 context (counted context) rest (word ∷ row) is
        (got (split_first refl (split_first from (split_more split (split_last (ap (λ (all : List Terminal). closing ∷ all) ends))))) (FailedAssertion word opening closing worded marked matched closes)
        (sym (levels_assert_fail context.expressions word.place)) (omega arith))

sound_assert_fail : (inner : Level) (context : Context) (word : Terminal) (row : List Terminal) → SoundLevel inner → IsWord (codes "__assert_fail") word
    → OperandSound (inner.most + 1) context (word ∷ row) (read_assert_fail inner context word row)
unfolding read_assert_fail
sound_assert_fail inner context word row is worded =
    sound_first _ row _ _ (λ none. sound_nothing) (λ opening others from marked. sound_failed inner context word opening row others (behind_matched (41 ∷ []) others) is worded from marked refl)

-- with what an operand begins
abbrev OperandBegins : Terminal → OperandStart → Type 0
OperandBegins token start.Bracket = IsMark (codes "(") token
OperandBegins token (start.Count up) = IsCount up token
OperandBegins token (start.Unary op) = IsUnary op token
OperandBegins token start.SizeOf = IsWord (codes "sizeof") token
OperandBegins token start.OffsetOf = IsWord (codes "__builtin_offsetof") token
OperandBegins token start.AssertFail = IsWord (codes "__assert_fail") token
OperandBegins token start.Name = IsName token
OperandBegins token start.Constant = IsConstant token
OperandBegins token start.Other = Unit {0}

constant_is : (token : Terminal) → is_constant token ≡ true → IsConstant token
constant_is token is = step token.kind is
  where
    step : (kind : TokenKind) → is_constant (record { kind = kind; bytes = token.bytes; place = token.place }) ≡ true → IsOfKind kind token.bytes
    step Word is = cc is
    step Number is = (integer_exact token.bytes).0 is
    step Letter is = tt
    step Quoted is = cc is
    step Mark is = cc is

choose_operand : (P : OperandStart → Type 0) (test : Bool) (first second : OperandStart) → (test ≡ true → P first) → P second → P (if test then first else second)
choose_operand P true first second holds fails = holds refl
choose_operand P false first second holds fails = fails

operand_begins : (token : Terminal) → OperandBegins token (operand_start token)
unfolding operand_start
operand_begins token =
    choose_operand (OperandBegins token) (is_name token) _ _ (λ is. is)
    (choose_operand (OperandBegins token) (is_constant token) _ _ (λ is. constant_is token is)
    (choose_operand (OperandBegins token) (is_mark (codes "(") token) _ _ (λ is. is)
    (choose_operand (OperandBegins token) (is_word (codes "sizeof") token) _ _ (λ is. is)
    (choose_operand (OperandBegins token) (is_word (codes "__builtin_offsetof") token) _ _ (λ is. is)
    (choose_operand (OperandBegins token) (is_word (codes "__assert_fail") token) _ _ (λ is. is)
    (unary (mark_row unary_rows token) refl))))))
  where
    counts : (found : Option Bool) → mark_row count_rows token ≡ found → OperandBegins token (counting_start found)
    counts None is = tt
    counts (Some up) is = is

    unary : (found : Option UnaryOp) → mark_row unary_rows token ≡ found → OperandBegins token (unary_start found token)
    unary None is = counts (mark_row count_rows token) refl
    unary (Some op) is = is

sound_plain_with : (inner : Level) (context : Context) (first : Terminal) (row : List Terminal) (begins : OperandStart) → SoundLevel inner → OperandBegins first begins
    → OperandSound (inner.most + 1) context (first ∷ row) (plain_with inner context first row begins)
sound_plain_with inner context first row start.Bracket is begins = sound_bracket inner context first row is begins
sound_plain_with inner context first row (start.Count up) is begins =
    sound_prefixed says_unary inner.most context first row (unary_alone (inner.cast context row)) first.place (Count up false) (sound_alone inner.most context row (inner.cast context row) (is.cast context row))
    (λ operand front rest behind spelled. CountBefore first begins spelled) (λ number expr. levels_count number first.place up false expr)
sound_plain_with inner context first row (start.Unary op) is begins =
    sound_prefixed says_cast inner.most context first row (inner.cast context row) first.place (Unary op) (sound_as_cast inner.most context row (inner.cast context row) (is.cast context row))
    (λ operand front rest behind spelled. UnaryOperator first begins spelled) (λ number expr. levels_unary number first.place op expr)
sound_plain_with inner context first row start.SizeOf is begins = sound_size_of inner context first row is begins
sound_plain_with inner context first row start.OffsetOf is begins = sound_offset_of inner context first row is begins
sound_plain_with inner context first row start.AssertFail is begins = sound_assert_fail inner context first row is begins
sound_plain_with inner context first row start.Name is begins =
    sound_from_primary inner (numbered context first.place (Name first.bytes)) 1 context (counted context) row (first ∷ row) is
    (got (split_last refl) (OneName first begins) (sym (levels_name context.expressions first.place first.bytes)) (omega arith))
sound_plain_with inner context first row start.Constant is begins =
    sound_from_primary inner (numbered context first.place (Constant first.bytes)) 1 context (counted context) row (first ∷ row) is
    (got (split_last refl) (OneConstant first begins) (sym (levels_constant context.expressions first.place first.bytes)) (omega arith))
sound_plain_with inner context first row start.Other is begins = sound_nothing

sound_plain : (inner : Level) → SoundLevel inner → Reads says_operand operand_levels (inner.most + 1) (read_plain inner)
unfolding read_plain
sound_plain inner is context [] = sound_nothing
sound_plain inner is context (first ∷ row) = sound_plain_with inner context first row (operand_start first) is (operand_begins first)

no_type_opened : (scopes : List Names) (row : List Terminal) → has_first (λ token. not (is_mark (codes "{") token) && not (begins_type scopes token)) row ≡ true → begins_with_typedef scopes row ≡ false
no_type_opened scopes [] is = refl
no_type_opened scopes (first ∷ others) is =
    no_typedef scopes (first ∷ others) (denied (begins_type scopes first) (and-right (not (is_mark (codes "{") first)) (not (begins_type scopes first)) is))
  where
    denied : (test : Bool) → not test ≡ true → test ≡ false
    denied true is = sym is
    denied false is = refl

sound_closed : (inner : Level) (context : Context) (first : Terminal) (row : List Terminal) (outcome : Outcome Operand) → SoundLevel inner → opens context.scope first row ≡ true
    → OperandSound (inner.most + 1) context row outcome
    → OperandSound (inner.most + 1) context (first ∷ row) (closed inner (first ∷ row) outcome)
sound_closed inner context first row outcome is opened known =
    sound_then outcome _ known (λ operand levels behind rest read.
    sound_then (expression_from inner operand levels behind rest) _ (sound_expression_from inner operand levels context behind rest row is read) (λ expr others last more read_all.
    sound_first _ more _ _ (λ none. sound_nothing) (λ closing end from closes.
    sound_from_primary inner expr others context last end (first ∷ row) is
    (got (split_first refl (split_more read_all.whole (split_last from)))
    (Bracketed first closing marked (no_type context.scope row read_all.front more read_all.whole plain) read_all.spelled closes)
    read_all.same read_all.fits))))
  where
    marked : is_mark (codes "(") first ≡ true
    marked = and-left (is_mark (codes "(") first) (has_first (λ token. not (is_mark (codes "{") token) && not (begins_type context.scope token)) row) opened

    plain : begins_with_typedef context.scope row ≡ false
    plain = no_type_opened context.scope row (and-right (is_mark (codes "(") first) (has_first (λ token. not (is_mark (codes "{") token) && not (begins_type context.scope token)) row) opened)

pub sound_cast : (inner : Level) → SoundLevel inner → Reads says_operand operand_levels (inner.most + 1) (read_cast inner)
unfolding read_cast
sound_cast inner is context [] = sound_nothing
sound_cast inner is context (first ∷ row) =
    sound_if (opens context.scope first row) _ _
    (λ opened. sound_closed inner context first row (read_cast inner context row) is opened (sound_cast inner is context row))
    (λ plain. sound_plain inner is context (first ∷ row))
