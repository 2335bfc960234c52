-- The reader is complete on postfix operators (C11 6.5.2).
use Rattle.std.proofs.Common.{◌≡◌, ℕ, zero, suc, Bool, true, false, ◌&&◌, not, ◌+◌, ◌<◌, ◌≤◌, ◌⊎◌, inl, inr, max, nat_le, map, List, [], ◌∷◌, ◌++◌, codes, length, IsTrue, refl, ap, sym, subst, ◌∙◌, arith}
use Rattle.std.specs.Prelude.{if◌then◌else◌}
use Rattle.std.proofs.lemmas.List.{append_assoc, length-append}
use Rattle.cbase.specs.declared.place.Place.{Place}
use Rattle.cbase.specs.declared.tree.expr.Expr.{Expr}
use Rattle.cbase.specs.declared.tree.expr.ExprForm.TheVariants.{Count, Index, Member, Call}
use Rattle.ctrees.specs.Levels.{depth, expr_levels}
use Rattle.ctrees.specs.Weight.{joined}
use Rattle.ctokens.proofs.Choices.{false_and, chosen_yes, chosen_no}
use Rattle.cgrammar.proofs.CompletePostfixReaches.{postfixes_reach}
use Rattle.cgrammar.proofs.CompleteSteps.{levels_fit, some_level, goes_exactly}
use Rattle.cgrammar.proofs.CompleteTokens.{item_starts, call_starts, member_starts, count_starts, item_end_no_expression, closing_no_list}
use Rattle.cgrammar.proofs.Fronts.{front_of_both}
use Rattle.cgrammar.proofs.Reached.{Reaches, Goes, IsWithinLevel, Completes, goes_on_operand, goes_on_expression}
use Rattle.cgrammar.proofs.Starting.{starts, operand_not_mark}
use Rattle.cgrammar.proofs.TreeLevels.{levels_index, levels_call, levels_call_of_nothing, levels_member, levels_count}
use Rattle.cgrammar.proofs.Truth.{not-true}
use Rattle.cgrammar.specs.Firsts.{Begins}
use Rattle.cgrammar.specs.FrontOf.{front_of}
use Rattle.cgrammar.specs.Grammar.{Spells}
use Rattle.cgrammar.specs.Operators.{IsMember, IsCount}
use Rattle.cgrammar.specs.Outcomes.{Read, Reader, or_else, after_mark, has_first}
use Rattle.cgrammar.specs.Phrases.{Context, counted, numbered, UnaryExpression, PostfixExpression, PrimaryExpression, Expression, Arguments}
use Rattle.cgrammar.specs.ReadLevels.{Level, read_list}
use Rattle.cgrammar.specs.ReadOperands.{read_cast, unary_operand, stopped_operand, index_behind, call_behind, postfix_with, goes_on, read_postfixes}
use Rattle.cgrammar.specs.ReadStarts.{postfix_start}
use Rattle.cgrammar.specs.ReadTypes.{never}
use Rattle.cgrammar.specs.Reader.{level}
use Rattle.cgrammar.specs.Starts.{begins_operand}
use Rattle.cgrammar.specs.Terminals.{Terminal, is_mark, IsMark, is_name, IsName, IsNoType, begins_with_typedef, first_word_place}
use Rattle.cgrammar.specs.Trees.{identifier}
use Rattle.cgrammar.specs.declared.reading.operand.Operand.{Operand}
use Rattle.cgrammar.specs.declared.reading.starts.PostfixStart.{PostfixStart}
use Rattle.cgrammar.specs.declared.reading.starts.PostfixStart.TheVariants as postfix

-- the loop goes on with the expression as its base
abbrev pub Postfixed : ℕ → Context → Expr → Context → List Terminal → List Terminal → Type 0
Postfixed m before e after rest row =
    (count : ℕ) × (length rest < count) × (read_cast (level m) before row ≡ read_postfixes (level m) row count e (expr_levels e) after rest)

pub complete_one_primary : (before after : Context) (row : List Terminal) (expr : Expr) → Completes (PrimaryExpression expr) before row after → Completes (PostfixExpression expr) before row after
complete_one_primary before after row expr whole = whole

-- the loop ends, or goes on
ends_or_goes : (go : Expr → ℕ → Reader Operand) (inner : Level) (start : List Terminal) (base : Expr) (levels : ℕ) (context : Context) (mark : Terminal) (row : List Terminal) (kind : PostfixStart) (fits : Bool)
    → ((if goes_on kind && fits then stopped_operand base context mark row else postfix_with go inner start base levels context mark row kind) ≡ Read (unary_operand base) levels context (mark ∷ row)) ⊎ IsTrue (goes_on kind)
ends_or_goes go inner start base levels context mark row postfix.Index fits = inr refl
ends_or_goes go inner start base levels context mark row postfix.Call fits = inr refl
ends_or_goes go inner start base levels context mark row (postfix.Member through) fits = inr refl
ends_or_goes go inner start base levels context mark row (postfix.Count up) fits = inr refl
ends_or_goes go inner start base levels context mark row postfix.Other fits = inl refl

pub postfixes_stop : (inner : Level) (start : List Terminal) (count : ℕ) (base : Expr) (levels : ℕ) (context : Context) (row : List Terminal)
    → (read_postfixes inner start count base levels context row ≡ Read (unary_operand base) levels context row) ⊎ IsTrue (has_first goes_on_operand row)
unfolding read_postfixes
postfixes_stop inner start zero base levels context row = inl refl
postfixes_stop inner start (suc count) base levels context [] = inl refl
postfixes_stop inner start (suc count) base levels context (mark ∷ row) =
    ends_or_goes (read_postfixes inner start count) inner start base levels context mark row (postfix_start mark) (not (nat_le levels inner.most))

pub complete_one_postfix : (before after : Context) (row : List Terminal) (expr : Expr) → Completes (PostfixExpression expr) before row after → ((n : ℕ) → IsWithinLevel (level n))
    → Completes (UnaryExpression expr) before row after
complete_one_postfix before after row expr whole within zero rest fits = absurd (some_level expr fits)
complete_one_postfix before after row expr whole within (suc m) rest fits = step (whole m rest (omega (arith, fits)))
  where
    ends : (count : ℕ) → read_cast (level m) before (row ++ rest) ≡ read_postfixes (level m) (row ++ rest) count expr (expr_levels expr) after rest
        → (read_postfixes (level m) (row ++ rest) count expr (expr_levels expr) after rest ≡ Read (unary_operand expr) (expr_levels expr) after rest) ⊎ IsTrue (has_first goes_on_operand rest)
        → Goes goes_on_operand (unary_operand expr) (expr_levels expr) after rest (read_cast (level m) before (row ++ rest))
    ends count is (inl stop) = inl (is ∙ stop)
    ends count is (inr more) = inr (more, subst (λ o. Reaches o rest) (sym is) (postfixes_reach (level m) (within m) (row ++ rest) count expr (expr_levels expr) after rest))

    step : Postfixed m before expr after rest (row ++ rest) → Goes goes_on_operand (unary_operand expr) (expr_levels expr) after rest (read_cast (level m) before (row ++ rest))
    step (count, less, is) = ends count is (postfixes_stop (level m) (row ++ rest) count expr (expr_levels expr) after rest)

-- one turn of the loop
postfixes_turn : (inner : Level) (start : List Terminal) (count : ℕ) (base : Expr) (levels : ℕ) (context : Context) (mark : Terminal) (row : List Terminal) (kind : PostfixStart)
    → postfix_start mark ≡ kind → nat_le levels inner.most ≡ true
    → read_postfixes inner start (suc count) base levels context (mark ∷ row) ≡ postfix_with (read_postfixes inner start count) inner start base levels context mark row kind
unfolding read_postfixes
postfixes_turn inner start count base levels context mark row kind is fits =
    chosen_no (goes_on (postfix_start mark) && not (nat_le levels inner.most)) (stopped_operand base context mark row) (postfix_with (read_postfixes inner start count) inner start base levels context mark row (postfix_start mark))
    (false_and (goes_on (postfix_start mark)) (not (nat_le levels inner.most)) (ap not fits))
    ∙ ap (λ (k : PostfixStart). postfix_with (read_postfixes inner start count) inner start base levels context mark row k) is

-- a turn of which it is known what it does
turned : (m : ℕ) (before : Context) (row : List Terminal) (base whole : Expr) (middle after : Context) (mark : Terminal) (between rest : List Terminal) (kind : PostfixStart) (levels : ℕ)
    → expr_levels whole ≡ levels → expr_levels base ≤ m → postfix_start mark ≡ kind → length rest ≤ length between
    → ((count : ℕ) → postfix_with (read_postfixes (level m) row count) (level m) row base (expr_levels base) middle mark between kind ≡ read_postfixes (level m) row count whole levels after rest)
    → Postfixed m before base middle (mark ∷ between) row → Postfixed m before whole after rest row
turned m before row base whole middle after mark between rest kind levels same fits is less turn (zero, longer, read) = absurd (omega (arith, longer))
turned m before row base whole middle after mark between rest kind levels same fits is less turn (suc count, longer, read) = (
  count,
  omega (arith, longer, less),
  read ∙ postfixes_turn (level m) row count base (expr_levels base) middle mark between kind is (levels_fit (expr_levels base) m fits)
      ∙ turn count ∙ ap (λ (n : ℕ). read_postfixes (level m) row count whole n after rest) (sym same),
)

-- rows
pub two_parts : (xs ys rest : List Terminal) (opening closing : Terminal) → (xs ++ (opening ∷ (ys ++ (closing ∷ [])))) ++ rest ≡ xs ++ (opening ∷ (ys ++ (closing ∷ rest)))
two_parts xs ys rest opening closing =
    append_assoc xs (opening ∷ (ys ++ (closing ∷ []))) rest ∙ ap (λ (row : List Terminal). xs ++ (opening ∷ row)) (append_assoc ys (closing ∷ []) rest)

shorter : (ys rest : List Terminal) (closing : Terminal) → length rest ≤ length (ys ++ (closing ∷ rest))
shorter ys rest closing = let sum = length-append ys (closing ∷ rest) in omega (arith, sum)

-- `[`
index_read : (go : Expr → ℕ → Reader Operand) (inner : Level) (base : Expr) (levels : ℕ) (context : Context) (mark : Terminal) (row : List Terminal) (index : Expr) (others : ℕ) (behind : Context) (closing : Terminal) (rest : List Terminal)
    → is_mark (codes "]") closing ≡ true → inner.expression context row ≡ Read index others behind (closing ∷ rest)
    → index_behind go inner base levels context mark row ≡ go (numbered behind mark.place (Index base index)) (1 + max levels others) (counted behind) rest
index_read go inner base levels context mark row index others behind closing rest ends read =
    ap (λ o. or_else o (stopped_operand base context mark row) (λ index others behind rest.
    after_mark (codes "]") rest (stopped_operand base context mark row) (λ closing more.
    go (numbered behind mark.place (Index base index)) (1 + max levels others) (counted behind) more))) read
    ∙ chosen_yes (is_mark (codes "]") closing) _ (stopped_operand base context mark row) ends

pub complete_index_operator : (before middle after : Context) (xs ys : List Terminal) (base index : Expr) (opening closing : Terminal)
    → IsMark (codes "[") opening → IsMark (codes "]") closing
    → Completes (PostfixExpression base) before xs middle → Completes (Expression index) middle ys after
    → Completes (PostfixExpression (numbered after opening.place (Index base index))) before (xs ++ (opening ∷ (ys ++ (closing ∷ [])))) (counted after)
complete_index_operator before middle after xs ys base index opening closing opens closes one other m rest fits =
    subst (λ row. Postfixed m before whole (counted after) rest row) (sym (two_parts xs ys rest opening closing))
    (turned m before row base whole middle (counted after) opening (ys ++ (closing ∷ rest)) rest postfix.Index (1 + max (expr_levels base) (expr_levels index)) levels (omega (arith, fits, levels)) (item_starts opening opens) (shorter ys rest closing)
    (λ count. index_read (read_postfixes (level m) row count) (level m) base (expr_levels base) middle opening (ys ++ (closing ∷ rest)) index (expr_levels index) after closing rest closes
    (goes_exactly goes_on_expression index (expr_levels index) after closing rest ((level m).expression middle (ys ++ (closing ∷ rest))) (item_end_no_expression closing closes) (other m (closing ∷ rest) (omega (arith, fits, levels)))))
    (one m (opening ∷ (ys ++ (closing ∷ rest))) (omega (arith, fits, levels))))
  where
    whole : Expr
    whole = numbered after opening.place (Index base index)

    row : List Terminal
    row = xs ++ (opening ∷ (ys ++ (closing ∷ rest)))

    levels : expr_levels whole ≡ 1 + max (expr_levels base) (expr_levels index)
    levels = levels_index after.expressions opening.place base index

-- `()`
nothing_read : (go : Expr → ℕ → Reader Operand) (inner : Level) (place : Place) (base : Expr) (levels : ℕ) (context : Context) (mark closing : Terminal) (rest : List Terminal) → is_mark (codes ")") closing ≡ true
    → call_behind go inner place base levels context mark (closing ∷ rest) ≡ go (numbered context place (Call base [])) (1 + levels) (counted context) rest
nothing_read go inner place base levels context mark closing rest ends = chosen_yes (is_mark (codes ")") closing) _ _ ends

pub complete_call_of_nothing : (before after : Context) (xs : List Terminal) (callee : Expr) (opening closing : Terminal)
    → IsMark (codes "(") opening → IsMark (codes ")") closing
    → Completes (PostfixExpression callee) before xs after
    → Completes (PostfixExpression (numbered after (first_word_place xs) (Call callee []))) before (xs ++ (opening ∷ (closing ∷ []))) (counted after)
complete_call_of_nothing before after xs callee opening closing opens closes one m rest fits =
    subst (λ row. Postfixed m before whole (counted after) rest row) (sym (append_assoc xs (opening ∷ (closing ∷ [])) rest))
    (turned m before row callee whole after (counted after) opening (closing ∷ rest) rest postfix.Call (1 + expr_levels callee) levels (omega (arith, fits, levels)) (call_starts opening opens) (omega arith)
    (λ count. nothing_read (read_postfixes (level m) row count) (level m) (first_word_place (front_of row (opening ∷ (closing ∷ rest)))) callee (expr_levels callee) after opening closing rest closes
    ∙ ap (λ (front : List Terminal). read_postfixes (level m) row count (numbered after (first_word_place front) (Call callee [])) (1 + expr_levels callee) (counted after) rest) (front_of_both xs (opening ∷ (closing ∷ rest))))
    (one m (opening ∷ (closing ∷ rest)) (omega (arith, fits, levels))))
  where
    whole : Expr
    whole = numbered after (first_word_place xs) (Call callee [])

    row : List Terminal
    row = xs ++ (opening ∷ (closing ∷ rest))

    levels : expr_levels whole ≡ 1 + expr_levels callee
    levels = levels_call_of_nothing after.expressions (first_word_place xs) callee

-- a call with arguments
arguments_first : (go : Expr → ℕ → Reader Operand) (inner : Level) (place : Place) (base : Expr) (levels : ℕ) (context : Context) (mark : Terminal) (ys more : List Terminal) → Begins begins_operand ys → IsNoType context.scope ys
    → call_behind go inner place base levels context mark (ys ++ more)
    ≡ or_else (read_list never inner.assignment (length (ys ++ more) + 1) context (ys ++ more)) (stopped_operand base context mark (ys ++ more)) (λ arguments others behind rest.
    after_mark (codes ")") rest (stopped_operand base context mark (ys ++ more)) (λ closing more.
    go (numbered behind place (Call base arguments)) (1 + max levels others) (counted behind) more))
arguments_first go inner place base levels context mark [] more begins no_type = absurd begins
arguments_first go inner place base levels context mark (first ∷ others) more begins no_type =
    chosen_no (is_mark (codes ")") first) _ _ (not_closing (is_mark (codes ")") first) refl)
    ∙ chosen_no (begins_with_typedef context.scope (first ∷ (others ++ more))) (stopped_operand base context mark (first ∷ (others ++ more))) _ (not-true (begins_with_typedef context.scope (first ∷ others)) no_type)
  where
    not_closing : (b : Bool) → is_mark (codes ")") first ≡ b → b ≡ false
    not_closing true is = absurd (operand_not_mark (codes ")") first refl begins is)
    not_closing false is = refl

arguments_read : (go : Expr → ℕ → Reader Operand) (inner : Level) (place : Place) (base : Expr) (levels : ℕ) (context : Context) (mark : Terminal) (ys : List Terminal) (arguments : List Expr) (others : ℕ) (behind : Context) (closing : Terminal) (rest : List Terminal)
    → Begins begins_operand ys → IsNoType context.scope ys
    → is_mark (codes ")") closing ≡ true → read_list never inner.assignment (length (ys ++ (closing ∷ rest)) + 1) context (ys ++ (closing ∷ rest)) ≡ Read arguments others behind (closing ∷ rest)
    → call_behind go inner place base levels context mark (ys ++ (closing ∷ rest)) ≡ go (numbered behind place (Call base arguments)) (1 + max levels others) (counted behind) rest
arguments_read go inner place base levels context mark ys arguments others behind closing rest begins no_type ends read =
    arguments_first go inner place base levels context mark ys (closing ∷ rest) begins no_type
    ∙ ap (λ o. or_else o (stopped_operand base context mark (ys ++ (closing ∷ rest))) (λ arguments others behind rest'.
    after_mark (codes ")") rest' (stopped_operand base context mark (ys ++ (closing ∷ rest))) (λ closing more.
    go (numbered behind place (Call base arguments)) (1 + max levels others) (counted behind) more))) read
    ∙ chosen_yes (is_mark (codes ")") closing) _ (stopped_operand base context mark (ys ++ (closing ∷ rest))) ends

pub complete_call_operator : (before middle after : Context) (xs ys : List Terminal) (callee : Expr) (arguments : List Expr) (opening closing : Terminal)
    → IsMark (codes "(") opening → IsNoType middle.scope ys → IsMark (codes ")") closing
    → Completes (PostfixExpression callee) before xs middle → Spells (Arguments arguments) middle ys after → Completes (Arguments arguments) middle ys after
    → Completes (PostfixExpression (numbered after (first_word_place xs) (Call callee arguments))) before (xs ++ (opening ∷ (ys ++ (closing ∷ [])))) (counted after)
complete_call_operator before middle after xs ys callee arguments opening closing opens no_type closes one spelled other m rest fits =
    subst (λ row. Postfixed m before whole (counted after) rest row) (sym (two_parts xs ys rest opening closing))
    (turned m before row callee whole middle (counted after) opening (ys ++ (closing ∷ rest)) rest postfix.Call (1 + max (expr_levels callee) (joined depth (map expr_levels arguments))) levels (omega (arith, fits, levels)) (call_starts opening opens) (shorter ys rest closing)
    (λ count. arguments_read (read_postfixes (level m) row count) (level m) (first_word_place (front_of row (opening ∷ (ys ++ (closing ∷ rest))))) callee (expr_levels callee) middle opening ys arguments (joined depth (map expr_levels arguments)) after closing rest (starts spelled) no_type closes
    (other m (length (ys ++ (closing ∷ rest)) + 1) (closing ∷ rest) (omega arith) (omega (arith, fits, levels)) (ap not (closing_no_list closing closes)))
    ∙ ap (λ (front : List Terminal). read_postfixes (level m) row count (numbered after (first_word_place front) (Call callee arguments)) (1 + max (expr_levels callee) (joined depth (map expr_levels arguments))) (counted after) rest) (front_of_both xs (opening ∷ (ys ++ (closing ∷ rest)))))
    (one m (opening ∷ (ys ++ (closing ∷ rest))) (omega (arith, fits, levels))))
  where
    whole : Expr
    whole = numbered after (first_word_place xs) (Call callee arguments)

    row : List Terminal
    row = xs ++ (opening ∷ (ys ++ (closing ∷ rest)))

    levels : expr_levels whole ≡ 1 + max (expr_levels callee) (joined depth (map expr_levels arguments))
    levels = levels_call after.expressions (first_word_place xs) callee arguments

-- `.` and `->`
pub complete_member_operator : (before after : Context) (xs : List Terminal) (base : Expr) (through : Bool) (mark name : Terminal)
    → IsMember through mark → IsName name
    → Completes (PostfixExpression base) before xs after
    → Completes (PostfixExpression (numbered after mark.place (Member base (identifier name) through))) before (xs ++ (mark ∷ (name ∷ []))) (counted after)
complete_member_operator before after xs base through mark name is named one m rest fits =
    subst (λ row. Postfixed m before whole (counted after) rest row) (sym (append_assoc xs (mark ∷ (name ∷ [])) rest))
    (turned m before row base whole after (counted after) mark (name ∷ rest) rest (postfix.Member through) (1 + expr_levels base) levels (omega (arith, fits, levels)) (member_starts through mark is) (omega arith)
    (λ count. chosen_yes (is_name name) _ (stopped_operand base after mark (name ∷ rest)) named)
    (one m (mark ∷ (name ∷ rest)) (omega (arith, fits, levels))))
  where
    whole : Expr
    whole = numbered after mark.place (Member base (identifier name) through)

    row : List Terminal
    row = xs ++ (mark ∷ (name ∷ rest))

    levels : expr_levels whole ≡ 1 + expr_levels base
    levels = levels_member after.expressions mark.place base (identifier name) through

-- `++` and `--` behind their operand
pub complete_count_behind : (before after : Context) (xs : List Terminal) (expr : Expr) (up : Bool) (mark : Terminal)
    → IsCount up mark
    → Completes (PostfixExpression expr) before xs after
    → Completes (PostfixExpression (numbered after mark.place (Count up true expr))) before (xs ++ (mark ∷ [])) (counted after)
complete_count_behind before after xs expr up mark is one m rest fits =
    subst (λ row. Postfixed m before whole (counted after) rest row) (sym (append_assoc xs (mark ∷ []) rest))
    (turned m before row expr whole after (counted after) mark rest rest (postfix.Count up) (1 + expr_levels expr) levels (omega (arith, fits, levels)) (count_starts up mark is) (omega arith)
    (λ count. refl)
    (one m (mark ∷ rest) (omega (arith, fits, levels))))
  where
    whole : Expr
    whole = numbered after mark.place (Count up true expr)

    row : List Terminal
    row = xs ++ (mark ∷ rest)

    levels : expr_levels whole ≡ 1 + expr_levels expr
    levels = levels_count after.expressions mark.place up true expr
