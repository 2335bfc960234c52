-- Operators behind an operand are read as the grammar spells them.
use Rattle.std.proofs.Common.{◌≡◌, ℕ, zero, suc, ◌+◌, ◌≤◌, ◌<◌, Bool, true, false, List, [], ◌∷◌, length, refl, ap, sym, ◌∙◌, subst, arith, codes, Option, None, Some, max, nat_le}
use Rattle.std.proofs.lemmas.Bool.{leb-true, leb-false}
use Rattle.std.specs.Prelude.{if◌then◌else◌}
use Rattle.cbase.specs.declared.tree.expr.Expr.{Expr}
use Rattle.cbase.specs.declared.tree.expr.ExprForm.TheVariants.{Binary}
use Rattle.cbase.specs.declared.tree.operators.BinaryOp.{BinaryOp}
use Rattle.cbase.specs.declared.tree.operators.BinaryOp.TheVariants.{Comma}
use Rattle.ctrees.specs.Levels.{expr_levels}
use Rattle.cgrammar.proofs.Reached.{operand_phrase, operand_levels, is_no_looser, goes_on_from}
use Rattle.cgrammar.proofs.SoundSays.{spelled_as, says_operand, says_operation, SoundLevel}
use Rattle.cgrammar.proofs.SoundSteps.{split_first, split_more, split_length, Got, Held, Sound, sound_nothing, sound_got, got, made, held, sound_continued, sound_right, sound_else, sound_if, sound_first, one_more, larger, larger_fits, one_more_fits}
use Rattle.cgrammar.proofs.TreeLevels.{levels_binary, levels_assign, levels_choose}
use Rattle.cgrammar.specs.Grammar.{Spells, OneAssignment, CommaOperator, OneConditional, AssignmentOperator, OneOperation, ConditionalOperator, OneCast, BinaryOperator, OneUnary}
use Rattle.cgrammar.specs.Operators.{mark_row, binary_rows, assignment_rows}
use Rattle.cgrammar.specs.Outcomes.{Outcome, Nothing, Stopped, Read, Reader, has_first}
use Rattle.cgrammar.specs.Phrases.{Context, counted, numbered}
use Rattle.cgrammar.specs.Phrases.{Expression, Assignment, Conditional, Operation, CastExpression, UnaryExpression}
use Rattle.cgrammar.specs.ReadLevels.{Level}
use Rattle.cgrammar.specs.ReadOperators.{binary_with, read_operations, operations_from, read_choice, conditional_from, assignment_with, assignment_from, read_commas, expression_from}
use Rattle.cgrammar.specs.Terminals.{Terminal, is_mark}
use Rattle.cgrammar.specs.declared.reading.operand.Operand.{Operand}

-- operands as other phrases
pub operand_cast : (operand : Operand) {before after : Context} {front : List Terminal} → Spells (operand_phrase operand) before front after → Spells (CastExpression operand.expr) before front after
operand_cast operand {before} {after} {front} spelled = step operand.unary spelled
  where
    step : (unary : Bool) → Spells (if unary then UnaryExpression operand.expr else CastExpression operand.expr) before front after → Spells (CastExpression operand.expr) before front after
    step true d = OneUnary d
    step false d = d

pub operand_unary : (operand : Operand) {before after : Context} {front : List Terminal} → operand.unary ≡ true → Spells (operand_phrase operand) before front after → Spells (UnaryExpression operand.expr) before front after
operand_unary operand {before} {after} {front} is spelled =
    subst (λ (unary : Bool). Spells (if unary then UnaryExpression operand.expr else CastExpression operand.expr) before front after) is spelled

pub fits_tree : {count levels most : ℕ} → count ≡ levels → count ≤ most → levels ≤ most
fits_tree same fits = omega (arith, same, fits)

pub le_of : {a b : ℕ} → nat_le a b ≡ true → a ≤ b
le_of {a} {b} is = leb-true a b is

-- what is known of an operand to the left: it is spelled so that each operator behind it may take it
abbrev pub says_left : ℕ → Expr → Context → List Terminal → Context → List Terminal → Type 0
says_left loosest expr before front behind rest =
    Spells (Operation loosest expr) before front behind
    × ((mark : Terminal) (others : List Terminal) (entry : ℕ × BinaryOp) → rest ≡ mark ∷ others → mark_row binary_rows mark ≡ Some entry → Spells (Operation entry.0 expr) before front behind)

next_is_looser : (level : ℕ) (rest : List Terminal) (mark : Terminal) (others : List Terminal) (entry : ℕ × BinaryOp) → has_first (goes_on_from (level + 1)) rest ≡ false → rest ≡ mark ∷ others → mark_row binary_rows mark ≡ Some entry → entry.0 ≤ level
next_is_looser level rest mark others entry ends is row =
    let first : has_first (goes_on_from (level + 1)) (mark ∷ others) ≡ false = subst (λ (row : List Terminal). has_first (goes_on_from (level + 1)) row ≡ false) is ends in
    let looser : nat_le (level + 1) entry.0 ≡ false = sym (ap (is_no_looser (level + 1)) row) ∙ first in
    let less : entry.0 < level + 1 = leb-false (level + 1) entry.0 looser in
    omega (arith, less)

sound_binary_with : (go : Expr → ℕ → Reader Expr) (inner : Level) (loosest : ℕ) (left : Expr) (levels : ℕ) (before context : Context) (mark : Terminal) (row whole : List Terminal) (entry : Option (ℕ × BinaryOp))
    → SoundLevel inner
    → mark_row binary_rows mark ≡ entry
    → Got (says_left loosest) expr_levels (inner.most + 1) before whole left levels context (mark ∷ row)
    → ((next : Expr) (others : ℕ) (behind : Context) (rest : List Terminal) → length rest ≤ length row → Got (says_left loosest) expr_levels (inner.most + 1) before whole next others behind rest
    → Sound (says_operation loosest) expr_levels (inner.most + 1) before whole (go next others behind rest))
    → Sound (says_operation loosest) expr_levels (inner.most + 1) before whole (binary_with go inner loosest left levels context mark row entry)
sound_binary_with go inner loosest left levels before context mark row whole None is found known next =
    made known.whole (known.spelled.0, ap (is_no_looser loosest) found) known.same known.fits
sound_binary_with go inner loosest left levels before context mark row whole (Some entry) is found known next =
    sound_if (nat_le loosest entry.0) _ _
    (λ tight. sound_if (nat_le levels inner.most) _ _
    (λ inside. sound_right (inner.operation (entry.0 + 1) context row) _ _ _ (is.operation (entry.0 + 1) context row) stops
    (λ right behind front rest split spelled fits.
    held (counted behind) (split_more known.whole (split_first refl split))
    (BinaryOperator mark (le_of tight) (known.spelled.1 mark row entry refl found) found spelled.0, refl)
    (fits_tree (sym (levels_binary behind.expressions mark.place entry.1 left right)) (one_more_fits (larger_fits (fits_tree known.same (le_of inside)) fits))))
    (λ right others behind rest read.
    next (numbered behind mark.place (Binary entry.1 left right)) (1 + max levels others) (counted behind) rest
    (omega (arith, split_length read.whole))
    (got (split_more known.whole (split_first refl read.whole)) (
      BinaryOperator mark (le_of tight) (known.spelled.1 mark row entry refl found) found read.spelled.0,
      (λ more ones other first row_of_it. BinaryOperator mark (next_is_looser entry.0 rest more ones other read.spelled.1 first row_of_it) (known.spelled.1 mark row entry refl found) found read.spelled.0),
    )
    (one_more (larger known.same read.same) ∙ sym (levels_binary behind.expressions mark.place entry.1 left right))
    (one_more_fits (larger_fits (le_of inside) read.fits)))))
    (λ outside. stops))
    (λ loose. made known.whole (known.spelled.0, ap (is_no_looser loosest) found ∙ loose) known.same known.fits)
  where
    stops : Sound (says_operation loosest) expr_levels (inner.most + 1) before whole (Stopped left context.expressions (mark ∷ row))
    stops = held context known.whole (known.spelled.0, refl) (fits_tree known.same known.fits)

pub sound_operations : (inner : Level) (loosest count : ℕ) (left : Expr) (levels : ℕ) (before context : Context) (row whole : List Terminal)
    → SoundLevel inner → length row < count
    → Got (says_left loosest) expr_levels (inner.most + 1) before whole left levels context row
    → Sound (says_operation loosest) expr_levels (inner.most + 1) before whole (read_operations inner loosest count left levels context row)
unfolding read_operations
sound_operations inner loosest zero left levels before context row whole is turns known = absurd (omega (arith, turns))
sound_operations inner loosest (suc count) left levels before context [] whole is turns known = made known.whole (known.spelled.0, refl) known.same known.fits
sound_operations inner loosest (suc count) left levels before context (mark ∷ row) whole is turns known =
    sound_binary_with (read_operations inner loosest count) inner loosest left levels before context mark row whole (mark_row binary_rows mark) is refl known
    (λ next others behind rest fewer more. sound_operations inner loosest count next others before behind rest whole is (omega (arith, turns, fewer)) more)

pub sound_operations_from : (inner : Level) (loosest : ℕ) (operand : Operand) (levels : ℕ) (before context : Context) (row whole : List Terminal)
    → SoundLevel inner → Got says_operand operand_levels (inner.most + 1) before whole operand levels context row
    → Sound (says_operation loosest) expr_levels (inner.most + 1) before whole (operations_from inner loosest operand levels context row)
sound_operations_from inner loosest operand levels before context row whole is known =
    let cast = operand_cast operand known.spelled in
    sound_operations inner loosest (length row + 1) operand.expr levels before context row whole is (omega arith)
    (got known.whole (OneCast cast, (λ mark others entry first found. OneCast cast)) known.same known.fits)

pub sound_choice : (inner : Level) (test : Expr) (levels : ℕ) (before context : Context) (row whole : List Terminal)
    → SoundLevel inner → Got (says_operation 0) expr_levels (inner.most + 1) before whole test levels context row
    → Sound (spelled_as Conditional) expr_levels (inner.most + 1) before whole (read_choice inner test levels context row)
unfolding read_choice
sound_choice inner test levels before context [] whole is known = made known.whole (OneOperation known.spelled.0) known.same known.fits
sound_choice inner test levels before context (mark ∷ row) whole is known =
    sound_if (is_mark (codes "?") mark) _ _
    (λ question. sound_if (nat_le levels inner.most) _ _
    (λ inside. sound_else (inner.expression context row) _ _ (is.expression context row) stops (λ one ones first rest read.
    sound_first _ rest _ _ (λ other. stops) (λ colon others from marked.
    sound_right (inner.conditional first others) _ _ _ (is.conditional first others) stops
    (λ other behind front last split spelled fits.
    held (counted behind) (split_more known.whole (split_first refl (split_more read.whole (split_first from split))))
    (ConditionalOperator mark colon known.spelled.0 question read.spelled marked spelled)
    (fits_tree (sym (levels_choose behind.expressions mark.place test one other))
    (one_more_fits (larger_fits (fits_tree known.same (le_of inside)) (larger_fits (fits_tree read.same read.fits) fits)))))
    (λ other twos behind more last.
    made (split_more known.whole (split_first refl (split_more read.whole (split_first from last.whole))))
    (ConditionalOperator mark colon known.spelled.0 question read.spelled marked last.spelled)
    (one_more (larger known.same (larger read.same last.same)) ∙ sym (levels_choose behind.expressions mark.place test one other))
    (one_more_fits (larger_fits (le_of inside) (larger_fits read.fits last.fits)))))))
    (λ outside. stops))
    (λ none. made known.whole (OneOperation known.spelled.0) known.same known.fits)
  where
    stops : Sound (spelled_as Conditional) expr_levels (inner.most + 1) before whole (Stopped test context.expressions (mark ∷ row))
    stops = held context known.whole (OneOperation known.spelled.0) (fits_tree known.same known.fits)

-- what is known of a tree at which the reading stopped, as another phrase
pub held_as : {A B : Type 0} {says : A → Context → List Terminal → Context → List Terminal → Type 0} {tells : B → Context → List Terminal → Context → List Terminal → Type 0} {levels : A → ℕ} {deep : B → ℕ} {most : ℕ} {before : Context} {row : List Terminal} {tree : A} {other : B} {expressions : ℕ} {rest : List Terminal}
    → ((front : List Terminal) (behind : Context) → says tree before front behind [] → tells other before front behind [])
    → deep other ≡ levels tree
    → Held says levels most before row tree expressions rest → Held tells deep most before row other expressions rest
held_as {most} change same known =
    record { behind = known.behind; counts = known.counts; front = known.front; whole = known.whole; spelled = change known.front known.behind known.spelled; fits = subst (λ (n : ℕ). n ≤ most) (sym same) known.fits }

pub sound_conditional_from : (inner : Level) (operand : Operand) (levels : ℕ) (before context : Context) (row whole : List Terminal)
    → SoundLevel inner → Got says_operand operand_levels (inner.most + 1) before whole operand levels context row
    → Sound (spelled_as Conditional) expr_levels (inner.most + 1) before whole (conditional_from inner operand levels context row)
sound_conditional_from inner operand levels before context row whole is known =
    sound_continued (operations_from inner 0 operand levels context row) _ _ (sound_operations_from inner 0 operand levels before context row whole is known)
    (λ tree expressions rest stopped. held_as (λ front behind spelled. OneOperation spelled.0) refl stopped)
    (λ test tests behind rest read. sound_choice inner test tests before behind rest whole is read)

-- a conditional as an assignment
pub as_assignment : {most : ℕ} {before : Context} {row : List Terminal} (outcome : Outcome Expr) → Sound (spelled_as Conditional) expr_levels most before row outcome → Sound (spelled_as Assignment) expr_levels most before row outcome
as_assignment Nothing is = sound_nothing
as_assignment (Stopped tree expressions rest) is = record { is = held_as (λ front behind spelled. OneConditional spelled) refl is.is }
as_assignment (Read tree count behind rest) is = let known = is.is in made known.whole (OneConditional known.spelled) known.same known.fits

sound_assignment_with : (inner : Level) (operand : Operand) (levels : ℕ) (before context : Context) (mark : Terminal) (row whole : List Terminal) (op : Option (Option BinaryOp))
    → SoundLevel inner → mark_row assignment_rows mark ≡ op → Got says_operand operand_levels (inner.most + 1) before whole operand levels context (mark ∷ row)
    → Sound (spelled_as Assignment) expr_levels (inner.most + 1) before whole (assignment_with inner operand levels context mark row op)
sound_assignment_with inner operand levels before context mark row whole None is found known =
    as_assignment (conditional_from inner operand levels context (mark ∷ row)) (sound_conditional_from inner operand levels before context (mark ∷ row) whole is known)
sound_assignment_with inner operand levels before context mark row whole (Some op) is found known =
    sound_if operand.unary _ _
    (λ unary. sound_if (nat_le levels inner.most) _ _
    (λ inside. sound_right (inner.assignment context row) _ _ _ (is.assignment context row) stops
    (λ right behind front rest split spelled fits.
    held (counted behind) (split_more known.whole (split_first refl split))
    (AssignmentOperator mark (operand_unary operand unary known.spelled) found spelled)
    (fits_tree (sym (levels_assign behind.expressions mark.place op operand.expr right)) (one_more_fits (larger_fits (fits_tree known.same (le_of inside)) fits))))
    (λ right others behind rest read.
    made (split_more known.whole (split_first refl read.whole))
    (AssignmentOperator mark (operand_unary operand unary known.spelled) found read.spelled)
    (one_more (larger known.same read.same) ∙ sym (levels_assign behind.expressions mark.place op operand.expr right))
    (one_more_fits (larger_fits (le_of inside) read.fits))))
    (λ outside. stops))
    (λ cast. as_assignment (conditional_from inner operand levels context (mark ∷ row)) (sound_conditional_from inner operand levels before context (mark ∷ row) whole is known))
  where
    stops : Sound (spelled_as Assignment) expr_levels (inner.most + 1) before whole (Stopped operand.expr context.expressions (mark ∷ row))
    stops = held context known.whole (OneConditional (OneOperation (OneCast (operand_cast operand known.spelled)))) (fits_tree known.same known.fits)

pub sound_assignment_from : (inner : Level) (operand : Operand) (levels : ℕ) (before context : Context) (row whole : List Terminal)
    → SoundLevel inner → Got says_operand operand_levels (inner.most + 1) before whole operand levels context row
    → Sound (spelled_as Assignment) expr_levels (inner.most + 1) before whole (assignment_from inner operand levels context row)
unfolding assignment_from
sound_assignment_from inner operand levels before context [] whole is known =
    as_assignment (conditional_from inner operand levels context []) (sound_conditional_from inner operand levels before context [] whole is known)
sound_assignment_from inner operand levels before context (mark ∷ row) whole is known =
    sound_assignment_with inner operand levels before context mark row whole (mark_row assignment_rows mark) is refl known

pub sound_commas : (inner : Level) (count : ℕ) (left : Expr) (levels : ℕ) (before context : Context) (row whole : List Terminal)
    → SoundLevel inner → Got (spelled_as Expression) expr_levels (inner.most + 1) before whole left levels context row
    → Sound (spelled_as Expression) expr_levels (inner.most + 1) before whole (read_commas inner count left levels context row)
unfolding read_commas
sound_commas inner zero left levels before context row whole is known = sound_got known
sound_commas inner (suc count) left levels before context [] whole is known = sound_got known
sound_commas inner (suc count) left levels before context (mark ∷ row) whole is known =
    sound_if (is_mark (codes ",") mark) _ _
    (λ comma. sound_if (nat_le levels inner.most) _ _
    (λ inside. sound_right (inner.assignment context row) _ _ _ (is.assignment context row) stops
    (λ right behind front rest split spelled fits.
    held (counted behind) (split_more known.whole (split_first refl split))
    (CommaOperator mark known.spelled comma spelled)
    (fits_tree (sym (levels_binary behind.expressions mark.place Comma left right)) (one_more_fits (larger_fits (fits_tree known.same (le_of inside)) fits))))
    (λ right others behind rest read.
    sound_commas inner count (numbered behind mark.place (Binary Comma left right)) (1 + max levels others) before (counted behind) rest whole is
    (got (split_more known.whole (split_first refl read.whole))
    (CommaOperator mark known.spelled comma read.spelled)
    (one_more (larger known.same read.same) ∙ sym (levels_binary behind.expressions mark.place Comma left right))
    (one_more_fits (larger_fits (le_of inside) read.fits)))))
    (λ outside. stops))
    (λ none. sound_got known)
  where
    stops : Sound (spelled_as Expression) expr_levels (inner.most + 1) before whole (Stopped left context.expressions (mark ∷ row))
    stops = held context known.whole known.spelled (fits_tree known.same known.fits)

pub sound_expression_from : (inner : Level) (operand : Operand) (levels : ℕ) (before context : Context) (row whole : List Terminal)
    → SoundLevel inner → Got says_operand operand_levels (inner.most + 1) before whole operand levels context row
    → Sound (spelled_as Expression) expr_levels (inner.most + 1) before whole (expression_from inner operand levels context row)
sound_expression_from inner operand levels before context row whole is known =
    sound_continued (assignment_from inner operand levels context row) _ _ (sound_assignment_from inner operand levels before context row whole is known)
    (λ tree expressions rest stopped. held_as (λ front behind spelled. OneAssignment spelled) refl stopped)
    (λ left others behind rest read. sound_commas inner (length rest + 1) left others before behind rest whole is
    (got read.whole (OneAssignment read.spelled) read.same read.fits))
