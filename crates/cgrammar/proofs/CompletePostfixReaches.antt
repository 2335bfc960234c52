-- How far the reader reaches behind an operand: postfix operators reach at least as far as where they begin.
use Rattle.std.proofs.Common.{ℕ, zero, suc, Bool, true, false, ◌&&◌, not, ◌+◌, ◌≤◌, max, nat_le, List, [], ◌∷◌, codes, length, arith}
use Rattle.std.specs.Prelude.{if◌then◌else◌}
use Rattle.cbase.specs.declared.place.Place.{Place}
use Rattle.cbase.specs.declared.tree.expr.Expr.{Expr}
use Rattle.cbase.specs.declared.tree.expr.ExprForm.TheVariants.{Count, Index, Member, Call}
use Rattle.cgrammar.proofs.CompleteReaches.{reaches_more, or_else_reaches, chosen_reaches, after_first_reaches}
use Rattle.cgrammar.proofs.Reached.{Reaches, IsWithin, IsWithinLevel}
use Rattle.cgrammar.specs.FrontOf.{front_of}
use Rattle.cgrammar.specs.Outcomes.{Outcome, Nothing, Stopped, Read, Reader, then_read, after_mark, has_mark, behind_first}
use Rattle.cgrammar.specs.Phrases.{Context, counted, numbered}
use Rattle.cgrammar.specs.ReadLevels.{Level, prepended, read_list}
use Rattle.cgrammar.specs.ReadOperands.{unary_operand, stopped_operand, index_behind, call_behind, member_behind, postfix_with, goes_on, read_postfixes}
use Rattle.cgrammar.specs.ReadStarts.{postfix_start}
use Rattle.cgrammar.specs.ReadTypes.{never}
use Rattle.cgrammar.specs.Terminals.{Terminal, is_mark, is_name, begins_with_typedef, first_word_place}
use Rattle.cgrammar.specs.Trees.{identifier}
use Rattle.cgrammar.specs.declared.reading.operand.Operand.{Operand}
use Rattle.cgrammar.specs.declared.reading.starts.PostfixStart.{PostfixStart}
use Rattle.cgrammar.specs.declared.reading.starts.PostfixStart.TheVariants as postfix

-- lists
within_more : {A : Type 0} (outcome : Outcome A) (row longer : List Terminal) → length row ≤ length longer → IsWithin outcome row → IsWithin outcome longer
within_more Nothing row longer more is = tt
within_more (Stopped tree expressions rest) row longer more is = omega (arith, is, more)
within_more (Read tree levels behind rest) row longer more is = omega (arith, is, more)

then_within : {A B : Type 0} (outcome : Outcome A) (go : A → ℕ → Context → List Terminal → Outcome B) (row : List Terminal)
    → IsWithin outcome row → ((tree : A) (levels : ℕ) (behind : Context) (rest : List Terminal) → IsWithin (go tree levels behind rest) rest) → IsWithin (then_read outcome go) row
then_within Nothing go row is further = tt
then_within (Stopped tree expressions rest) go row is further = tt
then_within (Read tree levels behind rest) go row is further = within_more (go tree levels behind rest) rest row is (further tree levels behind rest)

prepended_within : {A : Type 0} (tree : A) (levels : ℕ) (outcome : Outcome (List A)) (row : List Terminal) → IsWithin outcome row → IsWithin (prepended tree levels outcome) row
prepended_within tree levels Nothing row is = tt
prepended_within tree levels (Stopped trees expressions rest) row is = tt
prepended_within tree levels (Read trees others behind rest) row is = is

chosen_within : {A : Type 0} (test : Bool) (one other : Outcome A) (row : List Terminal) → IsWithin one row → IsWithin other row → IsWithin (if test then one else other) row
chosen_within true one other row p q = p
chosen_within false one other row p q = q

behind_first_shorter : (row : List Terminal) → length (behind_first row) ≤ length row
behind_first_shorter [] = omega arith
behind_first_shorter (first ∷ others) = omega arith

pub list_within : {A : Type 0} (closes : List Terminal → Bool) (item : Reader A) → ((context : Context) (row : List Terminal) → IsWithin (item context row) row)
    → (count : ℕ) (context : Context) (row : List Terminal) → IsWithin (read_list closes item count context row) row
unfolding read_list
list_within closes item each zero context row = tt
list_within closes item each (suc count) context row =
    then_within (item context row) _ row (each context row)
    (λ tree levels behind rest.
    chosen_within (has_mark (codes ",") rest && not (closes (behind_first rest))) (prepended tree levels (read_list closes item count behind (behind_first rest))) (Read (tree ∷ []) levels behind rest) rest
    (prepended_within tree levels (read_list closes item count behind (behind_first rest)) rest
    (within_more (read_list closes item count behind (behind_first rest)) (behind_first rest) rest (behind_first_shorter rest) (list_within closes item each count behind (behind_first rest))))
    (omega arith))

-- a postfix operator
Reaching : (Expr → ℕ → Reader Operand) → Type 0
Reaching go = (base : Expr) (levels : ℕ) (context : Context) (row : List Terminal) → Reaches (go base levels context row) row

read_far : (tree : Operand) (levels : ℕ) (behind : Context) (rest : List Terminal) → Reaches (Read tree levels behind rest) rest
read_far tree levels behind rest = omega arith

stopped_far : (base : Expr) (context : Context) (mark : Terminal) (row : List Terminal) → Reaches (stopped_operand base context mark row) (mark ∷ row)
stopped_far base context mark row = omega arith

mark_far : (bytes : List ℕ) (go : Terminal → List Terminal → Outcome Operand) (without : Outcome Operand) (row longer : List Terminal) → length row ≤ length longer → Reaches without longer
    → ((first : Terminal) (others : List Terminal) → Reaches (go first others) others) → Reaches (after_mark bytes row without go) longer
mark_far bytes go without row longer less none further = after_first_reaches (is_mark bytes) row without go longer less none further

index_reaches : (go : Expr → ℕ → Reader Operand) → Reaching go → (inner : Level) → IsWithinLevel inner → (base : Expr) (levels : ℕ) (context : Context) (mark : Terminal) (row : List Terminal)
    → Reaches (index_behind go inner base levels context mark row) (mark ∷ row)
unfolding Reaching
index_reaches go further inner within base levels context mark row =
    or_else_reaches (inner.expression context row) (stopped_operand base context mark row) _ row (mark ∷ row) (within.expression context row) (omega arith) (stopped_far base context mark row)
    (λ index others behind rest less.
    mark_far (codes "]") (λ closing more. go (numbered behind mark.place (Index base index)) (1 + max levels others) (counted behind) more) (stopped_operand base context mark row) rest (mark ∷ row) less (stopped_far base context mark row)
    (λ closing more. further (numbered behind mark.place (Index base index)) (1 + max levels others) (counted behind) more))

call_reaches : (go : Expr → ℕ → Reader Operand) → Reaching go → (inner : Level) → IsWithinLevel inner → (place : Place) (base : Expr) (levels : ℕ) (context : Context) (mark : Terminal) (row : List Terminal)
    → Reaches (call_behind go inner place base levels context mark row) (mark ∷ row)
unfolding Reaching
call_reaches go further inner within place base levels context mark row =
    mark_far (codes ")") (λ closing more. go (numbered context place (Call base [])) (1 + levels) (counted context) more) _ row (mark ∷ row) (omega arith)
    (chosen_reaches (begins_with_typedef context.scope row) (stopped_operand base context mark row) _ (mark ∷ row) (stopped_far base context mark row)
    (or_else_reaches (read_list never inner.assignment (length row + 1) context row) (stopped_operand base context mark row) _ row (mark ∷ row)
    (list_within never inner.assignment within.assignment (length row + 1) context row) (omega arith) (stopped_far base context mark row)
    (λ arguments others behind rest less.
    mark_far (codes ")") (λ closing more. go (numbered behind place (Call base arguments)) (1 + max levels others) (counted behind) more) (stopped_operand base context mark row) rest (mark ∷ row) less (stopped_far base context mark row)
    (λ closing more. further (numbered behind place (Call base arguments)) (1 + max levels others) (counted behind) more))))
    (λ closing more. further (numbered context place (Call base [])) (1 + levels) (counted context) more)

member_reaches : (go : Expr → ℕ → Reader Operand) → Reaching go → (through : Bool) (base : Expr) (levels : ℕ) (context : Context) (mark : Terminal) (row : List Terminal)
    → Reaches (member_behind go through base levels context mark row) (mark ∷ row)
unfolding Reaching
member_reaches go further through base levels context mark row =
    after_first_reaches is_name row (stopped_operand base context mark row) (λ name more. go (numbered context mark.place (Member base (identifier name) through)) (1 + levels) (counted context) more) (mark ∷ row) (omega arith) (stopped_far base context mark row)
    (λ name more. further (numbered context mark.place (Member base (identifier name) through)) (1 + levels) (counted context) more)

postfix_reaches : (go : Expr → ℕ → Reader Operand) → Reaching go → (inner : Level) → IsWithinLevel inner → (start : List Terminal) (base : Expr) (levels : ℕ) (context : Context) (mark : Terminal) (row : List Terminal) (kind : PostfixStart)
    → Reaches (postfix_with go inner start base levels context mark row kind) (mark ∷ row)
unfolding Reaching
postfix_reaches go further inner within start base levels context mark row postfix.Index = index_reaches go further inner within base levels context mark row
postfix_reaches go further inner within start base levels context mark row postfix.Call = call_reaches go further inner within (first_word_place (front_of start (mark ∷ row))) base levels context mark row
postfix_reaches go further inner within start base levels context mark row (postfix.Member through) = member_reaches go further through base levels context mark row
postfix_reaches go further inner within start base levels context mark row (postfix.Count up) =
    reaches_more (go (numbered context mark.place (Count up true base)) (1 + levels) (counted context) row) row (mark ∷ row) (omega arith) (further (numbered context mark.place (Count up true base)) (1 + levels) (counted context) row)
postfix_reaches go further inner within start base levels context mark row postfix.Other = read_far (unary_operand base) levels context (mark ∷ row)

pub postfixes_reach : (inner : Level) → IsWithinLevel inner → (start : List Terminal) (count : ℕ) (base : Expr) (levels : ℕ) (context : Context) (row : List Terminal)
    → Reaches (read_postfixes inner start count base levels context row) row
unfolding read_postfixes Reaching
postfixes_reach inner within start zero base levels context row = read_far (unary_operand base) levels context row
postfixes_reach inner within start (suc count) base levels context [] = read_far (unary_operand base) levels context []
postfixes_reach inner within start (suc count) base levels context (mark ∷ row) =
    chosen_reaches (goes_on (postfix_start mark) && not (nat_le levels inner.most)) (stopped_operand base context mark row) _ (mark ∷ row) (stopped_far base context mark row)
    (postfix_reaches (read_postfixes inner start count) (postfixes_reach inner within start count) inner within start base levels context mark row (postfix_start mark))
