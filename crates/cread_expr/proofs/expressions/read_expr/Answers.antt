use Rattle.std.proofs.Common.{◌≡◌, ℕ, ◌+◌, true, false, take, Some, ◌∙◌, ap, sym}
use Rattle.std.specs.List.{prefix_len}
use Rattle.cbase.specs.declared.tree.expr.Expr.{Expr}
use Rattle.cevents.specs.Building.{built_all}
use Rattle.cevents.specs.Workshop.{expr_alone, start}
use Rattle.cgrammar.specs.Readings.{IsExpressionAt, IsLongestExpressionAt, most_levels}
use Rattle.cgrammar.specs.Terminals.{last_place, comes_before}
use Rattle.cparser.specs.ReadingSteps.{reads}
use Rattle.cparser.specs.declared.wanted.Wanted.TheVariants.{Expression}
use Rattle.cread_expr.proofs.Calls.{expression_reading, is_built, is_there, is_none}
use Rattle.cread_expr.proofs.Parts.{if_some, if_none}
use Rattle.cread_expr.proofs.expressions.read_expr.Goals as goal

pub expression_of-requires : goal.expression_of-requires
expression_of-requires c =
    is_built (reads most_levels Expression) expr_alone c.args.t.now c.args.scope.now c.args.at
    (expression_reading most_levels c.args.t.now c.args.scope.now c.args.at c.requires.numbered) c.in_ok-front.front.start c.as_slice-row.result.now c.in_ok-written.written
    (c.as_slice-row.ensures.value ∙ c.in_ok-front.ensures.row)
    (c.in_ok-front.ensures.start ∙ ap (prefix_len (comes_before c.args.at)) (sym c.as_slice-row.ensures.value)) c.in_ok-written.ensures

pub returns-clause-longest : goal.returns-clause-longest
returns-clause-longest c =
    if_some (λ read. c.in_ok-written.written.found ≡ true)
    (λ read. expr_alone (built_all c.as_slice-row.result.now c.in_ok-written.written.events (Some start)) ≡ Some read.expr)
    (λ read. read.after ≡ (last_place (take c.in_ok-written.written.at c.as_slice-row.result.now)).at + 1)
    (λ read. IsLongestExpressionAt most_levels c.args.t.now c.args.scope.now c.args.at read.after read.expr)
    c.expression_of.result
    (λ read found made after.
    is_there (reads most_levels Expression) expr_alone c.args.t.now c.args.scope.now c.args.at
    (expression_reading most_levels c.args.t.now c.args.scope.now c.args.at c.requires.numbered) c.in_ok-front.front.start c.as_slice-row.result.now c.in_ok-written.written
    (c.as_slice-row.ensures.value ∙ c.in_ok-front.ensures.row)
    (c.in_ok-front.ensures.start ∙ ap (prefix_len (comes_before c.args.at)) (sym c.as_slice-row.ensures.value)) c.in_ok-written.ensures
    found read.expr read.after made after)
    c.expression_of.ensures.found c.expression_of.ensures.expr c.expression_of.ensures.after

pub returns-clause-none : goal.returns-clause-none
returns-clause-none c =
    if_none (c.in_ok-written.written.found ≡ false)
    ((expr : Expr) (after : ℕ) → IsExpressionAt most_levels c.args.t.now c.args.scope.now c.args.at after expr → ⊥)
    c.expression_of.result
    (is_none (reads most_levels Expression) expr_alone c.args.t.now c.args.scope.now c.args.at
    (expression_reading most_levels c.args.t.now c.args.scope.now c.args.at c.requires.numbered) c.in_ok-front.front.start c.as_slice-row.result.now c.in_ok-written.written
    (c.as_slice-row.ensures.value ∙ c.in_ok-front.ensures.row)
    (c.in_ok-front.ensures.start ∙ ap (prefix_len (comes_before c.args.at)) (sym c.as_slice-row.ensures.value)) c.in_ok-written.ensures)
    c.expression_of.ensures.none
