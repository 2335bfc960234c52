use Rattle.std.proofs.Common.{ap, map, ◌∙◌}
use Rattle.std.specs.Prelude.{option_map}
use Rattle.cbase.specs.declared.tree.expr.ExprForm.TheViews.{out-ExprForm, outs-Name, outs-Index}
use Rattle.expressions.specs.Numbers.{handed_at}
use Rattle.items.specs.initialisers.Constants.{row_at}
use Rattle.items.proofs.initialisers.Constants.{place_of_name, no_constant_index, item_of, array_lower}
use Rattle.items.proofs.initialisers.constant.place_leads.Goals as goal

pub returns-in-Name : goal.returns-in-Name
returns-in-Name c = (
  tt,
  λ n agrees. place_of_name (map (handed_at n) c.args.rows.now) c.args.expr.now.number (out-ExprForm c.args.expr.now.form) c.in-Name.field-0 (option_map (row_at n) c.row_of.result) c.is_fixed.result
      (ap out-ExprForm c.in-Name.is ∙ outs-Name c.in-Name.field-0) (c.row_of.ensures n) (c.is_fixed.ensures n),
)

pub returns-then-not-has_value : goal.returns-then-not-has_value
returns-then-not-has_value c = (
  tt,
  λ n agrees. no_constant_index (map (handed_at n) c.args.rows.now) c.args.expr.now.number (out-ExprForm c.args.expr.now.form) c.in-Index.base c.in-Index.index c.get-in-Index.result.now
      (option_map (row_at n) c.row_of-in-Index.result) (ap out-ExprForm c.in-Index.is ∙ outs-Index c.in-Index.base c.in-Index.index) c.get-in-Index.ensures (c.row_of-in-Index.ensures n) (c.has_value.ensures n ∙ c.if-not-has_value.true),
)

pub returns-else-not-branch : goal.returns-else-not-branch
returns-else-not-branch c = (
  array_lower c.args.expr.now c.in-Index.base c.in-Index.index c.get-in-Index-3.result.now c.in-Index.is c.get-in-Index-3.ensures,
  λ n agrees. item_of (map (handed_at n) c.args.rows.now) c.args.expr.now.number (out-ExprForm c.args.expr.now.form) c.in-Index.base c.in-Index.index c.get-in-Index.result.now
      (option_map (row_at n) c.row_of-in-Index.result) (ap out-ExprForm c.in-Index.is ∙ outs-Index c.in-Index.base c.in-Index.index) c.get-in-Index.ensures (c.row_of-in-Index.ensures n)
      c.get-in-Index-2.result.now (option_map (row_at n) c.row_of-in-Index-2.result) c.get-in-Index-3.result.now c.get-in-Index-2.ensures c.get-in-Index-3.ensures (c.row_of-in-Index-2.ensures n)
      (c.has_value.ensures n ∙ c.if-not-has_value.false) (c.in_ok-is_array-in-Index.ensures n agrees ∙ c.if-not-branch.false),
)
