use Rattle.std.proofs.Common.{ap, map, ◌∙◌}
use Rattle.std.specs.Prelude.{option_map}
use Rattle.cbase.specs.declared.tree.expr.ExprForm.TheViews.{out-ExprForm, outs-Name}
use Rattle.expressions.specs.Numbers.{handed_at}
use Rattle.items.specs.initialisers.Constants.{row_at}
use Rattle.items.proofs.initialisers.Constants.{no_fixed_name}
use Rattle.items.proofs.initialisers.constant.value_leads.Goals as goal

pub returns-then-not-is_fixed : goal.returns-then-not-is_fixed
returns-then-not-is_fixed c = (
  tt,
  λ n agrees. no_fixed_name (map (handed_at n) c.args.rows.now) c.args.expr.now.number (out-ExprForm c.args.expr.now.form) c.in-Name.field-0 (option_map (row_at n) c.row_of-row.result)
      (ap out-ExprForm c.in-Name.is ∙ outs-Name c.in-Name.field-0) (c.row_of-row.ensures n) (c.is_fixed.ensures n ∙ c.if-not-is_fixed.true),
)
