use Rattle.std.proofs.Common.{ap, map, ◌∙◌}
use Rattle.std.specs.Prelude.{option_map}
use Rattle.cbase.specs.declared.tree.expr.ExprForm.TheViews.{out-ExprForm}
use Rattle.typing.specs.Initialisers.{leads}
use Rattle.expressions.specs.Numbers.{handed_at}
use Rattle.items.specs.declared.initialisers.constant.Use.{Use}
use Rattle.items.specs.initialisers.Constants.{row_at, use_at}
use Rattle.items.proofs.initialisers.Constants.{constant_leads, value_led}
use Rattle.items.proofs.initialisers.constant.leads.Goals as goal

pub returns-then-has_value : goal.returns-then-has_value
returns-then-has_value c = (
  tt,
  λ n agrees. ap (λ (manner : Use). leads (map (handed_at n) c.args.rows.now) (use_at manner) c.args.expr.now.number (out-ExprForm c.args.expr.now.form)) c.in-Value.is
      ∙ constant_leads (map (handed_at n) c.args.rows.now) c.args.expr.now.number (out-ExprForm c.args.expr.now.form) (option_map (row_at n) c.row_of.result) (c.row_of.ensures n) (c.has_value.ensures n ∙ c.if-has_value.true),
)

pub returns-else-has_value : goal.returns-else-has_value
returns-else-has_value c = value_led c.args.context.now c.args.rows.now c.args.manner c.args.expr.now c.row_of.result c.value_leads.result c.in-Value.is c.row_of.ensures
    (λ n. c.has_value.ensures n ∙ c.if-has_value.false) c.value_leads.ensures
