-- A name of a function, of a typedef or of an object.
use Rattle.std.proofs.Common.{sym, ap, ◌∙◌}
use Rattle.cbase.specs.declared.tree.expr.ExprForm.TheViews.{out-Declared}
use Rattle.typing.specs.Declarations.{is_typedef}
use Rattle.items.proofs.Items.{head_left, no_params, typedef_name}
use Rattle.items.proofs.names.one_name.Goals as goal

pub returns-then-is_some : goal.returns-then-is_some
returns-then-is_some g c = head_left c.args.checker.now.abi c.args.storage c.args.base c.args.name.now c.args.context.now c.head.new.context c.leave.new.self c.in_ok-found.found c.without_value.result
    (sym c.is_some.ensures ∙ c.if-is_some.true) c.leave.ensures c.without_value.ensures c.in_ok-found.ensures

pub object_name-requires-clause-params : goal.object_name-requires-clause-params
object_name-requires-clause-params g c = no_params (out-Declared c.args.name.now).params (sym c.is_some.ensures ∙ c.if-is_some.false)

pub returns-in-Typedef : goal.returns-in-Typedef
returns-in-Typedef g c = typedef_name c.args.checker.now.abi c.args.storage c.args.base c.args.name.now c.args.context.now c.object_name.new.context c.object_name.result
    (no_params (out-Declared c.args.name.now).params (sym c.is_some.ensures ∙ c.if-is_some.false)) (ap is_typedef c.in-Typedef.is) c.object_name.ensures

pub object-requires-clause-params : goal.object-requires-clause-params
object-requires-clause-params g c = no_params (out-Declared c.args.name.now).params (sym c.is_some.ensures ∙ c.if-is_some.false)
