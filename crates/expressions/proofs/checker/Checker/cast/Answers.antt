-- A cast: its type name and its operand, and what is found behind them.
use Rattle.std.proofs.Common.{refl, [], ◌∷◌}
use Rattle.cbase.specs.declared.tree.expr.ExprForm.TheOpen.{Cast}
use Rattle.typing.specs.Pieces.{Loaded, OfType}
use Rattle.typing.specs.Rules.{CastToType}
use Rattle.expressions.specs.declared.found.Found.TheVariants.{Refused}
use Rattle.expressions.specs.Found.{one_operand, a_type_and_operand}
use Rattle.expressions.proofs.Growth.{below_grows}
use Rattle.expressions.proofs.Parts.{a_type_told, type_found}
use Rattle.expressions.proofs.Several.{loaded_alone, pieces_refused, then_passes, then_refused}
use Rattle.expressions.proofs.Walking.{settled_result, passed_of, refused_form}
use Rattle.expressions.proofs.checker.Checker.cast.Goals as goal

pub returns-in-Ok-Passes-loaded : goal.returns-in-Ok-Passes-loaded
returns-in-Ok-Passes-loaded g c = settled_result c.args.self.now.abi c.args.node.number c.args.node.place (Cast c.args.to.now c.args.arg.now) a_type_and_operand c.args.context.now c.loaded.new.context _ (c.in-Ok-Passes.named, c.in-Ok-Passes-loaded.a) _ _ c.cast_node.result c.cast_node.ensures
    (then_passes c.args.self.now.abi (OfType c.args.to.now) (Loaded c.args.arg.now ∷ []) a_type_told one_operand a_type_and_operand
    c.args.context.now c.type_name.new.context c.loaded.new.context c.in-Ok-Passes.named c.in-Ok-Passes-loaded.a (c.in-Ok-Passes.named, c.in-Ok-Passes-loaded.a) c.in-Ok-Passes.field-0 c.in-Ok-Passes-loaded.field-0
    c.in-Ok-Passes.field-0-is (type_found c.args.self.now.abi c.args.to.now c.args.context.now c.type_name.new.context c.in-Ok-Passes.field-0 c.in-Ok-Passes.ensures) c.in-Ok-Passes-loaded.field-0-is (loaded_alone c.args.self.now.abi c.args.arg.now c.type_name.new.context c.loaded.new.context c.in-Ok-Passes-loaded.field-0 c.in-Ok-Passes-loaded.ensures) (λ n. refl)
    (λ grows first second. (below_grows c.type_name.new.context c.loaded.new.context grows c.in-Ok-Passes.named.ctype first, second)))
    (λ n handed outcome agrees settled. CastToType refl refl settled)

pub returns-in-Ok-Refused : goal.returns-in-Ok-Refused
returns-in-Ok-Refused g c = refused_form c.args.self.now.abi c.args.node.number c.args.node.place (Cast c.args.to.now c.args.arg.now) a_type_and_operand c.args.context.now c.type_name.new.context c.in-Ok-Refused.fault (Refused c.in-Ok-Refused.fault) refl
    (pieces_refused c.args.self.now.abi (OfType c.args.to.now) (Loaded c.args.arg.now ∷ []) a_type_told c.args.context.now c.type_name.new.context c.in-Ok-Refused.fault c.in-Ok-Refused.field-0 c.in-Ok-Refused.field-0-is
    (type_found c.args.self.now.abi c.args.to.now c.args.context.now c.type_name.new.context c.in-Ok-Refused.field-0 c.in-Ok-Refused.ensures))

pub returns-in-Ok-Refused-loaded : goal.returns-in-Ok-Refused-loaded
returns-in-Ok-Refused-loaded g c = refused_form c.args.self.now.abi c.args.node.number c.args.node.place (Cast c.args.to.now c.args.arg.now) a_type_and_operand c.args.context.now c.loaded.new.context c.in-Ok-Refused-loaded.fault (Refused c.in-Ok-Refused-loaded.fault) refl
    (then_refused c.args.self.now.abi (OfType c.args.to.now) (Loaded c.args.arg.now ∷ []) a_type_told one_operand
    c.args.context.now c.type_name.new.context c.loaded.new.context c.in-Ok-Passes.named c.in-Ok-Refused-loaded.fault c.in-Ok-Passes.field-0 c.in-Ok-Refused-loaded.field-0
    c.in-Ok-Passes.field-0-is (type_found c.args.self.now.abi c.args.to.now c.args.context.now c.type_name.new.context c.in-Ok-Passes.field-0 c.in-Ok-Passes.ensures) c.in-Ok-Refused-loaded.field-0-is (loaded_alone c.args.self.now.abi c.args.arg.now c.type_name.new.context c.loaded.new.context c.in-Ok-Refused-loaded.field-0 c.in-Ok-Refused-loaded.ensures))

pub type_name-requires-clause-nests : goal.type_name-requires-clause-nests
type_name-requires-clause-nests g c = c.requires.nests

pub type_name-requires-clause-deep : goal.type_name-requires-clause-deep
type_name-requires-clause-deep g c = c.requires.to

pub loaded-requires-clause-nests : goal.loaded-requires-clause-nests
loaded-requires-clause-nests g c = c.requires.nests

pub loaded-requires-clause-deep : goal.loaded-requires-clause-deep
loaded-requires-clause-deep g c = c.requires.arg

pub cast_node-requires-clause-to : goal.cast_node-requires-clause-to
cast_node-requires-clause-to g c = below_grows _ _ (passed_of _ _ _ _ _ _ c.in-Ok-Passes-loaded.field-0-is c.in-Ok-Passes-loaded.ensures).grows c.in-Ok-Passes.named.ctype (passed_of _ _ _ _ _ _ c.in-Ok-Passes.field-0-is c.in-Ok-Passes.ensures).below

pub cast_node-requires-clause-arg : goal.cast_node-requires-clause-arg
cast_node-requires-clause-arg g c = (passed_of _ _ _ _ _ _ c.in-Ok-Passes-loaded.field-0-is c.in-Ok-Passes-loaded.ensures).below
