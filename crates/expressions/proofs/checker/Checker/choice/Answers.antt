-- `?:`: its operands, and what is found behind them.
use Rattle.std.proofs.Common.{refl, [], ◌∷◌}
use Rattle.cbase.specs.declared.tree.expr.ExprForm.TheOpen.{Choose}
use Rattle.typing.specs.Pieces.{Loaded}
use Rattle.typing.specs.Rules.{ConditionalOperator}
use Rattle.expressions.specs.declared.found.Found.TheVariants.{Refused}
use Rattle.expressions.specs.Found.{an_operand, two_operands, three_operands}
use Rattle.expressions.proofs.Growth.{below_grows}
use Rattle.expressions.proofs.Several.{pieces_refused, then_passes, then_refused}
use Rattle.expressions.proofs.Walking.{judged_result, passed_of, refused_form}
use Rattle.expressions.proofs.checker.Checker.choice.Goals as goal

pub returns-in-Ok-Passes-two : goal.returns-in-Ok-Passes-two
returns-in-Ok-Passes-two g c = judged_result c.args.self.now.abi c.args.node.number c.args.node.place (Choose c.args.test.now c.args.one.now c.args.other.now) three_operands c.args.context.now c.two.new.context _ (c.in-Ok-Passes.known, c.in-Ok-Passes-two.a, c.in-Ok-Passes-two.b) _ _ _ c.choice_node.result c.choice_node.ensures
    (then_passes c.args.self.now.abi (Loaded c.args.test.now) (Loaded c.args.one.now ∷ Loaded c.args.other.now ∷ []) an_operand two_operands three_operands
    c.args.context.now c.loaded.new.context c.two.new.context c.in-Ok-Passes.known (c.in-Ok-Passes-two.a, c.in-Ok-Passes-two.b) (c.in-Ok-Passes.known, c.in-Ok-Passes-two.a, c.in-Ok-Passes-two.b) c.in-Ok-Passes.field-0 c.in-Ok-Passes-two.field-0
    c.in-Ok-Passes.field-0-is c.in-Ok-Passes.ensures c.in-Ok-Passes-two.field-0-is c.in-Ok-Passes-two.ensures (λ n. refl)
    (λ grows first rest. (below_grows c.loaded.new.context c.two.new.context grows c.in-Ok-Passes.known.ctype first, rest)))
    (λ n handed. ConditionalOperator refl refl refl)

pub returns-in-Ok-Refused : goal.returns-in-Ok-Refused
returns-in-Ok-Refused g c = refused_form c.args.self.now.abi c.args.node.number c.args.node.place (Choose c.args.test.now c.args.one.now c.args.other.now) three_operands c.args.context.now c.loaded.new.context c.in-Ok-Refused.fault (Refused c.in-Ok-Refused.fault) refl
    (pieces_refused c.args.self.now.abi (Loaded c.args.test.now) (Loaded c.args.one.now ∷ Loaded c.args.other.now ∷ []) an_operand c.args.context.now c.loaded.new.context c.in-Ok-Refused.fault c.in-Ok-Refused.field-0 c.in-Ok-Refused.field-0-is c.in-Ok-Refused.ensures)

pub returns-in-Ok-Refused-two : goal.returns-in-Ok-Refused-two
returns-in-Ok-Refused-two g c = refused_form c.args.self.now.abi c.args.node.number c.args.node.place (Choose c.args.test.now c.args.one.now c.args.other.now) three_operands c.args.context.now c.two.new.context c.in-Ok-Refused-two.fault (Refused c.in-Ok-Refused-two.fault) refl
    (then_refused c.args.self.now.abi (Loaded c.args.test.now) (Loaded c.args.one.now ∷ Loaded c.args.other.now ∷ []) an_operand two_operands
    c.args.context.now c.loaded.new.context c.two.new.context c.in-Ok-Passes.known c.in-Ok-Refused-two.fault c.in-Ok-Passes.field-0 c.in-Ok-Refused-two.field-0
    c.in-Ok-Passes.field-0-is c.in-Ok-Passes.ensures c.in-Ok-Refused-two.field-0-is c.in-Ok-Refused-two.ensures)

pub loaded-requires-clause-nests : goal.loaded-requires-clause-nests
loaded-requires-clause-nests g c = c.requires.nests

pub loaded-requires-clause-deep : goal.loaded-requires-clause-deep
loaded-requires-clause-deep g c = c.requires.test

pub two-requires-clause-nests : goal.two-requires-clause-nests
two-requires-clause-nests g c = c.requires.nests

pub two-requires-clause-left : goal.two-requires-clause-left
two-requires-clause-left g c = c.requires.one

pub two-requires-clause-right : goal.two-requires-clause-right
two-requires-clause-right g c = c.requires.other

pub choice_node-requires-clause-test : goal.choice_node-requires-clause-test
choice_node-requires-clause-test g c = below_grows _ _ (passed_of _ _ _ _ _ _ c.in-Ok-Passes-two.field-0-is c.in-Ok-Passes-two.ensures).grows c.in-Ok-Passes.known.ctype (passed_of _ _ _ _ _ _ c.in-Ok-Passes.field-0-is c.in-Ok-Passes.ensures).below

pub choice_node-requires-clause-one : goal.choice_node-requires-clause-one
choice_node-requires-clause-one g c = (passed_of _ _ _ _ _ _ c.in-Ok-Passes-two.field-0-is c.in-Ok-Passes-two.ensures).below.0

pub choice_node-requires-clause-other : goal.choice_node-requires-clause-other
choice_node-requires-clause-other g c = (passed_of _ _ _ _ _ _ c.in-Ok-Passes-two.field-0-is c.in-Ok-Passes-two.ensures).below.1
