-- A form of one operand: its operand, and what is found behind it.
use Rattle.std.proofs.Common.{◌≡◌, ◌≤◌, Result, Ok, IfOk, sym, ap, subst, ◌∙◌}
use Rattle.cbase.specs.declared.abi.Abi.{Abi}
use Rattle.cbase.specs.declared.no_memory.NoMemory.{NoMemory}
use Rattle.cbase.specs.declared.tree.expr.Expr.{Expr}
use Rattle.ctrees.specs.Levels.{expr_levels}
use Rattle.typing.specs.Pieces.{Piece, base_of}
use Rattle.typing.specs.Typing.{PieceIs}
use Rattle.expressions.specs.declared.found.Found.{Found}
use Rattle.expressions.specs.declared.found.Found.TheVariants.{Refused}
use Rattle.expressions.specs.declared.known.Known.{Known}
use Rattle.expressions.specs.Context.{Context}
use Rattle.expressions.specs.Found.{an_operand, one_operand}
use Rattle.expressions.specs.Shapes.{single_form}
use Rattle.expressions.specs.Walked.{Walked, Says}
use Rattle.expressions.proofs.Behind.{single_walked, found_behind}
use Rattle.expressions.proofs.Parts.{unloaded_part}
use Rattle.expressions.proofs.Walking.{form_alike, passed_of, refused_form}
use Rattle.expressions.proofs.checker.Checker.single.Goals as goal
use Rattle.expressions.proofs.checker.Checker.single.Goals.{then-is_loaded, else-is_loaded}

-- what one of two calls tells of the operand
told_of : (abi : Abi) (piece : Piece) (old mid new : Context) (given told : Result (Found Known) NoMemory) (found : Found Known) → told ≡ Ok found → told ≡ given → new ≡ mid
    → IfOk given (λ one. Walked (Says abi (λ o. PieceIs piece o)) an_operand old mid one) → Walked (Says abi (λ o. PieceIs piece o)) an_operand old new found
told_of abi piece old mid new given told found is same here walked =
    subst (λ (context : Context). Walked (Says abi (λ o. PieceIs piece o)) an_operand old context found) (sym here)
    (subst (λ (r : Result (Found Known) NoMemory). IfOk r (λ one. Walked (Says abi (λ o. PieceIs piece o)) an_operand old mid one)) (sym same ∙ is) walked)

pub returns-in-Ok-Passes : goal.returns-in-Ok-Passes
returns-in-Ok-Passes g c =
    let walked : Walked (Says c.args.self.now.abi (λ o. PieceIs (base_of c.is_loaded.result c.get-arg.result.now) o)) an_operand c.args.context.now c.if-is_loaded.context c.in-Ok-Passes.field-0 = elim c.if-is_loaded.branch [
      | then-is_loaded w ↦ told_of c.args.self.now.abi (base_of c.is_loaded.result c.get-arg.result.now) c.args.context.now w.loaded-told.new.context c.if-is_loaded.context w.loaded-told.result c.if-is_loaded.told c.in-Ok-Passes.field-0 c.in-Ok-Passes.is w.told-is w.context-is
          (rw w.if-is_loaded.true w.loaded-told.ensures)
      | else-is_loaded w ↦ told_of c.args.self.now.abi (base_of c.is_loaded.result c.get-arg.result.now) c.args.context.now w.ask_expression-told.new.context c.if-is_loaded.context w.ask_expression-told.result c.if-is_loaded.told c.in-Ok-Passes.field-0 c.in-Ok-Passes.is w.told-is w.context-is
          (rw w.if-is_loaded.false (unloaded_part c.args.self.now.abi c.get-arg.result.now _ _ w.ask_expression-told.result w.ask_expression-told.ensures))
    ] in
    form_alike c.args.self.now.abi c.args.node.number c.args.node.place (single_form c.args.single c.get-arg.result.now) (single_form c.args.single c.args.arg.now) c.args.context.now _ c.single_node.result
    (ap (λ (arg : Expr). single_form c.args.single arg) c.get-arg.ensures)
    (found_behind c.args.self.now.abi c.args.node.number c.args.node.place (single_form c.args.single c.get-arg.result.now) one_operand c.args.context.now c.if-is_loaded.context _ c.in-Ok-Passes.a c.single_node.result
    (c.single_node.ensures c.args.self.now.abi c.get-arg.result.now)
    (passed_of _ _ _ _ _ c.in-Ok-Passes.field-0 (rw c.in-Ok-Passes.is at c.in-Ok-Passes.field-0-is) (single_walked c.args.self.now.abi c.args.single c.get-arg.result.now c.is_loaded.result c.args.context.now c.if-is_loaded.context c.in-Ok-Passes.field-0 c.is_loaded.ensures walked)))

pub returns-in-Ok-Refused : goal.returns-in-Ok-Refused
returns-in-Ok-Refused g c =
    let walked : Walked (Says c.args.self.now.abi (λ o. PieceIs (base_of c.is_loaded.result c.get-arg.result.now) o)) an_operand c.args.context.now c.if-is_loaded.context c.in-Ok-Refused.field-0 = elim c.if-is_loaded.branch [
      | then-is_loaded w ↦ told_of c.args.self.now.abi (base_of c.is_loaded.result c.get-arg.result.now) c.args.context.now w.loaded-told.new.context c.if-is_loaded.context w.loaded-told.result c.if-is_loaded.told c.in-Ok-Refused.field-0 c.in-Ok-Refused.is w.told-is w.context-is
          (rw w.if-is_loaded.true w.loaded-told.ensures)
      | else-is_loaded w ↦ told_of c.args.self.now.abi (base_of c.is_loaded.result c.get-arg.result.now) c.args.context.now w.ask_expression-told.new.context c.if-is_loaded.context w.ask_expression-told.result c.if-is_loaded.told c.in-Ok-Refused.field-0 c.in-Ok-Refused.is w.told-is w.context-is
          (rw w.if-is_loaded.false (unloaded_part c.args.self.now.abi c.get-arg.result.now _ _ w.ask_expression-told.result w.ask_expression-told.ensures))
    ] in
    form_alike c.args.self.now.abi c.args.node.number c.args.node.place (single_form c.args.single c.get-arg.result.now) (single_form c.args.single c.args.arg.now) c.args.context.now _ (Ok (Refused c.in-Ok-Refused.fault))
    (ap (λ (arg : Expr). single_form c.args.single arg) c.get-arg.ensures)
    (refused_form c.args.self.now.abi c.args.node.number c.args.node.place (single_form c.args.single c.get-arg.result.now) one_operand c.args.context.now c.if-is_loaded.context c.in-Ok-Refused.fault c.in-Ok-Refused.field-0 (rw c.in-Ok-Refused.is at c.in-Ok-Refused.field-0-is) (single_walked c.args.self.now.abi c.args.single c.get-arg.result.now c.is_loaded.result c.args.context.now c.if-is_loaded.context c.in-Ok-Refused.field-0 c.is_loaded.ensures walked))

pub single_node-requires : goal.single_node-requires
single_node-requires g c =
    let walked : Walked (Says c.args.self.now.abi (λ o. PieceIs (base_of c.is_loaded.result c.get-arg.result.now) o)) an_operand c.args.context.now c.if-is_loaded.context c.in-Ok-Passes.field-0 = elim c.if-is_loaded.branch [
      | then-is_loaded w ↦ told_of c.args.self.now.abi (base_of c.is_loaded.result c.get-arg.result.now) c.args.context.now w.loaded-told.new.context c.if-is_loaded.context w.loaded-told.result c.if-is_loaded.told c.in-Ok-Passes.field-0 c.in-Ok-Passes.is w.told-is w.context-is
          (rw w.if-is_loaded.true w.loaded-told.ensures)
      | else-is_loaded w ↦ told_of c.args.self.now.abi (base_of c.is_loaded.result c.get-arg.result.now) c.args.context.now w.ask_expression-told.new.context c.if-is_loaded.context w.ask_expression-told.result c.if-is_loaded.told c.in-Ok-Passes.field-0 c.in-Ok-Passes.is w.told-is w.context-is
          (rw w.if-is_loaded.false (unloaded_part c.args.self.now.abi c.get-arg.result.now _ _ w.ask_expression-told.result w.ask_expression-told.ensures))
    ] in
    (passed_of _ _ _ _ _ _ (rw c.in-Ok-Passes.is at c.in-Ok-Passes.field-0-is) walked).below

pub loaded-told-requires-clause-nests : goal.loaded-told-requires-clause-nests
loaded-told-requires-clause-nests g c = c.requires.nests

pub loaded-told-requires-clause-deep : goal.loaded-told-requires-clause-deep
loaded-told-requires-clause-deep g c = subst (λ (arg : Expr). expr_levels arg ≤ c.args.self.now.depth) (sym c.get-arg.ensures) c.requires.arg

pub ask_expression-told-requires-clause-nests : goal.ask_expression-told-requires-clause-nests
ask_expression-told-requires-clause-nests g c = c.requires.nests

pub ask_expression-told-requires-clause-deep : goal.ask_expression-told-requires-clause-deep
ask_expression-told-requires-clause-deep g c = subst (λ (arg : Expr). expr_levels arg ≤ c.args.self.now.depth) (sym c.get-arg.ensures) c.requires.arg
