-- The update stands behind the address, with the int 1 on its right.
use Rattle.std.proofs.Common.{◌≡◌, List, IfOk, subst}
use Rattle.cbase.specs.declared.tree.operators.BinaryOp.{BinaryOp}
use Rattle.bytes_core.specs.declared.word.Word.TheVariants.{Plain}
use Rattle.choices.specs.declared.choice.Choice.{Choice}
use Rattle.typing.specs.ctypes.Integers.{int}
use Rattle.typing.specs.declared.ctypes.kind.IntegerType.{IntegerType}
use Rattle.c_machine.specs.declared.kind.Kind.TheVariants.{Integer}
use Rattle.c_machine.specs.Step.{updated, counted, counting}
use Rattle.c_machine.specs.Words.{scalar_bytes}
use Rattle.c_steps.specs.ComesTo.{comes_to}
use Rattle.c_steps.proofs.Popping.{behind_one}
use Rattle.c_steps.proofs.updates.count_by.Goals as goal

pub returns : goal.returns
returns g c =
    let Comes : BinaryOp → IntegerType → Type 0 = λ op t.
    IfOk c.updated.result (λ outcome. (choices : List Choice) → comes_to outcome c.updated.new.state choices
    ≡ updated op c.args.place c.args.kind.now (scalar_bytes c.args.kind.now) (Integer t) c.in-Some.at (Plain 1) (counted c.args.after) c.pop.new.self choices) in
    behind_one c.updated.result c.in-Some.at c.args.state.now c.pop.new.self c.updated.new.state
    (λ at next choices. updated (counting c.args.up) c.args.place c.args.kind.now (scalar_bytes c.args.kind.now) (Integer int) at (Plain 1) (counted c.args.after) next choices)
    c.in-Some.ensures.some
    (subst (λ (t : IntegerType). Comes (counting c.args.up) t) c.int.ensures (subst (λ (op : BinaryOp). Comes op c.int.result) c.counting.ensures c.updated.ensures))
