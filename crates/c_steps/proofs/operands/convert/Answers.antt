-- The value that is converted is the operand.
use Rattle.std.proofs.Common.{◌∙◌, List, length, sym, ap, subst}
use Rattle.bytes_core.specs.declared.block.Block.{Block}
use Rattle.bytes_core.specs.Valid.{WordNamesBelow}
use Rattle.c_machine.specs.Words.{as_kind}
use Rattle.c_steps.proofs.NamedWords.{names_of_converted}
use Rattle.c_steps.proofs.Popping.{made_of_one}
use Rattle.c_steps.proofs.operands.convert.Goals as goal

pub go_on_with-requires : goal.go_on_with-requires
go_on_with-requires g c =
    subst (WordNamesBelow (length c.pop.new.self.memory)) (sym c.as_kind-converted.ensures)
    (names_of_converted _ c.memory.result.now c.args.from c.args.to c.in-Some.word c.in-Some.ensures.names)

pub returns : goal.returns
returns g c =
    made_of_one c.go_on_with.result c.in-Some.word c.as_kind-converted.result c.args.state.now c.pop.new.self c.go_on_with.new.state
    (λ memory word. as_kind memory c.args.from c.args.to word) c.in-Some.ensures.some
    (c.as_kind-converted.ensures ∙ ap (λ (blocks : List Block). as_kind blocks c.args.from c.args.to c.in-Some.word) c.memory.ensures) c.go_on_with.ensures
