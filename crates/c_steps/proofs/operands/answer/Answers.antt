-- Whether the value is not 0 is the operand.
use Rattle.std.proofs.Common.{◌∙◌, List, length, sym, ap, subst}
use Rattle.bytes_core.specs.declared.block.Block.{Block}
use Rattle.bytes_core.specs.Valid.{WordNamesBelow}
use Rattle.c_machine.specs.Words.{is_true, told}
use Rattle.c_steps.proofs.NamedWords.{names_of_told}
use Rattle.c_steps.proofs.Popping.{made_of_one}
use Rattle.c_steps.proofs.operands.answer.Goals as goal

pub go_on_with-requires : goal.go_on_with-requires
go_on_with-requires g c = subst (WordNamesBelow (length c.pop.new.self.memory)) (sym c.told.ensures) (names_of_told _ c.args.holds c.is_true-truth.result)

pub returns : goal.returns
returns g c =
    made_of_one c.go_on_with.result c.in-Some.word c.told.result c.args.state.now c.pop.new.self c.go_on_with.new.state
    (λ memory word. told c.args.holds (is_true memory word)) c.in-Some.ensures.some
    (c.told.ensures ∙ ap (told c.args.holds) (c.is_true-truth.ensures ∙ ap (λ (blocks : List Block). is_true blocks c.in-Some.word) c.memory.ensures)) c.go_on_with.ensures
