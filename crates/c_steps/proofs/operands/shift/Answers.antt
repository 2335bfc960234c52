-- The address that is moved is the operand.
use Rattle.std.proofs.Common.{length, sym, subst}
use Rattle.std.specs.Prelude.{pos}
use Rattle.bytes_core.specs.Valid.{WordNamesBelow}
use Rattle.bytes_core.specs.Value.{moved}
use Rattle.c_steps.proofs.NamedWords.{names_of_moved}
use Rattle.c_steps.proofs.Popping.{made_of_one}
use Rattle.c_steps.proofs.operands.shift.Goals as goal

pub go_on_with-requires : goal.go_on_with-requires
go_on_with-requires g c =
    subst (WordNamesBelow (length c.pop.new.self.memory)) (sym c.moved.ensures) (names_of_moved _ c.in-Some.word (pos c.args.bytes) c.in-Some.ensures.names)

pub returns : goal.returns
returns g c =
    made_of_one c.go_on_with.result c.in-Some.word c.moved.result c.args.state.now c.pop.new.self c.go_on_with.new.state
    (λ memory word. moved word (pos c.args.bytes)) c.in-Some.ensures.some c.moved.ensures c.go_on_with.ensures
