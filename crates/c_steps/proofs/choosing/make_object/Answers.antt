-- The block that is made is that of the object.
use Rattle.std.proofs.Common.{◌∙◌, List, sym, ap}
use Rattle.choices.specs.declared.choice.Choice.{Choice}
use Rattle.std.specs.Prelude.{false}
use Rattle.c_machine.specs.Choosing.{with_object}
use Rattle.c_machine.specs.State.{State, Went}
use Rattle.bytes_core.specs.declared.block.BlockKind.TheVariants as storage
use Rattle.c_steps.proofs.Making.{if_ok, match_ok, match_err, none_is_made}
use Rattle.c_steps.proofs.choosing.make_object.Goals as goal

pub declare-requires : goal.declare-requires
declare-requires g c = if_ok _ c.in_ok-outcome.field-0 c.in-Ok.block c.in-Ok.is c.in_ok-outcome.ensures.below

pub returns-in-Err-clause-ok : goal.returns-in-Err-clause-ok
returns-in-Err-clause-ok g c =
    none_is_made c.in-Err.outcome storage.Local c.args.object.bytes false c.args.state.now c.with_block.new.state c.args.choices.now c.args.choices.now
    (λ after block more. Went (with_object c.args.object.token after block) more)
    (match_err _ _ c.in_ok-outcome.field-0 c.in-Err.outcome c.in-Err.is c.in_ok-outcome.ensures.made)

pub returns-in_ok-declare-in-Ok-clause-ok : goal.returns-in_ok-declare-in-Ok-clause-ok
returns-in_ok-declare-in-Ok-clause-ok g c =
    ap (λ (state : State g.row.E.Denot g.row.S.Denot g.row.I.Denot). Went state c.take.new.self) c.in_ok-declare-in-Ok.ensures
    ∙ ap (λ (left : List Choice). Went (with_object c.args.object.token c.with_block.new.state c.in-Ok.block) left) c.take.ensures
    ∙ sym (match_ok _ _ c.in_ok-outcome.field-0 c.in-Ok.block c.in-Ok.is c.in_ok-outcome.ensures.made
    (λ after block more. Went (with_object c.args.object.token after block) more))
