-- A type of keywords alone.
use Rattle.std.proofs.Common.{IfOk}
use Rattle.expressions.proofs.walk.type_words.basic.Goals as goal
use Rattle.expressions.proofs.walk.type_words.basic.Goals.{in-Void, in-Bool, in-Integer}
use Rattle.typing.specs.NamedTypes.{basic_type}
use Rattle.expressions.specs.Operated.{Numbers}
use Rattle.expressions.proofs.TypeWords.{basic_words}

pub returns-in-Ok : goal.returns-in-Ok
returns-in-Ok c =
    let told : IfOk c.match-basic.told (λ number. Numbers (λ n. basic_type c.args.abi c.args.basic) c.args.context.now c.match-basic.context number) =
    elim c.match-basic.branch [
      | in-Void w ↦ rw (w.context-is, w.told-is, w.in-Void.is) w.void-told.ensures
      | in-Bool w ↦ rw (w.context-is, w.told-is, w.in-Bool.is) w.boolean-told.ensures
      | in-Integer w ↦ rw (w.context-is, w.told-is, w.in-Integer.is) (rw w.bytes_of_rank.ensures at w.integer-told.ensures)
    ] in
    rw c.whole.ensures (basic_words c.args.abi c.args.context.now c.match-basic.context c.args.basic c.in-Ok.ctype (rw c.in-Ok.is at told))
