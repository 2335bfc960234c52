-- What the store answers says what it comes to.
use Rattle.std.proofs.Common.{◌≡◌, ℕ, List, Option, take, subst}
use Rattle.std.specs.Prelude.{IfOk}
use Rattle.bytes_core.specs.Access.{access_fault, stored}
use Rattle.bytes_core.specs.Value.{word_bytes}
use Rattle.choices.specs.declared.choice.Choice.{Choice}
use Rattle.c_machine.specs.State.{with_memory}
use Rattle.c_machine.specs.Step.{store_step}
use Rattle.c_machine.specs.Words.{scalar_bytes}
use Rattle.c_steps.specs.ComesTo.{comes_to}
use Rattle.c_steps.proofs.Lengths.{length_written}
use Rattle.c_steps.proofs.Popping.{behind_two, named_behind, still_named}
use Rattle.c_steps.proofs.accesses.store.Goals as goal

pub store-stored-requires-clause-names : goal.store-stored-requires-clause-names
store-stored-requires-clause-names g c =
    still_named c.in-Some.word c.in-Some-pop.at c.pop.new.self c.pop-2.new.self c.in-Some-pop.ensures.some c.in-Some.ensures.names

pub go_on_unless-requires : goal.go_on_unless-requires
go_on_unless-requires g c =
    named_behind c.store-stored.result c.in-Some.word (stored c.pop-2.new.self.memory c.in-Some-pop.at c.in-Some-scalar_bytes.bytes c.in-Some.word) c.pop-2.new.self
    c.store-stored.new.self c.store-stored.ensures.stored c.store-stored.ensures.err
    (length_written c.pop-2.new.self.memory c.in-Some-pop.at (take c.in-Some-scalar_bytes.bytes (word_bytes c.in-Some.word)))
    (still_named c.in-Some.word c.in-Some-pop.at c.pop.new.self c.pop-2.new.self c.in-Some-pop.ensures.some c.in-Some.ensures.names)

pub returns : goal.returns
returns g c =
    let Comes : Option ℕ → Type 0 = λ found. IfOk c.go_on_unless.result (λ outcome. (choices : List Choice) →
    comes_to outcome c.go_on_unless.new.state choices ≡ store_step c.args.place found c.in-Some-pop.at c.in-Some.word c.pop-2.new.self choices) in
    behind_two c.go_on_unless.result c.in-Some.word c.in-Some-pop.at c.args.state.now c.pop.new.self c.pop-2.new.self c.go_on_unless.new.state
    (λ word at after choices. store_step c.args.place (scalar_bytes c.args.kind) at word after choices) c.in-Some.ensures.some c.in-Some-pop.ensures.some
    (subst Comes c.in-Some-scalar_bytes.ensures.is
    (c.go_on_unless.ensures (access_fault c.pop-2.new.self.memory c.in-Some-pop.at c.in-Some-scalar_bytes.bytes)
    (with_memory (stored c.pop-2.new.self.memory c.in-Some-pop.at c.in-Some-scalar_bytes.bytes c.in-Some.word) c.pop-2.new.self)
    c.store-stored.ensures.answer c.store-stored.ensures.stored))
