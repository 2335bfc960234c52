-- The function behind its arguments.
use Rattle.std.proofs.Common.{[], ◌∷◌, refl, sym, ap, ◌∙◌}
use Rattle.c_machine.specs.declared.kind.Kind.{Kind}
use Rattle.c_machine.specs.declared.built_in.BuiltIn.{BuiltIn}
use Rattle.c_machine.specs.declared.task.Task.TheVariants.{RunBuiltIn}
use Rattle.c_machine.specs.Expressions.{argument_tasks, built_in}
use Rattle.c_machine.specs.State.{doing}
use Rattle.c_machine.specs.Trees.{kind_in, text_of}
use Rattle.c_text.specs.declared.parameters.Parameters.TheVariants.{OfSignature}
use Rattle.c_text.specs.Parameters.{types_by}
use Rattle.c_run.proofs.tasks.EachArgument.{params_by}
use Rattle.c_run.proofs.tasks.MakingRoom.{lacks_one, on_ok, speaks_of_one}
use Rattle.c_run.proofs.tasks.RoomBehind.{in_front, lacks_behind}
use Rattle.c_run.proofs.tasks.calls.built_in_call.Goals as goal

pub arguments-requires : goal.arguments-requires
arguments-requires c = c.requires

pub result_kind-requires : goal.result_kind-requires
result_kind-requires c = c.requires

pub returns-in_default : goal.returns-in_default
returns-in_default c = λ n p stands.
    let result : Kind = kind_in p (n.ctype (n.signature c.args.signature).result) in
    lacks_behind (argument_tasks (text_of p) c.args.args.now (params_by p (types_by n p (OfSignature c.args.signature)))) (RunBuiltIn (built_in c.args.name.now) c.args.callee.now.place result ∷ [])
    (lacks_one result [] (sym c.in_default.is ∙ c.result_kind.ensures n p stands))

pub returns : goal.returns
returns c = on_ok _ _ c.arguments.result
    (λ room made. λ n p stands.
    let result : Kind = kind_in p (n.ctype (n.signature c.args.signature).result) in
    in_front (argument_tasks (text_of p) c.args.args.now (params_by p (types_by n p (OfSignature c.args.signature)))) (RunBuiltIn (built_in c.args.name.now) c.args.callee.now.place result ∷ [])
    room c.args.state.now c.do_first.new.self c.arguments.new.state
    (speaks_of_one (λ (kind : Kind). RunBuiltIn (built_in c.args.name.now) c.args.callee.now.place kind ∷ []) result c.in-Some.kind c.args.state.now c.do_first.new.self
    (sym c.in-Some.is ∙ c.result_kind.ensures n p stands) refl
    (c.in_ok-do_first.ensures.ok ∙ ap (λ (what : BuiltIn). doing (RunBuiltIn what c.args.callee.now.place c.in-Some.kind ∷ []) c.args.state.now) c.built_in.ensures))
    (made n p stands))
    c.arguments.ensures
