-- One name after the other.
use Rattle.std.proofs.Common.{◌+◌, drop}
use Rattle.std.proofs.lemmas.List.{drop_all}
use Rattle.cbase.specs.declared.tree.decl.Declared.{Declared}
use Rattle.expressions.proofs.Loops.{next_item}
use Rattle.c_machine.specs.Trees.{name_of, text_of}
use Rattle.lowering.specs.Placing.{objects_of_name}
use Rattle.lower.proofs.ObjectsHere.{more_listed, none_listed}
use Rattle.lower.proofs.placing.objects.push_declared.Goals as goal

pub loop-name-preserved : goal.loop-name-preserved
loop-name-preserved c = λ p reads.
    more_listed (λ (name : Declared). objects_of_name (text_of p) (name_of name)) c.name-item.result (drop c.loop-name.name-index c.args.names.now)
    (drop (c.loop-name.name-index + 1) c.args.names.now) c.loop-name.objects c.push_object.new.objects _
    (next_item c.args.names.now c.loop-name.name-index c.name-item.result c.loop-name-test.true c.name-item.is)
    (c.in_ok-push_object.ensures p reads) (c.loop-name.invariant p reads)

pub returns : goal.returns
returns c = λ p reads.
    none_listed (λ (name : Declared). objects_of_name (text_of p) (name_of name)) (drop c.loop-name.name-index c.args.names.now) c.loop-name.objects _
    (drop_all c.loop-name.name-index c.args.names.now c.loop-name-test.false) (c.loop-name.invariant p reads)
