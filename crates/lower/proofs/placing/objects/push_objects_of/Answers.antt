-- A declaration declares what its names do.
use Rattle.std.proofs.Common.{List, ◌++◌, sym, ap, ◌∙◌}
use Rattle.std.specs.List.{flat_map}
use Rattle.cbase.specs.declared.tree.decl.Decl.{Decl}
use Rattle.cbase.specs.declared.tree.decl.Declared.{Declared}
use Rattle.cbase.specs.declared.tree.expr.ExprForm.TheViews.{out-Decl, outs-Declare}
use Rattle.c_machine.specs.declared.object.Object.{Object}
use Rattle.c_machine.specs.Trees.{name_of, text_of}
use Rattle.lowering.specs.Placing.{objects_of_name}
use Rattle.lowering.proofs.Onward.{on_ok}
use Rattle.lower.proofs.ObjectsHere.{objects_declared}
use Rattle.lower.proofs.placing.objects.push_objects_of.Goals as goal

pub returns-in-Declare : goal.returns-in-Declare
returns-in-Declare c = on_ok c.push_declared.result
    (λ is. λ p reads.
    is p reads
    ∙ ap (λ (more : List Object). c.args.objects.now ++ more)
    (ap (λ (names : List Declared). flat_map (λ (name : Declared). objects_of_name (text_of p) (name_of name)) names) c.as_slice.ensures
    ∙ ap (λ (decl : Decl). flat_map (λ (name : Declared). objects_of_name (text_of p) (name_of name)) (out-Decl decl).names) c.get.ensures
    ∙ sym (objects_declared p c.args.stmt.now _ c.in-Declare.decl c.in-Declare.is (outs-Declare c.in-Declare.decl))))
    c.push_declared.ensures
