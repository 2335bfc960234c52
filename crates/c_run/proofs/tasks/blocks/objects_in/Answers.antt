-- A declaration makes the objects of its names.
use Rattle.std.proofs.Common.{List, sym, ap, ◌∙◌}
use Rattle.std.specs.List.{flat_map}
use Rattle.cbase.specs.declared.tree.decl.Decl.{Decl}
use Rattle.cbase.specs.declared.tree.decl.Declared.{Declared}
use Rattle.cbase.specs.declared.tree.expr.Expr.{Expr}
use Rattle.cbase.specs.declared.tree.expr.ExprForm.TheViews.{out-Decl, outs-Declare}
use Rattle.cbase.specs.declared.tree.init.Init.{Init}
use Rattle.cbase.specs.declared.tree.stmt.Stmt.{Stmt}
use Rattle.c_machine.specs.Blocks.{made, names_in}
use Rattle.c_machine.specs.Text.{Clause, Declared as DeclaredName}
use Rattle.c_machine.specs.Trees.{text_of}
use Rattle.c_run.proofs.tasks.BlocksEntered.{clause_is, object_tasks, objects_declared}
use Rattle.c_run.proofs.tasks.MakingRoom.{on_ok, same_room}
use Rattle.c_run.proofs.tasks.blocks.objects_in.Goals as goal

pub returns-in-Declare : goal.returns-in-Declare
returns-in-Declare c = on_ok _ _ c.objects_of.result
    (λ room made-room. λ n p stands. same_room _ _ room c.args.state.now c.objects_of.new.state
    (ap (λ (clause : Clause Expr Stmt Init). flat_map (λ (name : DeclaredName Init). made (text_of p) ((text_of p).automatic name.place)) (names_in clause))
    (clause_is c.args.stmt.now _ _ c.in-Declare.is (outs-Declare c.in-Declare.decl))
    ∙ objects_declared p c.in-Declare.decl
    ∙ sym (ap (λ (names : List Declared). flat_map (object_tasks p) names) c.as_slice.ensures
    ∙ ap (λ (decl : Decl). flat_map (object_tasks p) (out-Decl decl).names) c.get.ensures))
    (made-room n p stands))
    c.objects_of.ensures
