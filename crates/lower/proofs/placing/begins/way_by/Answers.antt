-- A declaration has no edge where all its names do nothing.
use Rattle.std.proofs.Common.{sym, ap, ◌∙◌}
use Rattle.std.specs.List.{list_all}
use Rattle.cbase.specs.declared.tree.decl.Declared.{Declared}
use Rattle.c_machine.specs.Trees.{name_of, text_of}
use Rattle.lower.specs.Around.{around_of}
use Rattle.lowering.specs.Clauses.{clause_in}
use Rattle.lowering.specs.Placing.{does_nothing, idle_where, way_by}
use Rattle.lower.proofs.Idle.{all_mapped}
use Rattle.lower.proofs.placing.begins.way_by.Goals as goal

pub returns-in-Declare : goal.returns-in-Declare
returns-in-Declare c = λ p reads.
    c.idle_where.ensures
    ∙ ap idle_where
    (c.do_nothing.ensures p reads
    ∙ ap (λ names. list_all (λ (name : Declared). does_nothing (text_of p) (name_of name)) names) (c.as_slice.ensures ∙ c.get.ensures)
    ∙ sym (all_mapped (does_nothing (text_of p)) name_of c.in-Declare.names))
    ∙ ap (λ clause. way_by (text_of p) (around_of c.args.around.now) c.args.standing.now (clause_in clause)) (sym c.in-Declare.is)
