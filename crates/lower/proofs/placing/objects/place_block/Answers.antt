-- The moves of the block.
use Rattle.std.proofs.Common.{◌++◌, ◌∷◌, [], List, map, ap, ◌∙◌, append_assoc}
use Rattle.cbase.specs.declared.tree.stmt.Stmt.{Stmt}
use Rattle.c_machine.specs.Trees.{text_of}
use Rattle.simulation.specs.Names.{Name}
use Rattle.lower.specs.Built.{made_of}
use Rattle.lowering.specs.declared.moves.Move.TheVariants.{Does}
use Rattle.lowering.specs.Placing.{enters, leaves, objects_in}
use Rattle.lowering.proofs.Onward.{on_ok}
use Rattle.lower.proofs.LinesPlaced.{Moves}
use Rattle.lower.proofs.LoopsLead.{scope_leads}
use Rattle.lower.proofs.placing.objects.place_block.Goals as goal

pub returns : goal.returns
returns c = on_ok c.in_scope.result
    (λ is_new. record {
      of = λ p around reads.
          scope_leads p around c.args.levels c.args.from c.args.to c.args.jobs.now c.in_scope.new.jobs (made_of c.args.builder.now) (made_of c.named_in.new.builder)
          (objects_in (text_of p) c.args.body.now) c.in_ok-names.names
          (λ (names : List Name). enters names c.args.stmt.now.place ∷ (map Does c.args.body.now ++ leaves names c.args.stmt.now.after ∷ [])) c.enters.new.line
          (c.in_ok-names.ensures p reads).0 (c.in_ok-names.ensures p reads).1
          (c.in_ok-enters.ensures
          ∙ ap (λ (names : List Name). enters names c.args.stmt.now.place ∷ c.does_all.new.line) c.as_slice-2.ensures
          ∙ ap (λ (moves : Moves). enters c.in_ok-names.names c.args.stmt.now.place ∷ moves)
          (c.in_ok-does_all.ensures
          ∙ ap (λ (moves : Moves). map Does c.args.body.now ++ moves)
          (c.in_ok-leaves.ensures
          ∙ ap (λ (names : List Name). leaves names c.args.stmt.now.after ∷ c.new-moves.result) c.as_slice.ensures
          ∙ ap (λ (moves : Moves). leaves c.in_ok-names.names c.args.stmt.now.after ∷ moves) c.new-moves.ensures)))
          is_new;
    })
    c.in_scope.ensures
