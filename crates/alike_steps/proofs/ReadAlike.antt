-- A read goes in alike states, where its post names no loss.
use Rattle.std.proofs.Common.{◌≡◌, ℕ, Bool, true, false, not, ◌||◌, [], ◌∷◌, nat_eq, None, refl, sym, ◌∙◌, subst, eqb-true}
use Rattle.std.proofs.lemmas.Bool.{false≢true}
use Rattle.bytes_core.specs.declared.word.Word.{Word}
use Rattle.bytes_core.specs.Access.{loaded}
use Rattle.graph.specs.declared.parts.Parts.{Parts}
use Rattle.graph.specs.declared.post.Post.{Post}
use Rattle.graph.specs.AlikeStates.{AreAlikeStates}
use Rattle.graph.specs.Alike.{renumbered_word}
use Rattle.graph.specs.Meaning.{StandsFor}
use Rattle.graph.specs.State.{State}
use Rattle.graph.specs.Whole.{IsGraph}
use Rattle.graph.proofs.AlikeSteps.{alike_respected}
use Rattle.graph.proofs.Tests.{and_left, and_right}
use Rattle.changes.specs.Following.{Leaves}
use Rattle.changes.specs.Parts.{emptied, put}
use Rattle.changes.specs.Posted.{IsPost}
use Rattle.flow.specs.declared.flow_graph.Flow.{Flow}
use Rattle.flow.specs.declared.instruction.Instr.TheVariants.{Read}
use Rattle.flow.specs.Valid.{is_scalar_size}
use Rattle.reinterpret.specs.States.{Reads}
use Rattle.transfer.specs.Fitting.{MayFollow}
use Rattle.transfer.specs.Posts.{edge_post}
use Rattle.transfer.proofs.Asked.{read_ready}
use Rattle.alike_steps.specs.Laws.{GoesAlike}
use Rattle.alike_steps.proofs.Leaving.{left_with, left_leaves, held_there, put_leaves}
use Rattle.alike_steps.proofs.Loading.{read_sure, sure_alike}

pub read_alike : (flow : Flow) (point at size : ℕ) (pointer : Bool) (into : ℕ) (parts : Parts) (post : Post) (there back : ℕ → ℕ) (paired : ℕ → Bool) (one other next : State) →
    IsGraph parts → MayFollow flow point (Read into at size pointer) parts → IsPost (edge_post flow (Read into at size pointer) parts) post → post.loss ≡ None →
    StandsFor parts one → AreAlikeStates there back paired one other → Reads at size pointer into one next → GoesAlike (Reads at size pointer into) other next
read_alike flow point at size pointer into parts post there back paired one other next graph may is none stands are reads = record {
  next' = next';
  steps = record {
    to = renumbered_word there reads.to;
    address = held_there there back paired one other at reads.to are reads.address;
    room = (alike_respected.faults there back paired one.memory other.memory are.memories).accesses reads.to size ∙ reads.room;
    leaves = subst (λ (w : Word). Leaves other.memory (put into w (emptied (at ∷ []) other.registers)) other next') (sym same) (left_leaves other.memory (put into (renumbered_word there word) (emptied (at ∷ []) other.registers)) other);
  };
  there = there;
  back = back;
  paired = paired;
  alike = put_leaves there back paired (at ∷ []) into word one other next are
      ((alike_respected.reads there back paired one.memory other.memory are.memories).loaded_names reads.to size pointer reads.room) reads.leaves;
}
  where
    word : Word
    word = loaded one.memory reads.to size pointer

    next' : State
    next' = left_with other.memory (put into (renumbered_word there (loaded one.memory reads.to size pointer)) (emptied (at ∷ []) other.registers)) other

    whole : (b : Bool) → (not b || nat_eq size 8) ≡ true → b ≡ true → size ≡ 8
    whole true is kind = eqb-true size 8 is
    whole false is kind = absurd (false≢true kind)

    same : loaded other.memory (renumbered_word there reads.to) size pointer ≡ renumbered_word there (loaded one.memory reads.to size pointer)
    same = sure_alike there back paired one.memory other.memory are.memories reads.to size pointer reads.room
        (read_sure parts graph at size pointer into (and_left (is_scalar_size size) (not pointer || nat_eq size 8) may.sizes) (whole pointer (and_right (is_scalar_size size) (not pointer || nat_eq size 8) may.sizes))
        (read_ready flow point (Read into at size pointer) parts may graph into at size pointer refl) one stands reads.to reads.address reads.room (sym is.loss ∙ none))
