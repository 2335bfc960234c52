-- What the code hands on.
use Rattle.std.proofs.Common.{◌≡◌, ℕ, true, List, ap, ◌∙◌, subst}
use Rattle.std.specs.Prelude.{Result, Ok, Err, IfOk}
use Rattle.cbase.specs.declared.no_memory.NoMemory.{NoMemory}
use Rattle.bytes_core.specs.declared.word.Word.{Word}
use Rattle.graph.specs.declared.parts.Parts.{Parts}
use Rattle.graph.specs.declared.post.Post.{Post}
use Rattle.graph.specs.State.{State}
use Rattle.graph.specs.Whole.{IsGraph}
use Rattle.changes.specs.Following.{StepMeans}
use Rattle.changes.specs.Posted.{IsPost}
use Rattle.register_steps.specs.declared.line.Line.{Line}
use Rattle.register_steps.specs.Gaining.{may_gain, line_post, GainTail}
use Rattle.register_steps.specs.States.{Gains, NoFault}
use Rattle.register_steps.proofs.Gained.{IsRight, line_means}

-- a line that the code has is one that is right
pub may_line : (parts : Parts) (Gives : State → Word → Type 0) (size : ℕ) (line is : Line) → line ≡ is → IsRight parts Gives size is → may_gain parts line.gain ≡ true
may_line parts Gives size line is same right = ap (λ (l : Line). may_gain parts l.gain) same ∙ right.may

-- and so its post means what the step does
pub post_means : (parts : Parts) (gone : List ℕ) (into : ℕ) (Gives : State → Word → Type 0) (size : ℕ) (line is : Line) (result : Result Post NoMemory) → IsGraph parts → line ≡ is → IsRight parts Gives size is →
    IfOk result (λ post. IsPost (line_post parts gone into line) post) → IfOk result (λ post. StepMeans parts (Gains gone into Gives) NoFault (GainTail parts gone into size) post)
post_means parts gone into Gives size line is (Ok post) graph same right posted = line_means parts graph gone into Gives size is post right (subst (λ (l : Line). IsPost (line_post parts gone into l) post) same posted)
post_means parts gone into Gives size line is (Err error) graph same right posted = tt
