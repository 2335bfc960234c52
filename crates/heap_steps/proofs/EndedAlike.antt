-- A scope is left in a state that is alike as well, and leaves alike states.
use Rattle.std.proofs.Common.{◌≡◌, ℕ, Bool, true, false, ◌||◌, List, [], ◌∷◌, map, nat_eq, Option, None, Some, refl, sym, ◌∙◌, ap, subst}
use Rattle.std.specs.Prelude.{option_map, IsTrue, if◌then◌else◌}
use Rattle.std.specs.List.{All}
use Rattle.std.proofs.lemmas.Option.{none-some}
use Rattle.bytes_core.specs.declared.block.Block.{Block}
use Rattle.graph.specs.Alike.{renumbered_word}
use Rattle.graph.specs.AlikeMemories.{WordNamesAmong, AreAlike}
use Rattle.graph.specs.AlikeStates.{AreAlikeStates}
use Rattle.graph.specs.State.{State}
use Rattle.graph.proofs.AlikeSteps.{alike_respected}
use Rattle.changes.specs.Following.{Leaves}
use Rattle.changes.specs.Parts.{emptied}
use Rattle.heap_steps.specs.Leaving.{without_block, EndsOne, EndsScope}

pub record AreEndedAlike (which : List ℕ) (there back : ℕ → ℕ) (paired : ℕ → Bool) (other next : State) : Type 0 where
  pub next' : State
  pub steps : EndsScope which other next'
  pub alike : AreAlikeStates there back paired next next'

module _ (there back : ℕ → ℕ) (paired : ℕ → Bool) where
  pub record IsEndedAlike (variable : ℕ) (other next : State) : Type 0 where
    pub next' : State
    pub steps : EndsOne variable other next'
    pub alike : AreAlikeStates there back paired next next'

  pub one_alike : (variable : ℕ) (one other next : State) → AreAlikeStates there back paired one other → EndsOne variable one next → IsEndedAlike variable other next
  one_alike variable one other next are ends = record {
    next' = next';
    steps = record { memory = refl; variables = λ at. refl; registers = λ at. refl; ports = refl; roots = refl };
    alike = record {
      memories = subst (λ (memory : List Block). AreAlike there back paired memory (without_block (other.variables variable) other.memory)) (sym ends.memory)
          (subst (λ (o : Option ℕ). AreAlike there back paired (without_block (one.variables variable) one.memory) (without_block o other.memory)) (sym (are.variables variable)) (ended (one.variables variable)));
      named = record {
        variables = λ at number stands. named_variable at number (nat_eq variable at || false) (sym (ends.variables at) ∙ stands);
        registers = λ register word stands. are.named.registers register word (sym (ends.registers register) ∙ stands);
        ports = subst (All (WordNamesAmong paired)) (sym ends.ports) are.named.ports;
        roots = subst (All (λ root. IsTrue (paired root))) (sym ends.roots) are.named.roots;
      };
      variables = λ at. same_variable at (nat_eq variable at || false) ∙ ap (option_map there) (sym (ends.variables at));
      registers = λ register. are.registers register ∙ ap (option_map (renumbered_word there)) (sym (ends.registers register));
      ports = are.ports ∙ ap (map (renumbered_word there)) (sym ends.ports);
      roots = are.roots ∙ ap (map there) (sym ends.roots);
    };
  }
    where
      next' : State
      next' = record { memory = without_block (other.variables variable) other.memory; variables = emptied (variable ∷ []) other.variables; registers = other.registers; ports = other.ports; roots = other.roots }

      ended : (found : Option ℕ) → AreAlike there back paired (without_block found one.memory) (without_block (option_map there found) other.memory)
      ended None = are.memories
      ended (Some number) = (alike_respected.changes there back paired one.memory other.memory are.memories).ends number

      named_variable : (at number : ℕ) (b : Bool) → (if b then None else one.variables at) ≡ Some number → paired number ≡ true
      named_variable at number true stands = absurd (none-some number stands)
      named_variable at number false stands = are.named.variables at number stands

      same_variable : (at : ℕ) (b : Bool) → (if b then None else other.variables at) ≡ option_map there (if b then None else one.variables at)
      same_variable at true = refl
      same_variable at false = are.variables at

  -- a state that is the same
  alike_left : (one other next : State) → AreAlikeStates there back paired one other → Leaves one.memory one.registers one next → AreAlikeStates there back paired next other
  alike_left one other next are leaves = record {
    memories = subst (λ (memory : List Block). AreAlike there back paired memory other.memory) (sym leaves.memory) are.memories;
    named = record {
      variables = λ at number stands. are.named.variables at number (sym (leaves.variables at) ∙ stands);
      registers = λ register word stands. are.named.registers register word (sym (leaves.registers register) ∙ stands);
      ports = subst (All (WordNamesAmong paired)) (sym leaves.ports) are.named.ports;
      roots = subst (All (λ root. IsTrue (paired root))) (sym leaves.roots) are.named.roots;
    };
    variables = λ at. are.variables at ∙ ap (option_map there) (sym (leaves.variables at));
    registers = λ register. are.registers register ∙ ap (option_map (renumbered_word there)) (sym (leaves.registers register));
    ports = are.ports ∙ ap (map (renumbered_word there)) (sym leaves.ports);
    roots = are.roots ∙ ap (map there) (sym leaves.roots);
  }

  pub all_alike : (which : List ℕ) (one other next : State) → AreAlikeStates there back paired one other → EndsScope which one next → AreEndedAlike which there back paired other next
  all_alike [] one other next are leaves = record {
    next' = other;
    steps = record { memory = refl; registers = λ register. refl; variables = λ at. refl; ports = refl; roots = refl };
    alike = alike_left one other next are leaves;
  }
  all_alike (variable ∷ rest) one other next are (middle, first, later) =
      let ended = one_alike variable one other middle are first in
      let others = all_alike rest middle ended.next' next ended.alike later in
      record { next' = others.next'; steps = (ended.next', ended.steps, others.steps); alike = others.alike }
