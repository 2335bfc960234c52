-- Alike states are left alike: with alike memories, and alike words in registers.
use Rattle.std.proofs.Common.{◌≡◌, ℕ, Bool, true, false, List, map, nat_eq, Option, None, Some, refl, sym, ◌∙◌, ap, subst}
use Rattle.std.specs.Prelude.{option_map, IsTrue, if◌then◌else◌}
use Rattle.std.specs.List.{All}
use Rattle.std.proofs.lemmas.Option.{same_Some, none-some}
use Rattle.bytes_core.specs.declared.block.Block.{Block}
use Rattle.bytes_core.specs.declared.word.Word.{Word}
use Rattle.graph.specs.Alike.{renumbered_word}
use Rattle.graph.specs.AlikeMemories.{WordNamesAmong, AreAlike}
use Rattle.graph.specs.AlikeStates.{AreAlikeStates}
use Rattle.graph.specs.State.{State}
use Rattle.changes.specs.Following.{Leaves}
use Rattle.changes.specs.Parts.{is_among, emptied, put}
use Rattle.alike_steps.specs.Laws.{GoesAlike}

-- a state with this memory and these words in registers
abbrev pub left_with : List Block → (ℕ → Option Word) → State → State
left_with left held state = record { memory = left; variables = state.variables; registers = held; ports = state.ports; roots = state.roots }

pub left_leaves : (left : List Block) (held : ℕ → Option Word) (state : State) → Leaves left held state (left_with left held state)
left_leaves left held state = record { memory = refl; registers = λ register. refl; variables = λ variable. refl; ports = refl; roots = refl }

module _ (there back : ℕ → ℕ) (paired : ℕ → Bool) where
  -- registers of the one hold words that name what is paired, and those of the other the same words
  pub record AreHeldAlike (held held' : ℕ → Option Word) : Type 0 where
    pub named : (register : ℕ) (word : Word) → held register ≡ Some word → WordNamesAmong paired word
    pub same : (register : ℕ) → held' register ≡ option_map (renumbered_word there) (held register)

  pub registers_alike : (one other : State) → AreAlikeStates there back paired one other → AreHeldAlike one.registers other.registers
  registers_alike one other are = record { named = are.named.registers; same = are.registers }

  -- what a register of the one holds that of the other holds as well
  pub held_there : (one other : State) (register : ℕ) (word : Word) → AreAlikeStates there back paired one other → one.registers register ≡ Some word →
      other.registers register ≡ Some (renumbered_word there word)
  held_there one other register word are holds = are.registers register ∙ ap (option_map (renumbered_word there)) holds

  pub emptied_alike : (gone : List ℕ) (held held' : ℕ → Option Word) → AreHeldAlike held held' → AreHeldAlike (emptied gone held) (emptied gone held')
  emptied_alike gone held held' are = record {
    named = λ register word holds. named register word (is_among gone register) holds;
    same = λ register. same register (is_among gone register);
  }
    where
      named : (register : ℕ) (word : Word) (b : Bool) → (if b then None else held register) ≡ Some word → WordNamesAmong paired word
      named register word true holds = absurd (none-some word holds)
      named register word false holds = are.named register word holds

      same : (register : ℕ) (b : Bool) → (if b then None else held' register) ≡ option_map (renumbered_word there) (if b then None else held register)
      same register true = refl
      same register false = are.same register

  pub put_alike : (into : ℕ) (word : Word) (held held' : ℕ → Option Word) → WordNamesAmong paired word → AreHeldAlike held held' →
      AreHeldAlike (put into word held) (put into (renumbered_word there word) held')
  put_alike into word held held' names are = record {
    named = λ register found holds. named register found (nat_eq register into) holds;
    same = λ register. same register (nat_eq register into);
  }
    where
      named : (register : ℕ) (found : Word) (b : Bool) → (if b then Some word else held register) ≡ Some found → WordNamesAmong paired found
      named register found true holds = subst (WordNamesAmong paired) (same_Some _ _ holds) names
      named register found false holds = are.named register found holds

      same : (register : ℕ) (b : Bool) → (if b then Some (renumbered_word there word) else held' register) ≡ option_map (renumbered_word there) (if b then Some word else held register)
      same register true = refl
      same register false = are.same register

  -- a step that leaves a memory and words in registers leaves alike states, where both are alike
  pub leaves_alike : (left left' : List Block) (held held' : ℕ → Option Word) (one other next : State) → AreAlikeStates there back paired one other →
      AreAlike there back paired left left' → AreHeldAlike held held' → Leaves left held one next → AreAlikeStates there back paired next (left_with left' held' other)
  leaves_alike left left' held held' one other next are memories words leaves = record {
    memories = subst (λ (memory : List Block). AreAlike there back paired memory left') (sym leaves.memory) memories;
    named = record {
      variables = λ variable number stands. are.named.variables variable number (sym (leaves.variables variable) ∙ stands);
      registers = λ register word holds. words.named register word (sym (leaves.registers register) ∙ holds);
      ports = subst (All (WordNamesAmong paired)) (sym leaves.ports) are.named.ports;
      roots = subst (All (λ root. IsTrue (paired root))) (sym leaves.roots) are.named.roots;
    };
    variables = λ variable. are.variables variable ∙ ap (option_map there) (sym (leaves.variables variable));
    registers = λ register. words.same register ∙ ap (option_map (renumbered_word there)) (sym (leaves.registers register));
    ports = are.ports ∙ ap (map (renumbered_word there)) (sym leaves.ports);
    roots = are.roots ∙ ap (map there) (sym leaves.roots);
  }

  -- the memory is another one, and registers are emptied
  pub emptied_leaves : (left left' : List Block) (gone : List ℕ) (one other next : State) → AreAlikeStates there back paired one other →
      AreAlike there back paired left left' → Leaves left (emptied gone one.registers) one next →
      AreAlikeStates there back paired next (left_with left' (emptied gone other.registers) other)
  emptied_leaves left left' gone one other next are memories leaves =
      leaves_alike left left' (emptied gone one.registers) (emptied gone other.registers) one other next are memories
      (emptied_alike gone one.registers other.registers (registers_alike one other are)) leaves

  -- the memory stays, registers are emptied, and one gets a word
  pub put_leaves : (gone : List ℕ) (into : ℕ) (word : Word) (one other next : State) → AreAlikeStates there back paired one other →
      WordNamesAmong paired word → Leaves one.memory (put into word (emptied gone one.registers)) one next →
      AreAlikeStates there back paired next (left_with other.memory (put into (renumbered_word there word) (emptied gone other.registers)) other)
  put_leaves gone into word one other next are names leaves =
      leaves_alike one.memory other.memory (put into word (emptied gone one.registers)) (put into (renumbered_word there word) (emptied gone other.registers)) one other next are are.memories
      (put_alike into word (emptied gone one.registers) (emptied gone other.registers) names (emptied_alike gone one.registers other.registers (registers_alike one other are))) leaves

  -- a step of the other state to an alike one
  pub going : (Steps : State → State → Type 0) (other next next' : State) → Steps other next' → AreAlikeStates there back paired next next' → GoesAlike Steps other next
  going Steps other next next' steps alike = record { next' = next'; steps = steps; there = there; back = back; paired = paired; alike = alike }
