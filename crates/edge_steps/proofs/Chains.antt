-- Chains of stored pointers lead to the same blocks in a state of the machine and in what is seen of it.
use Rattle.std.proofs.Common.{◌≡◌, ℕ, zero, suc, Bool, true, false, List, [], ◌∷◌, ◌++◌, map, nat_eq, ℤ, Option, None, Some, ◌⊎◌, inl, inr, refl, sym, ◌∙◌, ap, subst, arith}
use Rattle.std.specs.Prelude.{Contains, slice_get, option_map, if◌then◌else◌}
use Rattle.std.proofs.lemmas.Bool.{false≢true}
use Rattle.std.proofs.lemmas.List.Elements.{Contains-append_left, Contains-append_right, Contains-append_cases}
use Rattle.std.proofs.lemmas.Option.{same_Some, none-some}
use Rattle.bytes_core.specs.declared.block.Block.{Block}
use Rattle.bytes_core.specs.declared.word.Word.{Word}
use Rattle.bytes_core.specs.declared.word.Word.TheVariants.{Plain, To}
use Rattle.bytes_core.specs.Fault.{memory_lost}
use Rattle.bytes_core.specs.Loss.{is_lost, Chain, Root, Link}
use Rattle.bytes_core.proofs.Chains.{lost_by_chains}
use Rattle.graph.specs.State as graphs
use Rattle.flow.specs.Holding.{Held, Owned, held_by, block_of}
use Rattle.flow.specs.Machine.{State, or_else, roots, frame_roots, caller_roots, with_block_of, blocks_of}
use Rattle.heap_steps.specs.Reached as reached
use Rattle.heap_steps.specs.Reached.{IsRoot, OfVariable, OfRegister, Outside, IsReached, IsLost}
use Rattle.heap_steps.specs.Steps.{LosesNone, LosesSome}
use Rattle.edge_steps.specs.Seen.{seen, IsSame, ShowsAll}
use Rattle.edge_steps.proofs.Back.{held_of}

-- Lists.

pub Contains-none : {X : Type 0} (x : X) → Contains [] x → ⊥
Contains-none x (place, below, is) = absurd (omega arith)

pub Contains-first : {X : Type 0} (x : X) (xs : List X) → Contains (x ∷ xs) x
Contains-first x xs = (0, omega arith, refl)

pub Contains-later : {X : Type 0} (x y : X) (xs : List X) → Contains xs y → Contains (x ∷ xs) y
Contains-later x y xs there = (suc there.0, (let below = there.1 in omega arith), there.2)

pub Contains-cases : {X : Type 0} (x y : X) (xs : List X) → Contains (x ∷ xs) y → (x ≡ y) ⊎ Contains xs y
Contains-cases x y xs (zero, below, is) = inl is
Contains-cases x y xs (suc place, below, is) = inr (place, omega arith, is)

-- Blocks of variables and of registers.

-- a variable among others
pub record HasOwned (owned : List Owned) (block : ℕ) : Type 0 where
  pub one : Owned
  pub among : Contains owned one
  pub is : one.block ≡ block

owned_later : (first : Owned) (rest : List Owned) (block : ℕ) → HasOwned rest block → HasOwned (first ∷ rest) block
owned_later first rest block later = record { one = later.one; among = Contains-later first later.one rest later.among; is = later.is }

block_among : (owned : List Owned) (block : ℕ) → Contains (map (λ one. one.block) owned) block → HasOwned owned block
block_among [] block among = absurd (Contains-none block among)
block_among (first ∷ rest) block among = by_cases (Contains-cases first.block block (map (λ (one : Owned). one.block) rest) among) (λ later. block_among rest block later)
  where
    by_cases : (first.block ≡ block) ⊎ Contains (map (λ (one : Owned). one.block) rest) block → (Contains (map (λ (one : Owned). one.block) rest) block → HasOwned rest block) → HasOwned (first ∷ rest) block
    by_cases (inl is) later = record { one = first; among = Contains-first first rest; is = is }
    by_cases (inr within) later = owned_later first rest block (later within)

among_block : (owned : List Owned) (one : Owned) → Contains owned one → Contains (map (λ one. one.block) owned) one.block
among_block [] one among = absurd (Contains-none one among)
among_block (first ∷ rest) one among = by_cases (Contains-cases first one rest among) (λ later. among_block rest one later)
  where
    by_cases : (first ≡ one) ⊎ Contains rest one → (Contains rest one → Contains (map (λ (one : Owned). one.block) rest) one.block) → Contains (map (λ (one : Owned). one.block) (first ∷ rest)) one.block
    by_cases (inl is) later = subst (λ (o : Owned). Contains (map (λ (one : Owned). one.block) (first ∷ rest)) o.block) is (Contains-first first.block (map (λ (one : Owned). one.block) rest))
    by_cases (inr within) later = Contains-later first.block one.block (map (λ (one : Owned). one.block) rest) (later within)

pub found_owned : (owned : List Owned) (variable block : ℕ) → block_of owned variable ≡ Some block → HasOwned owned block
found_owned [] variable block is = absurd (none-some block is)
found_owned (first ∷ rest) variable block is = by_first (nat_eq first.variable variable) is (λ later. found_owned rest variable block later)
  where
    by_first : (b : Bool) → (if b then Some first.block else block_of rest variable) ≡ Some block → (block_of rest variable ≡ Some block → HasOwned rest block) → HasOwned (first ∷ rest) block
    by_first true is later = record { one = first; among = Contains-first first rest; is = same_Some _ _ is }
    by_first false is later = owned_later first rest block (later is)

-- a register among others that leads to a block
pub record HasHeld (registers : List Held) (block : ℕ) : Type 0 where
  pub one : Held
  pub among : Contains registers one
  pub offset : ℤ
  pub is : one.word ≡ To block offset

held_later : (first : Held) (rest : List Held) (block : ℕ) → HasHeld rest block → HasHeld (first ∷ rest) block
held_later first rest block later = record { one = later.one; among = Contains-later first later.one rest later.among; offset = later.offset; is = later.is }

held_among : (registers : List Held) (block : ℕ) → Contains (blocks_of registers) block → HasHeld registers block
held_among [] block among = absurd (Contains-none block among)
held_among (first ∷ rest) block among = by_word first.word refl among (λ later. held_among rest block later)
  where
    by_word : (word : Word) → first.word ≡ word → Contains (with_block_of word (blocks_of rest)) block → (Contains (blocks_of rest) block → HasHeld rest block) → HasHeld (first ∷ rest) block
    by_word (Plain number) is among later = held_later first rest block (later among)
    by_word (To other offset) is among later = by_cases (Contains-cases other block (blocks_of rest) among)
      where
        by_cases : (other ≡ block) ⊎ Contains (blocks_of rest) block → HasHeld (first ∷ rest) block
        by_cases (inl same) = record { one = first; among = Contains-first first rest; offset = offset; is = is ∙ ap (λ (n : ℕ). To n offset) same }
        by_cases (inr within) = held_later first rest block (later within)

with_block : (word : Word) (blocks : List ℕ) (block : ℕ) → Contains blocks block → Contains (with_block_of word blocks) block
with_block (Plain number) blocks block among = among
with_block (To other offset) blocks block among = Contains-later other block blocks among

among_held : (registers : List Held) (one : Held) (block : ℕ) (offset : ℤ) → Contains registers one → one.word ≡ To block offset → Contains (blocks_of registers) block
among_held [] one block offset among is = absurd (Contains-none one among)
among_held (first ∷ rest) one block offset among is = by_cases (Contains-cases first one rest among) (λ later. among_held rest one block offset later is)
  where
    by_cases : (first ≡ one) ⊎ Contains rest one → (Contains rest one → Contains (blocks_of rest) block) → Contains (with_block_of first.word (blocks_of rest)) block
    by_cases (inl same) later = subst (λ (w : Word). Contains (with_block_of w (blocks_of rest)) block) (sym (ap (λ (h : Held). h.word) same ∙ is)) (Contains-first block (blocks_of rest))
    by_cases (inr within) later = with_block first.word (blocks_of rest) block (later within)

pub found_held : (registers : List Held) (register : ℕ) (held : Held) → held_by registers register ≡ Some held → Contains registers held
found_held [] register held is = absurd (none-some held is)
found_held (first ∷ rest) register held is = by_first (nat_eq first.register register) is (λ later. found_held rest register held later)
  where
    by_first : (b : Bool) → (if b then Some first else held_by rest register) ≡ Some held → (held_by rest register ≡ Some held → Contains rest held) → Contains (first ∷ rest) held
    by_first true is later = subst (λ (h : Held). Contains (first ∷ rest) h) (same_Some _ _ is) (Contains-first first rest)
    by_first false is later = Contains-later first held rest (later is)

-- Roots.

module _ (ports : List Word) (state : State) where
  abbrev of_statics : List ℕ
  of_statics = map (λ (one : Owned). one.block) state.statics

  abbrev of_variables : List ℕ
  of_variables = map (λ (one : Owned). one.block) state.frame.variables

  abbrev of_registers : List ℕ
  of_registers = blocks_of state.frame.registers

  abbrev of_others : List ℕ
  of_others = caller_roots state.callers ++ state.outer

  root_seen : ShowsAll state → (block : ℕ) → Contains (roots state) block → IsRoot (seen ports state) block
  root_seen shows block among = by_statics (Contains-append_cases of_statics (frame_roots state.frame ++ of_others) block among)
    where
      by_frame : Contains of_variables block ⊎ Contains of_registers block → IsRoot (seen ports state) block
      by_frame (inl within) =
          let has = block_among state.frame.variables block within in
          OfVariable has.one.variable block (ap (λ (o : Option ℕ). or_else o (block_of state.statics has.one.variable)) (shows.variables has.one has.among) ∙ ap Some has.is)
      by_frame (inr within) =
          let has = held_among state.frame.registers block within in
          OfRegister has.one.register block has.offset (ap (option_map (λ (h : Held). h.word)) (shows.registers has.one has.among) ∙ ap Some has.is)

      by_others : Contains (frame_roots state.frame) block ⊎ Contains of_others block → IsRoot (seen ports state) block
      by_others (inl within) = by_frame (Contains-append_cases of_variables of_registers block within)
      by_others (inr within) = Outside block within

      by_statics : Contains of_statics block ⊎ Contains (frame_roots state.frame ++ of_others) block → IsRoot (seen ports state) block
      by_statics (inl within) = let has = block_among state.statics block within in OfVariable has.one.variable block (shows.statics has.one has.among ∙ ap Some has.is)
      by_statics (inr within) = by_others (Contains-append_cases (frame_roots state.frame) of_others block within)

  root_back : (block : ℕ) → IsRoot (seen ports state) block → Contains (roots state) block
  root_back _ (OfVariable variable block is) = by_frame (block_of state.frame.variables variable) refl is
    where
      by_frame : (found : Option ℕ) → block_of state.frame.variables variable ≡ found → or_else found (block_of state.statics variable) ≡ Some block → Contains (roots state) block
      by_frame None found is =
          let has = found_owned state.statics variable block is in
          Contains-append_left of_statics (frame_roots state.frame ++ of_others) block (subst (Contains of_statics) has.is (among_block state.statics has.one has.among))
      by_frame (Some other) found is =
          let has = found_owned state.frame.variables variable block (found ∙ is) in
          Contains-append_right of_statics (frame_roots state.frame ++ of_others) block (Contains-append_left (frame_roots state.frame) of_others block
          (Contains-append_left of_variables of_registers block (subst (Contains of_variables) has.is (among_block state.frame.variables has.one has.among))))
  root_back _ (OfRegister register block offset is) =
      let held = held_of state.frame.registers register (To block offset) is in
      Contains-append_right of_statics (frame_roots state.frame ++ of_others) block (Contains-append_left (frame_roots state.frame) of_others block
      (Contains-append_right of_variables of_registers block (among_held state.frame.registers held.0 block offset (found_held state.frame.registers register held.0 held.1) held.2)))
  root_back _ (Outside block within) = Contains-append_right of_statics (frame_roots state.frame ++ of_others) block (Contains-append_right (frame_roots state.frame) of_others block within)

  -- Chains.

  chain_seen : ShowsAll state → (number : ℕ) → Chain state.memory (roots state) number → IsReached (seen ports state) number
  chain_seen shows _ (Root number among) = reached.Root number (root_seen shows number among)
  chain_seen shows _ (Link number target block chain stands live holds) = reached.Link number target block (chain_seen shows number chain) stands live holds

  chain_back : (number : ℕ) → IsReached (seen ports state) number → Chain state.memory (roots state) number
  chain_back _ (reached.Root number root) = Root number (root_back number root)
  chain_back _ (reached.Link number target block way stands live holds) = Link number target block (chain_back number way) stands live holds

  -- Lost blocks.

  pub lost_there : ShowsAll state → is_lost state.memory (roots state) ≡ true → LosesSome memory_lost (seen ports state)
  lost_there shows lost =
      let found = (lost_by_chains state.memory (roots state)).0 lost in record {
        number = found.0;
        lost = record { block = found.1; stands = found.2.stands; allocated = found.2.allocated; live = found.2.live; unreached = λ way. found.2.unreached (chain_back found.0 way) };
        is = refl;
      }

  pub lost_back : ShowsAll state → (number : ℕ) → IsLost (seen ports state) number → is_lost state.memory (roots state) ≡ true
  lost_back shows number lost =
      (lost_by_chains state.memory (roots state)).1
      (number, lost.block, record { stands = lost.stands; allocated = lost.allocated; live = lost.live; unreached = λ chain. lost.unreached (chain_seen shows number chain) })

  pub none_there : ShowsAll state → is_lost state.memory (roots state) ≡ false → LosesNone (seen ports state)
  none_there shows none number lost = false≢true (sym none ∙ lost_back shows number lost)

  pub none_back : ShowsAll state → LosesNone (seen ports state) → is_lost state.memory (roots state) ≡ false
  none_back shows none = by_test (is_lost state.memory (roots state)) refl
    where
      by_test : (b : Bool) → is_lost state.memory (roots state) ≡ b → b ≡ false
      by_test false is = refl
      by_test true is = let some = lost_there shows is in absurd (none some.number some.lost)

-- What is lost in one of two states of which the same is seen is lost in the other.

pub same_back : (one other : graphs.State) → IsSame one other → IsSame other one
same_back one other same = record {
  memory = sym same.memory;
  variables = λ variable. sym (same.variables variable);
  registers = λ register. sym (same.registers register);
  ports = sym same.ports;
  roots = sym same.roots;
}

root_same : (one other : graphs.State) → IsSame one other → (block : ℕ) → IsRoot one block → IsRoot other block
root_same one other same _ (OfVariable variable block is) = OfVariable variable block (same.variables variable ∙ is)
root_same one other same _ (OfRegister register block offset is) = OfRegister register block offset (same.registers register ∙ is)
root_same one other same _ (Outside block within) = Outside block (subst (λ (roots : List ℕ). Contains roots block) (sym same.roots) within)

reached_same : (one other : graphs.State) → IsSame one other → (number : ℕ) → IsReached one number → IsReached other number
reached_same one other same _ (reached.Root number root) = reached.Root number (root_same one other same number root)
reached_same one other same _ (reached.Link number target block way stands live holds) =
    reached.Link number target block (reached_same one other same number way) (ap (λ (m : List Block). slice_get m number) same.memory ∙ stands) live holds

pub lost_same : (one other : graphs.State) → IsSame one other → (number : ℕ) → IsLost one number → IsLost other number
lost_same one other same number lost = record {
  block = lost.block;
  stands = ap (λ (m : List Block). slice_get m number) same.memory ∙ lost.stands;
  allocated = lost.allocated;
  live = lost.live;
  unreached = λ way. lost.unreached (reached_same other one (same_back one other same) number way);
}
