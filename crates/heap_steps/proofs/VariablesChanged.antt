-- Variables that stand for other blocks.
use Rattle.std.proofs.Common.{◌≡◌, ℕ, List, [], ◌∷◌, map, length, Option, sym, ◌∙◌, ap, subst}
use Rattle.std.specs.Prelude.{IsSome, option_map, slice_get}
use Rattle.bytes_core.specs.declared.block.Block.{Block}
use Rattle.graph.specs.declared.object.Object.{Object}
use Rattle.graph.specs.declared.parts.Pair.{Pair}
use Rattle.graph.specs.declared.value.Value.{Value}
use Rattle.graph.specs.State.{State}
use Rattle.graph.specs.Meaning.{HasBlocks, ends_of, HasWord, own_offset, IsRooted, Maps, Assignment, Meets}
use Rattle.changes.proofs.Change.{HasWord-ends, HasBlocks-own}

-- two graphs differ in variables alone, and so do two states
pub record AgreeButVariables (one other : Maps) : Type 0 where
  pub objects : (at : ℕ) → other.objects at ≡ one.objects at
  pub values : (at : ℕ) → other.values at ≡ one.values at
  pub registers : (at : ℕ) → other.registers at ≡ one.registers at
  pub ports : other.ports ≡ one.ports
  pub unequal : other.unequal ≡ one.unequal

pub record AgreeButStorage (one other : State) : Type 0 where
  pub memory : other.memory ≡ one.memory
  pub registers : (at : ℕ) → other.registers at ≡ one.registers at
  pub ports : other.ports ≡ one.ports
  pub roots : other.roots ≡ one.roots

-- the graph stands for the state, if variables have the blocks of their objects; so it is in both directions
pub variables_changed : (one other : Maps) (state next : State) (given : Assignment) → AgreeButVariables one other → AgreeButStorage state next →
    ((variable : ℕ) → option_map (λ number. number ∷ []) (next.variables variable) ≡ option_map given.blocks (other.variables variable)) → Meets one state given → Meets other next given
variables_changed one other state next given graphs states stored meets = record {
  values = λ at found stands.
      HasWord-ends (length next.memory) given.blocks (ends_of one.objects given.word) (ends_of other.objects given.word) found (given.word at) (λ k. ap (λ (o : Option Object). ends_of (λ key. o) given.word k) (graphs.objects k))
      (subst (λ (memory : List Block). HasWord (length memory) given.blocks (ends_of one.objects given.word) found (given.word at)) (sym states.memory) (meets.values at found (sym (graphs.values at) ∙ stands)));
  objects = λ at object stands.
      HasBlocks-own next.memory object given.word (λ v. own_offset (one.values v)) (λ v. own_offset (other.values v)) (given.blocks at) (λ v. ap own_offset (graphs.values v))
      (subst (λ (memory : List Block). HasBlocks memory object given.word (λ v. own_offset (one.values v)) (given.blocks at)) (sym states.memory) (meets.objects at object (sym (graphs.objects at) ∙ stands)));
  owners = λ at place number some stands. meets.owners at place number (subst (λ (o : Option Object). IsSome o) (graphs.objects at) some) stands;
  places = λ at place number some stands. meets.places at place number (subst (λ (o : Option Object). IsSome o) (graphs.objects at) some) stands;
  used = λ number block stands live.
      let owned = meets.used number block (ap (λ (memory : List Block). slice_get memory number) (sym states.memory) ∙ stands) live in
      record { object = subst (λ (o : Option Object). IsSome o) (sym (graphs.objects (given.owner number))) owned.object; block = owned.block };
  variables = stored;
  registers = λ register. states.registers register ∙ meets.registers register ∙ ap (option_map given.word) (sym (graphs.registers register));
  ports = states.ports ∙ meets.ports ∙ ap (map given.word) (sym graphs.ports);
  rooted = λ place port stands.
      subst (λ (roots : List ℕ). IsRooted roots (other.values port) (given.word port)) (sym states.roots)
      (subst (λ (o : Option Value). IsRooted state.roots o (given.word port)) (sym (graphs.values port))
      (meets.rooted place port (ap (λ (ports : List ℕ). slice_get ports place) (sym graphs.ports) ∙ stands)));
  unequal = λ place pair stands. meets.unequal place pair (ap (λ (pairs : List Pair). slice_get pairs place) (sym graphs.unequal) ∙ stands);
}
