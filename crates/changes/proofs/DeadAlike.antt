-- States that differ in dead blocks alone are alike.
use Rattle.std.proofs.Common.{◌≡◌, ℕ, zero, suc, Bool, true, false, not, ◌||◌, ◌&&◌, List, [], ◌∷◌, ◌++◌, map, length, set, nat_eq, nat_lt, Option, None, Some, refl, sym, ◌∙◌, ap, subst, eqb-true, eq-eqb, ltb-false, ◌⊎◌, inl, inr}
use Rattle.std.specs.Prelude.{IsTrue, slice_get}
use Rattle.std.specs.List.{list_all}
use Rattle.std.proofs.Math.Bool.{and-true}
use Rattle.std.proofs.lemmas.List.Folds.{list_all-append}
use Rattle.std.proofs.lemmas.Bool.{false≢true}
use Rattle.std.proofs.lemmas.Option.{same_Some, none-some, slice_get_past}
use Rattle.bytes_core.specs.declared.block.Block.{Block}
use Rattle.graph.specs.AlikeMemories.{IsDeadOrNone, AreDeadAlike, ArePaired}
use Rattle.graph.specs.AlikeStates.{AreAlikeStates}
use Rattle.bytes_core.specs.declared.block.BlockKind.{BlockKind}
use Rattle.bytes_core.specs.Placement.{is_placed, are_compatible, can_be_placed}
use Rattle.bytes_core.proofs.Written.{slice_get-set_same, slice_get-set_other}
use Rattle.graph.specs.DeadBlocks.{dead_block, IsMoreDead}
use Rattle.graph.specs.State.{State, IsState}
use Rattle.graph.proofs.AlikeStates.{state_alike_itself}
use Rattle.changes.proofs.Region.{with_block}

-- the same block, or dead ones of one kind; and where the one has none, the other has none that lives
abbrev pub IsSameOrDead : Option Block → Option Block → Type 0
IsSameOrDead None other = IsDeadOrNone other
IsSameOrDead (Some block) other = (other ≡ Some block) ⊎ ((block' : Block) × (other ≡ Some block') × AreDeadAlike block block')

pub record DifferInDead (one other : State) : Type 0 where
  pub blocks : (number : ℕ) → IsSameOrDead (slice_get one.memory number) (slice_get other.memory number)
  pub variables : (variable : ℕ) → other.variables variable ≡ one.variables variable
  pub registers : (register : ℕ) → other.registers register ≡ one.registers register
  pub ports : other.ports ≡ one.ports
  pub roots : other.roots ≡ one.roots

abbrev pub same_number : ℕ → ℕ
same_number number = number

abbrev pub below : ℕ → ℕ → Bool
below bound number = nat_lt number bound

pub dead_alike : (one other : State) → IsState one → DifferInDead one other → AreAlikeStates same_number same_number (below (length one.memory)) one other
dead_alike one other is differ = record {
  memories = record {
    same = λ number. refl;
    again = λ number. refl;
    pairs = λ number inside. paired number (itself.memories.pairs number inside) (slice_get one.memory number) refl (differ.blocks number);
    others = λ number outside. unpaired number (slice_get-past number outside) (differ.blocks number);
    held = itself.memories.held;
  };
  named = itself.named;
  variables = λ variable. differ.variables variable ∙ itself.variables variable;
  registers = λ register. differ.registers register ∙ itself.registers register;
  ports = differ.ports ∙ itself.ports;
  roots = differ.roots ∙ itself.roots;
}
  where
    itself : AreAlikeStates same_number same_number (below (length one.memory)) one one
    itself = state_alike_itself one is

    slice_get-past : (number : ℕ) → nat_lt number (length one.memory) ≡ false → slice_get one.memory number ≡ None
    slice_get-past number outside = slice_get_past one.memory number (ltb-false _ _ outside)

    paired : (number : ℕ) → ArePaired same_number (slice_get one.memory number) (slice_get one.memory number) → (found : Option Block) → slice_get one.memory number ≡ found → IsSameOrDead found (slice_get other.memory number) →
        ArePaired same_number (slice_get one.memory number) (slice_get other.memory number)
    paired number own None none same = absurd (none-some own.block (sym none ∙ own.stands))
    paired number own (Some block) found (inl same) = subst (λ (o : Option Block). ArePaired same_number (slice_get one.memory number) o) (found ∙ sym same) own
    paired number own (Some block) found (inr dies) = record { block = block; block' = dies.0; stands = found; stands' = dies.1; alike = inr dies.2 }

    unpaired : (number : ℕ) → slice_get one.memory number ≡ None → IsSameOrDead (slice_get one.memory number) (slice_get other.memory number) → IsDeadOrNone (slice_get one.memory number) × IsDeadOrNone (slice_get other.memory number)
    unpaired number none same = (
      subst IsDeadOrNone (sym none) tt,
      subst (λ (o : Option Block). IsSameOrDead o (slice_get other.memory number)) none same,
    )

-- more dead blocks behind all others
pub more_dead : (one other : State) → IsMoreDead one other → DifferInDead one other
more_dead one other more =
    subst (DifferInDead one) (sym more.is)
    (record { blocks = λ number. behind one.memory more.kinds number; variables = λ variable. refl; registers = λ register. refl; ports = refl; roots = refl })
  where
    all_dead : (kinds : List BlockKind) (number : ℕ) → IsDeadOrNone (slice_get (map dead_block kinds) number)
    all_dead [] number = tt
    all_dead (kind ∷ rest) zero = refl
    all_dead (kind ∷ rest) (suc number) = all_dead rest number

    behind : (memory : List Block) (kinds : List BlockKind) (number : ℕ) → IsSameOrDead (slice_get memory number) (slice_get (memory ++ map dead_block kinds) number)
    behind [] kinds number = all_dead kinds number
    behind (block ∷ rest) kinds zero = inl refl
    behind (block ∷ rest) kinds (suc number) = behind rest kinds number

-- another dead block of its kind in place of one
pub dead_instead : (one other : State) (number : ℕ) (block new : Block) → DifferInDead one other → slice_get other.memory number ≡ Some block → block.live ≡ false → new.live ≡ false → new.kind ≡ block.kind → DifferInDead one (with_block other number new)
dead_instead one other number block new differ there gone gone' kind = record {
  blocks = λ at. by_number at (nat_eq at number) refl;
  variables = differ.variables;
  registers = differ.registers;
  ports = differ.ports;
  roots = differ.roots;
}
  where
    here : (found : Option Block) → IsSameOrDead found (Some block) → IsSameOrDead found (Some new)
    here None same = gone'
    here (Some first) (inl same) =
        let is : block ≡ first = same_Some block first same in
        inr (new, refl, record { dead = ap (λ (b : Block). b.live) (sym is) ∙ gone; dead' = gone'; kind = kind ∙ ap (λ (b : Block). b.kind) is })
    here (Some first) (inr dies) =
        let is : block ≡ dies.0 = same_Some block dies.0 dies.1 in
        inr (new, refl, record { dead = dies.2.dead; dead' = gone'; kind = kind ∙ ap (λ (b : Block). b.kind) is ∙ dies.2.kind })

    by_number : (at : ℕ) (b : Bool) → nat_eq at number ≡ b → IsSameOrDead (slice_get one.memory at) (slice_get (set other.memory number new) at)
    by_number at true is =
        subst (λ (n : ℕ). IsSameOrDead (slice_get one.memory n) (slice_get (set other.memory number new) n)) (sym (eqb-true _ _ is))
        (subst (IsSameOrDead (slice_get one.memory number)) (sym (slice_get-set_same other.memory number block new there))
        (here (slice_get one.memory number) (subst (IsSameOrDead (slice_get one.memory number)) there (differ.blocks number))))
    by_number at false apart =
        subst (IsSameOrDead (slice_get one.memory at)) (sym (slice_get-set_other other.memory number at new (λ same. false≢true (sym apart ∙ eq-eqb at number same)))) (differ.blocks at)

-- where a block has room in the one memory it has in the other
pub room_more : (one other : State) (block : Block) → IsMoreDead one other → IsTrue (can_be_placed one.memory block) → IsTrue (can_be_placed other.memory block)
room_more one other block more placed =
    subst (λ (state : State). IsTrue (can_be_placed state.memory block)) (sym more.is)
    (ap (λ (b : Bool). is_placed block && b) (list_all-append (are_compatible block) one.memory (map dead_block more.kinds) ∙ ap (λ (b : Bool). list_all (are_compatible block) one.memory && b) (all_fit more.kinds) ∙ and-true (list_all (are_compatible block) one.memory)) ∙ placed)
  where
    fits : (kind : BlockKind) → are_compatible block (dead_block kind) ≡ true
    fits kind = by_life block.live
      where
        by_life : (b : Bool) → (not b || true) ≡ true
        by_life true = refl
        by_life false = refl

    all_fit : (kinds : List BlockKind) → list_all (are_compatible block) (map dead_block kinds) ≡ true
    all_fit [] = refl
    all_fit (kind ∷ rest) = ap (λ (b : Bool). b && list_all (are_compatible block) (map dead_block rest)) (fits kind) ∙ all_fit rest
