-- What is lost before roots go and objects die is lost after it.
use Rattle.std.proofs.Common.{◌≡◌, ℕ, true, false, List, [], ◌∷◌, ◌⊎◌, inl, inr, Option, None, Some, refl, sym, ap, ◌∙◌}
use Rattle.std.specs.Prelude.{slice_get, Contains, IsTrue}
use Rattle.std.proofs.lemmas.Bool.{cases_eq, false≢true}
use Rattle.std.proofs.lemmas.Option.{none-some}
use Rattle.bytes_core.specs.declared.block.Block.{Block}
use Rattle.bytes_core.specs.Loss.{Chain, Root, Link, IsLostBlock}
use Rattle.bytes_core.specs.Marking.{is_heap_block}
use Rattle.bytes_core.specs.Release.{without}
use Rattle.bytes_core.proofs.Chains.{lost_by_chains}
use Rattle.bytes_core.proofs.Releases.{free_keeps_blocks}
use Rattle.bytes_core.proofs.Written.{slice_get-set_same}
use Rattle.c_machine.specs.Laws.{AreObjects, DoesLossStay}
use Rattle.c_machine.specs.Step.{without_objects}

-- a number is none of others
abbrev Misses : ℕ → List ℕ → Type 0
Misses number [] = Unit {0}
Misses number (first ∷ rest) = (number ≡ first → ⊥) × Misses number rest

-- one block dies: the others stay as they were
pub others_stay : (memory : List Block) (dead number : ℕ) → (number ≡ dead → ⊥) → slice_get (without memory dead (slice_get memory dead)) number ≡ slice_get memory number
others_stay memory dead number apart = (free_keeps_blocks memory dead).others number apart

misses_heap : (memory : List Block) (dying : List ℕ) (number : ℕ) → is_heap_block (slice_get memory number) ≡ true → AreObjects memory dying → Misses number dying
misses_heap memory [] number heap objects = tt
misses_heap memory (first ∷ rest) number heap objects =
    (λ same. false≢true (sym objects.0 ∙ ap (λ (n : ℕ). is_heap_block (slice_get memory n)) (sym same) ∙ heap), misses_heap memory rest number heap objects.1)

stays : (dying : List ℕ) (memory : List Block) (number : ℕ) → Misses number dying → slice_get (without_objects dying memory) number ≡ slice_get memory number
stays [] memory number misses = refl
stays (first ∷ rest) memory number misses =
    stays rest (without memory first (slice_get memory first)) number misses.1 ∙ others_stay memory first number misses.0

-- what lives then lived before, as it was
dies : (memory : List Block) (number : ℕ) (found : Option Block) (block : Block) → slice_get memory number ≡ found →
    slice_get (without memory number found) number ≡ Some block → IsTrue block.live → ⊥
dies memory number None block there stands live = absurd (none-some block (sym there ∙ stands))
dies memory number (Some one) block there stands live =
    let is : Some (record one { live = false }) ≡ Some block = sym (slice_get-set_same memory number one (record one { live = false }) there) ∙ stands in
    let same : record one { live = false } ≡ block = cc in
    false≢true (ap (λ (found : Block). found.live) same ∙ live)

alive_before : (dying : List ℕ) (memory : List Block) (number : ℕ) (block : Block) → slice_get (without_objects dying memory) number ≡ Some block → IsTrue block.live →
    slice_get memory number ≡ Some block
alive_before [] memory number block stands live = stands
alive_before (first ∷ rest) memory number block stands live =
    one_before (cases_eq number first) (alive_before rest (without memory first (slice_get memory first)) number block stands live)
  where
    one_before : (number ≡ first) ⊎ (number ≡ first → ⊥) → slice_get (without memory first (slice_get memory first)) number ≡ Some block → slice_get memory number ≡ Some block
    one_before (inl same) after =
        absurd (dies memory first (slice_get memory first) block refl
        (ap (slice_get (without memory first (slice_get memory first))) (sym same) ∙ after) live)
    one_before (inr apart) after = sym (others_stay memory first number apart) ∙ after

-- a chain was one before
chain_before : (memory : List Block) (roots fewer dying : List ℕ) → ((number : ℕ) → Contains fewer number → Contains roots number) → (target : ℕ) →
    Chain (without_objects dying memory) fewer target → Chain memory roots target
chain_before memory roots fewer dying among target (Root _ root) = Root target (among target root)
chain_before memory roots fewer dying among target (Link number _ block chain stands live holds) =
    Link number target block (chain_before memory roots fewer dying among number chain) (alive_before dying memory number block stands live) live holds

pub loss_stays : DoesLossStay
loss_stays memory roots fewer dying among objects lost =
    let before = (lost_by_chains memory roots).0 lost in
    let number : ℕ = before.0 in
    let block : Block = before.1 in
    let was : IsLostBlock memory roots number block = before.2 in
    let heap : is_heap_block (slice_get memory number) ≡ true = ap is_heap_block was.stands ∙ was.allocated in
    (lost_by_chains (without_objects dying memory) fewer).1 (
      number,
      block,
      record {
        stands = stays dying memory number (misses_heap memory dying number heap objects) ∙ was.stands;
        allocated = was.allocated;
        live = was.live;
        unreached = λ chain. was.unreached (chain_before memory roots fewer dying among number chain);
      },
    )
