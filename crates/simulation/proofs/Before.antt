-- What is lost before a block is left is lost after it, too.
use Rattle.std.proofs.Common.{◌≡◌, ◌≢◌, ℕ, zero, suc, set, List, [], ◌∷◌, true, false, refl, sym, ap, subst, ◌∙◌, ⊎_elim, Some, None, Option, Contains, slice_get}
use Rattle.std.specs.Prelude.{IsTrue}
use Rattle.std.proofs.lemmas.Bool.{false≢true, cases_eq}
use Rattle.std.proofs.lemmas.Option.{same_Some, none-some}
use Rattle.bytes_core.specs.declared.block.Block.{Block}
use Rattle.bytes_core.specs.Release.{without}
use Rattle.bytes_core.specs.Loss.{Chain, Root, Link, is_lost}
use Rattle.bytes_core.proofs.Chains.{lost_by_chains}
use Rattle.c_machine.specs.Step.{without_objects}
use Rattle.simulation.proofs.Roots.{first_in, behind_in}

slice_get-set_same : (memory : List Block) (number : ℕ) (old new : Block) → slice_get memory number ≡ Some old → slice_get (set memory number new) number ≡ Some new
slice_get-set_same [] number old new stands = absurd (none-some old stands)
slice_get-set_same (first ∷ rest) zero old new stands = refl
slice_get-set_same (first ∷ rest) (suc number) old new stands = slice_get-set_same rest number old new stands

slice_get-set_other : (memory : List Block) (number other : ℕ) (new : Block) → other ≢ number → slice_get (set memory number new) other ≡ slice_get memory other
slice_get-set_other [] number other new differ = refl
slice_get-set_other (first ∷ rest) zero zero new differ = absurd (differ refl)
slice_get-set_other (first ∷ rest) zero (suc other) new differ = refl
slice_get-set_other (first ∷ rest) (suc number) zero new differ = refl
slice_get-set_other (first ∷ rest) (suc number) (suc other) new differ = slice_get-set_other rest number other new (λ same. differ (ap suc same))

-- a block that dies: the others stand as before, and what lives then stood before
other_stands : (memory : List Block) (number other : ℕ) (found : Option Block) → other ≢ number → slice_get (without memory number found) other ≡ slice_get memory other
other_stands memory number other None differ = refl
other_stands memory number other (Some block) differ = slice_get-set_other memory number other (record block { live = false }) differ

lived : (memory : List Block) (number other : ℕ) (found : Option Block) → slice_get memory number ≡ found → (block : Block) →
    slice_get (without memory number found) other ≡ Some block → IsTrue block.live → slice_get memory other ≡ Some block
lived memory number other None is block stands live = stands
lived memory number other (Some old) is block stands live =
    ⊎_elim
    (λ (same : other ≡ number).
    let dead : Some (record old { live = false }) ≡ Some block =
    sym (slice_get-set_same memory number old (record old { live = false }) is)
    ∙ subst (λ (k : ℕ). slice_get (without memory number (Some old)) k ≡ Some block) same stands in
    let not_live : false ≡ block.live = ap (λ (b : Block). b.live) (same_Some (record old { live = false }) block dead) in
    absurd (false≢true (not_live ∙ live)))
    (λ (differ : other ≢ number). sym (other_stands memory number other (Some old) differ) ∙ stands)
    (cases_eq other number)

lived_all : (numbers : List ℕ) (memory : List Block) (other : ℕ) (block : Block) → slice_get (without_objects numbers memory) other ≡ Some block → IsTrue block.live →
    slice_get memory other ≡ Some block
lived_all [] memory other block stands live = stands
lived_all (number ∷ numbers) memory other block stands live =
    lived memory number other (slice_get memory number) refl block (lived_all numbers (without memory number (slice_get memory number)) other block stands live) live

stands_all : (numbers : List ℕ) (memory : List Block) (other : ℕ) → (Contains numbers other → ⊥) → slice_get (without_objects numbers memory) other ≡ slice_get memory other
stands_all [] memory other apart = refl
stands_all (number ∷ numbers) memory other apart =
    stands_all numbers (without memory number (slice_get memory number)) other (λ inside. apart (behind_in numbers number other inside))
    ∙ other_stands memory number other (slice_get memory number) (λ same. apart (first_in numbers number other (sym same)))

chain_before : (numbers : List ℕ) (memory : List Block) (roots roots' : List ℕ) → ((block : ℕ) → Contains roots' block → Contains roots block) → (target : ℕ) →
    Chain (without_objects numbers memory) roots' target → Chain memory roots target
chain_before numbers memory roots roots' within target (Root target' there) = Root target (within target there)
chain_before numbers memory roots roots' within target (Link number target' block chain stands live holds) =
    Link number target block (chain_before numbers memory roots roots' within number chain) (lived_all numbers memory number block stands live) live holds

-- the blocks that die are roots before
pub lost_after : (numbers : List ℕ) (memory : List Block) (roots roots' : List ℕ) → ((block : ℕ) → Contains roots' block → Contains roots block) →
    ((block : ℕ) → Contains numbers block → Contains roots block) → is_lost memory roots ≡ true → is_lost (without_objects numbers memory) roots' ≡ true
lost_after numbers memory roots roots' within die lost =
    let found = (lost_by_chains memory roots).0 lost in
    (lost_by_chains (without_objects numbers memory) roots').1 (
      found.0,
      found.1,
      record {
        stands = stands_all numbers memory found.0 (λ inside. found.2.unreached (Root found.0 (die found.0 inside))) ∙ found.2.stands;
        allocated = found.2.allocated;
        live = found.2.live;
        unreached = λ chain. found.2.unreached (chain_before numbers memory roots roots' within found.0 chain);
      },
    )
