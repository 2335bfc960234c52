-- An object more, whose block is new: there.
use Rattle.std.proofs.Common.{◌≡◌, ℕ, Bool, true, false, ◌&&◌, ◌||◌, not, List, [], ◌∷◌, ◌++◌, map, length, replicate, nat_eq, nat_lt, refl, sym, ◌∙◌, subst, eqb-true}
use Rattle.std.specs.Prelude.{if◌then◌else◌}
use Rattle.std.specs.List.{list_all}
use Rattle.std.proofs.lemmas.List.{length-map}
use Rattle.bytes_core.specs.declared.byte.Byte.TheVariants.{Num}
use Rattle.bytes_core.specs.declared.block.Block.{Block}
use Rattle.bytes_core.specs.declared.block.BlockKind.{BlockKind}
use Rattle.bytes_core.specs.Placement.{new_block, can_be_placed}
use Rattle.graph.specs.declared.object.Object.{Object}
use Rattle.graph.specs.declared.parts.Parts.{Parts}
use Rattle.graph.specs.DeadBlocks.{with_memory}
use Rattle.graph.specs.State.{State, IsState}
use Rattle.graph.specs.Meaning.{HaveClasses, HasBlocks, own_offset, Assignment, Meets, maps_of}
use Rattle.graph.specs.Maps.{value_at}
use Rattle.graph.specs.Whole.{IsGraph}
use Rattle.graph.proofs.Closed.{closed_of}
use Rattle.graph.proofs.DeadMore.{last_get}
use Rattle.graph.proofs.Tests.{and_left, and_right}
use Rattle.changes.proofs.Freed.{IsFreed, freed}
use Rattle.changes.proofs.More.{with_new, object_more}
use Rattle.block_steps.specs.Blocks.{MakesBlock, new_object}
use Rattle.block_steps.proofs.ObjectForm.{grown, has_object_more}

-- numbers have the class of numbers, and zeros that of 0
numbers_have : (contents : List ℕ) (zeroed : Bool) → (not zeroed || list_all (nat_eq 0) contents) ≡ true → HaveClasses (replicate (length contents) (if zeroed then 0 else 1)) (map Num contents)
numbers_have [] zeroed zeros = tt
numbers_have (first ∷ rest) true zeros =
    (sym (eqb-true 0 first (and_left (nat_eq 0 first) (list_all (nat_eq 0) rest) zeros)), numbers_have rest true (and_right (nat_eq 0 first) (list_all (nat_eq 0) rest) zeros))
numbers_have (first ∷ rest) false zeros = (tt, numbers_have rest false refl)

module _ (kind : BlockKind) (size : ℕ) (zeroed : Bool) (parts : Parts) (graph : IsGraph parts) where
  -- words and blocks with which the graph stands for the state with the new block
  pub record IsGrown (state : State) (left : List Block) : Type 0 where
    pub given : Assignment
    pub was : Assignment
    pub meets : Meets (maps_of parts) state was
    pub same : given ≡ with_new (length parts.objects) (length state.memory) was
    pub grows : Meets (maps_of (grown kind size zeroed parts graph)) (with_memory left state) given

  pub grown_meets : (state : State) (given : Assignment) (left : List Block) → IsState state → Meets (maps_of parts) state given → MakesBlock kind size zeroed state.memory left → IsGrown state left
  grown_meets state given left is meets makes = record {
    given = with_new (length parts.objects) (length state.memory) free.given;
    was = free.given;
    meets = free.meets;
    same = refl;
    grows = subst (λ (memory : List Block). Meets (maps_of (grown kind size zeroed parts graph)) (with_memory memory state) (with_new (length parts.objects) (length state.memory) free.given)) (sym makes.is)
        (object_more (length parts.objects) object (maps_of parts) (maps_of (grown kind size zeroed parts graph)) state block free.given (has_object_more kind size zeroed parts graph) (closed_of parts graph.well_formed) free.meets free.free has);
  }
    where
      free : IsFreed (maps_of parts) state
      free = freed (maps_of parts) state given is meets

      object : Object
      object = new_object kind size zeroed

      block : Block
      block = new_block kind makes.base makes.contents

      long : length makes.contents ≡ size
      long = eqb-true _ _ (and_left (nat_eq (length makes.contents) size) (list_all (λ byte. nat_lt byte 256) makes.contents && can_be_placed state.memory block) makes.new)

      has : HasBlocks (state.memory ++ block ∷ []) object free.given.word (λ value. own_offset (value_at parts.values value)) (length state.memory ∷ [])
      has = (
        length state.memory,
        refl,
        record {
          block = block;
          there = last_get state.memory block;
          node = record {
            live = refl;
            kind = refl;
            size = length-map makes.contents Num ∙ long;
            edges = tt;
            classes = subst (λ (count : ℕ). HaveClasses (replicate count (if zeroed then 0 else 1)) (map Num makes.contents)) long (numbers_have makes.contents zeroed makes.zeros);
          };
        },
      )
