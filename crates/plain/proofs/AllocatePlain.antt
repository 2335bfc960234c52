-- An allocation that gives a block, on a graph that shows a state.
use Rattle.std.proofs.Common.{◌≡◌, ℕ, ◌≤◌, ◌<◌, ◌^◌, ◌+◌, Bool, true, false, not, List, [], ◌∷◌, length, pos, Option, None, Some, refl, sym, ◌∙◌, ap, leb-true, ltb-true, arith}
use Rattle.std.specs.Prelude.{if◌then◌else◌}
use Rattle.std.specs.Option.{option_map_or}
use Rattle.bytes_core.specs.declared.block.BlockKind.TheVariants.{Heap}
use Rattle.bytes_core.specs.declared.word.Word.{Word}
use Rattle.bytes_core.specs.declared.word.Word.TheVariants.{To}
use Rattle.graph.specs.declared.parts.Parts.{Parts}
use Rattle.graph.specs.declared.value.Target.TheVariants.{Region}
use Rattle.graph.specs.declared.value.Value.{Value}
use Rattle.graph.specs.declared.value.Value.TheVariants.{Address}
use Rattle.graph.specs.DeadBlocks.{with_memory}
use Rattle.graph.specs.Meaning.{block_word, first_of, Assignment}
use Rattle.graph.specs.State.{State}
use Rattle.graph.specs.WellFormed.{nodes}
use Rattle.graph.specs.Whole.{IsGraph}
use Rattle.changes.specs.Following.{Leaves}
use Rattle.changes.specs.Parts.{put, with_object_more, with_value}
use Rattle.changes.proofs.Value.{with_word, word-here}
use Rattle.changes.proofs.ValueForm.{value_new}
use Rattle.flow.specs.declared.instruction.Instr.TheVariants.{Allocate}
use Rattle.block_steps.specs.Allocating.{Allocates, with_allocated, allocate_post}
use Rattle.block_steps.specs.Blocks.{new_object, has_room}
use Rattle.block_steps.proofs.ObjectForm.{graph_more}
use Rattle.plain.specs.Marks.{Marks}
use Rattle.plain.specs.Shown.{is_sure, IsShownBy}
use Rattle.plain.specs.Laws.{GoesPlainlyInRoom}
use Rattle.plain.proofs.FinishPlain.{leads_nowhere}
use Rattle.plain.proofs.NewBlocks.{new_mark, with_block_marks, now, own_block, block_shown}
use Rattle.plain.proofs.Put.{put_shown}
use Rattle.plain.proofs.Reaches.{plain_post}
use Rattle.plain.proofs.Registers.{gained_marks, more_shown}

module _ (into bytes : ℕ) (zeroed : Bool) (parts : Parts) (graph : IsGraph parts) (small : bytes ≤ 65536) (few : nodes parts + 1 < 2 ^ 30) where
  abbrev grown : Parts
  grown = with_object_more (new_object Heap bytes zeroed) parts

  grown_graph : IsGraph grown
  grown_graph = graph_more Heap bytes zeroed parts graph small few

  abbrev address : Value
  address = Address (length parts.objects) (pos 0) Region

  module _ (state next : State) (marks : Marks) (given : Assignment) (shown : IsShownBy grown (with_memory next.memory state) (with_block_marks (length state.memory) (new_mark zeroed) marks) given)
      (own : given.blocks (length parts.objects) ≡ length state.memory ∷ []) (steps : Allocates bytes zeroed into state next) where
    abbrev word : Word
    word = To (length state.memory) (pos 0)

    leaves : Leaves next.memory (put into ((with_word (length parts.values) word given).word (length parts.values)) state.registers) (with_memory next.memory state) next
    leaves = record {
      memory = refl;
      registers = λ register. steps.registers_are register ∙ ap (λ (w : Word). put into w state.registers register) (sym (word-here (length parts.values) word given));
      variables = steps.variables_are;
      ports = steps.ports;
      roots = steps.roots;
    }

    pub allocated_shown : IsShownBy (with_allocated bytes zeroed into parts) next (gained_marks [] into false (with_block_marks (length state.memory) (new_mark zeroed) marks)) (with_word (length parts.values) word given)
    allocated_shown =
        put_shown (with_value address grown) (with_memory next.memory state) (with_block_marks (length state.memory) (new_mark zeroed) marks) (with_word (length parts.values) word given)
        (more_shown grown (with_memory next.memory state) (with_block_marks (length state.memory) (new_mark zeroed) marks) given shown grown_graph address word refl
        (sym (ap (λ (ns : List ℕ). block_word (first_of ns) (pos 0)) own)))
        into (length parts.values) false next (ap (λ (o : Option Value). option_map_or is_sure o false) (value_new address grown grown_graph)) leaves

pub allocate_plain : (into bytes : ℕ) (zeroed : Bool) → GoesPlainlyInRoom (Allocate into bytes zeroed)
allocate_plain into bytes zeroed flow point parts post state marks step room =
    plain_post (Allocates bytes zeroed into) state (gained_marks [] into false (with_block_marks (length state.memory) (new_mark zeroed) marks)) (allocate_post parts bytes zeroed into) post step.posted (record {
      loss = ap (λ (b : Bool). if b then Some 3 else None)
          (leads_nowhere parts step.graph step.fits.regions step.fits.ports state marks step.shown.given step.shown.by);
      single = omega arith;
      shows = λ next steps. record {
        graph = with_allocated bytes zeroed into parts;
        among = (0, omega arith, refl);
        shown = record {
          given = with_word (length parts.values) (To (length state.memory) (pos 0)) (given next steps);
          by = allocated_shown into bytes zeroed parts step.graph (leb-true _ _ step.may.sizes) few state next marks (given next steps)
              (block_shown Heap bytes zeroed parts step.graph step.fits.regions state step.is marks step.shown.given step.shown.by next.memory steps.block)
              (own_block Heap bytes zeroed parts step.graph step.fits.regions state step.is marks step.shown.given step.shown.by next.memory steps.block) steps;
        };
      };
    })
  where
    few : nodes parts + 1 < 2 ^ 30
    few = ltb-true _ _ (true_is (has_room parts 1) room)
      where
        true_is : (b : Bool) → not b ≡ false → b ≡ true
        true_is true is = refl
        true_is false is = sym is

    given : (next : State) → Allocates bytes zeroed into state next → Assignment
    given next steps = now Heap bytes zeroed parts step.graph step.fits.regions state step.is marks step.shown.given step.shown.by next.memory steps.block
