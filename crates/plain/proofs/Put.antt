-- A graph shows a state still where a register gets a value and no other is emptied.
use Rattle.std.proofs.Common.{◌≡◌, ℕ, Bool, true, false, [], length, nat_eq, Option, Some, refl, sym, ◌∙◌, ap, subst, arith}
use Rattle.std.specs.Prelude.{option_map, if◌then◌else◌}
use Rattle.std.specs.Option.{option_map_or}
use Rattle.std.proofs.lemmas.Option.{same_Some}
use Rattle.bytes_core.specs.declared.word.Word.{Word}
use Rattle.bytes_core.specs.declared.word.Word.TheVariants.{Plain}
use Rattle.graph.specs.declared.parts.Parts.{Parts}
use Rattle.graph.specs.declared.value.Value.{Value}
use Rattle.graph.specs.declared.value.Value.TheVariants.{Const}
use Rattle.graph.specs.Maps.{held_by}
use Rattle.graph.specs.Meaning.{maps_of, Assignment}
use Rattle.graph.specs.State.{State}
use Rattle.graph.specs.WellFormed.{passes_at}
use Rattle.changes.specs.Following.{Leaves}
use Rattle.changes.specs.Parts.{put, with_register, with_value}
use Rattle.changes.proofs.RegistersChanged.{with_agrees, held_with, registers_changed, put-words}
use Rattle.changes.proofs.Value.{with_word, word-here}
use Rattle.changes.proofs.ValueForm.{value_new}
use Rattle.flow.specs.declared.instruction.Instr.TheVariants.{AllocateNone}
use Rattle.heap_steps.specs.Posts.{refuse_post}
use Rattle.heap_steps.specs.Steps.{Refuses}
use Rattle.plain.specs.Marks.{Marks}
use Rattle.plain.specs.Shown.{may_show, is_sure, IsShownBy}
use Rattle.plain.specs.Laws.{GoesPlainly}
use Rattle.plain.proofs.Reaches.{plain_post}
use Rattle.plain.proofs.Registers.{gained_marks, more_shown}

pub put_shown : (parts : Parts) (state : State) (marks : Marks) (given : Assignment) → IsShownBy parts state marks given → (into key : ℕ) (flag : Bool) (next : State) → passes_at parts (may_show flag) key ≡ true →
    Leaves state.memory (put into (given.word key) state.registers) state next → IsShownBy (with_register into key parts) next (gained_marks [] into flag marks) given
put_shown parts state marks given shown into key flag next passes leaves = record {
  meets = registers_changed (maps_of parts) (maps_of (with_register into key parts)) state next given (with_agrees into key parts) (record { memory = leaves.memory; variables = leaves.variables; ports = leaves.ports; roots = leaves.roots })
      (λ register. leaves.registers register ∙ put-words given.word into key (held_by parts.registers) state.registers register (shown.meets.registers register) ∙ ap (option_map given.word) (sym (held_with into key parts register)))
      shown.meets;
  marked = shown.marked;
  tight = shown.tight;
  edges = shown.edges;
  registers = λ register other held. by_test register other (nat_eq register into) (sym (held_with into key parts register) ∙ held);
}
  where
    by_test : (register other : ℕ) (here : Bool) → (if here then Some key else held_by parts.registers register) ≡ Some other → passes_at parts (may_show (if here then flag else marks.input register)) other ≡ true
    by_test register other true is = subst (λ (k : ℕ). passes_at parts (may_show flag) k ≡ true) (same_Some _ _ is) passes
    by_test register other false is = shown.registers register other is

pub refuse_plain : (into : ℕ) → GoesPlainly (AllocateNone into)
refuse_plain into flow point parts post state marks step =
    plain_post (Refuses into) state (gained_marks [] into false marks) (refuse_post parts into) post step.posted (record {
      loss = refl;
      single = omega arith;
      shows = λ next steps. record {
        graph = with_register into (length parts.values) (with_value (Const 0 8) parts);
        among = (0, omega arith, refl);
        shown = record {
          given = with_word (length parts.values) (Plain 0) step.shown.given;
          by = put_shown (with_value (Const 0 8) parts) state marks (with_word (length parts.values) (Plain 0) step.shown.given)
              (more_shown parts state marks step.shown.given step.shown.by step.graph (Const 0 8) (Plain 0) refl refl) into (length parts.values) false next
              (ap (λ (o : Option Value). option_map_or is_sure o false) (value_new (Const 0 8) parts step.graph))
              (subst (λ (w : Word). Leaves state.memory (put into w state.registers) state next) (sym (word-here (length parts.values) (Plain 0) step.shown.given)) steps.leaves);
        };
      };
    })
