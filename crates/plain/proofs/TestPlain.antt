-- A test whether two values are the same, on a graph that shows a state.
use Rattle.std.proofs.Common.{◌≡◌, ℕ, Bool, true, false, List, [], ◌∷◌, Option, None, Some, inl, inr, refl, sym, ◌∙◌, ap, subst, arith}
use Rattle.std.specs.Prelude.{if◌then◌else◌}
use Rattle.std.specs.Option.{option_map_or}
use Rattle.std.proofs.lemmas.Bool.{false≢true}
use Rattle.std.proofs.lemmas.Option.{same_Some}
use Rattle.bytes_core.specs.declared.word.Word.{Word}
use Rattle.bytes_core.specs.Value.{is_same_address}
use Rattle.graph.specs.declared.parts.Parts.{Parts}
use Rattle.graph.specs.declared.value.Value.{Value}
use Rattle.graph.specs.Maps.{value_at, held_by}
use Rattle.graph.specs.Meaning.{Assignment}
use Rattle.graph.specs.State.{State, IsState}
use Rattle.graph.specs.WellFormed.{passes_at}
use Rattle.graph.specs.Whole.{IsGraph}
use Rattle.changes.specs.Merging.{merged, with_unequal}
use Rattle.changes.specs.Parts.{without_registers}
use Rattle.changes.specs.Posted.{Posted}
use Rattle.flow.specs.declared.flow_graph.Flow.{Flow}
use Rattle.flow.specs.declared.instruction.Instr.TheVariants.{IfSame, IfDifferent}
use Rattle.reinterpret.specs.Comparing.{values_compared}
use Rattle.reinterpret.specs.Open.{IsOpen}
use Rattle.reinterpret.specs.Reading.{one_graph}
use Rattle.reinterpret.specs.Sameness.{Equals, may_compare}
use Rattle.reinterpret.specs.Testing.{tested, equal_post}
use Rattle.reinterpret.specs.declared.comparison.Comparison.{Comparison}
use Rattle.reinterpret.specs.declared.comparison.Comparison.TheVariants as known
use Rattle.reinterpret.proofs.EqualSound.{held, are, post_is, open_is, tells}
use Rattle.reinterpret.proofs.Told.{Tells}
use Rattle.transfer.specs.OfRegions.{FitsOfRegions}
use Rattle.transfer.proofs.Asked.{same_ready, different_ready}
use Rattle.plain.specs.Marks.{Marks}
use Rattle.plain.specs.Conditions.{IsPlainTest}
use Rattle.plain.specs.Shown.{is_told, may_show, IsShownBy}
use Rattle.plain.specs.Laws.{GoesPlainly}
use Rattle.plain.proofs.Compared.{IsSettled, sides_settled, left_settled, right_settled}
use Rattle.plain.proofs.Merged.{merged_shown, unequal_shown}
use Rattle.plain.proofs.Operands.{sure_value, number_value}
use Rattle.plain.proofs.Reaches.{IsPlainPosted, plain_post, none_follows}
use Rattle.plain.proofs.Registers.{emptied_marks, emptied_shown}
use Rattle.plain.proofs.WritePlain.{register_is}

module _ (flow : Flow) (point : ℕ) (parts : Parts) (fits : FitsOfRegions flow point parts) (graph : IsGraph parts) (left right : ℕ) (may : may_compare parts left right ≡ true) (state : State) (is : IsState state) (marks : Marks) (given : Assignment)
    (by : IsShownBy parts state marks given) where
  abbrev gone : List ℕ
  gone = left ∷ right ∷ []

  abbrev one : ℕ
  one = (held parts graph left right may).0

  abbrev other : ℕ
  other = (held parts graph left right may).1

  told_value : (register key : ℕ) (value : Value) → marks.input register ≡ true → held_by parts.registers register ≡ Some key → value_at parts.values key ≡ Some value → is_told value ≡ true
  told_value register key value input held stands =
      subst (λ (o : Option Value). option_map_or is_told o false ≡ true) stands (subst (λ (b : Bool). passes_at parts (may_show b) key ≡ true) input (by.registers register key held))

  settled : IsPlainTest left right state marks → IsSettled parts (values_compared parts one other (are parts graph left right may).value (are parts graph left right may).second)
  settled (inl sides) =
      sides_settled flow point parts fits graph state given by.meets one other (are parts graph left right may).value (are parts graph left right may).second (are parts graph left right may).is (are parts graph left right may).second_is
      (sure_value parts state marks given by left one (are parts graph left right may).value sides.left (held parts graph left right may).2 (are parts graph left right may).is)
      (sure_value parts state marks given by right other (are parts graph left right may).second sides.right (held parts graph left right may).3 (are parts graph left right may).second_is)
      (sides.plain (given.word one) (given.word other) (register_is parts state given by.meets left one (held parts graph left right may).2) (register_is parts state given by.meets right other (held parts graph left right may).3))
  settled (inr (inl test)) =
      left_settled flow point parts fits graph state given by.meets one other (are parts graph left right may).value (are parts graph left right may).second (are parts graph left right may).is (are parts graph left right may).second_is
      (told_value left one (are parts graph left right may).value test.input (held parts graph left right may).2 (are parts graph left right may).is)
      (number_value parts state marks given by flow point fits graph right other (are parts graph left right may).second test.number (held parts graph left right may).3 (are parts graph left right may).second_is)
      (are parts graph left right may).sizes
  settled (inr (inr test)) =
      right_settled flow point parts fits graph state given by.meets one other (are parts graph left right may).value (are parts graph left right may).second (are parts graph left right may).is (are parts graph left right may).second_is
      (number_value parts state marks given by flow point fits graph left one (are parts graph left right may).value test.number (held parts graph left right may).2 (are parts graph left right may).is)
      (told_value right other (are parts graph left right may).second test.input (held parts graph left right may).3 (are parts graph left right may).second_is)
      (are parts graph left right may).sizes

  same_test : (same : Bool) (next : State) → Equals left right same state next → is_same_address state.memory (given.word one) (given.word other) ≡ same
  same_test same next steps =
      ap (λ (w : Word). is_same_address state.memory w (given.word other)) (same_Some _ _ (sym (register_is parts state given by.meets left one (held parts graph left right may).2) ∙ steps.left_held))
      ∙ ap (is_same_address state.memory steps.one) (same_Some _ _ (sym (register_is parts state given by.meets right other (held parts graph left right may).3) ∙ steps.right_held))
      ∙ steps.test

  abbrev Plainly : Bool → Posted → Type 0
  Plainly same posted = IsPlainPosted (Equals left right same) state (emptied_marks gone marks) posted

  -- the graph with the two registers emptied
  goes_on : (same : Bool) (behind : Parts) → ((next : State) → Equals left right same state next → IsShownBy behind state marks given) → Plainly same (one_graph (without_registers gone behind) None)
  goes_on same behind shown = record {
    loss = refl;
    single = omega arith;
    shows = λ next steps. record {
      graph = without_registers gone behind;
      among = (0, omega arith, refl);
      shown = record { given = given; by = emptied_shown behind state marks given (shown next steps) gone next steps.leaves };
    };
  }

  by_comparison : (same : Bool) (comparison : Comparison) → IsSettled parts comparison → IsOpen parts comparison → Tells parts state given graph.well_formed is.memory by.meets one other comparison → Plainly same (tested parts gone same comparison)
  by_comparison true known.Same settles can says = goes_on true parts (λ next steps. by)
  by_comparison false known.Same settles can says = none_follows (Equals left right false) state (emptied_marks gone marks) _ refl refl (λ next steps. false≢true (sym (same_test false next steps) ∙ says))
  by_comparison true known.Different settles can says = none_follows (Equals left right true) state (emptied_marks gone marks) _ refl refl (λ next steps. false≢true (sym says ∙ same_test true next steps))
  by_comparison false known.Different settles can says = goes_on false parts (λ next steps. by)
  by_comparison true (known.Either kept gone_key) settles can says =
      goes_on true (merged kept gone_key parts)
      (λ next steps. merged_shown parts graph.well_formed fits.regions state marks given by kept gone_key settles.1 settles.2 settles.3 settles.4 settles.5 can.merge (says.same (same_test true next steps)))
  by_comparison false (known.Either kept gone_key) settles can says =
      subst (λ (b : Bool). Plainly false (if b then one_graph (without_registers gone (with_unequal kept gone_key parts)) None else one_graph (without_registers gone parts) (Some 5))) (sym settles.0)
      (goes_on false (with_unequal kept gone_key parts)
      (λ next steps. unequal_shown parts state marks given by kept gone_key (λ equal. false≢true (sym (same_test false next steps) ∙ says.back equal))))
  by_comparison same known.Itself settles can says = absurd settles
  by_comparison same known.Unknown settles can says = absurd settles

  pub test_posted : (same : Bool) → IsPlainTest left right state marks → Plainly same (equal_post parts left right same)
  test_posted same plain =
      subst (Plainly same) (sym (post_is parts graph left right may same))
      (by_comparison same (values_compared parts one other (are parts graph left right may).value (are parts graph left right may).second) (settled plain) (open_is parts graph left right may) (tells parts graph left right may state given is by.meets))

pub same_plain : (one other : ℕ) → GoesPlainly (IfSame one other)
same_plain one other flow point parts post state marks step =
    plain_post (Equals one other true) state (emptied_marks (one ∷ other ∷ []) marks) (equal_post parts one other true) post step.posted
    (test_posted flow point parts step.fits step.graph one other (same_ready flow point (IfSame one other) parts step.may step.graph one other refl) state step.is marks step.shown.given step.shown.by true step.plain)

pub different_plain : (one other : ℕ) → GoesPlainly (IfDifferent one other)
different_plain one other flow point parts post state marks step =
    plain_post (Equals one other false) state (emptied_marks (one ∷ other ∷ []) marks) (equal_post parts one other false) post step.posted
    (test_posted flow point parts step.fits step.graph one other (different_ready flow point (IfDifferent one other) parts step.may step.graph one other refl) state step.is marks step.shown.given step.shown.by false step.plain)
