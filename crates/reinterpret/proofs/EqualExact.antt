-- Where no loss is named, each state of the graphs of a test's post follows, but for dead blocks that nothing names.
use Rattle.std.proofs.Common.{◌≡◌, ◌≢◌, ℕ, Bool, true, false, List, [], ◌∷◌, ◌++◌, Option, None, Some, refl, sym, ◌∙◌, ap, subst}
use Rattle.std.specs.Prelude.{option_map, Contains, if◌then◌else◌}
use Rattle.std.proofs.lemmas.Option.{none-some}
use Rattle.bytes_core.specs.declared.word.Word.{Word}
use Rattle.bytes_core.specs.Value.{is_same_address}
use Rattle.graph.specs.declared.parts.Pair.{Pair}
use Rattle.graph.specs.declared.parts.Parts.{Parts}
use Rattle.graph.specs.Maps.{held_by}
use Rattle.graph.specs.Meaning.{maps_of, Assignment, Meets, StandsFor}
use Rattle.graph.specs.State.{State, IsState}
use Rattle.graph.specs.WellFormed.{is_unequal_pair}
use Rattle.graph.specs.Whole.{IsGraph}
use Rattle.graph.proofs.AllThere.{all_blocks_may_be_there}
use Rattle.changes.specs.Following.{Follows}
use Rattle.changes.specs.Parts.{is_among, without_registers}
use Rattle.changes.specs.Posted.{Posted}
use Rattle.changes.proofs.Below.{AreThere}
use Rattle.changes.proofs.Held.{state_held, held_meets, held_state}
use Rattle.changes.proofs.Reached.{only_one, none_in}
use Rattle.changes.proofs.RegistersChanged.{without_agrees, held_without, emptied-words}
use Rattle.reinterpret.specs.Comparing.{values_compared}
use Rattle.changes.specs.Merging.{merged_key, merged, with_unequal}
use Rattle.reinterpret.specs.Open.{MayBeEither, IsOpen}
use Rattle.reinterpret.specs.Reading.{one_graph}
use Rattle.reinterpret.specs.Sameness.{Equals, may_compare}
use Rattle.reinterpret.specs.Testing.{tested, equal_post}
use Rattle.reinterpret.specs.declared.comparison.Comparison.{Comparison}
use Rattle.reinterpret.specs.declared.comparison.Comparison.TheVariants as known
use Rattle.reinterpret.proofs.EqualSound.{held, are, post_is, open_is, tells}
use Rattle.reinterpret.proofs.PairsApart.{pairs_apart}
use Rattle.changes.proofs.MergedGraph.{graph_merged}
use Rattle.changes.proofs.MergedMeets.{PairsStayApart, with_merged, both_words, unmerged_meets}
use Rattle.reinterpret.proofs.HeldMerged.{held_merged}
use Rattle.changes.proofs.MergedPairs.{Apart, apart_of, apart_at}
use Rattle.reinterpret.proofs.Told.{Tells}

-- a state in which a test goes on
abbrev CameFrom : Parts → ℕ → ℕ → Bool → State → Type 0
CameFrom parts left right same next = (state : State) × IsState state × StandsFor parts state × Equals left right same state next

apart_front : (word : ℕ → Word) (one other : List Pair) → Apart word (one ++ other) → Apart word one
apart_front word [] other apart = tt
apart_front word (pair ∷ rest) other apart = (apart.0, apart_front word rest other apart.1)

apart_last : (word : ℕ → Word) (one : List Pair) (pair : Pair) → Apart word (one ++ pair ∷ []) → word pair.left ≢ word pair.right
apart_last word [] pair apart = apart.0
apart_last word (first ∷ rest) pair apart = apart_last word rest pair apart.1

-- a pair less
pair_less : (parts : Parts) (one other : ℕ) (gone : List ℕ) (state : State) (given : Assignment) → Meets (maps_of (without_registers gone (with_unequal one other parts))) state given → Meets (maps_of (without_registers gone parts)) state given
pair_less parts one other gone state given meets = record {
  values = meets.values;
  objects = meets.objects;
  owners = meets.owners;
  places = meets.places;
  used = λ number block stands live. let owned = meets.used number block stands live in record { object = owned.object; block = owned.block };
  variables = meets.variables;
  registers = meets.registers;
  ports = meets.ports;
  rooted = meets.rooted;
  unequal = apart_at given.word parts.unequal (apart_front given.word parts.unequal (record { left = one; right = other } ∷ []) (apart_of given.word (with_unequal one other parts).unequal meets.unequal));
}

module _ (parts : Parts) (graph : IsGraph parts) (left right : ℕ) (may : may_compare parts left right ≡ true) where
  abbrev registers_gone : List ℕ
  registers_gone = left ∷ right ∷ []

  abbrev one : ℕ
  one = (held parts graph left right may).0

  abbrev other : ℕ
  other = (held parts graph left right may).1

  -- a state that the graph stands for, behind which registers are emptied
  came : (same : Bool) (state next : State) (given : Assignment) → IsState state → Meets (maps_of parts) state given → is_same_address state.memory (given.word one) (given.word other) ≡ same → next.memory ≡ state.memory →
      ((register : ℕ) → next.registers register ≡ option_map given.word (held_by (without_registers registers_gone parts).registers register)) → ((variable : ℕ) → next.variables variable ≡ state.variables variable) →
      next.ports ≡ state.ports → next.roots ≡ state.roots → CameFrom parts left right same next
  came same state next given is meets test memory registers variables ports roots = (
    state,
    is,
    record { given = given; meets = meets },
    record {
      one = given.word one;
      other = given.word other;
      left_held = meets.registers left ∙ ap (option_map given.word) (held parts graph left right may).2;
      right_held = meets.registers right ∙ ap (option_map given.word) (held parts graph left right may).3;
      test = test;
      leaves = record {
        memory = memory;
        registers = λ register. registers register ∙ ap (option_map given.word) (held_without registers_gone parts register)
            ∙ sym (emptied-words given.word registers_gone (held_by parts.registers) state.registers register (meets.registers register));
        variables = variables;
        ports = ports;
        roots = roots;
      };
    },
  )

  -- the graph with the registers emptied
  kept_came : (same : Bool) (next : State) (given : Assignment) → IsState next → (meets : Meets (maps_of (without_registers registers_gone parts)) next given) → AreThere parts next given →
      is_same_address next.memory (given.word one) (given.word other) ≡ same → CameFrom parts left right same next
  kept_came same next given is meets there test =
      came same (state_held parts (without_registers registers_gone parts) graph.well_formed next given (without_agrees registers_gone parts) meets) next given
      (held_state parts (without_registers registers_gone parts) graph.well_formed next given (without_agrees registers_gone parts) meets is there)
      (held_meets parts (without_registers registers_gone parts) graph.well_formed next given (without_agrees registers_gone parts) meets)
      test refl meets.registers (λ variable. refl) refl refl

  -- what is known of the words in such a state
  told : (next : State) (given : Assignment) (is : IsState next) (meets : Meets (maps_of (without_registers registers_gone parts)) next given) (there : AreThere parts next given) (comparison : Comparison) →
      values_compared parts one other (are parts graph left right may).value (are parts graph left right may).second ≡ comparison →
      Tells parts (state_held parts (without_registers registers_gone parts) graph.well_formed next given (without_agrees registers_gone parts) meets) given graph.well_formed
      (held_state parts (without_registers registers_gone parts) graph.well_formed next given (without_agrees registers_gone parts) meets is there).memory
      (held_meets parts (without_registers registers_gone parts) graph.well_formed next given (without_agrees registers_gone parts) meets)
      one other comparison
  told next given is meets there comparison is_known =
      subst (Tells parts (state_held parts (without_registers registers_gone parts) graph.well_formed next given (without_agrees registers_gone parts) meets) given graph.well_formed
      (held_state parts (without_registers registers_gone parts) graph.well_formed next given (without_agrees registers_gone parts) meets is there).memory
      (held_meets parts (without_registers registers_gone parts) graph.well_formed next given (without_agrees registers_gone parts) meets) one other) is_known
      (tells parts graph left right may (state_held parts (without_registers registers_gone parts) graph.well_formed next given (without_agrees registers_gone parts) meets) given
      (held_state parts (without_registers registers_gone parts) graph.well_formed next given (without_agrees registers_gone parts) meets is there)
      (held_meets parts (without_registers registers_gone parts) graph.well_formed next given (without_agrees registers_gone parts) meets))

  -- two numbers that are the same
  module _ (kept gone : ℕ) (can : MayBeEither parts kept gone) (is_known : values_compared parts one other (are parts graph left right may).value (are parts graph left right may).second ≡ known.Either kept gone) where
    abbrev now : Parts
    now = merged kept gone parts

    merged_came : (next : State) (given : Assignment) → IsState next → (meets : Meets (maps_of (without_registers registers_gone now)) next given) → AreThere now next given → CameFrom parts left right true next
    merged_came next given is meets there =
        came true state next both is_state were (told_either.back same_words) refl
        (λ register. meets.registers register ∙ registers register) (λ variable. refl) refl refl
      where
        after_graph : IsGraph now
        after_graph = graph_merged parts graph kept gone can.merge

        state : State
        state = state_held now (without_registers registers_gone now) after_graph.well_formed next given (without_agrees registers_gone now) meets

        is_state : IsState state
        is_state = held_state now (without_registers registers_gone now) after_graph.well_formed next given (without_agrees registers_gone now) meets is there

        middle : Meets (maps_of now) state given
        middle = held_meets now (without_registers registers_gone now) after_graph.well_formed next given (without_agrees registers_gone now) meets

        apart : PairsStayApart parts kept gone
        apart = pairs_apart parts kept gone can graph.well_formed.pairs_may_be_unequal

        both : Assignment
        both = with_merged kept gone given

        were : Meets (maps_of parts) state both
        were = unmerged_meets parts graph.well_formed kept gone can.merge apart state given middle

        same_words : both.word kept ≡ both.word gone
        same_words = both_words parts graph.well_formed kept gone can.merge apart state given middle

        told_either : Tells parts state both graph.well_formed is_state.memory were one other (known.Either kept gone)
        told_either = subst (Tells parts state both graph.well_formed is_state.memory were one other) is_known (tells parts graph left right may state both is_state were)

        registers : (register : ℕ) → option_map given.word (held_by (without_registers registers_gone now).registers register) ≡ option_map both.word (held_by (without_registers registers_gone parts).registers register)
        registers register =
            ap (option_map given.word) (held_without registers_gone now register) ∙ by_test (is_among registers_gone register) ∙ sym (ap (option_map both.word) (held_without registers_gone parts register))
          where
            by_found : (found : Option ℕ) → option_map given.word (option_map (merged_key kept gone) found) ≡ option_map both.word found
            by_found None = refl
            by_found (Some key) = refl

            by_test : (b : Bool) → option_map given.word (if b then None else held_by now.registers register) ≡ option_map both.word (if b then None else held_by parts.registers register)
            by_test true = refl
            by_test false = ap (option_map given.word) (held_merged kept gone parts register) ∙ by_found (held_by parts.registers register)

  by_comparison : (same : Bool) (after : Parts) (next : State) (given : Assignment) → IsState next → Meets (maps_of after) next given → AreThere after next given → (comparison : Comparison) →
      values_compared parts one other (are parts graph left right may).value (are parts graph left right may).second ≡ comparison → IsOpen parts comparison →
      (tested parts registers_gone same comparison).loss ≡ None → Contains (tested parts registers_gone same comparison).graphs after → CameFrom parts left right same next
  by_comparison true after next given is meets there known.Same is_known can none among =
      let same = only_one (without_registers registers_gone parts) after among in
      let meets' = subst (λ (g : Parts). Meets (maps_of g) next given) (sym same) meets in
      let there' = subst (λ (g : Parts). AreThere g next given) (sym same) there in
      kept_came true next given is meets' there' (told next given is meets' there' known.Same is_known)
  by_comparison false after next given is meets there known.Same is_known can none among = none_in after among
  by_comparison true after next given is meets there known.Different is_known can none among = none_in after among
  by_comparison false after next given is meets there known.Different is_known can none among =
      let same = only_one (without_registers registers_gone parts) after among in
      let meets' = subst (λ (g : Parts). Meets (maps_of g) next given) (sym same) meets in
      let there' = subst (λ (g : Parts). AreThere g next given) (sym same) there in
      kept_came false next given is meets' there' (told next given is meets' there' known.Different is_known)
  by_comparison true after next given is meets there (known.Either kept gone) is_known can none among =
      let same = only_one (without_registers registers_gone (merged kept gone parts)) after among in
      merged_came kept gone can is_known next given is (subst (λ (g : Parts). Meets (maps_of g) next given) (sym same) meets) (subst (λ (g : Parts). AreThere g next given) (sym same) there)
  by_comparison false after next given is meets there (known.Either kept gone) is_known can none among = by_pair (is_unequal_pair parts (record { left = kept; right = gone })) none among
    where
      by_pair : (b : Bool) → (if b then one_graph (without_registers registers_gone (with_unequal kept gone parts)) None else one_graph (without_registers registers_gone parts) (Some 5)).loss ≡ None →
          Contains (if b then one_graph (without_registers registers_gone (with_unequal kept gone parts)) None else one_graph (without_registers registers_gone parts) (Some 5)).graphs after → CameFrom parts left right false next
      by_pair false none among = absurd (none-some 5 (sym none))
      by_pair true none among =
          let same = only_one (without_registers registers_gone (with_unequal kept gone parts)) after among in
          let paired = subst (λ (g : Parts). Meets (maps_of g) next given) (sym same) meets in
          let meets' = pair_less parts kept gone registers_gone next given paired in
          let there' = subst (λ (g : Parts). AreThere g next given) (sym same) there in
          let differ = apart_last given.word parts.unequal (record { left = kept; right = gone }) (apart_of given.word (with_unequal kept gone parts).unequal paired.unequal) in
          let either = told next given is meets' there' (known.Either kept gone) is_known in
          kept_came false next given is meets' there' (by_test (is_same_address next.memory (given.word one) (given.word other)) refl (λ equal. differ (either.same equal)))
        where
          by_test : (b : Bool) → is_same_address next.memory (given.word one) (given.word other) ≡ b → (is_same_address next.memory (given.word one) (given.word other) ≡ true → ⊥) →
              is_same_address next.memory (given.word one) (given.word other) ≡ false
          by_test true is differ = absurd (differ is)
          by_test false is differ = is
  by_comparison true after next given is meets there known.Itself is_known can none among = absurd (none-some 4 (sym none))
  by_comparison false after next given is meets there known.Itself is_known can none among = absurd (none-some 4 (sym none))
  by_comparison true after next given is meets there known.Unknown is_known can none among = absurd (none-some 4 (sym none))
  by_comparison false after next given is meets there known.Unknown is_known can none among = absurd (none-some 4 (sym none))

  pub equal_follows : (same : Bool) (after : Parts) (next : State) → (equal_post parts left right same).loss ≡ None → Contains (equal_post parts left right same).graphs after → IsState next → StandsFor after next →
      Follows parts (Equals left right same) next
  equal_follows same after next none among is stands =
      let all = all_blocks_may_be_there after next stands.given is stands.meets in
      let before = by_comparison same after all.next all.given all.is all.meets all.there (values_compared parts one other (are parts graph left right may).value (are parts graph left right may).second) refl (open_is parts graph left right may)
      (sym (ap (λ (p : Posted). p.loss) (post_is parts graph left right may same)) ∙ none) (subst (λ (p : Posted). Contains p.graphs after) (post_is parts graph left right may same) among) in
      record { state = before.0; next' = all.next; is = before.1; stands = before.2; steps = before.3; more = all.more }
