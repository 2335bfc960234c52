-- The graphs of the post of a test stand for each state that follows.
use Rattle.std.proofs.Common.{◌≡◌, ◌≢◌, ℕ, Bool, true, false, List, [], ◌∷◌, Option, None, Some, refl, sym, ◌∙◌, ap, subst, arith}
use Rattle.std.specs.Prelude.{option_map, if◌then◌else◌}
use Rattle.std.proofs.lemmas.Bool.{false≢true}
use Rattle.std.proofs.lemmas.Option.{same_Some}
use Rattle.bytes_core.specs.declared.word.Word.{Word}
use Rattle.bytes_core.specs.Value.{is_same_address}
use Rattle.graph.specs.declared.parts.Parts.{Parts}
use Rattle.graph.specs.Maps.{held_by}
use Rattle.graph.specs.Meaning.{maps_of, Assignment, Meets, StandsFor}
use Rattle.graph.specs.State.{State, IsState}
use Rattle.graph.specs.WellFormed.{is_unequal_pair}
use Rattle.graph.specs.Whole.{IsGraph}
use Rattle.changes.specs.Following.{Leaves}
use Rattle.changes.specs.Parts.{emptied, without_registers}
use Rattle.changes.specs.Posted.{Posted, on_held, SomeStandsFor}
use Rattle.changes.proofs.Held.{IsHeldAs, held_as}
use Rattle.changes.proofs.RegistersChanged.{without_agrees, held_without, registers_changed, emptied-words}
use Rattle.reinterpret.specs.Comparing.{compared, values_compared}
use Rattle.changes.specs.Merging.{merged, with_unequal}
use Rattle.reinterpret.specs.Open.{IsOpen}
use Rattle.reinterpret.specs.Reading.{one_graph}
use Rattle.reinterpret.specs.Sameness.{Equals, may_compare}
use Rattle.reinterpret.specs.Testing.{tested, equal_post}
use Rattle.reinterpret.specs.declared.comparison.Comparison.{Comparison}
use Rattle.reinterpret.specs.declared.comparison.Comparison.TheVariants as known
use Rattle.changes.proofs.MergedMeets.{merged_meets}
use Rattle.changes.proofs.MergedPairs.{apart_of, apart_at, apart_more}
use Rattle.reinterpret.proofs.Opened.{AreCompared, compared_at, compared_values, compared_open, both_held}
use Rattle.reinterpret.proofs.Told.{Tells, values_tell}

-- the post, by what the registers hold
pub post_by : (parts : Parts) (left right one other : ℕ) (same : Bool) → held_by parts.registers left ≡ Some one → held_by parts.registers right ≡ Some other →
    equal_post parts left right same ≡ tested parts (left ∷ right ∷ []) same (compared parts one other)
post_by parts left right one other same held held' =
    ap (λ (o : Option ℕ). on_held o (λ one. on_held (held_by parts.registers right) (λ other. tested parts (left ∷ right ∷ []) same (compared parts one other)))) held
    ∙ ap (λ (o : Option ℕ). on_held o (λ other. tested parts (left ∷ right ∷ []) same (compared parts one other))) held'

-- registers are emptied
pub emptied_meets : (parts : Parts) (gone : List ℕ) (state next : State) (given : Assignment) → Meets (maps_of parts) state given → Leaves state.memory (emptied gone state.registers) state next → Meets (maps_of (without_registers gone parts)) next given
emptied_meets parts gone state next given meets leaves =
    registers_changed (maps_of parts) (maps_of (without_registers gone parts)) state next given (without_agrees gone parts)
    (record { memory = leaves.memory; variables = leaves.variables; ports = leaves.ports; roots = leaves.roots })
    (λ register. leaves.registers register ∙ emptied-words given.word gone (held_by parts.registers) state.registers register (meets.registers register) ∙ ap (option_map given.word) (sym (held_without gone parts register))) meets

-- two words differ
pair_meets : (parts : Parts) (one other : ℕ) (state : State) (given : Assignment) → Meets (maps_of parts) state given → given.word one ≢ given.word other → Meets (maps_of (with_unequal one other parts)) state given
pair_meets parts one other state given meets differ = record {
  values = meets.values;
  objects = meets.objects;
  owners = meets.owners;
  places = meets.places;
  used = λ number block stands live. let owned = meets.used number block stands live in record { object = owned.object; block = owned.block };
  variables = meets.variables;
  registers = meets.registers;
  ports = meets.ports;
  rooted = meets.rooted;
  unequal = apart_at given.word (with_unequal one other parts).unequal (apart_more given.word parts.unequal (record { left = one; right = other }) (apart_of given.word parts.unequal meets.unequal) differ);
}

module _ (parts : Parts) (graph : IsGraph parts) (left right : ℕ) (may : may_compare parts left right ≡ true) where
  abbrev pub gone : List ℕ
  gone = left ∷ right ∷ []

  pub held : (one : ℕ) × (other : ℕ) × (held_by parts.registers left ≡ Some one) × (held_by parts.registers right ≡ Some other)
  held = both_held parts left right may

  pub are : AreCompared parts held.0 held.1
  are = compared_at parts left right held.0 held.1 may held.2 held.3

  pub post_is : (same : Bool) → equal_post parts left right same ≡ tested parts gone same (values_compared parts held.0 held.1 are.value are.second)
  post_is same = post_by parts left right held.0 held.1 same held.2 held.3 ∙ ap (tested parts gone same) (compared_values parts held.0 held.1 are)

  pub open_is : IsOpen parts (values_compared parts held.0 held.1 are.value are.second)
  open_is = subst (IsOpen parts) (compared_values parts held.0 held.1 are) (compared_open parts held.0 held.1 are)

  pub tells : (state : State) (given : Assignment) (is : IsState state) (meets : Meets (maps_of parts) state given) →
      Tells parts state given graph.well_formed is.memory meets held.0 held.1 (values_compared parts held.0 held.1 are.value are.second)
  tells state given is meets = values_tell parts state given graph.well_formed is.memory meets held.0 held.1 are.value are.second are.is are.second_is are.names are.second_names

  kept_stands : (state next : State) (given : Assignment) → Meets (maps_of parts) state given → Leaves state.memory (emptied gone state.registers) state next → SomeStandsFor (without_registers gone parts ∷ []) next
  kept_stands state next given meets leaves = record {
    graph = without_registers gone parts;
    among = (0, omega arith, refl);
    stands = record { given = given; meets = emptied_meets parts gone state next given meets leaves };
  }

  by_comparison : (state next : State) (given : Assignment) (is : IsState state) (meets : Meets (maps_of parts) state given) → Leaves state.memory (emptied gone state.registers) state next → (same : Bool) →
      is_same_address state.memory (given.word held.0) (given.word held.1) ≡ same → (comparison : Comparison) → IsOpen parts comparison → Tells parts state given graph.well_formed is.memory meets held.0 held.1 comparison → SomeStandsFor (tested parts gone same comparison).graphs next
  by_comparison state next given is meets leaves true test known.Same can tells = kept_stands state next given meets leaves
  by_comparison state next given is meets leaves false test known.Same can tells = absurd (false≢true (sym test ∙ tells))
  by_comparison state next given is meets leaves true test known.Different can tells = absurd (false≢true (sym tells ∙ test))
  by_comparison state next given is meets leaves false test known.Different can tells = kept_stands state next given meets leaves
  by_comparison state next given is meets leaves true test (known.Either kept other) can tells = record {
    graph = without_registers gone (merged kept other parts);
    among = (0, omega arith, refl);
    stands = record {
      given = given;
      meets = emptied_meets (merged kept other parts) gone state next given (merged_meets parts graph.well_formed kept other can.merge state given (tells.same test) meets) leaves;
    };
  }
  by_comparison state next given is meets leaves false test (known.Either kept other) can tells = by_pair (is_unequal_pair parts (record { left = kept; right = other }))
    where
      by_pair : (b : Bool) → SomeStandsFor (if b then one_graph (without_registers gone (with_unequal kept other parts)) None else one_graph (without_registers gone parts) (Some 5)).graphs next
      by_pair true = record {
        graph = without_registers gone (with_unequal kept other parts);
        among = (0, omega arith, refl);
        stands = record {
          given = given;
          meets = emptied_meets (with_unequal kept other parts) gone state next given (pair_meets parts kept other state given meets (λ equal. false≢true (sym test ∙ tells.back equal))) leaves;
        };
      }
      by_pair false = kept_stands state next given meets leaves
  by_comparison state next given is meets leaves true test known.Itself can tells = kept_stands state next given meets leaves
  by_comparison state next given is meets leaves false test known.Itself can tells = absurd (false≢true (sym test ∙ tells))
  by_comparison state next given is meets leaves true test known.Unknown can tells = kept_stands state next given meets leaves
  by_comparison state next given is meets leaves false test known.Unknown can tells = kept_stands state next given meets leaves

  pub equal_sound : (same : Bool) (state next : State) → IsState state → StandsFor parts state → Equals left right same state next → SomeStandsFor (equal_post parts left right same).graphs next
  equal_sound same state next is stands equals =
      subst (λ (p : Posted). SomeStandsFor p.graphs next) (sym (post_is same))
      (by_comparison state next stands.given is stands.meets equals.leaves same test (values_compared parts held.0 held.1 are.value are.second) open_is (tells state stands.given is stands.meets))
    where
      one : IsHeldAs parts stands.given left equals.one
      one = held_as parts state stands.given left equals.one stands.meets equals.left_held

      other : IsHeldAs parts stands.given right equals.other
      other = held_as parts state stands.given right equals.other stands.meets equals.right_held

      word_is : (key found : ℕ) (register : ℕ) (word : Word) → held_by parts.registers register ≡ Some key → held_by parts.registers register ≡ Some found → stands.given.word found ≡ word → stands.given.word key ≡ word
      word_is key found register word here there is_word = ap stands.given.word (same_Some _ _ (sym here ∙ there)) ∙ is_word

      test : is_same_address state.memory (stands.given.word held.0) (stands.given.word held.1) ≡ same
      test =
          ap (λ (w : Word). is_same_address state.memory w (stands.given.word held.1)) (word_is held.0 one.key left equals.one held.2 one.held one.word_is)
          ∙ ap (is_same_address state.memory equals.one) (word_is held.1 other.key right equals.other held.3 other.held other.word_is)
          ∙ equals.test
