-- What the post of a test says, together.
use Rattle.std.proofs.Common.{◌≡◌, ℕ, ◌+◌, ◌<◌, Bool, true, false, List, [], ◌∷◌, ◌++◌, map, length, nat_eq, Option, None, Some, refl, sym, ◌∙◌, ap, subst, eqb-true, length-append, arith}
use Rattle.std.specs.Prelude.{Contains, IfOk, Result, Ok, Err, option_map, if◌then◌else◌}
use Rattle.std.specs.Option.{option_map_or}
use Rattle.std.proofs.lemmas.Bool.{false≢true}
use Rattle.graph.specs.declared.object.Object.{Object}
use Rattle.graph.specs.declared.parts.Parts.{Parts}
use Rattle.graph.specs.declared.post.Post.{Post}
use Rattle.graph.specs.declared.value.Value.{Value}
use Rattle.graph.specs.declared.value.Value.TheVariants.{Const, Number, Any, Address}
use Rattle.graph.specs.Maps.{object_at, value_at, held_by}
use Rattle.graph.specs.Sizes.{value_size, is_number}
use Rattle.graph.specs.WellFormed.{are_ascending, passes_at, is_unequal_pair}
use Rattle.graph.specs.Whole.{IsGraph}
use Rattle.changes.specs.Following.{StepMeans, life}
use Rattle.changes.specs.Parts.{is_among, emptied, without_registers}
use Rattle.changes.specs.Posted.{Posted, IsPost, SomeStandsFor}
use Rattle.changes.proofs.Reached.{only_one, none_in}
use Rattle.changes.proofs.RegisterForm.{graph_without}
use Rattle.changes.proofs.RegistersChanged.{held_without}
use Rattle.reinterpret.specs.Comparing.{values_compared}
use Rattle.changes.specs.Merging.{MayMerge, merged_key, merged_object, merged, with_unequal}
use Rattle.reinterpret.specs.Open.{MayBeEither, IsOpen, HasPairRoom, HasRoomFor, HasRoom}
use Rattle.reinterpret.specs.Reading.{one_graph}
use Rattle.reinterpret.specs.Sameness.{Equals, NeverFaults, StepSound, is_plain, may_compare, EqualTail}
use Rattle.reinterpret.specs.Testing.{tested, equal_post}
use Rattle.reinterpret.specs.declared.comparison.Comparison.{Comparison}
use Rattle.reinterpret.specs.declared.comparison.Comparison.TheVariants as known
use Rattle.reinterpret.proofs.EqualExact.{equal_follows}
use Rattle.reinterpret.proofs.EqualSound.{held, are, post_is, open_is, equal_sound}
use Rattle.changes.proofs.MergedGraph.{graph_merged, object_merged, zero_kept}
use Rattle.reinterpret.proofs.HeldMerged.{held_merged}
use Rattle.changes.proofs.MergedPairs.{merged_few}
use Rattle.reinterpret.proofs.Opened.{AreCompared, compared_values}
use Rattle.reinterpret.proofs.PairGraph.{graph_unequal}

map_as_is : (keys : List ℕ) → keys ≡ map (λ (key : ℕ). key) keys
map_as_is [] = refl
map_as_is (key ∷ rest) = ap (λ (ks : List ℕ). key ∷ ks) (map_as_is rest)

option_as_is : (found : Option ℕ) → found ≡ option_map (λ (key : ℕ). key) found
option_as_is None = refl
option_as_is (Some key) = refl

number_plain : (value : Value) (size : ℕ) → is_number value size ≡ true → is_plain value ≡ true
number_plain (Const n s) size is = refl
number_plain (Number s) size is = refl
number_plain Any size is = absurd (false≢true is)
number_plain (Address object offset target) size is = absurd (false≢true is)

number_sized : (value : Value) (size : ℕ) → is_number value size ≡ true → value_size value ≡ size
number_sized (Const n s) size is = eqb-true _ _ is
number_sized (Number s) size is = eqb-true _ _ is
number_sized Any size is = absurd (false≢true is)
number_sized (Address object offset target) size is = absurd (false≢true is)

kinds_none : (parts : Parts) (gone : List ℕ) (same : Bool) (comparison : Comparison) → (tested parts gone same comparison).kinds ≡ []
kinds_none parts gone true known.Same = refl
kinds_none parts gone false known.Same = refl
kinds_none parts gone true known.Different = refl
kinds_none parts gone false known.Different = refl
kinds_none parts gone true (known.Either kept other) = refl
kinds_none parts gone false (known.Either kept other) = by_pair (is_unequal_pair parts (record { left = kept; right = other }))
  where
    by_pair : (b : Bool) → (if b then one_graph (without_registers gone (with_unequal kept other parts)) None else one_graph (without_registers gone parts) (Some 5)).kinds ≡ []
    by_pair true = refl
    by_pair false = refl
kinds_none parts gone true known.Itself = refl
kinds_none parts gone false known.Itself = refl
kinds_none parts gone true known.Unknown = refl
kinds_none parts gone false known.Unknown = refl

module _ (parts : Parts) (graph : IsGraph parts) (gone : List ℕ) where
  -- the graph as it is, with other pairs
  tail_kept : EqualTail parts gone (without_registers gone parts)
  tail_kept = record {
    graph = graph_without gone parts graph;
    variables = refl;
    values = refl;
    lives = λ key. refl;
    key_of = λ key. key;
    same = λ key plain. refl;
    plain = λ key plain. plain;
    sizes = λ key. refl;
    ports = map_as_is parts.ports;
    registers = λ register. held_without gone parts register ∙ option_as_is (emptied gone (held_by parts.registers) register);
    pairs = omega arith;
  }

  tail_pair : (one other : ℕ) → MayBeEither parts one other → is_unequal_pair parts (record { left = one; right = other }) ≡ true → length parts.unequal < 1073741823 → EqualTail parts gone (without_registers gone (with_unequal one other parts))
  tail_pair one other either may few = record {
    graph = graph_without gone (with_unequal one other parts) (graph_unequal parts one other graph few may either.fresh);
    variables = refl;
    values = refl;
    lives = λ key. refl;
    key_of = λ key. key;
    same = λ key plain. refl;
    plain = λ key plain. plain;
    sizes = λ key. refl;
    ports = map_as_is parts.ports;
    registers = λ register. held_without gone (with_unequal one other parts) register ∙ option_as_is (emptied gone (held_by parts.registers) register);
    pairs = let e : length (parts.unequal ++ record { left = one; right = other } ∷ []) ≡ length parts.unequal + 1 = length-append parts.unequal (record { left = one; right = other } ∷ []) in omega arith;
  }

  module _ (kept other : ℕ) (may : MayMerge parts kept other) where
    plain_gone : (key : ℕ) → nat_eq key other ≡ true → passes_at parts is_plain key ≡ true
    plain_gone key is = ap (λ (o : Option Value). option_map_or is_plain o false) (ap (value_at parts.values) (eqb-true _ _ is) ∙ may.gone_is)

    tail_merged : EqualTail parts gone (without_registers gone (merged kept other parts))
    tail_merged = record {
      graph = graph_without gone (merged kept other parts) (graph_merged parts graph kept other may);
      variables = refl;
      values = refl;
      lives = λ key. ap (option_map life) (object_merged parts graph kept other may key) ∙ by_found (object_at parts.objects key);
      key_of = merged_key kept other;
      same = λ key plain. stays key plain (nat_eq key other) refl;
      plain = λ key plain. plain_still key plain (nat_eq key other);
      sizes = λ key. sized key (nat_eq key other) refl;
      ports = refl;
      registers = λ register. held_without gone (merged kept other parts) register ∙ by_test register (is_among gone register);
      pairs = let few = merged_few parts kept other parts.unequal in omega arith;
    }
      where
        by_found : (found : Option Object) → option_map life (option_map (merged_object (zero_kept parts graph kept other may) kept other) found) ≡ option_map life found
        by_found None = refl
        by_found (Some object) = refl

        stays : (key : ℕ) → passes_at parts is_plain key ≡ false → (b : Bool) → nat_eq key other ≡ b → (if b then kept else key) ≡ key
        stays key plain true is = absurd (false≢true (sym plain ∙ plain_gone key is))
        stays key plain false is = refl

        plain_still : (key : ℕ) → passes_at parts is_plain key ≡ true → (b : Bool) → passes_at parts is_plain (if b then kept else key) ≡ true
        plain_still key plain true = ap (λ (o : Option Value). option_map_or is_plain o false) may.kept_is ∙ number_plain may.value may.size may.kept_number
        plain_still key plain false = plain

        sized : (key : ℕ) (b : Bool) → nat_eq key other ≡ b → option_map value_size (value_at parts.values (if b then kept else key)) ≡ option_map value_size (value_at parts.values key)
        sized key true is =
            ap (option_map value_size) may.kept_is ∙ ap Some (number_sized may.value may.size may.kept_number)
            ∙ sym (ap (option_map value_size) (ap (value_at parts.values) (eqb-true _ _ is) ∙ may.gone_is))
        sized key false is = refl

        by_test : (register : ℕ) (b : Bool) → (if b then None else held_by (merged kept other parts).registers register) ≡ option_map (merged_key kept other) (if b then None else held_by parts.registers register)
        by_test register true = refl
        by_test register false = held_merged kept other parts register

  tail_of : (same : Bool) (comparison : Comparison) → IsOpen parts comparison → HasPairRoom parts same comparison → (after : Parts) → Contains (tested parts gone same comparison).graphs after → EqualTail parts gone after
  tail_of true known.Same can room after among = subst (EqualTail parts gone) (only_one (without_registers gone parts) after among) tail_kept
  tail_of false known.Same can room after among = none_in after among
  tail_of true known.Different can room after among = none_in after among
  tail_of false known.Different can room after among = subst (EqualTail parts gone) (only_one (without_registers gone parts) after among) tail_kept
  tail_of true (known.Either kept other) can room after among = subst (EqualTail parts gone) (only_one (without_registers gone (merged kept other parts)) after among) (tail_merged kept other can.merge)
  tail_of false (known.Either kept other) can room after among = by_pair (is_unequal_pair parts (record { left = kept; right = other })) refl among
    where
      by_pair : (b : Bool) → is_unequal_pair parts (record { left = kept; right = other }) ≡ b →
          Contains (if b then one_graph (without_registers gone (with_unequal kept other parts)) None else one_graph (without_registers gone parts) (Some 5)).graphs after → EqualTail parts gone after
      by_pair true is among = subst (EqualTail parts gone) (only_one (without_registers gone (with_unequal kept other parts)) after among) (tail_pair kept other can is (room is))
      by_pair false is among = subst (EqualTail parts gone) (only_one (without_registers gone parts) after among) tail_kept
  tail_of true known.Itself can room after among = subst (EqualTail parts gone) (only_one (without_registers gone parts) after among) tail_kept
  tail_of false known.Itself can room after among = none_in after among
  tail_of true known.Unknown can room after among = subst (EqualTail parts gone) (only_one (without_registers gone parts) after among) tail_kept
  tail_of false known.Unknown can room after among = subst (EqualTail parts gone) (only_one (without_registers gone parts) after among) tail_kept

pub equal_means : (parts : Parts) (left right : ℕ) (same : Bool) (given : Post) → IsGraph parts → may_compare parts left right ≡ true → IsPost (equal_post parts left right same) given → HasRoom parts left right same →
    StepMeans parts (Equals left right same) NeverFaults (EqualTail parts (left ∷ right ∷ [])) given
equal_means parts left right same given graph may is room = record {
  sound = λ state next is_state stands steps precise. subst (λ (graphs : List Parts). SomeStandsFor graphs next) (sym is.graphs) (equal_sound parts graph left right may same state next is_state stands steps);
  exact = λ after next none among is_state stands.
      equal_follows parts graph left right may same after next (sym is.loss ∙ none) (subst (λ (graphs : List Parts). Contains graphs after) is.graphs among) is_state stands;
  kinds = λ state kind stands faults. absurd faults;
  met = λ kind precise listed. none_in kind (subst (λ (kinds : List ℕ). Contains kinds kind) (is.kinds ∙ none) listed);
  ascending = ap are_ascending (is.kinds ∙ none);
  tail = λ after among.
      tail_of parts graph (left ∷ right ∷ []) same (values_compared parts one other values.value values.second) (open_is parts graph left right may) roomy after
      (subst (λ (p : Posted). Contains p.graphs after) (post_is parts graph left right may same) (subst (λ (graphs : List Parts). Contains graphs after) is.graphs among));
}
  where
    one : ℕ
    one = (held parts graph left right may).0

    other : ℕ
    other = (held parts graph left right may).1

    values : AreCompared parts one other
    values = are parts graph left right may

    none : (equal_post parts left right same).kinds ≡ []
    none = ap (λ (p : Posted). p.kinds) (post_is parts graph left right may same) ∙ kinds_none parts (left ∷ right ∷ []) same (values_compared parts one other values.value values.second)

    roomy : HasPairRoom parts same (values_compared parts one other values.value values.second)
    roomy = subst (HasPairRoom parts same) (compared_values parts one other values)
        (subst (HasRoomFor parts same (Some one)) (held parts graph left right may).3 (subst (λ (o : Option ℕ). HasRoomFor parts same o (held_by parts.registers right)) (held parts graph left right may).2 room))

pub equal_is_sound : (parts : Parts) (left right : ℕ) (same : Bool) (given : Post) → IsGraph parts → may_compare parts left right ≡ true → IsPost (equal_post parts left right same) given → StepSound parts (Equals left right same) given
equal_is_sound parts left right same given graph may is = record {
  sound = λ state next is_state stands steps. subst (λ (graphs : List Parts). SomeStandsFor graphs next) (sym is.graphs) (equal_sound parts graph left right may same state next is_state stands steps);
}

pub if_both : {T E : Type 0} {P Q R : T → Type 0} (result : Result T E) → ((value : T) → P value → Q value → R value) → IfOk result P → IfOk result Q → IfOk result R
if_both (Ok value) follows one other = follows value one other
if_both (Err error) follows one other = tt
