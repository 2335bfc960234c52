-- The release of a number: where it meets no fault the number is 0, and the constant 0 stands in its place.
use Rattle.std.proofs.Common.{◌≡◌, ◌≢◌, ℕ, zero, suc, ◌<◌, ◌^◌, Bool, true, false, not, ◌&&◌, ◌||◌, List, [], ◌∷◌, length, nat_eq, nat_lt, Option, None, Some, refl, sym, ◌∙◌, ap, subst, eqb-true, eq-eqb, ◌⊎◌, inl, inr}
use Rattle.std.specs.Prelude.{IsSome, slice_get, option_map, if◌then◌else◌}
use Rattle.std.specs.List.{list_any}
use Rattle.std.specs.Option.{option_map_or}
use Rattle.std.proofs.lemmas.Bool.{false≢true}
use Rattle.std.proofs.lemmas.Option.{same_Some, none-some}
use Rattle.bytes_core.specs.declared.block.Block.{Block}
use Rattle.bytes_core.specs.declared.word.Word.{Word}
use Rattle.bytes_core.specs.declared.word.Word.TheVariants.{Plain}
use Rattle.bytes_core.specs.Access.{access_fault}
use Rattle.bytes_core.specs.Fault.{null_pointer_dereference, access_through_invalid_address, invalid_free}
use Rattle.bytes_core.specs.Release.{free_fault, freed}
use Rattle.graph.specs.declared.object.Object.{Object}
use Rattle.graph.specs.declared.parts.Pair.{Pair}
use Rattle.graph.specs.declared.parts.Parts.{Parts}
use Rattle.graph.specs.declared.value.Value.{Value}
use Rattle.graph.specs.declared.value.Value.TheVariants.{Const, Number, Any, Address}
use Rattle.graph.specs.DeadBlocks.{IsWithAllBlocks}
use Rattle.graph.specs.Maps.{object_at, value_at, held_by}
use Rattle.graph.specs.State.{State, IsState}
use Rattle.graph.specs.Sizes.{is_zero, is_number, is_constant}
use Rattle.graph.specs.WellFormed.{IsWellFormed, passes_at, are_numbers, may_be_unequal, is_unequal_pair}
use Rattle.graph.specs.Whole.{IsGraph}
use Rattle.graph.specs.Meaning.{maps_of, Assignment, Meets, StandsFor}
use Rattle.graph.proofs.AllThere.{all_blocks_may_be_there}
use Rattle.graph.proofs.Closed.{closed_of, passes-at}
use Rattle.graph.proofs.Found.{IsSome-holds}
use Rattle.graph.proofs.Sent.{passes-some}
use Rattle.graph.proofs.Tests.{and_left, and_right}
use Rattle.changes.specs.Following.{Leaves, life}
use Rattle.changes.specs.FollowingAlike.{FollowsAlike}
use Rattle.changes.specs.Merging.{MayMerge, merged_object, merged_key, merged_pair}
use Rattle.changes.specs.Parts.{is_among, emptied, with_value, without_registers}
use Rattle.changes.specs.Reaching.{is_constant_of, is_number_at, tells_apart, is_excluded}
use Rattle.changes.proofs.DeadAlike.{same_number, below, dead_alike, more_dead}
use Rattle.changes.proofs.Held.{state_held, held_meets, held_state}
use Rattle.changes.proofs.Meeting.{any_excluded}
use Rattle.changes.proofs.MergedGraph.{graph_merged}
use Rattle.changes.proofs.MergedMeets.{objects_merged, registers_merged, AreTwoConstants, PairsStayApart, with_merged, merged_meets, both_words, unmerged_meets}
use Rattle.changes.proofs.MergedNode.{merged_other}
use Rattle.changes.proofs.MergedPairs.{merged_few}
use Rattle.changes.proofs.RegisterForm.{graph_without}
use Rattle.changes.proofs.RegistersChanged.{without_agrees, held_without, registers_changed, emptied-words}
use Rattle.changes.proofs.Shown.{IsShown}
use Rattle.changes.proofs.Value.{HasOneMore, with_word, word-here, word-other, value_more, value_less, still}
use Rattle.changes.proofs.ValueForm.{graph_with_value, has_one_more, value_new, value_next}
use Rattle.block_steps.specs.Releasing.{Releases, with_null, IsNullNow, ReleaseTail}

any_at : {X : Type 0} (test : X → Bool) (items : List X) (place : ℕ) (item : X) → slice_get items place ≡ Some item → test item ≡ true → list_any test items ≡ true
any_at test [] place item is passes = absurd (none-some item is)
any_at test (first ∷ rest) zero item is passes = ap (λ (b : Bool). b || list_any test rest) (ap test (same_Some _ _ is) ∙ passes)
any_at test (first ∷ rest) (suc place) item is passes = either (test first) (any_at test rest place item is passes)
  where
    either : (a : Bool) {b : Bool} → b ≡ true → (a || b) ≡ true
    either true later = refl
    either false later = later

module _ (parts : Parts) (graph : IsGraph parts) (key : ℕ) (number : value_at parts.values key ≡ Some (Number 8)) where
  abbrev form : IsWellFormed parts
  form = graph.well_formed

  abbrev null : Value
  null = Const 0 8

  abbrev kept : ℕ
  kept = length parts.values

  abbrev valued : Parts
  valued = with_value null parts

  abbrev pub behind : Parts
  behind = with_null key parts

  more : HasOneMore kept null (maps_of parts) (maps_of valued)
  more = has_one_more null parts graph refl

  still_at : (at : ℕ) → IsSome (value_at parts.values at) → value_at valued.values at ≡ value_at parts.values at
  still_at = still kept null (maps_of parts) (maps_of valued) more

  key_here : IsSome (value_at parts.values key)
  key_here = IsSome-holds _ _ number

  -- what is there has another key than the new value
  apart_key : (at : ℕ) → IsSome (value_at parts.values at) → at ≢ kept
  apart_key at some same = false≢true (subst (λ (o : Option Value). IsSome o) (ap (value_at parts.values) same ∙ value_next null parts graph) some)

  valued_form : IsWellFormed valued
  valued_form = (graph_with_value null parts graph (record { sized = refl; leads = refl; held = refl })).well_formed

  mergeable : MayMerge valued kept key
  mergeable = record { size = 8; value = null; gone_is = still_at key key_here ∙ number; kept_is = value_new null parts graph; kept_number = refl }

  pub graph_null : IsGraph behind
  graph_null = graph_merged valued (graph_with_value null parts graph (record { sized = refl; leads = refl; held = refl })) kept key mergeable

  -- Pairs.

  module _ (free : is_excluded parts key 0 ≡ false) where
    -- the other value of a pair: a number, or a constant that is not 0
    other_side : (other : ℕ) → nat_eq other key ≡ false → (pair : Pair) (place : ℕ) → slice_get parts.unequal place ≡ Some pair → (is_number_at parts 0 other ≡ true → tells_apart parts key 0 pair ≡ true) →
        passes_at parts (may_be_unequal (Number 8)) other ≡ true →
        (value_at valued.values other ≡ Some (Number 8)) ⊎ ((constant : ℕ) × (value_at valued.values other ≡ Some (Const constant 8)) × (0 ≢ constant))
    other_side other differ pair place stands tells may = by_value (value_at parts.values other) refl may
      where
        eight : (size : ℕ) → (are_numbers (Number 8) (Number size) 4 || are_numbers (Number 8) (Number size) 8) ≡ true → size ≡ 8
        eight size is = eqb-true _ _ is

        by_value : (found : Option Value) → value_at parts.values other ≡ found → option_map_or (may_be_unequal (Number 8)) found false ≡ true →
            (value_at valued.values other ≡ Some (Number 8)) ⊎ ((constant : ℕ) × (value_at valued.values other ≡ Some (Const constant 8)) × (0 ≢ constant))
        by_value None none passes = absurd (false≢true passes)
        by_value (Some (Number size)) is passes =
            let same = eight size (and_left (are_numbers (Number 8) (Number size) 4 || are_numbers (Number 8) (Number size) 8) true passes) in
            inl (still_at other (IsSome-holds _ _ is) ∙ is ∙ ap (λ (n : ℕ). Some (Number n)) same)
        by_value (Some (Const constant size)) is passes =
            let same = eight size (and_left (are_numbers (Number 8) (Number size) 4 || are_numbers (Number 8) (Number size) 8) true passes) in
            inr (
              constant,
              still_at other (IsSome-holds _ _ is) ∙ is ∙ ap (λ (n : ℕ). Some (Const constant n)) same,
              λ equal. false≢true (sym free ∙ any_at (tells_apart parts key 0) parts.unequal place pair stands (tells (ap (λ (o : Option Value). option_map_or (is_constant_of 0) o false) is ∙ eq-eqb _ _ (sym equal)))),
            )
        by_value (Some Any) is passes = absurd (false≢true passes)
        by_value (Some (Address object offset target)) is passes = absurd (false≢true passes)

    and_swap : (a b : Bool) → (a && b) ≡ (b && a)
    and_swap true true = refl
    and_swap true false = refl
    and_swap false true = refl
    and_swap false false = refl

    may_swap : (one other : Value) → may_be_unequal one other ≡ true → may_be_unequal other one ≡ true
    may_swap one other may =
        ap (λ (b : Bool). (b || are_numbers other one 8) && not (is_constant other && is_constant one)) (and_swap (is_number other 4) (is_number one 4))
        ∙ ap (λ (b : Bool). (are_numbers one other 4 || b) && not (is_constant other && is_constant one)) (and_swap (is_number other 8) (is_number one 8))
        ∙ ap (λ (b : Bool). (are_numbers one other 4 || are_numbers one other 8) && not b) (and_swap (is_constant other) (is_constant one))
        ∙ may

    pairs_apart : PairsStayApart valued kept key
    pairs_apart place pair stands named goes = by_side (nat_eq pair.left key) refl (nat_eq pair.right key) refl
      where
        well : is_unequal_pair parts pair ≡ true
        well = passes-at (is_unequal_pair parts) parts.unequal place pair stands form.pairs_may_be_unequal

        different : not (nat_eq pair.left pair.right) ≡ true
        different = and_left (not (nat_eq pair.left pair.right)) (passes_at parts (λ one. passes_at parts (may_be_unequal one) pair.right) pair.left) well

        passes : passes_at parts (λ one. passes_at parts (may_be_unequal one) pair.right) pair.left ≡ true
        passes = and_right (not (nat_eq pair.left pair.right)) (passes_at parts (λ one. passes_at parts (may_be_unequal one) pair.right) pair.left) well

        value_of : (at : ℕ) → nat_eq at key ≡ true → value_at parts.values at ≡ Some (Number 8)
        value_of at is = ap (value_at parts.values) (eqb-true _ _ is) ∙ number

        merged_is : (at : ℕ) → nat_eq at key ≡ true → merged_key kept key at ≡ kept
        merged_is at is = ap (λ (b : Bool). if b then kept else at) is

        some_of : (test : Value → Bool) (at : ℕ) → passes_at parts test at ≡ true → IsSome (value_at parts.values at)
        some_of test at passes = passes-some test (value_at parts.values at) passes

        kept_apart : (at : ℕ) → IsSome (value_at parts.values at) → nat_eq at kept ≡ false
        kept_apart at some = by_test (nat_eq at kept) refl
          where
            by_test : (b : Bool) → nat_eq at kept ≡ b → nat_eq at kept ≡ false
            by_test true is = absurd (apart_key at some (eqb-true _ _ is))
            by_test false is = is

        apart_kept : (at : ℕ) → IsSome (value_at parts.values at) → nat_eq kept at ≡ false
        apart_kept at some = by_test (nat_eq kept at) refl
          where
            by_test : (b : Bool) → nat_eq kept at ≡ b → nat_eq kept at ≡ false
            by_test true is = absurd (apart_key at some (sym (eqb-true _ _ is)))
            by_test false is = is

        -- the pair behind, where the other value is a number
        left_stays : (at : ℕ) → IsSome (value_at parts.values at) → value_at valued.values at ≡ Some (Number 8) → is_unequal_pair valued (record { left = kept; right = at }) ≡ true
        left_stays at some is =
            ap (λ (b : Bool). not b && passes_at valued (λ one. passes_at valued (may_be_unequal one) at) kept) (apart_kept at some)
            ∙ ap (λ (o : Option Value). option_map_or (λ one. passes_at valued (may_be_unequal one) at) o false) (value_new null parts graph)
            ∙ ap (λ (o : Option Value). option_map_or (may_be_unequal null) o false) is

        right_stays : (at : ℕ) → IsSome (value_at parts.values at) → value_at valued.values at ≡ Some (Number 8) → is_unequal_pair valued (record { left = at; right = kept }) ≡ true
        right_stays at some is =
            ap (λ (b : Bool). not b && passes_at valued (λ one. passes_at valued (may_be_unequal one) kept) at) (kept_apart at some)
            ∙ ap (λ (o : Option Value). option_map_or (λ one. passes_at valued (may_be_unequal one) kept) o false) is
            ∙ ap (λ (o : Option Value). option_map_or (may_be_unequal (Number 8)) o false) (value_new null parts graph)

        pair_of : ℕ → ℕ → Pair
        pair_of left right = record { left = left; right = right }

        by_side : (a : Bool) → nat_eq pair.left key ≡ a → (b : Bool) → nat_eq pair.right key ≡ b → AreTwoConstants valued (merged_pair kept key pair)
        by_side true left_is true right_is = absurd (false≢true (sym (ap not (eq-eqb _ _ (eqb-true _ _ left_is ∙ sym (eqb-true _ _ right_is)))) ∙ different))
        by_side false left_is false right_is = absurd (false≢true (sym (ap (λ (b : Bool). b || nat_eq pair.right key) left_is ∙ right_is) ∙ named))
        by_side true left_is false right_is = by_other (other_side pair.right right_is pair place stands tells may)
          where
            may : passes_at parts (may_be_unequal (Number 8)) pair.right ≡ true
            may = sym (ap (λ (o : Option Value). option_map_or (λ one. passes_at parts (may_be_unequal one) pair.right) o false) (value_of pair.left left_is)) ∙ passes

            tells : is_number_at parts 0 pair.right ≡ true → tells_apart parts key 0 pair ≡ true
            tells zero_there = ap (λ (b : Bool). (b && is_number_at parts 0 pair.right) || (nat_eq pair.right key && is_number_at parts 0 pair.left)) left_is ∙ ap (λ (b : Bool). b || (nat_eq pair.right key && is_number_at parts 0 pair.left)) zero_there

            is : merged_pair kept key pair ≡ pair_of kept pair.right
            is = ap (λ (n : ℕ). pair_of n (merged_key kept key pair.right)) (merged_is pair.left left_is) ∙ ap (pair_of kept) (merged_other kept key pair.right right_is)

            by_other : (value_at valued.values pair.right ≡ Some (Number 8)) ⊎ ((constant : ℕ) × (value_at valued.values pair.right ≡ Some (Const constant 8)) × (0 ≢ constant)) → AreTwoConstants valued (merged_pair kept key pair)
            by_other (inl found) = absurd (false≢true (sym goes ∙ ap (is_unequal_pair valued) is ∙ left_stays pair.right (some_of (may_be_unequal (Number 8)) pair.right may) found))
            by_other (inr (constant, found, apart)) =
                subst (AreTwoConstants valued) (sym is) (record { one = 0; other = constant; one_size = 8; other_size = 8; left = value_new null parts graph; right = found; differ = apart })
        by_side false left_is true right_is = by_other (other_side pair.left left_is pair place stands tells may)
          where
            may : passes_at parts (may_be_unequal (Number 8)) pair.left ≡ true
            may = by_value (value_at parts.values pair.left) passes
              where
                by_value : (found : Option Value) → option_map_or (λ one. passes_at parts (may_be_unequal one) pair.right) found false ≡ true → option_map_or (may_be_unequal (Number 8)) found false ≡ true
                by_value None none = none
                by_value (Some value) holds = may_swap value (Number 8) (sym (ap (λ (o : Option Value). option_map_or (may_be_unequal value) o false) (value_of pair.right right_is)) ∙ holds)

            tells : is_number_at parts 0 pair.left ≡ true → tells_apart parts key 0 pair ≡ true
            tells zero_there =
                ap (λ (b : Bool). (b && is_number_at parts 0 pair.right) || (nat_eq pair.right key && is_number_at parts 0 pair.left)) left_is
                ∙ ap (λ (b : Bool). b && is_number_at parts 0 pair.left) right_is ∙ zero_there

            is : merged_pair kept key pair ≡ pair_of pair.left kept
            is = ap (λ (n : ℕ). pair_of n (merged_key kept key pair.right)) (merged_other kept key pair.left left_is) ∙ ap (pair_of pair.left) (merged_is pair.right right_is)

            by_other : (value_at valued.values pair.left ≡ Some (Number 8)) ⊎ ((constant : ℕ) × (value_at valued.values pair.left ≡ Some (Const constant 8)) × (0 ≢ constant)) → AreTwoConstants valued (merged_pair kept key pair)
            by_other (inl found) = absurd (false≢true (sym goes ∙ ap (is_unequal_pair valued) is ∙ right_stays pair.left (some_of (may_be_unequal (Number 8)) pair.left may) found))
            by_other (inr (constant, found, apart)) =
                subst (AreTwoConstants valued) (sym is)
                (record { one = constant; other = 0; one_size = 8; other_size = 8; left = found; right = value_new null parts graph; differ = λ equal. apart (sym equal) })

  -- What follows.

  -- a release without a fault is one of null
  null_freed : (memory : List Block) (n : ℕ) → free_fault memory (Plain n) ≡ None → n ≡ 0
  null_freed memory n none = by_test (nat_eq n 0) refl none
    where
      by_test : (b : Bool) → nat_eq n 0 ≡ b → (if b then None else Some invalid_free) ≡ None → n ≡ 0
      by_test true is none = eqb-true _ _ is
      by_test false is none = absurd (none-some invalid_free (sym none))

  -- the word of the number is 0 where the release meets no fault
  word_null : (state : State) (given : Assignment) → Meets (maps_of parts) state given → free_fault state.memory (given.word key) ≡ None → given.word key ≡ Plain 0
  word_null state given meets none =
      let has = meets.values key (Number 8) number in
      has.1 ∙ ap Plain (null_freed state.memory has.0 (ap (free_fault state.memory) (sym has.1) ∙ none))

  -- there
  pub null_meets : (at : ℕ) (state next : State) (given : Assignment) → Meets (maps_of parts) state given → free_fault state.memory (given.word key) ≡ None →
      Leaves (freed state.memory (given.word key)) (emptied (at ∷ []) state.registers) state next → (other : Assignment) × Meets (maps_of (without_registers (at ∷ []) behind)) next other
  null_meets at state next given meets none leaves = (
    other,
    registers_changed (maps_of behind) (maps_of (without_registers (at ∷ []) behind)) state next other (without_agrees (at ∷ []) behind)
        (record { memory = leaves.memory ∙ ap (freed state.memory) (word_null state given meets none); variables = leaves.variables; ports = leaves.ports; roots = leaves.roots })
        (λ register. leaves.registers register ∙ emptied-words other.word (at ∷ []) (held_by behind.registers) state.registers register (now.registers register) ∙ ap (option_map other.word) (sym (held_without (at ∷ []) behind register)))
        now,
  )
    where
      other : Assignment
      other = with_word kept (Plain 0) given

      same : other.word kept ≡ other.word key
      same = word-here kept (Plain 0) given ∙ sym (word_null state given meets none) ∙ sym (word-other kept (Plain 0) given key (apart_key key key_here))

      now : Meets (maps_of behind) state other
      now = merged_meets valued valued_form kept key mergeable state other same (value_more kept null (maps_of parts) (maps_of valued) more (Plain 0) state given (closed_of parts form) refl meets)

  -- a number of which a pair says that it is not 0 meets a fault
  pub excluded_faults : (state : State) (given : Assignment) → Meets (maps_of parts) state given → is_excluded parts key 0 ≡ true → free_fault state.memory (given.word key) ≡ None → ⊥
  excluded_faults state given meets excluded none = any_excluded parts state given form meets key 0 0 parts.unequal excluded meets.unequal (word_null state given meets none)

  -- back
  pub null_exact : (at : ℕ) → held_by parts.registers at ≡ Some key → is_excluded parts key 0 ≡ false → IsGraph behind → (next : State) → IsState next → StandsFor (without_registers (at ∷ []) behind) next → FollowsAlike parts (Releases at) next
  null_exact at held free graph_behind next is stands = record {
    state = was;
    next' = all.next;
    is = held_state behind (without_registers (at ∷ []) behind) graph_behind.well_formed all.next all.given (without_agrees (at ∷ []) behind) all.meets all.is all.there;
    stands = record { given = other; meets = meets };
    steps = record {
      to = other.word key;
      address = meets.registers at ∙ ap (option_map other.word) held;
      allowed = ap (free_fault was.memory) null_word;
      leaves = record {
        memory = sym (ap (freed was.memory) null_word);
        registers = λ register. all.meets.registers register ∙ ap (option_map all.given.word) (held_without (at ∷ []) behind register)
            ∙ sym (emptied-words all.given.word (at ∷ []) (held_by behind.registers) was.registers register refl);
        variables = λ variable. refl;
        ports = refl;
        roots = refl;
      };
    };
    there = same_number;
    back = same_number;
    paired = below (length next.memory);
    alike = dead_alike next all.next is (more_dead next all.next all.more);
  }
    where
      all : IsWithAllBlocks (without_registers (at ∷ []) behind) next
      all = all_blocks_may_be_there (without_registers (at ∷ []) behind) next stands.given is stands.meets

      was : State
      was = state_held behind (without_registers (at ∷ []) behind) graph_behind.well_formed all.next all.given (without_agrees (at ∷ []) behind) all.meets

      was_meets : Meets (maps_of behind) was all.given
      was_meets = held_meets behind (without_registers (at ∷ []) behind) graph_behind.well_formed all.next all.given (without_agrees (at ∷ []) behind) all.meets

      other : Assignment
      other = with_merged kept key all.given

      valued_meets : Meets (maps_of valued) was other
      valued_meets = unmerged_meets valued valued_form kept key mergeable (pairs_apart free) was all.given was_meets

      meets : Meets (maps_of parts) was other
      meets = value_less kept null (maps_of parts) (maps_of valued) more was other valued_meets

      null_word : other.word key ≡ Plain 0
      null_word = sym (both_words valued valued_form kept key mergeable (pairs_apart free) was all.given was_meets) ∙ valued_meets.values kept null (value_new null parts graph)

  -- the fault is met where the number is large
  pub large_freed : (shown : IsShown parts key 1 access_through_invalid_address) → free_fault shown.state.memory (shown.given.word key) ≡ Some invalid_free
  large_freed shown = ap (free_fault shown.state.memory) has.1 ∙ by_test (nat_eq has.0 0) refl
    where
      has : (n : ℕ) × (shown.given.word key ≡ Plain n) × (n < 256 ^ 8)
      has = shown.meets.values key (Number 8) number

      fault : (if nat_lt has.0 4096 then Some null_pointer_dereference else Some access_through_invalid_address) ≡ Some access_through_invalid_address
      fault = ap (λ (w : Word). access_fault shown.state.memory w 1) (sym has.1) ∙ shown.fault

      one_is_four : Some null_pointer_dereference ≡ Some access_through_invalid_address → ⊥
      one_is_four same = false≢true (ap (nat_eq 4) (same_Some _ _ same))

      by_test : (b : Bool) → nat_eq has.0 0 ≡ b → (if b then None else Some invalid_free) ≡ Some invalid_free
      by_test false is = refl
      by_test true is = absurd (one_is_four (sym (ap (λ (n : ℕ). if nat_lt n 4096 then Some null_pointer_dereference else Some access_through_invalid_address) (eqb-true _ _ is)) ∙ fault))

  -- what is left of the graph
  pub null_tail : (at : ℕ) → ReleaseTail parts (at ∷ []) (without_registers (at ∷ []) behind)
  null_tail at = record {
    graph = graph_without (at ∷ []) behind graph_null;
    variables = refl;
    lives = λ k. inl (ap (option_map life) (objects_merged (passes_at valued is_zero kept) kept key parts.objects k) ∙ same_life (object_at parts.objects k));
    values = still_at;
    key_of = merged_key kept key;
    keys = λ k. by_key k (nat_eq k key) refl;
    ports = refl;
    registers = λ register. held_without (at ∷ []) behind register ∙ ap (λ (o : Option ℕ). if is_among (at ∷ []) register then None else o) (registers_merged kept key parts.registers register)
        ∙ emptied_mapped (is_among (at ∷ []) register) (held_by parts.registers register);
    pairs = merged_few valued kept key parts.unequal;
  }
    where
      same_life : (found : Option Object) → option_map life (option_map (merged_object (passes_at valued is_zero kept) kept key) found) ≡ option_map life found
      same_life None = refl
      same_life (Some object) = refl

      emptied_mapped : (b : Bool) (found : Option ℕ) → (if b then None else option_map (merged_key kept key) found) ≡ option_map (merged_key kept key) (if b then None else found)
      emptied_mapped true found = refl
      emptied_mapped false found = refl

      by_key : (k : ℕ) (b : Bool) → nat_eq k key ≡ b → (merged_key kept key k ≡ k) ⊎ IsNullNow parts (without_registers (at ∷ []) behind) k (merged_key kept key k)
      by_key k false differ = inl (merged_other kept key k differ)
      by_key k true is =
          inr (record { was = ap (value_at parts.values) (eqb-true _ _ is) ∙ number; now = ap (λ (b : Bool). value_at valued.values (if b then kept else k)) is ∙ value_new null parts graph })
