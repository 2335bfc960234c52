-- An allocation that gives a block: the graph of its post.
use Rattle.std.proofs.Common.{◌≡◌, ℕ, ◌+◌, ◌^◌, ◌<◌, ◌≤◌, Bool, true, false, List, [], ◌∷◌, ◌++◌, map, length, nat_eq, nat_lt, Option, Some, None, refl, sym, ◌∙◌, ap, subst, eq-eqb}
use Rattle.std.specs.Prelude.{option_map, pos, if◌then◌else◌}
use Rattle.std.specs.Option.{option_map_or}
use Rattle.bytes_core.specs.declared.block.Block.{Block}
use Rattle.bytes_core.specs.declared.block.BlockKind.{BlockKind}
use Rattle.bytes_core.specs.declared.block.BlockKind.TheVariants.{Heap}
use Rattle.bytes_core.specs.declared.word.Word.{Word}
use Rattle.bytes_core.specs.declared.word.Word.TheVariants.{To}
use Rattle.bytes_core.specs.Placement.{placed}
use Rattle.graph.specs.declared.object.Object.{Object}
use Rattle.graph.specs.declared.parts.Parts.{Parts}
use Rattle.graph.specs.declared.value.Target.TheVariants.{Region}
use Rattle.graph.specs.declared.value.Value.{Value}
use Rattle.graph.specs.declared.value.Value.TheVariants.{Address}
use Rattle.graph.specs.Alike.{renumbered_word}
use Rattle.graph.specs.DeadBlocks.{dead_block, with_memory}
use Rattle.graph.specs.Maps.{held_by}
use Rattle.graph.specs.Meaning.{ends_of, HasWord, block_word, first_of, Assignment, Meets, StandsFor, maps_of}
use Rattle.graph.specs.State.{State, IsState}
use Rattle.graph.specs.WellFormed.{may_be_held, target_fits, nodes}
use Rattle.graph.specs.Whole.{IsGraph}
use Rattle.graph.proofs.AllThere.{all_blocks_may_be_there}
use Rattle.graph.proofs.Closed.{closed_of}
use Rattle.changes.specs.Parts.{put, with_value}
use Rattle.changes.specs.Posted.{SomeStandsFor}
use Rattle.changes.proofs.Below.{AreThere}
use Rattle.changes.proofs.Held.{state_held, held_meets, held_state}
use Rattle.changes.proofs.RegisterForm.{graph_with}
use Rattle.changes.proofs.RegistersChanged.{registers_changed, held_with, with_agrees, put-words}
use Rattle.changes.proofs.Value.{HasOneMore, with_word, word-here, value_more, value_less}
use Rattle.changes.proofs.ValueForm.{value_new, has_one_more, graph_with_value}
use Rattle.heap_steps.specs.Unreached.{may_lead_anywhere}
use Rattle.heap_steps.proofs.Listed.{Contains-first}
use Rattle.block_steps.specs.Allocating.{Allocates, with_allocated, allocate_post}
use Rattle.changes.specs.FollowingAlike.{FollowsAlike}
use Rattle.block_steps.proofs.Back.{now, before, before_meets, before_state, makes, turn, number_keeps, word_keeps, long_before, alike_behind}
use Rattle.block_steps.proofs.Grown.{IsGrown, grown_meets}
use Rattle.block_steps.proofs.ObjectForm.{grown, object_new, graph_more}
use Rattle.block_steps.proofs.Owned.{variable_owned, register_owned}
use Rattle.block_steps.proofs.Swapped.{swap_one}

module _ (size : ℕ) (zeroed : Bool) (into : ℕ) (parts : Parts) (graph : IsGraph parts) (small : size ≤ 65536) (few : nodes parts + 1 < 2 ^ 30) where
  abbrev pub key : ℕ
  key = length parts.values

  abbrev pub address : Value
  address = Address (length parts.objects) (pos 0) Region

  abbrev pub more : Parts
  more = grown Heap size zeroed parts graph

  pub more_graph : IsGraph more
  more_graph = graph_more Heap size zeroed parts graph small few

  abbrev pub valued : Parts
  valued = with_value address more

  pub valued_graph : IsGraph valued
  valued_graph = graph_with_value address more more_graph
      (record { sized = refl; leads = ap (λ (o : Option Object). option_map_or (λ found. target_fits Region found.shape) o false) (object_new Heap size zeroed parts graph); held = refl })

  abbrev pub behind : Parts
  behind = with_allocated size zeroed into parts

  pub behind_graph : IsGraph behind
  behind_graph = graph_with into key valued (ap (λ (o : Option Value). option_map_or may_be_held o false) (value_new address more more_graph)) valued_graph

  one_more : HasOneMore key address (maps_of more) (maps_of valued)
  one_more = has_one_more address more more_graph refl

  -- there
  pub allocate_sound : (state next : State) → IsState state → StandsFor parts state → Allocates size zeroed into state next → SomeStandsFor (allocate_post parts size zeroed into).graphs next
  allocate_sound state next is stands allocates = record {
    graph = behind;
    among = Contains-first behind [];
    stands = record {
      given = given;
      meets = registers_changed (maps_of valued) (maps_of behind) middle next given (with_agrees into key valued)
          (record { memory = refl; variables = allocates.variables_are; ports = allocates.ports; roots = allocates.roots })
          (λ register. allocates.registers_are register
          ∙ ap (λ (w : Word). put into w state.registers register) (sym (word-here key word grows.given))
          ∙ put-words given.word into key (held_by parts.registers) state.registers register (meets.registers register)
          ∙ ap (option_map given.word) (sym (held_with into key valued register)))
          meets;
    };
  }
    where
      middle : State
      middle = with_memory next.memory state

      word : Word
      word = To (length state.memory) (pos 0)

      grows : IsGrown Heap size zeroed parts graph state next.memory
      grows = grown_meets Heap size zeroed parts graph state stands.given next.memory is stands.meets allocates.block

      given : Assignment
      given = with_word key word grows.given

      own : grows.given.blocks (length parts.objects) ≡ length state.memory ∷ []
      own = ap (λ (a : Assignment). a.blocks (length parts.objects)) grows.same
          ∙ ap (λ (b : Bool). if b then length state.memory ∷ [] else grows.was.blocks (length parts.objects)) (eq-eqb (length parts.objects) (length parts.objects) refl)

      has : HasWord (length next.memory) grows.given.blocks (ends_of (maps_of more).objects grows.given.word) address word
      has = ap (λ (ns : List ℕ). block_word (first_of ns) (pos 0)) (sym own)

      meets : Meets (maps_of valued) middle given
      meets = value_more key address (maps_of more) (maps_of valued) one_more word middle grows.given (closed_of more more_graph.well_formed) has grows.grows

  -- and back
  module _ (bound : may_lead_anywhere parts ≡ false) (one : State) (is_one : IsState one) (kinds : List BlockKind) (given : Assignment)
      (is : IsState (with_memory (one.memory ++ map dead_block kinds) one)) (meets : Meets (maps_of behind) (with_memory (one.memory ++ map dead_block kinds) one) given)
      (there : AreThere behind (with_memory (one.memory ++ map dead_block kinds) one) given) where
    abbrev full : State
    full = with_memory (one.memory ++ map dead_block kinds) one

    abbrev held : ℕ → Option Word
    held register = option_map given.word (held_by parts.registers register)

    abbrev middle : State
    middle = state_held valued behind valued_graph.well_formed full given (with_agrees into key valued) meets

    middle_is : IsState middle
    middle_is = held_state valued behind valued_graph.well_formed full given (with_agrees into key valued) meets is there

    valued_meets : Meets (maps_of valued) middle given
    valued_meets = held_meets valued behind valued_graph.well_formed full given (with_agrees into key valued) meets

    middle_meets : Meets (maps_of more) middle given
    middle_meets = value_less key address (maps_of more) (maps_of valued) one_more middle given valued_meets

    abbrev begun : State
    begun = before Heap size zeroed parts graph one kinds one.variables held given middle_is middle_meets

    abbrev begun_is : IsState begun
    begun_is = before_state Heap size zeroed parts graph one kinds one.variables held given middle_is middle_meets

    abbrev begun_meets : Meets (maps_of parts) begun given
    begun_meets = before_meets Heap size zeroed parts graph one kinds one.variables held given middle_is middle_meets

    abbrev block : Block
    block = (now Heap size zeroed parts graph one kinds one.variables held given middle_is middle_meets).block

    abbrev number : ℕ
    number = (now Heap size zeroed parts graph one kinds one.variables held given middle_is middle_meets).number

    abbrev next : State
    next = record {
      memory = placed begun.memory block;
      variables = one.variables;
      registers = put into (To (length begun.memory) (pos 0)) held;
      ports = one.ports;
      roots = one.roots;
    }

    abbrev turned : ℕ → ℕ
    turned = turn Heap size zeroed parts graph one kinds one.variables held given middle_is middle_meets is_one bound

    variable_keeps : (variable : ℕ) (found : Option ℕ) → one.variables variable ≡ found → found ≡ option_map turned found
    variable_keeps variable None is' = refl
    variable_keeps variable (Some its) is' =
        ap Some (number_keeps Heap size zeroed parts graph one kinds one.variables held given middle_is middle_meets is_one bound its
        (variable_owned parts graph bound begun given begun_is begun_meets variable its is') (is_one.variables variable its is'))

    word_is : given.word key ≡ To number (pos 0)
    word_is = valued_meets.values key address (value_new address more more_graph)
        ∙ ap (λ (ns : List ℕ). block_word (first_of ns) (pos 0)) (now Heap size zeroed parts graph one kinds one.variables held given middle_is middle_meets).blocks

    turned_word : To (length begun.memory) (pos 0) ≡ renumbered_word turned (given.word key)
    turned_word =
        ap (λ (n : ℕ). To n (pos 0)) (long_before Heap size zeroed parts graph one kinds one.variables held given middle_is middle_meets is_one bound ∙ sym (swap_one number (length middle.memory)))
        ∙ ap (renumbered_word turned) (sym word_is)

    was : (register : ℕ) → one.registers register ≡ option_map given.word (put into key (held_by parts.registers) register)
    was register = meets.registers register ∙ ap (option_map given.word) (held_with into key valued register)

    word_still : (register : ℕ) (found : Option Word) → one.registers register ≡ found → held register ≡ found → found ≡ option_map (renumbered_word turned) found
    word_still register None is_one' is' = refl
    word_still register (Some word) is_one' is' =
        ap Some (word_keeps Heap size zeroed parts graph one kinds one.variables held given middle_is middle_meets is_one bound word (is_one.registers register word is_one')
        (λ its offset same. register_owned parts graph bound begun given begun_is begun_meets register its offset (is' ∙ ap Some same)))

    register_keeps : (register : ℕ) → put into (To (length begun.memory) (pos 0)) held register ≡ option_map (renumbered_word turned) (one.registers register)
    register_keeps register = by_test (nat_eq register into) (was register)
      where
        by_test : (b : Bool) → one.registers register ≡ option_map given.word (if b then Some key else held_by parts.registers register) →
            (if b then Some (To (length begun.memory) (pos 0)) else held register) ≡ option_map (renumbered_word turned) (one.registers register)
        by_test true is' = ap Some turned_word ∙ sym (ap (option_map (renumbered_word turned)) is')
        by_test false is' = word_still register (held register) is' refl ∙ sym (ap (option_map (renumbered_word turned)) is')

    follows : FollowsAlike parts (Allocates size zeroed into) one
    follows = record {
      state = begun;
      next' = next;
      is = begun_is;
      stands = record { given = given; meets = begun_meets };
      steps = record {
        block = makes Heap size zeroed parts graph one kinds one.variables held given middle_is middle_meets;
        variables_are = λ variable. refl;
        registers_are = λ register. refl;
        ports = refl;
        roots = refl;
      };
      there = turned;
      back = turned;
      paired = λ its. nat_lt its (length one.memory);
      alike = alike_behind Heap size zeroed parts graph one kinds one.variables held given middle_is middle_meets is_one bound one.variables (put into (To (length begun.memory) (pos 0)) held)
          (λ variable. variable_keeps variable (one.variables variable) refl) register_keeps;
    }

  pub allocate_follows : may_lead_anywhere parts ≡ false → (next : State) → IsState next → StandsFor behind next → FollowsAlike parts (Allocates size zeroed into) next
  allocate_follows bound next is stands =
      let all = all_blocks_may_be_there behind next stands.given is stands.meets in
      follows bound next is all.more.kinds all.given
      (subst IsState all.more.is all.is)
      (subst (λ (s : State). Meets (maps_of behind) s all.given) all.more.is all.meets)
      (subst (λ (s : State). AreThere behind s all.given) all.more.is all.there)
