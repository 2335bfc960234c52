-- A variable that begins to stand: the graph behind.
use Rattle.std.proofs.Common.{◌≡◌, ℕ, ◌+◌, ◌^◌, ◌<◌, ◌≤◌, Bool, true, false, not, List, [], ◌∷◌, ◌++◌, map, length, nat_eq, nat_lt, Option, Some, None, refl, sym, ◌∙◌, ap, subst, eq-eqb, eqb-true}
use Rattle.std.specs.Prelude.{option_map, slice_get, if◌then◌else◌}
use Rattle.std.specs.List.{list_all}
use Rattle.std.specs.Option.{option_map_or}
use Rattle.std.proofs.lemmas.Bool.{false≢true}
use Rattle.std.proofs.lemmas.Option.{same_Some, none-some}
use Rattle.bytes_core.specs.declared.block.Block.{Block}
use Rattle.bytes_core.specs.declared.block.BlockKind.{BlockKind}
use Rattle.bytes_core.specs.declared.block.BlockKind.TheVariants.{Local}
use Rattle.bytes_core.specs.declared.word.Word.{Word}
use Rattle.bytes_core.specs.Placement.{placed}
use Rattle.graph.specs.declared.object.Object.{Object}
use Rattle.graph.specs.declared.parts.Named.{Named}
use Rattle.graph.specs.declared.parts.Parts.{Parts}
use Rattle.graph.specs.Alike.{renumbered_word}
use Rattle.graph.specs.DeadBlocks.{dead_block, with_memory}
use Rattle.graph.specs.Maps.{object_at, storage_of}
use Rattle.graph.specs.Meaning.{Assignment, Meets, StandsFor, maps_of}
use Rattle.graph.specs.State.{State, IsState}
use Rattle.graph.specs.WellFormed.{is_storage, nodes}
use Rattle.graph.specs.Whole.{IsGraph}
use Rattle.graph.proofs.AllThere.{all_blocks_may_be_there}
use Rattle.graph.proofs.Tests.{list_all-implies}
use Rattle.changes.specs.FollowingAlike.{FollowsAlike}
use Rattle.changes.specs.Parts.{put}
use Rattle.heap_steps.specs.Unreached.{may_lead_anywhere}
use Rattle.block_steps.specs.Entering.{EntersOne, with_entered_one}
use Rattle.block_steps.proofs.Back.{now, before, before_meets, before_state, makes, turn, number_keeps, word_keeps, long_before, alike_behind}
use Rattle.block_steps.proofs.Grown.{IsGrown, grown_meets}
use Rattle.block_steps.proofs.ObjectForm.{grown, object_new, object_next, graph_more}
use Rattle.block_steps.proofs.Owned.{variable_owned, register_owned}
use Rattle.block_steps.proofs.Swapped.{swap_one}
use Rattle.block_steps.proofs.VariableForm.{storage_is, graph_stored}
use Rattle.heap_steps.proofs.VariablesChanged.{AgreeButVariables, variables_changed}

module _ (variable size : ℕ) (parts : Parts) (graph : IsGraph parts) (small : size ≤ 65536) (few : nodes parts + 1 < 2 ^ 30) (unnamed : storage_of parts.variables variable ≡ None) where
  abbrev key : ℕ
  key = length parts.objects

  abbrev more : Parts
  more = grown Local size false parts graph

  more_graph : IsGraph more
  more_graph = graph_more Local size false parts graph small few

  abbrev pub entered : Parts
  entered = with_entered_one variable size parts

  -- no variable has the key of the new object
  fresh : (variables : List Named) → list_all (λ (named : Named). option_map_or is_storage (object_at parts.objects named.object) false) variables ≡ true → list_all (λ (named : Named). not (nat_eq named.object key)) variables ≡ true
  fresh variables stored = list_all-implies (λ (named : Named). option_map_or is_storage (object_at parts.objects named.object) false) (λ named. not (nat_eq named.object key)) differs variables stored
    where
      differs : (named : Named) → option_map_or is_storage (object_at parts.objects named.object) false ≡ true → not (nat_eq named.object key) ≡ true
      differs named stores = by_test (nat_eq named.object key) refl
        where
          by_test : (b : Bool) → nat_eq named.object key ≡ b → not b ≡ true
          by_test true is =
              absurd (false≢true (ap (λ (o : Option Object). option_map_or is_storage o false) (sym (ap (object_at parts.objects) (eqb-true _ _ is) ∙ object_next Local size false parts graph)) ∙ stores))
          by_test false is = refl

  pub entered_graph : IsGraph entered
  entered_graph = graph_stored variable key more more_graph unnamed
      (ap (λ (o : Option Object). option_map_or is_storage o false) (object_new Local size false parts graph))
      (fresh parts.variables graph.well_formed.variables_have_storage)

  pub entered_storage : (at : ℕ) → storage_of entered.variables at ≡ put variable key (storage_of parts.variables) at
  entered_storage = storage_is variable key more more_graph unnamed

  agrees : AgreeButVariables (maps_of more) (maps_of entered)
  agrees = record { objects = λ at. refl; values = λ at. refl; registers = λ at. refl; ports = refl; unequal = refl }

  agrees_back : AgreeButVariables (maps_of entered) (maps_of more)
  agrees_back = record { objects = λ at. refl; values = λ at. refl; registers = λ at. refl; ports = refl; unequal = refl }

  -- there
  pub enter_sound : (state next : State) → IsState state → StandsFor parts state → EntersOne variable size state next → StandsFor entered next
  enter_sound state next is stands enters = record {
    given = grows.given;
    meets = variables_changed (maps_of more) (maps_of entered) (with_memory next.memory state) next grows.given agrees
        (record { memory = refl; registers = enters.registers_are; ports = enters.ports; roots = enters.roots })
        (λ at. ap (option_map (λ number. number ∷ [])) (enters.variables_are at) ∙ by_test at (nat_eq at variable) ∙ ap (option_map grows.given.blocks) (sym (entered_storage at)))
        grows.grows;
  }
    where
      grows : IsGrown Local size false parts graph state next.memory
      grows = grown_meets Local size false parts graph state stands.given next.memory is stands.meets enters.block

      own : grows.given.blocks key ≡ length state.memory ∷ []
      own = ap (λ (a : Assignment). a.blocks key) grows.same ∙ ap (λ (b : Bool). if b then length state.memory ∷ [] else grows.was.blocks key) (eq-eqb key key refl)

      by_test : (at : ℕ) (b : Bool) → option_map (λ number. number ∷ []) (if b then Some (length state.memory) else state.variables at) ≡ option_map grows.given.blocks (if b then Some key else storage_of parts.variables at)
      by_test at true = ap Some (sym own)
      by_test at false = grows.grows.variables at

  -- and back
  module _ (bound : may_lead_anywhere parts ≡ false) (one : State) (is_one : IsState one) (kinds : List BlockKind) (given : Assignment)
      (is : IsState (with_memory (one.memory ++ map dead_block kinds) one)) (meets : Meets (maps_of entered) (with_memory (one.memory ++ map dead_block kinds) one) given) where
    abbrev full : State
    full = with_memory (one.memory ++ map dead_block kinds) one

    -- the variable does not stand before
    abbrev others : ℕ → Option ℕ
    others at = if nat_eq at variable then None else one.variables at

    abbrev middle : State
    middle = record full { variables = others }

    middle_is : IsState middle
    middle_is = record { memory = is.memory; bytes = is.bytes; variables = λ at number stands. by_test at number (nat_eq at variable) stands; registers = is.registers; ports = is.ports; roots = is.roots }
      where
        by_test : (at number : ℕ) (b : Bool) → (if b then None else one.variables at) ≡ Some number → number < length full.memory
        by_test at number true stands = absurd (none-some number stands)
        by_test at number false stands = is.variables at number stands

    were : (at : ℕ) → option_map (λ number. number ∷ []) (one.variables at) ≡ option_map given.blocks (put variable key (storage_of parts.variables) at)
    were at = meets.variables at ∙ ap (option_map given.blocks) (entered_storage at)

    middle_meets : Meets (maps_of more) middle given
    middle_meets = variables_changed (maps_of entered) (maps_of more) full middle given agrees_back (record { memory = refl; registers = λ at. refl; ports = refl; roots = refl }) (λ at. by_test at (nat_eq at variable) refl (were at)) meets
      where
        by_test : (at : ℕ) (b : Bool) → nat_eq at variable ≡ b → option_map (λ number. number ∷ []) (one.variables at) ≡ option_map given.blocks (if b then Some key else storage_of parts.variables at) →
            option_map (λ number. number ∷ []) (if b then None else one.variables at) ≡ option_map given.blocks (storage_of parts.variables at)
        by_test at true same was = ap (option_map given.blocks) (sym (ap (storage_of parts.variables) (eqb-true _ _ same) ∙ unnamed))
        by_test at false differ was = was

    abbrev begun : State
    begun = before Local size false parts graph one kinds others one.registers given middle_is middle_meets

    abbrev begun_is : IsState begun
    begun_is = before_state Local size false parts graph one kinds others one.registers given middle_is middle_meets

    abbrev begun_meets : Meets (maps_of parts) begun given
    begun_meets = before_meets Local size false parts graph one kinds others one.registers given middle_is middle_meets

    abbrev block : Block
    block = (now Local size false parts graph one kinds others one.registers given middle_is middle_meets).block

    abbrev number : ℕ
    number = (now Local size false parts graph one kinds others one.registers given middle_is middle_meets).number

    abbrev next : State
    next = record {
      memory = placed begun.memory block;
      variables = put variable (length begun.memory) others;
      registers = one.registers;
      ports = one.ports;
      roots = one.roots;
    }

    abbrev turned : ℕ → ℕ
    turned = turn Local size false parts graph one kinds others one.registers given middle_is middle_meets is_one bound

    register_keeps : (register : ℕ) (found : Option Word) → one.registers register ≡ found → found ≡ option_map (renumbered_word turned) found
    register_keeps register None is' = refl
    register_keeps register (Some word) is' =
        ap Some (word_keeps Local size false parts graph one kinds others one.registers given middle_is middle_meets is_one bound word (is_one.registers register word is')
        (λ its offset same. register_owned parts graph bound begun given begun_is begun_meets register its offset (is' ∙ ap Some same)))

    -- the block of the variable
    stored : (found : Option ℕ) → option_map (λ number. number ∷ []) found ≡ Some (given.blocks key) → found ≡ Some number
    stored None same = absurd (none-some (given.blocks key) same)
    stored (Some its) same =
        head its number (same_Some _ _ same ∙ (now Local size false parts graph one kinds others one.registers given middle_is middle_meets).blocks)
      where
        head : (a b : ℕ) → a ∷ [] ≡ b ∷ [] → Some a ≡ Some b
        head a b lists = ap (λ (xs : List ℕ). slice_get xs 0) lists

    variable_keeps : (at : ℕ) → put variable (length begun.memory) others at ≡ option_map turned (one.variables at)
    variable_keeps at = by_test (nat_eq at variable) refl (were at)
      where
        still : (found : Option ℕ) → one.variables at ≡ found → others at ≡ found → found ≡ option_map turned found
        still None is' is'' = refl
        still (Some its) is' is'' =
            ap Some (number_keeps Local size false parts graph one kinds others one.registers given middle_is middle_meets is_one bound its
            (variable_owned parts graph bound begun given begun_is begun_meets at its is'') (is_one.variables at its is'))

        by_test : (b : Bool) → nat_eq at variable ≡ b → option_map (λ number. number ∷ []) (one.variables at) ≡ option_map given.blocks (if b then Some key else storage_of parts.variables at) →
            (if b then Some (length begun.memory) else (if b then None else one.variables at)) ≡ option_map turned (one.variables at)
        by_test true same was =
            ap Some (long_before Local size false parts graph one kinds others one.registers given middle_is middle_meets is_one bound ∙ sym (swap_one number (length middle.memory)))
            ∙ ap (option_map turned) (sym (stored (one.variables at) was))
        by_test false differ was = still (one.variables at) refl (ap (λ (b : Bool). if b then None else one.variables at) differ)

    follows : FollowsAlike parts (EntersOne variable size) one
    follows = record {
      state = begun;
      next' = next;
      is = begun_is;
      stands = record { given = given; meets = begun_meets };
      steps = record {
        block = makes Local size false parts graph one kinds others one.registers given middle_is middle_meets;
        variables_are = λ at. refl;
        registers_are = λ register. refl;
        ports = refl;
        roots = refl;
      };
      there = turned;
      back = turned;
      paired = λ its. nat_lt its (length one.memory);
      alike = alike_behind Local size false parts graph one kinds others one.registers given middle_is middle_meets is_one bound (put variable (length begun.memory) others) one.registers
          variable_keeps (λ register. register_keeps register (one.registers register) refl);
    }

  pub enter_follows : may_lead_anywhere parts ≡ false → (next : State) → IsState next → StandsFor entered next → FollowsAlike parts (EntersOne variable size) next
  enter_follows bound next is stands =
      let all = all_blocks_may_be_there entered next stands.given is stands.meets in
      follows bound next is all.more.kinds all.given
      (subst IsState all.more.is all.is)
      (subst (λ (s : State). Meets (maps_of entered) s all.given) all.more.is all.meets)
