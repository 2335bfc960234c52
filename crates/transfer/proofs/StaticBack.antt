-- A static variable more: each state of the graph behind is alike one that follows; and what is made in a state is made in one alike it.
use Rattle.std.proofs.Common.{◌≡◌, ℕ, ◌+◌, ◌^◌, ◌<◌, ◌≤◌, Bool, true, false, ◌||◌, List, [], ◌∷◌, ◌++◌, map, length, nat_eq, nat_lt, Option, Some, None, refl, sym, ◌∙◌, ap, subst, eq-eqb, eqb-true}
use Rattle.std.specs.Prelude.{option_map, slice_get, IsTrue, if◌then◌else◌}
use Rattle.std.specs.List.{All, list_all}
use Rattle.std.proofs.lemmas.Bool.{or_left, or_right}
use Rattle.std.proofs.lemmas.List.Elements.{All-head, All-tail, All-weaker}
use Rattle.std.proofs.lemmas.Option.{same_Some, none-some}
use Rattle.bytes_core.specs.declared.block.Block.{Block}
use Rattle.bytes_core.specs.declared.block.BlockKind.{BlockKind}
use Rattle.bytes_core.specs.declared.block.BlockKind.TheVariants.{Static}
use Rattle.bytes_core.specs.declared.word.Word.{Word}
use Rattle.bytes_core.specs.declared.word.Word.TheVariants.{Plain, To}
use Rattle.bytes_core.specs.Placement.{new_block, is_new_block, placed}
use Rattle.graph.specs.declared.parts.Named.{Named}
use Rattle.graph.specs.declared.parts.Parts.{Parts}
use Rattle.graph.specs.Alike.{renumbered_word}
use Rattle.graph.specs.AlikeMemories.{WordNamesAmong, AreAlike}
use Rattle.graph.specs.AlikeStates.{AreAlikeStates}
use Rattle.graph.specs.AlikeSteps.{ArePlacedAlike}
use Rattle.graph.specs.DeadBlocks.{dead_block, with_memory}
use Rattle.graph.specs.Maps.{storage_of}
use Rattle.graph.specs.Meaning.{Assignment, Meets, StandsFor, maps_of}
use Rattle.graph.specs.State.{State, IsState}
use Rattle.graph.specs.WellFormed.{nodes}
use Rattle.graph.specs.Whole.{IsGraph}
use Rattle.graph.proofs.AlikeBlocks.{word_agrees}
use Rattle.graph.proofs.AlikeSteps.{alike_respected}
use Rattle.graph.proofs.AllThere.{all_blocks_may_be_there}
use Rattle.changes.specs.FollowingAlike.{FollowsAlike}
use Rattle.changes.specs.Parts.{put}
use Rattle.heap_steps.specs.Unreached.{may_lead_anywhere}
use Rattle.heap_steps.proofs.VariablesChanged.{AgreeButVariables, variables_changed}
use Rattle.block_steps.specs.Entering.{with_storage}
use Rattle.block_steps.proofs.Back.{now, before, before_meets, before_state, makes, turn, number_keeps, word_keeps, long_before, alike_behind}
use Rattle.block_steps.proofs.ObjectForm.{grown}
use Rattle.block_steps.proofs.Owned.{variable_owned, register_owned}
use Rattle.block_steps.proofs.Swapped.{swap_one}
use Rattle.transfer.specs.Start.{with_static}
use Rattle.transfer.proofs.StaticMade.{MakesStatic, between_storage, between_is}

-- a state behind in which the variable stands as well, and which is alike
pub record IsMadeAlike (variable size : ℕ) (other next : State) : Type 0 where
  pub next' : State
  pub steps : MakesStatic variable size other next'
  pub there : ℕ → ℕ
  pub back : ℕ → ℕ
  pub paired : ℕ → Bool
  pub alike : AreAlikeStates there back paired next next'

all_agree : {X : Type 0} (P : X → Type 0) (f g : X → X) → ((x : X) → P x → f x ≡ g x) → (xs : List X) → All P xs → map f xs ≡ map g xs
all_agree P f g each [] all = refl
all_agree {X} P f g each (first ∷ rest) all =
    ap (λ (x : X). x ∷ map f rest) (each first (All-head P first rest all)) ∙ ap (λ (xs : List X). g first ∷ xs) (all_agree P f g each rest (All-tail P first rest all))

pub static_alike : (variable size : ℕ) (there back : ℕ → ℕ) (paired : ℕ → Bool) (one other next : State) → AreAlikeStates there back paired one other → MakesStatic variable size one next → IsMadeAlike variable size other next
static_alike variable size there back paired one other next are makes = record {
  next' = next';
  steps = record {
    block = record {
      base = base;
      contents = contents;
      new = room ∙ makes.block.new;
      zeros = makes.block.zeros;
      is = refl;
    };
    variables_are = λ at. refl;
    registers_are = λ register. refl;
    ports = refl;
    roots = refl;
  };
  there = both.there';
  back = both.back';
  paired = more;
  alike = record {
    memories = subst (λ (memory : List Block). AreAlike both.there' both.back' more memory (placed other.memory block)) (sym makes.block.is) both.alike;
    named = record {
      variables = λ at number stands. named_variable at number (nat_eq at variable) (sym (makes.variables_are at) ∙ stands);
      registers = λ register word stands. word_more word (are.named.registers register word (sym (makes.registers_are register) ∙ stands));
      ports = subst (All (WordNamesAmong more)) (sym makes.ports) (All-weaker (WordNamesAmong paired) (WordNamesAmong more) word_more one.ports are.named.ports);
      roots = subst (All (λ root. IsTrue (more root))) (sym makes.roots) (All-weaker (λ root. IsTrue (paired root)) (λ root. IsTrue (more root)) number_more one.roots are.named.roots);
    };
    variables = λ at. same_variable at (nat_eq at variable) ∙ ap (option_map both.there') (sym (makes.variables_are at));
    registers = λ register.
        are.registers register ∙ word_same (one.registers register) (λ word stands. are.named.registers register word stands) ∙ ap (option_map (renumbered_word both.there')) (sym (makes.registers_are register));
    ports = are.ports
        ∙ all_agree (WordNamesAmong paired) (renumbered_word there) (renumbered_word both.there') (λ word names. sym (word_agrees paired there both.there' both.kept word names)) one.ports are.named.ports
        ∙ ap (map (renumbered_word both.there')) (sym makes.ports);
    roots = are.roots ∙ all_agree (λ root. IsTrue (paired root)) there both.there' (λ root names. sym (both.kept root names)) one.roots are.named.roots ∙ ap (map both.there') (sym makes.roots);
  };
}
  where
    base : ℕ
    base = makes.block.base

    contents : List ℕ
    contents = makes.block.contents

    block : Block
    block = new_block Static makes.block.base makes.block.contents

    next' : State
    next' = record { memory = placed other.memory (new_block Static makes.block.base makes.block.contents); variables = put variable (length other.memory) other.variables; registers = other.registers; ports = other.ports; roots = other.roots }

    both : ArePlacedAlike there back paired one.memory other.memory (new_block Static makes.block.base makes.block.contents)
    both = (alike_respected.changes there back paired one.memory other.memory are.memories).places Static makes.block.base makes.block.contents

    room : is_new_block other.memory Static size makes.block.base makes.block.contents ≡ is_new_block one.memory Static size makes.block.base makes.block.contents
    room = (alike_respected.faults there back paired one.memory other.memory are.memories).room Static size makes.block.base makes.block.contents

    more : ℕ → Bool
    more number = paired number || nat_eq number (length one.memory)

    number_more : (number : ℕ) → IsTrue (paired number) → IsTrue (more number)
    number_more number is = or_left (paired number) (nat_eq number (length one.memory)) is

    word_more : (word : Word) → WordNamesAmong paired word → WordNamesAmong more word
    word_more (Plain number) names = tt
    word_more (To number offset) names = number_more number names

    named_variable : (at number : ℕ) (b : Bool) → (if b then Some (length one.memory) else one.variables at) ≡ Some number → more number ≡ true
    named_variable at number true stands = or_right (paired number) (nat_eq number (length one.memory)) (eq-eqb _ _ (sym (same_Some _ _ stands)))
    named_variable at number false stands = number_more number (are.named.variables at number stands)

    number_same : (found : Option ℕ) → ((number : ℕ) → found ≡ Some number → IsTrue (paired number)) → option_map there found ≡ option_map both.there' found
    number_same None names = refl
    number_same (Some number) names = ap Some (sym (both.kept number (names number refl)))

    word_same : (found : Option Word) → ((word : Word) → found ≡ Some word → WordNamesAmong paired word) → option_map (renumbered_word there) found ≡ option_map (renumbered_word both.there') found
    word_same None names = refl
    word_same (Some word) names = ap Some (sym (word_agrees paired there both.there' both.kept word (names word refl)))

    same_variable : (at : ℕ) (b : Bool) → (if b then Some (length other.memory) else other.variables at) ≡ option_map both.there' (if b then Some (length one.memory) else one.variables at)
    same_variable at true = ap Some (sym both.new)
    same_variable at false = are.variables at ∙ number_same (one.variables at) (λ number stands. are.named.variables at number stands)

-- The graph.

module _ (variable size : ℕ) (parts : Parts) (graph : IsGraph parts) (small : size ≤ 65536) (few : nodes parts + 1 < 2 ^ 30) (unnamed : storage_of parts.variables variable ≡ None) where
  abbrev key : ℕ
  key = length parts.objects

  abbrev more : Parts
  more = grown Static size true parts graph

  abbrev between : Parts
  between = with_storage variable key more

  stores : (at : ℕ) → storage_of between.variables at ≡ put variable key (storage_of parts.variables) at
  stores = between_storage variable size parts graph small few unnamed

  agrees_back : AgreeButVariables (maps_of between) (maps_of more)
  agrees_back = record { objects = λ at. refl; values = λ at. refl; registers = λ at. refl; ports = refl; unequal = refl }

  module _ (bound : may_lead_anywhere parts ≡ false) (one : State) (is_one : IsState one) (kinds : List BlockKind) (given : Assignment)
      (is : IsState (with_memory (one.memory ++ map dead_block kinds) one)) (meets : Meets (maps_of between) (with_memory (one.memory ++ map dead_block kinds) one) given) where
    abbrev full : State
    full = with_memory (one.memory ++ map dead_block kinds) one

    -- the variable does not stand before
    abbrev others : ℕ → Option ℕ
    others at = if nat_eq at variable then None else one.variables at

    abbrev middle : State
    middle = record full { variables = others }

    middle_is : IsState middle
    middle_is = record { memory = is.memory; bytes = is.bytes; variables = λ at number stands. by_test at number (nat_eq at variable) stands; registers = is.registers; ports = is.ports; roots = is.roots }
      where
        by_test : (at number : ℕ) (b : Bool) → (if b then None else one.variables at) ≡ Some number → number < length full.memory
        by_test at number true stands = absurd (none-some number stands)
        by_test at number false stands = is.variables at number stands

    were : (at : ℕ) → option_map (λ number. number ∷ []) (one.variables at) ≡ option_map given.blocks (put variable key (storage_of parts.variables) at)
    were at = meets.variables at ∙ ap (option_map given.blocks) (stores at)

    middle_meets : Meets (maps_of more) middle given
    middle_meets = variables_changed (maps_of between) (maps_of more) full middle given agrees_back (record { memory = refl; registers = λ at. refl; ports = refl; roots = refl }) (λ at. by_test at (nat_eq at variable) refl (were at)) meets
      where
        by_test : (at : ℕ) (b : Bool) → nat_eq at variable ≡ b → option_map (λ number. number ∷ []) (one.variables at) ≡ option_map given.blocks (if b then Some key else storage_of parts.variables at) →
            option_map (λ number. number ∷ []) (if b then None else one.variables at) ≡ option_map given.blocks (storage_of parts.variables at)
        by_test at true same was = ap (option_map given.blocks) (sym (ap (storage_of parts.variables) (eqb-true _ _ same) ∙ unnamed))
        by_test at false differ was = was

    abbrev begun : State
    begun = before Static size true parts graph one kinds others one.registers given middle_is middle_meets

    abbrev begun_is : IsState begun
    begun_is = before_state Static size true parts graph one kinds others one.registers given middle_is middle_meets

    abbrev begun_meets : Meets (maps_of parts) begun given
    begun_meets = before_meets Static size true parts graph one kinds others one.registers given middle_is middle_meets

    abbrev block : Block
    block = (now Static size true parts graph one kinds others one.registers given middle_is middle_meets).block

    abbrev number : ℕ
    number = (now Static size true parts graph one kinds others one.registers given middle_is middle_meets).number

    abbrev next : State
    next = record {
      memory = placed begun.memory block;
      variables = put variable (length begun.memory) others;
      registers = one.registers;
      ports = one.ports;
      roots = one.roots;
    }

    abbrev turned : ℕ → ℕ
    turned = turn Static size true parts graph one kinds others one.registers given middle_is middle_meets is_one bound

    register_keeps : (register : ℕ) (found : Option Word) → one.registers register ≡ found → found ≡ option_map (renumbered_word turned) found
    register_keeps register None is' = refl
    register_keeps register (Some word) is' =
        ap Some (word_keeps Static size true parts graph one kinds others one.registers given middle_is middle_meets is_one bound word (is_one.registers register word is')
        (λ its offset same. register_owned parts graph bound begun given begun_is begun_meets register its offset (is' ∙ ap Some same)))

    -- the block of the variable
    stored : (found : Option ℕ) → option_map (λ number. number ∷ []) found ≡ Some (given.blocks key) → found ≡ Some number
    stored None same = absurd (none-some (given.blocks key) same)
    stored (Some its) same =
        head its number (same_Some _ _ same ∙ (now Static size true parts graph one kinds others one.registers given middle_is middle_meets).blocks)
      where
        head : (a b : ℕ) → a ∷ [] ≡ b ∷ [] → Some a ≡ Some b
        head a b lists = ap (λ (xs : List ℕ). slice_get xs 0) lists

    variable_keeps : (at : ℕ) → put variable (length begun.memory) others at ≡ option_map turned (one.variables at)
    variable_keeps at = by_test (nat_eq at variable) refl (were at)
      where
        still : (found : Option ℕ) → one.variables at ≡ found → others at ≡ found → found ≡ option_map turned found
        still None is' is'' = refl
        still (Some its) is' is'' =
            ap Some (number_keeps Static size true parts graph one kinds others one.registers given middle_is middle_meets is_one bound its
            (variable_owned parts graph bound begun given begun_is begun_meets at its is'') (is_one.variables at its is'))

        by_test : (b : Bool) → nat_eq at variable ≡ b → option_map (λ number. number ∷ []) (one.variables at) ≡ option_map given.blocks (if b then Some key else storage_of parts.variables at) →
            (if b then Some (length begun.memory) else (if b then None else one.variables at)) ≡ option_map turned (one.variables at)
        by_test true same was =
            ap Some (long_before Static size true parts graph one kinds others one.registers given middle_is middle_meets is_one bound ∙ sym (swap_one number (length middle.memory)))
            ∙ ap (option_map turned) (sym (stored (one.variables at) was))
        by_test false differ was = still (one.variables at) refl (ap (λ (b : Bool). if b then None else one.variables at) differ)

    follows : FollowsAlike parts (MakesStatic variable size) one
    follows = record {
      state = begun;
      next' = next;
      is = begun_is;
      stands = record { given = given; meets = begun_meets };
      steps = record {
        block = makes Static size true parts graph one kinds others one.registers given middle_is middle_meets;
        variables_are = λ at. refl;
        registers_are = λ register. refl;
        ports = refl;
        roots = refl;
      };
      there = turned;
      back = turned;
      paired = λ its. nat_lt its (length one.memory);
      alike = alike_behind Static size true parts graph one kinds others one.registers given middle_is middle_meets is_one bound (put variable (length begun.memory) others) one.registers
          variable_keeps (λ register. register_keeps register (one.registers register) refl);
    }

  pub static_follows : may_lead_anywhere parts ≡ false → (next : State) → IsState next → StandsFor between next → FollowsAlike parts (MakesStatic variable size) next
  static_follows bound next is stands =
      let all = all_blocks_may_be_there between next stands.given is stands.meets in
      follows bound next is all.more.kinds all.given
      (subst IsState all.more.is all.is)
      (subst (λ (s : State). Meets (maps_of between) s all.given) all.more.is all.meets)

  module _ (below : list_all (λ (named : Named). nat_lt named.variable variable) parts.variables ≡ true) where
    pub made_follows : may_lead_anywhere parts ≡ false → (next : State) → IsState next → StandsFor (with_static variable size parts) next → FollowsAlike parts (MakesStatic variable size) next
    made_follows bound next is stands = static_follows bound next is (subst (λ (p : Parts). StandsFor p next) (sym (between_is variable size parts graph small few unnamed below)) stands)
