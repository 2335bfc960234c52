-- A static variable more: the graph behind, and the state.
use Rattle.std.proofs.Common.{◌≡◌, ℕ, suc, ◌+◌, ◌^◌, ◌<◌, ◌≤◌, Bool, true, false, not, ◌&&◌, List, [], ◌∷◌, ◌++◌, map, length, nat_eq, nat_lt, Option, Some, None, refl, sym, ◌∙◌, ap, subst, eq-eqb, eqb-true, ltb-true, length-append, arith}
use Rattle.std.specs.Prelude.{option_map, filter, if◌then◌else◌}
use Rattle.std.specs.List.{All, list_all}
use Rattle.std.specs.Option.{option_map_or}
use Rattle.std.proofs.lemmas.Bool.{false≢true}
use Rattle.std.proofs.lemmas.List.Elements.{All-nil, All-cons, All-append, All-weaker}
use Rattle.std.proofs.lemmas.Option.{same_Some}
use Rattle.bytes_core.specs.declared.byte.Byte.TheVariants.{Num}
use Rattle.bytes_core.specs.declared.block.Block.{Block}
use Rattle.bytes_core.specs.declared.block.BlockKind.TheVariants.{Static}
use Rattle.bytes_core.specs.declared.word.Word.{Word}
use Rattle.bytes_core.specs.Placement.{new_block, can_be_placed}
use Rattle.bytes_core.specs.Valid.{NamesBelow, IsMemory}
use Rattle.bytes_core.proofs.Kept.{IsMemory-placed}
use Rattle.graph.specs.declared.object.Object.{Object}
use Rattle.graph.specs.declared.parts.Named.{Named}
use Rattle.graph.specs.declared.parts.Parts.{Parts}
use Rattle.graph.specs.DeadBlocks.{with_memory}
use Rattle.graph.specs.Maps.{object_at, storage_of}
use Rattle.graph.specs.Meaning.{Assignment, StandsFor, maps_of}
use Rattle.graph.specs.State.{State, IsState, IsByte, IsWordBelow, IsLedTo}
use Rattle.graph.specs.WellFormed.{is_storage, nodes}
use Rattle.graph.specs.Whole.{IsGraph}
use Rattle.graph.proofs.DeadMore.{word_above}
use Rattle.graph.proofs.Tests.{and_left, and_right, list_all-implies}
use Rattle.changes.specs.Parts.{put}
use Rattle.heap_steps.proofs.VariablesChanged.{AgreeButVariables, variables_changed}
use Rattle.block_steps.specs.Blocks.{Makes}
use Rattle.block_steps.specs.Entering.{with_storage}
use Rattle.block_steps.proofs.Grown.{IsGrown, grown_meets}
use Rattle.block_steps.proofs.ObjectForm.{grown, object_new, object_next, graph_more}
use Rattle.block_steps.proofs.VariableForm.{storage_is, graph_stored}
use Rattle.transfer.specs.Start.{with_static}

-- a static variable is made
abbrev pub MakesStatic : ℕ → ℕ → State → State → Type 0
MakesStatic variable size state next = Makes Static size true (put variable (length state.memory) state.variables) state.registers state next

-- The state behind is one.

numbers_name : (count : ℕ) (contents : List ℕ) → All (NamesBelow count) (map Num contents)
numbers_name count [] = All-nil (NamesBelow count)
numbers_name count (first ∷ rest) = All-cons (NamesBelow count) (Num first) (map Num rest) tt (numbers_name count rest)

numbers_small : (contents : List ℕ) → list_all (λ byte. nat_lt byte 256) contents ≡ true → All IsByte (map Num contents)
numbers_small [] small = All-nil IsByte
numbers_small (first ∷ rest) small =
    All-cons IsByte (Num first) (map Num rest) (ltb-true first 256 (and_left (nat_lt first 256) (list_all (λ byte. nat_lt byte 256) rest) small))
    (numbers_small rest (and_right (nat_lt first 256) (list_all (λ byte. nat_lt byte 256) rest) small))

pub static_state : (variable size : ℕ) (state next : State) → IsState state → MakesStatic variable size state next → IsState next
static_state variable size state next is makes = record {
  memory = subst IsMemory (sym makes.block.is) (IsMemory-placed state.memory block is.memory (and_right (list_all (λ byte. nat_lt byte 256) contents) (can_be_placed state.memory block) later) (numbers_name (length state.memory + 1) contents));
  bytes = subst (All (λ block. All IsByte block.bytes)) (sym makes.block.is)
      (All-append (λ block. All IsByte block.bytes) state.memory (block ∷ []) is.bytes
      (All-cons (λ block. All IsByte block.bytes) block [] (numbers_small contents (and_left (list_all (λ byte. nat_lt byte 256) contents) (can_be_placed state.memory block) later)) (All-nil (λ block. All IsByte block.bytes))));
  variables = λ at number stands. below at number (nat_eq at variable) (sym (makes.variables_are at) ∙ stands);
  registers = λ register word stands. subst (λ (n : ℕ). IsWordBelow n word) (sym count) (word_above (length state.memory) word (is.registers register word (sym (makes.registers_are register) ∙ stands)));
  ports = subst (All (IsWordBelow (length next.memory))) (sym makes.ports)
      (subst (λ (n : ℕ). All (IsWordBelow n) state.ports) (sym count) (All-weaker (IsWordBelow (length state.memory)) (IsWordBelow (suc (length state.memory))) (word_above (length state.memory)) state.ports is.ports));
  roots = subst (All (IsLedTo next.ports)) (sym makes.roots) (subst (λ (ports : List Word). All (IsLedTo ports) state.roots) (sym makes.ports) is.roots);
}
  where
    contents : List ℕ
    contents = makes.block.contents

    block : Block
    block = new_block Static makes.block.base makes.block.contents

    later : (list_all (λ byte. nat_lt byte 256) contents && can_be_placed state.memory block) ≡ true
    later = and_right (nat_eq (length contents) size) (list_all (λ byte. nat_lt byte 256) contents && can_be_placed state.memory block) makes.block.new

    count : length next.memory ≡ suc (length state.memory)
    count = ap length makes.block.is ∙ length-append state.memory (block ∷ []) ∙ omega arith

    below : (at number : ℕ) (b : Bool) → (if b then Some (length state.memory) else state.variables at) ≡ Some number → number < length next.memory
    below at number true stands = let same = same_Some _ _ stands in let c = count in omega arith
    below at number false stands = let under = is.variables at number stands in let c = count in omega arith

-- The graph.

module _ (variable size : ℕ) (parts : Parts) (graph : IsGraph parts) (small : size ≤ 65536) (few : nodes parts + 1 < 2 ^ 30) (unnamed : storage_of parts.variables variable ≡ None) where
  abbrev pub key : ℕ
  key = length parts.objects

  abbrev pub more : Parts
  more = grown Static size true parts graph

  more_graph : IsGraph more
  more_graph = graph_more Static size true parts graph small few

  abbrev pub between : Parts
  between = with_storage variable key more

  -- no variable has the key of the new object
  fresh : (variables : List Named) → list_all (λ (named : Named). option_map_or is_storage (object_at parts.objects named.object) false) variables ≡ true → list_all (λ (named : Named). not (nat_eq named.object key)) variables ≡ true
  fresh variables stored = list_all-implies (λ (named : Named). option_map_or is_storage (object_at parts.objects named.object) false) (λ named. not (nat_eq named.object key)) differs variables stored
    where
      differs : (named : Named) → option_map_or is_storage (object_at parts.objects named.object) false ≡ true → not (nat_eq named.object key) ≡ true
      differs named stores = by_test (nat_eq named.object key) refl
        where
          by_test : (b : Bool) → nat_eq named.object key ≡ b → not b ≡ true
          by_test true is =
              absurd (false≢true (ap (λ (o : Option Object). option_map_or is_storage o false) (sym (ap (object_at parts.objects) (eqb-true _ _ is) ∙ object_next Static size true parts graph)) ∙ stores))
          by_test false is = refl

  between_graph : IsGraph between
  between_graph = graph_stored variable key more more_graph unnamed
      (ap (λ (o : Option Object). option_map_or is_storage o false) (object_new Static size true parts graph))
      (fresh parts.variables graph.well_formed.variables_have_storage)

  pub between_storage : (at : ℕ) → storage_of between.variables at ≡ put variable key (storage_of parts.variables) at
  between_storage = storage_is variable key more more_graph unnamed

  agrees : AgreeButVariables (maps_of more) (maps_of between)
  agrees = record { objects = λ at. refl; values = λ at. refl; registers = λ at. refl; ports = refl; unequal = refl }

  between_sound : (state next : State) → IsState state → StandsFor parts state → MakesStatic variable size state next → StandsFor between next
  between_sound state next is stands makes = record {
    given = grows.given;
    meets = variables_changed (maps_of more) (maps_of between) (with_memory next.memory state) next grows.given agrees
        (record { memory = refl; registers = makes.registers_are; ports = makes.ports; roots = makes.roots })
        (λ at. ap (option_map (λ number. number ∷ [])) (makes.variables_are at) ∙ by_test at (nat_eq at variable) ∙ ap (option_map grows.given.blocks) (sym (between_storage at)))
        grows.grows;
  }
    where
      grows : IsGrown Static size true parts graph state next.memory
      grows = grown_meets Static size true parts graph state stands.given next.memory is stands.meets makes.block

      own : grows.given.blocks key ≡ length state.memory ∷ []
      own = ap (λ (a : Assignment). a.blocks key) grows.same ∙ ap (λ (b : Bool). if b then length state.memory ∷ [] else grows.was.blocks key) (eq-eqb key key refl)

      by_test : (at : ℕ) (b : Bool) → option_map (λ number. number ∷ []) (if b then Some (length state.memory) else state.variables at) ≡ option_map grows.given.blocks (if b then Some key else storage_of parts.variables at)
      by_test at true = ap Some (sym own)
      by_test at false = grows.grows.variables at

  -- all other variables are below
  module _ (below : list_all (λ (named : Named). nat_lt named.variable variable) parts.variables ≡ true) where
    keeps_all : (xs : List Named) → list_all (λ (named : Named). nat_lt named.variable variable) xs ≡ true → filter (λ (named : Named). nat_lt named.variable variable) xs ≡ xs
    keeps_all [] all = refl
    keeps_all (first ∷ rest) all =
        ap (λ (b : Bool). if b then first ∷ filter (λ (named : Named). nat_lt named.variable variable) rest else filter (λ (named : Named). nat_lt named.variable variable) rest)
        (and_left (nat_lt first.variable variable) (list_all (λ (named : Named). nat_lt named.variable variable) rest) all)
        ∙ ap (λ (ns : List Named). first ∷ ns) (keeps_all rest (and_right (nat_lt first.variable variable) (list_all (λ (named : Named). nat_lt named.variable variable) rest) all))

    keeps_none : (xs : List Named) → list_all (λ (named : Named). nat_lt named.variable variable) xs ≡ true → filter (λ (named : Named). nat_lt variable named.variable) xs ≡ []
    keeps_none [] all = refl
    keeps_none (first ∷ rest) all =
        ap (λ (b : Bool). if b then first ∷ filter (λ (named : Named). nat_lt variable named.variable) rest else filter (λ (named : Named). nat_lt variable named.variable) rest)
        (not_above (and_left (nat_lt first.variable variable) (list_all (λ (named : Named). nat_lt named.variable variable) rest) all))
        ∙ keeps_none rest (and_right (nat_lt first.variable variable) (list_all (λ (named : Named). nat_lt named.variable variable) rest) all)
      where
        not_above : nat_lt first.variable variable ≡ true → nat_lt variable first.variable ≡ false
        not_above less = by_test (nat_lt variable first.variable) refl
          where
            by_test : (b : Bool) → nat_lt variable first.variable ≡ b → nat_lt variable first.variable ≡ false
            by_test true is = let one = ltb-true _ _ less in let two = ltb-true _ _ is in absurd (omega arith)
            by_test false is = is

    pub between_is : between ≡ with_static variable size parts
    between_is =
        ap (λ (ns : List Named). record more { variables = ns ++ record { variable = variable; object = key } ∷ filter (λ (named : Named). nat_lt variable named.variable) parts.variables }) (keeps_all parts.variables below)
        ∙ ap (λ (ns : List Named). record more { variables = parts.variables ++ record { variable = variable; object = key } ∷ ns }) (keeps_none parts.variables below)

    pub static_graph_is : IsGraph (with_static variable size parts)
    static_graph_is = subst IsGraph between_is between_graph

    pub static_storage : (at : ℕ) → storage_of (with_static variable size parts).variables at ≡ put variable key (storage_of parts.variables) at
    static_storage at = ap (λ (p : Parts). storage_of p.variables at) (sym between_is) ∙ between_storage at

    pub static_sound : (state next : State) → IsState state → StandsFor parts state → MakesStatic variable size state next → StandsFor (with_static variable size parts) next
    static_sound state next is stands makes = subst (λ (p : Parts). StandsFor p next) between_is (between_sound state next is stands makes)
