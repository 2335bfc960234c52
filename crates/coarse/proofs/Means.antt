-- What is left stands for each state for which the graph stood, with the same words and blocks.
use Rattle.std.proofs.Common.{◌≡◌, ℕ, ◌^◌, true, nat_lt, ltb-true, Option, None, Some, refl, sym, ◌∙◌, ap, subst, length, List}
use Rattle.std.specs.Prelude.{ℤ, option_map, ◌<◌, IsSome}
use Rattle.std.proofs.lemmas.Option.{same_Some, none-some}
use Rattle.bytes_core.specs.declared.word.Word.{Word}
use Rattle.graph.specs.declared.value.Value.{Value}
use Rattle.graph.specs.declared.value.Value.TheVariants.{Const, Number, Any, Address}
use Rattle.graph.specs.declared.parts.KeyedValue.{KeyedValue}
use Rattle.graph.specs.declared.parts.Parts.{Parts}
use Rattle.graph.specs.Maps.{value_at}
use Rattle.graph.specs.Meaning.{Ends, ends_of, HasWord, own_offset, IsRooted, Assignment, Meets, maps_of, StandsFor}
use Rattle.graph.specs.Nodes.{own_node}
use Rattle.graph.specs.Sizes.{is_sized, is_scalar_size}
use Rattle.graph.specs.State.{State}
use Rattle.graph.specs.Whole.{IsGraph}
use Rattle.graph.proofs.Closed.{closed_of}
use Rattle.graph.proofs.Found.{found-all}
use Rattle.graph.proofs.Frames.{OnNamed-weaker, HasBlocks-agree}
use Rattle.graph.proofs.Tests.{and_right}
use Rattle.coarse.specs.Beyond.{forgotten}
use Rattle.coarse.specs.Coarsened.{coarsened_value, coarsened}
use Rattle.coarse.proofs.Left.{either, value_left}

-- a value with a word
has_forgotten : (count : ℕ) (blocks : ℕ → List ℕ) (ends : ℕ → Ends) (value : Value) (word : Word) → is_sized value ≡ true → HasWord count blocks ends value word → HasWord count blocks ends (forgotten value) word
has_forgotten count blocks ends (Const number size) word sized has = (number, has, below (and_right (is_scalar_size size) (nat_lt number (256 ^ size)) sized))
  where
    below : nat_lt number (256 ^ size) ≡ true → number < 256 ^ size
    below is = ltb-true _ _ is
has_forgotten count blocks ends (Number size) word sized has = has
has_forgotten count blocks ends Any word sized has = has
has_forgotten count blocks ends (Address object offset target) word sized has = has

own_forgotten : (value : Value) → own_offset (Some (forgotten value)) ≡ own_offset (Some value)
own_forgotten (Const number size) = refl
own_forgotten (Number size) = refl
own_forgotten Any = refl
own_forgotten (Address object offset target) = refl

rooted_forgotten : (roots : List ℕ) (value : Value) (word : Word) → IsRooted roots (Some value) word → IsRooted roots (Some (forgotten value)) word
rooted_forgotten roots (Const number size) word rooted = tt
rooted_forgotten roots (Number size) word rooted = tt
rooted_forgotten roots Any word rooted = tt
rooted_forgotten roots (Address object offset target) word rooted = rooted

module _ (limit : ℕ) (parts : Parts) (graph : IsGraph parts) where
  own_left : (key : ℕ) → own_offset (value_at (coarsened limit parts).values key) ≡ own_offset (value_at parts.values key)
  own_left key = ap own_offset (value_left limit parts key) ∙ by_found (value_at parts.values key)
    where
      by_found : (found : Option Value) → own_offset (option_map (coarsened_value limit parts key) found) ≡ own_offset found
      by_found None = refl
      by_found (Some value) = either limit parts (λ v. own_offset (Some v) ≡ own_offset (Some value)) key value refl (own_forgotten value)

  abbrev own : ℕ → Option ℤ
  own value = own_offset (value_at parts.values value)

  abbrev own' : ℕ → Option ℤ
  own' value = own_offset (value_at (coarsened limit parts).values value)

  left_meets : (state : State) (given : Assignment) → Meets (maps_of parts) state given → Meets (maps_of (coarsened limit parts)) state given
  left_meets state given meets = record {
    values = λ key value stands. has_word key value (value_at parts.values key) refl (sym (value_left limit parts key) ∙ stands);
    objects = λ key object stands.
        HasBlocks-agree given.word given.word own own' object.live state.memory object (given.blocks key)
        (OnNamed-weaker (λ v. IsSome (value_at parts.values v)) (λ v. (given.word v ≡ given.word v) × (own v ≡ own' v)) (λ v some. (refl, sym (own_left v))) object.shape (own_node object)
        ((closed_of parts graph.well_formed).objects key object stands))
        (meets.objects key object stands);
    owners = meets.owners;
    places = meets.places;
    used = λ number block stands live. let owned = meets.used number block stands live in record { object = owned.object; block = owned.block };
    variables = meets.variables;
    registers = meets.registers;
    ports = meets.ports;
    rooted = λ place port stands.
        subst (λ (o : Option Value). IsRooted state.roots o (given.word port)) (sym (value_left limit parts port))
        (is_rooted port (value_at parts.values port) (meets.rooted place port stands));
    unequal = meets.unequal;
  }
    where
      has_word : (key : ℕ) (value : Value) (found : Option Value) → value_at parts.values key ≡ found → option_map (coarsened_value limit parts key) found ≡ Some value → HasWord (length state.memory) given.blocks (ends_of (maps_of parts).objects given.word) value (given.word key)
      has_word key value None was is = absurd (none-some value is)
      has_word key value (Some before) was is =
          let has = meets.values key before was in
          let sized = found-all (λ (entry : KeyedValue). entry.key) (λ entry. entry.value) is_sized parts.values key before graph.well_formed.values_are_sized was in
          subst (λ (v : Value). HasWord (length state.memory) given.blocks (ends_of (maps_of parts).objects given.word) v (given.word key)) (same_Some (coarsened_value limit parts key before) value is)
          (either limit parts (λ v. HasWord (length state.memory) given.blocks (ends_of (maps_of parts).objects given.word) v (given.word key)) key before has (has_forgotten (length state.memory) given.blocks (ends_of (maps_of parts).objects given.word) before (given.word key) sized has))

      is_rooted : (port : ℕ) (found : Option Value) → IsRooted state.roots found (given.word port) → IsRooted state.roots (option_map (coarsened_value limit parts port) found) (given.word port)
      is_rooted port None rooted = rooted
      is_rooted port (Some value) rooted =
          either limit parts (λ v. IsRooted state.roots (Some v) (given.word port)) port value rooted (rooted_forgotten state.roots value (given.word port) rooted)

  pub left_stands : (state : State) → StandsFor parts state → StandsFor (coarsened limit parts) state
  left_stands state stands = record { given = stands.given; meets = left_meets state stands.given stands.meets }
