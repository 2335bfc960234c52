-- With more dead blocks, which nothing else names, each block of each object is there.
use Rattle.std.proofs.Common.{◌≡◌, ◌≢◌, ℕ, zero, suc, ◌+◌, ◌<◌, ◌≤◌, Bool, true, false, List, [], ◌∷◌, ◌++◌, map, length, nat_eq, nat_lt, Option, None, Some, refl, sym, ◌∙◌, ap, subst, eqb-true, eq-eqb, ltb-true, ltb-false, arith, length-append, append_assoc, append-nil}
use Rattle.std.specs.Prelude.{IsSome, option_map, slice_get, if◌then◌else◌}
use Rattle.std.specs.List.{All}
use Rattle.std.proofs.lemmas.Bool.{false≢true}
use Rattle.std.proofs.lemmas.List.Elements.{All-nil, All-cons, All-append, All-weaker}
use Rattle.std.proofs.lemmas.Option.{same_Some, none-some, slice_get-map}
use Rattle.bytes_core.specs.declared.block.Block.{Block}
use Rattle.bytes_core.specs.declared.block.BlockKind.{BlockKind}
use Rattle.bytes_core.specs.Placement.{can_be_placed}
use Rattle.bytes_core.specs.Valid.{NamesBelow}
use Rattle.bytes_core.proofs.Kept.{IsMemory-placed}
use Rattle.graph.specs.declared.object.Object.{Object}
use Rattle.graph.specs.declared.parts.KeyedObject.{KeyedObject}
use Rattle.graph.specs.declared.parts.Parts.{Parts}
use Rattle.graph.specs.Maps.{object_at, value_at}
use Rattle.graph.specs.State.{State, IsWordBelow, IsByte, IsState}
use Rattle.graph.specs.Meaning.{HasBlocksAs, own_offset, maps_of, Assignment, Meets, StandsFor}
use Rattle.graph.specs.DeadBlocks.{with_numbers, dead_block, with_memory, IsMoreDead, IsWithAllBlocks, AllBlocksMayBeThere}
use Rattle.graph.proofs.DeadMore.{word_above, live_within, dead_more}
use Rattle.graph.proofs.Absent.{absent_elsewhere}

-- Two numbers exchanged.
abbrev swap : ℕ → ℕ → ℕ → ℕ
swap one other number = if nat_eq number one then other else (if nat_eq number other then one else number)

eqb-miss : (one other : ℕ) → one ≢ other → nat_eq one other ≡ false
eqb-miss one other differ = by_test (nat_eq one other) refl
  where
    by_test : (b : Bool) → nat_eq one other ≡ b → nat_eq one other ≡ false
    by_test true is = absurd (differ (eqb-true _ _ is))
    by_test false is = is

swap_one : (one other : ℕ) → swap one other one ≡ other
swap_one one other = ap (λ (b : Bool). if b then other else (if nat_eq one other then one else one)) (eq-eqb one one refl)

swap_other : (one other : ℕ) → swap one other other ≡ one
swap_other one other = by_test (nat_eq other one) refl
  where
    by_test : (b : Bool) → nat_eq other one ≡ b → (if b then other else (if nat_eq other other then one else other)) ≡ one
    by_test true is = eqb-true _ _ is
    by_test false is = ap (λ (b : Bool). if b then one else other) (eq-eqb other other refl)

swap_else : (one other number : ℕ) → number ≢ one → number ≢ other → swap one other number ≡ number
swap_else one other number differ differ' =
    ap (λ (b : Bool). if b then other else (if nat_eq number other then one else number)) (eqb-miss number one differ) ∙ ap (λ (b : Bool). if b then one else number) (eqb-miss number other differ')

swap_twice : (one other number : ℕ) → swap one other (swap one other number) ≡ number
swap_twice one other number = by_one (nat_eq number one) refl
  where
    by_other : nat_eq number one ≡ false → (c : Bool) → nat_eq number other ≡ c → swap one other (swap one other number) ≡ number
    by_other miss true is = ap (λ (n : ℕ). swap one other (swap one other n)) (eqb-true _ _ is) ∙ ap (swap one other) (swap_other one other) ∙ swap_one one other ∙ sym (eqb-true _ _ is)
    by_other miss false is =
        let same = swap_else one other number (λ e. false≢true (sym miss ∙ eq-eqb _ _ e)) (λ e. false≢true (sym is ∙ eq-eqb _ _ e)) in ap (swap one other) same ∙ same

    by_one : (b : Bool) → nat_eq number one ≡ b → swap one other (swap one other number) ≡ number
    by_one true is = ap (λ (n : ℕ). swap one other (swap one other n)) (eqb-true _ _ is) ∙ ap (swap one other) (swap_one one other) ∙ swap_other one other ∙ sym (eqb-true _ _ is)
    by_one false is = by_other is (nat_eq number other) refl

-- A state with one dead block more is one.
state_more : (state : State) (kind : BlockKind) → IsState state → IsState (with_memory (state.memory ++ dead_block kind ∷ []) state)
state_more state kind is = record {
  memory = IsMemory-placed state.memory (dead_block kind) is.memory (placed state.memory) (All-nil (NamesBelow (length state.memory + 1)));
  bytes = All-append (λ block. All IsByte block.bytes) state.memory (dead_block kind ∷ []) is.bytes (All-cons (λ block. All IsByte block.bytes) (dead_block kind) [] (All-nil IsByte) (All-nil (λ block. All IsByte block.bytes)));
  variables = λ variable number stands. let below = is.variables variable number stands in let c = count in omega arith;
  registers = λ register word stands. subst (λ (n : ℕ). IsWordBelow n word) (sym count) (word_above (length state.memory) word (is.registers register word stands));
  ports = subst (λ (n : ℕ). All (IsWordBelow n) state.ports) (sym count) (All-weaker (IsWordBelow (length state.memory)) (IsWordBelow (suc (length state.memory))) (word_above (length state.memory)) state.ports is.ports);
  roots = is.roots;
}
  where
    count : length (state.memory ++ dead_block kind ∷ []) ≡ suc (length state.memory)
    count = length-append state.memory (dead_block kind ∷ []) ∙ omega arith

    placed : (memory : List Block) → can_be_placed memory (dead_block kind) ≡ true
    placed [] = refl
    placed (first ∷ rest) = placed rest

-- one object's block is there, and those that were still are
record IsOneThere (parts : Parts) (state : State) (given : Assignment) (key : ℕ) : Type 0 where
  next : State
  given' : Assignment
  is : IsState next
  more : IsMoreDead state next
  meets : Meets (maps_of parts) next given'
  here : (place number : ℕ) → slice_get (given'.blocks key) place ≡ Some number → number < length next.memory
  still : (at : ℕ) → ((place number : ℕ) → slice_get (given.blocks at) place ≡ Some number → number < length state.memory) →
      (place number : ℕ) → slice_get (given'.blocks at) place ≡ Some number → number < length next.memory

module _ (parts : Parts) (state : State) (given : Assignment) (key : ℕ) (object : Object) (is : IsState state) (meets : Meets (maps_of parts) state given) (stands : object_at parts.objects key ≡ Some object)
    (number : ℕ) (same : given.blocks key ≡ number ∷ []) (above : length state.memory ≤ number) where
  abbrev there : ℕ → ℕ
  there = swap number (length state.memory)

  low : (n : ℕ) → n < length state.memory → there n ≡ n
  low n below = swap_else number (length state.memory) n (λ e. absurd (omega arith)) (λ e. absurd (omega arith))

  high : (n : ℕ) → length state.memory ≤ n → length state.memory ≤ there n
  high n beyond = by_one (nat_eq n number) (nat_eq n (length state.memory))
    where
      by_one : (b c : Bool) → length state.memory ≤ (if b then length state.memory else (if c then number else n))
      by_one true c = omega arith
      by_one false true = above
      by_one false false = beyond

  count : length (state.memory ++ dead_block object.kind ∷ []) ≡ suc (length state.memory)
  count = length-append state.memory (dead_block object.kind ∷ []) ∙ omega arith

  found_before : (blocks : List ℕ) (place n : ℕ) → slice_get (map there blocks) place ≡ Some n → slice_get blocks place ≡ Some (there n)
  found_before blocks place n found = by_found (slice_get blocks place) (sym (slice_get-map there blocks place) ∙ found)
    where
      by_found : (o : Option ℕ) → option_map there o ≡ Some n → o ≡ Some (there n)
      by_found None is = absurd (none-some n is)
      by_found (Some m) is = ap Some (sym (swap_twice number (length state.memory) m) ∙ ap there (same_Some _ _ is))

  owner_is : (at place : ℕ) (found : Object) → object_at parts.objects at ≡ Some found → slice_get (map there (given.blocks at)) place ≡ Some (length state.memory) → object ≡ found
  owner_is at place found stands' has =
      let before : slice_get (given.blocks at) place ≡ Some number = found_before (given.blocks at) place (length state.memory) has ∙ ap Some (swap_other number (length state.memory)) in
      let its = meets.owners at place number (subst (λ (o : Option Object). IsSome o) (sym stands') refl) before in
      let mine = meets.owners key 0 number (subst (λ (o : Option Object). IsSome o) (sym stands) refl) (ap (λ (ns : List ℕ). slice_get ns 0) same) in
      same_Some _ _ (sym stands ∙ ap (object_at parts.objects) (sym mine ∙ its) ∙ stands')

  only_last : (place other : ℕ) → slice_get (there number ∷ []) place ≡ Some other → other ≡ length state.memory
  only_last zero other found = sym (same_Some _ _ found) ∙ swap_one number (length state.memory)
  only_last (suc place) other found = absurd (none-some other found)

  kept : (blocks : List ℕ) (place other : ℕ) → ((n : ℕ) → slice_get blocks place ≡ Some n → n < length state.memory) → slice_get (map there blocks) place ≡ Some other → other < suc (length state.memory)
  kept blocks place other before found =
      let was = before (there other) (found_before blocks place other found) in
      let e : other ≡ there other = sym (swap_twice number (length state.memory) other) ∙ low (there other) was in omega arith

  absent_there : IsOneThere parts state given key
  absent_there = record {
    next = with_memory (state.memory ++ dead_block object.kind ∷ []) state;
    given' = with_numbers there there given;
    is = state_more state object.kind is;
    more = record { kinds = object.kind ∷ []; is = refl };
    meets = dead_more (maps_of parts) state (dead_block object.kind) (with_numbers there there given) refl
        (absent_elsewhere state is there there (swap_twice number (length state.memory)) low high (maps_of parts) given meets) (λ at place found stands' owns. ap (λ (o : Object). o.kind) (owner_is at place found stands' owns));
    here = λ place other found. let e = only_last place other (ap (λ (ns : List ℕ). slice_get (map there ns) place) (sym same) ∙ found) in let c = count in omega arith;
    still = λ at before place other found. let e = kept (given.blocks at) place other (before place) found in let c = count in omega arith;
  }

one_there : (parts : Parts) (state : State) (given : Assignment) (key : ℕ) (object : Object) → IsState state → Meets (maps_of parts) state given → object_at parts.objects key ≡ Some object → IsOneThere parts state given key
one_there parts state given key object is meets stands = by_life object.live refl (meets.objects key object stands)
  where
    nothing : ((place number : ℕ) → slice_get (given.blocks key) place ≡ Some number → number < length state.memory) → IsOneThere parts state given key
    nothing below = record {
      next = state;
      given' = given;
      is = is;
      more = record { kinds = []; is = ap (λ (memory : List Block). with_memory memory state) (sym (append-nil state.memory)) };
      meets = meets;
      here = below;
      still = λ at was. was;
    }

    one_block : (blocks : List ℕ) (number : ℕ) → blocks ≡ number ∷ [] → number < length state.memory → (place other : ℕ) → slice_get blocks place ≡ Some other → other < length state.memory
    one_block blocks number same below place other found = go place (sym (ap (λ (ns : List ℕ). slice_get ns place) same) ∙ found)
      where
        go : (place : ℕ) → slice_get (number ∷ []) place ≡ Some other → other < length state.memory
        go zero found = subst (λ (n : ℕ). n < length state.memory) (same_Some _ _ found) below
        go (suc place) found = absurd (none-some other found)

    absent : (number : ℕ) → given.blocks key ≡ number ∷ [] → length state.memory ≤ number → IsOneThere parts state given key
    absent number same above = absent_there parts state given key object is meets stands number same above

    by_number : (number : ℕ) → given.blocks key ≡ number ∷ [] → (b : Bool) → nat_lt number (length state.memory) ≡ b → IsOneThere parts state given key
    by_number number same true below = nothing (one_block (given.blocks key) number same (ltb-true _ _ below))
    by_number number same false above = absent number same (ltb-false _ _ above)

    by_life : (b : Bool) → object.live ≡ b → HasBlocksAs b state.memory object given.word (λ value. own_offset (value_at parts.values value)) (given.blocks key) → IsOneThere parts state given key
    by_life true live has = nothing (live_within object.shape state.memory object given.word (λ value. own_offset (value_at parts.values value)) (given.blocks key) has)
    by_life false live (number, same, gone) = by_number number same (nat_lt number (length state.memory)) refl

-- all of them, one after the other
record IsAllThere (parts : Parts) (entries : List KeyedObject) (state : State) : Type 0 where
  next : State
  given' : Assignment
  is : IsState next
  more : IsMoreDead state next
  meets : Meets (maps_of parts) next given'
  there : (key place number : ℕ) → IsSome (object_at entries key) → IsSome (object_at parts.objects key) → slice_get (given'.blocks key) place ≡ Some number → number < length next.memory

more_again : (one two three : State) → IsMoreDead one two → IsMoreDead two three → IsMoreDead one three
more_again one two three first second = record {
  kinds = first.kinds ++ second.kinds;
  is = second.is ∙ ap (λ (s : State). with_memory (s.memory ++ map dead_block second.kinds) s) first.is
      ∙ ap (λ (memory : List Block). with_memory memory one) (append_assoc one.memory (map dead_block first.kinds) (map dead_block second.kinds) ∙ ap (λ (bs : List Block). one.memory ++ bs) (sym (mapped first.kinds second.kinds)));
}
  where
    mapped : (xs ys : List BlockKind) → map dead_block (xs ++ ys) ≡ map dead_block xs ++ map dead_block ys
    mapped [] ys = refl
    mapped (x ∷ xs) ys = ap (λ (bs : List Block). dead_block x ∷ bs) (mapped xs ys)

all_there : (parts : Parts) (entries : List KeyedObject) (state : State) (given : Assignment) → IsState state → Meets (maps_of parts) state given → IsAllThere parts entries state
all_there parts [] state given is meets = record {
  next = state;
  given' = given;
  is = is;
  more = record { kinds = []; is = ap (λ (memory : List Block). with_memory memory state) (sym (append-nil state.memory)) };
  meets = meets;
  there = λ key place number some stands found. absurd (false≢true some);
}
all_there parts (entry ∷ rest) state given is meets = go (all_there parts rest state given is meets)
  where
    go : IsAllThere parts rest state → IsAllThere parts (entry ∷ rest) state
    go later = by_found (object_at parts.objects entry.key) refl
      where
        old : (key : ℕ) → nat_eq entry.key key ≡ false → IsSome (object_at (entry ∷ rest) key) → IsSome (object_at rest key)
        old key miss some = subst (λ (b : Bool). IsSome (if b then Some entry.object else object_at rest key)) miss some

        by_found : (found : Option Object) → object_at parts.objects entry.key ≡ found → IsAllThere parts (entry ∷ rest) state
        by_found None none = record {
          next = later.next;
          given' = later.given';
          is = later.is;
          more = later.more;
          meets = later.meets;
          there = λ key place number some stands found. by_key key place number some stands found (nat_eq entry.key key) refl;
        }
          where
            by_key : (key place number : ℕ) → IsSome (object_at (entry ∷ rest) key) → IsSome (object_at parts.objects key) → slice_get (later.given'.blocks key) place ≡ Some number → (b : Bool) → nat_eq entry.key key ≡ b → number < length later.next.memory
            by_key key place number some stands found true is = absurd (false≢true (subst (λ (o : Option Object). IsSome o) (ap (object_at parts.objects) (sym (eqb-true _ _ is)) ∙ none) stands))
            by_key key place number some stands found false is = later.there key place number (old key is some) stands found
        by_found (Some object) stands =
            let one = one_there parts later.next later.given' entry.key object later.is later.meets stands in record {
              next = one.next;
              given' = one.given';
              is = one.is;
              more = more_again state later.next one.next later.more one.more;
              meets = one.meets;
              there = λ key place number some stands' found. by_key one key place number some stands' found (nat_eq entry.key key) refl;
            }
          where
            by_key : (one : IsOneThere parts later.next later.given' entry.key) (key place number : ℕ) → IsSome (object_at (entry ∷ rest) key) → IsSome (object_at parts.objects key) → slice_get (one.given'.blocks key) place ≡ Some number → (b : Bool) → nat_eq entry.key key ≡ b → number < length one.next.memory
            by_key one key place number some stands' found true is = one.here place number (ap (λ (k : ℕ). slice_get (one.given'.blocks k) place) (eqb-true _ _ is) ∙ found)
            by_key one key place number some stands' found false is = one.still key (λ place number found. later.there key place number (old key is some) stands' found) place number found

pub all_blocks_may_be_there : AllBlocksMayBeThere
all_blocks_may_be_there parts state given is meets =
    let all = all_there parts parts.objects state given is meets in record {
      next = all.next;
      given = all.given';
      is = all.is;
      more = all.more;
      meets = all.meets;
      there = λ key place number some found. all.there key place number some some found;
    }

-- so it is with each state that is stood for
pub StandsFor-all : (parts : Parts) (state : State) → IsState state → StandsFor parts state → IsWithAllBlocks parts state
StandsFor-all parts state is stands = all_blocks_may_be_there parts state stands.given is stands.meets
