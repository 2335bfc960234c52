-- One object more, a region or a dead one, with a block behind the last one: there, and back where no word may lead to that block.
use Rattle.std.proofs.Common.{◌≡◌, ◌≢◌, ℕ, zero, suc, Bool, true, false, List, [], ◌∷◌, ◌++◌, map, length, nat_eq, Option, None, Some, refl, sym, ◌∙◌, ap, subst, eqb-true, eq-eqb, arith, length-append}
use Rattle.std.specs.Prelude.{IsSome, option_map, slice_get, if◌then◌else◌}
use Rattle.std.proofs.lemmas.Bool.{false≢true}
use Rattle.std.proofs.lemmas.Option.{same_Some, none-some, slice_get_within}
use Rattle.bytes_core.specs.declared.block.Block.{Block}
use Rattle.graph.specs.declared.object.Object.{Object}
use Rattle.graph.specs.declared.value.Value.{Value}
use Rattle.graph.specs.declared.value.Value.TheVariants.{Const, Number, Any, Address}
use Rattle.graph.specs.declared.parts.Pair.{Pair}
use Rattle.graph.specs.Closed.{IsClosed}
use Rattle.graph.specs.DeadBlocks.{with_memory}
use Rattle.graph.specs.State.{State, IsWordBelow}
use Rattle.graph.specs.Meaning.{HasBlocks, Ends, ends_of, HasWord, address_word, own_offset, IsRooted, Maps, Assignment, IsOwned, Meets}
use Rattle.graph.proofs.DeadMore.{appended_get, word_above}
use Rattle.graph.proofs.Frames.{HasBlocks-frame}
use Rattle.graph.proofs.Found.{IsSome-holds}
use Rattle.changes.proofs.Change.{HasBlocks-own}
use Rattle.changes.proofs.Objects.{eqb-miss}

pub record HasObjectMore (key : ℕ) (object : Object) (one other : Maps) : Type 0 where
  pub new : one.objects key ≡ None
  pub here : other.objects key ≡ Some object
  pub objects : (at : ℕ) → at ≢ key → other.objects at ≡ one.objects at
  pub values : (at : ℕ) → other.values at ≡ one.values at
  pub variables : (at : ℕ) → other.variables at ≡ one.variables at
  pub registers : (at : ℕ) → other.registers at ≡ one.registers at
  pub ports : other.ports ≡ one.ports
  pub unequal : other.unequal ≡ one.unequal

abbrev pub with_new : ℕ → ℕ → Assignment → Assignment
with_new key number given = record {
  word = given.word;
  blocks = λ at. if nat_eq at key then number ∷ [] else given.blocks at;
  owner = λ at. if nat_eq at number then key else given.owner at;
  place = λ at. if nat_eq at number then 0 else given.place at;
}

-- there, where no object has the number of the next block
pub object_more : (key : ℕ) (object : Object) (one other : Maps) (state : State) (block : Block) (given : Assignment) → HasObjectMore key object one other → IsClosed one → Meets one state given →
    ((at place : ℕ) → slice_get (given.blocks at) place ≢ Some (length state.memory)) →
    HasBlocks (state.memory ++ block ∷ []) object given.word (λ value. own_offset (other.values value)) (length state.memory ∷ []) →
    Meets other (with_memory (state.memory ++ block ∷ []) state) (with_new key (length state.memory) given)
object_more key object one other state block given more closed meets free has = record {
  values = λ at value stands. by_value at value (sym (more.values at) ∙ stands) (meets.values at value (sym (more.values at) ∙ stands));
  objects = λ at found stands. by_key at found stands (nat_eq at key) refl;
  owners = λ at place number some stands. owner_of at place number (nat_eq at key) refl some stands;
  places = λ at place number some stands. place_of at place number (nat_eq at key) refl some stands;
  used = λ number found stands live. used number found stands live (nat_eq number (length state.memory)) refl;
  variables = λ variable. meets.variables variable ∙ stored variable (one.variables variable) refl ∙ ap (option_map (λ at. if nat_eq at key then length state.memory ∷ [] else given.blocks at)) (sym (more.variables variable));
  registers = λ register. meets.registers register ∙ ap (option_map given.word) (sym (more.registers register));
  ports = meets.ports ∙ ap (map given.word) (sym more.ports);
  rooted = λ place port stands.
      subst (λ (o : Option Value). IsRooted state.roots o (given.word port)) (sym (more.values port)) (meets.rooted place port (ap (λ (ports : List ℕ). slice_get ports place) (sym more.ports) ∙ stands));
  unequal = λ place pair stands. meets.unequal place pair (ap (λ (pairs : List Pair). slice_get pairs place) (sym more.unequal) ∙ stands);
}
  where
    apart : (at : ℕ) → IsSome (one.objects at) → at ≢ key
    apart at some same = false≢true (subst (λ (o : Option Object). IsSome o) (ap one.objects same ∙ more.new) some)

    same_blocks : (at : ℕ) → at ≢ key → (if nat_eq at key then length state.memory ∷ [] else given.blocks at) ≡ given.blocks at
    same_blocks at differ = ap (λ (b : Bool). if b then length state.memory ∷ [] else given.blocks at) (eqb-miss at key differ)

    same_ends : (at : ℕ) → at ≢ key → ends_of other.objects given.word at ≡ ends_of one.objects given.word at
    same_ends at differ = ap (λ (o : Option Object). ends_of (λ k. o) given.word at) (more.objects at differ)

    count : length (state.memory ++ block ∷ []) ≡ suc (length state.memory)
    count = length-append state.memory (block ∷ []) ∙ omega arith

    by_value : (at : ℕ) (value : Value) → one.values at ≡ Some value → HasWord (length state.memory) given.blocks (ends_of one.objects given.word) value (given.word at) →
        HasWord (length (state.memory ++ block ∷ [])) (λ at. if nat_eq at key then length state.memory ∷ [] else given.blocks at) (ends_of other.objects given.word) value (given.word at)
    by_value at (Const number size) is has = has
    by_value at (Number size) is has = has
    by_value at Any is has = subst (λ (n : ℕ). IsWordBelow n (given.word at)) (sym count) (word_above (length state.memory) (given.word at) has)
    by_value at (Address object' offset target) is has =
        let differ = apart object' (closed.addresses at object' offset target is) in
        has ∙ ap (λ (blocks : List ℕ). address_word target blocks (ends_of one.objects given.word object') offset) (sym (same_blocks object' differ))
        ∙ ap (λ (ends : Ends). address_word target (if nat_eq object' key then length state.memory ∷ [] else given.blocks object') ends offset) (sym (same_ends object' differ))

    was : (at : ℕ) (found : Object) → other.objects at ≡ Some found → at ≢ key → one.objects at ≡ Some found
    was at found stands differ = sym (more.objects at differ) ∙ stands

    by_key : (at : ℕ) (found : Object) → other.objects at ≡ Some found → (b : Bool) → nat_eq at key ≡ b →
        HasBlocks (state.memory ++ block ∷ []) found given.word (λ value. own_offset (other.values value)) (if b then length state.memory ∷ [] else given.blocks at)
    by_key at found stands true is =
        subst (λ (o : Object). HasBlocks (state.memory ++ block ∷ []) o given.word (λ value. own_offset (other.values value)) (length state.memory ∷ []))
        (same_Some _ _ (sym more.here ∙ ap other.objects (sym (eqb-true _ _ is)) ∙ stands)) has
    by_key at found stands false is =
        HasBlocks-frame state.memory (state.memory ++ block ∷ []) found given.word (λ value. own_offset (other.values value)) found.live (given.blocks at)
        (λ place number stands'. appended_get state.memory block number (λ same. free at place (stands' ∙ ap Some same)))
        (HasBlocks-own state.memory found given.word (λ value. own_offset (one.values value)) (λ value. own_offset (other.values value)) (given.blocks at) (λ value. ap own_offset (more.values value))
        (meets.objects at found (was at found stands (λ same. false≢true (sym is ∙ eq-eqb at key same)))))

    was_there : (at : ℕ) → IsSome (other.objects at) → at ≢ key → IsSome (one.objects at)
    was_there at some differ = subst (λ (o : Option Object). IsSome o) (more.objects at differ) some

    one_block : (place number : ℕ) → slice_get (length state.memory ∷ []) place ≡ Some number → (number ≡ length state.memory) × (0 ≡ place)
    one_block zero number stands = (sym (same_Some _ _ stands), refl)
    one_block (suc place) number stands = absurd (none-some number stands)

    old_number : (at place number : ℕ) → slice_get (given.blocks at) place ≡ Some number → nat_eq number (length state.memory) ≡ false
    old_number at place number stands = eqb-miss number (length state.memory) (λ same. free at place (stands ∙ ap Some same))

    owner_of : (at place number : ℕ) (b : Bool) → nat_eq at key ≡ b → IsSome (other.objects at) → slice_get (if b then length state.memory ∷ [] else given.blocks at) place ≡ Some number →
        (if nat_eq number (length state.memory) then key else given.owner number) ≡ at
    owner_of at place number true is some stands =
        ap (λ (b : Bool). if b then key else given.owner number) (eq-eqb _ _ (one_block place number stands).0) ∙ sym (eqb-true _ _ is)
    owner_of at place number false is some stands =
        ap (λ (b : Bool). if b then key else given.owner number) (old_number at place number stands)
        ∙ meets.owners at place number (was_there at some (λ same. false≢true (sym is ∙ eq-eqb at key same))) stands

    place_of : (at place number : ℕ) (b : Bool) → nat_eq at key ≡ b → IsSome (other.objects at) → slice_get (if b then length state.memory ∷ [] else given.blocks at) place ≡ Some number →
        (if nat_eq number (length state.memory) then 0 else given.place number) ≡ place
    place_of at place number true is some stands =
        ap (λ (b : Bool). if b then 0 else given.place number) (eq-eqb _ _ (one_block place number stands).0) ∙ (one_block place number stands).1
    place_of at place number false is some stands =
        ap (λ (b : Bool). if b then 0 else given.place number) (old_number at place number stands)
        ∙ meets.places at place number (was_there at some (λ same. false≢true (sym is ∙ eq-eqb at key same))) stands

    used : (number : ℕ) (found : Block) → slice_get (state.memory ++ block ∷ []) number ≡ Some found → found.live ≡ true → (b : Bool) → nat_eq number (length state.memory) ≡ b →
        IsOwned other (with_new key (length state.memory) given) number
    used number found stands live true is =
        let owner : (if nat_eq number (length state.memory) then key else given.owner number) ≡ key = ap (λ (b : Bool). if b then key else given.owner number) is in
        let place : (if nat_eq number (length state.memory) then 0 else given.place number) ≡ 0 = ap (λ (b : Bool). if b then 0 else given.place number) is in record {
          object = subst (λ (k : ℕ). IsSome (other.objects k)) (sym owner) (subst (λ (o : Option Object). IsSome o) (sym more.here) refl);
          block = ap (λ (k : ℕ). slice_get (if nat_eq k key then length state.memory ∷ [] else given.blocks k) (if nat_eq number (length state.memory) then 0 else given.place number)) owner
              ∙ ap (λ (b : Bool). slice_get (if b then length state.memory ∷ [] else given.blocks key) (if nat_eq number (length state.memory) then 0 else given.place number)) (eq-eqb key key refl)
              ∙ ap (slice_get (length state.memory ∷ [])) place ∙ ap Some (sym (eqb-true _ _ is));
        }
    used number found stands live false is =
        let before = sym (appended_get state.memory block number (λ same. false≢true (sym is ∙ eq-eqb _ _ same))) ∙ stands in
        let owned = meets.used number found before live in
        let owner : (if nat_eq number (length state.memory) then key else given.owner number) ≡ given.owner number = ap (λ (b : Bool). if b then key else given.owner number) is in
        let place : (if nat_eq number (length state.memory) then 0 else given.place number) ≡ given.place number = ap (λ (b : Bool). if b then 0 else given.place number) is in record {
          object = subst (λ (k : ℕ). IsSome (other.objects k)) (sym owner) (subst (λ (o : Option Object). IsSome o) (sym (more.objects (given.owner number) (apart (given.owner number) owned.object))) owned.object);
          block = ap (λ (k : ℕ). slice_get (if nat_eq k key then length state.memory ∷ [] else given.blocks k) (if nat_eq number (length state.memory) then 0 else given.place number)) owner
              ∙ ap (λ (blocks : List ℕ). slice_get blocks (if nat_eq number (length state.memory) then 0 else given.place number)) (same_blocks (given.owner number) (apart (given.owner number) owned.object))
              ∙ ap (slice_get (given.blocks (given.owner number))) place ∙ owned.block;
        }

    stored : (variable : ℕ) (found : Option ℕ) → one.variables variable ≡ found → option_map given.blocks found ≡ option_map (λ at. if nat_eq at key then length state.memory ∷ [] else given.blocks at) found
    stored variable None is = refl
    stored variable (Some at) is = ap Some (sym (same_blocks at (apart at (closed.variables variable at is))))

-- back, where the object's block is the last one and no word may lead to it
pub object_less : (key : ℕ) (object : Object) (one other : Maps) (state : State) (block : Block) (given : Assignment) → HasObjectMore key object one other → IsClosed one →
    Meets other (with_memory (state.memory ++ block ∷ []) state) given →
    given.blocks key ≡ length state.memory ∷ [] → ((at : ℕ) → one.values at ≡ Some Any → IsWordBelow (length state.memory) (given.word at)) → Meets one state given
object_less key object one other state block given more closed meets last any = record {
  values = λ at value stands. by_value at value stands (meets.values at value (more.values at ∙ stands));
  objects = λ at found stands.
      let differ : at ≢ key = λ same. none-some found (sym more.new ∙ ap one.objects (sym same) ∙ stands) in
      let now : other.objects at ≡ Some found = more.objects at differ ∙ stands in
      HasBlocks-frame (state.memory ++ block ∷ []) state.memory found given.word (λ value. own_offset (one.values value)) found.live (given.blocks at)
      (λ place number stands'. sym (appended_get state.memory block number (λ same. differ (sym (meets.owners at place number (IsSome-holds _ _ now) stands') ∙ ap given.owner same ∙ owner_last))))
      (HasBlocks-own (state.memory ++ block ∷ []) found given.word (λ value. own_offset (other.values value)) (λ value. own_offset (one.values value)) (given.blocks at) (λ value. ap own_offset (sym (more.values value)))
      (meets.objects at found now));
  owners = λ at place number some stands. meets.owners at place number (still at some) stands;
  places = λ at place number some stands. meets.places at place number (still at some) stands;
  used = λ number found stands live. used number found stands live;
  variables = λ variable. meets.variables variable ∙ ap (option_map given.blocks) (more.variables variable);
  registers = λ register. meets.registers register ∙ ap (option_map given.word) (more.registers register);
  ports = meets.ports ∙ ap (map given.word) more.ports;
  rooted = λ place port stands.
      subst (λ (o : Option Value). IsRooted state.roots o (given.word port)) (more.values port) (meets.rooted place port (ap (λ (ports : List ℕ). slice_get ports place) more.ports ∙ stands));
  unequal = λ place pair stands. meets.unequal place pair (ap (λ (pairs : List Pair). slice_get pairs place) more.unequal ∙ stands);
}
  where
    first_last : slice_get (given.blocks key) 0 ≡ Some (length state.memory)
    first_last = ap (λ (ns : List ℕ). slice_get ns 0) last

    owner_last : given.owner (length state.memory) ≡ key
    owner_last = meets.owners key 0 (length state.memory) (IsSome-holds _ _ more.here) first_last

    apart : (at : ℕ) → IsSome (one.objects at) → at ≢ key
    apart at some same = false≢true (subst (λ (o : Option Object). IsSome o) (ap one.objects same ∙ more.new) some)

    still : (at : ℕ) → IsSome (one.objects at) → IsSome (other.objects at)
    still at some = subst (λ (o : Option Object). IsSome o) (sym (more.objects at (apart at some))) some

    by_value : (at : ℕ) (value : Value) → one.values at ≡ Some value → HasWord (length (state.memory ++ block ∷ [])) given.blocks (ends_of other.objects given.word) value (given.word at) →
        HasWord (length state.memory) given.blocks (ends_of one.objects given.word) value (given.word at)
    by_value at (Const number size) is has = has
    by_value at (Number size) is has = has
    by_value at Any is has = any at is
    by_value at (Address object' offset target) is has =
        has ∙ ap (λ (ends : Ends). address_word target (given.blocks object') ends offset) (ap (λ (o : Option Object). ends_of (λ k. o) given.word object') (more.objects object' (apart object' (closed.addresses at object' offset target is))))

    used : (number : ℕ) (found : Block) → slice_get state.memory number ≡ Some found → found.live ≡ true → IsOwned one given number
    used number found stands live =
        let within = slice_get_within state.memory number found stands in
        let differ : number ≢ length state.memory = λ same. absurd (omega arith) in
        let owned = meets.used number found (appended_get state.memory block number differ ∙ stands) live in
        let not_new : given.owner number ≢ key = λ same.
        only (given.place number) number (sym (ap (λ (k : ℕ). slice_get (given.blocks k) (given.place number)) same ∙ ap (λ (ns : List ℕ). slice_get ns (given.place number)) last) ∙ owned.block) differ in
        record { object = subst (λ (o : Option Object). IsSome o) (more.objects (given.owner number) not_new) owned.object; block = owned.block }
      where
        only : (place number : ℕ) → slice_get (length state.memory ∷ []) place ≡ Some number → number ≢ length state.memory → ⊥
        only zero number stands differ = differ (sym (same_Some _ _ stands))
        only (suc place) number stands differ = none-some number stands
