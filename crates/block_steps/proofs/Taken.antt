-- An object less, whose block is dead then: the graph without the object stands for that memory, whatever leads to the block.
use Rattle.std.proofs.Common.{◌≡◌, ◌≢◌, ℕ, zero, suc, true, false, List, [], ◌∷◌, map, length, set, Option, Some, ◌⊎◌, inl, inr, sym, ◌∙◌, ap, subst}
use Rattle.std.specs.Prelude.{IsSome, option_map, slice_get}
use Rattle.std.proofs.lemmas.Bool.{false≢true, cases_eq}
use Rattle.std.proofs.lemmas.List.{length-set}
use Rattle.std.proofs.lemmas.Option.{same_Some, none-some}
use Rattle.bytes_core.specs.declared.block.Block.{Block}
use Rattle.bytes_core.proofs.Written.{slice_get-set_same, slice_get-set_other}
use Rattle.graph.specs.declared.object.Object.{Object}
use Rattle.graph.specs.declared.value.Value.{Value}
use Rattle.graph.specs.declared.value.Value.TheVariants.{Const, Number, Any, Address}
use Rattle.graph.specs.declared.parts.Pair.{Pair}
use Rattle.graph.specs.Closed.{IsClosed}
use Rattle.graph.specs.DeadBlocks.{with_memory}
use Rattle.graph.specs.State.{State, IsWordBelow}
use Rattle.graph.specs.Meaning.{Ends, ends_of, HasWord, address_word, own_offset, IsRooted, Maps, Assignment, IsOwned, Meets}
use Rattle.graph.proofs.Found.{IsSome-holds}
use Rattle.graph.proofs.Frames.{HasBlocks-frame}
use Rattle.changes.proofs.Change.{HasBlocks-own}
use Rattle.changes.proofs.More.{HasObjectMore}

pub object_taken : (key : ℕ) (object : Object) (one other : Maps) (state : State) (number : ℕ) (block dead : Block) (given : Assignment) → HasObjectMore key object one other → IsClosed one → Meets other state given →
    given.blocks key ≡ number ∷ [] → slice_get state.memory number ≡ Some block → dead.live ≡ false → Meets one (with_memory (set state.memory number dead) state) given
object_taken key object one other state number block dead given more closed meets own there gone = record {
  values = λ at value stands. by_value at value stands (meets.values at value (more.values at ∙ stands));
  objects = λ at found stands.
      let differ : at ≢ key = λ same. none-some found (sym more.new ∙ ap one.objects (sym same) ∙ stands) in
      let now : other.objects at ≡ Some found = more.objects at differ ∙ stands in
      HasBlocks-frame state.memory (set state.memory number dead) found given.word (λ value. own_offset (one.values value)) found.live (given.blocks at)
      (λ place its stands'. slice_get-set_other state.memory number its dead
      (λ same. differ (sym (meets.owners at place its (IsSome-holds _ _ now) stands') ∙ ap given.owner same ∙ owner_is)))
      (HasBlocks-own state.memory found given.word (λ value. own_offset (other.values value)) (λ value. own_offset (one.values value)) (given.blocks at) (λ value. ap own_offset (sym (more.values value)))
      (meets.objects at found now));
  owners = λ at place its some stands. meets.owners at place its (still at some) stands;
  places = λ at place its some stands. meets.places at place its (still at some) stands;
  used = λ its found stands live. used its found stands live (cases_eq its number);
  variables = λ variable. meets.variables variable ∙ ap (option_map given.blocks) (more.variables variable);
  registers = λ register. meets.registers register ∙ ap (option_map given.word) (more.registers register);
  ports = meets.ports ∙ ap (map given.word) more.ports;
  rooted = λ place port stands.
      subst (λ (o : Option Value). IsRooted state.roots o (given.word port)) (more.values port) (meets.rooted place port (ap (λ (ports : List ℕ). slice_get ports place) more.ports ∙ stands));
  unequal = λ place pair stands. meets.unequal place pair (ap (λ (pairs : List Pair). slice_get pairs place) more.unequal ∙ stands);
}
  where
    first_own : slice_get (given.blocks key) 0 ≡ Some number
    first_own = ap (λ (ns : List ℕ). slice_get ns 0) own

    owner_is : given.owner number ≡ key
    owner_is = meets.owners key 0 number (IsSome-holds _ _ more.here) first_own

    apart : (at : ℕ) → IsSome (one.objects at) → at ≢ key
    apart at some same = false≢true (subst (λ (o : Option Object). IsSome o) (ap one.objects same ∙ more.new) some)

    still : (at : ℕ) → IsSome (one.objects at) → IsSome (other.objects at)
    still at some = subst (λ (o : Option Object). IsSome o) (sym (more.objects at (apart at some))) some

    count : length (set state.memory number dead) ≡ length state.memory
    count = length-set state.memory number dead

    by_value : (at : ℕ) (value : Value) → one.values at ≡ Some value → HasWord (length state.memory) given.blocks (ends_of other.objects given.word) value (given.word at) →
        HasWord (length (set state.memory number dead)) given.blocks (ends_of one.objects given.word) value (given.word at)
    by_value at (Const constant size) is has = has
    by_value at (Number size) is has = has
    by_value at Any is has = subst (λ (n : ℕ). IsWordBelow n (given.word at)) (sym count) has
    by_value at (Address object' offset target) is has =
        has ∙ ap (λ (ends : Ends). address_word target (given.blocks object') ends offset) (ap (λ (o : Option Object). ends_of (λ k. o) given.word object') (more.objects object' (apart object' (closed.addresses at object' offset target is))))

    used : (its : ℕ) (found : Block) → slice_get (set state.memory number dead) its ≡ Some found → found.live ≡ true → (its ≡ number) ⊎ (its ≡ number → ⊥) → IsOwned one given its
    used its found stands live (inl same) =
        let is : dead ≡ found = same_Some _ _ (sym (slice_get-set_same state.memory number block dead there) ∙ ap (slice_get (set state.memory number dead)) (sym same) ∙ stands) in
        absurd (false≢true (sym gone ∙ ap (λ (b : Block). b.live) is ∙ live))
    used its found stands live (inr differ) =
        let owned = meets.used its found (sym (slice_get-set_other state.memory number its dead differ) ∙ stands) live in
        let not_own : given.owner its ≢ key = λ same.
        only (given.place its) its (sym (ap (λ (k : ℕ). slice_get (given.blocks k) (given.place its)) same ∙ ap (λ (ns : List ℕ). slice_get ns (given.place its)) own) ∙ owned.block) differ in
        record { object = subst (λ (o : Option Object). IsSome o) (more.objects (given.owner its) not_own) owned.object; block = owned.block }
      where
        only : (place its : ℕ) → slice_get (number ∷ []) place ≡ Some its → its ≢ number → ⊥
        only zero its stands differ = differ (sym (same_Some _ _ stands))
        only (suc place) its stands differ = none-some its stands
