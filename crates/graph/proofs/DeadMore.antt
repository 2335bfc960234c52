-- One dead block more, which may be that of a dead object.
use Rattle.std.proofs.Common.{◌≡◌, ◌≢◌, ℕ, zero, suc, ◌<◌, Bool, true, false, List, [], ◌∷◌, ◌++◌, length, nat_eq, Option, Some, refl, sym, ◌∙◌, ap, subst, eqb-true, eq-eqb, arith, length-append}
use Rattle.std.specs.Prelude.{slice_get, ℤ, pos}
use Rattle.std.proofs.lemmas.Bool.{false≢true}
use Rattle.std.proofs.lemmas.Option.{same_Some, none-some, slice_get_within}
use Rattle.bytes_core.specs.declared.block.Block.{Block}
use Rattle.bytes_core.specs.declared.word.Word.{Word}
use Rattle.bytes_core.specs.declared.word.Word.TheVariants.{Plain, To}
use Rattle.graph.specs.declared.object.Links.{Links}
use Rattle.graph.specs.declared.object.Object.{Object}
use Rattle.graph.specs.declared.object.Shape.{Shape}
use Rattle.graph.specs.declared.object.Shape.TheVariants.{Region as RegionShape, Segment}
use Rattle.graph.specs.declared.template.Node.{Node}
use Rattle.graph.specs.declared.value.Value.{Value}
use Rattle.graph.specs.declared.value.Value.TheVariants.{Const, Number, Any, Address}
use Rattle.graph.specs.DeadBlocks.{with_memory}
use Rattle.graph.specs.State.{State, IsWordBelow}
use Rattle.graph.specs.Meaning.{IsGone, AreNodes, HasShape, HasBlocksAs, ends_of, HasWord, own_offset, Maps, Assignment, IsOwned, Meets}
use Rattle.graph.proofs.Frames.{HasBlocks-frame}

pub appended_get : (memory : List Block) (block : Block) (number : ℕ) → number ≢ length memory → slice_get (memory ++ block ∷ []) number ≡ slice_get memory number
appended_get [] block zero differ = absurd (differ refl)
appended_get [] block (suc number) differ = refl
appended_get (first ∷ rest) block zero differ = refl
appended_get (first ∷ rest) block (suc number) differ = appended_get rest block number (λ same. differ (ap suc same))

pub last_get : (memory : List Block) (block : Block) → slice_get (memory ++ block ∷ []) (length memory) ≡ Some block
last_get [] block = refl
last_get (first ∷ rest) block = last_get rest block

pub word_above : (count : ℕ) (word : Word) → IsWordBelow count word → IsWordBelow (suc count) word
word_above count (Plain number) below = record { small = below.small; named = tt }
word_above count (To block offset) below = record { small = tt; named = let n : block < count = below.named in omega arith }

-- the blocks of a live object are there

only_place : (one place number : ℕ) → slice_get (one ∷ []) place ≡ Some number → one ≡ number
only_place one zero number found = same_Some _ _ found
only_place one (suc place) number found = absurd (none-some number found)

nodes_within : (memory : List Block) (object : Object) (links : Links) (node : Node) (word : ℕ → Word) (own : ℕ → Option ℤ) (after before : Word) (blocks : List ℕ) →
    AreNodes memory object links node word own after before blocks → (place number : ℕ) → slice_get blocks place ≡ Some number → number < length memory
nodes_within memory object links node word own after before [] are place number found = absurd (none-some number found)
nodes_within memory object links node word own after before (first ∷ rest) (is, others) zero number found =
    subst (λ (n : ℕ). n < length memory) (same_Some _ _ found) (slice_get_within memory first is.block is.there)
nodes_within memory object links node word own after before (first ∷ rest) (is, others) (suc place) number found =
    nodes_within memory object links node word own after (To first (pos links.back)) rest others place number found

pub live_within : (shape : Shape) (memory : List Block) (object : Object) (word : ℕ → Word) (own : ℕ → Option ℤ) (blocks : List ℕ) → HasShape shape memory object word own blocks →
    (place number : ℕ) → slice_get blocks place ≡ Some number → number < length memory
live_within RegionShape memory object word own blocks (one, is, at) place number found =
    subst (λ (n : ℕ). n < length memory) (only_place one place number (sym (ap (λ (ns : List ℕ). slice_get ns place) is) ∙ found)) (slice_get_within memory one at.block at.there)
live_within (Segment twofold head next prev back least next_value prev_value node) memory object word own blocks (enough, are) place number found =
    nodes_within memory object (record { twofold = twofold; head = head; next = next; prev = prev; back = back; least = least; next_value = next_value; prev_value = prev_value }) node word own _ _ blocks are place number found

pub dead_more : (maps : Maps) (state : State) (block : Block) (given : Assignment) → block.live ≡ false → Meets maps state given →
    ((key place : ℕ) (object : Object) → maps.objects key ≡ Some object → slice_get (given.blocks key) place ≡ Some (length state.memory) → block.kind ≡ object.kind) →
    Meets maps (with_memory (state.memory ++ block ∷ []) state) given
dead_more maps state block given dead meets kinds = record {
  values = λ at value stands. by_value at value (meets.values at value stands);
  objects = λ at object stands. by_life at object stands object.live (meets.objects at object stands);
  owners = meets.owners;
  places = meets.places;
  used = λ number found stands live. used number found stands live (nat_eq number (length state.memory)) refl;
  variables = meets.variables;
  registers = meets.registers;
  ports = meets.ports;
  rooted = meets.rooted;
  unequal = meets.unequal;
}
  where
    count : length (state.memory ++ block ∷ []) ≡ suc (length state.memory)
    count = length-append state.memory (block ∷ []) ∙ omega arith

    by_value : (at : ℕ) (value : Value) → HasWord (length state.memory) given.blocks (ends_of maps.objects given.word) value (given.word at) → HasWord (length (state.memory ++ block ∷ [])) given.blocks (ends_of maps.objects given.word) value (given.word at)
    by_value at (Const number size) has = has
    by_value at (Number size) has = has
    by_value at Any has = subst (λ (n : ℕ). IsWordBelow n (given.word at)) (sym count) (word_above (length state.memory) (given.word at) has)
    by_value at (Address object offset target) has = has

    by_number : (at : ℕ) (object : Object) → maps.objects at ≡ Some object → (number : ℕ) → given.blocks at ≡ number ∷ [] → IsGone object.kind (slice_get state.memory number) → (b : Bool) → nat_eq number (length state.memory) ≡ b →
        IsGone object.kind (slice_get (state.memory ++ block ∷ []) number)
    by_number at object stands number is gone true same =
        subst (λ (o : Option Block). IsGone object.kind o) (sym (ap (slice_get (state.memory ++ block ∷ [])) (eqb-true _ _ same) ∙ last_get state.memory block))
        (dead, kinds at 0 object stands (ap (λ (ns : List ℕ). slice_get ns 0) is ∙ ap Some (eqb-true _ _ same)))
    by_number at object stands number is gone false differ =
        subst (λ (o : Option Block). IsGone object.kind o) (sym (appended_get state.memory block number (λ same. false≢true (sym differ ∙ eq-eqb _ _ same)))) gone

    by_life : (at : ℕ) (object : Object) → maps.objects at ≡ Some object → (b : Bool) → HasBlocksAs b state.memory object given.word (λ value. own_offset (maps.values value)) (given.blocks at) → HasBlocksAs b (state.memory ++ block ∷ []) object given.word (λ value. own_offset (maps.values value)) (given.blocks at)
    by_life at object stands true has =
        HasBlocks-frame state.memory (state.memory ++ block ∷ []) object given.word (λ value. own_offset (maps.values value)) true (given.blocks at)
        (λ place number found. appended_get state.memory block number
        (λ same. let w = live_within object.shape state.memory object given.word (λ value. own_offset (maps.values value)) (given.blocks at) has place number found in absurd (omega arith))) has
    by_life at object stands false (number, is, gone) = (number, is, by_number at object stands number is gone (nat_eq number (length state.memory)) refl)

    used : (number : ℕ) (found : Block) → slice_get (state.memory ++ block ∷ []) number ≡ Some found → found.live ≡ true → (b : Bool) → nat_eq number (length state.memory) ≡ b → IsOwned maps given number
    used number found stands live true is =
        let same = same_Some _ _ (sym (ap (slice_get (state.memory ++ block ∷ [])) (eqb-true _ _ is) ∙ last_get state.memory block) ∙ stands) in
        absurd (false≢true (sym dead ∙ ap (λ (b : Block). b.live) same ∙ live))
    used number found stands live false is = meets.used number found (sym (appended_get state.memory block number (λ same. false≢true (sym is ∙ eq-eqb _ _ same))) ∙ stands) live
