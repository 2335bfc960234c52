-- A fill goes in alike states, where its post names no loss, and so does a copy, whatever its post names.
use Rattle.std.proofs.Common.{◌≡◌, ℕ, zero, suc, ◌%◌, Bool, true, false, List, [], ◌∷◌, length, None, Some, Option, refl, sym, ◌∙◌, ap, subst}
use Rattle.std.proofs.lemmas.Bool.{false≢true}
use Rattle.std.proofs.lemmas.Option.{none-some}
use Rattle.bytes_core.specs.declared.block.Block.{Block}
use Rattle.bytes_core.specs.declared.word.Word.{Word}
use Rattle.bytes_core.specs.declared.word.Word.TheVariants.{Plain}
use Rattle.bytes_core.specs.Access.{access_fault, range_fault, filled}
use Rattle.bytes_core.specs.Copying.{copied, first_fault}
use Rattle.bytes_core.specs.Value.{address_number}
use Rattle.graph.specs.declared.parts.Parts.{Parts}
use Rattle.graph.specs.declared.post.Post.{Post}
use Rattle.graph.specs.declared.value.Value.{Value}
use Rattle.graph.specs.declared.value.Value.TheVariants.{Const, Number, Any, Address}
use Rattle.graph.specs.Alike.{renumbered_word}
use Rattle.graph.specs.AlikeStates.{AreAlikeStates}
use Rattle.graph.specs.Meaning.{Ends, HasWord, ends_of, maps_of, StandsFor}
use Rattle.graph.specs.State.{State}
use Rattle.graph.specs.Whole.{IsGraph}
use Rattle.graph.proofs.AlikeSteps.{alike_respected}
use Rattle.changes.specs.Parts.{emptied}
use Rattle.changes.specs.Posted.{Posted, IsPost, on_reach}
use Rattle.changes.specs.Ranges.{cuts_none}
use Rattle.changes.specs.Reaching.{value_reach, reach_of, is_address_held}
use Rattle.changes.proofs.Held.{IsHeldAs, held_as, IsHeldValue, held_value, IsAddress, address_at}
use Rattle.changes.proofs.Meeting.{Led, Anywhere, Within, led}
use Rattle.changes.proofs.Reached.{on_room}
use Rattle.flow.specs.declared.flow_graph.Flow.{Flow}
use Rattle.flow.specs.declared.instruction.Instr.TheVariants.{Fill}
use Rattle.range_steps.specs.Copies.{Copies}
use Rattle.range_steps.specs.Filling.{Fills, fills_zeros, loss_filled, bytes_filled, fill_through, fill_post}
use Rattle.range_steps.proofs.FillSound.{fill_held}
use Rattle.transfer.specs.Fitting.{MayFollow}
use Rattle.transfer.specs.Posts.{edge_post}
use Rattle.transfer.proofs.Asked.{fill_ready}
use Rattle.alike_steps.specs.Laws.{GoesAlike}
use Rattle.alike_steps.proofs.Leaving.{left_with, left_leaves, held_there, emptied_leaves}

-- Fills.

-- where both fill with the same
filled_alike : (at from length : ℕ) (there back : ℕ → ℕ) (paired : ℕ → Bool) (one other next : State) → AreAlikeStates there back paired one other → (fills : Fills at from length one next) →
    filled other.memory (renumbered_word there fills.to) (address_number other.memory (renumbered_word there fills.word) % 256) length
    ≡ filled other.memory (renumbered_word there fills.to) (address_number one.memory fills.word % 256) length →
    GoesAlike (Fills at from length) other next
filled_alike at from length there back paired one other next are fills same = record {
  next' = next';
  steps = record {
    to = to;
    word = word;
    address = held_there there back paired one other at fills.to are fills.address;
    value = held_there there back paired one other from fills.word are fills.value;
    room = (alike_respected.faults there back paired one.memory other.memory are.memories).ranges fills.to length ∙ fills.room;
    leaves = left_leaves (filled other.memory to (address_number other.memory word % 256) length) (emptied (at ∷ from ∷ []) other.registers) other;
  };
  there = there;
  back = back;
  paired = paired;
  alike = subst (λ (memory : List Block). AreAlikeStates there back paired next (left_with memory (emptied (at ∷ from ∷ []) other.registers) other)) (sym same)
      (emptied_leaves there back paired (filled one.memory fills.to (address_number one.memory fills.word % 256) length) (filled other.memory to (address_number one.memory fills.word % 256) length) (at ∷ from ∷ []) one other next are
      ((alike_respected.changes there back paired one.memory other.memory are.memories).fills fills.to (address_number one.memory fills.word % 256) length) fills.leaves);
}
  where
    to : Word
    to = renumbered_word there fills.to

    word : Word
    word = renumbered_word there fills.word

    next' : State
    next' = left_with (filled other.memory (renumbered_word there fills.to) (address_number other.memory (renumbered_word there fills.word) % 256) length) (emptied (at ∷ from ∷ []) other.registers) other

-- a constant is a number
zeros_plain : (count : ℕ) (blocks : ℕ → List ℕ) (ends : ℕ → Ends) (value : Value) (word : Word) → HasWord count blocks ends value word → fills_zeros value ≡ true → (number : ℕ) × (word ≡ Plain number)
zeros_plain count blocks ends (Const number size) word has zeros = (number, has)
zeros_plain count blocks ends (Number size) word has zeros = absurd (false≢true zeros)
zeros_plain count blocks ends Any word has zeros = absurd (false≢true zeros)
zeros_plain count blocks ends (Address object offset target) word has zeros = absurd (false≢true zeros)

no_loss : (uncut zeros : Bool) → loss_filled uncut zeros ≡ None → zeros ≡ true
no_loss false zeros none = absurd (none-some 3 (sym none))
no_loss true false none = absurd (none-some 6 (sym none))
no_loss true true none = refl

-- where the post of a fill of some bytes names no loss it fills zeros
fills_plain : (parts : Parts) → IsGraph parts → (at from more : ℕ) → is_address_held parts at ≡ true → (state next : State) → StandsFor parts state → (fills : Fills at from (suc more) state next) →
    (fill_post parts at from (suc more)).loss ≡ None → (number : ℕ) × (fills.word ≡ Plain number)
fills_plain parts graph at from more address state next stands fills none = by_led (led parts state stands.given graph.well_formed stands.meets target.key (suc more) target_value.value target_value.is target_value.names
    (ap (λ (w : Word). access_fault state.memory w (suc more)) target.word_is ∙ fills.room))
  where
    target : IsHeldAs parts stands.given at fills.to
    target = held_as parts state stands.given at fills.to stands.meets fills.address

    source : IsHeldAs parts stands.given from fills.word
    source = held_as parts state stands.given from fills.word stands.meets fills.value

    target_value : IsAddress parts target.key
    target_value = address_at parts at target.key target.held address

    source_value : IsHeldValue parts source.key
    source_value = held_value parts from source.key graph.well_formed source.held

    post : fill_post parts at from (suc more) ≡ on_reach parts (reach_of parts target.key (suc more)) (bytes_filled parts (at ∷ from ∷ []) (suc more) (fills_zeros source_value.value))
    post = fill_held parts at from (suc more) target.key source.key target.held source.held ∙ ap (fill_through parts (at ∷ from ∷ []) (suc more) target.key) source_value.is

    has : HasWord (length state.memory) stands.given.blocks (ends_of (maps_of parts).objects stands.given.word) source_value.value fills.word
    has = subst (λ (w : Word). HasWord (length state.memory) stands.given.blocks (ends_of (maps_of parts).objects stands.given.word) source_value.value w) source.word_is (stands.meets.values source.key source_value.value source_value.is)

    by_led : Led parts state stands.given target.key (suc more) → (number : ℕ) × (fills.word ≡ Plain number)
    by_led (Anywhere any) = absurd (none-some 4 (sym none ∙ ap (λ (p : Posted). p.loss) post
        ∙ ap (λ (o : Option Value). (on_reach parts (value_reach parts target.key o (suc more)) (bytes_filled parts (at ∷ from ∷ []) (suc more) (fills_zeros source_value.value))).loss) any))
    by_led (Within met) =
        zeros_plain (length state.memory) stands.given.blocks (ends_of (maps_of parts).objects stands.given.word) source_value.value fills.word has
        (no_loss (cuts_none met.from (suc more) met.object.edges) (fills_zeros source_value.value)
        (ap (λ (p : Posted). p.loss) (sym (post ∙ on_room parts (reach_of parts target.key (suc more)) met.key met.from met.object (bytes_filled parts (at ∷ from ∷ []) (suc more) (fills_zeros source_value.value)) met.reach met.stands)) ∙ none))

pub fill_alike : (flow : Flow) (point at from length : ℕ) (parts : Parts) (post : Post) (there back : ℕ → ℕ) (paired : ℕ → Bool) (one other next : State) →
    IsGraph parts → MayFollow flow point (Fill at from length) parts → IsPost (edge_post flow (Fill at from length) parts) post → post.loss ≡ None →
    StandsFor parts one → AreAlikeStates there back paired one other → Fills at from length one next → GoesAlike (Fills at from length) other next
fill_alike flow point at from zero parts post there back paired one other next graph may is none stands are fills = filled_alike at from zero there back paired one other next are fills refl
fill_alike flow point at from (suc more) parts post there back paired one other next graph may is none stands are fills =
    filled_alike at from (suc more) there back paired one other next are fills
    (ap (λ (n : ℕ). filled other.memory (renumbered_word there fills.to) (n % 256) (suc more))
    (ap (λ (w : Word). address_number other.memory (renumbered_word there w)) plain.1 ∙ sym (ap (address_number one.memory) plain.1)))
  where
    plain : (number : ℕ) × (fills.word ≡ Plain number)
    plain = fills_plain parts graph at from more (fill_ready flow point (Fill at from (suc more)) parts may graph at from (suc more) refl) one next stands fills (sym is.loss ∙ none)

-- Copies.

source_room : (one other : Option ℕ) → first_fault one other ≡ None → one ≡ None
source_room None other none = refl
source_room (Some kind) other none = absurd (none-some kind (sym none))

pub copy_alike : (to from length : ℕ) (disjoint : Bool) (there back : ℕ → ℕ) (paired : ℕ → Bool) (one other next : State) → AreAlikeStates there back paired one other →
    Copies to from length disjoint one next → GoesAlike (Copies to from length disjoint) other next
copy_alike to from length disjoint there back paired one other next are copies = record {
  next' = left_with (copied other.memory target source length) (emptied (to ∷ from ∷ []) other.registers) other;
  steps = record {
    target = target;
    source = source;
    to_holds = held_there there back paired one other to copies.target are copies.to_holds;
    from_holds = held_there there back paired one other from copies.source are copies.from_holds;
    room = (alike_respected.faults there back paired one.memory other.memory are.memories).copies copies.target copies.source length disjoint ∙ copies.room;
    leaves = left_leaves (copied other.memory target source length) (emptied (to ∷ from ∷ []) other.registers) other;
  };
  there = there;
  back = back;
  paired = paired;
  alike = emptied_leaves there back paired (copied one.memory copies.target copies.source length) (copied other.memory target source length) (to ∷ from ∷ []) one other next are
      ((alike_respected.changes there back paired one.memory other.memory are.memories).copies copies.target copies.source length
      (source_room (range_fault one.memory copies.source length) _ copies.room)) copies.leaves;
}
  where
    target : Word
    target = renumbered_word there copies.target

    source : Word
    source = renumbered_word there copies.source
