-- The instructions that touch registers alone do in a state that is alike as well what they do in the one.
--
-- The word that a register gets names the same blocks, by their numbers there. So it is of constants, addresses of variables, what another register holds and words that are
-- moved by so many bytes. What is computed of the address number of a word is the same where the graph knows that the word is a number; of other words a loss is named.
use Rattle.std.proofs.Common.{◌≡◌, ℕ, Bool, true, List, [], ◌∷◌, Option, None, sym, ◌∙◌, ap, subst}
use Rattle.std.specs.Prelude.{ℤ, ◌*ℤ◌, option_map}
use Rattle.arithmetic.specs.declared.op.Op.{Op}
use Rattle.arithmetic.specs.Computing.{computed}
use Rattle.arithmetic.specs.Conversion.{converted}
use Rattle.arithmetic.specs.Value.{value}
use Rattle.bytes_core.specs.declared.word.Word.{Word}
use Rattle.bytes_core.specs.declared.word.Word.TheVariants.{Plain, To}
use Rattle.bytes_core.specs.Value.{address_number, moved}
use Rattle.graph.specs.declared.parts.KeyedValue.{KeyedValue}
use Rattle.graph.specs.declared.parts.Parts.{Parts}
use Rattle.graph.specs.declared.post.Post.{Post}
use Rattle.graph.specs.Alike.{renumbered_word}
use Rattle.graph.specs.AlikeMemories.{WordNamesAmong}
use Rattle.graph.specs.AlikeStates.{AreAlikeStates}
use Rattle.graph.specs.Meaning.{StandsFor}
use Rattle.graph.specs.State.{State, IsState}
use Rattle.graph.specs.Whole.{IsGraph}
use Rattle.graph.proofs.AlikeSteps.{alike_respected}
use Rattle.changes.specs.Parts.{emptied, put}
use Rattle.changes.specs.Posted.{IsPost}
use Rattle.reinterpret.specs.Sameness.{is_plain}
use Rattle.register_steps.specs.Lines.{shifted_by, computed_line, converted_line}
use Rattle.register_steps.specs.States.{Gains, GivesNumber, GivesAddress, GivesHeld, GivesShifted, GivesShiftedBy, GivesComputed, GivesConverted, GivesInput}
use Rattle.register_steps.specs.Steps.{entry_held, on_held}
use Rattle.flow.specs.declared.flow_graph.Flow.{Flow}
use Rattle.flow.specs.declared.instruction.Instr.{Instr}
use Rattle.flow.specs.declared.instruction.Instr.TheVariants.{Number, Address, Move, Shift, ShiftBy, Compute, Convert, Input}
use Rattle.edge_steps.specs.EdgeSteps.{EdgeSteps}
use Rattle.edge_steps.specs.Laws.{sizes_at}
use Rattle.transfer.specs.Fitting.{MayFollow}
use Rattle.transfer.specs.Posts.{edge_post}
use Rattle.alike_steps.specs.Laws.{GoesAlike}
use Rattle.alike_steps.proofs.Leaving.{left_with, left_leaves, held_there, put_leaves, going}
use Rattle.alike_steps.proofs.Operands.{address_alike, HoldsEntry, holds_entry, entry_plain, shifted_by_plain, operands_plain, converted_plain}

-- where the post of an edge names no loss, a state that is alike one that the graph stands for goes along it as that one does
abbrev pub GoesAlikeAlong : Instr → Type 0
GoesAlikeAlong instr =
    (flow : Flow) (point : ℕ) (parts : Parts) (post : Post) (there back : ℕ → ℕ) (paired : ℕ → Bool) (one other next : State) →
    IsGraph parts → MayFollow flow point instr parts → IsPost (edge_post flow instr parts) post → post.loss ≡ None →
    IsState one → IsState other → StandsFor parts one → AreAlikeStates there back paired one other →
    EdgeSteps flow (sizes_at flow point) instr one next → GoesAlike (EdgeSteps flow (sizes_at flow point) instr) other next

module _ (there back : ℕ → ℕ) (paired : ℕ → Bool) (one other next : State) (are : AreAlikeStates there back paired one other) where
  -- a register that gets a word gets it by the numbers of blocks there
  pub gains_alike : (gone : List ℕ) (into : ℕ) (Gives : State → Word → Type 0) (gains : Gains gone into Gives one next) → WordNamesAmong paired gains.word →
      Gives other (renumbered_word there gains.word) → GoesAlike (Gains gone into Gives) other next
  gains_alike gone into Gives gains names gives =
      going there back paired (Gains gone into Gives) other next (left_with other.memory held other)
      (record { word = renumbered_word there gains.word; gives = gives; leaves = left_leaves other.memory held other })
      (put_leaves there back paired gone into gains.word one other next are names gains.leaves)
    where
      held : ℕ → Option Word
      held = put into (renumbered_word there gains.word) (emptied gone other.registers)

  -- a number is the same there
  pub number_alike : (gone : List ℕ) (into number : ℕ) (Gives : State → Word → Type 0) (gains : Gains gone into Gives one next) → gains.word ≡ Plain number →
      (renumbered_word there gains.word ≡ Plain number → Gives other (renumbered_word there gains.word)) → GoesAlike (Gains gone into Gives) other next
  number_alike gone into number Gives gains is gives =
      gains_alike gone into Gives gains (subst (WordNamesAmong paired) (sym is) tt) (gives (ap (renumbered_word there) is))

-- Constants, addresses of variables, other registers and values from outside.

pub numbers_alike : (into number size : ℕ) → GoesAlikeAlong (Number into number size)
numbers_alike into number size flow point parts post there back paired one other next graph may is none state state' stands are gains =
    number_alike there back paired one other next are [] into number (GivesNumber number) gains gains.gives (λ same. same)

pub addresses_alike : (into variable : ℕ) → GoesAlikeAlong (Address into variable)
addresses_alike into variable flow point parts post there back paired one other next graph may is none state state' stands are gains =
    let gives = gains.gives in
    gains_alike there back paired one other next are [] into (GivesAddress variable) gains
    (subst (WordNamesAmong paired) (sym gives.is) (are.named.variables variable gives.block gives.stands))
    (record { block = there gives.block; stands = are.variables variable ∙ ap (option_map there) gives.stands; is = ap (renumbered_word there) gives.is })

pub moves_alike : (into from : ℕ) → GoesAlikeAlong (Move into from)
moves_alike into from flow point parts post there back paired one other next graph may is none state state' stands are gains =
    gains_alike there back paired one other next are [] into (GivesHeld from) gains
    (are.named.registers from gains.word gains.gives) (held_there there back paired one other from gains.word are gains.gives)

pub inputs_alike : (into size : ℕ) (signed truth : Bool) → GoesAlikeAlong (Input into size signed truth)
inputs_alike into size signed truth flow point parts post there back paired one other next graph may is none state state' stands are gains =
    let gives = gains.gives in
    number_alike there back paired one other next are [] into gives.number (GivesInput size truth) gains gives.is
    (λ same. record { number = gives.number; is = same; fits = gives.fits })

-- Words that are moved.

moved_names : (set : ℕ → Bool) (word : Word) (bytes : ℤ) → WordNamesAmong set word → WordNamesAmong set (moved word bytes)
moved_names set (Plain number) bytes names = tt
moved_names set (To block offset) bytes names = names

pub shifts_alike : (into at : ℕ) (by : ℤ) → GoesAlikeAlong (Shift into at by)
shifts_alike into at by flow point parts post there back paired one other next graph may is none state state' stands are gains =
    let gives = gains.gives in
    gains_alike there back paired one other next are (at ∷ []) into (GivesShifted at by) gains
    (subst (WordNamesAmong paired) (sym gives.is) (moved_names paired gives.address by (are.named.registers at gives.address gives.holds)))
    (record {
      address = renumbered_word there gives.address;
      holds = held_there there back paired one other at gives.address are gives.holds;
      is = ap (renumbered_word there) gives.is ∙ sym ((alike_respected.compares there back paired one.memory other.memory are.memories).moves gives.address by);
    })

-- the register by which a word is moved holds a number
pub shifts_by_alike : (into at by : ℕ) (scale : ℤ) → GoesAlikeAlong (ShiftBy into at by scale)
shifts_by_alike into at by scale flow point parts post there back paired one other next graph may is none state state' stands are gains =
    gains_alike there back paired one other next are (at ∷ by ∷ []) into (GivesShiftedBy at by scale) gains
    (subst (WordNamesAmong paired) (sym gives.is) (moved_names paired gives.address (bytes_of (address_number one.memory gives.number)) (are.named.registers at gives.address gives.holds)))
    (record {
      address = renumbered_word there gives.address;
      number = renumbered_word there gives.number;
      holds = held_there there back paired one other at gives.address are gives.holds;
      holds_number = held_there there back paired one other by gives.number are gives.holds_number;
      is = ap (renumbered_word there) gives.is
          ∙ sym ((alike_respected.compares there back paired one.memory other.memory are.memories).moves gives.address (bytes_of (address_number one.memory gives.number)))
          ∙ ap (λ (n : ℕ). moved (renumbered_word there gives.address) (bytes_of n)) (sym (address_alike there one.memory other.memory gives.number plain.0 plain.1));
    })
  where
    bytes_of : ℕ → ℤ
    bytes_of number = value 8 true number *ℤ scale

    gives : GivesShiftedBy at by scale one gains.word
    gives = gains.gives

    address : HoldsEntry parts stands.given at gives.address
    address = holds_entry parts one stands.given at gives.address graph stands.meets gives.holds

    number : HoldsEntry parts stands.given by gives.number
    number = holds_entry parts one stands.given by gives.number graph stands.meets gives.holds_number

    lossless : (shifted_by address.entry.value number.entry.value scale).loss ≡ None
    lossless =
        sym (ap (λ (o : Option KeyedValue). (on_held o (λ address. on_held (entry_held parts by) (λ number. shifted_by address.value number.value scale))).loss) address.held
        ∙ ap (λ (o : Option KeyedValue). (on_held o (λ number. shifted_by address.entry.value number.value scale)).loss) number.held)
        ∙ sym is.loss ∙ none

    plain : (found : ℕ) × (gives.number ≡ Plain found)
    plain = entry_plain parts one stands.given by gives.number number stands.meets (shifted_by_plain address.entry.value number.entry.value scale lossless)

-- Operations, of which both operands are numbers, and conversions of numbers.

pub computes_alike : (into : ℕ) (op : Op) (left right size : ℕ) (signed : Bool) → GoesAlikeAlong (Compute into op left right size signed)
computes_alike into op left right size signed flow point parts post there back paired one other next graph may is none state state' stands are gains =
    number_alike there back paired one other next are (left ∷ right ∷ []) into gives.number (GivesComputed op left right size signed) gains gives.is
    (λ same. record {
      one = renumbered_word there gives.one;
      other = renumbered_word there gives.other;
      holds = held_there there back paired one other left gives.one are gives.holds;
      holds_other = held_there there back paired one other right gives.other are gives.holds_other;
      number = gives.number;
      computes =
          ap (λ (n : ℕ). computed op size signed n (address_number other.memory (renumbered_word there gives.other))) (address_alike there one.memory other.memory gives.one first.0 first.1)
          ∙ ap (λ (n : ℕ). computed op size signed (address_number one.memory gives.one) n) (address_alike there one.memory other.memory gives.other second.0 second.1)
          ∙ gives.computes;
      is = same;
    })
  where
    gives : GivesComputed op left right size signed one gains.word
    gives = gains.gives

    left_held : HoldsEntry parts stands.given left gives.one
    left_held = holds_entry parts one stands.given left gives.one graph stands.meets gives.holds

    right_held : HoldsEntry parts stands.given right gives.other
    right_held = holds_entry parts one stands.given right gives.other graph stands.meets gives.holds_other

    lossless : (computed_line op size signed left_held.entry.value right_held.entry.value).loss ≡ None
    lossless =
        sym (ap (λ (o : Option KeyedValue). (on_held o (λ one. on_held (entry_held parts right) (λ other. computed_line op size signed one.value other.value))).loss) left_held.held
        ∙ ap (λ (o : Option KeyedValue). (on_held o (λ other. computed_line op size signed left_held.entry.value other.value)).loss) right_held.held)
        ∙ sym is.loss ∙ none

    plain : (is_plain left_held.entry.value ≡ true) × (is_plain right_held.entry.value ≡ true)
    plain = operands_plain op size signed left_held.entry.value right_held.entry.value lossless

    first : (number : ℕ) × (gives.one ≡ Plain number)
    first = entry_plain parts one stands.given left gives.one left_held stands.meets plain.0

    second : (number : ℕ) × (gives.other ≡ Plain number)
    second = entry_plain parts one stands.given right gives.other right_held stands.meets plain.1

pub converts_alike : (into from size : ℕ) (signed : Bool) → GoesAlikeAlong (Convert into from size signed)
converts_alike into from size signed flow point parts post there back paired one other next graph may is none state state' stands are gains =
    number_alike there back paired one other next are (from ∷ []) into (converted was signed size (address_number one.memory gives.value)) (GivesConverted from was size signed) gains gives.is
    (λ same. record {
      value = renumbered_word there gives.value;
      holds = held_there there back paired one other from gives.value are gives.holds;
      is = same ∙ ap (λ (n : ℕ). Plain (converted was signed size n)) (sym (address_alike there one.memory other.memory gives.value plain.0 plain.1));
    })
  where
    was : ℕ
    was = sizes_at flow point from

    gives : GivesConverted from was size signed one gains.word
    gives = gains.gives

    held : HoldsEntry parts stands.given from gives.value
    held = holds_entry parts one stands.given from gives.value graph stands.meets gives.holds

    lossless : (converted_line held.entry.key held.entry.value size signed).loss ≡ None
    lossless = sym (ap (λ (o : Option KeyedValue). (on_held o (λ entry. converted_line entry.key entry.value size signed)).loss) held.held) ∙ sym is.loss ∙ none

    plain : (number : ℕ) × (gives.value ≡ Plain number)
    plain = entry_plain parts one stands.given from gives.value held stands.meets (converted_plain held.entry.key held.entry.value size signed lossless)
