-- A block is made or freed in a state that is alike as well, and leaves alike states; so does an allocation that gives null.
use Rattle.std.proofs.Common.{◌≡◌, ℕ, Bool, ◌||◌, List, [], ◌∷◌, map, length, nat_eq, pos, Option, None, Some, refl, sym, ◌∙◌, ap, subst, eq-eqb}
use Rattle.std.specs.Prelude.{option_map, IsTrue}
use Rattle.std.specs.List.{All}
use Rattle.std.proofs.lemmas.Bool.{or_left, or_right}
use Rattle.std.proofs.lemmas.List.Elements.{All-head, All-tail, All-weaker}
use Rattle.bytes_core.specs.declared.block.Block.{Block}
use Rattle.bytes_core.specs.declared.block.BlockKind.{BlockKind}
use Rattle.bytes_core.specs.declared.block.BlockKind.TheVariants.{Heap}
use Rattle.bytes_core.specs.declared.word.Word.{Word}
use Rattle.bytes_core.specs.declared.word.Word.TheVariants.{Plain, To}
use Rattle.bytes_core.specs.Placement.{new_block, is_new_block, placed}
use Rattle.bytes_core.specs.Release.{freed}
use Rattle.graph.specs.Alike.{renumbered_word}
use Rattle.graph.specs.AlikeMemories.{WordNamesAmong}
use Rattle.graph.specs.AlikeStates.{AreAlikeStates}
use Rattle.graph.specs.AlikeSteps.{ArePlacedAlike}
use Rattle.graph.specs.State.{State}
use Rattle.graph.proofs.AlikeBlocks.{word_agrees}
use Rattle.graph.proofs.AlikeSteps.{alike_respected}
use Rattle.changes.specs.Following.{Leaves}
use Rattle.changes.specs.Parts.{emptied, put}
use Rattle.heap_steps.specs.Steps.{Refuses}
use Rattle.block_steps.specs.Allocating.{Allocates}
use Rattle.block_steps.specs.Releasing.{Releases}
use Rattle.alike_steps.specs.Laws.{GoesAlike}
use Rattle.alike_steps.proofs.Leaving.{left_with, left_leaves, AreHeldAlike, registers_alike, held_there, put_alike, leaves_alike, emptied_leaves, going}

-- maps that agree on what is there
all_agree : {X : Type 0} (P : X → Type 0) (f g : X → X) → ((x : X) → P x → f x ≡ g x) → (xs : List X) → All P xs → map f xs ≡ map g xs
all_agree P f g each [] all = refl
all_agree {X} P f g each (first ∷ rest) all =
    ap (λ (x : X). x ∷ map f rest) (each first (All-head P first rest all)) ∙ ap (λ (xs : List X). g first ∷ xs) (all_agree P f g each rest (All-tail P first rest all))

option_agree : {X : Type 0} (P : X → Type 0) (f g : X → X) → ((x : X) → P x → f x ≡ g x) → (found : Option X) → ((x : X) → found ≡ Some x → P x) → option_map f found ≡ option_map g found
option_agree P f g each None holds = refl
option_agree P f g each (Some x) holds = ap Some (each x (holds x refl))

-- A block more.

abbrev with_placed : State → Block → State
with_placed state block = record state { memory = placed state.memory block }

module _ (there back : ℕ → ℕ) (paired : ℕ → Bool) (one other : State) (are : AreAlikeStates there back paired one other) (kind : BlockKind) (base : ℕ) (contents : List ℕ) where
  both : ArePlacedAlike there back paired one.memory other.memory (new_block kind base contents)
  both = (alike_respected.changes there back paired one.memory other.memory are.memories).places kind base contents

  abbrev more : ℕ → Bool
  more number = paired number || nat_eq number (length one.memory)

  number_more : (number : ℕ) → IsTrue (paired number) → IsTrue (more number)
  number_more number is = or_left (paired number) (nat_eq number (length one.memory)) is

  word_more : (word : Word) → WordNamesAmong paired word → WordNamesAmong more word
  word_more (Plain number) names = tt
  word_more (To number offset) names = number_more number names

  number_same : (number : ℕ) → IsTrue (paired number) → there number ≡ both.there' number
  number_same number is = sym (both.kept number is)

  word_same : (word : Word) → WordNamesAmong paired word → renumbered_word there word ≡ renumbered_word both.there' word
  word_same word names = sym (word_agrees paired there both.there' both.kept word names)

  new_named : IsTrue (more (length one.memory))
  new_named = or_right (paired (length one.memory)) (nat_eq (length one.memory) (length one.memory)) (eq-eqb (length one.memory) (length one.memory) refl)

  -- all that was named before is named by the same numbers
  placed_alike : AreAlikeStates both.there' both.back' more (with_placed one (new_block kind base contents)) (with_placed other (new_block kind base contents))
  placed_alike = record {
    memories = both.alike;
    named = record {
      variables = λ variable number stands. number_more number (are.named.variables variable number stands);
      registers = λ register word stands. word_more word (are.named.registers register word stands);
      ports = All-weaker (WordNamesAmong paired) (WordNamesAmong more) word_more one.ports are.named.ports;
      roots = All-weaker (λ root. IsTrue (paired root)) (λ root. IsTrue (more root)) number_more one.roots are.named.roots;
    };
    variables = λ variable.
        are.variables variable ∙ option_agree (λ number. IsTrue (paired number)) there both.there' number_same (one.variables variable) (are.named.variables variable);
    registers = λ register.
        are.registers register ∙ option_agree (WordNamesAmong paired) (renumbered_word there) (renumbered_word both.there') word_same (one.registers register) (are.named.registers register);
    ports = are.ports ∙ all_agree (WordNamesAmong paired) (renumbered_word there) (renumbered_word both.there') word_same one.ports are.named.ports;
    roots = are.roots ∙ all_agree (λ root. IsTrue (paired root)) there both.there' number_same one.roots are.named.roots;
  }

-- An allocation.

pub allocate_alike : (size : ℕ) (zeroed : Bool) (into : ℕ) (there back : ℕ → ℕ) (paired : ℕ → Bool) (one other next : State) → AreAlikeStates there back paired one other →
    Allocates size zeroed into one next → GoesAlike (Allocates size zeroed into) other next
allocate_alike size zeroed into there back paired one other next are allocates =
    going there' back' more' (Allocates size zeroed into) other next
    (left_with (placed other.memory block) (put into (To (length other.memory) (pos 0)) other.registers) other)
    (record {
      block = record { base = base; contents = contents; new = room ∙ allocates.block.new; zeros = allocates.block.zeros; is = refl };
      variables_are = λ variable. refl;
      registers_are = λ register. refl;
      ports = refl;
      roots = refl;
    })
    (leaves_alike there' back' more' (placed one.memory block) (placed other.memory block)
    (put into (To (length one.memory) (pos 0)) one.registers) (put into (To (length other.memory) (pos 0)) other.registers)
    (with_placed one block) (with_placed other block) next placed' placed'.memories held leaves)
  where
    base : ℕ
    base = allocates.block.base

    contents : List ℕ
    contents = allocates.block.contents

    block : Block
    block = new_block Heap base contents

    pair : ArePlacedAlike there back paired one.memory other.memory (new_block Heap base contents)
    pair = both there back paired one other are Heap base contents

    there' : ℕ → ℕ
    there' = pair.there'

    back' : ℕ → ℕ
    back' = pair.back'

    more' : ℕ → Bool
    more' = more there back paired one other are Heap base contents

    placed' : AreAlikeStates there' back' more' (with_placed one block) (with_placed other block)
    placed' = placed_alike there back paired one other are Heap base contents

    room : is_new_block other.memory Heap size base contents ≡ is_new_block one.memory Heap size base contents
    room = (alike_respected.faults there back paired one.memory other.memory are.memories).room Heap size base contents

    held : AreHeldAlike there' back' more' (put into (To (length one.memory) (pos 0)) one.registers) (put into (To (length other.memory) (pos 0)) other.registers)
    held = subst (λ (number : ℕ). AreHeldAlike there' back' more' (put into (To (length one.memory) (pos 0)) one.registers) (put into (To number (pos 0)) other.registers)) pair.new
        (put_alike there' back' more' into (To (length one.memory) (pos 0)) one.registers other.registers (new_named there back paired one other are Heap base contents)
        (registers_alike there' back' more' (with_placed one block) (with_placed other block) placed'))

    leaves : Leaves (placed one.memory block) (put into (To (length one.memory) (pos 0)) one.registers) (with_placed one block) next
    leaves = record { memory = allocates.block.is; registers = allocates.registers_are; variables = allocates.variables_are; ports = allocates.ports; roots = allocates.roots }

-- One that gives null.

pub refuse_alike : (into : ℕ) (there back : ℕ → ℕ) (paired : ℕ → Bool) (one other next : State) → AreAlikeStates there back paired one other → Refuses into one next → GoesAlike (Refuses into) other next
refuse_alike into there back paired one other next are refuses =
    going there back paired (Refuses into) other next (left_with other.memory (put into (Plain 0) other.registers) other)
    (record { leaves = left_leaves other.memory (put into (Plain 0) other.registers) other })
    (leaves_alike there back paired one.memory other.memory (put into (Plain 0) one.registers) (put into (Plain 0) other.registers) one other next are are.memories
    (put_alike there back paired into (Plain 0) one.registers other.registers tt (registers_alike there back paired one other are)) refuses.leaves)

-- The release of a block.

pub release_alike : (at : ℕ) (there back : ℕ → ℕ) (paired : ℕ → Bool) (one other next : State) → AreAlikeStates there back paired one other → Releases at one next → GoesAlike (Releases at) other next
release_alike at there back paired one other next are releases =
    going there back paired (Releases at) other next (left_with (freed other.memory (renumbered_word there to)) (emptied (at ∷ []) other.registers) other)
    (record {
      to = renumbered_word there to;
      address = held_there there back paired one other at to are releases.address;
      allowed = (alike_respected.faults there back paired one.memory other.memory are.memories).frees to (are.named.registers at to releases.address) ∙ releases.allowed;
      leaves = left_leaves (freed other.memory (renumbered_word there to)) (emptied (at ∷ []) other.registers) other;
    })
    (emptied_leaves there back paired (freed one.memory to) (freed other.memory (renumbered_word there to)) (at ∷ []) one other next are
    ((alike_respected.changes there back paired one.memory other.memory are.memories).frees to) releases.leaves)
  where
    to : Word
    to = releases.to
