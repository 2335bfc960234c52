-- A variable begins to stand in a state that is alike as well, and leaves alike states.
use Rattle.std.proofs.Common.{◌≡◌, ℕ, suc, ◌+◌, ◌<◌, Bool, true, false, ◌&&◌, ◌||◌, List, [], ◌∷◌, map, length, nat_eq, nat_lt, Option, None, Some, refl, sym, ◌∙◌, ap, subst, eq-eqb, ltb-true, length-append, arith}
use Rattle.std.specs.Prelude.{option_map, IsTrue, if◌then◌else◌}
use Rattle.std.specs.List.{All, list_all}
use Rattle.std.proofs.lemmas.Bool.{or_left, or_right}
use Rattle.std.proofs.lemmas.List.Elements.{All-nil, All-cons, All-head, All-tail, All-append, All-weaker}
use Rattle.std.proofs.lemmas.Option.{same_Some}
use Rattle.bytes_core.specs.declared.byte.Byte.TheVariants.{Num}
use Rattle.bytes_core.specs.declared.block.Block.{Block}
use Rattle.bytes_core.specs.declared.block.BlockKind.TheVariants.{Local}
use Rattle.bytes_core.specs.declared.word.Word.{Word}
use Rattle.bytes_core.specs.declared.word.Word.TheVariants.{Plain, To}
use Rattle.bytes_core.specs.Placement.{new_block, is_new_block, can_be_placed, placed}
use Rattle.bytes_core.specs.Valid.{NamesBelow, IsMemory}
use Rattle.bytes_core.proofs.Kept.{IsMemory-placed}
use Rattle.graph.specs.Alike.{renumbered_word}
use Rattle.graph.specs.AlikeMemories.{WordNamesAmong, AreAlike}
use Rattle.graph.specs.AlikeStates.{AreAlikeStates}
use Rattle.graph.specs.AlikeSteps.{ArePlacedAlike}
use Rattle.graph.specs.State.{State, IsState, IsByte, IsWordBelow, IsLedTo}
use Rattle.graph.proofs.AlikeBlocks.{word_agrees}
use Rattle.graph.proofs.AlikeSteps.{alike_respected}
use Rattle.graph.proofs.DeadMore.{word_above}
use Rattle.graph.proofs.Tests.{and_left, and_right}
use Rattle.changes.specs.Following.{Leaves}
use Rattle.changes.specs.Parts.{put}
use Rattle.block_steps.specs.Entering.{EntersOne, Enters}

-- a state behind in which the variable stands as well, and which is alike
pub record IsEnteredAlike (variable size : ℕ) (other next : State) : Type 0 where
  pub next' : State
  pub steps : EntersOne variable size other next'
  pub there : ℕ → ℕ
  pub back : ℕ → ℕ
  pub paired : ℕ → Bool
  pub alike : AreAlikeStates there back paired next next'

all_agree : {X : Type 0} (P : X → Type 0) (f g : X → X) → ((x : X) → P x → f x ≡ g x) → (xs : List X) → All P xs → map f xs ≡ map g xs
all_agree P f g each [] all = refl
all_agree {X} P f g each (first ∷ rest) all =
    ap (λ (x : X). x ∷ map f rest) (each first (All-head P first rest all)) ∙ ap (λ (xs : List X). g first ∷ xs) (all_agree P f g each rest (All-tail P first rest all))

pub one_alike : (variable size : ℕ) (there back : ℕ → ℕ) (paired : ℕ → Bool) (one other next : State) → AreAlikeStates there back paired one other → EntersOne variable size one next → IsEnteredAlike variable size other next
one_alike variable size there back paired one other next are enters = record {
  next' = next';
  steps = record {
    block = record {
      base = base;
      contents = contents;
      new = room ∙ enters.block.new;
      zeros = enters.block.zeros;
      is = refl;
    };
    variables_are = λ at. refl;
    registers_are = λ register. refl;
    ports = refl;
    roots = refl;
  };
  there = both.there';
  back = both.back';
  paired = more;
  alike = record {
    memories = subst (λ (memory : List Block). AreAlike both.there' both.back' more memory (placed other.memory block)) (sym enters.block.is) both.alike;
    named = record {
      variables = λ at number stands. named_variable at number (nat_eq at variable) (sym (enters.variables_are at) ∙ stands);
      registers = λ register word stands. word_more word (are.named.registers register word (sym (enters.registers_are register) ∙ stands));
      ports = subst (All (WordNamesAmong more)) (sym enters.ports) (All-weaker (WordNamesAmong paired) (WordNamesAmong more) word_more one.ports are.named.ports);
      roots = subst (All (λ root. IsTrue (more root))) (sym enters.roots) (All-weaker (λ root. IsTrue (paired root)) (λ root. IsTrue (more root)) number_more one.roots are.named.roots);
    };
    variables = λ at. same_variable at (nat_eq at variable) ∙ ap (option_map both.there') (sym (enters.variables_are at));
    registers = λ register.
        are.registers register ∙ word_same (one.registers register) (λ word stands. are.named.registers register word stands) ∙ ap (option_map (renumbered_word both.there')) (sym (enters.registers_are register));
    ports = are.ports
        ∙ all_agree (WordNamesAmong paired) (renumbered_word there) (renumbered_word both.there') (λ word names. sym (word_agrees paired there both.there' both.kept word names)) one.ports are.named.ports
        ∙ ap (map (renumbered_word both.there')) (sym enters.ports);
    roots = are.roots ∙ all_agree (λ root. IsTrue (paired root)) there both.there' (λ root names. sym (both.kept root names)) one.roots are.named.roots ∙ ap (map both.there') (sym enters.roots);
  };
}
  where
    base : ℕ
    base = enters.block.base

    contents : List ℕ
    contents = enters.block.contents

    block : Block
    block = new_block Local enters.block.base enters.block.contents

    next' : State
    next' = record { memory = placed other.memory (new_block Local enters.block.base enters.block.contents); variables = put variable (length other.memory) other.variables; registers = other.registers; ports = other.ports; roots = other.roots }

    both : ArePlacedAlike there back paired one.memory other.memory (new_block Local enters.block.base enters.block.contents)
    both = (alike_respected.changes there back paired one.memory other.memory are.memories).places Local enters.block.base enters.block.contents

    room : is_new_block other.memory Local size enters.block.base enters.block.contents ≡ is_new_block one.memory Local size enters.block.base enters.block.contents
    room = (alike_respected.faults there back paired one.memory other.memory are.memories).room Local size enters.block.base enters.block.contents

    more : ℕ → Bool
    more number = paired number || nat_eq number (length one.memory)

    number_more : (number : ℕ) → IsTrue (paired number) → IsTrue (more number)
    number_more number is = or_left (paired number) (nat_eq number (length one.memory)) is

    word_more : (word : Word) → WordNamesAmong paired word → WordNamesAmong more word
    word_more (Plain number) names = tt
    word_more (To number offset) names = number_more number names

    named_variable : (at number : ℕ) (b : Bool) → (if b then Some (length one.memory) else one.variables at) ≡ Some number → more number ≡ true
    named_variable at number true stands = or_right (paired number) (nat_eq number (length one.memory)) (eq-eqb _ _ (sym (same_Some _ _ stands)))
    named_variable at number false stands = number_more number (are.named.variables at number stands)

    number_same : (found : Option ℕ) → ((number : ℕ) → found ≡ Some number → IsTrue (paired number)) → option_map there found ≡ option_map both.there' found
    number_same None names = refl
    number_same (Some number) names = ap Some (sym (both.kept number (names number refl)))

    word_same : (found : Option Word) → ((word : Word) → found ≡ Some word → WordNamesAmong paired word) → option_map (renumbered_word there) found ≡ option_map (renumbered_word both.there') found
    word_same None names = refl
    word_same (Some word) names = ap Some (sym (word_agrees paired there both.there' both.kept word (names word refl)))

    same_variable : (at : ℕ) (b : Bool) → (if b then Some (length other.memory) else other.variables at) ≡ option_map both.there' (if b then Some (length one.memory) else one.variables at)
    same_variable at true = ap Some (sym both.new)
    same_variable at false = are.variables at ∙ number_same (one.variables at) (λ number stands. are.named.variables at number stands)

-- So it is of several, one after the other.

pub record AreEnteredAlike (which sizes : List ℕ) (other next : State) : Type 0 where
  pub next' : State
  pub steps : Enters which sizes other next'
  pub there : ℕ → ℕ
  pub back : ℕ → ℕ
  pub paired : ℕ → Bool
  pub alike : AreAlikeStates there back paired next next'

-- a state that is the same
alike_left : (there back : ℕ → ℕ) (paired : ℕ → Bool) (one other next : State) → AreAlikeStates there back paired one other → Leaves one.memory one.registers one next → AreAlikeStates there back paired next other
alike_left there back paired one other next are leaves = record {
  memories = subst (λ (memory : List Block). AreAlike there back paired memory other.memory) (sym leaves.memory) are.memories;
  named = record {
    variables = λ at number stands. are.named.variables at number (sym (leaves.variables at) ∙ stands);
    registers = λ register word stands. are.named.registers register word (sym (leaves.registers register) ∙ stands);
    ports = subst (All (WordNamesAmong paired)) (sym leaves.ports) are.named.ports;
    roots = subst (All (λ root. IsTrue (paired root))) (sym leaves.roots) are.named.roots;
  };
  variables = λ at. are.variables at ∙ ap (option_map there) (sym (leaves.variables at));
  registers = λ register. are.registers register ∙ ap (option_map (renumbered_word there)) (sym (leaves.registers register));
  ports = are.ports ∙ ap (map (renumbered_word there)) (sym leaves.ports);
  roots = are.roots ∙ ap (map there) (sym leaves.roots);
}

pub all_alike : (which sizes : List ℕ) (there back : ℕ → ℕ) (paired : ℕ → Bool) (one other next : State) → AreAlikeStates there back paired one other → Enters which sizes one next → AreEnteredAlike which sizes other next
all_alike [] sizes there back paired one other next are leaves = record {
  next' = other;
  steps = record { memory = refl; registers = λ register. refl; variables = λ at. refl; ports = refl; roots = refl };
  there = there;
  back = back;
  paired = paired;
  alike = alike_left there back paired one other next are leaves;
}
all_alike (variable ∷ rest) [] there back paired one other next are none = absurd none
all_alike (variable ∷ rest) (size ∷ sizes) there back paired one other next are (middle, first, later) =
    let entered = one_alike variable size there back paired one other middle are first in
    let others = all_alike rest sizes entered.there entered.back entered.paired middle entered.next' next entered.alike later in
    record { next' = others.next'; steps = (entered.next', entered.steps, others.steps); there = others.there; back = others.back; paired = others.paired; alike = others.alike }

-- The state behind is one.

numbers_name : (count : ℕ) (contents : List ℕ) → All (NamesBelow count) (map Num contents)
numbers_name count [] = All-nil (NamesBelow count)
numbers_name count (first ∷ rest) = All-cons (NamesBelow count) (Num first) (map Num rest) tt (numbers_name count rest)

numbers_small : (contents : List ℕ) → list_all (λ byte. nat_lt byte 256) contents ≡ true → All IsByte (map Num contents)
numbers_small [] small = All-nil IsByte
numbers_small (first ∷ rest) small =
    All-cons IsByte (Num first) (map Num rest) (ltb-true first 256 (and_left (nat_lt first 256) (list_all (λ byte. nat_lt byte 256) rest) small))
    (numbers_small rest (and_right (nat_lt first 256) (list_all (λ byte. nat_lt byte 256) rest) small))

pub one_state : (variable size : ℕ) (state next : State) → IsState state → EntersOne variable size state next → IsState next
one_state variable size state next is enters = record {
  memory = subst IsMemory (sym enters.block.is) (IsMemory-placed state.memory block is.memory (and_right (list_all (λ byte. nat_lt byte 256) contents) (can_be_placed state.memory block) later) (numbers_name (length state.memory + 1) contents));
  bytes = subst (All (λ block. All IsByte block.bytes)) (sym enters.block.is)
      (All-append (λ block. All IsByte block.bytes) state.memory (block ∷ []) is.bytes
      (All-cons (λ block. All IsByte block.bytes) block [] (numbers_small contents (and_left (list_all (λ byte. nat_lt byte 256) contents) (can_be_placed state.memory block) later)) (All-nil (λ block. All IsByte block.bytes))));
  variables = λ at number stands. below at number (nat_eq at variable) (sym (enters.variables_are at) ∙ stands);
  registers = λ register word stands. subst (λ (n : ℕ). IsWordBelow n word) (sym count) (word_above (length state.memory) word (is.registers register word (sym (enters.registers_are register) ∙ stands)));
  ports = subst (All (IsWordBelow (length next.memory))) (sym enters.ports)
      (subst (λ (n : ℕ). All (IsWordBelow n) state.ports) (sym count) (All-weaker (IsWordBelow (length state.memory)) (IsWordBelow (suc (length state.memory))) (word_above (length state.memory)) state.ports is.ports));
  roots = subst (All (IsLedTo next.ports)) (sym enters.roots) (subst (λ (ports : List Word). All (IsLedTo ports) state.roots) (sym enters.ports) is.roots);
}
  where
    contents : List ℕ
    contents = enters.block.contents

    block : Block
    block = new_block Local enters.block.base enters.block.contents

    later : (list_all (λ byte. nat_lt byte 256) contents && can_be_placed state.memory block) ≡ true
    later = and_right (nat_eq (length contents) size) (list_all (λ byte. nat_lt byte 256) contents && can_be_placed state.memory block) enters.block.new

    count : length next.memory ≡ suc (length state.memory)
    count = ap length enters.block.is ∙ length-append state.memory (block ∷ []) ∙ omega arith

    below : (at number : ℕ) (b : Bool) → (if b then Some (length state.memory) else state.variables at) ≡ Some number → number < length next.memory
    below at number true stands = let same = same_Some _ _ stands in let c = count in omega arith
    below at number false stands = let under = is.variables at number stands in let c = count in omega arith
