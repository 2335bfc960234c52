-- What the first choice makes.
use Rattle.std.proofs.Common.{◌≡◌, ℕ, ◌<◌, ◌+◌, Bool, true, false, List, [], ◌∷◌, ◌++◌, length, map, drop, Option, Some, refl, sym, ap, ◌∙◌, subst, arith}
use Rattle.std.proofs.lemmas.Bool.{and_parts, eqb-true, le-leb}
use Rattle.std.proofs.lemmas.List.{length-append, length-map}
use Rattle.std.specs.List.{list_all}
use Rattle.std.specs.Prelude.{if◌then◌else◌, nat_eq, pos, slice_get, not, ◌||◌, None as Nothing, IfSome, IfNone, IfOk, MatchResult, Result, Ok, Err}
use Rattle.bytes_core.specs.declared.block.Block.{Block}
use Rattle.bytes_core.specs.declared.block.BlockKind.{BlockKind}
use Rattle.bytes_core.specs.declared.byte.Byte.TheVariants.{Num}
use Rattle.bytes_core.specs.declared.word.Word.{Word}
use Rattle.bytes_core.specs.declared.word.Word.TheVariants.{Plain, To}
use Rattle.bytes_core.specs.Access.{block_fault}
use Rattle.bytes_core.specs.Fault.{access_outside_object}
use Rattle.bytes_core.specs.Placement.{new_block, is_new_block, placed}
use Rattle.bytes_core.specs.Valid.{WordNamesBelow}
use Rattle.choices.specs.declared.choice.Choice.{Choice}
use Rattle.choices.specs.declared.choice.Choice.TheVariants.{None, Input, Block as NewBlock}
use Rattle.c_machine.specs.State.{State, Outcome, Went, Ended, Stuck, with_memory}
use Rattle.c_machine.specs.Choosing.{with_block}
use Rattle.c_steps.specs.declared.outcome.Outcome.{Outcome as Answer}
use Rattle.c_steps.specs.declared.outcome.Outcome.TheVariants as answer
use Rattle.c_steps.specs.ComesTo.{comes_to}
use Rattle.c_steps.specs.Making.{is_choice, IsWhole, MakesBlock, MakesNone}

makes_block : {E S I : Type 0} (kind : BlockKind) (size : ℕ) (zeroed : Bool) (base : ℕ) (contents : List ℕ) (state : State E S I) (choices rest : List Choice) →
    choices ≡ NewBlock base contents ∷ rest → is_choice state.memory kind size zeroed base contents ≡ true →
    MakesBlock kind size zeroed state choices (with_memory (placed state.memory (new_block kind base contents)) state) (length state.memory) rest
makes_block {E} {S} {I} kind size zeroed base contents state choices rest is chosen onward =
    ap (λ (all : List Choice). with_block kind size zeroed state all onward) is
    ∙ ap (λ (passes : Bool). if passes then onward (with_memory (placed state.memory (new_block kind base contents)) state) (length state.memory) rest else Ended) chosen

-- the block that was put behind the others is the one of the first choice
pub places_block : {E S I : Type 0} (kind : BlockKind) (size : ℕ) (zeroed : Bool) (base : ℕ) (contents : List ℕ) (first : Choice) (block : Block)
    (memory : List Block) (number : ℕ) (state next : State E S I) (choices rest : List Choice) →
    choices ≡ first ∷ drop 1 choices → first ≡ NewBlock base contents → rest ≡ drop 1 choices → memory ≡ state.memory →
    is_choice memory kind size zeroed base contents ≡ true → block ≡ new_block kind base contents →
    next ≡ with_memory (placed state.memory block) state → number ≡ length state.memory → MakesBlock kind size zeroed state choices next number rest
places_block {E} {S} {I} kind size zeroed base contents first block memory number state next choices rest is first_is rest_is memory_is chosen block_is next_is number_is =
    let all_is : choices ≡ NewBlock base contents ∷ rest =
    is ∙ (ap (λ (one : Choice). one ∷ drop 1 choices) first_is ∙ ap (λ (left : List Choice). NewBlock base contents ∷ left) (sym rest_is)) in
    let after : next ≡ with_memory (placed state.memory (new_block kind base contents)) state =
    next_is ∙ ap (λ (made : Block). with_memory (placed state.memory made) state) block_is in
    subst (λ (n : ℕ). MakesBlock kind size zeroed state choices next n rest) (sym number_is)
    (subst (λ (s : State E S I). MakesBlock kind size zeroed state choices s (length state.memory) rest) (sym after)
    (makes_block kind size zeroed base contents state choices rest all_is
    (subst (λ (blocks : List Block). is_choice blocks kind size zeroed base contents ≡ true) memory_is chosen)))

-- where the first choice is none for the block, none is made
pub places_none : {E S I : Type 0} (kind : BlockKind) (size : ℕ) (zeroed : Bool) (base : ℕ) (contents : List ℕ) (first : Choice) (memory : List Block)
    (state : State E S I) (choices : List Choice) → choices ≡ first ∷ drop 1 choices → first ≡ NewBlock base contents → memory ≡ state.memory →
    is_choice memory kind size zeroed base contents ≡ false → MakesNone kind size zeroed state choices answer.Ended
places_none {E} {S} {I} kind size zeroed base contents first memory state choices is first_is memory_is chosen onward =
    ap (λ (all : List Choice). with_block kind size zeroed state all onward) (is ∙ ap (λ (one : Choice). one ∷ drop 1 choices) first_is)
    ∙ ap (λ (passes : Bool). if passes then onward (with_memory (placed state.memory (new_block kind base contents)) state) (length state.memory) (drop 1 choices) else Ended)
    (subst (λ (blocks : List Block). is_choice blocks kind size zeroed base contents ≡ false) memory_is chosen)

pub placed_below : {E S I : Type 0} (number : ℕ) (block : Block) (state next : State E S I) → next ≡ with_memory (placed state.memory block) state →
    number ≡ length state.memory → number < length next.memory
placed_below {E} {S} {I} number block state next next_is number_is =
    subst (λ (after : State E S I). number < length after.memory) (sym next_is) (omega (arith, number_is, length-append state.memory (block ∷ [])))

-- the block that was put behind the others is there, with all its bytes
last_item : {X : Type 0} (xs : List X) (x : X) → slice_get (xs ++ x ∷ []) (length xs) ≡ Some x
last_item [] x = refl
last_item (first ∷ rest) x = last_item rest x

whole_block : (memory : List Block) (kind : BlockKind) (base size : ℕ) (contents : List ℕ) → length contents ≡ size →
    IsWhole (placed memory (new_block kind base contents)) (length memory) size
whole_block memory kind base size contents size_is count inside =
    ap (λ (found : Option Block). block_fault found (pos 0) count) (last_item memory (new_block kind base contents))
    ∙ ap (λ (within : Bool). if within then Nothing else Some access_outside_object) (le-leb (0 + count) (length (map Num contents)) (omega (arith, length-map contents Num)))

pub placed_whole : {E S I : Type 0} (kind : BlockKind) (size : ℕ) (zeroed : Bool) (base : ℕ) (contents : List ℕ) (block : Block) (memory : List Block) (number : ℕ)
    (state next : State E S I) → memory ≡ state.memory → is_choice memory kind size zeroed base contents ≡ true → block ≡ new_block kind base contents →
    next ≡ with_memory (placed state.memory block) state → number ≡ length state.memory → IsWhole next.memory number size
placed_whole {E} {S} {I} kind size zeroed base contents block memory number state next memory_is chosen block_is next_is number_is =
    let passes = and_parts (is_new_block memory kind size base contents) (not zeroed || list_all (nat_eq 0) contents) chosen in
    let sized = and_parts (nat_eq (length contents) size) _ passes.0 in
    subst (λ (n : ℕ). IsWhole next.memory n size) (sym number_is)
    (subst (λ (after : State E S I). IsWhole after.memory (length state.memory) size) (sym next_is)
    (subst (λ (made : Block). IsWhole (placed state.memory made) (length state.memory) size) (sym block_is)
    (whole_block state.memory kind base size contents (eqb-true (length contents) size sized.0))))

pub placed_longer : {E S I : Type 0} (word : Word) (block : Block) (state next : State E S I) → next ≡ with_memory (placed state.memory block) state →
    WordNamesBelow (length state.memory) word → WordNamesBelow (length next.memory) word
placed_longer {E} {S} {I} (Plain number) block state next next_is names = tt
placed_longer {E} {S} {I} (To number offset) block state next next_is names =
    subst (λ (after : State E S I). number < length after.memory) (sym next_is) (omega (arith, length-append state.memory (block ∷ [])))

-- what a call ensures where it answers something
pub if_some : {T : Type 0} (P : T → Type 0) (found : Option T) (value : T) → found ≡ Some value → IfSome found P → P value
if_some {T} P found value is holds = subst (λ (one : Option T). IfSome one P) is holds

pub if_none : {T P : Type 0} (found : Option T) → found ≡ Nothing → IfNone found P → P
if_none {T} {P} found is holds = subst (λ (one : Option T). IfNone one P) is holds

pub if_ok : {T R : Type 0} (P : T → Type 0) (result : Result T R) (value : T) → result ≡ Ok value → IfOk result P → P value
if_ok {T} {R} P result value is holds = subst (λ (one : Result T R). IfOk one P) is holds

pub match_ok : {T R : Type 0} (P : T → Type 0) (Q : R → Type 0) (result : Result T R) (value : T) → result ≡ Ok value → MatchResult result P Q → P value
match_ok {T} {R} P Q result value is holds = subst (λ (one : Result T R). MatchResult one P Q) is holds

pub match_err : {T R : Type 0} (P : T → Type 0) (Q : R → Type 0) (result : Result T R) (error : R) → result ≡ Err error → MatchResult result P Q → Q error
match_err {T} {R} P Q result error is holds = subst (λ (one : Result T R). MatchResult one P Q) is holds

-- where no block is made the step does not go on
neither_went : {E S I : Type 0} (passes : Bool) (state : State E S I) (choices : List Choice) → (if passes then Stuck else Ended) ≡ Went state choices → ⊥
neither_went true state choices is = absurd cc
neither_went false state choices is = absurd cc

never_went : {E S I : Type 0} (kind : BlockKind) (size : ℕ) (zeroed : Bool) (state next : State E S I) (choices more : List Choice) →
    with_block kind size zeroed state choices (λ after block left. Stuck) ≡ Went next more → ⊥
never_went kind size zeroed state next [] more is = absurd cc
never_went kind size zeroed state next (None ∷ choices) more is = absurd cc
never_went kind size zeroed state next (Input number ∷ choices) more is = absurd cc
never_went kind size zeroed state next (NewBlock base contents ∷ choices) more is =
    neither_went (is_choice state.memory kind size zeroed base contents) next more is

pub none_is_made : {E S I : Type 0} (what : Answer) (kind : BlockKind) (size : ℕ) (zeroed : Bool) (state next : State E S I) (choices more : List Choice)
    (onward : State E S I → ℕ → List Choice → Outcome E S I) → MakesNone kind size zeroed state choices what →
    comes_to what next more ≡ with_block kind size zeroed state choices onward
none_is_made answer.Went kind size zeroed state next choices more onward none =
    absurd (never_went kind size zeroed state state choices choices (none (λ after block left. Stuck)))
none_is_made answer.Waits kind size zeroed state next choices more onward none = sym (none onward)
none_is_made answer.Ended kind size zeroed state next choices more onward none = sym (none onward)
none_is_made (answer.Faulted fault place) kind size zeroed state next choices more onward none = sym (none onward)
none_is_made answer.Stuck kind size zeroed state next choices more onward none = sym (none onward)
