-- A step behind operands that are taken.
use Rattle.std.proofs.Common.{◌≡◌, ◌∙◌, ℕ, List, length, sym, ap, subst}
use Rattle.std.specs.Prelude.{Result, Ok, Err, IfOk, OnOk, OnErr}
use Rattle.cbase.specs.declared.no_memory.NoMemory.{NoMemory}
use Rattle.bytes_core.specs.declared.block.Block.{Block}
use Rattle.bytes_core.specs.declared.word.Word.{Word}
use Rattle.bytes_core.specs.Valid.{WordNamesBelow}
use Rattle.choices.specs.declared.choice.Choice.{Choice}
use Rattle.c_machine.specs.State.{State, Outcome, Went, popped, with_memory, with_operand}
use Rattle.c_steps.specs.declared.outcome.Outcome.{Outcome as Answer}
use Rattle.c_steps.specs.ComesTo.{comes_to}

pub behind_one : {E S I : Type 0} (result : Result Answer NoMemory) (operand : Word) (old state new : State E S I)
    (onward : Word → State E S I → List Choice → Outcome E S I) → old ≡ with_operand operand state →
    IfOk result (λ outcome. (choices : List Choice) → comes_to outcome new choices ≡ onward operand state choices) →
    IfOk result (λ outcome. (choices : List Choice) → comes_to outcome new choices ≡ popped old (λ word after. onward word after choices))
behind_one {E} {S} {I} result operand old state new onward is comes =
    let Comes : State E S I → Type 0 =
    λ before. IfOk result (λ outcome. (choices : List Choice) → comes_to outcome new choices ≡ popped before (λ word after. onward word after choices)) in
    subst Comes (sym is) comes

pub behind_two : {E S I : Type 0} (result : Result Answer NoMemory) (first second : Word) (old middle state new : State E S I)
    (onward : Word → Word → State E S I → List Choice → Outcome E S I) → old ≡ with_operand first middle → middle ≡ with_operand second state →
    IfOk result (λ outcome. (choices : List Choice) → comes_to outcome new choices ≡ onward first second state choices) →
    IfOk result (λ outcome. (choices : List Choice) → comes_to outcome new choices
    ≡ popped old (λ one before. popped before (λ other after. onward one other after choices)))
behind_two {E} {S} {I} result first second old middle state new onward is then comes =
    behind_one result first old middle new (λ one before choices. popped before (λ other after. onward one other after choices)) is
    (behind_one result second middle state new (λ other after choices. onward first other after choices) then comes)

-- the same, where what is done asks for the memory before
pub one_behind : {E S I : Type 0} (result : Result Answer NoMemory) (operand : Word) (old state new : State E S I)
    (onward : List Block → Word → State E S I → List Choice → Outcome E S I) → old ≡ with_operand operand state →
    IfOk result (λ outcome. (choices : List Choice) → comes_to outcome new choices ≡ onward state.memory operand state choices) →
    IfOk result (λ outcome. (choices : List Choice) → comes_to outcome new choices ≡ popped old (λ word after. onward old.memory word after choices))
one_behind {E} {S} {I} result operand old state new onward is comes =
    let Comes : State E S I → Type 0 =
    λ before. IfOk result (λ outcome. (choices : List Choice) → comes_to outcome new choices ≡ popped before (λ word after. onward before.memory word after choices)) in
    subst Comes (sym is) comes

pub two_behind : {E S I : Type 0} (result : Result Answer NoMemory) (first second : Word) (old middle state new : State E S I)
    (onward : List Block → Word → Word → State E S I → List Choice → Outcome E S I) → old ≡ with_operand first middle → middle ≡ with_operand second state →
    IfOk result (λ outcome. (choices : List Choice) → comes_to outcome new choices ≡ onward state.memory first second state choices) →
    IfOk result (λ outcome. (choices : List Choice) → comes_to outcome new choices
    ≡ popped old (λ one before. popped before (λ other after. onward old.memory one other after choices)))
two_behind {E} {S} {I} result first second old middle state new onward is then comes =
    one_behind result first old middle new (λ memory one before choices. popped before (λ other after. onward memory one other after choices)) is
    (one_behind result second middle state new (λ memory other after choices. onward memory first other after choices) then comes)

pub three_behind : {E S I : Type 0} (result : Result Answer NoMemory) (first second third : Word) (old one two state new : State E S I)
    (onward : List Block → Word → Word → Word → State E S I → List Choice → Outcome E S I) → old ≡ with_operand first one → one ≡ with_operand second two →
    two ≡ with_operand third state →
    IfOk result (λ outcome. (choices : List Choice) → comes_to outcome new choices ≡ onward state.memory first second third state choices) →
    IfOk result (λ outcome. (choices : List Choice) → comes_to outcome new choices
    ≡ popped old (λ a before. popped before (λ b between. popped between (λ c after. onward old.memory a b c after choices))))
three_behind {E} {S} {I} result first second third old one two state new onward is then last comes =
    one_behind result first old one new (λ memory a before choices. popped before (λ b between. popped between (λ c after. onward memory a b c after choices))) is
    (two_behind result second third one two state new (λ memory b c after choices. onward memory first b c after choices) then last comes)

-- two operands are taken, and what comes of them has a property
pub of_two : {E S I : Type 0} (P : Outcome E S I → Type 0) (first second : Word) (old middle state : State E S I)
    (onward : List Block → Word → Word → State E S I → Outcome E S I) → old ≡ with_operand first middle → middle ≡ with_operand second state →
    P (onward state.memory first second state) → P (popped old (λ one before. popped before (λ other after. onward old.memory one other after)))
of_two {E} {S} {I} P first second old middle state onward is then holds =
    subst (λ (from : State E S I). P (popped from (λ one before. popped before (λ other after. onward from.memory one other after)))) (sym is)
    (subst (λ (from : State E S I). P (popped from (λ other after. onward from.memory first other after))) (sym then) holds)

-- one operand is taken, and one that is made of it is there
pub made_of_one : {E S I : Type 0} (result : Result Answer NoMemory) (operand made : Word) (old state new : State E S I) (value : List Block → Word → Word) →
    old ≡ with_operand operand state → made ≡ value state.memory operand →
    IfOk result (λ outcome. (choices : List Choice) → comes_to outcome new choices ≡ Went (with_operand made state) choices) →
    IfOk result (λ outcome. (choices : List Choice) → comes_to outcome new choices ≡ popped old (λ word after. Went (with_operand (value old.memory word) after) choices))
made_of_one {E} {S} {I} result operand made old state new value is made_is comes =
    one_behind result operand old state new (λ memory word after choices. Went (with_operand (value memory word) after) choices) is
    (subst (λ (word : Word). IfOk result (λ outcome. (choices : List Choice) → comes_to outcome new choices ≡ Went (with_operand word state) choices)) made_is comes)

-- the block that a word names stays
pub still_named : {E S I : Type 0} (word other : Word) (before after : State E S I) → before ≡ with_operand other after →
    WordNamesBelow (length before.memory) word → WordNamesBelow (length after.memory) word
still_named {E} {S} {I} word other before after is names = subst (λ (state : State E S I). WordNamesBelow (length state.memory) word) is names

-- a call that goes on comes to what going on there is
pub went_on : {E S I : Type 0} (result : Result Answer NoMemory) (new next : State E S I) (comes : List Choice → Outcome E S I) →
    IfOk result (λ outcome. (choices : List Choice) → comes_to outcome new choices ≡ Went next choices) →
    ((choices : List Choice) → Went next choices ≡ comes choices) →
    IfOk result (λ outcome. (choices : List Choice) → comes_to outcome new choices ≡ comes choices)
went_on (Ok outcome) new next comes went same = λ choices. went choices ∙ same choices
went_on (Err error) new next comes went same = tt

pub went_on_there : {E S I : Type 0} (result : Result Answer NoMemory) (new next : State E S I) (choices : List Choice) (comes : Outcome E S I) →
    IfOk result (λ outcome. (left : List Choice) → comes_to outcome new left ≡ Went next left) → Went next choices ≡ comes →
    IfOk result (λ outcome. comes_to outcome new choices ≡ comes)
went_on_there (Ok outcome) new next choices comes went same = went choices ∙ same
went_on_there (Err error) new next choices comes went same = tt

-- what a word names is named behind a change that keeps how many blocks there are
pub named_behind : {E S I : Type 0} (done : Result (Unit {0}) ℕ) (word : Word) (made : List Block) (old new : State E S I) →
    OnOk done (new ≡ with_memory made old) → OnErr done (new ≡ old) → length made ≡ length old.memory → WordNamesBelow (length old.memory) word →
    WordNamesBelow (length new.memory) word
named_behind {E} {S} {I} (Ok value) word made old new done failed same names =
    subst (λ (count : ℕ). WordNamesBelow count word) (sym same ∙ sym (ap (λ (state : State E S I). length state.memory) done)) names
named_behind {E} {S} {I} (Err kind) word made old new done failed same names =
    subst (λ (state : State E S I). WordNamesBelow (length state.memory) word) (sym failed) names
