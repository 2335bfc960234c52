-- What is done behind a condition.
use Rattle.std.proofs.Common.{◌≡◌, Bool, true, List, [], ◌∷◌, length, Some, sym, ap, ◌∙◌}
use Rattle.std.specs.Prelude.{if◌then◌else◌}
use Rattle.bytes_core.specs.declared.block.Block.{Block}
use Rattle.bytes_core.specs.declared.word.Word.{Word}
use Rattle.choices.specs.declared.choice.Choice.{Choice}
use Rattle.c_machine.specs.declared.kind.Kind.{Kind}
use Rattle.c_machine.specs.declared.task.Task.TheVariants.{Branch, Convert, Pick, ValueOf}
use Rattle.c_machine.specs.Expressions.{value_kind}
use Rattle.c_machine.specs.State.{StateIn, OutcomeIn, Went, doing, popped, with_operand}
use Rattle.c_machine.specs.Statements.{branch_place, branch_tasks}
use Rattle.c_machine.specs.Step.{step_of, unless_lost}
use Rattle.c_machine.specs.Text.{Text}
use Rattle.c_machine.specs.Words.{is_true}
use Rattle.c_text.specs.Kept.{kept}
use Rattle.c_run.specs.tasks.Room.{are_kept, is_there}
use Rattle.c_run.proofs.tasks.KeptKinds.{is_kept}
use Rattle.c_run.proofs.tasks.MakingRoom.{two_there}

-- the value of the condition says which branch
pub branches : (t : Text) (stmt : t.Stmt) (word : Word) (holds : Bool) (memory : List Block) (old state : StateIn t) (choices : List Choice) →
    old ≡ with_operand word state → memory ≡ state.memory → holds ≡ is_true memory word →
    unless_lost (branch_place t stmt) (doing (branch_tasks t stmt (length state.operands) holds) state) choices ≡ step_of t (Branch stmt) old choices
branches t stmt word holds memory old state choices is same truth =
    ap (λ (holds : Bool). unless_lost (branch_place t stmt) (doing (branch_tasks t stmt (length state.operands) holds) state) choices)
    (truth ∙ ap (λ (memory : List Block). is_true memory word) same)
    ∙ ap (λ (before : StateIn t). step_of t (Branch stmt) before choices) (sym is)

-- both arms of `?:` have the kinds that are kept
pub picks : (t : Text) (kind one_kind other_kind : Kind) (first second one other : t.Expr) (old : StateIn t) (choices : List Choice) →
    Some one_kind ≡ kept (value_kind t one) → Some other_kind ≡ kept (value_kind t other) → first ≡ one → second ≡ other →
    popped old (λ word after. Went (doing
    (if is_true old.memory word then ValueOf first ∷ Convert one_kind kind ∷ [] else ValueOf second ∷ Convert other_kind kind ∷ []) after) choices)
    ≡ step_of t (Pick kind one other) old choices
picks t kind one_kind other_kind first second one other old choices is also front behind =
    let chosen : t.Expr → t.Expr → Kind → Kind → OutcomeIn t =
    λ first second one_kind other_kind. popped old (λ word after. Went (doing
    (if is_true old.memory word then ValueOf first ∷ Convert one_kind kind ∷ [] else ValueOf second ∷ Convert other_kind kind ∷ []) after) choices) in
    ap (λ (first : t.Expr). chosen first second one_kind other_kind) front
    ∙ ap (λ (second : t.Expr). chosen one second one_kind other_kind) behind
    ∙ ap (λ (one_kind : Kind). chosen one other one_kind other_kind) (sym (is_kept (value_kind t one) one_kind is))
    ∙ ap (λ (other_kind : Kind). chosen one other (value_kind t one) other_kind) (sym (is_kept (value_kind t other) other_kind also))

there : (own kind : Kind) → Some kind ≡ kept own → is_there (kept own) ≡ true
there own kind is = sym (ap is_there is)

pub both_kept : (one other kind next : Kind) → Some kind ≡ kept one → Some next ≡ kept other → are_kept (one ∷ other ∷ []) ≡ true
both_kept one other kind next is also = two_there one other (there one kind is) (there other next also)
