-- The values of expressions of a level more, whatever their form.
use Rattle.std.proofs.Common.{◌≤◌, ℕ, suc, refl, sym, subst, nat_eq, None, Some}
use Rattle.cbase.specs.declared.tree.operators.BinaryOp.{BinaryOp}
use Rattle.cbase.specs.declared.tree.operators.BinaryOp.TheVariants.{Mul, Div, Rem, Add, Sub, Left, Right, Less, Greater, LessEqual, GreaterEqual, Equal, NotEqual, And, Xor, Or, Both, Either, Comma}
use Rattle.cbase.specs.declared.tree.operators.UnaryOp.{UnaryOp}
use Rattle.cbase.specs.declared.tree.operators.UnaryOp.TheVariants.{Address, Follow, Plus, Minus, Flip, Not}
use Rattle.c_machine.specs.Text.{Form, Name, Known, Unary, Binary, Assign, Count, Choose, Cast, Index, Member, Call, Inner, AssertFail, Text}
use Rattle.flow.specs.declared.flow_graph.Flow.{Flow}
use Rattle.flow.specs.Valid.{IsFlow}
use Rattle.simulation.specs.Running.{Setting, Running}
use Rattle.lowering.specs.Table.{is_made}
use Rattle.lowering.specs.Placing.{place_value_form, go}
use Rattle.lowering.proofs.Doing.{DoesIs}
use Rattle.lowering.proofs.LeftStays.{value_left}
use Rattle.lowering.proofs.Modes.{Ready, ValueIs, IsAt}
use Rattle.lowering.proofs.Ready.{IsTarget}
use Rattle.lowering.proofs.Spelling.{FormIs, made_by}
use Rattle.lowering.proofs.SpellingCalled.{AreCalled, call_form}
use Rattle.lowering.proofs.SpellingConditions.{condition_form, choose_form}
use Rattle.lowering.proofs.SpellingConversions.{cast_form}
use Rattle.lowering.proofs.SpellingCounts.{count_form}
use Rattle.lowering.proofs.SpellingInner.{inner_form}
use Rattle.lowering.proofs.SpellingOperators.{operator_form}
use Rattle.lowering.proofs.SpellingStores.{assign_form}
use Rattle.lowering.proofs.SpellingUnary.{plus_form, minus_form, flip_form}
use Rattle.lowering.proofs.SpellingUpdates.{update_form}
use Rattle.lowering.proofs.SpellingValues.{known_form, unknown_form, assert_form, named_form, follow_form, index_form, member_form, address_form, comma_form}

module _ (t : Text) (flow : Flow) (setting : Setting) (running : Running) (valid : IsFlow flow) (called : AreCalled t flow setting running) (levels : ℕ) (at : IsAt t flow setting running levels) (does : DoesIs t flow setting running levels) where
  unary_form : (op : UnaryOp) (arg : t.Expr) → FormIs t flow setting running levels (Unary op arg)
  unary_form Address arg = address_form t flow setting running levels at arg
  unary_form Follow arg = follow_form t flow setting running levels at arg
  unary_form Plus arg = plus_form t flow setting running levels at arg
  unary_form Minus arg = minus_form t flow setting running levels at arg
  unary_form Flip arg = flip_form t flow setting running levels at arg
  unary_form Not arg = condition_form t flow setting running levels at (Unary Not arg) refl (λ expr. refl) (λ expr in_spare. refl) (λ around made from expr spare into to. refl)

  binary_form : (op : BinaryOp) (one other : t.Expr) → FormIs t flow setting running levels (Binary op one other)
  binary_form Mul one other = operator_form t flow setting running levels at Mul one other refl
  binary_form Div one other = operator_form t flow setting running levels at Div one other refl
  binary_form Rem one other = operator_form t flow setting running levels at Rem one other refl
  binary_form Add one other = operator_form t flow setting running levels at Add one other refl
  binary_form Sub one other = operator_form t flow setting running levels at Sub one other refl
  binary_form Left one other = operator_form t flow setting running levels at Left one other refl
  binary_form Right one other = operator_form t flow setting running levels at Right one other refl
  binary_form Less one other = operator_form t flow setting running levels at Less one other refl
  binary_form Greater one other = operator_form t flow setting running levels at Greater one other refl
  binary_form LessEqual one other = operator_form t flow setting running levels at LessEqual one other refl
  binary_form GreaterEqual one other = operator_form t flow setting running levels at GreaterEqual one other refl
  binary_form And one other = operator_form t flow setting running levels at And one other refl
  binary_form Xor one other = operator_form t flow setting running levels at Xor one other refl
  binary_form Or one other = operator_form t flow setting running levels at Or one other refl
  binary_form Equal one other = condition_form t flow setting running levels at (Binary Equal one other) refl (λ expr. refl) (λ expr in_spare. refl) (λ around made from expr spare into to. refl)
  binary_form NotEqual one other = condition_form t flow setting running levels at (Binary NotEqual one other) refl (λ expr. refl) (λ expr in_spare. refl) (λ around made from expr spare into to. refl)
  binary_form Both one other = condition_form t flow setting running levels at (Binary Both one other) refl (λ expr. refl) (λ expr in_spare. refl) (λ around made from expr spare into to. refl)
  binary_form Either one other = condition_form t flow setting running levels at (Binary Either one other) refl (λ expr. refl) (λ expr in_spare. refl) (λ around made from expr spare into to. refl)
  binary_form Comma one other = comma_form t flow setting running levels at one other

  value_form : (form : Form t.Expr t.Stmt) → FormIs t flow setting running levels form
  value_form Name = named_form t flow setting running levels at
  value_form (Known None) = unknown_form t flow setting running levels
  value_form (Known (Some bits)) = known_form t flow setting running levels bits
  value_form (Unary op arg) = unary_form op arg
  value_form (Binary op one other) = binary_form op one other
  value_form (Assign None one other) = assign_form t flow setting running levels at one other
  value_form (Assign (Some op) one other) = update_form t flow setting running levels at op one other
  value_form (Count up after arg) = count_form t flow setting running levels at up after arg
  value_form (Choose test one other) = choose_form t flow setting running levels at test one other
  value_form (Cast arg) = cast_form t flow setting running levels at arg
  value_form (Index base index) = index_form t flow setting running levels at base index
  value_form (Member base bytes through) = member_form t flow setting running levels at base bytes through
  value_form (Call callee args) = call_form t flow setting running levels at.convert called callee args
  value_form (Inner body close) = inner_form t flow setting running levels at does valid body close
  value_form AssertFail = assert_form t flow setting running levels

  pub value_joined : suc levels ≤ t.enough → ValueIs t flow setting running (suc levels)
  value_joined less around good made from expr spare into to spelled now later tasks slots base ready target cont =
      let stays = value_left t levels less around made from expr spare into to spelled.inside spelled.sound spelled.graph (nat_eq into spare) in
      let made_as = made_by t flow setting running made from expr (t.form expr) (place_value_form t (go levels t) around made from expr spare into to (t.form expr)) (is_made t expr (t.form expr)) refl spelled in
      value_form (t.form expr) around good made from expr spare into to refl made_as.0 made_as.1 now later tasks slots base
      (subst (λ (left : ℕ). Ready t flow setting running around now later tasks base made.registers slots spare left) (sym stays) ready)
      (subst (λ (left : ℕ). IsTarget made.registers slots base spare left into) (sym stays) target) cont
