-- A constant of an enum.
use Rattle.std.proofs.Common.{◌≤◌, Option, true, false, refl, subst}
use Rattle.cbase.specs.declared.tree.expr.Expr.{Expr}
use Rattle.cbase.specs.declared.tree.expr.ExprForm.TheViews.{out-Enumerator}
use Rattle.ctrees.specs.Levels.{maybe_levels}
use Rattle.typing.specs.Typing.{ValueOfEnumerator}
use Rattle.expressions.specs.declared.found.Found.TheVariants.{Refused}
use Rattle.expressions.specs.Found.{some_bits}
use Rattle.expressions.specs.Walked.{Walked, Says}
use Rattle.expressions.proofs.Enumerators.{name_here, constant_twice, constant_refused, constant_inside, constant_passes, value_following, value_given, value_refused}
use Rattle.expressions.proofs.SpecLevels.{value_within}
use Rattle.expressions.proofs.checker.Checker.enumerator.Goals as goal
use Rattle.expressions.proofs.checker.Checker.enumerator.Goals.{in-None, in-Some+in-Ok-Passes}

pub returns-then-is_declared_here : goal.returns-then-is_declared_here
returns-then-is_declared_here g c =
    let here = name_here c.args.constant.now c.as_slice-name.result.now c.args.context.now c.is_declared_here.result true c.as_slice-name.ensures c.is_declared_here.ensures c.if-is_declared_here.true in
    rw c.twice.ensures (constant_twice c.args.self.now.abi c.args.next c.args.constant.now c.args.context.now here)

pub loaded-requires-clause-nests : goal.loaded-requires-clause-nests
loaded-requires-clause-nests g c = c.requires.nests

pub loaded-requires-clause-deep : goal.loaded-requires-clause-deep
loaded-requires-clause-deep g c = subst (λ (given : Option Expr). maybe_levels given ≤ c.args.self.now.depth) c.in-Some.is (value_within c.args.constant.now c.args.self.now.depth c.requires.deep)

pub returns-in-Ok-Refused : goal.returns-in-Ok-Refused
returns-in-Ok-Refused g c =
    let fresh = name_here c.args.constant.now c.as_slice-name.result.now c.args.context.now c.is_declared_here.result false c.as_slice-name.ensures c.is_declared_here.ensures c.if-is_declared_here.false in
    constant_refused c.args.self.now.abi c.args.next c.args.constant.now c.args.context.now c.loaded.new.context c.in-Ok-Refused.fault (Refused c.in-Ok-Refused.fault) fresh refl
    (value_refused c.args.self.now.abi (out-Enumerator c.args.constant.now).place c.args.next (out-Enumerator c.args.constant.now).value c.args.context.now c.in-Some.expr c.loaded.new.context c.in-Ok-Refused.fault c.in-Ok-Refused.field-0 c.in-Some.is c.in-Ok-Refused.field-0-is c.in-Ok-Refused.ensures)

pub returns-in-Refused : goal.returns-in-Refused
returns-in-Refused g c =
    let fresh = name_here c.args.constant.now c.as_slice-name.result.now c.args.context.now c.is_declared_here.result false c.as_slice-name.ensures c.is_declared_here.ensures c.if-is_declared_here.false in
    let walked : Walked (Says c.args.self.now.abi (λ o. ValueOfEnumerator (out-Enumerator c.args.constant.now).place c.args.next (out-Enumerator c.args.constant.now).value o)) some_bits c.args.context.now c.match-constant.context c.match-constant.value = elim c.match-constant.branch [
      | in-None w ↦ rw (w.value-is, w.context-is) (value_following c.args.self.now.abi (out-Enumerator c.args.constant.now).place c.args.next (out-Enumerator c.args.constant.now).value c.args.context.now w.int_or_refused-value.result w.in-None.is w.int_or_refused-value.ensures)
      | in-Some+in-Ok-Passes w ↦ rw (w.value-is, w.context-is) (value_given c.args.self.now.abi (out-Enumerator c.args.constant.now).place c.args.next (out-Enumerator c.args.constant.now).value c.args.context.now w.in-Some.expr w.loaded.new.context w.in-Ok-Passes.known w.in-Ok-Passes.field-0 w.int_in.result
          w.in-Some.is w.in-Ok-Passes.field-0-is w.in-Ok-Passes.ensures w.int_in.ensures)
    ] in
    constant_refused c.args.self.now.abi c.args.next c.args.constant.now c.args.context.now c.match-constant.context c.in-Refused.fault c.match-constant.value fresh c.in-Refused.is walked

pub returns-then-is_declared_here-2 : goal.returns-then-is_declared_here-2
returns-then-is_declared_here-2 g c =
    let fresh = name_here c.args.constant.now c.as_slice-name.result.now c.args.context.now c.is_declared_here.result false c.as_slice-name.ensures c.is_declared_here.ensures c.if-is_declared_here.false in
    let walked : Walked (Says c.args.self.now.abi (λ o. ValueOfEnumerator (out-Enumerator c.args.constant.now).place c.args.next (out-Enumerator c.args.constant.now).value o)) some_bits c.args.context.now c.match-constant.context c.match-constant.value = elim c.match-constant.branch [
      | in-None w ↦ rw (w.value-is, w.context-is) (value_following c.args.self.now.abi (out-Enumerator c.args.constant.now).place c.args.next (out-Enumerator c.args.constant.now).value c.args.context.now w.int_or_refused-value.result w.in-None.is w.int_or_refused-value.ensures)
      | in-Some+in-Ok-Passes w ↦ rw (w.value-is, w.context-is) (value_given c.args.self.now.abi (out-Enumerator c.args.constant.now).place c.args.next (out-Enumerator c.args.constant.now).value c.args.context.now w.in-Some.expr w.loaded.new.context w.in-Ok-Passes.known w.in-Ok-Passes.field-0 w.int_in.result
          w.in-Some.is w.in-Ok-Passes.field-0-is w.in-Ok-Passes.ensures w.int_in.ensures)
    ] in
    let inside = name_here c.args.constant.now c.as_slice-name.result.now c.match-constant.context c.is_declared_here-2.result true c.as_slice-name.ensures c.is_declared_here-2.ensures c.if-is_declared_here-2.true in
    rw c.twice-then-is_declared_here-2.ensures (constant_inside c.args.self.now.abi c.args.next c.args.constant.now c.args.context.now c.match-constant.context c.in-Passes.bits c.match-constant.value fresh c.in-Passes.is walked inside)

pub returns-in-Ok : goal.returns-in-Ok
returns-in-Ok g c =
    let fresh = name_here c.args.constant.now c.as_slice-name.result.now c.args.context.now c.is_declared_here.result false c.as_slice-name.ensures c.is_declared_here.ensures c.if-is_declared_here.false in
    let walked : Walked (Says c.args.self.now.abi (λ o. ValueOfEnumerator (out-Enumerator c.args.constant.now).place c.args.next (out-Enumerator c.args.constant.now).value o)) some_bits c.args.context.now c.match-constant.context c.match-constant.value = elim c.match-constant.branch [
      | in-None w ↦ rw (w.value-is, w.context-is) (value_following c.args.self.now.abi (out-Enumerator c.args.constant.now).place c.args.next (out-Enumerator c.args.constant.now).value c.args.context.now w.int_or_refused-value.result w.in-None.is w.int_or_refused-value.ensures)
      | in-Some+in-Ok-Passes w ↦ rw (w.value-is, w.context-is) (value_given c.args.self.now.abi (out-Enumerator c.args.constant.now).place c.args.next (out-Enumerator c.args.constant.now).value c.args.context.now w.in-Some.expr w.loaded.new.context w.in-Ok-Passes.known w.in-Ok-Passes.field-0 w.int_in.result
          w.in-Some.is w.in-Ok-Passes.field-0-is w.in-Ok-Passes.ensures w.int_in.ensures)
    ] in
    let unbound = name_here c.args.constant.now c.as_slice-name.result.now c.match-constant.context c.is_declared_here-2.result false c.as_slice-name.ensures c.is_declared_here-2.ensures c.if-is_declared_here-2.false in
    constant_passes c.args.self.now.abi c.args.next c.args.constant.now c.args.context.now c.match-constant.context c.declare.new.self c.in-Passes.bits c.match-constant.value fresh c.in-Passes.is walked unbound (rw c.as_slice-name.ensures at c.in-Ok.ensures.ok)
