use Rattle.std.proofs.Common.{◌∙◌, sym}
use Rattle.std.proofs.lemmas.Bool.{false≢true}
use Rattle.flow.proofs.FlowLaws.{flow_told, told_alone}
use Rattle.flow.proofs.well_formed.is_well_formed.Goals as goal

pub returns-then-not-is_right_alone : goal.returns-then-not-is_right_alone
returns-then-not-is_right_alone c = (
  λ h. absurd (false≢true h),
  λ h. sym c.if-not-is_right_alone.true ∙ (c.is_right_alone.ensures ∙ told_alone c.args.flow.now h),
)

pub returns : goal.returns
returns c = (
  λ h. flow_told c.args.flow.now (c.is_in_range.ensures.0 c.if-not-is_in_range.false)
      (sym c.is_right_alone.ensures ∙ c.if-not-is_right_alone.false) (c.closes_at_exit.ensures.0 c.if-not-closes_at_exit.false)
      (c.in_ok-lead.ensures.0 c.if-not-lead.false) (c.in_ok-are_free.ensures.0 c.if-not-are_free.false)
      (c.in_ok-leave.ensures.0 c.if-not-leave.false) (c.in_ok-return_once.ensures.0 c.if-not-return_once.false) (c.in_ok-separate.ensures.0 h),
  λ h. c.in_ok-separate.ensures.1 h.separate,
)
