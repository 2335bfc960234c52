-- What is gathered are the rows of the context.
use Rattle.std.proofs.Common.{◌≡◌, Bool, length, Result, IfOk, OnOk, sym, ◌∙◌, subst}
use Rattle.cbase.specs.declared.no_memory.NoMemory.{NoMemory}
use Rattle.c_text.specs.Rows.{are_known}
use Rattle.c_text.specs.Tables.{AreGathered}
use Rattle.c_text.proofs.typed_text.TypedText.of.Goals as goal

pub invariant_of-result : goal.invariant_of-result
invariant_of-result c = record {
  gathered = subst (λ (result : Result Bool NoMemory). OnOk result (AreGathered c.args.context.handed c.fill.new.tables)) c.in-Ok-true.is c.fill.ensures.gathered;
  known = sym (subst (λ (result : Result Bool NoMemory). IfOk result (λ (known : Bool).
      known ≡ are_known (length c.args.context.types) (length c.args.context.environment.signatures) c.args.context.handed)) c.in-Ok-true.is c.fill.ensures.known)
      ∙ c.in-Ok-true.field-0-test;
}
