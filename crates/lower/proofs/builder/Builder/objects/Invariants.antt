-- What is still to be made.
use Rattle.std.proofs.Common.{◌≡◌, drop}
use Rattle.lower.specs.Built.{made_of}
use Rattle.lowering.specs.Placing.{with_objects}
use Rattle.lower.proofs.builder.Builder.objects.Given as goal

abbrev pub invariant-loop-object : goal.invariant-loop-object
invariant-loop-object l = with_objects l.fixed (drop l.object-index l.objects) (made_of l.self) ≡ with_objects l.fixed l.objects (made_of l.fn.self)
