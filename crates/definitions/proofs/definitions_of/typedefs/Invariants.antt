use Rattle.std.proofs.Common.{◌≡◌, take}
use Rattle.definitions.specs.Defined.{typedef_names}
use Rattle.definitions.proofs.definitions_of.typedefs.Given as goal

abbrev pub invariant-loop-span : goal.invariant-loop-span
invariant-loop-span l = l.found ≡ typedef_names l.t (take l.span-index l.span-items)
