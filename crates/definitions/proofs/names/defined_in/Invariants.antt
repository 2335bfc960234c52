use Rattle.std.proofs.Common.{◌≡◌, ◌≤◌, ◌++◌, false, drop}
use Rattle.definitions.specs.declared.role.Role.TheVariants.{Other}
use Rattle.definitions.specs.Defined.{defined_in, has_initialiser}
use Rattle.definitions.proofs.names.defined_in.Given as goal

abbrev pub invariant-loop-i : goal.invariant-loop-i
invariant-loop-i l = record {
  few : l.before.depth ≤ l.i;
  known : l.before.initialised ≡ has_initialiser l.before.depth (drop l.i l.row);
  rest : l.found.items ++ defined_in l.form l.before.role l.before.depth l.before.set l.before.typed (drop l.i l.row) ≡ defined_in l.form Other 0 false l.untyped l.row;
}
