-- The numbers of faults and constructs are printed as what they stand for.
use Rattle.std.proofs.Common.{refl}
use Rattle.verdicts.specs.Printed.{KindsArePrinted, ConstructsArePrinted}

pub kinds_printed : KindsArePrinted
kinds_printed = record {
  null-pointer-dereference = refl;
  access-outside-object = refl;
  access-to-dead-object = refl;
  access-through-invalid-address = refl;
  double-free = refl;
  invalid-free = refl;
  memory-lost = refl;
  overlapping-copy = refl;
  block-never-freed = refl;
}

pub constructs_printed : ConstructsArePrinted
constructs_printed = record {
  goto-statement = refl;
  switch-statement = refl;
  union-type = refl;
  floating-type = refl;
  variable-arguments = refl;
  inline-assembly = refl;
  layout-attribute = refl;
  complex-type = refl;
  thread-local-object = refl;
  string-literal = refl;
  function-pointer = refl;
}
