use Rattle.std.proofs.Common.{◌≡◌, take}
use Rattle.definitions.specs.Defined.{bodied_among, defined_among}
use Rattle.definitions.proofs.definitions_of.push_all.Given as goal

abbrev pub invariant-loop-span : goal.invariant-loop-span
invariant-loop-span l = record {
  bodied : l.found.bodied ≡ bodied_among l.t l.typedefs (take l.span-index l.span-items);
  defined : l.found.defined ≡ defined_among l.t l.typedefs (take l.span-index l.span-items);
}
