use Rattle.std.proofs.Common.{◌≡◌, drop}
use Rattle.std.specs.Prelude.{pos}
use Rattle.std.specs.List.{find}
use Rattle.typing.specs.constants.Types.{types, has_value}
use Rattle.typing.proofs.constants.integer.of_first_type.Given as goal

abbrev pub invariant-loop-ctype : goal.invariant-loop-ctype
invariant-loop-ctype l = find (has_value l.abi (pos l.number)) (types l.fn.base l.fn.suffix) ≡ find (has_value l.abi (pos l.number)) (drop l.ctype-index l.ctype-items)
