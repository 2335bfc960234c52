use Rattle.std.proofs.Common.{◌≡◌, ◌++◌, map, drop}
use Rattle.verdicts.specs.Found.{warning_at}
use Rattle.verdicts.proofs.found.warnings_of.Given as goal

-- the warnings so far and those that are left make up the whole
abbrev pub invariant-loop-warning : goal.invariant-loop-warning
invariant-loop-warning l =
    l.placed ++ map (warning_at l.t) (drop l.warning-index l.warnings) ≡ map (warning_at l.t) l.warnings
