-- The other arguments and parameters decide.
use Rattle.std.proofs.Common.{◌≡◌, length}
use Rattle.std.specs.List.{list_all}
use Rattle.flow.specs.Standing.{stands_as_asked, arguments_asked}
use Rattle.flow.proofs.reading.arguments_stand.Given as goal

abbrev pub invariant-loop-argument : goal.invariant-loop-argument
invariant-loop-argument l =
    list_all (stands_as_asked l.widths) (arguments_asked l.flow l.arguments l.variables)
    ≡ list_all (stands_as_asked l.widths) (arguments_asked l.flow l.fn.arguments l.fn.variables)

abbrev pub decreases-loop-argument : goal.decreases-loop-argument
decreases-loop-argument l = length l.arguments
