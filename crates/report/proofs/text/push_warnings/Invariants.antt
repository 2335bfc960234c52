-- What is appended so far and what is still to come make up the lines of all warnings.
use Rattle.std.proofs.Common.{◌≡◌, ◌++◌, map, drop}
use Rattle.report.specs.Report.{lines_text, warning_line}
use Rattle.report.proofs.text.push_warnings.Given as goal

abbrev pub invariant-loop-warning : goal.invariant-loop-warning
invariant-loop-warning l =
    l.text ++ lines_text (map (warning_line l.names) (drop l.warning-index l.warnings)) ≡ l.initial.text ++ lines_text (map (warning_line l.names) l.warnings)
