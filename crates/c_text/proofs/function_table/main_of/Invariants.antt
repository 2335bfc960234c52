use Rattle.std.proofs.Common.{◌≡◌, drop}
use Rattle.c_machine.specs.Program.{main_in}
use Rattle.c_text.proofs.function_table.main_of.Given as goal

abbrev pub invariant-loop-function : goal.invariant-loop-function
invariant-loop-function l = main_in (drop l.function-index l.functions) ≡ main_in l.functions
