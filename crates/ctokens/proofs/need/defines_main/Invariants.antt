use Rattle.std.proofs.Common.{◌≡◌, drop}
use Rattle.std.specs.List.{list_any}
use Rattle.ctokens.specs.Entry.{is_main_entry}
use Rattle.ctokens.proofs.need.defines_main.Given as goal

abbrev pub invariant-loop-entry : goal.invariant-loop-entry
invariant-loop-entry l = list_any is_main_entry (drop l.entry-index l.entries) ≡ list_any is_main_entry l.entries
