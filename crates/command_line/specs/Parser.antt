-- What the parser of words is told of the command line.
use Rattle.std.specs.Prelude.{Some, codes, true}
use Rattle.clap.specs.Walk.{Rule}
use Rattle.clap.specs.Simple.{App, new_app, new_rule, on_top, with_rule}

-- `--budget` with its value
abbrev pub budget_argument : Rule
budget_argument = record (new_rule (codes "budget")) { long = Some (codes "budget") }

-- `--int-limit` with its value
abbrev pub int_limit_argument : Rule
int_limit_argument = record (new_rule (codes "int-limit")) { long = Some (codes "int-limit") }

-- FILE, which must be given
abbrev pub file_argument : Rule
file_argument = record (new_rule (codes "file")) { required = true }

-- no help, no version, and all the words are arguments
abbrev pub bare_app : App
bare_app = on_top (λ s. record s {
  no_binary_name = true;
  disable_help_flag = true;
  disable_version_flag = true;
}) (new_app (codes "predator"))

-- the command line: the two options, and FILE
abbrev pub predator_app : App
predator_app = with_rule (with_rule (with_rule bare_app budget_argument) int_limit_argument)
    file_argument
