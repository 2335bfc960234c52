-- What the parser of words is told of the command line of `predator replay`.
use Rattle.std.specs.Prelude.{Some, codes, true}
use Rattle.clap.specs.Walk.{Rule}
use Rattle.clap.specs.Simple.{App, new_rule, with_rule}
use Rattle.clap.specs.declared.builder.action.ArgAction.TheVariants.{SetTrue}
use Rattle.command_line.specs.Parser.{bare_app, file_argument}

-- `--model` with its value
abbrev pub model_argument : Rule
model_argument = record (new_rule (codes "model")) { long = Some (codes "model") }

-- `--steps` with its value
abbrev pub steps_argument : Rule
steps_argument = record (new_rule (codes "steps")) { long = Some (codes "steps") }

-- `--strict`, which has no value
abbrev pub strict_argument : Rule
strict_argument = record (new_rule (codes "strict")) { long = Some (codes "strict"); action = Some SetTrue }

-- CHOICES, which must be given
abbrev pub choices_argument : Rule
choices_argument = record (new_rule (codes "choices")) { required = true }

-- the command line: the three options, FILE, and CHOICES
abbrev pub replay_app : App
replay_app = with_rule (with_rule (with_rule (with_rule (with_rule bare_app model_argument) steps_argument)
    strict_argument) file_argument) choices_argument
