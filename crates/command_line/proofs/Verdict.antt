-- The parser's verdict over the words of `predator`.
use Rattle.std.proofs.Common.{◌≡◌, ℕ, Bool, false, refl, List, Option, Some, None, codes}
use Rattle.clap.specs.Walk.{Held, Rule, Waiting, Walk, positional_held, pushed, settled}
use Rattle.clap.specs.Simple.{Shape, built}
use Rattle.clap.specs.Faults.{positional_fault, settle_fault}
use Rattle.command_line.specs.Words.{Word}
use Rattle.command_line.specs.Parser.{predator_app}
use Rattle.command_line.proofs.MatchRows.{file_rule}
use Rattle.command_line.proofs.Verdicts as shared

abbrev pub shape : Shape
shape = (built predator_app).top

abbrev pub rules : List Rule
rules = shape.rules

-- the place of the next FILE
abbrev pub place : Option Word → ℕ
place None = 1
place (Some file) = 2

abbrev pub walk_at : Held → Waiting → Option Word → Bool → Walk
walk_at h waiting file is_trailing = shared.walk_at h waiting (place file) is_trailing

-- FILE takes one value, so what is pending is used before it
pub file_held : (h : Held) (word : Word) → positional_held rules file_rule word h ≡ pushed (codes "file") word (settled rules h)
file_held h word = shared.one_value_held rules file_rule h word refl

pub file_fault : (h : Held) → positional_fault rules false file_rule h ≡ settle_fault rules false h
file_fault h = shared.one_value_fault rules false file_rule h refl
