use Rattle.std.proofs.Common.{◌≡◌, take}
use Rattle.std.specs.List.{All}
use Rattle.choices.specs.Written.{HasLine, written}
use Rattle.choices.proofs.write.choices_text.Given as goal

abbrev pub invariant-loop-choice : goal.invariant-loop-choice
invariant-loop-choice l = record {
  text : l.text ≡ written (take l.choice-index l.choices);
  lines : All HasLine (take l.choice-index l.choices);
}
