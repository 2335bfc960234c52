-- Where one language carries over to another one, what is found by it is found by the other.
use Rattle.typing.specs.FileScope.{FileScope}
use Rattle.typing.specs.Language.{Language}
use Rattle.items.specs.languages.Carries.{Carries, Carried}
use Rattle.items.proofs.languages.Items.{item_carried}
use Rattle.items.proofs.languages.Parts.{part_carried}
use Rattle.items.proofs.languages.Seen.{found_seen, item_seen}

pub carried : (l m : Language) (file : FileScope l) (other : FileScope m) (to : l.Environment → m.Environment) (Valid : l.Environment → Type 0)
    → Carries l m file other to Valid → Carried l m file other to Valid
carried l m file other to Valid c = record {
  parts = λ before saying after found valid. part_carried c (found_seen l m file other to Valid c before saying after found) valid;
  items = λ before saying after found valid. item_carried c (item_seen l m file other to Valid c before saying after found) valid;
}
