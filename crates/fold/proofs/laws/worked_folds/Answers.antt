use Rattle.std.proofs.Common.{refl}
use Rattle.fold.proofs.laws.worked_folds.Goals as goal

pub returns : goal.returns
returns c = record {
  named = refl;
  neighbours = refl;
  no_neighbours = refl;
  folds = refl;
  makes_graph = refl;
  held = refl;
  named_both = refl;
  folds_both = refl;
  makes_both = refl;
  longer = refl;
}
