use Rattle.ctokens.proofs.FoundParts.{IsNamed}
use Rattle.ctokens.proofs.marker.name_at.Given as goal

abbrev pub invariant-loop-index : goal.invariant-loop-index
invariant-loop-index l = IsNamed l.text l.index l.kept l.name.items
