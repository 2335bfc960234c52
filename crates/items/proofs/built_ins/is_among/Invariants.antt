use Rattle.std.proofs.Common.{◌≡◌, drop}
use Rattle.items.specs.Begun.{is_among}
use Rattle.items.proofs.built_ins.is_among.Given as goal

abbrev pub invariant-loop-one : goal.invariant-loop-one
invariant-loop-one l = is_among l.name (drop l.one-index l.names) ≡ is_among l.name l.names
