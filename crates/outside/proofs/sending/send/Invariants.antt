use Rattle.std.proofs.Common.{◌≡◌, ◌≤◌, ◌-◌, length, take}
use Rattle.outside.specs.Sink.{appended}
use Rattle.outside.proofs.sending.send.Given as goal

abbrev pub invariant-pieces : goal.invariant-pieces
invariant-pieces g l = record {
  within : l.at ≤ length l.text;
  written : g.K.Sink.written l.out ≡ appended (g.K.Sink.written l.fn.out) (take l.at l.text);
  later : g.K.Sink.faults l.fn.out ≤ g.K.Sink.faults l.out;
  untouched : l.at ≡ 0 → l.out ≡ l.fn.out;
}

abbrev pub decreases-pieces : goal.decreases-pieces
decreases-pieces g l = length l.text - l.at
