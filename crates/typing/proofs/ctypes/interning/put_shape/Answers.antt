use Rattle.typing.proofs.ctypes.Same.{is_same, same_true, true_same}
use Rattle.typing.proofs.ctypes.Tables.{interned}
use Rattle.typing.proofs.ctypes.interning.put_shape.Goals as goal

pub returns-clause-table : goal.returns-clause-table
returns-clause-table c = (interned is_same c.args.shapes.now.keys c.insert_full.new.self.keys c.args.shape c.in_ok-number.number c.in_ok-number.ensures.keys c.in_ok-number.ensures.stored same_true true_same c.requires.table c.requires.below).0

pub returns-clause-ok : goal.returns-clause-ok
returns-clause-ok c = (interned is_same c.args.shapes.now.keys c.insert_full.new.self.keys c.args.shape c.in_ok-number.number c.in_ok-number.ensures.keys c.in_ok-number.ensures.stored same_true true_same c.requires.table c.requires.below).1

pub returns-clause-grows : goal.returns-clause-grows
returns-clause-grows c = (interned is_same c.args.shapes.now.keys c.insert_full.new.self.keys c.args.shape c.in_ok-number.number c.in_ok-number.ensures.keys c.in_ok-number.ensures.stored same_true true_same c.requires.table c.requires.below).1.1
