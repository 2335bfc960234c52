use Rattle.std.proofs.Common.{◌≡◌, List, length, sym, subst, ◌∙◌}
use Rattle.cbase.specs.declared.ctype.CType.{CType}
use Rattle.cbase.specs.declared.row.Row.{Row}
use Rattle.typing.specs.ctypes.Table.{types_of, type_of}
use Rattle.typing.specs.ctypes.Kept.{IsRow, AreRows}
use Rattle.typing.proofs.ctypes.Growing.{rows_grown, laid_grown, structs_grown}
use Rattle.typing.proofs.ctypes.interning.intern.Goals as goal

pub returns-clause-tables : goal.returns-clause-tables
returns-clause-tables c =
    let types : List CType = types_of c.args.shapes.now.keys in
    let after : List CType = types_of c.put_shape-number.new.shapes.keys in
    let beside : AreRows types c.deref.result.now = subst (λ (rows : List Row). AreRows types rows) (sym c.deref.ensures.value) c.requires.tables.beside in
    let is : IsRow (type_of types c.args.shape) c.row_of-row.result = c.row_of-row.ensures types beside in
    let long : c.len.result ≡ length after = c.len.ensures.len ∙ sym c.put_shape-number.ensures.table.size in
    record {
      apart = c.put_shape-number.ensures.table;
      beside = rw (c.truncate.ensures.items, c.in_ok-push.ensures.items)
          (rows_grown types after (type_of types c.args.shape) c.args.rows.now.items c.row_of-row.result c.len.result c.put_shape-number.ensures.grows long c.requires.tables.beside is);
      laid = laid_grown types after (type_of types c.args.shape) c.args.structs.now c.put_shape-number.ensures.grows c.requires.tables.laid;
    }

pub returns-clause-structs : goal.returns-clause-structs
returns-clause-structs c =
    structs_grown (types_of c.args.shapes.now.keys) (types_of c.put_shape-number.new.shapes.keys) (type_of (types_of c.args.shapes.now.keys) c.args.shape) c.args.structs.now
    c.put_shape-number.ensures.grows c.requires.tables.laid
