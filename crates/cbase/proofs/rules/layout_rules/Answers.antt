use Rattle.cbase.proofs.Alike.{layout_alike}
use Rattle.cbase.proofs.Types.{type_layout-Void, type_layout-Bool, type_layout-Int, type_layout-Pointer, type_layout-Array}
use Rattle.cbase.proofs.Settled.{layout_of-Struct}
use Rattle.cbase.proofs.rules.layout_rules.Goals as goal

pub returns-clause-void : goal.returns-clause-void
returns-clause-void c = λ abi structs. type_layout-Void abi _

pub returns-clause-bool : goal.returns-clause-bool
returns-clause-bool c = λ abi structs. type_layout-Bool abi _

pub returns-clause-int : goal.returns-clause-int
returns-clause-int c = λ abi structs bytes signed. type_layout-Int abi _ bytes signed

pub returns-clause-pointer : goal.returns-clause-pointer
returns-clause-pointer c = λ abi structs item. type_layout-Pointer abi _ item

pub returns-clause-array : goal.returns-clause-array
returns-clause-array c = λ abi structs item count. type_layout-Array abi _ item count

pub returns-clause-data_layout : goal.returns-clause-data_layout
returns-clause-data_layout c = layout_alike

pub returns-clause-fields : goal.returns-clause-fields
returns-clause-fields c = layout_of-Struct
