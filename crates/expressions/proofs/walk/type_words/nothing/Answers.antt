-- Neither a tag nor braces.
use Rattle.cbase.specs.declared.tree.expr.ExprForm.TheOpen.{Struct, Enum}
use Rattle.std.proofs.Common.{None}
use Rattle.typing.specs.Typing.{StructOfNothing, EnumOfNothing}
use Rattle.expressions.proofs.walk.type_words.nothing.Goals as goal
use Rattle.expressions.proofs.TypeWords.{nothing_named}

pub returns-in-Ok-clause-of_struct : goal.returns-in-Ok-clause-of_struct
returns-in-Ok-clause-of_struct c = λ abi. nothing_named abi c.args.context.now c.void.new.self (Struct None None) c.in-Ok.ctype c.in-Ok.ensures (λ n. StructOfNothing)

pub returns-in-Ok-clause-of_enum : goal.returns-in-Ok-clause-of_enum
returns-in-Ok-clause-of_enum c = λ abi. nothing_named abi c.args.context.now c.void.new.self (Enum None None) c.in-Ok.ctype c.in-Ok.ensures (λ n. EnumOfNothing)
