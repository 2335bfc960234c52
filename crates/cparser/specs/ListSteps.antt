-- The kinds of lists that are read part by part, each as what it does.
use Rattle.std.specs.Prelude.{Bool, List, ◌&&◌, not, codes}
use Rattle.cgrammar.specs.Outcomes.{has_mark, behind_first}
use Rattle.cgrammar.specs.ReadTypes.{never, closes_braces}
use Rattle.cgrammar.specs.Terminals.{Terminal}
use Rattle.cparser.specs.DeclarationSteps.{parameter, init_part}
use Rattle.cparser.specs.OperandSteps.{argument}
use Rattle.cparser.specs.State.{State}
use Rattle.cparser.specs.Steps.{Inner, parts_behind}
use Rattle.cparser.specs.TypeSteps.{field_name, enumerator}
use Rattle.cparser.specs.declared.listed.Listed.{Listed}
use Rattle.cparser.specs.declared.listed.Listed.TheVariants.{Argument, FieldName, Enumerator, Parameter, InitPart}

-- a part
abbrev pub part_of : Inner → Listed → State → State
part_of inner Argument s = argument inner s
part_of inner FieldName s = field_name inner s
part_of inner Enumerator s = enumerator inner s
part_of inner Parameter s = parameter inner s
part_of inner InitPart s = init_part inner s

-- where a comma stands behind which the list is closed
abbrev pub closes_of : Listed → List Terminal → Bool
closes_of Argument row = never row
closes_of FieldName row = never row
closes_of Enumerator row = closes_braces row
closes_of Parameter row = never row
closes_of InitPart row = closes_braces row

-- a comma behind a part, and one more part behind that
abbrev pub more_of : Listed → List Terminal → Bool
more_of listed row = has_mark (codes ",") row && not (closes_of listed (behind_first row))

abbrev pub part_turn : Inner → Listed → (State → State) → State → State
part_turn inner listed go s = parts_behind (closes_of listed) go (part_of inner listed s)
