-- What is read part by part up to a `}`.
use Rattle.cparser.specs.State.{State}
use Rattle.cparser.specs.StatementSteps.{block_item}
use Rattle.cparser.specs.Steps.{Inner, until_brace_with}
use Rattle.cparser.specs.TypeSteps.{fields}
use Rattle.cparser.specs.declared.braced.Braced.{Braced}
use Rattle.cparser.specs.declared.braced.Braced.TheVariants.{Fields, BlockItem}

-- a part
abbrev pub member_of : Inner → Braced → State → State
member_of inner Fields s = fields inner s
member_of inner BlockItem s = block_item inner s

abbrev pub brace_turn : Inner → Braced → (State → State) → State → State
brace_turn inner braced go s = until_brace_with (λ state. go (member_of inner braced state)) s
