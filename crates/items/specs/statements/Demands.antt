-- What a value in a statement is taken for, where the type of a result is known by its number.
use Rattle.std.specs.Prelude.{◌<◌, ℕ, option_map, IfSome}
use Rattle.typing.specs.Statements.{Demand, Condition, Dropped, Returned}
use Rattle.expressions.specs.Numbers.{Numbering}
use Rattle.items.specs.declared.statements.demands.Demand.{Demand as DemandByNumber}
use Rattle.items.specs.declared.statements.demands.Demand.TheVariants as by_number

abbrev pub demand_at : Numbering → DemandByNumber → Demand
demand_at n by_number.Condition = Condition
demand_at n by_number.Dropped = Dropped
demand_at n (by_number.Returned word result) = Returned word (option_map n.ctype result)

-- the number of the result's type is one of so many
abbrev pub IsDemandBelow : ℕ → DemandByNumber → Type 0
IsDemandBelow count by_number.Condition = Unit {0}
IsDemandBelow count by_number.Dropped = Unit {0}
IsDemandBelow count (by_number.Returned word result) = IfSome result (λ number. number < count)
