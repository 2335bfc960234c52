-- What holds where parts pass: how many of them are told of, or another thing.
use Rattle.std.specs.Prelude.{◌≡◌, ℕ}
use Rattle.expressions.specs.declared.found.Found.{Found}
use Rattle.expressions.specs.declared.found.Found.TheVariants.{Passes, Refused}

abbrev pub IsCounted : {A : Type 0} → Found A → ℕ → ℕ → Type 0
IsCounted (Passes told) count wanted = count ≡ wanted
IsCounted (Refused first) count wanted = Unit {0}

abbrev pub WherePasses : {A : Type 0} → Found A → Type 0 → Type 0
WherePasses (Passes told) Holds = Holds
WherePasses (Refused first) Holds = Unit {0}
