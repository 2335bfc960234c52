-- The constructs of C that are given up, as a refusal numbers them.
use Rattle.std.specs.Prelude.{ℕ, ◌≤◌}

-- how many constructs there are; the first has the number 1
abbrev pub construct_count : ℕ
construct_count = 21

-- whether a number is that of a construct
abbrev pub IsConstruct : ℕ → Type 0
IsConstruct number = (1 ≤ number) × (number ≤ construct_count)
