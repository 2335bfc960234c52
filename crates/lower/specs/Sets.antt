-- Scalars behind others.
use Rattle.std.specs.Prelude.{◌≡◌, Bool, List, ◌++◌, Option, None, Some, option_map, if◌then◌else◌}
use Rattle.flow.specs.declared.flow_graph.Initial.{Initial}

-- where there are any, they stand behind those before
abbrev pub AddsInitials : List Initial → Option (List Initial) → Bool → List Initial → Type 0
AddsInitials before more whole after = option_map (λ more. before ++ more) more ≡ (if whole then Some after else None)
