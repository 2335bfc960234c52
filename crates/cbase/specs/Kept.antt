-- Layouts as they are kept while others are computed: sizes up to a bound.
use Rattle.std.specs.Prelude.{◌<◌, ◌≤◌, min}
use Rattle.cbase.specs.declared.layout.Layout.{Layout}

-- a layout as it is kept: 65,537 stands for every larger size as well
abbrev pub capped : Layout → Layout
capped layout = record { size = min layout.size 65537; alignment = layout.alignment }

-- what the code keeps: its sums fit, and it divides by no zero
abbrev pub IsSmall : Layout → Type 0
IsSmall layout = (layout.size ≤ 65537) × (0 < layout.alignment) × (layout.alignment ≤ 8)
