-- What `no choices` means.
use Rattle.std.specs.Prelude.{ℕ, List}
use Rattle.choices.specs.declared.choice.Choice.{Choice}
use Rattle.choices.specs.Format.{SpellsChoices}

-- the bytes of CHOICES spell no list of choices
abbrev pub MeansNoChoices : List ℕ → Type 0
MeansNoChoices second = (choices : List Choice) → SpellsChoices second choices → ⊥
