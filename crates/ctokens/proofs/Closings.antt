-- The length of a row up to its closing mark, found byte by byte.
use Rattle.std.specs.Prelude.{◌≡◌, ℕ, ◌+◌, Bool, false, List, drop, option_map}
use Rattle.ctokens.specs.Lengths.{closing_length}
use Rattle.ctokens.specs.declared.closing.Closing.{Closing}

-- how far a reader has come: what is left decides the length
abbrev pub Leads : Closing → List ℕ → ℕ → Bool → Type 0
Leads closing text index kept = closing_length closing false text ≡ option_map (λ n. index + n) (closing_length closing kept (drop index text))
