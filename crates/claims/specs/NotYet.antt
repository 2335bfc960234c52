-- What `not yet` means.
use Rattle.std.specs.Prelude.{◌≡◌, ℕ, List}
use Rattle.cbase.specs.declared.place.Place.{Place}
use Rattle.ccheck.specs.Refusals.{place_at}
use Rattle.driver.specs.Calls.{IsFirstCall}
use Rattle.claims.specs.Analysed.{OnGraph}

-- the bytes hold a program, and the first call of a function that it defines stands at the place
abbrev pub MeansNotYet : List ℕ → List ℕ → Place → Type 0
MeansNotYet file bytes place = OnGraph file bytes (λ t flow. (token : Place) × IsFirstCall flow token × (place ≡ place_at t token.at))
