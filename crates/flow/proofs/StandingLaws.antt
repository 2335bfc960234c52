-- What stands behind an instruction, as the code computes it.
use Rattle.std.proofs.Common.{◌≡◌, ℕ, List, [], ◌∷◌, length, take, map, refl, ap}
use Rattle.flow.specs.declared.flow_graph.Flow.{Flow}
use Rattle.flow.specs.Standing.{any, arguments_asked}

-- the registers of what the end of a full expression asks for
pub finish_empties : (registers : List ℕ) → map (λ asked. asked.register) (map any registers) ≡ registers
finish_empties [] = refl
finish_empties (first ∷ rest) = ap (λ (more : List ℕ). first ∷ more) (finish_empties rest)

-- the registers of what a call asks for: those of the arguments that have a parameter
pub call_empties : (flow : Flow) (arguments variables : List ℕ) →
    map (λ asked. asked.register) (arguments_asked flow arguments variables) ≡ take (length variables) arguments
call_empties flow [] [] = refl
call_empties flow [] (variable ∷ variables) = refl
call_empties flow (first ∷ rest) [] = refl
call_empties flow (first ∷ rest) (variable ∷ variables) = ap (λ (more : List ℕ). first ∷ more) (call_empties flow rest variables)
