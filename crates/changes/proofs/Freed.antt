-- The number of the next block is free: no object has it, once absent blocks of dead objects have other numbers.
use Rattle.std.proofs.Common.{◌≡◌, ◌≢◌, ℕ, suc, ◌-◌, ◌<◌, ◌≤◌, Bool, true, false, List, map, length, nat_lt, Option, None, Some, refl, sym, ◌∙◌, ap, ltb-true, ltb-false, lt-ltb, arith}
use Rattle.std.specs.Prelude.{option_map, slice_get, if◌then◌else◌}
use Rattle.std.proofs.lemmas.Option.{same_Some, none-some, slice_get-map}
use Rattle.graph.specs.DeadBlocks.{with_numbers}
use Rattle.graph.specs.State.{State, IsState}
use Rattle.graph.specs.Meaning.{Maps, Assignment, Meets}
use Rattle.graph.proofs.Absent.{absent_elsewhere}

-- numbers from a bound on move up by one
abbrev pub above : ℕ → ℕ → ℕ
above bound number = if nat_lt number bound then number else suc number

abbrev pub below_again : ℕ → ℕ → ℕ
below_again bound number = if nat_lt number bound then number else number - 1

above_low : (bound number : ℕ) → number < bound → above bound number ≡ number
above_low bound number below = ap (λ (b : Bool). if b then number else suc number) (lt-ltb number bound below)

not_below : (number bound : ℕ) → bound ≤ number → nat_lt number bound ≡ false
not_below number bound over = by_test (nat_lt number bound) refl
  where
    by_test : (b : Bool) → nat_lt number bound ≡ b → nat_lt number bound ≡ false
    by_test true is = let l = ltb-true _ _ is in absurd (omega arith)
    by_test false is = is

above_high : (bound number : ℕ) → bound ≤ number → bound ≤ above bound number
above_high bound number over = by_test (nat_lt number bound) (not_below number bound over)
  where
    by_test : (b : Bool) → b ≡ false → bound ≤ (if b then number else suc number)
    by_test false is = omega arith
    by_test true is = over

there_and_back : (bound number : ℕ) → below_again bound (above bound number) ≡ number
there_and_back bound number = by_test (nat_lt number bound) refl
  where
    by_test : (b : Bool) → nat_lt number bound ≡ b → below_again bound (if b then number else suc number) ≡ number
    by_test true is = ap (λ (b : Bool). if b then number else number - 1) is
    by_test false is = ap (λ (b : Bool). if b then suc number else suc number - 1) (not_below (suc number) bound (let l = ltb-false _ _ is in omega arith)) ∙ omega arith

-- no number becomes the bound
misses : (bound number : ℕ) → above bound number ≢ bound
misses bound number = by_test (nat_lt number bound) refl
  where
    by_test : (b : Bool) → nat_lt number bound ≡ b → (if b then number else suc number) ≢ bound
    by_test true is same = let l = ltb-true _ _ is in absurd (omega arith)
    by_test false is same = let l = ltb-false _ _ is in absurd (omega arith)

never : (bound : ℕ) (blocks : List ℕ) (place : ℕ) → slice_get (map (above bound) blocks) place ≢ Some bound
never bound blocks place stands = by_found (slice_get blocks place) (sym (slice_get-map (above bound) blocks place) ∙ stands)
  where
    by_found : (found : Option ℕ) → option_map (above bound) found ≡ Some bound → ⊥
    by_found None is = none-some bound is
    by_found (Some number) is = misses bound number (same_Some _ _ is)

-- words and blocks may be chosen so that no object has the number of the next block
pub record IsFreed (maps : Maps) (state : State) : Type 0 where
  pub given : Assignment
  pub meets : Meets maps state given
  pub free : (key place : ℕ) → slice_get (given.blocks key) place ≢ Some (length state.memory)

pub freed : (maps : Maps) (state : State) (given : Assignment) → IsState state → Meets maps state given → IsFreed maps state
freed maps state given is meets = record {
  given = with_numbers (above (length state.memory)) (below_again (length state.memory)) given;
  meets = absent_elsewhere state is (above (length state.memory)) (below_again (length state.memory)) (there_and_back (length state.memory)) (above_low (length state.memory)) (above_high (length state.memory)) maps given meets;
  free = λ key place. never (length state.memory) (given.blocks key) place;
}
