-- Ways from first places to others, each place leading on to some.
use Rattle.std.specs.Prelude.{ℕ, zero, suc, Bool, false, ◌&&◌, ◌||◌, List, nat_eq}
use Rattle.std.specs.List.{list_any}

-- whether some number below a bound passes a test
abbrev pub some_below : ℕ → (ℕ → Bool) → Bool
some_below zero test = false
some_below (suc bound) test = test bound || some_below bound test

-- whether a way of at most so many steps between the first `count` places leads to a place
unfoldable pub is_led_within : ℕ → ℕ → List ℕ → (ℕ → List ℕ) → ℕ → Bool
is_led_within zero count first next place = list_any (nat_eq place) first
is_led_within (suc steps) count first next place =
    list_any (nat_eq place) first || some_below count (λ from. list_any (nat_eq place) (next from) && is_led_within steps count first next from)

-- whether a way leads to a place: one that passes no place twice has at most as many steps as there are places
abbrev pub is_led_to : ℕ → List ℕ → (ℕ → List ℕ) → ℕ → Bool
is_led_to count first next place = is_led_within count count first next place
