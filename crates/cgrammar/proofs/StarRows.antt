-- The stars at the front of a row.
use Rattle.std.proofs.Common.{◌≡◌, suc, ◌+◌, Bool, true, false, List, [], ◌∷◌, take, refl, arith, codes, cond}
use Rattle.std.specs.List.{prefix_len}
use Rattle.cgrammar.specs.Terminals.{Terminal, is_mark, AreStars}

pub stars_spelled : (row : List Terminal) → AreStars (take (prefix_len (is_mark (codes "*")) row) row)
stars_spelled [] = refl
stars_spelled (first ∷ others) = step (is_mark (codes "*") first) refl (stars_spelled others)
  where
    step : (star : Bool) → is_mark (codes "*") first ≡ star → AreStars (take (prefix_len (is_mark (codes "*")) others) others)
        → AreStars (take (cond star (1 + prefix_len (is_mark (codes "*")) others) 0) (first ∷ others))
    step true is tail =
        let one : 1 + prefix_len (is_mark (codes "*")) others ≡ suc (prefix_len (is_mark (codes "*")) others) = omega arith in
        rw one (rw is tail)
    step false is tail = refl
