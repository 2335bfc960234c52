-- Where bytes stand, byte by byte.
use Rattle.std.specs.Prelude.{◌≡◌, ℕ, ◌+◌, ◌≤◌, ◌<◌, Bool, true, false, List, length, drop, nat_eq, if◌then◌else◌}
use Rattle.std.proofs.Common.{sym, ◌∙◌, ap, get_or, arith}
use Rattle.std.proofs.lemmas.List.{at_drop_more, at_drop_all}
use Rattle.ctokens.specs.Gathered.{next_spot, spot_behind}
use Rattle.ctokens.specs.declared.progress.Spot.{Spot}

-- the place behind a newline
abbrev pub on_next_line : Spot → Spot
on_next_line spot = record { file = spot.file; line = spot.line + 1; column = 1 }

-- the place behind any other byte
abbrev pub along : Spot → Spot
along spot = record { file = spot.file; line = spot.line; column = spot.column + 1 }

-- the bytes so far lead there, and the rest goes on from there
pub record IsMoved (first : Spot) (bytes : List ℕ) (index : ℕ) (next : Spot) : Type 0 where
  pub leads : spot_behind first bytes ≡ spot_behind next (drop index bytes)
  pub line : next.line ≤ first.line + index
  pub column : next.column ≤ first.column + index

pub moved_on : (first : Spot) (bytes : List ℕ) (index byte : ℕ) (next more : Spot) → IsMoved first bytes index next → index < length bytes
    → byte ≡ get_or bytes index 0 → more ≡ next_spot next byte → IsMoved first bytes (index + 1) more
moved_on first bytes index byte next more so_far inside is is_more = rw is_more (record {
  leads = so_far.leads ∙ (at_drop_more (spot_behind next) bytes index 0 inside ∙ ap (λ (b : ℕ). spot_behind (next_spot next b) (drop (index + 1) bytes)) (sym is));
  line = lines (nat_eq byte 10);
  column = columns (nat_eq byte 10);
})
  where
    lines : (test : Bool) → (if test then on_next_line next else along next).line ≤ first.line + (index + 1)
    lines true = omega (arith, so_far.line)
    lines false = omega (arith, so_far.line)

    columns : (test : Bool) → (if test then on_next_line next else along next).column ≤ first.column + (index + 1)
    columns true = omega (arith, so_far.column)
    columns false = omega (arith, so_far.column)

pub moved_all : (first : Spot) (bytes : List ℕ) (index : ℕ) (next : Spot) → IsMoved first bytes index next → length bytes ≤ index → next ≡ spot_behind first bytes
moved_all first bytes index next so_far past = sym (so_far.leads ∙ at_drop_all (spot_behind next) bytes index past)
