-- Where the digits of an integer constant end and its suffix begins: no byte of the digits is one that a suffix has.
use Rattle.std.specs.Prelude.{ℕ, Bool, ◌&&◌, ◌||◌, not, List, take, drop, nat_eq}
use Rattle.std.specs.List.{list_any, prefix_len}
use Rattle.std.specs.Str.{bytes_eq}
use Rattle.cgrammar.specs.Constants.{is_unsuffixed, suffixes}

-- none of `u`, `U`, `l` and `L`
abbrev pub is_before_suffix : ℕ → Bool
is_before_suffix byte = not (nat_eq byte 117 || (nat_eq byte 85 || (nat_eq byte 108 || nat_eq byte 76)))

-- how many bytes stand before the first that a suffix has
abbrev pub digits_length : List ℕ → ℕ
digits_length bytes = prefix_len is_before_suffix bytes

-- the digits spell a constant without its suffix, and what is behind them is a suffix
abbrev pub is_integer : List ℕ → Bool
is_integer bytes = is_unsuffixed (take (digits_length bytes) bytes) && list_any (bytes_eq (drop (digits_length bytes) bytes)) suffixes
