-- Bounds of what the pieces of a text give, so that its numbers fit 32 bits.
use Rattle.std.specs.Prelude.{◌+◌, ◌≤◌, length}
use Rattle.ctokens.specs.InText.{most_bytes}
use Rattle.ctokens.specs.declared.progress.Progress.{Progress}

-- what pieces of a text of at most 4,194,304 bytes give is so large at most
pub record HasRoom (progress : Progress) : Type 0 where
  pub bytes : progress.from ≤ most_bytes
  pub line : progress.spot.line ≤ 2147483647 + progress.from
  pub column : progress.spot.column ≤ progress.from + 1
  pub tokens : length progress.list ≤ progress.from
  pub files : length progress.names ≤ progress.from + 1
