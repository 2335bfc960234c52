-- A sink in memory: what each call of `give` answers, and how it leaves the sink.
use Rattle.std.specs.Prelude.{ℕ, ◌-◌, ◌==◌, ◌||◌, min, nat_le, Bool, if◌then◌else◌, List, ◌++◌, length, take}
use Rattle.std.specs.List.{list_any}
use Rattle.outside.specs.Faults.{counted}
use Rattle.outside.specs.declared.sink.Given.{Given}
use Rattle.outside.specs.declared.sink.Given.TheVariants.{Bytes, Failed}

-- A sink in memory: what was written, how many bytes a call takes at most, how many bytes there is room
-- for, the numbers of the calls that fail, and the counts of calls and of faults.
pub record SinkMemory : Type 0 where
  pub written : List ℕ
  pub step : ℕ
  pub room : ℕ
  pub failing : List ℕ
  pub calls : ℕ
  pub faults : ℕ

-- The next call fails: its number stands among those that fail, or no byte is free.
abbrev pub fails_next : SinkMemory → Bool
fails_next s = list_any (λ number. number == counted s.calls) s.failing || nat_le s.room (length s.written)

-- how many bytes of `piece` the next call takes, if it does not fail
abbrev pub count_of : SinkMemory → List ℕ → ℕ
count_of s piece = min (length piece) (min s.step (s.room - length s.written))

-- the answer of the next call
abbrev pub answer_of : SinkMemory → List ℕ → Given
answer_of s piece = if fails_next s then Failed else Bytes (count_of s piece)

-- the sink after the next call
abbrev pub after_give : SinkMemory → List ℕ → SinkMemory
after_give s piece =
    if fails_next s
    then record s { calls = counted s.calls; faults = counted s.faults }
    else record s { calls = counted s.calls; written = s.written ++ take (count_of s piece) piece }
