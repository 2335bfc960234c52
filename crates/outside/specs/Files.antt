-- What the answers of files say: whether a file was opened, whether a read failed, and what a read took.
use Rattle.std.specs.Prelude.{◌≡◌, ℕ, ◌<◌, ◌≤◌, Bool, true, false, IsTrue, List, [], ◌++◌, length, take}
use Rattle.outside.specs.declared.files.Began.{Began}
use Rattle.outside.specs.declared.files.Began.TheVariants.{Ready, Failed as Refused}
use Rattle.outside.specs.declared.files.Taken.{Taken}
use Rattle.outside.specs.declared.files.Taken.TheVariants.{Bytes, End, Failed}

-- the file was opened
abbrev pub is_ready : Began → Bool
is_ready Ready = true
is_ready Refused = false

-- the file was not opened
abbrev pub is_refused : Began → Bool
is_refused Ready = false
is_refused Refused = true

-- the read failed
abbrev pub is_failed : Taken → Bool
is_failed (Bytes n) = false
is_failed End = false
is_failed Failed = true

-- What a read says, where `before` was left of the file, `after` is left now and `buffer` is what was
-- read into: the next bytes of what is left, at least one, or its end. A failed read says nothing.
abbrev pub Takes : Bool → List ℕ → List ℕ → List ℕ → Taken → Type 0
Takes tells before after buffer (Bytes n) =
    (0 < n) × (n ≤ length buffer) × (IsTrue tells → before ≡ take n buffer ++ after)
Takes tells before after buffer End = IsTrue tells → (before ≡ []) × (after ≡ [])
Takes tells before after buffer Failed = Unit {0}
