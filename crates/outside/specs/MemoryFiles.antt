-- Files in memory: what each call of `begin` and `take` answers, and how it leaves them.
use Rattle.std.specs.Prelude.{ℕ, ◌==◌, ◌||◌, min, Bool, true, false, if◌then◌else◌, Option, None, Some, is_none, unwrap_or, find, List, [], ◌++◌, length, take, drop, slice_get, nat_eq}
use Rattle.std.specs.List.{list_any}
use Rattle.std.specs.Option.{option_map, option_map_or}
use Rattle.std.specs.Cmp.Lexicographic.{pointwise}
use Rattle.outside.specs.Faults.{counted}
use Rattle.outside.specs.declared.files.Began.{Began}
use Rattle.outside.specs.declared.files.Began.TheVariants.{Ready, Failed as Refused}
use Rattle.outside.specs.declared.files.Taken.{Taken}
use Rattle.outside.specs.declared.files.Taken.TheVariants.{Bytes, End, Failed}
use Rattle.outside.specs.declared.memory_files.NamedFile.{NamedFile}

-- Files in memory: the files, how many bytes a call gives at most, the numbers of the calls that fail, the
-- name of the last opening and whether it succeeded, what is left of the open file, whether the last call
-- failed, and the counts of calls, of openings and of faults.
pub record FilesMemory : Type 0 where
  pub files : List NamedFile
  pub step : ℕ
  pub failing : List ℕ
  pub begun : List ℕ
  pub ready : Bool
  pub left : List ℕ
  pub failed : Bool
  pub calls : ℕ
  pub openings : ℕ
  pub faults : ℕ

-- the file has the name
abbrev pub is_named : List ℕ → NamedFile → Bool
is_named name file = pointwise nat_eq file.name name

-- the bytes of the first file of the name, where there is one
abbrev pub content_of : List NamedFile → List ℕ → Option (List ℕ)
content_of files name = option_map (λ file. file.bytes) (find (is_named name) files)

-- the bytes of the file that stands at `at`
abbrev pub bytes_at : List NamedFile → ℕ → List ℕ
bytes_at files at = option_map_or (λ file. file.bytes) (slice_get files at) []

-- what is left of the open file, which stands at a place, behind its first `position` bytes
abbrev pub left_at : List NamedFile → Option ℕ → ℕ → List ℕ
left_at files None position = []
left_at files (Some at) position = drop position (bytes_at files at)

-- the number of the next call stands among those that fail
abbrev pub fails_next : FilesMemory → Bool
fails_next s = list_any (λ number. number == counted s.calls) s.failing

-- The next call, a `begin` of `name`, fails: by its number, or because no file has the name.
abbrev pub begin_fails : FilesMemory → List ℕ → Bool
begin_fails s name = fails_next s || is_none (content_of s.files name)

-- the answer of the next call, a `begin` of `name`
abbrev pub began_of : FilesMemory → List ℕ → Began
began_of s name = if begin_fails s name then Refused else Ready

-- The files after the next call, a `begin` of `name`. Where it fails no file is open.
abbrev pub after_begin : FilesMemory → List ℕ → FilesMemory
after_begin s name =
    if begin_fails s name
    then record s {
      begun = name;
      ready = false;
      left = [];
      failed = true;
      calls = counted s.calls;
      openings = counted s.openings;
      faults = counted s.faults;
    }
    else record s { begun = name; ready = true; left = unwrap_or (content_of s.files name) []; failed = false; calls = counted s.calls; openings = counted s.openings }

-- how many bytes the next call, a `take` into `buffer`, gives, if it does not fail
abbrev pub count_of : FilesMemory → List ℕ → ℕ
count_of s buffer = min s.step (min (length buffer) (length s.left))

-- The answer of the next call, a `take` into `buffer`. It fails only by its number.
abbrev pub taken_of : FilesMemory → List ℕ → Taken
taken_of s buffer = if fails_next s then Failed else if length s.left == 0 then End else Bytes (count_of s buffer)

-- The buffer after the next call, a `take` into it. Behind the bytes that were read it stays as it was.
abbrev pub buffer_after : FilesMemory → List ℕ → List ℕ
buffer_after s buffer =
    if fails_next s
    then buffer
    else take (count_of s buffer) s.left ++ drop (count_of s buffer) buffer

-- The files after the next call, a `take` into `buffer`. Where it fails, what is left stays as it was.
abbrev pub after_take : FilesMemory → List ℕ → FilesMemory
after_take s buffer =
    if fails_next s
    then record s { failed = true; calls = counted s.calls; faults = counted s.faults }
    else record s { left = drop (count_of s buffer) s.left; failed = false; calls = counted s.calls }
