-- What is told of the files that answer every name with the same bytes, beyond what all files tell.
use Rattle.std.specs.Prelude.{ℕ, List}
use Rattle.outside.specs.declared.steady.SteadyFiles.{SteadyFiles}

-- the name that the files were made with
abbrev pub name_of : SteadyFiles → List ℕ
name_of files = files.name
