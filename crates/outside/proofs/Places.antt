use Rattle.std.proofs.Common.{◌≡◌, ℕ, ◌<◌, ◌≤◌, Bool, true, false, cond, List, [], None, Some, length, slice_get, refl, subst, ltb, arith}
use Rattle.std.specs.List.{position_from, position_or_len}
use Rattle.std.specs.Option.{option_map}
use Rattle.std.proofs.lemmas.Bool.Decides.{nat_tests}
use Rattle.std.proofs.lemmas.Iterator.Adapters.{position_from-zero}
use Rattle.std.proofs.lemmas.List.Folds.{find_at}
use Rattle.std.proofs.lemmas.Option.{slice_get_past, slice_get-get_or}
use Rattle.outside.specs.declared.memory_files.NamedFile.{NamedFile}
use Rattle.outside.specs.MemoryFiles.{bytes_at, content_of, is_named}

-- the bytes at a place, where it lies within the files, are those of the file there
bytes_within : (files : List NamedFile) (at : ℕ) (within : Bool) → within ≡ ltb at (length files) → option_map (bytes_at files) (cond within (Some at) None) ≡ option_map (λ file. file.bytes) (slice_get files at)
bytes_within files at true is =
    let before : at < length files = grind (arith, nat_tests) in
    let none : NamedFile = record { name = []; bytes = [] } in
    rw (slice_get-get_or files at none before) refl
bytes_within files at false is =
    let past : length files ≤ at = grind (arith, nat_tests) in
    rw (slice_get_past files at past) refl

-- the bytes at the first place of a name are those of the first file of the name
pub bytes_found : (files : List NamedFile) (name : List ℕ) → option_map (bytes_at files) (position_from (is_named name) 0 files) ≡ content_of files name
bytes_found files name =
    let at = position_or_len (is_named name) files in
    subst (λ place. option_map (bytes_at files) place ≡ content_of files name) (position_from-zero (is_named name) files)
    (rw (find_at (is_named name) files) (bytes_within files at (ltb at (length files)) refl))
