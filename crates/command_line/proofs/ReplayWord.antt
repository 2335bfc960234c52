-- Each word takes the rule and the parser of `predator replay` the same way.
use Rattle.std.proofs.Common.{◌≡◌, ◌∙◌, Bool, true, false, refl, sym, ap, subst, List, [], ◌∷◌, Option, Some, None, codes}
use Rattle.std.specs.Str.{IsUtf8, bytes_eq}
use Rattle.clap.specs.Walk.{Held, Row, Walk, has_row, idle, option, settled, used, walked}
use Rattle.clap.specs.Faults.{settle_fault, use_fault}
use Rattle.clap.specs.Kinds.{or_else}
use Rattle.command_line.specs.ReplayLine.{Next, anything, files_only, model_value, steps_value}
use Rattle.command_line.specs.Words.{Word}
use Rattle.command_line.proofs.WordKinds.{IsLong, IsPlain, Kind, ends, is_long, is_plain, is_short, kind_of_word}
use Rattle.command_line.proofs.Rows.{new_row, no_row, row_for, some_row}
use Rattle.command_line.proofs.MatchRows.{file_rule}
use Rattle.command_line.proofs.ReplayRows.{Holds, choices_rule, holds_choices, holds_file, holds_model, holds_steps, holds_strict, model_rule, steps_rule, strict_rule}
use Rattle.command_line.proofs.Verdicts.{IsRefused, Pending, held, refused_first, refused_second, verdict}
use Rattle.command_line.proofs.Refusals.{end_idle, end_waiting, long_waiting, short_idle, short_waiting}
use Rattle.command_line.proofs.ReplaySteps.{Settles, Stands, Step, choices_fault, choices_held, doomed_files, doomed_idle, dooms, file_fault, file_held, goes, place, refuses, rules, seen_is, shape, walk_at, walk_of}

-- ---- files

file_passes : (word : Word) (rows : List Row) → has_row (codes "file") rows ≡ false → use_fault false file_rule (word ∷ []) rows ≡ []
file_passes word rows none = rw none refl

file_settles : (model steps : Option Word) (strict : Bool) (word : Word) (rows : List Row) → Holds [] model steps strict rows
    → Settles (word ∷ []) model steps strict rows (Some (codes "file", word ∷ []))
file_settles model steps strict word rows h =
    let none : has_row (codes "file") rows ≡ false = no_row (codes "file") rows h.file_row in
    record {
      passes = file_passes word rows none;
      holds = subst (Holds (word ∷ []) model steps strict) (sym (new_row (codes "file") word rows none)) (holds_file model steps strict word rows h);
    }

choices_pass : (word : Word) (rows : List Row) → has_row (codes "choices") rows ≡ false → use_fault false choices_rule (word ∷ []) rows ≡ []
choices_pass word rows none = rw none refl

choices_settle : (file : Word) (model steps : Option Word) (strict : Bool) (word : Word) (rows : List Row) → Holds (file ∷ []) model steps strict rows
    → Settles (file ∷ word ∷ []) model steps strict rows (Some (codes "choices", word ∷ []))
choices_settle file model steps strict word rows h =
    let none : has_row (codes "choices") rows ≡ false = no_row (codes "choices") rows h.choices_row in
    record {
      passes = choices_pass word rows none;
      holds = subst (Holds (file ∷ word ∷ []) model steps strict) (sym (new_row (codes "choices") word rows none)) (holds_choices file model steps strict word rows h);
    }

-- ---- `--model`

model_passes : (word : Word) (rows : List Row) → has_row (codes "model") rows ≡ false → use_fault false model_rule (word ∷ []) rows ≡ []
model_passes word rows none = rw none refl

model_again : (word : Word) (rows : List Row) → has_row (codes "model") rows ≡ true → IsRefused (use_fault false model_rule (word ∷ []) rows)
model_again word rows there = rw there tt

model_settles : (files : List Word) (steps : Option Word) (strict : Bool) (word : Word) (rows : List Row) → Holds files None steps strict rows
    → Settles files (Some word) steps strict rows (Some (codes "model", word ∷ []))
model_settles files steps strict word rows h =
    let none : has_row (codes "model") rows ≡ false = no_row (codes "model") rows h.model_row in
    record {
      passes = model_passes word rows none;
      holds = subst (Holds files (Some word) steps strict) (sym (new_row (codes "model") word rows none)) (holds_model files steps strict word rows h);
    }

model_used : (files : List Word) (steps : Option Word) (strict : Bool) (word : Word) (rows : List Row) → Holds files None steps strict rows
    → Settles files (Some word) steps strict (used model_rule (word ∷ []) rows) None
model_used files steps strict word rows h =
    let none : has_row (codes "model") rows ≡ false = no_row (codes "model") rows h.model_row in
    record {
      passes = refl;
      holds = subst (Holds files (Some word) steps strict) (sym (new_row (codes "model") word rows none)) (holds_model files steps strict word rows h);
    }

-- ---- `--steps`

steps_passes : (word : Word) (rows : List Row) → has_row (codes "steps") rows ≡ false → use_fault false steps_rule (word ∷ []) rows ≡ []
steps_passes word rows none = rw none refl

steps_again : (word : Word) (rows : List Row) → has_row (codes "steps") rows ≡ true → IsRefused (use_fault false steps_rule (word ∷ []) rows)
steps_again word rows there = rw there tt

steps_settles : (files : List Word) (model : Option Word) (strict : Bool) (word : Word) (rows : List Row) → Holds files model None strict rows
    → Settles files model (Some word) strict rows (Some (codes "steps", word ∷ []))
steps_settles files model strict word rows h =
    let none : has_row (codes "steps") rows ≡ false = no_row (codes "steps") rows h.steps_row in
    record {
      passes = steps_passes word rows none;
      holds = subst (Holds files model (Some word) strict) (sym (new_row (codes "steps") word rows none)) (holds_steps files model strict word rows h);
    }

steps_used : (files : List Word) (model : Option Word) (strict : Bool) (word : Word) (rows : List Row) → Holds files model None strict rows
    → Settles files model (Some word) strict (used steps_rule (word ∷ []) rows) None
steps_used files model strict word rows h =
    let none : has_row (codes "steps") rows ≡ false = no_row (codes "steps") rows h.steps_row in
    record {
      passes = refl;
      holds = subst (Holds files model (Some word) strict) (sym (new_row (codes "steps") word rows none)) (holds_steps files model strict word rows h);
    }

-- ---- `--strict`

strict_passes : (rows : List Row) → has_row (codes "strict") rows ≡ false → use_fault false strict_rule [] rows ≡ []
strict_passes rows none = rw none refl

strict_again : (rows : List Row) → has_row (codes "strict") rows ≡ true → IsRefused (use_fault false strict_rule [] rows)
strict_again rows there = rw there tt

strict_used : (files : List Word) (model steps : Option Word) (rows : List Row) → Holds files model steps false rows
    → Settles files model steps true (used strict_rule [] rows) None
strict_used files model steps rows h =
    let none : has_row (codes "strict") rows ≡ false = no_row (codes "strict") rows h.strict_row in
    record {
      passes = refl;
      holds = subst (Holds files model steps true) (sym (new_row (codes "strict") (codes "true") rows none)) (holds_strict files model steps rows h);
    }

-- ---- any word may come

free_model : (files : List Word) (model steps : Option Word) (strict : Bool) (rows : List Row) (p : Pending) → Settles files model steps strict rows p → (word name : Word) (given : Option Word) → IsLong word name given
    → bytes_eq (codes "model") name ≡ true → Step (seen_is files model steps strict anything) (walk_at (held rows p) idle files false) word
unfolding walked
free_model files model steps strict rows p st word name None l is_m = goes (seen_is files model steps strict model_value) (settled rules (held rows p)).rows None
    (rw (l.no_end, l.hyphen, l.name_is, l.value_is, is_m) refl)
    (rw (l.no_end, l.long, is_m) (ap (λ a. or_else a []) st.passes))
    (rw (l.no_end, l.long, is_m) refl)
    st.holds
free_model files None steps strict rows p st word name (Some x) l is_m =
    let now = (settled rules (held rows p)).rows in
    let fault = use_fault false model_rule (x ∷ []) now in
    let none : has_row (codes "model") now ≡ false = no_row (codes "model") now st.holds.model_row in
    let no_fault : or_else (or_else (settle_fault rules false (held rows p)) fault) [] ≡ [] =
    ap (λ a. or_else (or_else a fault) []) st.passes ∙ ap (λ a. or_else a []) (model_passes x now none) in
    goes (seen_is files (Some x) steps strict anything) (used model_rule (x ∷ []) now) None
    (rw (l.no_end, l.hyphen, l.name_is, l.value_is, is_m) refl)
    (rw (l.no_end, l.long, is_m) no_fault)
    (rw (l.no_end, l.long, is_m) refl)
    (model_used files steps strict x now st.holds)
free_model files (Some old) steps strict rows p st word name (Some x) l is_m =
    let now = (settled rules (held rows p)).rows in
    let fault = use_fault false model_rule (x ∷ []) now in
    let there : has_row (codes "model") now ≡ true = some_row (codes "model") now (row_for (codes "model") old) st.holds.model_row in
    let bad : IsRefused (or_else (or_else (settle_fault rules false (held rows p)) fault) []) =
    refused_first (or_else (settle_fault rules false (held rows p)) fault) [] (refused_second (settle_fault rules false (held rows p)) fault (model_again x now there)) in
    refuses (rw (l.no_end, l.hyphen, l.name_is, l.value_is, is_m) refl) (rw (l.no_end, l.long, is_m) bad)

free_steps : (files : List Word) (model steps : Option Word) (strict : Bool) (rows : List Row) (p : Pending) → Settles files model steps strict rows p → (word name : Word) (given : Option Word) → IsLong word name given
    → bytes_eq (codes "model") name ≡ false → bytes_eq (codes "steps") name ≡ true → Step (seen_is files model steps strict anything) (walk_at (held rows p) idle files false) word
unfolding walked
free_steps files model steps strict rows p st word name None l is_m is_t = goes (seen_is files model steps strict steps_value) (settled rules (held rows p)).rows None
    (rw (l.no_end, l.hyphen, l.name_is, l.value_is, is_m, is_t) refl)
    (rw (l.no_end, l.long, is_m, is_t) (ap (λ a. or_else a []) st.passes))
    (rw (l.no_end, l.long, is_m, is_t) refl)
    st.holds
free_steps files model None strict rows p st word name (Some x) l is_m is_t =
    let now = (settled rules (held rows p)).rows in
    let fault = use_fault false steps_rule (x ∷ []) now in
    let none : has_row (codes "steps") now ≡ false = no_row (codes "steps") now st.holds.steps_row in
    let no_fault : or_else (or_else (settle_fault rules false (held rows p)) fault) [] ≡ [] =
    ap (λ a. or_else (or_else a fault) []) st.passes ∙ ap (λ a. or_else a []) (steps_passes x now none) in
    goes (seen_is files model (Some x) strict anything) (used steps_rule (x ∷ []) now) None
    (rw (l.no_end, l.hyphen, l.name_is, l.value_is, is_m, is_t) refl)
    (rw (l.no_end, l.long, is_m, is_t) no_fault)
    (rw (l.no_end, l.long, is_m, is_t) refl)
    (steps_used files model strict x now st.holds)
free_steps files model (Some old) strict rows p st word name (Some x) l is_m is_t =
    let now = (settled rules (held rows p)).rows in
    let fault = use_fault false steps_rule (x ∷ []) now in
    let there : has_row (codes "steps") now ≡ true = some_row (codes "steps") now (row_for (codes "steps") old) st.holds.steps_row in
    let bad : IsRefused (or_else (or_else (settle_fault rules false (held rows p)) fault) []) =
    refused_first (or_else (settle_fault rules false (held rows p)) fault) [] (refused_second (settle_fault rules false (held rows p)) fault (steps_again x now there)) in
    refuses (rw (l.no_end, l.hyphen, l.name_is, l.value_is, is_m, is_t) refl) (rw (l.no_end, l.long, is_m, is_t) bad)

free_strict : (files : List Word) (model steps : Option Word) (strict : Bool) (rows : List Row) (p : Pending) → Settles files model steps strict rows p → (word name : Word) (given : Option Word) → IsLong word name given
    → bytes_eq (codes "model") name ≡ false → bytes_eq (codes "steps") name ≡ false → bytes_eq (codes "strict") name ≡ true → Step (seen_is files model steps strict anything) (walk_at (held rows p) idle files false) word
unfolding walked
free_strict files model steps strict rows p st word name (Some x) l is_m is_t is_s = refuses (rw (l.no_end, l.hyphen, l.name_is, l.value_is, is_m, is_t, is_s) refl) (rw (l.no_end, l.long, is_m, is_t, is_s) tt)
free_strict files model steps false rows p st word name None l is_m is_t is_s =
    let now = (settled rules (held rows p)).rows in
    let fault = use_fault false strict_rule [] now in
    let none : has_row (codes "strict") now ≡ false = no_row (codes "strict") now st.holds.strict_row in
    let no_fault : or_else (or_else (settle_fault rules false (held rows p)) fault) [] ≡ [] =
    ap (λ a. or_else (or_else a fault) []) st.passes ∙ ap (λ a. or_else a []) (strict_passes now none) in
    goes (seen_is files model steps true anything) (used strict_rule [] now) None
    (rw (l.no_end, l.hyphen, l.name_is, l.value_is, is_m, is_t, is_s) refl)
    (rw (l.no_end, l.long, is_m, is_t, is_s) no_fault)
    (rw (l.no_end, l.long, is_m, is_t, is_s) refl)
    (strict_used files model steps now st.holds)
free_strict files model steps true rows p st word name None l is_m is_t is_s =
    let now = (settled rules (held rows p)).rows in
    let fault = use_fault false strict_rule [] now in
    let there : has_row (codes "strict") now ≡ true = some_row (codes "strict") now (row_for (codes "strict") (codes "true")) st.holds.strict_row in
    let bad : IsRefused (or_else (or_else (settle_fault rules false (held rows p)) fault) []) =
    refused_first (or_else (settle_fault rules false (held rows p)) fault) [] (refused_second (settle_fault rules false (held rows p)) fault (strict_again now there)) in
    refuses (rw (l.no_end, l.hyphen, l.name_is, l.value_is, is_m, is_t, is_s) refl) (rw (l.no_end, l.long, is_m, is_t, is_s) bad)

free_long : (files : List Word) (model steps : Option Word) (strict : Bool) (rows : List Row) (p : Pending) → Settles files model steps strict rows p → (word name : Word) (given : Option Word) → IsLong word name given
    → (m : Bool) → bytes_eq (codes "model") name ≡ m → (t : Bool) → bytes_eq (codes "steps") name ≡ t → (s : Bool) → bytes_eq (codes "strict") name ≡ s
    → Step (seen_is files model steps strict anything) (walk_at (held rows p) idle files false) word
free_long files model steps strict rows p st word name given l true is_m t is_t s is_s = free_model files model steps strict rows p st word name given l is_m
free_long files model steps strict rows p st word name given l false is_m true is_t s is_s = free_steps files model steps strict rows p st word name given l is_m is_t
free_long files model steps strict rows p st word name given l false is_m false is_t true is_s = free_strict files model steps strict rows p st word name given l is_m is_t is_s
free_long files model steps strict rows p st word name given l false is_m false is_t false is_s =
    refuses (rw (l.no_end, l.hyphen, l.name_is, l.value_is, is_m, is_t, is_s) refl) (rw (l.no_end, l.long, is_m, is_t, is_s) tt)

free_plain : (files : List Word) (model steps : Option Word) (strict : Bool) (rows : List Row) (p : Pending) → Settles files model steps strict rows p → (word : Word) → IsPlain word
    → Step (seen_is files model steps strict anything) (walk_at (held rows p) idle files false) word
unfolding walked
free_plain [] model steps strict rows p st word q = goes (seen_is (word ∷ []) model steps strict anything) (settled rules (held rows p)).rows (Some (codes "file", word ∷ []))
    (rw (q.no_end, q.no_hyphen) refl)
    (rw (q.no_end, q.no_long, q.no_short) (file_fault (held rows p) ∙ st.passes))
    (rw (q.no_end, q.no_long, q.no_short) (ap (λ (h : Held). walk_at h idle (word ∷ []) false) (file_held (held rows p) word)))
    (file_settles model steps strict word (settled rules (held rows p)).rows st.holds)
free_plain (file ∷ []) model steps strict rows p st word q = goes (seen_is (file ∷ word ∷ []) model steps strict anything) (settled rules (held rows p)).rows (Some (codes "choices", word ∷ []))
    (rw (q.no_end, q.no_hyphen) refl)
    (rw (q.no_end, q.no_long, q.no_short) (choices_fault (held rows p) ∙ st.passes))
    (rw (q.no_end, q.no_long, q.no_short) (ap (λ (h : Held). walk_at h idle (file ∷ word ∷ []) false) (choices_held (held rows p) word)))
    (choices_settle file model steps strict word (settled rules (held rows p)).rows st.holds)
free_plain (file ∷ choices ∷ more) model steps strict rows p st word q = refuses (rw (q.no_end, q.no_hyphen) refl) (rw (q.no_end, q.no_long, q.no_short) tt)

free_word : (files : List Word) (model steps : Option Word) (strict : Bool) (rows : List Row) (p : Pending) → Settles files model steps strict rows p → (word : Word) → Kind word
    → Step (seen_is files model steps strict anything) (walk_at (held rows p) idle files false) word
free_word files model steps strict rows p st word (ends is) = subst (Step (seen_is files model steps strict anything) (walk_at (held rows p) idle files false)) (sym is)
    (goes (seen_is files model steps strict files_only) rows p refl refl (end_idle rules (held rows p) (place files)) st)
free_word files model steps strict rows p st word (is_long name given l) =
    free_long files model steps strict rows p st word name given l (bytes_eq (codes "model") name) refl (bytes_eq (codes "steps") name) refl (bytes_eq (codes "strict") name) refl
free_word files model steps strict rows p st word (is_short letter flag flags is) =
    refuses (rw (is.no_end, is.hyphen, is.no_option (codes "model"), is.no_option (codes "steps"), is.no_option (codes "strict")) refl)
    (short_idle shape (λ x. refl) rows p (place files) word letter flag flags is)
free_word files model steps strict rows p st word (is_plain q) = free_plain files model steps strict rows p st word q

-- ---- each word is a file

file_word : (files : List Word) (model steps : Option Word) (strict : Bool) (rows : List Row) (p : Pending) → Settles files model steps strict rows p → (word : Word)
    → Step (seen_is files model steps strict files_only) (walk_at (held rows p) idle files true) word
unfolding walked
file_word [] model steps strict rows p st word = goes (seen_is (word ∷ []) model steps strict files_only) (settled rules (held rows p)).rows (Some (codes "file", word ∷ []))
    refl (file_fault (held rows p) ∙ st.passes)
    (ap (λ (h : Held). walk_at h idle (word ∷ []) true) (file_held (held rows p) word))
    (file_settles model steps strict word (settled rules (held rows p)).rows st.holds)
file_word (file ∷ []) model steps strict rows p st word = goes (seen_is (file ∷ word ∷ []) model steps strict files_only) (settled rules (held rows p)).rows (Some (codes "choices", word ∷ []))
    refl (choices_fault (held rows p) ∙ st.passes)
    (ap (λ (h : Held). walk_at h idle (file ∷ word ∷ []) true) (choices_held (held rows p) word))
    (choices_settle file model steps strict word (settled rules (held rows p)).rows st.holds)
file_word (file ∷ choices ∷ more) model steps strict rows p st word = refuses refl tt

-- ---- an option waits for its value

model_plain : (files : List Word) (model steps : Option Word) (strict : Bool) (rows : List Row) → Holds files model steps strict rows → (word : Word) → IsPlain word
    → Step (seen_is files model steps strict model_value) (walk_at (held rows (Some (codes "model", []))) (option (codes "model")) files false) word
unfolding walked
model_plain files None steps strict rows h word q = goes (seen_is files (Some word) steps strict anything) rows (Some (codes "model", word ∷ []))
    (rw q.no_hyphen refl) (rw (q.no_end, q.no_long, q.no_short) refl) (rw (q.no_end, q.no_long, q.no_short) refl)
    (model_settles files steps strict word rows h)
model_plain files (Some old) steps strict rows h word q =
    let w = walk_at (held rows (Some (codes "model", []))) (option (codes "model")) files false in
    let there : has_row (codes "model") rows ≡ true = some_row (codes "model") rows (row_for (codes "model") old) h.model_row in
    let goes_to : walked rules [] w word ≡ walk_at (held rows (Some (codes "model", word ∷ []))) idle files false = rw (q.no_end, q.no_long, q.no_short) refl in
    dooms (rw q.no_hyphen refl) (λ rest texts. subst (λ (v : Walk). IsRefused (verdict shape v rest)) (sym goes_to)
    (doomed_idle rows (Some (codes "model", word ∷ [])) files (model_again word rows there) rest texts))

model_word : (files : List Word) (model steps : Option Word) (strict : Bool) (rows : List Row) → Holds files model steps strict rows → (word : Word) → Kind word
    → Step (seen_is files model steps strict model_value) (walk_at (held rows (Some (codes "model", []))) (option (codes "model")) files false) word
model_word files model steps strict rows h word (ends is) =
    let w = walk_at (held rows (Some (codes "model", []))) (option (codes "model")) files false in
    subst (Step (seen_is files model steps strict model_value) w) (sym is) (dooms refl (λ rest texts. subst (λ (v : Walk). IsRefused (verdict shape v rest))
    (sym (end_waiting rules (held rows (Some (codes "model", []))) (codes "model") (place files))) (doomed_files (held rows (Some (codes "model", []))) (option (codes "model")) files tt rest)))
model_word files model steps strict rows h word (is_long name given l) = refuses (rw l.hyphen refl)
    (long_waiting shape (held rows (Some (codes "model", []))) (codes "model") (place files) word name given l tt)
model_word files model steps strict rows h word (is_short letter flag flags is) = refuses (rw is.hyphen refl)
    (short_waiting shape (λ x. refl) rows (Some (codes "model", [])) (codes "model") (place files) word letter flag flags is)
model_word files model steps strict rows h word (is_plain q) = model_plain files model steps strict rows h word q

steps_plain : (files : List Word) (model steps : Option Word) (strict : Bool) (rows : List Row) → Holds files model steps strict rows → (word : Word) → IsPlain word
    → Step (seen_is files model steps strict steps_value) (walk_at (held rows (Some (codes "steps", []))) (option (codes "steps")) files false) word
unfolding walked
steps_plain files model None strict rows h word q = goes (seen_is files model (Some word) strict anything) rows (Some (codes "steps", word ∷ []))
    (rw q.no_hyphen refl) (rw (q.no_end, q.no_long, q.no_short) refl) (rw (q.no_end, q.no_long, q.no_short) refl)
    (steps_settles files model strict word rows h)
steps_plain files model (Some old) strict rows h word q =
    let w = walk_at (held rows (Some (codes "steps", []))) (option (codes "steps")) files false in
    let there : has_row (codes "steps") rows ≡ true = some_row (codes "steps") rows (row_for (codes "steps") old) h.steps_row in
    let goes_to : walked rules [] w word ≡ walk_at (held rows (Some (codes "steps", word ∷ []))) idle files false = rw (q.no_end, q.no_long, q.no_short) refl in
    dooms (rw q.no_hyphen refl) (λ rest texts. subst (λ (v : Walk). IsRefused (verdict shape v rest)) (sym goes_to)
    (doomed_idle rows (Some (codes "steps", word ∷ [])) files (steps_again word rows there) rest texts))

steps_word : (files : List Word) (model steps : Option Word) (strict : Bool) (rows : List Row) → Holds files model steps strict rows → (word : Word) → Kind word
    → Step (seen_is files model steps strict steps_value) (walk_at (held rows (Some (codes "steps", []))) (option (codes "steps")) files false) word
steps_word files model steps strict rows h word (ends is) =
    let w = walk_at (held rows (Some (codes "steps", []))) (option (codes "steps")) files false in
    subst (Step (seen_is files model steps strict steps_value) w) (sym is) (dooms refl (λ rest texts. subst (λ (v : Walk). IsRefused (verdict shape v rest))
    (sym (end_waiting rules (held rows (Some (codes "steps", []))) (codes "steps") (place files))) (doomed_files (held rows (Some (codes "steps", []))) (option (codes "steps")) files tt rest)))
steps_word files model steps strict rows h word (is_long name given l) = refuses (rw l.hyphen refl)
    (long_waiting shape (held rows (Some (codes "steps", []))) (codes "steps") (place files) word name given l tt)
steps_word files model steps strict rows h word (is_short letter flag flags is) = refuses (rw is.hyphen refl)
    (short_waiting shape (λ x. refl) rows (Some (codes "steps", [])) (codes "steps") (place files) word letter flag flags is)
steps_word files model steps strict rows h word (is_plain q) = steps_plain files model steps strict rows h word q

-- ---- whatever may come

pub one_word : (next_is : Next) (files : List Word) (model steps : Option Word) (strict : Bool) (rows : List Row) (p : Pending) → Stands next_is files model steps strict rows p → (word : Word) → IsUtf8 word
    → Step (seen_is files model steps strict next_is) (walk_of next_is files rows p) word
one_word anything files model steps strict rows p st word text = free_word files model steps strict rows p st word (kind_of_word word text)
one_word files_only files model steps strict rows p st word text = file_word files model steps strict rows p st word
one_word model_value files model steps strict rows p st word text = model_word files model steps strict rows st word (kind_of_word word text)
one_word steps_value files model steps strict rows p st word text = steps_word files model steps strict rows st word (kind_of_word word text)
