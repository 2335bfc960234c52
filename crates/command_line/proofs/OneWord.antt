-- Each word takes the rule and the parser the same way.
use Rattle.std.proofs.Common.{◌≡◌, ◌∙◌, Bool, true, false, refl, sym, ap, subst, List, [], ◌∷◌, Option, Some, None, codes}
use Rattle.std.specs.Str.{IsUtf8, bytes_eq}
use Rattle.clap.specs.Walk.{Held, Row, Walk, has_row, idle, option, settled, used, walked}
use Rattle.clap.specs.Faults.{settle_fault, use_fault}
use Rattle.clap.specs.Kinds.{or_else}
use Rattle.command_line.specs.CommandLine.{Next, anything, budget_value, files, int_limit_value}
use Rattle.command_line.specs.Words.{Word}
use Rattle.command_line.proofs.WordKinds.{IsLong, IsPlain, Kind, ends, is_long, is_plain, is_short, kind_of_word}
use Rattle.command_line.proofs.Rows.{new_row, no_row, row_for, some_row}
use Rattle.command_line.proofs.MatchRows.{Holds, budget_rule, file_rule, holds_budget, holds_file, holds_int_limit, int_limit_rule}
use Rattle.command_line.proofs.Verdicts.{IsRefused, Pending, held, refused_first, refused_second, verdict}
use Rattle.command_line.proofs.Refusals.{end_idle, end_waiting, long_waiting, short_idle, short_waiting}
use Rattle.command_line.proofs.Verdict.{file_fault, file_held, place, rules, shape, walk_at}
use Rattle.command_line.proofs.Steps.{Settles, Stands, Step, doomed_files, doomed_idle, dooms, goes, refuses, seen_is, walk_of}

-- ---- file

file_passes : (word : Word) (rows : List Row) → has_row (codes "file") rows ≡ false → use_fault false file_rule (word ∷ []) rows ≡ []
file_passes word rows none = rw none refl

file_settles : (budget int_limit : Option Word) (word : Word) (rows : List Row) → Holds None budget int_limit rows
    → Settles (Some word) budget int_limit rows (Some (codes "file", word ∷ []))
file_settles budget int_limit word rows h =
    let none : has_row (codes "file") rows ≡ false = no_row (codes "file") rows h.file_row in
    record {
      passes = file_passes word rows none;
      holds = subst (Holds (Some word) budget int_limit) (sym (new_row (codes "file") word rows none)) (holds_file budget int_limit word rows h);
    }

-- ---- budget

budget_passes : (word : Word) (rows : List Row) → has_row (codes "budget") rows ≡ false → use_fault false budget_rule (word ∷ []) rows ≡ []
budget_passes word rows none = rw none refl

budget_again : (word : Word) (rows : List Row) → has_row (codes "budget") rows ≡ true → IsRefused (use_fault false budget_rule (word ∷ []) rows)
budget_again word rows there = rw there tt

budget_settles : (file int_limit : Option Word) (word : Word) (rows : List Row) → Holds file None int_limit rows
    → Settles file (Some word) int_limit rows (Some (codes "budget", word ∷ []))
budget_settles file int_limit word rows h =
    let none : has_row (codes "budget") rows ≡ false = no_row (codes "budget") rows h.budget_row in
    record {
      passes = budget_passes word rows none;
      holds = subst (Holds file (Some word) int_limit) (sym (new_row (codes "budget") word rows none)) (holds_budget file int_limit word rows h);
    }

budget_used : (file int_limit : Option Word) (word : Word) (rows : List Row) → Holds file None int_limit rows
    → Settles file (Some word) int_limit (used budget_rule (word ∷ []) rows) None
budget_used file int_limit word rows h =
    let none : has_row (codes "budget") rows ≡ false = no_row (codes "budget") rows h.budget_row in
    record {
      passes = refl;
      holds = subst (Holds file (Some word) int_limit) (sym (new_row (codes "budget") word rows none)) (holds_budget file int_limit word rows h);
    }

-- ---- int-limit

int_limit_passes : (word : Word) (rows : List Row) → has_row (codes "int-limit") rows ≡ false → use_fault false int_limit_rule (word ∷ []) rows ≡ []
int_limit_passes word rows none = rw none refl

int_limit_again : (word : Word) (rows : List Row) → has_row (codes "int-limit") rows ≡ true → IsRefused (use_fault false int_limit_rule (word ∷ []) rows)
int_limit_again word rows there = rw there tt

int_limit_settles : (file budget : Option Word) (word : Word) (rows : List Row) → Holds file budget None rows
    → Settles file budget (Some word) rows (Some (codes "int-limit", word ∷ []))
int_limit_settles file budget word rows h =
    let none : has_row (codes "int-limit") rows ≡ false = no_row (codes "int-limit") rows h.int_limit_row in
    record {
      passes = int_limit_passes word rows none;
      holds = subst (Holds file budget (Some word)) (sym (new_row (codes "int-limit") word rows none)) (holds_int_limit file budget word rows h);
    }

int_limit_used : (file budget : Option Word) (word : Word) (rows : List Row) → Holds file budget None rows
    → Settles file budget (Some word) (used int_limit_rule (word ∷ []) rows) None
int_limit_used file budget word rows h =
    let none : has_row (codes "int-limit") rows ≡ false = no_row (codes "int-limit") rows h.int_limit_row in
    record {
      passes = refl;
      holds = subst (Holds file budget (Some word)) (sym (new_row (codes "int-limit") word rows none)) (holds_int_limit file budget word rows h);
    }

-- ---- any word may come

free_budget : (f b k : Option Word) (rows : List Row) (p : Pending) → Settles f b k rows p → (word name : Word) (given : Option Word) → IsLong word name given
    → bytes_eq (codes "budget") name ≡ true → Step (seen_is f b k anything) (walk_at (held rows p) idle f false) word
unfolding walked
free_budget f b k rows p st word name None l is_b = goes (seen_is f b k budget_value) (settled rules (held rows p)).rows None
    (rw (l.no_end, l.hyphen, l.name_is, l.value_is, is_b) refl)
    (rw (l.no_end, l.long, is_b) (ap (λ a. or_else a []) st.passes))
    (rw (l.no_end, l.long, is_b) refl)
    st.holds
free_budget f None k rows p st word name (Some x) l is_b =
    let now = (settled rules (held rows p)).rows in
    let fault = use_fault false budget_rule (x ∷ []) now in
    let none : has_row (codes "budget") now ≡ false = no_row (codes "budget") now st.holds.budget_row in
    let no_fault : or_else (or_else (settle_fault rules false (held rows p)) fault) [] ≡ [] =
    ap (λ a. or_else (or_else a fault) []) st.passes ∙ ap (λ a. or_else a []) (budget_passes x now none) in
    goes (seen_is f (Some x) k anything) (used budget_rule (x ∷ []) now) None
    (rw (l.no_end, l.hyphen, l.name_is, l.value_is, is_b) refl)
    (rw (l.no_end, l.long, is_b) no_fault)
    (rw (l.no_end, l.long, is_b) refl)
    (budget_used f k x now st.holds)
free_budget f (Some old) k rows p st word name (Some x) l is_b =
    let now = (settled rules (held rows p)).rows in
    let fault = use_fault false budget_rule (x ∷ []) now in
    let there : has_row (codes "budget") now ≡ true = some_row (codes "budget") now (row_for (codes "budget") old) st.holds.budget_row in
    let bad : IsRefused (or_else (or_else (settle_fault rules false (held rows p)) fault) []) =
    refused_first (or_else (settle_fault rules false (held rows p)) fault) [] (refused_second (settle_fault rules false (held rows p)) fault (budget_again x now there)) in
    refuses (rw (l.no_end, l.hyphen, l.name_is, l.value_is, is_b) refl) (rw (l.no_end, l.long, is_b) bad)

free_int_limit : (f b k : Option Word) (rows : List Row) (p : Pending) → Settles f b k rows p → (word name : Word) (given : Option Word) → IsLong word name given
    → bytes_eq (codes "budget") name ≡ false → bytes_eq (codes "int-limit") name ≡ true → Step (seen_is f b k anything) (walk_at (held rows p) idle f false) word
unfolding walked
free_int_limit f b k rows p st word name None l is_b is_k = goes (seen_is f b k int_limit_value) (settled rules (held rows p)).rows None
    (rw (l.no_end, l.hyphen, l.name_is, l.value_is, is_b, is_k) refl)
    (rw (l.no_end, l.long, is_b, is_k) (ap (λ a. or_else a []) st.passes))
    (rw (l.no_end, l.long, is_b, is_k) refl)
    st.holds
free_int_limit f b None rows p st word name (Some x) l is_b is_k =
    let now = (settled rules (held rows p)).rows in
    let fault = use_fault false int_limit_rule (x ∷ []) now in
    let none : has_row (codes "int-limit") now ≡ false = no_row (codes "int-limit") now st.holds.int_limit_row in
    let no_fault : or_else (or_else (settle_fault rules false (held rows p)) fault) [] ≡ [] =
    ap (λ a. or_else (or_else a fault) []) st.passes ∙ ap (λ a. or_else a []) (int_limit_passes x now none) in
    goes (seen_is f b (Some x) anything) (used int_limit_rule (x ∷ []) now) None
    (rw (l.no_end, l.hyphen, l.name_is, l.value_is, is_b, is_k) refl)
    (rw (l.no_end, l.long, is_b, is_k) no_fault)
    (rw (l.no_end, l.long, is_b, is_k) refl)
    (int_limit_used f b x now st.holds)
free_int_limit f b (Some old) rows p st word name (Some x) l is_b is_k =
    let now = (settled rules (held rows p)).rows in
    let fault = use_fault false int_limit_rule (x ∷ []) now in
    let there : has_row (codes "int-limit") now ≡ true = some_row (codes "int-limit") now (row_for (codes "int-limit") old) st.holds.int_limit_row in
    let bad : IsRefused (or_else (or_else (settle_fault rules false (held rows p)) fault) []) =
    refused_first (or_else (settle_fault rules false (held rows p)) fault) [] (refused_second (settle_fault rules false (held rows p)) fault (int_limit_again x now there)) in
    refuses (rw (l.no_end, l.hyphen, l.name_is, l.value_is, is_b, is_k) refl) (rw (l.no_end, l.long, is_b, is_k) bad)

free_long : (f b k : Option Word) (rows : List Row) (p : Pending) → Settles f b k rows p → (word name : Word) (given : Option Word) → IsLong word name given
    → (t : Bool) → bytes_eq (codes "budget") name ≡ t → (u : Bool) → bytes_eq (codes "int-limit") name ≡ u → Step (seen_is f b k anything) (walk_at (held rows p) idle f false) word
free_long f b k rows p st word name given l true is_b u is_k = free_budget f b k rows p st word name given l is_b
free_long f b k rows p st word name given l false is_b true is_k = free_int_limit f b k rows p st word name given l is_b is_k
free_long f b k rows p st word name given l false is_b false is_k =
    refuses (rw (l.no_end, l.hyphen, l.name_is, l.value_is, is_b, is_k) refl) (rw (l.no_end, l.long, is_b, is_k) tt)

free_plain : (f b k : Option Word) (rows : List Row) (p : Pending) → Settles f b k rows p → (word : Word) → IsPlain word
    → Step (seen_is f b k anything) (walk_at (held rows p) idle f false) word
unfolding walked
free_plain None b k rows p st word q = goes (seen_is (Some word) b k anything) (settled rules (held rows p)).rows (Some (codes "file", word ∷ []))
    (rw (q.no_end, q.no_hyphen) refl)
    (rw (q.no_end, q.no_long, q.no_short) (file_fault (held rows p) ∙ st.passes))
    (rw (q.no_end, q.no_long, q.no_short) (ap (λ (h : Held). walk_at h idle (Some word) false) (file_held (held rows p) word)))
    (file_settles b k word (settled rules (held rows p)).rows st.holds)
free_plain (Some old) b k rows p st word q = refuses (rw (q.no_end, q.no_hyphen) refl) (rw (q.no_end, q.no_long, q.no_short) tt)

free_word : (f b k : Option Word) (rows : List Row) (p : Pending) → Settles f b k rows p → (word : Word) → Kind word
    → Step (seen_is f b k anything) (walk_at (held rows p) idle f false) word
free_word f b k rows p st word (ends is) = subst (Step (seen_is f b k anything) (walk_at (held rows p) idle f false)) (sym is)
    (goes (seen_is f b k files) rows p refl refl (end_idle rules (held rows p) (place f)) st)
free_word f b k rows p st word (is_long name given l) =
    free_long f b k rows p st word name given l (bytes_eq (codes "budget") name) refl (bytes_eq (codes "int-limit") name) refl
free_word f b k rows p st word (is_short letter flag flags s) =
    refuses (rw (s.no_end, s.hyphen, s.no_option (codes "budget"), s.no_option (codes "int-limit")) refl) (short_idle shape (λ x. refl) rows p (place f) word letter flag flags s)
free_word f b k rows p st word (is_plain q) = free_plain f b k rows p st word q

-- ---- each word is FILE

file_word : (f b k : Option Word) (rows : List Row) (p : Pending) → Settles f b k rows p → (word : Word)
    → Step (seen_is f b k files) (walk_at (held rows p) idle f true) word
unfolding walked
file_word None b k rows p st word = goes (seen_is (Some word) b k files) (settled rules (held rows p)).rows (Some (codes "file", word ∷ []))
    refl (file_fault (held rows p) ∙ st.passes)
    (ap (λ (h : Held). walk_at h idle (Some word) true) (file_held (held rows p) word))
    (file_settles b k word (settled rules (held rows p)).rows st.holds)
file_word (Some old) b k rows p st word = refuses refl tt

-- ---- an option waits for its value

budget_plain : (f b k : Option Word) (rows : List Row) → Holds f b k rows → (word : Word) → IsPlain word
    → Step (seen_is f b k budget_value) (walk_at (held rows (Some (codes "budget", []))) (option (codes "budget")) f false) word
unfolding walked
budget_plain f None k rows h word q = goes (seen_is f (Some word) k anything) rows (Some (codes "budget", word ∷ []))
    (rw q.no_hyphen refl) (rw (q.no_end, q.no_long, q.no_short) refl) (rw (q.no_end, q.no_long, q.no_short) refl)
    (budget_settles f k word rows h)
budget_plain f (Some old) k rows h word q =
    let w = walk_at (held rows (Some (codes "budget", []))) (option (codes "budget")) f false in
    let there : has_row (codes "budget") rows ≡ true = some_row (codes "budget") rows (row_for (codes "budget") old) h.budget_row in
    let goes_to : walked rules [] w word ≡ walk_at (held rows (Some (codes "budget", word ∷ []))) idle f false = rw (q.no_end, q.no_long, q.no_short) refl in
    dooms (rw q.no_hyphen refl) (λ rest texts. subst (λ (v : Walk). IsRefused (verdict shape v rest)) (sym goes_to)
    (doomed_idle rows (Some (codes "budget", word ∷ [])) f (budget_again word rows there) rest texts))

budget_word : (f b k : Option Word) (rows : List Row) → Holds f b k rows → (word : Word) → Kind word
    → Step (seen_is f b k budget_value) (walk_at (held rows (Some (codes "budget", []))) (option (codes "budget")) f false) word
budget_word f b k rows h word (ends is) =
    let w = walk_at (held rows (Some (codes "budget", []))) (option (codes "budget")) f false in
    subst (Step (seen_is f b k budget_value) w) (sym is) (dooms refl (λ rest texts. subst (λ (v : Walk). IsRefused (verdict shape v rest))
    (sym (end_waiting rules (held rows (Some (codes "budget", []))) (codes "budget") (place f))) (doomed_files (held rows (Some (codes "budget", []))) (option (codes "budget")) f tt rest)))
budget_word f b k rows h word (is_long name given l) = refuses (rw l.hyphen refl)
    (long_waiting shape (held rows (Some (codes "budget", []))) (codes "budget") (place f) word name given l tt)
budget_word f b k rows h word (is_short letter flag flags s) = refuses (rw s.hyphen refl)
    (short_waiting shape (λ x. refl) rows (Some (codes "budget", [])) (codes "budget") (place f) word letter flag flags s)
budget_word f b k rows h word (is_plain q) = budget_plain f b k rows h word q

int_limit_plain : (f b k : Option Word) (rows : List Row) → Holds f b k rows → (word : Word) → IsPlain word
    → Step (seen_is f b k int_limit_value) (walk_at (held rows (Some (codes "int-limit", []))) (option (codes "int-limit")) f false) word
unfolding walked
int_limit_plain f b None rows h word q = goes (seen_is f b (Some word) anything) rows (Some (codes "int-limit", word ∷ []))
    (rw q.no_hyphen refl) (rw (q.no_end, q.no_long, q.no_short) refl) (rw (q.no_end, q.no_long, q.no_short) refl)
    (int_limit_settles f b word rows h)
int_limit_plain f b (Some old) rows h word q =
    let w = walk_at (held rows (Some (codes "int-limit", []))) (option (codes "int-limit")) f false in
    let there : has_row (codes "int-limit") rows ≡ true = some_row (codes "int-limit") rows (row_for (codes "int-limit") old) h.int_limit_row in
    let goes_to : walked rules [] w word ≡ walk_at (held rows (Some (codes "int-limit", word ∷ []))) idle f false = rw (q.no_end, q.no_long, q.no_short) refl in
    dooms (rw q.no_hyphen refl) (λ rest texts. subst (λ (v : Walk). IsRefused (verdict shape v rest)) (sym goes_to)
    (doomed_idle rows (Some (codes "int-limit", word ∷ [])) f (int_limit_again word rows there) rest texts))

int_limit_word : (f b k : Option Word) (rows : List Row) → Holds f b k rows → (word : Word) → Kind word
    → Step (seen_is f b k int_limit_value) (walk_at (held rows (Some (codes "int-limit", []))) (option (codes "int-limit")) f false) word
int_limit_word f b k rows h word (ends is) =
    let w = walk_at (held rows (Some (codes "int-limit", []))) (option (codes "int-limit")) f false in
    subst (Step (seen_is f b k int_limit_value) w) (sym is) (dooms refl (λ rest texts. subst (λ (v : Walk). IsRefused (verdict shape v rest))
    (sym (end_waiting rules (held rows (Some (codes "int-limit", []))) (codes "int-limit") (place f))) (doomed_files (held rows (Some (codes "int-limit", []))) (option (codes "int-limit")) f tt rest)))
int_limit_word f b k rows h word (is_long name given l) = refuses (rw l.hyphen refl)
    (long_waiting shape (held rows (Some (codes "int-limit", []))) (codes "int-limit") (place f) word name given l tt)
int_limit_word f b k rows h word (is_short letter flag flags s) = refuses (rw s.hyphen refl)
    (short_waiting shape (λ x. refl) rows (Some (codes "int-limit", [])) (codes "int-limit") (place f) word letter flag flags s)
int_limit_word f b k rows h word (is_plain q) = int_limit_plain f b k rows h word q

-- ---- whatever may come

pub one_word : (next_is : Next) (f b k : Option Word) (rows : List Row) (p : Pending) → Stands next_is f b k rows p → (word : Word) → IsUtf8 word
    → Step (seen_is f b k next_is) (walk_of next_is f rows p) word
one_word anything f b k rows p st word text = free_word f b k rows p st word (kind_of_word word text)
one_word files f b k rows p st word text = file_word f b k rows p st word
one_word budget_value f b k rows p st word text = budget_word f b k rows st word (kind_of_word word text)
one_word int_limit_value f b k rows p st word text = int_limit_word f b k rows st word (kind_of_word word text)
