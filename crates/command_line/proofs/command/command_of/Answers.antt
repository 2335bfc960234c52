use Rattle.std.proofs.Common.{◌≡◌, ◌≢◌, ◌∙◌, ap, sym, codes, map, []}
use Rattle.std.specs.Prelude.{option_copied, string_bytes}
use Rattle.std.proofs.lemmas.Result.{IfOk-weaker}
use Rattle.clap.specs.Walk.{first_of, rows_of}
use Rattle.clap.specs.Simple.{matches_of}
use Rattle.clap.specs.Faults.{fault_of}
use Rattle.clap.specs.Matches.{found_of}
use Rattle.clap.proofs.WalkLemmas.{first_value-rows}
use Rattle.command_line.specs.CommandLine.{command_from}
use Rattle.command_line.specs.Parser.{predator_app}
use Rattle.command_line.proofs.Exact.{refused, strings_are_texts, taken}
use Rattle.command_line.proofs.command.command_of.Goals as goal

pub returns-in_default : goal.returns-in_default
returns-in_default c =
    let words = map string_bytes c.args.words.now in
    let some : fault_of predator_app words ≢ [] = rw c.in_default.is at c.in_ok-matches.ensures.none in
    sym (refused words (strings_are_texts c.args.words.now) some)

pub returns : goal.returns
returns c =
    let words = map string_bytes c.args.words.now in
    let m = c.in-Some.matches in
    let rows = matches_of predator_app words in
    let same : rows_of (found_of m) ≡ rows = rw c.in-Some.is at c.in_ok-matches.ensures.rows in
    let none : fault_of predator_app words ≡ [] = rw c.in-Some.is at c.in_ok-matches.ensures.taken in
    let file : option_copied c.get_str-file.result ≡ first_of (codes "file") rows = c.get_str-file.ensures ∙ first_value-rows (found_of m) (codes "file") ∙ ap (first_of (codes "file")) same in
    let budget : option_copied c.get_str-budget.result ≡ first_of (codes "budget") rows = c.get_str-budget.ensures ∙ first_value-rows (found_of m) (codes "budget") ∙ ap (first_of (codes "budget")) same in
    let int_limit : option_copied c.get_str-int_limit.result ≡ first_of (codes "int-limit") rows = c.get_str-int_limit.ensures ∙ first_value-rows (found_of m) (codes "int-limit") ∙ ap (first_of (codes "int-limit")) same in
    IfOk-weaker c.command_from.result _ _
    (λ o h. h ∙ (λ i. command_from (file i) (budget i) (int_limit i)) ∙ sym (taken words (strings_are_texts c.args.words.now) none)) c.command_from.ensures
