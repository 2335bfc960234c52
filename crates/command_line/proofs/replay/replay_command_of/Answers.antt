use Rattle.std.proofs.Common.{◌≡◌, ◌≢◌, ◌∙◌, ap, sym, Some, codes, map, []}
use Rattle.std.specs.Prelude.{option_copied, string_bytes}
use Rattle.std.proofs.lemmas.Result.{IfOk-weaker}
use Rattle.clap.specs.Walk.{first_of, one_of, rows_of}
use Rattle.clap.specs.Simple.{matches_of}
use Rattle.clap.specs.Faults.{fault_of}
use Rattle.clap.specs.Matches.{found_of, one_text}
use Rattle.clap.proofs.WalkLemmas.{first_value-rows, one_text-rows}
use Rattle.command_line.specs.ReplayLine.{replay_command_from}
use Rattle.command_line.specs.ReplayParser.{replay_app}
use Rattle.command_line.proofs.Exact.{strings_are_texts}
use Rattle.command_line.proofs.ReplayRows.{flag_text}
use Rattle.command_line.proofs.ReplayExact.{flag_is, flag_told, is_strict, refused, taken}
use Rattle.command_line.proofs.replay.replay_command_of.Goals as goal

pub returns-in_default : goal.returns-in_default
returns-in_default c =
    let words = map string_bytes c.args.words.now in
    let some : fault_of replay_app words ≢ [] = rw c.in_default.is at c.in_ok-matches.ensures.none in
    sym (refused words (strings_are_texts c.args.words.now) some)

pub returns : goal.returns
returns c =
    let words = map string_bytes c.args.words.now in
    let texts = strings_are_texts c.args.words.now in
    let m = c.in-Some.matches in
    let rows = matches_of replay_app words in
    let same : rows_of (found_of m) ≡ rows = rw c.in-Some.is at c.in_ok-matches.ensures.rows in
    let none : fault_of replay_app words ≡ [] = rw c.in-Some.is at c.in_ok-matches.ensures.taken in
    let file : option_copied c.get_str-file.result ≡ first_of (codes "file") rows = c.get_str-file.ensures ∙ first_value-rows (found_of m) (codes "file") ∙ ap (first_of (codes "file")) same in
    let choices : option_copied c.get_str-choices.result ≡ first_of (codes "choices") rows = c.get_str-choices.ensures ∙ first_value-rows (found_of m) (codes "choices") ∙ ap (first_of (codes "choices")) same in
    let model : option_copied c.get_str-model.result ≡ first_of (codes "model") rows = c.get_str-model.ensures ∙ first_value-rows (found_of m) (codes "model") ∙ ap (first_of (codes "model")) same in
    let steps : option_copied c.get_str-steps.result ≡ first_of (codes "steps") rows = c.get_str-steps.ensures ∙ first_value-rows (found_of m) (codes "steps") ∙ ap (first_of (codes "steps")) same in
    let told = flag_told words texts none in
    let text : one_text (found_of m) (codes "strict") ≡ Some (flag_text told.0) = one_text-rows (found_of m) (codes "strict") ∙ ap (one_of (codes "strict")) same ∙ told.1 in
    let strict : c.get_flag-strict.result ≡ is_strict (one_of (codes "strict") rows) = flag_is told.0 c.get_flag-strict.result (one_text (found_of m) (codes "strict")) (one_of (codes "strict") rows) text told.1 c.get_flag-strict.ensures.value c.get_flag-strict.ensures.other in
    IfOk-weaker c.replay_command_from.result _ _
    (λ o h. h ∙ (λ i. replay_command_from (file i) (choices i) (model i) (steps i) (strict i)) ∙ sym (taken words texts none)) c.replay_command_from.ensures
