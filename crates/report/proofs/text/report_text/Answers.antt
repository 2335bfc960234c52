-- The lines of a file that is too long, and of a state that is too large.
use Rattle.std.proofs.Common.{◌≡◌, ℕ, List, [], ◌∷◌, ◌++◌, codes, IfOk, append_assoc, subst, sym, ap, ◌∙◌}
use Rattle.report.specs.declared.answer.Answer.{Answer}
use Rattle.report.specs.Report.{report_bytes, lines_text, answer_lines}
use Rattle.report.proofs.text.report_text.Goals as goal

pub returns-in-TooLong : goal.returns-in-TooLong
returns-in-TooLong c =
    let line : c.args.shown.now.file ++ codes ": not read: over 4194304 bytes\n" ≡ report_bytes c.args.shown.now
    = sym (append_assoc c.args.shown.now.file (codes ": not read: over 4194304 bytes") (codes "\n"))
    ∙ ap (λ (a : Answer). lines_text (answer_lines c.args.shown.now.file c.args.shown.now.names c.args.shown.now.limits.budget a)) (sym c.in-TooLong.is) in
    subst (λ (bytes : List ℕ). IfOk c.file_line-in-TooLong.result (λ text. text ≡ bytes)) line c.file_line-in-TooLong.ensures

pub returns-in-Large : goal.returns-in-Large
returns-in-Large c =
    let line : c.args.shown.now.file ++ codes ": gave up: state too large\n" ≡ report_bytes c.args.shown.now
    = sym (append_assoc c.args.shown.now.file (codes ": gave up: state too large") (codes "\n"))
    ∙ ap (λ (a : Answer). lines_text (answer_lines c.args.shown.now.file c.args.shown.now.names c.args.shown.now.limits.budget a)) (sym c.in-Large.is) in
    subst (λ (bytes : List ℕ). IfOk c.file_line-in-Large.result (λ text. text ≡ bytes)) line c.file_line-in-Large.ensures
