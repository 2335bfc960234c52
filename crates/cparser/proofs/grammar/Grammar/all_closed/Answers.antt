use Rattle.std.proofs.Common.{◌≡◌, ◌+◌, ◌-◌, ◌≤◌, ℕ, ◌∙◌, List, drop, ap, sym, subst, arith}
use Rattle.std.specs.List.{prefix_len}
use Rattle.cgrammar.specs.Terminals.{Terminal}
use Rattle.cparser.specs.OperandSteps.{all_closed, is_no_word}
use Rattle.cparser.specs.ReadingSteps.{inner_at}
use Rattle.cparser.specs.State.{State}
use Rattle.cparser.proofs.KeptByReaders.{closed_kept}
use Rattle.cparser.proofs.Opening.{closed_one, closed_none}
use Rattle.cparser.proofs.grammar.Grammar.all_closed.Goals as goal

pub passed_before-passed-requires : goal.passed_before-passed-requires
passed_before-passed-requires g c =
    let same : c.args.first + c.brackets.left ≡ c.args.first + (c.brackets.left - 1) + 1 = omega arith in
    let P : ℕ → Type 0 = λ at. c.brackets.passed ≤ prefix_len is_no_word (drop at c.brackets.reader.row) in
    subst P same c.brackets.invariant.2

pub brackets-preserved : goal.brackets-preserved
brackets-preserved g c =
    let kept : c.closed.new.reader.row ≡ c.brackets.reader.row =
    ap (λ (s : State). s.row) c.in_ok-passed.ensures.is ∙ closed_kept c.args.self.now.depth (c.args.first + (c.brackets.left - 1)) c.brackets.reader in
    let P : List Terminal → Type 0 = λ row. c.in_ok-passed.passed ≤ prefix_len is_no_word (drop (c.args.first + (c.brackets.left - 1)) row) in (
      ap (all_closed (inner_at c.args.self.now.depth) c.args.first (c.brackets.left - 1)) c.in_ok-passed.ensures.is
          ∙ (sym (closed_one (inner_at c.args.self.now.depth) c.args.first c.brackets.left c.brackets.reader (omega arith)) ∙ c.brackets.invariant.0),
      omega arith,
      subst P (sym kept) c.in_ok-passed.ensures.passed,
    )

pub returns : goal.returns
returns g c =
    sym (closed_none (inner_at c.args.self.now.depth) c.args.first c.brackets.left c.brackets.reader (omega arith)) ∙ c.brackets.invariant.0
