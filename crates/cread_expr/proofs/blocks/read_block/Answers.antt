use Rattle.std.proofs.Common.{◌≡◌, ℕ, ◌+◌, true, false, List, take, Some, ◌∙◌, ap, sym}
use Rattle.std.specs.List.{prefix_len}
use Rattle.cbase.specs.declared.tree.stmt.Stmt.{Stmt}
use Rattle.cevents.specs.Building.{built_all}
use Rattle.cevents.specs.Workshop.{block_alone, start}
use Rattle.cgrammar.specs.Readings.{IsBlockAt, most_levels}
use Rattle.cgrammar.specs.Terminals.{last_place, comes_before}
use Rattle.cparser.specs.ReadingSteps.{inner_at}
use Rattle.cparser.specs.StatementSteps.{block}
use Rattle.cread_expr.proofs.Calls.{block_reading, is_built, is_there, is_none}
use Rattle.cread_expr.proofs.Parts.{if_some, if_none}
use Rattle.cread_expr.proofs.blocks.read_block.Goals as goal

pub block_of-requires : goal.block_of-requires
block_of-requires c =
    is_built (block (inner_at most_levels)) block_alone c.args.t.now c.args.scope.now c.args.at
    (block_reading most_levels c.args.t.now c.args.scope.now c.args.at c.requires.numbered) c.in_ok-front.front.start c.as_slice-row.result.now c.in_ok-written.written
    (c.as_slice-row.ensures.value ∙ c.in_ok-front.ensures.row)
    (c.in_ok-front.ensures.start ∙ ap (prefix_len (comes_before c.args.at)) (sym c.as_slice-row.ensures.value)) c.in_ok-written.ensures

pub returns-clause-block : goal.returns-clause-block
returns-clause-block c =
    if_some (λ read. c.in_ok-written.written.found ≡ true)
    (λ read. block_alone (built_all c.as_slice-row.result.now c.in_ok-written.written.events (Some start)) ≡ Some read.body)
    (λ read. read.after ≡ (last_place (take c.in_ok-written.written.at c.as_slice-row.result.now)).at + 1)
    (λ read. IsBlockAt most_levels c.args.t.now c.args.scope.now c.args.at read.after read.body)
    c.block_of.result
    (λ read found made after.
    is_there (block (inner_at most_levels)) block_alone c.args.t.now c.args.scope.now c.args.at
    (block_reading most_levels c.args.t.now c.args.scope.now c.args.at c.requires.numbered) c.in_ok-front.front.start c.as_slice-row.result.now c.in_ok-written.written
    (c.as_slice-row.ensures.value ∙ c.in_ok-front.ensures.row)
    (c.in_ok-front.ensures.start ∙ ap (prefix_len (comes_before c.args.at)) (sym c.as_slice-row.ensures.value)) c.in_ok-written.ensures
    found read.body read.after made after)
    c.block_of.ensures.found c.block_of.ensures.block c.block_of.ensures.after

pub returns-clause-none : goal.returns-clause-none
returns-clause-none c =
    if_none (c.in_ok-written.written.found ≡ false)
    ((body : List Stmt) (after : ℕ) → IsBlockAt most_levels c.args.t.now c.args.scope.now c.args.at after body → ⊥)
    c.block_of.result
    (is_none (block (inner_at most_levels)) block_alone c.args.t.now c.args.scope.now c.args.at
    (block_reading most_levels c.args.t.now c.args.scope.now c.args.at c.requires.numbered) c.in_ok-front.front.start c.as_slice-row.result.now c.in_ok-written.written
    (c.as_slice-row.ensures.value ∙ c.in_ok-front.ensures.row)
    (c.in_ok-front.ensures.start ∙ ap (prefix_len (comes_before c.args.at)) (sym c.as_slice-row.ensures.value)) c.in_ok-written.ensures)
    c.block_of.ensures.none
