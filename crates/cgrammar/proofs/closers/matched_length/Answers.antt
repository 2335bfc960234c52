use Rattle.std.proofs.Common.{◌≡◌, ◌≢◌, vec_len, ◌∙◌, ◌+◌, ap, sym, arith, rules, [], ◌∷◌, List, ℕ, Option, Some, None, Bool, true, false, if◌then◌else◌, drop, reverse}
use Rattle.std.proofs.lemmas.List.{drop_all}
use Rattle.cgrammar.specs.ReadOperands.{behind_matched}
use Rattle.cgrammar.specs.Closers.{behind_token}
use Rattle.cgrammar.proofs.Matching.{matched_on, matched_at, matched_all, none_behind}
use Rattle.cgrammar.proofs.Stacks.{none, popped}
use Rattle.cgrammar.proofs.closers.matched_length.Goals as goal

pub returns-in-None-clause-is : goal.returns-in-None-clause-is
returns-in-None-clause-is c =
    let empty : reverse c.tokens.opened.items ≡ [] = none c.tokens.opened.items (omega (arith, c.tokens.opened.ok.0, c.in-None.ensures.cases.0)) in
    sym (matched_all (drop c.tokens.count c.args.row.now)) ∙ (ap (λ (stack : List ℕ). behind_matched stack (drop c.tokens.count c.args.row.now)) (sym empty) ∙ c.tokens.invariant.0)

pub returns-then-not-branch-clause-is : goal.returns-then-not-branch-clause-is
returns-then-not-branch-clause-is c =
    let top : reverse c.tokens.opened.items ≡ c.in-Some.innermost ∷ reverse c.pop.new.self.items = popped c.tokens.opened.items c.pop.new.self.items c.in-Some.innermost c.in-Some.ensures.items in
    let fails : c.in_ok-go_over-in-Some.field-0 ≡ false = search rules in
    let nothing : behind_token c.in-Some.innermost (reverse c.pop.new.self.items) c.index-row-count.result ≡ None = c.in_ok-go_over-in-Some.ensures ∙ ap (λ (b : Bool). if b then Some (reverse c.go_over.new.opened.items) else None) fails in
    sym (ap (λ (stack : List ℕ). behind_matched stack (drop c.tokens.count c.args.row.now)) top
    ∙ (matched_at c.in-Some.innermost (reverse c.pop.new.self.items) c.index-row-count.result c.args.row.now c.tokens.count c.tokens-test.true c.index-row-count.is
    ∙ ap (λ (found : Option (List ℕ)). matched_on found (drop (c.tokens.count + 1) c.args.row.now)) nothing)) ∙ c.tokens.invariant.0

pub tokens-preserved : goal.tokens-preserved
tokens-preserved c =
    let top : reverse c.tokens.opened.items ≡ c.in-Some.innermost ∷ reverse c.pop.new.self.items = popped c.tokens.opened.items c.pop.new.self.items c.in-Some.innermost c.in-Some.ensures.items in
    let may : c.in_ok-go_over-in-Some.field-0 ≡ true = search rules in
    let goes : behind_token c.in-Some.innermost (reverse c.pop.new.self.items) c.index-row-count.result ≡ Some (reverse c.go_over.new.opened.items) =
    c.in_ok-go_over-in-Some.ensures ∙ ap (λ (b : Bool). if b then Some (reverse c.go_over.new.opened.items) else None) may in (
      sym (ap (λ (stack : List ℕ). behind_matched stack (drop c.tokens.count c.args.row.now)) top
          ∙ (matched_at c.in-Some.innermost (reverse c.pop.new.self.items) c.index-row-count.result c.args.row.now c.tokens.count c.tokens-test.true c.index-row-count.is
          ∙ ap (λ (found : Option (List ℕ)). matched_on found (drop (c.tokens.count + 1) c.args.row.now)) goes)) ∙ c.tokens.invariant.0,
      omega arith,
    )

pub returns-then-is_empty-clause-is : goal.returns-then-is_empty-clause-is
returns-then-is_empty-clause-is c =
    let empty : reverse c.tokens.opened.items ≡ [] = none c.tokens.opened.items (let left : vec_len c.tokens.opened ≡ 0 = search rules in omega (arith, c.tokens.opened.ok.0)) in
    sym (matched_all (drop c.tokens.count c.args.row.now)) ∙ (ap (λ (stack : List ℕ). behind_matched stack (drop c.tokens.count c.args.row.now)) (sym empty) ∙ c.tokens.invariant.0)

pub returns-clause-is : goal.returns-clause-is
returns-clause-is c =
    none_behind c.tokens.opened.items (drop c.tokens.count c.args.row.now) (let left : vec_len c.tokens.opened ≢ 0 = search rules in omega (arith, c.tokens.opened.ok.0)) (drop_all c.tokens.count c.args.row.now (omega arith)) ∙ c.tokens.invariant.0
