use Rattle.std.proofs.Common.{rules, ◌≡◌, ◌<◌, ◌≤◌, ◌+◌, ℕ, List, length, get_or, ap, sym, subst, ◌∙◌, Bool, true}
use Rattle.graph.specs.Meaning.{Maps, maps_of}
use Rattle.graph.specs.declared.parts.Named.{Named}
use Rattle.cover.specs.Covers.{Link, Objects, IsReached}
use Rattle.cover.specs.Found.{Naming, Goes}
use Rattle.cover.proofs.Forced.{for-both, naming_next, variable-reached, variables-short, variables-differ, variables-end}
use Rattle.cover.proofs.roots.pair_variables.Goals as goal

abbrev nothing : Named
nothing = record { variable = 0; object = 0 }

abbrev number : Named → ℕ
number entry = entry.variable

abbrev link : Maps → Named → Named → Link
link narrow one other = Objects one.object other.object

pub returns-then-ones-others : goal.returns-then-ones-others
returns-then-ones-others c =
    variables-short c.args.wide.now c.args.narrow.now c.variables-ones.ensures.graph c.variables-others.ensures.graph c.args.found.now c.requires.sound
    (λ same. c.if-ones-others.true (ap length c.variables-ones.ensures.variables ∙ same ∙ sym (ap length c.variables-others.ensures.variables)))

pub returns-then-one-other : goal.returns-then-one-other
returns-then-one-other c =
    variables-differ c.args.wide.now c.args.narrow.now c.variables-ones.ensures.graph c.variables-others.ensures.graph c.args.found.now c.loop-at.found c.loop-at.at nothing nothing c.loop-at.invariant.sound c.loop-at.invariant.grows
    (subst (λ (xs : List Named). c.loop-at.at < length xs) c.variables-ones.ensures.variables c.loop-at-test.true)
    (λ same. c.if-one-other.true (for-both (λ (xs ys : List Named). number (get_or xs c.loop-at.at nothing) ≡ number (get_or ys c.loop-at.at nothing)) _ _ _ _ c.variables-ones.ensures.variables c.variables-others.ensures.variables same))

pub pair_reached-requires-clause-reached : goal.pair_reached-requires-clause-reached
pair_reached-requires-clause-reached c =
    for-both (λ (xs ys : List Named). c.loop-at.at < length xs → c.loop-at.at < length ys → number (get_or xs c.loop-at.at nothing) ≡ number (get_or ys c.loop-at.at nothing) →
    IsReached (maps_of c.args.wide.now) (maps_of c.args.narrow.now) (link (maps_of c.args.narrow.now) (get_or xs c.loop-at.at nothing) (get_or ys c.loop-at.at nothing))) _ _ _ _ c.variables-ones.ensures.variables c.variables-others.ensures.variables
    (variable-reached c.args.wide.now c.args.narrow.now c.variables-ones.ensures.graph c.variables-others.ensures.graph c.loop-at.at nothing nothing)
    c.loop-at-test.true (search rules) (search rules)

pub loop-at-preserved : goal.loop-at-preserved
loop-at-preserved c =
    for-both (λ (xs ys : List Named). c.loop-at.at < length xs → c.loop-at.at < length ys → number (get_or xs c.loop-at.at nothing) ≡ number (get_or ys c.loop-at.at nothing) →
    Goes (maps_of c.args.wide.now) (maps_of c.args.narrow.now) c.loop-at.found c.pair_reached.new.found (link (maps_of c.args.narrow.now) (get_or xs c.loop-at.at nothing) (get_or ys c.loop-at.at nothing)) true →
    Naming (maps_of c.args.wide.now) (maps_of c.args.narrow.now) number number (link (maps_of c.args.narrow.now)) c.args.wide.now.variables c.args.narrow.now.variables c.args.found.now c.pair_reached.new.found (c.loop-at.at + 1))
    _ _ _ _ c.variables-ones.ensures.variables c.variables-others.ensures.variables
    (naming_next (maps_of c.args.wide.now) (maps_of c.args.narrow.now) number number (link (maps_of c.args.narrow.now)) c.args.wide.now.variables c.args.narrow.now.variables c.args.found.now c.loop-at.found c.pair_reached.new.found c.loop-at.at nothing nothing c.loop-at.invariant)
    c.loop-at-test.true (search rules) (search rules) (subst (λ (b : Bool). Goes (maps_of c.args.wide.now) (maps_of c.args.narrow.now) c.loop-at.found c.pair_reached.new.found (link (maps_of c.args.narrow.now) (get_or c.variables-ones.result.now c.loop-at.at nothing) (get_or c.variables-others.result.now c.loop-at.at nothing)) b) (search rules) c.in_ok-pair_reached.ensures.goes)

pub returns : goal.returns
returns c =
    variables-end c.args.wide.now c.args.narrow.now c.variables-ones.ensures.graph c.variables-others.ensures.graph c.args.found.now c.loop-at.found c.loop-at.at c.loop-at.invariant
    (sym (ap length c.variables-ones.ensures.variables) ∙ c.if-ones-others.false ∙ ap length c.variables-others.ensures.variables) (subst (λ (xs : List Named). length xs ≤ c.loop-at.at) c.variables-ones.ensures.variables (search rules))
