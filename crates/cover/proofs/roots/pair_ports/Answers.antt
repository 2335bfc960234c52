use Rattle.std.proofs.Common.{rules, ◌≡◌, ◌<◌, ◌≤◌, ◌+◌, ℕ, List, length, get_or, ap, refl, sym, subst, ◌∙◌, Bool, true}
use Rattle.graph.specs.Meaning.{Maps, maps_of}
use Rattle.cover.specs.Covers.{content, Link, Values, IsReached}
use Rattle.cover.specs.declared.content.Content.{Content}
use Rattle.cover.specs.Found.{Naming, Goes}
use Rattle.cover.proofs.Forced.{for-both, naming_next, port-reached, ports-short, ports-end}
use Rattle.cover.proofs.roots.pair_ports.Goals as goal

abbrev nothing : ℕ
nothing = 0

abbrev number : ℕ → ℕ
number entry = 0

abbrev link : Maps → ℕ → ℕ → Link
link narrow one other = Values one (content narrow other)

pub returns-then-ones-others : goal.returns-then-ones-others
returns-then-ones-others c =
    ports-short c.args.wide.now c.args.narrow.now c.ports-ones.ensures.graph c.ports-others.ensures.graph c.args.found.now c.requires.sound
    (λ same. c.if-ones-others.true (ap length c.ports-ones.ensures.ports ∙ same ∙ sym (ap length c.ports-others.ensures.ports)))

pub pair_value-requires-clause-reached : goal.pair_value-requires-clause-reached
pair_value-requires-clause-reached c =
    subst (λ (k : Content). IsReached (maps_of c.args.wide.now) (maps_of c.args.narrow.now) (Values (get_or c.ports-ones.result.now c.loop-at.at nothing) k)) (sym c.content_of-content.ensures)
    (for-both (λ (xs ys : List ℕ). c.loop-at.at < length xs → c.loop-at.at < length ys →
    IsReached (maps_of c.args.wide.now) (maps_of c.args.narrow.now) (link (maps_of c.args.narrow.now) (get_or xs c.loop-at.at nothing) (get_or ys c.loop-at.at nothing))) _ _ _ _ c.ports-ones.ensures.ports c.ports-others.ensures.ports
    (port-reached c.args.wide.now c.args.narrow.now c.ports-ones.ensures.graph c.ports-others.ensures.graph c.loop-at.at nothing nothing)
    c.loop-at-test.true (search rules))

pub loop-at-preserved : goal.loop-at-preserved
loop-at-preserved c =
    for-both (λ (xs ys : List ℕ). c.loop-at.at < length xs → c.loop-at.at < length ys → number (get_or xs c.loop-at.at nothing) ≡ number (get_or ys c.loop-at.at nothing) →
    Goes (maps_of c.args.wide.now) (maps_of c.args.narrow.now) c.loop-at.found c.pair_value.new.found (link (maps_of c.args.narrow.now) (get_or xs c.loop-at.at nothing) (get_or ys c.loop-at.at nothing)) true →
    Naming (maps_of c.args.wide.now) (maps_of c.args.narrow.now) number number (link (maps_of c.args.narrow.now)) c.args.wide.now.ports c.args.narrow.now.ports c.args.found.now c.pair_value.new.found (c.loop-at.at + 1))
    _ _ _ _ c.ports-ones.ensures.ports c.ports-others.ensures.ports
    (naming_next (maps_of c.args.wide.now) (maps_of c.args.narrow.now) number number (link (maps_of c.args.narrow.now)) c.args.wide.now.ports c.args.narrow.now.ports c.args.found.now c.loop-at.found c.pair_value.new.found c.loop-at.at nothing nothing c.loop-at.invariant)
    c.loop-at-test.true (search rules) refl (subst (λ (k : Content). Goes (maps_of c.args.wide.now) (maps_of c.args.narrow.now) c.loop-at.found c.pair_value.new.found (Values (get_or c.ports-ones.result.now c.loop-at.at nothing) k) true) c.content_of-content.ensures
    (subst (λ (b : Bool). Goes (maps_of c.args.wide.now) (maps_of c.args.narrow.now) c.loop-at.found c.pair_value.new.found (Values (get_or c.ports-ones.result.now c.loop-at.at nothing) c.content_of-content.result) b) (search rules) c.in_ok-pair_value.ensures))

pub returns : goal.returns
returns c =
    ports-end c.args.wide.now c.args.narrow.now c.ports-ones.ensures.graph c.ports-others.ensures.graph c.args.found.now c.loop-at.found c.loop-at.at c.loop-at.invariant
    (sym (ap length c.ports-ones.ensures.ports) ∙ c.if-ones-others.false ∙ ap length c.ports-others.ensures.ports) (subst (λ (xs : List ℕ). length xs ≤ c.loop-at.at) c.ports-ones.ensures.ports (search rules))
