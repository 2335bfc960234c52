use Rattle.std.proofs.Common.{rules, refl, sym, ◌∙◌, subst}
use Rattle.std.proofs.lemmas.Bool.{false≢true}
use Rattle.graph.specs.Meaning.{maps_of}
use Rattle.cover.specs.Covers.{IsAddress}
use Rattle.cover.proofs.Standing.{stands, stands_not}
use Rattle.cover.proofs.alike.stands.Goals as goal

pub returns-in-Some : goal.returns-in-Some
returns-in-Some c = (λ e. stands (maps_of c.args.narrow.now) c.args.ones.now c.args.edge c.in-Some.field-0 (sym c.value_in.ensures ∙ c.in-Some.is), λ have. refl)

pub returns-in-None : goal.returns-in-None
returns-in-None c = (
  λ e. absurd (false≢true e),
  stands_not (maps_of c.args.narrow.now) c.args.ones.now c.args.edge (sym c.value_in.ensures ∙ c.in-None.is) (subst IsAddress c.content_of.ensures (c.is_address.ensures.0 (search rules))),
)
