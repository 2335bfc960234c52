-- The kind of one stands in the signature, or in its row.
use Rattle.std.proofs.Common.{slice_get, sym, ap, ◌∙◌, subst}
use Rattle.std.specs.Prelude.{option_and_then}
use Rattle.cbase.specs.declared.ctype.CType.{CType}
use Rattle.c_machine.specs.Trees.{kind_in}
use Rattle.c_text.specs.declared.parameters.Parameters.{Parameters}
use Rattle.c_text.specs.Kept.{kept}
use Rattle.c_text.specs.Parameters.{AreParameters, types_by}
use Rattle.c_text.proofs.typed_text.TypedText.parameter_kind.Goals as goal

pub signature_kind-requires : goal.signature_kind-requires
signature_kind-requires c = subst (AreParameters c.args.self.now) c.in-OfSignature.is c.requires

pub row_kind-requires : goal.row_kind-requires
row_kind-requires c = subst (AreParameters c.args.self.now) c.in-OfRows.is c.requires

pub returns-in-OfSignature : goal.returns-in-OfSignature
returns-in-OfSignature c = λ n p stands.
    c.signature_kind.ensures n p stands
    ∙ ap (λ (params : Parameters). option_and_then (λ (t : CType). kept (kind_in p t)) (slice_get (types_by n p params) c.args.index)) (sym c.in-OfSignature.is)

pub returns-in-OfRows : goal.returns-in-OfRows
returns-in-OfRows c = λ n p stands.
    c.row_kind.ensures n p stands
    ∙ ap (λ (params : Parameters). option_and_then (λ (t : CType). kept (kind_in p t)) (slice_get (types_by n p params) c.args.index)) (sym c.in-OfRows.is)
