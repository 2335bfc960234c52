-- So many as the signature has, or as rows stand there.
use Rattle.std.proofs.Common.{length, sym, ap, ◌∙◌, subst}
use Rattle.c_text.specs.declared.parameters.Parameters.{Parameters}
use Rattle.c_text.specs.Parameters.{AreParameters, types_by}
use Rattle.c_text.proofs.ParametersFound.{signature_count, count_is}
use Rattle.c_text.proofs.typed_text.TypedText.parameter_count.Goals as goal

pub signature_count-requires : goal.signature_count-requires
signature_count-requires c = subst (AreParameters c.args.self.now) c.in-OfSignature.is c.requires

pub returns-in-OfSignature : goal.returns-in-OfSignature
returns-in-OfSignature c = λ n p stands.
    c.signature_count.ensures n p stands ∙ signature_count n p c.in-OfSignature.signature
    ∙ ap (λ (params : Parameters). length (types_by n p params)) (sym c.in-OfSignature.is)

pub returns-in-OfRows : goal.returns-in-OfRows
returns-in-OfRows c = λ n p stands.
    count_is n c.args.self.now p c.in-OfRows.start c.in-OfRows.count stands (subst (AreParameters c.args.self.now) c.in-OfRows.is c.requires)
    ∙ ap (λ (params : Parameters). length (types_by n p params)) (sym c.in-OfRows.is)
