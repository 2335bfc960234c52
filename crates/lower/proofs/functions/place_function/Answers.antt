-- The objects of the parameters, and the kind of the result, are those that are told.
use Rattle.std.proofs.Common.{sym, ap, subst, map, ◌∙◌}
use Rattle.expressions.specs.Context.{Context}
use Rattle.c_machine.specs.Program.{parameters_in, result_in}
use Rattle.c_machine.specs.Trees.{kind_in}
use Rattle.c_text.specs.Functions.{parameter_object}
use Rattle.c_text.specs.Kept.{kept}
use Rattle.c_text.specs.Stands.{StandsFor}
use Rattle.lowering.proofs.Onward.{if_ok}
use Rattle.lowering.proofs.Sources.{kept_is}
use Rattle.lower.proofs.FunctionsTold.{all_told, parameters_are}
use Rattle.lower.proofs.functions.place_function.Goals as goal

pub returns : goal.returns
returns c = if_ok c.place_named.result
    (λ placed is. record {
      of = λ p reads.
          let stands : StandsFor reads.reads.0 c.text-text.result.now p =
          subst (λ (context : Context). StandsFor reads.reads.0 context p) (sym c.text-text.ensures) reads.reads.1 in
          is.of p reads
          (kept_is (kind_in p (result_in p.handed c.args.function.now.token)) c.in-Some-defined_result.kind
          (c.in-Some-defined_result.ensures reads.reads.0 p stands ∙ ap (λ token. kept (kind_in p (result_in p.handed token))) c.token-in-Some.ensures))
          (parameters_are p c.args.function.now c.token.result c.as_slice.result.now c.token.ensures
          (all_told _ c.in_ok-parameter_objects.field-0 c.in-Some.objects (map (parameter_object p) (parameters_in p.handed c.token.result)) c.as_slice.result.now c.in-Some.is
          (c.in_ok-parameter_objects.ensures reads.reads.0 p stands) c.as_slice.ensures.value));
    })
    c.place_named.ensures
