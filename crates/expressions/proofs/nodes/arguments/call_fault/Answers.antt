use Rattle.std.proofs.Common.{List, ℕ, Bool, ap, subst, sym, ◌∙◌, length}
use Rattle.std.specs.Prelude.{not, nat_eq}
use Rattle.typing.specs.declared.environment.entity.Signature.{Signature}
use Rattle.typing.specs.declared.ctypes.found.Broken.TheVariants.{Construct, Rule}
use Rattle.typing.specs.ctypes.Kinds.{kind_of}
use Rattle.typing.specs.Calls.{Argument, call_faults, calls_main, length_faults, unconverted}
use Rattle.typing.specs.Faults.{unless}
use Rattle.expressions.specs.Arguments.{arguments_at}
use Rattle.expressions.specs.Settled.{IsFirstOf}
use Rattle.expressions.proofs.Called.{same_structs, same_counts}
use Rattle.expressions.proofs.EachArgument.{kinds_at}
use Rattle.expressions.proofs.nodes.arguments.call_fault.Goals as goal

pub returns : goal.returns
returns c n agrees =
    let structs = c.args.context.now.structs in
    let signature : Signature = c.signature-signature.result.now in
    let args : List Argument = arguments_at n structs c.args.args.now c.args.known.now in
    let listed = c.as_slice-params.ensures in
    let counts =
    (λ i. nat_eq (length (listed i)) (length c.args.args.now))
    ∙ same_counts n structs signature.parameters c.args.args.now c.args.known.now c.requires.count
    in
    subst (λ (s : Signature). IsFirstOf (call_faults c.args.context.now.environment.strict c.args.node.place c.args.callee.place c.args.callee.name.now c.args.callee.built_in (kind_of structs (n.ctype s.result)) (kinds_at n structs s.parameters) args) c.first_of-4.result)
    (sym (agrees.signatures c.args.callee.signature signature c.signature-signature.ensures.is))
    (c.first_of-4.ensures _ _
    (subst (λ (has : Bool). IsFirstOf (unless (not has) c.args.node.place (Construct 13)) c.unless-by_value.result)
    (c.has_struct.ensures n agrees ∙ same_structs n structs signature.result signature.parameters c.args.args.now c.args.known.now c.requires.count) c.unless-by_value.ensures)
    (c.first_of-3.ensures _ _
    (subst (λ (params : List ℕ). IsFirstOf (length_faults c.args.callee.built_in c.args.callee.name.now c.args.node.place (kinds_at n structs params) args) c.length_fault-lengths.result)
    listed (c.length_fault-lengths.ensures n agrees))
    (c.first_of-2.ensures _ _
    (subst (λ (params : List ℕ). IsFirstOf (unconverted (kinds_at n structs params) args) c.unconverted-converted.result)
    listed (c.unconverted-converted.ensures n agrees))
    (c.first_of.ensures _ _
    (subst (λ (same : Bool). IsFirstOf (unless same c.args.callee.place (Rule 7)) c.unless-counted.result) counts c.unless-counted.ensures)
    (subst (λ (calls : Bool). IsFirstOf (unless (not calls) c.args.callee.place (Rule 13)) c.unless-allowed.result)
    (c.calls_main.ensures ∙ ap (λ (strict : Bool). calls_main strict c.args.callee.name.now) c.is_strict.ensures) c.unless-allowed.ensures)))))

pub has_struct-requires-clause-known : goal.has_struct-requires-clause-known
has_struct-requires-clause-known c = c.requires.known

pub length_fault-lengths-requires-clause-count : goal.length_fault-lengths-requires-clause-count
length_fault-lengths-requires-clause-count c = c.requires.count

pub length_fault-lengths-requires-clause-known : goal.length_fault-lengths-requires-clause-known
length_fault-lengths-requires-clause-known c = c.requires.known

pub unconverted-converted-requires-clause-count : goal.unconverted-converted-requires-clause-count
unconverted-converted-requires-clause-count c = c.requires.count

pub unconverted-converted-requires-clause-known : goal.unconverted-converted-requires-clause-known
unconverted-converted-requires-clause-known c = c.requires.known

pub signature-signature-requires : goal.signature-signature-requires
signature-signature-requires c = c.requires.signature

pub has_struct-requires-clause-result : goal.has_struct-requires-clause-result
has_struct-requires-clause-result c = c.signature-signature.ensures.below.0

pub has_struct-requires-clause-params : goal.has_struct-requires-clause-params
has_struct-requires-clause-params c = c.signature-signature.ensures.below.1

pub length_fault-lengths-requires-clause-params : goal.length_fault-lengths-requires-clause-params
length_fault-lengths-requires-clause-params c = rw c.as_slice-params.ensures c.signature-signature.ensures.below.1

pub unconverted-converted-requires-clause-params : goal.unconverted-converted-requires-clause-params
unconverted-converted-requires-clause-params c = rw c.as_slice-params.ensures c.signature-signature.ensures.below.1
