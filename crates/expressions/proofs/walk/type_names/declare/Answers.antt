-- The type of stars and sizes, and what is found of it.
use Rattle.std.proofs.Common.{◌≡◌, ℕ, Bool, List, Option, Some, None, ap, ◌∙◌}
use Rattle.std.specs.Prelude.{if◌then◌else◌}
use Rattle.cbase.specs.declared.abi.Abi.{Abi}
use Rattle.typing.specs.declared.ctypes.found.Broken.{Broken}
use Rattle.typing.specs.declared.ctypes.found.Broken.TheVariants.{Construct}
use Rattle.typing.specs.declared.size.Size.{Size}
use Rattle.typing.specs.Faults.{least}
use Rattle.typing.specs.NamedTypes.{declared_type, found_of_sizes, is_large, with_sizes, with_stars}
use Rattle.expressions.specs.declared.named_type.NamedType.{NamedType}
use Rattle.expressions.specs.Context.{Context, Agrees}
use Rattle.expressions.specs.Numbers.{Numbering, named_at}
use Rattle.expressions.specs.Operated.{Numbers}
use Rattle.expressions.specs.Types.{IsDeclared}
use Rattle.expressions.proofs.Growth.{agrees_before_types, only_types_trans}
use Rattle.expressions.proofs.walk.type_names.declare.Goals as goal

declared_by : (abi : Abi) (base : NamedType) (stars : ℕ) (sizes : List Size) (old mid new : Context) (pointer ctype : ℕ) (large : Bool) (found : Option Broken)
    → Numbers (λ n. with_stars stars (n.ctype base.ctype)) old mid pointer → Numbers (λ n. with_sizes sizes (n.ctype pointer)) mid new ctype
    → ((n : Numbering) → Agrees n new → large ≡ is_large abi new.structs (n.ctype ctype))
    → found ≡ least base.found (least (found_of_sizes sizes) (if large then Some (Construct 19) else None))
    → IsDeclared abi base stars sizes old new (record { ctype = ctype; found = found })
declared_by abi base stars sizes old mid new pointer ctype large found first second asked is = record {
  only_types = only_types_trans old mid new first.only_types second.only_types;
  below = second.below;
  meant = λ n agrees.
      let pointed : n.ctype pointer ≡ with_stars stars (n.ctype base.ctype) = first.meant n (agrees_before_types mid new n second.only_types agrees) in
      let typed : n.ctype ctype ≡ declared_type (named_at n base) stars sizes = second.meant n agrees ∙ ap (with_sizes sizes) pointed in
      let structs = second.only_types.structs ∙ first.only_types.structs in
      let size : large ≡ is_large abi old.structs (declared_type (named_at n base) stars sizes) = asked n agrees ∙ (λ i. is_large abi (structs i) (typed i)) in
      let least_found = is ∙ ap (λ (b : Bool). least base.found (least (found_of_sizes sizes) (if b then Some (Construct 19) else None))) size in
      λ i. record { ctype = typed i; found = least_found i };
}

pub returns-in-Ok-arrays_of : goal.returns-in-Ok-arrays_of
returns-in-Ok-arrays_of c abi =
    declared_by abi c.args.base c.args.stars c.args.sizes.now c.args.context.now c.pointers_to.new.context c.arrays_of.new.context c.in-Ok.pointer c.in-Ok-arrays_of.ctype c.is_large.result c.least-in-Ok-arrays_of.result
    c.in-Ok.ensures c.in-Ok-arrays_of.ensures (λ n agrees. c.is_large.ensures n abi agrees)
    (c.least-in-Ok-arrays_of.ensures ∙ ap (least c.args.base.found) (c.least.ensures ∙ (λ i. least (c.found_of_sizes.ensures i) (c.found_of_large-large.ensures i))))
