-- What is broken at a member, in the order in which it is asked.
use Rattle.std.proofs.Common.{◌≡◌, Bool, List, ◌∷◌, ◌++◌, [], ap, sym, subst, ◌∙◌}
use Rattle.std.specs.Prelude.{not, is_some}
use Rattle.cbase.specs.declared.ctype.CType.{CType}
use Rattle.cbase.specs.declared.structs.Field.{Field}
use Rattle.cbase.specs.declared.tree.expr.ExprForm.TheViews.{out-FieldName}
use Rattle.typing.specs.ctypes.Structs.{fields_of}
use Rattle.typing.specs.ctypes.Table.{type_at}
use Rattle.typing.specs.declared.ctypes.found.Broken.TheVariants.{Construct, Rule}
use Rattle.typing.specs.Braces.{has_member, member, is_large_struct}
use Rattle.typing.specs.Faults.{unless, all_at}
use Rattle.typing.specs.Forms.{MemberParts}
use Rattle.expressions.specs.Numbers.{fields_at}
use Rattle.expressions.specs.Settled.{IsFirstOf}
use Rattle.expressions.proofs.Growth.{agrees_at}
use Rattle.expressions.proofs.MembersSoFar.{fields_at_are, contrary}
use Rattle.expressions.proofs.nodes.declared_members.member_fault.Goals as goal

pub returns : goal.returns
returns c n abi agrees =
    let context = c.args.context.now in
    let list = c.args.members.now.list in
    let parts : MemberParts = out-FieldName c.args.name.now in
    let fields : fields_at n list ≡ fields_of context.types list = fields_at_are n context list agrees c.requires.members.below in
    let ctype : n.ctype c.args.named.ctype ≡ type_at context.types c.args.named.ctype = agrees_at n context c.args.named.ctype agrees c.requires.below in
    let twice : c.is_twice.result ≡ has_member parts.name (fields_at n list) = c.is_twice.ensures context c.requires.members ∙ ap (has_member parts.name) (sym fields) in
    let large : c.is_large_with-is_large.result ≡ is_large_struct abi context.structs (fields_at n list ++ member parts.name (n.ctype c.args.named.ctype) ∷ []) =
    c.is_large_with-is_large.ensures context abi parts.name c.args.named.ctype c.requires.members c.layout.ensures.value
    ∙ (ap (λ (t : CType). is_large_struct abi context.structs (fields_of context.types list ++ member parts.name t ∷ [])) (sym ctype)
    ∙ ap (λ (fs : List Field). is_large_struct abi context.structs (fs ++ member parts.name (n.ctype c.args.named.ctype) ∷ [])) (sym fields)) in
    c.first_of-4.ensures (all_at parts.place c.args.named.found) _ c.all_at.ensures
    (c.first_of-3.ensures _ _ (subst (λ (b : Bool). IsFirstOf (unless b parts.place (Construct 21)) c.unless-of_bits.result) (contrary (is_some parts.bits) c.is_none.result c.is_none.ensures) c.unless-of_bits.ensures)
    (c.first_of-2.ensures _ _ (subst (λ (b : Bool). IsFirstOf (unless (not b) parts.place (Construct 19)) c.unless-large.result) large c.unless-large.ensures)
    (c.first_of.ensures _ _ (subst (λ (b : Bool). IsFirstOf (unless (not b) parts.place (Rule 2)) c.unless-twice.result) twice c.unless-twice.ensures)
    (subst (λ (b : Bool). IsFirstOf (unless b parts.place (Rule 3)) c.unless-sized.result) (c.has_size.ensures n agrees) c.unless-sized.ensures))))
