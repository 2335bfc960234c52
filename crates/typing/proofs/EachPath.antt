-- A way to a member leads somewhere, or stops.
use Rattle.std.proofs.Common.{◌≡◌, ℕ, List, [], ◌∷◌, length, Option, Some, None, refl}
use Rattle.cbase.specs.declared.abi.Abi.{Abi}
use Rattle.cbase.specs.declared.ctype.CType.{CType}
use Rattle.cbase.specs.declared.place.Place.{Place}
use Rattle.cbase.specs.declared.structs.StructDef.{StructDef}
use Rattle.cbase.specs.declared.tree.expr.Expr.{Expr}
use Rattle.cbase.specs.declared.tree.expr.ExprForm.TheOpen.{Part::Member, At}
use Rattle.cbase.specs.declared.tree.identifier.Identifier.{Identifier}
use Rattle.typing.specs.ctypes.Broken.{Judgement, Typed, Breaks}
use Rattle.typing.specs.ctypes.Kinds.{kind_of}
use Rattle.typing.specs.ctypes.Members.{member_of}
use Rattle.typing.specs.Forms.{Step}
use Rattle.typing.specs.Idiom.{plus, times, item_bytes, member_offset}
use Rattle.typing.specs.Laws.{EachPathLeads}
use Rattle.typing.specs.Paths.{Way, Offset, item_in, indices_on, Leads, LeadsFrom, Arrives, ToMember, MemberTooFar, NoMember, ToItem, ItemTooLarge, NoItem, NoSteps, ToFirst, FirstTooFar, NoFirst, FromItem}

-- somewhere from a type on
abbrev Goes : Abi → List StructDef → Place → CType → ℕ → List Step → List ℕ → Type 0
Goes abi structs word t offset path indices = (way : Way) × Leads abi structs word t offset path indices way

by_member : (abi : Abi) (structs : List StructDef) (word : Place) (t : CType) (offset : ℕ) (name : Identifier) (path : List Step) (indices : List ℕ)
    → (judgement : Judgement) → member_of structs t name.name ≡ judgement → (bytes : Option ℕ) → member_offset abi structs t name.name ≡ bytes
    → ((next : CType) (further : ℕ) → Goes abi structs word next further path indices)
    → Goes abi structs word t offset (Part::Member name ∷ path) indices
by_member abi structs word t offset name path indices (Typed next) is (Some bytes) at onward =
    let rest : Goes abi structs word next (plus offset bytes) path indices = onward next (plus offset bytes) in
    (rest.0, ToMember is at rest.1)
by_member abi structs word t offset name path indices (Typed next) is None at onward = (_, MemberTooFar is at)
by_member abi structs word t offset name path indices (Breaks broken) is bytes at onward = (_, NoMember is)

by_item : (abi : Abi) (structs : List StructDef) (word : Place) (t : CType) (offset : ℕ) (index : Expr) (value : ℕ) (path : List Step) (indices : List ℕ)
    → (item : Option CType) → item_in (kind_of structs t) ≡ item → (bytes : Option ℕ) → item_bytes abi structs (kind_of structs t) ≡ bytes
    → ((next : CType) (further : ℕ) → Goes abi structs word next further path indices)
    → Goes abi structs word t offset (At index ∷ path) (value ∷ indices)
by_item abi structs word t offset index value path indices (Some item) is (Some bytes) at onward =
    let rest : Goes abi structs word item (plus offset (times value bytes)) path indices = onward item (plus offset (times value bytes)) in
    (rest.0, ToItem is at rest.1)
by_item abi structs word t offset index value path indices (Some item) is None at onward = (_, ItemTooLarge is at)
by_item abi structs word t offset index value path indices None is bytes at onward = (_, NoItem is)

goes : (abi : Abi) (structs : List StructDef) (word : Place) (t : CType) (offset : ℕ) (path : List Step) (indices : List ℕ)
    → indices_on path ≡ length indices → Goes abi structs word t offset path indices
goes abi structs word t offset [] [] fits = (Offset offset, Arrives)
goes abi structs word t offset [] (value ∷ indices) fits = absurd (cc fits)
goes abi structs word t offset (Part::Member name ∷ path) indices fits =
    by_member abi structs word t offset name path indices (member_of structs t name.name) refl (member_offset abi structs t name.name) refl
    (λ next further. goes abi structs word next further path indices fits)
goes abi structs word t offset (At index ∷ path) [] fits = absurd (cc fits)
goes abi structs word t offset (At index ∷ path) (value ∷ indices) fits =
    by_item abi structs word t offset index value path indices (item_in (kind_of structs t)) refl (item_bytes abi structs (kind_of structs t)) refl
    (λ next further. goes abi structs word next further path indices (cc fits))

by_first : (abi : Abi) (structs : List StructDef) (word : Place) (t : CType) (name : Identifier) (path : List Step) (indices : List ℕ)
    → (judgement : Judgement) → member_of structs t name.name ≡ judgement → (bytes : Option ℕ) → member_offset abi structs t name.name ≡ bytes
    → indices_on path ≡ length indices → (way : Way) × LeadsFrom abi structs word t (Part::Member name ∷ path) indices way
by_first abi structs word t name path indices (Typed next) is (Some bytes) at fits =
    let rest : Goes abi structs word next bytes path indices = goes abi structs word next bytes path indices fits in
    (rest.0, ToFirst is at rest.1)
by_first abi structs word t name path indices (Typed next) is None at fits = (_, FirstTooFar is at)
by_first abi structs word t name path indices (Breaks broken) is bytes at fits = (_, NoFirst is)

pub each_path : EachPathLeads
each_path abi structs word t [] [] fits = (Offset 0, NoSteps)
each_path abi structs word t [] (value ∷ indices) fits = absurd (cc fits)
each_path abi structs word t (Part::Member name ∷ path) indices fits =
    by_first abi structs word t name path indices (member_of structs t name.name) refl (member_offset abi structs t name.name) refl fits
each_path abi structs word t (At index ∷ path) indices fits =
    let rest : Goes abi structs word t 0 (At index ∷ path) indices = goes abi structs word t 0 (At index ∷ path) indices fits in
    (rest.0, FromItem rest.1)
