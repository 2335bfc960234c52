-- What a language changes is followed by the one that it carries over to, also where it is changed by several steps or as a tag says.
use Rattle.std.proofs.Common.{◌≡◌, ℕ, length, Bool, true, false, List, [], ◌∷◌, Option, Some, None, refl, sym, ap, ◌∙◌, subst}
use Rattle.cbase.specs.declared.ctype.CType.{CType}
use Rattle.cbase.specs.declared.tree.decl.Storage.{Storage}
use Rattle.cbase.specs.declared.tree.identifier.Identifier.{Identifier}
use Rattle.typing.specs.declared.fault.Fault.{Fault}
use Rattle.typing.specs.declared.size.Size.{Size}
use Rattle.typing.specs.Braces.{Opening, Opens, IsTwice, tagged_struct, struct_opening, tagged_enum, enum_opening}
use Rattle.typing.specs.Declarations.{Given, ObjectGiven, LinkedGiven, TypeGiven, Parameter, composite, hidden_items, alone_by, alone, name_declared, is_named_here, parameter_declared, function_given}
use Rattle.typing.specs.Entities.{ObjectLinked, TagHere, StructHere, EnumHere, Definition, WholeType}
use Rattle.typing.specs.FileNames.{definition_in, with_definition, object_type, object_declared}
use Rattle.typing.specs.FileScope.{FileScope}
use Rattle.typing.specs.Forms.{DeclaratorParts}
use Rattle.typing.specs.Heads.{is_main, definition_of_head, marked_one, marked, marked_if, head_declared}
use Rattle.typing.specs.Items.{ItemSaying, FindsInFile}
use Rattle.typing.specs.Language.{Language}
use Rattle.typing.specs.NamedTypes.{NamedType}
use Rattle.typing.specs.Typing.{Saying, Finds}
use Rattle.items.specs.languages.Carries.{Follows, Carries}
use Rattle.items.proofs.languages.Seen.{seen, seen_file}

-- one change behind another one
pub follows_both : {E F : Type 0} {to : E → F} {Valid : E → Type 0} {before middle after : E} {near : F} (change : F → F)
    → Follows to Valid before middle near → Follows to Valid middle after (change (to middle)) → Follows to Valid before after (change near)
follows_both change first second = record { valid = first.valid; same = second.same ∙ ap change first.same }

-- what is found from where a map leads to on is found from what the other language makes on, and so is what is found up to there
pub in_front : {E : Type 0} {m : Language} {to : E → m.Environment} {Valid : E → Type 0} {before after : E} {there end : m.Environment} {saying : Saying}
    → Follows to Valid before after there → Finds m (to after) saying end → Finds m there saying end
in_front {m = m} {end = end} {saying = saying} f found = subst (λ (env : m.Environment). Finds m env saying end) f.same found

pub at_end : {E : Type 0} {m : Language} {to : E → m.Environment} {Valid : E → Type 0} {before after : E} {there start : m.Environment} {saying : Saying}
    → Follows to Valid before after there → Finds m start saying there → Finds m start saying (to after)
at_end {m = m} {start = start} {saying = saying} f found = subst (λ (env : m.Environment). Finds m start saying env) (sym f.same) found

pub item_in_front : {E : Type 0} {m : Language} {other : FileScope m} {to : E → m.Environment} {Valid : E → Type 0} {before after : E} {there end : m.Environment} {saying : ItemSaying}
    → Follows to Valid before after there → FindsInFile m other (to after) saying end → FindsInFile m other there saying end
item_in_front {m = m} {other = other} {end = end} {saying = saying} f found = subst (λ (env : m.Environment). FindsInFile m other env saying end) f.same found

pub item_at_end : {E : Type 0} {m : Language} {other : FileScope m} {to : E → m.Environment} {Valid : E → Type 0} {before after : E} {there start : m.Environment} {saying : ItemSaying}
    → Follows to Valid before after there → FindsInFile m other start saying there → FindsInFile m other start saying (to after)
item_at_end {m = m} {other = other} {start = start} {saying = saying} f found = subst (λ (env : m.Environment). FindsInFile m other start saying env) (sym f.same) found

-- what is opened
abbrev opened : {A : Type 0} → A → Opening A → A
opened other (Opens value) = value
opened other (IsTwice first) = other

abbrev IsOpened : {A : Type 0} → Opening A → Type 0
IsOpened (Opens value) = Unit {0}
IsOpened (IsTwice first) = ⊥

abbrev said_twice : {A : Type 0} → Fault → Opening A → Fault
said_twice other (Opens value) = other
said_twice other (IsTwice first) = first

never_opened : {A B : Type 0} {first : Fault} {value : A} → IsTwice first ≡ Opens value → B
never_opened {A = A} e = absurd (subst (λ (o : Opening A). IsOpened o) (sym e) tt)

never_twice : {A B : Type 0} {first : Fault} {value : A} → Opens value ≡ IsTwice first → B
never_twice {A = A} e = absurd (subst (λ (o : Opening A). IsOpened o) e tt)

twice_also : {A B : Type 0} (first second : Fault) → ◌≡◌ {A = Opening A} (IsTwice first) (IsTwice second) → ◌≡◌ {A = Opening B} (IsTwice first) (IsTwice second)
twice_also first second e = λ i. IsTwice (said_twice first (e i))

module _ {l m : Language} {file : FileScope l} {other : FileScope m} {to : l.Environment → m.Environment} {Valid : l.Environment → Type 0} (c : Carries l m file other to Valid) where
  -- what is changed is something that is known
  follows_as : {before changed after : l.Environment} {there : m.Environment} → changed ≡ after → (Valid changed → Follows to Valid before changed there) → Valid after
      → Follows to Valid before after there
  follows_as {before = before} {there = there} e follow valid =
      subst (λ (env : l.Environment). Follows to Valid before env there) e (follow (subst Valid (sym e) valid))

  nothing_changed : {before after : l.Environment} → before ≡ after → Valid after → Follows to Valid before after (to before)
  nothing_changed {before = before} e valid = record { valid = subst Valid (sym e) valid; same = ap to (sym e) }

  -- `struct s;`
  alone_by_tag : (name : Identifier) (before after : l.Environment) (here : Option TagHere) → alone_by (seen l m to) name before here ≡ Opens after → Valid after
      → (there : m.Environment) × (alone_by m name (to before) here ≡ Opens there) × Follows to Valid before after there
  alone_by_tag name before after None e valid =
      (m.struct_declared name.name (to before), refl, follows_as (ap (opened before) e) (c.struct_declared name.name before) valid)
  alone_by_tag name before after (Some (StructHere number listed)) e valid = (to before, refl, nothing_changed (ap (opened before) e) valid)
  alone_by_tag name before after (Some (EnumHere listed)) e valid = never_opened e

  pub alone_follows : (name : Identifier) (before after : l.Environment) → alone (seen l m to) name before ≡ Opens after → Valid after
      → (there : m.Environment) × (alone m name (to before) ≡ Opens there) × Follows to Valid before after there
  alone_follows name before after e valid = alone_by_tag name before after (m.tag_here name.name (to before)) e valid

  twice_by_tag : (name : Identifier) (env : l.Environment) (first : Fault) (here : Option TagHere) → alone_by (seen l m to) name env here ≡ IsTwice first
      → alone_by m name (to env) here ≡ IsTwice first
  twice_by_tag name env first None e = never_twice e
  twice_by_tag name env first (Some (StructHere number listed)) e = never_twice e
  twice_by_tag name env first (Some (EnumHere listed)) e = twice_also _ first e

  pub alone_twice : (name : Identifier) (env : l.Environment) (first : Fault) → alone (seen l m to) name env ≡ IsTwice first → alone m name (to env) ≡ IsTwice first
  alone_twice name env first e = twice_by_tag name env first (m.tag_here name.name (to env)) e

  -- the braces of a struct
  tagged_follows : (name : Identifier) (inner : ℕ) (before inside : l.Environment) (here : Option TagHere) → tagged_struct (seen l m to) name before here ≡ Opens (inner, inside) → Valid inside
      → (there : m.Environment) × (tagged_struct m name (to before) here ≡ Opens (inner, there)) × Follows to Valid before inside there
  tagged_follows name inner before inside None e valid =
      let there : m.Environment = m.struct_opened (Some name.name) (to before) in (
        there,
        (λ i. Opens ((opened (length (m.structs (to before)), before) (e i)).0, there)),
        follows_as (λ i. (opened (length (m.structs (to before)), before) (e i)).1) (c.struct_opened (Some name.name) before) valid,
      )
  tagged_follows name inner before inside (Some (StructHere number true)) e valid = never_opened e
  tagged_follows name inner before inside (Some (StructHere number false)) e valid =
      let there : m.Environment = m.struct_listed name.name number (to before) in
      (there, (λ i. Opens ((opened (number, before) (e i)).0, there)), follows_as (λ i. (opened (number, before) (e i)).1) (c.struct_listed name.name number before) valid)
  tagged_follows name inner before inside (Some (EnumHere listed)) e valid = never_opened e

  pub struct_opening_follows : (name : Option Identifier) (inner : ℕ) (before inside : l.Environment) → struct_opening (seen l m to) name before ≡ Opens (inner, inside) → Valid inside
      → (there : m.Environment) × (struct_opening m name (to before) ≡ Opens (inner, there)) × Follows to Valid before inside there
  struct_opening_follows None inner before inside e valid =
      let there : m.Environment = m.struct_opened None (to before) in (
        there,
        (λ i. Opens ((opened (length (m.structs (to before)), before) (e i)).0, there)),
        follows_as (λ i. (opened (length (m.structs (to before)), before) (e i)).1) (c.struct_opened None before) valid,
      )
  struct_opening_follows (Some name) inner before inside e valid = tagged_follows name inner before inside (m.tag_here name.name (to before)) e valid

  tagged_twice : (name : Identifier) (env : l.Environment) (first : Fault) (here : Option TagHere) → tagged_struct (seen l m to) name env here ≡ IsTwice first
      → tagged_struct m name (to env) here ≡ IsTwice first
  tagged_twice name env first None e = never_twice e
  tagged_twice name env first (Some (StructHere number true)) e = twice_also _ first e
  tagged_twice name env first (Some (StructHere number false)) e = never_twice e
  tagged_twice name env first (Some (EnumHere listed)) e = twice_also _ first e

  pub struct_opening_twice : (name : Option Identifier) (env : l.Environment) (first : Fault) → struct_opening (seen l m to) name env ≡ IsTwice first → struct_opening m name (to env) ≡ IsTwice first
  struct_opening_twice None env first e = never_twice e
  struct_opening_twice (Some name) env first e = tagged_twice name env first (m.tag_here name.name (to env)) e

  -- the braces of an enum
  enum_tagged_follows : (name : Identifier) (before inside : l.Environment) (here : Option TagHere) → tagged_enum (seen l m to) name before here ≡ Opens inside → Valid inside
      → (there : m.Environment) × (tagged_enum m name (to before) here ≡ Opens there) × Follows to Valid before inside there
  enum_tagged_follows name before inside None e valid =
      (m.enum_listed (Some name.name) (to before), refl, follows_as (ap (opened before) e) (c.enum_listed (Some name.name) before) valid)
  enum_tagged_follows name before inside (Some (StructHere number listed)) e valid = never_opened e
  enum_tagged_follows name before inside (Some (EnumHere true)) e valid = never_opened e
  enum_tagged_follows name before inside (Some (EnumHere false)) e valid =
      (m.enum_listed (Some name.name) (to before), refl, follows_as (ap (opened before) e) (c.enum_listed (Some name.name) before) valid)

  pub enum_opening_follows : (name : Option Identifier) (before inside : l.Environment) → enum_opening (seen l m to) name before ≡ Opens inside → Valid inside
      → (there : m.Environment) × (enum_opening m name (to before) ≡ Opens there) × Follows to Valid before inside there
  enum_opening_follows None before inside e valid = (m.enum_listed None (to before), refl, follows_as (ap (opened before) e) (c.enum_listed None before) valid)
  enum_opening_follows (Some name) before inside e valid = enum_tagged_follows name before inside (m.tag_here name.name (to before)) e valid

  enum_tagged_twice : (name : Identifier) (env : l.Environment) (first : Fault) (here : Option TagHere) → tagged_enum (seen l m to) name env here ≡ IsTwice first
      → tagged_enum m name (to env) here ≡ IsTwice first
  enum_tagged_twice name env first None e = never_twice e
  enum_tagged_twice name env first (Some (StructHere number listed)) e = twice_also _ first e
  enum_tagged_twice name env first (Some (EnumHere true)) e = twice_also _ first e
  enum_tagged_twice name env first (Some (EnumHere false)) e = never_twice e

  pub enum_opening_twice : (name : Option Identifier) (env : l.Environment) (first : Fault) → enum_opening (seen l m to) name env ≡ IsTwice first → enum_opening m name (to env) ≡ IsTwice first
  enum_opening_twice None env first e = never_twice e
  enum_opening_twice (Some name) env first e = enum_tagged_twice name env first (m.tag_here name.name (to env)) e

  -- names
  pub name_follows : (name : List ℕ) (token : ℕ) (gives : Given) (env : l.Environment) → Valid (name_declared (seen l m to) name token gives env)
      → Follows to Valid env (name_declared (seen l m to) name token gives env) (name_declared m name token gives (to env))
  name_follows name token (ObjectGiven fixed t) env valid = c.object_declared name token fixed t env valid
  name_follows name token (LinkedGiven linked) env valid =
      c.linked_declared name token (hidden_items (m.visible_type name (to env)) linked) (composite (m.linked name (to env)) linked) env valid
  name_follows name token (TypeGiven t) env valid = c.typedef_declared name t env valid

  pub named_here_alike : (name : Option Identifier) (env : l.Environment) → is_named_here (seen l m to) name env ≡ is_named_here m name (to env)
  named_here_alike None env = refl
  named_here_alike (Some name) env = refl

  pub parameter_follows : (name : Option Identifier) (t : CType) (env : l.Environment) → Valid (parameter_declared (seen l m to) name t env)
      → Follows to Valid env (parameter_declared (seen l m to) name t env) (parameter_declared m name t (to env))
  parameter_follows None t env valid = record { valid = valid; same = refl }
  parameter_follows (Some name) t env valid = c.object_declared name.name name.place.at false (WholeType t) env valid

  -- objects of a file
  pub object_follows : (storage : Storage) (base : NamedType) (parts : DeclaratorParts) (counts : List Size) (env : l.Environment)
      → Valid (object_declared (seen l m to) (seen_file l m file other to) storage base parts counts env)
      → Follows to Valid env (object_declared (seen l m to) (seen_file l m file other to) storage base parts counts env) (object_declared m other storage base parts counts (to env))
  object_follows storage base parts counts env valid =
      let gives : Given = LinkedGiven (ObjectLinked (object_type m base parts counts (to env))) in
      let definition : Definition = with_definition (other.definition parts.name (to env)) (definition_in storage parts) in
      let last = c.definition_set parts.name definition (name_declared (seen l m to) parts.name parts.place.at gives env) valid in
      follows_both (other.definition_set parts.name definition) (name_follows parts.name parts.place.at gives env last.valid) last

  -- heads of functions
  marked_one_follows : (name : Option Identifier) (t : CType) (env : l.Environment) → Valid (marked_one (seen l m to) (seen_file l m file other to) name t env)
      → Follows to Valid env (marked_one (seen l m to) (seen_file l m file other to) name t env) (marked_one m other name t (to env))
  marked_one_follows None t env valid = record { valid = valid; same = refl }
  marked_one_follows (Some name) t env valid = c.main_parameter name.name name.place.at t env valid

  marked_follows : (names : List (Option Identifier)) (told : List Parameter) (env : l.Environment) → Valid (marked (seen l m to) (seen_file l m file other to) names told env)
      → Follows to Valid env (marked (seen l m to) (seen_file l m file other to) names told env) (marked m other names told (to env))
  marked_follows [] told env valid = record { valid = valid; same = refl }
  marked_follows (name ∷ names) [] env valid = record { valid = valid; same = refl }
  marked_follows (name ∷ names) (told ∷ others) env valid =
      let last = marked_follows names others (marked_one (seen l m to) (seen_file l m file other to) name told.ctype env) valid in
      follows_both (marked m other names others) (marked_one_follows name told.ctype env last.valid) last

  marked_if_follows : (marks : Bool) (names : List (Option Identifier)) (told : List Parameter) (env : l.Environment)
      → Valid (marked_if (seen l m to) (seen_file l m file other to) marks names told env)
      → Follows to Valid env (marked_if (seen l m to) (seen_file l m file other to) marks names told env) (marked_if m other marks names told (to env))
  marked_if_follows true names told env valid = marked_follows names told env valid
  marked_if_follows false names told env valid = record { valid = valid; same = refl }

  pub head_follows : (bodied : Bool) (base : NamedType) (parts : DeclaratorParts) (names : List (Option Identifier)) (told : List Parameter) (env : l.Environment)
      → Valid (head_declared (seen l m to) (seen_file l m file other to) bodied base parts names told env)
      → Follows to Valid env (head_declared (seen l m to) (seen_file l m file other to) bodied base parts names told env) (head_declared m other bodied base parts names told (to env))
  head_follows bodied base parts names told env valid =
      let definition : Definition = with_definition (other.definition parts.name (to env)) (definition_of_head bodied) in
      let linked = composite (m.linked parts.name (to env)) (function_given parts base told) in
      let marks = marked_if (seen l m to) (seen_file l m file other to) (is_main parts.name) names told env in
      let last = c.definition_set parts.name definition (file.declared_around parts.name parts.place.at linked marks) valid in
      let around = c.declared_around parts.name parts.place.at linked marks last.valid in
      let front = marked_if_follows (is_main parts.name) names told env around.valid in
      follows_both (other.definition_set parts.name definition) (follows_both (other.declared_around parts.name parts.place.at linked) front around) last
