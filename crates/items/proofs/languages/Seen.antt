-- A language that says of its environments what another one says of those to which a map leads. Where the one carries over to the other, it is the one itself.
use Rattle.typing.specs.FileScope.{FileScope}
use Rattle.typing.specs.Items.{ItemSaying, FindsInFile}
use Rattle.typing.specs.Language.{Language}
use Rattle.typing.specs.Typing.{Saying, Finds}
use Rattle.items.specs.languages.Carries.{Carries}

abbrev pub seen : (l m : Language) → (l.Environment → m.Environment) → Language
seen l m to = record {
  abi = m.abi;
  Environment = l.Environment;
  entity = λ name env. m.entity name (to env);
  tag = λ name env. m.tag name (to env);
  structs = λ env. m.structs (to env);
  struct_declared = l.struct_declared;
  enum_declared = l.enum_declared;
  entered = l.entered;
  left = l.left;
  tag_here = λ name env. m.tag_here name (to env);
  struct_opened = l.struct_opened;
  struct_listed = l.struct_listed;
  struct_completed = l.struct_completed;
  enum_listed = l.enum_listed;
  is_declared_here = λ name env. m.is_declared_here name (to env);
  constant_declared = l.constant_declared;
  in_loop = λ env. m.in_loop (to env);
  loop_set = l.loop_set;
  result = λ env. m.result (to env);
  name_here = λ name env. m.name_here name (to env);
  linked = λ name env. m.linked name (to env);
  visible_type = λ name env. m.visible_type name (to env);
  object_declared = l.object_declared;
  typedef_declared = l.typedef_declared;
  linked_declared = l.linked_declared;
  strict = λ env. m.strict (to env);
}

abbrev pub seen_file : (l m : Language) (file : FileScope l) (other : FileScope m) (to : l.Environment → m.Environment) → FileScope (seen l m to)
seen_file l m file other to = record {
  definition = λ name env. other.definition name (to env);
  definition_set = file.definition_set;
  first_token = λ name env. other.first_token name (to env);
  declared_around = file.declared_around;
  main_parameter = file.main_parameter;
  result_set = file.result_set;
}

-- from that one to the one itself
abbrev on_the_way : (l m : Language) (file : FileScope l) (other : FileScope m) (to : l.Environment → m.Environment) (Valid : l.Environment → Type 0)
    → Carries l m file other to Valid → 𝕀 → Language
on_the_way l m file other to Valid c i = record {
  abi = c.abi i;
  Environment = l.Environment;
  entity = λ name env. c.entity name env i;
  tag = λ name env. c.tag name env i;
  structs = λ env. c.structs env i;
  struct_declared = l.struct_declared;
  enum_declared = l.enum_declared;
  entered = l.entered;
  left = l.left;
  tag_here = λ name env. c.tag_here name env i;
  struct_opened = l.struct_opened;
  struct_listed = l.struct_listed;
  struct_completed = l.struct_completed;
  enum_listed = l.enum_listed;
  is_declared_here = λ name env. c.is_declared_here name env i;
  constant_declared = l.constant_declared;
  in_loop = λ env. c.in_loop env i;
  loop_set = l.loop_set;
  result = λ env. c.result env i;
  name_here = λ name env. c.name_here name env i;
  linked = λ name env. c.linked name env i;
  visible_type = λ name env. c.visible_type name env i;
  object_declared = l.object_declared;
  typedef_declared = l.typedef_declared;
  linked_declared = l.linked_declared;
  strict = λ env. c.strict env i;
}

abbrev file_on_the_way : (l m : Language) (file : FileScope l) (other : FileScope m) (to : l.Environment → m.Environment) (Valid : l.Environment → Type 0)
    (c : Carries l m file other to Valid) (i : 𝕀) → FileScope (on_the_way l m file other to Valid c i)
file_on_the_way l m file other to Valid c i = record {
  definition = λ name env. c.definition name env i;
  definition_set = file.definition_set;
  first_token = λ name env. c.first_token name env i;
  declared_around = file.declared_around;
  main_parameter = file.main_parameter;
  result_set = file.result_set;
}

-- what is found of a part, and of an item
pub found_seen : (l m : Language) (file : FileScope l) (other : FileScope m) (to : l.Environment → m.Environment) (Valid : l.Environment → Type 0)
    → Carries l m file other to Valid → (before : l.Environment) (saying : Saying) (after : l.Environment)
    → Finds l before saying after → Finds (seen l m to) before saying after
found_seen l m file other to Valid c before saying after found =
    coe 1 0 (i. Finds (on_the_way l m file other to Valid c i) before saying after) found

pub item_seen : (l m : Language) (file : FileScope l) (other : FileScope m) (to : l.Environment → m.Environment) (Valid : l.Environment → Type 0)
    → Carries l m file other to Valid → (before : l.Environment) (saying : ItemSaying) (after : l.Environment)
    → FindsInFile l file before saying after → FindsInFile (seen l m to) (seen_file l m file other to) before saying after
item_seen l m file other to Valid c before saying after found =
    coe 1 0 (i. FindsInFile (on_the_way l m file other to Valid c i) (file_on_the_way l m file other to Valid c i) before saying after) found
