-- The table of linkage against the rules, case by case.
use Rattle.std.proofs.Common.{◌↔◌, IsTrue, refl}
use Rattle.cbase.specs.declared.tree.decl.Storage.{Storage}
use Rattle.cbase.specs.declared.tree.decl.Storage.TheVariants.{Plain, Typedef, Extern, Static}
use Rattle.typing.specs.declared.environment.linkage.Standing.{Standing}
use Rattle.typing.specs.declared.environment.linkage.Standing.TheVariants.{File, Block}
use Rattle.typing.specs.declared.environment.linkage.Kind.{Kind}
use Rattle.typing.specs.declared.environment.linkage.Kind.TheVariants.{Object, Function}
use Rattle.typing.specs.environment.Linkage.{HasLinkage, Internal, External, PlainFunction, PlainObject, BlockFunction, has_linkage}

ruled : (standing : Standing) (storage : Storage) (kind : Kind) → IsTrue (has_linkage standing storage kind) → HasLinkage standing storage kind
ruled standing Typedef kind is = cc is
ruled standing Extern kind is = External standing kind
ruled standing Plain Function is = PlainFunction standing
ruled File Static Function is = Internal Function
ruled Block Static Function is = BlockFunction
ruled File Plain Object is = PlainObject
ruled File Static Object is = Internal Object
ruled Block Plain Object is = cc is
ruled Block Static Object is = cc is

tabled : (standing : Standing) (storage : Storage) (kind : Kind) → HasLinkage standing storage kind → IsTrue (has_linkage standing storage kind)
tabled standing storage kind (Internal which) = internal which
  where
    internal : (which : Kind) → IsTrue (has_linkage File Static which)
    internal Object = refl
    internal Function = refl
tabled standing storage kind (External where_it_stands which) = refl
tabled standing storage kind (PlainFunction where_it_stands) = refl
tabled standing storage kind PlainObject = refl
tabled standing storage kind BlockFunction = refl

pub table_is_right : (standing : Standing) (storage : Storage) (kind : Kind) → IsTrue (has_linkage standing storage kind) ↔ HasLinkage standing storage kind
table_is_right standing storage kind = (ruled standing storage kind, tabled standing storage kind)
