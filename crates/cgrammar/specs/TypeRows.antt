-- Types in expressions (C11 6.7.2, 6.7.7), and offsets of members (C11 7.19).
use Rattle.std.specs.Prelude.{true, false, List, [], ◌∷◌, None, Some, codes}
use Rattle.cbase.specs.declared.tree.expr.Expr.{Expr}
use Rattle.cbase.specs.declared.tree.expr.ExprForm.TheVariants.{Name, Constant, Binary, Count, Choose, Cast, SizeOfType, OffsetOf}
use Rattle.cbase.specs.declared.tree.expr.Part.TheVariants.{Member as NamedPart, At}
use Rattle.cbase.specs.declared.tree.operators.BinaryOp.TheVariants.{Add, Comma}
use Rattle.cbase.specs.declared.tree.spec.BasicType.TheVariants.{Bool as TruthType, Integer}
use Rattle.cbase.specs.declared.tree.spec.Rank.TheVariants.{Char, Short, Int, LongLong}
use Rattle.cbase.specs.declared.tree.spec.TypeSpec.TheVariants.{Basic, Named, Struct, Enum, OfExpr, OfType}
use Rattle.cgrammar.specs.Rows.{at, node, word, named}
use Rattle.cgrammar.specs.TextRows.{TextRow, taken_as, missed, HaveExpressions}
use Rattle.cgrammar.specs.Trees.{field, fields, enumerator, type_name}

abbrev pub type_table : List (TextRow Expr)
type_table =
    taken_as (codes "sizeof ( struct { int a ; } )") [] (node 0 0 (SizeOfType (type_name (Struct None (Some ((fields (Basic (Integer Int true)) ((field (at 5) (Some (codes "a")) 0 [] None) ∷ [])) ∷ []))) 0 []))) 9
    ∷ taken_as (codes "sizeof ( struct s { int a , * b [ 2 ] ; T c : 3 ; } )") (codes "T" ∷ []) (node 2 0 (SizeOfType (type_name (Struct (Some (named (codes "s") 3)) (Some ((fields (Basic (Integer Int true)) ((field (at 6) (Some (codes "a")) 0 [] None) ∷ (field (at 9) (Some (codes "b")) 1 ((Some (node 0 11 (Constant (codes "2")))) ∷ []) None) ∷ [])) ∷ (fields (Named (codes "T")) ((field (at 15) (Some (codes "c")) 0 [] (Some (node 1 17 (Constant (codes "3"))))) ∷ [])) ∷ []))) 0 []))) 21
    ∷ taken_as (codes "sizeof ( struct s { } )") [] (node 0 0 (SizeOfType (type_name (Struct (Some (named (codes "s") 3)) (Some [])) 0 []))) 7
    ∷ taken_as (codes "sizeof ( struct { int : 3 , d : 4 ; } )") [] (node 2 0 (SizeOfType (type_name (Struct None (Some ((fields (Basic (Integer Int true)) ((field (at 5) None 0 [] (Some (node 0 6 (Constant (codes "3"))))) ∷ (field (at 8) (Some (codes "d")) 0 [] (Some (node 1 10 (Constant (codes "4"))))) ∷ [])) ∷ []))) 0 []))) 14
    ∷ missed (codes "sizeof ( struct { int ; } )") []
    ∷ missed (codes "sizeof ( struct { int a } )") []
    ∷ missed (codes "sizeof ( struct { int a [ ] ; } )") []
    ∷ missed (codes "sizeof ( struct { int a [ 1 ] [ ] : 2 ; } )") []
    ∷ missed (codes "sizeof ( struct { a ; } )") []
    ∷ missed (codes "sizeof ( struct { int * : 3 ; } )") []
    ∷ missed (codes "sizeof ( struct { int a , ; } )") []
    ∷ taken_as (codes "sizeof ( struct { struct { int a ; } b ; enum { C } d ; } )") [] (node 0 0 (SizeOfType (type_name (Struct None (Some ((fields (Struct None (Some ((fields (Basic (Integer Int true)) ((field (at 7) (Some (codes "a")) 0 [] None) ∷ [])) ∷ []))) ((field (at 10) (Some (codes "b")) 0 [] None) ∷ [])) ∷ (fields (Enum None (Some ((enumerator (word (codes "C") 14) None) ∷ []))) ((field (at 16) (Some (codes "d")) 0 [] None) ∷ [])) ∷ []))) 0 []))) 20
    ∷ missed (codes "sizeof ( struct { struct { int a ; } ; } )") []
    ∷ missed (codes "sizeof ( struct { static int a ; } )") []
    ∷ missed (codes "sizeof ( struct s { int a ; )") []
    ∷ missed (codes "sizeof ( struct { int a = 1 ; } )") []
    ∷ missed (codes "sizeof ( struct int { int a ; } )") []
    ∷ taken_as (codes "sizeof ( struct { int a : b ? c : d ; } )") [] (node 4 0 (SizeOfType (type_name (Struct None (Some ((fields (Basic (Integer Int true)) ((field (at 5) (Some (codes "a")) 0 [] (Some (node 3 8 (Choose (node 0 7 (Name (codes "b"))) (node 1 9 (Name (codes "c"))) (node 2 11 (Name (codes "d"))))))) ∷ [])) ∷ []))) 0 []))) 15
    ∷ missed (codes "sizeof ( struct { int a : b = c ; } )") []
    ∷ taken_as (codes "sizeof ( struct { int * * a ; } )") [] (node 0 0 (SizeOfType (type_name (Struct None (Some ((fields (Basic (Integer Int true)) ((field (at 7) (Some (codes "a")) 2 [] None) ∷ [])) ∷ []))) 0 []))) 11
    ∷ missed (codes "sizeof ( struct { int f ( ) ; } )") []
    ∷ taken_as (codes "sizeof ( struct T { T T ; } )") (codes "T" ∷ []) (node 0 0 (SizeOfType (type_name (Struct (Some (named (codes "T") 3)) (Some ((fields (Named (codes "T")) ((field (at 6) (Some (codes "T")) 0 [] None) ∷ [])) ∷ []))) 0 []))) 10
    ∷ missed (codes "sizeof ( struct { ; } )") []
    ∷ taken_as (codes "sizeof ( enum { A } )") [] (node 0 0 (SizeOfType (type_name (Enum None (Some ((enumerator (word (codes "A") 4) None) ∷ []))) 0 []))) 7
    ∷ taken_as (codes "sizeof ( enum e { A , B = 2 , C , } )") [] (node 1 0 (SizeOfType (type_name (Enum (Some (named (codes "e") 3)) (Some ((enumerator (word (codes "A") 5) None) ∷ (enumerator (word (codes "B") 7) (Some (node 0 9 (Constant (codes "2"))))) ∷ (enumerator (word (codes "C") 11) None) ∷ []))) 0 []))) 15
    ∷ missed (codes "sizeof ( enum { } )") []
    ∷ missed (codes "sizeof ( enum { , } )") []
    ∷ missed (codes "sizeof ( enum { A , , } )") []
    ∷ missed (codes "sizeof ( enum { A = } )") []
    ∷ missed (codes "sizeof ( enum { A = b = c } )") []
    ∷ taken_as (codes "sizeof ( enum { A = b ? c : d , } )") [] (node 4 0 (SizeOfType (type_name (Enum None (Some ((enumerator (word (codes "A") 4) (Some (node 3 7 (Choose (node 0 6 (Name (codes "b"))) (node 1 8 (Name (codes "c"))) (node 2 10 (Name (codes "d"))))))) ∷ []))) 0 []))) 14
    ∷ taken_as (codes "sizeof ( enum e )") [] (node 0 0 (SizeOfType (type_name (Enum (Some (named (codes "e") 3)) None) 0 []))) 5
    ∷ missed (codes "sizeof ( enum { 1 } )") []
    ∷ missed (codes "sizeof ( enum { A B } )") []
    ∷ taken_as (codes "sizeof ( enum { A = 1 , B = A + 1 } * )") [] (node 4 0 (SizeOfType (type_name (Enum None (Some ((enumerator (word (codes "A") 4) (Some (node 0 6 (Constant (codes "1"))))) ∷ (enumerator (word (codes "B") 8) (Some (node 3 11 (Binary Add (node 1 10 (Name (codes "A"))) (node 2 12 (Constant (codes "1"))))))) ∷ []))) 1 []))) 16
    ∷ missed (codes "sizeof ( enum e { A )") []
    ∷ missed (codes "sizeof ( enum )") []
    ∷ taken_as (codes "sizeof ( typeof ( a ) )") [] (node 1 0 (SizeOfType (type_name (OfExpr (node 0 4 (Name (codes "a")))) 0 []))) 7
    ∷ taken_as (codes "sizeof ( typeof ( a , b ) )") [] (node 3 0 (SizeOfType (type_name (OfExpr (node 2 5 (Binary Comma (node 0 4 (Name (codes "a"))) (node 1 6 (Name (codes "b")))))) 0 []))) 9
    ∷ taken_as (codes "sizeof ( typeof ( T ) )") (codes "T" ∷ []) (node 0 0 (SizeOfType (type_name (OfType (type_name (Named (codes "T")) 0 [])) 0 []))) 7
    ∷ taken_as (codes "sizeof ( typeof ( T * [ 2 ] ) * )") (codes "T" ∷ []) (node 1 0 (SizeOfType (type_name (OfType (type_name (Named (codes "T")) 1 ((Some (node 0 7 (Constant (codes "2")))) ∷ []))) 1 []))) 12
    ∷ taken_as (codes "sizeof ( typeof ( ( T ) a ) )") (codes "T" ∷ []) (node 2 0 (SizeOfType (type_name (OfExpr (node 1 4 (Cast (type_name (Named (codes "T")) 0 []) (node 0 7 (Name (codes "a")))))) 0 []))) 10
    ∷ missed (codes "sizeof ( typeof a )") []
    ∷ missed (codes "sizeof ( typeof ( ) )") []
    ∷ missed (codes "sizeof ( typeof ( a )") []
    ∷ taken_as (codes "sizeof ( typeof ( int ) )") [] (node 0 0 (SizeOfType (type_name (OfType (type_name (Basic (Integer Int true)) 0 [])) 0 []))) 7
    ∷ missed (codes "sizeof ( typeof ( int a ) )") []
    ∷ missed (codes "sizeof ( typeof ( T a ) )") (codes "T" ∷ [])
    ∷ missed (codes "sizeof ( typeof ( a ) a )") []
    ∷ taken_as (codes "sizeof ( typeof ( typeof ( a ) ) )") [] (node 1 0 (SizeOfType (type_name (OfType (type_name (OfExpr (node 0 6 (Name (codes "a")))) 0 [])) 0 []))) 10
    ∷ taken_as (codes "sizeof ( unsigned long long int )") [] (node 0 0 (SizeOfType (type_name (Basic (Integer LongLong false)) 0 []))) 7
    ∷ taken_as (codes "sizeof ( int long unsigned long )") [] (node 0 0 (SizeOfType (type_name (Basic (Integer LongLong false)) 0 []))) 7
    ∷ taken_as (codes "sizeof ( signed char )") [] (node 0 0 (SizeOfType (type_name (Basic (Integer Char true)) 0 []))) 5
    ∷ taken_as (codes "sizeof ( char unsigned )") [] (node 0 0 (SizeOfType (type_name (Basic (Integer Char false)) 0 []))) 5
    ∷ taken_as (codes "sizeof ( _Bool )") [] (node 0 0 (SizeOfType (type_name (Basic TruthType) 0 []))) 4
    ∷ taken_as (codes "sizeof ( signed )") [] (node 0 0 (SizeOfType (type_name (Basic (Integer Int true)) 0 []))) 4
    ∷ taken_as (codes "sizeof ( short unsigned int )") [] (node 0 0 (SizeOfType (type_name (Basic (Integer Short false)) 0 []))) 6
    ∷ missed (codes "sizeof ( signed unsigned )") []
    ∷ missed (codes "sizeof ( int int )") []
    ∷ missed (codes "sizeof ( float )") []
    ∷ missed (codes "sizeof ( union u )") []
    ∷ missed (codes "sizeof ( unsigned T )") (codes "T" ∷ [])
    ∷ missed (codes "sizeof ( T int )") (codes "T" ∷ [])
    ∷ taken_as (codes "__builtin_offsetof ( struct s , a )") [] (node 0 0 (OffsetOf (type_name (Struct (Some (named (codes "s") 3)) None) 0 []) ((NamedPart (named (codes "a") 5)) ∷ []))) 7
    ∷ taken_as (codes "__builtin_offsetof ( struct s , a . b [ 1 ] . c [ d ] [ e ] )") [] (node 3 0 (OffsetOf (type_name (Struct (Some (named (codes "s") 3)) None) 0 []) ((NamedPart (named (codes "a") 5)) ∷ (NamedPart (named (codes "b") 7)) ∷ (At (node 0 9 (Constant (codes "1")))) ∷ (NamedPart (named (codes "c") 12)) ∷ (At (node 1 14 (Name (codes "d")))) ∷ (At (node 2 17 (Name (codes "e")))) ∷ []))) 20
    ∷ taken_as (codes "__builtin_offsetof ( T , a )") (codes "T" ∷ []) (node 0 0 (OffsetOf (type_name (Named (codes "T")) 0 []) ((NamedPart (named (codes "a") 4)) ∷ []))) 6
    ∷ taken_as (codes "__builtin_offsetof ( T * [ 2 ] , T ) + 1") (codes "T" ∷ []) (node 3 10 (Binary Add (node 1 0 (OffsetOf (type_name (Named (codes "T")) 1 ((Some (node 0 5 (Constant (codes "2")))) ∷ [])) ((NamedPart (named (codes "T") 8)) ∷ []))) (node 2 11 (Constant (codes "1"))))) 12
    ∷ missed (codes "__builtin_offsetof ( struct s )") []
    ∷ missed (codes "__builtin_offsetof ( struct s , )") []
    ∷ missed (codes "__builtin_offsetof ( struct s , [ 1 ] )") []
    ∷ missed (codes "__builtin_offsetof ( struct s , a -> b )") []
    ∷ missed (codes "__builtin_offsetof ( struct s , a [ ] )") []
    ∷ missed (codes "__builtin_offsetof ( struct s , a [ b , c ] )") []
    ∷ missed (codes "__builtin_offsetof ( struct s , a . 1 )") []
    ∷ missed (codes "__builtin_offsetof ( a , b )") []
    ∷ missed (codes "__builtin_offsetof struct s") []
    ∷ missed (codes "__builtin_offsetof ( struct s , a") []
    ∷ missed (codes "__builtin_offsetof ( struct s , int )") []
    ∷ taken_as (codes "__builtin_offsetof ( struct s , a ) ++") [] (node 1 7 (Count true true (node 0 0 (OffsetOf (type_name (Struct (Some (named (codes "s") 3)) None) 0 []) ((NamedPart (named (codes "a") 5)) ∷ []))))) 8
    ∷ taken_as (codes "__builtin_offsetof ( struct s , a [ b ? c : d ] )") [] (node 4 0 (OffsetOf (type_name (Struct (Some (named (codes "s") 3)) None) 0 []) ((NamedPart (named (codes "a") 5)) ∷ (At (node 3 8 (Choose (node 0 7 (Name (codes "b"))) (node 1 9 (Name (codes "c"))) (node 2 11 (Name (codes "d")))))) ∷ []))) 14
    ∷ []

unfoldable pub TypeRows : Type 0
TypeRows = HaveExpressions type_table
