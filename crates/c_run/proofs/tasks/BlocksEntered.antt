-- Blocks, and the objects that are made where they are entered.
use Rattle.std.proofs.Common.{◌≡◌, Bool, true, false, ◌&&◌, ℕ, zero, suc, ◌+◌, ◌-◌, ◌<◌, ◌≤◌, length, get_or, arith, List, [], ◌∷◌, ◌++◌, map, drop, take, Option, None, Some, option_map, refl, sym, ap, ◌∙◌, append_assoc, if◌then◌else◌}
use Rattle.std.specs.Prelude.{nat_le}
use Rattle.std.specs.List.{flat_map}
use Rattle.cbase.specs.declared.place.Place.{Place}
use Rattle.cbase.specs.declared.tree.decl.Decl.{Decl}
use Rattle.cbase.specs.declared.tree.decl.Declared.{Declared}
use Rattle.cbase.specs.declared.tree.expr.Expr.{Expr}
use Rattle.cbase.specs.declared.tree.expr.ExprForm.TheViews.{out-Decl, out-StmtForm}
use Rattle.cbase.specs.declared.tree.init.Init.{Init}
use Rattle.cbase.specs.declared.tree.stmt.Stmt.{Stmt}
use Rattle.cbase.specs.declared.tree.stmt.StmtForm.{StmtForm}
use Rattle.typing.specs.Forms.{Clause as Layer}
use Rattle.c_machine.specs.declared.object.Object.{Object}
use Rattle.c_machine.specs.declared.kind.Kind.TheVariants.{Struct}
use Rattle.c_machine.specs.declared.task.Task.TheVariants.{Execute, LeaveBlock, MakeObject}
use Rattle.c_machine.specs.Blocks.{are_empty, is_empty, last_tasks, made, valued}
use Rattle.c_machine.specs.Program.{Program}
use Rattle.c_machine.specs.State.{doing}
use Rattle.c_machine.specs.Text.{Clause, Declare, Eval, Block, If, While, Do, For, Break, Continue, Return, Declared as DeclaredName, Text}
use Rattle.c_machine.specs.Trees.{clause_of, name_of, text_of}
use Rattle.c_text.specs.Kept.{is_sized, kept_object}
use Rattle.c_run.specs.tasks.Room.{are_kept, is_there, kinds_in}
use Rattle.c_run.proofs.tasks.EachInFront.{item_at}
use Rattle.c_run.proofs.tasks.MakingRoom.{Tasks, Running}

-- an object that is made, by what is told of it
pub size_kept : (object : Object) (fits : Bool) → is_sized object ≡ fits → are_kept (Struct object.bytes ∷ []) ≡ fits
size_kept object fits is = at (nat_le object.bytes 65536) is
  where
    at : (kept : Bool) → kept ≡ fits → is_there (option_map Struct (if kept then Some object.bytes else None)) && true ≡ fits
    at true is = is
    at false is = is

pub no_made : (t : Text) (found : Option Object) → Some None ≡ kept_object found → made t found ≡ []
no_made t None is = refl
no_made t (Some object) is = at (is_sized object) is
  where
    at : (fits : Bool) → Some None ≡ option_map Some (if fits then Some object else None) → made t (Some object) ≡ []
    at true is = absurd cc
    at false is = absurd cc

pub one_made : (t : Text) (found : Option Object) (object : Object) → Some (Some object) ≡ kept_object found →
    (made t found ≡ MakeObject object ∷ []) × (are_kept (Struct object.bytes ∷ []) ≡ true)
one_made t None object is = absurd cc
one_made t (Some own) object is = at (is_sized own) refl is
  where
    at : (fits : Bool) → is_sized own ≡ fits → Some (Some object) ≡ option_map Some (if fits then Some own else None) →
        (made t (Some own) ≡ MakeObject object ∷ []) × (are_kept (Struct object.bytes ∷ []) ≡ true)
    at true fits is =
        let same : own ≡ object = cc in
        (ap (λ (object : Object). MakeObject object ∷ []) same, size_kept object true (ap is_sized (sym same) ∙ fits))
    at false fits is = absurd cc

pub large_lacks : (t : Text) (found : Option Object) → None ≡ kept_object found → are_kept (kinds_in (made t found)) ≡ false
large_lacks t None is = absurd cc
large_lacks t (Some own) is = at (is_sized own) refl is
  where
    at : (fits : Bool) → is_sized own ≡ fits → None ≡ option_map Some (if fits then Some own else None) → are_kept (Struct own.bytes ∷ []) ≡ false
    at true fits is = absurd cc
    at false fits is = size_kept own false fits

-- those that a declaration makes
abbrev pub object_tasks : Program → Declared → Tasks
object_tasks p name = made (text_of p) ((text_of p).automatic (name_of name).place)

each_mapped : {A B C : Type 0} (f : A → B) (g : B → List C) (items : List A) → flat_map g (map f items) ≡ flat_map (λ (item : A). g (f item)) items
each_mapped f g [] = refl
each_mapped f g (item ∷ items) = ap (λ rest. g (f item) ++ rest) (each_mapped f g items)

pub clause_is : (stmt : Stmt) (form : StmtForm) (layer : Layer) → stmt.form ≡ form → out-StmtForm form ≡ layer → clause_of (out-StmtForm stmt.form) ≡ clause_of layer
clause_is stmt form layer is out = ap clause_of (ap out-StmtForm is ∙ out)

pub objects_declared : (p : Program) (decl : Decl) →
    flat_map (λ (name : DeclaredName Init). made (text_of p) ((text_of p).automatic name.place)) (map name_of (out-Decl decl).names)
    ≡ flat_map (object_tasks p) (out-Decl decl).names
objects_declared p decl = each_mapped name_of (λ (name : DeclaredName Init). made (text_of p) ((text_of p).automatic name.place)) (out-Decl decl).names

-- what is to be done behind something else
pub doing_behind : (one two : Tasks) (state : Running) → doing one (doing two state) ≡ doing (one ++ two) state
doing_behind one two state = ap (λ (tasks : Tasks). record state { tasks = tasks }) (sym (append_assoc one two state.tasks))

-- the statements of a block, and the value of the last one
abbrev pub statements : List Stmt → Place → Tasks
statements body close = map Execute body ++ LeaveBlock close ∷ []

pub statements_kept : (body : List Stmt) (close : Place) → are_kept (kinds_in (statements body close)) ≡ true
statements_kept [] close = refl
statements_kept (stmt ∷ body) close = statements_kept body close

last_kept : (p : Program) (stmt : Stmt) (clause : Clause Expr Stmt Init) (close : Place) →
    are_kept (kinds_in (last_tasks (text_of p) stmt clause ++ LeaveBlock close ∷ [])) ≡ true
last_kept p stmt (Eval (Some expr)) close = refl
last_kept p stmt (Eval None) close = refl
last_kept p stmt (Declare names) close = refl
last_kept p stmt (Block body) close = refl
last_kept p stmt (If test end one other) close = refl
last_kept p stmt (While test end body) close = refl
last_kept p stmt (Do body test end) close = refl
last_kept p stmt (For first test semicolon next end body) close = refl
last_kept p stmt Break close = refl
last_kept p stmt Continue close = refl
last_kept p stmt (Return expr) close = refl

pub valued_kept : (p : Program) (body : List Stmt) (close : Place) → are_kept (kinds_in (valued (text_of p) body ++ LeaveBlock close ∷ [])) ≡ true
valued_kept p [] close = refl
valued_kept p (stmt ∷ body) close = chosen (are_empty (text_of p) body) (valued_kept p body close)
  where
    chosen : (last : Bool) → are_kept (kinds_in (valued (text_of p) body ++ LeaveBlock close ∷ [])) ≡ true → are_kept (kinds_in (
        (if last then last_tasks (text_of p) stmt (clause_of (out-StmtForm stmt.form)) else Execute stmt ∷ valued (text_of p) body) ++ LeaveBlock close ∷ [])) ≡ true
    chosen true rest = last_kept p stmt (clause_of (out-StmtForm stmt.form)) close
    chosen false rest = rest

-- statements of which one is not empty are not all empty
never : (test : Bool) → test && false ≡ false
never true = refl
never false = refl

pub one_full : (p : Program) (body : List Stmt) (front : ℕ) (stmt : Stmt) (rest : List Stmt) → drop front body ≡ stmt ∷ rest →
    are_empty (text_of p) (stmt ∷ rest) ≡ false → are_empty (text_of p) body ≡ false
one_full p [] zero stmt rest is full = absurd cc
one_full p [] (suc front) stmt rest is full = absurd cc
one_full p (one ∷ body) zero stmt rest is full = ap (are_empty (text_of p)) is ∙ full
one_full p (one ∷ body) (suc front) stmt rest is full =
    ap (λ (all : Bool). is_empty (clause_of (out-StmtForm one.form)) && all) (one_full p body front stmt rest is full)
    ∙ never (is_empty (clause_of (out-StmtForm one.form)))

-- the last statement that counts stands behind the others, and empty ones stand behind it
pub valued_at : (p : Program) (body : List Stmt) (front : ℕ) (stmt : Stmt) (rest : List Stmt) → drop front body ≡ stmt ∷ rest →
    are_empty (text_of p) rest ≡ true → (0 < front → are_empty (text_of p) (stmt ∷ rest) ≡ false) →
    valued (text_of p) body ≡ map Execute (take front body) ++ last_tasks (text_of p) stmt (clause_of (out-StmtForm stmt.form))
valued_at p [] zero stmt rest is empty full = absurd cc
valued_at p [] (suc front) stmt rest is empty full = absurd cc
valued_at p (one ∷ body) zero stmt rest is empty full =
    ap (valued (text_of p)) is
    ∙ ap (λ (all : Bool). if all then last_tasks (text_of p) stmt (clause_of (out-StmtForm stmt.form)) else Execute stmt ∷ valued (text_of p) rest) empty
valued_at p (one ∷ body) (suc front) stmt rest is empty full =
    ap (λ (all : Bool). if all then last_tasks (text_of p) one (clause_of (out-StmtForm one.form)) else Execute one ∷ valued (text_of p) body)
    (one_full p body front stmt rest is (full (grind arith)))
    ∙ ap (λ (tasks : Tasks). Execute one ∷ tasks) (valued_at p body front stmt rest is empty (λ some. full (grind arith)))

-- all from a place on are empty, or not, as the statement there is, where all behind it are
with_true : (test : Bool) → test && true ≡ test
with_true true = refl
with_true false = refl

pub empty_from : (p : Program) (body : List Stmt) (left : ℕ) (stmt : Stmt) (test : Bool) → 0 < left → left ≤ length body → stmt ≡ get_or body (left - 1) stmt →
    test ≡ is_empty (clause_of (out-StmtForm stmt.form)) → are_empty (text_of p) (drop left body) ≡ true → are_empty (text_of p) (drop (left - 1) body) ≡ test
empty_from p body left stmt test some inside is one rest =
    let before : left - 1 < length body = grind (arith, some, inside) in
    let behind : left - 1 + 1 ≡ left = grind (arith, some) in
    ap (are_empty (text_of p)) (item_at body (left - 1) stmt before is)
    ∙ ap (λ (k : ℕ). is_empty (clause_of (out-StmtForm stmt.form)) && are_empty (text_of p) (drop k body)) behind
    ∙ ap (λ (all : Bool). is_empty (clause_of (out-StmtForm stmt.form)) && all) rest
    ∙ ap (λ (first : Bool). first && true) (sym one)
    ∙ with_true test

pub empty_behind : (p : Program) (body : List Stmt) → are_empty (text_of p) body ≡ true → are_empty (text_of p) (drop 1 body) ≡ true
empty_behind p [] all = refl
empty_behind p (stmt ∷ body) all = both (is_empty (clause_of (out-StmtForm stmt.form))) (are_empty (text_of p) body) all
  where
    both : (first rest : Bool) → first && rest ≡ true → rest ≡ true
    both true rest all = all
    both false rest all = absurd cc
