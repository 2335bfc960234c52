-- A step keeps what holds of a state.
use Rattle.std.proofs.Common.{◌≡◌, ℕ, ◌+◌, ◌<◌, List, [], ◌∷◌, ◌++◌, length, Some, refl, sym, ap, subst, ◌∙◌, arith}
use Rattle.std.specs.Prelude.{slice_get}
use Rattle.std.specs.List.{flat_map}
use Rattle.std.proofs.lemmas.List.{append_assoc}
use Rattle.std.proofs.lemmas.Option.{slice_get_within}
use Rattle.bytes_core.specs.declared.block.Block.{Block}
use Rattle.bytes_core.specs.declared.block.BlockKind.{BlockKind}
use Rattle.bytes_core.specs.declared.block.BlockKind.TheVariants as storage
use Rattle.bytes_core.specs.declared.word.Word.{Word}
use Rattle.bytes_core.specs.declared.word.Word.TheVariants.{Plain, To}
use Rattle.c_machine.specs.declared.variable.Variable.{Variable}
use Rattle.c_machine.specs.Choosing.{in_innermost}
use Rattle.c_machine.specs.Keeping.{IsOperand, AreOperands, IsObject, AreLive, Misses, AreApart, own_blocks, IsState}
use Rattle.c_machine.specs.State.{Scope, Frame, State, blocks_of, objects_of}
use Rattle.c_machine.proofs.KeptMemory.{Keeps, Ends, Places}

-- lists of objects
pub live_map : (kind : BlockKind) (old new : List Block) (numbers : List ℕ) → ((number : ℕ) → IsObject kind old number → IsObject kind new number) →
    AreLive kind old numbers → AreLive kind new numbers
live_map kind old new [] each live = tt
live_map kind old new (number ∷ rest) each live = (each number live.0, live_map kind old new rest each live.1)

pub blocks_of-append : (one other : Scope) → blocks_of (one ++ other) ≡ blocks_of one ++ blocks_of other
blocks_of-append [] other = refl
blocks_of-append (variable ∷ one) other = ap (λ (blocks : List ℕ). variable.block ∷ blocks) (blocks_of-append one other)

pub live_front : (kind : BlockKind) (memory : List Block) (one other : List ℕ) → AreLive kind memory (one ++ other) → AreLive kind memory one
live_front kind memory [] other live = tt
live_front kind memory (number ∷ one) other live = (live.0, live_front kind memory one other live.1)

pub live_back : (kind : BlockKind) (memory : List Block) (one other : List ℕ) → AreLive kind memory (one ++ other) → AreLive kind memory other
live_back kind memory [] other live = live
live_back kind memory (number ∷ one) other live = live_back kind memory one other live.1

misses_back : (number : ℕ) (one other : List ℕ) → Misses number (one ++ other) → Misses number other
misses_back number [] other misses = misses
misses_back number (first ∷ one) other misses = misses_back number one other misses.1

pub apart_back : (one other : List ℕ) → AreApart (one ++ other) → AreApart other
apart_back [] other apart = apart
apart_back (number ∷ one) other apart = apart_back one other apart.1

-- each number of one list is none of another
abbrev pub EachMisses : List ℕ → List ℕ → Type 0
EachMisses [] others = Unit {0}
EachMisses (number ∷ rest) others = Misses number others × EachMisses rest others

each_nil : (numbers : List ℕ) → EachMisses numbers []
each_nil [] = tt
each_nil (number ∷ rest) = (tt, each_nil rest)

each_cons : (first : ℕ) (numbers others : List ℕ) → Misses first numbers → EachMisses numbers others → EachMisses numbers (first ∷ others)
each_cons first [] others misses each = tt
each_cons first (number ∷ rest) others misses each = ((λ same. misses.0 (sym same), each.0), each_cons first rest others misses.1 each.1)

pub apart_each : (one other : List ℕ) → AreApart (one ++ other) → EachMisses other one
apart_each [] other apart = each_nil other
apart_each (first ∷ one) other apart = each_cons first other one (misses_back first one other apart.0) (apart_each one other apart.1)

pub live_on : (kind : BlockKind) (dying : List ℕ) (old new : List Block) (numbers : List ℕ) → Ends dying old new → EachMisses numbers dying → AreLive kind old numbers → AreLive kind new numbers
live_on kind dying old new [] ends each live = tt
live_on kind dying old new (number ∷ rest) ends each live = (ends.lives kind number each.0 live.0, live_on kind dying old new rest ends each.1 live.1)

-- a static object is none of the local ones
static_local : (memory : List Block) (number other : ℕ) → IsObject storage.Static memory number → IsObject storage.Local memory other → number ≡ other → ⊥
static_local memory number other one two same =
    let found : Some one.block ≡ Some two.block = sym one.stands ∙ ap (slice_get memory) same ∙ two.stands in
    let block : one.block ≡ two.block = cc in
    let kinds : storage.Static ≡ storage.Local = sym one.is ∙ ap (λ (found : Block). found.kind) block ∙ two.is in
    absurd cc

static_misses : (memory : List Block) (number : ℕ) (numbers : List ℕ) → IsObject storage.Static memory number → AreLive storage.Local memory numbers → Misses number numbers
static_misses memory number [] object live = tt
static_misses memory number (first ∷ rest) object live = (static_local memory number first object live.0, static_misses memory number rest object live.1)

pub statics_miss : (memory : List Block) (statics numbers : List ℕ) → AreLive storage.Static memory statics → AreLive storage.Local memory numbers → EachMisses statics numbers
statics_miss memory [] numbers lasting live = tt
statics_miss memory (number ∷ rest) numbers lasting live = (static_misses memory number numbers lasting.0 live, statics_miss memory rest numbers lasting.1 live)

-- other parts of a state
pub with_tasks : {E S I : Type 0} (state : State E S I) (tasks : List _) → IsState state → IsState (record state { tasks = tasks })
with_tasks state tasks is = record { memory = is.memory; bytes = is.bytes; operands = is.operands; objects = is.objects; apart = is.apart; statics = is.statics }

pub with_words : {E S I : Type 0} (state : State E S I) (words : List Word) → IsState state → AreOperands (length state.memory) words → IsState (record state { operands = words })
with_words state words is names = record { memory = is.memory; bytes = is.bytes; operands = names; objects = is.objects; apart = is.apart; statics = is.statics }

pub changed : {E S I : Type 0} (state : State E S I) (memory : List Block) → IsState state → Keeps state.memory memory → IsState (record state { memory = memory })
changed state memory is keeps = record {
  memory = keeps.memory;
  bytes = keeps.bytes;
  operands = subst (λ (count : ℕ). AreOperands count state.operands) (sym keeps.count) is.operands;
  objects = live_map storage.Local state.memory memory (own_blocks state) (λ number. keeps.lives storage.Local number refl) is.objects;
  apart = is.apart;
  statics = live_map storage.Static state.memory memory (blocks_of state.statics) (λ number. keeps.lives storage.Static number refl) is.statics;
}

-- a new block
wider_operand : (count : ℕ) (word : Word) → IsOperand count word → IsOperand (count + 1) word
wider_operand count (Plain number) is = tt
wider_operand count (To block offset) is = (let below : block < count = is.0 in omega arith, is.1)

wider_operands : (count : ℕ) (words : List Word) → AreOperands count words → AreOperands (count + 1) words
wider_operands count [] are = tt
wider_operands count (word ∷ rest) are = (wider_operand count word are.0, wider_operands count rest are.1)

pub with_new : {E S I : Type 0} (state : State E S I) (kind : BlockKind) (memory : List Block) → IsState state → Places kind state.memory memory → IsState (record state { memory = memory })
with_new state kind memory is made = record {
  memory = made.memory;
  bytes = made.bytes;
  operands = subst (λ (count : ℕ). AreOperands count state.operands) (sym made.count) (wider_operands (length state.memory) state.operands is.operands);
  objects = live_map storage.Local state.memory memory (own_blocks state) (made.lives storage.Local) is.objects;
  apart = is.apart;
  statics = live_map storage.Static state.memory memory (blocks_of state.statics) (made.lives storage.Static) is.statics;
}

-- an object among others
live_inserted : (memory : List Block) (one other : Scope) (variable : Variable) → IsObject storage.Local memory variable.block → AreLive storage.Local memory (blocks_of (one ++ other)) →
    AreLive storage.Local memory (blocks_of (one ++ variable ∷ other))
live_inserted memory [] other variable object live = (object, live)
live_inserted memory (first ∷ one) other variable object live = (live.0, live_inserted memory one other variable object live.1)

misses_inserted : (number : ℕ) (one other : Scope) (variable : Variable) → (number ≡ variable.block → ⊥) → Misses number (blocks_of (one ++ other)) →
    Misses number (blocks_of (one ++ variable ∷ other))
misses_inserted number [] other variable apart misses = (apart, misses)
misses_inserted number (first ∷ one) other variable apart misses = (misses.0, misses_inserted number one other variable apart misses.1)

apart_inserted : (one other : Scope) (variable : Variable) → Misses variable.block (blocks_of (one ++ other)) → AreApart (blocks_of (one ++ other)) →
    AreApart (blocks_of (one ++ variable ∷ other))
apart_inserted [] other variable misses apart = (misses, apart)
apart_inserted (first ∷ one) other variable misses apart =
    (misses_inserted first.block one other variable (λ same. misses.0 (sym same)) apart.0, apart_inserted one other variable misses.1 apart.1)

-- the number of a new block is none of those before
pub fresh_misses : (kind : BlockKind) (memory : List Block) (numbers : List ℕ) → AreLive kind memory numbers → Misses (length memory) numbers
fresh_misses kind memory [] live = tt
fresh_misses kind memory (number ∷ rest) live =
    let object : IsObject kind memory number = live.0 in
    let below : number < length memory = slice_get_within memory number object.block object.stands in
    (λ same. absurd (omega arith), fresh_misses kind memory rest live.1)

-- the objects of all functions, with one more in the innermost block
pub inserted : (frame : Frame) (others : Scope) (variable : Variable) → (one : Scope) × (other : Scope) ×
    (objects_of frame ++ others ≡ one ++ other) × (objects_of (in_innermost variable frame) ++ others ≡ one ++ variable ∷ other)
inserted [] others variable = ([], others, refl, refl)
inserted (scope ∷ scopes) others variable = (
  scope,
  objects_of scopes ++ others,
  append_assoc scope (objects_of scopes) others,
  append_assoc (scope ++ variable ∷ []) (objects_of scopes) others ∙ append_assoc scope (variable ∷ []) (objects_of scopes ++ others),
)

pub with_local : {E S I : Type 0} (state : State E S I) (variable : Variable) → IsState state → IsObject storage.Local state.memory variable.block →
    Misses variable.block (own_blocks state) → IsState (record state { frame = in_innermost variable state.frame })
with_local state variable is object misses =
    let others : Scope = flat_map objects_of state.callers in
    let parts = inserted state.frame others variable in
    let before : objects_of state.frame ++ others ≡ parts.0 ++ parts.1 = parts.2 in
    let after : objects_of (in_innermost variable state.frame) ++ others ≡ parts.0 ++ variable ∷ parts.1 = parts.3 in
    record {
      memory = is.memory;
      bytes = is.bytes;
      operands = is.operands;
      objects = subst (λ (scope : Scope). AreLive storage.Local state.memory (blocks_of scope)) (sym after)
          (live_inserted state.memory parts.0 parts.1 variable object (subst (λ (scope : Scope). AreLive storage.Local state.memory (blocks_of scope)) before is.objects));
      apart = subst (λ (scope : Scope). AreApart (blocks_of scope)) (sym after)
          (apart_inserted parts.0 parts.1 variable (subst (λ (scope : Scope). Misses variable.block (blocks_of scope)) before misses)
          (subst (λ (scope : Scope). AreApart (blocks_of scope)) before is.apart));
      statics = is.statics;
    }
