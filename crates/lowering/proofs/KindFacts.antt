-- What values of each kind are: how wide, whether they lead to no block, and what their conversions make of them.
use Rattle.std.proofs.Common.{◌≡◌, ◌<◌, ℕ, suc, ◌-◌, ◌^◌, ◌%◌, ℤ, pos, negsuc, ◌+ℤ◌, List, [], ◌∷◌, Bool, true, false, not, ◌&&◌, nat_eq, nat_lt, ltb-true, refl, sym, ap, ◌∙◌, arith, None, Some, slice_get, subst, if◌then◌else◌}
use Rattle.std.specs.Option.{option_map_or}
use Rattle.std.proofs.Math.Nat.{mod-eq_of_lt, mod-lt}
use Rattle.std.proofs.lemmas.Bool.{false≢true, eqb-true, and_parts}
use Rattle.std.proofs.lemmas.Option.{none-some, same_Some}
use Rattle.arithmetic.specs.Conversion.{converted, truth}
use Rattle.bytes_core.specs.declared.block.Block.{Block}
use Rattle.bytes_core.specs.declared.word.Word.{Word}
use Rattle.bytes_core.specs.declared.word.Word.TheVariants.{Plain, To}
use Rattle.bytes_core.specs.Value.{address_number, wrapped}
use Rattle.typing.specs.declared.ctypes.kind.IntegerType.{IntegerType}
use Rattle.typing.specs.values.Values.{as_type, offset_as}
use Rattle.c_machine.specs.declared.kind.Kind.{Kind}
use Rattle.c_machine.specs.declared.kind.Kind.TheVariants.{Integer, Pointer, Array, Struct, Void}
use Rattle.c_machine.specs.Words.{scalar_bytes, is_pointer, decayed, as_kind, is_same, are_alike}
use Rattle.simulation.specs.Slots.{Slot, InRegister, KnownAs, Gone, is_free, are_free, is_in, IsPlainWhere, Suits}
use Rattle.lowering.specs.Kinds.{width, is_void, is_address, fits, conversion}
use Rattle.lowering.specs.declared.conversion.Conversion.{Conversion}
use Rattle.lowering.specs.declared.conversion.Conversion.TheVariants.{Nothing, Resized, Tested, Dropped, Unknown as NoConversion}
use Rattle.lowering.proofs.Ready.{slot_of}

-- a number is plain
abbrev pub IsAsPlain : Kind → Bool → Type 0
IsAsPlain kind plain = is_address kind ≡ false → plain ≡ true

-- what a load gives, and what stays an address
pub loaded_as : (kind : Kind) (bytes : ℕ) → scalar_bytes kind ≡ Some bytes → (width (decayed kind) ≡ bytes) × IsAsPlain (decayed kind) (not (is_pointer kind))
loaded_as (Integer of) bytes is = (same_Some of.bytes bytes is, λ number. refl)
loaded_as (Pointer item) bytes is = (same_Some 8 bytes is, λ number. absurd (false≢true (sym number)))
loaded_as (Array item) bytes is = absurd (none-some bytes is)
loaded_as (Struct size) bytes is = absurd (none-some bytes is)
loaded_as Void bytes is = absurd (none-some bytes is)

pub some_none : {A : Type 0} (value : A) → Some value ≡ None → ⊥
some_none value is = none-some value (sym is)

pub unloaded_as : (kind : Kind) → scalar_bytes kind ≡ None → is_void (decayed kind) ≡ false → (width (decayed kind) ≡ 8) × (is_address (decayed kind) ≡ true)
unloaded_as (Integer of) is made = absurd (some_none of.bytes is)
unloaded_as (Pointer item) is made = absurd (some_none 8 is)
unloaded_as (Array item) is made = (refl, refl)
unloaded_as (Struct size) is made = (refl, refl)
unloaded_as Void is made = absurd (false≢true (sym made))

pub of_address : (kind : Kind) (plain : Bool) → is_address kind ≡ true → IsAsPlain kind plain
of_address kind plain address number = absurd (false≢true (sym number ∙ address))

pub address_width : (kind : Kind) → is_address kind ≡ true → width kind ≡ 8
address_width (Integer of) is = absurd (false≢true is)
address_width (Pointer item) is = refl
address_width (Array item) is = refl
address_width (Struct size) is = refl
address_width Void is = absurd (false≢true is)

pub fits_pointer : (bytes : ℕ) (asked : Kind) → fits (Pointer bytes) asked ≡ true → is_address asked ≡ true
fits_pointer bytes (Integer of) is = absurd (false≢true is)
fits_pointer bytes (Pointer item) is = refl
fits_pointer bytes (Array item) is = refl
fits_pointer bytes (Struct size) is = refl
fits_pointer bytes Void is = absurd (false≢true is)

-- a value that is made as one kind is as wide as one of another, and as plain
pub fitted : (made asked : Kind) → fits made asked ≡ true → is_void asked ≡ false → (width made ≡ width asked) × (is_address asked ≡ false → is_address made ≡ false)
fitted (Integer of) (Integer of') is void = (eqb-true of.bytes of'.bytes is, λ number. refl)
fitted (Integer of) (Pointer item) is void = absurd (false≢true is)
fitted (Integer of) (Array item) is void = absurd (false≢true is)
fitted (Integer of) (Struct size) is void = absurd (false≢true is)
fitted (Pointer item) (Integer of) is void = absurd (false≢true is)
fitted (Pointer item) (Pointer item') is void = (refl, λ number. absurd (false≢true (sym number)))
fitted (Pointer item) (Array item') is void = (refl, λ number. absurd (false≢true (sym number)))
fitted (Pointer item) (Struct size) is void = (refl, λ number. absurd (false≢true (sym number)))
fitted (Array item) (Integer of) is void = absurd (false≢true is)
fitted (Array item) (Pointer item') is void = (refl, λ number. absurd (false≢true (sym number)))
fitted (Array item) (Array item') is void = (refl, λ number. absurd (false≢true (sym number)))
fitted (Array item) (Struct size) is void = (refl, λ number. absurd (false≢true (sym number)))
fitted (Struct size) (Integer of) is void = absurd (false≢true is)
fitted (Struct size) (Pointer item') is void = (refl, λ number. absurd (false≢true (sym number)))
fitted (Struct size) (Array item') is void = (refl, λ number. absurd (false≢true (sym number)))
fitted (Struct size) (Struct size') is void = (refl, λ number. absurd (false≢true (sym number)))
fitted Void asked is void = absurd (false≢true (sym void ∙ is))
fitted (Integer of) Void is void = absurd (false≢true (sym void))
fitted (Pointer item) Void is void = absurd (false≢true (sym void))
fitted (Array item) Void is void = absurd (false≢true (sym void))
fitted (Struct size) Void is void = absurd (false≢true (sym void))

pub not_holds : (b : Bool) → not b ≡ true → b ≡ false
not_holds true is = absurd (false≢true is)
not_holds false is = refl

-- what is let go of: behind a `void` the machine holds a 0
abbrev pub let_go : Kind → Slot
let_go Void = KnownAs 0
let_go kind = Gone

pub in_let_go : (kind : Kind) → is_in [] (let_go kind) ≡ true
in_let_go (Integer of) = refl
in_let_go (Pointer item) = refl
in_let_go (Array item) = refl
in_let_go (Struct size) = refl
in_let_go Void = refl

pub slot_made : (kind : Kind) (into : ℕ) (plain : Bool) → is_void kind ≡ false → slot_of kind into plain ≡ InRegister into (width kind) plain
slot_made (Integer of) into plain is = refl
slot_made (Pointer item) into plain is = refl
slot_made (Array item) into plain is = refl
slot_made (Struct size) into plain is = refl
slot_made Void into plain is = absurd (false≢true (sym is))

pub scalar_slot : (kind : Kind) (bytes : ℕ) → scalar_bytes kind ≡ Some bytes → (into : ℕ) (plain : Bool) → slot_of kind into plain ≡ InRegister into bytes plain
scalar_slot (Integer of) bytes is into plain = ap (λ n. InRegister into n plain) (same_Some of.bytes bytes is)
scalar_slot (Pointer item) bytes is into plain = ap (λ n. InRegister into n plain) (same_Some 8 bytes is)
scalar_slot (Array item) bytes is into plain = absurd (none-some bytes is)
scalar_slot (Struct size) bytes is into plain = absurd (none-some bytes is)
scalar_slot Void bytes is into plain = absurd (none-some bytes is)

pub both_free : (one other : ℕ) (slots : List Slot) → is_free one slots ≡ true → is_free other slots ≡ true → are_free (one ∷ other ∷ []) slots ≡ true
both_free one other slots free free' = rw (free, free') refl

pub let_go_made : (kind : Kind) → is_void kind ≡ false → let_go kind ≡ Gone
let_go_made (Integer of) is = refl
let_go_made (Pointer item) is = refl
let_go_made (Array item) is = refl
let_go_made (Struct size) is = refl
let_go_made Void is = absurd (false≢true (sym is))

-- what a conversion in the graph does, and what one of the machine does
abbrev pub Means : Kind → Kind → Conversion → Type 0
Means from to Nothing =
    (width from ≡ width to) × (is_address to ≡ false → is_address from ≡ false) × (is_void to ≡ false)
    × ((plain : Bool) → IsAsPlain from plain → (memory : List Block) (word : Word) → IsPlainWhere plain word → as_kind memory from to word ≡ word)
Means from to (Resized bytes signed) =
    (width to ≡ bytes) × (is_void to ≡ false)
    × ((memory : List Block) (word : Word) → as_kind memory from to word ≡ Plain (converted (width from) signed bytes (address_number memory word)))
Means from to Tested =
    (0 < width from) × (width to ≡ 1) × (is_void to ≡ false)
    × ((plain : Bool) → IsAsPlain from plain → (memory : List Block) (word : Word) → Suits (width from) plain word → as_kind memory from to word ≡ Plain (if nat_eq (address_number memory word) 0 then 0 else 1))
Means from to Dropped = to ≡ Void
Means from to NoConversion = Unit {0}

same_word : (of to : IntegerType) → is_same of to ≡ true → (plain : Bool) → IsAsPlain (Integer of) plain → (memory : List Block) (word : Word) → IsPlainWhere plain word →
    as_kind memory (Integer of) (Integer to) word ≡ word
same_word of to is plain number memory (Plain n) shown = ap (λ (b : Bool). Plain (if b then n else as_type of to n)) is
same_word of to is plain number memory (To block offset) shown = absurd (subst (λ (b : Bool). IsPlainWhere b (To block offset)) (number refl) shown)

-- a number that fits its size is tested as it is
truth_of : (size number : ℕ) → number < 256 ^ size → truth size number ≡ (if nat_eq number 0 then 0 else 1)
truth_of size number small = ap (λ (n : ℕ). if nat_eq n 0 then 0 else 1) (mod-eq_of_lt small)

less_all : (all some : ℕ) → 0 < all → all - suc some < all
less_all all some positive = omega arith

pub wrapped_small : (offset : ℤ) → wrapped offset < 256 ^ 8
wrapped_small (pos number) = mod-lt number (omega arith)
wrapped_small (negsuc before) = less_all (256 ^ 8) (before % 256 ^ 8) (omega arith)

address_small : (memory : List Block) (plain : Bool) (word : Word) → Suits 8 plain word → address_number memory word < 256 ^ 8
address_small memory plain (Plain number) suits = suits.0
address_small memory plain (To block offset) suits = wrapped_small (pos (option_map_or (λ found. found.base) (slice_get memory block) 0) +ℤ offset)

tested_word : (of to : IntegerType) → is_same of to ≡ false → to.truth ≡ true → (plain : Bool) → IsAsPlain (Integer of) plain → (memory : List Block) (word : Word) → Suits of.bytes plain word →
    as_kind memory (Integer of) (Integer to) word ≡ Plain (if nat_eq (address_number memory word) 0 then 0 else 1)
tested_word of to differs tests plain number memory (Plain n) suits =
    ap (λ (b : Bool). Plain (if b then n else as_type of to n)) differs
    ∙ (ap (λ (b : Bool). Plain (if b then truth of.bytes n else converted of.bytes of.signed to.bytes n)) tests ∙ ap Plain (truth_of of.bytes n suits.0))
tested_word of to differs tests plain number memory (To block offset) suits = absurd (subst (λ (b : Bool). IsPlainWhere b (To block offset)) (number refl) suits.2)

ints_mean : (of to : IntegerType) (same tests one : Bool) → is_same of to ≡ same → to.truth ≡ tests → (nat_lt 0 of.bytes && nat_eq to.bytes 1) ≡ one →
    Means (Integer of) (Integer to) (if same then Nothing else (if tests then (if one then Tested else NoConversion) else Resized to.bytes of.signed))
ints_mean of to true tests one is is' is'' = (eqb-true of.bytes to.bytes (and_parts (nat_eq of.bytes to.bytes) (are_alike of.signed to.signed && are_alike of.truth to.truth) is).0, λ number. refl, refl, same_word of to is)
ints_mean of to false true true is is' is'' =
    let both = and_parts (nat_lt 0 of.bytes) (nat_eq to.bytes 1) is'' in
    (ltb-true 0 of.bytes both.0, eqb-true to.bytes 1 both.1, refl, tested_word of to is is')
ints_mean of to false true false is is' is'' = tt
ints_mean of to false false one is is' is'' = (
  refl,
  refl,
  λ memory word. ap (λ (b : Bool). Plain (if b then address_number memory word else as_type of to (address_number memory word))) is
      ∙ ap (λ (b : Bool). Plain (if b then truth of.bytes (address_number memory word) else converted of.bytes of.signed to.bytes (address_number memory word))) is',
)

offset_means : (to : IntegerType) (tests : Bool) → to.truth ≡ tests → (memory : List Block) (word : Word) → tests ≡ false → Plain (offset_as to (address_number memory word)) ≡ Plain (converted 8 false to.bytes (address_number memory word))
offset_means to tests is memory word not_tests =
    ap (λ (b : Bool). Plain (if b then truth 8 (address_number memory word) else converted 8 false to.bytes (address_number memory word))) (is ∙ not_tests)

offset_tested : (to : IntegerType) → to.truth ≡ true → (plain : Bool) (memory : List Block) (word : Word) → Suits 8 plain word → Plain (offset_as to (address_number memory word)) ≡ Plain (if nat_eq (address_number memory word) 0 then 0 else 1)
offset_tested to tests plain memory word suits =
    ap (λ (b : Bool). Plain (if b then truth 8 (address_number memory word) else converted 8 false to.bytes (address_number memory word))) tests
    ∙ ap Plain (truth_of 8 (address_number memory word) (address_small memory plain word suits))

pointer_means : (item : ℕ) (to : IntegerType) (tests one : Bool) → to.truth ≡ tests → nat_eq to.bytes 1 ≡ one → Means (Pointer item) (Integer to) (if tests then (if one then Tested else NoConversion) else Resized to.bytes false)
pointer_means item to true true is is' = (omega arith, eqb-true to.bytes 1 is', refl, λ plain number memory word suits. offset_tested to is plain memory word suits)
pointer_means item to true false is is' = tt
pointer_means item to false one is is' = (refl, refl, λ memory word. offset_means to false is memory word refl)

array_means : (item : ℕ) (to : IntegerType) (tests one : Bool) → to.truth ≡ tests → nat_eq to.bytes 1 ≡ one → Means (Array item) (Integer to) (if tests then (if one then Tested else NoConversion) else Resized to.bytes false)
array_means item to true true is is' = (omega arith, eqb-true to.bytes 1 is', refl, λ plain number memory word suits. offset_tested to is plain memory word suits)
array_means item to true false is is' = tt
array_means item to false one is is' = (refl, refl, λ memory word. offset_means to false is memory word refl)

struct_means : (size : ℕ) (to : IntegerType) (tests one : Bool) → to.truth ≡ tests → nat_eq to.bytes 1 ≡ one → Means (Struct size) (Integer to) (if tests then (if one then Tested else NoConversion) else Resized to.bytes false)
struct_means size to true true is is' = (omega arith, eqb-true to.bytes 1 is', refl, λ plain number memory word suits. offset_tested to is plain memory word suits)
struct_means size to true false is is' = tt
struct_means size to false one is is' = (refl, refl, λ memory word. offset_means to false is memory word refl)

pub conversion_means : (from to : Kind) → Means from to (conversion from to)
conversion_means (Integer of) (Integer to) = ints_mean of to (is_same of to) to.truth (nat_lt 0 of.bytes && nat_eq to.bytes 1) refl refl refl
conversion_means (Integer of) (Pointer item) = (refl, refl, λ memory word. refl)
conversion_means (Integer of) (Array item) = tt
conversion_means (Integer of) (Struct size) = tt
conversion_means (Integer of) Void = refl
conversion_means (Pointer item) (Integer to) = pointer_means item to to.truth (nat_eq to.bytes 1) refl refl
conversion_means (Pointer item) (Pointer item') = (refl, λ asked. absurd (false≢true (sym asked)), refl, λ plain number memory word shown. refl)
conversion_means (Pointer item) (Array item') = (refl, λ asked. absurd (false≢true (sym asked)), refl, λ plain number memory word shown. refl)
conversion_means (Pointer item) (Struct size) = (refl, λ asked. absurd (false≢true (sym asked)), refl, λ plain number memory word shown. refl)
conversion_means (Pointer item) Void = refl
conversion_means (Array item) (Integer to) = array_means item to to.truth (nat_eq to.bytes 1) refl refl
conversion_means (Array item) (Pointer item') = (refl, λ asked. absurd (false≢true (sym asked)), refl, λ plain number memory word shown. refl)
conversion_means (Array item) (Array item') = (refl, λ asked. absurd (false≢true (sym asked)), refl, λ plain number memory word shown. refl)
conversion_means (Array item) (Struct size) = (refl, λ asked. absurd (false≢true (sym asked)), refl, λ plain number memory word shown. refl)
conversion_means (Array item) Void = refl
conversion_means (Struct size) (Integer to) = struct_means size to to.truth (nat_eq to.bytes 1) refl refl
conversion_means (Struct size) (Pointer item') = (refl, λ asked. absurd (false≢true (sym asked)), refl, λ plain number memory word shown. refl)
conversion_means (Struct size) (Array item') = (refl, λ asked. absurd (false≢true (sym asked)), refl, λ plain number memory word shown. refl)
conversion_means (Struct size) (Struct size') = (refl, λ asked. absurd (false≢true (sym asked)), refl, λ plain number memory word shown. refl)
conversion_means (Struct size) Void = refl
conversion_means Void (Integer to) = tt
conversion_means Void (Pointer item) = tt
conversion_means Void (Array item) = tt
conversion_means Void (Struct size) = tt
conversion_means Void Void = refl

pub decayed_slot : (kind : Kind) → is_void (decayed kind) ≡ false →
    ((into : ℕ) (plain : Bool) → slot_of kind into plain ≡ InRegister into (width (decayed kind)) plain) × (is_address (decayed kind) ≡ false → is_address kind ≡ false)
decayed_slot (Integer of) is = (λ into plain. refl, λ asked. refl)
decayed_slot (Pointer item) is = (λ into plain. refl, λ asked. asked)
decayed_slot (Array item) is = (λ into plain. refl, λ asked. asked)
decayed_slot (Struct size) is = (λ into plain. refl, λ asked. asked)
decayed_slot Void is = absurd (false≢true (sym is))
