-- What is read of a block of a live region: the word of an edge's value, the number 0, or some number.
use Rattle.std.proofs.Common.{◌≡◌, ℕ, zero, suc, ◌+◌, ◌-◌, ◌^◌, ◌<◌, ◌≤◌, Bool, true, false, ◌&&◌, not, List, [], ◌∷◌, length, take, drop, replicate, get_or, min, pos, nat_eq, nat_lt, Option, None, Some, refl, sym, ◌∙◌, ap, subst, eqb-true, ltb-true, length-take, length-drop, arith}
use Rattle.std.specs.Prelude.{slice_get, ◌+ℤ◌, ◌-ℤ◌, if◌then◌else◌}
use Rattle.std.specs.List.{All, list_all}
use Rattle.std.proofs.lemmas.List.Elements.{All-take, All-drop}
use Rattle.std.proofs.lemmas.Option.{same_Some, none-some}
use Rattle.bytes_core.specs.declared.byte.Byte.{Byte}
use Rattle.bytes_core.specs.declared.byte.Byte.TheVariants.{Num}
use Rattle.bytes_core.specs.declared.block.Block.{Block}
use Rattle.bytes_core.specs.declared.word.Word.{Word}
use Rattle.bytes_core.specs.declared.word.Word.TheVariants.{Plain, To}
use Rattle.bytes_core.specs.Access.{block_bytes, loaded}
use Rattle.bytes_core.specs.Laws.{IsWord}
use Rattle.bytes_core.specs.Value.{word_bytes, number_of, number_read, pointer_read}
use Rattle.bytes_core.specs.Valid.{IsMemory}
use Rattle.bytes_core.proofs.Kept.{names_of_loaded}
use Rattle.graph.specs.declared.edges.HasValue.{HasValue}
use Rattle.graph.specs.declared.object.Object.{Object}
use Rattle.graph.specs.declared.value.Target.TheVariants.{Region, First, Last, Each}
use Rattle.graph.specs.declared.value.Value.{Value}
use Rattle.graph.specs.declared.value.Value.TheVariants.{Const, Number, Any, Address}
use Rattle.graph.specs.Nodes.{own_node}
use Rattle.graph.specs.Sizes.{value_size, is_scalar_size, is_sized}
use Rattle.graph.specs.State.{State, IsByte, IsState}
use Rattle.graph.specs.Meaning.{HaveClasses, HoldEdges, IsNode, Ends, end_word, block_word, first_of, last_of, HasWord}
use Rattle.graph.proofs.AlikeStates.{All-at}
use Rattle.graph.proofs.Scalars.{small_scalar, power_scalar}
use Rattle.graph.proofs.Tests.{and_left, and_right}
use Rattle.changes.proofs.Below.{wrapped_small}
use Rattle.changes.proofs.Node.{HaveClasses-range, take_replicate}
use Rattle.changes.proofs.NodeBack.{zeros_are}
use Rattle.reinterpret.specs.Reading.{value_of, may_be_read, are_class, unknown}
use Rattle.reinterpret.specs.Writing.{edge_at}
use Rattle.reinterpret.proofs.Words.{pointer_held, number_held, AreNumbers, are_numbers, IsNumberHeld, number_in, number_fits, numbers_read, pointer_small}

-- the edge that holds a value at a place passes what all edges do, and holds
pub value_of_passes : (test : HasValue → Bool) (edges : List HasValue) (from size key : ℕ) → value_of edges from size ≡ Some key → list_all test edges ≡ true → test (edge_at from size key) ≡ true
value_of_passes test [] from size key is all = absurd (none-some key is)
value_of_passes test (first ∷ rest) from size key is all =
    by_tests (nat_eq first.at from) refl (nat_eq first.size size) refl is (λ later. value_of_passes test rest from size key later (and_right (test first) (list_all test rest) all))
  where
    by_tests : (a : Bool) → nat_eq first.at from ≡ a → (b : Bool) → nat_eq first.size size ≡ b → (if a && b then Some first.value else value_of rest from size) ≡ Some key → (value_of rest from size ≡ Some key → test (edge_at from size key) ≡ true) → test (edge_at from size key) ≡ true
    by_tests true at_is true size_is same later =
        ap (λ (n : ℕ). test (edge_at n size key)) (sym (eqb-true _ _ at_is)) ∙ ap (λ (n : ℕ). test (edge_at first.at n key)) (sym (eqb-true _ _ size_is)) ∙ ap (λ (n : ℕ). test (edge_at first.at first.size n)) (sym (same_Some _ _ same))
        ∙ and_left (test first) (list_all test rest) all
    by_tests true at_is false size_is same later = later same
    by_tests false at_is b size_is same later = later same

pub value_of_holds : (bytes : List Byte) (word : ℕ → Word) (edges : List HasValue) (from size key : ℕ) → value_of edges from size ≡ Some key → HoldEdges bytes word edges → take size (drop from bytes) ≡ take size (word_bytes (word key))
value_of_holds bytes word [] from size key is holds = absurd (none-some key is)
value_of_holds bytes word (first ∷ rest) from size key is holds =
    by_tests (nat_eq first.at from) refl (nat_eq first.size size) refl is (λ later. value_of_holds bytes word rest from size key later holds.1)
  where
    by_tests : (a : Bool) → nat_eq first.at from ≡ a → (b : Bool) → nat_eq first.size size ≡ b → (if a && b then Some first.value else value_of rest from size) ≡ Some key →
        (value_of rest from size ≡ Some key → take size (drop from bytes) ≡ take size (word_bytes (word key))) → take size (drop from bytes) ≡ take size (word_bytes (word key))
    by_tests true at_is true size_is same later =
        subst (λ (n : ℕ). take size (drop n bytes) ≡ take size (word_bytes (word key))) (eqb-true _ _ at_is)
        (subst (λ (n : ℕ). take n (drop first.at bytes) ≡ take n (word_bytes (word key))) (eqb-true _ _ size_is)
        (subst (λ (k : ℕ). take first.size (drop first.at bytes) ≡ take first.size (word_bytes (word k))) (same_Some _ _ same) holds.0))
    by_tests true at_is false size_is same later = later same
    by_tests false at_is b size_is same later = later same

-- the word of a value is a word
pub is_word : (count : ℕ) (blocks : ℕ → List ℕ) (ends : ℕ → Ends) (value : Value) (word : Word) → is_sized value ≡ true → HasWord count blocks ends value word → IsWord word
is_word count blocks ends (Const number size) word sized has =
    let fit = ltb-true _ _ (and_right (is_scalar_size size) (nat_lt number (256 ^ size)) sized) in
    let most = (power_scalar size (and_left (is_scalar_size size) (nat_lt number (256 ^ size)) sized)).1 in
    subst IsWord (sym has) (omega arith)
is_word count blocks ends (Number size) word sized (number, is, fit) = let most = (power_scalar size sized).1 in subst IsWord (sym is) (omega arith)
is_word count blocks ends Any word sized has = has.small
is_word count blocks ends (Address object offset Region) word sized has = subst IsWord (sym has) (of_block (first_of (blocks object)))
  where
    of_block : (found : Option ℕ) → IsWord (block_word found offset)
    of_block None = omega arith
    of_block (Some number) = tt
is_word count blocks ends (Address object offset First) word sized has = subst IsWord (sym has) (of_end (first_of (blocks object)) (ends object).after (ends object).head)
  where
    of_end : (found : Option ℕ) (beyond : Word) (place : ℕ) → IsWord (end_word found beyond place offset)
    of_end None (Plain number) place = wrapped_small (pos number +ℤ (offset -ℤ pos place))
    of_end None (To block other) place = tt
    of_end (Some number) beyond place = tt
is_word count blocks ends (Address object offset Last) word sized has = subst IsWord (sym has) (of_end (last_of (blocks object)) (ends object).before (ends object).back)
  where
    of_end : (found : Option ℕ) (beyond : Word) (place : ℕ) → IsWord (end_word found beyond place offset)
    of_end None (Plain number) place = wrapped_small (pos number +ℤ (offset -ℤ pos place))
    of_end None (To block other) place = tt
    of_end (Some number) beyond place = tt
is_word count blocks ends (Address object offset Each) word sized has = subst IsWord (sym has) (omega arith)

-- a list all of one number
pub all_one : (number : ℕ) (xs : List ℕ) → list_all (nat_eq number) xs ≡ true → xs ≡ replicate (length xs) number
all_one number [] all = refl
all_one number (x ∷ rest) all =
    ap (λ (n : ℕ). n ∷ rest) (sym (eqb-true _ _ (and_left (nat_eq number x) (list_all (nat_eq number) rest) all)))
    ∙ ap (λ (ns : List ℕ). number ∷ ns) (all_one number rest (and_right (nat_eq number x) (list_all (nat_eq number) rest) all))

module _ (object : Object) (word : ℕ → Word) (memory : List Block) (number from size : ℕ) (block : Block) (there : slice_get memory number ≡ Some block) (node : IsNode object.size object.kind (own_node object) word block)
    (scalar : is_scalar_size size ≡ true) (room : from + size ≤ object.size) (long : length object.plane ≡ object.size) (pointer : Bool) (whole : pointer ≡ true → size ≡ 8) where
  abbrev pub range : List Byte
  range = take size (drop from block.bytes)

  abbrev pub classes : List ℕ
  classes = take size (drop from object.plane)

  small : size ≤ 8
  small = small_scalar size scalar

  room_block : from + size ≤ length block.bytes
  room_block = let e = node.size in omega arith

  long_range : length range ≡ size
  long_range = length-take size (drop from block.bytes) ∙ ap (min size) (length-drop from block.bytes) ∙ (let e = node.size in omega arith)

  long_classes : length classes ≡ size
  long_classes = length-take size (drop from object.plane) ∙ ap (min size) (length-drop from object.plane) ∙ (let e = long in omega arith)

  have : HaveClasses classes range
  have = HaveClasses-range from size object.plane block.bytes node.classes

  loaded_is : loaded memory (To number (pos from)) size pointer ≡ (if pointer then pointer_read memory range else number_read memory range)
  loaded_is = ap (λ (o : Option Block). if pointer then pointer_read memory (block_bytes o (pos from) size) else number_read memory (block_bytes o (pos from) size)) there

  -- a number whose lowest bytes stand there
  pub number_loaded : (n : ℕ) → n < 256 ^ size → range ≡ take size (word_bytes (Plain n)) → loaded memory (To number (pos from)) size pointer ≡ Plain n
  number_loaded n fit stand = by_kind pointer refl
    where
      by_kind : (b : Bool) → pointer ≡ b → loaded memory (To number (pos from)) size b ≡ Plain n
      by_kind false is = number_held memory number from block there node.live size n scalar small fit room_block stand
      by_kind true is =
          let eight = whole is in
          let most = (power_scalar size scalar).1 in
          ap (λ (s : ℕ). loaded memory (To number (pos from)) s true) eight
          ∙ pointer_held memory number from block there node.live (Plain n) (omega arith) (subst (λ (s : ℕ). from + s ≤ length block.bytes) eight room_block)
          (subst (λ (s : ℕ). take s (drop from block.bytes) ≡ take s (word_bytes (Plain n))) eight stand)

  -- the value of an edge
  pub edge_loaded : (count : ℕ) (blocks : ℕ → List ℕ) (ends : ℕ → Ends) (key : ℕ) (value : Value) → value_of object.edges from size ≡ Some key → is_sized value ≡ true → value_size value ≡ size → may_be_read pointer value ≡ true →
      HasWord count blocks ends value (word key) → loaded memory (To number (pos from)) size pointer ≡ word key
  edge_loaded count blocks ends key value is sized size_is read has = by_value value sized size_is read has
    where
      stand : range ≡ take size (word_bytes (word key))
      stand = value_of_holds block.bytes word object.edges from size key is node.edges

      plain : (n other : ℕ) → other ≡ size → n < 256 ^ other → word key ≡ Plain n → loaded memory (To number (pos from)) size pointer ≡ word key
      plain n other same fit word_is =
          number_loaded n (subst (λ (s : ℕ). n < 256 ^ s) same fit) (stand ∙ ap (λ (w : Word). take size (word_bytes w)) word_is) ∙ sym word_is

      as_pointer : pointer ≡ true → IsWord (word key) → loaded memory (To number (pos from)) size pointer ≡ word key
      as_pointer is_pointer word_fits =
          let eight = whole is_pointer in
          ap (λ (b : Bool). loaded memory (To number (pos from)) size b) is_pointer ∙ ap (λ (s : ℕ). loaded memory (To number (pos from)) s true) eight
          ∙ pointer_held memory number from block there node.live (word key) word_fits (subst (λ (s : ℕ). from + s ≤ length block.bytes) eight room_block)
          (subst (λ (s : ℕ). take s (drop from block.bytes) ≡ take s (word_bytes (word key))) eight stand)

      by_value : (value : Value) → is_sized value ≡ true → value_size value ≡ size → may_be_read pointer value ≡ true → HasWord count blocks ends value (word key) → loaded memory (To number (pos from)) size pointer ≡ word key
      by_value (Const n other) sized size_is read has = plain n other size_is (ltb-true _ _ (and_right (is_scalar_size other) (nat_lt n (256 ^ other)) sized)) has
      by_value (Number other) sized size_is read (n, word_is, fit) = plain n other size_is fit word_is
      by_value Any sized size_is read has = as_pointer read (is_word count blocks ends Any (word key) sized has)
      by_value (Address at offset target) sized size_is read has = as_pointer read (is_word count blocks ends (Address at offset target) (word key) sized has)

  -- bytes that are 0
  pub zero_loaded : are_class 0 object.plane from size ≡ true → loaded memory (To number (pos from)) size pointer ≡ Plain 0
  zero_loaded zeros =
      number_loaded 0 ((power_scalar size scalar).0)
      (zeros_are range size (subst (λ (cs : List ℕ). HaveClasses cs range) (all_one 0 classes zeros ∙ ap (λ (n : ℕ). replicate n 0) long_classes) have)
      ∙ sym (ap (λ (n : ℕ). take size (replicate n (Num 0))) (let e : 8 ≡ size + (8 - size) = omega (arith, small) in e) ∙ take_replicate size (8 - size) (Num 0)))

  -- bytes that are numbers
  low_classes : (bound : ℕ) → 0 < bound → (xs : List ℕ) → list_all (λ class. nat_lt class bound) xs ≡ true → (i : ℕ) → get_or xs i 0 < bound
  low_classes bound some [] all i = some
  low_classes bound some (x ∷ rest) all zero = ltb-true _ _ (and_left (nat_lt x bound) (list_all (λ class. nat_lt class bound) rest) all)
  low_classes bound some (x ∷ rest) all (suc i) = low_classes bound some rest (and_right (nat_lt x bound) (list_all (λ class. nat_lt class bound) rest) all) i

  numbers_there : list_all (λ class. nat_lt class 2) classes ≡ true → AreNumbers range
  numbers_there low = are_numbers classes range (low_classes 2 (omega arith) classes low) have

  ones_low : (xs : List ℕ) → list_all (nat_eq 1) xs ≡ true → list_all (λ class. nat_lt class 2) xs ≡ true
  ones_low [] all = refl
  ones_low (x ∷ rest) all =
      ap (λ (n : ℕ). nat_lt n 2 && list_all (λ class. nat_lt class 2) rest) (sym (eqb-true _ _ (and_left (nat_eq 1 x) (list_all (nat_eq 1) rest) all))) ∙ ones_low rest (and_right (nat_eq 1 x) (list_all (nat_eq 1) rest) all)

  range_bytes : All (λ (b : Block). All IsByte b.bytes) memory → All IsByte range
  range_bytes all = All-take IsByte size (drop from block.bytes) (All-drop IsByte from block.bytes (All-at (λ (b : Block). All IsByte b.bytes) memory number block there all))

  pub ones_held : are_class 1 object.plane from size ≡ true → All (λ (b : Block). All IsByte b.bytes) memory → IsNumberHeld range size
  ones_held ones all = number_in range size scalar small long_range (range_bytes all) (numbers_there (ones_low classes ones))

  -- and any bytes
  pub unknown_word : (blocks : ℕ → List ℕ) (ends : ℕ → Ends) (state : State) → state.memory ≡ memory → IsState state → HasWord (length memory) blocks ends (unknown pointer size classes) (loaded memory (To number (pos from)) size pointer)
  unknown_word blocks ends state same is = by_kind pointer refl (list_all (λ class. nat_lt class 2) classes) refl
    where
      all : All (λ (b : Block). All IsByte b.bytes) memory
      all = subst (λ (m : List Block). All (λ (b : Block). All IsByte b.bytes) m) same is.bytes

      number_word : (w : Word) → w ≡ number_read memory range → HasWord (length memory) blocks ends (Number size) w
      number_word w w_is = (number_of memory range, w_is, number_fits memory range size scalar long_range (range_bytes all))

      by_kind : (b : Bool) → pointer ≡ b → (c : Bool) → list_all (λ class. nat_lt class 2) classes ≡ c →
          HasWord (length memory) blocks ends (if b && not c then Any else Number size) (loaded memory (To number (pos from)) size pointer)
      by_kind false kind c low = number_word (loaded memory (To number (pos from)) size pointer) (loaded_is ∙ ap (λ (b : Bool). if b then pointer_read memory range else number_read memory range) kind)
      by_kind true kind true low =
          number_word (loaded memory (To number (pos from)) size pointer) (loaded_is ∙ ap (λ (b : Bool). if b then pointer_read memory range else number_read memory range) kind ∙ numbers_read memory range (numbers_there low))
      by_kind true kind false low = record {
        small = subst IsWord (sym (loaded_is ∙ ap (λ (b : Bool). if b then pointer_read memory range else number_read memory range) kind)) (pointer_small memory range (long_range ∙ whole kind) (range_bytes all));
        named = names_of_loaded memory (To number (pos from)) size pointer (subst IsMemory same is.memory);
      }
