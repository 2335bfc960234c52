-- What may be broken at an operator, and what is found there.
--
-- At one node of a tree constructs come before rules, and lower numbers first. What is found there is the least of what is
-- broken, and where nothing is broken the type of the operation.
use Rattle.std.specs.Prelude.{◌≡◌, ◌≤◌, Bool, List, [], ◌∷◌, All, Contains, if◌then◌else◌}
use Rattle.cbase.specs.declared.ctype.CType.{CType}
use Rattle.typing.specs.declared.ctypes.found.Broken.{Broken}
use Rattle.typing.specs.declared.ctypes.found.Broken.TheVariants.{Construct, Rule}

-- what is found at a node
pub data Judgement : Type 0 where
  Typed : CType → Judgement
  Breaks : Broken → Judgement

-- the order in which what is broken at a node is looked for
abbrev pub ComesBefore : Broken → Broken → Type 0
ComesBefore (Construct first) (Construct second) = first ≤ second
ComesBefore (Construct first) (Rule second) = Unit {0}
ComesBefore (Rule first) (Construct second) = ⊥
ComesBefore (Rule first) (Rule second) = first ≤ second

-- one thing that is asked of a node, with what is broken where it does not hold
pub record Demand : Type 0 where
  pub holds : Bool
  pub broken : Broken

-- what is broken at a node
abbrev pub all_broken : List Demand → List Broken
all_broken [] = []
all_broken (demand ∷ rest) = if demand.holds then all_broken rest else demand.broken ∷ all_broken rest

-- the least of what is broken
pub record IsLeast (broken : List Broken) (least : Broken) : Type 0 where
  pub here : Contains broken least
  pub first : All (ComesBefore least) broken

-- what is found at a node where so much is broken, and that has this type where nothing is
abbrev pub IsJudged : List Broken → CType → Judgement → Type 0
IsJudged broken t (Typed found) = (broken ≡ []) × (found ≡ t)
IsJudged broken t (Breaks found) = IsLeast broken found

-- the same of demands in their order: the first that does not hold decides
abbrev pub judged : List Demand → CType → Judgement
judged [] t = Typed t
judged (demand ∷ rest) t = if demand.holds then judged rest t else Breaks demand.broken

-- what comes before each of some demands
abbrev pub ComesBeforeEach : Broken → List Demand → Type 0
ComesBeforeEach first [] = Unit {0}
ComesBeforeEach first (demand ∷ rest) = ComesBefore first demand.broken × ComesBeforeEach first rest

-- demands in their order
abbrev pub AreInOrder : List Demand → Type 0
AreInOrder [] = Unit {0}
AreInOrder (demand ∷ rest) = ComesBeforeEach demand.broken rest × AreInOrder rest

-- what is found before anything after `last` is asked
abbrev pub IsFoundBy : Broken → Judgement → Type 0
IsFoundBy last (Typed t) = Unit {0}
IsFoundBy last (Breaks broken) = ComesBefore broken last
