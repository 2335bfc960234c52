-- What follows where memory is there and where it is wanting, and that a tag keeps the numbers of an environment below.
use Rattle.std.proofs.Common.{◌≡◌, ℕ, List}
use Rattle.std.specs.Prelude.{Result, Ok, Err, IfOk, OnOk, OnErr}
use Rattle.typing.proofs.environment.Bounds.{tagged_below}
use Rattle.typing.specs.environment.Bounds.{AreBelow}
use Rattle.typing.specs.environment.Environment.{tag_declared}
use Rattle.typing.specs.declared.environment.entity.Tag.{Tag}
use Rattle.typing.specs.declared.environment.environment.Environment.{Environment}

module _ {T E : Type 0} where
  pub where_ok : {P Q : T → Type 0} (r : Result T E) → ((value : T) → P value → Q value) → IfOk r P → IfOk r Q
  where_ok (Ok value) follows first = follows value first
  where_ok (Err error) follows first = tt

  pub where_err : {A B : Type 0} (r : Result T E) → (A → B) → OnErr r A → OnErr r B
  where_err (Ok value) follows first = tt
  where_err (Err error) follows first = follows first

  pub always : {P : T → Type 0} (r : Result T E) → ((value : T) → P value) → IfOk r P
  always (Ok value) each = each value
  always (Err error) each = tt

  pub tagged_below_behind : (count : ℕ) (name : List ℕ) (tag : Tag) (old new : Environment) (r : Result T E)
      → OnOk r (new ≡ tag_declared name tag old) → OnErr r (new ≡ old) → AreBelow count old → AreBelow count new
  tagged_below_behind count name tag old new (Ok done) declares stays below =
      let same : new ≡ tag_declared name tag old = declares in
      rw same (tagged_below count name tag old below)
  tagged_below_behind count name tag old new (Err error) declares stays below =
      let same : new ≡ old = stays in
      rw same below
