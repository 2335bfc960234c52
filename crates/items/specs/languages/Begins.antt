-- A context in front of the first item of a text.
use Rattle.std.specs.Prelude.{◌≡◌, ℕ, Bool, List, []}
use Rattle.cbase.specs.declared.abi.Abi.{Abi}
use Rattle.expressions.specs.Context.{Context, Agrees, declared}
use Rattle.expressions.specs.Numbers.{Numbering}
use Rattle.items.specs.languages.AtTypes.{declarations_at}
use Rattle.items.specs.languages.CBegin.{c_begin}
use Rattle.items.specs.languages.LeadsBack.{LeadsBack}

-- it declares what C declares there, whatever numbering reads it that leads back, and hands nothing on
pub record Begins (abi : Abi) (strict : Bool) (bodied defined : List (List ℕ)) (context : Context) : Type 0 where
  pub declares : (n : Numbering) → Agrees n context → LeadsBack n → declarations_at n (declared context) ≡ c_begin abi strict bodied defined
  pub handed : context.handed ≡ []
