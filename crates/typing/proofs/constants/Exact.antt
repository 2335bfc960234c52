-- What is answered of bytes is what they mean, and they mean nothing else.
use Rattle.std.proofs.Common.{◌≡◌, ℕ, List, [], ◌∷◌, ◌↔◌, Bool, true, false, refl, ap, sym, ◌∙◌, subst, nat_eq, Option, Some, None}
use Rattle.std.specs.Prelude.{if◌then◌else◌}
use Rattle.std.proofs.lemmas.Bool.{eqb-true}
use Rattle.cbase.specs.declared.abi.Abi.{Abi}
use Rattle.typing.specs.declared.constants.meaning.Constant.{Constant}
use Rattle.typing.specs.declared.constants.meaning.Meaning.{Meaning}
use Rattle.typing.specs.declared.constants.meaning.Meaning.TheVariants.{NoConstant, FitsNoType, Known}
use Rattle.typing.specs.constants.Meanings.{Reading, Integer, Letter, Reads, constant_of, Means}
use Rattle.typing.specs.constants.Deciding.{letter, integer, reading_of, fits, told, meaning_of}
use Rattle.typing.proofs.constants.Letters.{letter-sound, letter-complete}
use Rattle.typing.proofs.constants.Integers.{integer-sound, integer-complete}

reading-sound : (spelling : List ℕ) (reading : Reading) → reading_of spelling ≡ Some reading → Reads spelling reading
reading-sound [] reading is = absurd (cc is)
reading-sound (first ∷ others) reading is = step (nat_eq first 39) refl is
  where
    step : (test : Bool) → nat_eq first 39 ≡ test → (if test then letter others else integer (first ∷ others)) ≡ Some reading → Reads (first ∷ others) reading
    step true e i = subst (λ (byte : ℕ). Reads (byte ∷ others) reading) (sym (eqb-true first 39 e)) (letter-sound others reading i)
    step false e i = integer-sound (first ∷ others) reading i

reading-complete : (spelling : List ℕ) (reading : Reading) → Reads spelling reading → reading_of spelling ≡ Some reading
reading-complete spelling (Integer base suffix number) is = integer-complete spelling base suffix number is
reading-complete spelling (Letter code) is = letter-complete spelling code is

-- one spelling has one reading
pub one_reading : (spelling : List ℕ) (reading other : Reading) → Reads spelling reading → Reads spelling other → reading ≡ other
one_reading spelling reading other is also =
    let same : Some reading ≡ Some other = sym (reading-complete spelling reading is) ∙ reading-complete spelling other also in cc same

pub means : (abi : Abi) (spelling : List ℕ) → Means abi spelling (meaning_of abi spelling)
means abi spelling = step (reading_of spelling) refl
  where
    typed : (reading : Reading) → reading_of spelling ≡ Some reading → (o : Option Constant) → constant_of abi reading ≡ o → Means abi spelling (fits o)
    typed reading e None c = (reading, reading-sound spelling reading e, c)
    typed reading e (Some known) c = (reading, reading-sound spelling reading e, c)

    step : (o : Option Reading) → reading_of spelling ≡ o → Means abi spelling (told abi o)
    step None e = λ reading is. let clash : None ≡ Some reading = sym e ∙ reading-complete spelling reading is in cc clash
    step (Some reading) e = typed reading e (constant_of abi reading) refl

only : (abi : Abi) (spelling : List ℕ) (meaning : Meaning) → Means abi spelling meaning → meaning_of abi spelling ≡ meaning
only abi spelling NoConstant none = step (reading_of spelling) refl
  where
    step : (o : Option Reading) → reading_of spelling ≡ o → told abi o ≡ NoConstant
    step None e = refl
    step (Some reading) e = absurd (none reading (reading-sound spelling reading e))
only abi spelling FitsNoType (reading, is, c) = ap (told abi) (reading-complete spelling reading is) ∙ ap fits c
only abi spelling (Known known) (reading, is, c) = ap (told abi) (reading-complete spelling reading is) ∙ ap fits c

pub meaning_exact : (abi : Abi) (spelling : List ℕ) (meaning : Meaning) → (meaning_of abi spelling ≡ meaning) ↔ Means abi spelling meaning
meaning_exact abi spelling meaning = ((λ same. subst (Means abi spelling) same (means abi spelling)), only abi spelling meaning)
