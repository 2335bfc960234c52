-- What holds of languages that carry over.
use Rattle.typing.specs.Sample.{sample, Declarations}
use Rattle.typing.specs.SampleFile.{file}
use Rattle.items.specs.languages.Carries.{Carries, Carried}

-- each environment
abbrev pub Anywhere : Declarations → Type 0
Anywhere env = Unit {0}

-- what is found by the language of the examples is found from where any map leads that carries it over to itself
abbrev pub FindsWhatIsCarried : Type 0
FindsWhatIsCarried = (to : Declarations → Declarations) → Carries sample sample file file to Anywhere → Carried sample sample file file to Anywhere

-- it carries over to itself where nothing is changed
abbrev pub CarriesItself : Type 0
CarriesItself = Carries sample sample file file (λ env. env) Anywhere
