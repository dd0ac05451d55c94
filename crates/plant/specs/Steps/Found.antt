-- What is found under a name, or in a place.
use Rattle.std.specs.Prelude.{ℕ, List, Option, MatchOption}
use Rattle.plant_grammar.specs.Names.{IsAt}
use Rattle.plant_grammar.specs.declared.grammar_fault.GrammarFaultKind.{GrammarFaultKind}
use Rattle.plant_grammar.specs.declared.grammar_fault.GrammarFaultKind.TheVariants as kind

-- what is found are two things of which this holds; it is none only where it holds of no two
abbrev pub FindsBoth : {A B : Type 0} → (A → B → Type 0) → Option (A × B) → Type 0
FindsBoth {A} {B} R found = MatchOption found ((x : A) (y : B) → R x y → ⊥) (λ p. R p.0 p.1)

-- what is found is the position of something of this name; it is none only where nothing has the name
abbrev pub FindsAt : {A : Type 0} → (A → List ℕ) → List A → List ℕ → Option ℕ → Type 0
FindsAt {A} name_of xs name found =
    MatchOption found ((k : ℕ) (x : A) → IsAt name_of xs name k x → ⊥) (λ k. (x : A) × IsAt name_of xs name k x)

-- what may be told of a source: UnknownName or WrongKind, or want of memory
abbrev pub TellsOfSource : GrammarFaultKind → Type 0
TellsOfSource kind.Syntax = ⊥
TellsOfSource kind.NameTwice = ⊥
TellsOfSource kind.UnknownName = Unit {0}
TellsOfSource kind.WrongKind = Unit {0}
TellsOfSource kind.InputBoundTwice = ⊥
TellsOfSource kind.TooMany = ⊥
TellsOfSource kind.Memory = Unit {0}
