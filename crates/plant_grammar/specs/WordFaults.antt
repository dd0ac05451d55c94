-- The faults of the words of a text, as values.
use Rattle.std.specs.Prelude.{◌≡◌, ℕ}
use Rattle.plant_grammar.specs.declared.grammar_fault.GrammarFault.{GrammarFault}
use Rattle.plant_grammar.specs.declared.grammar_fault.GrammarFaultKind.{GrammarFaultKind}
use Rattle.plant_grammar.specs.declared.grammar_fault.GrammarFaultKind.TheVariants as kind

-- want of memory has line 0; any other fault may be on any line
abbrev pub IsOfWord : GrammarFaultKind → ℕ → Type 0
IsOfWord kind.Syntax line = Unit {0}
IsOfWord kind.NameTwice line = Unit {0}
IsOfWord kind.UnknownName line = Unit {0}
IsOfWord kind.WrongKind line = Unit {0}
IsOfWord kind.InputBoundTwice line = Unit {0}
IsOfWord kind.TooMany line = Unit {0}
IsOfWord kind.Memory line = line ≡ 0

-- a fault of a word, with the line that belongs to its kind
abbrev pub IsGrammarFault : GrammarFault → Type 0
IsGrammarFault fault = IsOfWord fault.kind fault.line
