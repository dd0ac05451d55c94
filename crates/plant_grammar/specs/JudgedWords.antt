-- A word of a plant's text with its fault in view of those before it: a name that its space has already, or that is one too
-- many; a name that isn't declared where it is sought; an input that is bound already; a type or an address of another kind.
-- And such words one after the other.
use Rattle.std.specs.Prelude.{ℕ, leb, Bool, true, false, not, List, [], ◌∷◌, ◌++◌, map, Option, Some, None, is_none}
use Rattle.std.specs.List.{list_any}
use Rattle.declared_names.specs.declared.declarations.Declaration.{Declaration}
use Rattle.declared_names.specs.declared.declarations.Kind.{Kind}
use Rattle.declared_names.specs.declared.declarations.Kind.TheVariants as value
use Rattle.words.specs.declared.address.Space.{Space}
use Rattle.words.specs.declared.address.Space.TheVariants.{Bit, Word}
use Rattle.plant_grammar.specs.declared.grammar_fault.GrammarFaultKind.{GrammarFaultKind}
use Rattle.plant_grammar.specs.declared.grammar_fault.GrammarFaultKind.TheVariants.{NameTwice, UnknownName, WrongKind, InputBoundTwice, TooMany}
use Rattle.plant_text.specs.declared.token.Token.{Token}
use Rattle.plant_text.specs.declared.token.Token.TheVariants as token
use Rattle.plant_text.specs.declared.token.Punctuation.TheVariants.{Comma}
use Rattle.plant_grammar.specs.declared.grammar.tree.Section.{Section}
use Rattle.plant_grammar.specs.declared.grammar.tree.Section.TheVariants as section
use Rattle.plant_grammar.specs.declared.grammar.tree.TypeName.{TypeName}
use Rattle.plant_grammar.specs.declared.grammar.tree.TypeName.TheVariants.{Elementary, Block}
use Rattle.plant_grammar.specs.declared.grammar.tree.SourceName.{SourceName}
use Rattle.plant_grammar.specs.declared.grammar.tree.SourceName.TheVariants as source
use Rattle.plant_grammar.specs.declared.grammar.tree.Bind.{Bind}
use Rattle.plant_grammar.specs.Grammar.{mark_word, type_word, source_words}
use Rattle.plant_grammar.specs.Kinds.{input_kind_of}
use Rattle.plant_grammar.specs.Names.{is_named}

-- a word, and its fault, if it has one
pub record Judged : Type 0 where
  pub word : Token
  pub fault : Option GrammarFaultKind

-- words without a fault
abbrev pub sound : Token → Judged
sound t = record { word = t; fault = None }

abbrev pub sounds : List Token → List Judged
sounds ts = map sound ts

-- this fault where it is so, else the other, if there is one
abbrev pub if_so : Bool → GrammarFaultKind → Option GrammarFaultKind → Option GrammarFaultKind
if_so true k other = Some k
if_so false k other = other

-- a name that one of these has
abbrev pub is_among : List (List ℕ) → List ℕ → Bool
is_among names name = list_any (λ n. is_named name n) names

-- a new name: twice, if one of these has it; too many, if there are so many, and may be no more
abbrev pub new_name : List (List ℕ) → ℕ → ℕ → List ℕ → Judged
new_name names count most name =
    record { word = token.Name name; fault = if_so (is_among names name) NameTwice (if_so (leb most count) TooMany None) }

-- a name that one of these is to have
abbrev pub known_name : List (List ℕ) → List ℕ → Judged
known_name names name = record { word = token.Name name; fault = if_so (not (is_among names name)) UnknownName None }

-- the input of a bind, where the type has these variables: unknown; else bound, if one of these binds has it; else too many,
-- if the plant has so many binds
abbrev pub input_name : List Declaration → List Bind → ℕ → List ℕ → Judged
input_name ds before count name = record {
  word = token.Name name;
  fault = if_so (is_none (input_kind_of ds name)) UnknownName
      (if_so (is_among (map (λ (b : Bind). b.input) before) name) InputBoundTwice (if_so (leb 4096 count) TooMany None));
}

-- addresses of bits are for BOOL alone, of words for INT alone
abbrev pub may_take : Option Kind → Space → Bool
may_take (Some value.Bool) Bit = true
may_take (Some value.Int) Word = true
may_take _ _ = false

-- the source of an input of this kind
abbrev pub judged_source : Option Kind → SourceName → List Judged
judged_source k (source.Field a) =
    record { word = token.Address a; fault = if_so (not (may_take k a.space)) WrongKind None } ∷ []
judged_source k (source.Output resource instance output) = sounds (source_words (source.Output resource instance output))

-- blocks are declared in VAR alone, without RETAIN
abbrev pub may_have : Section → TypeName → Bool
may_have s (Elementary k) = true
may_have section.Local (Block b) = true
may_have _ (Block b) = false

abbrev pub judged_type : Section → TypeName → Judged
judged_type s t = record { word = type_word t; fault = if_so (not (may_have s t)) WrongKind None }

-- things one after the other, each in view of those before it
abbrev pub in_order : {A : Type 0} → (List A → A → List Judged) → List A → List A → List Judged
in_order judge before [] = []
in_order judge before (x ∷ xs) = judge before x ++ in_order judge (before ++ x ∷ []) xs

-- so with commas between them
abbrev pub listed : {A : Type 0} → (List A → A → List Judged) → List A → List A → List Judged
listed judge before [] = []
listed judge before (x ∷ []) = judge before x
listed judge before (x ∷ y ∷ more) = judge before x ++ sound (mark_word Comma) ∷ listed judge (before ++ x ∷ []) (y ∷ more)
