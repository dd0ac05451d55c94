-- What is left to be read of a plant's words, and the fault of the next one.
use Rattle.std.specs.Prelude.{◌≡◌, ◌++◌, ℕ, List, [], ◌∷◌, length, map, slice_index_or, Option, MatchOption}
use Rattle.std.specs.Borrow.{Bor}
use Rattle.plant_text.specs.declared.token.Token.{Token}
use Rattle.plant_text.specs.Lines.{WordValue, body_line, body_lines}
use Rattle.plant_grammar.specs.declared.grammar.tree.SourceLines.{SourceLines}
use Rattle.plant_grammar.specs.declared.grammar_fault.GrammarFault.{GrammarFault}
use Rattle.plant_grammar.specs.declared.grammar_fault.GrammarFaultKind.TheVariants.{Syntax}

-- what is left to be read: the words, the line of each, the lines of the bodies among them, and the line on which the
-- text ends
pub record ReaderValue : Type 0 where
  pub words : List Token
  pub lines : List ℕ
  pub bodies : List ℕ
  pub last : ℕ

-- all of these words are left, in a text that ends on this line
abbrev pub all_left : List WordValue → ℕ → ReaderValue
all_left words last =
    record { words = map (λ w. w.token) words; lines = map (λ w. w.line) words; bodies = body_lines words; last = last }

-- the line of the next word, or that on which the text ends
abbrev pub next_line : ReaderValue → ℕ
next_line r = of_lines r.lines where
  of_lines : List ℕ → ℕ
  of_lines [] = r.last
  of_lines (line ∷ more) = line

-- the fault of a next word that the grammar doesn't have there
abbrev pub syntax_at : ReaderValue → GrammarFault
syntax_at r = record { kind = Syntax; line = next_line r }

-- the first, third and fifth of these lines
abbrev pub source_parts : List ℕ → SourceLines
source_parts lines =
    record {
      resource = slice_index_or lines 0 0;
      instance = slice_index_or lines 2 0;
      output = slice_index_or lines 4 0;
    }

-- Each word that is left has its line, and these lines are the last of all.
pub record HasLinesOf (all : List ℕ) (r : ReaderValue) : Type 0 where
  pub front : List ℕ
  pub parts : all ≡ front ++ r.lines
  pub each : length r.lines ≡ length r.words

-- Words were read from the front, each with its line, and the text ends on the same line.
abbrev pub KeepsLines : ReaderValue → ReaderValue → Type 0
KeepsLines old new = ((all : List ℕ) → HasLinesOf all old → HasLinesOf all new) × (new.last ≡ old.last)

-- the words behind the next one
abbrev pub behind : List Token → List Token
behind [] = []
behind (t ∷ rest) = rest

-- this word stood next, and was left behind: the line of a body with it
abbrev pub IsLeft : Token → ReaderValue → ReaderValue → Type 0
IsLeft t old new = old.bodies ≡ body_line (record { token = t; line = next_line old }) ++ new.bodies

-- the next word is this one
abbrev pub IsWordNext : Token → List Token → Type 0
IsWordNext t words = (rest : List Token) × (words ≡ t ∷ rest)

-- the next word is another one, or there is none
abbrev pub IsNotNext : Token → List Token → Type 0
IsNotNext t words = (rest : List Token) → words ≡ t ∷ rest → ⊥

-- the next word is one of these
abbrev pub IsOneNext : {A : Type 0} → (A → Token) → List Token → Type 0
IsOneNext {A} word_of words = (x : A) × (rest : List Token) × (words ≡ word_of x ∷ rest)

-- the next word is none of these, or there is none
abbrev pub IsNoneNext : {A : Type 0} → (A → Token) → List Token → Type 0
IsNoneNext {A} word_of words = (x : A) (rest : List Token) → words ≡ word_of x ∷ rest → ⊥

-- this is the next word, if there is one
abbrev pub TellsNext : List Token → Option (Bor Token) → Type 0
TellsNext words found = MatchOption found (words ≡ []) (λ t. words ≡ t.now ∷ behind words)
