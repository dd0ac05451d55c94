-- The lines that the sources of a plant's binds stand on.
use Rattle.std.specs.Prelude.{◌≡◌, ◌++◌, ℕ, List, [], ◌∷◌, length}
use Rattle.std.specs.List.{flat_map}
use Rattle.plant_text.specs.declared.token.Token.{Token}
use Rattle.plant_text.specs.declared.token.Keyword.TheVariants as key
use Rattle.plant_text.specs.declared.token.Punctuation.TheVariants.{Close, Semicolon, Comma}
use Rattle.plant_grammar.specs.declared.grammar.tree.SourceName.{SourceName}
use Rattle.plant_grammar.specs.declared.grammar.tree.SourceName.TheVariants as source
use Rattle.plant_grammar.specs.declared.grammar.tree.SourceLines.{SourceLines}
use Rattle.plant_grammar.specs.declared.grammar.tree.Bind.{Bind}
use Rattle.plant_grammar.specs.declared.grammar.tree.Use.{Use}
use Rattle.plant_grammar.specs.declared.grammar.tree.Item.{Item}
use Rattle.plant_grammar.specs.declared.grammar.tree.Item.TheVariants as item
use Rattle.plant_grammar.specs.declared.grammar.tree.Resource.{Resource}
use Rattle.plant_grammar.specs.Grammar.{key_word, mark_word, bind_words, item_words, resource_words}
use Rattle.plant_grammar.specs.Lawful.{binds_of}

-- All words stand on these lines, and this rest of them behind a source: its three names, with a dot behind each of the
-- first two, stand on the lines of its parts.
pub record AreNamesOn (all : List ℕ) (rest : List Token) (lines : SourceLines) : Type 0 where
  pub before : List ℕ
  pub first_dot : ℕ
  pub second_dot : ℕ
  pub behind : List ℕ
  pub parts : all ≡ before ++ lines.resource ∷ first_dot ∷ lines.instance ∷ second_dot ∷ lines.output ∷ behind
  pub each : length behind ≡ length rest

-- a source before this rest stands on these lines; of an address nothing is said
abbrev pub IsSourceOn : List ℕ → SourceName → List Token → SourceLines → Type 0
IsSourceOn all (source.Field a) rest lines = Unit {0}
IsSourceOn all (source.Output r i o) rest lines = AreNamesOn all rest lines

-- the words of further binds of an instance
abbrev pub further_binds : List Bind → List Token
further_binds bs = flat_map (λ b. mark_word Comma ∷ bind_words b) bs

-- the source of each of these binds, before the further ones and this rest, stands on its lines
abbrev pub AreBindsOn : List ℕ → List Bind → List SourceLines → List Token → Type 0
AreBindsOn all [] [] rest = Unit {0}
AreBindsOn all [] (l ∷ ls) rest = ⊥
AreBindsOn all (b ∷ bs) [] rest = ⊥
AreBindsOn all (b ∷ bs) (l ∷ ls) rest = IsSourceOn all b.source (further_binds bs ++ rest) l × AreBindsOn all bs ls rest

-- so it is with the sources of an instance before this rest
abbrev pub IsUseOn : List ℕ → Use → List Token → Type 0
IsUseOn all u rest = AreBindsOn all (binds_of u) u.lines.items (mark_word Close ∷ mark_word Semicolon ∷ rest)

-- with those of a line of a resource
abbrev pub IsItemOn : List ℕ → Item → List Token → Type 0
IsItemOn all (item.Task t) rest = Unit {0}
IsItemOn all (item.Use u) rest = IsUseOn all u rest

-- this holds of each of these things, before the words of those behind it and the rest
abbrev pub EachBefore : {A : Type 0} → (A → List Token) → (A → List Token → Type 0) → List A → List Token → Type 0
EachBefore words_of_one P [] rest = Unit {0}
EachBefore words_of_one P (x ∷ xs) rest = P x (flat_map words_of_one xs ++ rest) × EachBefore words_of_one P xs rest

-- with those of a resource
abbrev pub IsResourceOn : List ℕ → Resource → List Token → Type 0
IsResourceOn all r rest = EachBefore item_words (IsItemOn all) r.items.items (key_word key.EndResource ∷ rest)

-- All words stand on these lines, and this rest of them behind these resources: the sources of their binds stand on the
-- lines that are kept with the binds.
abbrev pub AreSourcesOn : List ℕ → List Resource → List Token → Type 0
AreSourcesOn all rs rest = EachBefore resource_words (IsResourceOn all) rs (key_word key.EndConfiguration ∷ rest)
