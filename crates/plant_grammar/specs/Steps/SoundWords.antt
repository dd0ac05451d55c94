-- Judged words of parts of a plant's text that are read in one go, and what begins with words that have no fault.
use Rattle.std.specs.Prelude.{◌≡◌, ◌+◌, ◌<◌, ◌^◌, ℕ, List, [], ◌∷◌, ◌++◌, length, Option, Some, All}
use Rattle.std.specs.List.{flat_map}
use Rattle.lists.specs.Items.{items_or_none}
use Rattle.declared_names.specs.declared.declarations.Declaration.{Declaration}
use Rattle.plant_grammar.specs.declared.grammar_fault.GrammarFaultKind.{GrammarFaultKind}
use Rattle.plant_text.specs.declared.token.Token.{Token}
use Rattle.plant_text.specs.declared.token.Token.TheVariants as token
use Rattle.plant_text.specs.declared.token.Keyword.TheVariants as key
use Rattle.plant_text.specs.declared.token.Punctuation.TheVariants.{Close}
use Rattle.plant_grammar.specs.declared.grammar.tree.Section.{Section}
use Rattle.plant_grammar.specs.declared.grammar.tree.NameList.{NameList}
use Rattle.plant_grammar.specs.declared.grammar.tree.VarBlock.{VarBlock}
use Rattle.plant_grammar.specs.declared.grammar.tree.Program.{Program}
use Rattle.plant_grammar.specs.declared.grammar.tree.Order.{Order}
use Rattle.plant_grammar.specs.declared.grammar.tree.SourceName.TheVariants as source
use Rattle.plant_grammar.specs.declared.grammar.tree.Bind.{Bind}
use Rattle.plant_grammar.specs.declared.grammar.tree.Item.{Item}
use Rattle.plant_grammar.specs.declared.grammar.tree.Resource.{Resource}
use Rattle.plant_grammar.specs.Grammar.{key_word, mark_word, settings, source_words}
use Rattle.plant_grammar.specs.JudgedWords.{Judged, sound, sounds, in_order, listed}
use Rattle.plant_grammar.specs.Lawful.{lists_variables, block_variables, task_of, use_of, uses_of, binds_of}
use Rattle.plant_grammar.specs.NameFaults.{judged_variable, judged_list, judged_block, judged_bind, judged_item, judged_resource}
use Rattle.plant_grammar.specs.WellFormed.{HasNames, IsBlockWellFormed, AreIntervalsPositive, IsResourceWellFormed}

-- such a list fits into memory
abbrev pub Fits : {A : Type 0} → List A → Type 0
Fits xs = length xs < 2 ^ 63

-- If these words fit into memory, then one of which this holds begins with them, and none of them has a fault.
abbrev pub BeginsSound : {A : Type 0} → (A → List Judged) → (A → Type 0) → List Token → Type 0
BeginsSound {A} judge P words = Fits words → (x : A) × (more : List Judged) × (judge x ≡ sounds words ++ more) × P x

-- no words
abbrev pub IsNothing : List Token → Type 0
IsNothing words = words ≡ []

-- these words begin with those
abbrev pub BeginWords : List Token → List Token → Type 0
BeginWords words front = (more : List Token) × (words ≡ front ++ more)

-- the words of one of which this holds begin with these
abbrev pub BeginsWords : {A : Type 0} → (A → List Token) → (A → Type 0) → List Token → Type 0
BeginsWords {A} words_of P front = (x : A) × P x × BeginWords (words_of x) front

-- a body, and the end of its program
abbrev pub end_words : List ℕ → List Token
end_words body = token.Body body ∷ key_word key.EndProgram ∷ []

-- the settings of some task begin with these words
abbrev pub BeginsSettings : List Token → Type 0
BeginsSettings front =
    (order : Order) × (interval : ℕ) × (priority : ℕ) × (0 < interval)
    × BeginWords (settings order interval priority) front

-- so does some output
abbrev pub BeginsOutput : List Token → Type 0
BeginsOutput front =
    (resource : List ℕ) × (instance : List ℕ) × (output : List ℕ)
    × BeginWords (source_words (source.Output resource instance output)) front

-- One of which this holds begins with these words, of which the last is the first that has a fault, and this one.
pub record EndsFaulty {A : Type 0} (judge : A → List Judged) (P : A → Type 0) (k : GrammarFaultKind)
    (words : List Token) : Type 0 where
  pub before : List Token
  pub word : Token
  pub parts : words ≡ before ++ word ∷ []
  pub value : A
  pub more : List Judged
  pub judged : judge value ≡ sounds before ++ record { word = word; fault = Some k } ∷ more
  pub holds : P value

-- names of a list, behind these variables of its program
abbrev pub judged_names : List Declaration → List (List ℕ) → List Judged
judged_names ds names = listed (judged_variable ds) [] names

abbrev pub AreNamesFormed : List (List ℕ) → Type 0
AreNamesFormed names = (0 < length names) × Fits names

-- lists of a section up to the end of their block, behind these variables of its program
abbrev pub judged_lists : Section → List Declaration → List NameList → List Judged
judged_lists s ds ls =
    in_order (λ ms l. judged_list s (ds ++ lists_variables s ms) l) [] ls ++ sound (key_word key.EndVar) ∷ []

abbrev pub AreListsFormed : List NameList → Type 0
AreListsFormed ls = All HasNames ls × Fits ls

-- blocks behind these variables of their program
abbrev pub judged_blocks : List Declaration → List VarBlock → List Judged
judged_blocks ds bs = in_order (λ cs b. judged_block (ds ++ flat_map block_variables cs) b) [] bs

abbrev pub AreBlocksFormed : List VarBlock → Type 0
AreBlocksFormed bs = All IsBlockWellFormed bs × Fits bs

-- a bind behind these of its instance, and so many of the plant before those
abbrev pub bind_behind : List Declaration → ℕ → List Bind → Bind → List Judged
bind_behind ds binds before b = judged_bind ds (binds + length before) before b

-- binds, or none, that fit into memory
abbrev pub ListedFit : Option (List Bind) → Type 0
ListedFit bs = Fits (items_or_none bs)

-- binds up to the parenthesis that closes them, behind so many of the plant
abbrev pub judged_in_parentheses : List Declaration → ℕ → List Bind → List Judged
judged_in_parentheses ds binds bs = listed (bind_behind ds binds) [] bs ++ sound (mark_word Close) ∷ []

-- no interval of a task is 0
abbrev pub IsItemFormed : Item → Type 0
IsItemFormed x = All (λ t. 0 < t.interval) (task_of x)

-- a line behind these of its resource, and so many instances and binds of the plant before those
abbrev pub item_behind : List Program → ℕ → ℕ → List Item → Item → List Judged
item_behind programs instances binds before x =
    judged_item programs (instances + length (flat_map use_of before))
    (binds + length (flat_map binds_of (flat_map use_of before))) before x

-- lines up to the end of their resource
abbrev pub judged_items : List Program → ℕ → ℕ → List Item → List Judged
judged_items programs instances binds xs =
    in_order (item_behind programs instances binds) [] xs ++ sound (key_word key.EndResource) ∷ []

abbrev pub AreItemsFormed : List Item → Type 0
AreItemsFormed xs = AreIntervalsPositive xs × Fits xs

-- resources up to the end of the configuration, behind so many instances and binds
abbrev pub judged_resources_behind : List Program → ℕ → ℕ → List Resource → List Judged
judged_resources_behind programs instances binds rs =
    in_order (λ before r. judged_resource programs (instances + length (flat_map uses_of before))
    (binds + length (flat_map binds_of (flat_map uses_of before))) before r) [] rs ++ sound (key_word key.EndConfiguration) ∷ []

abbrev pub AreResourcesFormed : List Resource → Type 0
AreResourcesFormed rs = (0 < length rs) × All IsResourceWellFormed rs
