-- A text spells one tree, and is one plant.
use Rattle.std.proofs.Common.{◌≡◌, ◌≤◌, ℕ, List, [], ◌++◌, length, sym, ap}
use Rattle.words.specs.Lines.{without_last}
use Rattle.plant_text.specs.declared.token.Token.{Token}
use Rattle.plant_text.specs.Spelling.{Spells}
use Rattle.plant_text.specs.Steps.Lexing.{AreWordsInPlace}
use Rattle.plant_grammar.specs.Grammar.{Tree, words_of}
use Rattle.plant_grammar.specs.Parts.{IsSameTree}
use Rattle.plant.specs.Ladders.{OneLadder}
use Rattle.plant.specs.PlantText.{OneTree, OnePlantOfTree, OnePlant}
use Rattle.plant.proofs.MovedPlants.{plant_moved}
use Rattle.plant.proofs.OnePlant.{plant_once}

-- the words of a tree stand where a text may have them
abbrev pub WordsAreInPlace : Type 0
WordsAreInPlace = (tree : Tree) → length tree.programs ≤ 64 → AreWordsInPlace (words_of tree)

-- words in place that a text spells are the only such words
abbrev pub AreOneWords : Type 0
AreOneWords = (text : List ℕ) (ts us : List Token) → AreWordsInPlace ts → AreWordsInPlace us → Spells text ts → Spells text us → ts ≡ us

-- trees that begin the same words say the same
abbrev pub WordsHaveOneTree : Type 0
WordsHaveOneTree = (t u : Tree) (rest more : List Token) → words_of t ++ rest ≡ words_of u ++ more → (rest ≡ more) × IsSameTree t u

turned : (t u : Tree) → IsSameTree t u → IsSameTree u t
turned t u same = record { programs = sym same.programs; name = sym same.name; resources = sym same.resources }

pub tree_once : AreOneWords → WordsAreInPlace → WordsHaveOneTree → OneTree
tree_once once placed one text t u few_t few_u spelled_t spelled_u =
    let words : words_of t ≡ words_of u = once (without_last 13 text) (words_of t) (words_of u) (placed t few_t) (placed u few_u) spelled_t spelled_u in
    (one t u [] [] (ap (λ (ws : List Token). ws ++ []) words)).1

pub tree_plant_once : OneLadder → OnePlantOfTree
tree_plant_once ladders t u p q lawful same is_p is_q =
    plant_once ladders t.programs t.name t.resources lawful p q is_p (plant_moved u t (turned t u same) q is_q)

pub text_plant_once : OneTree → OnePlantOfTree → OnePlant
text_plant_once trees plants text p q a b =
    let same = trees text a.tree b.tree a.faultless.lawful.few_types b.faultless.lawful.few_types a.spelled b.spelled in
    plants a.tree b.tree p q a.faultless.lawful same a.stands b.stands
