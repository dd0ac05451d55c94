-- The tree of what is read and drawn.
use Rattle.std.proofs.Common.{◌≡◌, ℕ, List, [], ◌∷◌, map, ap, subst}
use Rattle.std.specs.Prelude.{All}
use Rattle.std.proofs.lemmas.List.Elements.{All-nil, All-cons, All-tail, All-head}
use Rattle.plant_text.specs.declared.token.Token.{Token}
use Rattle.plant_grammar.specs.declared.grammar.tree.Program.{Program}
use Rattle.plant_grammar.specs.declared.grammar.tree.Resource.{Resource}
use Rattle.plant_grammar.specs.Grammar.{Tree, TextValue}
use Rattle.plant_grammar.specs.Steps.Reading.{programs_of, AreAllPrograms, tree_written}
use Rattle.plant.specs.Ladders.{IsLadderOf, HasLadder}
use Rattle.plant.specs.ProgramTypes.{TypeValue, AreDrawn}
use Rattle.plant.specs.Steps.Reading.{tree_of}
use Rattle.plant.specs.PlantText.{AreBodiesDrawn}
use Rattle.plant.proofs.SameTrees.{first_have_ladders}

abbrev IsWithLadder : TypeValue → Type 0
IsWithLadder t = IsLadderOf t.program t.ladder

-- the tree of what is read and drawn is the one that is written
pub drawn_tree : (name : List ℕ) (texts : List TextValue) (types : List TypeValue) (rs : List Resource) → AreDrawn texts types → tree_of name (record { types = types; resources = rs }) ≡ tree_written name texts rs
drawn_tree name texts types rs drawn = let with_programs : List Program → Tree = λ ps. record { programs = ps; name = name; resources = rs } in ap with_programs drawn.programs_are

each_with_ladder : (types : List TypeValue) → All IsWithLadder types → All HasLadder (map (λ (t : TypeValue). t.program) types)
each_with_ladder [] ladders = All-nil HasLadder
each_with_ladder (t ∷ ts) ladders =
    All-cons HasLadder t.program (map (λ (t : TypeValue). t.program) ts) (t.ladder, All-head IsWithLadder t ts ladders) (each_with_ladder ts (All-tail IsWithLadder t ts ladders))

-- the programs that are drawn have ladders
pub drawn_have_ladders : (texts : List TextValue) (types : List TypeValue) → AreDrawn texts types → All HasLadder (programs_of texts)
drawn_have_ladders texts types drawn = subst (All HasLadder) drawn.programs_are (each_with_ladder types drawn.ladders)

-- where they are all programs that begin the words, no body there is without one
pub bodies_drawn : (words : List Token) (texts : List TextValue) (types : List TypeValue) → AreDrawn texts types → AreAllPrograms words (programs_of texts) → AreBodiesDrawn words
bodies_drawn words texts types drawn all = λ ps more formed parts.
    let first = all ps more formed parts in
    first_have_ladders ps (programs_of texts) first.0 first.1 (drawn_have_ladders texts types drawn)
