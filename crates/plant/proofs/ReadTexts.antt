-- What a text that is read says: its plant, and the program type of a name.
use Rattle.std.proofs.Common.{◌≡◌, ℕ, Bool, List, Option, Some, None, IsTrue, map, refl, sym, ap, ◌∙◌, subst}
use Rattle.std.specs.Prelude.{slice_get}
use Rattle.std.specs.List.{find}
use Rattle.std.specs.Option.{option_map}
use Rattle.std.proofs.lemmas.Option.{slice_get-map}
use Rattle.lists.proofs.Mapped.{mapped_at}
use Rattle.plant_grammar.specs.declared.grammar.tree.Program.{Program}
use Rattle.plant_grammar.specs.Names.{is_named}
use Rattle.plant_grammar.specs.Parts.{ProgramParts, program_parts}
use Rattle.power_flow.specs.LadderValue.{LadderValue}
use Rattle.plant.specs.Ladders.{IsLadderOf, OneLadder}
use Rattle.plant.specs.PlantText.{IsPlantText, OneTree}
use Rattle.plant.specs.PlantValue.{PlantValue}
use Rattle.plant.specs.ProgramText.{IsTypeOf, IsProgramOfText, TypeParts, type_parts, OneProgram}
use Rattle.plant.specs.ProgramTypes.{TypeValue}
use Rattle.plant.specs.Steps.Reading.{IsReadIn}
use Rattle.plant.proofs.Drafting.{found_place}
use Rattle.plant.proofs.Members.{first_found}
use Rattle.plant.proofs.SameTrees.{partner, ladder_kept}
use Rattle.plant.proofs.Sourcing.{one_item}
use Rattle.plant.proofs.Zips.{all_at}

pub text_of_plant : (text : List ℕ) (types : List TypeValue) (plant : PlantValue) → IsReadIn text types plant → IsPlantText text plant
text_of_plant text types plant read = record { tree = read.tree; spelled = read.spelled; faultless = read.faultless; stands = read.stands }

module _ (text name : List ℕ) (types : List TypeValue) (plant : PlantValue) (read : IsReadIn text types plant) where
  -- a type that was found by its name, or none
  found_or_none : (found : Option TypeValue) → find (λ (t : TypeValue). is_named name t.program.name) types ≡ found → IsProgramOfText text name found
  found_or_none (Some t) is =
      let at = found_place (λ (t : TypeValue). is_named name t.program.name) types t is in
      record {
        tree = read.tree;
        spelled = read.spelled;
        faultless = read.faultless;
        found_is = record {
          place = at.0;
          type_is = record {
            stands = ap (λ (ps : List Program). slice_get ps at.0) (sym read.typed) ∙ slice_get-map (λ (t : TypeValue). t.program) types at.0 ∙ ap (option_map (λ (t : TypeValue). t.program)) at.1;
            named = at.2;
          };
          ladder_is = all_at (λ (t : TypeValue). IsLadderOf t.program t.ladder) types read.drawn at.0 t at.1;
        };
      }
  found_or_none None none = record {
    tree = read.tree;
    spelled = read.spelled;
    faultless = read.faultless;
    found_is = λ t is.
        let there : slice_get (map (λ (t : TypeValue). t.program) types) is.place ≡ Some t.program = ap (λ (ps : List Program). slice_get ps is.place) read.typed ∙ is.type_is.stands in
        let at = mapped_at (λ (t : TypeValue). t.program) types is.place t.program there in
        let named : IsTrue (is_named name at.0.program.name) = subst (λ (q : Program). IsTrue (is_named name q.name)) (sym at.2) is.type_is.named in
        let found = first_found (λ (t : TypeValue). is_named name t.program.name) types is.place at.0 at.1 named in
        let wrong : ◌≡◌ {A = Option TypeValue} (Some found.0) None = sym found.1 ∙ none in
        absurd cc;
  }

pub program_found : (text name : List ℕ) (types : List TypeValue) (plant : PlantValue) (found : Option TypeValue) → IsReadIn text types plant → found ≡ find (λ (t : TypeValue). is_named name t.program.name) types → IsProgramOfText text name found
program_found text name types plant found read is = found_or_none text name types plant read found (sym is)

type_parts_same : (x y : TypeValue) → program_parts x.program ≡ program_parts y.program → x.ladder ≡ y.ladder → type_parts x ≡ type_parts y
type_parts_same x y program ladder =
    let make : ProgramParts → LadderValue → TypeParts = λ p l. record { program = p; ladder = l } in
    ap (λ p. make p x.ladder) program ∙ ap (make (program_parts y.program)) ladder

-- the types of a name in trees that say the same
module _ (ladders : OneLadder) (trees : OneTree) (text name : List ℕ) where
  -- the type of the name in the other tree
  type_there : (a b : Option TypeValue) (x : IsProgramOfText text name a) (y : IsProgramOfText text name b) (t : TypeValue) → IsTypeOf x.tree name t
      → (u : TypeValue) × IsTypeOf y.tree name u × (type_parts t ≡ type_parts u)
  type_there a b x y t is =
      let same = trees text x.tree y.tree x.faultless.lawful.few_types y.faultless.lawful.few_types x.spelled y.spelled in
      let at = partner program_parts x.tree.programs y.tree.programs same.programs is.place t.program is.type_is.stands in
      let u : TypeValue = record { program = at.0; ladder = t.ladder } in
      let named : IsTrue (is_named name at.0.name) = subst (λ (n : List ℕ). IsTrue (is_named name n)) (ap (λ (q : ProgramParts). q.name) at.2) is.type_is.named in
      (u, record { place = is.place; type_is = record { stands = at.1; named = named }; ladder_is = ladder_kept t.program at.0 at.2 t.ladder is.ladder_is }, type_parts_same t u at.2 refl)

  type_same : (b : Option TypeValue) (y : IsProgramOfText text name b) (t u : TypeValue) → IsTypeOf y.tree name t → IsTypeOf y.tree name u → type_parts t ≡ type_parts u
  type_same b y t u one other =
      let program : t.program ≡ u.program = one_item (λ (p : Program). p.name) y.tree.programs name y.faultless.lawful.types_apart one.place other.place t.program u.program one.type_is other.type_is in
      let ladder : t.ladder ≡ u.ladder = ladders u.program t.ladder u.ladder (subst (λ (p : Program). IsLadderOf p t.ladder) program one.ladder_is) other.ladder_is in
      type_parts_same t u (ap program_parts program) ladder

  program_once : (a b : Option TypeValue) → IsProgramOfText text name a → IsProgramOfText text name b → option_map type_parts a ≡ option_map type_parts b
  program_once None None x y = refl
  program_once None (Some u) x y = let there = type_there (Some u) None y x u y.found_is in absurd (x.found_is there.0 there.1)
  program_once (Some t) None x y = let there = type_there (Some t) None x y t x.found_is in absurd (y.found_is there.0 there.1)
  program_once (Some t) (Some u) x y =
      let there = type_there (Some t) (Some u) x y t x.found_is in
      ap Some (there.2 ∙ type_same (Some u) y there.0 u there.1 y.found_is)

pub one_program_of_text : OneLadder → OneTree → OneProgram
one_program_of_text ladders trees text name a b x y = program_once ladders trees text name a b x y
