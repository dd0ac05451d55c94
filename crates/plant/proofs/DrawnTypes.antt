-- Program types that are drawn one by one.
use Rattle.std.proofs.Common.{◌≡◌, List, [], ◌∷◌, ◌++◌, map, sym, ap, ◌∙◌, subst, append_assoc}
use Rattle.std.specs.Prelude.{All}
use Rattle.std.proofs.lemmas.List.{map-append}
use Rattle.std.proofs.lemmas.List.Elements.{All-nil, All-cons, All-push, All-tail, All-head}
use Rattle.plant.specs.declared.plant_fault.PlantFault.{PlantFault}
use Rattle.plant.specs.Ladders.{IsLadderOf, HasLadder}
use Rattle.plant_grammar.specs.Grammar.{TextValue}
use Rattle.plant.specs.BodyFaults.{IsBodyFault, IsFirstBodyFault}
use Rattle.plant.specs.ProgramTypes.{AreDrawn, TypeValue}

abbrev IsWithLadder : TypeValue → Type 0
IsWithLadder t = IsLadderOf t.program t.ladder

abbrev HasItsLadder : TextValue → Type 0
HasItsLadder t = HasLadder t.program

-- one more program is drawn
pub drawn_more : (before : List TextValue) (xs ys : List TypeValue) (x : TypeValue) (t : TextValue) → ys ≡ xs ++ x ∷ [] → x.program ≡ t.program → IsLadderOf x.program x.ladder → AreDrawn before xs → AreDrawn (before ++ t ∷ []) ys
drawn_more before xs ys x t more same ladder drawn = record {
  programs_are =
      ap (λ (ts : List TypeValue). map (λ (t : TypeValue). t.program) ts) more ∙ map-append (λ (t : TypeValue). t.program) xs (x ∷ []) ∙ ap (λ p. map (λ (t : TypeValue). t.program) xs ++ p ∷ []) same
      ∙ ap (λ ps. ps ++ t.program ∷ []) drawn.programs_are ∙ sym (map-append (λ (t : TextValue). t.program) before (t ∷ []));
  ladders = subst (All IsWithLadder) (sym more) (All-push IsWithLadder xs x drawn.ladders ladder);
}

pub passed_more : (all before left now : List TextValue) (t : TextValue) → left ≡ t ∷ now → before ++ left ≡ all → (before ++ t ∷ []) ++ now ≡ all
passed_more all before left now t front parts = append_assoc before (t ∷ []) now ∙ ap (λ ts. before ++ ts) (sym front) ∙ parts

-- programs that are drawn have ladders
with_ladders : (texts : List TextValue) (types : List TypeValue) → map (λ (t : TypeValue). t.program) types ≡ map (λ (t : TextValue). t.program) texts → All (λ (t : TypeValue). IsLadderOf t.program t.ladder) types → All HasItsLadder texts
with_ladders [] types same ladders = All-nil HasItsLadder
with_ladders (t ∷ ts) [] same ladders = absurd cc
with_ladders (t ∷ ts) (y ∷ ys) same ladders =
    let first : y.program ≡ t.program = cc in
    let rest : map (λ (t : TypeValue). t.program) ys ≡ map (λ (t : TextValue). t.program) ts = cc in
    let ladder = All-head (λ (t : TypeValue). IsLadderOf t.program t.ladder) y ys ladders in
    All-cons HasItsLadder t ts (y.ladder, subst (λ p. IsLadderOf p y.ladder) first ladder) (with_ladders ts ys rest (All-tail (λ (t : TypeValue). IsLadderOf t.program t.ladder) y ys ladders))

-- the program behind those that are drawn is the first one that is refused
pub first_refused : (texts before : List TextValue) (types : List TypeValue) (t : TextValue) (left now : List TextValue) (fault : PlantFault) → left ≡ t ∷ now → before ++ left ≡ texts
    → AreDrawn before types → IsBodyFault t fault → IsFirstBodyFault texts fault
first_refused texts before types t left now fault front all drawn is = record {
  before = before;
  faulty = t;
  behind = now;
  parts = sym all ∙ ap (λ ts. before ++ ts) front;
  drawn = with_ladders before types drawn.programs_are drawn.ladders;
  fault_is = is;
}
