-- The warnings of one program more.
use Rattle.std.proofs.Common.{inr, ◌≡◌, List, [], ◌∷◌, ◌++◌, refl, sym, ap, ◌∙◌, append_assoc}
use Rattle.std.proofs.lemmas.List.{append-nil}
use Rattle.plant_grammar.specs.Grammar.{TextValue}
use Rattle.warnings.specs.declared.warning.Warning.{Warning}
use Rattle.std.specs.Prelude.{ℕ, Option, Some, None, MatchOption}
use Rattle.plant_text.specs.Lines.{WordValue}
use Rattle.plant_grammar.specs.declared.grammar.tree.Resource.{Resource}
use Rattle.warnings.specs.declared.of_plant.PlantWarnings.{PlantWarnings}
use Rattle.warnings.specs.declared.scan_time.ScanTime.{ScanTime}
use Rattle.warnings.specs.OfPlant.{IsBodyWarned, AreBodiesWarned, AreWarningsOfTree, AreWarningsOfPlant, AreWordsOf, BeginWithPlant, HasNoDrawingIn, IsNoPlant}

pub passed_more : (all before left now : List TextValue) (t : TextValue) → left ≡ t ∷ now → before ++ left ≡ all → (before ++ t ∷ []) ++ now ≡ all
passed_more all before left now t front parts = append_assoc before (t ∷ []) now ∙ ap (λ ts. before ++ ts) (sym front) ∙ parts

pub warned_more : (time : ScanTime) (texts : List TextValue) (t : TextValue) (warnings more : List Warning)
    → AreBodiesWarned time texts warnings → IsBodyWarned time t more → AreBodiesWarned time (texts ++ t ∷ []) (warnings ++ more)
warned_more time [] t warnings more none is = (more, [], is, refl, ap (λ (ws : List Warning). ws ++ more) none ∙ sym (append-nil more))
warned_more time (s ∷ texts) t warnings more are is = (
  are.0,
  are.1 ++ more,
  are.2,
  warned_more time texts t are.1 more are.3 is,
  ap (λ (ws : List Warning). ws ++ more) are.4 ∙ append_assoc are.0 are.1 more,
)

-- what is told of a text's programs and resources is told of the text
pub plant_told : (time : ScanTime) (text : List ℕ) (words : List WordValue) (texts : List TextValue) (resources : List Resource)
    → AreWordsOf text words → BeginWithPlant words texts resources
    → (told : Option PlantWarnings) → MatchOption told (HasNoDrawingIn texts) (AreWarningsOfTree time texts resources)
    → MatchOption told (IsNoPlant text) (AreWarningsOfPlant time text)
plant_told time text words texts resources written begun None faulty = record {
  words = words;
  written = written;
  refused = inr (record { texts = texts; resources = resources; begun = begun; faulty = faulty });
}
plant_told time text words texts resources written begun (Some told) warned = record {
  words = words;
  texts = texts;
  resources = resources;
  written = written;
  begun = begun;
  warned = warned;
}
