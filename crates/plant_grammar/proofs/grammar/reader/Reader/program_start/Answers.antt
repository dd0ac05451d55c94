use Rattle.plant_text.specs.declared.token.Token.{Token}
use Rattle.std.proofs.Common.{◌≤◌, [], ◌∷◌, length, arith, subst, sym, List}
use Rattle.std.proofs.lemmas.List.{length-map}
use Rattle.std.proofs.lemmas.Result.{IfErr-weaker}
use Rattle.plant_grammar.specs.Grammar.{TextValue}
use Rattle.plant_grammar.specs.declared.grammar.tree.Program.{Program}
use Rattle.plant_grammar.specs.Steps.Reading.{programs_of}
use Rattle.plant_grammar.specs.Steps.Declaring.{RepeatsName, IsNameNext}
use Rattle.lists.proofs.Results.{kept_fault}
use Rattle.plant_text.specs.declared.token.Keyword.TheVariants as key
use Rattle.plant_grammar.specs.Steps.Expected.{Key, AName, GetsStuck}
use Rattle.plant_grammar.proofs.UnexpectedWords.{key_stuck}
use Rattle.plant_grammar.proofs.RefusedNames.{tells_with, both_told}
use Rattle.plant_grammar.proofs.ReadLines.{line_before}
use Rattle.plant_grammar.proofs.RefusedPlaces.{program_named}
use Rattle.plant_grammar.proofs.StuckBehind.{stuck_after_key}
use Rattle.plant_grammar.specs.NameFaults.{judged_program}
use Rattle.plant_grammar.specs.WellFormed.{IsProgramWellFormed}
use Rattle.plant_grammar.specs.Grammar.{key_word}
use Rattle.plant_grammar.specs.Steps.SoundWords.{BeginsSound, IsNothing}
use Rattle.plant_grammar.proofs.ExpectedWords.{stuck_told}
use Rattle.plant_grammar.proofs.SoundFronts.{no_program_words, program_begun}
use Rattle.plant_grammar.proofs.grammar.reader.Reader.program_start.Goals as goal

pub returns-clause-names : goal.returns-clause-names
returns-clause-names c =
    let before = programs_of c.args.before.now in
    let words = c.keyword.new.self.words in
    let repeats = RepeatsName (λ (x : Program). x.name) before words in
    both_told c.new_type.result _ _ _
    (λ fault tells line all h of. program_named fault.kind before c.args.self.now.words words (line_before all c.keyword.new.self fault.line (c.in_ok-keyword.ensures.left.0 all h) (line of)) c.in_ok-keyword.ensures.ok
    (tells_with fault.kind repeats (IsNameNext words × (64 ≤ length c.args.before.now)) repeats (IsNameNext words × (64 ≤ length before)) (λ twice. twice) (λ twice. twice)
    (λ full. (full.0, omega (arith, full.1, length-map c.args.before.now (λ (t : TextValue). t.program)))) tells) of)
    c.new_type.ensures.tells c.new_type.ensures.line

pub returns-in_err-keyword-clause-stuck : goal.returns-in_err-keyword-clause-stuck
returns-in_err-keyword-clause-stuck c =
    let fault = c.in_err-keyword.field-0.0 in
    let before = programs_of c.args.before.now in
    let Known : List Token → Type 0 = BeginsSound (judged_program before) IsProgramWellFormed in
    kept_fault fault (GetsStuck Known (Key key.Program ∷ AName ∷ []) c.args.self.now) c.from_residual.result c.from_residual.ensures.1
    (key_stuck Known (no_program_words before) key.Program (AName ∷ []) c.args.self.now fault c.in_err-keyword.ensures.err.0 c.in_err-keyword.ensures.other)

pub returns-clause-stuck : goal.returns-clause-stuck
returns-clause-stuck c =
    let before = programs_of c.args.before.now in
    let Known : List Token → Type 0 = BeginsSound (judged_program before) IsProgramWellFormed in
    IfErr-weaker c.new_type.result _ _ (λ fault stuck. stuck_after_key Known key.Program (AName ∷ []) c.args.self.now c.keyword.new.self fault c.in_ok-keyword.ensures.ok c.in_ok-keyword.ensures.left
    (stuck_told (λ w. Known (key_word key.Program ∷ w)) IsNothing (AName ∷ []) c.keyword.new.self fault (λ w none. subst (λ (v : List Token). Known (key_word key.Program ∷ v)) (sym none) (program_begun before)) stuck)) c.new_type.ensures.stuck
