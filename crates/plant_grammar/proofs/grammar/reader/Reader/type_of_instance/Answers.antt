use Rattle.std.proofs.Common.{◌≡◌, ◌∙◌, sym, ap, ◌∷◌, [], refl}
use Rattle.plant_text.specs.declared.token.Punctuation.TheVariants.{Colon}
use Rattle.plant_grammar.specs.declared.grammar_fault.GrammarFault.{GrammarFault}
use Rattle.plant_grammar.specs.declared.grammar.tree.Program.{Program}
use Rattle.plant_grammar.specs.Grammar.{mark_word}
use Rattle.plant_grammar.specs.Steps.NamesRead.{IsUnknown}
use Rattle.plant_grammar.specs.Steps.Reading.{programs_of}
use Rattle.plant_grammar.proofs.FoundTypes.{missed_type}
use Rattle.plant_grammar.proofs.ReadLines.{line_before}
use Rattle.plant_grammar.proofs.RefusedNames.{unknown_here, begin_after}
use Rattle.lists.proofs.Results.{kept_fault}
use Rattle.plant_text.specs.declared.token.Punctuation.TheVariants as mark
use Rattle.plant_grammar.specs.Steps.Expected.{Mark, AName, GetsStuck}
use Rattle.plant_grammar.proofs.UnexpectedWords.{mark_stuck, name_stuck}
use Rattle.plant_grammar.proofs.StuckBehind.{stuck_after_mark}
use Rattle.plant_grammar.specs.Grammar.{mark_word}
use Rattle.plant_grammar.specs.Steps.SoundWords.{BeginWords}
use Rattle.plant_grammar.proofs.grammar.reader.Reader.type_of_instance.Goals as type_of_instance_goals

pub returns-clause-names : type_of_instance_goals.returns-clause-names
returns-clause-names c = λ all h of.
    let programs = programs_of c.args.types.now in
    let fault = c.at.result in
    let now = c.punctuation.new.self in
    let line : fault.line ≡ c.line-line.result = ap (λ (f : GrammarFault). f.line) c.at.ensures in
    begin_after (mark_word Colon) (IsUnknown fault.kind (λ (p : Program). p.name) programs) c.args.self.now.words now.words c.in_ok-punctuation.ensures.ok
    (unknown_here fault.kind (ap (λ (f : GrammarFault). f.kind) c.at.ensures) now.words (line_before all now fault.line (c.in_ok-punctuation.ensures.left.0 all h) (line ∙ c.line-line.ensures)) (λ (p : Program). p.name) programs
    (c.in_ok-name.name, c.name.new.self.words, c.in_ok-name.ensures.ok, missed_type c.args.types.now c.in_ok-name.name (sym c.in-None.ensures)))

pub returns-in_err-punctuation-clause-stuck : type_of_instance_goals.returns-in_err-punctuation-clause-stuck
returns-in_err-punctuation-clause-stuck c =
    let fault = c.in_err-punctuation.field-0.0 in
    let start = c.args.self.now in
    kept_fault fault (GetsStuck (BeginWords (mark_word mark.Colon ∷ [])) (Mark mark.Colon ∷ AName ∷ []) start) c.from_residual.result c.from_residual.ensures.1
    (mark_stuck (BeginWords (mark_word mark.Colon ∷ [])) (mark_word mark.Colon ∷ [], refl) mark.Colon (AName ∷ []) start fault c.in_err-punctuation.ensures.err.0 c.in_err-punctuation.ensures.other)

pub returns-in_err-name-clause-stuck : type_of_instance_goals.returns-in_err-name-clause-stuck
returns-in_err-name-clause-stuck c =
    let fault = c.in_err-name.field-0.0 in
    let start = c.args.self.now in
    let one = c.punctuation.new.self in
    kept_fault fault (GetsStuck (BeginWords (mark_word mark.Colon ∷ [])) (Mark mark.Colon ∷ AName ∷ []) start) c.from_residual-in_err-name.result c.from_residual-in_err-name.ensures.1
    (stuck_after_mark (BeginWords (mark_word mark.Colon ∷ [])) mark.Colon (AName ∷ []) start one fault c.in_ok-punctuation.ensures.ok c.in_ok-punctuation.ensures.left
    (name_stuck (λ w. BeginWords (mark_word mark.Colon ∷ []) (mark_word mark.Colon ∷ w)) ([], refl) [] one fault c.in_err-name.ensures.err c.in_err-name.ensures.other))
