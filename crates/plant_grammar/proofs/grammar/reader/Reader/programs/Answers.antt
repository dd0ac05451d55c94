use Rattle.std.proofs.Common.{rules, ◌≡◌, ◌≢◌, refl, ◌++◌, ◌∷◌, [], ◌∙◌, ◌<◌, ℕ, List, append_assoc, length, ap, sym, subst, arith}
use Rattle.std.proofs.lemmas.List.{length-map}
use Rattle.std.specs.List.{flat_map}
use Rattle.plant_grammar.specs.Lawful.{AreProgramsDeclared}
use Rattle.plant_grammar.specs.Grammar.{TextValue, key_word, program_words}
use Rattle.plant_text.specs.declared.token.Token.{Token}
use Rattle.plant_grammar.specs.declared.grammar.tree.Program.{Program}
use Rattle.plant_grammar.specs.Steps.Reading.{programs_of, lines_of, all_words, AreAllPrograms}
use Rattle.plant_grammar.proofs.FoundTypes.{programs_more, map-grown}
use Rattle.plant_grammar.proofs.WordLists.{words_more}
use Rattle.plant_grammar.specs.Steps.NamesRead.{RefusesProgram, IsNew}
use Rattle.plant_grammar.specs.Steps.Declaring.{BeginWith, BeginRefusedBehind, IsLineBefore, RefusesFurtherProgram}
use Rattle.lists.proofs.Results.{kept_fault}
use Rattle.plant_grammar.proofs.RefusedPlaces.{program_refused}
use Rattle.plant_grammar.proofs.RefusedNames.{memory_result, memory_excused}
use Rattle.plant_grammar.specs.declared.grammar_fault.GrammarFaultKind.TheVariants.{Memory, Syntax}
use Rattle.plant_text.specs.declared.token.Keyword.TheVariants as key
use Rattle.plant_grammar.specs.declared.grammar_fault.GrammarFault.{GrammarFault}
use Rattle.plant_grammar.specs.Steps.Lines.{IsNotNext}
use Rattle.plant_grammar.proofs.LawfulPrograms.{program_allowed}
use Rattle.std.proofs.lemmas.List.Elements.{All-push}
use Rattle.plant_grammar.specs.Steps.Expected.{Key, MorePrograms, program_rest, GetsStuck}
use Rattle.plant_grammar.proofs.WalkedPrograms.{programs_walked, stuck_in_program, lawful_program_formed}
use Rattle.plant_grammar.specs.WellFormed.{IsProgramWellFormed, IsTreeWellFormed}
use Rattle.plant_grammar.proofs.StuckBehind.{stuck_after}
use Rattle.plant_grammar.proofs.MisplacedWords.{stuck_no_program}
use Rattle.plant_grammar.proofs.OneTree.{all_programs}
use Rattle.plant_grammar.specs.NameFaults.{judged_program, judged_of}
use Rattle.plant_grammar.specs.Steps.SoundWords.{BeginsSound}
use Rattle.plant_grammar.proofs.ExpectedWords.{stuck_told}
use Rattle.plant_grammar.proofs.SoundFronts.{program_read_sound}
use Rattle.plant_grammar.proofs.grammar.reader.Reader.programs.Goals as goal

pub programs-preserved : goal.programs-preserved
programs-preserved c =
    let before = programs_of c.programs.texts.items in
    let after = programs_of c.push.new.self.items in
    let program = c.in_ok-text.text.program in
    let longer : after ≡ before ++ program ∷ [] = map-grown (λ (t : TextValue). t.program) c.programs.texts.items c.push.new.self.items c.in_ok-text.text c.in_ok-push.ensures.items in
    let few : length c.programs.texts.items < 64 = subst (λ ts. length ts < 64) c.as_slice.ensures.value c.in_ok-text.ensures.few in
    record {
      left = (λ all h. c.in_ok-text.ensures.left.0 all (c.programs.invariant.left.0 all h), c.in_ok-text.ensures.left.1 ∙ c.programs.invariant.left.1);
      words = words_more program_words before after program (flat_map program_words (programs_of c.args.texts.now.items) ++ c.args.self.now.words) c.programs.self.words c.program.new.self.words longer c.programs.invariant.words c.in_ok-text.ensures.ok;
      lines = c.programs.invariant.lines ∙ ap (λ (x : List ℕ). lines_of c.programs.texts.items ++ x) c.in_ok-text.ensures.bodies ∙ sym (append_assoc (lines_of c.programs.texts.items) (c.in_ok-text.text.first_line ∷ []) c.program.new.self.bodies)
          ∙ ap (λ (x : List ℕ). x ++ c.program.new.self.bodies) (sym (map-grown (λ (t : TextValue). t.first_line) c.programs.texts.items c.push.new.self.items c.in_ok-text.text c.in_ok-push.ensures.items));
      declared = programs_more before after program longer c.programs.invariant.declared
          (subst (λ ts. IsNew (λ (p : Program). p.name) (programs_of ts) program.name) c.as_slice.ensures.value c.in_ok-text.ensures.new)
          (omega (arith, few, length-map c.programs.texts.items (λ (t : TextValue). t.program))) c.in_ok-text.ensures.declared;
      read = (
        c.programs.invariant.read.0 ++ program ∷ [],
        words_more program_words c.programs.invariant.read.0 (c.programs.invariant.read.0 ++ program ∷ []) program c.args.self.now.words c.programs.self.words c.program.new.self.words refl c.programs.invariant.read.1 c.in_ok-text.ensures.ok,
        All-push IsProgramWellFormed c.programs.invariant.read.0 program c.programs.invariant.read.2 (lawful_program_formed program c.in_ok-text.ensures.declared),
      );
    }

pub returns-in_err-push-clause-err : goal.returns-in_err-push-clause-err
returns-in_err-push-clause-err c =
    let kept : c.push.new.self.items ≡ c.programs.texts.items = search rules in
    let words = c.programs.invariant.words ∙ ap (λ ts. flat_map program_words (programs_of ts) ++ c.programs.self.words) (sym kept) in
    let known : (x : List Token) × (flat_map program_words (programs_of c.args.texts.now.items) ++ c.args.self.now.words ≡ flat_map program_words (programs_of c.push.new.self.items) ++ x) = (c.programs.self.words, words) in
    search rules

pub returns-in_err-push-clause-err_lines : goal.returns-in_err-push-clause-err_lines
returns-in_err-push-clause-err_lines c =
    let kept : c.push.new.self.items ≡ c.programs.texts.items = search rules in
    let lines = c.programs.invariant.lines ∙ ap (λ ts. lines_of ts ++ c.programs.self.bodies) (sym kept) in
    let known : (x : List ℕ) × (lines_of c.args.texts.now.items ++ c.args.self.now.bodies ≡ lines_of c.push.new.self.items ++ x) = (c.programs.self.bodies, lines) in
    search rules

pub returns-in_err-text-clause-names : goal.returns-in_err-text-clause-names
returns-in_err-text-clause-names c =
    let fault = c.in_err-text.field-0.0 in
    kept_fault fault (BeginRefusedBehind (RefusesFurtherProgram (programs_of c.programs.texts.items)) c.args.self.now (all_words c.args.texts.now.items c.args.self.now.words)) c.from_residual.result c.from_residual.ensures.1
    (λ all h of. program_refused fault.kind (programs_of c.programs.texts.items) (flat_map program_words (programs_of c.args.texts.now.items) ++ c.args.self.now.words) c.programs.self.words c.programs.invariant.words
    (subst (λ (ts : List TextValue). BeginWith (IsLineBefore all fault.line) (RefusesProgram fault.kind (programs_of ts)) c.programs.self.words) c.as_slice.ensures.value (c.in_err-text.ensures.names all (c.programs.invariant.left.0 all h) of)))

pub returns-in_err-push-clause-names : goal.returns-in_err-push-clause-names
returns-in_err-push-clause-names c = memory_result (RefusesFurtherProgram (programs_of c.push.new.self.items)) c.args.self.now (all_words c.args.texts.now.items c.args.self.now.words) c.from_residual-in_err-push.result c.from_residual-in_err-push.ensures.1

pub returns-in_err-text-clause-other : goal.returns-in_err-text-clause-other
returns-in_err-text-clause-other c =
    let fault = c.in_err-text.field-0.0 in
    let start = all_words c.args.texts.now.items c.args.self.now.words in
    let before = c.programs.texts.items in
    kept_fault fault (λ f. f.kind ≢ Memory → (ps : List Program) (rest : List Token) → all_words c.args.texts.now.items c.args.self.now.words ≡ flat_map program_words ps ++ rest → IsNotNext (key_word key.Program) rest → AreProgramsDeclared ps → ⊥) c.from_residual.result c.from_residual.ensures.1
    (λ known ps rest e none declared.
    let next = c.programs-test.ensures.yes refl in
    program_allowed (programs_of before) ps start c.programs.self.words rest c.programs.invariant.words next.0 next.1 e none declared
    (λ p more h new few lawful. c.in_err-text.ensures.other known p more h (subst (λ (ts : List TextValue). IsNew (λ (x : Program). x.name) (programs_of ts) p.name) (sym c.as_slice.ensures.value) new)
    (subst (λ (ts : List TextValue). length ts < 64) (sym c.as_slice.ensures.value) (omega (arith, few, length-map before (λ (t : TextValue). t.program)))) lawful))

pub returns-in_err-push-clause-other : goal.returns-in_err-push-clause-other
returns-in_err-push-clause-other c =
    memory_excused (λ (f : GrammarFault). (ps : List Program) (rest : List Token) → all_words c.args.texts.now.items c.args.self.now.words ≡ flat_map program_words ps ++ rest → IsNotNext (key_word key.Program) rest → AreProgramsDeclared ps → ⊥) c.from_residual-in_err-push.result c.from_residual-in_err-push.ensures.1

pub returns-in_err-text-clause-stuck : goal.returns-in_err-text-clause-stuck
returns-in_err-text-clause-stuck c =
    let fault = c.in_err-text.field-0.0 in
    let read = c.programs.invariant.read in
    let old = programs_of c.args.texts.now.items in
    let ps = programs_of c.programs.texts.items in
    let Known : List Token → Type 0 = λ words. BeginsSound judged_of IsTreeWellFormed (all_words c.args.texts.now.items words) in
    kept_fault fault (GetsStuck Known (MorePrograms ∷ []) c.args.self.now) c.from_residual.result c.from_residual.ensures.1
    (stuck_after Known (MorePrograms ∷ []) (MorePrograms ∷ []) (flat_map program_words read.0) c.args.self.now c.programs.self fault read.1 c.programs.invariant.left
    (λ behind. programs_walked read.0 behind read.2)
    (stuck_in_program (λ w. Known (flat_map program_words read.0 ++ w)) c.programs.self fault (c.programs-test.ensures.yes refl)
    (stuck_told (λ w. Known (flat_map program_words read.0 ++ w)) (BeginsSound (judged_program (programs_of c.as_slice.result.now)) IsProgramWellFormed) (Key key.Program ∷ program_rest) c.programs.self fault
    (λ w b. program_read_sound old read.0 ps w c.args.self.now.words c.programs.self.words read.1 c.programs.invariant.words c.programs.invariant.declared
    (subst (λ (ts : List TextValue). BeginsSound (judged_program (programs_of ts)) IsProgramWellFormed w) c.as_slice.ensures.value b)) c.in_err-text.ensures.stuck)))

pub returns-in_err-text-clause-whole : goal.returns-in_err-text-clause-whole
returns-in_err-text-clause-whole c =
    let fault = c.in_err-text.field-0.0 in
    let start = all_words c.args.texts.now.items c.args.self.now.words in
    let programs = programs_of c.programs.texts.items in
    kept_fault fault (λ f. f.kind ≡ Syntax → AreAllPrograms start programs) c.from_residual.result c.from_residual.ensures.1
    (λ syntax. all_programs programs start c.programs.self.words c.programs.invariant.words (λ p q formed. stuck_no_program (BeginsSound (judged_program (programs_of c.as_slice.result.now)) IsProgramWellFormed) c.programs.self fault c.in_err-text.ensures.stuck syntax p q formed))
