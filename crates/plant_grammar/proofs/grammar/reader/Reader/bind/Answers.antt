use Rattle.std.proofs.Common.{◌≡◌, ◌≢◌, ◌<◌, ◌++◌, List, ◌∷◌, [], Some, subst, sym}
use Rattle.lists.proofs.Results.{kept_fault}
use Rattle.plant_text.specs.declared.token.Token.{Token}
use Rattle.plant_grammar.specs.declared.grammar_fault.GrammarFaultKind.TheVariants.{Memory}
use Rattle.plant_grammar.specs.declared.grammar.tree.Bind.{Bind}
use Rattle.plant_grammar.specs.Grammar.{bind_words, mark_word}
use Rattle.plant_grammar.specs.Kinds.{IsOfInputKind}
use Rattle.plant_grammar.specs.Lawful.{variables}
use Rattle.plant_grammar.proofs.NewNames.{bind_name}
use Rattle.plant_grammar.specs.Steps.NamesRead.{RefusesOneBind, IsNew}
use Rattle.plant_grammar.specs.Steps.Declaring.{BeginRefused}
use Rattle.plant_grammar.proofs.ReadLines.{line_before}
use Rattle.plant_grammar.proofs.RefusedPlaces.{input_refused, address_refused}
use Rattle.plant_grammar.proofs.PlacedSources.{source_stands}
use Rattle.plant_text.specs.declared.token.Punctuation.TheVariants as mark
use Rattle.plant_grammar.specs.Steps.Expected.{Mark, AName, ASource, bind_rest, GetsStuck}
use Rattle.plant_grammar.proofs.UnexpectedWords.{mark_stuck}
use Rattle.plant_grammar.proofs.WalkedResources.{stuck_more}
use Rattle.plant_grammar.proofs.StuckBehind.{stuck_after_mark, stuck_after_name}
use Rattle.plant_text.specs.declared.token.Token.TheVariants as token
use Rattle.plant_grammar.specs.declared.grammar.tree.SourceName.{SourceName}
use Rattle.plant_grammar.specs.NameFaults.{judged_bind}
use Rattle.plant_grammar.specs.JudgedWords.{judged_source}
use Rattle.plant_grammar.specs.Steps.SoundWords.{BeginsSound, IsNothing}
use Rattle.plant_grammar.proofs.ExpectedWords.{stuck_told}
use Rattle.plant_grammar.proofs.WalkedResources.{stuck_more}
use Rattle.plant_grammar.proofs.SoundFronts.{no_bind_words, input_of_bind, source_of_bind}
use Rattle.plant_grammar.proofs.grammar.reader.Reader.bind.Goals as bind_goals

pub returns-in_err-input-clause-other : bind_goals.returns-in_err-input-clause-other
returns-in_err-input-clause-other c =
    let fault = c.in_err-input.field-0.0 in
    kept_fault fault (λ f. f.kind ≢ Memory → (b : Bind) (rest : List Token) → c.args.self.now.words ≡ bind_words b ++ rest → IsOfInputKind (variables c.args.program.now.program) b → IsNew (λ (b : Bind). b.input) c.args.before.now b.input → c.args.tally.now.binds < 4096 → ⊥) c.from_residual.result c.from_residual.ensures.1
    (λ known b rest e is new few. c.in_err-input.ensures.other known b.input is.0 _ (bind_name b c.args.self.now.words rest e) is.1 new few)

pub returns-in_err-input-clause-names : bind_goals.returns-in_err-input-clause-names
returns-in_err-input-clause-names c =
    let fault = c.in_err-input.field-0.0 in
    let ds = variables c.args.program.now.program in
    kept_fault fault (BeginRefused (λ k. RefusesOneBind c.args.tally.now.binds ds c.args.before.now k) c.args.self.now) c.from_residual.result c.from_residual.ensures.1
    (λ all h of. input_refused fault.kind c.args.tally.now.binds ds c.args.before.now c.args.self.now.words (line_before all c.args.self.now fault.line h (c.in_err-input.ensures.line of)) c.in_err-input.ensures.tells of)

pub returns-in_err-source-clause-names : bind_goals.returns-in_err-source-clause-names
returns-in_err-source-clause-names c =
    let fault = c.in_err-source.field-0.0 in
    let ds = variables c.args.program.now.program in
    kept_fault fault (BeginRefused (λ k. RefusesOneBind c.args.tally.now.binds ds c.args.before.now k) c.args.self.now) c.from_residual-in_err-source.result c.from_residual-in_err-source.ensures.1
    (λ all h of. address_refused fault.kind c.args.tally.now.binds ds c.args.before.now c.in_ok-input.input c.in_ok-input.kind c.args.self.now.words c.bound_input.new.self.words c.punctuation.new.self.words (line_before all c.punctuation.new.self fault.line (c.in_ok-punctuation.ensures.left.0 all (c.in_ok-input.ensures.left.0 all h)) (c.in_err-source.ensures.line of)) c.in_ok-input.ensures.ok c.in_ok-punctuation.ensures.ok c.in_ok-input.ensures.kind c.in_ok-input.ensures.new c.in_ok-input.ensures.few
    c.in_err-source.ensures.tells of)

pub returns-clause-lined : bind_goals.returns-clause-lined
returns-clause-lined c = (
  c.source_lines-parts.result,
  c.in_ok-push.ensures.items,
  λ all h. source_stands all c.punctuation.new.self _ c.source.new.self.words c.source_lines-parts.result (c.in_ok-punctuation.ensures.left.0 all (c.in_ok-input.ensures.left.0 all h)) c.in_ok-source.ensures.ok c.source_lines-parts.ensures,
)

pub returns-in_err-input-clause-stuck : bind_goals.returns-in_err-input-clause-stuck
returns-in_err-input-clause-stuck c =
    let fault = c.in_err-input.field-0.0 in
    let start = c.args.self.now in
    let ds = variables c.args.program.now.program in
    let n = c.args.tally.now.binds in
    let before = c.args.before.now in
    let Known : List Token → Type 0 = BeginsSound (judged_bind ds n before) (λ (b : Bind). Unit {0}) in
    kept_fault fault (GetsStuck Known (AName ∷ bind_rest) start) c.from_residual.result c.from_residual.ensures.1
    (stuck_told Known IsNothing (AName ∷ bind_rest) start fault (λ w none. subst Known (sym none) (no_bind_words ds n before))
    (stuck_more IsNothing (AName ∷ []) (Mark mark.Assign ∷ ASource ∷ []) start fault c.in_err-input.ensures.stuck))

pub returns-in_err-punctuation-clause-stuck : bind_goals.returns-in_err-punctuation-clause-stuck
returns-in_err-punctuation-clause-stuck c =
    let fault = c.in_err-punctuation.field-0.0 in
    let start = c.args.self.now in
    let one = c.bound_input.new.self in
    let ds = variables c.args.program.now.program in
    let n = c.args.tally.now.binds in
    let before = c.args.before.now in
    let Known : List Token → Type 0 = BeginsSound (judged_bind ds n before) (λ (b : Bind). Unit {0}) in
    kept_fault fault (GetsStuck Known (AName ∷ bind_rest) start) c.from_residual-in_err-punctuation.result c.from_residual-in_err-punctuation.ensures.1
    (stuck_after_name Known c.in_ok-input.input (Mark mark.Assign ∷ ASource ∷ []) start one fault c.in_ok-input.ensures.ok c.in_ok-input.ensures.left
    (mark_stuck (λ w. Known (token.Name c.in_ok-input.input ∷ w)) (input_of_bind ds n before c.in_ok-input.input c.in_ok-input.kind c.in_ok-input.ensures.kind c.in_ok-input.ensures.new c.in_ok-input.ensures.few) mark.Assign (ASource ∷ []) one fault c.in_err-punctuation.ensures.err.0 c.in_err-punctuation.ensures.other))

pub returns-in_err-source-clause-stuck : bind_goals.returns-in_err-source-clause-stuck
returns-in_err-source-clause-stuck c =
    let fault = c.in_err-source.field-0.0 in
    let start = c.args.self.now in
    let one = c.bound_input.new.self in
    let two = c.punctuation.new.self in
    let ds = variables c.args.program.now.program in
    let n = c.args.tally.now.binds in
    let before = c.args.before.now in
    let Known : List Token → Type 0 = BeginsSound (judged_bind ds n before) (λ (b : Bind). Unit {0}) in
    kept_fault fault (GetsStuck Known (AName ∷ bind_rest) start) c.from_residual-in_err-source.result c.from_residual-in_err-source.ensures.1
    (stuck_after_name Known c.in_ok-input.input (Mark mark.Assign ∷ ASource ∷ []) start one fault c.in_ok-input.ensures.ok c.in_ok-input.ensures.left
    (stuck_after_mark (λ w. Known (token.Name c.in_ok-input.input ∷ w)) mark.Assign (ASource ∷ []) one two fault c.in_ok-punctuation.ensures.ok c.in_ok-punctuation.ensures.left
    (stuck_told (λ w. Known (token.Name c.in_ok-input.input ∷ mark_word mark.Assign ∷ w)) (BeginsSound (judged_source (Some c.in_ok-input.kind)) (λ (s : SourceName). Unit {0})) (ASource ∷ []) two fault
    (λ w b. source_of_bind ds n before c.in_ok-input.input c.in_ok-input.kind w c.in_ok-input.ensures.kind c.in_ok-input.ensures.new c.in_ok-input.ensures.few b) c.in_err-source.ensures.stuck)))
