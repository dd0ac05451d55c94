use Rattle.plant_text.specs.declared.token.Punctuation.TheVariants.{Open, Semicolon}
use Rattle.plant_grammar.specs.Grammar.{mark_word, binds_words}
use Rattle.plant_grammar.specs.Steps.NamesRead.{IsAfter, RefusesBind}
use Rattle.plant_grammar.specs.Steps.Declaring.{BeginRefused}
use Rattle.lists.proofs.Results.{kept_fault}
use Rattle.plant_grammar.proofs.RefusedPlaces.{in_binds}
use Rattle.std.proofs.Common.{◌≡◌, ◌≢◌, ◌+◌, ◌≤◌, ◌++◌, ◌∷◌, List, Option, length, map, []}
use Rattle.std.specs.Prelude.{All}
use Rattle.plant_text.specs.declared.token.Token.{Token}
use Rattle.plant_grammar.specs.declared.grammar_fault.GrammarFaultKind.TheVariants.{Memory}
use Rattle.plant_grammar.specs.declared.grammar.tree.Bind.{Bind}
use Rattle.plant_grammar.specs.Kinds.{IsOfInputKind}
use Rattle.lists.specs.Items.{items_or_none}
use Rattle.plant_grammar.specs.Names.{AreNamesApart}
use Rattle.plant_grammar.specs.Lawful.{variables}
use Rattle.plant_grammar.proofs.LawfulResources.{listed_allowed, behind_binds}
use Rattle.plant_grammar.specs.Steps.Expected.{FirstBind, MayHaveBinds, GetsStuck}
use Rattle.plant_grammar.proofs.WalkedResources.{stuck_in_binds}
use Rattle.plant_text.specs.declared.token.Punctuation.TheVariants as mark
use Rattle.plant_grammar.specs.NameFaults.{judged_binds}
use Rattle.plant_grammar.specs.Steps.SoundWords.{Fits, BeginsSound, ListedFit, judged_in_parentheses}
use Rattle.plant_grammar.proofs.ExpectedWords.{stuck_told}
use Rattle.plant_grammar.proofs.SoundFronts.{listed_front}
use Rattle.plant_grammar.proofs.grammar.reader.Reader.some_binds.Goals as goal

pub returns-in_err-binds-clause-names : goal.returns-in_err-binds-clause-names
returns-in_err-binds-clause-names c =
    let fault = c.in_err-binds.field-0.0 in
    let ds = variables c.args.program.now.program in
    kept_fault fault (BeginRefused (λ k. IsAfter (mark_word Open) (RefusesBind k c.args.tally.now.binds ds)) c.args.self.now) c.from_residual-in_err-binds.result c.from_residual-in_err-binds.ensures.1
    (λ all h of. in_binds fault.kind c.args.tally.now.binds ds c.args.self.now.words c.punctuation.new.self.words c.in_ok-punctuation.ensures.ok (c.in_err-binds.ensures.names all (c.in_ok-punctuation.ensures.left.0 all h) of))

pub returns-in_err-binds-clause-other : goal.returns-in_err-binds-clause-other
returns-in_err-binds-clause-other c =
    let fault = c.in_err-binds.field-0.0 in
    kept_fault fault (λ f. f.kind ≢ Memory → (bs : Option (List Bind)) (rest : List Token) → c.args.self.now.words ≡ binds_words bs ++ mark_word Semicolon ∷ rest → AreNamesApart (map (λ (b : Bind). b.input) (items_or_none bs)) → All (IsOfInputKind (variables c.args.program.now.program)) (items_or_none bs) → c.args.tally.now.binds + length (items_or_none bs) ≤ 4096 → ⊥) c.from_residual-in_err-binds.result c.from_residual-in_err-binds.ensures.1
    (λ known bs rest e apart kinds few. listed_allowed (variables c.args.program.now.program) c.args.tally.now.binds bs c.args.self.now.words c.punctuation.new.self.words rest c.in_ok-punctuation.ensures.ok e apart kinds few (c.in_err-binds.ensures.other known))

pub returns-in_ok-binds-clause-only : goal.returns-in_ok-binds-clause-only
returns-in_ok-binds-clause-only c = λ bs rest e.
    behind_binds bs c.in_ok-binds.field-0.items c.args.self.now.words c.punctuation.new.self.words c.binds.new.self.words rest c.in_ok-punctuation.ensures.ok c.in_ok-binds.ensures.ok e

pub returns-in_err-binds-clause-stuck : goal.returns-in_err-binds-clause-stuck
returns-in_err-binds-clause-stuck c =
    let fault = c.in_err-binds.field-0.0 in
    let ds = variables c.args.program.now.program in
    let n = c.args.tally.now.binds in
    let Known : List Token → Type 0 = BeginsSound (judged_binds ds n) ListedFit in
    kept_fault fault (GetsStuck Known (MayHaveBinds ∷ []) c.args.self.now) c.from_residual-in_err-binds.result c.from_residual-in_err-binds.ensures.1
    (stuck_in_binds Known c.args.self.now c.punctuation.new.self fault c.in_ok-punctuation.ensures.ok c.in_ok-punctuation.ensures.left
    (stuck_told (λ w. Known (mark_word mark.Open ∷ w)) (BeginsSound (judged_in_parentheses ds n) Fits) (FirstBind ∷ []) c.punctuation.new.self fault (λ w b. listed_front ds n w b) c.in_err-binds.ensures.stuck))
