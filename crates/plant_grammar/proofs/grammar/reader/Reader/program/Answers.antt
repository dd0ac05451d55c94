use Rattle.plant_text.specs.declared.token.Token.TheVariants as token
use Rattle.std.proofs.Common.{◌≡◌, ◌≢◌, ◌<◌, ◌++◌, [], ◌∷◌, List, length, subst, sym, arith, ap, ◌∙◌, ℕ}
use Rattle.std.proofs.lemmas.List.{length-map}
use Rattle.plant_grammar.specs.Grammar.{TextValue}
use Rattle.plant_grammar.specs.declared.grammar.tree.Program.{Program}
use Rattle.plant_grammar.specs.Steps.Reading.{programs_of}
use Rattle.plant_grammar.specs.Steps.NamesRead.{RefusesProgram, IsNew}
use Rattle.plant_grammar.specs.Steps.Declaring.{BeginRefused}
use Rattle.lists.proofs.Results.{kept_fault}
use Rattle.plant_grammar.proofs.RefusedPlaces.{in_program}
use Rattle.plant_text.specs.declared.token.Token.{Token}
use Rattle.plant_grammar.specs.declared.grammar_fault.GrammarFaultKind.TheVariants.{Memory}
use Rattle.plant_grammar.specs.Grammar.{block_words, program_words}
use Rattle.plant_grammar.specs.Lawful.{IsProgramLawful}
use Rattle.plant_grammar.proofs.LawfulPrograms.{blocks_allowed, end_allowed}
use Rattle.std.specs.List.{flat_map}
use Rattle.plant_text.specs.declared.token.Keyword.TheVariants as key
use Rattle.plant_grammar.specs.Steps.Expected.{Expected, Key, ABody, MoreBlocks, program_rest, GetsStuck, AName}
use Rattle.plant_grammar.proofs.WalkedPrograms.{stuck_after_start, blocks_walked, stuck_behind_blocks, lawful_blocks_formed}
use Rattle.plant_grammar.proofs.StuckBehind.{stuck_after}
use Rattle.plant_grammar.specs.NameFaults.{judged_program}
use Rattle.plant_grammar.specs.WellFormed.{IsProgramWellFormed}
use Rattle.plant_grammar.specs.Grammar.{key_word}
use Rattle.plant_grammar.specs.Lawful.{block_variables, AreVariables}
use Rattle.declared_names.specs.declared.declarations.Declaration.{Declaration}
use Rattle.plant_grammar.specs.Steps.SoundWords.{BeginsSound, BeginsWords, end_words, judged_blocks, AreBlocksFormed}
use Rattle.plant_grammar.proofs.ExpectedWords.{stuck_told}
use Rattle.plant_grammar.proofs.WalkedResources.{stuck_more}
use Rattle.plant_grammar.proofs.SoundParts.{not_among}
use Rattle.plant_grammar.proofs.LiftedWords.{lift_sound, blocks_in_program}
use Rattle.plant_grammar.proofs.SoundFronts.{program_end_front}
use Rattle.plant_grammar.proofs.grammar.reader.Reader.program.Goals as goal

pub returns-clause-new : goal.returns-clause-new
returns-clause-new c = subst (λ (t : TextValue). IsNew (λ (x : Program). x.name) (programs_of c.args.before.now) t.program.name) (sym c.new.ensures) c.in_ok-name.ensures.new

pub returns-in_err-blocks-clause-names : goal.returns-in_err-blocks-clause-names
returns-in_err-blocks-clause-names c =
    let fault = c.in_err-blocks.field-0.0 in
    let before = programs_of c.args.before.now in
    kept_fault fault (BeginRefused (λ k. RefusesProgram k before) c.args.self.now) c.from_residual-in_err-blocks.result c.from_residual-in_err-blocks.ensures.1
    (λ all h of. in_program fault.kind before c.in_ok-name.name c.new-variables.result c.args.self.now.words c.program_start.new.self.words c.in_ok-name.ensures.ok c.new-variables.ensures (c.in_ok-name.ensures.new, omega (arith, c.in_ok-name.ensures.few, length-map c.args.before.now (λ (t : TextValue). t.program))) (c.in_err-blocks.ensures.names all (c.in_ok-name.ensures.left.0 all h) of))

pub returns-in_err-blocks-clause-other : goal.returns-in_err-blocks-clause-other
returns-in_err-blocks-clause-other c =
    let fault = c.in_err-blocks.field-0.0 in
    kept_fault fault (λ f. f.kind ≢ Memory → (p : Program) (rest : List Token) → c.args.self.now.words ≡ program_words p ++ rest → IsNew (λ (x : Program). x.name) (programs_of c.args.before.now) p.name → length c.args.before.now < 64 → IsProgramLawful p → ⊥) c.from_residual-in_err-blocks.result c.from_residual-in_err-blocks.ensures.1
    (λ known p rest e new few lawful. blocks_allowed p c.in_ok-name.name c.new-variables.result c.args.self.now.words c.program_start.new.self.words rest c.in_ok-name.ensures.ok c.new-variables.ensures e lawful (c.in_err-blocks.ensures.other known))

pub returns-in_err-body-clause-other : goal.returns-in_err-body-clause-other
returns-in_err-body-clause-other c =
    let fault = c.in_err-body.field-0.0 in
    kept_fault fault (λ f. f.kind ≢ Memory → (p : Program) (rest : List Token) → c.args.self.now.words ≡ program_words p ++ rest → IsNew (λ (x : Program). x.name) (programs_of c.args.before.now) p.name → length c.args.before.now < 64 → IsProgramLawful p → ⊥) c.from_residual-in_err-body.result c.from_residual-in_err-body.ensures.1
    (λ known p rest e new few lawful. end_allowed p c.in_ok-name.name c.in_ok-blocks.blocks.items c.args.self.now.words c.program_start.new.self.words c.blocks-2.new.self.words rest c.in_ok-name.ensures.ok c.in_ok-blocks.ensures.ok c.in_ok-blocks.ensures.none e
    (c.in_err-body.ensures.other known))

pub returns-in_err-name-clause-stuck : goal.returns-in_err-name-clause-stuck
returns-in_err-name-clause-stuck c =
    let fault = c.in_err-name.field-0.0 in
    let before = programs_of c.args.before.now in
    let Known : List Token → Type 0 = BeginsSound (judged_program before) IsProgramWellFormed in
    kept_fault fault (GetsStuck Known (Key key.Program ∷ program_rest) c.args.self.now) c.from_residual.result c.from_residual.ensures.1
    (stuck_more Known (Key key.Program ∷ AName ∷ []) (MoreBlocks ∷ ABody ∷ Key key.EndProgram ∷ []) c.args.self.now fault c.in_err-name.ensures.stuck)

pub returns-in_err-blocks-clause-stuck : goal.returns-in_err-blocks-clause-stuck
returns-in_err-blocks-clause-stuck c =
    let fault = c.in_err-blocks.field-0.0 in
    let before = programs_of c.args.before.now in
    let Known : List Token → Type 0 = BeginsSound (judged_program before) IsProgramWellFormed in
    kept_fault fault (GetsStuck Known (Key key.Program ∷ program_rest) c.args.self.now) c.from_residual-in_err-blocks.result c.from_residual-in_err-blocks.ensures.1
    (stuck_after_start Known c.in_ok-name.name (MoreBlocks ∷ ABody ∷ Key key.EndProgram ∷ []) c.args.self.now c.program_start.new.self fault c.in_ok-name.ensures.ok c.in_ok-name.ensures.left
    (stuck_told (λ w. Known (key_word key.Program ∷ token.Name c.in_ok-name.name ∷ w)) (BeginsSound (judged_blocks c.new-variables.result) AreBlocksFormed) (MoreBlocks ∷ ABody ∷ Key key.EndProgram ∷ []) c.program_start.new.self fault
    (λ w b. lift_sound (key_word key.Program ∷ token.Name c.in_ok-name.name ∷ []) w (judged_blocks []) AreBlocksFormed (judged_program before) IsProgramWellFormed
    (λ fits. blocks_in_program before c.in_ok-name.name (not_among (λ (q : Program). q.name) before c.in_ok-name.name c.in_ok-name.ensures.new) (omega (arith, c.in_ok-name.ensures.few, length-map c.args.before.now (λ (t : TextValue). t.program))))
    (subst (λ (vs : List Declaration). BeginsSound (judged_blocks vs) AreBlocksFormed w) c.new-variables.ensures b))
    (stuck_more (BeginsSound (judged_blocks c.new-variables.result) AreBlocksFormed) (MoreBlocks ∷ []) (ABody ∷ Key key.EndProgram ∷ []) c.program_start.new.self fault c.in_err-blocks.ensures.stuck)))

pub returns-in_err-body-clause-stuck : goal.returns-in_err-body-clause-stuck
returns-in_err-body-clause-stuck c =
    let fault = c.in_err-body.field-0.0 in
    let end : List Expected = ABody ∷ Key key.EndProgram ∷ [] in
    let blocks = c.in_ok-blocks.blocks.items in
    let before = programs_of c.args.before.now in
    let Known : List Token → Type 0 = BeginsSound (judged_program before) IsProgramWellFormed in
    kept_fault fault (GetsStuck Known (Key key.Program ∷ program_rest) c.args.self.now) c.from_residual-in_err-body.result c.from_residual-in_err-body.ensures.1
    (stuck_after_start Known c.in_ok-name.name (MoreBlocks ∷ end) c.args.self.now c.program_start.new.self fault c.in_ok-name.ensures.ok c.in_ok-name.ensures.left
    (stuck_after (λ w. Known (key_word key.Program ∷ token.Name c.in_ok-name.name ∷ w)) (MoreBlocks ∷ end) (MoreBlocks ∷ end) (flat_map block_words blocks) c.program_start.new.self c.blocks-2.new.self fault c.in_ok-blocks.ensures.ok c.in_ok-blocks.ensures.left
    (λ behind. blocks_walked blocks (end ++ behind) (lawful_blocks_formed blocks c.in_ok-blocks.ensures.lawful))
    (stuck_behind_blocks (λ w. Known (key_word key.Program ∷ token.Name c.in_ok-name.name ∷ (flat_map block_words blocks ++ w))) end c.blocks-2.new.self fault c.in_ok-blocks.ensures.none
    (stuck_told (λ w. Known (key_word key.Program ∷ token.Name c.in_ok-name.name ∷ (flat_map block_words blocks ++ w))) (BeginsWords end_words (λ (b : List ℕ). Unit {0})) end c.blocks-2.new.self fault
    (λ w b. program_end_front before c.in_ok-name.name c.in_ok-blocks.blocks w c.in_ok-name.ensures.new (omega (arith, c.in_ok-name.ensures.few, length-map c.args.before.now (λ (t : TextValue). t.program))) c.in_ok-blocks.ensures.lawful
    (subst AreVariables (c.in_ok-blocks.ensures.declared ∙ ap (λ (vs : List Declaration). vs ++ flat_map block_variables blocks) c.new-variables.ensures) c.len-declared.ensures.lawful) b.0 b.2) c.in_err-body.ensures.stuck))))
