use Rattle.declared_names.specs.declared.declarations.Declaration.{Declaration}
use Rattle.std.proofs.Common.{◌≡◌, ◌≢◌, ◌++◌, [], ◌∷◌, List, All, refl, ◌∙◌, subst}
use Rattle.plant_grammar.specs.Lawful.{block_variables, IsBlockLawful, AreVariables}
use Rattle.plant_grammar.specs.Grammar.{block_words}
use Rattle.plant_grammar.proofs.WordLists.{words_more, declared_more, all_more}
use Rattle.plant_grammar.specs.Steps.NamesRead.{RefusesBlocks}
use Rattle.plant_grammar.specs.Steps.Declaring.{BeginRefused}
use Rattle.lists.proofs.Results.{kept_fault}
use Rattle.plant_grammar.proofs.RefusedPlaces.{block_refused}
use Rattle.plant_text.specs.declared.token.Token.{Token}
use Rattle.plant_grammar.specs.declared.grammar_fault.GrammarFaultKind.TheVariants.{Memory}
use Rattle.std.specs.List.{flat_map}
use Rattle.plant_grammar.specs.declared.grammar.tree.VarBlock.{VarBlock}
use Rattle.plant_grammar.specs.Steps.Lines.{IsNoneNext}
use Rattle.plant_grammar.specs.Steps.ReadParts.{section_start}
use Rattle.plant_grammar.proofs.LawfulPrograms.{block_allowed}
use Rattle.plant_grammar.specs.Steps.Expected.{MoreBlocks, GetsStuck, ASection, MoreLists}
use Rattle.plant_grammar.proofs.WalkedPrograms.{blocks_walked, stuck_in_block, lawful_blocks_formed}
use Rattle.plant_grammar.proofs.StuckBehind.{stuck_after}
use Rattle.plant_grammar.specs.NameFaults.{judged_block}
use Rattle.plant_grammar.specs.WellFormed.{IsBlockWellFormed}
use Rattle.plant_grammar.specs.Steps.SoundWords.{BeginsSound, judged_blocks, AreBlocksFormed}
use Rattle.plant_grammar.proofs.ExpectedWords.{stuck_told}
use Rattle.plant_grammar.proofs.LiftedWords.{lift_sound, block_in_blocks}
use Rattle.plant_grammar.proofs.grammar.reader.Reader.blocks.Goals as goal

pub sections-preserved : goal.sections-preserved
sections-preserved c = record {
  left = (λ all h. c.in_ok-block.ensures.left.0 all (c.sections.invariant.left.0 all h), c.in_ok-block.ensures.left.1 ∙ c.sections.invariant.left.1);
  words = words_more block_words c.sections.blocks.items c.push.new.self.items c.in_ok-block.block c.args.self.now.words c.sections.self.words c.block.new.self.words c.in_ok-push.ensures.items c.sections.invariant.words c.in_ok-block.ensures.ok;
  bodies = c.in_ok-block.ensures.bodies ∙ c.sections.invariant.bodies;
  declared = declared_more block_variables c.sections.blocks.items c.push.new.self.items c.in_ok-block.block c.args.variables.now c.sections.variables c.block.new.variables c.in_ok-push.ensures.items c.sections.invariant.declared c.in_ok-block.ensures.declared;
  lawful = all_more IsBlockLawful c.sections.blocks.items c.push.new.self.items c.in_ok-block.block c.in_ok-push.ensures.items c.sections.invariant.lawful c.in_ok-block.ensures.lawful;
}

pub returns-in_err-block-clause-names : goal.returns-in_err-block-clause-names
returns-in_err-block-clause-names c =
    let fault = c.in_err-block.field-0.0 in
    kept_fault fault (BeginRefused (λ k. RefusesBlocks k c.args.variables.now) c.args.self.now) c.from_residual.result c.from_residual.ensures.1
    (λ all h of. block_refused fault.kind c.args.variables.now c.sections.variables c.sections.blocks.items c.args.self.now.words c.sections.self.words c.sections.invariant.words c.sections.invariant.declared c.sections.invariant.lawful (c.in_err-block.ensures.names all (c.sections.invariant.left.0 all h) of))

pub returns-in_err-block-clause-other : goal.returns-in_err-block-clause-other
returns-in_err-block-clause-other c =
    let fault = c.in_err-block.field-0.0 in
    kept_fault fault (λ f. f.kind ≢ Memory → (bs : List VarBlock) (rest : List Token) → c.args.self.now.words ≡ flat_map block_words bs ++ rest → IsNoneNext section_start rest → All IsBlockLawful bs → AreVariables (c.args.variables.now ++ flat_map block_variables bs) → ⊥) c.from_residual.result c.from_residual.ensures.1
    (λ known bs rest e none lawful are. block_allowed c.args.variables.now c.sections.variables c.sections.blocks.items bs c.args.self.now.words c.sections.self.words rest c.sections.invariant.words c.sections.invariant.declared (c.sections-test.ensures.yes refl) e none lawful are
    (c.in_err-block.ensures.other known))

pub returns-in_err-block-clause-stuck : goal.returns-in_err-block-clause-stuck
returns-in_err-block-clause-stuck c =
    let fault = c.in_err-block.field-0.0 in
    let ds = c.args.variables.now in
    let bs = c.sections.blocks.items in
    let now = ds ++ flat_map block_variables bs in
    let are : AreVariables now = subst AreVariables c.sections.invariant.declared c.len-declared.ensures.lawful in
    let Known : List Token → Type 0 = BeginsSound (judged_blocks ds) AreBlocksFormed in
    let Told : List Token → Type 0 = BeginsSound (judged_block c.sections.variables) IsBlockWellFormed in
    kept_fault fault (GetsStuck Known (MoreBlocks ∷ []) c.args.self.now) c.from_residual.result c.from_residual.ensures.1
    (stuck_after Known (MoreBlocks ∷ []) (MoreBlocks ∷ []) (flat_map block_words c.sections.blocks.items) c.args.self.now c.sections.self fault c.sections.invariant.words c.sections.invariant.left
    (λ behind. blocks_walked c.sections.blocks.items behind (lawful_blocks_formed c.sections.blocks.items c.sections.invariant.lawful))
    (stuck_in_block (λ w. Known (flat_map block_words bs ++ w)) c.sections.self fault (c.sections-test.ensures.yes refl)
    (stuck_told (λ w. Known (flat_map block_words bs ++ w)) Told (ASection ∷ MoreLists ∷ []) c.sections.self fault
    (λ w b. lift_sound (flat_map block_words bs) w (judged_block now) IsBlockWellFormed (judged_blocks ds) AreBlocksFormed (λ fits. block_in_blocks ds bs c.sections.invariant.lawful are fits)
    (subst (λ (vs : List Declaration). BeginsSound (judged_block vs) IsBlockWellFormed w) c.sections.invariant.declared b)) c.in_err-block.ensures.stuck)))
