use Rattle.std.proofs.Common.{rules, sym, subst, ◌+◌, ◌≡◌, ◌≢◌, refl, ◌∙◌, ◌++◌, [], ◌∷◌, ◌<◌, ℕ, List, length, arith}
use Rattle.plant_text.specs.declared.token.Token.{Token}
use Rattle.plant_text.specs.declared.token.Punctuation.TheVariants.{Colon, Comma}
use Rattle.plant_grammar.specs.declared.grammar_fault.GrammarFaultKind.TheVariants.{Memory}
use Rattle.plant_grammar.specs.Grammar.{mark_word, name_words}
use Rattle.plant_grammar.specs.Lawful.{MayBeDeclared}
use Rattle.plant_grammar.proofs.AddedNames.{one_more_declared, first_declared}
use Rattle.plant_grammar.proofs.NewNames.{first_refused, next_refused, all_names}
use Rattle.plant_grammar.proofs.WordLists.{names_more, grown}
use Rattle.plant_grammar.specs.Steps.NamesRead.{RefusesVariable, IsNew}
use Rattle.plant_grammar.specs.Steps.Declaring.{BeginRefused}
use Rattle.lists.proofs.Results.{kept_fault}
use Rattle.plant_grammar.proofs.ReadLines.{line_before}
use Rattle.plant_grammar.proofs.RefusedPlaces.{first_variable, next_variable}
use Rattle.plant_grammar.specs.Steps.Expected.{AName, MoreNames, GetsStuck}
use Rattle.plant_grammar.proofs.WalkedPrograms.{names_walked, comma_walked}
use Rattle.plant_grammar.proofs.StuckBehind.{stuck_after}
use Rattle.plant_grammar.specs.Steps.SoundWords.{BeginsSound, IsNothing, judged_names, AreNamesFormed}
use Rattle.plant_grammar.proofs.ExpectedWords.{stuck_told}
use Rattle.plant_grammar.proofs.WalkedResources.{stuck_more}
use Rattle.plant_grammar.proofs.SoundFronts.{first_name_sound, next_name_sound}
use Rattle.plant_grammar.proofs.grammar.reader.Reader.names.Goals as goal

pub names-init : goal.names-init
names-init c = record {
  left = c.in_ok-variable.ensures.left;
  some = search rules;
  may = subst (λ ns. MayBeDeclared c.args.variables.now ns) (sym c.in_ok-push.ensures.items)
      (first_declared c.args.variables.now c.new-names.result.items c.in_ok-variable.field-0 c.in_ok-variable.ensures.lawful c.new-names.ensures.items c.in_ok-variable.ensures.new.0
      (subst (λ ns. length c.args.variables.now + length ns < 1000) c.deref.ensures.value c.in_ok-variable.ensures.new.2));
  bodies = c.in_ok-variable.ensures.bodies;
  words = search rules;
}

pub names-preserved : goal.names-preserved
names-preserved c = record {
  may = subst (λ ns. MayBeDeclared c.args.variables.now ns) (sym c.in_ok-push-2.ensures.items)
      (one_more_declared c.args.variables.now c.names.names.items c.in_ok-variable-2.field-0 c.names.invariant.may c.in_ok-variable-2.ensures.new.0
      (subst (λ ns. IsNew (λ (m : List ℕ). m) ns c.in_ok-variable-2.field-0) c.deref-in-names.ensures.value c.in_ok-variable-2.ensures.new.1)
      (subst (λ ns. length c.args.variables.now + length ns < 1000) c.deref-in-names.ensures.value c.in_ok-variable-2.ensures.new.2));
  left = (λ all h. c.in_ok-variable-2.ensures.left.0 all (c.in_ok-punctuation.ensures.left.0 all (c.names.invariant.left.0 all h)), c.in_ok-variable-2.ensures.left.1 ∙ c.in_ok-punctuation.ensures.left.1 ∙ c.names.invariant.left.1);
  some = omega (arith, grown c.names.names.items c.push-in-names.new.self.items c.in_ok-variable-2.field-0 c.in_ok-push-2.ensures.items);
  bodies = c.in_ok-variable-2.ensures.bodies ∙ c.in_ok-punctuation.ensures.bodies ∙ c.names.invariant.bodies;
  words = names_more c.names.names.items c.push-in-names.new.self.items c.in_ok-variable-2.field-0 c.args.self.now.words c.names.self.words c.punctuation.new.self.words c.variable-in-names.new.self.words
      c.names.invariant.some c.in_ok-push-2.ensures.items c.names.invariant.words c.in_ok-punctuation.ensures.ok c.in_ok-variable-2.ensures.ok;
}

pub returns-in_err-variable-clause-names : goal.returns-in_err-variable-clause-names
returns-in_err-variable-clause-names c =
    let fault = c.in_err-variable.field-0.0 in
    kept_fault fault (BeginRefused (λ k. RefusesVariable k c.args.variables.now) c.args.self.now) c.from_residual.result c.from_residual.ensures.1
    (λ all h of. first_variable fault.kind c.args.variables.now c.deref.result.now c.args.self.now.words (line_before all c.args.self.now fault.line h (c.in_err-variable.ensures.line of)) (c.in_err-variable.ensures.before of) (c.deref.ensures.value ∙ c.new-names.ensures.items) c.in_err-variable.ensures.tells of)

pub returns-in_err-variable-2-clause-names : goal.returns-in_err-variable-2-clause-names
returns-in_err-variable-2-clause-names c =
    let fault = c.in_err-variable-2.field-0.0 in
    kept_fault fault (BeginRefused (λ k. RefusesVariable k c.args.variables.now) c.args.self.now) c.from_residual-in_err-variable-2.result c.from_residual-in_err-variable-2.ensures.1
    (λ all h of. next_variable fault.kind c.args.variables.now c.names.names.items c.args.self.now.words c.names.self.words c.punctuation.new.self.words
    (line_before all c.punctuation.new.self fault.line (c.in_ok-punctuation.ensures.left.0 all (c.names.invariant.left.0 all h)) (c.in_err-variable-2.ensures.line of)) c.names.invariant.some c.names.invariant.may c.names.invariant.words c.in_ok-punctuation.ensures.ok
    (rw c.deref-in-names.ensures.value at c.in_err-variable-2.ensures.tells) of)

pub returns-in_err-variable-clause-other : goal.returns-in_err-variable-clause-other
returns-in_err-variable-clause-other c =
    let fault = c.in_err-variable.field-0.0 in
    kept_fault fault (λ f. f.kind ≢ Memory → (ns : List (List ℕ)) (rest : List Token) → c.args.self.now.words ≡ name_words ns ++ mark_word Colon ∷ rest → 0 < length ns → MayBeDeclared c.args.variables.now ns → ⊥) c.from_residual.result c.from_residual.ensures.1
    (λ known ns rest e some may. first_refused c.args.variables.now ns c.args.self.now.words rest some e may (rw (c.deref.ensures.value ∙ c.new-names.ensures.items) at (c.in_err-variable.ensures.other known)))

pub returns-in_err-variable-2-clause-other : goal.returns-in_err-variable-2-clause-other
returns-in_err-variable-2-clause-other c =
    let fault = c.in_err-variable-2.field-0.0 in
    kept_fault fault (λ f. f.kind ≢ Memory → (ns : List (List ℕ)) (rest : List Token) → c.args.self.now.words ≡ name_words ns ++ mark_word Colon ∷ rest → 0 < length ns → MayBeDeclared c.args.variables.now ns → ⊥) c.from_residual-in_err-variable-2.result c.from_residual-in_err-variable-2.ensures.1
    (λ known ns rest e some may. next_refused c.args.variables.now c.names.names.items ns c.args.self.now.words c.names.self.words c.punctuation.new.self.words rest c.names.invariant.some some c.names.invariant.words c.in_ok-punctuation.ensures.ok e may
    (rw c.deref-in-names.ensures.value at (c.in_err-variable-2.ensures.other known)))

pub returns-clause-only : goal.returns-clause-only
returns-clause-only c = λ ns rest e some.
    all_names c.names.names.items ns c.args.self.now.words c.names.self.words rest c.names.invariant.some some c.names.invariant.words e (λ mid f. c.names-test.ensures.no refl mid f)

pub returns-in_err-variable-clause-stuck : goal.returns-in_err-variable-clause-stuck
returns-in_err-variable-clause-stuck c =
    let fault = c.in_err-variable.field-0.0 in
    let vs = c.args.variables.now in
    let Known : List Token → Type 0 = BeginsSound (judged_names vs) AreNamesFormed in
    kept_fault fault (GetsStuck Known (AName ∷ MoreNames ∷ []) c.args.self.now) c.from_residual.result c.from_residual.ensures.1
    (stuck_told Known IsNothing (AName ∷ MoreNames ∷ []) c.args.self.now fault (λ w none. subst Known (sym none) (first_name_sound vs))
    (stuck_more IsNothing (AName ∷ []) (MoreNames ∷ []) c.args.self.now fault c.in_err-variable.ensures.stuck))

pub returns-in_err-variable-2-clause-stuck : goal.returns-in_err-variable-2-clause-stuck
returns-in_err-variable-2-clause-stuck c =
    let fault = c.in_err-variable-2.field-0.0 in
    let vs = c.args.variables.now in
    let names = c.names.names.items in
    let Known : List Token → Type 0 = BeginsSound (judged_names vs) AreNamesFormed in
    kept_fault fault (GetsStuck Known (AName ∷ MoreNames ∷ []) c.args.self.now) c.from_residual-in_err-variable-2.result c.from_residual-in_err-variable-2.ensures.1
    (stuck_after Known (AName ∷ MoreNames ∷ []) (MoreNames ∷ []) (name_words c.names.names.items) c.args.self.now c.names.self fault c.names.invariant.words c.names.invariant.left (λ behind. names_walked c.names.names.items behind c.names.invariant.some)
    (stuck_after (λ w. Known (name_words names ++ w)) (MoreNames ∷ []) (AName ∷ MoreNames ∷ []) (mark_word Comma ∷ []) c.names.self c.punctuation.new.self fault c.in_ok-punctuation.ensures.ok c.in_ok-punctuation.ensures.left comma_walked
    (stuck_told (λ w. Known (name_words names ++ mark_word Comma ∷ w)) IsNothing (AName ∷ MoreNames ∷ []) c.punctuation.new.self fault
    (λ w none. subst (λ (v : List Token). Known (name_words names ++ mark_word Comma ∷ v)) (sym none) (next_name_sound vs names c.names.invariant.some c.names.invariant.may))
    (stuck_more IsNothing (AName ∷ []) (MoreNames ∷ []) c.punctuation.new.self fault c.in_err-variable-2.ensures.stuck))))
