use Rattle.std.specs.List.{flat_map}
use Rattle.plant_text.specs.declared.token.Keyword.TheVariants.{With}
use Rattle.plant_grammar.specs.declared.grammar.tree.TaskLine.{TaskLine}
use Rattle.plant_grammar.specs.Grammar.{key_word}
use Rattle.plant_grammar.specs.Lawful.{task_of}
use Rattle.plant_grammar.specs.Steps.NamesRead.{IsUnknown}
use Rattle.plant_grammar.proofs.ReadLines.{line_before}
use Rattle.plant_grammar.proofs.RefusedNames.{both_told, unknown_next, begin_after}
use Rattle.std.proofs.Common.{◌∷◌, [], refl, subst, sym, List}
use Rattle.lists.proofs.Results.{kept_fault}
use Rattle.std.proofs.lemmas.Result.{IfErr-weaker}
use Rattle.plant_text.specs.declared.token.Keyword.TheVariants as key
use Rattle.plant_grammar.specs.Steps.Expected.{Key, AName, GetsStuck}
use Rattle.plant_grammar.proofs.UnexpectedWords.{key_stuck}
use Rattle.plant_grammar.proofs.StuckBehind.{stuck_after_key}
use Rattle.plant_text.specs.declared.token.Token.{Token}
use Rattle.plant_grammar.specs.Grammar.{key_word}
use Rattle.plant_grammar.specs.Steps.SoundWords.{BeginWords, IsNothing}
use Rattle.plant_grammar.proofs.ExpectedWords.{stuck_told}
use Rattle.plant_grammar.proofs.grammar.reader.Reader.task_of_instance.Goals as goal

pub returns-clause-names : goal.returns-clause-names
returns-clause-names c =
    let a = c.args in
    let tasks = flat_map task_of a.before.now in
    let now = c.keyword.new.self in
    both_told c.known_task.result _ _ _
    (λ fault tells line all h of. begin_after (key_word With) (IsUnknown fault.kind (λ (t : TaskLine). t.name) tasks) a.self.now.words now.words c.in_ok-keyword.ensures.ok
    (unknown_next fault.kind now.words (line_before all now fault.line (c.in_ok-keyword.ensures.left.0 all h) (line of)) (λ (t : TaskLine). t.name) tasks tells of))
    c.known_task.ensures.tells c.known_task.ensures.line

pub returns-in_err-keyword-clause-stuck : goal.returns-in_err-keyword-clause-stuck
returns-in_err-keyword-clause-stuck c =
    let fault = c.in_err-keyword.field-0.0 in
    kept_fault fault (GetsStuck (BeginWords (key_word key.With ∷ [])) (Key key.With ∷ AName ∷ []) c.args.self.now) c.from_residual.result c.from_residual.ensures.1
    (key_stuck (BeginWords (key_word key.With ∷ [])) (key_word key.With ∷ [], refl) key.With (AName ∷ []) c.args.self.now fault c.in_err-keyword.ensures.err.0 c.in_err-keyword.ensures.other)

pub returns-clause-stuck : goal.returns-clause-stuck
returns-clause-stuck c =
    IfErr-weaker c.known_task.result _ _ (λ fault stuck. stuck_after_key (BeginWords (key_word key.With ∷ [])) key.With (AName ∷ []) c.args.self.now c.keyword.new.self fault c.in_ok-keyword.ensures.ok c.in_ok-keyword.ensures.left
    (stuck_told (λ w. BeginWords (key_word key.With ∷ []) (key_word key.With ∷ w)) IsNothing (AName ∷ []) c.keyword.new.self fault (λ w none. subst (λ (v : List Token). BeginWords (key_word key.With ∷ []) (key_word key.With ∷ v)) (sym none) ([], refl)) stuck)) c.known_task.ensures.stuck
