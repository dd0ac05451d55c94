use Rattle.std.proofs.Common.{◌∷◌, [], refl}
use Rattle.lists.proofs.Results.{kept_fault}
use Rattle.plant_text.specs.declared.token.Punctuation.TheVariants as mark
use Rattle.plant_grammar.specs.Steps.Expected.{Mark, AName, GetsStuck}
use Rattle.plant_grammar.proofs.UnexpectedWords.{mark_stuck, name_stuck}
use Rattle.plant_grammar.proofs.StuckBehind.{stuck_after_mark, stuck_after_name}
use Rattle.plant_text.specs.declared.token.Token.TheVariants as token
use Rattle.plant_grammar.specs.declared.grammar.tree.SourceName.TheVariants as source
use Rattle.plant_grammar.specs.Grammar.{mark_word, source_words}
use Rattle.plant_grammar.specs.Steps.SoundWords.{BeginsOutput}
use Rattle.plant_grammar.proofs.grammar.reader.Reader.output.Goals as output_goals

pub returns-in_err-resource-clause-stuck : output_goals.returns-in_err-resource-clause-stuck
returns-in_err-resource-clause-stuck c =
    let fault = c.in_err-resource.field-0.0 in
    let start = c.args.self.now in
    kept_fault fault (GetsStuck BeginsOutput (AName ∷ Mark mark.Dot ∷ AName ∷ Mark mark.Dot ∷ AName ∷ []) start) c.from_residual.result c.from_residual.ensures.1
    (name_stuck BeginsOutput ([], [], [], (source_words (source.Output [] [] []), refl)) (Mark mark.Dot ∷ AName ∷ Mark mark.Dot ∷ AName ∷ []) start fault c.in_err-resource.ensures.err c.in_err-resource.ensures.other)

pub returns-in_err-punctuation-clause-stuck : output_goals.returns-in_err-punctuation-clause-stuck
returns-in_err-punctuation-clause-stuck c =
    let fault = c.in_err-punctuation.field-0.0 in
    let start = c.args.self.now in
    let one = c.name.new.self in
    kept_fault fault (GetsStuck BeginsOutput (AName ∷ Mark mark.Dot ∷ AName ∷ Mark mark.Dot ∷ AName ∷ []) start) c.from_residual-in_err-punctuation.result c.from_residual-in_err-punctuation.ensures.1
    (stuck_after_name BeginsOutput c.in_ok-resource.resource (Mark mark.Dot ∷ AName ∷ Mark mark.Dot ∷ AName ∷ []) start one fault c.in_ok-resource.ensures.ok c.in_ok-resource.ensures.left
    (mark_stuck (λ w. BeginsOutput (token.Name c.in_ok-resource.resource ∷ w)) (c.in_ok-resource.resource, [], [], (mark_word mark.Dot ∷ token.Name [] ∷ mark_word mark.Dot ∷ token.Name [] ∷ [], refl)) mark.Dot (AName ∷ Mark mark.Dot ∷ AName ∷ []) one fault c.in_err-punctuation.ensures.err.0 c.in_err-punctuation.ensures.other))

pub returns-in_err-instance-clause-stuck : output_goals.returns-in_err-instance-clause-stuck
returns-in_err-instance-clause-stuck c =
    let fault = c.in_err-instance.field-0.0 in
    let start = c.args.self.now in
    let one = c.name.new.self in
    let two = c.punctuation.new.self in
    kept_fault fault (GetsStuck BeginsOutput (AName ∷ Mark mark.Dot ∷ AName ∷ Mark mark.Dot ∷ AName ∷ []) start) c.from_residual-in_err-instance.result c.from_residual-in_err-instance.ensures.1
    (stuck_after_name BeginsOutput c.in_ok-resource.resource (Mark mark.Dot ∷ AName ∷ Mark mark.Dot ∷ AName ∷ []) start one fault c.in_ok-resource.ensures.ok c.in_ok-resource.ensures.left
    (stuck_after_mark (λ w. BeginsOutput (token.Name c.in_ok-resource.resource ∷ w)) mark.Dot (AName ∷ Mark mark.Dot ∷ AName ∷ []) one two fault c.in_ok-punctuation.ensures.ok c.in_ok-punctuation.ensures.left
    (name_stuck (λ w. BeginsOutput (token.Name c.in_ok-resource.resource ∷ mark_word mark.Dot ∷ w)) (c.in_ok-resource.resource, [], [], (token.Name [] ∷ mark_word mark.Dot ∷ token.Name [] ∷ [], refl)) (Mark mark.Dot ∷ AName ∷ []) two fault c.in_err-instance.ensures.err c.in_err-instance.ensures.other)))

pub returns-in_err-punctuation-2-clause-stuck : output_goals.returns-in_err-punctuation-2-clause-stuck
returns-in_err-punctuation-2-clause-stuck c =
    let fault = c.in_err-punctuation-2.field-0.0 in
    let start = c.args.self.now in
    let one = c.name.new.self in
    let two = c.punctuation.new.self in
    let three = c.name-2.new.self in
    kept_fault fault (GetsStuck BeginsOutput (AName ∷ Mark mark.Dot ∷ AName ∷ Mark mark.Dot ∷ AName ∷ []) start) c.from_residual-in_err-punctuation-2.result c.from_residual-in_err-punctuation-2.ensures.1
    (stuck_after_name BeginsOutput c.in_ok-resource.resource (Mark mark.Dot ∷ AName ∷ Mark mark.Dot ∷ AName ∷ []) start one fault c.in_ok-resource.ensures.ok c.in_ok-resource.ensures.left
    (stuck_after_mark (λ w. BeginsOutput (token.Name c.in_ok-resource.resource ∷ w)) mark.Dot (AName ∷ Mark mark.Dot ∷ AName ∷ []) one two fault c.in_ok-punctuation.ensures.ok c.in_ok-punctuation.ensures.left
    (stuck_after_name (λ w. BeginsOutput (token.Name c.in_ok-resource.resource ∷ mark_word mark.Dot ∷ w)) c.in_ok-instance.instance (Mark mark.Dot ∷ AName ∷ []) two three fault c.in_ok-instance.ensures.ok c.in_ok-instance.ensures.left
    (mark_stuck (λ w. BeginsOutput (token.Name c.in_ok-resource.resource ∷ mark_word mark.Dot ∷ token.Name c.in_ok-instance.instance ∷ w)) (c.in_ok-resource.resource, c.in_ok-instance.instance, [], (mark_word mark.Dot ∷ token.Name [] ∷ [], refl)) mark.Dot (AName ∷ []) three fault c.in_err-punctuation-2.ensures.err.0 c.in_err-punctuation-2.ensures.other))))

pub returns-in_err-output-clause-stuck : output_goals.returns-in_err-output-clause-stuck
returns-in_err-output-clause-stuck c =
    let fault = c.in_err-output.field-0.0 in
    let start = c.args.self.now in
    let one = c.name.new.self in
    let two = c.punctuation.new.self in
    let three = c.name-2.new.self in
    let four = c.punctuation-2.new.self in
    kept_fault fault (GetsStuck BeginsOutput (AName ∷ Mark mark.Dot ∷ AName ∷ Mark mark.Dot ∷ AName ∷ []) start) c.from_residual-in_err-output.result c.from_residual-in_err-output.ensures.1
    (stuck_after_name BeginsOutput c.in_ok-resource.resource (Mark mark.Dot ∷ AName ∷ Mark mark.Dot ∷ AName ∷ []) start one fault c.in_ok-resource.ensures.ok c.in_ok-resource.ensures.left
    (stuck_after_mark (λ w. BeginsOutput (token.Name c.in_ok-resource.resource ∷ w)) mark.Dot (AName ∷ Mark mark.Dot ∷ AName ∷ []) one two fault c.in_ok-punctuation.ensures.ok c.in_ok-punctuation.ensures.left
    (stuck_after_name (λ w. BeginsOutput (token.Name c.in_ok-resource.resource ∷ mark_word mark.Dot ∷ w)) c.in_ok-instance.instance (Mark mark.Dot ∷ AName ∷ []) two three fault c.in_ok-instance.ensures.ok c.in_ok-instance.ensures.left
    (stuck_after_mark (λ w. BeginsOutput (token.Name c.in_ok-resource.resource ∷ mark_word mark.Dot ∷ token.Name c.in_ok-instance.instance ∷ w)) mark.Dot (AName ∷ []) three four fault c.in_ok-punctuation-2.ensures.ok c.in_ok-punctuation-2.ensures.left
    (name_stuck (λ w. BeginsOutput (token.Name c.in_ok-resource.resource ∷ mark_word mark.Dot ∷ token.Name c.in_ok-instance.instance ∷ mark_word mark.Dot ∷ w)) (c.in_ok-resource.resource, c.in_ok-instance.instance, [], (token.Name [] ∷ [], refl)) [] four fault c.in_err-output.ensures.err c.in_err-output.ensures.other)))))
