use Rattle.std.proofs.Common.{◌≡◌, ◌++◌, List, ℕ, ap, ◌∙◌, subst, map, string_bytes}
use Rattle.std.specs.Prelude.{◌||◌}
use Rattle.std.specs.Io.KnownBytes.{Appends}
use Rattle.std.specs.List.{flat_map}
use Rattle.lists.proofs.Results.{kept_fault}
use Rattle.plant.specs.PlantValue.{PlantValue}
use Rattle.text_lines.specs.Sending.{SendsLess}
use Rattle.world.specs.declared.line_fault.LineFault.TheVariants.{Write}
use Rattle.tested_schedules.specs.declared.answer.Answer.{Answer}
use Rattle.tested_schedules.specs.Expectations.{answer_line}
use Rattle.tested_schedules.specs.TestedText.{are_unmet, of_answers, piece_text}
use Rattle.tested_schedules.specs.Steps.Testing.{HasAnswers, HasStopped, state_of}
use Rattle.tested_schedules.proofs.EventLines.{made_answers, made_broken, made_done, with_unmet}
use Rattle.tested_schedules.proofs.Words.{words_behind}
use Rattle.tested_schedules.proofs.testing.Testing.do_expectations.Goals as goal

pub returns-in_err-write_text-clause-fault : goal.returns-in_err-write_text-clause-fault
returns-in_err-write_text-clause-fault g c =
    let words = map (λ w. w.now) c.args.words.now in
    let old = state_of c.args.self.now in
    let plant = old.world.setting.plant in
    let answers = c.in_ok-answers.answers.items in
    let from = g.W.Write.contents c.args.out.now in
    let next = g.W.Write.contents c.write_text.new.writer in
    let unmet : c.have_unmet-self.result ≡ (old.unmet || are_unmet answers) = c.have_unmet-self.ensures ∙ ap (λ (l : List Answer). old.unmet || are_unmet l) c.deref-3.ensures.value in
    let made = made_answers old words answers c.have_unmet-self.result c.requires.expects (subst (λ L. HasAnswers old.world L answers) (words_behind c.args.words.now) c.in_ok-answers.ensures.ok) unmet in
    let text : string_bytes c.push_answers.new.text ≡ piece_text plant (of_answers answers) =
    c.in_ok-push_answers.ensures ∙ ap (λ (l : List ℕ). l ++ flat_map (answer_line c.plant.result.now) c.deref-2.result.now) c.clear.ensures.bytes ∙ ap (λ (p : PlantValue). flat_map (answer_line p) c.deref-2.result.now) c.plant.ensures
    ∙ ap (flat_map (answer_line plant)) c.deref-2.ensures.value in
    let less = subst (λ (l : List ℕ). SendsLess l from next) (c.as_str.ensures.value ∙ text) c.in_err-write_text.ensures.prefix in
    kept_fault Write (HasStopped old (with_unmet old c.have_unmet-self.result) words from next) c.from_residual-in_err-write_text.result c.from_residual-in_err-write_text.ensures.1
    (made_broken old (with_unmet old c.have_unmet-self.result) words (of_answers answers) from next made less)

pub returns-clause-ok : goal.returns-clause-ok
returns-clause-ok g c =
    let words = map (λ w. w.now) c.args.words.now in
    let old = state_of c.args.self.now in
    let plant = old.world.setting.plant in
    let answers = c.in_ok-answers.answers.items in
    let from = g.W.Write.contents c.args.out.now in
    let next = g.W.Write.contents c.write_text.new.writer in
    let unmet : c.have_unmet-self.result ≡ (old.unmet || are_unmet answers) = c.have_unmet-self.ensures ∙ ap (λ (l : List Answer). old.unmet || are_unmet l) c.deref-3.ensures.value in
    let made = made_answers old words answers c.have_unmet-self.result c.requires.expects (subst (λ L. HasAnswers old.world L answers) (words_behind c.args.words.now) c.in_ok-answers.ensures.ok) unmet in
    let text : string_bytes c.push_answers.new.text ≡ piece_text plant (of_answers answers) =
    c.in_ok-push_answers.ensures ∙ ap (λ (l : List ℕ). l ++ flat_map (answer_line c.plant.result.now) c.deref-2.result.now) c.clear.ensures.bytes ∙ ap (λ (p : PlantValue). flat_map (answer_line p) c.deref-2.result.now) c.plant.ensures
    ∙ ap (flat_map (answer_line plant)) c.deref-2.ensures.value in
    made_done old (with_unmet old c.have_unmet-self.result) words (of_answers answers) from next made (subst (Appends from next) (c.as_str.ensures.value ∙ text) c.in_ok-write_text.ensures.whole)
