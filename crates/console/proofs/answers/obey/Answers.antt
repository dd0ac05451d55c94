use Rattle.std.proofs.Common.{IfOk, IfErr, option_map, sym, subst}
use Rattle.std.proofs.lemmas.Result.{IfOk-weaker}
use Rattle.console.specs.Answers.{WritesAnswer, ExplainsAnswer}
use Rattle.console.proofs.answers.obey.Goals as goal

pub returns-in-Eval-clause-ok : goal.returns-in-Eval-clause-ok
returns-in-Eval-clause-ok g c =
    let written = rw (c.deref.ensures.value, c.deref-in-Eval.ensures.value, c.form_of-form.ensures) at c.eval_traced.ensures.ok in
    subst (λ request. IfOk c.eval_traced.result (WritesAnswer c.args.terminal request c.args.text.now (option_map (λ t. t.now) c.args.second) (g.W.Write.contents c.args.writer.now) (g.W.Write.contents c.eval_traced.new.writer))) (sym c.in-Eval.is)
    (IfOk-weaker c.eval_traced.result _ _ (λ traced is. (c.wanted_for-wanted.result, c.wanted_for-wanted.ensures, is)) written)

pub returns-in-Eval-clause-fault : goal.returns-in-Eval-clause-fault
returns-in-Eval-clause-fault g c =
    subst (λ request. IfErr c.eval_traced.result (ExplainsAnswer c.args.terminal request c.args.text.now (option_map (λ t. t.now) c.args.second) (g.W.Write.contents c.args.writer.now) (g.W.Write.contents c.eval_traced.new.writer))) (sym c.in-Eval.is)
    (rw (c.deref.ensures.value, c.deref-in-Eval.ensures.value, c.form_of-form.ensures) at c.eval_traced.ensures.fault)
