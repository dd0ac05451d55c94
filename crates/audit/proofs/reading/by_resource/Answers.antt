-- One more run.
use Rattle.std.proofs.Common.{◌≡◌, ◌∙◌, Some, length, slice_get, slice_set, Vec, Global, ap, sym, arith, subst}
use Rattle.std.proofs.lemmas.List.{length-set, nil_from_length}
use Rattle.std.proofs.lemmas.Option.{slice_get-get_or}
use Rattle.audit.specs.declared.line.Line.{Line}
use Rattle.audit.proofs.RunLines.{AreTaken, taken_all, taken_elsewhere, taken_here}
use Rattle.audit.proofs.reading.by_resource.Goals as goal
use Rattle.audit.proofs.reading.by_resource.Goals.{then-resource-len+in_ok-append, else-resource-len}

pub loop-run-preserved : goal.loop-run-preserved
loop-run-preserved c =
    let all = c.args.runs.items in
    let old = c.loop-run.resources.items in
    let rest = c.loop-run.run-iterator.rest.items in
    let others = c.next.new.self.rest.items in
    let run = c.in-Some.run' in
    elim c.if-resource-len.branch [
      | then-resource-len+in_ok-append w ↦
          let is : c.if-resource-len.resources.items ≡ slice_set old run.resource w.append.new.self = ap (λ (v : Vec (Vec Line Global) Global). v.items) w.resources-is in
          let at : slice_get old run.resource ≡ Some w.index_mut.result.now = slice_get-get_or old run.resource w.index_mut.result.now (omega (arith, w.if-resource-len.true, c.len.ensures, c.loop-run.resources.ok.0)) ∙ ap (λ v. Some v) (sym w.index_mut.ensures.value) in (
            ap length is ∙ length-set old run.resource w.append.new.self ∙ c.loop-run.invariant.0,
            taken_here old c.if-resource-len.resources.items rest others all run w.index_mut.result.now w.append.new.self c.in-Some.ensures.steps.0 is at w.in_ok-append.ensures.items c.loop-run.invariant.1,
          )
      | else-resource-len w ↦
          let is : c.if-resource-len.resources.items ≡ old = ap (λ (v : Vec (Vec Line Global) Global). v.items) w.resources-is in (
            ap length is ∙ c.loop-run.invariant.0,
            subst (λ rs. AreTaken rs others all) (sym is) (taken_elsewhere old rest others all run c.in-Some.ensures.steps.0 (omega (arith, w.if-resource-len.false, c.len.ensures, c.loop-run.resources.ok.0)) c.loop-run.invariant.1),
          )
    ]

pub returns-clause-each : goal.returns-clause-each
returns-clause-each c =
    taken_all c.loop-run.resources.items c.loop-run.run-iterator.rest.items c.args.runs.items
    (nil_from_length c.loop-run.run-iterator.rest.items (sym c.loop-run.run-iterator.rest.ok.0 ∙ c.in-None.ensures.steps.0)) c.loop-run.invariant.1
