use Rattle.std.proofs.Common.{◌∙◌, ap, sym, length}
use Rattle.audit.specs.Steps.Standings.{empty_book}
use Rattle.audit.proofs.GoingOn.{begun_more, lines_begun, lines_all}
use Rattle.audit.proofs.auditing.followers_of.Goals as goal

pub loop-lines-preserved : goal.loop-lines-preserved
loop-lines-preserved c = record {
  stand = begun_more (empty_book c.args.plant.now.value) c.loop-lines.followers.items _ _ _ _ c.len-resource.result c.in_ok-new.field-0 (ap length c.in-Some.ensures.steps.0) c.in_ok-push.ensures.items (c.len-resource.ensures ∙ c.loop-lines.followers.ok.0) c.loop-lines.invariant.stand c.in_ok-new.ensures.at;
  lines = lines_begun c.loop-lines.followers.items _ _ _ _ c.in_ok-new.field-0 c.in-Some.lines c.in-Some.ensures.steps.0 c.in_ok-push.ensures.items c.in_ok-new.ensures.lines c.loop-lines.invariant.lines;
}

pub returns-clause-lines : goal.returns-clause-lines
returns-clause-lines c =
    lines_all c.loop-lines.followers.items c.loop-lines.lines-iterator.rest.items c.args.resources.items
    (sym c.loop-lines.lines-iterator.rest.ok.0 ∙ c.in-None.ensures.steps.0) c.loop-lines.invariant.lines
