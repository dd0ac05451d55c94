use Rattle.std.proofs.Common.{get_or, Vec}
use Rattle.std.specs.Global.{Global}
use Rattle.declared_names.specs.declared.declarations.Kind.{Kind}
use Rattle.task_codes.specs.declared.task_ref.TaskRef.{TaskRef}
use Rattle.plant.specs.Steps.Drafts.{drafted, AreKindsOf}
use Rattle.plant.proofs.Zips.{zip_more_right, at_itself}
use Rattle.plant.proofs.sources.producers.expected_of.Goals as goal

any_task : TaskRef
any_task = record { resource = 0; task = 0 }

pub draft_at-requires : goal.draft_at-requires
draft_at-requires c = c.requires c.loop-producer.producer-index (record { resource = 0; task = 0 }) c.loop-producer-test.true

pub loop-producer-preserved : goal.loop-producer-preserved
unfolding any_task
loop-producer-preserved c =
    let plant = drafted c.args.drafts.now in
    let producers = c.args.producers.now in
    let i = c.loop-producer.producer-index in
    let kinds : AreKindsOf plant (get_or producers i any_task) c.in_ok-kinds.kinds.items = record { code = c.draft_at.result.now; code_is = c.draft_at.ensures; kinds_are = c.in_ok-kinds.ensures } in
    zip_more_right (AreKindsOf plant) (λ (ks : Vec Kind Global). ks.items) producers i c.loop-producer.expected.items c.push.new.self.items (get_or producers i any_task) c.in_ok-kinds.kinds
    c.loop-producer-test.true (at_itself producers i any_task c.loop-producer-test.true) c.loop-producer.invariant kinds c.in_ok-push.ensures.items
