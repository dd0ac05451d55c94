use Rattle.std.proofs.Common.{◌≡◌, ◌+◌, ◌-◌, ◌/◌, ◌<◌, length, get_or, true, arith}
use Rattle.std.proofs.lemmas.Option.{slice_get-get_or}
use Rattle.declared_names.specs.declared.declarations.Kind.TheVariants as kind
use Rattle.task_codes.specs.declared.task_output.TaskOutput.{TaskOutput}
use Rattle.plant.proofs.OutputOrder.{sought_behind, sought_in_front}
use Rattle.plant.proofs.sources.lookup.output_position.Goals as goal

any_output : TaskOutput
any_output = record { program = 0; place = 0; kind = kind.Bool }

pub halving-preserved-then-stands_before : goal.halving-preserved-then-stands_before
unfolding any_output
halving-preserved-then-stands_before c =
    let outputs = c.args.outputs.now in
    let middle = c.halving.low + (c.halving.high - c.halving.low) / 2 in
    let within : middle < length outputs = omega arith in
    record {
      within = c.halving.invariant.within;
      behind = λ k kind placed. sought_behind outputs middle k (get_or outputs middle any_output) c.args.program c.args.place kind c.requires (slice_get-get_or outputs middle any_output within)
          (c.stands_before.ensures.0 c.if-stands_before.true) placed;
      front = c.halving.invariant.front;
    }

pub halving-preserved : goal.halving-preserved
unfolding any_output
halving-preserved c =
    let outputs = c.args.outputs.now in
    let middle = c.halving.low + (c.halving.high - c.halving.low) / 2 in
    let within : middle < length outputs = omega arith in
    record {
      within = omega arith;
      behind = c.halving.invariant.behind;
      front = λ k kind placed. sought_in_front outputs middle k (get_or outputs middle any_output) c.args.program c.args.place kind c.requires (slice_get-get_or outputs middle any_output within)
          (λ p q. let yes : c.stands_at.result ≡ true = c.stands_at.ensures.1 (p, q) in let no = c.if-stands_at.false in cc)
          (λ before. let yes : c.stands_before.result ≡ true = c.stands_before.ensures.1 before in let no = c.if-stands_before.false in cc) placed;
    }
