use Rattle.std.proofs.Common.{◌≡◌, length, refl, ◌∙◌, ap, arith}
use Rattle.std.proofs.lemmas.List.{length-map}
use Rattle.text_commands.specs.Steps.Testing.{slots_of}
use Rattle.text_commands.proofs.Tracing.{one_longer, trace_begun, trace_more}
use Rattle.text_commands.proofs.test_command.trace_scans.Goals as goal

pub loop-k-init : goal.loop-k-init
loop-k-init c = record {
  fits = c.in_ok-state.ensures.fits;
  trace = trace_begun _ _ _ _ _ _ _ c.new-states.ensures.items c.in_ok-state.ensures.slots c.in_ok-state.ensures.fits.memories c.in_ok-state.ensures.memories;
  long = ap length c.new-states.ensures.items;
}

pub scan-requires : goal.scan-requires
scan-requires c = c.in_ok-open_scan.ensures.fits

pub loop-k-preserved : goal.loop-k-preserved
loop-k-preserved c = record {
  fits = c.scan.ensures.fits;
  trace = trace_more c.args.ladder.now _ _ c.loop-k.k _ _ c.loop-k.state c.open_scan.new.state c.scan.new.state _ c.loop-k.invariant.trace c.loop-k.invariant.long c.in_ok-open_scan.ensures c.scan.ensures.meaning
      c.in_ok-try_copy.ensures c.in_ok-push.ensures.items;
  long = one_longer _ _ _ _ c.loop-k.invariant.long c.in_ok-push.ensures.items;
}

pub returns : goal.returns
returns c =
    let all : c.loop-k.k ≡ c.args.scans = omega arith in
    let many : length (slots_of c.loop-k.states.items) ≡ c.args.scans = length-map c.loop-k.states.items _ ∙ c.loop-k.invariant.long ∙ all in
    (record { states = slots_of c.loop-k.states.items; slots = _; memories = _; trace = c.loop-k.invariant.trace; few = omega arith }, refl, c.loop-k.invariant.long ∙ all)
