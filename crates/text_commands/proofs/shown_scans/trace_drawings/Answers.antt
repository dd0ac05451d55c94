use Rattle.std.proofs.Common.{◌≡◌, length, refl, ap, ◌∙◌, arith}
use Rattle.std.proofs.lemmas.List.{length-map}
use Rattle.text_commands.specs.Steps.Testing.{slots_of}
use Rattle.text_commands.proofs.Showing.{shown_begun, shown_more, slots_more}
use Rattle.text_commands.proofs.Tracing.{one_longer}
use Rattle.text_commands.proofs.shown_scans.trace_drawings.Goals as goal

pub loop-k-init : goal.loop-k-init
loop-k-init c = record {
  fits = c.in_ok-state.ensures.fits;
  shown = rw (c.new-states.ensures.items, c.new-text.ensures.bytes) (shown_begun _ _ _ _ _ _ _ _ c.in_ok-state.ensures.slots c.in_ok-state.ensures.fits.memories c.in_ok-state.ensures.memories);
  long = ap length c.new-states.ensures.items;
}

pub shown_scan-requires : goal.shown_scan-requires
shown_scan-requires c = c.in_ok-open_scan.ensures.fits

pub loop-k-preserved : goal.loop-k-preserved
loop-k-preserved c =
    let many : length (slots_of c.loop-k.states.items) ≡ c.loop-k.k = length-map c.loop-k.states.items _ ∙ c.loop-k.invariant.long in
    let shown = shown_more c.args.drawing.now c.args.color c.args.ladder.now c.args.dt c.args.given.now c.loop-k.k (slots_of c.loop-k.states.items) c.loop-k.state c.open_scan.new.state c.shown_scan.new.state _ _
    c.loop-k.invariant.shown many c.in_ok-open_scan.ensures c.in_ok-shown.ensures.shown in
    record {
      fits = c.in_ok-shown.ensures.fits;
      shown = rw (slots_more _ _ c.shown_scan.new.state _ c.in_ok-try_copy.ensures c.in_ok-push.ensures.items, c.in_ok-push_str.ensures.bytes, c.as_str.ensures.value) shown;
      long = one_longer _ _ _ _ c.loop-k.invariant.long c.in_ok-push.ensures.items;
    }

pub returns : goal.returns
returns c =
    let all : c.loop-k.k ≡ c.args.scans = omega arith in
    let many : length (slots_of c.loop-k.states.items) ≡ c.args.scans = length-map c.loop-k.states.items _ ∙ c.loop-k.invariant.long ∙ all in
    (record { states = slots_of c.loop-k.states.items; slots = _; memories = _; text = _; shown = c.loop-k.invariant.shown; few = omega arith }, refl, c.loop-k.invariant.long ∙ all, refl)
