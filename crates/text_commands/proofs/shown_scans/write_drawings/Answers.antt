use Rattle.std.proofs.Common.{◌≡◌, ◌≤◌, ◌++◌, ◌∷◌, [], ◌∙◌, length, subst, sym, arith}
use Rattle.std.proofs.KnownBytes.{Appends-nil, Appends-trans}
use Rattle.lists.proofs.Results.{kept_fault}
use Rattle.text_lines.specs.declared.send_fault.SendFault.TheVariants.{Write, Memory}
use Rattle.text_commands.specs.Steps.Showing.{IsShownScan, StopsShown}
use Rattle.text_commands.proofs.Showing.{one_state_more, shown_at_first, shown_begun, shown_behind, shown_more, shown_within}
use Rattle.text_commands.proofs.Expecting.{nothing_found}
use Rattle.text_commands.proofs.shown_scans.write_drawings.Goals as write_drawings_goals

pub returns-in_err-state-clause-stopped : write_drawings_goals.returns-in_err-state-clause-stopped
returns-in_err-state-clause-stopped g c =
    kept_fault Memory (λ fault. StopsShown c.args.drawing.now c.args.color c.args.ladder.now.declarations c.args.ladder.now.networks c.args.dt c.args.given.now c.args.scans fault _ _) _ c.from_residual.ensures.1
    (shown_at_first _ _ _ _ _ _ _ _)

pub loop-k-init : write_drawings_goals.loop-k-init
loop-k-init g c = record {
  fits = c.in_ok-state.ensures.fits;
  states = [];
  text = [];
  shown = shown_begun _ _ _ _ _ _ _ _ c.in_ok-state.ensures.slots c.in_ok-state.ensures.fits.memories c.in_ok-state.ensures.memories;
  long = omega arith;
  outcome = nothing_found c.args.expected.now;
  appended = Appends-nil _;
}

pub returns-in_err-open_scan-clause-stopped : write_drawings_goals.returns-in_err-open_scan-clause-stopped
returns-in_err-open_scan-clause-stopped g c =
    let few : length c.loop-k.invariant.states ≤ c.args.scans = let long = c.loop-k.invariant.long in omega arith in
    kept_fault Memory (λ fault. StopsShown c.args.drawing.now c.args.color c.args.ladder.now.declarations c.args.ladder.now.networks c.args.dt c.args.given.now c.args.scans fault _ _) _ c.from_residual-in_err-open_scan.ensures.1
    (shown_behind _ _ _ _ _ _ _ _ _ _ _ _ _ few c.loop-k.invariant.shown c.loop-k.invariant.appended)

pub shown_scan-requires : write_drawings_goals.shown_scan-requires
shown_scan-requires g c = c.in_ok-open_scan.ensures.fits

pub returns-in_err-text-clause-stopped : write_drawings_goals.returns-in_err-text-clause-stopped
returns-in_err-text-clause-stopped g c =
    let few : length c.loop-k.invariant.states ≤ c.args.scans = let long = c.loop-k.invariant.long in omega arith in
    kept_fault Memory (λ fault. StopsShown c.args.drawing.now c.args.color c.args.ladder.now.declarations c.args.ladder.now.networks c.args.dt c.args.given.now c.args.scans fault _ _) _ c.from_residual-in_err-text.ensures.1
    (shown_behind _ _ _ _ _ _ _ _ _ _ _ _ _ few c.loop-k.invariant.shown c.loop-k.invariant.appended)

pub returns-in_err-write_text-clause-stopped : write_drawings_goals.returns-in_err-write_text-clause-stopped
returns-in_err-write_text-clause-stopped g c =
    let states = c.loop-k.invariant.states in
    let long = one_state_more states c.shown_scan.new.state.slots c.loop-k.k c.loop-k.invariant.long in
    let few : length (states ++ c.shown_scan.new.state.slots ∷ []) ≤ c.args.scans = omega arith in
    let text = subst (IsShownScan c.args.drawing.now c.args.color c.args.ladder.now c.args.dt c.open_scan.new.state c.shown_scan.new.state) (sym c.as_str.ensures.value) c.in_ok-text.ensures.shown in
    let shown = shown_more c.args.drawing.now c.args.color c.args.ladder.now c.args.dt c.args.given.now c.loop-k.k states c.loop-k.state c.open_scan.new.state c.shown_scan.new.state c.loop-k.invariant.text _
    c.loop-k.invariant.shown c.loop-k.invariant.long c.in_ok-open_scan.ensures text in
    kept_fault Write (λ fault. StopsShown c.args.drawing.now c.args.color c.args.ladder.now.declarations c.args.ladder.now.networks c.args.dt c.args.given.now c.args.scans fault _ _) _ c.from_residual-in_err-write_text.ensures.1
    (shown_within _ _ _ _ _ _ _ _ _ _ _ _ _ _ _ few shown c.loop-k.invariant.appended c.in_err-write_text.ensures.prefix)

pub found_after-requires-clause-declared : write_drawings_goals.found_after-requires-clause-declared
found_after-requires-clause-declared g c = rw c.declarations.ensures.list c.requires.expected

pub returns-in_err-found-clause-stopped : write_drawings_goals.returns-in_err-found-clause-stopped
returns-in_err-found-clause-stopped g c =
    let states = c.loop-k.invariant.states in
    let long = one_state_more states c.shown_scan.new.state.slots c.loop-k.k c.loop-k.invariant.long in
    let few : length (states ++ c.shown_scan.new.state.slots ∷ []) ≤ c.args.scans = omega arith in
    let text = subst (IsShownScan c.args.drawing.now c.args.color c.args.ladder.now c.args.dt c.open_scan.new.state c.shown_scan.new.state) (sym c.as_str.ensures.value) c.in_ok-text.ensures.shown in
    let shown = shown_more c.args.drawing.now c.args.color c.args.ladder.now c.args.dt c.args.given.now c.loop-k.k states c.loop-k.state c.open_scan.new.state c.shown_scan.new.state c.loop-k.invariant.text _
    c.loop-k.invariant.shown c.loop-k.invariant.long c.in_ok-open_scan.ensures text in
    kept_fault Memory (λ fault. StopsShown c.args.drawing.now c.args.color c.args.ladder.now.declarations c.args.ladder.now.networks c.args.dt c.args.given.now c.args.scans fault _ _) _ c.from_residual-in_err-found.ensures.1
    (shown_behind _ _ _ _ _ _ _ _ _ _ _ _ _ few shown (Appends-trans _ _ _ _ _ c.loop-k.invariant.appended c.in_ok-write_text.ensures.whole))

pub loop-k-preserved : write_drawings_goals.loop-k-preserved
loop-k-preserved g c =
    let states = c.loop-k.invariant.states in
    let text = subst (IsShownScan c.args.drawing.now c.args.color c.args.ladder.now c.args.dt c.open_scan.new.state c.shown_scan.new.state) (sym c.as_str.ensures.value) c.in_ok-text.ensures.shown in
    let goes = rw c.declarations.ensures.list at c.in_ok-found.ensures in
    record {
      fits = c.in_ok-text.ensures.fits;
      states = states ++ c.shown_scan.new.state.slots ∷ [];
      text = c.loop-k.invariant.text ++ c.as_str.result.now;
      shown = shown_more c.args.drawing.now c.args.color c.args.ladder.now c.args.dt c.args.given.now c.loop-k.k states c.loop-k.state c.open_scan.new.state c.shown_scan.new.state c.loop-k.invariant.text _
          c.loop-k.invariant.shown c.loop-k.invariant.long c.in_ok-open_scan.ensures text;
      long = one_state_more states c.shown_scan.new.state.slots c.loop-k.k c.loop-k.invariant.long;
      outcome = goes states c.loop-k.invariant.long c.loop-k.invariant.outcome;
      appended = Appends-trans _ _ _ _ _ c.loop-k.invariant.appended c.in_ok-write_text.ensures.whole;
    }

pub returns-clause-ok : write_drawings_goals.returns-clause-ok
returns-clause-ok g c =
    let all : c.loop-k.k ≡ c.args.scans = omega arith in
    let long = c.loop-k.invariant.long in
    record {
      made = record { states = c.loop-k.invariant.states; slots = _; memories = _; text = c.loop-k.invariant.text; shown = c.loop-k.invariant.shown; few = omega arith };
      all = long ∙ all;
      appended = c.loop-k.invariant.appended;
      outcome = c.loop-k.invariant.outcome;
    }
