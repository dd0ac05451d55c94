use Rattle.std.proofs.Common.{◌≡◌, ◌≤◌, ◌++◌, ◌∷◌, [], ◌∙◌, length, ap, arith}
use Rattle.std.proofs.KnownBytes.{Appends-nil, Appends-trans}
use Rattle.text_commands.specs.Lines.{line_of}
use Rattle.lists.proofs.Results.{kept_fault}
use Rattle.text_lines.specs.declared.send_fault.SendFault.TheVariants.{Write, Memory}
use Rattle.text_commands.specs.EvalText.{StopsScans}
use Rattle.text_commands.proofs.Scanning.{begun_at, lines_more, scan_more, stopped_behind, stopped_at_first, stopped_within}
use Rattle.text_commands.proofs.Showing.{one_state_more}
use Rattle.text_commands.proofs.Expecting.{nothing_found}
use Rattle.text_commands.proofs.eval_command.write_scans.Goals as write_scans_goals

pub returns-in_err-state-clause-stopped : write_scans_goals.returns-in_err-state-clause-stopped
returns-in_err-state-clause-stopped g c =
    kept_fault Memory (λ fault. StopsScans c.args.ladder.now.declarations c.args.ladder.now.networks c.args.dt c.args.given.now c.args.scans fault _ _) _ c.from_residual.ensures.1 (stopped_at_first _ _ _ _ _ _)

pub loop-k-init : write_scans_goals.loop-k-init
loop-k-init g c = record {
  fits = c.in_ok-state.ensures.fits;
  states = [];
  trace = begun_at _ _ _ _ _ _ c.in_ok-state.ensures.slots c.in_ok-state.ensures.fits.memories c.in_ok-state.ensures.memories;
  long = omega arith;
  outcome = nothing_found c.args.expected.now;
  appended = Appends-nil _;
}

pub returns-in_err-line-clause-stopped : write_scans_goals.returns-in_err-line-clause-stopped
returns-in_err-line-clause-stopped g c =
    let few : length c.loop-k.invariant.states ≤ c.args.scans = let long = c.loop-k.invariant.long in omega arith in
    kept_fault Memory (λ fault. StopsScans c.args.ladder.now.declarations c.args.ladder.now.networks c.args.dt c.args.given.now c.args.scans fault _ _) _ c.from_residual-in_err-line.ensures.1
    (stopped_behind _ _ _ _ _ _ _ _ _ _ few c.loop-k.invariant.trace c.loop-k.invariant.appended)

pub returns-in_err-write_text-clause-stopped : write_scans_goals.returns-in_err-write_text-clause-stopped
returns-in_err-write_text-clause-stopped g c =
    let states = c.loop-k.invariant.states in
    let long = one_state_more states c.scan.new.state.slots c.loop-k.k c.loop-k.invariant.long in
    let few : length (states ++ c.scan.new.state.slots ∷ []) ≤ c.args.scans = omega arith in
    let line : c.as_str.result.now ≡ line_of c.args.ladder.now.declarations c.scan.new.state.slots =
    c.as_str.ensures.value ∙ c.in_ok-line.ensures ∙ ap (λ ds. line_of ds c.scan.new.state.slots) c.declarations.ensures.list in
    let trace = scan_more c.args.ladder.now _ _ c.loop-k.k states c.loop-k.state c.open_scan.new.state c.scan.new.state c.loop-k.invariant.trace c.loop-k.invariant.long c.in_ok-open_scan.ensures c.scan.ensures.meaning in
    kept_fault Write (λ fault. StopsScans c.args.ladder.now.declarations c.args.ladder.now.networks c.args.dt c.args.given.now c.args.scans fault _ _) _ c.from_residual-in_err-write_text.ensures.1
    (stopped_within _ _ _ _ _ states _ _ _ _ _ _ few trace line c.loop-k.invariant.appended c.in_err-write_text.ensures.prefix)

pub found_after-requires-clause-declared : write_scans_goals.found_after-requires-clause-declared
found_after-requires-clause-declared g c = rw c.declarations-in-loop-k.ensures.list c.requires.expected

pub returns-in_err-found-clause-stopped : write_scans_goals.returns-in_err-found-clause-stopped
returns-in_err-found-clause-stopped g c =
    let states = c.loop-k.invariant.states in
    let long = one_state_more states c.scan.new.state.slots c.loop-k.k c.loop-k.invariant.long in
    let few : length (states ++ c.scan.new.state.slots ∷ []) ≤ c.args.scans = omega arith in
    let line : c.as_str.result.now ≡ line_of c.args.ladder.now.declarations c.scan.new.state.slots =
    c.as_str.ensures.value ∙ c.in_ok-line.ensures ∙ ap (λ ds. line_of ds c.scan.new.state.slots) c.declarations.ensures.list in
    let trace = scan_more c.args.ladder.now _ _ c.loop-k.k states c.loop-k.state c.open_scan.new.state c.scan.new.state c.loop-k.invariant.trace c.loop-k.invariant.long c.in_ok-open_scan.ensures c.scan.ensures.meaning in
    kept_fault Memory (λ fault. StopsScans c.args.ladder.now.declarations c.args.ladder.now.networks c.args.dt c.args.given.now c.args.scans fault _ _) _ c.from_residual-in_err-found.ensures.1
    (stopped_behind _ _ _ _ _ _ _ _ _ _ few trace (rw (lines_more _ states c.scan.new.state.slots _ line) (Appends-trans _ _ _ _ _ c.loop-k.invariant.appended c.in_ok-write_text.ensures.whole)))

pub loop-k-preserved : write_scans_goals.loop-k-preserved
loop-k-preserved g c =
    let states = c.loop-k.invariant.states in
    let line : c.as_str.result.now ≡ line_of c.args.ladder.now.declarations c.scan.new.state.slots =
    c.as_str.ensures.value ∙ c.in_ok-line.ensures ∙ ap (λ ds. line_of ds c.scan.new.state.slots) c.declarations.ensures.list in
    let goes = rw c.declarations-in-loop-k.ensures.list at c.in_ok-found.ensures in
    record {
      fits = c.scan.ensures.fits;
      states = states ++ c.scan.new.state.slots ∷ [];
      trace = scan_more c.args.ladder.now _ _ c.loop-k.k states c.loop-k.state c.open_scan.new.state c.scan.new.state c.loop-k.invariant.trace c.loop-k.invariant.long c.in_ok-open_scan.ensures c.scan.ensures.meaning;
      long = one_state_more states c.scan.new.state.slots c.loop-k.k c.loop-k.invariant.long;
      outcome = goes states c.loop-k.invariant.long c.loop-k.invariant.outcome;
      appended = rw (lines_more _ states c.scan.new.state.slots _ line) (Appends-trans _ _ _ _ _ c.loop-k.invariant.appended c.in_ok-write_text.ensures.whole);
    }

pub returns-clause-ok : write_scans_goals.returns-clause-ok
returns-clause-ok g c =
    let all : c.loop-k.k ≡ c.args.scans = omega arith in
    let long = c.loop-k.invariant.long in (
      record {
        made = record { states = c.loop-k.invariant.states; slots = _; memories = _; trace = c.loop-k.invariant.trace; few = omega arith };
        all = long ∙ all;
        appended = c.loop-k.invariant.appended;
      },
      c.loop-k.invariant.outcome,
    )

pub returns-in_err-open_scan-clause-stopped : write_scans_goals.returns-in_err-open_scan-clause-stopped
returns-in_err-open_scan-clause-stopped g c =
    let few : length c.loop-k.invariant.states ≤ c.args.scans = let long = c.loop-k.invariant.long in omega arith in
    kept_fault Memory (λ fault. StopsScans c.args.ladder.now.declarations c.args.ladder.now.networks c.args.dt c.args.given.now c.args.scans fault _ _) _ c.from_residual-in_err-open_scan.ensures.1
    (stopped_behind _ _ _ _ _ _ _ _ _ _ few c.loop-k.invariant.trace c.loop-k.invariant.appended)

pub scan-requires : write_scans_goals.scan-requires
scan-requires g c = c.in_ok-open_scan.ensures.fits
