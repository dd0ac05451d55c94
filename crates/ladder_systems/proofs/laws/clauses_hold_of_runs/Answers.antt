use Rattle.std.proofs.Common.{sym, ◌∙◌}
use Rattle.power_flow.specs.Meaning.{Moment}
use Rattle.verifying.specs.Runs.{Meets, ScansWith, first}
use Rattle.ladder_systems.proofs.Leading.{led}
use Rattle.ladder_systems.proofs.Never.{held_after}
use Rattle.ladder_systems.proofs.NeverOn.{one_made}
use Rattle.ladder_systems.proofs.laws.clauses_hold_of_runs.Goals as goal

pub returns : goal.returns
returns c = λ u place t clauses wide system whole inductive rows last run.
    let held = held_after Moment (ScansWith u) (Meets u) t system.before system.after clauses (one_made c.one_scan.ensures u wide) (λ row s a one. one.whole ∙ sym system.rows) system.scan system.goes_on
    (λ v agrees meets. (system.given v agrees).1 meets) whole inductive rows t.first.items (first u) last
    system.first whole.first_fits inductive.at_first (led u rows (first u) last run) in
    record { bits = held.0; stand = held.1; hold = held.2 }
