-- One more line.
use Rattle.std.proofs.Common.{◌≡◌, ◌∙◌, ℕ, List, Some, length, slice_get, Bor, sym, ap, arith, subst, option_map}
use Rattle.std.proofs.lemmas.List.{length-map}
use Rattle.std.proofs.lemmas.Option.{slice_get-get_or, slice_get-map}
use Rattle.audit.specs.Readings.{lines_in, HasRuns}
use Rattle.audit.proofs.RunLines.{line_more}
use Rattle.audit.proofs.runs.runs_in.Goals as goal

pub loop-k-preserved : goal.loop-k-preserved
loop-k-preserved c =
    let lines = c.in_ok-lines.lines.items in
    let listed : slice_get lines c.loop-k.k ≡ Some c.index.result.now =
    slice_get-get_or lines c.loop-k.k c.index.result.now (omega (arith, c.loop-k-test.true, c.len-k-end.ensures, c.in_ok-lines.lines.ok.0)) ∙ ap (λ v. Some v) (sym c.index.ensures) in
    let at : slice_get (lines_in c.args.text.now) c.loop-k.k ≡ Some c.index.result.now.now =
    ap (λ ls. slice_get ls c.loop-k.k) (sym c.in_ok-lines.ensures) ∙ slice_get-map (λ (l : Bor (List ℕ)). l.now) lines c.loop-k.k ∙ ap (option_map (λ (l : Bor (List ℕ)). l.now)) listed in
    line_more c.args.plant.now c.args.file (lines_in c.args.text.now) c.loop-k.k c.loop-k.runs.items c.put.new.runs.items c.index.result.now.now at c.loop-k.invariant c.in_ok-put.ensures

pub returns : goal.returns
returns c =
    let lines = c.in_ok-lines.lines.items in
    let many : length (lines_in c.args.text.now) ≡ length lines = ap (λ (ls : List (List ℕ)). length ls) (sym c.in_ok-lines.ensures) ∙ length-map lines (λ (l : Bor (List ℕ)). l.now) in
    let end : c.loop-k.k ≡ length (lines_in c.args.text.now) = omega (arith, many, c.loop-k-test.false, c.loop-k.auto.k-end, c.len-k-end.ensures, c.in_ok-lines.lines.ok.0) in
    subst (λ n. HasRuns c.args.plant.now c.args.file (lines_in c.args.text.now) n c.loop-k.runs.items) end c.loop-k.invariant
