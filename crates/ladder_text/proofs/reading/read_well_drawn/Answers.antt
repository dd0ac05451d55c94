use Rattle.std.proofs.Common.{◌≡◌, ◌≢◌, ◌∙◌, subst, rules}
use Rattle.ladder_text.specs.declared.draw_fault.DrawFaultKind.TheVariants.{Memory}
use Rattle.ladder_rows.specs.Rows.{Rows, rows_of}
use Rattle.ladder_text.specs.FirstFault.{IsFirstDrawFault}
use Rattle.ladder_text.specs.Steps.Search.{IsFirstFrom}
use Rattle.ladder_text.proofs.Faults.FirstFaults.{behind_grid, behind_names, of_boxed, of_words}
use Rattle.ladder_text.proofs.Faults.WellDrawn.{well_drawn_checked}
use Rattle.ladder_text.proofs.reading.read_well_drawn.Goals as goal

pub returns-clause-well_drawn : goal.returns-clause-well_drawn
returns-clause-well_drawn c =
    let w : c.in_ok-worded.worded ≡ c.in_ok-marked.marked = c.in_ok-worded.ensures in
    let s : c.in_ok-worded.worded ≡ c.in_ok-boxed.boxed = w ∙ c.in_ok-marked.ensures in
    let g : c.in_ok-worded.worded ≡ c.in_ok-grid.grid = s ∙ c.in_ok-boxed.ensures.same in
    let f = c.in_ok-grid.ensures in
    well_drawn_checked c.in_ok-worded.worded (rw g f.ascii) (rw g f.low) (rw g f.narrow) (rw g f.drawn) (rw g f.left_rail) (rw s c.in_ok-boxed.ensures.whole) (rw s c.in_ok-boxed.ensures.apart)
    (rw w c.in_ok-check_places.ensures.none) (record { things_named = c.in_ok-check_names.ensures.named; no_stray_name = c.in_ok-check_strays.ensures.words }) c.in_ok-check_strays.ensures.operands

pub returns-in_err-boxed-clause-first : goal.returns-in_err-boxed-clause-first
returns-in_err-boxed-clause-first c =
    let g = c.in_ok-grid.ensures in
    let k = c.in_err-boxed.field-0.0.kind in
    let p = c.in_err-boxed.field-0.0.place in
    let first : k ≢ Memory → IsFirstDrawFault (rows_of c.args.text.now) k p.row p.column
    = λ n. subst (λ (d : Rows). IsFirstDrawFault d k p.row p.column) g.same (behind_grid c.in_ok-grid.grid k p.row p.column g.ascii g.low g.narrow g.drawn g.left_rail (c.in_err-boxed.ensures.first n)) in
    search (rules, first)

pub returns-in_err-check_places-clause-first : goal.returns-in_err-check_places-clause-first
returns-in_err-check_places-clause-first c =
    let g = c.in_ok-grid.ensures in
    let s = c.in_ok-boxed.ensures in
    let k = c.in_err-check_places.field-0.0.kind in
    let p = c.in_err-check_places.field-0.0.place in
    let places : IsFirstFrom c.in_ok-boxed.boxed 5 k p.row p.column = subst (λ (d : Rows). IsFirstFrom d 5 k p.row p.column) c.in_ok-marked.ensures c.in_err-check_places.ensures.first in
    let boxed : IsFirstFrom c.in_ok-grid.grid 4 k p.row p.column = of_boxed c.boxes_are_whole.ensures c.in_ok-grid.grid c.in_ok-boxed.boxed k p.row p.column s.same s.whole s.apart places in
    let first : k ≢ Memory → IsFirstDrawFault (rows_of c.args.text.now) k p.row p.column
    = λ n. subst (λ (d : Rows). IsFirstDrawFault d k p.row p.column) g.same (behind_grid c.in_ok-grid.grid k p.row p.column g.ascii g.low g.narrow g.drawn g.left_rail boxed) in
    search (rules, first)

pub returns-in_err-check_names-clause-first : goal.returns-in_err-check_names-clause-first
returns-in_err-check_names-clause-first c =
    let g = c.in_ok-grid.ensures in
    let s = c.in_ok-boxed.ensures in
    let k = c.in_err-check_names.field-0.0.kind in
    let p = c.in_err-check_names.field-0.0.place in
    let first : k ≢ Memory → IsFirstDrawFault (rows_of c.args.text.now) k p.row p.column
    = λ n.
    let words : IsFirstFrom c.in_ok-marked.marked 5 k p.row p.column
    = of_words c.in_ok-marked.marked c.in_ok-worded.worded k p.row p.column c.in_ok-worded.ensures c.in_ok-check_places.ensures.none (c.in_err-check_names.ensures.first n) in
    let places : IsFirstFrom c.in_ok-boxed.boxed 5 k p.row p.column = subst (λ (d : Rows). IsFirstFrom d 5 k p.row p.column) c.in_ok-marked.ensures words in
    let boxed : IsFirstFrom c.in_ok-grid.grid 4 k p.row p.column = of_boxed c.boxes_are_whole.ensures c.in_ok-grid.grid c.in_ok-boxed.boxed k p.row p.column s.same s.whole s.apart places in
    subst (λ (d : Rows). IsFirstDrawFault d k p.row p.column) g.same (behind_grid c.in_ok-grid.grid k p.row p.column g.ascii g.low g.narrow g.drawn g.left_rail boxed) in
    search (rules, first)

pub returns-in_err-check_strays-clause-first : goal.returns-in_err-check_strays-clause-first
returns-in_err-check_strays-clause-first c =
    let g = c.in_ok-grid.ensures in
    let s = c.in_ok-boxed.ensures in
    let k = c.in_err-check_strays.field-0.0.kind in
    let p = c.in_err-check_strays.field-0.0.place in
    let first : k ≢ Memory → IsFirstDrawFault (rows_of c.args.text.now) k p.row p.column
    = λ n.
    let names : IsFirstFrom c.in_ok-worded.worded 8 k p.row p.column = behind_names c.in_ok-worded.worded k p.row p.column c.in_ok-check_names.ensures.named (c.in_err-check_strays.ensures.first n) in
    let words : IsFirstFrom c.in_ok-marked.marked 5 k p.row p.column = of_words c.in_ok-marked.marked c.in_ok-worded.worded k p.row p.column c.in_ok-worded.ensures c.in_ok-check_places.ensures.none names in
    let places : IsFirstFrom c.in_ok-boxed.boxed 5 k p.row p.column = subst (λ (d : Rows). IsFirstFrom d 5 k p.row p.column) c.in_ok-marked.ensures words in
    let boxed : IsFirstFrom c.in_ok-grid.grid 4 k p.row p.column = of_boxed c.boxes_are_whole.ensures c.in_ok-grid.grid c.in_ok-boxed.boxed k p.row p.column s.same s.whole s.apart places in
    subst (λ (d : Rows). IsFirstDrawFault d k p.row p.column) g.same (behind_grid c.in_ok-grid.grid k p.row p.column g.ascii g.low g.narrow g.drawn g.left_rail boxed) in
    search (rules, first)
