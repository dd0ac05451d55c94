use Rattle.std.proofs.Common.{◌≡◌, ℕ, Some, length, slice_get, sym, arith, subst, refl, ◌∙◌}
use Rattle.std.proofs.lemmas.Bool.{false≢true}
use Rattle.std.proofs.lemmas.Option.{slice_get_read, slice_get_within}
use Rattle.lists.proofs.Places.{one_more}
use Rattle.power_flow.specs.LadderValue.{LadderValue, Fits}
use Rattle.power_flow.specs.StateValue.{StateValue}
use Rattle.task_codes.specs.CodeValue.{ProgramValue}
use Rattle.evaluation.proofs.ScannedPrograms.{program_of}
use Rattle.evaluation.proofs.fits.are_states_of.Goals as goal

pub returns-then-not-fits_snapshot : goal.returns-then-not-fits_snapshot
returns-then-not-fits_snapshot c =
    let p = program_of c.args.code.now c.loop-i.i c.in-Some.ladder.now c.in-Some.ensures in
    let s = c.index-states-i.result in
    let is : slice_get c.args.states.now c.loop-i.i ≡ Some s = slice_get_read c.args.states.now (length c.args.states.now) c.loop-i.i s refl (omega arith) c.index-states-i.is in (
      λ h. absurd (false≢true h),
      λ are. sym c.if-not-fits_snapshot.true ∙ c.fits_snapshot.ensures.1 (subst (λ (l : LadderValue). Fits l s) p.2 (are.each c.loop-i.i p.0 s p.1 is)),
    )

pub loop-i-preserved : goal.loop-i-preserved
loop-i-preserved c =
    let p = program_of c.args.code.now c.loop-i.i c.in-Some.ladder.now c.in-Some.ensures in
    let s = c.index-states-i.result in
    let is : slice_get c.args.states.now c.loop-i.i ≡ Some s = slice_get_read c.args.states.now (length c.args.states.now) c.loop-i.i s refl (omega arith) c.index-states-i.is in
    one_more (λ (k : ℕ) (p : ProgramValue) (s : StateValue). Fits p.ladder s) c.args.code.now.programs c.args.states.now c.loop-i.i p.0 s p.1 is
    (subst (λ (l : LadderValue). Fits l s) (sym p.2) (c.fits_snapshot.ensures.0 c.if-not-fits_snapshot.false)) c.loop-i.invariant

pub returns : goal.returns
returns c = (
  λ _. record {
    many = c.if-states-programs.false ∙ c.programs.ensures.count;
    each = λ k p s at is. c.loop-i.invariant k p s (let lt = slice_get_within c.args.states.now k s is in omega arith) at is;
  },
  λ _. refl,
)
