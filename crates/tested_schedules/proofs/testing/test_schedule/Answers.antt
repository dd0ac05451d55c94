use Rattle.std.proofs.Common.{◌≡◌, ◌+◌, List, [], ◌∷◌, length, refl, sym, subst, arith, length-append, Bor, ℕ}
use Rattle.std.proofs.lemmas.List.{map-append, length-map, length-reverse}
use Rattle.std.proofs.lemmas.Iterator.Splits.{YieldsList-from_str_split}
use Rattle.std.proofs.lemmas.Iterator.Consumers.{YieldsList-so_far, YieldsList-turn, YieldsList-end}
use Rattle.words.specs.Lines.{without_last}
use Rattle.world.specs.declared.sim_fault.SimFault.TheVariants.{Memory}
use Rattle.world.specs.Simulated.{from_one}
use Rattle.world.proofs.ScheduleReading.{err_and}
use Rattle.world.proofs.Ending.{line_words, words_read, first_read, all_read, line_at, one_read, lines_fit}
use Rattle.tested_schedules.specs.Tested.{EndsEarly, StopsAt}
use Rattle.tested_schedules.specs.Steps.Testing.{HasStopped, state_of}
use Rattle.tested_schedules.proofs.Standing.{Standing, standing_first, standing_next}
use Rattle.tested_schedules.proofs.Ending.{breaks_off, has_tested, runs_nothing, runs_out, stops_at}
use Rattle.tested_schedules.proofs.testing.test_schedule.Goals as goal

pub returns-in_err-testing-clause-fault : goal.returns-in_err-testing-clause-fault
returns-in_err-testing-clause-fault g c =
    err_and c.from_residual.result (λ fault. fault ≡ Memory) _ c.from_residual.ensures.1
    (λ f given. subst (EndsEarly c.args.plant.value c.args.max_number c.args.schedule.now (g.W.Write.contents c.args.out.now) (g.W.Write.contents c.args.out.now)) (sym given) (runs_nothing c.args.plant.value c.args.max_number c.args.schedule.now (g.W.Write.contents c.args.out.now)))

pub loop-text-init : goal.loop-text-init
loop-text-init g c = record {
  stands = standing_first (from_one c.args.plant.value c.args.max_number) (state_of c.in_ok-testing.testing) _ c.in_ok-testing.ensures.world c.in_ok-testing.ensures.none.0 c.in_ok-testing.ensures.none.1;
  known = c.in_ok-testing.ensures.known;
  number = refl;
}

pub overflow_add-number : goal.overflow_add-number
overflow_add-number g c =
    let turn = YieldsList-turn (YieldsList-from_str_split 10 (without_last 10 c.args.schedule.now) (omega arith) (cc) (cc) (cc)) c.loop-text.yielded _ c.loop-text.yielded_by _ _ c.in-Some.text c.in-Some.is c.next.ensures.steps in
    let fits = lines_fit c.args.schedule.now (length c.loop-text.yielded) (omega (arith, c.size_of-bytes.ensures, c.size_of-bytes.type_inv)) turn.0 in
    omega (arith, c.loop-text.invariant.number, fits)

pub do_line-requires-clause-few : goal.do_line-requires-clause-few
do_line-requires-clause-few g c =
    let turn = YieldsList-turn (YieldsList-from_str_split 10 (without_last 10 c.args.schedule.now) (omega arith) (cc) (cc) (cc)) c.loop-text.yielded _ c.loop-text.yielded_by _ _ c.in-Some.text c.in-Some.is c.next.ensures.steps in
    let fits = lines_fit c.args.schedule.now (length c.loop-text.yielded) (omega (arith, c.size_of-bytes.ensures, c.size_of-bytes.type_inv)) turn.0 in
    let read : length (words_read c.loop-text.yielded) ≡ length c.loop-text.yielded = length-map c.loop-text.yielded (λ (t : Bor (List ℕ)). line_words t.now) in
    omega (arith, c.loop-text.invariant.stands.so.few, length-reverse (words_read c.loop-text.yielded), read, fits)

pub loop-text-preserved : goal.loop-text-preserved
loop-text-preserved g c =
    let s = from_one c.args.plant.value c.args.max_number in
    let old = g.W.Write.contents c.args.out.now in
    let now = g.W.Write.contents c.loop-text.out in
    let next = g.W.Write.contents c.do_line.new.out in
    record {
      stands = subst (λ L. Standing s L (state_of c.do_line.new.self) old next) (sym (map-append (λ (t : Bor (List ℕ)). line_words t.now) c.loop-text.yielded (c.in-Some.text ∷ [])))
          (standing_next s (words_read c.loop-text.yielded) (state_of c.loop-text.testing) (state_of c.do_line.new.self) (line_words c.in-Some.text.now) old now next c.loop-text.invariant.stands c.in-Ok.ensures.ok);
      known = c.in-Ok.ensures.known;
      number = omega (arith, c.loop-text.invariant.number, length-append c.loop-text.yielded (c.in-Some.text ∷ []));
    }

pub returns-in-Err-Syntax-clause-fault : goal.returns-in-Err-Syntax-clause-fault
returns-in-Err-Syntax-clause-fault g c =
    let text = c.args.schedule.now in
    let read = c.loop-text.yielded in
    let words = line_words c.in-Some.text.now in
    let t = state_of c.loop-text.testing in
    let old = g.W.Write.contents c.args.out.now in
    let now = g.W.Write.contents c.loop-text.out in
    let next = g.W.Write.contents c.do_line.new.out in
    let so_far = YieldsList-so_far (YieldsList-from_str_split 10 (without_last 10 c.args.schedule.now) (omega arith) (cc) (cc) (cc)) read _ c.loop-text.yielded_by in
    let turn = YieldsList-turn (YieldsList-from_str_split 10 (without_last 10 c.args.schedule.now) (omega arith) (cc) (cc) (cc)) read _ c.loop-text.yielded_by _ _ c.in-Some.text c.in-Some.is c.next.ensures.steps in
    let h = subst (HasStopped t (state_of c.do_line.new.self) words now next) c.in-Err-Syntax.field-0-is c.in-Err-Syntax.ensures.fault in
    subst (λ k. StopsAt c.args.plant.value c.args.max_number text (k + 1) old next) (sym c.loop-text.invariant.number)
    (stops_at c.args.plant.value c.args.max_number text (length read) (words_read read) t words old now next (first_read text read so_far) (line_at text (length read) c.in-Some.text.now turn.0 turn.1) c.loop-text.invariant.stands h)

pub returns-in-Err-Write-clause-fault : goal.returns-in-Err-Write-clause-fault
returns-in-Err-Write-clause-fault g c =
    let text = c.args.schedule.now in
    let read = c.loop-text.yielded in
    let words = line_words c.in-Some.text.now in
    let t = state_of c.loop-text.testing in
    let new = state_of c.do_line.new.self in
    let old = g.W.Write.contents c.args.out.now in
    let now = g.W.Write.contents c.loop-text.out in
    let next = g.W.Write.contents c.do_line.new.out in
    let so_far = YieldsList-so_far (YieldsList-from_str_split 10 (without_last 10 c.args.schedule.now) (omega arith) (cc) (cc) (cc)) read _ c.loop-text.yielded_by in
    let turn = YieldsList-turn (YieldsList-from_str_split 10 (without_last 10 c.args.schedule.now) (omega arith) (cc) (cc) (cc)) read _ c.loop-text.yielded_by _ _ c.in-Some.text c.in-Some.is c.next.ensures.steps in
    let h = subst (HasStopped t new words now next) c.in-Err-Write.field-0-is c.in-Err-Write.ensures.fault in
    breaks_off c.args.plant.value c.args.max_number text (length read) (words_read read) t new words old now next
    (one_read text (length read) c.in-Some.text.now (words_read read) turn.0 turn.1 (first_read text read so_far)) c.loop-text.invariant.stands h

pub returns-in-Err-Memory-clause-fault : goal.returns-in-Err-Memory-clause-fault
returns-in-Err-Memory-clause-fault g c =
    let text = c.args.schedule.now in
    let read = c.loop-text.yielded in
    let words = line_words c.in-Some.text.now in
    let t = state_of c.loop-text.testing in
    let old = g.W.Write.contents c.args.out.now in
    let now = g.W.Write.contents c.loop-text.out in
    let next = g.W.Write.contents c.do_line.new.out in
    let so_far = YieldsList-so_far (YieldsList-from_str_split 10 (without_last 10 c.args.schedule.now) (omega arith) (cc) (cc) (cc)) read _ c.loop-text.yielded_by in
    let h = subst (HasStopped t (state_of c.do_line.new.self) words now next) c.in-Err-Memory.field-0-is c.in-Err-Memory.ensures.fault in
    runs_out c.args.plant.value c.args.max_number text (length read) (words_read read) t old now next (first_read text read so_far) c.loop-text.invariant.stands h

pub returns-clause-ok : goal.returns-clause-ok
returns-clause-ok g c =
    let text = c.args.schedule.now in
    let end = YieldsList-end (YieldsList-from_str_split 10 (without_last 10 c.args.schedule.now) (omega arith) (cc) (cc) (cc)) c.loop-text.yielded _ c.loop-text.yielded_by _ _ c.in-None.is c.next.ensures.steps in
    has_tested c.args.plant.value c.args.max_number text (words_read c.loop-text.yielded) (state_of c.loop-text.testing) (g.W.Write.contents c.args.out.now) (g.W.Write.contents c.loop-text.out) c.ended.result
    (all_read text c.loop-text.yielded end.0) c.loop-text.invariant.stands c.ended.ensures.world c.ended.ensures.events c.ended.ensures.unmet
