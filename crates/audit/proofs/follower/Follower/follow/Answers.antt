-- One line more, and then the last one that was done.
use Rattle.std.proofs.Common.{List, arith, sym, subst}
use Rattle.audit.specs.declared.line.Line.{Line}
use Rattle.audit.specs.Steps.Following.{IsFollowing}
use Rattle.audit.specs.Steps.Settled.{IsSettledAt}
use Rattle.audit.proofs.GoingOn.{goes_twice}
use Rattle.audit.proofs.Comings.{lines_done}
use Rattle.audit.proofs.follower.Follower.follow.Goals.{else-loop-line-test, then-loop-line-test+in_ok-next+then-not-done}
use Rattle.audit.proofs.follower.Follower.follow.Goals as goal

pub loop-line-preserved : goal.loop-line-preserved
loop-line-preserved c = record {
  goes = goes_twice c.args.book.now c.loop-line.book c.do_line.new.book c.args.self.standing c.loop-line.standing c.in_ok-next.next c.loop-line.invariant.goes c.in_ok-next.ensures.goes;
  left = c.in_ok-next.ensures.left;
  follows = λ plant n f.
      subst (λ (ls : List Line). IsFollowing plant c.do_line.new.book n ls c.in_ok-next.next c.do_line.new.trail) c.as_slice.ensures.value
      (c.in_ok-next.ensures.follows plant n
      (subst (λ (ls : List Line). IsFollowing plant c.loop-line.book n ls c.loop-line.standing c.loop-line.trail) (sym c.as_slice.ensures.value) (c.loop-line.invariant.follows plant n f))).0;
  at = omega (arith, c.in_ok-next.ensures.more c.if-not-done.false, c.loop-line.invariant.at);
  same = λ none. absurd (omega (arith, none));
}

pub returns-clause-goes : goal.returns-clause-goes
returns-clause-goes c =
    elim c.loop-line-test.branch [
      | else-loop-line-test w ↦ rw (w.standing-is, w.book-is) c.loop-line.invariant.goes
      | then-loop-line-test+in_ok-next+then-not-done w ↦
          rw (w.standing-is, w.book-is)
          (goes_twice c.args.book.now c.loop-line.book w.do_line.new.book c.args.self.standing c.loop-line.standing w.in_ok-next.next c.loop-line.invariant.goes w.in_ok-next.ensures.goes)
    ]

pub returns-clause-follows : goal.returns-clause-follows
returns-clause-follows c =
    elim c.loop-line-test.branch [
      | else-loop-line-test w ↦
          rw (w.standing-is, w.trail-is, w.book-is)
          (λ plant n f. (
            c.loop-line.invariant.follows plant n f,
            λ isnt. lines_done c.loop-line.book c.args.self.lines.items c.loop-line.trail c.args.self.trail.at c.loop-line._line c.loop-line.invariant.at (omega (arith, w.loop-line-test.false, c.len-line-end.ensures, c.args.self.lines.ok.0)),
          ))
      | then-loop-line-test+in_ok-next+then-not-done w ↦
          rw (w.standing-is, w.trail-is, w.book-is)
          (λ plant n f.
          let before = subst (λ (ls : List Line). IsFollowing plant c.loop-line.book n ls c.loop-line.standing c.loop-line.trail) (sym w.as_slice.ensures.value) (c.loop-line.invariant.follows plant n f) in
          let r = w.in_ok-next.ensures.follows plant n before in (
            subst (λ (ls : List Line). IsFollowing plant w.do_line.new.book n ls w.in_ok-next.next w.do_line.new.trail) w.as_slice.ensures.value r.0,
            λ isnt. subst (λ (ls : List Line). IsSettledAt w.do_line.new.book ls w.do_line.new.trail) w.as_slice.ensures.value (r.1 w.if-not-done.true),
          ))
    ]
