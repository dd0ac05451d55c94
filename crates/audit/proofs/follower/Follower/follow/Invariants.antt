-- The resource has gone on from where it stood, one line each time.
use Rattle.std.proofs.Common.{◌≡◌, ℕ, ◌+◌}
use Rattle.plant.specs.PlantValue.{PlantValue}
use Rattle.audit.specs.Lines.{AreLeft}
use Rattle.audit.specs.Steps.Standings.{journal_in, Goes}
use Rattle.audit.specs.Steps.Following.{IsFollowing}
use Rattle.audit.proofs.follower.Follower.follow.Given as goal

abbrev pub invariant-loop-line : goal.invariant-loop-line
invariant-loop-line l = record {
  goes : Goes l.fn.book l.book l.initial.standing l.standing;
  left : AreLeft (journal_in l.standing) l.trail.past.left.items;
  follows : (plant : PlantValue) (n : ℕ) → IsFollowing plant l.fn.book n l.lines.items l.initial.standing l.initial.trail → IsFollowing plant l.book n l.lines.items l.standing l.trail;
  at : l.trail.at ≡ l.initial.trail.at + l._line;
  same : l._line ≡ 0 → l.book ≡ l.fn.book;
}
