-- What a comparison of two evaluations looks at.
use Rattle.std.specs.Prelude.{◌≡◌}
use Rattle.evaluation.specs.States.{AreSame}
use Rattle.evaluation.specs.Meaning.{Evaluated}
use Rattle.evaluation.specs.Messages.{message_of}

-- two evaluations with the same contents, waiting places aside
pub record HaveSameContents (x y : Evaluated) : Type 0 where
  pub ticket : x.ticket ≡ y.ticket
  pub message : message_of x ≡ message_of y
  pub dt : x.dt ≡ y.dt
  pub inputs : x.inputs ≡ y.inputs
  pub takes : x.takes ≡ y.takes
  pub before : AreSame x.before y.before
  pub after : AreSame x.after y.after
  pub code : x.code ≡ y.code
