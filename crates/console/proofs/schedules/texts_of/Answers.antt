-- The run of the world at the end is that of its events.
use Rattle.std.proofs.lemmas.Result.{IfOk-weaker}
use Rattle.console.proofs.schedules.texts_of.Goals as goal

pub returns : goal.returns
returns c = IfOk-weaker c.event_texts.result _ _ (λ texts is. record {
  made = c.log.ensures.run;
  wanted = c.wanted_for-wanted.result;
  asked = c.wanted_for-wanted.ensures;
  texts_are = rw (c.plant.ensures, c.log.ensures.value) at is;
}) c.event_texts.ensures
