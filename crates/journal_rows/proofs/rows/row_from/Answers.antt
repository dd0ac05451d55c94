-- One file more, or none.
use Rattle.std.proofs.Common.{◌∙◌}
use Rattle.journal_rows.proofs.GoingOn.{text_at, is_there, found_next, go_on_more}
use Rattle.journal_rows.proofs.rows.row_from.Goals as goal

pub returns-in_default : goal.returns-in_default
returns-in_default c =
    let texts = c.args.texts.now in
    let last = c.loop-further.last in
    record {
      further = c.loop-further.further;
      last = last;
      text = text_at texts last;
      go_on = c.loop-further.invariant.2;
      lines_are = c.loop-further.invariant.1;
      last_is = is_there texts last c.loop-further.invariant.0;
      ends = found_next texts c.loop-further.further (text_at texts last).now _ _ _ c.digest_of.ensures (c.as_bytes.ensures.value ∙ c.in_ok-front.ensures) c.in_default.ensures.place;
    }

pub loop-further-preserved : goal.loop-further-preserved
loop-further-preserved c =
    let texts = c.args.texts.now in
    let last = c.loop-further.last in
    let next = c.in-Some.next in (
      c.in-Some.ensures.within,
      c.in_ok-go_on.ensures.lines,
      go_on_more texts c.args.first c.loop-further.further last next _ _ _ _ _ _ (text_at texts last) (text_at texts next) c.loop-further.invariant.2
          (is_there texts last c.loop-further.invariant.0) (is_there texts next c.in-Some.ensures.within)
          (found_next texts c.loop-further.further (text_at texts last).now _ _ _ c.digest_of.ensures (c.as_bytes.ensures.value ∙ c.in_ok-front.ensures) c.in-Some.ensures.place)
          c.in_ok-go_on.ensures.files c.in_ok-go_on.ensures.ended c.in_ok-go_on.ensures.text,
    )
