use Rattle.text_commands.proofs.SeriesWords.{parts_more}
use Rattle.text_commands.proofs.restart_words.parts_of_words.Goals as goal

pub loop-word-preserved : goal.loop-word-preserved
loop-word-preserved c =
    let more = rw c.deref.ensures.value at c.in_ok-extend_from_slice.ensures.items in
    parts_more c.args.words.now c.loop-word.word-index _ _ _ _ c.loop-word-test.true c.loop-word.invariant c.in_ok-more.ensures more
