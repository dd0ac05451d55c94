use Rattle.ladder_text.specs.Places.{layout_of}
use Rattle.ladder_text.proofs.Words.NearWords.{words_apart}
use Rattle.ladder_text.proofs.names.names_above.name_above.Goals as goal

pub overlap_near-found-requires : goal.overlap_near-found-requires
overlap_near-found-requires c = rw c.words.ensures (words_apart (layout_of c.args.worded.now) c.saturating_sub-above.result)
