use Rattle.std.proofs.Common.{◌∙◌, ap}
use Rattle.words.specs.Chars.{is_word_char}
use Rattle.ladder_text.specs.Places.{layout_of}
use Rattle.ladder_text.proofs.Words.RowWords.{word_goes_on}
use Rattle.ladder_text.proofs.names.spans.goes_on_with.Goals as goal

pub returns-then-bare : goal.returns-then-bare
unfolding layout_of
returns-then-bare c =
    let p = layout_of c.args.marked.now in
    c.is_word_char.ensures ∙ ap is_word_char c.requires.char ∙ word_goes_on p c.args.row c.args.column (c.requires.bare c.if-bare.true) c.requires.before
