use Rattle.std.proofs.Common.{◌≡◌, length, take, true, nat_le, rules, tests}
use Rattle.words.specs.Chars.{same_word}
use Rattle.words.proofs.DurationPrefix.{behind-is}
use Rattle.words.proofs.durations.is_duration_behind.Goals as goal

pub returns : goal.returns
returns c =
    let a = c.args in
    let n : nat_le a.len (length a.word.now) ≡ true = search (rules, tests) in
    let t : same_word (take a.len a.word.now) a.front.now ≡ true = search (rules, tests) in
    rw (behind-is a.front.now a.len a.word.now n t) (search (rules, tests))
