use Rattle.text_commands.proofs.test_words.next_expectation.Goals as goal

pub returns-clause-err : goal.returns-clause-err
returns-clause-err c = rw (c.split_at_equals.ensures.before, c.split_at_equals-2.ensures.behind, c.split_at_equals.ensures.behind) at c.next_series.ensures.err
