use Rattle.text_commands.proofs.Expecting.{other_declared}
use Rattle.text_commands.proofs.expectations.difference_at.Goals as goal

pub name_at-requires : goal.name_at-requires
name_at-requires c = other_declared c.args.declarations.now c.args.expected.now c.args.k c.args.state.now.slots c.in-Some.place c.in-Some.value c.in-Some.wanted c.requires.declared c.in-Some.ensures
