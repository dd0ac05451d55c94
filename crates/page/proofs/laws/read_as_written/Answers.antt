use Rattle.page.proofs.Reading.{escaped_read}
use Rattle.page.proofs.laws.read_as_written.Goals as goal

pub returns : goal.returns
returns c = escaped_read
