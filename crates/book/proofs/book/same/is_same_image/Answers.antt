-- Both tests tell whether the images are equal.
use Rattle.std.proofs.lemmas.Bool.Decides.{same_from_decides}
use Rattle.book.proofs.Deciding.{Decides-values}
use Rattle.book.proofs.book.same.is_same_image.Goals as goal

pub returns : goal.returns
returns c = same_from_decides _ _ c.same.ensures (Decides-values c.args.image.now c.args.other.now)
