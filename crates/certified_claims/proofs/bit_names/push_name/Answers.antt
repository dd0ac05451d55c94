use Rattle.std.proofs.Common.{string_bytes, refl}
use Rattle.certified_claims.proofs.Naming.{pushed}
use Rattle.certified_claims.proofs.bit_names.push_name.Goals as goal

pub returns : goal.returns
returns c = pushed (λ n. string_bytes n) c.args.names.now.items _ c.args.name (string_bytes c.args.name) c.in_ok-push.ensures.items refl
