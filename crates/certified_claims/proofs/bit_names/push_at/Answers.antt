use Rattle.std.proofs.Common.{◌≡◌, ◌++◌, map, string_bytes, sym, subst, ◌∙◌}
use Rattle.std.proofs.lemmas.Option.{none-some}
use Rattle.declared_names.specs.declared.declarations.Declaration.{Declaration}
use Rattle.certified_claims.specs.BitNames.{declared_bits}
use Rattle.certified_claims.proofs.Naming.{same_some}
use Rattle.certified_claims.proofs.bit_names.push_at.Goals as goal

pub returns-in_ok-push_declared-in-Some : goal.returns-in_ok-push_declared-in-Some
returns-in_ok-push_declared-in-Some c = λ d there.
    subst (λ (d : Declaration). map (λ n. string_bytes n) c.push_declared.new.names.items ≡ map (λ n. string_bytes n) c.args.names.now.items ++ declared_bits d.name d.declared)
    (same_some _ d (sym c.in-Some.ensures ∙ there)) c.in_ok-push_declared-in-Some.ensures

pub returns-in-None : goal.returns-in-None
returns-in-None c = λ d there. absurd (none-some d (sym c.in-None.ensures ∙ there))
