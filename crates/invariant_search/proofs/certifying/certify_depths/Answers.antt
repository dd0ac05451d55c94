use Rattle.std.proofs.Common.{ℕ, List, length, ap, subst, ◌∙◌}
use Rattle.std.proofs.lemmas.List.{length-reverse}
use Rattle.transition_systems.specs.declared.certificate.Certificate.{Certificate}
use Rattle.transition_systems.specs.Systems.{NeverBadWithin}
use Rattle.invariant_search.proofs.certifying.certify_depths.Goals as goal

pub returns-clause-never : goal.returns-clause-never
returns-clause-never c =
    subst (λ (n : ℕ). NeverBadWithin c.args.system.now n)
    (ap (λ (cs : List Certificate). length cs) c.as_slice.ensures.value
    ∙ ap (λ (cs : List Certificate). length cs) c.reverse.ensures.items
    ∙ length-reverse c.in_ok-certificates.certificates.items
    ∙ c.in_ok-certificates.ensures)
    c.in_ok-check_depths.ensures.never
