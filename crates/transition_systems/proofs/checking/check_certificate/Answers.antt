use Rattle.std.proofs.Common.{Bool, List, subst}
use Rattle.std.specs.Global.{Vec}
use Rattle.clauses.specs.declared.literal.Literal.{Literal}
use Rattle.transition_systems.specs.Certificates.{HoldOf, LeadTo}
use Rattle.transition_systems.proofs.Induction.{never_bad}
use Rattle.transition_systems.proofs.checking.check_certificate.Goals as goal

pub returns-clause-inductive : goal.returns-clause-inductive
returns-clause-inductive c =
    let t = c.args.system.now in
    let clauses = c.args.certificate.now.clauses.items in
    let first : HoldOf c.as_slice-clauses.result.now t.first.items =
    subst (λ (bits : List Bool). HoldOf c.as_slice-clauses.result.now bits) c.as_slice-first.ensures.value (c.hold_of.ensures c.if-not-hold_of.false) in
    record {
      at_first = subst (λ (cs : List (Vec Literal)). HoldOf cs t.first.items) c.as_slice-clauses.ensures.value first;
      ever = subst (λ (cs : List (Vec Literal)). LeadTo t clauses cs) c.as_slice-clauses.ensures.value c.in_ok-check_step.ensures;
    }

pub returns-clause-never : goal.returns-clause-never
returns-clause-never c = never_bad c.args.system.now c.args.certificate.now.clauses.items (returns-clause-inductive c)
