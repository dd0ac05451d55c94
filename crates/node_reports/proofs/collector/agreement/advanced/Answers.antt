-- The steps have come to the place behind the entry, or made something else next.
use Rattle.std.proofs.Common.{◌≡◌, ℕ, ◌∷◌, Option, Some, None, MatchOption, List, drop, ap, sym, ◌∙◌}
use Rattle.evaluation.specs.declared.name.Name.{Name}
use Rattle.evaluation.specs.Meaning.{Evaluated}
use Rattle.node_reports.specs.Journals.{made}
use Rattle.node_reports.specs.Steps.Collecting.{HasGoneOn, CantGoOn}
use Rattle.node_reports.proofs.ByPlant.{made_from}
use Rattle.node_reports.proofs.Walking.{come_on, cant_go_on}
use Rattle.node_reports.proofs.collector.agreement.advanced.Goals as goal

pub behind-requires : goal.behind-requires
behind-requires c = made_from (λ (x : Evaluated). x.name.task ≡ c.args.entry.now.name.task → x.code ≡ c.args.entry.now.code) c.args.from c.args.steps.now c.requires

pub returns : goal.returns
returns c = by c.behind.result c.behind.ensures
  where
    own : c.args.entry.now.name.task.resource ≡ c.args.resource
    own = ap (λ (n : Name). n.task.resource) (sym c.name.ensures) ∙ c.if-name-resource.false

    by : (to : Option ℕ)
        → MatchOption to ((rest : List Evaluated) → made (drop c.args.from c.args.steps.now) ≡ c.args.entry.now ∷ rest → ⊥)
        (λ to. made (drop c.args.from c.args.steps.now) ≡ c.args.entry.now ∷ made (drop to c.args.steps.now))
        → MatchOption to (CantGoOn c.args.resource c.args.steps.now c.args.from c.args.entry.now) (λ to. HasGoneOn c.args.resource c.args.steps.now c.args.from to c.args.entry.now)
    by None other = cant_go_on c.args.resource c.args.steps.now c.args.from c.args.entry.now own other
    by (Some to) step = come_on c.args.resource c.args.steps.now c.args.from to c.args.entry.now own step
