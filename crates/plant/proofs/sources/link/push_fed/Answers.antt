use Rattle.std.proofs.Common.{◌≡◌, ◌∙◌, true, false, map, sym}
use Rattle.std.specs.Borrow.{Bor}
use Rattle.plant_grammar.specs.Names.{is_named}
use Rattle.plant.specs.Steps.FedUses.{FedUseValue}
use Rattle.plant.proofs.FedUses.{fed_pushed, fed_left}
use Rattle.plant.proofs.sources.link.push_fed.Goals as goal

pub returns-then-not-is_same : goal.returns-then-not-is_same
returns-then-not-is_same c =
    let other : is_named c.args.run.now.run.task c.args.task.now.name ≡ false = rw c.task.ensures at (sym c.is_same.ensures ∙ c.if-not-is_same.true) in
    fed_left (map (λ (v : Bor FedUseValue). v.now) c.args.runs.now.items) c.args.run.now c.args.task.now other

pub returns : goal.returns
returns c =
    let named : is_named c.args.run.now.run.task c.args.task.now.name ≡ true = rw c.task.ensures at (sym c.is_same.ensures ∙ c.if-not-is_same.false) in
    fed_pushed c.args.runs.now.items c.push.new.self.items c.args.run c.args.task.now c.in_ok-push.ensures.items named
