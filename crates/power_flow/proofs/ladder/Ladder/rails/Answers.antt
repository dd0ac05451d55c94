use Rattle.std.proofs.Common.{◌≡◌, All, subst, sym}
use Rattle.std.proofs.lemmas.List.Elements.{All-map}
use Rattle.network.specs.Links.{Diagram}
use Rattle.power_flow.specs.LadderValue.{LadderValue}
use Rattle.power_flow.specs.Steps.Circuit.{circuit_diagram}
use Rattle.power_flow.proofs.ladder.Ladder.rails.Goals as goal

pub returns : goal.returns
returns c =
    let inside = c.self.inside in
    let Is : LadderValue → Type 0 = λ l. All (λ (d : Diagram). d.rails ≡ c.as_slice.result.now) l.networks in
    subst Is c.self.view_is
    (All-map (λ (d : Diagram). d.rails ≡ c.as_slice.result.now) (circuit_diagram inside.rails.items) inside.circuits.items (λ k d lt. sym c.as_slice.ensures.value))
