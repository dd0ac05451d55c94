use Rattle.std.proofs.Common.{◌≡◌, ◌∙◌, List, ap, subst}
use Rattle.std.specs.Global.{Vec}
use Rattle.std_blocks.specs.declared.value.Value.{Value}
use Rattle.plant.specs.PlantValue.{PlantValue}
use Rattle.audit.specs.declared.line.Line.{Line}
use Rattle.audit.specs.Lines.{Opens, item_at}
use Rattle.audit.specs.Steps.Standings.{empty_book, IsStanding, journal_in}
use Rattle.audit.specs.Steps.Following.{HasBegun}
use Rattle.audit.proofs.Comings.{begun_follows}
use Rattle.audit.proofs.follower.Follower.new.Goals as goal

pub returns-clause-at : goal.returns-clause-at
returns-clause-at c =
    let n = c.args.resource in
    let s = c.in_ok-begin.field-0 in
    let opening = c.in_ok-opening.opening.items in
    let stands = subst (λ (q : PlantValue). IsStanding (empty_book q) s × ((journal_in s).resource ≡ n)) c.in_ok-shared.ensures c.in_ok-begin.ensures.stands in
    let begun = subst (λ (q : PlantValue). HasBegun q n opening s) c.in_ok-shared.ensures c.in_ok-begin.ensures.begun in
    let opens = subst (λ (q : PlantValue). Opens q n (item_at c.args.lines.items 0) opening) c.deref.ensures
    (subst (λ (ls : List Line). Opens c.deref.result.now n (item_at ls 0) opening) c.as_slice.ensures.value c.in_ok-opening.ensures.opens) in
    record {
      stands = stands.0;
      resource_is = stands.1;
      followed = begun_follows c.args.plant.now.value (empty_book c.args.plant.now.value) n opening c.args.lines.items s c.new-2.result c.new.result begun opens c.new-2.ensures
          (ap (λ (v : Vec (List Value)). v.items) c.new.ensures ∙ c.in_ok-left.ensures ∙ c.as_slice-2.ensures.value);
    }
