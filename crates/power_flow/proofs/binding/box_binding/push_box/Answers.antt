use Rattle.std.proofs.Common.{[], ◌∷◌, ◌<◌, All, length, ap, arith}
use Rattle.std.proofs.lemmas.List.{append-nil, length-append}
use Rattle.std.proofs.lemmas.List.Elements.{All-head, All-push}
use Rattle.lists.proofs.Zips.{zip_push}
use Rattle.scan_steps.specs.declared.bound_box.BoundBox.{BoundBox}
use Rattle.scan_steps.specs.declared.bound_box.BoundOutput.{BoundOutput}
use Rattle.name_faults.specs.Steps.Named.{IsNamedBox}
use Rattle.power_flow.specs.Steps.BoxTable.{ArePinsIn}
use Rattle.power_flow.specs.Steps.BoxTable.{IsBoundBox}
use Rattle.power_flow.proofs.Boxes.BoxesBinding.{none_pushed}
use Rattle.power_flow.proofs.binding.box_binding.push_box.Goals as goal

pub returns-in_default : goal.returns-in_default
returns-in_default c =
    let none = none_pushed c.args.element.now c.in_default.not-Box in
    record {
      count = (let zero = ap length none in omega arith);
      within = λ rows all were. were;
      bound = λ before all zip. rw (none, append-nil) zip;
    }

pub returns-in_ok-push-in-Box-clause-count : goal.returns-in_ok-push-in-Box-clause-count
returns-in_ok-push-in-Box-clause-count c = rw (c.in-Box.is, c.in_ok-push-in-Box.ensures.items) (length-append c.args.boxes.now.items (c.in_ok-bound-in-Box.bound ∷ []))

pub returns-in_ok-push-in-Box-clause-within : goal.returns-in_ok-push-in-Box-clause-within
returns-in_ok-push-in-Box-clause-within c = λ rows all were.
    let b = c.in-Box.boxed in
    let pins = All-head (ArePinsIn c.args.top rows) b [] (rw c.in-Box.is at all) in
    let P : BoundBox → Type 0 = λ e. All (λ (o : BoundOutput). o.row < rows) e.outputs.items in
    let within = (rw c.drawn.ensures at c.in_ok-bound-in-Box.ensures.within) rows pins in
    rw c.in_ok-push-in-Box.ensures.items (All-push P c.args.boxes.now.items c.in_ok-bound-in-Box.bound were within)

pub returns-in_ok-push-in-Box-clause-bound : goal.returns-in_ok-push-in-Box-clause-bound
returns-in_ok-push-in-Box-clause-bound c = λ before all zip.
    let b = c.in-Box.boxed in
    let e = c.in_ok-bound-in-Box.bound in
    let named = All-head (IsNamedBox c.args.declarations.now) b [] (rw c.in-Box.is at all) in
    let R = IsBoundBox c.args.declarations.now c.args.top in
    let bound = (rw c.drawn.ensures at c.in_ok-bound-in-Box.ensures.bound) named in
    rw (c.in-Box.is, c.in_ok-push-in-Box.ensures.items) (zip_push R before c.args.boxes.now.items b e zip bound)
