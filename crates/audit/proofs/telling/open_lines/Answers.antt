use Rattle.std.proofs.Common.{◌≡◌, ◌∙◌, [], ◌∷◌, Option, Some, length, slice_get, refl, ap, sym, subst, append-nil}
use Rattle.std.specs.Option.{option_to_list}
use Rattle.std.specs.Global.{Vec}
use Rattle.std.proofs.lemmas.Option.{slice_get_read}
use Rattle.audit.specs.declared.reason.Unshown.{Unshown}
use Rattle.audit.specs.Steps.Settled.{IsToldOf}
use Rattle.audit.proofs.Tellings.{told_more}
use Rattle.audit.proofs.telling.open_lines.Goals.{in-Some+in_ok-push, in_default}
use Rattle.audit.proofs.telling.open_lines.Goals as goal

pub loop-n-preserved : goal.loop-n-preserved
loop-n-preserved c =
    let fs = c.args.followers.now in
    let f = c.index-followers-n.result in
    let at : slice_get fs c.loop-n.n ≡ Some f = slice_get_read fs (length fs) c.loop-n.n f refl c.loop-n-test.true c.index-followers-n.is in
    elim c.match-unshown_of.branch [
      | in-Some+in_ok-push w ↦
          told_more c.args.book.now fs c.loop-n.n c.loop-n.unshown.items (w.in-Some.found ∷ []) c.match-unshown_of.unshown.items f at c.loop-n.invariant
          (subst (λ (o : Option Unshown). IsToldOf c.args.book.now fs f (option_to_list o)) w.in-Some.is c.unshown_of.ensures)
          (ap (λ (v : Vec Unshown). v.items) w.unshown-is ∙ w.in_ok-push.ensures.items)
      | in_default w ↦
          told_more c.args.book.now fs c.loop-n.n c.loop-n.unshown.items [] c.match-unshown_of.unshown.items f at c.loop-n.invariant
          (subst (λ (o : Option Unshown). IsToldOf c.args.book.now fs f (option_to_list o)) w.in_default.is c.unshown_of.ensures)
          (ap (λ (v : Vec Unshown). v.items) w.unshown-is ∙ sym (append-nil c.loop-n.unshown.items))
    ]
