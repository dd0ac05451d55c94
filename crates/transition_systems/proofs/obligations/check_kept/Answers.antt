use Rattle.std.proofs.Common.{◌≡◌, true, List, sym, ap, subst, ◌∙◌}
use Rattle.std.proofs.lemmas.List.{take_all}
use Rattle.std.proofs.lemmas.List.Elements.{All-more}
use Rattle.std.specs.Global.{Vec}
use Rattle.clauses.specs.declared.literal.Literal.{Literal}
use Rattle.clauses.specs.Clauses.{clause_value}
use Rattle.gates.specs.Signals.{bit_of}
use Rattle.transition_systems.specs.Systems.{bits_at}
use Rattle.transition_systems.specs.Steps.Inductive.{AreShown}
use Rattle.transition_systems.proofs.obligations.check_kept.Goals as goal

pub loop-place-preserved : goal.loop-place-preserved
loop-place-preserved c = λ formula following v trues.
    let IsOn : Vec Literal → Type 0 = λ d. clause_value (bit_of (bits_at v c.args.next.now)) d.items ≡ true in
    let item = c.index-clauses-place.result in
    let shown = c.is_shown.ensures c.if-not-is_shown.false formula following v trues in
    let here : IsOn item =
    ap (clause_value (bit_of (bits_at v c.args.next.now))) (sym c.as_slice.ensures.value) ∙ sym (c.in_ok-over.ensures v)
    ∙ ap (clause_value v) (sym c.as_slice-in-loop-place.ensures.value) ∙ shown in
    All-more IsOn c.args.clauses.now c.loop-place.place item c.loop-place-test.true (c.loop-place.invariant formula following v trues)
    (subst IsOn c.index-clauses-place.is here)

pub returns : goal.returns
returns c =
    subst (λ (clauses : List (Vec Literal)). AreShown c.args.steps.now clauses c.args.next.now)
    (take_all c.loop-place.place c.args.clauses.now c.loop-place-test.false) c.loop-place.invariant
