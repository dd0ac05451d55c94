use Rattle.std.proofs.Common.{◌≡◌, true, Some, ◌∙◌, sym, subst}
use Rattle.std.proofs.lemmas.Bool.{OnTrue_at}
use Rattle.std.proofs.lemmas.Option.{get_or_from_slice_get, slice_get_within}
use Rattle.std.specs.Prelude.{slice_get}
use Rattle.declared_names.specs.Kinds.{kind_of}
use Rattle.text_commands.specs.Steps.Setting.{kind_at}
use Rattle.text_commands.specs.Series.{IsVariableAt}
use Rattle.text_commands.proofs.opening.set_row.Goals as goal

pub returns-in-Some-clause-slots : goal.returns-in-Some-clause-slots
returns-in-Some-clause-slots c =
    let ds = c.requires.0 in
    let of = c.requires.2 in
    let found : slice_get c.args.row.now.values c.args.k ≡ Some c.in-Some.value = sym c.value.ensures ∙ c.in-Some.is in
    let declared = subst (λ place. IsVariableAt ds place of.0) (sym c.place.ensures) of.1 in
    let within = slice_get_within c.args.row.now.values c.args.k c.in-Some.value found in
    let same : kind_of c.in-Some.value ≡ of.0 = subst (λ v. kind_of v ≡ of.0) (get_or_from_slice_get c.args.row.now.values c.args.k c.in-Some.value c.in-Some.value found) (of.2 c.args.k c.in-Some.value within) in
    let kind = kind_at ds c.args.state.now.slots c.place.result of.0 c.in-Some.value c.requires.1 declared same in
    let yes : c.set-set.result ≡ true = c.set-set.ensures.answer.1 kind in
    rw (found, ← c.place.ensures) (OnTrue_at yes c.set-set.ensures.changed)
