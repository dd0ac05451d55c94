use Rattle.std.proofs.Common.{◌≡◌, ◌∙◌, ap, sym, subst, length, map, Vec}
use Rattle.std.specs.Global.{Global}
use Rattle.std.proofs.lemmas.List.{length-map}
use Rattle.declared_names.specs.declared.declarations.Kind.{Kind}
use Rattle.task_codes.specs.declared.binding.Binding.{Binding}
use Rattle.task_codes.specs.CodeValue.{retained_of}
use Rattle.plant.specs.Steps.Drafts.{seen, drafted, IsCodeLinked}
use Rattle.plant.specs.Steps.FedUses.{FedUseValue, runs_in_fed, feeds_in}
use Rattle.plant.proofs.LinkedCodes.{linked_copy, producers_known, taken_known}
use Rattle.plant.proofs.sources.link.link_runs.Goals as goal

pub expected_of-requires : goal.expected_of-requires
expected_of-requires c =
    let us = seen c.args.fed.now in
    let draft = c.args.draft.now in
    let many : length (runs_in_fed us) ≡ length draft.programs = length-map us (λ (u : FedUseValue). u.run) ∙ c.requires.fed.many in
    let fed : length (feeds_in us) ≡ length draft.programs = length-map us (λ (u : FedUseValue). u.feeds) ∙ c.requires.fed.many in
    rw c.as_slice.ensures.value (producers_known (drafted c.args.drafts.now) (runs_in_fed us) draft.programs (feeds_in us) many fed c.requires.fed.each c.in_ok-producers.producers.items c.in_ok-producers.ensures)

pub bindings_of-requires : goal.bindings_of-requires
bindings_of-requires c = rw c.as_slice-2.ensures.value (taken_known (feeds_in (seen c.args.fed.now)) c.in_ok-producers.producers.items c.in_ok-producers.ensures)

pub new-requires : goal.new-requires
new-requires c =
    let us = seen c.args.fed.now in
    let draft = c.args.draft.now in
    let ps = c.in_ok-producers.producers.items in
    let es = map (λ (ks : Vec Kind Global). ks.items) c.in_ok-expected.expected.items in
    let bs = map (λ (b : Vec Binding Global). b.items) c.in_ok-bindings.bindings.items in
    let many : length (runs_in_fed us) ≡ length draft.programs = length-map us (λ (u : FedUseValue). u.run) ∙ c.requires.fed.many in
    let fed : length (feeds_in us) ≡ length draft.programs = length-map us (λ (u : FedUseValue). u.feeds) ∙ c.requires.fed.many in
    let kinds = rw c.as_slice.ensures.value at c.in_ok-expected.ensures in
    let placed = rw c.as_slice-2.ensures.value at c.in_ok-bindings.ensures in
    let programs : c.in_ok-programs.programs.items ≡ draft.programs = c.in_ok-programs.ensures ∙ c.programs.ensures.list in
    let outputs : c.in_ok-outputs.outputs.items ≡ draft.outputs = c.in_ok-outputs.ensures.items ∙ c.outputs.ensures in
    let retained : c.in_ok-retained.retained.items ≡ retained_of draft.programs = c.in_ok-retained.ensures ∙ ap retained_of c.programs-2.ensures.list in
    let is = linked_copy (drafted c.args.drafts.now) (runs_in_fed us) draft (feeds_in us) ps es bs c.programs.ensures.outputs many c.requires.once fed c.requires.fed.each c.in_ok-producers.ensures kinds placed c.in_ok-programs.programs.items c.in_ok-outputs.outputs.items c.in_ok-retained.retained.items programs outputs retained in
    is.sound

pub returns : goal.returns
returns c =
    let us = seen c.args.fed.now in
    let draft = c.args.draft.now in
    let ps = c.in_ok-producers.producers.items in
    let es = map (λ (ks : Vec Kind Global). ks.items) c.in_ok-expected.expected.items in
    let bs = map (λ (b : Vec Binding Global). b.items) c.in_ok-bindings.bindings.items in
    let many : length (runs_in_fed us) ≡ length draft.programs = length-map us (λ (u : FedUseValue). u.run) ∙ c.requires.fed.many in
    let fed : length (feeds_in us) ≡ length draft.programs = length-map us (λ (u : FedUseValue). u.feeds) ∙ c.requires.fed.many in
    let kinds = rw c.as_slice.ensures.value at c.in_ok-expected.ensures in
    let placed = rw c.as_slice-2.ensures.value at c.in_ok-bindings.ensures in
    let programs : c.in_ok-programs.programs.items ≡ draft.programs = c.in_ok-programs.ensures ∙ c.programs.ensures.list in
    let outputs : c.in_ok-outputs.outputs.items ≡ draft.outputs = c.in_ok-outputs.ensures.items ∙ c.outputs.ensures in
    let retained : c.in_ok-retained.retained.items ≡ retained_of draft.programs = c.in_ok-retained.ensures ∙ ap retained_of c.programs-2.ensures.list in
    let is = linked_copy (drafted c.args.drafts.now) (runs_in_fed us) draft (feeds_in us) ps es bs c.programs.ensures.outputs many c.requires.once fed c.requires.fed.each c.in_ok-producers.ensures kinds placed c.in_ok-programs.programs.items c.in_ok-outputs.outputs.items c.in_ok-retained.retained.items programs outputs retained in
    subst (IsCodeLinked (drafted c.args.drafts.now) (runs_in_fed us) draft) (sym c.new.ensures) is
