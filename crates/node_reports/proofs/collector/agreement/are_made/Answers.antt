-- The steps can't go on by an entry; or at the end what they made are the entries.
use Rattle.std.proofs.Common.{◌≡◌, ◌∙◌, ◌+◌, ◌<◌, ◌++◌, List, length, take, drop, slice_get, Some, refl, ap, subst, arith}
use Rattle.std.proofs.lemmas.Bool.{false≢true}
use Rattle.std.proofs.lemmas.List.{append-nil, take_all}
use Rattle.std.proofs.lemmas.Option.{slice_get_read}
use Rattle.evaluation.specs.Meaning.{Evaluated}
use Rattle.node_reports.specs.Journals.{made}
use Rattle.node_reports.specs.Reports.{entries_of}
use Rattle.node_reports.specs.Steps.Collecting.{HaveCome}
use Rattle.node_reports.proofs.Walking.{at_end, parts_at}
use Rattle.node_reports.proofs.collector.agreement.are_made.Goals as goal

pub returns-in-None : goal.returns-in-None
returns-in-None c =
    let entries = c.args.entries.now in
    let k = c.loop-k.k in
    let x = c.index-entries-k.result in
    let within : k < length entries = c.loop-k-test.true in
    let at : slice_get entries k ≡ Some x = slice_get_read _ _ k x refl within c.index-entries-k.is in (
      λ yes. absurd (false≢true yes),
      λ all. absurd (c.in-None.ensures (take k entries) (drop (k + 1) entries) c.loop-k.invariant
          (subst (λ (es : List Evaluated). made c.args.steps.now ≡ entries_of c.args.resource es) (parts_at entries k x at) all)),
    )

pub returns : goal.returns
returns c =
    let all : take c.loop-k.k c.args.entries.now ≡ c.args.entries.now = take_all _ _ (omega arith) in
    let come : HaveCome c.args.entries.now c.args.resource c.args.steps.now c.loop-k.at = subst (λ (es : List Evaluated). HaveCome es c.args.resource c.args.steps.now c.loop-k.at) all c.loop-k.invariant in (
      λ yes. come ∙ ap (λ ys. entries_of c.args.resource c.args.entries.now ++ ys) (c.is_at_end.ensures.0 yes) ∙ append-nil _,
      λ made. c.is_at_end.ensures.1 (at_end c.args.resource c.args.entries.now c.args.steps.now c.loop-k.at come made),
    )
