use Rattle.std.proofs.Common.{◌≡◌, ◌<◌, ℕ, List, Some, length, slice_get, get_or, ap, arith, subst, refl, ◌∙◌}
use Rattle.std.proofs.lemmas.Option.{slice_get_read, slice_get_within, slice_get-get_or}
use Rattle.lists.proofs.Places.{one_more}
use Rattle.declared_names.specs.declared.declarations.Kind.{Kind}
use Rattle.task_codes.specs.declared.task_ref.TaskRef.{TaskRef}
use Rattle.task_codes.specs.CodeValue.{expected_at}
use Rattle.evaluation.specs.declared.take.Take.{Take}
use Rattle.evaluation.specs.Takes.{IsTakeOf}
use Rattle.evaluation.proofs.fits.suits_takes.Goals as goal

abbrev none : TaskRef
none = record { resource = 0; task = 0 }

pub loop-k-preserved : goal.loop-k-preserved
loop-k-preserved c =
    let code = c.args.code.now in
    let takes = c.args.takes.now in
    let k = c.loop-k.k in
    let t = c.index-takes-k.result in
    let lt : k < length c.producers-producers.result.now = omega arith in
    let same : length c.producers-producers.result.now ≡ length code.producers = ap length c.producers-producers.ensures in
    let is : slice_get takes k ≡ Some t = slice_get_read takes (length takes) k t refl (omega arith) c.index-takes-k.is in
    let at : slice_get code.producers k ≡ Some (get_or code.producers k none) = slice_get-get_or code.producers k none (omega arith) in
    let here = c.is_take_of.ensures.0 c.if-not-is_take_of.false in
    one_more (λ (k : ℕ) (t : Take) (p : TaskRef). IsTakeOf p (expected_at code k) t) takes code.producers k t (get_or code.producers k none) is at
    (subst (λ (kinds : List Kind). IsTakeOf (get_or code.producers k none) kinds t) c.expected.ensures
    (subst (λ (ps : List TaskRef). IsTakeOf (get_or ps k none) c.expected.result.now t) c.producers-producers.ensures here)) c.loop-k.invariant

pub returns : goal.returns
returns c = (
  λ _. record {
    many = c.if-takes-producers.false ∙ ap length c.producers-producers.ensures;
    each = λ k t p is at. c.loop-k.invariant k t p (let lt = slice_get_within c.args.takes.now k t is in omega arith) is at;
  },
  λ _. refl,
)
