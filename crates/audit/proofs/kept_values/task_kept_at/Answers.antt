-- One more value, or a text that goes on otherwise.
use Rattle.std.proofs.Common.{◌≡◌, ◌+◌, ◌++◌, List, Option, ℕ, Some, None, get_or, subst, sym}
use Rattle.std.specs.List.{AllZip, flat_map, zip}
use Rattle.std.proofs.lemmas.Option.{slice_get-get_or}
use Rattle.std_blocks.specs.declared.value.Value.{Value}
use Rattle.task_codes.specs.CodeValue.{CodeValue}
use Rattle.task_codes.specs.declared.retained_variable.RetainedVariable.{RetainedVariable}
use Rattle.text_lines.specs.LineParts.{value_text}
use Rattle.keepers.specs.KeptRetained.{before_value}
use Rattle.keepers.proofs.ReadTexts.{no_variable}
use Rattle.text_lines.specs.Steps.Reading.{IsRead}
use Rattle.text_lines.proofs.Lists.{AreFirst, first_more, first_stuck, first_all}
use Rattle.live_node.specs.NodeJournal.{kept_text}
use Rattle.audit.specs.Steps.Reading.{IsKeptOf}
use Rattle.audit.proofs.kept_values.task_kept_at.Goals as goal

pub loop-k-preserved : goal.loop-k-preserved
loop-k-preserved c =
    let variables = c.retained-variables.result.now in
    subst (λ values. AreFirst (λ e. before_value c.args.code.now e.0 ++ value_text e.1) IsKeptOf variables c.args.text.now (c.loop-k.k + 1) values c.in-Some.behind.now) (sym c.in_ok-push.ensures.items)
    (first_more (λ e. before_value c.args.code.now e.0 ++ value_text e.1) IsKeptOf variables c.args.text.now c.loop-k.k (get_or variables c.loop-k.k no_variable) c.loop-k.values.items c.loop-k.rest.now c.in-Some.value c.in-Some.behind.now
    (slice_get-get_or variables c.loop-k.k no_variable c.loop-k-test.true) c.loop-k.invariant (rw c.in-Some.is at c.in_ok-value.ensures))

-- what was read of the variables was read of those of the code
of_code : (vs : List RetainedVariable) (c : CodeValue) (text : List ℕ) (found : Option (List Value × List ℕ)) → vs ≡ c.retained → IsRead (λ ys. flat_map (kept_text c) (zip vs ys)) (AllZip IsKeptOf vs) 32 text found
    → IsRead (λ ys. flat_map (kept_text c) (zip c.retained ys)) (AllZip IsKeptOf c.retained) 32 text found
of_code vs c text found same read = subst (λ ws. IsRead (λ ys. flat_map (kept_text c) (zip ws ys)) (AllZip IsKeptOf ws) 32 text found) same read

pub returns-in_default : goal.returns-in_default
returns-in_default c =
    let variables = c.retained-variables.result.now in
    of_code variables c.args.code.now c.args.text.now None c.retained-variables.ensures.list
    (first_stuck (λ e. before_value c.args.code.now e.0 ++ value_text e.1) IsKeptOf variables c.args.text.now c.loop-k.k (get_or variables c.loop-k.k no_variable) c.loop-k.values.items c.loop-k.rest.now
    (slice_get-get_or variables c.loop-k.k no_variable c.loop-k-test.true) c.loop-k.invariant (rw c.in_default.is at c.in_ok-value.ensures))

pub returns : goal.returns
returns c =
    let variables = c.retained-variables.result.now in
    of_code variables c.args.code.now c.args.text.now (Some (c.from_values.result, c.loop-k.rest.now)) c.retained-variables.ensures.list
    (subst (λ values. IsRead (λ ys. flat_map (kept_text c.args.code.now) (zip variables ys)) (AllZip IsKeptOf variables) 32 c.args.text.now (Some (values, c.loop-k.rest.now))) (sym c.from_values.ensures)
    (first_all (λ e. before_value c.args.code.now e.0 ++ value_text e.1) IsKeptOf variables c.args.text.now c.loop-k.k c.loop-k.values.items c.loop-k.rest.now c.loop-k-test.false c.loop-k.invariant))
