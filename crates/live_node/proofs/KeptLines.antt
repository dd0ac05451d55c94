-- Retained variables and their values behind a text, one more each time.
use Rattle.std.proofs.Common.{◌≡◌, ℕ, ◌+◌, ◌<◌, ◌≤◌, ◌++◌, List, length, take, min, get_or, sym, ap, ◌∙◌, arith}
use Rattle.std.specs.List.{flat_map, zip}
use Rattle.std.proofs.lemmas.List.{append-nil, flat_map_more, take_all, take_more}
use Rattle.std.proofs.lemmas.Slice.Zip.{length-zip, get_or-zip}
use Rattle.std_blocks.specs.declared.value.Value.{Value}
use Rattle.task_codes.specs.CodeValue.{CodeValue}
use Rattle.task_codes.specs.declared.retained_variable.RetainedVariable.{RetainedVariable}
use Rattle.keepers.proofs.ReadTexts.{no_variable, no_value}
use Rattle.live_node.specs.NodeJournal.{kept_text}

pub kept_none : (code : CodeValue) (old : List ℕ) (vs : List RetainedVariable) (xs : List Value) → old ≡ old ++ flat_map (kept_text code) (take 0 (zip vs xs))
kept_none code old vs xs = sym (append-nil old)

pub kept_more : (code : CodeValue) (old now new : List ℕ) (vs : List RetainedVariable) (xs : List Value) (k : ℕ) → k < min (length vs) (length xs)
    → now ≡ old ++ flat_map (kept_text code) (take k (zip vs xs)) → new ≡ now ++ kept_text code (get_or vs k no_variable, get_or xs k no_value)
    → new ≡ old ++ flat_map (kept_text code) (take (k + 1) (zip vs xs))
kept_more code old now new vs xs k within was is =
    let f : RetainedVariable × Value → List ℕ = kept_text code in
    let both : RetainedVariable × Value = (no_variable, no_value) in
    let pair : get_or (zip vs xs) k both ≡ (get_or vs k no_variable, get_or xs k no_value) = get_or-zip vs xs k both (omega (arith, within)) (omega (arith, within)) in
    let long : k < length (zip vs xs) = omega (arith, within, length-zip vs xs) in
    is
    ∙ ap (λ l. l ++ f (get_or vs k no_variable, get_or xs k no_value)) was
    ∙ ap (λ e. (old ++ flat_map f (take k (zip vs xs))) ++ f e) (sym pair)
    ∙ flat_map_more f old (take k (zip vs xs)) (get_or (zip vs xs) k both)
    ∙ ap (λ l. old ++ flat_map f l) (sym (take_more (zip vs xs) k both long))

pub kept_all : (code : CodeValue) (old now : List ℕ) (vs : List RetainedVariable) (xs : List Value) (k : ℕ) → min (length vs) (length xs) ≤ k → now ≡ old ++ flat_map (kept_text code) (take k (zip vs xs))
    → now ≡ old ++ flat_map (kept_text code) (zip vs xs)
kept_all code old now vs xs k end is = is ∙ ap (λ l. old ++ flat_map (kept_text code) l) (take_all k (zip vs xs) (omega (arith, end, length-zip vs xs)))
