-- Lines of a run and texts of verdicts follow one another.
use Rattle.std.proofs.Common.{◌≡◌, ℕ, ◌+◌, ◌<◌, ◌++◌, List, [], ◌∷◌, Bool, length, take, get_or, sym, subst, ap, ◌∙◌, arith}
use Rattle.std.specs.Borrow.{Bor}
use Rattle.std.proofs.lemmas.List.{length-map, take_more, get_or-map}
use Rattle.power_flow.specs.Meaning.{Moment}
use Rattle.text_commands.specs.Lines.{line_of}
use Rattle.text_commands.specs.Rows.{texts}
use Rattle.verifying.specs.declared.verdict.Tally.{Tally}
use Rattle.verifying.specs.declared.verdict.Verdict.{Verdict}
use Rattle.verifying.specs.Runs.{SetupValue, ScansWith, first}
use Rattle.verifying.specs.VerdictLines.{AreTexts, RunLines}
use Rattle.verifying.specs.VerdictLines.RunLines.{begun, after}
use Rattle.verifying.specs.VerdictLines.AreTexts.{none, more}
use Rattle.verifying.specs.Steps.Adding.{AddsVerdictText}

-- before the first scan there is no line
pub lines_begun : (u : SetupValue) (s : Moment) (text : List ℕ) → s ≡ first u → text ≡ [] → RunLines u [] s text
lines_begun u s text at empty = subst (λ t. RunLines u [] s t) (sym empty) (subst (λ m. RunLines u [] m []) (sym at) begun)

-- the next scan, and its line
pub lines_more : (u : SetupValue) (rows : List (List Bool)) (i : ℕ) (d : List Bool) (s t : Moment) (text line new : List ℕ) → i < length rows → RunLines u (take i rows) s text
    → ScansWith u (get_or rows i d) s t → line ≡ line_of u.ladder.declarations t.slots → new ≡ text ++ line → RunLines u (take (i + 1) rows) t new
lines_more u rows i d s t text line new within before scan written added =
    let whole : new ≡ text ++ line_of u.ladder.declarations t.slots = added ∙ ap (λ l. text ++ l) written in
    subst (λ w. RunLines u (take (i + 1) rows) t w) (sym whole)
    (subst (λ rs. RunLines u rs t (text ++ line_of u.ladder.declarations t.slots)) (sym (take_more rows i d within)) (after (take i rows) (get_or rows i d) s t text before scan))

-- no text yet
pub texts_none : (u : SetupValue) (file : List ℕ) (t : Tally) (text : List ℕ) → text ≡ [] → AreTexts u file t [] [] text
texts_none u file t text empty = subst (AreTexts u file t [] []) (sym empty) none

-- the text of the next verdict
pub texts_more : (u : SetupValue) (file : List ℕ) (t : Tally) (names : List (Bor (List ℕ))) (verdicts : List Verdict) (k : ℕ) (d : Bor (List ℕ)) (e : Verdict) (old new : List ℕ)
    → k < length names → k < length verdicts → AreTexts u file t (take k (texts names)) (take k verdicts) old
    → AddsVerdictText u file t (get_or names k d).now (get_or verdicts k e) old new
    → AreTexts u file t (take (k + 1) (texts names)) (take (k + 1) verdicts) new
texts_more u file t names verdicts k d e old new inside also before adds =
    let long = length-map names (λ (w : Bor (List ℕ)). w.now) in
    let name = (get_or names k d).now in
    let within : k < length (texts names) = omega arith in
    let ns : take (k + 1) (texts names) ≡ take k (texts names) ++ name ∷ [] = take_more (texts names) k [] within ∙ ap (λ w. take k (texts names) ++ w ∷ []) (get_or-map (λ (w : Bor (List ℕ)). w.now) names k d [] inside) in
    let vs = take_more verdicts k e also in
    subst (λ x. AreTexts u file t (take (k + 1) (texts names)) (take (k + 1) verdicts) x) (sym adds.added)
    (subst (λ n. AreTexts u file t n (take (k + 1) verdicts) (old ++ adds.text)) (sym ns)
    (subst (λ v. AreTexts u file t (take k (texts names) ++ name ∷ []) v (old ++ adds.text)) (sym vs)
    (more (take k (texts names)) name (take k verdicts) (get_or verdicts k e) old adds.text before adds.is)))
