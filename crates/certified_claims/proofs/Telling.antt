-- Texts of verdicts follow one another.
use Rattle.std.proofs.Common.{◌≡◌, ℕ, ◌+◌, ◌<◌, ◌++◌, List, [], ◌∷◌, length, take, get_or, refl, sym, subst, ap, ◌∙◌, arith, append_assoc}
use Rattle.std.specs.Borrow.{Bor}
use Rattle.std.proofs.lemmas.List.{length-map, length-take, take_more, get_or-map}
use Rattle.text_commands.specs.Rows.{texts}
use Rattle.verifying.specs.Runs.{SetupValue}
use Rattle.certified_claims.specs.CertifiedLines.{AreCertifiedTexts}
use Rattle.certified_claims.specs.CertifiedLines.AreCertifiedTexts.{none, more}
use Rattle.certified_claims.specs.CertificateLines.{certificate_text, certificates_text}
use Rattle.certified_claims.specs.Steps.Adding.{AddsCertifiedText}
use Rattle.certified_claims.specs.declared.verdict.CertifiedVerdict.{CertifiedVerdict}
use Rattle.certified_claims.specs.declared.verdict.Scope.{Scope}

-- no text yet
pub texts_none : (u : SetupValue) (file : List ℕ) (scope : Scope) (text : List ℕ) → text ≡ [] → AreCertifiedTexts u file scope [] [] text
texts_none u file scope text empty = subst (AreCertifiedTexts u file scope [] []) (sym empty) none

-- the text of the next verdict
pub texts_more : (u : SetupValue) (file : List ℕ) (scope : Scope) (names : List (Bor (List ℕ))) (verdicts : List CertifiedVerdict) (k : ℕ) (d : Bor (List ℕ)) (e : CertifiedVerdict) (old new : List ℕ)
    → k < length names → k < length verdicts → AreCertifiedTexts u file scope (take k (texts names)) (take k verdicts) old
    → AddsCertifiedText u file scope (get_or names k d).now (get_or verdicts k e) old new
    → AreCertifiedTexts u file scope (take (k + 1) (texts names)) (take (k + 1) verdicts) new
texts_more u file scope names verdicts k d e old new inside also before adds =
    let long = length-map names (λ (w : Bor (List ℕ)). w.now) in
    let name = (get_or names k d).now in
    let within : k < length (texts names) = omega arith in
    let ns : take (k + 1) (texts names) ≡ take k (texts names) ++ name ∷ [] = take_more (texts names) k [] within ∙ ap (λ w. take k (texts names) ++ w ∷ []) (get_or-map (λ (w : Bor (List ℕ)). w.now) names k d [] inside) in
    let vs = take_more verdicts k e also in
    subst (λ x. AreCertifiedTexts u file scope (take (k + 1) (texts names)) (take (k + 1) verdicts) x) (sym adds.added)
    (subst (λ n. AreCertifiedTexts u file scope n (take (k + 1) verdicts) (old ++ adds.text)) (sym ns)
    (subst (λ v. AreCertifiedTexts u file scope (take k (texts names) ++ name ∷ []) v (old ++ adds.text)) (sym vs)
    (more (take k (texts names)) name (take k verdicts) (get_or verdicts k e) old adds.text before adds.is)))

-- certificates of one more claim
certificates-push : (bits names : List (List ℕ)) (name : List ℕ) (verdicts : List CertifiedVerdict) (verdict : CertifiedVerdict) → length verdicts ≡ length names
    → certificates_text bits (names ++ name ∷ []) (verdicts ++ verdict ∷ []) ≡ certificates_text bits names verdicts ++ certificate_text bits name verdict
certificates-push bits [] name [] verdict long = nil (certificate_text bits name verdict)
  where
    nil : (l : List ℕ) → l ++ [] ≡ l
    nil [] = refl
    nil (x ∷ l) = ap (λ m. x ∷ m) (nil l)
certificates-push bits [] name (v ∷ verdicts) verdict long = absurd cc
certificates-push bits (n ∷ names) name [] verdict long = absurd cc
certificates-push bits (n ∷ names) name (v ∷ verdicts) verdict long =
    ap (λ t. certificate_text bits n v ++ t) (certificates-push bits names name verdicts verdict (omega arith))
    ∙ sym (append_assoc (certificate_text bits n v) (certificates_text bits names verdicts) (certificate_text bits name verdict))

pub certificates_more : (bits : List (List ℕ)) (names : List (Bor (List ℕ))) (verdicts : List CertifiedVerdict) (k : ℕ) (d : Bor (List ℕ)) (e : CertifiedVerdict) (old new : List ℕ)
    → k < length names → length verdicts ≡ length names → old ≡ certificates_text bits (take k (texts names)) (take k verdicts)
    → new ≡ old ++ certificate_text bits (get_or names k d).now (get_or verdicts k e)
    → new ≡ certificates_text bits (take (k + 1) (texts names)) (take (k + 1) verdicts)
certificates_more bits names verdicts k d e old new inside same before adds =
    let long = length-map names (λ (w : Bor (List ℕ)). w.now) in
    let name = (get_or names k d).now in
    let within : k < length (texts names) = omega arith in
    let also : k < length verdicts = omega arith in
    let ns : take (k + 1) (texts names) ≡ take k (texts names) ++ name ∷ [] = take_more (texts names) k [] within ∙ ap (λ w. take k (texts names) ++ w ∷ []) (get_or-map (λ (w : Bor (List ℕ)). w.now) names k d [] inside) in
    let vs = take_more verdicts k e also in
    adds ∙ ap (λ t. t ++ certificate_text bits name (get_or verdicts k e)) before
    ∙ sym (certificates-push bits (take k (texts names)) name (take k verdicts) (get_or verdicts k e) (simp length-take (omega (arith, long))))
    ∙ ap (λ n. certificates_text bits n (take k verdicts ++ get_or verdicts k e ∷ [])) (sym ns) ∙ ap (certificates_text bits (take (k + 1) (texts names))) (sym vs)
