-- The programs that begin words up to a name refused are those that were read.
use Rattle.std.proofs.Common.{◌≡◌, List, [], ◌∷◌, ◌++◌, length, map, inl, inr, Some, None, refl, sym, ap, ◌∙◌, append_assoc, arith}
use Rattle.std.specs.List.{flat_map}
use Rattle.std.proofs.lemmas.List.{append-nil, length-append}
use Rattle.plant_text.specs.declared.token.Token.{Token}
use Rattle.plant_text.specs.declared.token.Token.TheVariants as token
use Rattle.plant_text.specs.declared.token.Keyword.TheVariants as key
use Rattle.plant_grammar.specs.declared.grammar_fault.GrammarFaultKind.{GrammarFaultKind}
use Rattle.plant_grammar.specs.declared.grammar.tree.Program.{Program}
use Rattle.plant_grammar.specs.Grammar.{key_word, program_words}
use Rattle.plant_grammar.specs.JudgedWords.{Judged, sound, sounds, new_name, in_order}
use Rattle.plant_grammar.specs.Lawful.{block_variables, AreProgramsDeclared}
use Rattle.plant_grammar.specs.NameFaults.{judged_block, judged_program}
use Rattle.plant_grammar.specs.WellFormed.{IsProgramWellFormed}
use Rattle.plant_grammar.specs.Steps.Declaring.{RefusesPlantWords, RefusesFirst}
use Rattle.plant_grammar.specs.Steps.NamesRead.{IsOfName, RefusesBehind}
use Rattle.plant_grammar.specs.Steps.SoundWords.{Fits, EndsFaulty}
use Rattle.plant_grammar.proofs.ForgottenFaults.{forget, forget_both, forget_sounds, program_forgotten}
use Rattle.plant_grammar.proofs.OneTree.{one_program, program_stops, all_programs}
use Rattle.plant_grammar.proofs.FaultyParts.{rest_fits, program_faulty, last_refused}

-- lists with one last item have the same
last_same : {A : Type 0} (xs ys : List A) (x y : A) → xs ++ x ∷ [] ≡ ys ++ y ∷ [] → x ≡ y
last_same [] [] x y e = cc
last_same [] (z ∷ []) x y e = absurd cc
last_same [] (z ∷ w ∷ ys) x y e = absurd cc
last_same (z ∷ []) [] x y e = absurd cc
last_same (z ∷ w ∷ xs) [] x y e = absurd cc
last_same {A} (z ∷ xs) (w ∷ ys) x y e = let rest : xs ++ x ∷ [] ≡ ys ++ y ∷ [] = cc in last_same xs ys x y rest

-- the last word of a program has no fault
ends_sound : (before : List Program) (p : Program) → (front : List Judged) × (judged_program before p ≡ front ++ sound (key_word key.EndProgram) ∷ [])
unfolding judged_program
ends_sound before p =
    let blocks : List Judged = in_order (λ bs b. judged_block (flat_map block_variables bs) b) [] p.blocks.items in
    let body : List Judged = sound (token.Body p.body) ∷ [] in
    let start : List Judged = sound (key_word key.Program) ∷ new_name (map (λ (q : Program). q.name) before) (length before) 64 p.name ∷ [] in
    (start ++ (blocks ++ body), ap (λ (a : List Judged). start ++ a) (sym (append_assoc blocks body (sound (key_word key.EndProgram) ∷ []))))

-- words of a program up to a fault hold no whole program
no_whole : (k : GrammarFaultKind) (before : List Program) (words : List Token) → EndsFaulty (judged_program before) IsProgramWellFormed k words → (p : Program) (q : List Token) → words ≡ program_words p ++ q → ⊥
no_whole k before words e p q whole =
    let faulty : Judged = record { word = e.word; fault = Some k } in
    let left = forget e.more in
    let all : program_words e.value ≡ words ++ left =
    sym (program_forgotten before e.value) ∙ ap forget e.judged ∙ forget_both (sounds e.before) (faulty ∷ e.more)
    ∙ ap (λ (a : List Token). a ++ e.word ∷ left) (forget_sounds e.before) ∙ sym (append_assoc e.before (e.word ∷ []) left) ∙ ap (λ (ws : List Token). ws ++ left) (sym e.parts) in
    let same : program_words e.value ++ [] ≡ program_words p ++ (q ++ left) = append-nil (program_words e.value) ∙ all ∙ ap (λ (ws : List Token). ws ++ left) whole ∙ append_assoc (program_words p) q left in
    let none = ap length (one_program e.value p [] (q ++ left) same).1 in
    go e.more refl (omega (arith, none, length-append q left))
  where
    go : (more : List Judged) → e.more ≡ more → length (forget e.more) ≡ 0 → ⊥
    go [] is none =
        let end = ends_sound before e.value in
        let faulty : Judged = record { word = e.word; fault = Some k } in
        let same : sound (key_word key.EndProgram) ≡ faulty = last_same end.0 (sounds e.before) (sound (key_word key.EndProgram)) faulty (sym end.1 ∙ e.judged ∙ ap (λ (js : List Judged). sounds e.before ++ faulty ∷ js) is) in
        let wrong : None ≡ Some k = ap (λ (j : Judged). j.fault) same in
        cc
    go (j ∷ js) is none = let long = ap (λ (ks : List Judged). length (forget ks)) is in omega (arith, long, none)

-- nor do words behind programs that were read, up to one refused
no_further : (k : GrammarFaultKind) (programs : List Program) (behind : List Token) → IsOfName k → Fits behind → RefusesBehind k programs behind → (p : Program) (q : List Token) → behind ≡ program_words p ++ q → ⊥
unfolding RefusesBehind
no_further k programs behind of fits (inl r) p q e = no_whole k programs behind (program_faulty k programs behind of fits r) p q e
no_further k programs behind of fits (inr c) p q e = program_stops behind (λ more h. let wrong : key_word key.Configuration ∷ c.more ≡ key_word key.Program ∷ more = sym c.parts ∙ h in cc) p q e

-- so the last of these words is the first refused, and the programs that begin them are these
pub first_refused : (k : GrammarFaultKind) (programs : List Program) (words : List Token) → IsOfName k → AreProgramsDeclared programs → RefusesPlantWords programs k words → RefusesFirst programs k words
first_refused k programs words of declared h = λ fits. (
  last_refused k programs words h.more of declared fits h.parts h.holds,
  all_programs programs words h.more h.parts (λ p q formed. no_further k programs h.more of (rest_fits (flat_map program_words programs) h.more words h.parts fits) h.holds p q),
)
