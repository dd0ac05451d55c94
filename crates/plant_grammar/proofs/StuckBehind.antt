-- What is left behind words that were read, and where that is stuck.
use Rattle.std.proofs.Common.{◌≡◌, ◌≢◌, ◌⊎◌, inl, inr, ◌==◌, ℕ, true, false, List, [], ◌∷◌, ◌++◌, None, Some, refl, ap, ◌∙◌}
use Rattle.std.proofs.lemmas.Bool.Decides.{eqb_tells}
use Rattle.plant_text.specs.declared.token.Token.{Token}
use Rattle.plant_text.specs.declared.token.Token.TheVariants as token
use Rattle.plant_text.specs.declared.token.Keyword.{Keyword}
use Rattle.plant_text.specs.declared.token.Punctuation.{Punctuation}
use Rattle.plant_grammar.specs.declared.grammar_fault.GrammarFault.{GrammarFault}
use Rattle.plant_grammar.specs.Steps.Lines.{ReaderValue, KeepsLines}
use Rattle.plant_grammar.specs.Steps.Expected.{Expected, Key, Mark, AName, ABody, number_of_keyword, number_of_mark, where_so, or_skipped, and_then, begun, may_end, step, walk, GetsStuck}
use Rattle.plant_grammar.proofs.ExpectedWords.{stuck_behind}

-- each number is itself
same_number : (n : ℕ) → (n == n) ≡ true
same_number n = go (eqb_tells n n)
  where
    go : (((n == n) ≡ true) × (n ≡ n)) ⊎ (((n == n) ≡ false) × (n ≢ n)) → (n == n) ≡ true
    go (inl (same, e)) = same
    go (inr (apart, other)) = absurd (other refl)

-- a keyword, a mark and a name, and more behind it
pub key_walked : (k : Keyword) (more : List Token) (es : List Expected) → walk (Key k ∷ es) (token.Keyword k ∷ more) ≡ walk es more
unfolding walk step begun may_end
key_walked k more es = ap (λ same. and_then (or_skipped (where_so same [] None) es None) (λ new. walk new more)) (same_number (number_of_keyword k))

pub mark_walked : (p : Punctuation) (more : List Token) (es : List Expected) → walk (Mark p ∷ es) (token.Punctuation p ∷ more) ≡ walk es more
unfolding walk step begun may_end
mark_walked p more es = ap (λ same. and_then (or_skipped (where_so same [] None) es None) (λ new. walk new more)) (same_number (number_of_mark p))

pub name_walked : (n : List ℕ) (more : List Token) (es : List Expected) → walk (AName ∷ es) (token.Name n ∷ more) ≡ walk es more
unfolding walk step begun
name_walked n more es = refl

-- where a fault of what is left is so, and this was read before
pub stuck_after : (Known : List Token → Type 0) (es fs : List Expected) (read : List Token) (old new : ReaderValue) (fault : GrammarFault) → old.words ≡ read ++ new.words → KeepsLines old new
    → ((behind : List Expected) → walk (es ++ behind) read ≡ Some (fs ++ behind)) → GetsStuck (λ w. Known (read ++ w)) fs new fault → GetsStuck Known es old fault
stuck_after Known es fs read old new fault e keeps w stuck = λ syntax behind. stuck_behind Known (es ++ behind) (fs ++ behind) read old new fault.line e keeps (w behind) (stuck syntax behind)

-- a keyword was read
pub stuck_after_key : (Known : List Token → Type 0) (k : Keyword) (es : List Expected) (old new : ReaderValue) (fault : GrammarFault) → old.words ≡ token.Keyword k ∷ new.words → KeepsLines old new → GetsStuck (λ w. Known (token.Keyword k ∷ w)) es new fault → GetsStuck Known (Key k ∷ es) old fault
unfolding walk
stuck_after_key Known k es old new fault e keeps stuck =
    stuck_after Known (Key k ∷ es) es (token.Keyword k ∷ []) old new fault e keeps (λ behind. key_walked k [] (es ++ behind)) stuck

-- a mark was read
pub stuck_after_mark : (Known : List Token → Type 0) (p : Punctuation) (es : List Expected) (old new : ReaderValue) (fault : GrammarFault) → old.words ≡ token.Punctuation p ∷ new.words → KeepsLines old new → GetsStuck (λ w. Known (token.Punctuation p ∷ w)) es new fault → GetsStuck Known (Mark p ∷ es) old fault
unfolding walk
stuck_after_mark Known p es old new fault e keeps stuck =
    stuck_after Known (Mark p ∷ es) es (token.Punctuation p ∷ []) old new fault e keeps (λ behind. mark_walked p [] (es ++ behind)) stuck

-- a name was read
pub stuck_after_name : (Known : List Token → Type 0) (n : List ℕ) (es : List Expected) (old new : ReaderValue) (fault : GrammarFault) → old.words ≡ token.Name n ∷ new.words → KeepsLines old new → GetsStuck (λ w. Known (token.Name n ∷ w)) es new fault → GetsStuck Known (AName ∷ es) old fault
unfolding walk
stuck_after_name Known n es old new fault e keeps stuck = stuck_after Known (AName ∷ es) es (token.Name n ∷ []) old new fault e keeps (λ behind. name_walked n [] (es ++ behind)) stuck

-- a body was read
pub stuck_after_body : (Known : List Token → Type 0) (b : List ℕ) (es : List Expected) (old new : ReaderValue) (fault : GrammarFault) → old.words ≡ token.Body b ∷ new.words → KeepsLines old new → GetsStuck (λ w. Known (token.Body b ∷ w)) es new fault → GetsStuck Known (ABody ∷ es) old fault
unfolding walk step begun
stuck_after_body Known b es old new fault e keeps stuck = stuck_after Known (ABody ∷ es) es (token.Body b ∷ []) old new fault e keeps (λ behind. refl) stuck

-- a keyword and a name were read
pub stuck_after_key_and_name : (Known : List Token → Type 0) (k : Keyword) (n : List ℕ) (es : List Expected) (old new : ReaderValue) (fault : GrammarFault) → old.words ≡ token.Keyword k ∷ token.Name n ∷ new.words → KeepsLines old new → GetsStuck (λ w. Known (token.Keyword k ∷ token.Name n ∷ w)) es new fault → GetsStuck Known (Key k ∷ AName ∷ es) old fault
unfolding walk
stuck_after_key_and_name Known k n es old new fault e keeps stuck =
    stuck_after Known (Key k ∷ AName ∷ es) es (token.Keyword k ∷ token.Name n ∷ []) old new fault e keeps (λ behind. key_walked k (token.Name n ∷ []) (AName ∷ (es ++ behind)) ∙ name_walked n [] (es ++ behind)) stuck

-- a mark and a name were read
pub stuck_after_mark_and_name : (Known : List Token → Type 0) (p : Punctuation) (n : List ℕ) (es : List Expected) (old new : ReaderValue) (fault : GrammarFault) → old.words ≡ token.Punctuation p ∷ token.Name n ∷ new.words → KeepsLines old new → GetsStuck (λ w. Known (token.Punctuation p ∷ token.Name n ∷ w)) es new fault → GetsStuck Known (Mark p ∷ AName ∷ es) old fault
unfolding walk
stuck_after_mark_and_name Known p n es old new fault e keeps stuck =
    stuck_after Known (Mark p ∷ AName ∷ es) es (token.Punctuation p ∷ token.Name n ∷ []) old new fault e keeps (λ behind. mark_walked p (token.Name n ∷ []) (AName ∷ (es ++ behind)) ∙ name_walked n [] (es ++ behind)) stuck
