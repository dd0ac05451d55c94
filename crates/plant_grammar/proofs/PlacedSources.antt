-- The sources of binds stand on the lines that are kept with them.
use Rattle.std.proofs.Common.{◌≡◌, ◌+◌, ◌∷◌, ◌++◌, ℕ, suc, List, [], length, sym, ap, subst, ◌∙◌, append_assoc, arith}
use Rattle.std.specs.List.{flat_map}
use Rattle.plant_text.specs.declared.token.Token.{Token}
use Rattle.plant_text.specs.declared.token.Punctuation.TheVariants.{Comma}
use Rattle.plant_grammar.specs.declared.grammar.tree.SourceName.{SourceName}
use Rattle.plant_grammar.specs.declared.grammar.tree.SourceName.TheVariants as source
use Rattle.plant_grammar.specs.declared.grammar.tree.SourceLines.{SourceLines}
use Rattle.plant_grammar.specs.declared.grammar.tree.Bind.{Bind}
use Rattle.plant_grammar.specs.Grammar.{mark_word, source_words, bind_words}
use Rattle.plant_grammar.specs.SourceLines.{AreNamesOn, IsSourceOn, further_binds, AreBindsOn, EachBefore}
use Rattle.plant_grammar.specs.Steps.Lines.{ReaderValue, HasLinesOf, source_parts}
use Rattle.plant_grammar.proofs.WordLists.{flat_map-push}

-- five lines and more
names_stand : (all front own : List ℕ) (rest : List Token) (l : SourceLines) → all ≡ front ++ own → length own ≡ 5 + length rest → l ≡ source_parts own → AreNamesOn all rest l
names_stand all front (a ∷ b ∷ c ∷ d ∷ e ∷ more) rest l parts many is =
    let same : record { resource = a; instance = c; output = e } ≡ l = sym is in
    subst (λ (x : SourceLines). AreNamesOn all rest x) same (record { before = front; first_dot = b; second_dot = d; behind = more; parts = parts; each = omega (arith, many) })
names_stand all front [] rest l parts many is = absurd (omega (arith, many))
names_stand all front (a ∷ []) rest l parts many is = absurd (omega (arith, many))
names_stand all front (a ∷ b ∷ []) rest l parts many is = absurd (omega (arith, many))
names_stand all front (a ∷ b ∷ c ∷ []) rest l parts many is = absurd (omega (arith, many))
names_stand all front (a ∷ b ∷ c ∷ d ∷ []) rest l parts many is = absurd (omega (arith, many))

-- a source that stands next
pub source_stands : (all : List ℕ) (r : ReaderValue) (s : SourceName) (rest : List Token) (l : SourceLines) → HasLinesOf all r → r.words ≡ source_words s ++ rest → l ≡ source_parts r.lines → IsSourceOn all s rest l
source_stands all r (source.Field a) rest l h e is = tt
source_stands all r (source.Output x i o) rest l h e is =
    let counted : length r.words ≡ suc (suc (suc (suc (suc (length rest))))) = ap length e in
    let many : length r.lines ≡ 5 + length rest = omega (arith, counted, h.each) in
    names_stand all h.front r.lines rest l h.parts many is

-- one more bind was read, with its lines
pushed : (all : List ℕ) (bs : List Bind) (ls : List SourceLines) (b : Bind) (l : SourceLines) (now new : List Token) → now ≡ mark_word Comma ∷ bind_words b ++ new → AreBindsOn all bs ls now → IsSourceOn all b.source new l → AreBindsOn all (bs ++ b ∷ []) (ls ++ l ∷ []) new
pushed all [] [] b l now new e h s = (s, tt)
pushed all [] (m ∷ ms) b l now new e h s = absurd h
pushed all (c ∷ cs) [] b l now new e h s = absurd h
pushed all (c ∷ cs) (m ∷ ms) b l now new e h s =
    let further : further_binds cs ++ now ≡ further_binds (cs ++ b ∷ []) ++ new =
    ap (λ r. further_binds cs ++ r) e ∙ sym (append_assoc (further_binds cs) (mark_word Comma ∷ bind_words b) new) ∙ ap (λ ws. ws ++ new) (sym (flat_map-push (λ (x : Bind). mark_word Comma ∷ bind_words x) cs b)) in
    (subst (λ (r : List Token). IsSourceOn all c.source r m) further h.0, pushed all cs ms b l now new e h.1 s)

pub binds_pushed : (all : List ℕ) (bs cs : List Bind) (b : Bind) (ls ms : List SourceLines) (l : SourceLines) (now mid new : List Token) → cs ≡ bs ++ b ∷ [] → ms ≡ ls ++ l ∷ [] → now ≡ mark_word Comma ∷ mid → mid ≡ bind_words b ++ new
    → AreBindsOn all bs ls now → IsSourceOn all b.source new l → AreBindsOn all cs ms new
binds_pushed all bs cs b ls ms l now mid new hc hm e1 e2 h s =
    let both = pushed all bs ls b l now new (e1 ∙ ap (λ r. mark_word Comma ∷ r) e2) h s in
    subst (λ (xs : List Bind). AreBindsOn all xs ms new) (sym hc) (subst (λ (ns : List SourceLines). AreBindsOn all (bs ++ b ∷ []) ns new) (sym hm) both)

-- the first bind was read, with its lines
pub first_bind_on : (all : List ℕ) (bs cs : List Bind) (b : Bind) (ls ms : List SourceLines) (l : SourceLines) (new : List Token) → bs ≡ [] → cs ≡ bs ++ b ∷ [] → ls ≡ [] → ms ≡ ls ++ l ∷ [] → IsSourceOn all b.source new l → AreBindsOn all cs ms new
first_bind_on all bs cs b ls ms l new none hc nothing hm s =
    let binds : cs ≡ b ∷ [] = hc ∙ ap (λ xs. xs ++ b ∷ []) none in
    let lines : ms ≡ l ∷ [] = hm ∙ ap (λ xs. xs ++ l ∷ []) nothing in
    subst (λ (xs : List Bind). AreBindsOn all xs ms new) (sym binds) (subst (λ (ns : List SourceLines). AreBindsOn all (b ∷ []) ns new) (sym lines) (s, tt))

-- without binds no lines were kept
pub no_binds_on : (all : List ℕ) (bs : List Bind) (ls : List SourceLines) (rest : List Token) → bs ≡ [] → ls ≡ [] → AreBindsOn all bs ls rest
no_binds_on all bs ls rest none nothing = subst (λ (xs : List Bind). AreBindsOn all xs ls rest) (sym none) (subst (λ (ns : List SourceLines). AreBindsOn all [] ns rest) (sym nothing) tt)

-- one more thing was read
one_more : {A : Type 0} (f : A → List Token) (P : A → List Token → Type 0) (xs : List A) (y : A) (now new : List Token) → now ≡ f y ++ new → EachBefore f P xs now → P y new → EachBefore f P (xs ++ y ∷ []) new
one_more f P [] y now new e h p = (p, tt)
one_more f P (x ∷ xs) y now new e h p =
    let further : flat_map f xs ++ now ≡ flat_map f (xs ++ y ∷ []) ++ new = ap (λ r. flat_map f xs ++ r) e ∙ sym (append_assoc (flat_map f xs) (f y) new) ∙ ap (λ ws. ws ++ new) (sym (flat_map-push f xs y)) in
    (subst (P x) further h.0, one_more f P xs y now new e h.1 p)

pub each_more : {A : Type 0} (f : A → List Token) (P : A → List Token → Type 0) (xs ys : List A) (y : A) (now new : List Token) → ys ≡ xs ++ y ∷ [] → now ≡ f y ++ new → EachBefore f P xs now → P y new → EachBefore f P ys new
each_more f P xs ys y now new hy e h p = subst (λ (zs : List _). EachBefore f P zs new) (sym hy) (one_more f P xs y now new e h p)
