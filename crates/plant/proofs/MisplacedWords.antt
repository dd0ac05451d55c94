-- Where a Syntax stands.
use Rattle.std.proofs.Common.{◌≡◌, ◌≢◌, ◌≤◌, ◌⊎◌, inl, inr, ℕ, true, false, List, [], ◌∷◌, ◌++◌, map, length, refl, sym, ap, subst, ◌∙◌, append_assoc, arith}
use Rattle.std.specs.List.{flat_map, list_all}
use Rattle.std.proofs.lemmas.Bool.{cases_Bool}
use Rattle.std.proofs.lemmas.List.{append-nil, append_cancel_left, length-append, map-append}
use Rattle.std.proofs.lemmas.List.Elements.{All-head}
use Rattle.lists.proofs.Members.{all_first, all_last}
use Rattle.words.specs.Lines.{without_last}
use Rattle.plant_text.specs.declared.token.Token.{Token}
use Rattle.plant_text.specs.declared.token.Token.TheVariants as token
use Rattle.plant_text.specs.Spelling.{Spells}
use Rattle.plant_text.specs.Places.{is_body, may_be_due, FitsPlace, is_body_due}
use Rattle.plant_text.specs.Lines.{WordValue, last_line, IsSpelledBy, IsBegunBy, BeginsWithWordsThen, HasNoWordBehind, IsStoppedBy, AreWordsButLast, AreInTheirPlaces}
use Rattle.plant_grammar.specs.Grammar.{Tree, program_words, words_of}
use Rattle.plant_grammar.specs.WellFormed.{is_plain, IsTreeWellFormed}
use Rattle.plant_grammar.specs.GoesOn.{IsLastMisplaced}
use Rattle.plant_grammar.specs.JudgedWords.{sounds}
use Rattle.plant_grammar.specs.NameFaults.{GoesOnSound}
use Rattle.plant_grammar.proofs.ForgottenFaults.{forget, forget_both, forget_sounds, forgotten}
use Rattle.plant_grammar.specs.Steps.Lines.{ReaderValue, HasLinesOf}
use Rattle.plant_grammar.specs.Steps.Declaring.{BeginWith, IsLineBefore}
use Rattle.plant_grammar.specs.Steps.Expected.{MeetsMisplaced}
use Rattle.plant.specs.PlantText.{HasFaultlessWords, SpellsNoTree, IsFaultlessBeforeMore, AreBodiesDrawn, IsMisplacedIn, IsUnknownIn, EndsEarly}
use Rattle.plant.proofs.KnownWords.{IsKnown, AreKnown, nothing, behind, both, words_known}
use Rattle.plant.proofs.BodyCounts.{same_fronts}
use Rattle.plant.proofs.RefusedKnown.{CutAtLine, cut_at_line}

-- a word is unknown or known
unknown_or_known : (t : Token) → (t ≡ token.Unknown) ⊎ (t ≢ token.Unknown)
unknown_or_known (token.Keyword k) = inr (λ e. cc)
unknown_or_known (token.Block b) = inr (λ e. cc)
unknown_or_known (token.Punctuation p) = inr (λ e. cc)
unknown_or_known (token.Name n) = inr (λ e. cc)
unknown_or_known (token.Number n) = inr (λ e. cc)
unknown_or_known (token.Duration n) = inr (λ e. cc)
unknown_or_known (token.Address a) = inr (λ e. cc)
unknown_or_known (token.Body b) = inr (λ e. cc)
unknown_or_known token.Unknown = inl refl

-- words from which a plant goes on are known
goes_on_known : (ws : List Token) → GoesOnSound ws → AreKnown ws
goes_on_known ws (tree, more, e, formed) =
    let parts : words_of tree ≡ ws ++ forget more = sym (forgotten tree) ∙ ap forget e ∙ forget_both (sounds ws) more ∙ ap (λ (vs : List Token). vs ++ forget more) (forget_sounds ws) in
    all_first IsKnown ws (forget more) (subst AreKnown parts (words_known tree))

-- where words are followed by one, those and that one are known
front_is : (xs ys : List Token) (x y : Token) → xs ++ x ∷ [] ≡ ys ++ y ∷ [] → xs ≡ ys
front_is xs ys x y e =
    let one = length-append xs (x ∷ []) in
    let two = length-append ys (y ∷ []) in
    let same = ap length e in
    let many : length xs ≡ length ys = omega (arith, one, two, same) in
    same_fronts xs (x ∷ []) ys (y ∷ []) e many

-- a list has a last item
last_of : {A : Type 0} (x : A) (xs : List A) → (front : List A) × (last : A) × (x ∷ xs ≡ front ++ last ∷ [])
last_of x [] = ([], x, refl)
last_of {A} x (y ∷ ys) = let l = last_of y ys in (x ∷ l.0, l.1, ap (λ (zs : List A). x ∷ zs) l.2)

-- no word stands behind an unknown one
unknown_last : (ws before back : List WordValue) (w : WordValue) → AreWordsButLast ws → ws ≡ before ++ w ∷ back → w.token ≡ token.Unknown → back ≡ []
unknown_last ws before [] w words e unknown = refl
unknown_last ws before (b ∷ back) w words e unknown =
    let token_of : WordValue → Token = λ (w : WordValue). w.token in
    let l = last_of b back in
    let parts : ws ≡ (before ++ w ∷ l.0) ++ l.1 ∷ [] = e ∙ ap (λ (vs : List WordValue). before ++ w ∷ vs) l.2 ∙ sym (append_assoc before (w ∷ l.0) (l.1 ∷ [])) in
    let known : AreKnown (map token_of before ++ w.token ∷ map token_of l.0) = subst AreKnown (map-append token_of before (w ∷ l.0)) (words (before ++ w ∷ l.0) l.1 parts) in
    absurd (All-head IsKnown w.token (map token_of l.0) (all_last IsKnown (map token_of before) (w.token ∷ map token_of l.0) known) unknown)

-- lists with an item behind them that are one have one last item
last_is : (xs ys : List Token) (x y : Token) → xs ++ x ∷ [] ≡ ys ++ y ∷ [] → x ≡ y
last_is xs ys x y e =
    let same : ys ++ x ∷ [] ≡ ys ++ y ∷ [] = ap (λ zs. zs ++ x ∷ []) (sym (front_is xs ys x y e)) ∙ e in
    let ends : x ∷ [] ≡ y ∷ [] = append_cancel_left ys (x ∷ []) (y ∷ []) same in
    cc

-- where a word is misplaced, no body is due
none_due : (before : List Token) (t : Token) → FitsPlace (is_body_due before) t → (is_body_due before ≡ true → may_be_due t ≡ false) → is_body_due before ≡ false
none_due before t fits misfit = elim (cases_Bool (is_body_due before)) [
  | inl due ↦
      let may : may_be_due t ≡ true = subst (λ b. FitsPlace b t) due fits in
      let misses : may_be_due t ≡ false = misfit due in
      absurd cc
  | inr misses ↦ misses
]

-- a word that is no body is plain
plain_word : (t : Token) → t ≢ token.Unknown → is_body t ≡ false → is_plain t ≡ true
plain_word (token.Body b) known none = absurd cc
plain_word token.Unknown known none = absurd (known refl)
plain_word _ known none = refl

-- where the bodies of programs are drawn, so are those before a word
pub front_drawn : (xs ys : List Token) → AreBodiesDrawn (xs ++ ys) → AreBodiesDrawn xs
front_drawn xs ys drawn = λ ps more formed e. drawn ps (more ++ ys) formed (ap (λ zs. zs ++ ys) e ∙ append_assoc (flat_map program_words ps) more ys)

-- such is what is known of trees and the words behind them
pub no_tree : (text : List ℕ) → ((tree : Tree) (more : List Token) → length tree.programs ≤ 65 → IsTreeWellFormed tree → list_all is_plain more ≡ true → Spells (without_last 13 text) (words_of tree ++ more) → (more ≢ []) × HasFaultlessWords tree)
    → SpellsNoTree text × IsFaultlessBeforeMore text
no_tree text of = (
  λ tree few formed s. (of tree [] few formed refl (subst (Spells (without_last 13 text)) (sym (append-nil (words_of tree))) s)).0 refl,
  λ tree more few formed plain s. (of tree more few formed plain s).1,
)

-- what is known of the words read says where the first misplaced one stands
pub syntax_first : (text : List ℕ) (ws : List WordValue) (r : ReaderValue) (line : ℕ) → map (λ (w : WordValue). w.token) ws ≡ r.words → AreBodiesDrawn r.words → HasLinesOf (map (λ (w : WordValue). w.line) ws) r → r.last ≡ last_line text → IsSpelledBy (without_last 13 text) ws → IsBegunBy (without_last 13 text) ws → IsStoppedBy (last_line text) (without_last 13 text) ws → AreWordsButLast ws → AreInTheirPlaces ws
    → MeetsMisplaced r line → IsMisplacedIn text line ⊎ (IsUnknownIn text line ⊎ EndsEarly text line)
syntax_first text ws r line words drawn lines ends spelled begun stopped last_one in_places (inl (g, last)) =
    let tokens = map (λ (w : WordValue). w.token) ws in
    let here : GoesOnSound tokens = subst GoesOnSound (sym words) g in
    inr (inr (last (map (λ (w : WordValue). w.line) ws) lines ∙ ends, tokens, spelled (goes_on_known tokens here), here, subst AreBodiesDrawn (sym words) drawn))
syntax_first text ws r line words drawn lines ends spelled begun stopped last_one in_places (inr b) =
    let line_of : WordValue → ℕ = λ (w : WordValue). w.line in
    let here : BeginWith (IsLineBefore (map line_of ws) line) IsLastMisplaced r.words =
    record { front = b.front; rest = b.rest; parts = b.parts; holds = b.holds; behind = b.behind (map line_of ws) lines } in
    of_cut (cut_at_line IsLastMisplaced ws line r.words words here)
  where
    before_drawn : (cut : CutAtLine IsLastMisplaced ws line) → AreBodiesDrawn (map (λ (w : WordValue). w.token) cut.before)
    before_drawn cut =
        let token_of : WordValue → Token = λ (w : WordValue). w.token in
        let behind = cut.word ∷ cut.back in
        let parts : ws ≡ cut.before ++ behind = cut.parts ∙ append_assoc cut.before (cut.word ∷ []) cut.back in
        let cuts : r.words ≡ map token_of cut.before ++ map token_of behind = sym words ∙ ap (map token_of) parts ∙ map-append token_of cut.before behind in
        front_drawn (map token_of cut.before) (map token_of behind) (subst AreBodiesDrawn cuts drawn)

    is : (cut : CutAtLine IsLastMisplaced ws line) → GoesOnSound (map (λ (w : WordValue). w.token) cut.before) → (is_body_due (map (λ (w : WordValue). w.token) cut.before) ≡ true → may_be_due cut.word.token ≡ false) → (cut.word.token ≡ token.Unknown) ⊎ (cut.word.token ≢ token.Unknown) → IsMisplacedIn text line ⊎ (IsUnknownIn text line ⊎ EndsEarly text line)
    is cut goes_on misfit (inr known) =
        let token_of : WordValue → Token = λ (w : WordValue). w.token in
        let words : AreKnown (map token_of (cut.before ++ cut.word ∷ [])) = subst AreKnown (sym (map-append token_of cut.before (cut.word ∷ []))) (both (map token_of cut.before) (cut.word.token ∷ []) (goes_on_known (map token_of cut.before) goes_on) (behind cut.word.token [] known nothing)) in
        let parts : ws ≡ cut.before ++ cut.word ∷ cut.back = cut.parts ∙ append_assoc cut.before (cut.word ∷ []) cut.back in
        let fits = in_places cut.before cut.back cut.word parts known in
        let elsewhere = none_due (map token_of cut.before) cut.word.token fits misfit in
        inl (record {
          before = cut.before;
          word = cut.word;
          begun = begun (cut.before ++ cut.word ∷ []) cut.back cut.parts words;
          known = known;
          elsewhere = elsewhere;
          plain = plain_word cut.word.token known (subst (λ b. FitsPlace b cut.word.token) elsewhere fits);
          goes_on = goes_on;
          misplaced = cut.holds.misplaced;
          drawn = before_drawn cut;
          line_is = cut.line_is;
        })
    is cut goes_on misfit (inl unknown) =
        let parts : ws ≡ cut.before ++ cut.word ∷ cut.back = cut.parts ∙ append_assoc cut.before (cut.word ∷ []) cut.back in
        let none = unknown_last ws cut.before cut.back cut.word last_one parts unknown in
        let alone : ws ≡ cut.before ++ cut.word ∷ [] = parts ∙ ap (λ back. cut.before ++ cut.word ∷ back) none in
        inr (inl (record {
          before = cut.before;
          goes_on = goes_on;
          stopped = subst (λ line. BeginsWithWordsThen (λ n rest. HasNoWordBehind (last_line text) cut.before n rest line) (without_last 13 text) cut.before) (sym cut.line_is) (stopped cut.before cut.word alone unknown);
          drawn = before_drawn cut;
        }))

    of_cut : CutAtLine IsLastMisplaced ws line → IsMisplacedIn text line ⊎ (IsUnknownIn text line ⊎ EndsEarly text line)
    of_cut cut =
        let token_of : WordValue → Token = λ (w : WordValue). w.token in
        let before : map token_of cut.before ≡ cut.holds.before = front_is (map token_of cut.before) cut.holds.before cut.word.token cut.holds.word (sym (map-append token_of cut.before (cut.word ∷ [])) ∙ cut.holds.parts) in
        let word : cut.word.token ≡ cut.holds.word = last_is (map token_of cut.before) cut.holds.before cut.word.token cut.holds.word (sym (map-append token_of cut.before (cut.word ∷ [])) ∙ cut.holds.parts) in
        let goes_on = subst GoesOnSound (sym before) cut.holds.goes_on in
        let misfit : is_body_due (map token_of cut.before) ≡ true → may_be_due cut.word.token ≡ false = λ due. ap may_be_due word ∙ cut.holds.misfit (ap is_body_due (sym before) ∙ due) in
        is cut goes_on misfit (unknown_or_known cut.word.token)
