-- The lines of sources in a text are those in its front.
use Rattle.std.proofs.Common.{◌≡◌, ◌+◌, ℕ, List, [], ◌∷◌, ◌++◌, length, take, drop, sym, ap, subst, ◌∙◌, append_assoc, arith}
use Rattle.std.specs.List.{flat_map}
use Rattle.std.proofs.lemmas.List.{length-append, length-take, take-append-drop}
use Rattle.plant_text.specs.declared.token.Token.{Token}
use Rattle.plant_text.specs.declared.token.Keyword.TheVariants as key
use Rattle.plant_text.specs.declared.token.Punctuation.TheVariants.{Close, Semicolon}
use Rattle.plant_grammar.specs.declared.grammar.tree.SourceName.{SourceName}
use Rattle.plant_grammar.specs.declared.grammar.tree.SourceName.TheVariants as source
use Rattle.plant_grammar.specs.declared.grammar.tree.SourceLines.{SourceLines}
use Rattle.plant_grammar.specs.declared.grammar.tree.Bind.{Bind}
use Rattle.plant_grammar.specs.declared.grammar.tree.Item.{Item}
use Rattle.plant_grammar.specs.declared.grammar.tree.Item.TheVariants as item
use Rattle.plant_grammar.specs.declared.grammar.tree.Resource.{Resource}
use Rattle.plant_grammar.specs.Grammar.{key_word, mark_word, item_words, resource_words}
use Rattle.plant_grammar.specs.Lawful.{binds_of}
use Rattle.plant_grammar.specs.SourceLines.{AreNamesOn, IsSourceOn, further_binds, AreBindsOn, IsItemOn, EachBefore, IsResourceOn, AreSourcesOn}
use Rattle.plant.proofs.BodyCounts.{same_fronts}

module _ (xs ys : List ℕ) (tail : List Token) (many : length ys ≡ length tail) where
  names_cut : (rest : List Token) (l : SourceLines) → AreNamesOn (xs ++ ys) (rest ++ tail) l → AreNamesOn xs rest l
  names_cut rest l h =
      let front = take (length rest) h.behind in
      let back = drop (length rest) h.behind in
      let own : List ℕ = l.resource ∷ h.first_dot ∷ l.instance ∷ h.second_dot ∷ l.output ∷ front in
      let split : front ++ back ≡ h.behind = take-append-drop (length rest) h.behind in
      let long : length h.behind ≡ length rest + length tail = h.each ∙ length-append rest tail in
      let both : length front + length back ≡ length h.behind = sym (length-append front back) ∙ ap length split in
      let taken = length-take (length rest) h.behind in
      let few : length front ≡ length rest = omega arith in
      let whole : xs ++ ys ≡ (h.before ++ own) ++ back =
      h.parts ∙ ap (λ (zs : List ℕ). h.before ++ l.resource ∷ h.first_dot ∷ l.instance ∷ h.second_dot ∷ l.output ∷ zs) (sym split) ∙ sym (append_assoc h.before own back) in
      let all : length xs + length ys ≡ length (h.before ++ own) + length back = sym (length-append xs ys) ∙ ap length whole ∙ length-append (h.before ++ own) back in
      let same : length xs ≡ length (h.before ++ own) = omega (arith, many) in
      record {
        before = h.before;
        first_dot = h.first_dot;
        second_dot = h.second_dot;
        behind = front;
        parts = same_fronts xs ys (h.before ++ own) back whole same;
        each = few;
      }

  source_cut : (s : SourceName) (rest : List Token) (l : SourceLines) → IsSourceOn (xs ++ ys) s (rest ++ tail) l → IsSourceOn xs s rest l
  source_cut (source.Field a) rest l h = tt
  source_cut (source.Output r i o) rest l h = names_cut rest l h

  binds_cut : (bs : List Bind) (ls : List SourceLines) (rest : List Token) → AreBindsOn (xs ++ ys) bs ls (rest ++ tail) → AreBindsOn xs bs ls rest
  binds_cut [] [] rest h = tt
  binds_cut [] (l ∷ ls) rest h = h
  binds_cut (b ∷ bs) [] rest h = h
  binds_cut (b ∷ bs) (l ∷ ls) rest h =
      let behind : further_binds bs ++ (rest ++ tail) ≡ (further_binds bs ++ rest) ++ tail = sym (append_assoc (further_binds bs) rest tail) in
      (source_cut b.source (further_binds bs ++ rest) l (subst (λ (r : List Token). IsSourceOn (xs ++ ys) b.source r l) behind h.0), binds_cut bs ls rest h.1)

  item_cut : (x : Item) (rest : List Token) → IsItemOn (xs ++ ys) x (rest ++ tail) → IsItemOn xs x rest
  item_cut (item.Task t) rest h = tt
  item_cut (item.Use u) rest h = binds_cut (binds_of u) u.lines.items (mark_word Close ∷ mark_word Semicolon ∷ rest) h

  each_cut : {A : Type 0} (f : A → List Token) (P Q : A → List Token → Type 0) → ((x : A) (rest : List Token) → P x (rest ++ tail) → Q x rest) → (zs : List A) (rest : List Token) → EachBefore f P zs (rest ++ tail) → EachBefore f Q zs rest
  each_cut f P Q one [] rest h = tt
  each_cut f P Q one (z ∷ zs) rest h =
      let behind : flat_map f zs ++ (rest ++ tail) ≡ (flat_map f zs ++ rest) ++ tail = sym (append_assoc (flat_map f zs) rest tail) in
      (one z (flat_map f zs ++ rest) (subst (P z) behind h.0), each_cut f P Q one zs rest h.1)

  resource_cut : (r : Resource) (rest : List Token) → IsResourceOn (xs ++ ys) r (rest ++ tail) → IsResourceOn xs r rest
  resource_cut r rest h = each_cut item_words (IsItemOn (xs ++ ys)) (IsItemOn xs) item_cut r.items.items (key_word key.EndResource ∷ rest) h

  pub sources_cut : (rs : List Resource) → AreSourcesOn (xs ++ ys) rs tail → AreSourcesOn xs rs []
  sources_cut rs h = each_cut resource_words (IsResourceOn (xs ++ ys)) (IsResourceOn xs) resource_cut rs (key_word key.EndConfiguration ∷ []) h
