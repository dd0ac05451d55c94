-- Texts of which what is written, and where it ends, is one thing.
use Rattle.std.proofs.Common.{arith, ◌≡◌, ℕ, ◌<◌, ◌++◌, ◌∷◌, [], List, map, sym, ap, refl, ◌∙◌, append_assoc}
use Rattle.std.specs.Prelude.{codes, slice_get}
use Rattle.std.specs.List.{AllZip, flat_map, zip}
use Rattle.std.specs.Fmt.{decimal}
use Rattle.std.proofs.lemmas.Fmt.{decimal_injective}
use Rattle.std.proofs.lemmas.List.{append_cancel_left}
use Rattle.std_blocks.specs.declared.value.Value.{Value}
use Rattle.declared_names.specs.declared.declarations.Kind.{Kind}
use Rattle.task_codes.specs.declared.task_output.TaskOutput.{TaskOutput}
use Rattle.task_codes.specs.CodeValue.{CodeValue}
use Rattle.plant.specs.PlantValue.{ResourceValue}
use Rattle.text_lines.specs.LineParts.{value_text}
use Rattle.text_lines.specs.Lists.{instance_text, variable_text, list_text, give_text}
use Rattle.text_lines.specs.MessageLines.{IsSmall}
use Rattle.text_lines.specs.Steps.Reading.{HasNone, StopsAt, dotted, pair_text, IsPair, IsHeardOf, heard_item, IsOfKind, blank_give, IsGivenOf}
use Rattle.text_lines.specs.Steps.Values.{same_value}
use Rattle.text_lines.proofs.WordsRead.{none_decimal, none_value}
use Rattle.text_lines.proofs.Messages.{blanks}

-- Two words without a byte are equal if each stands before that byte, or at the end, of one text.
pub same_words : (stop : ℕ) (w v more left : List ℕ) → HasNone stop w → HasNone stop v → StopsAt stop more → StopsAt stop left → w ++ more ≡ v ++ left → (w ≡ v) × (more ≡ left)
same_words stop [] [] more left clean plain ends stops e = (refl, e)
same_words stop [] (c ∷ v) [] left clean plain ends stops e = absurd cc
same_words stop [] (c ∷ v) (d ∷ more) left clean plain ends stops e = let h : d ≡ c = cc in absurd (plain.0 (sym h ∙ ends))
same_words stop (a ∷ w) [] more [] clean plain ends stops e = absurd cc
same_words stop (a ∷ w) [] more (d ∷ left) clean plain ends stops e = let h : a ≡ d = cc in absurd (clean.0 (h ∙ stops))
same_words stop (a ∷ w) (c ∷ v) more left clean plain ends stops e =
    let first : a ≡ c = cc in
    let others : w ++ more ≡ v ++ left = cc in
    let rest = same_words stop w v more left clean.1 plain.1 ends stops others in
    let words : w ≡ v = rest.0 in
    (cc, rest.1)

-- What is written of things of this sort, before such a byte or at the end of a text, is that of one alone.
abbrev pub IsOne : {B : Type 0} → (B → List ℕ) → (B → Type 0) → ℕ → Type 0
IsOne {B} written IsSo stop =
    (a b : B) (more left : List ℕ) → IsSo a → IsSo b → StopsAt stop more → StopsAt stop left → written a ++ more ≡ written b ++ left → (a ≡ b) × (more ≡ left)

-- so it is behind a beginning
pub one_behind : {B : Type 0} (written : B → List ℕ) (IsSo : B → Type 0) (stop : ℕ) (before : List ℕ) → IsOne written IsSo stop → IsOne (λ b. before ++ written b) IsSo stop
one_behind written IsSo stop before one =
    λ a b more left so other ends stops e.
    one a b more left so other ends stops (append_cancel_left before (written a ++ more) (written b ++ left) (sym (append_assoc before (written a) more) ∙ e ∙ append_assoc before (written b) left))

-- numbers
pub one_number : (stop : ℕ) → stop < 48 → IsOne decimal IsSmall stop
one_number stop below =
    λ a b more left so other ends stops e.
    let parts = same_words stop (decimal a) (decimal b) more left (none_decimal stop a below so) (none_decimal stop b below other) ends stops e in
    (decimal_injective a b (omega (arith, so)) (omega (arith, other)) parts.0, parts.1)

pub one_pair : IsOne pair_text IsPair 32
one_pair =
    λ a b more left so other ends stops e.
    let first = one_number 46 (omega arith) a.0 b.0 (dotted a.1 ++ more) (dotted b.1 ++ left) so.0 other.0 refl refl
    (sym (append_assoc (decimal a.0) (dotted a.1) more) ∙ e ∙ append_assoc (decimal b.0) (dotted b.1) left) in
    let second = one_number 32 (omega arith) a.1 b.1 more left so.1 other.1 ends stops
    (append_cancel_left (codes ".") (decimal a.1 ++ more) (decimal b.1 ++ left) first.1) in
    (ap (λ n. (n, a.1)) first.0 ∙ ap (λ n. (b.0, n)) second.0, second.1)

-- values of a kind
pub one_value : (kind : Kind) → IsOne value_text (IsOfKind kind) 32
one_value kind =
    λ a b more left so other ends stops e.
    let parts = same_words 32 (value_text a) (value_text b) more left (none_value a so.1) (none_value b other.1) ends stops e in
    (same_value a b (so.0 ∙ sym other.0) so.1 other.1 parts.0, parts.1)

-- items, each behind a blank, of which each is written of one thing alone
module _ {A B : Type 0} (g : A × B → List ℕ) (IsSo : A → B → Type 0) (each : (a : A) → IsOne (λ b. g (a, b)) (IsSo a) 32) where
  abbrev item : A × B → List ℕ
  item e = codes " " ++ g e

  stops_at : (es : List (A × B)) (more : List ℕ) → StopsAt 32 more → StopsAt 32 (flat_map item es ++ more)
  stops_at [] more ends = ends
  stops_at (e ∷ es) more ends = refl

  pub one_list : (xs : List A) (ys zs : List B) (more left : List ℕ) → AllZip IsSo xs ys → AllZip IsSo xs zs → StopsAt 32 more → StopsAt 32 left
      → flat_map item (zip xs ys) ++ more ≡ flat_map item (zip xs zs) ++ left → (ys ≡ zs) × (more ≡ left)
  one_list [] [] [] more left all others ends stops e = (refl, e)
  one_list [] [] (z ∷ zs) more left all others ends stops e = absurd others
  one_list [] (y ∷ ys) zs more left all others ends stops e = absurd all
  one_list (x ∷ xs) [] zs more left all others ends stops e = absurd all
  one_list (x ∷ xs) (y ∷ ys) [] more left all others ends stops e = absurd others
  one_list (x ∷ xs) (y ∷ ys) (z ∷ zs) more left all others ends stops e =
      let f = flat_map item (zip xs ys) in
      let h = flat_map item (zip xs zs) in
      let inner : (g (x, y) ++ f) ++ more ≡ (g (x, z) ++ h) ++ left = append_cancel_left (codes " ") ((g (x, y) ++ f) ++ more) ((g (x, z) ++ h) ++ left) e in
      let first = each x y z (f ++ more) (h ++ left) all.0 others.0 (stops_at (zip xs ys) more ends) (stops_at (zip xs zs) left stops)
      (sym (append_assoc (g (x, y)) f more) ∙ inner ∙ append_assoc (g (x, z)) h left) in
      let rest = one_list xs ys zs more left all.1 others.1 ends stops first.1 in
      let one : y ≡ z = first.0 in
      let some : ys ≡ zs = rest.0 in
      (cc, rest.1)

-- a resource, and of which incarnation of it was heard
pub one_heard : (r : ResourceValue) → IsOne (λ n. heard_item (r, n)) (IsHeardOf r) 32
one_heard r = one_behind decimal IsSmall 32 (r.name ++ codes "=") (one_number 32 (omega arith))

-- an output and its value
pub one_give : (code : CodeValue) (o : TaskOutput) → IsOne (λ v. give_text code (o, v)) (IsGivenOf o) 32
one_give code o = one_behind value_text (IsOfKind o.kind) 32 (instance_text code o ++ codes "." ++ variable_text o (slice_get code.programs o.program) ++ codes "=") (one_value o.kind)

-- what a task gave
pub one_gives : (code : CodeValue) (os : List TaskOutput) (vs ws : List Value) → AllZip IsGivenOf os vs → AllZip IsGivenOf os ws
    → list_text (map (give_text code) (zip os vs)) ≡ list_text (map (give_text code) (zip os ws)) → vs ≡ ws
one_gives code [] [] [] all others e = refl
one_gives code [] [] (w ∷ ws) all others e = absurd others
one_gives code [] (v ∷ vs) ws all others e = absurd all
one_gives code (o ∷ os) [] ws all others e = absurd all
one_gives code (o ∷ os) (v ∷ vs) [] all others e = absurd others
one_gives code (o ∷ os) (v ∷ vs) (w ∷ ws) all others e =
    let listed : flat_map (blank_give code) (zip (o ∷ os) (v ∷ vs)) ≡ flat_map (blank_give code) (zip (o ∷ os) (w ∷ ws)) =
    sym (blanks (give_text code) (o, v) (zip os vs)) ∙ ap (λ l. codes " " ++ l) e ∙ blanks (give_text code) (o, w) (zip os ws) in
    (one_list (give_text code) IsGivenOf (one_give code) (o ∷ os) (v ∷ vs) (w ∷ ws) [] [] all others tt tt (ap (λ l. l ++ []) listed)).0
