-- Lists that are read item by item.
use Rattle.std.proofs.Common.{arith, ◌≡◌, ℕ, ◌+◌, ◌<◌, ◌≤◌, ◌++◌, ◌∷◌, [], List, length, map, take, drop, get_or, slice_get, subst, Some, None, sym, ap, refl, ◌∙◌, append_assoc}
use Rattle.std.specs.Prelude.{codes}
use Rattle.std.specs.Option.{option_map}
use Rattle.std.specs.List.{AllByRecursion, AllZip, flat_map, zip}
use Rattle.std.proofs.lemmas.List.{append-nil, flat_map_more, length-append, map-append, take_all, take_more, drop_more, length-drop, nil_from_length}
use Rattle.std.proofs.lemmas.Slice.Zip.{length-zip, get_or-zip}
use Rattle.std.proofs.lemmas.Option.{none-some, some_pair_parts, slice_get_within, slice_get-map, get_or_from_slice_get}
use Rattle.lists.proofs.Places.{element_at}
use Rattle.lists.proofs.Zips.{zip_at, zip_length}
use Rattle.lists.proofs.Each.{each-push}
use Rattle.std_blocks.specs.declared.value.Value.{Value}
use Rattle.declared_names.specs.declared.declarations.Kind.{Kind}
use Rattle.declared_names.specs.Kinds.{kind_of}
use Rattle.task_codes.specs.declared.task_output.TaskOutput.{TaskOutput}
use Rattle.task_codes.specs.CodeValue.{CodeValue, image_kinds}
use Rattle.plant.specs.PlantValue.{ResourceValue}
use Rattle.text_lines.specs.Lists.{give_text}
use Rattle.text_lines.specs.ReadParts.{IsInRange}
use Rattle.text_lines.specs.MessageLines.{heard_text, IsSmall}
use Rattle.text_lines.specs.Steps.Reading.{StopsAt, IsRead, heard_item, IsHeardOf, IsOfKind, blank_give, IsGivenOf, blank_gives}

module _ {A B : Type 0} (g : A × B → List ℕ) (IsSo : A → B → Type 0) (xs : List A) (text : List ℕ) where
  -- an item behind its blank
  abbrev item : A × B → List ℕ
  item e = codes " " ++ g e

  -- Of all items that the text can begin with, so many first ones were read, and the others are left.
  abbrev pub AreFirst : ℕ → List B → List ℕ → Type 0
  AreFirst k found rest =
      (ys : List B) (more : List ℕ) → AllZip IsSo xs ys → StopsAt 32 more → text ≡ flat_map item (zip xs ys) ++ more
      → (found ≡ take k ys) × (rest ≡ flat_map item (drop k (zip xs ys)) ++ more)

  abbrev items : List B → List ℕ
  items ys = flat_map item (zip xs ys)

  stops : (es : List (A × B)) (more : List ℕ) → StopsAt 32 more → StopsAt 32 (flat_map item es ++ more)
  stops [] more ends = ends
  stops (e ∷ es) more ends = refl

  -- what stands before the next item
  next : (k : ℕ) (a : A) (b : B) (ys : List B) → AllZip IsSo xs ys → slice_get xs k ≡ Some a → slice_get ys k ≡ Some b → drop k (zip xs ys) ≡ (a, b) ∷ drop (k + 1) (zip xs ys)
  next k a b ys all at here =
      let within = slice_get_within xs k a at in
      let many = zip_length IsSo xs ys all in
      drop_more (zip xs ys) k (a, b) (omega (arith, within, many, length-zip xs ys))
      ∙ ap (λ e. e ∷ drop (k + 1) (zip xs ys)) (get_or-zip xs ys k (a, b) within (omega (arith, within, many)) ∙ ap (λ x. (x, get_or ys k b)) (get_or_from_slice_get xs k a a at) ∙ ap (λ y. (a, y)) (get_or_from_slice_get ys k b b here))

  pub first_more : (k : ℕ) (a : A) (found : List B) (rest : List ℕ) (b : B) (left : List ℕ) → slice_get xs k ≡ Some a → AreFirst k found rest
      → IsRead (λ y. item (a, y)) (IsSo a) 32 rest (Some (b, left)) → AreFirst (k + 1) (found ++ b ∷ []) left
  first_more k a found rest b left at before read =
      λ ys more all ends e.
      let was = before ys more all ends e in
      let here = zip_at IsSo xs ys all k a at in
      let y = here.0 in
      let others = drop (k + 1) (zip xs ys) in
      let tail = flat_map item others ++ more in
      let parted : rest ≡ item (a, y) ++ tail = was.1 ∙ ap (λ l. flat_map item l ++ more) (next k a y ys all at here.1) ∙ append_assoc (item (a, y)) (flat_map item others) more in
      let same = some_pair_parts b y left tail (read y tail here.2 (stops others more ends) parted) in
      let within = slice_get_within ys k y here.1 in (
        ap (λ l. l ++ b ∷ []) was.0 ∙ ap (λ v. take k ys ++ v ∷ []) (same.0 ∙ sym (get_or_from_slice_get ys k y y here.1)) ∙ sym (take_more ys k y within),
        same.1,
      )

  -- where the next item isn't there, there are no such items
  pub first_stuck : (k : ℕ) (a : A) (found : List B) (rest : List ℕ) → slice_get xs k ≡ Some a → AreFirst k found rest
      → IsRead (λ y. item (a, y)) (IsSo a) 32 rest None → IsRead items (AllZip IsSo xs) 32 text None
  first_stuck k a found rest at before none =
      λ ys more all ends e.
      let was = before ys more all ends e in
      let here = zip_at IsSo xs ys all k a at in
      let others = drop (k + 1) (zip xs ys) in
      let tail = flat_map item others ++ more in
      let parted : rest ≡ item (a, here.0) ++ tail = was.1 ∙ ap (λ l. flat_map item l ++ more) (next k a here.0 ys all at here.1) ∙ append_assoc (item (a, here.0)) (flat_map item others) more in
      absurd (none-some (here.0, tail) (none here.0 tail here.2 (stops others more ends) parted))

  -- all were read
  pub first_all : (k : ℕ) (found : List B) (rest : List ℕ) → length xs ≤ k → AreFirst k found rest → IsRead items (AllZip IsSo xs) 32 text (Some (found, rest))
  first_all k found rest end before =
      λ ys more all ends e.
      let was = before ys more all ends e in
      let many = zip_length IsSo xs ys all in
      let none : drop k (zip xs ys) ≡ [] = nil_from_length (drop k (zip xs ys)) (omega (arith, end, many, length-zip xs ys, length-drop k (zip xs ys))) in
      let values : found ≡ ys = was.0 ∙ take_all k ys (omega (arith, end, many)) in
      let left : rest ≡ more = was.1 ∙ ap (λ l. flat_map item l ++ more) none in
      cc

-- items that are written, one more each time
module _ {A B : Type 0} (f : A × B → List ℕ) (xs : List A) (ys : List B) (many : length ys ≡ length xs) (old : List ℕ) where
  pub written_none : old ≡ old ++ flat_map f (take 0 (zip xs ys))
  written_none = sym (append-nil old)

  pub written_more : (k : ℕ) (a : A) (b : B) (now new : List ℕ) → slice_get xs k ≡ Some a → slice_get ys k ≡ Some b → now ≡ old ++ flat_map f (take k (zip xs ys)) → new ≡ now ++ f (a, b)
      → new ≡ old ++ flat_map f (take (k + 1) (zip xs ys))
  written_more k a b now new at here was is =
      let within = slice_get_within xs k a at in
      let pair : get_or (zip xs ys) k (a, b) ≡ (a, b) =
      get_or-zip xs ys k (a, b) within (omega (arith, within, many)) ∙ ap (λ x. (x, get_or ys k b)) (get_or_from_slice_get xs k a a at) ∙ ap (λ y. (a, y)) (get_or_from_slice_get ys k b b here) in
      is
      ∙ ap (λ l. l ++ f (a, b)) was
      ∙ ap (λ e. (old ++ flat_map f (take k (zip xs ys))) ++ f e) (sym pair)
      ∙ flat_map_more f old (take k (zip xs ys)) (get_or (zip xs ys) k (a, b))
      ∙ ap (λ l. old ++ flat_map f l) (sym (take_more (zip xs ys) k (a, b) (omega (arith, within, many, length-zip xs ys))))

  pub written_all : (k : ℕ) (now : List ℕ) → length ys ≤ k → now ≡ old ++ flat_map f (take k (zip xs ys)) → now ≡ old ++ flat_map f (zip xs ys)
  written_all k now end is = is ∙ ap (λ l. old ++ flat_map f l) (take_all k (zip xs ys) (omega (arith, end, length-zip xs ys)))

-- one more number was read
pub heard_more : (rs : List ResourceValue) (text : List ℕ) (k : ℕ) (found all : List ℕ) (rest : List ℕ) (n : ℕ) (left : List ℕ) → k < length rs → length found ≡ k → AllByRecursion IsSmall found
    → AreFirst heard_item IsHeardOf rs text k found rest → IsSmall n → ((r : ResourceValue) → slice_get rs k ≡ Some r → IsRead (λ m. heard_text (r, m)) (IsHeardOf r) 32 rest (Some (n, left)))
    → all ≡ found ++ n ∷ [] → (length all ≡ k + 1) × AllByRecursion IsSmall all × AreFirst heard_item IsHeardOf rs text (k + 1) all left
heard_more rs text k found all rest n left within many small before one read is =
    let here = element_at rs k within in (
      omega (arith, many, ap (λ l. length l) is, length-append found (n ∷ [])),
      subst (AllByRecursion IsSmall) (sym is) (each-push IsSmall found n small one),
      subst (λ l. AreFirst heard_item IsHeardOf rs text (k + 1) l left) (sym is) (first_more heard_item IsHeardOf rs text k here.0 found rest n left here.1 before (read here.0 here.1)),
    )

pub heard_stuck : (rs : List ResourceValue) (text : List ℕ) (k : ℕ) (found rest : List ℕ) → k < length rs → AreFirst heard_item IsHeardOf rs text k found rest
    → ((r : ResourceValue) → slice_get rs k ≡ Some r → IsRead (λ m. heard_text (r, m)) (IsHeardOf r) 32 rest None) → IsRead (λ ns. flat_map heard_text (zip rs ns)) (AllZip IsHeardOf rs) 32 text None
heard_stuck rs text k found rest within before none =
    let here = element_at rs k within in first_stuck heard_item IsHeardOf rs text k here.0 found rest here.1 before (none here.0 here.1)

-- one more value was read
pub give_more : (code : CodeValue) (text : List ℕ) (k : ℕ) (found all : List Value) (rest : List ℕ) (x : Value) (left : List ℕ) (kind : Kind) → k < length code.outputs
    → map kind_of found ≡ take k (image_kinds code) → AllByRecursion IsInRange found → AreFirst (give_text code) IsGivenOf code.outputs text k found rest
    → ((o : TaskOutput) → slice_get code.outputs k ≡ Some o → kind ≡ o.kind) → IsOfKind kind x
    → ((o : TaskOutput) → slice_get code.outputs k ≡ Some o → IsRead (λ v. blank_give code (o, v)) (IsOfKind kind) 32 rest (Some (x, left)))
    → all ≡ found ++ x ∷ [] → (map kind_of all ≡ take (k + 1) (image_kinds code)) × AllByRecursion IsInRange all × AreFirst (give_text code) IsGivenOf code.outputs text (k + 1) all left
give_more code text k found all rest x left kind within kinds ranges before same one read is =
    let here = element_at code.outputs k within in
    let o = here.0 in
    let of : kind ≡ o.kind = same o here.1 in
    let listed : slice_get (image_kinds code) k ≡ Some o.kind = slice_get-map (λ (p : TaskOutput). p.kind) code.outputs k ∙ ap (option_map (λ (p : TaskOutput). p.kind)) here.1 in (
      ap (map kind_of) is ∙ map-append kind_of found (x ∷ []) ∙ ap (λ l. l ++ kind_of x ∷ []) kinds
          ∙ ap (λ (q : Kind). take k (image_kinds code) ++ q ∷ []) (one.0 ∙ of ∙ sym (get_or_from_slice_get (image_kinds code) k o.kind o.kind listed))
          ∙ sym (take_more (image_kinds code) k o.kind (slice_get_within (image_kinds code) k o.kind listed)),
      subst (AllByRecursion IsInRange) (sym is) (each-push IsInRange found x ranges one.1),
      subst (λ l. AreFirst (give_text code) IsGivenOf code.outputs text (k + 1) l left) (sym is)
          (first_more (give_text code) IsGivenOf code.outputs text k o found rest x left here.1 before
          (subst (λ q. IsRead (λ v. blank_give code (o, v)) (IsOfKind q) 32 rest (Some (x, left))) of (read o here.1))),
    )

pub give_stuck : (code : CodeValue) (text : List ℕ) (k : ℕ) (found : List Value) (rest : List ℕ) (kind : Kind) → k < length code.outputs → AreFirst (give_text code) IsGivenOf code.outputs text k found rest
    → ((o : TaskOutput) → slice_get code.outputs k ≡ Some o → kind ≡ o.kind)
    → ((o : TaskOutput) → slice_get code.outputs k ≡ Some o → IsRead (λ v. blank_give code (o, v)) (IsOfKind kind) 32 rest None) → IsRead (blank_gives code) (AllZip IsGivenOf code.outputs) 32 text None
give_stuck code text k found rest kind within before same none =
    let here = element_at code.outputs k within in
    let o = here.0 in
    first_stuck (give_text code) IsGivenOf code.outputs text k o found rest here.1 before
    (subst (λ q. IsRead (λ v. blank_give code (o, v)) (IsOfKind q) 32 rest None) (same o here.1) (none o here.1))
