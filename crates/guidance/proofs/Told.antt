-- Parts that are told one after the other.
use Rattle.std.proofs.Common.{◌≡◌, ◌∙◌, ap, sym, refl, ℕ, cond, fold, filter, map, if◌then◌else◌, Bool, true, false, List, [], ◌∷◌}
use Rattle.std.specs.List.{flat_map}
use Rattle.std.proofs.lemmas.List.Sums.{fold-append}
use Rattle.guidance.specs.declared.remarks.Occasion.{Occasion}
use Rattle.guidance.specs.declared.remarks.TheConstants.{OCCASIONS}
use Rattle.guidance.specs.declared.topic.TheConstants.{TOPICS}
use Rattle.guidance.specs.Kinds.{kind_text}
use Rattle.guidance.specs.Explaining.{RemarkValue, and_part, explained, is_called, remark_text, remarks_on, told_on, topic_text, topics_told}
use Rattle.guidance.specs.Steps.Explained.{and_occasion, and_remark, and_topic}

-- to add what is made of an element, if it passes, and then of those behind it
if_passed : {A B C : Type 0} (f : C → B → C) (p : A → Bool) (g : A → B) (c : C) (x : A) (xs : List A) (b : Bool) → ((d : C) → fold (λ c x. if p x then f c (g x) else c) d xs ≡ fold f d (map g (filter p xs))) → fold (λ c x. if p x then f c (g x) else c) (if b then f c (g x) else c) xs ≡ fold f c (map g (cond b (x ∷ filter p xs) (filter p xs)))
if_passed f p g c x xs true more = more (f c (g x))
if_passed f p g c x xs false more = more c

-- to add what is made of each element that passes is to add these one after the other
pub fold_if : {A B C : Type 0} (f : C → B → C) (p : A → Bool) (g : A → B) (c : C) (xs : List A) → fold (λ c x. if p x then f c (g x) else c) c xs ≡ fold f c (map g (filter p xs))
fold_if f p g c [] = refl
fold_if f p g c (x ∷ xs) = if_passed f p g c x xs (p x) (λ d. fold_if f p g d xs)

-- to add the parts of each element is to add all parts
pub fold_flat_map : {A B C : Type 0} (f : C → B → C) (g : A → List B) (c : C) (xs : List A) → fold (λ c x. fold f c (g x)) c xs ≡ fold f c (flat_map g xs)
fold_flat_map f g c [] = refl
fold_flat_map f g c (x ∷ xs) = fold_flat_map f g (fold f c (g x)) xs ∙ sym (fold-append f c (g x) (flat_map g xs))

-- what is told on an occasion of the kinds of a name, one after the other
pub remarks_told : (o : Occasion) (name text : List ℕ) → fold (and_remark o name) text (remarks_on o) ≡ fold and_part text (told_on name o)
remarks_told o name text = fold_if and_part (λ (r : RemarkValue). is_called r.kind name) (remark_text o) text (remarks_on o)

-- what is told on each occasion stands behind what is told of faults and warnings
pub all_told : (name : List ℕ) → fold (and_occasion name) (fold (and_topic name) [] TOPICS) OCCASIONS ≡ explained name
all_told name =
    fold_flat_map and_part (told_on name) (fold (and_topic name) [] TOPICS) OCCASIONS
    ∙ (ap (λ text. fold and_part text (flat_map (told_on name) OCCASIONS)) (fold_if and_part (λ t. is_called (kind_text t) name) topic_text [] TOPICS)
    ∙ sym (fold-append and_part [] (topics_told name) (flat_map (told_on name) OCCASIONS)))
