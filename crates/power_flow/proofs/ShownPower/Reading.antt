-- Elements that are passed one after the other, with what is told of each.
use Rattle.std.proofs.Common.{◌≡◌, ℕ, zero, suc, ◌+◌, ◌-◌, inl, inr, List, [], ◌∷◌, ◌++◌, Bool, Some, All, slice_get, length, take, drop, refl, sym, ap, ◌∙◌, subst, arith}
use Rattle.std.proofs.lemmas.List.{length-append, length-drop, take_all}
use Rattle.std.proofs.Math.Seq.{drop-append_seam}
use Rattle.lists.proofs.Places.{some_same, slice_get-append}
use Rattle.network.specs.declared.element.Element.{Element}
use Rattle.network.specs.Links.{Diagram}
use Rattle.declared_names.specs.declared.declarations.Declaration.{Declaration}
use Rattle.scan_steps.specs.declared.slot.Slot.{Slot}
use Rattle.scan_steps.specs.declared.bound_box.BoundBox.{BoundBox}
use Rattle.scan_steps.specs.declared.step.Step.{Step}
use Rattle.scan_steps.specs.Steps.Passing.{Pass, ArePassed, IsStepIn}
use Rattle.power_flow.specs.Steps.Columns.{joined, AreStepsOf}
use Rattle.power_flow.specs.Steps.RowEnds.{AreRows, ArePushed}
use Rattle.power_flow.specs.Steps.Comings.{IsComingTo, AreRead, AreReadTo}
use Rattle.power_flow.specs.Waiting.{coils_of, boxes_of}
use Rattle.power_flow.proofs.Networks.ElementSteps.{joined_push}
use Rattle.power_flow.proofs.Networks.CircuitOf.{part_in}

passed_both : (boxes : List BoundBox) (slots : List Slot) (dt : ℕ) (xs ys : List Step) (a mid b : Pass) → ArePassed boxes slots dt xs a mid → ArePassed boxes slots dt ys mid b → ArePassed boxes slots dt (xs ++ ys) a b
passed_both boxes slots dt [] ys a mid b one two = let P : Pass → Type 0 = λ w. ArePassed boxes slots dt ys w b in subst P one two
passed_both boxes slots dt (x ∷ xs) ys a mid b one two = (one.0, one.1, passed_both boxes slots dt xs ys one.0 mid b one.2 two)

-- what is read is passed
pub read_passed : (d : Diagram) (top : ℕ) (boxes : List BoundBox) (slots : List Slot) (dt n : ℕ) (ps : List (List Step)) (bits : List Bool) (a b : Pass)
    → AreRead d top boxes slots dt n ps bits a b → ArePassed boxes slots dt (joined ps) a b
read_passed d top boxes slots dt n [] [] a b h = h
read_passed d top boxes slots dt n [] (bit ∷ bits) a b h = absurd h
read_passed d top boxes slots dt n (p ∷ ps) [] a b h = absurd h
read_passed d top boxes slots dt n (p ∷ ps) (bit ∷ bits) a b h =
    passed_both boxes slots dt p (joined ps) a h.0 b h.2 (read_passed d top boxes slots dt (n + 1) ps bits h.0 b h.3)

-- one more element
read_more : (d : Diagram) (top : ℕ) (boxes : List BoundBox) (slots : List Slot) (dt n m : ℕ) (ps : List (List Step)) (bits : List Bool) (part : List Step) (bit : Bool) (a b c : Pass)
    → m ≡ n + length ps → AreRead d top boxes slots dt n ps bits a b → ((e : Element) → slice_get d.elements m ≡ Some e → IsComingTo d top b.rows e bit) → ArePassed boxes slots dt part b c
    → AreRead d top boxes slots dt n (ps ++ part ∷ []) (bits ++ bit ∷ []) a c
read_more d top boxes slots dt n m [] [] part bit a b c is h told passed =
    let none : length {A = List Step} [] ≡ 0 = refl in
    let here : n ≡ m = omega arith in
    let P : Pass → Type 0 = λ w. ArePassed boxes slots dt part w c in (
      c,
      λ e at. (let Q : Pass → Type 0 = λ w. IsComingTo d top w.rows e bit in subst Q h (told e (ap (slice_get d.elements) (sym here) ∙ at))),
      subst P h passed,
      refl,
    )
read_more d top boxes slots dt n m [] (x ∷ bits) part bit a b c is h told passed = absurd h
read_more d top boxes slots dt n m (p ∷ ps) [] part bit a b c is h told passed = absurd h
read_more d top boxes slots dt n m (p ∷ ps) (x ∷ bits) part bit a b c is h told passed =
    let long : length (p ∷ ps) ≡ suc (length ps) = refl in
    (h.0, h.1, h.2, read_more d top boxes slots dt (n + 1) m ps bits part bit h.0 b c (omega arith) h.3 told passed)

-- the steps from where they were added on are those that were
part_of : (steps part new given : List Step) (from : ℕ) → new ≡ steps ++ part → from ≡ length steps → given ≡ new → take (length given - from) (drop from given) ≡ part
part_of steps part new given from is start same =
    let rest : drop from given ≡ part = ap (drop from) same ∙ ap (λ k. drop k new) start ∙ ap (drop (length steps)) is ∙ drop-append_seam steps part in
    take_all (length given - from) (drop from given) (let long = length-drop from given in omega arith) ∙ rest

pub reading_more : (ds : List Declaration) (d : Diagram) (top : ℕ) (boxes : List BoundBox) (slots : List Slot) (dt n from : ℕ) (steps new given : List Step) (bits bits' : List Bool) (on : Bool) (a b c : Pass)
    → AreReadTo ds d top boxes slots dt n steps bits a b → ArePushed ds d top n steps new → from ≡ length steps → given ≡ new → bits' ≡ bits ++ on ∷ []
    → ((e : Element) → slice_get d.elements n ≡ Some e → IsComingTo d top b.rows e on) → ArePassed boxes slots dt (take (length given - from) (drop from given)) b c
    → AreReadTo ds d top boxes slots dt (n + 1) new bits' a c
reading_more ds d top boxes slots dt n from steps new given bits bits' on a b c are more start same bits_are told passed =
    let P : List Step → Type 0 = λ w. ArePassed boxes slots dt w b c in
    let Q : List Bool → Type 0 = λ w. AreReadTo ds d top boxes slots dt (n + 1) new w a c in
    subst Q (sym bits_are) (record {
      parts = are.parts ++ more.part ∷ [];
      long = (let l = are.long in omega (arith, length-append are.parts (more.part ∷ [])));
      each = λ k e part at at'. elim (slice_get-append are.parts (more.part ∷ []) k) [
        | inl before ↦ are.each k e part at (sym before.1 ∙ at')
        | inr last ↦ (let l = are.long in go last.0 k e part at (sym last.2 ∙ at') (omega (arith, last.1)))
      ];
      whole = more.new_is ∙ ap (λ x. x ++ more.part) are.whole ∙ sym (joined_push are.parts more.part);
      read = read_more d top boxes slots dt 0 n are.parts bits more.part on a b c (let l = are.long in omega arith) are.read told (subst P (part_of steps more.part new given from more.new_is start same) passed);
    })
  where
    go : (j k : ℕ) (e : Element) (part : List Step) → slice_get d.elements k ≡ Some e → slice_get (more.part ∷ []) j ≡ Some part → k ≡ n + j → AreStepsOf ds d top k e part
    go zero k e part at here is =
        let same : k ≡ n = omega arith in
        let P : ℕ → Type 0 = λ m. AreStepsOf ds d top m e part in
        let Q : List Step → Type 0 = λ x. AreStepsOf ds d top n e x in
        subst P (sym same) (subst Q (some_same here) (more.are e (ap (slice_get d.elements) (sym same) ∙ at)))
    go (suc j) k e part at here is = absurd (cc)

pub reading_none : (ds : List Declaration) (d : Diagram) (top : ℕ) (boxes : List BoundBox) (slots : List Slot) (dt : ℕ) (steps : List Step) (bits : List Bool) (a : Pass)
    → steps ≡ [] → bits ≡ [] → AreReadTo ds d top boxes slots dt 0 steps bits a a
reading_none ds d top boxes slots dt steps bits a none no_bits = record {
  parts = [];
  long = refl;
  each = λ k e part at at'. (cc);
  whole = none;
  read = (let P : List Bool → Type 0 = λ w. AreRead d top boxes slots dt 0 [] w a a in subst P (sym no_bits) refl);
}

-- the numbers of the steps that were added stand for rows, memories, coils and boxes
pub part_within : (ds : List Declaration) (d : Diagram) (top rows n from memories links boxes : ℕ) (e : Element) (steps new given : List Step) → AreRows d.elements top rows → slice_get d.elements n ≡ Some e
    → ArePushed ds d top n steps new → from ≡ length steps → given ≡ new → memories ≡ length d.elements → links ≡ length (coils_of d.elements) → boxes ≡ length (boxes_of d.elements)
    → All (IsStepIn rows memories links boxes) (take (length given - from) (drop from given))
part_within ds d top rows n from memories links boxes e steps new given are at more start same m l b =
    rw (part_of steps more.part new given from more.new_is start same, m, l, b) (part_in ds d top rows are n e more.part at (more.are e at))

-- as much was told as there are parts
read_long : (d : Diagram) (top : ℕ) (boxes : List BoundBox) (slots : List Slot) (dt n : ℕ) (ps : List (List Step)) (bits : List Bool) (a b : Pass) → AreRead d top boxes slots dt n ps bits a b → length bits ≡ length ps
read_long d top boxes slots dt n [] [] a b h = refl
read_long d top boxes slots dt n [] (bit ∷ bits) a b h = absurd h
read_long d top boxes slots dt n (p ∷ ps) [] a b h = absurd h
read_long d top boxes slots dt n (p ∷ ps) (bit ∷ bits) a b h = ap suc (read_long d top boxes slots dt (n + 1) ps bits h.0 b h.3)

pub reading_long : (ds : List Declaration) (d : Diagram) (top : ℕ) (boxes : List BoundBox) (slots : List Slot) (dt n : ℕ) (steps : List Step) (bits : List Bool) (a b : Pass)
    → AreReadTo ds d top boxes slots dt n steps bits a b → length bits ≡ n
reading_long ds d top boxes slots dt n steps bits a b are = read_long d top boxes slots dt 0 are.parts bits a b are.read ∙ are.long
