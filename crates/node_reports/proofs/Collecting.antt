-- What the checks of a report find out, step by step.
use Rattle.std.proofs.Common.{◌≡◌, ◌⊎◌, inl, inr, ℕ, ◌+◌, ◌-◌, ◌<◌, ◌≤◌, Bool, true, false, cond, eqb, not, ◌&&◌, ◌++◌, List, [], ◌∷◌, length, take, drop, map, filter, get_or, Option, Some, None, IfSome, slice_get, refl, ap, sym, ◌∙◌, subst, arith}
use Rattle.std.specs.List.{filter_map, list_any, cons_option}
use Rattle.std.specs.List.Sorted.{IsStrictlyIncreasing}
use Rattle.std.specs.Option.{option_map, option_to_list}
use Rattle.std.proofs.lemmas.Bool.{cases_lt}
use Rattle.std.proofs.lemmas.List.{take_more, length_push, length-append, get_or_push, get_or_append_left, get_or_at, length-map, map-append}
use Rattle.std.proofs.lemmas.List.Elements.{filter_map-append, filter-append}
use Rattle.std.proofs.lemmas.Option.{same_Some, slice_get_within, slice_get-map, get_or_from_slice_get, slice_get-get_or}
use Rattle.lists.proofs.Places.{element_at, same_by_each}
use Rattle.evaluation.specs.Meaning.{Evaluated}
use Rattle.book.specs.Book.{BookValue}
use Rattle.node_reports.specs.declared.command.Command.{Command}
use Rattle.node_reports.specs.declared.step.Step.{Step}
use Rattle.node_reports.specs.declared.journal.Journal.{Journal}
use Rattle.node_reports.specs.Journals.{firsts_of}
use Rattle.node_reports.specs.Commands.{AreNumbered}
use Rattle.node_reports.specs.Reports.{ticket_of, tickets_of, is_evaluate, is_unanswered, unanswered_of}
use Rattle.node_reports.specs.Steps.Collecting.{AllBegin, AreMarks, RiseTo}
use Rattle.node_reports.proofs.Walking.{parts_at}

-- the book begins in the first incarnations of the journals that stand at their places
pub firsts_are : (book : BookValue) (journals : List Journal) → AllBegin book.first journals → book.first ≡ firsts_of journals
firsts_are book journals begin = same_by_each book.first (firsts_of journals) (sym begin.many ∙ sym (length-map journals (λ (j : Journal). j.first))) each
  where
    each : (k : ℕ) (x y : ℕ) → slice_get book.first k ≡ Some x → slice_get (firsts_of journals) k ≡ Some y → x ≡ y
    each k x y at found =
        let lt = slice_get_within book.first k x at in
        let many = begin.many in
        let j = element_at journals k (omega arith) in
        let is : slice_get (firsts_of journals) k ≡ Some j.0.first = slice_get-map (λ (j : Journal). j.first) journals k ∙ ap (option_map (λ (j : Journal). j.first)) j.1 in
        same_Some x j.0.first (sym at ∙ (begin.each k j.0 j.1).first_is) ∙ same_Some j.0.first y (sym is ∙ found)

-- the numbers that one more step has
pub numbers-more : (number : Step → Option ℕ) (ss : List Step) (k : ℕ) (s : Step) → slice_get ss k ≡ Some s
    → filter_map number (take (k + 1) ss) ≡ filter_map number (take k ss) ++ option_to_list (number s)
numbers-more number ss k s at =
    ap (filter_map number) (take_more ss k s (slice_get_within ss k s at) ∙ ap (λ x. take k ss ++ x ∷ []) (get_or_from_slice_get ss k s s at))
    ∙ filter_map-append number (take k ss) (s ∷ [])
    ∙ ap (λ ts. filter_map number (take k ss) ++ ts) (by (number s))
  where
    by : (o : Option ℕ) → filter_map (λ (x : Step). o) (s ∷ []) ≡ option_to_list o
    by None = refl
    by (Some n) = refl

-- the tickets of one more step
pub tickets-more : (ss : List Step) (k : ℕ) (s : Step) → slice_get ss k ≡ Some s → tickets_of (take (k + 1) ss) ≡ tickets_of (take k ss) ++ option_to_list (ticket_of s)
tickets-more ss k s at = numbers-more ticket_of ss k s at

-- one more number above the last one
pub rise-more : (xs : List ℕ) (last : Option ℕ) (x : ℕ) → RiseTo xs last → IfSome last (λ before. before < x) → RiseTo (xs ++ x ∷ []) (Some x)
rise-more xs last x rise above = record {
  rising = λ k lt. by k (omega (arith, length_push xs x)) (cases_lt (k + 1) (length xs));
  last_is =
      ap (slice_get (xs ++ x ∷ [])) (omega (arith, length_push xs x))
      ∙ slice_get-get_or (xs ++ x ∷ []) (length xs) x (omega (arith, length_push xs x)) ∙ ap (λ n. Some n) (get_or_push xs x x (length xs) refl);
}
  where
    by : (k : ℕ) → k < length xs → (k + 1 < length xs) ⊎ (length xs ≤ k + 1) → get_or (xs ++ x ∷ []) k 0 < get_or (xs ++ x ∷ []) (k + 1) 0
    by k lt (inl inside) =
        let low = get_or_append_left xs (x ∷ []) 0 k lt in
        let high = get_or_append_left xs (x ∷ []) 0 (k + 1) inside in
        let rises = rise.rising k inside in
        omega arith
    by k lt (inr end) =
        let low = get_or_append_left xs (x ∷ []) 0 k lt in
        let high = get_or_push xs x 0 (k + 1) (omega arith) in
        let last_is : last ≡ Some (get_or xs k 0) = sym rise.last_is ∙ ap (slice_get xs) (omega arith) ∙ slice_get-get_or xs k 0 lt in
        let below : get_or xs k 0 < x = subst (λ (o : Option ℕ). IfSome o (λ before. before < x)) last_is above in
        omega arith

-- numbers that rise, the last one of which is this, go on above it
rise_apart : (xs : List ℕ) (last : Option ℕ) (x : ℕ) (rest : List ℕ) → slice_get xs (length xs - 1) ≡ last → IsStrictlyIncreasing (xs ++ x ∷ rest) → IfSome last (λ before. before < x)
rise_apart xs None x rest last_is rising = tt
rise_apart xs (Some before) x rest last_is rising =
    let lt = slice_get_within xs (length xs - 1) before last_is in
    let long = length-append xs (x ∷ rest) in
    let step = rising (length xs - 1) (omega (arith, lt, long)) in
    let low : get_or (xs ++ x ∷ rest) (length xs - 1) 0 ≡ before = get_or_append_left xs (x ∷ rest) 0 (length xs - 1) lt ∙ get_or_from_slice_get xs (length xs - 1) before 0 last_is in
    let place : length xs - 1 + 1 ≡ length xs = omega (arith, lt) in
    let high : get_or (xs ++ x ∷ rest) (length xs - 1 + 1) 0 ≡ x = ap (λ (n : ℕ). get_or (xs ++ x ∷ rest) n 0) place ∙ get_or_at xs x rest 0 (length xs) refl in
    omega (arith, step, low, high)

-- where all tickets rise, one more is above the last one
pub rises_above : (ss : List Step) (k : ℕ) (s : Step) (x : ℕ) (last : Option ℕ) → slice_get ss k ≡ Some s → ticket_of s ≡ Some x → RiseTo (tickets_of (take k ss)) last
    → IsStrictlyIncreasing (tickets_of ss) → IfSome last (λ before. before < x)
rises_above ss k s x last at is rise rising =
    let parts : tickets_of ss ≡ tickets_of (take k ss) ++ x ∷ tickets_of (drop (k + 1) ss) =
    ap tickets_of (parts_at ss k s at) ∙ filter_map-append ticket_of (take k ss) (s ∷ drop (k + 1) ss)
    ∙ ap (λ (o : Option ℕ). tickets_of (take k ss) ++ cons_option o (tickets_of (drop (k + 1) ss))) is in
    rise_apart (tickets_of (take k ss)) last x (tickets_of (drop (k + 1) ss)) rise.last_is (subst IsStrictlyIncreasing parts rising)

-- the unanswered ones among one more command
pub unanswered-more : (cs : List Command) (xs : List Evaluated) (k : ℕ) (c : Command) (b : Bool) → slice_get cs k ≡ Some c → is_unanswered xs c ≡ b
    → unanswered_of (take (k + 1) cs) xs ≡ unanswered_of (take k cs) xs ++ cond b (c.ticket ∷ []) []
unanswered-more cs xs k c b at is =
    ap (λ (l : List Command). unanswered_of l xs) (take_more cs k c (slice_get_within cs k c at) ∙ ap (λ x. take k cs ++ x ∷ []) (get_or_from_slice_get cs k c c at))
    ∙ ap (map (λ (c : Command). c.ticket)) (filter-append (is_unanswered xs) (take k cs) (c ∷ []))
    ∙ map-append (λ (c : Command). c.ticket) (filter (is_unanswered xs) (take k cs)) (cond (is_unanswered xs c) (c ∷ []) [])
    ∙ ap (λ ts. unanswered_of (take k cs) xs ++ ts) (ap (λ t. map (λ (c : Command). c.ticket) (cond t (c ∷ []) [])) is ∙ by b)
  where
    by : (t : Bool) → map (λ (c : Command). c.ticket) (cond t (c ∷ []) []) ≡ cond t (c.ticket ∷ []) []
    by true = refl
    by false = refl

-- a command is unanswered where it asks to evaluate and its place isn't marked
pub unanswered_is : (cs : List Command) (xs : List Evaluated) (marks : List Bool) (k : ℕ) (c : Command) (marked : Bool) → AreNumbered cs → AreMarks (length cs) xs marks
    → slice_get cs k ≡ Some c → marked ≡ get_or marks k false → is_unanswered xs c ≡ (is_evaluate c.act && not marked)
unanswered_is cs xs marks k c marked numbered are at is =
    ap (λ t. is_evaluate c.act && not t)
    (ap (λ n. list_any (λ (x : Evaluated). eqb x.ticket n) xs) (numbered k c at) ∙ sym (are.each k (slice_get_within cs k c at)) ∙ sym is)
