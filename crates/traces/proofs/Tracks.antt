-- What stands at the moments of events, and lists that grow.
use Rattle.std.proofs.Common.{◌≡◌, inl, inr, ℕ, zero, suc, ◌+◌, ◌<◌, List, [], ◌∷◌, ◌++◌, Option, Some, None, Bor, cond, eqb, length, slice_get, set, replicate, refl, sym, ap, ◌∙◌, append_assoc, add-one, arith}
use Rattle.std.specs.List.{find}
use Rattle.std.specs.Option.{option_map}
use Rattle.std.proofs.lemmas.Bool.{eq-eqb, ne_eqb, cases_eq}
use Rattle.std.proofs.lemmas.List.{map-append, reverse-append, length_push, length-set, replicate_more}
use Rattle.lists.proofs.Places.{same_within, slice_get-set_same, slice_get-set_other, slice_get-append}
use Rattle.evaluation.specs.Meaning.{Evaluated}
use Rattle.traces.specs.Moments.{made_at, made_by, of_events}

abbrev pub made : Option (Bor Evaluated) → Option Evaluated
made m = option_map (λ x. x.now) m

-- a list that grew twice
pub grown : {A : Type 0} (first more most tracks tracks' : List A) → tracks ≡ first ++ more → tracks' ≡ tracks ++ most → tracks' ≡ first ++ (more ++ most)
grown first more most tracks tracks' is is' = is' ∙ ap (λ l. l ++ most) is ∙ append_assoc first more most

-- how many moments there are, and what stands at each
pub events_long : (n : ℕ) (log : List Evaluated) → length (of_events n log) ≡ n
events_long zero log = refl
events_long (suc n) log = length_push (of_events n log) (made_by log (n + 1)) ∙ ap (λ k. k + 1) (events_long n log) ∙ add-one n

pub at_event : (n : ℕ) (log : List Evaluated) (k : ℕ) → k < n → slice_get (of_events n log) k ≡ Some (made_by log (k + 1))
at_event zero log k lt = absurd (omega arith)
at_event (suc n) log k lt = elim (slice_get-append (of_events n log) (made_by log (n + 1) ∷ []) k) [
  | inl w ↦ w.1 ∙ at_event n log k (omega (arith, w.0, events_long n log))
  | inr w ↦
      let first : w.0 ≡ 0 = omega (arith, lt, w.1, events_long n log) in
      let here : k ≡ n = omega (arith, w.1, first, events_long n log) in
      w.2 ∙ ap (slice_get (made_by log (n + 1) ∷ [])) first ∙ ap (λ i. Some (made_by log (i + 1))) (sym here)
]

-- what events made, with one evaluation more
made_more-by : (log : List Evaluated) (x : Evaluated) (number : ℕ) → made_by (log ++ x ∷ []) number ≡ cond (eqb x.ticket number) (Some x) (made_by log number)
made_more-by log x number = ap (λ l. find (λ (y : Evaluated). eqb y.ticket number) l) (reverse-append log (x ∷ []))

made_here : (log : List Evaluated) (x : Evaluated) (number : ℕ) → x.ticket ≡ number → made_by (log ++ x ∷ []) number ≡ Some x
made_here log x number is = made_more-by log x number ∙ ap (λ b. cond b (Some x) (made_by log number)) (eq-eqb x.ticket number is)

made_elsewhere : (log : List Evaluated) (x : Evaluated) (number : ℕ) → (x.ticket ≡ number → ⊥) → made_by (log ++ x ∷ []) number ≡ made_by log number
made_elsewhere log x number not = made_more-by log x number ∙ ap (λ b. cond b (Some x) (made_by log number)) (ne_eqb x.ticket number not)

-- an evaluation stands at the moment of its ticket
pub events_set : (n : ℕ) (log : List Evaluated) (x : Evaluated) (place : ℕ) → x.ticket ≡ place + 1 → place < n → set (of_events n log) place (Some x) ≡ of_events n (log ++ x ∷ [])
events_set n log x place is lt =
    let moments = of_events n log in
    same_within (set moments place (Some x)) (of_events n (log ++ x ∷ [])) (length-set moments place (Some x) ∙ events_long n log ∙ sym (events_long n (log ++ x ∷ []))) (λ k within.
    let low : k < n = omega (arith, within, length-set moments place (Some x), events_long n log) in
    elim (cases_eq k place) [
      | inl same ↦
          ap (slice_get (set moments place (Some x))) same ∙ slice_get-set_same moments place (Some x) (omega (arith, lt, events_long n log))
          ∙ sym (at_event n (log ++ x ∷ []) k low ∙ ap (λ o. Some o) (made_here log x (k + 1) (is ∙ ap (λ i. i + 1) (sym same))))
      | inr other ↦
          slice_get-set_other moments place k (Some x) other ∙ at_event n log k low
          ∙ sym (at_event n (log ++ x ∷ []) k low ∙ ap (λ o. Some o) (made_elsewhere log x (k + 1) (λ e. other (omega (arith, e, is)))))
    ])

-- one whose ticket is of no moment stands nowhere
pub events_kept : (n : ℕ) (log : List Evaluated) (x : Evaluated) → ((k : ℕ) → k < n → x.ticket ≡ k + 1 → ⊥) → of_events n log ≡ of_events n (log ++ x ∷ [])
events_kept n log x none =
    same_within (of_events n log) (of_events n (log ++ x ∷ [])) (events_long n log ∙ sym (events_long n (log ++ x ∷ []))) (λ k within.
    let low : k < n = omega (arith, within, events_long n log) in
    at_event n log k low ∙ sym (at_event n (log ++ x ∷ []) k low ∙ ap (λ o. Some o) (made_elsewhere log x (k + 1) (none k low))))

-- before the first evaluation nothing was made
pub nothing_made : (n : ℕ) → made_at (replicate n None) ≡ of_events n []
nothing_made zero = refl
nothing_made (suc n) =
    let none : Option (Bor Evaluated) = None in
    let more : replicate n none ++ none ∷ [] ≡ replicate (suc n) none = replicate_more n none ∙ ap (λ m. replicate m none) (add-one n) in
    ap made_at (sym more) ∙ map-append made (replicate n none) (none ∷ []) ∙ ap (λ l. l ++ None ∷ []) (nothing_made n)
