-- One walk over the book, and along the steps of a resource.
use Rattle.std.proofs.Common.{◌≡◌, ◌≢◌, ◌⊎◌, inl, inr, ℕ, ◌+◌, ◌++◌, true, false, cond, eqb, List, [], ◌∷◌, take, drop, Some, slice_get, ap, sym, ◌∙◌, append_assoc}
use Rattle.std.proofs.lemmas.Bool.{eq-eqb}
use Rattle.std.proofs.lemmas.Bool.Decides.{eqb_tells}
use Rattle.std.proofs.lemmas.List.{append-nil, append_cancel_left, take-append-drop, drop_more}
use Rattle.std.proofs.lemmas.List.Elements.{filter-append}
use Rattle.std.proofs.lemmas.Option.{slice_get_within, get_or_from_slice_get}
use Rattle.evaluation.specs.Meaning.{Evaluated}
use Rattle.node_reports.specs.declared.step.Step.{Step}
use Rattle.node_reports.specs.Journals.{made}
use Rattle.node_reports.specs.Reports.{entries_of}
use Rattle.node_reports.specs.Steps.Collecting.{HaveCome, HasGoneOn, CantGoOn}

-- the entries of a resource, and one more
entries-push : (r : ℕ) (xs : List Evaluated) (x : Evaluated) (b : _) → eqb x.name.task.resource r ≡ b → entries_of r (xs ++ x ∷ []) ≡ entries_of r xs ++ cond b (x ∷ []) []
entries-push r xs x b is = filter-append (λ (y : Evaluated). eqb y.name.task.resource r) xs (x ∷ []) ∙ ap (λ t. entries_of r xs ++ cond t (x ∷ []) []) is

-- an entry of a resource parts the resource's entries
entries-with : (r : ℕ) (earlier later : List Evaluated) (x : Evaluated) → x.name.task.resource ≡ r → entries_of r (earlier ++ x ∷ later) ≡ entries_of r earlier ++ x ∷ entries_of r later
entries-with r earlier later x resource =
    filter-append (λ (y : Evaluated). eqb y.name.task.resource r) earlier (x ∷ later)
    ∙ ap (λ b. entries_of r earlier ++ cond b (x ∷ entries_of r later) (entries_of r later)) (eq-eqb x.name.task.resource r resource)

-- where the steps have made an entry next, they have come to the place behind that
pub come_on : (r : ℕ) (steps : List Step) (old new : ℕ) (x : Evaluated) → x.name.task.resource ≡ r → made (drop old steps) ≡ x ∷ made (drop new steps) → HasGoneOn r steps old new x
come_on r steps old new x own step = λ earlier have.
    have
    ∙ ap (λ ys. entries_of r earlier ++ ys) step
    ∙ sym (append_assoc (entries_of r earlier) (x ∷ []) (made (drop new steps)))
    ∙ ap (λ ys. ys ++ made (drop new steps)) (sym (entries-push r earlier x true (eq-eqb x.name.task.resource r own)))

-- by an entry of another resource they have come no further
pub stay : (r : ℕ) (steps : List Step) (at : ℕ) (x : Evaluated) → x.name.task.resource ≢ r → HasGoneOn r steps at at x
stay r steps at x other = λ earlier have. by earlier have (eqb_tells x.name.task.resource r)
  where
    by : (earlier : List Evaluated) → HaveCome earlier r steps at → ((eqb x.name.task.resource r ≡ true) × (x.name.task.resource ≡ r)) ⊎ ((eqb x.name.task.resource r ≡ false) × (x.name.task.resource ≢ r))
        → HaveCome (earlier ++ x ∷ []) r steps at
    by earlier have (inl own) = absurd (other own.1)
    by earlier have (inr ne) = have ∙ ap (λ ys. ys ++ made (drop at steps)) (sym (append-nil (entries_of r earlier)) ∙ sym (entries-push r earlier x false ne.0))

-- where the steps haven't made an entry next, they can't go on by it
pub cant_go_on : (r : ℕ) (steps : List Step) (at : ℕ) (x : Evaluated) → x.name.task.resource ≡ r → ((rest : List Evaluated) → made (drop at steps) ≡ x ∷ rest → ⊥) → CantGoOn r steps at x
cant_go_on r steps at x own other = λ earlier later have all.
    other (entries_of r later) (append_cancel_left (entries_of r earlier) (made (drop at steps)) (x ∷ entries_of r later) (sym have ∙ all ∙ entries-with r earlier later x own))

-- steps that made the entries to which they have come made nothing after them
pub at_end : (r : ℕ) (entries : List Evaluated) (steps : List Step) (at : ℕ) → HaveCome entries r steps at → made steps ≡ entries_of r entries → made (drop at steps) ≡ []
at_end r entries steps at have all = append_cancel_left (entries_of r entries) (made (drop at steps)) [] (sym have ∙ all ∙ sym (append-nil (entries_of r entries)))

-- a list parts at the element of a place
pub parts_at : {X : Type 0} (xs : List X) (k : ℕ) (x : X) → slice_get xs k ≡ Some x → xs ≡ take k xs ++ x ∷ drop (k + 1) xs
parts_at xs k x at =
    sym (take-append-drop k xs)
    ∙ ap (λ ys. take k xs ++ ys) (drop_more xs k x (slice_get_within xs k x at) ∙ ap (λ y. y ∷ drop (k + 1) xs) (get_or_from_slice_get xs k x x at))
