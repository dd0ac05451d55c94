-- What faults are noted, and appended.
use Rattle.std.proofs.Common.{arith, ◌≡◌, ◌⊎◌, inl, inr, ℕ, zero, suc, ◌+◌, ◌<◌, ◌≤◌, ◌++◌, List, [], ◌∷◌, Some, Bool, true, length, take, get_or, slice_get, sym, ap, ◌∙◌, subst}
use Rattle.std.specs.Prelude.{All, Contains}
use Rattle.std.proofs.lemmas.List.{map-append, take_all, take_more}
use Rattle.std.proofs.lemmas.Option.{none-some, same_Some}
use Rattle.std.proofs.lemmas.List.Elements.{Contains-append_left, Contains-append_right, Contains-append_cases}
use Rattle.lists.proofs.Members.{cons_first, cons_later, cons_cases}
use Rattle.evaluation.specs.Meaning.{Evaluated}
use Rattle.node_reports.specs.declared.cause.Cause.{Cause}
use Rattle.node_reports.specs.declared.node_fault.NodeFault.{NodeFault}
use Rattle.node_reports.specs.Reports.{fault_tickets}
use Rattle.node.specs.declared.threads.noted.Noted.{Noted}
use Rattle.node.specs.Steps.Keeping.{TellsMore, NotesMore, NotesAtMost, Storing, IsUnkept, NotesUnkept}

pub more_same : (faults : List NodeFault) → TellsMore faults faults
more_same faults = λ ticket there. there

pub more_then : (a b c : List NodeFault) → TellsMore a b → TellsMore b c → TellsMore a c
more_then a b c one two = λ ticket there. two ticket (one ticket there)

-- one more fault
pub more_push : (old new : List NodeFault) (f : NodeFault) → new ≡ old ++ f ∷ [] → TellsMore old new
more_push old new f is = λ ticket there.
    subst (λ (l : List NodeFault). Contains (fault_tickets l) ticket) (sym is)
    (subst (λ (l : List ℕ). Contains l ticket) (sym (map-append (λ (g : NodeFault). g.ticket) old (f ∷ []))) (Contains-append_left (fault_tickets old) (f.ticket ∷ []) ticket there))

pub told_push_fault : (old new : List NodeFault) (f : NodeFault) → new ≡ old ++ f ∷ [] → Contains (fault_tickets new) f.ticket
told_push_fault old new f is =
    subst (λ (l : List NodeFault). Contains (fault_tickets l) f.ticket) (sym is)
    (subst (λ (l : List ℕ). Contains l f.ticket) (sym (map-append (λ (g : NodeFault). g.ticket) old (f ∷ []))) (Contains-append_right (fault_tickets old) (f.ticket ∷ []) f.ticket (cons_first f.ticket [])))

-- a fault that stands at a place
pub told_at : (faults : List NodeFault) (k : ℕ) (f : NodeFault) → slice_get faults k ≡ Some f → Contains (fault_tickets faults) f.ticket
told_at (g ∷ faults) zero f at = subst (λ n. Contains (g.ticket ∷ fault_tickets faults) n) (ap (λ (h : NodeFault). h.ticket) (same_Some g f at)) (cons_first g.ticket (fault_tickets faults))
told_at (g ∷ faults) (suc k) f at = cons_later g.ticket (fault_tickets faults) f.ticket (told_at faults k f at)
told_at [] k f at = absurd (none-some f at)

pub notes_same : (noted : Noted) → NotesMore noted noted
notes_same noted = record { lost = λ e. e; tickets = more_same noted.listed.items }

-- the tickets of faults, each of which is among those of others
pub tickets_in : (faults new : List NodeFault) → All (λ (f : NodeFault). Contains (fault_tickets new) f.ticket) faults → TellsMore faults new
tickets_in [] new all = λ ticket there. absurd (omega (arith, there.1))
tickets_in (f ∷ faults) new all = λ ticket there. by (tickets_in faults new (λ k d lt. all (suc k) d (omega (arith, lt)))) ticket (cons_cases f.ticket (fault_tickets faults) ticket there)
  where
    by : TellsMore faults new → (ticket : ℕ) → (f.ticket ≡ ticket) ⊎ Contains (fault_tickets faults) ticket → Contains (fault_tickets new) ticket
    by others ticket (inl is) = subst (Contains (fault_tickets new)) is (all zero f (omega arith))
    by others ticket (inr later) = others ticket later

pub notes_pushed : (old new : Noted) (f : NodeFault) → new.listed.items ≡ old.listed.items ++ f ∷ [] → new.is_lost ≡ old.is_lost → NotesMore old new
notes_pushed old new f is same = record { lost = λ e. same ∙ e; tickets = more_push old.listed.items new.listed.items f is }

pub noted_pushed : (old new : List NodeFault) (lost : Bool) (f : NodeFault) (ticket : ℕ) → new ≡ old ++ f ∷ [] → f.ticket ≡ ticket → (lost ≡ true) ⊎ Contains (fault_tickets new) ticket
noted_pushed old new lost f ticket is of = inr (subst (Contains (fault_tickets new)) of (told_push_fault old new f is))

-- faults that are appended one after the other
pub taken_none : (xs faults : List NodeFault) → TellsMore (take 0 xs) faults
taken_none xs faults = λ ticket there. absurd (omega (arith, there.1))

pub more_pushed : (first old new : List NodeFault) (f : NodeFault) → new ≡ old ++ f ∷ [] → TellsMore first old → TellsMore first new
more_pushed first old new f is was = λ ticket there. more_push old new f is ticket (was ticket there)

pub taken_pushed : (xs old new : List NodeFault) (k : ℕ) (d : NodeFault) → k < length xs → new ≡ old ++ get_or xs k d ∷ [] → TellsMore (take k xs) old → TellsMore (take (k + 1) xs) new
taken_pushed xs old new k d within is was = λ ticket there.
    by ticket (Contains-append_cases (fault_tickets (take k xs)) (f.ticket ∷ []) ticket
    (subst (λ (l : List ℕ). Contains l ticket) (map-append (λ (g : NodeFault). g.ticket) (take k xs) (f ∷ [])) (subst (λ (l : List NodeFault). Contains (fault_tickets l) ticket) (take_more xs k d within) there)))
  where
    f : NodeFault
    f = get_or xs k d

    by : (ticket : ℕ) → Contains (fault_tickets (take k xs)) ticket ⊎ Contains (f.ticket ∷ []) ticket → Contains (fault_tickets new) ticket
    by ticket (inl before) = more_push old new f is ticket (was ticket before)
    by ticket (inr here) = last ticket (cons_cases f.ticket [] ticket here)
      where
        last : (ticket : ℕ) → (f.ticket ≡ ticket) ⊎ Contains [] ticket → Contains (fault_tickets new) ticket
        last ticket (inl same) = subst (Contains (fault_tickets new)) same (told_push_fault old new f is)
        last ticket (inr none) = absurd (omega (arith, none.1))

pub taken_all : (xs faults : List NodeFault) (k : ℕ) → length xs ≤ k → TellsMore (take k xs) faults → TellsMore xs faults
taken_all xs faults k all was = subst (λ (l : List NodeFault). TellsMore l faults) (take_all k xs all) was

-- why what an evaluation left isn't kept was noted
pub unkept_noted : {K : Type 0} (stores : K → Storing) (old new : K) (noted_old noted_new : Noted) (x : Evaluated) (cause : Cause) → IsUnkept stores old new x cause
    → NotesAtMost noted_old.listed.items noted_new.listed.items (record { resource = x.name.task.resource; ticket = x.ticket; cause = cause }) → NotesUnkept stores old new noted_old noted_new x
unkept_noted stores old new noted_old noted_new x cause is told = inr (cause, is, told)
