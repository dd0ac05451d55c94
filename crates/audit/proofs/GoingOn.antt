-- What a resource has made and received after one more step, and that the others stand as before.
use Rattle.std.proofs.Common.{◌≡◌, ◌≢◌, ◌⊎◌, inl, inr, map, option_map, append_assoc, ℕ, ◌+◌, ◌-◌, ◌++◌, List, [], ◌∷◌, All, Contains, Option, None, Some, slice_get, slice_set, slice_index, reverse, cond, eqb, true, false, Bool, zero, suc, ◌<◌, ◌≤◌, add-zero, zero-add, length, replicate, refl, ap, ap₂, sym, ◌∙◌, subst, arith}
use Rattle.std.specs.Prelude.{sum}
use Rattle.std.specs.List.{filter_map}
use Rattle.std.proofs.lemmas.List.{append-nil, length-append, length-map, length-replicate, length-set, map-append, nil_from_length, get_or-set_same, get_or-set_other, reverse-append}
use Rattle.std.proofs.lemmas.List.Sums.{sum_by-set}
use Rattle.std.proofs.lemmas.List.Elements.{filter-append, filter_map-append, All-weaker, All-append, All-cons, All-nil, Contains-append_left}
use Rattle.std.proofs.lemmas.Bool.{eq-eqb, eqb-true}
use Rattle.std.proofs.lemmas.Option.{get_or_from_slice_get, slice_get-map, slice_get_within, none-some, same_Some}
use Rattle.lists.proofs.Members.{all_from_places}
use Rattle.lists.proofs.Places.{push_cases, same_by_each}
use Rattle.std.specs.Global.{Vec}
use Rattle.node_reports.specs.Steps.Appended.{made-append, received-append}
use Rattle.audit.specs.declared.line.Line.{Line}
use Rattle.plant.specs.PlantValue.{PlantValue}
use Rattle.evaluation.specs.Meaning.{Evaluated}
use Rattle.book.specs.Book.{BookValue}
use Rattle.exchange_core.specs.declared.accepted.Accepted.{Accepted}
use Rattle.exchange_core.specs.declared.accepted.Accepted.TheVariants.{Taken, Old, Unused, Stray}
use Rattle.evaluation.specs.declared.field_input.FieldInput.{FieldInput}
use Rattle.exchange_core.specs.CoreValue.{CoreValue, IsAccepted, HasHeard}
use Rattle.node_reports.specs.declared.step.Step.{Step}
use Rattle.node_reports.specs.declared.step.Step.TheVariants.{Took, Made, Restarted, Heard}
use Rattle.node_reports.specs.declared.journal.Journal.{Journal}
use Rattle.node_reports.specs.Journals.{made, received, incarnation_after, with_step, firsts_of, IsLawful}
use Rattle.node_reports.specs.Stations.{StationValue, PendingValue, IsReceived, IsTold, IsRestarted, IsPending, IsNoted}
use Rattle.node_reports.specs.declared.run_fault.RunFault.{RunFault}
use Rattle.node_reports.specs.declared.run_fault.RunFault.TheVariants as run
use Rattle.node_reports.specs.Reports.{entries_of, restarted_in, Agree, IsAgreeFault}
use Rattle.audit.specs.declared.standing.Standing.{Standing}
use Rattle.audit.specs.declared.standing.Standing.TheVariants.{Going, Ended}
use Rattle.audit.specs.declared.follower.Follower.{Follower}
use Rattle.audit.specs.Lines.{zeros, AreLeft}
use Rattle.audit.specs.Reasons.{present_of, risen_to, CanHaveBeen, skipped_of, skipped_in}
use Rattle.audit.specs.Steps.Following.{IsFollowed}
use Rattle.audit.specs.Steps.Settled.{IsSettled, AreSettled}
use Rattle.audit.proofs.Comings.{followed_left, later_keeps, later_following}
use Rattle.audit.specs.Steps.Standings.{AuditedBook, risen_at, CanBeHeard, empty_book, put_in, raised, HearsKnown, IsJournalOf, IsGoing, IsEnded, IsStanding, IsPendingFor, journal_in, IsLater, IsFurther, Grows, Goes, IsOfSame, IsAt, AreFrom, AreJournalsFrom}
use Rattle.audit.specs.Delivered.{AreDelivered, HearsTruly, AreHeardTruly}

-- a step other than a restart leaves the incarnation as it was
present_with : (j : Journal) (s : Step) → incarnation_after j.first (s ∷ reverse j.steps) ≡ present_of j → present_of (with_step j s) ≡ present_of j
present_with j s same = ap (incarnation_after j.first) (reverse-append j.steps (s ∷ [])) ∙ same

-- the incarnations to which a resource has risen with one more step, and how many it has skipped
risen_with : (j : Journal) (s : Step) → risen_to (with_step j s) ≡ risen_to j ++ filter_map restarted_in (s ∷ [])
risen_with j s = filter_map-append restarted_in j.steps (s ∷ [])

risen_still : (j : Journal) (s : Step) → filter_map restarted_in (s ∷ []) ≡ [] → risen_to (with_step j s) ≡ risen_to j
risen_still j s none = risen_with j s ∙ ap (λ ks. risen_to j ++ ks) none ∙ append-nil (risen_to j)

skipped_still : (j : Journal) (s : Step) → filter_map restarted_in (s ∷ []) ≡ [] → incarnation_after j.first (s ∷ reverse j.steps) ≡ present_of j → skipped_of (with_step j s) ≡ skipped_of j
skipped_still j s none same = ap₂ (λ (p : ℕ) (ks : List ℕ). p - length ks) (present_with j s same) (risen_still j s none)

as_few : (risen present risen_was present_was : ℕ) → risen ≡ risen_was → present ≡ present_was → risen_was ≤ present_was → risen ≤ present
as_few risen present risen_was present_was one two few = omega (arith, one, two, few)

few_still : (j : Journal) (s : Step) → filter_map restarted_in (s ∷ []) ≡ [] → incarnation_after j.first (s ∷ reverse j.steps) ≡ present_of j → length (risen_to j) ≤ present_of j → length (risen_to (with_step j s)) ≤ present_of (with_step j s)
few_still j s none same few = as_few (length (risen_to (with_step j s))) (present_of (with_step j s)) (length (risen_to j)) (present_of j) (ap length (risen_still j s none)) (present_with j s same) few

-- what was heard of resources that go on can still be heard
hears_still : (old new : AuditedBook) → ((r i : ℕ) → CanBeHeard old r i → CanBeHeard new r i) → (s : Step) → HearsKnown old s → HearsKnown new s
hears_still old new still (Took x) h = tt
hears_still old new still (Made x) h = tt
hears_still old new still (Restarted ticket incarnation) h = tt
hears_still old new still (Heard of incarnation) h = still of incarnation h

heard_with : (b : AuditedBook) (j : Journal) (s : Step) → HearsKnown b s → All (HearsKnown b) j.steps → All (HearsKnown b) (with_step j s).steps
heard_with b j s known before = All-append (HearsKnown b) j.steps (s ∷ []) before (All-cons (HearsKnown b) s [] known (All-nil (HearsKnown b)))

-- a step that makes nothing, receives nothing and is no restart
still : (b : AuditedBook) (j : Journal) (s : Step) → made (s ∷ []) ≡ [] → received (s ∷ []) ≡ [] → filter_map restarted_in (s ∷ []) ≡ [] → incarnation_after j.first (s ∷ reverse j.steps) ≡ present_of j → HearsKnown b s → IsJournalOf b j → IsJournalOf b (with_step j s)
still b j s none nothing unrisen same known is = record {
  first_is = is.first_is;
  exists = is.exists;
  counted = is.counted;
  present_is = is.present_is ∙ sym (present_with j s same);
  skipped_is = is.skipped_is ∙ sym (skipped_still j s unrisen same);
  few = few_still j s unrisen same is.few;
  listed = is.listed;
  risen_is = is.risen_is ∙ sym (risen_still j s unrisen);
  hearings = heard_with b j s known is.hearings;
  made_is = made-append j.steps (s ∷ []) ∙ ap (λ ys. made j.steps ++ ys) none ∙ append-nil (made j.steps) ∙ is.made_is;
  delivered = subst (All (Contains b.book.entries)) (sym (received-append j.steps (s ∷ []) ∙ ap (λ ys. received j.steps ++ ys) nothing ∙ append-nil (received j.steps))) is.delivered;
}

-- one more entry was received
took : (b : AuditedBook) (j : Journal) (x : Evaluated) → Contains b.book.entries x → IsJournalOf b j → IsJournalOf b (with_step j (Took x))
took b j x listed is = record {
  first_is = is.first_is;
  exists = is.exists;
  counted = is.counted;
  present_is = is.present_is ∙ sym (present_with j (Took x) refl);
  skipped_is = is.skipped_is ∙ sym (skipped_still j (Took x) refl refl);
  few = few_still j (Took x) refl refl is.few;
  listed = is.listed;
  risen_is = is.risen_is ∙ sym (risen_still j (Took x) refl);
  hearings = heard_with b j (Took x) tt is.hearings;
  made_is = made-append j.steps (Took x ∷ []) ∙ append-nil (made j.steps) ∙ is.made_is;
  delivered = subst (All (Contains b.book.entries)) (sym (received-append j.steps (Took x ∷ [])))
      (All-append (Contains b.book.entries) (received j.steps) (x ∷ []) is.delivered (All-cons (Contains b.book.entries) x [] listed (All-nil (Contains b.book.entries))));
}

own_entry : (r : ℕ) (x : Evaluated) → x.name.task.resource ≡ r → entries_of r (x ∷ []) ≡ x ∷ []
own_entry r x own = ap (λ b. cond b (x ∷ []) []) (eq-eqb x.name.task.resource r own)

no_entry : (r : ℕ) (x : Evaluated) → (x.name.task.resource ≡ r → ⊥) → entries_of r (x ∷ []) ≡ []
no_entry r x other = by (eqb x.name.task.resource r) refl
  where
    by : (b : Bool) → b ≡ eqb x.name.task.resource r → cond b (x ∷ []) [] ≡ []
    by true is = absurd (other (eqb-true x.name.task.resource r (sym is)))
    by false is = refl

-- a core of the same plant, first incarnations, limit and resource
record IsSameSetting (old new : CoreValue) : Type 0 where
  plant_is : new.plant ≡ old.plant
  firsts_are : new.first ≡ old.first
  limit_is : new.max_number ≡ old.max_number
  resource_is : new.resource ≡ old.resource

same_setting : (old new other : CoreValue) → new ≡ other → IsSameSetting old other → IsSameSetting old new
same_setting old new other is same = subst (IsSameSetting old) (sym is) same

unchanged : (old : CoreValue) → IsSameSetting old old
unchanged old = record { plant_is = refl; firsts_are = refl; limit_is = refl; resource_is = refl }

accepted_setting : (old new : CoreValue) (x : Evaluated) (answer : Accepted) → IsAccepted old new x answer → IsSameSetting old new
accepted_setting old new x Unused is = same_setting old new old is.1 (unchanged old)
accepted_setting old new x Stray is = same_setting old new old is.2 (unchanged old)
accepted_setting old new x Old is = same_setting old new old is.3 (unchanged old)
accepted_setting old new x Taken is = same_setting old new _ is.3 (record { plant_is = refl; firsts_are = refl; limit_is = refl; resource_is = refl })

heard_setting : (old new : CoreValue) (of incarnation : ℕ) (answer : Bool) → HasHeard old new of incarnation answer → IsSameSetting old new
heard_setting old new of incarnation true is = same_setting old new _ is.after (record { plant_is = refl; firsts_are = refl; limit_is = refl; resource_is = refl })
heard_setting old new of incarnation false is = same_setting old new old is.after (unchanged old)

-- the incarnation stays
accepted_incarnation : (old new : CoreValue) (x : Evaluated) (answer : Accepted) → IsAccepted old new x answer → new.incarnation ≡ old.incarnation
accepted_incarnation old new x Unused is = ap (λ (c : CoreValue). c.incarnation) is.1
accepted_incarnation old new x Stray is = ap (λ (c : CoreValue). c.incarnation) is.2
accepted_incarnation old new x Old is = ap (λ (c : CoreValue). c.incarnation) is.3
accepted_incarnation old new x Taken is = ap (λ (c : CoreValue). c.incarnation) is.3

heard_incarnation : (old new : CoreValue) (of incarnation : ℕ) (answer : Bool) → HasHeard old new of incarnation answer → new.incarnation ≡ old.incarnation
heard_incarnation old new of incarnation true is = ap (λ (c : CoreValue). c.incarnation) is.after
heard_incarnation old new of incarnation false is = ap (λ (c : CoreValue). c.incarnation) is.after

-- the setting of a resource that goes on
record IsSet (b : AuditedBook) (s : StationValue) : Type 0 where
  plant_is : s.core.plant ≡ b.plant
  firsts_are : s.core.first ≡ zeros b.plant
  limit_is : s.core.max_number ≡ 4294967295
  core_is : s.core.resource ≡ s.journal.resource

set_of : (b : AuditedBook) (s : StationValue) → IsGoing b s → IsSet b s
set_of b s going = record { plant_is = going.plant_is; firsts_are = going.firsts_are; limit_is = going.limit_is; core_is = going.core_is }

-- a resource whose core has the same setting, and whose journal is another one
gone : (b : AuditedBook) (old new : StationValue) → IsSet b old → IsSameSetting old.core new.core → new.journal.resource ≡ old.journal.resource → new.core.incarnation ≡ present_of new.journal → IsJournalOf b new.journal → IsGoing b new
gone b old new going same resource incarnation journal = record {
  plant_is = same.plant_is ∙ going.plant_is;
  firsts_are = same.firsts_are ∙ going.firsts_are;
  limit_is = same.limit_is ∙ going.limit_is;
  core_is = same.resource_is ∙ going.core_is ∙ sym resource;
  incarnation_is = incarnation;
  journal = journal;
}

pub received_going : (b : AuditedBook) (old new : StationValue) (x : Evaluated) (answer : Accepted) → Contains b.book.entries x → IsReceived old new x answer → IsGoing b old → IsGoing b new
received_going b old new x answer listed is going =
    gone b old new (set_of b old going) (accepted_setting old.core new.core x answer is.accepted) (ap (λ (j : Journal). j.resource) is.noted)
    (accepted_incarnation old.core new.core x answer is.accepted ∙ going.incarnation_is ∙ sym (present_with old.journal (Took x) refl) ∙ ap present_of (sym is.noted))
    (subst (IsJournalOf b) (sym is.noted) (took b old.journal x listed going.journal))

pub heard_going : (b : AuditedBook) (old new : StationValue) (of incarnation : ℕ) (answer : Bool) → CanBeHeard b of incarnation → IsTold old new of incarnation answer → IsGoing b old → IsGoing b new
heard_going b old new of incarnation answer known is going =
    gone b old new (set_of b old going) (heard_setting old.core new.core of incarnation answer is.heard_is) (ap (λ (j : Journal). j.resource) is.noted)
    (heard_incarnation old.core new.core of incarnation answer is.heard_is ∙ going.incarnation_is ∙ sym (present_with old.journal (Heard of incarnation) refl) ∙ ap present_of (sym is.noted))
    (subst (IsJournalOf b) (sym is.noted) (still b old.journal (Heard of incarnation) refl refl refl refl known going.journal))

-- one more restart, and those that it skips
present_restarted : (j : Journal) (ticket incarnation : ℕ) → present_of (with_step j (Restarted ticket incarnation)) ≡ incarnation
present_restarted j ticket incarnation = ap (incarnation_after j.first) (reverse-append j.steps (Restarted ticket incarnation ∷ []))

one_more : (j : Journal) (ticket incarnation : ℕ) → length (risen_to (with_step j (Restarted ticket incarnation))) ≡ length (risen_to j) + 1
one_more j ticket incarnation = ap length (risen_with j (Restarted ticket incarnation)) ∙ length-append (risen_to j) (incarnation ∷ [])

few_more : (risen present risen_was present_was incarnation : ℕ) → risen ≡ risen_was + 1 → present ≡ incarnation → risen_was ≤ present_was → present_was < incarnation → risen ≤ present
few_more risen present risen_was present_was incarnation one two few rises = omega (arith, one, two, few, rises)

skips_add : (risen present incarnation : ℕ) → risen ≤ present → present < incarnation → (present - risen) + (incarnation - (present + 1)) ≡ incarnation - (risen + 1)
skips_add risen present incarnation few rises = omega (arith, few, rises)

skipped_more : (j : Journal) (ticket incarnation : ℕ) → length (risen_to j) ≤ present_of j → present_of j < incarnation → skipped_of j + (incarnation - (present_of j + 1)) ≡ skipped_of (with_step j (Restarted ticket incarnation))
skipped_more j ticket incarnation few rises =
    skips_add (length (risen_to j)) (present_of j) incarnation few rises
    ∙ sym (ap₂ (λ (p n : ℕ). p - n) (present_restarted j ticket incarnation) (one_more j ticket incarnation))

-- the book with one more START or RESTART
abbrev risen_book : AuditedBook → ℕ → ℕ → ℕ → AuditedBook
risen_book b resource incarnation skipped = raised (put_in b resource incarnation) resource incarnation skipped

can_more : (present i incarnation : ℕ) (risen : List ℕ) → present < incarnation → CanHaveBeen present risen i → CanHaveBeen incarnation (risen ++ incarnation ∷ []) i
can_more present i incarnation risen rises (far, inl there) = (omega (arith, far, rises), inl (Contains-append_left risen (incarnation ∷ []) i there))
can_more present i incarnation risen rises (far, inr above) =
    (omega (arith, far, rises), inr (All-append (λ (k : ℕ). i < k) risen (incarnation ∷ []) above (All-cons (λ (k : ℕ). i < k) incarnation [] (omega (arith, far, rises)) (All-nil (λ (k : ℕ). i < k)))))

heard_here : (b : AuditedBook) (resource incarnation skipped i : ℕ) → resource < length b.present → resource < length b.risen → slice_index b.present resource < incarnation → CanBeHeard b resource i → CanBeHeard (risen_book b resource incarnation skipped) resource i
heard_here b resource incarnation skipped i exists listed rises known =
    subst (λ p. CanHaveBeen p (risen_at (risen_book b resource incarnation skipped) resource) i) (sym (get_or-set_same b.present resource incarnation 0 exists))
    (subst (λ ks. CanHaveBeen incarnation ks i) (sym (get_or-set_same b.risen resource (risen_at b resource ++ incarnation ∷ []) [] listed))
    (can_more (slice_index b.present resource) i incarnation (risen_at b resource) rises known))

heard_elsewhere : (b : AuditedBook) (resource incarnation skipped r i : ℕ) → r ≢ resource → CanBeHeard b r i → CanBeHeard (risen_book b resource incarnation skipped) r i
heard_elsewhere b resource incarnation skipped r i other known =
    subst (λ p. CanHaveBeen p (risen_at (risen_book b resource incarnation skipped) r) i) (sym (get_or-set_other b.present resource r incarnation 0 other))
    (subst (λ ks. CanHaveBeen (slice_index b.present r) ks i) (sym (get_or-set_other b.risen resource r (risen_at b resource ++ incarnation ∷ []) [] other)) known)

heard_raised : (b : AuditedBook) (resource incarnation skipped : ℕ) → resource < length b.present → resource < length b.risen → slice_index b.present resource < incarnation → (r i : ℕ) → CanBeHeard b r i → CanBeHeard (risen_book b resource incarnation skipped) r i
heard_raised b resource incarnation skipped exists listed rises r i known = by (eqb r resource) refl
  where
    by : (same : Bool) → same ≡ eqb r resource → CanBeHeard (risen_book b resource incarnation skipped) r i
    by true is =
        let here : r ≡ resource = eqb-true r resource (sym is) in
        subst (λ k. CanBeHeard (risen_book b resource incarnation skipped) k i) (sym here) (heard_here b resource incarnation skipped i exists listed rises (subst (λ k. CanBeHeard b k i) here known))
    by false is = heard_elsewhere b resource incarnation skipped r i (λ same. let e = is ∙ eq-eqb r resource same in cc) known

restarted_journal : (b : AuditedBook) (j : Journal) (ticket incarnation skipped : ℕ) → present_of j < incarnation → skipped ≡ incarnation - (present_of j + 1) → IsJournalOf b j → IsJournalOf (risen_book b j.resource incarnation skipped) (with_step j (Restarted ticket incarnation))
restarted_journal b j ticket incarnation skipped rises skips is = record {
  first_is = is.first_is;
  exists = omega (arith, is.exists, length-set b.present j.resource incarnation);
  counted = omega (arith, is.counted, length-set b.skips j.resource (slice_index b.skips j.resource + skipped));
  present_is = get_or-set_same b.present j.resource incarnation 0 is.exists ∙ sym (present_restarted j ticket incarnation);
  skipped_is = get_or-set_same b.skips j.resource (slice_index b.skips j.resource + skipped) 0 is.counted
      ∙ ap₂ (λ (x y : ℕ). x + y) is.skipped_is skips ∙ skipped_more j ticket incarnation is.few rises;
  few = few_more (length (risen_to (with_step j (Restarted ticket incarnation)))) (present_of (with_step j (Restarted ticket incarnation))) (length (risen_to j)) (present_of j) incarnation
      (one_more j ticket incarnation) (present_restarted j ticket incarnation) is.few rises;
  listed = omega (arith, is.listed, length-set b.risen j.resource (risen_at b j.resource ++ incarnation ∷ []));
  risen_is = get_or-set_same b.risen j.resource (risen_at b j.resource ++ incarnation ∷ []) [] is.listed ∙ ap (λ ks. ks ++ incarnation ∷ []) is.risen_is ∙ sym (risen_with j (Restarted ticket incarnation));
  hearings = heard_with (risen_book b j.resource incarnation skipped) j (Restarted ticket incarnation) tt
      (All-weaker (HearsKnown b) (HearsKnown (risen_book b j.resource incarnation skipped))
      (hears_still b (risen_book b j.resource incarnation skipped) (heard_raised b j.resource incarnation skipped is.exists is.listed (subst (λ p. p < incarnation) (sym is.present_is) rises))) j.steps is.hearings);
  made_is = made-append j.steps (Restarted ticket incarnation ∷ []) ∙ append-nil (made j.steps) ∙ is.made_is;
  delivered = subst (All (Contains b.book.entries)) (sym (received-append j.steps (Restarted ticket incarnation ∷ []) ∙ append-nil (received j.steps))) is.delivered;
}

restarted_going : (b : AuditedBook) (old new : StationValue) (ticket incarnation skipped : ℕ) → present_of old.journal < incarnation → skipped ≡ incarnation - (present_of old.journal + 1) → IsRestarted old new ticket incarnation → IsGoing b old
    → IsGoing (risen_book b old.journal.resource incarnation skipped) new
restarted_going b old new ticket incarnation skipped rises skips is going =
    gone (risen_book b old.journal.resource incarnation skipped) old new (record {
      plant_is = going.plant_is;
      firsts_are = going.firsts_are;
      limit_is = going.limit_is;
      core_is = going.core_is;
    }) (same_setting old.core new.core _ is.core.is (record { plant_is = refl; firsts_are = refl; limit_is = refl; resource_is = refl })) (ap (λ (j : Journal). j.resource) is.noted)
    (ap (λ (c : CoreValue). c.incarnation) is.core.is ∙ sym (present_restarted old.journal ticket incarnation) ∙ ap present_of (sym is.noted))
    (subst (IsJournalOf (risen_book b old.journal.resource incarnation skipped)) (sym is.noted) (restarted_journal b old.journal ticket incarnation skipped rises skips going.journal))

-- an evaluation was made next, and isn't noted yet
pub pending_for : (b : AuditedBook) (s : StationValue) (p : PendingValue) (ticket task dt : ℕ) (inputs : List FieldInput) → IsPending s p ticket task dt inputs → IsGoing b s → IsPendingFor b p
pending_for b s p ticket task dt inputs is going = record {
  going = gone b s (record { core = p.core; journal = p.journal }) (set_of b s going) (same_setting s.core p.core _ is.next.after (record { plant_is = refl; firsts_are = refl; limit_is = refl; resource_is = refl }))
      (ap (λ (j : Journal). j.resource) is.journal) (ap (λ (c : CoreValue). c.incarnation) is.next.after ∙ going.incarnation_is ∙ ap present_of (sym is.journal))
      (subst (IsJournalOf b) (sym is.journal) going.journal);
  own = ap (λ (x : Evaluated). x.name.task.resource) is.next.next.asked.is ∙ going.core_is ∙ ap (λ (j : Journal). j.resource) (sym is.journal);
}

-- a book that is as it was, and one that is later than a later one
later_not : (book : BookValue) → IsLater book book
later_not book = record { first_is = refl; later = []; entries_are = sym (append-nil book.entries) }

later_twice : (a b c : BookValue) → IsLater a b → IsLater b c → IsLater a c
later_twice a b c one two = record {
  first_is = two.first_is ∙ one.first_is;
  later = one.later ++ two.later;
  entries_are = two.entries_are ∙ ap (λ xs. xs ++ two.later) one.entries_are ∙ append_assoc a.entries one.later two.later;
}

as_much : (n : ℕ) → n ≤ n
as_much n = omega arith

as_much_twice : (a b c : ℕ) → a ≤ b → b ≤ c → a ≤ c
as_much_twice a b c one two = omega (arith, one, two)

pub grown_not : (resource : ℕ) (b : AuditedBook) → Grows resource b b
grown_not resource b = record {
  plant_is = refl;
  further = record { later = later_not b.book; more = as_much (sum b.skips) };
  others = λ r other. refl;
  long = refl;
  still = λ r other. refl;
  as_many = refl;
  skips_still = λ r other. refl;
  as_long = refl;
  risen_still = λ r other. refl;
  heard = λ r i known. known;
}

pub grown_twice : (resource : ℕ) (a b c : AuditedBook) → Grows resource a b → Grows resource b c → Grows resource a c
grown_twice resource a b c one two = record {
  plant_is = two.plant_is ∙ one.plant_is;
  further = record { later = later_twice a.book b.book c.book one.further.later two.further.later; more = as_much_twice (sum a.skips) (sum b.skips) (sum c.skips) one.further.more two.further.more };
  others = λ r other. two.others r other ∙ one.others r other;
  long = two.long ∙ one.long;
  still = λ r other. two.still r other ∙ one.still r other;
  as_many = two.as_many ∙ one.as_many;
  skips_still = λ r other. two.skips_still r other ∙ one.skips_still r other;
  as_long = two.as_long ∙ one.as_long;
  risen_still = λ r other. two.risen_still r other ∙ one.risen_still r other;
  heard = λ r i known. two.heard r i (one.heard r i known);
}

-- one resource has come to another incarnation
more_by : (was is_now before more : ℕ) → is_now + before ≡ was + (before + more) → was ≤ is_now
more_by was is_now before more sums = omega (arith, sums)

skips_raised : (skips : List ℕ) (resource skipped : ℕ) → resource < length skips → sum skips ≤ sum (slice_set skips resource (slice_index skips resource + skipped))
skips_raised skips resource skipped within =
    more_by (sum skips) (sum (slice_set skips resource (slice_index skips resource + skipped))) (slice_index skips resource) skipped
    (sum_by-set (λ x. x) skips resource (slice_index skips resource + skipped) 0 within)

grown_raised : (resource incarnation skipped : ℕ) (b : AuditedBook) → resource < length b.skips → resource < length b.present → resource < length b.risen → slice_index b.present resource < incarnation → Grows resource b (risen_book b resource incarnation skipped)
grown_raised resource incarnation skipped b within exists listed rises = record {
  plant_is = refl;
  further = record { later = later_not b.book; more = skips_raised b.skips resource skipped within };
  others = λ r other. refl;
  long = length-set b.present resource incarnation;
  still = λ r other. get_or-set_other b.present resource r incarnation 0 other;
  as_many = length-set b.skips resource (slice_index b.skips resource + skipped);
  skips_still = λ r other. get_or-set_other b.skips resource r (slice_index b.skips resource + skipped) 0 other;
  as_long = length-set b.risen resource (risen_at b resource ++ incarnation ∷ []);
  risen_still = λ r other. get_or-set_other b.risen resource r (risen_at b resource ++ incarnation ∷ []) [] other;
  heard = heard_raised b resource incarnation skipped exists listed rises;
}

-- a book with one more entry
abbrev pub entered : AuditedBook → Evaluated → AuditedBook
entered b x = record b { book = record b.book { entries = b.book.entries ++ x ∷ [] } }

entries_behind : (r : ℕ) (b : AuditedBook) (x : Evaluated) → entries_of r (entered b x).book.entries ≡ entries_of r b.book.entries ++ entries_of r (x ∷ [])
entries_behind r b x = filter-append (λ (y : Evaluated). eqb y.name.task.resource r) b.book.entries (x ∷ [])

later_by : (b : AuditedBook) (x : Evaluated) → IsLater b.book (entered b x).book
later_by b x = record { first_is = refl; later = x ∷ []; entries_are = refl }

grown_by : (resource : ℕ) (b : AuditedBook) (x : Evaluated) → x.name.task.resource ≡ resource → Grows resource b (entered b x)
grown_by resource b x own = record {
  plant_is = refl;
  further = record { later = later_by b x; more = as_much (sum b.skips) };
  others = λ r other. entries_behind r b x ∙ ap (λ ys. entries_of r b.book.entries ++ ys) (no_entry r x (λ same. other (sym same ∙ own))) ∙ append-nil (entries_of r b.book.entries);
  long = refl;
  still = λ r other. refl;
  as_many = refl;
  skips_still = λ r other. refl;
  as_long = refl;
  risen_still = λ r other. refl;
  heard = λ r i known. known;
}

-- the journal of another resource is one of a book that has grown
still_of : (resource : ℕ) (old new : AuditedBook) (j : Journal) → Grows resource old new → j.resource ≢ resource → IsJournalOf old j → IsJournalOf new j
still_of resource old new j grows other is = record {
  first_is = is.first_is;
  exists = omega (arith, is.exists, grows.long);
  counted = omega (arith, is.counted, grows.as_many);
  present_is = grows.still j.resource other ∙ is.present_is;
  skipped_is = grows.skips_still j.resource other ∙ is.skipped_is;
  few = is.few;
  listed = omega (arith, is.listed, grows.as_long);
  risen_is = grows.risen_still j.resource other ∙ is.risen_is;
  hearings = All-weaker (HearsKnown old) (HearsKnown new) (hears_still old new grows.heard) j.steps is.hearings;
  made_is = is.made_is ∙ sym (grows.others j.resource other);
  delivered = All-weaker (Contains old.book.entries) (Contains new.book.entries) (later_keeps old.book new.book grows.further.later) (received j.steps) is.delivered;
}

pub still_standing : (resource : ℕ) (old new : AuditedBook) (s : Standing) → Grows resource old new → (journal_in s).resource ≢ resource → IsStanding old s → IsStanding new s
still_standing resource old new (Going s) grows other is = record {
  plant_is = is.plant_is ∙ sym grows.plant_is;
  firsts_are = is.firsts_are ∙ ap zeros (sym grows.plant_is);
  limit_is = is.limit_is;
  core_is = is.core_is;
  incarnation_is = is.incarnation_is;
  journal = still_of resource old new s.journal grows other is.journal;
}
still_standing resource old new (Ended j) grows other is = record {
  lawful = subst (λ plant. IsLawful plant (zeros plant) 4294967295 j) (sym grows.plant_is) is.lawful;
  journal = still_of resource old new j grows other is.journal;
}

-- the evaluation was entered, and is noted as made
pub noted_going : (old new : AuditedBook) (p : PendingValue) (s : StationValue) → new ≡ entered old p.made → IsNoted p s → IsPendingFor old p → IsGoing new s
noted_going old new p s is noted pending = subst (λ b. IsGoing b s) (sym is) (record {
  plant_is = ap (λ (c : CoreValue). c.plant) noted.core ∙ pending.going.plant_is;
  firsts_are = ap (λ (c : CoreValue). c.first) noted.core ∙ pending.going.firsts_are;
  limit_is = ap (λ (c : CoreValue). c.max_number) noted.core ∙ pending.going.limit_is;
  core_is = ap (λ (c : CoreValue). c.resource) noted.core ∙ pending.going.core_is ∙ sym (ap (λ (j : Journal). j.resource) noted.noted);
  incarnation_is = ap (λ (c : CoreValue). c.incarnation) noted.core ∙ pending.going.incarnation_is ∙ sym (present_with p.journal (Made p.made) refl) ∙ ap present_of (sym noted.noted);
  journal = subst (IsJournalOf (entered old p.made)) (sym noted.noted) (record {
    first_is = pending.going.journal.first_is;
    exists = pending.going.journal.exists;
    counted = pending.going.journal.counted;
    present_is = pending.going.journal.present_is ∙ sym (present_with p.journal (Made p.made) refl);
    skipped_is = pending.going.journal.skipped_is ∙ sym (skipped_still p.journal (Made p.made) refl refl);
    few = few_still p.journal (Made p.made) refl refl pending.going.journal.few;
    listed = pending.going.journal.listed;
    risen_is = pending.going.journal.risen_is ∙ sym (risen_still p.journal (Made p.made) refl);
    hearings = heard_with (entered old p.made) p.journal (Made p.made) tt
        (All-weaker (HearsKnown old) (HearsKnown (entered old p.made)) (hears_still old (entered old p.made) (λ r i known. known)) p.journal.steps pending.going.journal.hearings);
    made_is = made-append p.journal.steps (Made p.made ∷ []) ∙ ap (λ ys. ys ++ p.made ∷ []) pending.going.journal.made_is
        ∙ ap (λ ys. entries_of p.journal.resource old.book.entries ++ ys) (sym (own_entry p.journal.resource p.made pending.own))
        ∙ sym (entries_behind p.journal.resource old p.made);
    delivered = subst (All (Contains (entered old p.made).book.entries)) (sym (received-append p.journal.steps (Made p.made ∷ []) ∙ append-nil (received p.journal.steps)))
        (All-weaker (Contains old.book.entries) (Contains (entered old p.made).book.entries) (later_keeps old.book (entered old p.made).book (later_by old p.made)) (received p.journal.steps) pending.going.journal.delivered);
  });
})

-- the lawful journal of a resource that goes on or not
pub ended_going : (b : AuditedBook) (s : StationValue) (j : Journal) → j ≡ s.journal → IsLawful s.core.plant s.core.first s.core.max_number j → IsGoing b s → IsEnded b j
ended_going b s j same lawful going = record {
  lawful = subst (λ n. IsLawful b.plant (zeros b.plant) n j) going.limit_is
      (subst (λ firsts. IsLawful b.plant firsts s.core.max_number j) going.firsts_are (subst (λ plant. IsLawful plant s.core.first s.core.max_number j) going.plant_is lawful));
  journal = subst (IsJournalOf b) (sym same) going.journal;
}

pub goes_twice : (a b c : AuditedBook) (s t u : Standing) → Goes a b s t → Goes b c t u → Goes a c s u
goes_twice a b c s t u one two = record {
  stands = two.stands;
  resource_is = two.resource_is ∙ one.resource_is;
  grows = grown_twice (journal_in s).resource a b c one.grows (subst (λ r. Grows r b c) one.resource_is two.grows);
}

pub goes_not : (b : AuditedBook) (s : Standing) → IsStanding b s → Goes b b s s
goes_not b s stands = record { stands = stands; resource_is = refl; grows = grown_not (journal_in s).resource b }

by_one : (n k : ℕ) → n + suc k ≡ n + 1 + k
by_one n k = omega arith

-- the resources from a place on: the first one, and the others
pub first_at : (b : AuditedBook) (n : ℕ) (f : Follower) (fs : List Follower) → AreFrom b n (f ∷ fs) → IsAt b n f
first_at b n f fs are = subst (λ k. IsAt b k f) (add-zero n) (are 0 f refl)

pub others_from : (b : AuditedBook) (n : ℕ) (f : Follower) (fs : List Follower) → AreFrom b n (f ∷ fs) → AreFrom b (n + 1) fs
others_from b n f fs are = λ k g at. subst (λ j. IsAt b j g) (by_one n k) (are (suc k) g at)

-- the incarnation to which a resource has come is noted
pub present_at : (b : AuditedBook) (fs : List Follower) (n : ℕ) (f : Follower) → AreFrom b 0 fs → slice_get fs n ≡ Some f → slice_index b.present n ≡ present_of (journal_in f.standing)
present_at b fs n f stand at =
    let is = stand n f at in
    let place : (journal_in f.standing).resource ≡ n = is.resource_is ∙ zero-add n in
    ap (slice_index b.present) (sym place) ∙ by f.standing is.stands
  where
    by : (standing : Standing) → IsStanding b standing → slice_index b.present (journal_in standing).resource ≡ present_of (journal_in standing)
    by (Going s) stands = stands.journal.present_is
    by (Ended j) stands = stands.journal.present_is

-- how many incarnations a resource has skipped is noted
skipped_at : (b : AuditedBook) (fs : List Follower) (n : ℕ) (f : Follower) → AreFrom b 0 fs → slice_get fs n ≡ Some f → slice_index b.skips n ≡ skipped_of (journal_in f.standing)
skipped_at b fs n f stand at =
    let is = stand n f at in
    let place : (journal_in f.standing).resource ≡ n = is.resource_is ∙ zero-add n in
    ap (slice_index b.skips) (sym place) ∙ by f.standing is.stands
  where
    by : (standing : Standing) → IsStanding b standing → slice_index b.skips (journal_in standing).resource ≡ skipped_of (journal_in standing)
    by (Going s) stands = stands.journal.skipped_is
    by (Ended j) stands = stands.journal.skipped_is

-- the incarnations in which a resource was put are noted
risen_there : (b : AuditedBook) (fs : List Follower) (n : ℕ) (f : Follower) → AreFrom b 0 fs → slice_get fs n ≡ Some f → risen_at b n ≡ risen_to (journal_in f.standing)
risen_there b fs n f stand at =
    let is = stand n f at in
    let place : (journal_in f.standing).resource ≡ n = is.resource_is ∙ zero-add n in
    ap (risen_at b) (sym place) ∙ by f.standing is.stands
  where
    by : (standing : Standing) → IsStanding b standing → risen_at b (journal_in standing).resource ≡ risen_to (journal_in standing)
    by (Going s) stands = stands.journal.risen_is
    by (Ended j) stands = stands.journal.risen_is

-- a resource that can be heard can have been in the incarnation
pub can_have_been : (b : AuditedBook) (fs : List Follower) (n i : ℕ) (f : Follower) → AreFrom b 0 fs → slice_get fs n ≡ Some f → CanHaveBeen (present_of (journal_in f.standing)) (risen_to (journal_in f.standing)) i → CanBeHeard b n i
can_have_been b fs n i f stand at can =
    subst (λ p. CanHaveBeen p (risen_at b n) i) (sym (present_at b fs n f stand at)) (subst (λ ks. CanHaveBeen (present_of (journal_in f.standing)) ks i) (sym (risen_there b fs n f stand at)) can)

-- one more behind those from 0 on
pub one_more_at : (b : AuditedBook) (n : ℕ) (fs : List Follower) (f : Follower) → AreFrom b n fs → IsAt b (n + length fs) f → AreFrom b n (fs ++ f ∷ [])
one_more_at b n [] f are is zero g at = subst (λ h. IsAt b (n + 0) h) (same_Some f g at) is
one_more_at b n [] f are is (suc k) g at = absurd (none-some g at)
one_more_at b n (h ∷ fs) f are is zero g at = are 0 g at
one_more_at b n (h ∷ fs) f are is (suc k) g at =
    let more = one_more_at b (n + 1) fs f (others_from b n h fs are) (subst (λ j. IsAt b j f) (by_one n (length fs)) is) k g at in
    subst (λ j. IsAt b j g) (sym (by_one n k)) more

-- what a resource has followed stays so in a later book
still_followed : (old new : AuditedBook) (n : ℕ) (f : Follower) → old.plant ≡ new.plant → IsFurther old new → IsFollowed old.plant old n f → IsFollowed new.plant new n f
still_followed old new n f plant_is further is = subst (λ p. IsFollowed p new n f) plant_is (later_following old.plant old new n f.lines.items f.standing f.trail further is)

-- resources that stand at other places than the one that went on
others_still : (r n : ℕ) (old new : AuditedBook) (fs : List Follower) → Grows r old new → ((k : ℕ) → k < length fs → n + k ≢ r) → AreFrom old n fs → AreFrom new n fs
others_still r n old new fs grows apart are = λ k f at.
    let is = are k f at in
    record {
      stands = still_standing r old new f.standing grows (λ same. apart k (slice_get_within fs k f at) (sym is.resource_is ∙ same)) is.stands;
      resource_is = is.resource_is;
      followed = still_followed old new (n + k) f (sym grows.plant_is) grows.further is.followed;
    }

-- where a resource has followed its lines, it has followed them further, and is settled if it did none
abbrev pub Follows : AuditedBook → AuditedBook → Follower → Follower → Bool → Type 0
Follows old new f g went = (plant : PlantValue) (n : ℕ) → IsFollowed plant old n f → IsFollowed plant new n g × (went ≡ false → IsSettled new g)

-- a resource that went on stands at its place
went_at : (old new : AuditedBook) (n : ℕ) (f g : Follower) (went : Bool) → IsAt old n f → Goes old new f.standing g.standing → Follows old new f g went → IsAt new n g
went_at old new n f g went is goes follows = record {
  stands = goes.stands;
  resource_is = goes.resource_is ∙ is.resource_is;
  followed = subst (λ p. IsFollowed p new n g) (sym goes.grows.plant_is) (follows old.plant n is.followed).0;
}

below_not : (k n : ℕ) → k < n → k ≡ n → ⊥
below_not k n lt same = absurd (omega arith)

behind_not : (n k : ℕ) → n + 1 + k ≡ n → ⊥
behind_not n k same = absurd (omega arith)

-- one resource goes on, and all stand
round_on : (old new : AuditedBook) (gone rest : List Follower) (f g : Follower) (went : Bool) → AreFrom old 0 gone → AreFrom old (length gone) (f ∷ rest) → Goes old new f.standing g.standing → Follows old new f g went
    → AreFrom new 0 (gone ++ g ∷ []) × AreFrom new (length gone + 1) rest × IsOfSame old new
round_on old new gone rest f g went before behind goes follows =
    let here : IsAt old (length gone) f = first_at old (length gone) f rest behind in
    let grows : Grows (length gone) old new = subst (λ r. Grows r old new) here.resource_is goes.grows in (
      one_more_at new 0 gone g (others_still (length gone) 0 old new gone grows (λ k lt same. below_not k (length gone) lt (sym (zero-add k) ∙ same)) before)
          (subst (λ k. IsAt new k g) (sym (zero-add (length gone))) (went_at old new (length gone) f g went here goes follows)),
      others_still (length gone) (length gone + 1) old new rest grows (λ k lt same. behind_not (length gone) k same) (others_from old (length gone) f rest behind),
      record { plant_is = grows.plant_is; first_is = grows.further.later.first_is; as_many = grows.as_many },
    )

pub same_twice : (a b c : AuditedBook) → IsOfSame a b → IsOfSame b c → IsOfSame a c
same_twice a b c one two = record { plant_is = two.plant_is ∙ one.plant_is; first_is = two.first_is ∙ one.first_is; as_many = two.as_many ∙ one.as_many }

-- the journals that the resources have made, with one more
pub journal_more : (b : AuditedBook) (n : ℕ) (js : List Journal) (j : Journal) → AreJournalsFrom b n js → IsEnded b j × (j.resource ≡ n + length js) → AreJournalsFrom b n (js ++ j ∷ [])
journal_more b n [] j are is zero i at = subst (λ h. IsEnded b h × (h.resource ≡ n + 0)) (same_Some j i at) is
journal_more b n [] j are is (suc k) i at = absurd (none-some i at)
journal_more b n (h ∷ js) j are is zero i at = are 0 i at
journal_more b n (h ∷ js) j are is (suc k) i at =
    let tail : AreJournalsFrom b (n + 1) js = λ m g found. let it = are (suc m) g found in (it.0, it.1 ∙ by_one n m) in
    let more = journal_more b (n + 1) js j tail (is.0, is.1 ∙ by_one n (length js)) k i at in
    (more.0, more.1 ∙ sym (by_one n k))

-- what is known of the journals of all resources, and of the book that they made
pub record AllAgree (plant : PlantValue) (book : BookValue) (journals : List Journal) : Type 0 where
  pub lawful : All (IsLawful plant (firsts_of journals) 4294967295) journals
  pub agree : Agree plant book journals
  pub delivered : AreDelivered book.entries journals

firsts_zero : (js : List Journal) → ((k : ℕ) (j : Journal) → slice_get js k ≡ Some j → j.first ≡ 0) → firsts_of js ≡ replicate (length js) 0
firsts_zero [] each = refl
firsts_zero (j ∷ js) each = ap₂ (λ (x : ℕ) (xs : List ℕ). x ∷ xs) (each 0 j refl) (firsts_zero js (λ k i at. each (suc k) i at))

pub all_agree : (plant : PlantValue) (b : AuditedBook) (journals : List Journal) → b.plant ≡ plant → b.book.first ≡ zeros plant → length journals ≡ length plant.resources → AreJournalsFrom b 0 journals → AllAgree plant b.book journals
all_agree plant b journals plant_is first_is many are =
    let firsts_are : firsts_of journals ≡ zeros plant = firsts_zero journals (λ k j at. (are k j at).0.journal.first_is) ∙ ap (λ n. replicate n 0) many in record {
      lawful = all_from_places (IsLawful plant (firsts_of journals) 4294967295) journals (λ k j at.
          subst (λ firsts. IsLawful plant firsts 4294967295 j) (sym firsts_are) (subst (λ (p : PlantValue). IsLawful p (zeros p) 4294967295 j) plant_is (are k j at).0.lawful));
      agree = record {
        many = many;
        in_order = λ k j at. (are k j at).1 ∙ zero-add k;
        first_is = first_is ∙ sym firsts_are;
        in_book = all_from_places (λ (j : Journal). made j.steps ≡ entries_of j.resource b.book.entries) journals (λ k j at. (are k j at).0.journal.made_is);
      };
      delivered = all_from_places (λ (j : Journal). All (Contains b.book.entries) (received j.steps)) journals (λ k j at. (are k j at).0.journal.delivered);
    }

pub goes_still : (b : AuditedBook) (s t : StationValue) → IsGoing b t → t.journal.resource ≡ s.journal.resource → Goes b b (Going s) (Going t)
goes_still b s t going same = record { stands = going; resource_is = same; grows = grown_not s.journal.resource b }

pub restarted_goes : (b d c : AuditedBook) (old new : StationValue) (ticket incarnation resource skipped : ℕ) → d ≡ put_in b resource incarnation → c ≡ raised d resource incarnation skipped → resource ≡ old.journal.resource → old.core.incarnation < incarnation
    → skipped ≡ incarnation - (old.core.incarnation + 1) → IsRestarted old new ticket incarnation → IsGoing b old → Goes b c (Going old) (Going new)
restarted_goes b d c old new ticket incarnation resource skipped put_is raised_is own rises skips is going =
    let same : risen_book b old.journal.resource incarnation skipped ≡ c = ap (λ r. risen_book b r incarnation skipped) (sym own) ∙ ap (λ x. raised x resource incarnation skipped) (sym put_is) ∙ sym raised_is in
    let above : present_of old.journal < incarnation = subst (λ n. n < incarnation) going.incarnation_is rises in
    let between : skipped ≡ incarnation - (present_of old.journal + 1) = skips ∙ ap (λ n. incarnation - (n + 1)) going.incarnation_is in
    subst (λ e. Goes b e (Going old) (Going new)) same (record {
      stands = restarted_going b old new ticket incarnation skipped above between is going;
      resource_is = ap (λ (j : Journal). j.resource) is.noted;
      grows = grown_raised old.journal.resource incarnation skipped b going.journal.counted going.journal.exists going.journal.listed (subst (λ p. p < incarnation) (sym going.journal.present_is) above);
    })

pub made_goes : (old new : AuditedBook) (s : StationValue) (p : PendingValue) (t : Standing) (ticket task dt : ℕ) (inputs : List FieldInput) → IsPending s p ticket task dt inputs
    → IsStanding new t → (journal_in t).resource ≡ p.journal.resource → Grows p.journal.resource old new → Goes old new (Going s) t
made_goes old new s p t ticket task dt inputs is stands same grows =
    let own : p.journal.resource ≡ s.journal.resource = ap (λ (j : Journal). j.resource) is.journal in
    record { stands = stands; resource_is = same ∙ own; grows = subst (λ r. Grows r old new) own grows }

pub entered_grows : (old new : AuditedBook) (p : PendingValue) → new ≡ entered old p.made → IsPendingFor old p → Grows p.journal.resource old new
entered_grows old new p is pending = subst (Grows p.journal.resource old) (sym is) (grown_by p.journal.resource old p.made pending.own)

pub given_up : (b : AuditedBook) (p : PendingValue) (j : Journal) → j ≡ p.journal → IsLawful p.core.plant p.core.first p.core.max_number j → IsPendingFor b p → IsEnded b j
given_up b p j same lawful pending = ended_going b (record { core = p.core; journal = p.journal }) j same lawful pending.going

-- before the first turn of a round, none has gone on
pub round_begins : (b : AuditedBook) (before rest all : List Follower) → before ≡ [] → rest ≡ all → AreFrom b 0 all → (length before + length rest ≡ length all) × AreFrom b 0 before × AreFrom b (length before) rest × IsOfSame b b
round_begins b before rest all none same are =
    subst (λ (gs : List Follower). (length gs + length rest ≡ length all) × AreFrom b 0 gs × AreFrom b (length gs) rest × IsOfSame b b) (sym none)
    (subst (λ (rs : List Follower). (0 + length rs ≡ length all) × AreFrom b 0 [] × AreFrom b 0 rs × IsOfSame b b) (sym same)
    (zero-add (length all), (λ k f at. absurd (none-some f at)), are, record { plant_is = refl; first_is = refl; as_many = refl }))

-- the next one stands
pub next_stands : (b : AuditedBook) (n : ℕ) (rest others : List Follower) (f : Follower) → rest ≡ f ∷ others → AreFrom b n rest → IsStanding b f.standing
next_stands b n rest others f is are = (first_at b n f others (subst (λ (fs : List Follower). AreFrom b n fs) is are)).stands

moved : (gone_long rest_long after_long others_long n : ℕ) → rest_long ≡ suc others_long → after_long ≡ gone_long + 1 → gone_long + rest_long ≡ n → after_long + others_long ≡ n
moved gone_long rest_long after_long others_long n is more sum = omega (arith, is, more, sum)

-- a turn of a round: one more has gone on
pub round_turns : (start old new : AuditedBook) (before after rest others : List Follower) (f g : Follower) (n : ℕ) (went : Bool) → rest ≡ f ∷ others → after ≡ before ++ g ∷ []
    → (length before + length rest ≡ n) × AreFrom old 0 before × AreFrom old (length before) rest × IsOfSame start old → Goes old new f.standing g.standing → Follows old new f g went
    → (length after + length others ≡ n) × AreFrom new 0 after × AreFrom new (length after) others × IsOfSame start new
round_turns start old new before after rest others f g n went is more stand goes follows =
    let r = round_on old new before others f g went stand.1 (subst (λ (fs : List Follower). AreFrom old (length before) fs) is stand.2) goes follows in
    let long : length after ≡ length before + 1 = ap length more ∙ length-append before (g ∷ []) in (
      moved (length before) (length rest) (length after) (length others) n (ap length is) long stand.0,
      subst (λ (fs : List Follower). AreFrom new 0 fs) (sym more) r.0,
      subst (λ (k : ℕ). AreFrom new k others) (sym long) r.1,
      same_twice start old new stand.3 r.2,
    )

-- what is left of the tasks of the next one is known
pub next_left : (b : AuditedBook) (n : ℕ) (rest others : List Follower) (f : Follower) → rest ≡ f ∷ others → AreFrom b n rest → AreLeft (journal_in f.standing) f.trail.past.left.items
next_left b n rest others f is are = followed_left b.plant b n f.lines.items f.standing f.trail (first_at b n f others (subst (λ (fs : List Follower). AreFrom b n fs) is are)).followed

-- one more is settled, where none has gone on
pub settled_more : (start old new : AuditedBook) (n : ℕ) (before after rest others : List Follower) (f g : Follower) (went : Bool) → rest ≡ f ∷ others → after ≡ before ++ g ∷ [] → AreFrom old n rest → Follows old new f g went
    → went ≡ false → new ≡ old → (old ≡ start) × AreSettled old before → (new ≡ start) × AreSettled new after
settled_more start old new n before after rest others f g went is more are follows rests still settled =
    let here = first_at old n f others (subst (λ (fs : List Follower). AreFrom old n fs) is are) in
    (still ∙ settled.0, λ k h at. by k h (push_cases before g k h (ap (λ hs. slice_get hs k) (sym more) ∙ at)) ((follows old.plant n here.followed).1 rests))
  where
    by : (k : ℕ) (h : Follower) → (slice_get before k ≡ Some h) ⊎ ((k ≡ length before) × (h ≡ g)) → IsSettled new g → IsSettled new h
    by k h (inl there) so = subst (λ b. IsSettled b h) (sym still) (settled.1 k h there)
    by k h (inr here) so = subst (IsSettled new) (sym here.1) so

pub not_both : {b : Bool} → b ≡ false → b ≡ true → ⊥
not_both is_false is_true = absurd (let e = sym is_false ∙ is_true in cc)

-- the lines of the resources stay
abbrev pub lines_of : List Follower → List (Vec Line)
lines_of fs = map (λ (f : Follower). f.lines) fs

pub lines_begin : (before rest all : List Follower) → before ≡ [] → rest ≡ all → lines_of before ++ lines_of rest ≡ lines_of all
lines_begin before rest all none same = ap (λ fs. lines_of fs ++ lines_of rest) none ∙ ap lines_of same

pub lines_turn : (before after rest others all : List Follower) (f g : Follower) → rest ≡ f ∷ others → after ≡ before ++ g ∷ [] → g.lines ≡ f.lines → lines_of before ++ lines_of rest ≡ lines_of all → lines_of after ++ lines_of others ≡ lines_of all
lines_turn before after rest others all f g is more same was =
    ap (λ ls. ls ++ lines_of others) (ap lines_of more ∙ map-append (λ (h : Follower). h.lines) before (g ∷ []))
    ∙ append_assoc (lines_of before) (g.lines ∷ []) (lines_of others)
    ∙ ap (λ (l : Vec Line). lines_of before ++ (l ∷ lines_of others)) same
    ∙ ap (λ fs. lines_of before ++ lines_of fs) (sym is) ∙ was

-- one more resource with its lines
pub lines_begun : (followers after : List Follower) (rest others all : List (Vec Line)) (f : Follower) (lines : Vec Line) → rest ≡ lines ∷ others → after ≡ followers ++ f ∷ [] → f.lines ≡ lines
    → lines_of followers ++ rest ≡ all → lines_of after ++ others ≡ all
lines_begun followers after rest others all f lines is more same was =
    ap (λ ls. ls ++ others) (ap lines_of more ∙ map-append (λ (h : Follower). h.lines) followers (f ∷ []))
    ∙ append_assoc (lines_of followers) (f.lines ∷ []) others
    ∙ ap (λ (l : Vec Line). lines_of followers ++ (l ∷ others)) same
    ∙ ap (λ ls. lines_of followers ++ ls) (sym is) ∙ was

pub lines_all : (followers : List Follower) (rest all : List (Vec Line)) → length rest ≡ 0 → lines_of followers ++ rest ≡ all → lines_of followers ≡ all
lines_all followers rest all none was = sym (append-nil (lines_of followers)) ∙ ap (λ ls. lines_of followers ++ ls) (sym (nil_from_length rest none)) ∙ was

-- the journals of the resources
abbrev pub journals_in : List Follower → List Journal
journals_in fs = map (λ (f : Follower). journal_in f.standing) fs

pub journals_first : (js : List Journal) (rest all : List Follower) → js ≡ [] → rest ≡ all → js ++ journals_in rest ≡ journals_in all
journals_first js rest all none same = ap (λ ks. ks ++ journals_in rest) none ∙ ap journals_in same

pub journals_next : (js after : List Journal) (rest others all : List Follower) (f : Follower) (j : Journal) → rest ≡ f ∷ others → after ≡ js ++ j ∷ [] → j ≡ journal_in f.standing → js ++ journals_in rest ≡ journals_in all → after ++ journals_in others ≡ journals_in all
journals_next js after rest others all f j is more same was =
    ap (λ ks. ks ++ journals_in others) more
    ∙ append_assoc js (j ∷ []) (journals_in others)
    ∙ ap (λ (i : Journal). js ++ (i ∷ journals_in others)) same
    ∙ ap (λ fs. js ++ journals_in fs) (sym is) ∙ was

pub journals_last : (js : List Journal) (rest all : List Follower) → length rest ≡ 0 → js ++ journals_in rest ≡ journals_in all → js ≡ journals_in all
journals_last js rest all none was = sym (append-nil js) ∙ ap (λ fs. js ++ journals_in fs) (sym (nil_from_length rest none)) ∙ was

-- one more resource before its first line
pub begun_more : (b : AuditedBook) (followers after : List Follower) (rest_long others_long n place : ℕ) (f : Follower) → rest_long ≡ suc others_long → after ≡ followers ++ f ∷ [] → place ≡ length followers
    → (length followers + rest_long ≡ n) × AreFrom b 0 followers → IsAt b place f → (length after + others_long ≡ n) × AreFrom b 0 after
begun_more b followers after rest_long others_long n place f is more at stand here =
    let long : length after ≡ length followers + 1 = ap length more ∙ length-append followers (f ∷ []) in (
      moved (length followers) rest_long (length after) others_long n is long stand.0,
      subst (λ (fs : List Follower). AreFrom b 0 fs) (sym more) (one_more_at b 0 followers f stand.1 (subst (λ (k : ℕ). IsAt b k f) (at ∙ sym (zero-add (length followers))) here)),
    )

-- before the first journal
pub journals_begin : (journals : List Journal) (rest all : List Follower) → journals ≡ [] → rest ≡ all
    → (length journals + length rest ≡ length all) × ((b : AuditedBook) → AreFrom b 0 all → AreJournalsFrom b 0 journals × AreFrom b (length journals) rest)
journals_begin journals rest all none same =
    subst (λ (js : List Journal). (length js + length rest ≡ length all) × ((b : AuditedBook) → AreFrom b 0 all → AreJournalsFrom b 0 js × AreFrom b (length js) rest)) (sym none)
    (subst (λ (rs : List Follower). (0 + length rs ≡ length all) × ((b : AuditedBook) → AreFrom b 0 all → AreJournalsFrom b 0 [] × AreFrom b 0 rs)) (sym same)
    (zero-add (length all), λ b are. ((λ k j at. absurd (none-some j at)), are)))

-- one more journal
pub journals_turn : (journals after : List Journal) (rest others all : List Follower) (f : Follower) (j : Journal) → rest ≡ f ∷ others → after ≡ journals ++ j ∷ [] → j ≡ journal_in f.standing
    → ((b : AuditedBook) → IsStanding b f.standing → IsEnded b j)
    → (length journals + length rest ≡ length all) × ((b : AuditedBook) → AreFrom b 0 all → AreJournalsFrom b 0 journals × AreFrom b (length journals) rest)
    → (length after + length others ≡ length all) × ((b : AuditedBook) → AreFrom b 0 all → AreJournalsFrom b 0 after × AreFrom b (length after) others)
journals_turn journals after rest others all f j is more same lawful stand =
    let long : length after ≡ length journals + 1 = ap length more ∙ length-append journals (j ∷ []) in (
      moved (length journals) (length rest) (length after) (length others) (length all) (ap length is) long stand.0,
      λ b are.
          let now = stand.1 b are in
          let behind : AreFrom b (length journals) (f ∷ others) = subst (λ (fs : List Follower). AreFrom b (length journals) fs) is now.1 in
          let here : IsAt b (length journals) f = first_at b (length journals) f others behind in
          let place : j.resource ≡ 0 + length journals = ap (λ (i : Journal). i.resource) same ∙ here.resource_is ∙ sym (zero-add (length journals)) in (
            subst (λ (js : List Journal). AreJournalsFrom b 0 js) (sym more) (journal_more b 0 journals j now.0 (lawful b here.stands, place)),
            subst (λ (k : ℕ). AreFrom b k others) (sym long) (others_from b (length journals) f others behind),
          ),
    )

-- in the end the journals and the book agree
pub audited_agree : (plant : PlantValue) (start b : AuditedBook) (followers all : List Follower) (journals : List Journal) → start ≡ empty_book plant → IsOfSame start b → length followers ≡ length plant.resources
    → length all ≡ length followers → length journals ≡ length all → AreFrom b 0 all → ((x : AuditedBook) → AreFrom x 0 all → AreJournalsFrom x 0 journals) → AllAgree plant b.book journals
audited_agree plant start b followers all journals is same many as_many last stand ends =
    all_agree plant b journals (same.plant_is ∙ ap (λ (x : AuditedBook). x.plant) is) (same.first_is ∙ ap (λ (x : AuditedBook). x.book.first) is) (last ∙ as_many ∙ many) (ends b stand)

-- where they agree, there is no reason why they don't
pub disagrees_not : (plant : PlantValue) (book : BookValue) (journals : List Journal) (fault : RunFault) → IsAgreeFault plant book journals fault → Agree plant book journals → ⊥
disagrees_not plant book journals run.Memory given agree = given
disagrees_not plant book journals run.Spawn given agree = given
disagrees_not plant book journals run.BookDisagrees given agree = given agree
disagrees_not plant book journals run.Stranger given agree = given
disagrees_not plant book journals run.Doubled given agree = given
disagrees_not plant book journals run.Keeper given agree = given

-- how many each has skipped is noted
each_skipped : (skips : List ℕ) (js : List Journal) → length js ≡ length skips → ((k : ℕ) (j : Journal) → slice_get js k ≡ Some j → slice_index skips k ≡ skipped_of j) → map skipped_of js ≡ skips
each_skipped skips js many each = same_by_each (map skipped_of js) skips (length-map js skipped_of ∙ many) (λ k x y at here. by k x y (slice_get js k) refl at here)
  where
    by : (k x y : ℕ) (j : Option Journal) → slice_get js k ≡ j → slice_get (map skipped_of js) k ≡ Some x → slice_get skips k ≡ Some y → x ≡ y
    by k x y None none at here = absurd (none-some x (sym (slice_get-map skipped_of js k ∙ ap (option_map skipped_of) none) ∙ at))
    by k x y (Some j) found at here =
        same_Some x (skipped_of j) (sym at ∙ slice_get-map skipped_of js k ∙ ap (option_map skipped_of) found) ∙ sym (each k j found) ∙ get_or_from_slice_get skips k y 0 here

pub few_skipped : (b : AuditedBook) (journals : List Journal) → AreJournalsFrom b 0 journals → length journals ≡ length b.skips → sum b.skips ≤ 1000000 → skipped_in journals ≤ 1000000
few_skipped b journals are many few =
    subst (λ skips. sum skips ≤ 1000000) (sym (each_skipped b.skips journals many (λ k j at. ap (slice_index b.skips) (sym ((are k j at).1 ∙ zero-add k)) ∙ (are k j at).0.journal.skipped_is))) few

-- as many are skipped as the journals tell
pub all_skipped : (b : AuditedBook) (fs : List Follower) → AreFrom b 0 fs → length b.skips ≡ length fs → sum b.skips ≡ skipped_in (journals_in fs)
all_skipped b fs stand many = ap sum (sym (each_skipped b.skips (journals_in fs) (length-map fs (λ (f : Follower). journal_in f.standing) ∙ sym many) (λ k j at. by k j (slice_get fs k) refl at)))
  where
    by : (k : ℕ) (j : Journal) (f : Option Follower) → slice_get fs k ≡ f → slice_get (journals_in fs) k ≡ Some j → slice_index b.skips k ≡ skipped_of j
    by k j None none at = absurd (none-some j (sym (slice_get-map (λ (g : Follower). journal_in g.standing) fs k ∙ ap (option_map (λ (g : Follower). journal_in g.standing)) none) ∙ at))
    by k j (Some f) found at =
        let same : journal_in f.standing ≡ j = same_Some (journal_in f.standing) j (sym (slice_get-map (λ (g : Follower). journal_in g.standing) fs k ∙ ap (option_map (λ (g : Follower). journal_in g.standing)) found) ∙ at) in
        skipped_at b fs k f stand found ∙ ap skipped_of same

-- each resource has its place among the skips
pub many_skips : (plant : PlantValue) (start b : AuditedBook) (n : ℕ) → start ≡ empty_book plant → IsOfSame start b → n ≡ length plant.resources → length b.skips ≡ n
many_skips plant start b n is same many = same.as_many ∙ ap (λ (x : AuditedBook). length x.skips) is ∙ length-replicate (length plant.resources) 0 ∙ sym many

-- what was heard can have been
pub all_heard : (b : AuditedBook) (journals : List Journal) → AreJournalsFrom b 0 journals → AreHeardTruly journals
all_heard b journals are = all_from_places (λ (j : Journal). All (HearsTruly journals) j.steps) journals (λ k j at. All-weaker (HearsKnown b) (HearsTruly journals) truly j.steps (are k j at).0.journal.hearings)
  where
    truly : (s : Step) → HearsKnown b s → HearsTruly journals s
    truly (Took x) h = tt
    truly (Made x) h = tt
    truly (Restarted ticket incarnation) h = tt
    truly (Heard of incarnation) h = λ maker at.
        let is = are of maker at in
        let place : maker.resource ≡ of = is.1 ∙ zero-add of in
        subst (λ p. CanHaveBeen p (risen_to maker) incarnation) (ap (slice_index b.present) (sym place) ∙ is.0.journal.present_is)
        (subst (λ ks. CanHaveBeen (slice_index b.present of) ks incarnation) (ap (risen_at b) (sym place) ∙ is.0.journal.risen_is) h)
