-- Keeping the greatest pair keeps the latest.
use Rattle.std.proofs.Common.{◌≡◌, inl, inr, ap, ◌∙◌, ℕ, suc, ◌≤◌, Bool, true, false, cond, ◌&&◌, ◌||◌, List, [], ◌∷◌, length, Some, None, refl, sym, arith, eqb}
use Rattle.std.proofs.lemmas.Bool.{ne_eqb, eqb-true}
use Rattle.std.proofs.lemmas.Bool.Decides.{nat_tests}
use Rattle.task_codes.specs.declared.task_ref.TaskRef.{TaskRef}
use Rattle.evaluation.specs.declared.name.Name.{Name}
use Rattle.evaluation.specs.Names.{precedes}
use Rattle.evaluation.specs.Meaning.{Evaluated}
use Rattle.evaluation.specs.Last.{same_task}
use Rattle.world.specs.Run.{message, last_among}
use Rattle.world.specs.Laws.{greater, held_with}
use Rattle.lists.specs.Among.{Among}

-- each evaluation of p in the log has a smaller pair than this name
abbrev pub AllBefore : TaskRef → Name → List Evaluated → Type 0
AllBefore p name [] = Unit {0}
AllBefore p name (y ∷ ys) = (same_task y.name.task p ≡ true → precedes y.name name ≡ true) × AllBefore p name ys

-- the pairs of p rise strictly along the log, which has the newest first
abbrev pub Rises : TaskRef → List Evaluated → Type 0
Rises p [] = Unit {0}
Rises p (x ∷ older) = (same_task x.name.task p ≡ true → AllBefore p x.name older) × Rises p older

pub precedes-irreflexive : (a b : Name) → precedes a b ≡ true → precedes b a ≡ false
precedes-irreflexive a b h = grind (arith, nat_tests)

pub not_itself : (a : Name) → precedes a a ≡ false
not_itself a = grind (arith, nat_tests)

-- the newest one of p is the greatest
greater-newest : (p : TaskRef) (r : ℕ → Evaluated → Bool) (x : Evaluated) (older : List Evaluated) → AllBefore p x.name older → greater (last_among p r older) x ≡ Some x
greater-newest p r x [] all = refl
greater-newest p r x (y ∷ ys) all =
    by (greater-newest p r x ys all.1) (same_task y.name.task p) refl (r (suc (length ys)) y) where
      by : greater (last_among p r ys) x ≡ Some x → (t : Bool) → same_task y.name.task p ≡ t → (b : Bool) → greater (cond (t && b) (Some y) (last_among p r ys)) x ≡ Some x
      by ih false e b = ih
      by ih true e false = ih
      by ih true e true = rw (all.0 e)

-- a message that isn't newer leaves the newest one
held-newest : (p : TaskRef) (c : Evaluated → Bool) (x : Evaluated) (older : List Evaluated) (k : ℕ) → AllBefore p x.name older → held_with p c (Some x) (message older k) ≡ Some x
held-newest p c x [] k all = refl
held-newest p c x (y ∷ ys) k all =
    by (held-newest p c x ys k all.1) (eqb k (suc (length ys))) where
      known : (t : Bool) → same_task y.name.task p ≡ t → (a : Bool) → cond (t && a) (greater (Some x) y) (Some x) ≡ Some x
      known false e a = refl
      known true e false = refl
      known true e true = rw (precedes-irreflexive y.name x.name (all.0 e))

      by : held_with p c (Some x) (message ys k) ≡ Some x → (b : Bool) → held_with p c (Some x) (cond b (Some y) (message ys k)) ≡ Some x
      by ih true = known (same_task y.name.task p) refl (c y)
      by ih false = ih

-- only p's messages of the log count
pub last_among-agree : (p : TaskRef) (r s : ℕ → Evaluated → Bool) (log : List Evaluated) → ((k : ℕ) (y : Evaluated) → same_task y.name.task p ≡ true → k ≤ length log → r k y ≡ s k y)
    → last_among p r log ≡ last_among p s log
last_among-agree p r s [] same = refl
last_among-agree p r s (x ∷ older) same = by (last_among-agree p r s older (λ k y e h. same k y e (omega arith))) (same_task x.name.task p) refl where
  by : last_among p r older ≡ last_among p s older → (t : Bool) → same_task x.name.task p ≡ t
      → cond (t && r (suc (length older)) x) (Some x) (last_among p r older) ≡ cond (t && s (suc (length older)) x) (Some x) (last_among p s older)
  by ih true e = rw (same (suc (length older)) x e (omega arith), ih)
  by ih false e = ih

pub last_among-none : (p : TaskRef) (log : List Evaluated) → last_among p (λ _ _. false) log ≡ None
last_among-none p [] = refl
last_among-none p (x ∷ older) = by (last_among-none p older) (same_task x.name.task p) where
  by : last_among p (λ _ _. false) older ≡ None → (t : Bool) → cond (t && false) (Some x) (last_among p (λ _ _. false) older) ≡ None
  by ih true = ih
  by ih false = ih

-- none passes where none of the log does
pub last_among-missing : (p : TaskRef) (r : ℕ → Evaluated → Bool) (log : List Evaluated) → ((k : ℕ) (y : Evaluated) → Among y log → r k y ≡ false) → last_among p r log ≡ None
last_among-missing p r [] none = refl
last_among-missing p r (x ∷ older) none = by (last_among-missing p r older (λ k y among. none k y (inr among))) (same_task x.name.task p) where
  by : last_among p r older ≡ None → (t : Bool) → cond (t && r (suc (length older)) x) (Some x) (last_among p r older) ≡ None
  by ih true = rw (none (suc (length older)) x (inl refl)) ih
  by ih false = ih

-- one message more has arrived, which counts or not: the last one is the greater of the last one before and that message
pub last_among-arrival : (p : TaskRef) (c : Evaluated → Bool) (r : ℕ → Evaluated → Bool) (k : ℕ) (log : List Evaluated) → Rises p log
    → last_among p (λ j y. (c y && eqb k j) || r j y) log ≡ held_with p c (last_among p r log) (message log k)
last_among-arrival p c r k [] rises = refl
last_among-arrival p c r k (x ∷ older) rises =
    by (last_among-arrival p c r k older rises.1) (same_task x.name.task p) refl (eqb k (suc (length older))) refl (c x) refl (r (suc (length older)) x) where
      off : (a : Bool) → (a && false) ≡ false
      off true = refl
      off false = refl

      is_older : eqb k (suc (length older)) ≡ true → last_among p (λ j y. (c y && eqb k j) || r j y) older ≡ last_among p r older
      is_older e =
          last_among-agree p (λ j y. (c y && eqb k j) || r j y) r older
          (λ j y _ h.
          let apart : eqb k j ≡ false = ne_eqb k j (λ same. let at : k ≡ suc (length older) = eqb-true _ _ e in omega arith) in
          ap (λ b. (c y && b) || r j y) apart ∙ ap (λ b. b || r j y) (off (c y)))

      at_new : same_task x.name.task p ≡ true → (a : Bool) → Some x ≡ greater (cond a (Some x) (last_among p r older)) x
      at_new e true = by_self (precedes x.name x.name) where
        by_self : (b : Bool) → Some x ≡ cond b (Some x) (Some x)
        by_self true = refl
        by_self false = refl
      at_new e false = sym (greater-newest p r x older (rises.0 e))

      by : last_among p (λ j y. (c y && eqb k j) || r j y) older ≡ held_with p c (last_among p r older) (message older k)
          → (t : Bool) → same_task x.name.task p ≡ t → (b : Bool) → eqb k (suc (length older)) ≡ b → (m : Bool) → c x ≡ m → (a : Bool)
          → cond (t && ((m && b) || a)) (Some x) (last_among p (λ j y. (c y && eqb k j) || r j y) older)
          ≡ held_with p c (cond (t && a) (Some x) (last_among p r older)) (cond b (Some x) (message older k))
      by ih true e true f true g a = rw (e, g) (at_new e a)
      by ih true e true f false g true = rw (e, g) refl
      by ih true e true f false g false = rw (e, g) (is_older f)
      by ih true e false f true g true = sym (held-newest p c x older k (rises.0 e))
      by ih true e false f true g false = ih
      by ih true e false f false g true = sym (held-newest p c x older k (rises.0 e))
      by ih true e false f false g false = ih
      by ih false e true f m g a = rw e (is_older f)
      by ih false e false f m g a = ih
