-- Where each entry fits those before it, takes that aren't of nothing never fall, over all incarnations of a resource.
use Rattle.std.proofs.Common.{◌≡◌, ◌⊎◌, arith, inl, inr, ℕ, ◌<◌, ◌≤◌, Bool, true, false, cond, ◌&&◌, List, [], ◌∷◌, Option, Some, None, refl, ap, sym, ◌∙◌, subst, eqb}
use Rattle.std.specs.Prelude.{slice_get, slice_index, MatchOption, ◌≢◌}
use Rattle.std.proofs.lemmas.Bool.{false≢true, eqb-true, ne_eqb, cases_lt, cases_eq}
use Rattle.std.proofs.lemmas.Bool.Decides.{nat_tests}
use Rattle.std.proofs.lemmas.Option.{none-some, same_Some}
use Rattle.std.specs.List.{AllByRecursion}
use Rattle.lists.specs.Among.{Among}
use Rattle.lists.proofs.Each.{Each-at, Each-from}
use Rattle.lists.proofs.Places.{index_at}
use Rattle.task_codes.specs.declared.task_ref.TaskRef.{TaskRef}
use Rattle.evaluation.specs.declared.name.Name.{Name}
use Rattle.evaluation.specs.declared.take.Take.{Take}
use Rattle.evaluation.specs.Names.{precedes}
use Rattle.evaluation.specs.Meaning.{Evaluated}
use Rattle.evaluation.specs.Heard.{is_number, is_addressed}
use Rattle.evaluation.specs.Last.{same_task, last_number, from_of}
use Rattle.book.specs.Fits.{last_in, told_of, name_from, is_below, IsKnown, IsNotBack, IsOwnLatest, IsAddressed, IsMeantFor, IsNotFallen, Fits, AllFit, NeverFall}
use Rattle.book.proofs.Deciding.{last-greatest}
use Rattle.book.proofs.Presents.{lows, present-told, told-own}

-- what an entry is said to take
taken : (q : TaskRef) (older : List Evaluated) (t : Take) (f : ℕ × ℕ) → t.producer ≡ q → t.from ≡ Some f → IsKnown older t → (y : Evaluated) × Among y older × (y.name ≡ name_from q f)
taken q older t f of from known =
    subst (λ p. (y : Evaluated) × Among y older × (y.name ≡ name_from p f)) of
    (subst (λ o. MatchOption o (Unit {0}) (λ f. (y : Evaluated) × Among y older × (y.name ≡ name_from t.producer f))) from known)

rises : (a b : Name) → a.incarnation ≤ b.incarnation → (a.incarnation ≡ b.incarnation → a.number < b.number) → precedes b a ≡ true → ⊥
rises a b low next h = absurd (grind (arith, nat_tests))

-- no earlier entry of a task is above a later one
not-above : (first : List ℕ) (older : List Evaluated) (v z : Evaluated) → AllFit first older → Fits first older v → Among z older → z.name.task ≡ v.name.task → precedes v.name z.name ≡ true → ⊥
not-above first older v z all fits among same =
    rises z.name v.name
    (Each-at _ older z (lows first older v.name fits.numbered) among (ap (λ (t : TaskRef). t.resource) same))
    (λ now.
    let low = Each-at _ older z (last-greatest first older all v.name.task v.name.incarnation) among same now in
    let next = fits.numbered.next in
    omega (arith, low, next))

-- an entry x takes of a task what is above an entry w of that task; then w tells of no later incarnation of x's resource than x's
not-ahead : (first : List ℕ) (log : List Evaluated) → AllFit first log → (x w : Evaluated) → Among x log → Among w log → (t : Take) (f : ℕ × ℕ) → Among t x.takes → t.producer ≡ w.name.task → t.from ≡ Some f
    → precedes w.name (name_from t.producer f) ≡ true → told_of x.name.task.resource w ≤ x.name.incarnation
not-ahead first [] all x w in_x in_w t f among of from above = elim in_x [ ]
not-ahead first (v ∷ rest) all x w (inr in_x) (inr in_w) t f among of from above = not-ahead first rest all.1 x w in_x in_w t f among of from above
not-ahead first (v ∷ rest) all x w (inl is_x) (inr in_w) t f among of from above =
    subst (λ u. told_of u.name.task.resource w ≤ u.name.incarnation) is_x
    (let told = Each-at _ rest w (present-told first rest v.name.task.resource) in_w in
    let low = all.0.numbered.not_below_present in
    omega (arith, told, low))
not-ahead first (v ∷ rest) all x w (inl is_x) (inl is_w) t f among of from above =
    let same : x ≡ w = sym is_x ∙ is_w in
    subst (λ u. told_of x.name.task.resource u ≤ x.name.incarnation) same (let told = told-own x.name.task.resource x refl in omega (arith, told))
not-ahead first (v ∷ rest) all x w (inr in_x) (inl is_w) t f among of from above =
    let z = within rest all.1 in_x in
    absurd (not-above first rest v z.0 all.1 all.0 z.1 (ap (λ (n : Name). n.task) z.2 ∙ of ∙ sym (ap (λ (y : Evaluated). y.name.task) is_w))
    (subst (λ n. precedes v.name n ≡ true) (sym z.2) (subst (λ (y : Evaluated). precedes y.name (name_from t.producer f) ≡ true) (sym is_w) above))) where
      within : (log : List Evaluated) → AllFit first log → Among x log → (z : Evaluated) × Among z log × (z.name ≡ name_from t.producer f)
      within [] all among_x = elim among_x [ ]
      within (y ∷ ys) all (inr later) = let z = within ys all.1 later in (z.0, inr z.1, z.2)
      within (y ∷ ys) all (inl same) =
          let known = Each-at (IsKnown ys) x.takes t (subst (λ u. AllByRecursion (IsKnown ys) u.takes) same all.0.known) among in
          let z = taken t.producer ys t f refl from known in
          (z.0, inr z.1, z.2)

-- the last entry of a task in an incarnation is of it
last-of : (older : List Evaluated) (t : TaskRef) (i : ℕ) (f : ℕ × ℕ) → Some f ≡ from_of (last_in older t i) → (f.0 ≡ i) × (f.1 ≡ last_number (last_in older t i))
last-of [] t i f e = absurd (none-some f (sym e))
last-of (x ∷ older) t i f e = by (same_task x.name.task t) (eqb x.name.incarnation i) refl e (last-of older t i f) where
  by : (a b : Bool) → eqb x.name.incarnation i ≡ b → Some f ≡ from_of (cond (a && b) (Some x) (last_in older t i)) → (Some f ≡ from_of (last_in older t i) → (f.0 ≡ i) × (f.1 ≡ last_number (last_in older t i)))
      → (f.0 ≡ i) × (f.1 ≡ last_number (cond (a && b) (Some x) (last_in older t i)))
  by true true g h ih = let same = same_Some f (x.name.incarnation, x.name.number) h in (ap (λ p. p.0) same ∙ eqb-true x.name.incarnation i g, ap (λ p. p.1) same)
  by true false g h ih = ih h
  by false b g h ih = ih h

-- an own take of an entry is of the entry's incarnation
own-of : (first : List ℕ) (log : List Evaluated) → AllFit first log → (x : Evaluated) → Among x log → (t : Take) (f : ℕ × ℕ) → Among t x.takes → t.producer.resource ≡ x.name.task.resource → t.from ≡ Some f → f.0 ≡ x.name.incarnation
own-of first [] all x in_x t f among own from = elim in_x [ ]
own-of first (v ∷ rest) all x (inr later) t f among own from = own-of first rest all.1 x later t f among own from
own-of first (v ∷ rest) all x (inl same) t f among own from =
    (last-of rest t.producer x.name.incarnation f
    (sym from ∙ Each-at (IsOwnLatest rest x.name) x.takes t (subst (λ u. AllByRecursion (IsOwnLatest rest u.name) u.takes) same all.0.own_latest) among own)).0

-- an entry names what it takes
names-of : (first : List ℕ) (log : List Evaluated) → AllFit first log → (x : Evaluated) → Among x log → (t : Take) (f : ℕ × ℕ) → Among t x.takes → t.from ≡ Some f → (z : Evaluated) × Among z log × (z.name ≡ name_from t.producer f)
names-of first [] all x in_x t f among from = elim in_x [ ]
names-of first (v ∷ rest) all x (inr later) t f among from = let z = names-of first rest all.1 x later t f among from in (z.0, inr z.1, z.2)
names-of first (v ∷ rest) all x (inl same) t f among from =
    let known = Each-at (IsKnown rest) x.takes t (subst (λ u. AllByRecursion (IsKnown rest) u.takes) same all.0.known) among in
    let z = taken t.producer rest t f refl from known in
    (z.0, inr z.1, z.2)

number-of : (n i : ℕ) (o : Option ℕ) → is_number i o ≡ true → o ≡ Some i
number-of n i None e = absurd (false≢true e)
number-of n i (Some m) e = ap (λ (k : ℕ). Some k) (eqb-true m i e)

not-below : (g f : ℕ × ℕ) → f.0 ≤ g.0 → (f.0 ≡ g.0 → f.1 ≤ g.1) → is_below (Some g) (Some f) ≡ false
not-below g f low number = grind (arith, nat_tests)

decided : (b : Bool) → (b ≡ true → ⊥) → b ≡ false
decided true h = absurd (h refl)
decided false h = refl

module _ (first : List ℕ) (older : List Evaluated) (y x : Evaluated) (u t : Take) (g f : ℕ × ℕ) (all : AllFit first older) (fits : Fits first older y) (in_x : Among x older) (in_u : Among u y.takes) (in_t : Among t x.takes)
    (here : x.name.task.resource ≡ y.name.task.resource) (of : t.producer ≡ u.producer) (from_u : u.from ≡ Some g) (from_t : t.from ≡ Some f) where
  low : x.name.incarnation ≤ y.name.incarnation
  low = Each-at _ older x (lows first older y.name fits.numbered) in_x here

  -- of the own resource
  own : u.producer.resource ≡ y.name.task.resource → is_below (Some g) (Some f) ≡ false
  own is_own =
      let last = last-of older u.producer y.name.incarnation g (sym from_u ∙ Each-at (IsOwnLatest older y.name) y.takes u fits.own_latest in_u is_own) in
      let now : f.0 ≡ x.name.incarnation = own-of first older all x in_x t f in_t (ap (λ (p : TaskRef). p.resource) of ∙ is_own ∙ sym here) from_t in
      let z = names-of first older all x in_x t f in_t from_t in
      not-below g f (let at = last.0 in omega (arith, now, at, low))
      (λ same.
      let least = Each-at _ older z.0 (last-greatest first older all u.producer y.name.incarnation) z.1 (ap (λ (n : Name). n.task) z.2 ∙ of) (ap (λ (n : Name). n.incarnation) z.2 ∙ same ∙ last.0) in
      let number : z.0.name.number ≡ f.1 = ap (λ (n : Name). n.number) z.2 in
      let at = last.1 in
      omega (arith, least, number, at))

  -- of another resource, taken in an earlier incarnation
  earlier : (u.producer.resource ≡ y.name.task.resource → ⊥) → x.name.incarnation < y.name.incarnation → is_below (Some g) (Some f) ≡ true → ⊥
  earlier away before below =
      let w = taken u.producer older u g refl from_u (Each-at (IsKnown older) y.takes u fits.known in_u) in
      let addressed : is_addressed w.0 y.name.task.resource y.name.incarnation ≡ true =
      Each-at (IsMeantFor (name_from u.producer g) y.name) older w.0
      (subst (λ o. MatchOption o (Unit {0}) (λ f. AllByRecursion (IsMeantFor (name_from u.producer f) y.name) older)) from_u (Each-at (IsAddressed older y.name) y.takes u fits.addressed in_u away))
      w.1 w.2 in
      let heard : slice_index w.0.heard y.name.task.resource ≡ y.name.incarnation = index_at w.0.heard y.name.task.resource y.name.incarnation (number-of y.name.task.resource y.name.incarnation (slice_get w.0.heard y.name.task.resource) addressed) in
      let apart : w.0.name.task.resource ≢ x.name.task.resource = (λ e. away (sym (ap (λ (n : Name). n.task.resource) w.2) ∙ e ∙ here)) in
      let told : told_of x.name.task.resource w.0 ≤ x.name.incarnation =
      not-ahead first older all x w.0 in_x w.1 t f in_t (of ∙ sym (ap (λ (n : Name). n.task) w.2)) from_t
      (subst (λ n. precedes n (name_from t.producer f) ≡ true) (sym w.2) below) in
      let is : told_of x.name.task.resource w.0 ≡ slice_index w.0.heard x.name.task.resource = ap (λ b. cond b w.0.name.incarnation (slice_index w.0.heard x.name.task.resource)) (ne_eqb w.0.name.task.resource x.name.task.resource apart) in
      let at : slice_index w.0.heard x.name.task.resource ≡ y.name.incarnation = ap (slice_index w.0.heard) here ∙ heard in
      omega (arith, told, is, at, before)

  kept : is_below (Some g) (Some f) ≡ false
  kept = by (cases_eq u.producer.resource y.name.task.resource) (cases_lt x.name.incarnation y.name.incarnation) where
    by : (u.producer.resource ≡ y.name.task.resource) ⊎ (u.producer.resource ≢ y.name.task.resource) → (x.name.incarnation < y.name.incarnation) ⊎ (y.name.incarnation ≤ x.name.incarnation) → is_below (Some g) (Some f) ≡ false
    by (inl is_own) c = own is_own
    by (inr away) (inl before) = decided (is_below (Some g) (Some f)) (earlier away before)
    by (inr away) (inr late) =
        subst (λ o. is_below o (Some f) ≡ false) from_u
        (subst (λ o. is_below u.from o ≡ false) from_t
        (Each-at _ x.takes t (Each-at _ older x (Each-at (IsNotBack older y.name) y.takes u fits.not_back in_u away) in_x here (omega (arith, late, low))) in_t of))

-- the takes of an entry that fits are below no earlier ones of its resource
never-back : (first : List ℕ) (older : List Evaluated) (y : Evaluated) → AllFit first older → Fits first older y → AllByRecursion (IsNotFallen older y.name.task.resource) y.takes
never-back first older y all fits =
    Each-from _ y.takes (λ u in_u. λ some. Each-from _ older (λ x in_x. λ here. Each-from _ x.takes (λ t in_t. λ of. by u t x in_u in_x in_t here of u.from refl some t.from refl))) where
      by : (u t : Take) (x : Evaluated) → Among u y.takes → Among x older → Among t x.takes → x.name.task.resource ≡ y.name.task.resource → t.producer ≡ u.producer
          → (o : Option (ℕ × ℕ)) → u.from ≡ o → u.from ≢ None → (p : Option (ℕ × ℕ)) → t.from ≡ p → is_below u.from t.from ≡ false
      by u t x in_u in_x in_t here of None e some p k = absurd (some e)
      by u t x in_u in_x in_t here of (Some g) e some None k = subst (λ o. is_below u.from o ≡ false) (sym k) refl
      by u t x in_u in_x in_t here of (Some g) e some (Some f) k =
          subst (λ o. is_below o t.from ≡ false) (sym e)
          (subst (λ o. is_below (Some g) o ≡ false) (sym k) (kept first older y x u t g f all fits in_x in_u in_t here of e k))

pub never-fall : (first : List ℕ) (log : List Evaluated) → AllFit first log → NeverFall log
never-fall first [] all = tt
never-fall first (x ∷ older) all = (never-back first older x all.1 all.0, never-fall first older all.1)
