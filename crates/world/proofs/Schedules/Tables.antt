-- What the tables beside a schedule tell of the entries so far.
use Rattle.std.proofs.Common.{◌≡◌, ◌⊎◌, inl, inr, ◌↔◌, ℕ, zero, suc, ◌+◌, ◌<◌, ◌≤◌, Bool, true, false, cond, ◌&&◌, ◌||◌, List, [], ◌∷◌, ◌++◌, length, take, drop, get_or, Option, Some, None, refl, ap, sym, ◌∙◌, subst, arith, eqb, ltb, length-append}
use Rattle.std.proofs.Math.ListN.{set}
use Rattle.std.specs.Prelude.{reverse, slice_get, slice_index, is_some}
use Rattle.std.specs.Option.{option_map, option_and_then}
use Rattle.std.specs.List.{AllByRecursion, list_any, find}
use Rattle.std.proofs.lemmas.Bool.{false≢true, eqb-true, eq-eqb, cases_lt, cases_eq, lt-ltb, le-ltb, and_parts}
use Rattle.std.proofs.lemmas.List.{take_all, drop_more, length-reverse, length-take-le, length-set}
use Rattle.std.proofs.lemmas.Option.{none-some, same_Some, slice_get_within}
use Rattle.lists.proofs.Places.{slice_get-append, slice_get-set_same, slice_get-set_other}
use Rattle.task_codes.specs.declared.task_ref.TaskRef.{TaskRef}
use Rattle.evaluation.specs.declared.name.Name.{Name}
use Rattle.evaluation.specs.declared.take.Take.{Take}
use Rattle.evaluation.specs.Meaning.{Evaluated}
use Rattle.evaluation.specs.Last.{same_task, from_of}
use Rattle.book.specs.Book.{BookValue}
use Rattle.book.specs.Fits.{told_of, present_in, name_from, AllFit}
use Rattle.book.specs.Presents.{ArePresent, ArePresentWith}
use Rattle.world.specs.declared.schedule.last_takes.LastTake.{LastTake}
use Rattle.world.specs.declared.schedule.tables.Seen.{Seen}
use Rattle.world.specs.declared.schedule.tables.Tables.{Tables}
use Rattle.world.specs.Schedule.{is_from, message_of, taken_in, has_taken_from, last_taken, is_of_node}
use Rattle.world.specs.Steps.Tables.{before, is_of_resource, takes_from, if_in, is_of_producer, told_by, told_in, told_over, told_with, told_last, taken_in_incarnation, TellTakes, SeesMore, IsSeen, AreUnseen, Tells, IsAt}
use Rattle.world.specs.Steps.Histories.Tasks.{same_task-true, same_task-itself}
use Rattle.world.proofs.Schedules.Listing.{turned-more}
use Rattle.world.proofs.Schedules.Scheduling.{named-true, named-itself}

-- no entry of the resource is of a later incarnation than this one
abbrev IsLow : ℕ → ℕ → Evaluated → Type 0
IsLow n i y = y.name.task.resource ≡ n → y.name.incarnation ≤ i

all-low : (first : List ℕ) (n i : ℕ) (older : List Evaluated) → present_in first older n ≤ i → AllByRecursion (IsLow n i) older
all-low first n i [] up = tt
all-low first n i (y ∷ ys) up = (λ own. let told : told_of n y ≡ y.name.incarnation = ap (λ b. cond b y.name.incarnation (slice_index y.heard n)) (eq-eqb y.name.task.resource n own) in omega (arith, up, told), all-low first n i ys (omega (arith, up)))

-- A test of entries of resource n, with the incarnation i and without it: the newest entry that passes with it is the
-- newest that passes without it, if that is of this incarnation.
module _ (n i : ℕ) (f g : Evaluated → Bool) (same : (y : Evaluated) → f y ≡ (g y && eqb y.name.incarnation i)) (own : (y : Evaluated) → g y ≡ true → y.name.task.resource ≡ n) where
  passes : (y : Evaluated) (a b : Bool) → g y ≡ a → eqb y.name.incarnation i ≡ b → f y ≡ (a && b)
  passes y a b e h = same y ∙ ap (λ c. c && eqb y.name.incarnation i) e ∙ ap (λ c. a && c) h

  none-lower : (ys : List Evaluated) → AllByRecursion (λ (y : Evaluated). y.name.task.resource ≡ n → y.name.incarnation < i) ys → find f ys ≡ None
  none-lower [] low = refl
  none-lower (y ∷ ys) low = by (g y) refl (eqb y.name.incarnation i) refl (none-lower ys low.1) where
    by : (a : Bool) → g y ≡ a → (b : Bool) → eqb y.name.incarnation i ≡ b → find f ys ≡ None → cond (f y) (Some y) (find f ys) ≡ None
    by true e true h ih = let under = low.0 (own y e) in let at = eqb-true y.name.incarnation i h in absurd (omega (arith, under, at))
    by true e false h ih = ap (λ c. cond c (Some y) (find f ys)) (passes y true false e h) ∙ ih
    by false e b h ih = ap (λ c. cond c (Some y) (find f ys)) (passes y false b e h) ∙ ih

  newest-in : (first : List ℕ) (older : List Evaluated) → AllFit first older → AllByRecursion (IsLow n i) older → find f older ≡ if_in i (find g older)
  newest-in first [] fit low = refl
  newest-in first (x ∷ older) fit low = by (g x) refl (eqb x.name.incarnation i) refl (newest-in first older fit.1 low.1) where
    earlier : (y : Evaluated) → eqb x.name.incarnation i ≡ false → x.name.task.resource ≡ n → (y.name.task.resource ≡ x.name.task.resource → y.name.incarnation ≤ x.name.incarnation) → y.name.task.resource ≡ n → y.name.incarnation < i
    earlier y h here under at =
        let low_x = low.0 here in
        let low_y = under (at ∙ sym here) in
        let apart : x.name.incarnation ≡ i → ⊥ = λ e. false≢true (sym h ∙ eq-eqb x.name.incarnation i e) in
        omega (arith, low_x, low_y, apart)

    lower : eqb x.name.incarnation i ≡ false → x.name.task.resource ≡ n → (ys : List Evaluated) → AllByRecursion (IsLow x.name.task.resource x.name.incarnation) ys → AllByRecursion (λ (y : Evaluated). y.name.task.resource ≡ n → y.name.incarnation < i) ys
    lower h here [] all = tt
    lower h here (y ∷ ys) all = (earlier y h here all.0, lower h here ys all.1)

    by : (a : Bool) → g x ≡ a → (b : Bool) → eqb x.name.incarnation i ≡ b → find f older ≡ if_in i (find g older) → cond (f x) (Some x) (find f older) ≡ if_in i (cond a (Some x) (find g older))
    by true e true h ih = ap (λ c. cond c (Some x) (find f older)) (passes x true true e h) ∙ sym (ap (λ c. cond c (Some x) None) h)
    by true e false h ih =
        ap (λ c. cond c (Some x) (find f older)) (passes x true false e h)
        ∙ none-lower older (lower h (own x e) older (all-low first x.name.task.resource x.name.incarnation older fit.0.numbered.not_below_present))
        ∙ sym (ap (λ c. cond c (Some x) None) h)
    by false e b h ih = ap (λ c. cond c (Some x) (find f older)) (passes x false b e h) ∙ ih

-- the newest entry of a name's resource and incarnation is its resource's newest, if that is of its incarnation
node-newest : (first : List ℕ) (older : List Evaluated) (name : Name) → AllFit first older → AllByRecursion (IsLow name.task.resource name.incarnation) older → find (is_of_node name) older ≡ if_in name.incarnation (find (is_of_resource name.task.resource) older)
node-newest first older name fit low =
    newest-in name.task.resource name.incarnation (is_of_node name) (is_of_resource name.task.resource) (λ y. refl) (λ y e. eqb-true y.name.task.resource name.task.resource e) first older fit low

and-turned : (a b c : Bool) → (a && (b && c)) ≡ ((a && c) && b)
and-turned true true true = refl
and-turned true true false = refl
and-turned true false true = refl
and-turned true false false = refl
and-turned false b c = refl

-- what was taken last in an incarnation is what the newest taker took, if it is of this incarnation
last-told : (first : List ℕ) (older : List Evaluated) (name : Name) → AllFit first older → AllByRecursion (IsLow name.task.resource name.incarnation) older → (q : TaskRef) → taken_in_incarnation name.incarnation (told_last older name.task.resource q) ≡ last_taken older name q
last-told first older name fit low q = by (find (takes_from name.task.resource q) older) ∙ sym (ap (option_and_then (λ (y : Evaluated). taken_in q y.takes)) found) where
  found : find (has_taken_from name q) older ≡ if_in name.incarnation (find (takes_from name.task.resource q) older)
  found =
      newest-in name.task.resource name.incarnation (has_taken_from name q) (takes_from name.task.resource q)
      (λ y. and-turned (eqb y.name.task.resource name.task.resource) (eqb y.name.incarnation name.incarnation) (list_any (λ (u : Take). same_task u.producer q) y.takes))
      (λ y e. eqb-true y.name.task.resource name.task.resource (and_parts (eqb y.name.task.resource name.task.resource) (list_any (λ (u : Take). same_task u.producer q) y.takes) e).0) first older fit low

  some : (y : Evaluated) (b : Bool) → cond b (taken_in q y.takes) None ≡ option_and_then (λ (z : Evaluated). taken_in q z.takes) (cond b (Some y) None)
  some y true = refl
  some y false = refl

  by : (o : Option Evaluated) → taken_in_incarnation name.incarnation (option_map (λ (y : Evaluated). (y.name.incarnation, taken_in q y.takes)) o) ≡ option_and_then (λ (y : Evaluated). taken_in q y.takes) (if_in name.incarnation o)
  by None = refl
  by (Some y) = some y (eqb y.name.incarnation name.incarnation)

module _ (book : BookValue) (index : ℕ) (tables : Tables) (name : Name) (at : IsAt book index tables name) where
  low : AllByRecursion (IsLow name.task.resource name.incarnation) (before book.entries index)
  low = all-low book.first name.task.resource name.incarnation (before book.entries index) at.numbered.not_below_present

  pub present-inside : name.task.resource < length tables.present.items
  present-inside = let many = at.tells.present.sized in let exists = at.numbered.exists in omega (arith, many, exists)

  pub seen-inside : name.task.resource < length tables.seen.items
  seen-inside = let many = at.tells.many in let exists = at.numbered.exists in omega (arith, many, exists)

  -- the newest entry of the name's resource and incarnation
  pub newest-told : (s : Seen) → slice_get tables.seen.items name.task.resource ≡ Some s → if_in name.incarnation (option_and_then (λ k. slice_get book.entries k) s.newest) ≡ find (is_of_node name) (before book.entries index)
  newest-told s here = ap (if_in name.incarnation) (at.tells.seen name.task.resource s here).newest ∙ sym (node-newest book.first (before book.entries index) name at.fit low)

  -- what was taken last at the name's resource, in its incarnation
  pub takes-told : (s : Seen) → slice_get tables.seen.items name.task.resource ≡ Some s → TellTakes (before book.entries index) name s.taken.items
  takes-told s here = λ q. ap (taken_in_incarnation name.incarnation) ((at.tells.seen name.task.resource s here).taken q) ∙ last-told book.first (before book.entries index) name at.fit low q

-- the message of the name that stands at a place before this index
abbrev pub message_at : ℕ → Option ℕ → ℕ
message_at i None = 0
message_at i (Some k) = cond (ltb k i) (suc k) 0

-- with one entry more it is the same, but where the name stands there
message-kept : (i : ℕ) (o : Option ℕ) → (o ≡ Some i → ⊥) → message_at i o ≡ message_at (suc i) o
message-kept i None apart = refl
message-kept i (Some k) apart = by (cases_lt k i) (cases_eq k i) where
  by : (k < i) ⊎ (i ≤ k) → (k ≡ i) ⊎ (k ≡ i → ⊥) → cond (ltb k i) (suc k) 0 ≡ cond (ltb k (suc i)) (suc k) 0
  by (inl under) e = rw (lt-ltb k i under, lt-ltb k (suc i) (omega (arith, under))) refl
  by (inr over) (inl same) = absurd (apart (ap Some same))
  by (inr over) (inr differ) = rw (le-ltb k i over, le-ltb k (suc i) (omega (arith, over, differ))) refl

-- what stands within a list
entry-at : (es : List Evaluated) (k : ℕ) → k < length es → (x : Evaluated) × (slice_get es k ≡ Some x)
entry-at [] k within = absurd (omega (arith, within))
entry-at (y ∷ ys) zero within = (y, refl)
entry-at (y ∷ ys) (suc k) within = entry-at ys k (omega (arith, within))

-- the message of a name among the entries before an index, where this tells at which place of all an entry has it
pub message-before : (es : List Evaluated) (q : TaskRef) (f : ℕ × ℕ) (o : Option ℕ) → ((k : ℕ) → (o ≡ Some k) ↔ (option_map (λ (y : Evaluated). y.name) (slice_get es k) ≡ Some (name_from q f)))
    → (i : ℕ) → message_of (before es i) q f ≡ message_at i o
message-before es q f o places zero = none o where
  none : (p : Option ℕ) → 0 ≡ message_at zero p
  none None = refl
  none (Some k) = rw (le-ltb k zero (omega arith)) refl
message-before es q f o places (suc i) = by (cases_lt i (length es)) (message-before es q f o places i) where
  next : i + 1 ≡ suc i
  next = omega arith

  by : (i < length es) ⊎ (length es ≤ i) → message_of (before es i) q f ≡ message_at i o → message_of (before es (suc i)) q f ≡ message_at (suc i) o
  by (inr past) ih =
      ap (λ l. message_of (reverse l) q f) (take_all (suc i) es (omega (arith, past)) ∙ sym (take_all i es past)) ∙ ih
      ∙ message-kept i o (λ e. let found = (places i).0 e in gone found) where
        gone : option_map (λ (y : Evaluated). y.name) (slice_get es i) ≡ Some (name_from q f) → ⊥
        gone found = from (slice_get es i) refl found where
          from : (p : Option Evaluated) → slice_get es i ≡ p → option_map (λ (y : Evaluated). y.name) p ≡ Some (name_from q f) → ⊥
          from None at e = none-some (name_from q f) e
          from (Some y) at e = let within = slice_get_within es i y at in omega (arith, within, past)
  by (inl within) ih = let x = entry-at es i within in one x.0 x.1 where
    long : length (before es i) ≡ i
    long = length-reverse (take i es) ∙ length-take-le i es (omega (arith, within))

    here : (x : Evaluated) (b : Bool) → slice_get es i ≡ Some x → (same_task x.name.task q && is_from (from_of (Some x)) f) ≡ b → cond b (suc (length (before es i))) (message_of (before es i) q f) ≡ message_at (suc i) o
    here x true at e =
        let found : o ≡ Some i = (places i).1 (ap (option_map (λ (y : Evaluated). y.name)) at ∙ ap Some (named-true x.name q f e)) in
        ap suc long ∙ sym (ap (message_at (suc i)) found ∙ ap (λ c. cond c (suc i) 0) (lt-ltb i (suc i) (omega arith)))
    here x false at e =
        ih ∙ message-kept i o (λ found.
        let named : x.name ≡ name_from q f = same_Some x.name (name_from q f) (sym (ap (option_map (λ (y : Evaluated). y.name)) at) ∙ (places i).0 found) in
        false≢true (sym e ∙ ap (λ (n : Name). same_task n.task q && is_from (Some (n.incarnation, n.number)) f) named ∙ named-itself q f))

    one : (x : Evaluated) → slice_get es i ≡ Some x → message_of (before es (suc i)) q f ≡ message_at (suc i) o
    one x at =
        ap (λ l. message_of l q f) (ap (before es) (sym next) ∙ turned-more es i x at) ∙ here x (same_task x.name.task q && is_from (from_of (Some x)) f) at refl

same-turned : (t u : TaskRef) → same_task t u ≡ true → (q : TaskRef) → same_task t q ≡ same_task u q
same-turned t u e q = ap (λ r. same_task r q) (same_task-true t u e)

-- a row in the place of its producer's
pub told-set : (rows : List LastTake) (i : ℕ) (d row : LastTake) → i < length rows → same_task (get_or rows i d).producer row.producer ≡ true
    → ((k : ℕ) → k < i → same_task (get_or rows k d).producer row.producer ≡ false) → (q : TaskRef) → told_in (set rows i row) q ≡ cond (same_task row.producer q) (told_by row) (told_in rows q)
told-set [] i d row within own first q = absurd (omega (arith, within))
told-set (r ∷ rs) zero d row within own first q = by (same_task row.producer q) refl where
  by : (b : Bool) → same_task row.producer q ≡ b → option_and_then told_by (cond b (Some row) (find (is_of_producer q) rs)) ≡ cond b (told_by row) (option_and_then told_by (cond (same_task r.producer q) (Some r) (find (is_of_producer q) rs)))
  by true e = refl
  by false e = ap (λ b. option_and_then told_by (cond b (Some r) (find (is_of_producer q) rs))) (sym (same-turned r.producer row.producer own q ∙ e))
told-set (r ∷ rs) (suc i) d row within own first q =
    by (same_task r.producer q) refl (same_task row.producer q) refl (told-set rs i d row (omega (arith, within)) own (λ k h. first (suc k) (omega (arith, h))) q) where
      by : (a : Bool) → same_task r.producer q ≡ a → (b : Bool) → same_task row.producer q ≡ b
          → told_in (set rs i row) q ≡ cond b (told_by row) (told_in rs q)
          → option_and_then told_by (cond a (Some r) (find (is_of_producer q) (set rs i row))) ≡ cond b (told_by row) (option_and_then told_by (cond a (Some r) (find (is_of_producer q) rs)))
      by true e true h ih = absurd (false≢true (sym (first zero (omega arith)) ∙ same-turned r.producer q e row.producer ∙ ap (λ t. same_task t row.producer) (sym (same_task-true row.producer q h)) ∙ same_task-itself row.producer))
      by true e false h ih = refl
      by false e b h ih = ih

-- a row of a producer that had none
pub told-push : (rows : List LastTake) (row : LastTake) → ((k : ℕ) (d : LastTake) → k < length rows → same_task (get_or rows k d).producer row.producer ≡ false) → (q : TaskRef)
    → told_in (rows ++ row ∷ []) q ≡ cond (same_task row.producer q) (told_by row) (told_in rows q)
told-push [] row none q = by (same_task row.producer q) where
  by : (b : Bool) → option_and_then told_by (cond b (Some row) None) ≡ cond b (told_by row) None
  by true = refl
  by false = refl
told-push (r ∷ rs) row none q =
    by (same_task r.producer q) refl (same_task row.producer q) refl (told-push rs row (λ k d h. none (suc k) d (omega (arith, h))) q) where
      by : (a : Bool) → same_task r.producer q ≡ a → (b : Bool) → same_task row.producer q ≡ b
          → told_in (rs ++ row ∷ []) q ≡ cond b (told_by row) (told_in rs q)
          → option_and_then told_by (cond a (Some r) (find (is_of_producer q) (rs ++ row ∷ []))) ≡ cond b (told_by row) (option_and_then told_by (cond a (Some r) (find (is_of_producer q) rs)))
      by true e true h ih = absurd (false≢true (sym (none zero r (omega arith)) ∙ same-turned r.producer q e row.producer ∙ ap (λ t. same_task t row.producer) (sym (same_task-true row.producer q h)) ∙ same_task-itself row.producer))
      by true e false h ih = refl
      by false e b h ih = ih

-- one take more, from the last to the first
pub told-more : (i : ℕ) (takes : List Take) (k : ℕ) (u : Take) → k < length takes → get_or takes k u ≡ u → (q : TaskRef) (old : Option (ℕ × Option (ℕ × ℕ)))
    → told_with i (drop k takes) q old ≡ cond (same_task u.producer q) (Some (i, u.from)) (told_with i (drop (k + 1) takes) q old)
told-more i takes k u within at q old = ap (λ us. told_with i us q old) (drop_more takes k u within ∙ ap (λ v. v ∷ drop (k + 1) takes) at) ∙ by (same_task u.producer q) where
  by : (b : Bool) → told_over i (cond b (Some u) (find (λ (v : Take). same_task v.producer q) (drop (k + 1) takes))) old ≡ cond b (Some (i, u.from)) (told_with i (drop (k + 1) takes) q old)
  by true = refl
  by false = refl

-- takes with one from a producer
any-found : {X : Type 0} (p : X → Bool) (xs : List X) → list_any p xs ≡ is_some (find p xs)
any-found p [] = refl
any-found p (x ∷ xs) = by (p x) (any-found p xs) where
  by : (b : Bool) → list_any p xs ≡ is_some (find p xs) → (b || list_any p xs) ≡ is_some (cond b (Some x) (find p xs))
  by true ih = refl
  by false ih = ih

-- what is told last with one entry more
last-more : (x : Evaluated) (older : List Evaluated) (n : ℕ) (q : TaskRef) → told_last (x ∷ older) n q ≡ cond (eqb x.name.task.resource n) (told_with x.name.incarnation x.takes q (told_last older n q)) (told_last older n q)
last-more x older n q = by (eqb x.name.task.resource n) (find (λ (u : Take). same_task u.producer q) x.takes) refl where
  by : (a : Bool) (o : Option Take) → find (λ (u : Take). same_task u.producer q) x.takes ≡ o
      → option_map (λ (y : Evaluated). (y.name.incarnation, taken_in q y.takes)) (cond (a && list_any (λ (u : Take). same_task u.producer q) x.takes) (Some x) (find (takes_from n q) older))
      ≡ cond a (told_over x.name.incarnation (find (λ (u : Take). same_task u.producer q) x.takes) (told_last older n q)) (told_last older n q)
  by true None e = rw (any-found (λ (u : Take). same_task u.producer q) x.takes, e) refl
  by true (Some u) e =
      let taken : taken_in q x.takes ≡ u.from = ap (option_and_then (λ (v : Take). v.from)) e in
      rw (any-found (λ (u : Take). same_task u.producer q) x.takes, e) (ap (λ o. Some (x.name.incarnation, o)) taken)
  by false o e = refl

-- nothing is seen before the first entry
pub unseen-tell : (book : BookValue) (present : List ℕ) (seen : List Seen) → AreUnseen (length book.first) seen → (n : ℕ) (s : Seen) → slice_get seen n ≡ Some s → IsSeen book.entries (before book.entries 0) n s
unseen-tell book present seen none n s at =
    let is = none.each n s at in
    record { newest = ap (option_and_then (λ k. slice_get book.entries k)) is.0; taken = λ q. ap (λ rows. told_in rows q) is.1 }

-- one more of which nothing is seen
pub unseen-more : (n : ℕ) (seen : List Seen) (s : Seen) → s.newest ≡ None → s.taken.items ≡ [] → AreUnseen n seen → AreUnseen (n + 1) (seen ++ s ∷ [])
unseen-more n seen s newest taken none = record { many = let many = none.many in omega (arith, many, length-append seen (s ∷ [])); each = each } where
  each : (k : ℕ) (r : Seen) → slice_get (seen ++ s ∷ []) k ≡ Some r → (r.newest ≡ None) × (r.taken.items ≡ [])
  each k r e = by (slice_get-append seen (s ∷ []) k) where
    is : (j : ℕ) → slice_get (s ∷ []) j ≡ Some r → s ≡ r
    is zero f = same_Some s r f
    is (suc j) f = absurd (none-some r f)

    by : ((k < length seen) × (slice_get (seen ++ s ∷ []) k ≡ slice_get seen k)) ⊎ ((j : ℕ) × (k ≡ length seen + j) × (slice_get (seen ++ s ∷ []) k ≡ slice_get (s ∷ []) j)) → (r.newest ≡ None) × (r.taken.items ≡ [])
    by (inl front) = none.each k r (sym front.1 ∙ e)
    by (inr back) =
        let same = is back.0 (sym back.2 ∙ e) in
        (ap (λ (v : Seen). v.newest) (sym same) ∙ newest, ap (λ (v : Seen). v.taken.items) (sym same) ∙ taken)

-- the tables tell of one entry more
pub tells-more : (book : BookValue) (index : ℕ) (old : Tables) (present : List ℕ) (seen : List Seen) (x : Evaluated) (s new : Seen) → slice_get book.entries index ≡ Some x → Tells book index old → ArePresentWith x old.present.items present
    → slice_get old.seen.items x.name.task.resource ≡ Some s → SeesMore s new x.name x.takes index → seen ≡ set old.seen.items x.name.task.resource new
    → (tables : Tables) → tables.present.items ≡ present → tables.seen.items ≡ seen → Tells book (index + 1) tables
tells-more book index old present seen x s new at tells up here more changed tables now_present now_seen =
    record {
      present = subst (λ ps. ArePresent book.first (before book.entries (index + 1)) ps) (sym now_present) (subst (λ l. ArePresent book.first l present) (sym turned) (up book.first (before book.entries index) tells.present));
      many = ap length (now_seen ∙ changed) ∙ length-set old.seen.items x.name.task.resource new ∙ tells.many;
      seen = λ n t e. subst (λ l. IsSeen book.entries l n t) (sym turned) (each n t (ap (λ l. slice_get l n) (sym (now_seen ∙ changed)) ∙ e));
    } where
      turned : before book.entries (index + 1) ≡ x ∷ before book.entries index
      turned = turned-more book.entries index x at

      r : ℕ
      r = x.name.task.resource

      mine : (n : ℕ) → eqb r n ≡ true → IsSeen book.entries (x ∷ before book.entries index) n new
      mine n e =
          let was : IsSeen book.entries (before book.entries index) n s = tells.seen n s (subst (λ m. slice_get old.seen.items m ≡ Some s) (eqb-true r n e) here) in
          record {
            newest = ap (option_and_then (λ k. slice_get book.entries k)) more.newest ∙ at ∙ sym (ap (λ b. cond b (Some x) (find (is_of_resource n) (before book.entries index))) e);
            taken = λ q. more.taken q ∙ ap (told_with x.name.incarnation x.takes q) (was.taken q)
                ∙ sym (last-more x (before book.entries index) n q ∙ ap (λ b. cond b (told_with x.name.incarnation x.takes q (told_last (before book.entries index) n q)) (told_last (before book.entries index) n q)) e);
          }

      other : (n : ℕ) (t : Seen) → eqb r n ≡ false → IsSeen book.entries (before book.entries index) n t → IsSeen book.entries (x ∷ before book.entries index) n t
      other n t e was =
          record {
            newest = was.newest ∙ sym (ap (λ b. cond b (Some x) (find (is_of_resource n) (before book.entries index))) e);
            taken = λ q. was.taken q
                ∙ sym (last-more x (before book.entries index) n q ∙ ap (λ b. cond b (told_with x.name.incarnation x.takes q (told_last (before book.entries index) n q)) (told_last (before book.entries index) n q)) e);
          }

      each : (n : ℕ) (t : Seen) → slice_get (set old.seen.items r new) n ≡ Some t → IsSeen book.entries (x ∷ before book.entries index) n t
      each n t e = by (eqb r n) refl where
        by : (b : Bool) → eqb r n ≡ b → IsSeen book.entries (x ∷ before book.entries index) n t
        by true f =
            let same : new ≡ t = same_Some new t (sym (slice_get-set_same old.seen.items r new (slice_get_within old.seen.items r s here)) ∙ ap (slice_get (set old.seen.items r new)) (eqb-true r n f) ∙ e) in
            subst (λ v. IsSeen book.entries (x ∷ before book.entries index) n v) same (mine n f)
        by false f =
            other n t f (tells.seen n t (sym (slice_get-set_other old.seen.items r n new (λ g. false≢true (sym f ∙ eq-eqb r n (sym g)))) ∙ e))
