-- Each entry of the log of a lawful history fits those before it.
use Rattle.std.proofs.Common.{◌≡◌, inl, inr, eqb, cond, ◌&&◌, ◌||◌, Bool, false, map, suc, ℕ, ◌+◌, ◌<◌, ◌≤◌, true, List, [], ◌∷◌, length, Option, Some, None, refl, ap, sym, ◌∙◌, subst, arith}
use Rattle.std.specs.Prelude.{MatchOption, slice_get, slice_index}
use Rattle.std.specs.Option.{option_map}
use Rattle.std.specs.List.{list_any, AllByRecursion}
use Rattle.std.proofs.lemmas.Bool.{false≢true, eqb-true}
use Rattle.std.proofs.lemmas.Option.{none-some, same_Some, slice_get_within}
use Rattle.declared_names.specs.declared.declarations.Kind.{Kind}
use Rattle.task_codes.specs.declared.task_ref.TaskRef.{TaskRef}
use Rattle.evaluation.specs.declared.field_input.FieldInput.{FieldInput}
use Rattle.evaluation.specs.declared.name.Name.{Name}
use Rattle.evaluation.specs.Heard.{greatest, is_addressed}
use Rattle.evaluation.specs.Names.{precedes}
use Rattle.evaluation.specs.Meaning.{Evaluated, evaluated}
use Rattle.evaluation.specs.Last.{same_task, last_number, from_of, take_of, takes_of}
use Rattle.world.specs.declared.event.Event.{Event}
use Rattle.world.specs.declared.event.Event.TheVariants.{Evaluate, Deliver, Restart, Hear}
use Rattle.world.specs.History.{Setting, is_deliver_of, heard_by, incarnation_of, number_of}
use Rattle.world.specs.Run.{IsLog, IsNextEvaluation, next_name, latest, state_before, has_reached}
use Rattle.lists.specs.Among.{Among}
use Rattle.book.specs.Fits.{last_in, told_of, present_in, name_from, IsKnown, IsUntorn, IsNotBack, IsOwnLatest, IsAddressed, IsMeantFor, NoneBelow, Fits, AllFit}
use Rattle.world.specs.Steps.Histories.Tasks.{same_task-true}
use Rattle.world.specs.Steps.Histories.Latest.{Rises, precedes-irreflexive}
use Rattle.world.specs.Steps.Histories.Names.{AllLawful, AllBefore-entry, incarnation-low, log-rises, named}
use Rattle.world.specs.Steps.Histories.Heard.{heard_of, heard-get, length-heard, heard_of-first, heard-is, heard-low, HasHeardWithin, heard-within, index-none, none-far, heard-many}
use Rattle.world.specs.Steps.Histories.Steps.{is_for, number-latest}
use Rattle.lists.proofs.Each.{Each-at, Each-from}
use Rattle.lists.proofs.Places.{index_at}
use Rattle.world.proofs.Consistency.Fitting.{last_among-entry, own-latest}
use Rattle.world.proofs.Consistency.NotBack.{takes-reach, takes-each}

-- the number after that of a task's last entry in the present incarnation is the next one
pub next-number : (s : Setting) (t : TaskRef) (h : List Event) (log : List Evaluated) → AllLawful s h → IsLog s h log → number_of t h + 1 ≡ last_number (last_in log t (incarnation_of s t.resource h)) + 1
next-number s t h log all is = ap (λ n. n + 1) (sym (number-latest s t h log all is) ∙ ap last_number (own-latest s t h log all is))

-- entries of one task and one name are one entry
pub one_name : (p : TaskRef) (log : List Evaluated) (y z : Evaluated) → Rises p log → Among y log → Among z log → same_task y.name.task p ≡ true → y.name ≡ z.name → y ≡ z
one_name p [] y z rises in_y in_z e same = elim in_y [ ]
one_name p (x ∷ older) y z rises (inl a) (inl b) e same = sym a ∙ b
one_name p (x ∷ older) y z rises (inr a) (inr b) e same = one_name p older y z rises.1 a b e same
one_name p (x ∷ older) y z rises (inl a) (inr b) e same =
    let lower = AllBefore-entry p x.name older z (rises.0 (rw a e)) b (rw (← same) e) in
    absurd (false≢true (sym (precedes-irreflexive z.name x.name lower) ∙ subst (λ n. precedes n z.name ≡ true) (sym (ap (λ (w : Evaluated). w.name) a ∙ same)) (subst (λ n. precedes z.name n ≡ true) (ap (λ (w : Evaluated). w.name) a ∙ same) lower)))
one_name p (x ∷ older) y z rises (inr a) (inl b) e same =
    let lower = AllBefore-entry p x.name older y (rises.0 (rw b (rw (← same) e))) a e in
    let at : x.name ≡ y.name = ap (λ (w : Evaluated). w.name) b ∙ sym same in
    absurd (false≢true (sym (precedes-irreflexive y.name x.name lower) ∙ subst (λ n. precedes n y.name ≡ true) (sym at) (subst (λ n. precedes y.name n ≡ true) at lower)))

-- the name of an entry of p, as a take gives it
pub taken_name : (p : TaskRef) (z : Evaluated) → same_task z.name.task p ≡ true → z.name ≡ name_from p (z.name.incarnation, z.name.number)
taken_name p z e = rw (← same_task-true z.name.task p e) refl

-- a take of the latest names an entry of the log, and has its image
pub known-latest : (s : Setting) (n : ℕ) (h : List Event) (log : List Evaluated) (q : TaskRef) (kinds : List Kind) → IsKnown log (take_of q kinds (latest s n h q log))
known-latest s n h log q kinds = by (latest s n h q log) (last_among-entry q (has_reached s n h) log) where
  by : (o : Option Evaluated) → MatchOption o (Unit {0}) (λ z. Among z log × (same_task z.name.task q ≡ true)) → IsKnown log (take_of q kinds o)
  by None w = tt
  by (Some z) w = (z, w.0, taken_name q z w.1)

pub untorn-latest : (s : Setting) (n : ℕ) (h : List Event) (log : List Evaluated) (q : TaskRef) (kinds : List Kind) → Rises q log → IsUntorn log (take_of q kinds (latest s n h q log))
untorn-latest s n h log q kinds rises = by (latest s n h q log) (last_among-entry q (has_reached s n h) log) where
  by : (o : Option Evaluated) → MatchOption o (Unit {0}) (λ z. Among z log × (same_task z.name.task q ≡ true)) → IsUntorn log (take_of q kinds o)
  by None w = tt
  by (Some z) w =
      Each-from _ log
      (λ y among e.
      let same : z.name ≡ y.name = taken_name q z w.1 ∙ sym e in
      ap (λ (v : Evaluated). v.outputs) (one_name q log z y rises w.0 among w.1 same))

-- the latest is addressed to the present incarnation
reached-addressed : (s : Setting) (n : ℕ) (h : List Event) (q : TaskRef) (log : List Evaluated) (z : Evaluated) → latest s n h q log ≡ Some z → is_for s n h z ≡ true
reached-addressed s n h q [] z e = absurd (none-some z e)
reached-addressed s n h q (x ∷ older) z e = by (same_task x.name.task q) (is_for s n h x) refl (eqb x.name.task.resource n || list_any (is_deliver_of (suc (length older)) n) h) e (reached-addressed s n h q older z) where
  by : (t a : Bool) → is_for s n h x ≡ a → (b : Bool) → cond (t && (a && b)) (Some x) (latest s n h q older) ≡ Some z → (latest s n h q older ≡ Some z → is_for s n h z ≡ true) → is_for s n h z ≡ true
  by true true g true f ih = subst (λ (y : Evaluated). is_for s n h y ≡ true) (same_Some x z f) g
  by true true g false f ih = ih f
  by true false g b f ih = ih f
  by false a g b f ih = ih f

pub addressed-latest : (s : Setting) (n : ℕ) (h : List Event) (log : List Evaluated) (q : TaskRef) (kinds : List Kind) → Rises q log → (name : Name) → name.task.resource ≡ n → name.incarnation ≡ incarnation_of s n h
    → MatchOption (take_of q kinds (latest s n h q log)).from (Unit {0}) (λ f. AllByRecursion (IsMeantFor (name_from q f) name) log)
addressed-latest s n h log q kinds rises name here now = by (latest s n h q log) refl (last_among-entry q (has_reached s n h) log) where
  by : (o : Option Evaluated) → latest s n h q log ≡ o → MatchOption o (Unit {0}) (λ z. Among z log × (same_task z.name.task q ≡ true)) → MatchOption (from_of o) (Unit {0}) (λ f. AllByRecursion (IsMeantFor (name_from q f) name) log)
  by None e w = tt
  by (Some z) e w =
      Each-from _ log
      (λ y among same.
      let is : z ≡ y = one_name q log z y rises w.0 among w.1 (taken_name q z w.1 ∙ sym same) in
      subst (λ r. is_addressed y r name.incarnation ≡ true) (sym here)
      (subst (λ i. is_addressed y n i ≡ true) (sym now) (subst (λ (v : Evaluated). is_for s n h v ≡ true) is (reached-addressed s n h q log z e))))

-- what an entry tells of a resource is no more than its present incarnation
told-low : (s : Setting) (n : ℕ) (h : List Event) (log : List Evaluated) → AllLawful s h → IsLog s h log → (y : Evaluated) → Among y log → told_of n y ≤ incarnation_of s n h
told-low s n h log all is y among = by (eqb y.name.task.resource n) refl where
  heard : (o : Option ℕ) → slice_get y.heard n ≡ o → slice_index y.heard n ≤ incarnation_of s n h
  heard None e = let none = index-none y.heard n e in omega (arith, none)
  heard (Some i) e = let low = heard-low s h log all is y among n i e in let at = index_at y.heard n i e in omega (arith, low, at)

  by : (b : Bool) → eqb y.name.task.resource n ≡ b → cond b y.name.incarnation (slice_index y.heard n) ≤ incarnation_of s n h
  by true e = subst (λ r. y.name.incarnation ≤ incarnation_of s r h) (eqb-true y.name.task.resource n e) (incarnation-low s h log is y among)
  by false e = heard (slice_get y.heard n) refl

greatest-low : (first most : ℕ) (n : ℕ) → first ≤ most → (ys : List Evaluated) → ((y : Evaluated) → Among y ys → told_of n y ≤ most) → greatest first (map (told_of n) ys) ≤ most
greatest-low first most n low [] each = low
greatest-low first most n low (y ∷ ys) each =
    let here = each y (inl refl) in
    let rest = greatest-low first most n low ys (λ z among. each z (inr among)) in
    omega (arith, here, rest)

present-low : (s : Setting) (n : ℕ) (h : List Event) (log : List Evaluated) → AllLawful s h → IsLog s h log → present_in s.first log n ≤ incarnation_of s n h
present-low s n h log all is = greatest-low (slice_index s.first n) (incarnation_of s n h) n (omega arith) log (told-low s n h log all is)

-- what has been heard isn't below the first incarnations
heard-first : (s : Setting) (n : ℕ) (h : List Event) → NoneBelow (heard_by s n h) s.first
heard-first s n h m = by (slice_get s.first m) refl where
  by : (o : Option ℕ) → slice_get s.first m ≡ o → slice_index s.first m ≤ slice_index (heard_by s n h) m
  by None e = let none = index-none s.first m e in omega (arith, none)
  by (Some x) e =
      let at = index_at (heard_by s n h) m (heard_of s n m h) (heard-get s n m h ∙ ap (option_map (λ _. heard_of s n m h)) e) in
      let low = heard_of-first s n m h in
      omega (arith, at, low)

-- nor below what earlier entries of this resource and incarnation have heard
heard-earlier : (s : Setting) (n : ℕ) (h : List Event) (y : Evaluated) → HasHeardWithin s n h y → length y.heard ≡ length s.first → y.name.task.resource ≡ n → y.name.incarnation ≡ incarnation_of s n h → NoneBelow (heard_by s n h) y.heard
heard-earlier s n h y within many here now m = by (slice_get y.heard m) refl (slice_get s.first m) refl where
  by : (o : Option ℕ) → slice_get y.heard m ≡ o → (r : Option ℕ) → slice_get s.first m ≡ r → slice_index y.heard m ≤ slice_index (heard_by s n h) m
  by None e r f = let none = index-none y.heard m e in omega (arith, none)
  by (Some i) e None f = let lt = slice_get_within y.heard m i e in let far = none-far s.first m f in absurd (omega (arith, lt, far, many))
  by (Some i) e (Some x) f =
      let at = index_at (heard_by s n h) m (heard_of s n m h) (heard-get s n m h ∙ ap (option_map (λ _. heard_of s n m h)) f) in
      let low = within here now m i e in
      let own = index_at y.heard m i e in
      omega (arith, at, low, own)

-- the next evaluation's resource exists, since it has heard of itself
next-exists : (s : Setting) (h : List Event) (log : List Evaluated) (k : ℕ) (t : TaskRef) (dt : ℕ) (inputs : List FieldInput) (x : Evaluated) → IsNextEvaluation s h log k t dt inputs x → t.resource < length s.first
next-exists s h log k t dt inputs x next =
    let lt = slice_get_within x.heard x.name.task.resource x.name.incarnation next.asked.whole.own_heard in
    let own = ap (λ (n : Name). n.task.resource) (named s h log k t dt inputs x next) in
    let long = ap length (heard-is s h log k t dt inputs x next) ∙ length-heard s t.resource h in
    omega (arith, lt, own, long)

-- the next evaluation fits the log
pub next-fits : (s : Setting) (h : List Event) (log : List Evaluated) (k : ℕ) (t : TaskRef) (dt : ℕ) (inputs : List FieldInput) (x : Evaluated) → AllLawful s h → IsLog s h log
    → IsNextEvaluation s h log k t dt inputs x → Fits s.first log x
next-fits s h log k t dt inputs x all is next =
    let n : ℕ = t.resource in
    let last : TaskRef → Option Evaluated = λ p. latest s t.resource h p log in
    let fits : Fits s.first log (evaluated k (next_name s t h) (heard_by s t.resource h) dt inputs (takes_of last next.code) (state_before s next.code t log (last t)) next.code x.outputs x.after) = record {
      numbered = record {
        exists = next-exists s h log k t dt inputs x next;
        not_below_present = present-low s n h log all is;
        next = next-number s t h log all is;
      };
      known = takes-each (IsKnown log) last (known-latest s n h log) next.code;
      untorn = takes-each (IsUntorn log) last (λ q kinds. untorn-latest s n h log q kinds (log-rises s q h log is)) next.code;
      not_back = takes-each (IsNotBack log (next_name s t h)) last (λ q kinds. λ _. takes-reach s n q h log all is) next.code;
      own_latest = takes-each (IsOwnLatest log (next_name s t h)) last (λ q kinds. λ e. ap from_of (subst (λ r. latest s r h q log ≡ last_in log q (incarnation_of s r h)) e (own-latest s q h log all is))) next.code;
      addressed = takes-each (IsAddressed log (next_name s t h)) last (λ q kinds. λ _. addressed-latest s n h log q kinds (log-rises s q h log is) (next_name s t h) refl refl) next.code;
      heard = record {
        many = length-heard s n h;
        not_below_first = heard-first s n h;
        not_below_earlier = Each-from _ log (λ y among here now. heard-earlier s n h y (Each-at _ log y (heard-within s n h log all is) among) (heard-many s h log is y among) here now);
      };
    } in
    subst (Fits s.first log) (sym next.asked.is) fits

pub log-fits : (s : Setting) (h : List Event) (log : List Evaluated) → AllLawful s h → IsLog s h log → AllFit s.first log
log-fits s [] [] all is = tt
log-fits s [] (x ∷ older) all is = absurd is
log-fits s (Deliver k n ∷ h) log all is = log-fits s h log all.1 is
log-fits s (Restart n ∷ h) log all is = log-fits s h log all.1 is
log-fits s (Hear n of incarnation ∷ h) log all is = log-fits s h log all.1 is
log-fits s (Evaluate k t dt inputs ∷ h) [] all is = absurd is
log-fits s (Evaluate k t dt inputs ∷ h) (x ∷ older) all is = (next-fits s h older k t dt inputs x all.1 is.0 is.1, log-fits s h older all.1 is.0)
