-- Every log of a run is consistent, by the places of its entries.
use Rattle.std.proofs.Common.{◌≡◌, ◌⊎◌, inl, inr, ℕ, suc, ◌<◌, ◌≤◌, ltb, Bool, true, false, cond, List, [], ◌∷◌, length, Option, Some, None, refl, ap, sym, ◌∙◌, subst, arith, eqb}
use Rattle.std.specs.Prelude.{MatchOption, reverse, slice_get}
use Rattle.std.specs.Option.{option_map, option_and_then}
use Rattle.std.proofs.lemmas.Bool.{eq-eqb, ne_eqb, eqb-true, false≢true, ltb-true, ltb-false}
use Rattle.std.proofs.lemmas.Option.{none-some, same_Some, slice_get-map, slice_get_within}
use Rattle.lists.proofs.Places.{element_at}
use Rattle.std_blocks.specs.declared.value.Value.{Value}
use Rattle.declared_names.specs.Kinds.{value_first}
use Rattle.task_codes.specs.declared.binding.Binding.{Binding}
use Rattle.task_codes.specs.declared.task_ref.TaskRef.{TaskRef}
use Rattle.plant.specs.PlantValue.{PlantValue, code_at}
use Rattle.task_codes.specs.CodeValue.{CodeValue, expected_at, source_kind}
use Rattle.evaluation.specs.declared.field_input.FieldInput.{FieldInput}
use Rattle.evaluation.specs.declared.name.Name.{Name}
use Rattle.evaluation.specs.declared.take.Take.{Take}
use Rattle.evaluation.specs.Names.{precedes}
use Rattle.evaluation.specs.Takes.{initial_image, IsTakeOf}
use Rattle.evaluation.specs.Meaning.{Evaluated, IsMeant, IsWhole, given}
use Rattle.evaluation.specs.Last.{same_task, from_of, image_of, takes_of}
use Rattle.world.specs.declared.event.Event.{Event}
use Rattle.world.specs.declared.event.Event.TheVariants.{Evaluate, Deliver, Restart, Hear}
use Rattle.world.specs.History.{Setting, history_of}
use Rattle.world.specs.Run.{IsLog, IsRun, IsNextEvaluation, next_name, latest, message, has_reached}
use Rattle.std.specs.List.{AllByRecursion}
use Rattle.lists.specs.Among.{Among}
use Rattle.book.specs.Fits.{name_from, is_below, IsNotFallenFrom, IsNotFallen, NeverFall}
use Rattle.book.specs.Laws.{TakesNeverFall}
use Rattle.world.specs.Consistent.{IsBoundTo, HaveValuesOf, AreInitial, AreTakenFrom, TakesOnly, TakesOneEntry, IsPlace, IsConsistent}
use Rattle.world.specs.Steps.Histories.Tasks.{same_task-true, same_task-itself}
use Rattle.world.specs.Steps.Histories.Latest.{Rises}
use Rattle.world.specs.Steps.Histories.Names.{AllLawful, AllLawful-after, log-rises, named}
use Rattle.world.proofs.Histories.Pairs.{message-within, rises-messages}
use Rattle.lists.proofs.Each.{Each-at, Each-from, slice_get-among}
use Rattle.world.proofs.Consistency.Fitting.{taken, last_among-entry}
use Rattle.world.proofs.Consistency.NotBack.{takes-reach, takes-each}
use Rattle.world.proofs.Consistency.AllFits.{one_name, log-fits}

-- a take is of the last evaluation of its producer
abbrev IsOfLast : (TaskRef → Option Evaluated) → Take → Type 0
IsOfLast last t = (t.from ≡ from_of (last t.producer)) × ((z : Evaluated) → last t.producer ≡ Some z → t.image ≡ z.outputs)

-- the take from the k-th producer, p, where all takes are of the last ones
pub record TakesLast (x : Evaluated) (k : ℕ) (p : TaskRef) (last : Option Evaluated) : Type 0 where
  pub take : Take
  pub at : slice_get x.takes k ≡ Some take
  pub of : IsTakeOf p (expected_at x.code k) take
  pub from : take.from ≡ from_of last
  pub image : (z : Evaluated) → last ≡ Some z → take.image ≡ z.outputs

module _ (x : Evaluated) (last : TaskRef → Option Evaluated) (whole : IsWhole x) (takes : x.takes ≡ takes_of last x.code) where
  all_last : AllByRecursion (IsOfLast last) x.takes
  all_last = subst (AllByRecursion (IsOfLast last)) (sym takes) (takes-each (IsOfLast last) last (λ q kinds. (refl, λ z e. ap (image_of kinds) e)) x.code)

  takes-last : (k : ℕ) (p : TaskRef) → slice_get x.code.producers k ≡ Some p → TakesLast x k p (last p)
  takes-last k p e =
      let within : k < length x.takes = omega (arith, slice_get_within x.code.producers k p e, whole.takes_suit.many) in
      let some = element_at x.takes k within in
      let of : IsTakeOf p (expected_at x.code k) some.0 = whole.takes_suit.each k some.0 p some.1 e in
      let own : IsOfLast last some.0 = Each-at (IsOfLast last) x.takes some.0 all_last (slice_get-among x.takes k some.0 some.1) in
      record {
        take = some.0;
        at = some.1;
        of = of;
        from = own.0 ∙ ap (λ q. from_of (last q)) of.producer_is;
        image = λ z f. own.1 z (ap last of.producer_is ∙ f);
      }

  -- what an input that is bound to p is given
  given-last : (p : TaskRef) (output : ℕ) (b : Binding) (bound : IsBoundTo x p output b) (t : TakesLast x bound.producer p (last p)) → given x.inputs x.takes b.source ≡ slice_get t.take.image output
  given-last p output b bound t =
      ap (given x.inputs x.takes) bound.source_is
      ∙ ap (λ (o : Option Take). option_and_then (λ (u : Take). slice_get u.image output) o) t.at

  values-last : (p : TaskRef) (z : Evaluated) → last p ≡ Some z → HaveValuesOf x p z.outputs
  values-last p z e output b bound =
      let t = takes-last bound.producer p bound.producer_is in
      given-last p output b bound t ∙ ap (λ (l : List Value). slice_get l output) (t.image z e)

  values-none : (p : TaskRef) → last p ≡ None → AreInitial x p
  values-none p e output b bound =
      let t = takes-last bound.producer p bound.producer_is in
      let first : t.take.image ≡ initial_image (expected_at x.code bound.producer) = t.of.initial (t.from ∙ ap from_of e) in
      given-last p output b bound t
      ∙ ap (λ (l : List Value). slice_get l output) first
      ∙ slice_get-map value_first (expected_at x.code bound.producer) output
      ∙ sym (ap (λ o. option_map value_first (source_kind x.code o)) bound.source_is)

  named-last : (p : TaskRef) → AreTakenFrom x p (from_of (last p))
  named-last p k e = let t = takes-last k p e in record { take = t.take; taken = t.at; producer_is = t.of.producer_is; from_is = t.from }

  takes-only_last : (p : TaskRef) → TakesOnly x p (last p)
  takes-only_last p = record { named = named-last p; inputs = by (last p) refl } where
    by : (o : Option Evaluated) → last p ≡ o → MatchOption o (AreInitial x p) (λ (z : Evaluated). HaveValuesOf x p z.outputs)
    by None e = values-none p e
    by (Some z) e = values-last p z e

-- the code of a next evaluation is the plant's
pub next-code : (s : Setting) (h : List Event) (log : List Evaluated) (k : ℕ) (t : TaskRef) (dt : ℕ) (inputs : List FieldInput) (x : Evaluated) (next : IsNextEvaluation s h log k t dt inputs x) → x.code ≡ next.code
next-code s h log k t dt inputs x next = ap (λ (y : Evaluated). y.code) next.asked.is

pub next-takes : (s : Setting) (h : List Event) (log : List Evaluated) (k : ℕ) (t : TaskRef) (dt : ℕ) (inputs : List FieldInput) (x : Evaluated) → IsNextEvaluation s h log k t dt inputs x
    → x.takes ≡ takes_of (λ p. latest s t.resource h p log) x.code
next-takes s h log k t dt inputs x next = taken s h log k t dt inputs x next ∙ ap (takes_of (λ p. latest s t.resource h p log)) (sym (next-code s h log k t dt inputs x next))

-- all that is taken from a producer is of the latest of it
pub takes-latest : (s : Setting) (h : List Event) (log : List Evaluated) (k : ℕ) (t : TaskRef) (dt : ℕ) (inputs : List FieldInput) (x : Evaluated) (p : TaskRef) → IsNextEvaluation s h log k t dt inputs x
    → TakesOnly x p (latest s t.resource h p log)
takes-latest s h log k t dt inputs x p next = takes-only_last x (λ q. latest s t.resource h q log) next.asked.whole (next-takes s h log k t dt inputs x next) p

-- what an evaluation takes from p is an older entry of p, or nothing
abbrev pub IsOld : List Evaluated → TaskRef → Option Evaluated → Type 0
IsOld older p o = MatchOption o (Unit {0}) (λ z. Among z older × (same_task z.name.task p ≡ true))

-- a take is not below an older one of this resource and incarnation from that producer, whose ever it is
abbrev pub IsKept : List Evaluated → Name → Take → Type 0
IsKept older name t =
    AllByRecursion (λ (y : Evaluated). y.name.task.resource ≡ name.task.resource → y.name.incarnation ≡ name.incarnation → AllByRecursion (λ (u : Take). u.producer ≡ t.producer → is_below t.from u.from ≡ false) y.takes) older

-- an evaluation agrees with those before it
pub record Agrees (plant : PlantValue) (older : List Evaluated) (x : Evaluated) : Type 0 where
  pub taken_of : TaskRef → Option Evaluated
  pub olds : (p : TaskRef) → IsOld older p (taken_of p)
  pub only : (p : TaskRef) → TakesOnly x p (taken_of p)
  pub kept : AllByRecursion (IsKept older x.name) x.takes
  pub coded : code_at plant x.name.task ≡ Some x.code
  pub whole : IsWhole x
  pub meant : IsMeant x

abbrev pub AllAgree : PlantValue → List Evaluated → Type 0
AllAgree plant [] = Unit {0}
AllAgree plant (x ∷ older) = Agrees plant older x × AllAgree plant older

next-agrees : (s : Setting) (h : List Event) (log : List Evaluated) (k : ℕ) (t : TaskRef) (dt : ℕ) (inputs : List FieldInput) (x : Evaluated) → AllLawful s h → IsLog s h log → IsNextEvaluation s h log k t dt inputs x → Agrees s.plant log x
next-agrees s h log k t dt inputs x all is next =
    record {
      taken_of = λ p. latest s t.resource h p log;
      olds = λ p. last_among-entry p (has_reached s t.resource h) log;
      only = λ p. takes-latest s h log k t dt inputs x p next;
      kept = subst (λ n. AllByRecursion (IsKept log n) x.takes) (sym (named s h log k t dt inputs x next))
          (subst (AllByRecursion (IsKept log (next_name s t h))) (sym (taken s h log k t dt inputs x next))
          (takes-each (IsKept log (next_name s t h)) (λ p. latest s t.resource h p log) (λ q kinds. takes-reach s t.resource q h log all is) next.code));
      coded = subst (λ n. code_at s.plant n.task ≡ Some x.code) (sym (named s h log k t dt inputs x next)) (next.found ∙ ap (λ (c : CodeValue). Some c) (sym (next-code s h log k t dt inputs x next)));
      whole = next.asked.whole;
      meant = next.asked.meant;
    }

pub log-agrees : (s : Setting) (h : List Event) (log : List Evaluated) → AllLawful s h → IsLog s h log → AllAgree s.plant log
log-agrees s [] [] all is = tt
log-agrees s [] (x ∷ older) all is = absurd is
log-agrees s (Deliver k n ∷ h) log all is = log-agrees s h log all.1 is
log-agrees s (Restart n ∷ h) log all is = log-agrees s h log all.1 is
log-agrees s (Hear n of incarnation ∷ h) log all is = log-agrees s h log all.1 is
log-agrees s (Evaluate k t dt inputs ∷ h) [] all is = absurd is
log-agrees s (Evaluate k t dt inputs ∷ h) (x ∷ older) all is = (next-agrees s h older k t dt inputs x all.1 is.0 is.1, log-agrees s h older all.1 is.0)

message-older : (x : Evaluated) (older : List Evaluated) (k : ℕ) → k ≤ length older → message (x ∷ older) k ≡ message older k
message-older x older k low = rw (ne_eqb k (suc (length older)) (λ e. omega (arith, low, e))) refl

-- a message is an entry
pub message-among : (log : List Evaluated) (k : ℕ) (x : Evaluated) → message log k ≡ Some x → Among x log
message-among [] k x e = absurd (none-some x e)
message-among (y ∷ ys) k x e = by (eqb k (suc (length ys))) e (message-among ys k x) where
  by : (b : Bool) → cond b (Some y) (message ys k) ≡ Some x → (message ys k ≡ Some x → Among x ys) → Among x (y ∷ ys)
  by true f ih = inl (same_Some y x f)
  by false f ih = inr (ih f)

-- an entry is a message
pub among-message : (log : List Evaluated) (y : Evaluated) → Among y log → (k : ℕ) × (message log k ≡ Some y)
among-message [] y among = elim among [ ]
among-message (x ∷ older) y (inl same) = (suc (length older), rw (eq-eqb (suc (length older)) (suc (length older)) refl) (ap (λ (z : Evaluated). Some z) same))
among-message (x ∷ older) y (inr among) =
    let found = among-message older y among in
    (found.0, message-older x older found.0 (message-within older found.0 y found.1) ∙ found.1)

-- an entry with those before it
pub record At (plant : PlantValue) (log : List Evaluated) (j : ℕ) (x : Evaluated) : Type 0 where
  pub older : List Evaluated
  pub size : suc (length older) ≡ j
  pub agrees : Agrees plant older x
  pub wider : (k : ℕ) (y : Evaluated) → message older k ≡ Some y → message log k ≡ Some y
  pub narrower : (k : ℕ) (y : Evaluated) → k < j → message log k ≡ Some y → message older k ≡ Some y

entry-at : (plant : PlantValue) (log : List Evaluated) → AllAgree plant log → (j : ℕ) (x : Evaluated) → message log j ≡ Some x → At plant log j x
entry-at plant [] all j x e = absurd (none-some x e)
entry-at plant (y ∷ ys) all j x e = by (eqb j (suc (length ys))) refl e (entry-at plant ys all.1 j x) where
  wide : (k : ℕ) (z : Evaluated) → message ys k ≡ Some z → message (y ∷ ys) k ≡ Some z
  wide k z f = message-older y ys k (message-within ys k z f) ∙ f

  here : j ≡ suc (length ys) → y ≡ x → At plant (y ∷ ys) j x
  here at same = record { older = ys; size = sym at; agrees = subst (Agrees plant ys) same all.0; wider = wide; narrower = λ k z low f. sym (message-older y ys k (omega (arith, low, at))) ∙ f }

  later : message ys j ≡ Some x → At plant ys j x → At plant (y ∷ ys) j x
  later f a =
      let high : j ≤ length ys = message-within ys j x f in
      record {
        older = a.older;
        size = a.size;
        agrees = a.agrees;
        wider = λ k z g. wide k z (a.wider k z g);
        narrower = λ k z low g. a.narrower k z low (sym (message-older y ys k (omega (arith, low, high))) ∙ g);
      }

  by : (b : Bool) → eqb j (suc (length ys)) ≡ b → cond b (Some y) (message ys j) ≡ Some x → (message ys j ≡ Some x → At plant ys j x) → At plant (y ∷ ys) j x
  by true f g ih = here (eqb-true _ _ f) (same_Some y x g)
  by false f g ih = later g (ih g)

-- what an entry takes from p, by places
image-at : (plant : PlantValue) (log : List Evaluated) (j : ℕ) (x : Evaluated) (p : TaskRef) → At plant log j x → TakesOneEntry log j x p ⊎ TakesOnly x p None
image-at plant log j x p a = by (a.agrees.taken_of p) (a.agrees.olds p) (a.agrees.only p) where
  by : (o : Option Evaluated) → IsOld a.older p o → TakesOnly x p o → TakesOneEntry log j x p ⊎ TakesOnly x p None
  by None old only = inr only
  by (Some z) old only =
      let found = among-message a.older z old.0 in
      let high : found.0 ≤ length a.older = message-within a.older found.0 z found.1 in
      inl (record { place = found.0; entry = z; earlier = omega (arith, high, a.size); made = a.wider found.0 z found.1; task_is = same_task-true z.name.task p old.1; only = only })

-- a take that isn't below another one of its producer doesn't stand before it
places : (log : List Evaluated) (t u : Take) → Rises u.producer log → t.producer ≡ u.producer → is_below u.from t.from ≡ false → (a b : ℕ) → IsPlace log t a → IsPlace log u b → a ≤ b
places log t u rises same = by t.from u.from where
  by : (o r : Option (ℕ × ℕ)) → is_below r o ≡ false → (a b : ℕ) → MatchOption o (a ≡ 0) (λ f. (y : Evaluated) × (message log a ≡ Some y) × (y.name ≡ name_from t.producer f))
      → MatchOption r (b ≡ 0) (λ f. (y : Evaluated) × (message log b ≡ Some y) × (y.name ≡ name_from u.producer f)) → a ≤ b
  by None r k a b first second = omega (arith, first)
  by (Some f) None k a b first second = absurd (false≢true (sym k))
  by (Some f) (Some g) k a b first second = order (ltb b a) refl where
    z_of : same_task first.0.name.task u.producer ≡ true
    z_of = subst (λ n. same_task n.task u.producer ≡ true) (sym first.2) (subst (λ q. same_task t.producer q ≡ true) same (same_task-itself t.producer))

    w_of : same_task second.0.name.task u.producer ≡ true
    w_of = subst (λ n. same_task n.task u.producer ≡ true) (sym second.2) (same_task-itself u.producer)

    order : (c : Bool) → ltb b a ≡ c → a ≤ b
    order false e = ltb-false b a e
    order true e =
        let up : precedes second.0.name first.0.name ≡ true = rises-messages u.producer log b a second.0 first.0 rises second.1 first.1 w_of z_of (ltb-true b a e) in
        let pair : precedes (name_from u.producer g) (name_from t.producer f) ≡ true = subst (λ n. precedes (name_from u.producer g) n ≡ true) first.2 (subst (λ n. precedes n first.0.name ≡ true) second.2 up) in
        absurd (false≢true (sym k ∙ pair))

-- a take of an earlier entry against one of a later entry of this resource and incarnation
kept-at : (plant : PlantValue) (log : List Evaluated) (i j : ℕ) (x y : Evaluated) (t u : Take) → At plant log j y → i < j → message log i ≡ Some x → x.name.task.resource ≡ y.name.task.resource → x.name.incarnation ≡ y.name.incarnation
    → Among t x.takes → Among u y.takes → t.producer ≡ u.producer → is_below u.from t.from ≡ false
kept-at plant log i j x y t u a low e here now in_x in_y =
    Each-at (λ (v : Take). v.producer ≡ u.producer → is_below u.from v.from ≡ false) x.takes t
    (Each-at (λ (z : Evaluated). z.name.task.resource ≡ y.name.task.resource → z.name.incarnation ≡ y.name.incarnation → AllByRecursion (λ (v : Take). v.producer ≡ u.producer → is_below u.from v.from ≡ false) z.takes) a.older x
    (Each-at (IsKept a.older y.name) y.takes u a.agrees.kept in_y) (message-among a.older i x (a.narrower i x low e)) here now)
    in_x

-- entries that agree with those before them, with rising pairs, are consistent
-- a take of an entry and one of an earlier entry of this resource
fallen-at : (log : List Evaluated) → NeverFall log → (i j : ℕ) (x y : Evaluated) → i < j → message log i ≡ Some x → message log j ≡ Some y → x.name.task.resource ≡ y.name.task.resource
    → (t u : Take) → Among t x.takes → Among u y.takes → (u.from ≡ None → ⊥) → t.producer ≡ u.producer → is_below u.from t.from ≡ false
fallen-at [] falls i j x y low e f here t u in_t in_u some same = absurd (none-some x e)
fallen-at (z ∷ older) falls i j x y low e f here t u in_t in_u some same = by (eqb j (suc (length older))) refl f (fallen-at older falls.1 i j x y low) where
  high : j ≤ suc (length older)
  high = message-within (z ∷ older) j y f

  earlier : message older i ≡ Some x
  earlier = sym (message-older z older i (omega (arith, low, high))) ∙ e

  by : (b : Bool) → eqb j (suc (length older)) ≡ b → cond b (Some z) (message older j) ≡ Some y
      → (message older i ≡ Some x → message older j ≡ Some y → x.name.task.resource ≡ y.name.task.resource → (t u : Take) → Among t x.takes → Among u y.takes → (u.from ≡ None → ⊥) → t.producer ≡ u.producer → is_below u.from t.from ≡ false)
      → is_below u.from t.from ≡ false
  by false g h ih = ih earlier h here t u in_t in_u some same
  by true g h ih =
      Each-at (λ (v : Take). v.producer ≡ u.producer → is_below u.from v.from ≡ false) x.takes t
      (Each-at (IsNotFallenFrom y.name.task.resource u) older x
      (Each-at (IsNotFallen older y.name.task.resource) y.takes u (subst (λ (v : Evaluated). AllByRecursion (IsNotFallen older v.name.task.resource) v.takes) (same_Some z y h) falls.0) in_u some)
      (message-among older i x earlier) here)
      in_t same

pub agreed : (plant : PlantValue) (log : List Evaluated) → ((p : TaskRef) → Rises p log) → AllAgree plant log → NeverFall log → IsConsistent plant log
agreed plant log rises all falls =
    record {
      one_image = λ j k x p e _. image-at plant log j x p (entry-at plant log all j x e);
      never_back = λ i j x y low e f here now.
          Each-from _ x.takes (λ t in_x. Each-from _ y.takes (λ u in_y. λ same.
          places log t u (rises u.producer) same (kept-at plant log i j x y t u (entry-at plant log all j y f) low e here now in_x in_y same)));
      never_falls = λ i j x y low e f here.
          Each-from _ x.takes (λ t in_x. Each-from _ y.takes (λ u in_y. λ some same.
          places log t u (rises u.producer) same (fallen-at log falls i j x y low e f here t u in_x in_y some same)));
      equal_names = λ i j x y e f same. one_name x.name.task log x y (rises x.name.task) (message-among log i x e) (message-among log j y f) (same_task-itself x.name.task) same;
      coded = λ j x e. (entry-at plant log all j x e).agrees.coded;
      whole = λ j x e. (entry-at plant log all j x e).agrees.whole;
      meant = λ j x e. (entry-at plant log all j x e).agrees.meant;
    }

-- each entry fits those before it, and so takes never fall, as the book promises
pub consistent : TakesNeverFall → (s : Setting) (h : List Event) (log : List Evaluated) → AllLawful s h → IsLog s h log → IsConsistent s.plant log
consistent takes_never_fall s h log all is = agreed s.plant log (λ p. log-rises s p h log is) (log-agrees s h log all is) (takes_never_fall s.first log (log-fits s h log all is))

pub run-consistent : TakesNeverFall → (s : Setting) (events : List Event) (entries : List Evaluated) → IsRun s events entries → IsConsistent s.plant (reverse entries)
run-consistent takes_never_fall s events entries is = consistent takes_never_fall s (history_of s events) (reverse entries) (AllLawful-after s [] events tt) is
