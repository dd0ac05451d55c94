-- A world before its first event, and after a list of events.
use Rattle.std.proofs.Common.{◌≡◌, ◌⊎◌, inl, inr, ℕ, suc, ◌+◌, ◌<◌, get_or, Bool, true, false, cond, ◌&&◌, ◌||◌, List, [], ◌∷◌, ◌++◌, length, Option, Some, None, refl, ap, sym, ◌∙◌, subst, arith, eqb, ltb, leb, take}
use Rattle.std.specs.Prelude.{is_some, slice_get, slice_index, slice_index_or}
use Rattle.std.proofs.lemmas.Bool.{eqb-true, lt-ltb, le-ltb}
use Rattle.std.proofs.lemmas.Bool.Decides.{nat_tests}
use Rattle.std.proofs.lemmas.List.{append_assoc, append-nil, take_more}
use Rattle.std.proofs.lemmas.Option.{none-some, same_Some, slice_get_read}
use Rattle.plant.specs.PlantValue.{PlantValue, code_at, IsSoundPlant}
use Rattle.task_codes.specs.CodeValue.{CodeValue}
use Rattle.evaluation.specs.Meaning.{Evaluated}
use Rattle.evaluation.specs.Last.{left_by}
use Rattle.exchange_core.specs.CoreValue.{CoreValue, fresh_core}
use Rattle.world.specs.declared.event.Event.{Event}
use Rattle.world.specs.declared.event.Event.TheVariants.{Evaluate, Deliver, Restart, Hear}
use Rattle.world.specs.declared.world_fault.WorldFault.{WorldFault}
use Rattle.world.specs.declared.world_fault.WorldFault.TheVariants.{NoSuchResource, NoSuchTask, NoSuchMessage, NumbersSpent, IncarnationsSpent, Memory, NeverHeld}
use Rattle.world.specs.History.{incarnation_of, Setting, Openings, AreOpenings, openings_at, history_of, after_events, is_lawful, number_of, lawful_among}
use Rattle.world.specs.World.{WorldValue, node_takes}
use Rattle.world.specs.Step.{IsDone, IsCause, IsLawfulAt, HaveRun}
use Rattle.world.specs.Steps.Nodes.{IsNode, IsWorld}
use Rattle.world.specs.Steps.Fresh.{AreFresh}
use Rattle.world.specs.Steps.Histories.Tasks.{resource_exists}
use Rattle.world.specs.Steps.Histories.Heard.{heard-fresh}
use Rattle.std.proofs.lemmas.List.{set-get_or}
use Rattle.exchange_core.specs.Steps.Fresh.{fresh_known, fresh_shape}
use Rattle.world.proofs.Worlds.Moves.{slice_get-push, history-one_more}

pub fresh-none : (plant : PlantValue) (first : List ℕ) (opening : Openings) (max_number : ℕ) → AreFresh plant first opening max_number 0 []
fresh-none plant first opening max_number = record { sized = refl; fresh = λ n core e. absurd (none-some core e) }

pub fresh-more : (plant : PlantValue) (first : List ℕ) (opening : Openings) (max_number count : ℕ) (cores : List CoreValue) (core : CoreValue) → AreFresh plant first opening max_number count cores
    → core ≡ fresh_core plant count first (slice_index first count) (openings_at opening count) max_number → AreFresh plant first opening max_number (count + 1) (cores ++ core ∷ [])
fresh-more plant first opening max_number count cores core all new =
    record { sized = length-push cores ∙ ap (λ n. n + 1) all.sized; fresh = λ n c e. by n c (eqb (suc n) (suc (length cores))) refl (sym (slice_get-push cores core n) ∙ e) } where
      length-push : (xs : List CoreValue) → length (xs ++ core ∷ []) ≡ length xs + 1
      length-push [] = refl
      length-push (x ∷ xs) = rw (length-push xs) (omega arith)

      by : (n : ℕ) (c : CoreValue) (b : Bool) → eqb (suc n) (suc (length cores)) ≡ b → cond b (Some core) (slice_get cores n) ≡ Some c → c ≡ fresh_core plant n first (slice_index first n) (openings_at opening n) max_number
      by n c false e f = all.fresh n c f
      by n c true e f =
          let at : count ≡ n = omega (arith, all.sized, eqb-true (suc n) (suc (length cores)) e) in
          sym (same_Some core c f) ∙ new ∙ ap (λ m. fresh_core plant m first (slice_index first m) (openings_at opening m) max_number) at

-- the world of no events
pub world-new : (s : Setting) (cores : List CoreValue) → IsSoundPlant s.plant → length s.first ≡ length s.plant.resources → AreOpenings s.plant s.opening → AreFresh s.plant s.first s.opening s.max_number (length s.plant.resources) cores → IsWorld s [] [] cores
world-new s cores planned firsts openings all =
    record { planned = planned; logged = tt; firsts = firsts; sized = all.sized; nodes = λ n core e. subst (IsNode s [] [] n) (sym (all.fresh n core e)) (node n) } where
      nothing : (b : Bool) → ◌≡◌ {A = Option Evaluated} (cond b None None) None
      nothing true = refl
      nothing false = refl

      node : (n : ℕ) → IsNode s [] [] n (fresh_core s.plant n s.first (slice_index s.first n) (openings_at s.opening n) s.max_number)
      node n = record {
        plant = refl;
        resource = refl;
        firsts = refl;
        max_number = refl;
        incarnation = omega arith;
        heard = set-get_or s.first n 0 ∙ sym (heard-fresh s n);
        shaped = fresh_shape s.plant;
        keeps = λ p. fresh_known s.plant p ∙ sym (nothing (eqb p.resource n || node_takes s.plant n p));
        long = (openings.each n).many;
        left = λ t own lt. ap (left_by (slice_index_or (openings_at s.opening n) t.task [])) (fresh_known s.plant t) ∙ ap (λ m. slice_index_or (openings_at s.opening m) t.task []) (sym own);
      }

-- the history after the lawful ones of some events
pub history-lawful : (s : Setting) (events es : List Event) → history_of s (events ++ lawful_among s (history_of s events) es) ≡ after_events s (history_of s events) es
history-lawful s events [] = ap (history_of s) (append-nil events)
history-lawful s events (e ∷ es) = by (history-lawful s events es) (history-lawful s (events ++ e ∷ []) es) (is_lawful s (history_of s events) e) refl where
  by : history_of s (events ++ lawful_among s (history_of s events) es) ≡ after_events s (history_of s events) es
      → history_of s ((events ++ e ∷ []) ++ lawful_among s (history_of s (events ++ e ∷ [])) es) ≡ after_events s (history_of s (events ++ e ∷ [])) es
      → (b : Bool) → is_lawful s (history_of s events) e ≡ b
      → history_of s (events ++ cond b (e ∷ lawful_among s (e ∷ history_of s events) es) (lawful_among s (history_of s events) es)) ≡ after_events s (cond b (e ∷ history_of s events) (history_of s events)) es
  by ih new false f = ih
  by ih new true f =
      let more : history_of s (events ++ e ∷ []) ≡ e ∷ history_of s events = history-one_more s events e f in
      ap (history_of s) (sym (append_assoc events (e ∷ []) (lawful_among s (e ∷ history_of s events) es)))
      ∙ subst (λ h. history_of s ((events ++ e ∷ []) ++ lawful_among s h es) ≡ after_events s h es) more new

pub lawful-more : (s : Setting) (h xs : List Event) (ys : List Event) → lawful_among s h (xs ++ ys) ≡ lawful_among s h xs ++ lawful_among s (after_events s h xs) ys
lawful-more s h [] ys = refl
lawful-more s h (x ∷ xs) ys = by (lawful-more s (x ∷ h) xs ys) (lawful-more s h xs ys) (is_lawful s h x) where
  by : lawful_among s (x ∷ h) (xs ++ ys) ≡ lawful_among s (x ∷ h) xs ++ lawful_among s (after_events s (x ∷ h) xs) ys
      → lawful_among s h (xs ++ ys) ≡ lawful_among s h xs ++ lawful_among s (after_events s h xs) ys
      → (b : Bool) → cond b (x ∷ lawful_among s (x ∷ h) (xs ++ ys)) (lawful_among s h (xs ++ ys))
      ≡ cond b (x ∷ lawful_among s (x ∷ h) xs) (lawful_among s h xs) ++ lawful_among s (after_events s (cond b (x ∷ h) h) xs) ys
  by a b true = ap (λ l. x ∷ l) a
  by a b false = b

pub follows-none : (w : WorldValue) → HaveRun w w []
follows-none w = record { setting = refl; events = sym (append-nil w.events) }

pub follows-more : (a b c : WorldValue) (xs ys : List Event) → HaveRun a b xs → HaveRun b c ys → HaveRun a c (xs ++ ys)
follows-more a b c xs ys f g =
    record {
      setting = g.setting ∙ f.setting;
      events =
          g.events
          ∙ subst (λ s. b.events ++ lawful_among s (history_of s b.events) ys ≡ a.events ++ lawful_among a.setting h (xs ++ ys)) (sym f.setting)
          (subst (λ l. l ++ lawful_among a.setting (history_of a.setting l) ys ≡ a.events ++ lawful_among a.setting h (xs ++ ys)) (sym f.events)
          (ap (λ g. (a.events ++ lawful_among a.setting h xs) ++ lawful_among a.setting g ys) (history-lawful a.setting a.events xs)
          ∙ append_assoc a.events (lawful_among a.setting h xs) (lawful_among a.setting (after_events a.setting h xs) ys)
          ∙ ap (λ l. a.events ++ l) (sym (lawful-more a.setting h xs ys))));
    } where
      h : List Event
      h = history_of a.setting a.events

pub follows-done : (a b : WorldValue) (e : Event) (log : List Evaluated) → IsDone a b e log → HaveRun a b (e ∷ [])
follows-done a b e log done = record { setting = ap (λ w. w.setting) done.is; events = ap (λ w. w.events) done.is ∙ rw done.lawful }

pub follows-refused : (a b : WorldValue) (e : Event) → b ≡ a → is_lawful a.setting (history_of a.setting a.events) e ≡ false → HaveRun a b (e ∷ [])
follows-refused a b e same refused = record { setting = ap (λ w. w.setting) same; events = ap (λ w. w.events) same ∙ sym (append-nil a.events) ∙ rw refused }

unmade : (m made : ℕ) → (m ≡ 0) ⊎ (made < m) → (leb 1 m && leb m made) ≡ false
unmade m made (inl e) = grind (arith, nat_tests)
unmade m made (inr e) = grind (arith, nat_tests)

never : (low i high : ℕ) → (i < low) ⊎ (high < i) → (leb low i && leb i high) ≡ false
never low i high (inl e) = grind (arith, nat_tests)
never low i high (inr e) = grind (arith, nat_tests)

-- what is refused for another cause than memory is unlawful
pub unlawful : (w : WorldValue) (e : Event) (f : WorldFault) → (f ≡ Memory → ⊥) → IsCause w e f → is_lawful w.setting (history_of w.setting w.events) e ≡ false
unlawful w (Evaluate k t dt inputs) NoSuchResource ne c = by (code_at w.setting.plant t) refl where
  by : (o : Option CodeValue) → code_at w.setting.plant t ≡ o → (is_some o && ltb (number_of t (history_of w.setting w.events)) w.setting.max_number) ≡ false
  by None g = refl
  by (Some code) g = absurd (let here = resource_exists w.setting.plant t code g in omega (arith, c))
unlawful w (Evaluate k t dt inputs) NoSuchTask ne c = rw c.1
unlawful w (Evaluate k t dt inputs) NumbersSpent ne c = rw c.0 (le-ltb _ _ c.1)
unlawful w (Evaluate k t dt inputs) NoSuchMessage ne c = absurd c
unlawful w (Evaluate k t dt inputs) IncarnationsSpent ne c = absurd c
unlawful w (Evaluate k t dt inputs) Memory ne c = absurd (ne refl)
unlawful w (Deliver m n) NoSuchResource ne c = rw (le-ltb n (length w.setting.plant.resources) c)
unlawful w (Deliver m n) NoSuchMessage ne c = rw (lt-ltb n (length w.setting.plant.resources) c.0) (unmade m _ c.1)
unlawful w (Deliver m n) NoSuchTask ne c = absurd c
unlawful w (Deliver m n) NumbersSpent ne c = absurd c
unlawful w (Deliver m n) IncarnationsSpent ne c = absurd c
unlawful w (Deliver m n) Memory ne c = absurd (ne refl)
unlawful w (Restart n) NoSuchResource ne c = rw (le-ltb n (length w.setting.plant.resources) c)
unlawful w (Restart n) IncarnationsSpent ne c = rw (lt-ltb n (length w.setting.plant.resources) c.0) (le-ltb _ _ c.1)
unlawful w (Restart n) NoSuchTask ne c = absurd c
unlawful w (Restart n) NoSuchMessage ne c = absurd c
unlawful w (Restart n) NumbersSpent ne c = absurd c
unlawful w (Restart n) Memory ne c = absurd (ne refl)
unlawful w (Evaluate k t dt inputs) NeverHeld ne c = absurd c
unlawful w (Deliver m n) NeverHeld ne c = absurd c
unlawful w (Restart n) NeverHeld ne c = absurd c
unlawful w (Hear n o i) NoSuchResource ne (inl c) = rw (le-ltb n (length w.setting.plant.resources) c) refl
unlawful w (Hear n o i) NoSuchResource ne (inr c) = by (ltb n (length w.setting.plant.resources)) where
  by : (b : Bool) → (b && (ltb o (length w.setting.plant.resources) && (leb (slice_index w.setting.first o) i && leb i (incarnation_of w.setting o (history_of w.setting w.events))))) ≡ false
  by true = rw (le-ltb o (length w.setting.plant.resources) c) refl
  by false = refl
unlawful w (Hear n o i) NeverHeld ne c = rw (lt-ltb n (length w.setting.plant.resources) c.0, lt-ltb o (length w.setting.plant.resources) c.1) (never (slice_index w.setting.first o) i (incarnation_of w.setting o (history_of w.setting w.events)) c.2)
unlawful w (Hear n o i) NoSuchTask ne c = absurd c
unlawful w (Hear n o i) NoSuchMessage ne c = absurd c
unlawful w (Hear n o i) NumbersSpent ne c = absurd c
unlawful w (Hear n o i) IncarnationsSpent ne c = absurd c
unlawful w (Hear n o i) Memory ne c = absurd (ne refl)

pub follows-next : (a b c : WorldValue) (es : List Event) (i : ℕ) (e : Event) → i < length es → e ≡ get_or es i e → HaveRun a b (take i es) → HaveRun b c (e ∷ []) → HaveRun a c (take (i + 1) es)
follows-next a b c es i e inside at f g =
    subst (HaveRun a c) (ap (λ x. take i es ++ x ∷ []) at ∙ sym (take_more es i e inside)) (follows-more a b c (take i es) (e ∷ []) f g)

-- memory is wanting only for a lawful event
pub memory-lawful : (w : WorldValue) (e : Event) → IsCause w e Memory → is_lawful w.setting (history_of w.setting w.events) e ≡ true
memory-lawful w (Evaluate k t dt inputs) h = h
memory-lawful w (Deliver m n) h = h
memory-lawful w (Restart n) h = h
memory-lawful w (Hear n o i) h = h

pub stopped-at : (a b : WorldValue) (es : List Event) (i : ℕ) (e : Event) → i < length es → e ≡ get_or es i e → b ≡ a → is_lawful a.setting (history_of a.setting a.events) e ≡ true → IsLawfulAt b es i
stopped-at a b es i e inside at same lawful =
    (e, slice_get_read es (length es) i e refl inside at, subst (λ (w : WorldValue). is_lawful w.setting (history_of w.setting w.events) e ≡ true) (sym same) lawful)
