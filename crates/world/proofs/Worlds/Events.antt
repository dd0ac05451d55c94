-- A world follows its events.
use Rattle.std.proofs.Common.{slice_index, slice_set, ltb, ◌&&◌, false, ◌≡◌, ◌⊎◌, inl, inr, ℕ, ◌+◌, ◌<◌, ◌≤◌, get_or, Bool, true, cond, ◌||◌, List, [], ◌∷◌, ◌++◌, length, Option, Some, None, refl, ap, sym, ◌∙◌, subst, arith, eqb}
use Rattle.std.specs.Option.{option_map}
use Rattle.std.specs.Prelude.{is_some, not, slice_get, slice_set, reverse}
use Rattle.std.proofs.lemmas.Bool.{eq-eqb, ne_eqb, eqb-true, lt-ltb, le-ltb, le-leb}
use Rattle.lists.proofs.Places.{element_at, index_at}
use Rattle.evaluation.specs.Heard.{greatest}
use Rattle.std.proofs.lemmas.List.{length-set, reverse-append}
use Rattle.std.proofs.lemmas.Option.{slice_get_within, slice_get_read}
use Rattle.evaluation.specs.Steps.Facts.{state-left}
use Rattle.power_flow.specs.StateValue.{StateValue}
use Rattle.task_codes.specs.declared.task_ref.TaskRef.{TaskRef}
use Rattle.plant.specs.PlantValue.{PlantValue, code_at, codes_at}
use Rattle.task_codes.specs.CodeValue.{CodeValue}
use Rattle.evaluation.specs.declared.field_input.FieldInput.{FieldInput}
use Rattle.evaluation.specs.declared.name.Name.{Name}
use Rattle.evaluation.specs.Meaning.{Evaluated, IsAsked}
use Rattle.evaluation.specs.Last.{left_by, state_from, takes_of, last_number}
use Rattle.exchange_core.specs.Held.{known, with_known}
use Rattle.exchange_core.specs.CoreValue.{CoreValue, is_news, IsNext, IsNextOf, IsDue, next_name_of, own_task, kept_at, IsRestartOf}
use Rattle.world.specs.declared.event.Event.{Event}
use Rattle.world.specs.declared.event.Event.TheVariants.{Evaluate, Restart, Hear}
use Rattle.world.specs.History.{Setting, opening_of, heard_by, hearings_of, is_lawful, history_of, incarnation_of, number_of}
use Rattle.world.specs.Run.{IsLog, IsNextEvaluation, next_name, latest, last_of, state_before}
use Rattle.world.specs.World.{WorldValue, world_of, node_takes}
use Rattle.world.specs.Step.{IsDone, IsEvaluatedNow}
use Rattle.world.specs.Steps.Nodes.{IsNode, IsWorld}
use Rattle.world.specs.Steps.Histories.Names.{AllLawful, AllLawful-after}
use Rattle.world.specs.Steps.Histories.Heard.{heard_of, heard-get}
use Rattle.world.specs.Steps.Histories.Steps.{incarnation-restart, number-latest}
use Rattle.world.proofs.Worlds.Takes.{node-takes}
use Rattle.world.proofs.Worlds.Moves.{history-one_more, set-found, node-restart, node-other_restart, node-evaluate, node-other_evaluate}

same_name : (a b : TaskRef) (i j m n : ℕ) → a ≡ b → i ≡ j → m ≡ n → ◌≡◌ {A = Name} (record { task = a; incarnation = i; number = m }) (record { task = b; incarnation = j; number = n })
same_name a b i j m n e f g = rw (e, f, g) refl

module _ (s : Setting) (h : List Event) (log : List Evaluated) (core : CoreValue) (k : ℕ) (t : TaskRef) (dt : ℕ) (inputs : List FieldInput) (all : AllLawful s h) (is : IsLog s h log) (node : IsNode s h log t.resource core) where
  own : own_task core t.task ≡ t
  own = rw node.resource refl

  known-own : known core.table (own_task core t.task) ≡ latest s t.resource h t log
  known-own = ap (known core.table) own ∙ node.keeps t ∙ ap (λ w. cond w (latest s t.resource h t log) None) (on (node_takes s.plant t.resource t)) where
    on : (b : Bool) → (eqb t.resource t.resource || b) ≡ true
    on b = rw (eq-eqb t.resource t.resource refl)

  pub number-own : last_number (known core.table (own_task core t.task)) ≡ number_of t h
  number-own = ap last_number known-own ∙ number-latest s t h log all is

  pub found-own : (o : Option CodeValue) → code_at core.plant (own_task core t.task) ≡ o → code_at s.plant t ≡ o
  found-own o e = sym (ap (λ p. code_at p t) node.plant) ∙ ap (code_at core.plant) (sym own) ∙ e

  -- what the core makes next is the run's next evaluation
  pub next-own : (x : Evaluated) → IsNextOf core k t.task dt inputs x → IsNextEvaluation s h log k t dt inputs x
  next-own x next =
      let code : CodeValue = next.code in
      let found : code_at s.plant t ≡ Some code = found-own (Some code) next.found in
      let before : List StateValue = state_from code (kept_at core t.task) (known core.table (own_task core t.task)) in
      let named : next_name_of core t.task ≡ next_name s t h = same_name _ _ _ _ _ _ own node.incarnation (ap (λ n. n + 1) number-own) in
      let takes : takes_of (known core.table) code ≡ takes_of (λ p. latest s t.resource h p log) code = node-takes s h log t core code node found in
      let within : t.task < length core.kept = omega (arith, node.long, slice_get_within (codes_at s.plant t.resource) t.task code found) in
      let stored : before ≡ state_before s code t log (latest s t.resource h t log) =
      state-left code (kept_at core t.task) (left_by (opening_of s t) (last_of t log)) (known core.table (own_task core t.task)) (ap (λ r. left_by (kept_at core t.task) (known core.table r)) own ∙ node.left t refl within)
      ∙ ap (state_from code (left_by (opening_of s t) (last_of t log))) known-own in
      record {
        code = code;
        found = found;
        asked =
            subst (λ b. IsAsked k (next_name s t h) (heard_by s t.resource h) dt inputs (takes_of (λ p. latest s t.resource h p log) code) b code x) stored
            (subst (λ ts. IsAsked k (next_name s t h) (heard_by s t.resource h) dt inputs ts before code x) takes
            (subst (λ l. IsAsked k (next_name s t h) l dt inputs (takes_of (known core.table) code) before code x) node.heard
            (subst (λ n. IsAsked k n core.heard dt inputs (takes_of (known core.table) code) before code x) named next.asked)));
      }

  pub evaluate-lawful : (x : Evaluated) → IsNextOf core k t.task dt inputs x → is_lawful s h (Evaluate k t dt inputs) ≡ true
  evaluate-lawful x next =
      let found : code_at s.plant t ≡ Some next.code = found-own (Some next.code) next.found in
      let low : number_of t h < s.max_number = omega (arith, number-own, next.below, node.max_number) in
      rw (found, lt-ltb (number_of t h) s.max_number low)

-- the world's step at an Evaluate
pub world-evaluate : (s : Setting) (events : List Event) (log : List Evaluated) (cores : List CoreValue) (k : ℕ) (t : TaskRef) (dt : ℕ) (inputs : List FieldInput) (core : CoreValue) (x : Evaluated)
    → IsWorld s events log cores → slice_get cores t.resource ≡ Some core → IsNextOf core k t.task dt inputs x
    → IsWorld s (events ++ Evaluate k t dt inputs ∷ []) (log ++ x ∷ []) (slice_set cores t.resource (record core { table = with_known core.table (own_task core t.task) (Some x) }))
world-evaluate s events log cores k t dt inputs core x world at next =
    record {
      planned = world.planned;
      logged = subst (λ g. IsLog s g (reverse (log ++ x ∷ []))) (sym more) (subst (IsLog s (Evaluate k t dt inputs ∷ history_of s events)) (sym turned) (world.logged, nexts));
      firsts = world.firsts;
      sized = length-set cores t.resource after ∙ world.sized;
      nodes = λ m c found. subst (λ g. IsNode s g (reverse (log ++ x ∷ [])) m c) (sym more) (subst (λ l. IsNode s (Evaluate k t dt inputs ∷ history_of s events) l m c) (sym turned) (by m c (set-found cores t.resource m after c (slice_get_within cores t.resource core at) found)));
    } where
      after : CoreValue
      after = record core { table = with_known core.table (own_task core t.task) (Some x) }

      all : AllLawful s (history_of s events)
      all = AllLawful-after s [] events tt

      node : IsNode s (history_of s events) (reverse log) t.resource core
      node = world.nodes t.resource core at

      nexts : IsNextEvaluation s (history_of s events) (reverse log) k t dt inputs x
      nexts = next-own s (history_of s events) (reverse log) core k t dt inputs all world.logged node x next

      more : history_of s (events ++ Evaluate k t dt inputs ∷ []) ≡ Evaluate k t dt inputs ∷ history_of s events
      more = history-one_more s events (Evaluate k t dt inputs) (evaluate-lawful s (history_of s events) (reverse log) core k t dt inputs all world.logged node x next)

      turned : reverse (log ++ x ∷ []) ≡ x ∷ reverse log
      turned = reverse-append log (x ∷ [])

      here : IsNode s (Evaluate k t dt inputs ∷ history_of s events) (x ∷ reverse log) t.resource after
      here = subst (λ u. IsNode s (Evaluate k t dt inputs ∷ history_of s events) (x ∷ reverse log) t.resource (record core { table = with_known core.table u (Some x) })) (sym (own s (history_of s events) (reverse log) core k t dt inputs all world.logged node))
          (node-evaluate s (history_of s events) (reverse log) core k t dt inputs x all world.logged nexts node)

      by : (m : ℕ) (c : CoreValue) → ((m ≡ t.resource) × (after ≡ c)) ⊎ ((t.resource ≡ m → ⊥) × (slice_get cores m ≡ Some c)) → IsNode s (Evaluate k t dt inputs ∷ history_of s events) (x ∷ reverse log) m c
      by m c (inl p) = subst (λ d. IsNode s (Evaluate k t dt inputs ∷ history_of s events) (x ∷ reverse log) m d) p.1 (subst (λ r. IsNode s (Evaluate k t dt inputs ∷ history_of s events) (x ∷ reverse log) r after) (sym p.0) here)
      by m c (inr p) = node-other_evaluate s (history_of s events) (reverse log) m c k t dt inputs x all world.logged nexts (world.nodes m c p.1) (ne_eqb t.resource m p.0)

-- the world's step at a Restart
pub world-restart : (s : Setting) (events : List Event) (log : List Evaluated) (cores : List CoreValue) (n : ℕ) (core new : CoreValue)
    → IsWorld s events log cores → slice_get cores n ≡ Some core → is_lawful s (history_of s events) (Restart n) ≡ true → IsRestartOf core new (core.incarnation + 1)
    → IsWorld s (events ++ Restart n ∷ []) log (slice_set cores n new)
world-restart s events log cores n core new world at lawful after =
    record {
      planned = world.planned;
      logged = subst (λ g. IsLog s g (reverse log)) (sym more) world.logged;
      firsts = world.firsts;
      sized = length-set cores n new ∙ world.sized;
      nodes = λ m c found. subst (λ g. IsNode s g (reverse log) m c) (sym more) (by m c (set-found cores n m new c (slice_get_within cores n core at) found));
    } where
      node : IsNode s (history_of s events) (reverse log) n core
      node = world.nodes n core at

      more : history_of s (events ++ Restart n ∷ []) ≡ Restart n ∷ history_of s events
      more = history-one_more s events (Restart n) lawful

      here : IsNode s (Restart n ∷ history_of s events) (reverse log) n new
      here = node-restart s (history_of s events) (reverse log) n core new (AllLawful-after s [] events tt) world.logged node after

      by : (m : ℕ) (c : CoreValue) → ((m ≡ n) × (new ≡ c)) ⊎ ((n ≡ m → ⊥) × (slice_get cores m ≡ Some c)) → IsNode s (Restart n ∷ history_of s events) (reverse log) m c
      by m c (inl p) = subst (λ d. IsNode s (Restart n ∷ history_of s events) (reverse log) m d) p.1 (subst (λ r. IsNode s (Restart n ∷ history_of s events) (reverse log) r new) (sym p.0) here)
      by m c (inr p) = node-other_restart s (history_of s events) (reverse log) m n c (world.nodes m c p.1) (ne_eqb n m p.0)

-- the same steps, as the bodies meet them
module _ (s : Setting) (events : List Event) (log : List Evaluated) (cores : List CoreValue) (world : IsWorld s events log cores) where
  pub evaluate-lawful_at : (k : ℕ) (t : TaskRef) (dt : ℕ) (inputs : List FieldInput) (core new : CoreValue) (x : Evaluated) → t.resource < length cores → core ≡ get_or cores t.resource core → IsNext core new k t.task dt inputs x
      → is_lawful s (history_of s events) (Evaluate k t dt inputs) ≡ true
  evaluate-lawful_at k t dt inputs core new x inside at next =
      evaluate-lawful s (history_of s events) (reverse log) core k t dt inputs (AllLawful-after s [] events tt) world.logged (world.nodes t.resource core (slice_get_read cores (length cores) t.resource core refl inside at)) x next.next

  pub world-evaluate_at : (k : ℕ) (t : TaskRef) (dt : ℕ) (inputs : List FieldInput) (core new : CoreValue) (x : Evaluated) → t.resource < length cores → core ≡ get_or cores t.resource core → IsNext core new k t.task dt inputs x
      → IsWorld s (events ++ Evaluate k t dt inputs ∷ []) (log ++ x ∷ []) (slice_set cores t.resource new)
  world-evaluate_at k t dt inputs core new x inside at next =
      subst (λ c. IsWorld s (events ++ Evaluate k t dt inputs ∷ []) (log ++ x ∷ []) (slice_set cores t.resource c)) (sym next.after)
      (world-evaluate s events log cores k t dt inputs core x world (slice_get_read cores (length cores) t.resource core refl inside at) next.next)

  pub spent_at : (t : TaskRef) (core : CoreValue) → t.resource < length cores → core ≡ get_or cores t.resource core
      → (is_some (code_at core.plant (own_task core t.task)) ≡ true) × (core.max_number ≤ last_number (known core.table (own_task core t.task)))
      → (is_some (code_at s.plant t) ≡ true) × (s.max_number ≤ number_of t (history_of s events))
  spent_at t core inside at cause =
      let node : IsNode s (history_of s events) (reverse log) t.resource core = world.nodes t.resource core (slice_get_read cores (length cores) t.resource core refl inside at) in
      let all : AllLawful s (history_of s events) = AllLawful-after s [] events tt in
      let number : last_number (known core.table (own_task core t.task)) ≡ number_of t (history_of s events) = number-own s (history_of s events) (reverse log) core 0 t 0 [] all world.logged node in
      let found : code_at s.plant t ≡ code_at core.plant (own_task core t.task) = found-own s (history_of s events) (reverse log) core 0 t 0 [] all world.logged node (code_at core.plant (own_task core t.task)) refl in
      (ap is_some found ∙ cause.0, omega (arith, number, node.max_number, cause.1))

  pub due_at : (k : ℕ) (t : TaskRef) (dt : ℕ) (inputs : List FieldInput) (core : CoreValue) → t.resource < length cores → core ≡ get_or cores t.resource core → IsDue core t.task
      → is_lawful s (history_of s events) (Evaluate k t dt inputs) ≡ true
  due_at k t dt inputs core inside at due =
      let node : IsNode s (history_of s events) (reverse log) t.resource core = world.nodes t.resource core (slice_get_read cores (length cores) t.resource core refl inside at) in
      let all : AllLawful s (history_of s events) = AllLawful-after s [] events tt in
      let number : last_number (known core.table (own_task core t.task)) ≡ number_of t (history_of s events) = number-own s (history_of s events) (reverse log) core 0 t 0 [] all world.logged node in
      let found : code_at s.plant t ≡ code_at core.plant (own_task core t.task) = found-own s (history_of s events) (reverse log) core 0 t 0 [] all world.logged node (code_at core.plant (own_task core t.task)) refl in
      let there : is_some (code_at s.plant t) ≡ true = ap is_some found ∙ due.0 in
      let low : number_of t (history_of s events) < s.max_number = omega (arith, number, node.max_number, due.1) in
      rw (there, lt-ltb (number_of t (history_of s events)) s.max_number low) refl

  pub no_task_at : (t : TaskRef) (core : CoreValue) → t.resource < length cores → core ≡ get_or cores t.resource core → code_at core.plant (own_task core t.task) ≡ None
      → (t.resource < length s.plant.resources) × (code_at s.plant t ≡ None)
  no_task_at t core inside at none =
      let node : IsNode s (history_of s events) (reverse log) t.resource core = world.nodes t.resource core (slice_get_read cores (length cores) t.resource core refl inside at) in
      let sized = world.sized in
      (omega (arith, sized), found-own s (history_of s events) (reverse log) core 0 t 0 [] (AllLawful-after s [] events tt) world.logged node None none)

  pub incarnation_at : (n last : ℕ) (core : CoreValue) → n < length cores → core ≡ get_or cores n core → last ≡ core.incarnation → 4294967295 ≤ last
      → (n < length s.plant.resources) × (4294967295 ≤ incarnation_of s n (history_of s events))
  incarnation_at n last core inside at was high =
      let node : IsNode s (history_of s events) (reverse log) n core = world.nodes n core (slice_get_read cores (length cores) n core refl inside at) in
      let sized = world.sized in
      (omega (arith, sized), subst (λ i. 4294967295 ≤ i) (was ∙ node.incarnation) high)

  pub restart-lawful_at : (n last : ℕ) (core : CoreValue) → n < length cores → core ≡ get_or cores n core → last ≡ core.incarnation → last < 4294967295 → is_lawful s (history_of s events) (Restart n) ≡ true
  restart-lawful_at n last core inside at was low =
      let node : IsNode s (history_of s events) (reverse log) n core = world.nodes n core (slice_get_read cores (length cores) n core refl inside at) in
      let there : n < length s.plant.resources = omega (arith, world.sized) in
      let under : incarnation_of s n (history_of s events) < 4294967295 = subst (λ i. i < 4294967295) (was ∙ node.incarnation) low in
      rw (lt-ltb n (length s.plant.resources) there, lt-ltb (incarnation_of s n (history_of s events)) 4294967295 under)

  pub world-restart_at : (n last : ℕ) (core new : CoreValue) → n < length cores → core ≡ get_or cores n core → last ≡ core.incarnation → last < 4294967295 → IsRestartOf core new (last + 1)
      → IsWorld s (events ++ Restart n ∷ []) log (slice_set cores n new)
  world-restart_at n last core new inside at was low after =
      world-restart s events log cores n core new world (slice_get_read cores (length cores) n core refl inside at) (restart-lawful_at n last core inside at was low)
      (subst (λ i. IsRestartOf core new (i + 1)) was after)

  module _ (n o i low had : ℕ) (core : CoreValue) (inside : n < length cores) (there : o < length cores) (at : core ≡ get_or cores o core) (was : had ≡ core.incarnation) where
    node_of : IsNode s (history_of s events) (reverse log) o core
    node_of = world.nodes o core (slice_get_read cores (length cores) o core refl there at)

    -- an incarnation above the present one was never had
    pub never_at : had < i → (n < length s.plant.resources) × (o < length s.plant.resources) × ((i < slice_index s.first o) ⊎ (incarnation_of s o (history_of s events) < i))
    never_at high =
        let sized = world.sized in
        let up = node_of.incarnation in
        (omega (arith, inside, sized), omega (arith, there, sized), inr (omega (arith, high, was, up)))

    -- one that was had is lawful to hear of
    pub hear-lawful_at : low ≡ get_or s.first o low → low ≤ i → i ≤ had → is_lawful s (history_of s events) (Hear n o i) ≡ true
    hear-lawful_at first least most =
        let sized = world.sized in
        let firsts = world.firsts in
        let up = node_of.incarnation in
        let begins = index_at s.first o low (slice_get_read s.first (length s.first) o low refl (omega (arith, there, sized, firsts)) first) in
        rw (lt-ltb n (length s.plant.resources) (omega (arith, inside, sized)), lt-ltb o (length s.plant.resources) (omega (arith, there, sized)), le-leb (slice_index s.first o) i (omega (arith, begins, least)), le-leb i (incarnation_of s o (history_of s events)) (omega (arith, most, was, up))) refl

    -- what is news to the core is newer than what its resource has heard
    pub newer_at : (hearer : CoreValue) → hearer ≡ get_or cores n hearer → i ≤ had → is_news hearer o i ≡ ltb (slice_index (heard_by s n (history_of s events)) o) i
    newer_at hearer here most = by (eqb o hearer.resource) refl where
      node : IsNode s (history_of s events) (reverse log) n hearer
      node = world.nodes n hearer (slice_get_read cores (length cores) n hearer refl inside here)

      exists : o < length hearer.plant.resources
      exists = let same = ap (λ (p : PlantValue). length p.resources) node.plant in let sized = world.sized in omega (arith, there, same, sized)

      by : (b : Bool) → eqb o hearer.resource ≡ b → is_news hearer o i ≡ ltb (slice_index (heard_by s n (history_of s events)) o) i
      by false e =
          ap (λ c. not c && (ltb o (length hearer.plant.resources) && ltb (slice_index hearer.heard o) i)) e
          ∙ ap (λ c. c && ltb (slice_index hearer.heard o) i) (lt-ltb o (length hearer.plant.resources) exists)
          ∙ ap (λ (l : List ℕ). ltb (slice_index l o) i) node.heard
      by true e =
          let own : o ≡ n = eqb-true o hearer.resource e ∙ node.resource in
          let first = element_at s.first o (let sized = world.sized in let firsts = world.firsts in omega (arith, there, sized, firsts)) in
          let heard : slice_index (heard_by s n (history_of s events)) o ≡ heard_of s n o (history_of s events) =
          index_at (heard_by s n (history_of s events)) o (heard_of s n o (history_of s events)) (heard-get s n o (history_of s events) ∙ ap (option_map (λ _. heard_of s n o (history_of s events))) first.1) in
          let is : heard_of s n o (history_of s events) ≡ incarnation_of s n (history_of s events) = ap (λ b. cond b (incarnation_of s n (history_of s events)) (greatest (slice_index s.first o) (hearings_of n o (history_of s events)))) (eq-eqb o n own) in
          let up : core.incarnation ≡ incarnation_of s n (history_of s events) = node_of.incarnation ∙ ap (λ r. incarnation_of s r (history_of s events)) own in
          ap (λ c. not c && (ltb o (length hearer.plant.resources) && ltb (slice_index hearer.heard o) i)) e
          ∙ sym (le-ltb (slice_index (heard_by s n (history_of s events)) o) i (omega (arith, heard, is, up, was, most)))

  pub restarted_at : (n last : ℕ) (core : CoreValue) → n < length cores → core ≡ get_or cores n core → last ≡ core.incarnation → last < 4294967295
      → last + 1 ≡ incarnation_of s n (history_of s (events ++ Restart n ∷ []))
  restarted_at n last core inside at was low =
      let node : IsNode s (history_of s events) (reverse log) n core = world.nodes n core (slice_get_read cores (length cores) n core refl inside at) in
      ap (λ i. i + 1) (was ∙ node.incarnation) ∙ sym (incarnation-restart s n (history_of s events))
      ∙ ap (incarnation_of s n) (sym (history-one_more s events (Restart n) (restart-lawful_at n last core inside at was low)))

-- how a done event reads on the values before and after
pub done_same : (old : WorldValue) (s : Setting) (events events2 : List Event) (log : List Evaluated) (e : Event) → world_of s events log ≡ old → is_lawful s (history_of s events) e ≡ true → events2 ≡ events ++ e ∷ []
    → IsDone old (world_of s events2 log) e old.log
done_same old s events events2 log e view lawful grown = subst (λ w. IsDone w (world_of s events2 log) e w.log) view (record { lawful = lawful; is = rw grown refl })

pub done_evaluated : (old : WorldValue) (s : Setting) (events events2 : List Event) (log log2 : List Evaluated) (e : Event) (x : Evaluated) (k : ℕ) → world_of s events log ≡ old → is_lawful s (history_of s events) e ≡ true
    → events2 ≡ events ++ e ∷ [] → log2 ≡ log ++ x ∷ [] → k ≡ length log2 → IsEvaluatedNow old (world_of s events2 log2) e k
done_evaluated old s events events2 log log2 e x k view lawful grown added at =
    subst (λ w. IsEvaluatedNow w (world_of s events2 log2) e k) view (record { made = x; done = record { lawful = lawful; is = rw (grown, added) refl }; place = at })
