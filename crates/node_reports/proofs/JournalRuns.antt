-- What lawful journals made could have been made, entry by entry of the book.
use Rattle.std.proofs.Common.{◌≡◌, ℕ, ◌<◌, ◌≤◌, Bool, true, false, cond, eqb, ◌&&◌, ◌++◌, List, [], ◌∷◌, reverse, Some, None, refl, ap, sym, ◌∙◌, subst, arith}
use Rattle.std.proofs.lemmas.Bool.{eq-eqb}
use Rattle.std.proofs.lemmas.Bool.Decides.{nat_tests}
use Rattle.std.proofs.lemmas.List.{append-nil, reverse-append}
use Rattle.std.proofs.lemmas.List.Elements.{filter-append}
use Rattle.std_blocks.specs.declared.value.Value.{Value}
use Rattle.task_codes.specs.declared.task_ref.TaskRef.{TaskRef}
use Rattle.plant.specs.PlantValue.{PlantValue}
use Rattle.evaluation.specs.Meaning.{Evaluated}
use Rattle.evaluation.specs.Last.{same_task}
use Rattle.std.specs.List.{AllByRecursion, filter}
use Rattle.node_reports.specs.Steps.Appended.{made-append}
use Rattle.book.specs.Fits.{last_in}
use Rattle.node_reports.specs.declared.step.Step.{Step}
use Rattle.node_reports.specs.declared.step.Step.TheVariants.{Took, Made, Restarted, Heard}
use Rattle.node_reports.specs.Journals.{incarnation_after, made, newest, made_of, last_made, IsNextMade, Follows, EachAfter}
use Rattle.world.specs.Run.{last_of}
use Rattle.node_reports.specs.Reports.{entries_of}

-- no evaluation of a lawful journal is of a later incarnation than the present one
pub below_present : (plant : PlantValue) (firsts : List ℕ) (max_number resource first : ℕ) (opening : List (List Value)) (steps : List Step) → EachAfter (Follows plant firsts max_number resource first opening) steps
    → AllByRecursion (λ (y : Evaluated). y.name.incarnation ≤ incarnation_after first steps) (made steps)
below_present plant firsts max_number resource first opening [] lawful = tt
below_present plant firsts max_number resource first opening (Took x ∷ steps) lawful = below_present plant firsts max_number resource first opening steps lawful.1
below_present plant firsts max_number resource first opening (Heard of heard ∷ steps) lawful = below_present plant firsts max_number resource first opening steps lawful.1
below_present plant firsts max_number resource first opening (Made x ∷ steps) lawful = (let is = lawful.0.incarnation_is in omega arith, below_present plant firsts max_number resource first opening steps lawful.1)
below_present plant firsts max_number resource first opening (Restarted ticket incarnation ∷ steps) lawful = by (made steps) (below_present plant firsts max_number resource first opening steps lawful.1) where
  by : (ys : List Evaluated) → AllByRecursion (λ (y : Evaluated). y.name.incarnation ≤ incarnation_after first steps) ys → AllByRecursion (λ (y : Evaluated). y.name.incarnation ≤ incarnation) ys
  by [] low = tt
  by (y ∷ ys) low = (let here = low.0 in let raised = lawful.0 in omega arith, by ys low.1)

and_false : (b : Bool) → (b && false) ≡ false
and_false true = refl
and_false false = refl

-- in an incarnation above all of these there is no last one
last_above : (t : TaskRef) (most incarnation : ℕ) → most < incarnation → (ys : List Evaluated) → AllByRecursion (λ (y : Evaluated). y.name.incarnation ≤ most) ys → last_in ys t incarnation ≡ None
last_above t most incarnation above [] below = refl
last_above t most incarnation above (y ∷ ys) below =
    let lower = below.0 in
    let other : (eqb y.name.incarnation incarnation) ≡ false = grind (arith, nat_tests) in
    ap (λ b. cond (same_task y.name.task t && b) (Some y) (last_in ys t incarnation)) other
    ∙ ap (λ b. cond b (Some y) (last_in ys t incarnation)) (and_false (same_task y.name.task t))
    ∙ last_above t most incarnation above ys below.1

-- what a lawful journal made last of a task since its last restart is the last one in the present incarnation
pub last_made_is : (plant : PlantValue) (firsts : List ℕ) (max_number resource first : ℕ) (opening : List (List Value)) (t : TaskRef) (steps : List Step) → EachAfter (Follows plant firsts max_number resource first opening) steps
    → last_made t steps ≡ last_in (made steps) t (incarnation_after first steps)
last_made_is plant firsts max_number resource first opening t [] lawful = refl
last_made_is plant firsts max_number resource first opening t (Took x ∷ steps) lawful = last_made_is plant firsts max_number resource first opening t steps lawful.1
last_made_is plant firsts max_number resource first opening t (Heard of heard ∷ steps) lawful = last_made_is plant firsts max_number resource first opening t steps lawful.1
last_made_is plant firsts max_number resource first opening t (Made x ∷ steps) lawful =
    by (same_task x.name.task t) (eqb x.name.incarnation (incarnation_after first steps)) (eq-eqb x.name.incarnation (incarnation_after first steps) lawful.0.incarnation_is)
    (last_made_is plant firsts max_number resource first opening t steps lawful.1)
  where
    by : (b c : Bool) → c ≡ true → last_made t steps ≡ last_in (made steps) t (incarnation_after first steps)
        → newest (cond b (x ∷ made_of t steps) (made_of t steps)) ≡ cond (b && c) (Some x) (last_in (made steps) t (incarnation_after first steps))
    by true c now before = rw now refl
    by false c now before = before
last_made_is plant firsts max_number resource first opening t (Restarted ticket incarnation ∷ steps) lawful =
    sym (last_above t (incarnation_after first steps) incarnation lawful.0 (made steps) (below_present plant firsts max_number resource first opening steps lawful.1))

-- An evaluation of a lawful journal, in front of older ones: it is the next one after the steps that made those.
pub record IsMadeAfter (plant : PlantValue) (firsts : List ℕ) (max_number resource first : ℕ) (opening : List (List Value)) (x : Evaluated) (older : List Evaluated) : Type 0 where
  pub before : List Step
  pub next : IsNextMade plant firsts max_number resource first opening before x
  pub lawful : EachAfter (Follows plant firsts max_number resource first opening) before
  pub made_is : made before ≡ older

pub made_after : (plant : PlantValue) (firsts : List ℕ) (max_number resource first : ℕ) (opening : List (List Value)) (x : Evaluated) (older : List Evaluated) (steps : List Step) (newer : List Evaluated)
    → EachAfter (Follows plant firsts max_number resource first opening) steps → made steps ≡ newer ++ x ∷ older → IsMadeAfter plant firsts max_number resource first opening x older
made_after plant firsts max_number resource first opening x older [] [] lawful is = absurd cc
made_after plant firsts max_number resource first opening x older [] (y ∷ newer) lawful is = absurd cc
made_after plant firsts max_number resource first opening x older (Took z ∷ steps) newer lawful is = made_after plant firsts max_number resource first opening x older steps newer lawful.1 is
made_after plant firsts max_number resource first opening x older (Heard of heard ∷ steps) newer lawful is = made_after plant firsts max_number resource first opening x older steps newer lawful.1 is
made_after plant firsts max_number resource first opening x older (Restarted ticket incarnation ∷ steps) newer lawful is = made_after plant firsts max_number resource first opening x older steps newer lawful.1 is
made_after plant firsts max_number resource first opening x older (Made z ∷ steps) [] lawful is =
    let same : z ≡ x = cc in
    let rest : made steps ≡ older = cc in
    record { before = steps; next = subst (IsNextMade plant firsts max_number resource first opening steps) same lawful.0; lawful = lawful.1; made_is = rest }
made_after plant firsts max_number resource first opening x older (Made z ∷ steps) (y ∷ newer) lawful is =
    let rest : made steps ≡ newer ++ x ∷ older = cc in
    made_after plant firsts max_number resource first opening x older steps newer lawful.1 rest

pub made-reverse : (steps : List Step) → made (reverse steps) ≡ reverse (made steps)
made-reverse [] = refl
made-reverse (Took x ∷ steps) =
    ap made (reverse-append (Took x ∷ []) steps) ∙ made-append (reverse steps) (Took x ∷ []) ∙ append-nil (made (reverse steps)) ∙ made-reverse steps
made-reverse (Heard of heard ∷ steps) =
    ap made (reverse-append (Heard of heard ∷ []) steps) ∙ made-append (reverse steps) (Heard of heard ∷ []) ∙ append-nil (made (reverse steps)) ∙ made-reverse steps
made-reverse (Made x ∷ steps) =
    ap made (reverse-append (Made x ∷ []) steps) ∙ made-append (reverse steps) (Made x ∷ []) ∙ ap (λ xs. xs ++ x ∷ []) (made-reverse steps) ∙ sym (reverse-append (x ∷ []) (made steps))
made-reverse (Restarted ticket incarnation ∷ steps) =
    ap made (reverse-append (Restarted ticket incarnation ∷ []) steps) ∙ made-append (reverse steps) (Restarted ticket incarnation ∷ []) ∙ append-nil (made (reverse steps)) ∙ made-reverse steps

pub entries-reverse : (resource : ℕ) (xs : List Evaluated) → entries_of resource (reverse xs) ≡ reverse (entries_of resource xs)
entries-reverse resource [] = refl
entries-reverse resource (x ∷ xs) =
    ap (entries_of resource) (reverse-append (x ∷ []) xs)
    ∙ filter-append (λ (y : Evaluated). eqb y.name.task.resource resource) (reverse xs) (x ∷ [])
    ∙ by (eqb x.name.task.resource resource) (entries-reverse resource xs)
  where
    by : (b : Bool) → entries_of resource (reverse xs) ≡ reverse (entries_of resource xs)
        → entries_of resource (reverse xs) ++ cond b (x ∷ []) [] ≡ reverse (cond b (x ∷ entries_of resource xs) (entries_of resource xs))
    by true rest = ap (λ ys. ys ++ x ∷ []) rest ∙ sym (reverse-append (x ∷ []) (entries_of resource xs))
    by false rest = append-nil (entries_of resource (reverse xs)) ∙ rest

-- an entry of a resource parts the resource's entries
pub entries-part : (newer older : List Evaluated) (x : Evaluated)
    → entries_of x.name.task.resource (newer ++ x ∷ older) ≡ entries_of x.name.task.resource newer ++ x ∷ entries_of x.name.task.resource older
entries-part newer older x =
    let r = x.name.task.resource in
    filter-append (λ (y : Evaluated). eqb y.name.task.resource r) newer (x ∷ older)
    ∙ ap (λ b. entries_of r newer ++ cond b (x ∷ entries_of r older) (entries_of r older)) (eq-eqb r r refl)

-- the last one of a task stands among the entries of its resource
pub last_in-entries : (t : TaskRef) (incarnation : ℕ) (ys : List Evaluated) → last_in (entries_of t.resource ys) t incarnation ≡ last_in ys t incarnation
last_in-entries t incarnation [] = refl
last_in-entries t incarnation (y ∷ ys) = by (eqb y.name.task.resource t.resource) refl (last_in-entries t incarnation ys)
  where
    by : (b : Bool) → eqb y.name.task.resource t.resource ≡ b → last_in (entries_of t.resource ys) t incarnation ≡ last_in ys t incarnation
        → last_in (cond b (y ∷ entries_of t.resource ys) (entries_of t.resource ys)) t incarnation ≡ last_in (y ∷ ys) t incarnation
    by true e rest = ap (λ o. cond (same_task y.name.task t && eqb y.name.incarnation incarnation) (Some y) o) rest
    by false e rest = rest ∙ sym (ap (λ b. cond ((b && eqb y.name.task.task t.task) && eqb y.name.incarnation incarnation) (Some y) (last_in ys t incarnation)) e)

-- the last one of a task, in whatever incarnation, stands among the entries of its resource
pub last_of-entries : (t : TaskRef) (ys : List Evaluated) → newest (filter (λ (y : Evaluated). same_task y.name.task t) (entries_of t.resource ys)) ≡ last_of t ys
last_of-entries t [] = refl
last_of-entries t (y ∷ ys) = by (eqb y.name.task.resource t.resource) refl (last_of-entries t ys)
  where
    passing : List Evaluated → List Evaluated
    passing zs = filter (λ (z : Evaluated). same_task z.name.task t) zs

    of : (b : Bool) → same_task y.name.task t ≡ b → newest (passing (entries_of t.resource ys)) ≡ last_of t ys
        → newest (cond b (y ∷ passing (entries_of t.resource ys)) (passing (entries_of t.resource ys))) ≡ cond b (Some y) (last_of t ys)
    of true e rest = refl
    of false e rest = rest

    by : (b : Bool) → eqb y.name.task.resource t.resource ≡ b → newest (passing (entries_of t.resource ys)) ≡ last_of t ys
        → newest (passing (cond b (y ∷ entries_of t.resource ys) (entries_of t.resource ys))) ≡ last_of t (y ∷ ys)
    by true e rest = of (same_task y.name.task t) refl rest
    by false e rest = rest ∙ sym (ap (λ b. cond (b && eqb y.name.task.task t.task) (Some y) (last_of t ys)) e)
