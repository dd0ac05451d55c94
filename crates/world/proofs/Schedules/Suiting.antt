-- Takes that suit a code, one for each of its producers.
use Rattle.std.proofs.Common.{◌≡◌, inl, inr, ℕ, zero, suc, List, [], ◌∷◌, length, Some, None, refl, ap, sym, ◌∙◌, arith}
use Rattle.std.specs.Prelude.{slice_get}
use Rattle.std.proofs.lemmas.Option.{none-some, same_Some}
use Rattle.declared_names.specs.declared.declarations.Kind.{Kind}
use Rattle.task_codes.specs.declared.task_ref.TaskRef.{TaskRef}
use Rattle.lists.specs.Items.{items_or_none}
use Rattle.plant.specs.PlantValue.{PlantValue, AreProducersOf}
use Rattle.task_codes.specs.CodeValue.{CodeValue, AreDistinct, image_kinds}
use Rattle.evaluation.specs.declared.take.Take.{Take}
use Rattle.evaluation.specs.Takes.{initial_image, IsTakeOf, AreTakesOf}
use Rattle.lists.specs.Among.{Among}

-- one take for each producer, in order, and a take of nothing has the initial image of the kinds expected
abbrev pub Suits : List TaskRef → List (List Kind) → List Take → Type 0
Suits [] es [] = Unit {0}
Suits [] es (t ∷ ts) = ⊥
Suits (p ∷ ps) [] ts = ⊥
Suits (p ∷ ps) (kinds ∷ es) [] = ⊥
Suits (p ∷ ps) (kinds ∷ es) (t ∷ ts) = (t.producer ≡ p) × (t.from ≡ None → t.image ≡ initial_image kinds) × Suits ps es ts

suits-lists : (ps : List TaskRef) (es : List (List Kind)) (ts : List Take) → length ts ≡ length ps → ((k : ℕ) (p : TaskRef) → slice_get ps k ≡ Some p → (kinds : List Kind) × (slice_get es k ≡ Some kinds))
    → ((k : ℕ) (t : Take) (p : TaskRef) → slice_get ts k ≡ Some t → slice_get ps k ≡ Some p → IsTakeOf p (items_or_none (slice_get es k)) t) → Suits ps es ts
suits-lists [] es [] many known each = tt
suits-lists [] es (t ∷ ts) many known each = absurd (omega arith)
suits-lists (p ∷ ps) [] ts many known each = let some = known zero p refl in absurd (none-some some.0 some.1)
suits-lists (p ∷ ps) (kinds ∷ es) [] many known each = absurd (omega arith)
suits-lists (p ∷ ps) (kinds ∷ es) (t ∷ ts) many known each =
    let first : IsTakeOf p kinds t = each zero t p refl refl in
    (first.producer_is, first.initial, suits-lists ps es ts (omega arith) (λ k. known (suc k)) (λ k. each (suc k)))

-- the takes of a code of a plant suit it
pub suits : (plant : PlantValue) (code : CodeValue) (ts : List Take) → AreProducersOf plant code → AreTakesOf code ts → Suits code.producers code.expected ts
suits plant code ts given takes = suits-lists code.producers code.expected ts takes.many (λ k p at. let giver = given k p at in (image_kinds giver.0, giver.2)) takes.each

suits-at : (ps : List TaskRef) (es : List (List Kind)) (ts : List Take) → Suits ps es ts → (k : ℕ) (t : Take) → slice_get ts k ≡ Some t → slice_get ps k ≡ Some t.producer
suits-at [] es [] fit k t at = absurd (none-some t at)
suits-at [] es (u ∷ us) fit k t at = absurd fit
suits-at (p ∷ ps) [] ts fit k t at = absurd fit
suits-at (p ∷ ps) (kinds ∷ es) [] fit k t at = absurd fit
suits-at (p ∷ ps) (kinds ∷ es) (u ∷ us) fit zero t at = ap Some (sym fit.0 ∙ ap (λ v. v.producer) (same_Some u t at))
suits-at (p ∷ ps) (kinds ∷ es) (u ∷ us) fit (suc k) t at = suits-at ps es us fit.2 k t at

among-at : {X : Type 0} (x : X) (xs : List X) → Among x xs → (k : ℕ) × (slice_get xs k ≡ Some x)
among-at x [] among = elim among [ ]
among-at x (y ∷ ys) (inl same) = (zero, ap Some same)
among-at x (y ∷ ys) (inr among) = let later = among-at x ys among in (suc later.0, later.1)

-- where no producer stands twice, takes of one producer are one take
pub single : (ps : List TaskRef) (es : List (List Kind)) (ts : List Take) → AreDistinct ps → Suits ps es ts → (t u : Take) → Among t ts → Among u ts → t.producer ≡ u.producer → t ≡ u
single ps es ts apart fit t u in_t in_u e =
    let a = among-at t ts in_t in
    let b = among-at u ts in_u in
    let same : a.0 ≡ b.0 = apart a.0 b.0 t.producer (suits-at ps es ts fit a.0 t a.1) (suits-at ps es ts fit b.0 u b.1 ∙ ap Some (sym e)) in
    same_Some t u (sym a.1 ∙ ap (slice_get ts) same ∙ b.1)
