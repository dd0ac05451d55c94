-- What a core holds is the latest.
use Rattle.std.proofs.Common.{◌≡◌, ◌≤◌, ℕ, Bool, true, false, cond, ◌||◌, List, [], ◌∷◌, ◌++◌, length, Option, Some, None, refl, ap, sym, ◌∙◌, subst, eqb, ◌&&◌, suc}
use Rattle.std.specs.Prelude.{reverse, Contains, IfSome}
use Rattle.std.specs.List.{list_any}
use Rattle.std.specs.Option.{option_map}
use Rattle.std.proofs.lemmas.List.{reverse-append, reverse-reverse}
use Rattle.std.proofs.lemmas.List.Elements.{Contains-push, Contains-append_left}
use Rattle.std.proofs.lemmas.Option.{none-some, same_Some, slice_get_past}
use Rattle.task_codes.specs.declared.task_ref.TaskRef.{TaskRef}
use Rattle.lists.specs.Items.{items_or_none}
use Rattle.plant.specs.PlantValue.{ResourceValue}
use Rattle.task_codes.specs.CodeValue.{CodeValue}
use Rattle.evaluation.specs.Meaning.{Evaluated}
use Rattle.evaluation.specs.Last.{same_task}
use Rattle.exchange_core.specs.Held.{known}
use Rattle.exchange_core.specs.CoreValue.{CoreValue, held_of}
use Rattle.world.specs.History.{history_of}
use Rattle.world.specs.Run.{has_reached, last_among}
use Rattle.world.specs.World.{WorldValue, node_takes, latest_at, held_at}
use Rattle.world.specs.Steps.Nodes.{IsNode}

-- a core of the world holds the latest
pub held-node : (w : WorldValue) (n : ℕ) (core : CoreValue) (p : TaskRef) → IsNode w.setting (history_of w.setting w.events) (reverse w.log) n core → held_of core p ≡ held_at w n p
held-node w n core p node =
    ap (λ m. cond (eqb p.resource m) None (known_of core)) node.resource
    ∙ by (eqb p.resource n) (node_takes w.setting.plant n p) (node.keeps p) where
      known_of : CoreValue → Option Evaluated
      known_of c = known c.table p

      by : (b t : Bool) → known_of core ≡ cond (b || t) (latest_at w n p) None → cond b None (known_of core) ≡ cond b None (cond t (latest_at w n p) None)
      by true t e = refl
      by false t e = e

-- nobody takes at a resource that there isn't
pub held-nowhere : (w : WorldValue) (n : ℕ) (p : TaskRef) → length w.setting.plant.resources ≤ n → held_at w n p ≡ None
held-nowhere w n p past = by (eqb p.resource n) (node_takes w.setting.plant n p) nobody where
  nobody : node_takes w.setting.plant n p ≡ false
  nobody = ap (λ (o : Option ResourceValue). list_any (λ (c : CodeValue). list_any (λ q. same_task q p) c.producers) (items_or_none (option_map (λ (r : ResourceValue). r.codes) o))) (slice_get_past w.setting.plant.resources n past)

  by : (b t : Bool) → t ≡ false → cond b None (cond t (latest_at w n p) None) ≡ None
  by true t e = refl
  by false t e = rw e

-- the last one that passes is in the log
last_in-log : (p : TaskRef) (passes : ℕ → Evaluated → Bool) (log : List Evaluated) (x : Evaluated) → last_among p passes log ≡ Some x → Contains (reverse log) x
last_in-log p passes [] x e = absurd (none-some x e)
last_in-log p passes (y ∷ older) x e = subst (λ l. Contains l x) (sym turned) (by (same_task y.name.task p && passes (suc (length older)) y) e (last_in-log p passes older x)) where
  turned : reverse (y ∷ older) ≡ reverse older ++ y ∷ []
  turned = reverse-append (y ∷ []) older

  by : (b : Bool) → cond b (Some y) (last_among p passes older) ≡ Some x → (last_among p passes older ≡ Some x → Contains (reverse older) x) → Contains (reverse older ++ y ∷ []) x
  by true f ih = subst (Contains (reverse older ++ y ∷ [])) (same_Some y x f) (Contains-push (reverse older) y)
  by false f ih = Contains-append_left (reverse older) (y ∷ []) x (ih f)

-- what is held is an entry of the log
pub held-entry : (w : WorldValue) (n : ℕ) (p : TaskRef) (x : Evaluated) → held_at w n p ≡ Some x → Contains w.log x
held-entry w n p x e = by (eqb p.resource n) (node_takes w.setting.plant n p) e where
  by : (b t : Bool) → cond b None (cond t (latest_at w n p) None) ≡ Some x → Contains w.log x
  by true t f = absurd (none-some x f)
  by false false f = absurd (none-some x f)
  by false true f = subst (λ l. Contains l x) (reverse-reverse w.log) (last_in-log p (has_reached w.setting n (history_of w.setting w.events)) (reverse w.log) x f)

-- so is what a call hands out
pub entry-given : {B : Type 0} (given : B → Evaluated) (o : Option B) (w : WorldValue) (n : ℕ) (p : TaskRef) → option_map given o ≡ held_at w n p → IfSome o (λ b. Contains w.log (given b))
entry-given given None w n p e = tt
entry-given given (Some b) w n p e = held-entry w n p (given b) (sym e)
