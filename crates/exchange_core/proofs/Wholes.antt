-- Tables in which all is known as a whole.
use Rattle.std.proofs.Common.{◌≡◌, ℕ, zero, suc, List, [], ◌∷◌, length, map, replicate, get_or, set, Option, Some, None, refl, ap, sym, ◌∙◌}
use Rattle.std.specs.Option.{option_map, option_and_then}
use Rattle.std.proofs.lemmas.List.{map-set}
use Rattle.std.proofs.Math.ListN.{get_or-map}
use Rattle.lists.proofs.Tables.{cell_map}
use Rattle.task_codes.specs.declared.task_ref.TaskRef.{TaskRef}
use Rattle.plant.specs.PlantValue.{ResourceValue, PlantValue}
use Rattle.evaluation.specs.Meaning.{Evaluated}
use Rattle.evaluation.specs.Messages.{message_of}
use Rattle.exchange_core.specs.declared.last.Last.{Last}
use Rattle.exchange_core.specs.declared.last.Last.TheVariants.{Whole}
use Rattle.exchange_core.specs.HeldMessages.{at_task, with_task, nothing_for, whole_in, message_in}
use Rattle.exchange_core.specs.HeldMessages as messages
use Rattle.exchange_core.specs.Held.{known, with_known}
use Rattle.exchange_core.specs.Wholes.{wholes, as_wholes, AreWhole}

-- a table with one thing more, of which each place was changed alike
with-map : {X Y : Type 0} (f : Option X → Option Y) (table : List (List (Option X))) (p : TaskRef) (last : Option X) → map (map f) (with_task table p last) ≡ with_task (map (map f) table) p (f last)
with-map f table p last =
    map-set (map f) table p.resource (set (get_or table p.resource []) p.task last)
    ∙ ap (set (map (map f) table) p.resource)
    (map-set f (get_or table p.resource []) p.task last ∙ ap (λ row. set row p.task (f last)) (sym (get_or-map (map f) table p.resource [])))

-- an empty table stays empty
nothing-map : {X Y : Type 0} (f : Option X → Option Y) (plant : PlantValue) → f None ≡ None → map (map f) (nothing_for plant) ≡ nothing_for plant
nothing-map {X} {Y} f plant none = rows plant.resources where
  row : (n : ℕ) → map f (replicate n None) ≡ replicate n None
  row zero = refl
  row (suc n) = rw (none, row n) refl

  rows : (rs : List ResourceValue) → map (map f) (map (λ (r : ResourceValue). replicate (length r.codes) None) rs) ≡ map (λ (r : ResourceValue). replicate (length r.codes) None) rs
  rows [] = refl
  rows (r ∷ rs) = rw (row (length r.codes), rows rs) refl

abbrev whole : Option Last → Option Evaluated
whole o = option_and_then whole_in o

abbrev as_whole : Option Evaluated → Option Last
as_whole o = option_map Whole o

pub wholes-at : (table : messages.Table) (p : TaskRef) → known (wholes table) p ≡ option_and_then whole_in (messages.known table p)
wholes-at table p = cell_map whole table p.resource p.task None None refl

pub wholes-with : (table : messages.Table) (p : TaskRef) (x : Evaluated) → wholes (messages.with_known table p (Some (Whole x))) ≡ with_known (wholes table) p (Some x)
wholes-with table p x = with-map whole table p (Some (Whole x))

pub wholes-nothing : (plant : PlantValue) → wholes (nothing_for plant) ≡ nothing_for plant
wholes-nothing plant = nothing-map whole plant refl

pub are-whole-nothing : (plant : PlantValue) → AreWhole (nothing_for plant)
are-whole-nothing plant = sym (ap as_wholes (nothing-map whole plant refl) ∙ nothing-map as_whole plant refl)

pub are-whole-with : (table : messages.Table) (p : TaskRef) (x : Evaluated) → AreWhole table → AreWhole (messages.with_known table p (Some (Whole x)))
are-whole-with table p x are =
    ap (λ t. messages.with_known t p (Some (Whole x))) are
    ∙ sym (with-map as_whole (wholes table) p (Some x))
    ∙ sym (ap as_wholes (wholes-with table p x))

-- what is known as a whole is known by its message
pub messages-at : (table : messages.Table) (p : TaskRef) → AreWhole table → messages.message_known table p ≡ option_map message_of (known (wholes table) p)
messages-at table p are =
    ap (option_map message_in) (ap (λ t. at_task t p) are ∙ cell_map as_whole (wholes table) p.resource p.task None None refl) ∙ by (known (wholes table) p)
  where
    by : (o : Option Evaluated) → option_map message_in (as_whole o) ≡ option_map message_of o
    by None = refl
    by (Some x) = refl
