-- Which events make the entries of a book again. Entries stand with the newest first.
use Rattle.std.specs.Prelude.{ℕ, suc, ◌-◌, nat_lt, slice_index, Bool, false, ◌==◌, ◌&&◌, List, [], ◌∷◌, ◌++◌, Option, Some, None, length, replicate, if◌then◌else◌}
use Rattle.std.specs.List.{list_any, find, flat_map, enumerate_from}
use Rattle.std.specs.Option.{option_and_then}
use Rattle.task_codes.specs.declared.task_ref.TaskRef.{TaskRef}
use Rattle.evaluation.specs.declared.name.Name.{Name}
use Rattle.evaluation.specs.declared.take.Take.{Take}
use Rattle.evaluation.specs.Meaning.{Evaluated}
use Rattle.evaluation.specs.Last.{same_task, from_of}
use Rattle.book.specs.Fits.{present_in}
use Rattle.world.specs.declared.event.Event.{Event}
use Rattle.world.specs.declared.event.Event.TheVariants.{Evaluate, Deliver, Restart, Hear}

-- whether this incarnation and number were taken
abbrev pub is_from : Option (ℕ × ℕ) → ℕ × ℕ → Bool
is_from None f = false
is_from (Some e) f = e.0 == f.0 && e.1 == f.1

-- the message of a task's evaluation of this incarnation and number, 0 where there is none
abbrev pub message_of : List Evaluated → TaskRef → ℕ × ℕ → ℕ
message_of [] q f = 0
message_of (y ∷ older) q f =
    if same_task y.name.task q && is_from (from_of (Some y)) f then suc (length older) else message_of older q f

-- the incarnation and number taken of a producer
abbrev pub taken_in : TaskRef → List Take → Option (ℕ × ℕ)
taken_in q takes = option_and_then (λ (u : Take). u.from) (find (λ (u : Take). same_task u.producer q) takes)

-- an entry of this name's resource and incarnation, which took from this producer
abbrev pub has_taken_from : Name → TaskRef → Evaluated → Bool
has_taken_from name q y =
    y.name.task.resource == name.task.resource
    && (y.name.incarnation == name.incarnation && list_any (λ (u : Take). same_task u.producer q) y.takes)

-- what was taken last of a producer at this name's resource, in its incarnation
abbrev pub last_taken : List Evaluated → Name → TaskRef → Option (ℕ × ℕ)
last_taken older name q = option_and_then (λ (y : Evaluated). taken_in q y.takes) (find (has_taken_from name q) older)

-- the delivery of what is taken of a producer, unless that is nothing or was taken last
abbrev pub delivery_from : List Evaluated → Name → TaskRef → Option (ℕ × ℕ) → List Event
delivery_from older name q None = []
delivery_from older name q (Some f) =
    if is_from (last_taken older name q) f then [] else Deliver (message_of older q f) name.task.resource ∷ []

-- the delivery that a take needs; none from the own resource
abbrev pub delivery : List Evaluated → Name → Take → List Event
delivery older name t =
    if t.producer.resource == name.task.resource then [] else delivery_from older name t.producer t.from

-- the deliveries that these takes need, in their order
abbrev pub deliveries : List Evaluated → Name → List Take → List Event
deliveries older name takes = flat_map (delivery older name) takes

-- an entry of this name's resource and incarnation
abbrev pub is_of_node : Name → Evaluated → Bool
is_of_node name y = y.name.task.resource == name.task.resource && y.name.incarnation == name.incarnation

-- what an entry has heard of m; without an entry m's first incarnation
abbrev pub known_from : ℕ → Option Evaluated → ℕ → ℕ
known_from first None m = first
known_from first (Some y) m = slice_index y.heard m

-- what this name's resource has heard of m in its incarnation: what its newest entry in it has; else m's first one
abbrev pub known_of : List ℕ → List Evaluated → Name → ℕ → ℕ
known_of first older name m = known_from (slice_index first m) (find (is_of_node name) older) m

-- the restarts that bring resource n to an incarnation
abbrev pub restarts : List ℕ → List Evaluated → ℕ → ℕ → List Event
restarts first older n incarnation = replicate (incarnation - present_in first older n) (Restart n)

-- what resource n needs to hear that m is in an incarnation: the restarts that bring m to it from its present one,
-- and a Hear where n knows of a lower one
abbrev pub hearing_of : ℕ → ℕ → ℕ → ℕ → ℕ → List Event
hearing_of n m present known incarnation =
    replicate (incarnation - present) (Restart m) ++ (if nat_lt known incarnation then Hear n m incarnation ∷ [] else [])

-- what this name's resource needs to have heard this incarnation of m; nothing of itself
abbrev pub hearing : List ℕ → List Evaluated → Name → ℕ × ℕ → List Event
hearing first older name e =
    if e.0 == name.task.resource then []
    else hearing_of name.task.resource e.0 (present_in first older e.0) (known_of first older name e.0) e.1

-- what it needs to have heard these incarnations, one for each resource in order
abbrev pub hearings : List ℕ → List Evaluated → Name → List ℕ → List Event
hearings first older name heard = flat_map (hearing first older name) (enumerate_from 0 heard)

-- the events of an entry: the restarts that bring its resource to its incarnation, the restarts of others and the
-- hearings that it needs to have heard what it has, the deliveries that its takes need, and its evaluation
abbrev pub events_of : List ℕ → List Evaluated → Evaluated → List Event
events_of first older x =
    restarts first older x.name.task.resource x.name.incarnation
    ++ (hearings first older x.name x.heard
    ++ (deliveries older x.name x.takes ++ Evaluate x.ticket x.name.task x.dt x.inputs ∷ []))

-- the events of all entries, in their order
abbrev pub schedule_of : List ℕ → List Evaluated → List Event
schedule_of first [] = []
schedule_of first (x ∷ older) = schedule_of first older ++ events_of first older x
