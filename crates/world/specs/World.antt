-- What a world is, to a contract: its setting, the events that were done, and the evaluations made, in their order.
use Rattle.std.specs.Prelude.{ℕ, ◌==◌, Bool, List, [], Option, None, reverse, if◌then◌else◌}
use Rattle.std.specs.List.{list_any}
use Rattle.task_codes.specs.declared.task_ref.TaskRef.{TaskRef}
use Rattle.plant.specs.PlantValue.{PlantValue, codes_at}
use Rattle.task_codes.specs.CodeValue.{CodeValue}
use Rattle.evaluation.specs.Meaning.{Evaluated}
use Rattle.evaluation.specs.Last.{same_task}
use Rattle.world.specs.declared.event.Event.{Event}
use Rattle.world.specs.History.{Setting, Openings, setting_over, history_of}
use Rattle.world.specs.Run.{latest}

pub record WorldValue : Type 0 where
  pub setting : Setting
  pub events : List Event
  pub log : List Evaluated

-- the world of this setting, in which these events were done and these evaluations made
abbrev pub world_of : Setting → List Event → List Evaluated → WorldValue
world_of s events log = record { setting = s; events = events; log = log }

-- a world before its first event
abbrev pub fresh_world : PlantValue → List ℕ → Openings → ℕ → WorldValue
fresh_world plant first opening max_number = world_of (setting_over plant first opening max_number) [] []

-- whether some task of resource n takes from task p
abbrev pub node_takes : PlantValue → ℕ → TaskRef → Bool
node_takes plant n p = list_any (λ (c : CodeValue). list_any (λ q. same_task q p) c.producers) (codes_at plant n)

-- the latest of task p at resource n after all events
abbrev pub latest_at : WorldValue → ℕ → TaskRef → Option Evaluated
latest_at w n p = latest w.setting n (history_of w.setting w.events) p (reverse w.log)

-- what resource n holds of task p: the latest, if p is another resource's and n takes from it; else nothing
abbrev pub held_at : WorldValue → ℕ → TaskRef → Option Evaluated
held_at w n p = if p.resource == n then None else if node_takes w.setting.plant n p then latest_at w n p else None
