-- What was made has no memory to wait in, or stands behind what was noted.
use Rattle.std.proofs.Common.{◌≢◌, ℕ, List, [], Option, Some, None, inl, inr, refl}
use Rattle.std.specs.Io.KnownBytes.{Keeps}
use Rattle.evaluation.specs.declared.field_input.FieldInput.{FieldInput}
use Rattle.plant.specs.PlantValue.{PlantValue}
use Rattle.live_node.specs.NodeAnswers.{Raising}
use Rattle.live_node.specs.NodeValue.{NodeValue}
use Rattle.live_node.specs.Syncing.{Grows}
use Rattle.live_node.specs.declared.live_stop.LiveStop.TheVariants.{Node}
use Rattle.live_node.specs.declared.node_stop.NodeStop.{NodeStop}
use Rattle.live_node.specs.declared.node_stop.NodeStop.TheVariants.{Memory}
use Rattle.live_node.specs.Steps.Growing.{keeps_grow}
use Rattle.live_node.specs.Steps.Unanswered.{unanswered_noted, unheld}
use Rattle.cycle.specs.declared.asked.Asked.{Asked}
use Rattle.cycle.specs.declared.origin.Origin.{Origin}
use Rattle.cycle.specs.declared.origin.Origin.TheVariants.{Field, Neighbours}
use Rattle.cycle.specs.declared.origin.Verdict.{Verdict}
use Rattle.cycle.specs.declared.origin.Verdict.TheVariants.{Answer, Tell, Refuse}
use Rattle.cycle.specs.FieldTexts.{cycle_line}
use Rattle.cycle.specs.Origins.{verdict_of, word_of_line}
use Rattle.field_node.specs.declared.field_node.FieldNode.{FieldNode}
use Rattle.field_node.specs.FieldAnswers.{Answering, IsAnsweredFrom, IsDone, IsUnanswered, IsUndone, WantsMemory, task_of}
use Rattle.field_node.specs.FieldNodes.{inlets_of}
use Rattle.node_loop.specs.declared.loop_stop.LoopStop.TheVariants.{Live}
use Rattle.node_loop.specs.declared.told.Told.{Told}
use Rattle.node_loop.specs.declared.told.Told.TheVariants.{Line, TooLong, End, Unread}
use Rattle.node_loop.specs.Given.{Turn, Reads, Takes}
use Rattle.node_loop.specs.Loops.{condition_of, setting_of}
use Rattle.node_loop.specs.Turns.{AnswersTold, Condition, Makes, Setting, answer_between}
use Rattle.node_loop.specs.Stops.{Undoes, UndoesTold}
use Rattle.node_loop.specs.Steps.Following.{MadeOf, NotMadeOf}

no_memory : (noted_old noted_new : Option (List ℕ)) → Keeps noted_old noted_new → WantsMemory Memory noted_old noted_new
no_memory noted_old noted_new unnoted = record { cause = refl; unnoted = unnoted }

unheld_line : (raising : Raising) (verdict : Verdict) (line : List ℕ) (a : Answering) → IsAnsweredFrom raising verdict line a → IsUnanswered raising verdict a.old line Memory a.noted_old a.noted_new
unheld_line raising Answer line a h = unheld raising a.old a.new line a.noted_old a.noted_new a.from a.to h.0
unheld_line raising Tell line a h = no_memory a.noted_old a.noted_new h.0.unnoted
unheld_line raising (Refuse refusal) line a h = no_memory a.noted_old a.noted_new h.0.unnoted

unheld_evaluation : (raising : Raising) (plant : PlantValue) (resource : ℕ) (asked : Option Asked) (a : Answering) → IsDone raising plant resource asked a → IsUndone raising plant resource asked a.field_old a.old Memory a.noted_old a.noted_new
unheld_evaluation raising plant resource None a h = no_memory a.noted_old a.noted_new h.0.unnoted
unheld_evaluation raising plant resource (Some asked) a h = inr (unheld raising a.old a.new (cycle_line plant (task_of resource asked) asked.dt a.field_old) a.noted_old a.noted_new _ a.to h)

unheld_told : (raising : Raising) (set : Setting) (old new : Condition) (origin : Origin) (told : Told) (text : List ℕ) → AnswersTold raising set old new origin told text → text ≢ [] → UndoesTold raising set old origin told Memory new.noted
unheld_told raising set old new origin (Line line) text h some = unheld_line raising (verdict_of (inlets_of set.has_field old.cycle) origin (word_of_line line.items)) line.items (answer_between old new text) h.answered
unheld_told raising set old new origin TooLong text h some = no_memory old.noted new.noted h.0.unnoted
unheld_told raising set old new Field End text h some = (refl, no_memory old.noted new.noted h.0.unnoted)
unheld_told raising set old new Neighbours End text h some = absurd (some h.1)
unheld_told raising set old new Field (Unread why) text h some = (refl, no_memory old.noted new.noted h.0.unnoted)
unheld_told raising set old new Neighbours (Unread why) text h some = absurd h

unheld_turn : (raising : Raising) (set : Setting) (old new : Condition) (turn : Turn) (text : List ℕ) → Makes raising set old new turn text → text ≢ [] → Undoes raising set old turn Memory new.noted
unheld_turn raising set old new (Reads reading) text h some =
    record { cycle = new.cycle; stops = record { asked = h.asked; asks = h.asks; undone = unheld_evaluation raising set.plant set.resource h.asked (answer_between old new text) h.done } }
unheld_turn raising set old new (Takes origin told) text h some = unheld_told raising set old new origin told text h some

-- what was made of a turn has no memory to wait in
pub unheld_made : {K N : Type 0} (raising : Raising) (a b : FieldNode K N) (turn : Turn) (noted_old noted_new : Option (List ℕ)) (text : List ℕ) → MadeOf raising a b turn noted_old noted_new text → text ≢ [] → NotMadeOf raising a turn noted_old noted_new (Live (Node Memory))
unheld_made raising a b turn noted_old noted_new text h some = unheld_turn raising (setting_of a) (condition_of a noted_old) (condition_of b noted_new) turn text h.made some

wants_grow : (why : NodeStop) (noted_old noted_new : Option (List ℕ)) → WantsMemory why noted_old noted_new → Grows noted_old noted_new
wants_grow why noted_old noted_new h = keeps_grow noted_old noted_new h.unnoted

line_grows : (raising : Raising) (verdict : Verdict) (s : NodeValue) (line : List ℕ) (why : NodeStop) (noted_old noted_new : Option (List ℕ)) → IsUnanswered raising verdict s line why noted_old noted_new → Grows noted_old noted_new
line_grows raising Answer s line why noted_old noted_new h = unanswered_noted raising s line why noted_old noted_new h
line_grows raising Tell s line why noted_old noted_new h = wants_grow why noted_old noted_new h
line_grows raising (Refuse refusal) s line why noted_old noted_new h = wants_grow why noted_old noted_new h

evaluation_grows : (raising : Raising) (plant : PlantValue) (resource : ℕ) (asked : Option Asked) (field : List FieldInput) (s : NodeValue) (why : NodeStop) (noted_old noted_new : Option (List ℕ)) → IsUndone raising plant resource asked field s why noted_old noted_new → Grows noted_old noted_new
evaluation_grows raising plant resource None field s why noted_old noted_new h = wants_grow why noted_old noted_new h
evaluation_grows raising plant resource (Some asked) field s why noted_old noted_new (inl h) = wants_grow why noted_old noted_new h
evaluation_grows raising plant resource (Some asked) field s why noted_old noted_new (inr h) = unanswered_noted raising s (cycle_line plant (task_of resource asked) asked.dt field) why noted_old noted_new h

told_grows : (raising : Raising) (set : Setting) (s : Condition) (origin : Origin) (told : Told) (why : NodeStop) (noted : Option (List ℕ)) → UndoesTold raising set s origin told why noted → Grows s.noted noted
told_grows raising set s origin (Line line) why noted h = line_grows raising (verdict_of (inlets_of set.has_field s.cycle) origin (word_of_line line.items)) s.node line.items why s.noted noted h
told_grows raising set s origin TooLong why noted h = wants_grow why s.noted noted h
told_grows raising set s origin End why noted h = wants_grow why s.noted noted h.1
told_grows raising set s origin (Unread fault) why noted h = wants_grow why s.noted noted h.1

-- what was noted of a turn that wasn't done stands behind what was noted
pub undone_grows : (raising : Raising) (set : Setting) (s : Condition) (turn : Turn) (why : NodeStop) (noted : Option (List ℕ)) → Undoes raising set s turn why noted → Grows s.noted noted
undone_grows raising set s (Reads reading) why noted h = evaluation_grows raising set.plant set.resource h.stops.asked s.field s.node why s.noted noted h.stops.undone
undone_grows raising set s (Takes origin told) why noted h = told_grows raising set s origin told why noted h
