-- Turns, one after the other.
use Rattle.std.proofs.Common.{◌≡◌, ℕ, ◌++◌, ◌≤◌, Bool, true, false, List, [], ◌∷◌, Option, refl, sym, ◌∙◌, subst}
use Rattle.std.specs.Io.KnownBytes.{Appends}
use Rattle.live_node.specs.NodeAnswers.{Raising}
use Rattle.live_node.specs.declared.live_stop.LiveStop.TheVariants.{Node, Read, Write, Memory}
use Rattle.field_node.specs.declared.field_node.FieldNode.{FieldNode}
use Rattle.field_node.specs.FieldNodes.{IsSameSetting}
use Rattle.node_loop.specs.declared.ending.Ending.{Ending}
use Rattle.node_loop.specs.declared.loop_stop.LoopStop.{LoopStop}
use Rattle.node_loop.specs.declared.loop_stop.LoopStop.TheVariants.{Live, Clock}
use Rattle.node_loop.specs.Given.{Turn, Reads, with_turn}
use Rattle.node_loop.specs.Turns.{Setting, Standing, IsBefore, HaveTurned, is_going, moment_of}
use Rattle.node_loop.specs.Stops.{StopsAt, StopsTurn}
use Rattle.node_loop.specs.Loops.{setting_of, stands}
use Rattle.node_loop.specs.Steps.Following.{Follows, Ends, HasTurned, MadeOf, NotMadeOf, StopsMaking}

-- some turns behind others
pub turned_behind : (raising : Raising) (set : Setting) (ending : Ending) (first mid last : Standing) (before turns : List Turn)
    → HaveTurned raising set ending first before mid → HaveTurned raising set ending mid turns last → HaveTurned raising set ending first (turns ++ before) last
turned_behind raising set ending first mid last before [] h k = subst (λ s. HaveTurned raising set ending first before s) (sym k) h
turned_behind raising set ending first mid last before (turn ∷ turns) h (s, k, is) =
    (s, turned_behind raising set ending first mid s before turns h k, is)

-- nothing is changed
pub same_node : {K N : Type 0} (node : FieldNode K N) → IsSameSetting node node
same_node node = record { plant_is = refl; resource_is = refl; has_field_is = refl }

pub same_both : {K N : Type 0} (a b c : FieldNode K N) → IsSameSetting a b → IsSameSetting b c → IsSameSetting a c
same_both a b c p q = record { plant_is = q.plant_is ∙ p.plant_is; resource_is = q.resource_is ∙ p.resource_is; has_field_is = q.has_field_is ∙ p.has_field_is }

pub same_setting : {K N : Type 0} (a b : FieldNode K N) → IsSameSetting a b → setting_of b ≡ setting_of a
same_setting a b s = rw (s.plant_is, s.resource_is, s.has_field_is) refl

-- turns behind turns
pub follows_both : {K N : Type 0} (raising : Raising) (ending : Ending) (a b c : FieldNode K N) (going : Bool) (g1 g2 g3 : Option (List Turn)) (n1 n2 n3 w1 w2 w3 : Option (List ℕ))
    → Follows raising ending a b true g1 g2 n1 n2 w1 w2 → Follows raising ending b c going g2 g3 n2 n3 w2 w3 → Follows raising ending a c going g1 g3 n1 n3 w1 w3
follows_both raising ending a b c going g1 g2 g3 n1 n2 n3 w1 w2 w3 p q = record {
  same = same_both a b c p.same q.same;
  turns = q.turns ++ p.turns;
  turned = turned_behind raising (setting_of a) ending (stands a true g1 n1 w1) (stands b true g2 n2 w2) (stands c going g3 n3 w3) p.turns q.turns p.turned
      (subst (λ set. HaveTurned raising set ending (stands b true g2 n2 w2) q.turns (stands c going g3 n3 w3)) (same_setting a b p.same) q.turned);
}

-- no turn
pub follows_none : {K N : Type 0} (raising : Raising) (ending : Ending) (a : FieldNode K N) (given_old given_new : Option (List Turn)) (noted written : Option (List ℕ))
    → given_new ≡ given_old → Follows raising ending a a true given_old given_new noted noted written written
follows_none raising ending a given_old given_new noted written is = record {
  same = same_node a;
  turns = [];
  turned = subst (λ g. stands a true g noted written ≡ stands a true given_old noted written) (sym is) refl;
}

-- one turn
pub follows_one : {K N : Type 0} (raising : Raising) (ending : Ending) (a b : FieldNode K N) (turn : Turn) (going : Bool) (given_old given_new : Option (List Turn)) (noted_old noted_new from to : Option (List ℕ)) (text : List ℕ)
    → MadeOf raising a b turn noted_old noted_new text → IsBefore (moment_of ending.until) turn → going ≡ is_going ending.closing turn → given_new ≡ with_turn turn given_old → Appends from to text
    → Follows raising ending a b going given_old given_new noted_old noted_new from to
follows_one raising ending a b turn going given_old given_new noted_old noted_new from to text made before going_is given_is written = record {
  same = made.same;
  turns = turn ∷ [];
  turned = (stands a true given_old noted_old from, refl, record { was_going = refl; before = before; going_is = going_is; given_is = given_is; text = text; made = made.made; written = written });
}

-- the same where something was given, and nothing more
pub follows_given : {K N : Type 0} (raising : Raising) (ending : Ending) (a b : FieldNode K N) (going : Bool) (g1 g2 g3 : Option (List Turn)) (n1 n2 w1 w2 : Option (List ℕ))
    → g3 ≡ g2 → Follows raising ending a b going g1 g2 n1 n2 w1 w2 → Follows raising ending a b going g1 g3 n1 n2 w1 w2
follows_given raising ending a b going g1 g2 g3 n1 n2 w1 w2 is f = subst (λ g. Follows raising ending a b going g1 g n1 n2 w1 w2) (sym is) f

-- the clock read the moment at which it ends
pub ends_now : {K N : Type 0} (raising : Raising) (ending : Ending) (a : FieldNode K N) (reading : ℕ) (given_old given_new : Option (List Turn)) (noted written : Option (List ℕ))
    → moment_of ending.until ≤ reading → given_new ≡ with_turn (Reads reading) given_old → Ends raising ending a a given_old given_new noted noted written written
ends_now raising ending a reading given_old given_new noted written over is = record {
  going = true;
  given = given_old;
  follows = follows_none raising ending a given_old given_old noted written refl;
  over = (reading, over, is);
}

-- it isn't going
pub ends_closed : {K N : Type 0} (raising : Raising) (ending : Ending) (a b : FieldNode K N) (g1 g2 : Option (List Turn)) (n1 n2 w1 w2 : Option (List ℕ))
    → Follows raising ending a b false g1 g2 n1 n2 w1 w2 → Ends raising ending a b g1 g2 n1 n2 w1 w2
ends_closed raising ending a b g1 g2 n1 n2 w1 w2 f = record { going = false; given = g2; follows = f; over = refl }

-- it ends behind turns
pub ends_behind : {K N : Type 0} (raising : Raising) (ending : Ending) (a b c : FieldNode K N) (g1 g2 g3 : Option (List Turn)) (n1 n2 n3 w1 w2 w3 : Option (List ℕ))
    → Follows raising ending a b true g1 g2 n1 n2 w1 w2 → Ends raising ending b c g2 g3 n2 n3 w2 w3 → Ends raising ending a c g1 g3 n1 n3 w1 w3
ends_behind raising ending a b c g1 g2 g3 n1 n2 n3 w1 w2 w3 p q = record {
  going = q.going;
  given = q.given;
  follows = follows_both raising ending a b c q.going g1 g2 q.given n1 n2 n3 w1 w2 w3 p q.follows;
  over = q.over;
}

-- the clock can't be read
pub stops_clock : {K N : Type 0} (raising : Raising) (ending : Ending) (a : FieldNode K N) (given_old given_new : Option (List Turn)) (noted written : Option (List ℕ))
    → given_new ≡ given_old → StopsMaking raising ending a given_old given_new noted noted written written Clock
stops_clock raising ending a given_old given_new noted written is =
    record { turns = []; last = stands a true given_old noted written; turned = refl; stops = record { was_going = refl; stops = (is, refl) }; unwritten = refl }

-- what is to be made of a turn isn't made
unmade : {K N : Type 0} (raising : Raising) (ending : Ending) (a : FieldNode K N) (turn : Turn) (given_old given_new : Option (List Turn)) (noted_old noted_new written : Option (List ℕ)) (stop : LoopStop)
    → NotMadeOf raising a turn noted_old noted_new stop → IsBefore (moment_of ending.until) turn → given_new ≡ with_turn turn given_old → StopsTurn raising (setting_of a) ending (stands a true given_old noted_old written) given_new noted_new stop
unmade raising ending a turn given_old given_new noted_old noted_new written (Live (Node why)) h before is = record { turn = turn; before = before; given_is = is; undone = h }
unmade raising ending a turn given_old given_new noted_old noted_new written (Live Read) h before is = (subst (λ t. given_new ≡ with_turn t given_old) h.0 is, h.1)
unmade raising ending a turn given_old given_new noted_old noted_new written (Live Write) h before is = absurd h
unmade raising ending a turn given_old given_new noted_old noted_new written (Live Memory) h before is = (subst (λ t. given_new ≡ with_turn t given_old) h.0 is, h.1)
unmade raising ending a turn given_old given_new noted_old noted_new written Clock h before is = absurd h

pub stops_unmade : {K N : Type 0} (raising : Raising) (ending : Ending) (a : FieldNode K N) (turn : Turn) (given_old given_new : Option (List Turn)) (noted_old noted_new written : Option (List ℕ)) (stop : LoopStop)
    → NotMadeOf raising a turn noted_old noted_new stop → IsBefore (moment_of ending.until) turn → given_new ≡ with_turn turn given_old → StopsMaking raising ending a given_old given_new noted_old noted_new written written stop
stops_unmade raising ending a turn given_old given_new noted_old noted_new written stop h before is = record {
  turns = [];
  last = stands a true given_old noted_old written;
  turned = refl;
  stops = record { was_going = refl; stops = unmade raising ending a turn given_old given_new noted_old noted_new written stop h before is };
  unwritten = refl;
}

-- it stops behind turns
pub stops_behind : {K N : Type 0} (raising : Raising) (ending : Ending) (a b : FieldNode K N) (g1 g2 g3 : Option (List Turn)) (n1 n2 n3 w1 w2 w3 : Option (List ℕ)) (stop : LoopStop)
    → Follows raising ending a b true g1 g2 n1 n2 w1 w2 → StopsMaking raising ending b g2 g3 n2 n3 w2 w3 stop → StopsMaking raising ending a g1 g3 n1 n3 w1 w3 stop
stops_behind raising ending a b g1 g2 g3 n1 n2 n3 w1 w2 w3 stop p q = record {
  turns = q.turns ++ p.turns;
  last = q.last;
  turned = turned_behind raising (setting_of a) ending (stands a true g1 n1 w1) (stands b true g2 n2 w2) q.last p.turns q.turns p.turned
      (subst (λ set. HaveTurned raising set ending (stands b true g2 n2 w2) q.turns q.last) (same_setting a b p.same) q.turned);
  stops = subst (λ set. StopsAt raising set ending q.last g3 n3 stop) (same_setting a b p.same) q.stops;
  unwritten = q.unwritten;
}

-- turns behind turns, maybe to the end
pub turned_both : {K N : Type 0} (raising : Raising) (ending : Ending) (a b c : FieldNode K N) (going : Bool) (g1 g2 g3 : Option (List Turn)) (n1 n2 n3 w1 w2 w3 : Option (List ℕ))
    → Follows raising ending a b true g1 g2 n1 n2 w1 w2 → Follows raising ending b c going g2 g3 n2 n3 w2 w3 → HasTurned raising ending a c g1 g3 n1 n3 w1 w3 going
turned_both raising ending a b c true g1 g2 g3 n1 n2 n3 w1 w2 w3 p q = follows_both raising ending a b c true g1 g2 g3 n1 n2 n3 w1 w2 w3 p q
turned_both raising ending a b c false g1 g2 g3 n1 n2 n3 w1 w2 w3 p q =
    ends_closed raising ending a c g1 g3 n1 n3 w1 w3 (follows_both raising ending a b c false g1 g2 g3 n1 n2 n3 w1 w2 w3 p q)

-- turns that may have come to the end, behind turns
pub turned_behind_both : {K N : Type 0} (raising : Raising) (ending : Ending) (a b c : FieldNode K N) (going : Bool) (g1 g2 g3 : Option (List Turn)) (n1 n2 n3 w1 w2 w3 : Option (List ℕ))
    → Follows raising ending a b true g1 g2 n1 n2 w1 w2 → HasTurned raising ending b c g2 g3 n2 n3 w2 w3 going → HasTurned raising ending a c g1 g3 n1 n3 w1 w3 going
turned_behind_both raising ending a b c true g1 g2 g3 n1 n2 n3 w1 w2 w3 p q = follows_both raising ending a b c true g1 g2 g3 n1 n2 n3 w1 w2 w3 p q
turned_behind_both raising ending a b c false g1 g2 g3 n1 n2 n3 w1 w2 w3 p q = ends_behind raising ending a b c g1 g2 g3 n1 n2 n3 w1 w2 w3 p q
