-- Turns were made, and then told together; or they couldn't be.
use Rattle.std.proofs.Common.{◌≡◌, ◌⊎◌, ℕ, ◌++◌, Bool, true, false, List, [], ◌∷◌, Option, Some, None, Result, Ok, Err, OnOk, IfErr, inl, inr, refl, sym, ap, ◌∙◌, subst, append_assoc, append-nil}
use Rattle.std.specs.Io.KnownBytes.{Appends, append_known}
use Rattle.std.specs.Result.{IsErrAnd}
use Rattle.lists.proofs.Results.{kept_fault}
use Rattle.live_node.specs.NodeAnswers.{Raising}
use Rattle.live_node.specs.declared.node_stop.NodeStop.{NodeStop}
use Rattle.live_node.specs.declared.node_stop.NodeStop.TheVariants.{Note}
use Rattle.live_node.specs.Syncing.{Grows}
use Rattle.live_node.specs.declared.live_stop.LiveStop.TheVariants.{Node, Read, Write, Memory}
use Rattle.live_node.specs.Steps.Growing.{grows_refl, grows_trans, synced_same}
use Rattle.text_lines.specs.declared.read_fault.ReadFault.TheVariants as reading
use Rattle.field_node.specs.declared.field_node.FieldNode.{FieldNode}
use Rattle.field_node.specs.FieldNodes.{IsSameSetting}
use Rattle.node_loop.specs.declared.ending.Ending.{Ending}
use Rattle.node_loop.specs.declared.loop_stop.LoopStop.{LoopStop}
use Rattle.node_loop.specs.declared.loop_stop.LoopStop.TheVariants.{Live, Clock}
use Rattle.node_loop.specs.Given.{Turn}
use Rattle.node_loop.specs.Turns.{Setting, Standing, HaveTurned}
use Rattle.node_loop.specs.Stops.{IsNodes, LeavesUntold, MakesNoMore, StopsAt, StopsBehind, StopsTogether, StopsTurn}
use Rattle.node_loop.specs.Loops.{setting_of, condition_of, stands, RunsLoop, StopsLoop}
use Rattle.node_loop.specs.Steps.Following.{Ends, Follows, HandsOn, HasTurned, IsUnwritten, Stops, StopsMaking, told_cause}
use Rattle.node_loop.proofs.Turning.{same_both, same_setting, turned_behind}
use Rattle.node_loop.proofs.Unmade.{undone_grows}

-- where a loop stands that wrote this
abbrev having_written : Option (List ℕ) → Standing → Standing
having_written written s = record { condition = s.condition; going = s.going; given = s.given; written = written }

-- what is known of what was written stays known
known_behind : (a b : Option (List ℕ)) (text so_far : List ℕ) → a ≡ Some so_far → Appends a b text → (more : List ℕ) × (b ≡ Some more)
known_behind a None text so_far is h = absurd (subst (λ (x : Option (List ℕ)). Appends x None text) is h)
known_behind a (Some more) text so_far is h = (more, refl)

known_after : (raising : Raising) (set : Setting) (ending : Ending) (first last : Standing) (turns : List Turn) (so_far : List ℕ) → first.written ≡ Some so_far → HaveTurned raising set ending first turns last → (more : List ℕ) × (last.written ≡ Some more)
known_after raising set ending first last [] so_far is h = (so_far, ap (λ (s : Standing). s.written) h ∙ is)
known_after raising set ending first last (turn ∷ turns) so_far is (mid, before, one) =
    let m = known_after raising set ending first mid turns so_far is before in
    known_behind mid.written last.written one.text m.0 m.1 one.written

-- what is written of some turns
told_some : (from : Option (List ℕ)) (text : List ℕ) → HandsOn text from (append_known from text)
told_some None text = (tt, λ none. refl)
told_some (Some before) text = (refl, λ none. ap (λ (l : List ℕ). Some l) (ap (λ l. before ++ l) none ∙ append-nil before))

told_next : (from to : Option (List ℕ)) (before text waiting : List ℕ) → waiting ≡ before ++ text → Appends from to waiting → Appends (append_known from before) to text
told_next None to before text waiting is h = tt
told_next (Some x) None before text waiting is h = absurd h
told_next (Some x) (Some y) before text waiting is h = h ∙ ap (λ l. x ++ l) is ∙ sym (append_assoc x before text)

waits_so : (a b : Option (List ℕ)) (before text waiting : List ℕ) → a ≡ Some before → b ≡ Some waiting → Appends a b text → waiting ≡ before ++ text
waits_so a b before text waiting p q h = subst (λ (x : Option (List ℕ)). Appends (Some before) x text) q (subst (λ (x : Option (List ℕ)). Appends x b text) p h)

same_known : (a b : List ℕ) → Some a ≡ Some b → a ≡ b
same_known a b h = cc

-- turns whose texts wait, and then were written together
retold : (raising : Raising) (set : Setting) (ending : Ending) (first last : Standing) (turns : List Turn) (waiting : List ℕ) (from to : Option (List ℕ)) → first.written ≡ Some [] → last.written ≡ Some waiting → HandsOn waiting from to
    → HaveTurned raising set ending first turns last → HaveTurned raising set ending (having_written from first) turns (having_written to last)
retold raising set ending first last [] waiting from to is waits h same =
    let none : waiting ≡ [] = same_known waiting [] (sym waits ∙ ap (λ (s : Standing). s.written) same ∙ is) in
    subst (λ s. having_written to s ≡ having_written from first) (sym same) (ap (λ w. having_written w first) (h.1 none))
retold raising set ending first last (turn ∷ turns) waiting from to is waits h (mid, before, one) =
    let m = known_after raising set ending first mid turns [] is before in
    let so_far = append_known from m.0 in (
      having_written so_far mid,
      retold raising set ending first mid turns m.0 from so_far is m.1 (told_some from m.0) before,
      record {
        was_going = one.was_going;
        before = one.before;
        going_is = one.going_is;
        given_is = one.given_is;
        text = one.text;
        made = one.made;
        written = told_next from to m.0 one.text waiting (waits_so mid.written last.written m.0 one.text waiting m.1 waits one.written) h.0;
      },
    )

retold_follow : {K N : Type 0} (raising : Raising) (ending : Ending) (a b : FieldNode K N) (going : Bool) (g1 g2 : Option (List Turn)) (n1 n2 from to : Option (List ℕ)) (waiting : List ℕ)
    → Follows raising ending a b going g1 g2 n1 n2 (Some []) (Some waiting) → HandsOn waiting from to → Follows raising ending a b going g1 g2 n1 n2 from to
retold_follow raising ending a b going g1 g2 n1 n2 from to waiting f h = record {
  same = f.same;
  turns = f.turns;
  turned = retold raising (setting_of a) ending (stands a true g1 n1 (Some [])) (stands b going g2 n2 (Some waiting)) f.turns waiting from to refl refl h f.turned;
}

retold_turns : {K N : Type 0} (raising : Raising) (ending : Ending) (a b : FieldNode K N) (going : Bool) (g1 g2 : Option (List Turn)) (n1 n2 from to : Option (List ℕ)) (waiting : List ℕ)
    → HasTurned raising ending a b g1 g2 n1 n2 (Some []) (Some waiting) going → HandsOn waiting from to → HasTurned raising ending a b g1 g2 n1 n2 from to going
retold_turns raising ending a b true g1 g2 n1 n2 from to waiting t h = retold_follow raising ending a b true g1 g2 n1 n2 from to waiting t h
retold_turns raising ending a b false g1 g2 n1 n2 from to waiting t h = record {
  going = t.going;
  given = t.given;
  follows = retold_follow raising ending a b t.going g1 t.given n1 n2 from to waiting t.follows h;
  over = t.over;
}

-- a node that is the same, but for its notes
pub same_condition : {K N : Type 0} (b c : FieldNode K N) (n m : Option (List ℕ)) → c.node.state ≡ b.node.state → c.field ≡ b.field → c.cycle ≡ b.cycle → m ≡ n → condition_of c m ≡ condition_of b n
same_condition b c n m state field cycle noted = rw (state, field, cycle, noted) refl

same_follow : {K N : Type 0} (raising : Raising) (ending : Ending) (a b c : FieldNode K N) (going : Bool) (g1 g2 : Option (List Turn)) (n1 n2 n3 from to : Option (List ℕ)) → condition_of c n3 ≡ condition_of b n2 → IsSameSetting b c
    → Follows raising ending a b going g1 g2 n1 n2 from to → Follows raising ending a c going g1 g2 n1 n3 from to
same_follow raising ending a b c going g1 g2 n1 n2 n3 from to is same f = record {
  same = same_both a b c f.same same;
  turns = f.turns;
  turned = subst (λ condition. HaveTurned raising (setting_of a) ending (stands a true g1 n1 from) f.turns (record { condition = condition; going = going; given = g2; written = to })) (sym is) f.turned;
}

same_turns : {K N : Type 0} (raising : Raising) (ending : Ending) (a b c : FieldNode K N) (going : Bool) (g1 g2 : Option (List Turn)) (n1 n2 n3 from to : Option (List ℕ)) → condition_of c n3 ≡ condition_of b n2 → IsSameSetting b c
    → HasTurned raising ending a b g1 g2 n1 n2 from to going → HasTurned raising ending a c g1 g2 n1 n3 from to going
same_turns raising ending a b c true g1 g2 n1 n2 n3 from to is same t = same_follow raising ending a b c true g1 g2 n1 n2 n3 from to is same t
same_turns raising ending a b c false g1 g2 n1 n2 n3 from to is same t = record {
  going = t.going;
  given = t.given;
  follows = same_follow raising ending a b c t.going g1 t.given n1 n2 n3 from to is same t.follows;
  over = t.over;
}

-- turns were made, and told
pub told_turns : {K N : Type 0} (raising : Raising) (ending : Ending) (a b c : FieldNode K N) (going : Bool) (g1 g2 g3 : Option (List Turn)) (n1 n2 n3 from to : Option (List ℕ)) (waiting : List ℕ) → g3 ≡ g2 → condition_of c n3 ≡ condition_of b n2 → IsSameSetting b c
    → HasTurned raising ending a b g1 g2 n1 n2 (Some []) (Some waiting) going → HandsOn waiting from to → HasTurned raising ending a c g1 g3 n1 n3 from to going
told_turns raising ending a b c going g1 g2 g3 n1 n2 n3 from to waiting waited is same t h =
    subst (λ g. HasTurned raising ending a c g1 g n1 n3 from to going) (sym waited)
    (same_turns raising ending a b c going g1 g2 n1 n2 n3 from to is same (retold_turns raising ending a b going g1 g2 n1 n2 from to waiting t h))

-- what was written doesn't matter to a stop
stops_turn : (raising : Raising) (set : Setting) (ending : Ending) (s : Standing) (written : Option (List ℕ)) (given : Option (List Turn)) (noted : Option (List ℕ)) (stop : LoopStop) → StopsTurn raising set ending s given noted stop → StopsTurn raising set ending (having_written written s) given noted stop
stops_turn raising set ending s written given noted (Live (Node why)) h = record { turn = h.turn; before = h.before; given_is = h.given_is; undone = h.undone }
stops_turn raising set ending s written given noted (Live Read) h = h
stops_turn raising set ending s written given noted (Live Write) h = h
stops_turn raising set ending s written given noted (Live Memory) h = h
stops_turn raising set ending s written given noted Clock h = h

-- what was noted at a stop stands behind what was noted before
stop_grows : (raising : Raising) (set : Setting) (ending : Ending) (s : Standing) (given : Option (List Turn)) (noted : Option (List ℕ)) (stop : LoopStop) → StopsTurn raising set ending s given noted stop → Grows s.condition.noted noted
stop_grows raising set ending s given noted (Live (Node why)) h = undone_grows raising set s.condition h.turn why noted h.undone
stop_grows raising set ending s given noted (Live Read) h = subst (Grows s.condition.noted) (sym h.1) (grows_refl s.condition.noted)
stop_grows raising set ending s given noted (Live Write) h = absurd h
stop_grows raising set ending s given noted (Live Memory) h = subst (Grows s.condition.noted) (sym h.1) (grows_refl s.condition.noted)
stop_grows raising set ending s given noted Clock h = subst (Grows s.condition.noted) (sym h.1) (grows_refl s.condition.noted)

-- turns were made and told, and the loop stopped at the next one
told_stop : {K N : Type 0} (raising : Raising) (ending : Ending) (a : FieldNode K N) (g1 g2 : Option (List Turn)) (n1 n2 synced from to : Option (List ℕ)) (waiting : List ℕ) (stop : LoopStop)
    → StopsMaking raising ending a g1 g2 n1 n2 (Some []) (Some waiting) stop → synced ≡ n2 → HandsOn waiting from to → Stops raising ending a g1 g2 n1 n2 synced from to stop
told_stop raising ending a g1 g2 n1 n2 synced from to waiting stop d is h = record {
  turns = d.turns;
  last = having_written to d.last;
  turned = retold raising (setting_of a) ending (stands a true g1 n1 (Some [])) d.last d.turns waiting from to refl (sym d.unwritten) h d.turned;
  synced_are = subst (Grows d.last.condition.noted) (sym is) (stop_grows raising (setting_of a) ending d.last g2 n2 stop d.stops.stops);
  stops = inl (record { was_going = d.stops.was_going; stops = stops_turn raising (setting_of a) ending d.last to g2 n2 stop d.stops.stops }, refl, is);
}

-- what stands before those that weren't told
at_them : {K N : Type 0} (raising : Raising) (ending : Ending) (a : FieldNode K N) (g1 g2 : Option (List Turn)) (n1 n2 synced from to : Option (List ℕ)) (stop : LoopStop)
    → Grows n1 synced → StopsTogether raising (setting_of a) ending (stands a true g1 n1 from) g2 n2 synced to stop → Stops raising ending a g1 g2 n1 n2 synced from to stop
at_them raising ending a g1 g2 n1 n2 synced from to stop grown h = record { turns = []; last = stands a true g1 n1 from; turned = refl; synced_are = grown; stops = inr h }

-- turns were made, and no more, and they weren't told
pub untold_turns : {K N : Type 0} (raising : Raising) (ending : Ending) (a b : FieldNode K N) (going : Bool) (g1 g2 : Option (List Turn)) (n1 n2 synced from to : Option (List ℕ)) (waiting : List ℕ) (stop : LoopStop)
    → HasTurned raising ending a b g1 g2 n1 n2 (Some []) (Some waiting) going → Grows n1 synced → LeavesUntold stop waiting n2 synced from to → Stops raising ending a g1 g2 n1 n2 synced from to stop
untold_turns raising ending a b true g1 g2 n1 n2 synced from to waiting stop t grown leaves =
    at_them raising ending a g1 g2 n1 n2 synced from to stop grown (record {
      turns = t.turns;
      last = stands b true g2 n2 (Some waiting);
      made = t.turned;
      text = waiting;
      text_is = refl;
      untold = stop;
      leaves = leaves;
      stops = inr (refl, record { unnoted = refl; given_is = inl refl });
    })
untold_turns raising ending a b false g1 g2 n1 n2 synced from to waiting stop t grown leaves =
    at_them raising ending a g1 g2 n1 n2 synced from to stop grown (record {
      turns = t.follows.turns;
      last = stands b t.going t.given n2 (Some waiting);
      made = t.follows.turned;
      text = waiting;
      text_is = refl;
      untold = stop;
      leaves = leaves;
      stops = inr (refl, record { unnoted = refl; given_is = inr (inl t.over) });
    })

less_noted : (stop : LoopStop) (text : List ℕ) (noted noted_new synced from to : Option (List ℕ)) → Grows noted noted_new → LeavesUntold stop text noted_new synced from to → LeavesUntold stop text noted synced from to
less_noted (Live (Node why)) text noted noted_new synced from to grown h = h
less_noted (Live Read) text noted noted_new synced from to grown h = h
less_noted (Live Write) text noted noted_new synced from to grown h = (grows_trans noted noted_new synced grown h.0, h.1)
less_noted (Live Memory) text noted noted_new synced from to grown h = h
less_noted Clock text noted noted_new synced from to grown h = h

-- turns were made, the loop stopped at the next one, and they weren't told
untold_stop : {K N : Type 0} (raising : Raising) (ending : Ending) (a : FieldNode K N) (g1 g2 : Option (List Turn)) (n1 n2 synced from to : Option (List ℕ)) (waiting : List ℕ) (stop untold told : LoopStop)
    (d : StopsMaking raising ending a g1 g2 n1 n2 (Some []) (Some waiting) stop) → Grows n1 synced → LeavesUntold untold waiting n2 synced from to
    → (IsNodes told × StopsAt raising (setting_of a) ending d.last g2 n2 told) ⊎ ((told ≡ untold) × MakesNoMore ending d.last g2 n2) → Stops raising ending a g1 g2 n1 n2 synced from to told
untold_stop raising ending a g1 g2 n1 n2 synced from to waiting stop untold told d grown leaves stops =
    let more = stop_grows raising (setting_of a) ending d.last g2 n2 stop d.stops.stops in
    at_them raising ending a g1 g2 n1 n2 synced from to told grown (record {
      turns = d.turns;
      last = d.last;
      made = d.turned;
      text = waiting;
      text_is = sym d.unwritten;
      untold = untold;
      leaves = less_noted untold waiting d.last.condition.noted n2 synced from to more leaves;
      stops = stops;
    })

by_cause : {K N : Type 0} (raising : Raising) (ending : Ending) (a : FieldNode K N) (g1 g2 : Option (List Turn)) (n1 n2 synced from to : Option (List ℕ)) (waiting : List ℕ) (stop untold : LoopStop)
    → StopsMaking raising ending a g1 g2 n1 n2 (Some []) (Some waiting) stop → Grows n1 synced → LeavesUntold untold waiting n2 synced from to → Stops raising ending a g1 g2 n1 n2 synced from to (told_cause stop (Err untold))
by_cause raising ending a g1 g2 n1 n2 synced from to waiting (Live (Node why)) untold d grown leaves = untold_stop raising ending a g1 g2 n1 n2 synced from to waiting (Live (Node why)) untold (Live (Node why)) d grown leaves (inl (tt, d.stops))
by_cause raising ending a g1 g2 n1 n2 synced from to waiting (Live Read) untold d grown leaves =
    untold_stop raising ending a g1 g2 n1 n2 synced from to waiting (Live Read) untold untold d grown leaves (inr (refl, record { unnoted = d.stops.stops.1; given_is = inr (inr (reading.Read, d.stops.stops.0)) }))
by_cause raising ending a g1 g2 n1 n2 synced from to waiting (Live Write) untold d grown leaves = absurd d.stops.stops
by_cause raising ending a g1 g2 n1 n2 synced from to waiting (Live Memory) untold d grown leaves =
    untold_stop raising ending a g1 g2 n1 n2 synced from to waiting (Live Memory) untold untold d grown leaves (inr (refl, record { unnoted = d.stops.stops.1; given_is = inr (inr (reading.Memory, d.stops.stops.0)) }))
by_cause raising ending a g1 g2 n1 n2 synced from to waiting Clock untold d grown leaves =
    untold_stop raising ending a g1 g2 n1 n2 synced from to waiting Clock untold untold d grown leaves (inr (refl, record { unnoted = d.stops.stops.1; given_is = inl d.stops.stops.0 }))

told_itself : (stop : LoopStop) (x : Unit {0}) → told_cause stop (Ok x) ≡ stop
told_itself (Live (Node why)) x = refl
told_itself (Live Read) x = refl
told_itself (Live Write) x = refl
told_itself (Live Memory) x = refl
told_itself Clock x = refl

-- the loop stopped, and what waits was told, or wasn't
pub stop_after : {K N : Type 0} (r : Result (Unit {0}) LoopStop) (raising : Raising) (ending : Ending) (a : FieldNode K N) (g1 g2 : Option (List Turn)) (n1 n2 n3 synced from to : Option (List ℕ)) (waiting : List ℕ) (stop : LoopStop)
    → StopsMaking raising ending a g1 g2 n1 n2 (Some []) (Some waiting) stop → Grows n1 synced → n3 ≡ n2 → OnOk r (HandsOn waiting from to) → OnOk r (synced ≡ n3) → IfErr r (λ why. LeavesUntold why waiting n3 synced from to)
    → Stops raising ending a g1 g2 n1 n3 synced from to (told_cause stop r)
stop_after (Ok x) raising ending a g1 g2 n1 n2 n3 synced from to waiting stop d grown same told all untold =
    subst (Stops raising ending a g1 g2 n1 n3 synced from to) (sym (told_itself stop x))
    (subst (λ n. Stops raising ending a g1 g2 n1 n synced from to stop) (sym same) (told_stop raising ending a g1 g2 n1 n2 synced from to waiting stop d (all ∙ same) told))
stop_after (Err why) raising ending a g1 g2 n1 n2 n3 synced from to waiting stop d grown same told all untold =
    subst (λ n. Stops raising ending a g1 g2 n1 n synced from to (told_cause stop (Err why))) (sym same)
    (by_cause raising ending a g1 g2 n1 n2 synced from to waiting stop why d grown (subst (λ n. LeavesUntold why waiting n synced from to) same untold))

-- it stops behind turns that were told
pub stops_told : {K N : Type 0} (raising : Raising) (ending : Ending) (a b : FieldNode K N) (g1 g2 g3 : Option (List Turn)) (n1 n2 n3 synced w1 w2 w3 : Option (List ℕ)) (stop : LoopStop)
    → Follows raising ending a b true g1 g2 n1 n2 w1 w2 → Stops raising ending b g2 g3 n2 n3 synced w2 w3 stop → Stops raising ending a g1 g3 n1 n3 synced w1 w3 stop
stops_told raising ending a b g1 g2 g3 n1 n2 n3 synced w1 w2 w3 stop p q =
    let r : StopsBehind raising (setting_of a) ending (stands b true g2 n2 w2) g3 n3 synced w3 stop = subst (λ set. StopsBehind raising set ending (stands b true g2 n2 w2) g3 n3 synced w3 stop) (same_setting a b p.same) q in
    record {
      turns = r.turns ++ p.turns;
      last = r.last;
      turned = turned_behind raising (setting_of a) ending (stands a true g1 n1 w1) (stands b true g2 n2 w2) r.last p.turns r.turns p.turned r.turned;
      synced_are = r.synced_are;
      stops = r.stops;
    }

-- the clock can't be read, or is read no more
pub stops_idle : {K N : Type 0} (raising : Raising) (ending : Ending) (a : FieldNode K N) (given_old given_new : Option (List Turn)) (noted synced written : Option (List ℕ)) → given_new ≡ given_old → synced ≡ noted → Stops raising ending a given_old given_new noted noted synced written written Clock
stops_idle raising ending a given_old given_new noted synced written is all = record {
  turns = [];
  last = stands a true given_old noted written;
  turned = refl;
  synced_are = synced_same noted synced all;
  stops = inl (record { was_going = refl; stops = (is, refl) }, refl, all);
}

-- it ran to its end
pub runs_ended : {K N : Type 0} (raising : Raising) (ending : Ending) (begun : List ℕ) (a b : FieldNode K N) (g1 g2 : Option (List Turn)) (n1 n2 from mid to : Option (List ℕ))
    → Appends from mid begun → Ends raising ending a b g1 g2 n1 n2 mid to → RunsLoop raising (setting_of a) ending begun (condition_of a n1) (condition_of b n2) g1 g2 from to
runs_ended raising ending begun a b g1 g2 n1 n2 from mid to begins e = record {
  behind_begun = mid;
  begins = begins;
  turns = e.follows.turns;
  last = stands b e.going e.given n2 to;
  turned = e.follows.turned;
  over = e.over;
  new_is = refl;
  to_is = refl;
}

-- it stopped behind what is written at the start
pub stops_going : {K N : Type 0} (raising : Raising) (ending : Ending) (begun : List ℕ) (a : FieldNode K N) (g1 g2 : Option (List Turn)) (n1 n2 synced from mid to : Option (List ℕ)) (stop : LoopStop)
    → Appends from mid begun → Stops raising ending a g1 g2 n1 n2 synced mid to stop → StopsLoop raising (setting_of a) ending begun (condition_of a n1) g1 g2 n2 synced from to stop
stops_going raising ending begun a g1 g2 n1 n2 synced from mid to stop begins stops = inr (record { behind_begun = mid; begins = begins; stops = stops })

-- what is written at the start isn't written
pub stops_at_start : {K N : Type 0} (raising : Raising) (ending : Ending) (begun : List ℕ) (a : FieldNode K N) (given : Option (List Turn)) (noted synced from to : Option (List ℕ)) (stop : LoopStop)
    → synced ≡ noted → IsUnwritten begun from to stop → StopsLoop raising (setting_of a) ending begun (condition_of a noted) given given noted synced from to stop
stops_at_start raising ending begun a given noted synced from to stop all unwritten =
    inl (record { cause = unwritten.0; ungiven = refl; unnoted = refl; synced_are = synced_same noted synced all; sent = unwritten.1 })

-- what waits isn't told
pub unwritten_told : {T : Type 0} (r : Result T LoopStop) (text : List ℕ) (noted synced from to : Option (List ℕ)) → synced ≡ noted → IfErr r (IsUnwritten text from to) → IfErr r (λ stop. LeavesUntold stop text noted synced from to)
unwritten_told (Ok x) text noted synced from to all h = tt
unwritten_told (Err stop) text noted synced from to all h = subst (λ s. LeavesUntold s text noted synced from to) (sym h.0) (synced_same noted synced all, h.1)

pub unsynced_told : {T : Type 0} (r : Result T LoopStop) (why : NodeStop) (text : List ℕ) (noted synced from : Option (List ℕ)) → why ≡ Note → IsErrAnd r (λ stop. stop ≡ Live (Node why)) → IfErr r (λ stop. LeavesUntold stop text noted synced from from)
unsynced_told r why text noted synced from is stop = kept_fault (Live (Node why)) (λ stop. LeavesUntold stop text noted synced from from) r stop (is, refl)
