-- A schedule with EXPECT lines is done line by line.
use Rattle.std.proofs.Common.{◌≡◌, inl, inr, ℕ, ◌+◌, ◌≤◌, true, false, List, [], ◌∷◌, ◌++◌, length, Option, Some, refl, sym, ap, ◌∙◌, subst, arith}
use Rattle.std.specs.Prelude.{◌||◌, if◌then◌else◌, reverse}
use Rattle.std.specs.List.{AllZip}
use Rattle.std.specs.Io.KnownBytes.{Appends, Keeps}
use Rattle.std.proofs.KnownBytes.{Appends-trans, Appends-nil}
use Rattle.std.proofs.lemmas.List.{append-nil, reverse-append}
use Rattle.text_lines.proofs.Sending.{appends_kept}
use Rattle.plant.specs.PlantValue.{PlantValue}
use Rattle.world.specs.declared.event.Event.{Event}
use Rattle.world.specs.History.{Setting, history_of}
use Rattle.world.specs.Run.{IsLog}
use Rattle.world.specs.RunText.{IsRunText}
use Rattle.world.specs.World.{WorldValue}
use Rattle.world.specs.Steps.Simulating.{HasDone as HasDoneLine}
use Rattle.world.proofs.Simulating.{Stands, stands_first, stands_next}
use Rattle.tested_schedules.specs.declared.answer.Answer.{Answer}
use Rattle.tested_schedules.specs.Expectations.{IsAnswer, expected_words, is_expectation}
use Rattle.tested_schedules.specs.TestedText.{AreAnswers, ArePieces, IsRunOf, Piece, are_unmet, event_lines, events_text, has_unmet, of_answers, of_event, piece_text, tested_text}
use Rattle.tested_schedules.specs.Steps.Testing.{HasAnswers, HasDone, HasDoneEvent, HasMade, TestState}

-- where it stands after lines, the newest first, for which these pieces were made
pub record StandsSo (s : Setting) (earlier : List (List (List ℕ))) (t : TestState) (pieces : List Piece) : Type 0 where
  pub told : ArePieces s earlier pieces
  pub unmet : t.unmet ≡ has_unmet pieces
  pub few : t.events ≤ length earlier
  pub stands : Stands s (event_lines earlier) t.world t.events (Some []) (Some (events_text pieces))

-- the event lines with one more
one_event : (line : List (List ℕ)) (earlier : List (List (List ℕ))) → is_expectation line ≡ false → event_lines (line ∷ earlier) ≡ event_lines earlier ++ line ∷ []
one_event line earlier e = ap (λ b. if b then event_lines earlier else event_lines earlier ++ line ∷ []) e

-- and with an EXPECT line
no_event : (line : List (List ℕ)) (earlier : List (List (List ℕ))) → is_expectation line ≡ true → event_lines (line ∷ earlier) ≡ event_lines earlier
no_event line earlier e = ap (λ b. if b then event_lines earlier else event_lines earlier ++ line ∷ []) e

-- what a line that is no EXPECT line does, to the text of the events alone
line_done : (old new : TestState) (words : List (List ℕ)) (text before : List ℕ) → HasDoneEvent old new words text → HasDoneLine old.world new.world old.events new.events words (Some before) (Some (before ++ text))
line_done old new words text before (inl idle) =
    inl (record {
      idle = idle.0;
      world = ap (λ (t : TestState). t.world) idle.1;
      number = ap (λ (t : TestState). t.events) idle.1;
      kept = ap (λ l. before ++ l) idle.2 ∙ append-nil before;
    })
line_done old new words text before (inr told) = inr (record { line = text; told = told.0; number = told.1; written = refl })

unmet_kept : (old new : TestState) (words : List (List ℕ)) (text : List ℕ) → HasDoneEvent old new words text → new.unmet ≡ old.unmet
unmet_kept old new words text (inl idle) = ap (λ (t : TestState). t.unmet) idle.1
unmet_kept old new words text (inr told) = told.2

few_more : (old new : TestState) (words : List (List ℕ)) (text : List ℕ) (n : ℕ) → HasDoneEvent old new words text → old.events ≤ n → new.events ≤ n + 1
few_more old new words text n (inl idle) few = let e = ap (λ (t : TestState). t.events) idle.1 in omega (arith, few, e)
few_more old new words text n (inr told) few = let e = told.1 in omega (arith, few, e)

-- the run of the events, by what stands
run_of : (s : Setting) (earlier : List (List (List ℕ))) (pieces : List Piece) (w : WorldValue) (n : ℕ) → Stands s (event_lines earlier) w n (Some []) (Some (events_text pieces)) → IsRunOf s earlier pieces
run_of s earlier pieces w n a = record { events = a.events; spelled = a.spelled; told = subst (IsRunText s a.events) (sym a.written) a.told }

-- the answers, by the run of the events before
answers_of : (s : Setting) (earlier : List (List (List ℕ))) (line : List (List ℕ)) (answers : List Answer) (w : WorldValue) (n : ℕ) (old now : Option (List ℕ)) → Stands s (event_lines earlier) w n old now
    → HasAnswers w (expected_words line) answers → AreAnswers s earlier line answers
answers_of s earlier line answers w n old now a h = record {
  events = a.events;
  spelled = a.spelled;
  log = w.log;
  run = subst (λ (l : List Event). IsLog s l (reverse w.log)) a.history (subst (λ (x : Setting). IsLog x (history_of x w.events) (reverse w.log)) a.setting h.run);
  some = h.some;
  each =
      subst (λ (l : List Event). AllZip (IsAnswer s l (reverse w.log)) (expected_words line) answers) a.history
      (subst (λ (x : Setting). AllZip (IsAnswer x (history_of x w.events) (reverse w.log)) (expected_words line) answers) a.setting h.each);
}

-- one more line
pub made_next : (s : Setting) (earlier : List (List (List ℕ))) (old new : TestState) (words : List (List ℕ)) (pieces : List Piece) (piece : Piece) → StandsSo s earlier old pieces → HasMade old new words piece
    → StandsSo s (words ∷ earlier) new (piece ∷ pieces)
made_next s earlier old new words pieces (of_event text) a h =
    let before = events_text pieces in
    let next = stands_next s (event_lines earlier) old.world new.world old.events new.events words (Some []) (Some before) (Some (before ++ text)) a.stands (line_done old new words text before h.1) in
    let stands : Stands s (event_lines (words ∷ earlier)) new.world new.events (Some []) (Some (before ++ text)) =
    subst (λ L. Stands s L new.world new.events (Some []) (Some (before ++ text))) (sym (one_event words earlier h.0)) next in
    record {
      told = (a.told, (h.0, run_of s (words ∷ earlier) (of_event text ∷ pieces) new.world new.events stands));
      unmet = unmet_kept old new words text h.1 ∙ a.unmet;
      few = let few = few_more old new words text (length earlier) h.1 a.few in omega (arith, few);
      stands = stands;
    }
made_next s earlier old new words pieces (of_answers answers) a h =
    let before = Some (events_text pieces) in
    let lines : Stands s (event_lines (words ∷ earlier)) old.world old.events (Some []) before =
    subst (λ L. Stands s L old.world old.events (Some []) before) (sym (no_event words earlier h.0)) a.stands in
    record {
      told = (a.told, (h.0, answers_of s earlier words answers old.world old.events (Some []) before a.stands h.1));
      unmet = ap (λ (t : TestState). t.unmet) h.2 ∙ ap (λ b. b || are_unmet answers) a.unmet;
      few = let e = ap (λ (t : TestState). t.events) h.2 in let few = a.few in omega (arith, few, e);
      stands = subst (λ (t : TestState). Stands s (event_lines (words ∷ earlier)) t.world t.events (Some []) before) (sym h.2) lines;
    }

-- where it stands after some lines, and what was written
pub record Standing (s : Setting) (lines : List (List (List ℕ))) (t : TestState) (old now : Option (List ℕ)) : Type 0 where
  pub pieces : List Piece
  pub so : StandsSo s (reverse lines) t pieces
  pub written : Appends old now (tested_text s.plant pieces)

-- before the first line
pub standing_first : (s : Setting) (t : TestState) (old : Option (List ℕ)) → t.world ≡ record { setting = s; events = []; log = [] } → t.events ≡ 0 → t.unmet ≡ false → Standing s [] t old old
standing_first s t old is none met = record {
  pieces = [];
  so = record {
    told = tt;
    unmet = met;
    few = omega (arith, none);
    stands = subst (λ n. Stands s [] t.world n (Some []) (Some [])) (sym none) (stands_first s t.world (Some []) is);
  };
  written = Appends-nil old;
}

-- the plant is the setting's
pub plant_is : (s : Setting) (lines : List (List (List ℕ))) (t : TestState) (old now : Option (List ℕ)) → Standing s lines t old now → t.world.setting.plant ≡ s.plant
plant_is s lines t old now a = ap (λ (x : Setting). x.plant) a.so.stands.setting

-- the lines with one more, newest first
pub newest : (lines : List (List (List ℕ))) (words : List (List ℕ)) → reverse (lines ++ words ∷ []) ≡ words ∷ reverse lines
newest lines words = reverse-append lines (words ∷ [])

-- what stands once a line's piece is made
pub made_so : (s : Setting) (lines : List (List (List ℕ))) (t new : TestState) (words : List (List ℕ)) (piece : Piece) (old now : Option (List ℕ)) (a : Standing s lines t old now) → HasMade t new words piece
    → StandsSo s (reverse (lines ++ words ∷ [])) new (piece ∷ a.pieces)
made_so s lines t new words piece old now a made = subst (λ L. StandsSo s L new (piece ∷ a.pieces)) (sym (newest lines words)) (made_next s (reverse lines) t new words a.pieces piece a.so made)

-- one more line was done
pub standing_next : (s : Setting) (lines : List (List (List ℕ))) (t new : TestState) (words : List (List ℕ)) (old now next : Option (List ℕ)) → Standing s lines t old now → HasDone t new words now next
    → Standing s (lines ++ words ∷ []) new old next
standing_next s lines t new words old now next a h = record {
  pieces = h.piece ∷ a.pieces;
  so = made_so s lines t new words h.piece old now a h.made;
  written = Appends-trans old now next (tested_text s.plant a.pieces) (piece_text s.plant h.piece) a.written (subst (λ (p : PlantValue). Appends now next (piece_text p h.piece)) (plant_is s lines t old now a) h.written);
}

-- what was written stays
pub standing_kept : (s : Setting) (lines : List (List (List ℕ))) (t : TestState) (old now next : Option (List ℕ)) → Standing s lines t old now → Keeps now next → Standing s lines t old next
standing_kept s lines t old now next a kept = record { pieces = a.pieces; so = a.so; written = appends_kept old now next (tested_text s.plant a.pieces) a.written kept }
