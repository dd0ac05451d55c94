-- A schedule without EXPECT lines.
use Rattle.std.proofs.Common.{◌≡◌, ℕ, ◌-◌, ◌<◌, true, false, List, [], ◌∷◌, ◌++◌, length, refl, sym, ap, ◌∙◌, subst, arith}
use Rattle.std.specs.Prelude.{All, if◌then◌else◌, reverse}
use Rattle.std.specs.List.{AllByRecursion}
use Rattle.std.proofs.lemmas.Grind.{reverse_onto}
use Rattle.std.proofs.lemmas.List.{get_or-reverse, length-reverse, reverse-reverse}
use Rattle.std.proofs.lemmas.List.Elements.{recursion_from_All}
use Rattle.world.specs.History.{Setting}
use Rattle.world.specs.RunText.{IsRunText}
use Rattle.world.specs.ScheduleText.{Spell}
use Rattle.tested_schedules.specs.Expectations.{is_expectation}
use Rattle.tested_schedules.specs.TestedText.{ArePieces, IsRunOf, Piece, event_lines, events_text, has_unmet, of_answers, of_event, tested_text}
use Rattle.tested_schedules.specs.Untested.{UntestedRuns}

-- a line is no EXPECT line
abbrev IsNone : List (List ℕ) → Type 0
IsNone line = is_expectation line ≡ false

none_reversed : (lines : List (List (List ℕ))) → All IsNone lines → All IsNone (reverse lines)
none_reversed lines none k d lt =
    let inside : k < length lines = omega (arith, lt, length-reverse lines) in
    subst IsNone (sym (get_or-reverse lines k d inside)) (none (length lines - 1 - k) d (omega (arith, inside)))

-- what stands of lines of which none is an EXPECT line
record AreEvents (s : Setting) (earlier : List (List (List ℕ))) (pieces : List Piece) : Type 0 where
  pub lines : event_lines earlier ≡ reverse earlier
  pub text : events_text pieces ≡ tested_text s.plant pieces
  pub met : has_unmet pieces ≡ false
  pub run : IsRunOf s earlier pieces

events_all : (s : Setting) (earlier : List (List (List ℕ))) (pieces : List Piece) → AllByRecursion IsNone earlier → ArePieces s earlier pieces → AreEvents s earlier pieces
events_all s [] [] none told =
    record { lines = refl; text = refl; met = refl; run = record { events = []; spelled = tt; told = record { lines = []; many = refl; each = λ k e line at told. absurd cc; text_is = refl } } }
events_all s [] (piece ∷ before) none told = absurd told
events_all s (line ∷ earlier) [] none told = absurd told
events_all s (line ∷ earlier) (of_event text ∷ before) none told =
    let rest = events_all s earlier before none.1 told.0 in
    record {
      lines =
          ap (λ b. if b then event_lines earlier else event_lines earlier ++ line ∷ []) none.0 ∙ ap (λ (l : List (List (List ℕ))). l ++ line ∷ []) rest.lines
          ∙ sym (reverse_onto earlier line []);
      text = ap (λ (l : List ℕ). l ++ text) rest.text;
      met = rest.met;
      run = told.1.1;
    }
events_all s (line ∷ earlier) (of_answers answers ∷ before) none told = let both : true ≡ false = sym told.1.0 ∙ none.0 in absurd cc

-- without EXPECT lines the text is that of a run
pub untested : UntestedRuns
untested s lines text unmet none t =
    let all = events_all s (reverse lines) t.pieces (recursion_from_All IsNone (reverse lines) (none_reversed lines none)) t.told in
    record {
      events = all.run.events;
      spelled = subst (Spell s.plant all.run.events) (all.lines ∙ reverse-reverse lines) all.run.spelled;
      told = subst (IsRunText s all.run.events) (all.text ∙ sym t.text_is) all.run.told;
      met = t.unmet_is ∙ all.met;
    }
