-- A schedule with EXPECT lines that a source gave line by line, and how it ends.
use Rattle.std.proofs.Common.{◌≡◌, inl, inr, ℕ, ◌+◌, ◌≤◌, false, List, [], ◌∷◌, ◌++◌, length, map, take, Option, Some, slice_get, refl, sym, ap, ◌∙◌, subst, arith, length-append}
use Rattle.std.specs.List.{AllByRecursion}
use Rattle.std.specs.Option.{option_map}
use Rattle.std.specs.Io.KnownBytes.{Consumes, Keeps}
use Rattle.std.proofs.KnownBytes.{Appends-nil, Consumes-nil, Consumes-trans, Keeps-refl}
use Rattle.std.proofs.Math.Seq.{take-append_seam}
use Rattle.std.proofs.lemmas.List.{append-nil, take_all, take-map, map-append, length-map, length-reverse}
use Rattle.std.specs.Prelude.{reverse}
use Rattle.std.proofs.lemmas.Option.{slice_get-map}
use Rattle.lists.proofs.Places.{push_here}
use Rattle.plant.specs.PlantValue.{PlantValue}
use Rattle.words.specs.Lines.{lines_of}
use Rattle.text_lines.specs.Lines.{HasNoFeed}
use Rattle.world.specs.History.{Setting}
use Rattle.tested_schedules.specs.TestedLines.{IsLastLine}
use Rattle.world.specs.ScheduleText.{schedule_lines}
use Rattle.world.specs.Simulated.{from_one}
use Rattle.tested_schedules.specs.declared.live_fault.LiveFault.{LiveFault}
use Rattle.tested_schedules.specs.declared.live_fault.LiveFault.TheVariants.{Syntax, TooLong, Read, Write, Memory}
use Rattle.tested_schedules.specs.Steps.Lines.{IsLineOf, line_words}
use Rattle.world.proofs.LinesRead.{fed, fed_more, whole_more, lines_with, lines_with_last, lines_fed}
use Rattle.tested_schedules.specs.declared.tested.Tested.{Tested}
use Rattle.tested_schedules.specs.Tested.{StopsAt}
use Rattle.tested_schedules.specs.TestedText.{of_event, tested_text}
use Rattle.tested_schedules.specs.TestedLines.{EndsTestedLines, HasAnswered, HasTestedLines, StopsWithin, WritesBeginningOf, WritesFirstOf, WritesTested}
use Rattle.tested_schedules.specs.Steps.Lines.{HasDoneNext, HasGoneOn, HasStoppedNext}
use Rattle.tested_schedules.specs.Steps.Testing.{HasBroken, HasDone, TestState}
use Rattle.tested_schedules.proofs.Standing.{Standing, standing_first, standing_kept, standing_next}
use Rattle.tested_schedules.proofs.Ending.{breaks_off, has_tested, runs_nothing, runs_out, stops_at, tested_so, tests_first}

-- there are the words of each line
pub words_of_each : (text : List ℕ) → length (schedule_lines text) ≡ length (lines_of text)
words_of_each text = length-map (lines_of text) line_words

-- where it stands after whole lines
pub record StandsRead (s : Setting) (lines : List (List ℕ)) (t : TestState) (given left old now : Option (List ℕ)) : Type 0 where
  pub whole : AllByRecursion HasNoFeed lines
  pub taken : Consumes given left (fed lines)
  pub stands : Standing s (map line_words lines) t old now

-- before the first line
pub read_first : (s : Setting) (t : TestState) (given old : Option (List ℕ)) → t.world ≡ record { setting = s; events = []; log = [] } → t.events ≡ 0 → t.unmet ≡ false → StandsRead s [] t given given old old
read_first s t given old is none met = record { whole = tt; taken = Consumes-nil given; stands = standing_first s t old is none met }

-- after one more
pub read_next : (s : Setting) (lines : List (List ℕ)) (t new : TestState) (given left later old now next : Option (List ℕ)) → StandsRead s lines t given left old now → (g : HasGoneOn t new left later now next)
    → StandsRead s (lines ++ g.line ∷ []) new given later old next
read_next s lines t new given left later old now next a g = record {
  whole = whole_more lines g.line a.whole g.plain;
  taken = subst (Consumes given later) (sym (fed_more lines g.line)) (Consumes-trans given left later (fed lines) (g.line ++ 10 ∷ []) a.taken g.taken);
  stands = subst (λ L. Standing s L new old next) (sym (map-append line_words lines (g.line ∷ []))) (standing_next s (map line_words lines) t new (line_words g.line) old now next a.stands g.done);
}

-- the lines of what was read
lines_now : (lines : List (List ℕ)) (line bytes : List ℕ) → AllByRecursion HasNoFeed lines → HasNoFeed line → IsLineOf line bytes → lines_of (fed lines ++ bytes) ≡ lines ++ line ∷ []
lines_now lines line bytes whole plain (inl is) = ap (λ b. lines_of (fed lines ++ b)) is ∙ lines_with lines line whole plain
lines_now lines line bytes whole plain (inr is) = ap (λ b. lines_of (fed lines ++ b)) is.0 ∙ lines_with_last lines line whole plain is.1

-- their words: of those before the last one, of that, and of all
front_words : (text : List ℕ) (lines : List (List ℕ)) (line : List ℕ) → lines_of text ≡ lines ++ line ∷ [] → map line_words lines ≡ take (length lines) (schedule_lines text)
front_words text lines line e =
    sym (ap (λ ls. take (length lines) (map line_words ls)) e ∙ take-map line_words (length lines) (lines ++ line ∷ []) ∙ ap (map line_words) (take-append_seam lines (line ∷ [])))

last_words : (text : List ℕ) (lines : List (List ℕ)) (line : List ℕ) → lines_of text ≡ lines ++ line ∷ [] → slice_get (schedule_lines text) (length lines) ≡ Some (line_words line)
last_words text lines line e =
    slice_get-map line_words (lines_of text) (length lines) ∙ ap (option_map line_words) (ap (λ ls. slice_get ls (length lines)) e ∙ push_here lines line)

all_words : (text : List ℕ) (lines : List (List ℕ)) (line : List ℕ) → lines_of text ≡ lines ++ line ∷ [] → map line_words lines ++ line_words line ∷ [] ≡ schedule_lines text
all_words text lines line e = sym (map-append line_words lines (line ∷ [])) ∙ ap (map line_words) (sym e)

line_count : (text : List ℕ) (lines : List (List ℕ)) (line : List ℕ) → lines_of text ≡ lines ++ line ∷ [] → length (lines_of text) ≡ length lines + 1
line_count text lines line e = ap (λ (ls : List (List ℕ)). length ls) e ∙ length-append lines (line ∷ [])

words_with : (text : List ℕ) (lines : List (List ℕ)) (line : List ℕ) → lines_of text ≡ lines ++ line ∷ [] → map line_words lines ++ line_words line ∷ [] ≡ take (length lines + 1) (schedule_lines text)
words_with text lines line e =
    let many : length (schedule_lines text) ≡ length lines + 1 = words_of_each text ∙ line_count text lines line e in
    all_words text lines line e ∙ sym (take_all (length lines + 1) (schedule_lines text) (omega (arith, many)))

last_line : (text : List ℕ) (lines : List (List ℕ)) (line last : List ℕ) → lines_of text ≡ lines ++ line ∷ [] → line ≡ last → IsLastLine text (length lines + 1) last
last_line text lines line last e is =
    (length lines, refl, line_count text lines line e, ap (λ ls. slice_get ls (length lines)) e ∙ push_here lines line ∙ ap Some is)

-- a line without words was done
blank_done : (t : TestState) (now : Option (List ℕ)) → HasDone t t [] now now
blank_done t now = record { piece = of_event []; made = (refl, inl (refl, refl, refl)); written = Appends-nil now }

-- where it stands after whole lines alone: a text without a line is one blank line
whole_stands : (s : Setting) (lines : List (List ℕ)) (t : TestState) (old now : Option (List ℕ)) → AllByRecursion HasNoFeed lines → Standing s (map line_words lines) t old now → Standing s (schedule_lines (fed lines)) t old now
whole_stands s [] t old now whole a = standing_next s [] t t [] old now now a (blank_done t now)
whole_stands s (line ∷ lines) t old now whole a = subst (λ L. Standing s L t old now) (ap (map line_words) (sym (lines_fed line lines whole))) a

-- the text of whole lines alone
whole_text : (plant : PlantValue) (most : ℕ) (lines : List (List ℕ)) (t : TestState) (old now : Option (List ℕ)) → AllByRecursion HasNoFeed lines → Standing (from_one plant most) (map line_words lines) t old now
    → WritesTested plant most (fed lines) old now
whole_text plant most lines t old now whole a =
    let s = from_one plant most in
    let all = whole_stands s lines t old now whole a in
    record { text = tested_text plant all.pieces; unmet = t.unmet; told = tested_so s (schedule_lines (fed lines)) (schedule_lines (fed lines)) t old now refl all; written = all.written }

-- the words of whole lines, whatever of a further one was read
fed_words : (lines : List (List ℕ)) (more : List ℕ) → AllByRecursion HasNoFeed lines → HasNoFeed more → map line_words lines ≡ take (length lines) (schedule_lines (fed lines ++ more))
fed_words [] [] whole plain = refl
fed_words (line ∷ lines) [] whole plain =
    let same : lines_of (fed (line ∷ lines) ++ []) ≡ line ∷ lines = ap lines_of (append-nil (fed (line ∷ lines))) ∙ lines_fed line lines whole in
    let many : length (map line_words (line ∷ lines)) ≡ length (line ∷ lines) = length-map (line ∷ lines) line_words in
    sym (ap (λ ls. take (length (line ∷ lines)) (map line_words ls)) same ∙ take_all (length (line ∷ lines)) (map line_words (line ∷ lines)) (omega (arith, many)))
fed_words lines (c ∷ more) whole plain = front_words (fed lines ++ c ∷ more) lines (c ∷ more) (lines_with_last lines (c ∷ more) whole plain (λ e. absurd cc))

-- at most one line more than these was read
one_more_line : (lines : List (List ℕ)) (more : List ℕ) → AllByRecursion HasNoFeed lines → HasNoFeed more → length (lines_of (fed lines ++ more)) ≤ length lines + 1
one_more_line [] [] whole plain = omega arith
one_more_line (line ∷ lines) [] whole plain =
    let many : length (lines_of (fed (line ∷ lines) ++ [])) ≡ length (line ∷ lines) =
    ap (λ l. length (lines_of l)) (append-nil (fed (line ∷ lines))) ∙ ap (λ (ls : List (List ℕ)). length ls) (lines_fed line lines whole) in
    omega (arith, many)
one_more_line lines (c ∷ more) whole plain =
    omega (arith, line_count (fed lines ++ c ∷ more) lines (c ∷ more) (lines_with_last lines (c ∷ more) whole plain (λ e. absurd cc)))

-- nothing more was there, or a last line without a line feed
pub read_ends : (plant : PlantValue) (most : ℕ) (lines : List (List ℕ)) (t new : TestState) (given left later old now next : Option (List ℕ)) → StandsRead (from_one plant most) lines t given left old now → HasDoneNext t new left later now next false
    → (tested : Tested) → tested.ended.world ≡ new.world → tested.ended.events ≡ new.events → tested.has_unmet ≡ new.unmet → HasTestedLines plant most given later old next tested
read_ends plant most lines t new given left later old now next a (end, inl none) tested world many unmet =
    let s = from_one plant most in
    let kept : Standing s (map line_words lines) new old next =
    subst (λ (x : TestState). Standing s (map line_words lines) x old next) (sym none.2) (standing_kept s (map line_words lines) t old now next a.stands none.1) in
    record {
      schedule = fed lines;
      read = subst (Consumes given later) (append-nil (fed lines)) (Consumes-trans given left later (fed lines) [] a.taken none.0);
      end = end;
      run = has_tested plant most (fed lines) (schedule_lines (fed lines)) new old next tested refl (whole_stands s lines new old next a.whole kept) world many unmet;
    }
read_ends plant most lines t new given left later old now next a (end, inr last) tested world many unmet =
    let s = from_one plant most in
    record {
      schedule = fed lines ++ last.line;
      read = Consumes-trans given left later (fed lines) last.line a.taken last.taken;
      end = end;
      run =
          has_tested plant most (fed lines ++ last.line) (map line_words lines ++ line_words last.line ∷ []) new old next tested
          (all_words (fed lines ++ last.line) lines last.line (lines_with_last lines last.line a.whole last.plain last.some))
          (standing_next s (map line_words lines) t new (line_words last.line) old now next a.stands last.done) world many unmet;
    }

-- a beginning of the text up to the line that was read last
breaks_here : (plant : PlantValue) (most : ℕ) (text : List ℕ) (lines : List (List ℕ)) (line : List ℕ) (t new : TestState) (old now next : Option (List ℕ)) → lines_of text ≡ lines ++ line ∷ []
    → Standing (from_one plant most) (map line_words lines) t old now → HasBroken t new (line_words line) now next → WritesBeginningOf plant most text old next
unfolding breaks_off
breaks_here plant most text lines line t new old now next e a broken =
    (breaks_off plant most text (length lines) (map line_words lines) t new (line_words line) old now next (words_with text lines line e) a broken, omega (arith, line_count text lines line e))

-- the text of some first lines, behind which so many were read
runs_to : (plant : PlantValue) (most : ℕ) (text : List ℕ) (k more : ℕ) (L : List (List (List ℕ))) (t : TestState) (old now next : Option (List ℕ)) → length (lines_of text) ≤ k + more → L ≡ take k (schedule_lines text)
    → Standing (from_one plant most) L t old now → Keeps now next → WritesFirstOf plant most text more old next
unfolding runs_out
runs_to plant most text k more L t old now next few e a kept = (runs_out plant most text k L t old now next e a kept, few)

-- what a fault leaves
pub read_stops : (plant : PlantValue) (most : ℕ) (lines : List (List ℕ)) (t new : TestState) (number : ℕ) (given left later : Option (List ℕ)) (last : List ℕ) (old now next : Option (List ℕ)) (fault : LiveFault)
    → StandsRead (from_one plant most) lines t given left old now → number ≡ length lines + 1 → HasStoppedNext t new left later last now next number fault → EndsTestedLines plant most given later last old next fault
read_stops plant most lines t new number given left later last old now next (Syntax k) a is (r, same, bad) =
    let text = fed lines ++ r.bytes in
    let e = lines_now lines r.line r.bytes a.whole r.plain r.form in
    let stops = stops_at plant most text (length lines) (map line_words lines) t (line_words r.line) old now next (front_words text lines r.line e) (last_words text lines r.line e) a.stands (bad.1, bad.2) in
    record {
      schedule = text;
      read = Consumes-trans given left later (fed lines) r.bytes a.taken r.taken;
      stops = subst (λ j. StopsAt plant most text j old next × IsLastLine text j last) (sym (bad.0 ∙ is)) (stops, last_line text lines r.line last e same);
    }
read_stops plant most lines t new number given left later last old now next (TooLong k) a is (numbered, r, same, bare, long, kept) =
    let text = fed lines ++ r.bytes in
    let e = lines_now lines r.line r.bytes a.whole r.plain r.form in
    let stands = standing_kept (from_one plant most) (map line_words lines) t old now next a.stands kept in
    let stops : StopsWithin plant most text k old next = record {
      before = length lines;
      number_is = numbered ∙ is;
      text = tested_text plant stands.pieces;
      first = tests_first plant most text (length lines) (map line_words lines) t old next (front_words text lines r.line e) stands;
      line = r.line;
      line_is = ap (λ ls. slice_get ls (length lines)) e ∙ push_here lines r.line;
      long = long;
      written = stands.written;
    } in
    record {
      schedule = text;
      read = Consumes-trans given left later (fed lines) r.bytes a.taken r.taken;
      stops = (stops, subst (λ j. IsLastLine text j last) (sym (numbered ∙ is)) (last_line text lines r.line last e same));
    }
read_stops plant most lines t new number given left later last old now next Read a is (some, kept) = record {
  schedule = fed lines ++ some.0;
  read = Consumes-trans given left later (fed lines) some.0 a.taken some.2;
  stops = record {
    whole = fed lines;
    begun = some.0;
    parted = refl;
    no_feed = some.1;
    run = whole_text plant most lines t old next a.whole (standing_kept (from_one plant most) (map line_words lines) t old now next a.stands kept);
  };
}
read_stops plant most lines t new number given left later last old now next Write a is (r, inl broken) =
    let text = fed lines ++ r.bytes in
    let e = lines_now lines r.line r.bytes a.whole r.plain r.form in
    record {
      schedule = text;
      read = Consumes-trans given left later (fed lines) r.bytes a.taken r.taken;
      stops = inl (breaks_here plant most text lines r.line t new old now next e a.stands broken);
    }
read_stops plant most lines t new number given left later last old now next Write a is (r, inr done) =
    let text = fed lines ++ r.bytes in
    let e = lines_now lines r.line r.bytes a.whole r.plain r.form in
    let stands = standing_next (from_one plant most) (map line_words lines) t new (line_words r.line) old now next a.stands done in
    record {
      schedule = text;
      read = Consumes-trans given left later (fed lines) r.bytes a.taken r.taken;
      stops = inr (
          runs_to plant most text (length lines + 1) 0 (map line_words lines ++ line_words r.line ∷ []) new old next next (omega (arith, line_count text lines r.line e))
          (words_with text lines r.line e) stands (Keeps-refl next)
          );
    }
read_stops plant most lines t new number given left later last old now next Memory a is (inl some, kept) = record {
  schedule = fed lines ++ some.0;
  read = Consumes-trans given left later (fed lines) some.0 a.taken some.2;
  stops =
      runs_to plant most (fed lines ++ some.0) (length lines) 1 (map line_words lines) t old now next (one_more_line lines some.0 a.whole some.1)
      (fed_words lines some.0 a.whole some.1) a.stands kept;
}
read_stops plant most lines t new number given left later last old now next Memory a is (inr r, kept) =
    let text = fed lines ++ r.bytes in
    let e = lines_now lines r.line r.bytes a.whole r.plain r.form in
    record {
      schedule = text;
      read = Consumes-trans given left later (fed lines) r.bytes a.taken r.taken;
      stops = runs_to plant most text (length lines) 1 (map line_words lines) t old now next (omega (arith, line_count text lines r.line e)) (front_words text lines r.line e) a.stands kept;
    }

-- nothing was read yet
pub read_nothing : (plant : PlantValue) (most : ℕ) (given : Option (List ℕ)) (last : List ℕ) (old : Option (List ℕ)) → EndsTestedLines plant most given given last old old Memory
unfolding runs_nothing
read_nothing plant most given last old =
    record { schedule = []; read = Consumes-nil given; stops = (runs_nothing plant most [] old, one_more_line [] [] tt (λ k d lt. absurd (omega (arith, lt)))) }

-- no more lines are read
pub read_no_more : (plant : PlantValue) (most : ℕ) (lines : List (List ℕ)) (t : TestState) (given left : Option (List ℕ)) (last : List ℕ) (old now : Option (List ℕ)) → StandsRead (from_one plant most) lines t given left old now
    → EndsTestedLines plant most given left last old now Read
read_no_more plant most lines t given left last old now a = record {
  schedule = fed lines ++ [];
  read = Consumes-trans given left left (fed lines) [] a.taken (Consumes-nil left);
  stops = record {
    whole = fed lines;
    begun = [];
    parted = refl;
    no_feed = λ k d lt. absurd (omega (arith, lt));
    run = whole_text plant most lines t old now a.whole a.stands;
  };
}

-- all that was read is answered
pub read_answered : (plant : PlantValue) (most : ℕ) (lines : List (List ℕ)) (t : TestState) (given left old now : Option (List ℕ)) → StandsRead (from_one plant most) lines t given left old now → HasAnswered plant most given left old now
read_answered plant most lines t given left old now a = record { schedule = fed lines; read = a.taken; run = whole_text plant most lines t old now a.whole a.stands }

-- there are as many lines, newest first, as were read
pub read_few : (lines : List (List ℕ)) → length (reverse (map line_words lines)) ≡ length lines
read_few lines = length-reverse (map line_words lines) ∙ length-map lines line_words
