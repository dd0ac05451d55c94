-- How a schedule ends.
use Rattle.std.proofs.Common.{◌≡◌, ◌≢◌, ℕ, ◌+◌, ◌-◌, ◌<◌, ◌≤◌, ◌==◌, Bool, true, false, cond, List, [], ◌∷◌, ◌++◌, length, map, take, get_or, Option, Some, slice_get, refl, sym, ap, ◌∙◌, subst, arith, length-append, Bor}
use Rattle.std.specs.Prelude.{slice_index}
use Rattle.std.specs.List.{count_by}
use Rattle.std.specs.Io.KnownBytes.{Appends, Keeps}
use Rattle.std.proofs.KnownBytes.{Appends-trans, Appends-nil, Keeps-refl}
use Rattle.std.proofs.Math.Seq.{take-append_seam, get_or-append_seam, take-append-add}
use Rattle.std.proofs.lemmas.List.{take_more, take_all, take-map, map-append}
use Rattle.std.proofs.lemmas.List.Sums.{count_by-le-length, count_by_more_no}
use Rattle.std.proofs.lemmas.Bool.{eqb-true}
use Rattle.std.proofs.Common.{length-take-le}
use Rattle.std.proofs.lemmas.List.Splits.{length-slice_split}
use Rattle.std.proofs.lemmas.Option.{slice_get-map, slice_get_read}
use Rattle.text_lines.proofs.Sending.{appends_kept}
use Rattle.plant.specs.PlantValue.{PlantValue}
use Rattle.words.specs.Lines.{without_last, lines_of}
use Rattle.evaluation.specs.InputTexts.{words_of}
use Rattle.world.specs.History.{Setting, history_of}
use Rattle.world.specs.World.{WorldValue}
use Rattle.world.specs.declared.event.Event.{Event}
use Rattle.world.specs.declared.line_fault.LineFault.{LineFault}
use Rattle.world.specs.declared.line_fault.LineFault.TheVariants.{Syntax, Write, Memory}
use Rattle.world.specs.ScheduleText.{schedule_lines, is_idle, SpellsEvent, IsBadLine, Spell}
use Rattle.world.specs.declared.simulation.Simulated.{Simulated}
use Rattle.world.specs.Simulated.{from_one, WritesRun, HasRun, RunsFirst, StopsAt, WritesBeginning, WritesFirst}
use Rattle.world.specs.Steps.Simulating.{HasBroken, HasStopped}
use Rattle.world.proofs.Simulating.{Stands, next_line}

-- the words of a line
abbrev pub line_words : List ℕ → List (List ℕ)
line_words line = words_of (without_last 13 line)

-- the words of lines that were read
abbrev pub words_read : List (Bor (List ℕ)) → List (List (List ℕ))
words_read ts = map (λ t. line_words t.now) ts

read_are : (ts : List (Bor (List ℕ))) → words_read ts ≡ map line_words (map (λ t. t.now) ts)
read_are [] = refl
read_are (t ∷ ts) = ap (λ l. line_words t.now ∷ l) (read_are ts)

-- the lines that were read are the first lines
pub first_read : (text : List ℕ) (ts : List (Bor (List ℕ))) → map (λ t. t.now) ts ≡ take (length ts) (lines_of text) → words_read ts ≡ take (length ts) (schedule_lines text)
first_read text ts e = read_are ts ∙ ap (map line_words) e ∙ sym (take-map line_words (length ts) (lines_of text))

pub all_read : (text : List ℕ) (ts : List (Bor (List ℕ))) → map (λ t. t.now) ts ≡ lines_of text → words_read ts ≡ schedule_lines text
all_read text ts e = read_are ts ∙ ap (map line_words) e

-- the line that comes next
pub line_at : (text : List ℕ) (n : ℕ) (t : List ℕ) → n < length (lines_of text) → t ≡ get_or (lines_of text) n t → slice_get (schedule_lines text) n ≡ Some (line_words t)
line_at text n t lt is = slice_get-map line_words (lines_of text) n ∙ ap (Rattle.std.specs.Option.option_map line_words) (slice_get_read (lines_of text) (length (lines_of text)) n t refl lt is)

pub one_read : (text : List ℕ) (n : ℕ) (t : List ℕ) (L : List (List (List ℕ))) → n < length (lines_of text) → t ≡ get_or (lines_of text) n t → L ≡ take n (schedule_lines text) → L ++ line_words t ∷ [] ≡ take (n + 1) (schedule_lines text)
one_read text n t L lt is e =
    let more : take (n + 1) (lines_of text) ≡ take n (lines_of text) ++ t ∷ [] = take_more (lines_of text) n t lt ∙ ap (λ x. take n (lines_of text) ++ x ∷ []) (sym is) in
    ap (λ l. l ++ line_words t ∷ []) (e ∙ take-map line_words n (lines_of text)) ∙ sym (map-append line_words (take n (lines_of text)) (t ∷ []))
    ∙ ap (map line_words) (sym more) ∙ sym (take-map line_words (n + 1) (lines_of text))

pub ends_well : (plant : PlantValue) (most : ℕ) (text : List ℕ) (L : List (List (List ℕ))) (w : WorldValue) (n : ℕ) (old now : Option (List ℕ)) → L ≡ schedule_lines text → Stands (from_one plant most) L w n old now
    → WritesRun plant most text old now
ends_well plant most text L w n old now e a = record { events = a.events; spelled = subst (Spell plant a.events) e a.spelled; text = a.text; told = a.told; written = a.written }

-- what stands at the end
pub has_run : (plant : PlantValue) (most : ℕ) (text : List ℕ) (L : List (List (List ℕ))) (w : WorldValue) (n : ℕ) (old now : Option (List ℕ)) (ended : Simulated) → L ≡ schedule_lines text → Stands (from_one plant most) L w n old now
    → ended.world ≡ w → ended.events ≡ n → HasRun plant most text old now ended
unfolding ends_well
has_run plant most text L w n old now ended e a is many = record {
  run = ends_well plant most text L w n old now e a;
  setting = ap (λ (x : WorldValue). x.setting) is ∙ a.setting;
  history = ap (λ (x : WorldValue). history_of (from_one plant most) x.events) is ∙ a.history;
  number = many ∙ a.number;
}

abbrev pub runs_first : (plant : PlantValue) (most : ℕ) (text : List ℕ) (k : ℕ) (L : List (List (List ℕ))) (w : WorldValue) (n : ℕ) (old now : Option (List ℕ)) → L ≡ take k (schedule_lines text) → (a : Stands (from_one plant most) L w n old now)
    → RunsFirst plant most text k a.text
runs_first plant most text k L w n old now e a = record { events = a.events; spelled = subst (Spell plant a.events) e a.spelled; told = a.told }

pub stops_at : (plant : PlantValue) (most : ℕ) (text : List ℕ) (k : ℕ) (L : List (List (List ℕ))) (w : WorldValue) (n : ℕ) (words : List (List ℕ)) (old now next : Option (List ℕ)) → L ≡ take k (schedule_lines text)
    → slice_get (schedule_lines text) k ≡ Some words → Stands (from_one plant most) L w n old now → IsBadLine w.setting.plant (n + 1) words × Keeps now next → StopsAt plant most text (k + 1) old next
stops_at plant most text k L w n words old now next e at a bad = record {
  before = k;
  number_is = refl;
  text = a.text;
  run = runs_first plant most text k L w n old now e a;
  line = words;
  line_is = at;
  bad = subst (λ (p : PlantValue). IsBadLine p (length a.events + 1) words) (ap (λ (x : Setting). x.plant) a.setting) (subst (λ m. IsBadLine w.setting.plant (m + 1) words) a.number bad.0);
  written = appends_kept old now next a.text a.written bad.1;
}

unfoldable pub breaks_off : (plant : PlantValue) (most : ℕ) (text : List ℕ) (k : ℕ) (L : List (List (List ℕ))) (w new : WorldValue) (n : ℕ) (words : List (List ℕ)) (old now next : Option (List ℕ)) → L ++ words ∷ [] ≡ take (k + 1) (schedule_lines text)
    → Stands (from_one plant most) L w n old now → HasBroken w new n words now next → WritesBeginning plant most text old next
breaks_off plant most text k L w new n words old now next e a b =
    let both = next_line (from_one plant most) L w new n words b.line old now a b.told in
    record {
      lines = k + 1;
      text = a.text ++ b.line;
      run = record { events = a.events ++ b.told.event ∷ []; spelled = subst (Spell plant (a.events ++ b.told.event ∷ [])) e both.0; told = both.1 };
      bytes = length a.text + b.bytes;
      less = omega (arith, b.less, length-append a.text b.line);
      written = subst (Appends old next) (sym (take-append-add a.text b.line b.bytes)) (Appends-trans old now next a.text (take b.bytes b.line) a.written b.written);
    }

unfoldable pub runs_out : (plant : PlantValue) (most : ℕ) (text : List ℕ) (k : ℕ) (L : List (List (List ℕ))) (w : WorldValue) (n : ℕ) (old now next : Option (List ℕ)) → L ≡ take k (schedule_lines text) → Stands (from_one plant most) L w n old now
    → Keeps now next → WritesFirst plant most text old next
runs_out plant most text k L w n old now next e a kept =
    record { lines = k; text = a.text; run = runs_first plant most text k L w n old now e a; written = appends_kept old now next a.text a.written kept }

-- nothing was done yet
unfoldable pub runs_nothing : (plant : PlantValue) (most : ℕ) (text : List ℕ) (old : Option (List ℕ)) → WritesFirst plant most text old old
runs_nothing plant most text old = record {
  lines = 0;
  text = [];
  run = record { events = []; spelled = tt; told = record { lines = []; many = refl; each = λ k e line at told. absurd cc; text_is = refl } };
  written = Appends-nil old;
}

-- a line that wasn't read, or whose event wasn't done
pub stopped_early : (w : WorldValue) (n : ℕ) (words : List (List ℕ)) (now : Option (List ℕ)) (f : LineFault) → is_idle words ≡ false → (f ≢ Write) → (f ≡ Syntax → (e : Event) → SpellsEvent w.setting.plant (n + 1) e words → ⊥)
    → HasStopped w w n words now now f
stopped_early w n words now Syntax busy ne none = (record { busy = busy; unspelled = none refl }, Keeps-refl now)
stopped_early w n words now Write busy ne none = absurd (ne refl)
stopped_early w n words now Memory busy ne none = Keeps-refl now

last_taken : (text : List ℕ) → 0 < length text → take (length text - 1 + 1) text ≡ text
last_taken text h = take_all (length text - 1 + 1) text (omega (arith, h))

-- there are no more lines than characters, but for an empty text
pub lines_few : (text : List ℕ) → 0 < length text → length (lines_of text) ≤ length text
lines_few text h = by (slice_index text (length text - 1) == 10) refl
  where
    by : (b : Bool) → (slice_index text (length text - 1) == 10) ≡ b → length (lines_of text) ≤ length text
    by true e =
        let cut : without_last 10 text ≡ take (length text - 1) text = ap (λ b. cond b (take (length text - 1) text) text) e in
        let many : length (lines_of text) ≡ count_by (λ b. b == 10) (take (length text - 1) text) + 1 = length-slice_split (λ b. b == 10) (without_last 10 text) ∙ ap (λ l. count_by (λ b. b == 10) l + 1) cut in
        omega (arith, h, many, count_by-le-length (λ b. b == 10) (take (length text - 1) text), length-take-le (length text - 1) text)
    by false e =
        let cut : without_last 10 text ≡ text = ap (λ b. cond b (take (length text - 1) text) text) e in
        let less : count_by (λ b. b == 10) text ≡ count_by (λ b. b == 10) (take (length text - 1) text) =
        ap (count_by (λ b. b == 10)) (sym (last_taken text h)) ∙ count_by_more_no (λ b. b == 10) text (length text - 1) 0 (omega (arith, h)) e in
        let many : length (lines_of text) ≡ count_by (λ b. b == 10) (take (length text - 1) text) + 1 = length-slice_split (λ b. b == 10) (without_last 10 text) ∙ ap (λ l. count_by (λ b. b == 10) l + 1) cut ∙ ap (λ n. n + 1) less in
        omega (arith, h, many, count_by-le-length (λ b. b == 10) (take (length text - 1) text), length-take-le (length text - 1) text)

-- so their number is one of 64 bits
pub lines_fit : (text : List ℕ) (n : ℕ) → length text < 18446744073709551616 → n < length (lines_of text) → n < 18446744073709551615
lines_fit [] n small lt = omega (arith, lt)
lines_fit (c ∷ text) n small lt = omega (arith, small, lt, lines_few (c ∷ text) (omega arith))

last_is : (front : List ℕ) → slice_index (front ++ 10 ∷ []) (length (front ++ 10 ∷ []) - 1) ≡ 10
last_is front =
    let n : length (front ++ 10 ∷ []) - 1 ≡ length front = omega (arith, length-append front (10 ∷ [])) in
    ap (slice_index (front ++ 10 ∷ [])) n ∙ get_or-append_seam front 10 [] 0

pub with_feed : (text front : List ℕ) → text ≡ front ++ 10 ∷ [] → front ≡ without_last 10 text
with_feed text front e =
    let n : length (front ++ 10 ∷ []) - 1 ≡ length front = omega (arith, length-append front (10 ∷ [])) in
    let last : (slice_index (front ++ 10 ∷ []) (length (front ++ 10 ∷ []) - 1) == 10) ≡ true = ap (λ c. c == 10) (last_is front) in
    sym (ap (without_last 10) e ∙ ap (λ b. cond b (take (length (front ++ 10 ∷ []) - 1) (front ++ 10 ∷ [])) (front ++ 10 ∷ [])) last
    ∙ ap (λ k. take k (front ++ 10 ∷ [])) n ∙ take-append_seam front (10 ∷ []))

feed : (text : List ℕ) → 0 < length text → ((front : List ℕ) → text ≢ front ++ 10 ∷ []) → text ≡ without_last 10 text
feed text h none = by (slice_index text (length text - 1) == 10) refl
  where
    by : (b : Bool) → (slice_index text (length text - 1) == 10) ≡ b → text ≡ without_last 10 text
    by true e =
        let last : get_or text (length text - 1) 0 ≡ 10 = eqb-true (get_or text (length text - 1) 0) 10 e in
        let whole : text ≡ take (length text - 1) text ++ 10 ∷ [] =
        sym (last_taken text h) ∙ take_more text (length text - 1) 0 (omega (arith, h)) ∙ ap (λ c. take (length text - 1) text ++ c ∷ []) last in
        absurd (none (take (length text - 1) text) whole)
    by false e = sym (ap (λ b. cond b (take (length text - 1) text) text) e)

pub no_feed : (text : List ℕ) → ((front : List ℕ) → text ≢ front ++ 10 ∷ []) → text ≡ without_last 10 text
no_feed [] none = refl
no_feed (c ∷ more) none = feed (c ∷ more) (omega arith) none
