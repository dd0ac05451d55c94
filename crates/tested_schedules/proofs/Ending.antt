-- How a schedule with EXPECT lines ends.
use Rattle.std.proofs.Common.{◌≡◌, ℕ, ◌+◌, ◌<◌, false, List, [], ◌∷◌, ◌++◌, length, take, Option, Some, refl, sym, ap, ◌∙◌, subst, arith, length-append}
use Rattle.std.specs.Prelude.{reverse, slice_get}
use Rattle.std.specs.Io.KnownBytes.{Appends, Keeps}
use Rattle.std.proofs.KnownBytes.{Appends-nil, Appends-trans}
use Rattle.std.proofs.Math.Seq.{take-append-add}
use Rattle.text_lines.proofs.Sending.{appends_kept}
use Rattle.plant.specs.PlantValue.{PlantValue}
use Rattle.world.specs.History.{Setting, history_of}
use Rattle.world.specs.ScheduleText.{Spell, schedule_lines}
use Rattle.world.specs.Simulated.{from_one}
use Rattle.world.specs.World.{WorldValue}
use Rattle.tested_schedules.specs.declared.tested.Tested.{Tested}
use Rattle.tested_schedules.specs.Tested.{HasTested, IsNoLine, StopsAt, TestsFirst, WritesBeginning, WritesFirst}
use Rattle.tested_schedules.specs.TestedText.{ArePieces, IsTested, event_lines, piece_text, tested_text}
use Rattle.tested_schedules.specs.Steps.Testing.{HasBroken, TestState}
use Rattle.tested_schedules.proofs.Standing.{Standing, made_so, plant_is}

-- what stands is the text of the lines
abbrev pub tested_so : (s : Setting) (lines all : List (List (List ℕ))) (t : TestState) (old now : Option (List ℕ)) → lines ≡ all → (a : Standing s lines t old now) → IsTested s all (tested_text s.plant a.pieces) t.unmet
tested_so s lines all t old now e a =
    record { pieces = a.pieces; told = subst (λ L. ArePieces s (reverse L) a.pieces) e a.so.told; text_is = refl; unmet_is = a.so.unmet }

-- the text of the first lines
abbrev pub tests_first : (plant : PlantValue) (most : ℕ) (text : List ℕ) (k : ℕ) (L : List (List (List ℕ))) (t : TestState) (old now : Option (List ℕ)) → L ≡ take k (schedule_lines text) → (a : Standing (from_one plant most) L t old now)
    → TestsFirst plant most text k (tested_text plant a.pieces)
tests_first plant most text k L t old now e a = record { unmet = t.unmet; told = tested_so (from_one plant most) L (take k (schedule_lines text)) t old now e a }

-- it was done to its end
pub has_tested : (plant : PlantValue) (most : ℕ) (text : List ℕ) (L : List (List (List ℕ))) (t : TestState) (old now : Option (List ℕ)) (tested : Tested) → L ≡ schedule_lines text → Standing (from_one plant most) L t old now
    → tested.ended.world ≡ t.world → tested.ended.events ≡ t.events → tested.has_unmet ≡ t.unmet → HasTested plant most text old now tested
has_tested plant most text L t old now tested e a world many unmet =
    let s = from_one plant most in
    let all = tested_so s L (schedule_lines text) t old now e a in
    record {
      text = tested_text plant a.pieces;
      told = record { pieces = all.pieces; told = all.told; text_is = all.text_is; unmet_is = unmet ∙ all.unmet_is };
      written = a.written;
      ended = record {
        events = a.so.stands.events;
        spelled = subst (λ l. Spell plant a.so.stands.events (event_lines (reverse l))) e a.so.stands.spelled;
        setting = ap (λ (w : WorldValue). w.setting) world ∙ a.so.stands.setting;
        history = ap (λ (w : WorldValue). history_of s w.events) world ∙ a.so.stands.history;
        number = many ∙ a.so.stands.number;
      };
    }

-- a line is none
pub stops_at : (plant : PlantValue) (most : ℕ) (text : List ℕ) (k : ℕ) (L : List (List (List ℕ))) (t : TestState) (words : List (List ℕ)) (old now next : Option (List ℕ)) → L ≡ take k (schedule_lines text)
    → slice_get (schedule_lines text) k ≡ Some words → Standing (from_one plant most) L t old now → IsNoLine t.world.setting.plant (t.events + 1) words × Keeps now next → StopsAt plant most text (k + 1) old next
stops_at plant most text k L t words old now next e at a bad = record {
  before = k;
  number_is = refl;
  text = tested_text plant a.pieces;
  first = tests_first plant most text k L t old now e a;
  events = a.so.stands.events;
  spelled = subst (λ l. Spell plant a.so.stands.events (event_lines (reverse l))) e a.so.stands.spelled;
  line = words;
  line_is = at;
  bad = subst (λ (p : PlantValue). IsNoLine p (length a.so.stands.events + 1) words) (plant_is (from_one plant most) L t old now a) (subst (λ m. IsNoLine t.world.setting.plant (m + 1) words) a.so.stands.number bad.0);
  written = appends_kept old now next (tested_text plant a.pieces) a.written bad.1;
}

-- the output failed within a line
unfoldable pub breaks_off : (plant : PlantValue) (most : ℕ) (text : List ℕ) (k : ℕ) (L : List (List (List ℕ))) (t new : TestState) (words : List (List ℕ)) (old now next : Option (List ℕ)) → L ++ words ∷ [] ≡ take (k + 1) (schedule_lines text)
    → Standing (from_one plant most) L t old now → HasBroken t new words now next → WritesBeginning plant most text old next
breaks_off plant most text k L t new words old now next e a b =
    let s = from_one plant most in
    let front = tested_text plant a.pieces in
    let here = piece_text plant b.piece in
    let same = plant_is s L t old now a in
    let so = made_so s L t new words b.piece old now a b.made in
    let less : b.bytes < length here = subst (λ (p : PlantValue). b.bytes < length (piece_text p b.piece)) same b.less in
    let sent : Appends now next (take b.bytes here) = subst (λ (p : PlantValue). Appends now next (take b.bytes (piece_text p b.piece))) same b.written in
    record {
      lines = k + 1;
      text = front ++ here;
      first = record {
        unmet = new.unmet;
        told = record { pieces = b.piece ∷ a.pieces; told = subst (λ l. ArePieces s (reverse l) (b.piece ∷ a.pieces)) e so.told; text_is = refl; unmet_is = so.unmet };
      };
      bytes = length front + b.bytes;
      less = omega (arith, less, length-append front here);
      written = subst (Appends old next) (sym (take-append-add front here b.bytes)) (Appends-trans old now next front (take b.bytes here) a.written sent);
    }

-- memory was wanting
unfoldable pub runs_out : (plant : PlantValue) (most : ℕ) (text : List ℕ) (k : ℕ) (L : List (List (List ℕ))) (t : TestState) (old now next : Option (List ℕ)) → L ≡ take k (schedule_lines text) → Standing (from_one plant most) L t old now → Keeps now next
    → WritesFirst plant most text old next
runs_out plant most text k L t old now next e a kept = record {
  lines = k;
  text = tested_text plant a.pieces;
  first = tests_first plant most text k L t old now e a;
  written = appends_kept old now next (tested_text plant a.pieces) a.written kept;
}

-- nothing was done yet
unfoldable pub runs_nothing : (plant : PlantValue) (most : ℕ) (text : List ℕ) (old : Option (List ℕ)) → WritesFirst plant most text old old
runs_nothing plant most text old = record {
  lines = 0;
  text = [];
  first = record { unmet = false; told = record { pieces = []; told = tt; text_is = refl; unmet_is = refl } };
  written = Appends-nil old;
}
