-- What stands after whole lines of a source.
use Rattle.std.proofs.Common.{◌≡◌, inl, inr, ℕ, ◌++◌, true, false, List, [], ◌∷◌, Option, Some, refl, sym, ap, ◌∙◌, subst, arith, append_assoc, append-nil}
use Rattle.std.specs.Prelude.{reverse}
use Rattle.std.specs.List.{AllByRecursion, flat_map}
use Rattle.std.specs.Io.KnownBytes.{Appends, Consumes}
use Rattle.std.proofs.KnownBytes.{Appends-nil, Appends-trans, Consumes-nil, Consumes-trans}
use Rattle.std.proofs.lemmas.List.{reverse-append}
use Rattle.text_lines.proofs.Sending.{appends_kept}
use Rattle.words.specs.Lines.{lines_of}
use Rattle.text_lines.specs.Lines.{HasNoFeed, TakesSome}
use Rattle.world.proofs.LinesRead.{fed, fed_more, whole_more, lines_with_last, lines_fed}
use Rattle.live_node.specs.declared.node_line.NodeLine.TheVariants.{Idle}
use Rattle.live_node.specs.NodeValue.{NodeValue}
use Rattle.live_node.specs.NodeAnswers.{Raising}
use Rattle.live_node.specs.LiveNode.{AnswersLine, HaveAnswered, WritesNode, HasAnsweredSoFar}
use Rattle.live_node.specs.Steps.Answering.{AnswersTaken, HasAnsweredNext}
use Rattle.live_node.specs.Steps.Together.{Stands}

-- lines with their line feeds
pub fed_each : (lines : List (List ℕ)) → fed lines ≡ flat_map (λ line. line ++ 10 ∷ []) lines
fed_each [] = refl
fed_each (line ∷ lines) = ap (λ t. line ++ 10 ∷ t) (fed_each lines) ∙ sym (append_assoc line (10 ∷ []) (flat_map (λ l. l ++ 10 ∷ []) lines))

-- they were read with their line feeds
pub read_fed : (given left : Option (List ℕ)) (lines : List (List ℕ)) → Consumes given left (flat_map (λ line. line ++ 10 ∷ []) lines) → Consumes given left (fed lines)
read_fed given left lines h = subst (Consumes given left) (sym (fed_each lines)) h

-- before the first line
pub stands_first : (raising : Raising) (first : NodeValue) (begun : List ℕ) (given noted from to : Option (List ℕ)) → Appends from to begun → Stands raising first first begun [] given given noted noted from to
stands_first raising first begun given noted from to h = record {
  whole = tt;
  read = Consumes-nil given;
  notes = [];
  text = [];
  answered = (refl, refl, refl);
  noted = Appends-nil noted;
  written = subst (Appends from to) (sym (append-nil begun)) h;
}

-- one line more is answered
more_answered : (raising : Raising) (first mid last : NodeValue) (lines : List (List ℕ)) (line notes text note answer : List ℕ) → HaveAnswered raising first (reverse lines) mid notes text → AnswersLine raising mid last line note answer
    → HaveAnswered raising first (reverse (lines ++ line ∷ [])) last (notes ++ note) (text ++ answer)
more_answered raising first mid last lines line notes text note answer h a =
    subst (λ ls. HaveAnswered raising first ls last (notes ++ note) (text ++ answer)) (sym (reverse-append lines (line ∷ [])))
    (mid, notes, text, note, answer, h, a, refl, refl)

pub more_written : (from mid to : Option (List ℕ)) (begun text more : List ℕ) → Appends from mid (begun ++ text) → Appends mid to more → Appends from to (begun ++ (text ++ more))
more_written from mid to begun text more a b =
    subst (Appends from to) (append_assoc begun text more) (Appends-trans from mid to (begun ++ text) more a b)

-- after one more
pub stands_next : (raising : Raising) (first mid last : NodeValue) (begun : List ℕ) (lines : List (List ℕ)) (given now left noted_old noted_mid noted_new from mid_to to : Option (List ℕ)) → Stands raising first mid begun lines given now noted_old noted_mid from mid_to
    → (a : AnswersTaken raising mid last now left noted_mid noted_new mid_to to true) → Stands raising first last begun (lines ++ a.line ∷ []) given left noted_old noted_new from to
stands_next raising first mid last begun lines given now left noted_old noted_mid noted_new from mid_to to s a = record {
  whole = whole_more lines a.line s.whole a.taken.0;
  read =
      subst (Consumes given left) (sym (fed_more lines a.line) ∙ fed_each (lines ++ a.line ∷ []))
      (Consumes-trans given now left (fed lines) (a.line ++ 10 ∷ []) (read_fed given now lines s.read) a.taken.2);
  notes = s.notes ++ a.note;
  text = s.text ++ a.text;
  answered = more_answered raising first mid last lines a.line s.notes s.text a.note a.text s.answered a.answered;
  noted = Appends-trans noted_old noted_mid noted_new s.notes a.note s.noted a.noted;
  written = more_written from mid_to to begun s.text a.text s.written a.written;
}

-- an empty line is answered by nothing
nothing_answered : (raising : Raising) (first last : NodeValue) (notes text : List ℕ) → HaveAnswered raising first [] last notes text → HaveAnswered raising first ([] ∷ []) last notes text
nothing_answered raising first last notes text h =
    (first, [], [], [], [], (refl, refl, refl), inl (omega arith, record { asked = Some Idle; read = refl; answered = (h.0, refl, refl) }), h.1, h.2)

-- the lines of what was read
pub lines_answered : (raising : Raising) (first last : NodeValue) (lines : List (List ℕ)) (notes text : List ℕ) → AllByRecursion HasNoFeed lines → HaveAnswered raising first (reverse lines) last notes text → HaveAnswered raising first (reverse (lines_of (fed lines))) last notes text
lines_answered raising first last [] notes text whole h = nothing_answered raising first last notes text h
lines_answered raising first last (line ∷ lines) notes text whole h =
    subst (λ ls. HaveAnswered raising first (reverse ls) last notes text) (sym (lines_fed line lines whole)) h

-- the beginning of a further line was read
pub stands_within : (raising : Raising) (first last : NodeValue) (begun : List ℕ) (lines : List (List ℕ)) (given now left noted_old noted_new from to : Option (List ℕ)) → Stands raising first last begun lines given now noted_old noted_new from to → TakesSome now left
    → HasAnsweredSoFar raising first begun given left from to
stands_within raising first last begun lines given now left noted_old noted_new from to s b = record {
  lines = lines_of (fed lines);
  whole = fed lines;
  part = b.0;
  lines_are = refl;
  plain = b.1;
  read = Consumes-trans given now left (fed lines) b.0 (read_fed given now lines s.read) b.2;
  last = last;
  notes = s.notes;
  text = s.text;
  answered = lines_answered raising first last lines s.notes s.text s.whole s.answered;
  written = s.written;
}

-- nothing more was there, or a last line without a line feed
pub stands_ended : (raising : Raising) (first mid last : NodeValue) (begun : List ℕ) (lines : List (List ℕ)) (given now left noted_old noted_mid noted_new from mid_to to : Option (List ℕ)) → Stands raising first mid begun lines given now noted_old noted_mid from mid_to
    → HasAnsweredNext raising mid last now left noted_mid noted_new mid_to to false → WritesNode raising first last begun given left noted_old noted_new from to
stands_ended raising first mid last begun lines given now left noted_old noted_mid noted_new from mid_to to s (inl e) = record {
  bytes = fed lines;
  read = subst (Consumes given left) (append-nil (fed lines)) (Consumes-trans given now left (fed lines) [] (read_fed given now lines s.read) e.none);
  end = e.end;
  notes = s.notes;
  text = s.text;
  answered = subst (λ n. HaveAnswered raising first (reverse (lines_of (fed lines))) n s.notes s.text) (sym e.same) (lines_answered raising first mid lines s.notes s.text s.whole s.answered);
  noted = appends_kept noted_old noted_mid noted_new s.notes s.noted e.unnoted;
  written = appends_kept from mid_to to (begun ++ s.text) s.written e.unwritten;
}
stands_ended raising first mid last begun lines given now left noted_old noted_mid noted_new from mid_to to s (inr a) = record {
  bytes = fed lines ++ a.line;
  read = Consumes-trans given now left (fed lines) a.line (read_fed given now lines s.read) a.taken.2.0;
  end = a.taken.2.1;
  notes = s.notes ++ a.note;
  text = s.text ++ a.text;
  answered =
      subst (λ ls. HaveAnswered raising first (reverse ls) last (s.notes ++ a.note) (s.text ++ a.text)) (sym (lines_with_last lines a.line s.whole a.taken.0 (a.taken.1 refl)))
      (more_answered raising first mid last lines a.line s.notes s.text a.note a.text s.answered a.answered);
  noted = Appends-trans noted_old noted_mid noted_new s.notes a.note s.noted a.noted;
  written = more_written from mid_to to begun s.text a.text s.written a.written;
}
