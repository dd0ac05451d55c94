-- How the telling of lines and a last one ends, from how a part of it does.
use Rattle.std.proofs.Common.{◌≡◌, ◌≢◌, ◌↔◌, ℕ, ◌==◌, ◌&&◌, ◌+◌, ◌<◌, ◌++◌, suc, Bool, true, false, not, IsTrue, List, [], ◌∷◌, length, take, drop, Option, refl, sym, ap, ◌∙◌, subst, append_assoc, arith}
use Rattle.std.specs.Io.KnownBytes.{Appends}
use Rattle.std.proofs.KnownBytes.{Appends-trans}
use Rattle.std.proofs.Math.Seq.{take-append_seam}
use Rattle.std.proofs.lemmas.Bool.{eqb-true}
use Rattle.std.proofs.lemmas.List.{append-nil, take-append-drop, length-append, length-drop}
use Rattle.node_reports.specs.declared.node_fault.NodeFault.{NodeFault}
use Rattle.text_lines.specs.declared.send_fault.SendFault.{SendFault}
use Rattle.text_lines.specs.declared.send_fault.SendFault.TheVariants.{Write, Memory}
use Rattle.text_lines.specs.Sending.{SendsPart, SendsLess}
use Rattle.text_lines.proofs.Sending.{begins}
use Rattle.run_texts.specs.AuditText.{last_line}
use Rattle.run_texts.specs.ReportText.{replay_line, TellsBeginning}

-- a beginning was written, and something is left
less_than_all : (whole sent rest : List ℕ) (old new : Option (List ℕ)) → sent ++ rest ≡ whole → 0 < length rest → Appends old new sent → SendsLess whole old new
less_than_all whole sent rest old new is some appended =
    let long : length sent + length rest ≡ length whole = sym (length-append sent rest) ∙ ap length is in
    (length sent, omega arith, subst (Appends old new) (sym (ap (take (length sent)) (sym is) ∙ take-append_seam sent rest)) appended)

-- the last line is never empty
pub some_replay : 0 < length (replay_line true)
some_replay = let long : length (replay_line true) ≡ 13 = refl in omega arith

pub some_last : (shown : Bool) → 0 < length (last_line shown true)
some_last true = some_replay
some_last false = let long : length (last_line false true) ≡ 30 = refl in omega arith

-- the lines were written in part
pub lines_partly : (lines last : List ℕ) (old new : Option (List ℕ)) (found : SendFault) → 0 < length last → SendsPart lines old new → TellsBeginning lines last old new found
lines_partly lines last old new Write some part =
    let whole : take part.0 lines ++ (drop part.0 lines ++ last) ≡ lines ++ last =
    sym (append_assoc (take part.0 lines) (drop part.0 lines) last) ∙ ap (λ t. t ++ last) (take-append-drop part.0 lines) in
    let long = length-append (drop part.0 lines) last in
    less_than_all (lines ++ last) (take part.0 lines) (drop part.0 lines ++ last) old new whole (omega arith) part.1
lines_partly lines last old new Memory some part = part

-- all lines were written, and then there was no memory for the replay
pub lines_alone : (lines last : List ℕ) (old new : Option (List ℕ)) → Appends old new lines → TellsBeginning lines last old new Memory
lines_alone lines last old new appended = begins lines lines [] old new (append-nil lines) appended

-- all lines were written, and the last one in part
pub last_partly : (lines last : List ℕ) (old mid new : Option (List ℕ)) → Appends old mid lines → SendsLess last mid new → TellsBeginning lines last old new Write
last_partly lines last old mid new appended sent =
    let k = sent.0 in
    let whole : (lines ++ take k last) ++ drop k last ≡ lines ++ last =
    append_assoc lines (take k last) (drop k last) ∙ ap (λ t. lines ++ t) (take-append-drop k last) in
    let less = sent.1 in
    let left = length-drop k last in
    less_than_all (lines ++ last) (lines ++ take k last) (drop k last) old new whole (omega arith)
    (Appends-trans old mid new lines (take k last) appended sent.2)

-- the test of a fault
pub faulty : (faults : List NodeFault) (b : Bool) → b ≡ (length faults == 0) → IsTrue (not b) ↔ (faults ≢ [])
faulty [] b is = (λ some e. let no : false ≡ true = sym (ap not is) ∙ some in cc, λ some. absurd (some refl))
faulty (f ∷ fs) true is = let none : suc (length fs) ≡ 0 = eqb-true (suc (length fs)) 0 (sym is) in absurd (omega arith)
faulty (f ∷ fs) false is = (λ some e. cc, λ some. refl)

-- whether nothing is left out
pub all_shown : {X Y : Type 0} (xs : List X) (ys : List Y) (a b : Bool) → a ≡ (length xs == 0) → b ≡ (length ys == 0) → IsTrue (a && b) ↔ ((xs ≡ []) × (ys ≡ []))
all_shown [] [] a b a_is b_is = (λ yes. (refl, refl), λ none. rw (a_is, b_is) refl)
all_shown [] (y ∷ ys) a true a_is b_is = let none : suc (length ys) ≡ 0 = eqb-true (suc (length ys)) 0 (sym b_is) in absurd (omega arith)
all_shown [] (y ∷ ys) true false a_is b_is = (λ yes. cc, λ none. cc)
all_shown [] (y ∷ ys) false false a_is b_is = (λ yes. cc, λ none. cc)
all_shown (x ∷ xs) ys true b a_is b_is = let none : suc (length xs) ≡ 0 = eqb-true (suc (length xs)) 0 (sym a_is) in absurd (omega arith)
all_shown (x ∷ xs) ys false b a_is b_is = (λ yes. cc, λ none. cc)
