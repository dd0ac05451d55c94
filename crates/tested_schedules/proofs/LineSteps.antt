-- One line of a schedule with EXPECT lines that a source gives.
use Rattle.std.proofs.Common.{◌≡◌, ◌≢◌, inl, inr, ℕ, List, [], ◌∷◌, ◌++◌, length, Option, refl, arith}
use Rattle.std.specs.Io.KnownBytes.{Keeps}
use Rattle.std.proofs.KnownBytes.{Keeps-refl}
use Rattle.text_lines.proofs.Sending.{appends_kept}
use Rattle.text_lines.specs.Lines.{Gives}
use Rattle.text_lines.specs.declared.lines.Given.TheVariants as gave
use Rattle.tested_schedules.specs.declared.live_fault.LiveFault.{LiveFault}
use Rattle.tested_schedules.specs.declared.live_fault.LiveFault.TheVariants.{Syntax, TooLong, Read, Write, Memory}
use Rattle.tested_schedules.specs.Steps.Lines.{HasRead, line_words}
use Rattle.tested_schedules.specs.TestedText.{piece_text}
use Rattle.tested_schedules.specs.Steps.Lines.{HasFailed, HasStoppedNext}
use Rattle.tested_schedules.specs.Steps.Testing.{HasDone, TestState}

-- what was written stays when it is handed on
pub done_kept : (old new : TestState) (words : List (List ℕ)) (from now next : Option (List ℕ)) → HasDone old new words from now → Keeps now next → HasDone old new words from next
done_kept old new words from now next d kept = record { piece = d.piece; made = d.made; written = appends_kept from now next (piece_text old.world.setting.plant d.piece) d.written kept }

-- a line that was read isn't done
next_failed : (old new : TestState) (given left from next : Option (List ℕ)) (number : ℕ) (fault : LiveFault) (r : HasRead given left) → HasFailed old new (line_words r.line) from next number fault
    → HasStoppedNext old new given left r.line from next number fault
next_failed old new given left from next number (Syntax k) r h = (r, refl, h)
next_failed old new given left from next number (TooLong k) r h = absurd h
next_failed old new given left from next number Read r h = absurd h
next_failed old new given left from next number Write r h = (r, h)
next_failed old new given left from next number Memory r h = (inr r, h)

pub line_failed : (old new : TestState) (given left from next : Option (List ℕ)) (number : ℕ) (fault : LiveFault) (line : List ℕ) → Gives given left line gave.Line → HasFailed old new (line_words line) from next number fault
    → HasStoppedNext old new given left line from next number fault
line_failed old new given left from next number fault line g h =
    next_failed old new given left from next number fault (record { line = line; plain = g.0; bytes = line ++ 10 ∷ []; form = inl refl; taken = g.2 }) h

pub last_failed : (old new : TestState) (given left from next : Option (List ℕ)) (number : ℕ) (fault : LiveFault) (line : List ℕ) → Gives given left line gave.LastLine → HasFailed old new (line_words line) from next number fault
    → HasStoppedNext old new given left line from next number fault
last_failed old new given left from next number fault line g h =
    next_failed old new given left from next number fault (record { line = line; plain = g.0; bytes = line; form = inr (refl, g.2); taken = g.3 }) h

some_bytes : (line : List ℕ) → length line ≡ 1000001 → line ≢ []
some_bytes [] long = absurd (omega (arith, long))
some_bytes (c ∷ more) long = λ e. absurd cc

-- a line that is too long
pub next_too_long : (old new : TestState) (given left from : Option (List ℕ)) (number : ℕ) (line : List ℕ) → Gives given left line gave.TooLong → HasStoppedNext old new given left line from from number (TooLong number)
next_too_long old new given left from number line g =
    (refl, record { line = line; plain = g.0; bytes = line; form = inr (refl, some_bytes line g.1); taken = g.2 }, refl, refl, g.1, Keeps-refl from)
