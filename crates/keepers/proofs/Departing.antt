-- A file of which enough was read departs where that does.
use Rattle.std.proofs.Common.{arith, ◌≡◌, ◌≢◌, ◌⊎◌, inl, inr, ℕ, ◌+◌, ◌<◌, ◌≤◌, ◌++◌, ◌∷◌, [], List, length, take, drop, slice_get, Option, Some, None, Result, Ok, Err, sym, ap, refl, ◌∙◌, subst, append_assoc}
use Rattle.std.specs.Prelude.{IsErrAnd, IfErr}
use Rattle.std.specs.List.{AllByRecursion}
use Rattle.std.specs.Global.{Vec}
use Rattle.std.proofs.Math.Seq.{take-append_seam}
use Rattle.std.proofs.lemmas.Bool.{cases_lt}
use Rattle.std.proofs.lemmas.List.{length-append, length-take, length-drop, take_all, take-append-le, take-append-drop}
use Rattle.std.proofs.lemmas.Option.{none-some}
use Rattle.std_blocks.specs.declared.value.Value.{Value}
use Rattle.task_codes.specs.declared.retained_variable.RetainedVariable.{RetainedVariable}
use Rattle.task_codes.specs.CodeValue.{CodeValue}
use Rattle.evaluation.specs.Retained.{Suits}
use Rattle.text_lines.specs.ReadParts.{IsInRange}
use Rattle.keepers.specs.declared.bad_line.BadLine.{BadLine}
use Rattle.keepers.specs.declared.keeper_fault.KeeperFault.{KeeperFault}
use Rattle.keepers.specs.declared.keeper_fault.KeeperFault.TheVariants as fault
use Rattle.keepers.specs.BadLines.{IsBadAt, IsBadLineOf, IsBadLineFault}
use Rattle.keepers.specs.KnownFiles.{KnownFile, Reading, IsRead}
use Rattle.keepers.specs.KnownFiles.KnownFile.{Unknown, Missing, Holding, Broken}
use Rattle.keepers.specs.KeptRetained.{line_text, retained_text, BeginsWith, Differs, DepartsAt}
use Rattle.keepers.specs.Steps.Raising.{IsReadOf}
use Rattle.keepers.specs.Steps.Reading.{IsLonger, AreRead}
use Rattle.keepers.proofs.KeptTexts.{whole}
use Rattle.keepers.proofs.RetainedTexts.{longest_longer}
use Rattle.keepers.proofs.ReadTexts.{read_more, one_more_text}

-- what begins with a line that isn't longer than its first part has the line in that part
line_within : (rest tail line more : List ℕ) → rest ++ tail ≡ line ++ more → length line ≤ length rest → rest ≡ line ++ drop (length line) rest
line_within rest tail line more is long =
    sym (take-append-drop (length line) rest)
    ∙ ap (λ l. l ++ drop (length line) rest) (sym (take-append-le (length line) rest tail long) ∙ ap (take (length line)) is ∙ take-append_seam line more)

-- a line of the file is in what was read of it
no_line_behind : (code : CodeValue) (most place : ℕ) (bytes : List ℕ) (v : RetainedVariable) (d : DepartsAt code (take most bytes) place) → IsLonger code most → most < length bytes → slice_get code.retained place ≡ Some v
    → (x : Value) (more : List ℕ) → BeginsWith code v (d.rest ++ drop most bytes) x more → ⊥
no_line_behind code most place bytes v d longer long at x more begins =
    let read : AreRead code bytes place d.values (d.rest ++ drop most bytes) = record {
      kinds_are = d.kinds_are;
      in_range = d.in_range;
      text_is = sym (take-append-drop most bytes) ∙ ap (λ l. l ++ drop most bytes) d.text_is ∙ append_assoc (retained_text code d.values) d.rest (drop most bytes);
    } in
    let next = read_more code bytes place d.values (d.rest ++ drop most bytes) v x more at read begins in
    let short = longest_longer code most (place + 1) (d.values ++ x ∷ []) longer next.kinds_are next.in_range in
    let parted = one_more_text code bytes place d.values (d.rest ++ drop most bytes) v x at read in
    let a = length-append (retained_text code d.values) (line_text code (v, x)) in
    let b = length-append (retained_text code d.values) d.rest in
    let whole_is = ap (λ l. length l) d.text_is in
    let long_is : length (take most bytes) ≡ most = omega (arith, length-take most bytes, long) in
    let within : length (line_text code (v, x)) ≤ length d.rest = omega (arith, short, ap (λ l. length l) parted, a, b, whole_is, long_is) in
    let differs : Differs code (Some v) d.rest = subst (λ (o : Option RetainedVariable). Differs code o d.rest) at d.differs in
    differs x (drop (length (line_text code (v, x))) d.rest)
    (record { kind_is = begins.kind_is; in_range = begins.in_range; text_is = line_within d.rest (drop most bytes) (line_text code (v, x)) more begins.text_is within })

some_behind : (most : ℕ) (bytes rest : List ℕ) → most < length bytes → rest ++ drop most bytes ≢ []
some_behind most bytes rest long is = omega (arith, long, length-drop most bytes, length-append rest (drop most bytes), ap (λ l. length l) is)

differs_whole : (code : CodeValue) (most place : ℕ) (bytes : List ℕ) (d : DepartsAt code (take most bytes) place) → IsLonger code most → most < length bytes → Differs code (slice_get code.retained place) (d.rest ++ drop most bytes)
differs_whole code most place bytes d longer long = by (slice_get code.retained place) refl
  where
    by : (o : Option RetainedVariable) → slice_get code.retained place ≡ o → Differs code o (d.rest ++ drop most bytes)
    by None at = some_behind most bytes d.rest long
    by (Some v) at = no_line_behind code most place bytes v d longer long at

departs_whole : (code : CodeValue) (most place : ℕ) (bytes : List ℕ) → DepartsAt code (take most bytes) place → IsLonger code most → DepartsAt code bytes place
departs_whole code most place bytes d longer = by (cases_lt most (length bytes))
  where
    by : (most < length bytes) ⊎ (length bytes ≤ most) → DepartsAt code bytes place
    by (inr all) = subst (λ l. DepartsAt code l place) (take_all most bytes all) d
    by (inl long) = record {
      values = d.values;
      rest = d.rest ++ drop most bytes;
      kinds_are = d.kinds_are;
      in_range = d.in_range;
      text_is = sym (take-append-drop most bytes) ∙ ap (λ l. l ++ drop most bytes) d.text_is ∙ append_assoc (retained_text code d.values) d.rest (drop most bytes);
      differs = differs_whole code most place bytes d longer long;
    }

-- so what was read tells the line
pub bad_missing : (file : KnownFile) (code : CodeValue) (most : ℕ) → IsRead file most (Ok None) → IsBadLineOf file code None
bad_missing Unknown code most read = tt
bad_missing Missing code most read = refl
bad_missing (Holding held) code most read = absurd read
bad_missing Broken code most read = absurd read

pub bad_none : (file : KnownFile) (code : CodeValue) (most : ℕ) (bytes : Vec ℕ) (values : List Value) → IsLonger code most → IsRead file most (Ok (Some bytes)) → Suits code values → AllByRecursion IsInRange values
    → bytes.items ≡ retained_text code values → IsBadLineOf file code None
bad_none Unknown code most bytes values longer read suits ranges is = tt
bad_none Missing code most bytes values longer read suits ranges is = absurd (none-some bytes (sym read))
bad_none (Holding held) code most bytes values longer read suits ranges is = (values, suits, ranges, whole most held (retained_text code values) (longer values suits ranges) (sym read ∙ is))
bad_none Broken code most bytes values longer read suits ranges is = absurd read

pub bad_some : (file : KnownFile) (code : CodeValue) (most place : ℕ) (bytes : Vec ℕ) (bad : BadLine) → IsLonger code most → IsRead file most (Ok (Some bytes)) → DepartsAt code bytes.items place → IsBadAt code place bad
    → IsBadLineOf file code (Some bad)
bad_some Unknown code most place bytes bad longer read departs at = (place, at)
bad_some Missing code most place bytes bad longer read departs at = absurd (none-some bytes (sym read))
bad_some (Holding held) code most place bytes bad longer read departs at = (place, departs_whole code most place held (subst (λ l. DepartsAt code l place) read departs) longer, at)
bad_some Broken code most place bytes bad longer read departs at = absurd read

-- or that the file can't be read
bad_failed : (answers : Reading) (file : KnownFile) (name : List ℕ) (most : ℕ) (e : KeeperFault) → IsReadOf answers file name most (Err e) → IsBadLineFault file e
bad_failed answers Unknown name most fault.Unreadable read = tt
bad_failed answers Missing name most fault.Unreadable read = absurd read.0
bad_failed answers (Holding held) name most fault.Unreadable read = absurd read.0
bad_failed answers Broken name most fault.Unreadable read = tt
bad_failed answers file name most fault.Unwritable read = absurd read
bad_failed answers file name most fault.Spent read = absurd read
bad_failed answers file name most fault.Memory read = tt

pub bad_fault : {T : Type 0} (answers : Reading) (file : KnownFile) (name : List ℕ) (most : ℕ) (e : KeeperFault) (r : Result T KeeperFault) → IsErrAnd r (λ f. f ≡ e) → IsReadOf answers file name most (Err e)
    → IfErr r (IsBadLineFault file)
bad_fault answers file name most e (Ok found) is read = tt
bad_fault answers file name most e (Err f) is read = subst (IsBadLineFault file) (sym is) (bad_failed answers file name most e read)
