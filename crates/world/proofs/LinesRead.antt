-- A schedule that was read line by line.
use Rattle.std.proofs.Common.{◌≡◌, ◌≢◌, ℕ, ◌+◌, ◌-◌, ◌==◌, Bool, false, cond, List, [], ◌∷◌, ◌++◌, length, take, refl, sym, ap, ◌∙◌, append_assoc, arith, length-append}
use Rattle.std.specs.Prelude.{slice_index}
use Rattle.std.specs.List.{slice_split, AllByRecursion}
use Rattle.std.proofs.lemmas.List.{get_or-append-add}
use Rattle.std.proofs.lemmas.List.Splits.{slice_split_none, slice_split_at}
use Rattle.words.specs.Lines.{lines_of}
use Rattle.text_lines.specs.Lines.{HasNoFeed}
use Rattle.world.proofs.Ending.{with_feed}

-- lines, each with a line feed behind it
abbrev pub fed : List (List ℕ) → List ℕ
fed [] = []
fed (line ∷ lines) = line ++ 10 ∷ fed lines

abbrev is_feed : ℕ → Bool
is_feed c = c == 10

-- a text that begins with whole lines
split_fed : (lines : List (List ℕ)) (more : List ℕ) → AllByRecursion HasNoFeed lines → slice_split is_feed (fed lines ++ more) ≡ lines ++ slice_split is_feed more
split_fed [] more whole = refl
split_fed (line ∷ lines) more whole =
    ap (slice_split is_feed) (append_assoc line (10 ∷ fed lines) more) ∙ slice_split_at is_feed line 10 (fed lines ++ more) whole.0 refl
    ∙ ap (λ ls. line ∷ ls) (split_fed lines more whole.1)

split_with : (lines : List (List ℕ)) (line : List ℕ) → AllByRecursion HasNoFeed lines → HasNoFeed line → slice_split is_feed (fed lines ++ line) ≡ lines ++ line ∷ []
split_with lines line whole plain = split_fed lines line whole ∙ ap (λ ls. lines ++ ls) (slice_split_none is_feed line plain)

-- one line more
pub fed_more : (lines : List (List ℕ)) (line : List ℕ) → fed (lines ++ line ∷ []) ≡ fed lines ++ (line ++ 10 ∷ [])
fed_more [] line = refl
fed_more (first ∷ lines) line = ap (λ t. first ++ 10 ∷ t) (fed_more lines line) ∙ sym (append_assoc first (10 ∷ fed lines) (line ++ 10 ∷ []))

pub whole_more : (lines : List (List ℕ)) (line : List ℕ) → AllByRecursion HasNoFeed lines → HasNoFeed line → AllByRecursion HasNoFeed (lines ++ line ∷ [])
whole_more [] line whole plain = (plain, tt)
whole_more (first ∷ lines) line whole plain = (whole.0, whole_more lines line whole.1 plain)

-- the lines of what was read, where the last one has its line feed
pub lines_with : (lines : List (List ℕ)) (line : List ℕ) → AllByRecursion HasNoFeed lines → HasNoFeed line → lines_of (fed lines ++ (line ++ 10 ∷ [])) ≡ lines ++ line ∷ []
lines_with lines line whole plain =
    ap (slice_split is_feed) (sym (with_feed (fed lines ++ (line ++ 10 ∷ [])) (fed lines ++ line) (sym (append_assoc (fed lines) line (10 ∷ []))))) ∙ split_with lines line whole plain

-- and where it has none
pub lines_with_last : (lines : List (List ℕ)) (line : List ℕ) → AllByRecursion HasNoFeed lines → HasNoFeed line → line ≢ [] → lines_of (fed lines ++ line) ≡ lines ++ line ∷ []
lines_with_last lines [] whole plain some = absurd (some refl)
lines_with_last lines (c ∷ more) whole plain some =
    let line = c ∷ more in
    let text = fed lines ++ line in
    let n : length text - 1 ≡ length (fed lines) + length more = omega (arith, length-append (fed lines) line) in
    let last : (slice_index text (length text - 1) == 10) ≡ false =
    ap (λ k. slice_index text k == 10) n ∙ ap (λ d. d == 10) (get_or-append-add (fed lines) line (length more) 0) ∙ plain (length more) 0 (omega arith) in
    ap (slice_split is_feed) (ap (λ b. cond b (take (length text - 1) text) text) last) ∙ split_with lines line whole plain

-- whole lines without the last line feed
abbrev joined : List ℕ → List (List ℕ) → List ℕ
joined line [] = line
joined line (next ∷ lines) = line ++ 10 ∷ joined next lines

joined_fed : (line : List ℕ) (lines : List (List ℕ)) → fed (line ∷ lines) ≡ joined line lines ++ 10 ∷ []
joined_fed line [] = refl
joined_fed line (next ∷ lines) = ap (λ t. line ++ 10 ∷ t) (joined_fed next lines) ∙ sym (append_assoc line (10 ∷ joined next lines) (10 ∷ []))

joined_split : (line : List ℕ) (lines : List (List ℕ)) → AllByRecursion HasNoFeed (line ∷ lines) → slice_split is_feed (joined line lines) ≡ line ∷ lines
joined_split line [] whole = slice_split_none is_feed line whole.0
joined_split line (next ∷ lines) whole = slice_split_at is_feed line 10 (joined next lines) whole.0 refl ∙ ap (λ ls. line ∷ ls) (joined_split next lines whole.1)

-- the lines of whole lines, if there is one
pub lines_fed : (line : List ℕ) (lines : List (List ℕ)) → AllByRecursion HasNoFeed (line ∷ lines) → lines_of (fed (line ∷ lines)) ≡ line ∷ lines
lines_fed line lines whole = ap (slice_split is_feed) (sym (with_feed (fed (line ∷ lines)) (joined line lines) (joined_fed line lines))) ∙ joined_split line lines whole
