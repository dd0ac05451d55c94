-- Lines are made one by one, and written some at a time.
use Rattle.std.proofs.Common.{◌≡◌, ℕ, ◌+◌, ◌<◌, ◌++◌, List, [], ◌∷◌, length, take, drop, get_or, Option, Result, Ok, Err, OnOk, OnErr, sym, ap, subst, ◌∙◌, ◌≤◌, append_assoc, arith, Some, None}
use Rattle.std.proofs.Math.Seq.{take-append_seam, take-append-add}
use Rattle.std.proofs.lemmas.List.{take-append-drop, take_more, append-nil, take-append-le, length-append}
use Rattle.std.proofs.lemmas.List.Concat.{flat_map-append}
use Rattle.std.proofs.KnownBytes.{Appends-nil, Appends-trans}
use Rattle.std.specs.Io.KnownBytes.{Appends, Keeps}
use Rattle.std.specs.List.{flat_map}
use Rattle.text_lines.specs.Sending.{Sends, SendsPart, SendsLess}

-- a beginning was written
pub begins : (whole sent rest : List ℕ) (old new : Option (List ℕ)) → sent ++ rest ≡ whole → Appends old new sent → SendsPart whole old new
begins whole sent rest old new is appended = (length sent, subst (Appends old new) (sym (ap (take (length sent)) (sym is) ∙ take-append_seam sent rest)) appended)

-- where not all was written, no more than a beginning was
pub part_of_less : (text : List ℕ) (old new : Option (List ℕ)) → SendsLess text old new → SendsPart text old new
part_of_less text old new less = (less.0, less.2)

-- a beginning of the first part is a beginning of the whole
pub part_of_first : (first second : List ℕ) (old new : Option (List ℕ)) → SendsPart first old new → SendsPart (first ++ second) old new
part_of_first first second old new part =
    let k = part.0 in
    let whole : take k first ++ (drop k first ++ second) ≡ first ++ second = sym (append_assoc (take k first) (drop k first) second) ∙ ap (λ t. t ++ second) (take-append-drop k first) in
    begins (first ++ second) (take k first) (drop k first ++ second) old new whole part.1

-- the first part, and then a beginning of the second, is a beginning of the whole
pub part_of_second : (first second : List ℕ) (old mid new : Option (List ℕ)) → Appends old mid first → SendsPart second mid new → SendsPart (first ++ second) old new
part_of_second first second old mid new appended part =
    let k = part.0 in
    let whole : (first ++ take k second) ++ drop k second ≡ first ++ second = append_assoc first (take k second) (drop k second) ∙ ap (λ t. first ++ t) (take-append-drop k second) in
    begins (first ++ second) (first ++ take k second) (drop k second) old new whole (Appends-trans old mid new first (take k second) appended part.1)

-- one line more was made
pub more_made : (made rest line more after : List ℕ) (old new : Option (List ℕ)) → Sends made rest old new → after ≡ rest ++ line → more ≡ made ++ line → Sends more after old new
more_made made rest line more after old new sends is all = record {
  sent = sends.sent;
  appended = sends.appended;
  whole = ap (λ t. sends.sent ++ t) is ∙ sym (append_assoc sends.sent rest line) ∙ ap (λ t. t ++ line) sends.whole ∙ sym all;
}

-- some of what was left was written
pub sends_on : (made rest after : List ℕ) (old mid new : Option (List ℕ)) → Sends made rest old mid → Sends rest after mid new → Sends made after old new
sends_on made rest after old mid new sends then = record {
  sent = sends.sent ++ then.sent;
  appended = Appends-trans old mid new sends.sent then.sent sends.appended then.appended;
  whole = append_assoc sends.sent then.sent after ∙ ap (λ t. sends.sent ++ t) then.whole ∙ sends.whole;
}

-- no more than a beginning of what was made went out
pub part_sent : (made rest others whole : List ℕ) (old new : Option (List ℕ)) → made ++ others ≡ whole → Sends made rest old new → SendsPart whole old new
part_sent made rest others whole old new is sends = subst (λ t. SendsPart t old new) is (part_of_first made others old new (begins made sends.sent rest old new sends.whole sends.appended))

-- nor did it where a beginning of what was left followed
pub part_left : (made rest others whole : List ℕ) (old mid new : Option (List ℕ)) → made ++ others ≡ whole → Sends made rest old mid → SendsPart rest mid new → SendsPart whole old new
part_left made rest others whole old mid new is sends then =
    let part : SendsPart made old new = subst (λ t. SendsPart t old new) sends.whole (part_of_second sends.sent rest old mid new sends.appended then) in
    subst (λ t. SendsPart t old new) is (part_of_first made others old new part)

-- nor did all of it where not all of what was left followed
pub less_left : (made rest others whole : List ℕ) (old mid new : Option (List ℕ)) → made ++ others ≡ whole → Sends made rest old mid → SendsLess rest mid new → SendsLess whole old new
less_left made rest others whole old mid new is sends then =
    let k = then.0 in
    let all : sends.sent ++ (rest ++ others) ≡ whole = sym (append_assoc sends.sent rest others) ∙ ap (λ t. t ++ others) sends.whole ∙ is in
    let long : length sends.sent + (length rest + length others) ≡ length whole = ap (λ n. length sends.sent + n) (sym (length-append rest others)) ∙ sym (length-append sends.sent (rest ++ others)) ∙ ap length all in
    let few : k ≤ length rest = let lt = then.1 in omega arith in
    let same : sends.sent ++ take k rest ≡ take (length sends.sent + k) whole = ap (λ t. sends.sent ++ t) (sym (take-append-le k rest others few)) ∙ sym (take-append-add sends.sent (rest ++ others) k) ∙ ap (take (length sends.sent + k)) all in
    (length sends.sent + k, (let lt = then.1 in omega arith), subst (Appends old new) same (Appends-trans old mid new sends.sent (take k rest) sends.appended then.2))

-- nothing was made yet
pub none_made : (rest : List ℕ) (old : Option (List ℕ)) → rest ≡ [] → Sends [] rest old old
none_made rest old is = record { sent = []; appended = Appends-nil old; whole = is }

-- the lines of the first items and those of the others are the lines of all
pub lines_parted : {X : Type 0} (line : X → List ℕ) (xs : List X) (i : ℕ) → flat_map line (take i xs) ++ flat_map line (drop i xs) ≡ flat_map line xs
lines_parted line xs i = sym (flat_map-append line (take i xs) (drop i xs)) ∙ ap (flat_map line) (take-append-drop i xs)

-- the line of one item more
pub line_more : {X : Type 0} (line : X → List ℕ) (xs : List X) (i : ℕ) (d : X) → i < length xs → flat_map line (take (i + 1) xs) ≡ flat_map line (take i xs) ++ line (get_or xs i d)
line_more line xs i d lt =
    ap (flat_map line) (take_more xs i d lt) ∙ flat_map-append line (take i xs) (get_or xs i d ∷ []) ∙ ap (λ t. flat_map line (take i xs) ++ t) (append-nil (line (get_or xs i d)))

-- what holds anyway holds after a fault
pub on_err : {T E P : Type 0} (r : Result T E) → P → OnErr r P
on_err (Ok x) p = tt
on_err (Err e) p = p

-- no more than a beginning of the lines of all items went out, where the next line wasn't made
pub lines_unmade : {X T E : Type 0} (line : X → List ℕ) (xs : List X) (i : ℕ) (rest : List ℕ) (old new : Option (List ℕ)) (r : Result T E) → Sends (flat_map line (take i xs)) rest old new → OnErr r (SendsPart (flat_map line xs) old new)
lines_unmade line xs i rest old new r sends = on_err r (part_sent (flat_map line (take i xs)) rest (flat_map line (drop i xs)) (flat_map line xs) old new (lines_parted line xs i) sends)

-- nor where what was left of those that were made went out in part
pub lines_unsent : {X T E : Type 0} (line : X → List ℕ) (xs : List X) (i : ℕ) (rest : List ℕ) (old mid new : Option (List ℕ)) (r : Result T E) → Sends (flat_map line (take i xs)) rest old mid → SendsPart rest mid new → OnErr r (SendsPart (flat_map line xs) old new)
lines_unsent line xs i rest old mid new r sends then =
    on_err r (part_left (flat_map line (take i xs)) rest (flat_map line (drop i xs)) (flat_map line xs) old mid new (lines_parted line xs i) sends then)

-- one item's line more was made
pub line_made : {X : Type 0} (line : X → List ℕ) (xs : List X) (i : ℕ) (d : X) (rest after : List ℕ) (old new : Option (List ℕ)) → i < length xs → Sends (flat_map line (take i xs)) rest old new → after ≡ rest ++ line (get_or xs i d)
    → Sends (flat_map line (take (i + 1) xs)) after old new
line_made line xs i d rest after old new lt sends is =
    more_made (flat_map line (take i xs)) rest (line (get_or xs i d)) (flat_map line (take (i + 1) xs)) after old new sends is (line_more line xs i d lt)

-- the second part comes behind the first
pub then_ok : {T E : Type 0} (r : Result T E) (first second : List ℕ) (old mid new : Option (List ℕ)) → Appends old mid first → OnOk r (Appends mid new second) → OnOk r (Appends old new (first ++ second))
then_ok (Ok x) first second old mid new appended more = Appends-trans old mid new first second appended more
then_ok (Err e) first second old mid new appended more = tt

pub then_part : {T E : Type 0} (r : Result T E) (first second : List ℕ) (old mid new : Option (List ℕ)) → Appends old mid first → OnErr r (SendsPart second mid new) → OnErr r (SendsPart (first ++ second) old new)
then_part (Ok x) first second old mid new appended part = tt
then_part (Err e) first second old mid new appended part = part_of_second first second old mid new appended part

-- what was written is written where nothing more is
pub appends_kept : (a b c : Option (List ℕ)) (bs : List ℕ) → Appends a b bs → Keeps b c → Appends a c bs
appends_kept None b c bs p q = tt
appends_kept (Some x) None c bs p q = absurd p
appends_kept (Some x) (Some y) None bs p q = absurd q
appends_kept (Some x) (Some y) (Some z) bs p q = q ∙ p
