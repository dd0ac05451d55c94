-- What a file holds, and its digest.
use Rattle.std.proofs.Common.{◌≡◌, ℕ, ◌+◌, ◌++◌, ◌∷◌, List, [], Option, Some, None, Result, Ok, Err, OnOk, refl, sym, ap, subst, inl, inr, ◌∙◌}
use Rattle.std.specs.Io.KnownBytes.{Appends}
use Rattle.scan_steps.specs.Digests.{all_mixed, mixed}
use Rattle.journal_rows.specs.ContinuesLine.{continues_line, digest_of}
use Rattle.further_files.specs.Turning.{BeginsWith, Holds, StandsBehind}

-- bytes are mixed in behind one another
pub all_mixed-append : (d : ℕ) (xs ys : List ℕ) → all_mixed d (xs ++ ys) ≡ all_mixed (all_mixed d xs) ys
all_mixed-append d [] ys = refl
all_mixed-append d (x ∷ xs) ys = all_mixed-append (mixed d x) xs ys

-- what is known of a file is known when bytes stand behind it
pub known_more : (old new : Option (List ℕ)) (held bytes : List ℕ) → old ≡ Some held → Appends old new bytes → new ≡ Some (held ++ bytes)
known_more None new held bytes e h = cc
known_more (Some x) None held bytes e h = absurd h
known_more (Some x) (Some y) held bytes e h = let same : x ≡ held = cc in ap (λ t. Some t) (h ∙ ap (λ t. t ++ bytes) same)

pub holds_more : (old new : Option (List ℕ)) (held bytes : List ℕ) (digest next : ℕ) → Holds held old digest → Appends old new bytes → next ≡ all_mixed digest bytes → Holds (held ++ bytes) new next
holds_more old new held bytes digest next holds more is = (
  known_more old new held bytes holds.0 more,
  is ∙ ap (λ d. all_mixed d bytes) holds.1 ∙ sym (all_mixed-append 0 held bytes),
)

-- a new file holds its first line
pub begins_known : (old new : Option (List ℕ)) (held line : List ℕ) → old ≡ Some held → BeginsWith line old new → new ≡ Some line
begins_known None new held line e h = cc
begins_known (Some x) new held line e h = h

-- bytes were noted, and counted
pub holds_there : {F : Type 0} (last : F → Option (List ℕ)) (old mid new : F) (held bytes : List ℕ) (digest next : ℕ) → Holds held (last old) digest → Appends (last old) (last mid) bytes → new ≡ mid → next ≡ all_mixed digest bytes
    → Holds (held ++ bytes) (last new) next
holds_there last old mid new held bytes digest next holds more same is =
    subst (λ f. Holds (held ++ bytes) (last f) next) (sym same) (holds_more (last old) (last mid) held bytes digest next holds more is)

-- a further file was begun, and its first line counted
pub holds_first : {F : Type 0} (last : F → Option (List ℕ)) (old mid new : F) (held line resource : List ℕ) (digest next number before incarnation : ℕ) → Holds held (last old) digest → BeginsWith line (last old) (last mid) → new ≡ mid
    → line ≡ continues_line number digest resource incarnation → number ≡ before + 1 → next ≡ all_mixed 0 line
    → Holds (continues_line (before + 1) (digest_of held) resource incarnation) (last new) next
holds_first last old mid new held line resource digest next number before incarnation holds begins same line_is number_is is =
    let wanted : line ≡ continues_line (before + 1) (digest_of held) resource incarnation = line_is ∙ ap (λ n. continues_line n digest resource incarnation) number_is ∙ ap (λ d. continues_line (before + 1) d resource incarnation) holds.1 in
    subst (λ f. Holds (continues_line (before + 1) (digest_of held) resource incarnation) (last f) next) (sym same)
    (begins_known (last old) (last mid) held line holds.0 begins ∙ ap (λ t. Some t) wanted, is ∙ ap digest_of wanted)

-- a note stands in the same file
pub stands_there : {T E : Type 0} (r : Result T E) (number : ℕ) (resource held bytes : List ℕ) (file : Option (List ℕ)) (digest : ℕ) → OnOk r (Holds (held ++ bytes) file digest)
    → OnOk r ((now : List ℕ) × Holds now file digest × StandsBehind number resource held bytes now)
stands_there (Ok x) number resource held bytes file digest holds = (held ++ bytes, holds, inl refl)
stands_there (Err e) number resource held bytes file digest holds = tt

-- or in a further one
pub stands_further : {T E : Type 0} (r : Result T E) (number incarnation : ℕ) (resource held bytes : List ℕ) (file : Option (List ℕ)) (digest : ℕ)
    → OnOk r (Holds (continues_line (number + 1) (digest_of held) resource incarnation ++ bytes) file digest)
    → OnOk r ((now : List ℕ) × Holds now file digest × StandsBehind number resource held bytes now)
stands_further (Ok x) number incarnation resource held bytes file digest holds = (continues_line (number + 1) (digest_of held) resource incarnation ++ bytes, holds, inr (incarnation, refl))
stands_further (Err e) number incarnation resource held bytes file digest holds = tt

-- what is known stays, where neither the files nor the digest changed
pub holds_kept : {F : Type 0} (last : F → Option (List ℕ)) (old new : F) (held : List ℕ) (digest next : ℕ) → new ≡ old → next ≡ digest → Holds held (last old) digest → Holds held (last new) next
holds_kept last old new held digest next same is holds = (ap last same ∙ holds.0, is ∙ holds.1)

-- a further file has the next number, and is of the same resource
pub noted_further : {T E : Type 0} (r : Result T E) (number heard incarnation : ℕ) (resource heard_resource held bytes : List ℕ) (file : Option (List ℕ)) (digest : ℕ) → heard ≡ number → heard_resource ≡ resource
    → OnOk r (Holds (continues_line (heard + 1) (digest_of held) heard_resource incarnation ++ bytes) file digest)
    → OnOk r ((now : List ℕ) × Holds now file digest × StandsBehind number resource held bytes now)
noted_further r number heard incarnation resource heard_resource held bytes file digest number_is resource_is holds =
    stands_further r number incarnation resource held bytes file digest
    (subst (λ n. OnOk r (Holds (continues_line (n + 1) (digest_of held) resource incarnation ++ bytes) file digest)) number_is
    (subst (λ s. OnOk r (Holds (continues_line (heard + 1) (digest_of held) s incarnation ++ bytes) file digest)) resource_is holds))
