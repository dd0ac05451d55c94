-- A line that is taken piece by piece.
use Rattle.std.proofs.Common.{◌≡◌, ◌≢◌, ◌==◌, ◌⊎◌, inl, inr, ℕ, ◌++◌, ◌<◌, ◌≤◌, true, false, Bool, List, [], ◌∷◌, Option, Result, Ok, Err, IfErr, length, refl, sym, ap, ◌∙◌, subst, arith, append_assoc, length-append}
use Rattle.std.specs.Io.KnownBytes.{Consumes, IsAtEnd}
use Rattle.std.proofs.KnownBytes.{Consumes-nil, Consumes-trans}
use Rattle.std.proofs.lemmas.List.Elements.{All-append}
use Rattle.text_lines.specs.Lines.{HasNoFeed, Gives, TakesSome}
use Rattle.text_lines.specs.declared.read_fault.ReadFault.{ReadFault}
use Rattle.text_lines.specs.declared.read_fault.ReadFault.TheVariants as reading
use Rattle.text_lines.specs.declared.lines.Given.{Given}
use Rattle.text_lines.specs.declared.lines.Given.TheVariants as gave
use Rattle.live_node.specs.declared.live_lines.TakenLine.{TakenLine}
use Rattle.live_node.specs.declared.live_lines.TakenLine.TheVariants.{Line, TooLong, End}
use Rattle.live_node.specs.Steps.LineTaking.{TakesRest, IsTaken, HasPut}
use Rattle.live_node.specs.TakenLines.{TakesToEnd, TakesLine, Takes, TakesWithin}

-- no line feed is among the bytes of two texts
pub plain_both : (a b : List ℕ) → HasNoFeed a → HasNoFeed b → HasNoFeed (a ++ b)
plain_both a b p q = All-append (λ c. (c == 10) ≡ false) a b p q

-- the rest of a line is held behind its beginning, or is too long with it
abbrev pub IsHeld : Bool → List ℕ → List ℕ → List ℕ → Type 0
IsHeld true begun line rest = 16777216 < length (begun ++ rest)
IsHeld false begun line rest = line ≡ begun ++ rest

-- one piece more
pub held_more : (was now : Bool) (begun line new rest piece : List ℕ) → IsHeld was begun line rest → HasPut line new piece was now → IsHeld now begun new (rest ++ piece)
held_more false false begun line new rest piece h p = p.0 ∙ ap (λ l. l ++ piece) h ∙ append_assoc begun rest piece
held_more true false begun line new rest piece h p = absurd cc
held_more false true begun line new rest piece h p =
    omega (arith, p.1 refl, ap length h, length-append line piece, length-append begun rest, length-append begun (rest ++ piece), length-append rest piece)
held_more true true begun line new rest piece h p =
    omega (arith, h, length-append begun rest, length-append begun (rest ++ piece), length-append rest piece)

-- what is held stays within its bound
pub held_within : (was now : Bool) (line new piece : List ℕ) → length line ≤ 16777216 → HasPut line new piece was now → length new ≤ 16777216
held_within was false line new piece few p = p.2
held_within was true line new piece few p = omega (arith, few, ap length p.0)

-- the rest was taken to its end
pub rest_taken : (too_long fed : Bool) (given left : Option (List ℕ)) (begun line rest : List ℕ) (result : TakenLine) → HasNoFeed rest → IsHeld too_long begun line rest → length line ≤ 16777216 → TakesToEnd given left rest fed → IsTaken too_long fed result
    → TakesRest given left begun line result
rest_taken too_long fed given left begun line rest (Line f) plain held few end is =
    (rest, subst (λ b. IsHeld b begun line rest) is.0 held, few, plain, subst (TakesToEnd given left rest) (sym is.1) end)
rest_taken too_long fed given left begun line rest (TooLong f) plain held few end is =
    (rest, subst (λ b. IsHeld b begun line rest) is.0 held, plain, subst (TakesToEnd given left rest) (sym is.1) end)
rest_taken too_long fed given left begun line rest End plain held few end is = absurd is

-- a last piece, with the line feed behind it
pub fed_end : (given mid left : Option (List ℕ)) (rest piece : List ℕ) → Consumes given mid rest → Consumes mid left (piece ++ 10 ∷ []) → TakesToEnd given left (rest ++ piece) true
fed_end given mid left rest piece a b =
    subst (Consumes given left) (sym (append_assoc rest piece (10 ∷ []))) (Consumes-trans given mid left rest (piece ++ 10 ∷ []) a b)

-- the whole line was taken, whose beginning was too long for one piece
pub whole_end : (given mid left : Option (List ℕ)) (begun rest : List ℕ) (fed : Bool) → Consumes given mid begun → TakesToEnd mid left rest fed → TakesToEnd given left (begun ++ rest) fed
whole_end given mid left begun rest true a b = fed_end given mid left begun rest a b
whole_end given mid left begun rest false a b = (Consumes-trans given mid left begun rest a b.0, b.1)

some_bytes : (begun rest : List ℕ) → length begun ≡ 1000001 → begun ++ rest ≢ []
some_bytes [] rest long = absurd (omega (arith, long))
some_bytes (c ∷ more) rest long = λ e. absurd cc

pub line_whole : (given mid left : Option (List ℕ)) (begun rest : List ℕ) (fed : Bool) → HasNoFeed begun → length begun ≡ 1000001 → Consumes given mid begun → HasNoFeed rest → TakesToEnd mid left rest fed → TakesLine given left (begun ++ rest) fed
line_whole given mid left begun rest fed plain long a more end =
    (plain_both begun rest plain more, λ _. some_bytes begun rest long, whole_end given mid left begun rest fed a end)

pub takes_whole : (given mid left : Option (List ℕ)) (begun line : List ℕ) (result : TakenLine) → HasNoFeed begun → length begun ≡ 1000001 → Consumes given mid begun → TakesRest mid left begun line result → Takes given left line result
takes_whole given mid left begun line (Line fed) plain long a t =
    (t.2, subst (λ l. TakesLine given left l fed) (sym t.1) (line_whole given mid left begun t.0 fed plain long a t.3 t.4))
takes_whole given mid left begun line (TooLong fed) plain long a t =
    (begun ++ t.0, t.1, line_whole given mid left begun t.0 fed plain long a t.2 t.3)
takes_whole given mid left begun line End plain long a t = absurd t

-- a last piece, behind which nothing is left
pub last_end : (given left : Option (List ℕ)) (piece : List ℕ) (g : Given) → (g ≡ gave.LastLine) ⊎ (g ≡ gave.End) → Gives given left piece g → HasNoFeed piece × Consumes given left piece × IsAtEnd left
last_end given left piece g (inl e) h = let k = subst (Gives given left piece) e h in (k.0, k.3, k.4)
last_end given left piece g (inr e) h =
    let k = subst (Gives given left piece) e h in
    (subst HasNoFeed (sym k.0) (λ j d lt. absurd (omega (arith, lt))), subst (Consumes given left) (sym k.0) k.1, k.2)

-- a line that one piece holds
pub takes_line : (given left : Option (List ℕ)) (line : List ℕ) → Gives given left line gave.Line → Takes given left line (Line true)
takes_line given left line h = (omega (arith, h.1), (h.0, λ e. absurd cc, h.2))

pub takes_last : (given left : Option (List ℕ)) (line : List ℕ) → Gives given left line gave.LastLine → Takes given left line (Line false)
takes_last given left line h = (omega (arith, h.1), (h.0, λ _. h.2, (h.3, h.4)))

-- the line goes on behind its first piece
pub begins_more : (given mid left : Option (List ℕ)) (begun : List ℕ) → HasNoFeed begun → Consumes given mid begun → TakesSome mid left → TakesSome given left
begins_more given mid left begun plain a b = (begun ++ b.0, plain_both begun b.0 plain b.1, Consumes-trans given mid left begun b.0 a b.2)

-- nothing of it was taken yet
pub begins_none : (given : Option (List ℕ)) → TakesSome given given
begins_none given = ([], λ j d lt. absurd (omega (arith, lt)), Consumes-nil given)

-- some of a line was taken
pub within_some : (least : ℕ) (fault : ReadFault) (given left : Option (List ℕ)) → TakesSome given left → TakesWithin least fault given left
within_some least reading.Read given left t = t
within_some least reading.Memory given left t = inl t

-- one piece more was taken, and there is no memory for it
pub within_given : (given now left : Option (List ℕ)) (rest piece : List ℕ) (g : Given) → HasNoFeed rest → Consumes given now rest → Gives now left piece g → TakesWithin 0 reading.Memory given left
within_given given now left rest piece gave.Line plain a h = inr (rest ++ piece, omega arith, plain_both rest piece plain h.0, fed_end given now left rest piece a h.2)
within_given given now left rest piece gave.LastLine plain a h = inl (begins_more given now left rest plain a (piece, h.0, h.3))
within_given given now left rest piece gave.TooLong plain a h = inl (begins_more given now left rest plain a (piece, h.0, h.2))
within_given given now left rest piece gave.End plain a h = inl (begins_more given now left rest plain a ([], (λ j d lt. absurd (omega (arith, lt))), h.1))

-- behind the beginning of a long line
within_behind : (fault : ReadFault) (given mid left : Option (List ℕ)) (begun : List ℕ) → HasNoFeed begun → length begun ≡ 1000001 → Consumes given mid begun → TakesWithin 0 fault mid left → TakesWithin 1000001 fault given left
within_behind reading.Read given mid left begun plain long a t = begins_more given mid left begun plain a t
within_behind reading.Memory given mid left begun plain long a (inl t) = inl (begins_more given mid left begun plain a t)
within_behind reading.Memory given mid left begun plain long a (inr t) =
    inr (begun ++ t.0, omega (arith, long, length-append begun t.0), plain_both begun t.0 plain t.2, fed_end given mid left begun t.0 a t.3)

pub fault_behind : {T : Type 0} (r : Result T ReadFault) (given mid left : Option (List ℕ)) (begun : List ℕ) → HasNoFeed begun → length begun ≡ 1000001 → Consumes given mid begun → IfErr r (λ why. TakesWithin 0 why mid left) → IfErr r (λ why. TakesWithin 1000001 why given left)
fault_behind (Ok x) given mid left begun plain long a t = tt
fault_behind (Err fault) given mid left begun plain long a t = within_behind fault given mid left begun plain long a t
