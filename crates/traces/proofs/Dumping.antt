-- The lines of a dump follow one another.
use Rattle.std.proofs.Common.{◌≡◌, ℕ, ◌+◌, ◌++◌, List, ap, ap₂, ◌∙◌, append_assoc, add-one}
use Rattle.traces.specs.Tracks.{TrackValue}
use Rattle.traces.specs.ValueChanges.{declared_lines, declared_lines_of, last_told, moment_lines, moments_lines, told_at}

-- one declaration more
pub declared_more : (tracks : List TrackValue) (k : ℕ) (first text text' : List ℕ) → text ≡ first ++ declared_lines tracks k → text' ≡ text ++ declared_lines_of tracks k → text' ≡ first ++ declared_lines tracks (k + 1)
declared_more tracks k first text text' is more =
    rw (add-one k) (more ∙ ap (λ l. l ++ declared_lines_of tracks k) is ∙ append_assoc first (declared_lines tracks k) (declared_lines_of tracks k))

-- one moment more, and the time that was told last behind it
pub moment_more : (time : ℕ → ℕ) (tracks : List TrackValue) (k told at : ℕ) (first text text' : List ℕ) → text ≡ first ++ moments_lines time tracks k → told ≡ last_told time tracks k → at ≡ time k
    → text' ≡ text ++ moment_lines told at tracks k → text' ≡ first ++ moments_lines time tracks (k + 1)
moment_more time tracks k told at first text text' is was now more =
    let lines = moment_lines (last_told time tracks k) (time k) tracks k in
    rw (add-one k) (more ∙ ap₂ (λ t a. text ++ moment_lines t a tracks k) was now ∙ ap (λ l. l ++ lines) is ∙ append_assoc first (moments_lines time tracks k) lines)

pub told_more : (time : ℕ → ℕ) (tracks : List TrackValue) (k told at told' : ℕ) → told ≡ last_told time tracks k → at ≡ time k → told' ≡ told_at told at tracks k → told' ≡ last_told time tracks (k + 1)
told_more time tracks k told at told' was now more = rw (add-one k) (more ∙ ap₂ (λ t a. told_at t a tracks k) was now)

-- two parts, three parts, four parts
pub two_parts : (text one two a b : List ℕ) → one ≡ text ++ a → two ≡ one ++ b → two ≡ text ++ (a ++ b)
two_parts text one two a b first second = second ∙ ap (λ l. l ++ b) first ∙ append_assoc text a b

pub three_parts : (text one two three a b c : List ℕ) → one ≡ text ++ a → two ≡ one ++ b → three ≡ two ++ c → three ≡ text ++ (a ++ b ++ c)
three_parts text one two three a b c first second third = two_parts text two three (a ++ b) c (two_parts text one two a b first second) third

pub four_parts : (text one two three four a b c d : List ℕ) → one ≡ text ++ a → two ≡ one ++ b → three ≡ two ++ c → four ≡ three ++ d → four ≡ text ++ (a ++ b ++ c ++ d)
four_parts text one two three four a b c d first second third fourth =
    two_parts text three four (a ++ b ++ c) d (three_parts text one two three a b c first second third) fourth
