-- Runs that are read, line by line and file by file, and the lines of each resource.
use Rattle.std.proofs.Common.{arith, ◌≡◌, ◌⊎◌, ℕ, ◌+◌, ◌≤◌, ◌==◌, ◌++◌, ◌∷◌, [], List, Bool, true, false, cond, length, slice_get, slice_set, Some, sym, ap, refl, ◌∙◌, subst, append_assoc, add-one, inl, inr, flat_map, filter}
use Rattle.std.specs.Global.{Vec}
use Rattle.std.proofs.lemmas.Bool.{eq-eqb, eqb-true}
use Rattle.std.proofs.lemmas.List.{append-nil}
use Rattle.std.proofs.lemmas.Option.{slice_get_within, same_Some}
use Rattle.lists.proofs.Places.{slice_get-set_same, slice_get-set_other, push_cases}
use Rattle.plant.specs.PlantValue.{PlantValue}
use Rattle.audit.specs.declared.journal_file.JournalFile.{JournalFile}
use Rattle.audit.specs.declared.line.Line.{Line}
use Rattle.audit.specs.declared.line.Place.{Place}
use Rattle.audit.specs.declared.run.Run.{Run}
use Rattle.audit.specs.Readings.{HasLine, HasRuns, AreRunsOf, HaveRuns, without_run, lines_of_resource}

-- one more line
pub line_more : (plant : PlantValue) (file : ℕ) (lines : List (List ℕ)) (k : ℕ) (before runs : List Run) (line : List ℕ) → slice_get lines k ≡ Some line → HasRuns plant file lines k before
    → HasLine plant (record { file = file; line = k + 1 }) line before runs → HasRuns plant file lines (k + 1) runs
line_more plant file lines k before runs line at was is =
    subst (λ n. HasRuns plant file lines n runs) (sym (add-one k)) (before, line, was, at, is)

-- one more file
pub file_more : (plant : PlantValue) (files : List JournalFile) (k : ℕ) (before found runs : List Run) (places without : List Place) (file : JournalFile) → slice_get files k ≡ Some file → HaveRuns plant files k before places
    → AreRunsOf plant k file.text.items found → runs ≡ before ++ found → without ≡ places ++ without_run k found → HaveRuns plant files (k + 1) runs without
file_more plant files k before found runs places without file at was is more told =
    subst (λ n. HaveRuns plant files n runs without) (sym (add-one k)) (before, found, places, file, was, at, is, more, told)

pub without_none : (k : ℕ) (found : List Run) (places without : List Place) → length found ≡ 0 → without ≡ places ++ record { file = k; line = 1 } ∷ [] → without ≡ places ++ without_run k found
without_none k [] places without none is = is
without_none k (run ∷ runs) places without none is = absurd (omega (arith, none))

pub without_some : (k : ℕ) (found : List Run) (places : List Place) → (length found ≡ 0 → ⊥) → places ≡ places ++ without_run k found
without_some k [] places some = absurd (some refl)
without_some k (run ∷ runs) places some = sym (append-nil places)

-- one more empty list
pub empty_more : (all : List (Vec Line)) (none : Vec Line) → none.items ≡ [] → ((n : ℕ) (lines : Vec Line) → slice_get all n ≡ Some lines → lines.items ≡ []) → (n : ℕ) (lines : Vec Line) → slice_get (all ++ none ∷ []) n ≡ Some lines → lines.items ≡ []
empty_more all none empty before n lines at = by (push_cases all none n lines at)
  where
    by : (slice_get all n ≡ Some lines) ⊎ ((n ≡ length all) × (lines ≡ none)) → lines.items ≡ []
    by (inl there) = before n lines there
    by (inr here) = ap (λ (v : Vec Line). v.items) here.1 ∙ empty

lines_here : (run : Run) (others : List Run) (n : ℕ) → run.resource ≡ n → lines_of_resource (run ∷ others) n ≡ run.lines.items ++ lines_of_resource others n
lines_here run others n is = ap (λ b. flat_map (λ (r : Run). r.lines.items) (cond b (run ∷ filter (λ (r : Run). r.resource == n) others) (filter (λ (r : Run). r.resource == n) others))) (eq-eqb run.resource n is)

lines_elsewhere : (run : Run) (others : List Run) (n : ℕ) → (run.resource ≡ n → ⊥) → lines_of_resource (run ∷ others) n ≡ lines_of_resource others n
lines_elsewhere run others n other = by (run.resource == n) refl
  where
    by : (b : Bool) → (run.resource == n) ≡ b → lines_of_resource (run ∷ others) n ≡ lines_of_resource others n
    by true is = absurd (other (eqb-true run.resource n is))
    by false is = ap (λ b. flat_map (λ (r : Run). r.lines.items) (cond b (run ∷ filter (λ (r : Run). r.resource == n) others) (filter (λ (r : Run). r.resource == n) others))) is

-- the lines so far of each resource, before those of the runs that are left
abbrev pub AreTaken : List (Vec Line) → List Run → List Run → Type 0
AreTaken resources rest all = (n : ℕ) (lines : Vec Line) → slice_get resources n ≡ Some lines → lines.items ++ lines_of_resource rest n ≡ lines_of_resource all n

pub taken_none : (resources : List (Vec Line)) (rest all : List Run) → rest ≡ all → ((n : ℕ) (lines : Vec Line) → slice_get resources n ≡ Some lines → lines.items ≡ []) → AreTaken resources rest all
taken_none resources rest all same none = λ n lines at. ap (λ ls. ls ++ lines_of_resource rest n) (none n lines at) ∙ ap (λ rs. lines_of_resource rs n) same

pub taken_all : (resources : List (Vec Line)) (rest all : List Run) → rest ≡ [] → AreTaken resources rest all → (n : ℕ) (lines : Vec Line) → slice_get resources n ≡ Some lines → lines.items ≡ lines_of_resource all n
taken_all resources rest all end before = λ n lines at. sym (append-nil lines.items) ∙ ap (λ rs. lines.items ++ lines_of_resource rs n) (sym end) ∙ before n lines at

-- a run of a resource that isn't there
pub taken_elsewhere : (resources : List (Vec Line)) (rest others all : List Run) (run : Run) → rest ≡ run ∷ others → length resources ≤ run.resource → AreTaken resources rest all → AreTaken resources others all
taken_elsewhere resources rest others all run is beyond before = λ n lines at.
    let within = slice_get_within resources n lines at in
    ap (λ ls. lines.items ++ ls) (sym (lines_elsewhere run others n (λ same. absurd (omega (arith, within, beyond, same)))) ∙ ap (λ rs. lines_of_resource rs n) (sym is)) ∙ before n lines at

-- a run of a resource: its lines stand behind those before
pub taken_here : (old new : List (Vec Line)) (rest others all : List Run) (run : Run) (here there : Vec Line) → rest ≡ run ∷ others → new ≡ slice_set old run.resource there → slice_get old run.resource ≡ Some here
    → there.items ≡ here.items ++ run.lines.items → AreTaken old rest all → AreTaken new others all
taken_here old new rest others all run here there is set at more before = λ n lines found. by n lines found (run.resource == n) refl
  where
    by : (n : ℕ) (lines : Vec Line) → slice_get new n ≡ Some lines → (b : Bool) → (run.resource == n) ≡ b → lines.items ++ lines_of_resource others n ≡ lines_of_resource all n
    by n lines found true same =
        let own : run.resource ≡ n = eqb-true run.resource n same in
        let placed : slice_get new run.resource ≡ Some there = ap (λ xs. slice_get xs run.resource) set ∙ slice_get-set_same old run.resource there (slice_get_within old run.resource here at) in
        let one : lines ≡ there = same_Some lines there (sym found ∙ ap (slice_get new) (sym own) ∙ placed) in
        ap (λ (v : Vec Line). v.items ++ lines_of_resource others n) one ∙ ap (λ ls. ls ++ lines_of_resource others n) more
        ∙ append_assoc here.items run.lines.items (lines_of_resource others n) ∙ ap (λ ls. here.items ++ ls) (sym (lines_here run others n own) ∙ ap (λ rs. lines_of_resource rs n) (sym is))
        ∙ before n here (ap (slice_get old) (sym own) ∙ at)
    by n lines found false same =
        let other : run.resource ≡ n → ⊥ = λ own. let e = sym (eq-eqb run.resource n own) ∙ same in cc in
        let kept : slice_get old n ≡ Some lines = sym (slice_get-set_other old run.resource n there (λ own. other (sym own))) ∙ ap (λ xs. slice_get xs n) (sym set) ∙ found in
        ap (λ ls. lines.items ++ ls) (sym (lines_elsewhere run others n other) ∙ ap (λ rs. lines_of_resource rs n) (sym is)) ∙ before n lines kept
