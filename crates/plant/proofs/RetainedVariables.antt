-- The retained variables of programs, one program and one variable more at a time.
use Rattle.std.proofs.Common.{◌≡◌, ℕ, ◌+◌, ◌<◌, ◌≤◌, suc, List, [], ◌∷◌, ◌++◌, length, take, Option, Some, None, refl, sym, ap, ◌∙◌, subst, append_assoc, get_or, arith}
use Rattle.std.specs.Prelude.{slice_get, All}
use Rattle.std.specs.List.{flat_map, enumerate_from}
use Rattle.std.specs.Option.{option_map, option_and_then}
use Rattle.std.proofs.lemmas.List.{take_more, take_all, append-nil}
use Rattle.std.proofs.lemmas.Grind.{flat_map-append}
use Rattle.std.proofs.lemmas.Option.{slice_get_within, get_or_from_slice_get}
use Rattle.std.proofs.lemmas.List.Elements.{All-append, All-nil, All-cons}
use Rattle.declared_names.specs.declared.declarations.Kind.{Kind}
use Rattle.declared_names.specs.declared.declarations.Declaration.{Declaration}
use Rattle.task_codes.specs.declared.retained_variable.RetainedVariable.{RetainedVariable}
use Rattle.lists.specs.Items.{items_or_none}
use Rattle.task_codes.specs.CodeValue.{ProgramValue, CodeValue, IsRetainedOf, local_kind, retained_at, retained_in, retained_of}
use Rattle.plant.proofs.ProgramOutputs.{one_more, all_counted}

abbrev program_retained : ℕ × ProgramValue → List RetainedVariable
program_retained e = retained_in e.0 e.1

pub retained_start : (vs : List RetainedVariable) → vs ≡ vs ++ []
retained_start vs = sym (append-nil vs)

-- one more place of a program
pub place_more : (i : ℕ) (ds : List Declaration) (places : List ℕ) (n place : ℕ) (before old new : List RetainedVariable) → n < length places → place ≡ get_or places n place
    → old ≡ before ++ flat_map (retained_at i ds) (take n places) → new ≡ old ++ retained_at i ds place → new ≡ before ++ flat_map (retained_at i ds) (take (n + 1) places)
place_more i ds places n place before old new lt is e f =
    let f_at = retained_at i ds in
    let more : take (n + 1) places ≡ take n places ++ place ∷ [] = take_more places n place lt ∙ ap (λ y. take n places ++ y ∷ []) (sym is) in
    f ∙ ap (λ x. x ++ f_at place) e ∙ append_assoc before (flat_map f_at (take n places)) (f_at place)
    ∙ ap (λ x. before ++ x) (sym (ap (flat_map f_at) more ∙ flat_map-append f_at (take n places) (place ∷ []) ∙ ap (λ y. flat_map f_at (take n places) ++ y) (append-nil (f_at place))))

pub places_all : (i : ℕ) (ds : List Declaration) (places : List ℕ) (n : ℕ) (before vs : List RetainedVariable) → length places ≤ n
    → vs ≡ before ++ flat_map (retained_at i ds) (take n places) → vs ≡ before ++ flat_map (retained_at i ds) places
places_all i ds places n before vs le e = e ∙ ap (λ x. before ++ flat_map (retained_at i ds) x) (take_all n places le)

pub program_more : (ps : List ProgramValue) (n : ℕ) (p : ProgramValue) (old new : List RetainedVariable) → n < length ps → p ≡ get_or ps n p
    → old ≡ flat_map program_retained (take n (enumerate_from 0 ps)) → new ≡ old ++ retained_in n p → new ≡ flat_map program_retained (take (n + 1) (enumerate_from 0 ps))
program_more ps n p old new lt is e f = f ∙ ap (λ x. x ++ retained_in n p) e ∙ sym (one_more program_retained ps n p lt is)

pub programs_all : (ps : List ProgramValue) (n : ℕ) (vs : List RetainedVariable) → length ps ≤ n → vs ≡ flat_map program_retained (take n (enumerate_from 0 ps)) → vs ≡ retained_of ps
programs_all ps n vs le e = e ∙ ap (flat_map program_retained) (all_counted ps n le)

-- each retained variable is a local of one of the programs
module _ (c : CodeValue) where
  one_kept : (i place : ℕ) (p : ProgramValue) → slice_get c.programs i ≡ Some p → (at : Option Declaration) → slice_get p.ladder.declarations place ≡ at → (kind : Option Kind) → option_and_then (λ (d : Declaration). local_kind d.declared) at ≡ kind
      → All (IsRetainedOf c) (items_or_none (option_map (λ (k : Kind). (record { program = i; place = place; kind = k }) ∷ []) kind))
  one_kept i place p run at here None e = All-nil (IsRetainedOf c)
  one_kept i place p run None here (Some k) e = absurd cc
  one_kept i place p run (Some d) here (Some k) e =
      All-cons (IsRetainedOf c) (record { program = i; place = place; kind = k }) [] (record { program = p; variable = d; run = run; declared = here; kind_is = e }) (All-nil (IsRetainedOf c))

  places_kept : (i : ℕ) (p : ProgramValue) → slice_get c.programs i ≡ Some p → (places : List ℕ) → All (IsRetainedOf c) (flat_map (retained_at i p.ladder.declarations) places)
  places_kept i p run [] = All-nil (IsRetainedOf c)
  places_kept i p run (place ∷ places) =
      let at = slice_get p.ladder.declarations place in
      All-append (IsRetainedOf c) (retained_at i p.ladder.declarations place) (flat_map (retained_at i p.ladder.declarations) places)
      (one_kept i place p run at refl (option_and_then (λ (d : Declaration). local_kind d.declared) at) refl) (places_kept i p run places)

  programs_kept : (n : ℕ) (ps : List ProgramValue) → ((j : ℕ) → slice_get c.programs (n + j) ≡ slice_get ps j) → All (IsRetainedOf c) (flat_map program_retained (enumerate_from n ps))
  programs_kept n [] h = All-nil (IsRetainedOf c)
  programs_kept n (p ∷ ps) h =
      let none : n + 0 ≡ n = omega arith in
      let here : slice_get c.programs n ≡ Some p = ap (slice_get c.programs) (sym none) ∙ h 0 in
      All-append (IsRetainedOf c) (retained_in n p) (flat_map program_retained (enumerate_from (n + 1) ps)) (places_kept n p here p.retained)
      (programs_kept (n + 1) ps (λ j. let along : n + 1 + j ≡ n + suc j = omega arith in ap (slice_get c.programs) along ∙ h (suc j)))

  pub retained_placed : c.retained ≡ retained_of c.programs → (k : ℕ) (v : RetainedVariable) → slice_get c.retained k ≡ Some v → IsRetainedOf c v
  retained_placed e k v at =
      let all : All (IsRetainedOf c) c.retained = subst (λ (vs : List RetainedVariable). All (IsRetainedOf c) vs) (sym e) (programs_kept 0 c.programs (λ j. let same : 0 + j ≡ j = omega arith in ap (slice_get c.programs) same)) in
      subst (IsRetainedOf c) (get_or_from_slice_get c.retained k v v at) (all k v (slice_get_within c.retained k v at))
