-- The outputs of programs, one program and one variable more at a time.
use Rattle.std.proofs.Common.{◌≡◌, ℕ, ◌+◌, ◌<◌, ◌≤◌, suc, List, [], ◌∷◌, ◌++◌, length, take, Option, Some, None, refl, sym, ap, ◌∙◌, subst, append_assoc, get_or, arith}
use Rattle.std.specs.Prelude.{slice_get, All}
use Rattle.std.specs.List.{flat_map, enumerate_from}
use Rattle.std.proofs.lemmas.List.{take_more, take_all, append-nil}
use Rattle.std.proofs.lemmas.List.FromFn.{length-enumerate_from, get_or-enumerate_from}
use Rattle.std.proofs.lemmas.Grind.{flat_map-append}
use Rattle.std.proofs.lemmas.Option.{slice_get_within, get_or_from_slice_get}
use Rattle.std.specs.Option.{option_map}
use Rattle.std.proofs.lemmas.List.Elements.{All-append, All-nil, All-cons}
use Rattle.lists.proofs.Places.{element_at}
use Rattle.declared_names.specs.declared.declarations.Kind.{Kind}
use Rattle.declared_names.specs.declared.declarations.Declaration.{Declaration}
use Rattle.task_codes.specs.declared.task_output.TaskOutput.{TaskOutput}
use Rattle.lists.specs.Items.{items_or_none}
use Rattle.task_codes.specs.CodeValue.{ProgramValue, CodeValue, IsOutputOf, output_kind, outputs_of, outputs_in, output_at}
use Rattle.plant.specs.Steps.Outputs.{output_if}

-- one more number of a list that is counted
pub one_more : {X A : Type 0} (f : ℕ × X → List A) (xs : List X) (n : ℕ) (x : X) → n < length xs → x ≡ get_or xs n x
    → flat_map f (take (n + 1) (enumerate_from 0 xs)) ≡ flat_map f (take n (enumerate_from 0 xs)) ++ f (n, x)
one_more f xs n x lt is =
    let counted = enumerate_from 0 xs in
    let long : n < length counted = rw (length-enumerate_from 0 xs) lt in
    let same : 0 + n ≡ n = omega arith in
    let here : get_or counted n (n, x) ≡ (n, x) = get_or-enumerate_from 0 xs n (n, x) lt ∙ ap (λ k. (k, get_or xs n x)) same ∙ ap (λ y. (n, y)) (sym is) in
    let more : take (n + 1) counted ≡ take n counted ++ (n, x) ∷ [] = take_more counted n (n, x) long ∙ ap (λ y. take n counted ++ y ∷ []) here in
    ap (flat_map f) more ∙ flat_map-append f (take n counted) ((n, x) ∷ []) ∙ ap (λ y. flat_map f (take n counted) ++ y) (append-nil (f (n, x)))

-- all of a list that is counted
pub all_counted : {X : Type 0} (xs : List X) (n : ℕ) → length xs ≤ n → take n (enumerate_from 0 xs) ≡ enumerate_from 0 xs
all_counted xs n le = let long : length (enumerate_from 0 xs) ≤ n = rw (length-enumerate_from 0 xs) le in take_all n (enumerate_from 0 xs) long

pub outputs_start : (os : List TaskOutput) → os ≡ os ++ []
outputs_start os = sym (append-nil os)

abbrev variable_outputs : ℕ → ℕ × Declaration → List TaskOutput
variable_outputs i e = output_at i e.0 e.1

abbrev program_outputs : ℕ × ProgramValue → List TaskOutput
program_outputs e = outputs_in e.0 e.1.ladder.declarations

pub within_more : (i : ℕ) (ds : List Declaration) (n : ℕ) (before old new : List TaskOutput) → n < length ds
    → old ≡ before ++ flat_map (variable_outputs i) (take n (enumerate_from 0 ds)) → new ≡ old ++ output_if i n (slice_get ds n)
    → new ≡ before ++ flat_map (variable_outputs i) (take (n + 1) (enumerate_from 0 ds))
within_more i ds n before old new lt e f =
    let at = element_at ds n lt in
    let d = at.0 in
    let some : slice_get ds n ≡ Some d = at.1 in
    let here : d ≡ get_or ds n d = sym (get_or_from_slice_get ds n d d some) in
    let grown : new ≡ old ++ output_at i n d = rw some at f in
    rw (one_more (variable_outputs i) ds n d lt here)
    (grown ∙ ap (λ x. x ++ output_at i n d) e ∙ append_assoc before (flat_map (variable_outputs i) (take n (enumerate_from 0 ds))) (output_at i n d))

pub within_all : (i : ℕ) (ds : List Declaration) (n : ℕ) (before os : List TaskOutput) → length ds ≤ n
    → os ≡ before ++ flat_map (variable_outputs i) (take n (enumerate_from 0 ds)) → os ≡ before ++ outputs_in i ds
within_all i ds n before os le e = e ∙ ap (λ x. before ++ flat_map (variable_outputs i) x) (all_counted ds n le)

pub before_more : (ps : List ProgramValue) (n : ℕ) (p : ProgramValue) (old new : List TaskOutput) → n < length ps → p ≡ get_or ps n p
    → old ≡ flat_map program_outputs (take n (enumerate_from 0 ps)) → new ≡ old ++ outputs_in n p.ladder.declarations
    → new ≡ flat_map program_outputs (take (n + 1) (enumerate_from 0 ps))
before_more ps n p old new lt is e f = f ∙ ap (λ x. x ++ outputs_in n p.ladder.declarations) e ∙ sym (one_more program_outputs ps n p lt is)

pub before_all : (ps : List ProgramValue) (n : ℕ) (os : List TaskOutput) → length ps ≤ n → os ≡ flat_map program_outputs (take n (enumerate_from 0 ps)) → os ≡ outputs_of ps
before_all ps n os le e = e ∙ ap (flat_map program_outputs) (all_counted ps n le)

-- each output is a VAR_OUTPUT of one of the programs
module _ (c : CodeValue) where
  one_placed : (i n : ℕ) (p : ProgramValue) (d : Declaration) → slice_get c.programs i ≡ Some p → slice_get p.ladder.declarations n ≡ Some d
      → (o : Option Kind) → output_kind d.declared ≡ o → All (IsOutputOf c) (items_or_none (option_map (λ (kind : Kind). (record { program = i; place = n; kind = kind }) ∷ []) o))
  one_placed i n p d at here None e = All-nil (IsOutputOf c)
  one_placed i n p d at here (Some kind) e = All-cons (IsOutputOf c) (record { program = i; place = n; kind = kind }) [] (record { program = p; variable = d; run = at; declared = here; kind_is = e }) (All-nil (IsOutputOf c))

  -- the variables from place n on
  variables_placed : (i : ℕ) (p : ProgramValue) → slice_get c.programs i ≡ Some p → (n : ℕ) (ds : List Declaration) → ((j : ℕ) → slice_get p.ladder.declarations (n + j) ≡ slice_get ds j)
      → All (IsOutputOf c) (flat_map (variable_outputs i) (enumerate_from n ds))
  variables_placed i p at n [] h = All-nil (IsOutputOf c)
  variables_placed i p at n (d ∷ ds) h =
      let none : n + 0 ≡ n = omega arith in
      let here : slice_get p.ladder.declarations n ≡ Some d = ap (slice_get p.ladder.declarations) (sym none) ∙ h 0 in
      All-append (IsOutputOf c) (output_at i n d) (flat_map (variable_outputs i) (enumerate_from (n + 1) ds)) (one_placed i n p d at here (output_kind d.declared) refl)
      (variables_placed i p at (n + 1) ds (λ j. let along : n + 1 + j ≡ n + suc j = omega arith in ap (slice_get p.ladder.declarations) along ∙ h (suc j)))

  -- the programs from place n on
  programs_placed : (n : ℕ) (ps : List ProgramValue) → ((j : ℕ) → slice_get c.programs (n + j) ≡ slice_get ps j) → All (IsOutputOf c) (flat_map program_outputs (enumerate_from n ps))
  programs_placed n [] h = All-nil (IsOutputOf c)
  programs_placed n (p ∷ ps) h =
      let none : n + 0 ≡ n = omega arith in
      let here : slice_get c.programs n ≡ Some p = ap (slice_get c.programs) (sym none) ∙ h 0 in
      All-append (IsOutputOf c) (outputs_in n p.ladder.declarations) (flat_map program_outputs (enumerate_from (n + 1) ps))
      (variables_placed n p here 0 p.ladder.declarations (λ j. let same : 0 + j ≡ j = omega arith in ap (slice_get p.ladder.declarations) same))
      (programs_placed (n + 1) ps (λ j. let along : n + 1 + j ≡ n + suc j = omega arith in ap (slice_get c.programs) along ∙ h (suc j)))

  pub outputs_placed : c.outputs ≡ outputs_of c.programs → (k : ℕ) (o : TaskOutput) → slice_get c.outputs k ≡ Some o → IsOutputOf c o
  outputs_placed e k o at =
      let all : All (IsOutputOf c) c.outputs = subst (λ (os : List TaskOutput). All (IsOutputOf c) os) (sym e) (programs_placed 0 c.programs (λ j. let same : 0 + j ≡ j = omega arith in ap (slice_get c.programs) same)) in
      subst (IsOutputOf c) (get_or_from_slice_get c.outputs k o o at) (all k o (slice_get_within c.outputs k o at))
