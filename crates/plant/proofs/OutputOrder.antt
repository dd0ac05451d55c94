-- The outputs of programs stand in order of program and place, so halving finds one of them or there is none.
use Rattle.std.proofs.Common.{◌≡◌, ℕ, ◌+◌, ◌<◌, ◌≤◌, List, [], ◌∷◌, get_or, Option, Some, None, inl, inr, refl, sym, ap, ◌∙◌, subst, arith}
use Rattle.std.specs.Prelude.{slice_get, All, AllPairs}
use Rattle.std.specs.List.{flat_map, enumerate_from}
use Rattle.std.specs.Option.{option_map}
use Rattle.std.proofs.lemmas.Bool.{cases_lt}
use Rattle.std.proofs.lemmas.Option.{slice_get_within, get_or_from_slice_get}
use Rattle.std.proofs.lemmas.List.Elements.{All-append, All-nil, All-cons}
use Rattle.declared_names.specs.declared.declarations.Kind.{Kind}
use Rattle.declared_names.specs.declared.declarations.Declaration.{Declaration}
use Rattle.task_codes.specs.declared.task_output.TaskOutput.{TaskOutput}
use Rattle.lists.specs.Items.{items_or_none}
use Rattle.task_codes.specs.CodeValue.{ProgramValue, output_kind, outputs_of, outputs_in, output_at}
use Rattle.plant.specs.Steps.Outputs.{StandsBefore, IsEarlierOutput}
use Rattle.plant.specs.Steps.Drafts.{IsPlacedAt}
use Rattle.lists.proofs.Pairs.{pairs_append}

abbrev variable_outputs : ℕ → ℕ × Declaration → List TaskOutput
variable_outputs i e = output_at i e.0 e.1

abbrev program_outputs : ℕ × ProgramValue → List TaskOutput
program_outputs e = outputs_in e.0 e.1.ladder.declarations

-- the outputs that may stand for one variable
abbrev if_any : ℕ → ℕ → Option Kind → List TaskOutput
if_any i n o = items_or_none (option_map (λ (kind : Kind). (record { program = i; place = n; kind = kind }) ∷ []) o)

none_in_order : AllPairs IsEarlierOutput []
none_in_order = λ i j d lt below. absurd (omega (arith, below))

one_in_order : (i n : ℕ) (o : Option Kind) → AllPairs IsEarlierOutput (if_any i n o) × All (λ (o : TaskOutput). (o.program ≡ i) × (o.place ≡ n)) (if_any i n o)
one_in_order i n None = (none_in_order, All-nil (λ (o : TaskOutput). (o.program ≡ i) × (o.place ≡ n)))
one_in_order i n (Some kind) =
    (λ j k d lt below. absurd (omega (arith, lt, below)), All-cons (λ (o : TaskOutput). (o.program ≡ i) × (o.place ≡ n)) (record { program = i; place = n; kind = kind }) [] (refl, refl) (All-nil (λ (o : TaskOutput). (o.program ≡ i) × (o.place ≡ n))))

-- the variables of a program from place n on
variables_in_order : (i n : ℕ) (ds : List Declaration)
    → AllPairs IsEarlierOutput (flat_map (variable_outputs i) (enumerate_from n ds)) × All (λ (o : TaskOutput). (o.program ≡ i) × (n ≤ o.place)) (flat_map (variable_outputs i) (enumerate_from n ds))
variables_in_order i n [] = (none_in_order, All-nil (λ (o : TaskOutput). (o.program ≡ i) × (n ≤ o.place)))
variables_in_order i n (d ∷ ds) =
    let here = one_in_order i n (output_kind d.declared) in
    let more = variables_in_order i (n + 1) ds in (
      pairs_append IsEarlierOutput (output_at i n d) (flat_map (variable_outputs i) (enumerate_from (n + 1) ds)) here.0 more.0
          (λ k e lt. λ m f lt'. let a = here.1 k e lt in let b = more.1 m f lt' in inr (a.0 ∙ sym b.0, omega (arith, a.1, b.1))),
      All-append (λ (o : TaskOutput). (o.program ≡ i) × (n ≤ o.place)) (output_at i n d) (flat_map (variable_outputs i) (enumerate_from (n + 1) ds))
          (λ k e lt. let a = here.1 k e lt in (a.0, omega (arith, a.1))) (λ k e lt. let b = more.1 k e lt in (b.0, omega (arith, b.1))),
    )

-- the programs from number n on
programs_in_order : (n : ℕ) (ps : List ProgramValue)
    → AllPairs IsEarlierOutput (flat_map program_outputs (enumerate_from n ps)) × All (λ (o : TaskOutput). n ≤ o.program) (flat_map program_outputs (enumerate_from n ps))
programs_in_order n [] = (none_in_order, All-nil (λ (o : TaskOutput). n ≤ o.program))
programs_in_order n (p ∷ ps) =
    let here = variables_in_order n 0 p.ladder.declarations in
    let more = programs_in_order (n + 1) ps in (
      pairs_append IsEarlierOutput (outputs_in n p.ladder.declarations) (flat_map program_outputs (enumerate_from (n + 1) ps)) here.0 more.0
          (λ k e lt. λ m f lt'. let a = here.1 k e lt in let b = more.1 m f lt' in inl (omega (arith, a.0, b))),
      All-append (λ (o : TaskOutput). n ≤ o.program) (outputs_in n p.ladder.declarations) (flat_map program_outputs (enumerate_from (n + 1) ps))
          (λ k e lt. let a = here.1 k e lt in omega (arith, a.0)) (λ k e lt. let b = more.1 k e lt in omega (arith, b)),
    )

pub outputs_in_order : (ps : List ProgramValue) (os : List TaskOutput) → os ≡ outputs_of ps → AllPairs IsEarlierOutput os
outputs_in_order ps os e = subst (λ (xs : List TaskOutput). AllPairs IsEarlierOutput xs) (sym e) (programs_in_order 0 ps).0

-- of two outputs in order, the one at the lower position stands before the other
before_at : (os : List TaskOutput) (j k : ℕ) (a b : TaskOutput) → AllPairs IsEarlierOutput os → j < k → slice_get os j ≡ Some a → slice_get os k ≡ Some b → IsEarlierOutput a b
before_at os j k a b pairs lt at at' =
    let within = slice_get_within os k b at' in
    let one : get_or os j a ≡ a = get_or_from_slice_get os j a a at in
    let other : get_or os k a ≡ b = get_or_from_slice_get os k b a at' in
    rw (one, other) at (pairs j k a lt within)

not_before : (o : TaskOutput) (program place : ℕ) (kind : Kind) → StandsBefore o program place → IsEarlierOutput (record { program = program; place = place; kind = kind }) o → ⊥
not_before o program place kind (inl a) (inl b) = omega (arith, a, b)
not_before o program place kind (inl a) (inr b) = omega (arith, a, b.0)
not_before o program place kind (inr a) (inl b) = omega (arith, a.0, b)
not_before o program place kind (inr a) (inr b) = omega (arith, a.1, b.1)

not_itself : (o : TaskOutput) (program place : ℕ) → StandsBefore o program place → o.program ≡ program → o.place ≡ place → ⊥
not_itself o program place (inl a) p q = omega (arith, a, p)
not_itself o program place (inr a) p q = omega (arith, a.1, q)

placed_alike : (os : List TaskOutput) (j k : ℕ) (o : TaskOutput) (program place : ℕ) (kind : Kind) → j ≡ k → slice_get os j ≡ Some o → IsPlacedAt os program place k kind → (o.program ≡ program) × (o.place ≡ place)
placed_alike os j k o program place kind e at placed =
    let is : ◌≡◌ {A = Option TaskOutput} (Some o) (Some (record { program = program; place = place; kind = kind })) = sym at ∙ ap (slice_get os) e ∙ placed in
    let same : o ≡ record { program = program; place = place; kind = kind } = cc in
    (ap (λ (x : TaskOutput). x.program) same, ap (λ (x : TaskOutput). x.place) same)

-- behind an output that stands before the place, if anywhere
pub sought_behind : (os : List TaskOutput) (m k : ℕ) (o : TaskOutput) (program place : ℕ) (kind : Kind) → AllPairs IsEarlierOutput os → slice_get os m ≡ Some o → StandsBefore o program place
    → IsPlacedAt os program place k kind → m + 1 ≤ k
sought_behind os m k o program place kind pairs at before placed = elim (cases_lt m k) [
  | inl lt ↦ omega (arith, lt)
  | inr le ↦ elim (cases_lt k m) [
    | inl early ↦ absurd (not_before o program place kind before (before_at os k m (record { program = program; place = place; kind = kind }) o pairs early placed at))
    | inr late ↦ let here : m ≡ k = omega arith in let same = placed_alike os m k o program place kind here at placed in absurd (not_itself o program place before same.0 same.1)
  ]
]

-- in front of an output that neither stands there nor before the place, if anywhere
pub sought_in_front : (os : List TaskOutput) (m k : ℕ) (o : TaskOutput) (program place : ℕ) (kind : Kind) → AllPairs IsEarlierOutput os → slice_get os m ≡ Some o
    → (o.program ≡ program → o.place ≡ place → ⊥) → (StandsBefore o program place → ⊥) → IsPlacedAt os program place k kind → k < m
sought_in_front os m k o program place kind pairs at other late placed = elim (cases_lt k m) [
  | inl lt ↦ lt
  | inr le ↦ elim (cases_lt m k) [
    | inl early ↦ absurd (late (before_at os m k o (record { program = program; place = place; kind = kind }) pairs early at placed))
    | inr also ↦ let here : m ≡ k = omega arith in let same = placed_alike os m k o program place kind here at placed in absurd (other same.0 same.1)
  ]
]

-- one output at most has a program and a place
pub one_output : (os : List TaskOutput) (j k : ℕ) (a b : TaskOutput) → AllPairs IsEarlierOutput os → slice_get os j ≡ Some a → slice_get os k ≡ Some b → a.program ≡ b.program → a.place ≡ b.place → j ≡ k
one_output os j k a b pairs at at' program place = elim (cases_lt j k) [
  | inl lt ↦ absurd (not_itself a b.program b.place (before_at os j k a b pairs lt at at') program place)
  | inr ge ↦ elim (cases_lt k j) [
    | inl lt ↦ absurd (not_itself b a.program a.place (before_at os k j b a pairs lt at' at) (sym program) (sym place))
    | inr le ↦ omega arith
  ]
]
