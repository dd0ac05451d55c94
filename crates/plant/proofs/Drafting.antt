-- Lists of what a resource declares, one item more at a time, and what is found in a draft.
use Rattle.std.proofs.Common.{◌≡◌, ◌≢◌, Result, Ok, Err, IfErr, ℕ, ◌+◌, ◌<◌, List, [], ◌∷◌, ◌++◌, Bool, true, false, cond, suc, subst, Option, Some, None, IsTrue, length, map, take, get_or, refl, sym, ap, ◌∙◌}
use Rattle.std.specs.Borrow.{Bor}
use Rattle.std.specs.Prelude.{slice_get, MatchOption}
use Rattle.std.specs.List.{flat_map, filter, find}
use Rattle.std.specs.Option.{option_map}
use Rattle.std.specs.Result.{IsErrAnd}
use Rattle.plant_grammar.specs.declared.grammar_fault.GrammarFault.{GrammarFault}
use Rattle.plant_grammar.specs.declared.grammar_fault.GrammarFaultKind.TheVariants.{Memory}
use Rattle.plant_grammar.specs.WordFaults.{IsGrammarFault}
use Rattle.std.proofs.lemmas.Option.{slice_get-map}
use Rattle.std.proofs.lemmas.List.{take_more, map-append, flat_map_more}
use Rattle.std.proofs.lemmas.List.Elements.{filter-append}
use Rattle.lists.proofs.Places.{some_same}
use Rattle.declared_names.specs.declared.declarations.Kind.{Kind}
use Rattle.declared_names.specs.Names.{place_of}
use Rattle.plant_grammar.specs.declared.grammar.tree.Use.{Use}
use Rattle.plant_grammar.specs.declared.grammar.tree.Item.{Item}
use Rattle.plant_grammar.specs.declared.grammar.tree.Item.TheVariants as item
use Rattle.plant_grammar.specs.Names.{is_named}
use Rattle.plant_grammar.specs.Lawful.{use_of}
use Rattle.plant_grammar.specs.Retained.{retained_places}
use Rattle.plant.specs.Ladders.{IsLadderOf}
use Rattle.plant.specs.ProgramTypes.{TypeValue}
use Rattle.task_codes.specs.CodeValue.{ProgramValue, CodeValue}
use Rattle.plant.specs.Steps.Drafts.{programs_in, IsProgramOf, IsPlacedAt, IsOutputAt}
use Rattle.plant.proofs.FoldedNames.{at_place}

-- an instance that the task runs is added
pub run_pushed : (olds news : List (Bor Use)) (u : Bor Use) (x : Item) (task : List ℕ) → news ≡ olds ++ u ∷ [] → x ≡ item.Use u.now → IsTrue (is_named u.now.task task)
    → map (λ (v : Bor Use). v.now) news ≡ map (λ (v : Bor Use). v.now) olds ++ filter (λ (v : Use). is_named v.task task) (use_of x)
run_pushed olds news u x task e is named = rw (e, map-append (λ (v : Bor Use). v.now) olds (u ∷ []), is, named) refl

-- one more line of a resource
pub runs_more : (p : Use → Bool) (items : List Item) (i : ℕ) (x : Item) (olds news : List Use) → i < length items → x ≡ get_or items i x
    → olds ≡ filter p (flat_map use_of (take i items)) → news ≡ olds ++ filter p (use_of x) → news ≡ filter p (flat_map use_of (take (i + 1) items))
runs_more p items i x olds news lt is e f =
    let front : take (i + 1) items ≡ take i items ++ x ∷ [] = take_more items i x lt ∙ ap (λ y. take i items ++ y ∷ []) (sym is) in
    let flat : flat_map use_of (take (i + 1) items) ≡ flat_map use_of (take i items) ++ use_of x = ap (flat_map use_of) front ∙ sym (flat_map_more use_of [] (take i items) x) in
    rw (flat, filter-append p (flat_map use_of (take i items)) (use_of x)) (f ∙ ap (λ l. l ++ filter p (use_of x)) e)

-- what is found stands somewhere, and passes
pub found_place : {A : Type 0} (p : A → Bool) (xs : List A) (x : A) → find p xs ≡ Some x → (k : ℕ) × (slice_get xs k ≡ Some x) × IsTrue (p x)
found_place p [] x e = absurd cc
found_place {A = A} p (y ∷ ys) x e = by_first (p y) refl e (found_place p ys x)
  where
    by_first : (b : Bool) → p y ≡ b → cond b (Some y) (find p ys) ≡ Some x → (find p ys ≡ Some x → (k : ℕ) × (slice_get ys k ≡ Some x) × IsTrue (p x))
        → (k : ℕ) × (slice_get (y ∷ ys) k ≡ Some x) × IsTrue (p x)
    by_first true is e later = (0, e, subst (λ (z : A). IsTrue (p z)) (some_same e) is)
    by_first false is e later = let at = later e in (suc at.0, at.1, at.2)

-- a program of a type that was found
pub program_made : (types : List TypeValue) (u : Use) (t : TypeValue) (p : ProgramValue) → find (λ (t : TypeValue). is_named u.program t.program.name) types ≡ Some t → IsLadderOf t.program t.ladder
    → p.name ≡ u.instance → p.ladder ≡ t.ladder → p.retained ≡ retained_places t.program → IsProgramOf (programs_in types) u p
program_made types u t p found drawn named same retained =
    let at = found_place (λ (t : TypeValue). is_named u.program t.program.name) types t found in
    record {
      name_is = named;
      place = at.0;
      type = t.program;
      type_is = record { stands = slice_get-map (λ (t : TypeValue). t.program) types at.0 ∙ ap (option_map (λ (t : TypeValue). t.program)) at.1; named = at.2 };
      ladder_is = rw same drawn;
      retained_is = retained;
    }

-- an output that was found by its place, or not
pub output_found : (c : CodeValue) (program : ℕ) (name : List ℕ) (owner : ProgramValue) (place : ℕ) (r : Option (ℕ × Kind)) → slice_get c.programs program ≡ Some owner
    → place_of owner.ladder.declarations name ≡ Some place → MatchOption r ((k : ℕ) (kind : Kind) → IsPlacedAt c.outputs program place k kind → ⊥) (λ x. IsPlacedAt c.outputs program place x.0 x.1)
    → MatchOption r ((k : ℕ) (kind : Kind) → IsOutputAt c program name k kind → ⊥) (λ x. IsOutputAt c program name x.0 x.1)
output_found c program name owner place None own at given = λ k kind is.
    let same : owner ≡ is.owner = some_same (sym own ∙ is.owner_is) in
    let here : is.place ≡ place = some_same (sym is.place_is ∙ ap (λ (p : ProgramValue). place_of p.ladder.declarations name) (sym same) ∙ at) in
    given k kind (subst (λ (n : ℕ). IsPlacedAt c.outputs program n k kind) here is.given_is)
output_found c program name owner place (Some x) own at given =
    let v = at_place owner.ladder.declarations name place at in
    record { owner = owner; place = place; variable = v.0; owner_is = own; place_is = at; variable_is = v.1; given_is = given }

-- want of memory is no refusal
pub memory_excused : {T : Type 0} (Q : GrammarFault → Type 0) (r : Result T GrammarFault) → IsErrAnd r (λ fault. (fault.kind ≡ Memory) × IsGrammarFault fault) → IfErr r (λ f. f.kind ≢ Memory → Q f)
memory_excused Q (Ok x) h = tt
memory_excused Q (Err fault) h = λ known. absurd (known h.0)
