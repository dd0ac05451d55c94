-- Program types that are sought by name.
use Rattle.std.proofs.Common.{◌≡◌, ℕ, ◌<◌, ◌++◌, length, arith, ◌||◌, ◌↔◌, Bool, true, false, suc, subst, IsTrue, List, [], ◌∷◌, map, cond, Option, Some, None, is_some, refl, sym, ap, ◌∙◌}
use Rattle.std.proofs.lemmas.List.{map-append}
use Rattle.std.proofs.lemmas.List.Folds.{Any-from_list_any, list_any-from_Any}
use Rattle.std.specs.Prelude.{Any}
use Rattle.std.proofs.lemmas.List.Elements.{All-nil}
use Rattle.std.specs.List.{list_any, find}
use Rattle.plant_grammar.specs.declared.grammar.tree.Program.{Program}
use Rattle.plant_grammar.specs.Lawful.{IsProgramLawful, AreProgramsDeclared}
use Rattle.plant_grammar.specs.Names.{is_named}
use Rattle.plant_grammar.specs.Steps.NamesRead.{IsNew}
use Rattle.plant_grammar.proofs.Apart.{list_any-map, apart_more, apart_none}
use Rattle.plant_grammar.proofs.WordLists.{all_more, grown}
use Rattle.plant_grammar.specs.Grammar.{TextValue}

either : {A : Type 0} (b : Bool) (x : A) (r : Option A) (s : Bool) → is_some r ≡ s → is_some (cond b (Some x) r) ≡ (b || s)
either true x r s e = refl
either false x r s e = e

found_is : {A : Type 0} (p : A → Bool) (xs : List A) → is_some (find p xs) ≡ list_any p xs
found_is p [] = refl
found_is p (x ∷ xs) = either (p x) x (find p xs) (list_any p xs) (found_is p xs)

-- something is found exactly where something passes
pub found_any : {A : Type 0} (p : A → Bool) (xs : List A) → IsTrue (is_some (find p xs)) ↔ Any (λ x. IsTrue (p x)) xs
found_any p xs = ((λ some. Any-from_list_any p xs (sym (found_is p xs) ∙ some)), (λ any. found_is p xs ∙ list_any-from_Any p xs any))

-- the same of what they hold
pub found_any_of : {A B : Type 0} (f : A → B) (p : B → Bool) (xs : List A) → IsTrue (is_some (find (λ x. p (f x)) xs)) ↔ Any (λ y. IsTrue (p y)) (map f xs)
found_any_of f p xs =
    let is = found_is (λ x. p (f x)) xs in
    ((λ some. Any-from_list_any p (map f xs) (list_any-map f p xs ∙ sym is ∙ some)), (λ any. is ∙ sym (list_any-map f p xs) ∙ list_any-from_Any p (map f xs) any))

none_found : {A : Type 0} (r : Option A) → r ≡ None → IsTrue (is_some r) → ⊥
none_found None e some = absurd cc
none_found (Some x) e some = absurd cc

-- where no type was found, none of the programs has the name
pub missed_type : (types : List TextValue) (name : List ℕ) → find (λ (t : TextValue). is_named name t.program.name) types ≡ None
    → Any (λ (p : Program). IsTrue (is_named name p.name)) (map (λ (t : TextValue). t.program) types) → ⊥
missed_type types name none any =
    none_found (find (λ (t : TextValue). is_named name t.program.name) types) none ((found_any_of (λ (t : TextValue). t.program) (λ (p : Program). is_named name p.name) types).1 any)

-- a type that was found is one of the programs, and what holds of it holds of one
pub found_type : (types : List TextValue) (name : List ℕ) (t : TextValue) (Q : Program → Type 0) → find (λ (t : TextValue). is_named name t.program.name) types ≡ Some t → Q t.program
    → Any (λ p. IsTrue (is_named name p.name) × Q p) (map (λ (t : TextValue). t.program) types)
found_type [] name t Q at q = absurd cc
found_type (x ∷ xs) name t Q at q = go (is_named name x.program.name) refl at (λ e. found_type xs name t Q e q)
  where
    go : (b : Bool) → is_named name x.program.name ≡ b → cond b (Some x) (find (λ (t : TextValue). is_named name t.program.name) xs) ≡ Some t
        → (find (λ (t : TextValue). is_named name t.program.name) xs ≡ Some t → Any (λ p. IsTrue (is_named name p.name) × Q p) (map (λ (t : TextValue). t.program) xs))
        → Any (λ p. IsTrue (is_named name p.name) × Q p) (x.program ∷ map (λ (t : TextValue). t.program) xs)
    go true e f later = let same : x ≡ t = cc in (0, x.program, omega arith, refl, (e, subst (λ (y : TextValue). Q y.program) (sym same) q))
    go false e f later = let r = later f in (suc r.0, r.1, omega (arith, r.2), r.3, r.4)

-- so the first program of the name is its program
pub found_program : (types : List TextValue) (name : List ℕ) (t : TextValue) → find (λ (t : TextValue). is_named name t.program.name) types ≡ Some t
    → find (λ (p : Program). is_named name p.name) (map (λ (t : TextValue). t.program) types) ≡ Some t.program
found_program [] name t at = absurd cc
found_program (x ∷ xs) name t at = go (is_named name x.program.name) refl at (λ e. found_program xs name t e)
  where
    later : Option Program
    later = find (λ (p : Program). is_named name p.name) (map (λ (t : TextValue). t.program) xs)

    go : (b : Bool) → is_named name x.program.name ≡ b → cond b (Some x) (find (λ (t : TextValue). is_named name t.program.name) xs) ≡ Some t
        → (find (λ (t : TextValue). is_named name t.program.name) xs ≡ Some t → later ≡ Some t.program)
        → cond (is_named name x.program.name) (Some x.program) later ≡ Some t.program
    go true e f more = let same : x ≡ t = cc in ap (λ (c : Bool). cond c (Some x.program) later) e ∙ ap (λ (y : TextValue). Some y.program) same
    go false e f more = ap (λ (c : Bool). cond c (Some x.program) later) e ∙ more f

pub map-grown : {A B : Type 0} (f : A → B) (xs ys : List A) (y : A) → ys ≡ xs ++ y ∷ [] → map f ys ≡ map f xs ++ f y ∷ []
map-grown f xs ys y e = ap (λ zs. map f zs) e ∙ map-append f xs (y ∷ [])

-- a program was read
pub programs_more : (ps qs : List Program) (p : Program) → qs ≡ ps ++ p ∷ [] → AreProgramsDeclared ps → IsNew (λ (p : Program). p.name) ps p.name → length ps < 64 → IsProgramLawful p → AreProgramsDeclared qs
programs_more ps qs p longer before new few last = record {
  few = omega (arith, few, grown ps qs p longer);
  apart = apart_more (λ (p : Program). p.name) ps qs p longer before.apart new;
  declared = all_more IsProgramLawful ps qs p longer before.declared last;
}

pub no_programs : AreProgramsDeclared []
no_programs = record {
  few = omega arith;
  apart = apart_none;
  declared = All-nil IsProgramLawful;
}
