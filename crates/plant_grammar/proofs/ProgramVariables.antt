-- A program's variables, one by one.
use Rattle.std.proofs.Common.{◌≡◌, ℕ, ◌<◌, ◌++◌, List, [], ◌∷◌, length, subst, sym, arith, Result, Ok, Err}
use Rattle.std.specs.Prelude.{OnOk, OnErr}
use Rattle.plant_grammar.specs.Steps.SameNames.{named_back}
use Rattle.declared_names.specs.declared.declarations.Declaration.{Declaration}
use Rattle.declared_names.specs.declared.declarations.Declared.{Declared}
use Rattle.declared_names.specs.declared.declarations.DeclareFault.{DeclareFault}
use Rattle.declared_names.specs.declared.declarations.DeclareFault.TheVariants.{Twice}
use Rattle.declared_names.specs.Names.{IsDeclared}
use Rattle.plant_grammar.specs.Lawful.{AreVariables}
use Rattle.plant_grammar.proofs.Apart.{any_with, apart_more}
use Rattle.plant_grammar.proofs.WordLists.{grown}

-- what was declared at the end is new, or nothing was
pub variables_more : (old new : List Declaration) (name : List ℕ) (declared : Declared) (r : Result (Unit {0}) DeclareFault) → OnOk r (new ≡ old ++ record { name = name; declared = declared } ∷ []) → (IsDeclared old name → r ≡ Err Twice) → OnErr r (new ≡ old)
    → AreVariables old → length old < 1000 → AreVariables new
variables_more old new name declared (Ok u) ok twice err are room =
    let d : Declaration = record { name = name; declared = declared } in
    record {
      apart = apart_more (λ (v : Declaration). v.name) old new d ok are.apart (λ some. let no : Ok u ≡ Err Twice = twice (any_with _ _ old (λ v h. named_back name v.name h) some) in absurd cc);
      few = omega (arith, room, grown old new d ok);
    }
variables_more old new name declared (Err e) ok twice err are room = subst AreVariables (sym err) are
