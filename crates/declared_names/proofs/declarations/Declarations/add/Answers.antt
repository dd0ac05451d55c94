use Rattle.std.proofs.Common.{◌≡◌, ◌∙◌, sym, Option, None, Some, true, false, is_some, ℕ, List}
use Rattle.declared_names.specs.Names.{place_of, IsDeclared}
use Rattle.declared_names.specs.declared.declarations.Declaration.{Declaration}
use Rattle.declared_names.proofs.Places.{declared_place, place_declared}
use Rattle.declared_names.proofs.declarations.Declarations.add.Goals as goal

found : (ds : List Declaration) (name : List ℕ) (o : Option ℕ) → o ≡ place_of ds name → is_some o ≡ true → IsDeclared ds name
found ds name None at some = absurd cc
found ds name (Some i) at some = place_declared ds name i (sym at)

pub returns-then-is_some-clause-only : goal.returns-then-is_some-clause-only
returns-then-is_some-clause-only c = λ _. found c.args.self.now c.args.name.now c.position.result c.position.ensures (sym c.is_some.ensures ∙ c.if-is_some.true)

missing : (ds : List Declaration) (name : List ℕ) (o : Option ℕ) → o ≡ place_of ds name → is_some o ≡ false → place_of ds name ≡ None
missing ds name None at none = sym at
missing ds name (Some i) at none = absurd cc

pub returns-clause-twice : goal.returns-clause-twice
returns-clause-twice c = λ declared. absurd (declared_place c.args.self.now c.args.name.now declared
    (missing c.args.self.now c.args.name.now c.position.result c.position.ensures (sym c.is_some.ensures ∙ c.if-is_some.false)))
