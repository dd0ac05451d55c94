use Rattle.std.proofs.Common.{◌≡◌, ℕ, zero, suc, IsTrue, [], ◌∷◌, Some, refl, sym, subst}
use Rattle.std.specs.Prelude.{slice_get, Any}
use Rattle.lists.proofs.Members.{any_at, any_found}
use Rattle.lists.proofs.Places.{some_same}
use Rattle.plant_grammar.specs.declared.grammar.tree.Use.{Use}
use Rattle.plant_grammar.specs.Names.{is_named}
use Rattle.plant_grammar.specs.Steps.ReadParts.{NamesInstance}
use Rattle.plant_grammar.proofs.grammar.known_names.names_instance.Goals as goal

one_found : (P : Use → Type 0) (u : Use) → Any P (u ∷ []) → P u
one_found P u any = by (any_found P (u ∷ []) any)
  where
    by : (k : ℕ) × (x : Use) × (slice_get (u ∷ []) k ≡ Some x) × P x → P u
    by (zero, x, at, p) = subst P (sym (some_same at)) p
    by (suc k, x, at, p) = absurd cc

pub returns-in-Use : goal.returns-in-Use
unfolding NamesInstance
returns-in-Use c =
    let u = c.in-Use.instance in
    let Named = λ (v : Use). IsTrue (is_named c.args.name.now v.instance) in
    let same = c.is_same.ensures in
    rw c.in-Use.is ((λ yes. any_at Named (u ∷ []) 0 u refl (subst IsTrue same yes)), (λ any. subst IsTrue (sym same) (one_found Named u any)))
