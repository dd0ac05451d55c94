use Rattle.std.proofs.Common.{◌≡◌, ℕ, ◌+◌, ◌<◌, List, [], ◌∷◌, ◌++◌, Some, None, length, map, take, slice_get, ap, ◌∙◌, sym, arith, Vec, Global}
use Rattle.std.specs.List.{flat_map}
use Rattle.std.proofs.lemmas.List.{flat_map_more, take_more}
use Rattle.std.proofs.lemmas.Option.{slice_get-get_or, get_or_from_slice_get}
use Rattle.declared_names.specs.declared.declarations.Declaration.{Declaration}
use Rattle.declared_names.specs.declared.declarations.Declared.TheVariants.{Local}
use Rattle.declared_names.specs.declared.declarations.Kind.TheVariants as kind
use Rattle.warnings.specs.declared.unbound.UnboundInput.{UnboundInput}
use Rattle.warnings.specs.Unbound.{InputNames, names_in, unbound_at}
use Rattle.warnings.proofs.unbound.push_all_unbound.Goals as goal
use Rattle.warnings.proofs.unbound.push_all_unbound.Goals.{in-Some+in_ok-push_unbound, in_default}

-- one declaration more
step : (told : Declaration → List InputNames) (first : List InputNames) (ds : List Declaration) (k : ℕ) (d : Declaration)
    (old new : List InputNames) → k < length ds → slice_get ds k ≡ Some d → old ≡ first ++ flat_map told (take k ds) → new ≡ old ++ told d
    → new ≡ first ++ flat_map told (take (k + 1) ds)
step told first ds k d old new lt is was adds =
    let more : take (k + 1) ds ≡ take k ds ++ d ∷ []
    = take_more ds k d lt ∙ ap (λ (x : Declaration). take k ds ++ x ∷ []) (get_or_from_slice_get ds k d d is) in
    adds ∙ ap (λ (names : List InputNames). names ++ told d) was ∙ flat_map_more told first (take k ds) d
    ∙ ap (λ (xs : List Declaration). first ++ flat_map told xs) (sym more)

-- a declaration is there
there : (ds : List Declaration) (k : ℕ) → k < length ds → slice_get ds k ≡ None → ⊥
there ds k lt none =
    let some = slice_get-get_or ds k (record { name = []; declared = Local kind.Bool }) lt in
    let no : ⊥ = cc in no

pub loop-place-preserved : goal.loop-place-preserved
loop-place-preserved c =
    let ds = c.args.declarations.now in
    let k = c.loop-place.place in
    let told = unbound_at c.args.resource.now c.args.used.now in
    let lt : k < length ds = omega (arith, c.len-place-end.ensures) in
    elim c.match-entry.branch [
      | in-Some+in_ok-push_unbound w ↦
          step told (map names_in c.args.found.now.items) ds k (record { name = w.in-Some.name.now; declared = w.in-Some.declared })
          (map names_in c.loop-place.found.items) (map names_in c.match-entry.found.items) lt w.in-Some.ensures c.loop-place.invariant
          (ap (λ (found : Vec UnboundInput Global). map names_in found.items) w.found-is ∙ w.in_ok-push_unbound.ensures)
      | in_default w ↦ absurd (there ds k lt w.in_default.ensures)
    ]
