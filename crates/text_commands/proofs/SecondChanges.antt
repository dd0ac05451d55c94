-- The networks of the first drawing alone.
use Rattle.std.proofs.Common.{◌≡◌, ℕ, List, [], ◌∷◌, ◌++◌, Bool, true, map, length, replicate, refl, ap, ◌∙◌}
use Rattle.drawings.specs.declared.place.Place.{Place}
use Rattle.network.specs.declared.element.Element.{Element}
use Rattle.network.specs.Links.{Diagram}
use Rattle.network.specs.GraphValue.{diagram}
use Rattle.needed_networks.specs.Slices.{SlicesFollow, kept_networks}
use Rattle.text_commands.specs.SecondDrawing.{marks}
use Rattle.text_commands.specs.SecondChanges.{SecondChangesNothing, new_names, second_networks}

kept_none : (rails : List Place) (ys : List (List Element)) → kept_networks (replicate (length ys) true) (map (diagram rails) ys) ≡ []
kept_none rails [] = refl
kept_none rails (y ∷ ys) = kept_none rails ys

kept_first : (rails : List Place) (xs ys : List (List Element)) → kept_networks (marks (length xs) (length ys)) (map (diagram rails) (xs ++ ys)) ≡ map (diagram rails) xs
kept_first rails [] ys = kept_none rails ys
kept_first rails (x ∷ xs) ys = ap (λ (l : List Diagram). diagram rails x ∷ l) (kept_first rails xs ys)

pub changes_nothing : SlicesFollow → SecondChangesNothing
changes_nothing follow = λ first other names networks both dt slots ms slots' ms' others long agreed scan. record {
  follows = follow names dt (new_names both) (second_networks both) networks slots ms slots' ms' others both.unchanged long agreed scan;
  firsts = ap (kept_networks (second_networks both)) both.networks_are ∙ kept_first (both.one.rails ++ both.two.rails) both.one.networks both.two.networks;
}
