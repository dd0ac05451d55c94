use Rattle.std.proofs.Common.{◌≡◌, ◌∙◌, ap, List, ℕ, position}
use Rattle.std.specs.Map.{keys_of}
use Rattle.declared_names.specs.declared.declarations.Declaration.{Declaration}
use Rattle.declared_names.specs.Names.{place_of}
use Rattle.declared_names.proofs.FoldedNames.{is_key, position_folded}
use Rattle.declared_names.proofs.declarations.Declarations.look_up.Goals as goal

pub returns : goal.returns
returns c =
    let entries = c.self.inside.entries.entries in
    let name = c.args.name.now in
    c.get_index_of.ensures.index
    ∙ ap (λ (l : List ℕ). position (is_key l) (keys_of entries)) c.put_small.ensures
    ∙ position_folded name entries c.self.invariant
    ∙ ap (λ (ds : List Declaration). place_of ds name) c.self.view_is
