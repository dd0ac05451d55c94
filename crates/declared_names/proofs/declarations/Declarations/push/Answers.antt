use Rattle.std.proofs.Common.{◌≡◌, ◌++◌, [], ◌∷◌, List, ℕ, Vec, Global, None, ap, ◌∙◌, sym, subst}
use Rattle.std.specs.Map.{values_of}
use Rattle.std.specs.Str.{str_to_ascii_lowercase}
use Rattle.declared_names.specs.declared.declarations.Declaration.{Declaration}
use Rattle.declared_names.specs.declared.declarations.Declared.{Declared}
use Rattle.declared_names.specs.Steps.Folded.{AreFolded}
use Rattle.declared_names.specs.Names.{place_of}
use Rattle.declared_names.proofs.FoldedNames.{same_key, insert_new, AreFolded-push, values_of-push}
use Rattle.indexmap.specs.IndexMap.{insert_entry}
use Rattle.declared_names.proofs.declarations.Declarations.push.Goals as goal

-- the entries with one more, and what the list then is
step : (key : Vec ℕ Global) (name given : List ℕ) (what : Declared) (es new : List (Vec ℕ Global × Declaration)) (ds : List Declaration)
    → AreFolded es → values_of es ≡ ds → key.items ≡ str_to_ascii_lowercase given → name ≡ given → place_of ds given ≡ None
    → new ≡ insert_entry same_key es key (record { name = name; declared = what })
    → AreFolded new × (values_of new ≡ ds ++ record { name = given; declared = what } ∷ [])
step key name given what es new ds folded view same copied none made =
    let d : Declaration = record { name = name; declared = what } in
    let own : key.items ≡ str_to_ascii_lowercase d.name = same ∙ ap str_to_ascii_lowercase (sym copied) in
    let absent : place_of (values_of es) d.name ≡ None = ap (λ (l : List Declaration). place_of l name) view ∙ ap (place_of ds) copied ∙ none in
    let is : new ≡ es ++ (key, d) ∷ [] = made ∙ insert_new key d own es folded absent in (
      subst AreFolded (sym is) (AreFolded-push key d own es folded),
      ap values_of is ∙ values_of-push key d own es ∙ ap (λ (l : List Declaration). l ++ d ∷ []) view
          ∙ ap (λ (n : List ℕ). ds ++ record { name = n; declared = what } ∷ []) copied,
    )

pub invariant_of-self-2 : goal.invariant_of-self-2
invariant_of-self-2 c = (step c.in_ok-key.key c.in_ok-name.name c.args.name.now c.args.declared c.self.inside.entries.entries c.insert.new.self.entries c.args.self.now
    c.self.invariant c.self.view_is c.in_ok-key.ensures c.in_ok-name.ensures c.requires c.in_ok-insert.ensures.entries).0

pub returns-clause-ok : goal.returns-clause-ok
returns-clause-ok c = (step c.in_ok-key.key c.in_ok-name.name c.args.name.now c.args.declared c.self.inside.entries.entries c.insert.new.self.entries c.args.self.now
    c.self.invariant c.self.view_is c.in_ok-key.ensures c.in_ok-name.ensures c.requires c.in_ok-insert.ensures.entries).1
