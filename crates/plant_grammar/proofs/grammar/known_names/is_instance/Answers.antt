use Rattle.std.proofs.Common.{rules, ◌↔◌, ℕ, List, IsTrue, Any}
use Rattle.std.specs.List.{flat_map}
use Rattle.plant_grammar.specs.declared.grammar.tree.Use.{Use}
use Rattle.plant_grammar.specs.declared.grammar.tree.Item.{Item}
use Rattle.plant_grammar.specs.Names.{is_named}
use Rattle.plant_grammar.specs.Lawful.{use_of}
use Rattle.plant_grammar.specs.Steps.ReadParts.{NamesInstance}
use Rattle.plant_grammar.proofs.Apart.{any_among}
use Rattle.plant_grammar.proofs.grammar.known_names.is_instance.Goals as goal

among : (name : List ℕ) (xs : List Item) → Any (NamesInstance name) xs ↔ Any (λ (u : Use). IsTrue (is_named name u.instance)) (flat_map use_of xs)
unfolding NamesInstance
among name xs = any_among use_of (λ u. is_named name u.instance) xs

pub returns : goal.returns
returns c =
    let lines : IsTrue c.any.result ↔ Any (NamesInstance c.args.name.now) c.args.items.now = search rules in
    let both = among c.args.name.now c.args.items.now in
    ((λ yes. both.0 (lines.0 yes)), (λ some. lines.1 (both.1 some)))
