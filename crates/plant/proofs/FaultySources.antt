-- What is found wrong with a source of drafts is wrong with it in the tree.
use Rattle.std.proofs.Common.{◌≡◌, inl, inr, ℕ, IsTrue, List, None, Some, sym, ◌∙◌, subst}
use Rattle.std.specs.Prelude.{All, Any}
use Rattle.std.specs.List.{flat_map, AllZip}
use Rattle.lists.proofs.Members.{any_at, any_found}
use Rattle.declared_names.specs.declared.declarations.Declaration.{Declaration}
use Rattle.plant.specs.declared.sources.source_fault.SourceFault.{SourceFault}
use Rattle.plant.specs.declared.sources.source_fault.SourceFault.TheVariants as fault
use Rattle.plant_grammar.specs.declared.grammar.tree.Program.{Program}
use Rattle.plant_grammar.specs.declared.grammar.tree.SourceLines.{SourceLines}
use Rattle.plant_grammar.specs.declared.grammar.tree.Bind.{Bind}
use Rattle.plant_grammar.specs.declared.grammar.tree.Use.{Use}
use Rattle.plant_grammar.specs.declared.grammar.tree.Resource.{Resource}
use Rattle.plant_grammar.specs.Grammar.{Tree}
use Rattle.plant_grammar.specs.Names.{is_named}
use Rattle.plant_grammar.specs.Kinds.{IsOfInputKind}
use Rattle.plant_grammar.specs.Lawful.{variables, uses_of, binds_of, IsResourceLawful, IsTreeLawful}
use Rattle.plant.specs.Ladders.{IsLadderOf}
use Rattle.plant.specs.ProgramTypes.{TypeValue}
use Rattle.plant.specs.PlantValue.{ResourceValue}
use Rattle.plant.specs.Faultless.{RunsType}
use Rattle.plant.specs.Faultless.{IsFed, AreBindsFed}
use Rattle.plant.specs.SourceFaults.{lines_at, FailsFirst, IsBindFault, HasFirstBindFault, HasFirstSourceFault}
use Rattle.plant.specs.Steps.Drafts.{drafted, programs_in, IsResourceDraft, HasFeed, IsUseResolved}
use Rattle.plant.specs.Steps.SourceFaults.{word_fault, TellsOfBind, TellsOfBinds, TellsOfUse, TellsOfUses}
use Rattle.plant.proofs.FirstMentions.{all_flat}
use Rattle.plant.proofs.LinkedPlants.{uses_all}
use Rattle.plant.proofs.Sourcing.{source_of_origin, origin_of_source, one_type, type_of, tree_apart, fed_in_tree, use_in_tree}
use Rattle.plant.proofs.FirstFailing.{fails_moved}
use Rattle.plant.proofs.MissingParts.{missing_source}
use Rattle.plant.proofs.Zips.{all_at}

-- the binds of each instance of a lawful tree name inputs of its type
inputs_known : (programs : List Program) (name : List ℕ) (rs : List Resource) → IsTreeLawful (record { programs = programs; name = name; resources = rs })
    → All (λ u. RunsType (record { programs = programs; name = name; resources = rs }) (λ p. All (IsOfInputKind (variables p)) (binds_of u)) u) (flat_map uses_of rs)
inputs_known programs name rs lawful = all_flat Named uses_of rs (λ k d lt. of_resource _ (lawful.resources_lawful k d lt))
  where
    written : Tree
    written = record { programs = programs; name = name; resources = rs }

    Named : Use → Type 0
    Named u = Any (λ (p : Program). IsTrue (is_named u.program p.name) × All (IsOfInputKind (variables p)) (binds_of u)) programs

    of_resource : (r : Resource) → IsResourceLawful (record { programs = programs; name = name; resources = rs }) r → All Named (uses_of r)
    of_resource r is = uses_all Named r.items.items (λ j u at. (is.uses_lawful j u at).type_is)

module _ (types : List TypeValue) (name : List ℕ) (rs : List Resource) (ds : List ResourceValue) (drawn : All (λ (t : TypeValue). IsLadderOf t.program t.ladder) types) (known : AllZip (IsResourceDraft (programs_in types)) rs ds)
    (lawful : IsTreeLawful (record { programs = programs_in types; name = name; resources = rs })) where
  abbrev written : Tree
  written = record { programs = programs_in types; name = name; resources = rs }

  bind_fault : (p : Program) (b : Bind) (ls : SourceLines) (e : SourceFault) → IsOfInputKind (variables p) b → TellsOfBind (drafted ds) (variables p) e b ls → IsBindFault written (word_fault e).kind (word_fault e).line p b ls
  bind_fault p b ls (fault.Unknown line) (its, is, has) (inl none) = absurd (let wrong : None ≡ Some its = sym none ∙ is in cc)
  bind_fault p b ls (fault.Unknown line) input (inr (none, missing)) =
      ((λ kind has. let o = origin_of_source (programs_in types) name rs ds known lawful b.source kind has in none o.0 kind o.1), missing_source (programs_in types) name rs ds known lawful b.source ls line missing)
  bind_fault p b ls (fault.WrongKind line) input ((its, given, o, is, of, other), on) =
      ((its, given, is, source_of_origin (programs_in types) name rs ds known (tree_apart types name rs ds drawn known lawful) b.source o given of, other), on)
  bind_fault p b ls fault.Memory input told = told

  use_fault : (u : Use) (e : SourceFault) → RunsType written (λ p. All (IsOfInputKind (variables p)) (binds_of u)) u → TellsOfUse (drafted ds) types u e → HasFirstBindFault written (word_fault e).kind (word_fault e).line u
  use_fault u e inputs (type, found, first) =
      let k = (word_fault e).kind in
      let line = (word_fault e).line in
      let t = type_of types name rs ds drawn known lawful u type found in
      let p = any_found (λ (p : Program). IsTrue (is_named u.program p.name) × All (IsOfInputKind (variables p)) (binds_of u)) (programs_in types) inputs in
      let same : p.1 ≡ type.program = one_type (programs_in types) name rs ds known lawful u p.0 p.1 type.program t.0 (record { stands = p.2; named = p.3.0 }) t.1 in
      let kinds : All (IsOfInputKind (variables type.program)) (binds_of u) = subst (λ (q : Program). All (IsOfInputKind (variables q)) (binds_of u)) same p.3.1 in
      let told : TellsOfBinds (drafted ds) (variables type.program) (binds_of u) u.lines.items e = subst (λ (vs : List Declaration). TellsOfBinds (drafted ds) vs (binds_of u) u.lines.items e) t.2 first in
      let apart = tree_apart types name rs ds drawn known lawful in
      let of_type : FailsFirst (IsFed written type.program) (λ n b. IsBindFault written k line type.program b (lines_at u.lines.items n)) (binds_of u) =
      fails_moved (HasFeed (drafted ds) (variables type.program)) (IsFed written type.program) (λ n b. TellsOfBind (drafted ds) (variables type.program) e b (lines_at u.lines.items n)) (λ n b. IsBindFault written k line type.program b (lines_at u.lines.items n)) (binds_of u)
      (λ b fed. fed_in_tree (programs_in types) name rs ds known apart type.program b fed)
      (λ n b at of. bind_fault type.program b (lines_at u.lines.items n) e (all_at (IsOfInputKind (variables type.program)) (binds_of u) kinds n b at) of) told in
      any_at (λ (q : Program). IsTrue (is_named u.program q.name) × FailsFirst (IsFed written q) (λ n b. IsBindFault written k line q b (lines_at u.lines.items n)) (binds_of u)) (programs_in types) t.0 type.program t.1.stands (t.1.named, of_type)

  pub fault_in_tree : (e : SourceFault) → TellsOfUses (drafted ds) types (flat_map uses_of rs) e → HasFirstSourceFault written (word_fault e).kind (word_fault e).line
  fault_in_tree e first =
      fails_moved (IsUseResolved (drafted ds) types) (AreBindsFed written) (λ n u. TellsOfUse (drafted ds) types u e) (λ n u. HasFirstBindFault written (word_fault e).kind (word_fault e).line u) (flat_map uses_of rs)
      (λ u is. use_in_tree types name rs ds drawn known lawful u is)
      (λ n u at of. use_fault u e (all_at (λ (v : Use). RunsType written (λ p. All (IsOfInputKind (variables p)) (binds_of v)) v) (flat_map uses_of rs) (inputs_known (programs_in types) name rs lawful) n u at) of) first
