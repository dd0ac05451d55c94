-- The first name of a source that isn't found in the drafts of resources isn't found in the tree either.
use Rattle.std.proofs.Common.{◌≡◌, inl, inr, ℕ, IsTrue, List, sym, subst}
use Rattle.std.specs.Prelude.{slice_get, Any, Some}
use Rattle.std.specs.List.{AllZip}
use Rattle.lists.proofs.Members.{any_at, any_found}
use Rattle.lists.proofs.Zips.{zip_at, zip_back}
use Rattle.plant_grammar.specs.declared.grammar.tree.Program.{Program}
use Rattle.plant_grammar.specs.declared.grammar.tree.SourceName.{SourceName}
use Rattle.plant_grammar.specs.declared.grammar.tree.SourceName.TheVariants as source
use Rattle.plant_grammar.specs.declared.grammar.tree.SourceLines.{SourceLines}
use Rattle.plant_grammar.specs.declared.grammar.tree.Use.{Use}
use Rattle.plant_grammar.specs.declared.grammar.tree.Resource.{Resource}
use Rattle.plant_grammar.specs.Grammar.{Tree}
use Rattle.plant_grammar.specs.Names.{is_named}
use Rattle.plant_grammar.specs.Lawful.{tasks_of, uses_of, IsResourceLawful, IsTreeLawful}
use Rattle.plant.specs.PlantValue.{ResourceValue}
use Rattle.plant.specs.StandsFor.{runs_in}
use Rattle.plant.specs.SourceFaults.{IsFirstMissing}
use Rattle.plant.specs.Steps.Drafts.{drafted, IsProgramOf, IsDraftOf, IsResourceDraft, IsInstanceAt}
use Rattle.plant.specs.Steps.SourceFaults.{IsValueMissing, IsOriginMissing}
use Rattle.plant.proofs.Sourcing.{one_item, run_of, line_of, drafts_apart, kept}
use Rattle.plant.proofs.Zips.{all_at}

module _ (programs : List Program) (name : List ℕ) (rs : List Resource) (ds : List ResourceValue) (known : AllZip (IsResourceDraft programs) rs ds)
    (lawful : IsTreeLawful (record { programs = programs; name = name; resources = rs })) where
  abbrev written : Tree
  written = record { programs = programs; name = name; resources = rs }

  -- an instance of a resource is in its draft
  instance_stands : (k : ℕ) (r : Resource) (d : ResourceValue) → slice_get rs k ≡ Some r → IsResourceDraft programs r d → (i : List ℕ) → Any (λ (u : Use). IsTrue (is_named i u.instance)) (uses_of r) → (m : ℕ) × (n : ℕ) × IsInstanceAt d.codes i m n
  instance_stands k r d at of_draft i any =
      let u = any_found (λ (u : Use). IsTrue (is_named i u.instance)) (uses_of r) any in
      let line = line_of programs name rs ds known r (all_at (IsResourceLawful written) rs lawful.resources_lawful k r at) u.0 u.1 u.2 in
      let code = zip_at (IsDraftOf programs r) (tasks_of r) d.codes of_draft.codes_are line.0 line.1 line.2 in
      let run = kept (λ (u : Use). is_named u.task line.1.name) (uses_of r) u.0 u.1 u.2 line.3 in
      let program = zip_at (IsProgramOf programs) (runs_in r line.1) code.0.programs code.2.programs_are run.0 u.1 run.1 in
      (line.0, run.0, record { code = code.0; program = program.0; code_is = code.1; program_is = record { stands = program.1; named = subst (λ (n : List ℕ). IsTrue (is_named i n)) (sym program.2.name_is) u.3 } })

  missing_value : (r i o : List ℕ) (lines : SourceLines) (line : ℕ) → IsValueMissing (drafted ds) r i lines line → IsFirstMissing written (source.Output r i o) lines line
  missing_value r i o lines line (inl (none, is)) =
      inl (
        (λ any.
            let x = any_found (λ (y : Resource). IsTrue (is_named r y.name)) rs any in
            let d = zip_at (IsResourceDraft programs) rs ds known x.0 x.1 x.2 in
            none x.0 d.0 (record { stands = d.1; named = subst (λ (n : List ℕ). IsTrue (is_named r n)) (sym d.2.name_is) x.3 })),
        is,
      )
  missing_value r i o lines line (inr (inl (k, d, at, none, is))) =
      let x = zip_back (IsResourceDraft programs) rs ds known k d at.stands in
      let named : IsTrue (is_named r x.0.name) = subst (λ (n : List ℕ). IsTrue (is_named r n)) x.2.name_is at.named in
      inr (inl (
        any_at (λ (y : Resource). IsTrue (is_named r y.name)) rs k x.0 x.1 named,
        (λ any.
            let y = any_found (λ (z : Resource). IsTrue (is_named r z.name) × Any (λ (u : Use). IsTrue (is_named i u.instance)) (uses_of z)) rs any in
            let e = zip_at (IsResourceDraft programs) rs ds known y.0 y.1 y.2 in
            let there = instance_stands y.0 y.1 e.0 y.2 e.2 i y.3.1 in
            let same : e.0 ≡ d = one_item (λ (z : ResourceValue). z.name) ds r (drafts_apart programs name rs ds known lawful).resources y.0 k e.0 d
            (record { stands = e.1; named = subst (λ (n : List ℕ). IsTrue (is_named r n)) (sym e.2.name_is) y.3.0 }) at in
            none there.0 there.1 (subst (λ (z : ResourceValue). IsInstanceAt z.codes i there.0 there.1) same there.2)),
        is,
      ))
  missing_value r i o lines line (inr (inr (k, d, at, m, n, run, is))) =
      let x = zip_back (IsResourceDraft programs) rs ds known k d at.stands in
      let named : IsTrue (is_named r x.0.name) = subst (λ (n : List ℕ). IsTrue (is_named r n)) x.2.name_is at.named in
      let u = run_of programs name rs ds known x.0 d x.2 i m n run in
      let instance = any_at (λ (v : Use). IsTrue (is_named i v.instance)) (uses_of x.0) u.2 u.1 u.5.stands u.5.named in
      inr (inr (any_at (λ (z : Resource). IsTrue (is_named r z.name) × Any (λ (u : Use). IsTrue (is_named i u.instance)) (uses_of z)) rs k x.0 x.1 (named, instance), is))

  pub missing_source : (s : SourceName) (lines : SourceLines) (line : ℕ) → IsOriginMissing (drafted ds) s lines line → IsFirstMissing written s lines line
  missing_source (source.Field a) lines line is = is
  missing_source (source.Output r i o) lines line is = missing_value r i o lines line is
