-- A network without faults has the names that a scan of it needs.
use Rattle.std.proofs.Common.{List, None, All, Contains, sym, ◌∙◌, arith}
use Rattle.std.specs.List.{before_first}
use Rattle.std.proofs.lemmas.List.Elements.{All-contains, All-weaker}
use Rattle.drawings.specs.Symbols.{Coil as DrawnCoil}
use Rattle.drawings.specs.declared.drawn_box.DrawnBox.{DrawnBox}
use Rattle.network.specs.declared.element.Element.{Element}
use Rattle.network.specs.declared.element.Element.TheVariants.{Coil, Box}
use Rattle.declared_names.specs.declared.declarations.Declaration.{Declaration}
use Rattle.declared_names.specs.declared.declarations.Kind.TheVariants as kind
use Rattle.declared_names.specs.Names.{is_dot}
use Rattle.name_faults.specs.Lookup.{declared_at, is_dotted}
use Rattle.name_faults.specs.Binding.{IsBoundNetwork}
use Rattle.name_faults.specs.Steps.Named.{IsNamedBox, IsDeclaredVariable, AreNamed}
use Rattle.name_faults.specs.Steps.ElementFindings.{IsBound, HasNoFinding, variable_declared}
use Rattle.name_faults.proofs.FaultsFound.{no_finding}
use Rattle.name_faults.proofs.BoxesFaults.{here_none, named_box}
use Rattle.name_faults.proofs.NameFaults.{coil_stores, stored_variable}

pub are_named : (ds : List Declaration) (es : List Element) → IsBoundNetwork ds es → AreNamed ds es
unfolding variable_declared
are_named ds es bound = record { boxes = boxes; coils = coils }
  where
    each : HasNoFinding ds es
    each = no_finding ds es bound

    boxes : (b : DrawnBox) → Contains es (Box b) → IsNamedBox ds b
    boxes b in' = named_box ds es b (All-contains (IsBound ds es) es (Box b) each in')

    coils : (c : DrawnCoil) → Contains es (Coil c) → IsDeclaredVariable ds c.name kind.Bool
    coils c in' =
        let right = All-contains (IsBound ds es) es (Coil c) each in' in
        stored_variable ds c.name kind.Bool
        (sym (coil_stores (is_dotted c.name) (declared_at ds (before_first is_dot c.name))) ∙ here_none _ _ (right 0 None (omega arith)))

pub all_named : (ds : List Declaration) (networks : List (List Element)) → All (IsBoundNetwork ds) networks → All (AreNamed ds) networks
all_named ds networks bound = All-weaker (IsBoundNetwork ds) (AreNamed ds) (are_named ds) networks bound
