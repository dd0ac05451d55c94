-- What a fault tells of sources in the drafts of resources.
use Rattle.std.proofs.Common.{◌≡◌, inl, inr, ℕ, List, ◌∷◌, None, Some, length, refl, sym, ap, ◌∙◌, subst}
use Rattle.std.specs.Prelude.{slice_get, All}
use Rattle.std.specs.List.{find}
use Rattle.std.specs.Option.{option_and_then}
use Rattle.lists.proofs.Places.{some_same}
use Rattle.declared_names.specs.declared.declarations.Kind.{Kind}
use Rattle.declared_names.specs.declared.declarations.Declaration.{Declaration}
use Rattle.declared_names.specs.Kinds.{input_kind_at}
use Rattle.plant_grammar.specs.declared.grammar.tree.SourceName.{SourceName}
use Rattle.plant_grammar.specs.declared.grammar.tree.SourceName.TheVariants as named
use Rattle.plant_grammar.specs.declared.grammar.tree.SourceLines.{SourceLines}
use Rattle.plant_grammar.specs.declared.grammar.tree.Bind.{Bind}
use Rattle.plant_grammar.specs.declared.grammar.tree.Use.{Use}
use Rattle.plant_grammar.specs.Kinds.{input_kind_of}
use Rattle.plant_grammar.specs.Lawful.{binds_of}
use Rattle.plant_grammar.specs.WordFaults.{IsGrammarFault}
use Rattle.plant.specs.declared.sources.source_fault.SourceFault.{SourceFault}
use Rattle.plant.specs.declared.sources.source_fault.SourceFault.TheVariants as fault
use Rattle.plant.specs.PlantValue.{ResourceValue, PlantValue}
use Rattle.plant.specs.ProgramTypes.{TypeValue}
use Rattle.plant.specs.SourceFaults.{lines_at, FailsFirst}
use Rattle.plant.specs.Steps.Drafts.{drafted, IsFeedOf, HasNoOrigin, HasFeed, IsUseResolved, AreDraftsApart}
use Rattle.plant.specs.Steps.Found.{TellsOfSource}
use Rattle.plant.specs.Steps.SourceFaults.{word_fault, IsValueMissing, IsOriginMissing, IsUnknownOn, TellsOfBind, TellsOfUse, TellsOfUses}
use Rattle.plant.proofs.FirstFailing.{none_fails}
use Rattle.plant.proofs.Sourcing.{origin_once}

-- it is one of a source, and of a word
pub source_told : (e : SourceFault) → TellsOfSource (word_fault e).kind
source_told (fault.Unknown line) = tt
source_told (fault.WrongKind line) = tt
source_told fault.Memory = tt

pub source_word : (e : SourceFault) → IsGrammarFault (word_fault e)
source_word (fault.Unknown line) = tt
source_word (fault.WrongKind line) = tt
source_word fault.Memory = refl

-- names that mean no value are a source that gives none
pub origin_missing : (plant : PlantValue) (r i o : List ℕ) (lines : SourceLines) (e : SourceFault) → IsUnknownOn (λ line. IsValueMissing plant r i lines line) e
    → IsUnknownOn (λ line. IsOriginMissing plant (named.Output r i o) lines line) e
origin_missing plant r i o lines (fault.Unknown line) is = is
origin_missing plant r i o lines (fault.WrongKind line) is = is
origin_missing plant r i o lines fault.Memory is = is

-- what is told of a source that gives none
pub origin_told : (plant : PlantValue) (vs : List Declaration) (b : Bind) (lines : SourceLines) (e : SourceFault) → HasNoOrigin plant b.source
    → IsUnknownOn (λ line. IsOriginMissing plant b.source lines line) e → TellsOfBind plant vs e b lines
origin_told plant vs b lines (fault.Unknown line) none is = inr (none, is)
origin_told plant vs b lines (fault.WrongKind line) none is = absurd is
origin_told plant vs b lines fault.Memory none is = is

-- the kind of the input of a bind that has a feed
input_of : (plant : PlantValue) (vs : List Declaration) (b : Bind) (fed : HasFeed plant vs b) → input_kind_of vs b.input ≡ Some fed.0.kind
input_of plant vs b (f, is) = ap (option_and_then (input_kind_at vs)) is.input_is ∙ is.input_kind_is

module _ (ds : List ResourceValue) (apart : AreDraftsApart ds) where
  -- a bind of which something is told has no feed
  bind_told : (vs : List Declaration) (e : SourceFault) (b : Bind) (lines : SourceLines) → TellsOfBind (drafted ds) vs e b lines → HasFeed (drafted ds) vs b → ⊥
  bind_told vs (fault.Unknown line) b lines (inl none) fed = let some = input_of (drafted ds) vs b fed in absurd cc
  bind_told vs (fault.Unknown line) b lines (inr (none, missing)) fed = none fed.0.origin fed.0.kind fed.1.origin_is
  bind_told vs (fault.WrongKind line) b lines ((its, given, o, is, of, other), on) fed =
      let kinds : fed.0.kind ≡ its = some_same (sym (input_of (drafted ds) vs b fed) ∙ is) in
      other (origin_once ds apart b.source o fed.0.origin given fed.0.kind of fed.1.origin_is ∙ kinds)
  bind_told vs fault.Memory b lines told fed = told

  use_told : (types : List TypeValue) (e : SourceFault) (u : Use) → TellsOfUse (drafted ds) types u e → IsUseResolved (drafted ds) types u → ⊥
  use_told types e u (type, found, first) is =
      let same : is.type ≡ type = some_same (sym is.type_is ∙ found) in
      let each : All (HasFeed (drafted ds) type.ladder.declarations) (binds_of u) = subst (λ (t : TypeValue). All (HasFeed (drafted ds) t.ladder.declarations) (binds_of u)) same is.each in
      none_fails (HasFeed (drafted ds) type.ladder.declarations) (λ n b. TellsOfBind (drafted ds) type.ladder.declarations e b (lines_at u.lines.items n)) (binds_of u)
      (λ n b told fed. bind_told type.ladder.declarations e b (lines_at u.lines.items n) told fed) first each

  -- so the binds of instances of which something is told aren't all resolved
  pub uses_told : (types : List TypeValue) (e : SourceFault) (us : List Use) → TellsOfUses (drafted ds) types us e → All (IsUseResolved (drafted ds) types) us → ⊥
  uses_told types e us first each =
      none_fails (IsUseResolved (drafted ds) types) (λ n u. TellsOfUse (drafted ds) types u e) us (λ n u told is. use_told types e u told is) first each
