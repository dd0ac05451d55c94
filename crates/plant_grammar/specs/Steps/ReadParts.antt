-- What is known of the parts of a plant's text while it is read.
use Rattle.std.specs.Prelude.{◌≡◌, ℕ, ◌+◌, ◌<◌, ◌++◌, ◌∷◌, Bool, true, false, List, [], length, Option, None, Some, MatchOption, IsTrue, Any}
use Rattle.declared_names.specs.Names.{place_of}
use Rattle.std.specs.List.{flat_map}
use Rattle.std.specs.Global.{Vec}
use Rattle.plant_grammar.specs.declared.grammar.tree.Use.{Use}
use Rattle.declared_names.specs.declared.declarations.Declaration.{Declaration}
use Rattle.plant_grammar.specs.declared.grammar.tree.Item.{Item}
use Rattle.plant_grammar.specs.declared.grammar.tree.Item.TheVariants as item
use Rattle.declared_names.specs.declared.declarations.Kind.{Kind}
use Rattle.plant_grammar.specs.Kinds.{input_kind_of}
use Rattle.declared_names.specs.Kinds.{input_kind_at}
use Rattle.lists.specs.Items.{items_or_none}
use Rattle.plant_grammar.specs.declared.grammar.tree.Bind.{Bind}
use Rattle.plant_text.specs.declared.token.Token.{Token}
use Rattle.plant_text.specs.declared.token.Keyword.TheVariants as key
use Rattle.plant_text.specs.declared.token.Punctuation.TheVariants.{Close}
use Rattle.plant_grammar.specs.declared.grammar.tree.Section.{Section}
use Rattle.plant_grammar.specs.declared.grammar.tree.Section.TheVariants as section
use Rattle.plant_grammar.specs.Grammar.{Tree, TextValue, key_word, mark_word, with_commas, binds_listed}
use Rattle.plant_grammar.specs.Names.{is_named}
use Rattle.plant_grammar.specs.Steps.NamesRead.{IsNew}
use Rattle.plant_grammar.specs.Lawful.{task_of, use_of, binds_of, programs_alone, IsUseLawful}
use Rattle.plant_grammar.specs.declared.grammar.tree.SourceName.{SourceName}
use Rattle.plant_grammar.specs.declared.grammar.tree.SourceLines.{SourceLines}
use Rattle.plant_grammar.specs.SourceLines.{IsSourceOn, AreBindsOn}
use Rattle.plant_grammar.specs.Steps.Lines.{ReaderValue, HasLinesOf, IsNotNext}
use Rattle.plant_grammar.specs.Steps.Reading.{programs_of}

-- the word that a block of a section begins with
abbrev pub section_start : Section → Token
section_start section.Input = key_word key.VarInput
section_start section.Output = key_word key.VarOutput
section_start section.Local = key_word key.Var
section_start section.Retained = key_word key.Var

-- behind the words of VAR stands no RETAIN
abbrev pub IsSectionWhole : Section → List Token → Type 0
IsSectionWhole section.Input behind = Unit {0}
IsSectionWhole section.Output behind = Unit {0}
IsSectionWhole section.Local behind = IsNotNext (key_word key.Retain) behind
IsSectionWhole section.Retained behind = Unit {0}

-- how many instances and binds were read
pub record TallyValue : Type 0 where
  pub instances : ℕ
  pub binds : ℕ

-- these instances counted too, with their binds
abbrev pub tally_with : TallyValue → List Use → TallyValue
tally_with t us = record { instances = t.instances + length us; binds = t.binds + length (flat_map binds_of us) }

-- one instance counted too
abbrev pub with_instance : TallyValue → TallyValue
with_instance t = record { instances = t.instances + 1; binds = t.binds }

-- so many binds counted too
abbrev pub with_binds : TallyValue → ℕ → TallyValue
with_binds t n = record { instances = t.instances; binds = t.binds + n }

-- the binds of an instance, none where it has no parentheses
abbrev pub bound_in : Option (Vec Bind) → List Bind
bound_in binds = items_or_none (binds_listed binds)

-- the words begin with these binds and the parenthesis that closes them, and behind it stand the others
abbrev pub EndWithBinds : List Bind → List Token → List Token → Type 0
EndWithBinds binds words rest = words ≡ with_commas binds ++ mark_word Close ∷ rest

-- the program types alone
abbrev pub types_alone : List TextValue → Tree
types_alone types = programs_alone (programs_of types)

abbrev pub is_task_line : Item → Bool
is_task_line (item.Task t) = true
is_task_line (item.Use u) = false

-- the line is a program instance of the name
unfoldable pub NamesInstance : List ℕ → Item → Type 0
NamesInstance name x = Any (λ u. IsTrue (is_named name u.instance)) (use_of x)

-- a task or an instance that may follow these
abbrev pub MayFollow : Tree → List Item → Item → Type 0
MayFollow tree before (item.Task t) =
    IsNew (λ t. t.name) (flat_map task_of before) t.name × (length (flat_map task_of before) < 16) × (0 < t.interval)
MayFollow tree before (item.Use u) =
    IsNew (λ u. u.instance) (flat_map use_of before) u.instance × IsUseLawful tree before u

-- the place of the input of this name, with its kind; none where the name is no input's
abbrev pub FindsInput : List Declaration → List ℕ → Option (ℕ × Kind) → Type 0
FindsInput ds name found =
    MatchOption found (input_kind_of ds name ≡ None)
    (λ x. (place_of ds name ≡ Some x.0) × (input_kind_at ds x.0 ≡ Some x.1))

-- Of this source, before the rest of what is left to be read, the lines were kept behind the others.
abbrev pub KeepsLinesOf : ReaderValue → SourceName → List Token → List SourceLines → List SourceLines → Type 0
KeepsLinesOf r s rest old new =
    (l : SourceLines) × (new ≡ old ++ l ∷ []) × ((all : List ℕ) → HasLinesOf all r → IsSourceOn all s rest l)

-- of these binds, before the rest of what is left to be read, these lines were kept
abbrev pub AreKeptLines : ReaderValue → List Bind → List Token → List SourceLines → Type 0
AreKeptLines r bs rest ls = (all : List ℕ) → HasLinesOf all r → AreBindsOn all bs ls rest
