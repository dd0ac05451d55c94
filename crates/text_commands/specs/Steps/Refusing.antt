-- Which faults the parts of a command answer.
use Rattle.std.specs.Prelude.{◌≡◌, ℕ, List, Result, Ok, Err, IfErr, IsErrAnd}
use Rattle.std.proofs.Common.{inl, inr, sym, subst}
use Rattle.ladder_text.specs.declared.draw_fault.DrawFault.{DrawFault}
use Rattle.ladder_text.specs.declared.draw_fault.DrawFaultKind.TheVariants.{Memory as DrawMemory}
use Rattle.network.specs.declared.fault.GraphFault.{GraphFault}
use Rattle.network.specs.declared.fault.GraphFaultKind.TheVariants.{Memory as GraphMemory}
use Rattle.name_faults.specs.declared.bind_fault.BindFault.{BindFault}
use Rattle.name_faults.specs.declared.bind_fault.BindKind.TheVariants.{Memory as BindMemory}
use Rattle.text_commands.specs.declared.text_fault.TextFault.TheVariants.{Bind, Draw, Graph}
use Rattle.text_commands.specs.declared.text_command_fault.TextCommandFault.{TextCommandFault}
use Rattle.text_commands.specs.declared.text_command_fault.TextCommandFault.TheVariants.{Text, Word, Write, Memory}
use Rattle.text_commands.specs.Giving.{GivenFor}
use Rattle.text_commands.specs.EvalText.{RefusesDrawing, RefusesNamesOf, RefusesNetworksOf, RefusesText}

-- no ladder was made: the text is refused, or memory
abbrev pub RefusesLadder : List ℕ → TextCommandFault → Type 0
RefusesLadder drawing (Text fault) = RefusesDrawing drawing fault
RefusesLadder drawing (Word fault) = ⊥
RefusesLadder drawing Write = ⊥
RefusesLadder drawing Memory = Unit {0}

-- so of a text as it stands
abbrev pub RefusesLadderOfText : List ℕ → TextCommandFault → Type 0
RefusesLadderOfText text (Text fault) = RefusesText text fault
RefusesLadderOfText text (Word fault) = ⊥
RefusesLadderOfText text Write = ⊥
RefusesLadderOfText text Memory = Unit {0}

-- a refusal by binding is one of the text, or of memory
pub names_refused : {T : Type 0} (drawing : List ℕ) (found : BindFault) (r : Result T TextCommandFault) → IsErrAnd r (GivenFor (found.kind ≡ BindMemory) (Bind found))
    → ((found.kind ≡ BindMemory → ⊥) → RefusesNamesOf drawing found) → IfErr r (RefusesLadderOfText drawing)
names_refused drawing found (Ok x) given names = tt
names_refused drawing found (Err fault) (inl w) names = subst (RefusesLadderOfText drawing) (sym w.1) tt
names_refused drawing found (Err fault) (inr w) names = subst (RefusesLadderOfText drawing) (sym w.1) (names w.0)

-- a refusal by the networks is one of the text, or of memory
pub networks_refused : {T : Type 0} (drawing : List ℕ) (found : GraphFault) (r : Result T TextCommandFault) → IsErrAnd r (GivenFor (found.kind ≡ GraphMemory) (Graph found))
    → ((found.kind ≡ GraphMemory → ⊥) → RefusesNetworksOf drawing found) → IfErr r (RefusesLadderOfText drawing)
networks_refused drawing found (Ok x) given networks = tt
networks_refused drawing found (Err fault) (inl w) networks = subst (RefusesLadderOfText drawing) (sym w.1) tt
networks_refused drawing found (Err fault) (inr w) networks = subst (RefusesLadderOfText drawing) (sym w.1) (networks w.0)

-- a refusal by the reader of drawings is one of the text, or of memory
pub drawing_refused : {T : Type 0} (drawing : List ℕ) (found : DrawFault) (r : Result T TextCommandFault) → IsErrAnd r (GivenFor (found.kind ≡ DrawMemory) (Draw found))
    → ((found.kind ≡ DrawMemory → ⊥) → RefusesText drawing (Draw found)) → IfErr r (RefusesLadderOfText drawing)
drawing_refused drawing found (Ok x) given drawn = tt
drawing_refused drawing found (Err fault) (inl w) drawn = subst (RefusesLadderOfText drawing) (sym w.1) tt
drawing_refused drawing found (Err fault) (inr w) drawn = subst (RefusesLadderOfText drawing) (sym w.1) (drawn w.0)
