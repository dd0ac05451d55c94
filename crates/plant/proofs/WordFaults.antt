-- The fault of a word is one of a plant's text, and no body's; and one that tells of no name is no name's.
use Rattle.std.proofs.Common.{◌≡◌, ◌≢◌, sym, ◌∙◌, inl, inr, ℕ, None, refl, subst}
use Rattle.plant_grammar.specs.declared.grammar_fault.GrammarFault.{GrammarFault}
use Rattle.plant_grammar.specs.declared.grammar_fault.GrammarFaultKind.{GrammarFaultKind}
use Rattle.plant_grammar.specs.declared.grammar_fault.GrammarFaultKind.TheVariants as word
use Rattle.plant_grammar.specs.Steps.NamesRead.{TellsOfName}
use Rattle.plant_grammar.specs.Steps.NamesRead as names
use Rattle.plant_grammar.specs.WordFaults.{IsOfWord, IsGrammarFault}
use Rattle.plant.specs.declared.plant_fault.BodyFault.{BodyFault}
use Rattle.plant.specs.declared.plant_fault.BodyFault.TheVariants as body
use Rattle.plant.specs.BodyFaults.{kind_of_body}
use Rattle.plant.specs.declared.plant_fault.PlantFault.{PlantFault}
use Rattle.plant.specs.declared.plant_fault.PlantFaultKind.{PlantFaultKind}
use Rattle.plant.specs.declared.plant_fault.PlantFaultKind.TheVariants as kind
use Rattle.plant.specs.Steps.Found.{TellsOfSource}
use Rattle.plant.specs.Faults.{IsOfKind, IsPlantFault, IsOfBody, IsOfDeclaredName, kind_of_word, fault_of_word}

of_word : (k : GrammarFaultKind) (line : ℕ) → IsOfWord k line → IsOfKind (kind_of_word k) line None
of_word word.Syntax line w = refl
of_word word.NameTwice line w = refl
of_word word.UnknownName line w = refl
of_word word.WrongKind line w = refl
of_word word.InputBoundTwice line w = refl
of_word word.TooMany line w = refl
of_word word.Memory line w = (refl, w)

pub plant_of_word : (w : GrammarFault) → IsGrammarFault w → IsPlantFault (fault_of_word w)
plant_of_word w is = of_word w.kind w.line is

pub no_body : (w : GrammarFault) → IsGrammarFault w → IsOfBody (kind_of_word w.kind) → ⊥
no_body w is (inl e) = subst (λ k. IsOfKind k w.line None) e (plant_of_word w is)
no_body w is (inr (inl e)) = subst (λ k. IsOfKind k w.line None) e (plant_of_word w is)
no_body w is (inr (inr e)) = subst (λ k. IsOfKind k w.line None) e (plant_of_word w is)

-- a fault of a name, among those of words
pub of_name : (k : GrammarFaultKind) → IsOfDeclaredName (kind_of_word k) → names.IsOfName k
of_name word.Syntax of = of
of_name word.NameTwice of = of
of_name word.UnknownName of = of
of_name word.WrongKind of = of
of_name word.InputBoundTwice of = of
of_name word.TooMany of = of
of_name word.Memory of = of

tells_no_name : (k : GrammarFaultKind) → TellsOfName k ⊥ ⊥ → names.IsOfName k → ⊥
tells_no_name word.Syntax tells of = of
tells_no_name word.NameTwice tells of = tells
tells_no_name word.UnknownName tells of = tells
tells_no_name word.WrongKind tells of = tells
tells_no_name word.InputBoundTwice tells of = tells
tells_no_name word.TooMany tells of = tells.0
tells_no_name word.Memory tells of = of

-- a fault that tells of no name
pub no_name : (k : GrammarFaultKind) → TellsOfName k ⊥ ⊥ → IsOfDeclaredName (kind_of_word k) → ⊥
no_name k tells of = tells_no_name k tells (of_name k of)

-- want of memory tells of no name, and of no body
pub memory_no_name : (fault : PlantFault) → fault.kind ≡ kind.Memory → IsOfDeclaredName fault.kind → ⊥
memory_no_name fault m of = subst IsOfDeclaredName m of

pub memory_no_body : (fault : PlantFault) → fault.kind ≡ kind.Memory → IsOfBody fault.kind → ⊥
memory_no_body fault m (inl e) = cc
memory_no_body fault m (inr (inl e)) = cc
memory_no_body fault m (inr (inr e)) = cc

-- want of memory is no fault of the grammar
pub memory_no_syntax : (fault : PlantFault) → fault.kind ≡ kind.Memory → fault.kind ≡ kind.Syntax → ⊥
memory_no_syntax fault m s = let wrong : kind.Memory ≡ kind.Syntax = sym m ∙ s in cc

pub syntax_no_memory : (fault : PlantFault) → fault.kind ≡ kind.Syntax → fault.kind ≢ kind.Memory
syntax_no_memory fault s m = memory_no_syntax fault m s

-- nor is the fault of a body
pub body_no_syntax : (k : PlantFaultKind) (why : BodyFault) → k ≡ kind_of_body why → k ≡ kind.Syntax → ⊥
body_no_syntax k (body.Drawing d) e s = let wrong : kind.Drawing ≡ kind.Syntax = sym e ∙ s in cc
body_no_syntax k (body.Graph g) e s = let wrong : kind.Graph ≡ kind.Syntax = sym e ∙ s in cc
body_no_syntax k (body.Bind b) e s = let wrong : kind.Bind ≡ kind.Syntax = sym e ∙ s in cc

-- a fault of the grammar, among those of words
pub of_syntax : (k : GrammarFaultKind) → kind_of_word k ≡ kind.Syntax → k ≡ word.Syntax
of_syntax word.Syntax s = refl
of_syntax word.NameTwice s = absurd cc
of_syntax word.UnknownName s = absurd cc
of_syntax word.WrongKind s = absurd cc
of_syntax word.InputBoundTwice s = absurd cc
of_syntax word.TooMany s = absurd cc
of_syntax word.Memory s = absurd cc

-- nor is the fault of a source
pub source_no_syntax : (k : GrammarFaultKind) → TellsOfSource k → kind_of_word k ≡ kind.Syntax → ⊥
source_no_syntax k tells s = subst TellsOfSource (of_syntax k s) tells

-- the fault of a body is no name's
pub body_no_name : (k : PlantFaultKind) (why : BodyFault) → k ≡ kind_of_body why → IsOfDeclaredName k → ⊥
body_no_name k (body.Drawing d) e of = subst IsOfDeclaredName e of
body_no_name k (body.Graph g) e of = subst IsOfDeclaredName e of
body_no_name k (body.Bind b) e of = subst IsOfDeclaredName e of
