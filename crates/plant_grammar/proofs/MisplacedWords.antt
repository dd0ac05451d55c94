-- The first word from which no plant goes on.
use Rattle.std.proofs.Common.{◌≡◌, ◌≢◌, ◌⊎◌, inl, inr, ℕ, ◌<◌, ◌^◌, List, [], ◌∷◌, ◌++◌, Some, None, length, refl, sym, ap, ◌∙◌, append-nil, append_assoc, arith}
use Rattle.std.specs.Prelude.{All}
use Rattle.std.specs.List.{flat_map}
use Rattle.std.proofs.lemmas.List.{length-append}
use Rattle.std.proofs.lemmas.List.Elements.{All-weaker}
use Rattle.plant_text.specs.declared.token.Token.{Token}
use Rattle.plant_text.specs.declared.token.Token.TheVariants as token
use Rattle.plant_text.specs.declared.token.Keyword.TheVariants as key
use Rattle.plant_grammar.specs.declared.grammar_fault.GrammarFault.{GrammarFault}
use Rattle.plant_grammar.specs.declared.grammar_fault.GrammarFaultKind.TheVariants.{Syntax}
use Rattle.plant_grammar.specs.declared.grammar.tree.Program.{Program}
use Rattle.plant_grammar.specs.Grammar.{Tree, key_word, program_words, resources_words, words_of}
use Rattle.plant_grammar.specs.Lawful.{IsProgramLawful, IsTreeLawful}
use Rattle.plant_grammar.specs.WellFormed.{IsProgramWellFormed, IsTreeWellFormed}
use Rattle.plant_grammar.specs.GoesOn.{GoesOn}
use Rattle.plant_grammar.specs.Steps.Lines.{ReaderValue, KeepsLines, IsNotNext, next_line}
use Rattle.plant_grammar.specs.Steps.Expected.{Expected, Key, AName, MoreResources, program_rest, resource_rest, begun, may_end, and_then, step, walk, whole_plant, EndsUnexpected, IsStuck, GetsStuck, MeetsMisplaced}
use Rattle.plant_grammar.proofs.ReadLines.{line_before}
use Rattle.plant_grammar.proofs.OneTree.{one_tree}
use Rattle.plant_grammar.proofs.ExpectedWords.{walk_append, stuck_behind}
use Rattle.plant_grammar.specs.NameFaults.{judged_of}
use Rattle.plant_grammar.specs.JudgedWords.{sounds}
use Rattle.plant_grammar.specs.Steps.SoundWords.{BeginsSound}
use Rattle.plant_grammar.proofs.SoundTrees.{tree_sound}
use Rattle.plant_grammar.proofs.WalkedPrograms.{one_program_walked, programs_walked, stuck_behind_programs, lawful_program_formed}
use Rattle.plant_grammar.proofs.WalkedResources.{configured_walked, formed_resources}
use Rattle.plant_grammar.proofs.BodyPlaces.{misfits, none_due}

-- a word that can't stand there ends the walk
walk_unexpected : (es : List Expected) (t : Token) (more : List Token) → step es t ≡ None → walk es (t ∷ more) ≡ None
unfolding walk
walk_unexpected es t more none = ap (λ found. and_then found (λ gs. walk gs more)) none

-- what is expected behind the name of a configuration, behind CONFIGURATION, and behind the programs
abbrev pub resources_expected : List Expected
resources_expected = Key key.Resource ∷ resource_rest ++ MoreResources ∷ []

abbrev pub name_expected : List Expected
name_expected = AName ∷ resources_expected

abbrev pub configuration_expected : List Expected
configuration_expected = Key key.Configuration ∷ name_expected

-- behind the name of the configuration its resources are expected
configuration_walked : (t : Tree) → walk whole_plant (key_word key.Configuration ∷ token.Name t.name ∷ resources_words t.resources) ≡ walk (Key key.Resource ∷ resource_rest ++ MoreResources ∷ []) (resources_words t.resources)
unfolding walk step begun may_end
configuration_walked t = refl

-- a whole plant is what is expected
tree_walked : (t : Tree) → IsTreeWellFormed t → walk whole_plant (words_of t) ≡ Some []
unfolding words_of
tree_walked t formed =
    walk_append whole_plant whole_plant (flat_map program_words t.programs) (key_word key.Configuration ∷ token.Name t.name ∷ resources_words t.resources) (programs_walked t.programs configuration_expected formed.programs)
    ∙ configuration_walked t
    ∙ configured_walked t.resources [] formed.some_resource formed.resources

-- from words up to an unexpected one no plant goes on
unexpected_ends : (Known : List Token → Type 0) (words : List Token) → EndsUnexpected Known whole_plant words → GoesOn words → ⊥
unexpected_ends Known words s (tree, more, e, formed) =
    let parts : words_of tree ≡ s.before ++ s.word ∷ more = e ∙ ap (λ ws. ws ++ more) s.parts ∙ append_assoc s.before (s.word ∷ []) more in
    let ends : Some [] ≡ None = sym (tree_walked tree formed) ∙ ap (walk whole_plant) parts ∙ walk_append whole_plant s.expected s.before (s.word ∷ more) s.walked ∙ walk_unexpected s.expected s.word more s.unexpected in
    cc

-- where the words are stuck, a plant goes on from all of them or they lead to the first from which none does
pub meets_misplaced : (r : ReaderValue) (line : ℕ) → length r.words < 2 ^ 63 → IsStuck (BeginsSound judged_of IsTreeWellFormed) whole_plant r line → MeetsMisplaced r line
meets_misplaced r line few (inl (u, last)) = inl (u.known few, last)
meets_misplaced r line few (inr b) =
    let parts : r.words ≡ b.holds.before ++ (b.holds.word ∷ b.rest) = b.parts ∙ ap (λ ws. ws ++ b.rest) b.holds.parts ∙ append_assoc b.holds.before (b.holds.word ∷ []) b.rest in
    let all = ap length parts ∙ length-append b.holds.before (b.holds.word ∷ b.rest) in
    inr (record {
      front = b.front;
      rest = b.rest;
      parts = b.parts;
      holds = record {
        before = b.holds.before;
        word = b.holds.word;
        parts = b.holds.parts;
        goes_on = b.holds.known (omega (arith, few, all));
        misplaced = unexpected_ends (BeginsSound judged_of IsTreeWellFormed) b.front b.holds;
        misfit = misfits b.holds.before b.holds.expected b.holds.word b.holds.walked b.holds.unexpected;
      };
      behind = b.behind;
    })

-- of two fronts of the same list, one goes on to the other
either_longer : (a x c y : List Token) → a ++ x ≡ c ++ y → ((d : List Token) × (a ≡ c ++ d)) ⊎ ((d : List Token) × (c ≡ a ++ d) × (x ≡ d ++ y))
either_longer [] x c y e = inr (c, refl, e)
either_longer (s ∷ a) x [] y e = inl (s ∷ a, refl)
either_longer (s ∷ a) x (t ∷ c) y e =
    let first : s ≡ t = cc (e) in
    let more : a ++ x ≡ c ++ y = cc (e) in
    on first (either_longer a x c y more)
  where
    on : s ≡ t → ((d : List Token) × (a ≡ c ++ d)) ⊎ ((d : List Token) × (c ≡ a ++ d) × (x ≡ d ++ y)) → ((d : List Token) × (s ∷ a ≡ t ∷ c ++ d)) ⊎ ((d : List Token) × (t ∷ c ≡ s ∷ a ++ d) × (x ≡ d ++ y))
    on first (inl (d, is)) = inl (d, cc (first, is))
    on first (inr (d, is, left)) = inr (d, cc (first, is), left)

-- behind all that is expected there is only nothing
walk_ended : (more : List Token) (es : List Expected) → walk [] more ≡ Some es → es ≡ []
unfolding walk step
walk_ended [] es e = cc (e)
walk_ended (t ∷ more) es e = cc (e)

-- where the words are stuck, they don't begin with all that is expected
stuck_no_whole : (Known : List Token → Type 0) (es : List Expected) (r : ReaderValue) (line : ℕ) (whole rest : List Token) → IsStuck Known es r line → walk es whole ≡ Some [] → r.words ≡ whole ++ rest → ⊥
stuck_no_whole Known es r line whole rest (inl (u, last)) all e =
    u.more (walk_ended rest u.expected (sym (walk_append es [] whole rest all) ∙ ap (walk es) (sym e) ∙ u.walked))
stuck_no_whole Known es r line whole rest (inr b) all e =
    let s = b.holds in
    let parts : s.before ++ s.word ∷ b.rest ≡ whole ++ rest = sym (append_assoc s.before (s.word ∷ []) b.rest) ∙ ap (λ ws. ws ++ b.rest) (sym s.parts) ∙ sym b.parts ∙ e in
    on (either_longer s.before (s.word ∷ b.rest) whole rest parts)
  where
    on : ((d : List Token) × (b.holds.before ≡ whole ++ d)) ⊎ ((d : List Token) × (whole ≡ b.holds.before ++ d) × (b.holds.word ∷ b.rest ≡ d ++ rest)) → ⊥
    on (inl (d, is)) = b.holds.more (walk_ended d b.holds.expected (sym (walk_append es [] whole d all) ∙ ap (walk es) (sym is) ∙ b.holds.walked))
    on (inr ([], is, left)) =
        let same : Some b.holds.expected ≡ Some [] = sym b.holds.walked ∙ ap (walk es) (sym (is ∙ append-nil b.holds.before)) ∙ all in
        b.holds.more cc
    on (inr (u ∷ d, is, left)) =
        let first : b.holds.word ≡ u = cc (left) in
        let none : step b.holds.expected u ≡ None = ap (step b.holds.expected) (sym first) ∙ b.holds.unexpected in
        let ends : Some [] ≡ None = sym all ∙ ap (walk es) is ∙ walk_append es b.holds.expected b.holds.before (u ∷ d) b.holds.walked ∙ walk_unexpected b.holds.expected u d none in
        cc

-- so they don't begin with a whole plant
pub stuck_no_plant : (Known : List Token → Type 0) (r : ReaderValue) (line : ℕ) → IsStuck Known whole_plant r line
    → (tree : Tree) (rest : List Token) → r.words ≡ words_of tree ++ rest → IsTreeWellFormed tree → ⊥
stuck_no_plant Known r line stuck tree rest e formed = stuck_no_whole Known whole_plant r line (words_of tree) rest stuck (tree_walked tree formed) e

-- nor, where a program gets stuck, with a whole program
pub stuck_no_program : (Known : List Token → Type 0) (r : ReaderValue) (fault : GrammarFault) → GetsStuck Known (Key key.Program ∷ program_rest) r fault → fault.kind ≡ Syntax
    → (p : Program) (rest : List Token) → IsProgramWellFormed p → r.words ≡ program_words p ++ rest → ⊥
stuck_no_program Known r fault stuck syntax p rest formed e = stuck_no_whole Known (Key key.Program ∷ program_rest) r fault.line (program_words p) rest (stuck syntax []) (one_program_walked p [] formed) e

-- behind programs that were read, where no further one begins
pub stuck_behind_read : (Known : List Token → Type 0) (ps : List Program) (old one : ReaderValue) (fault : GrammarFault) → old.words ≡ flat_map program_words ps ++ one.words → KeepsLines old one → All IsProgramLawful ps → IsNotNext (key_word key.Program) one.words
    → GetsStuck (λ w. Known (flat_map program_words ps ++ w)) configuration_expected one fault → fault.kind ≡ Syntax → IsStuck Known whole_plant old fault.line
stuck_behind_read Known ps old one fault e keeps lawful none stuck syntax =
    stuck_behind Known whole_plant whole_plant (flat_map program_words ps) old one fault.line e keeps (programs_walked ps configuration_expected (All-weaker IsProgramLawful IsProgramWellFormed lawful_program_formed ps lawful))
    (stuck_behind_programs (λ w. Known (flat_map program_words ps ++ w)) configuration_expected one fault none stuck syntax [])

-- a lawful tree is written as the grammar has it
tree_formed : (tree : Tree) → IsTreeLawful tree → IsTreeWellFormed tree
tree_formed tree lawful = record {
  programs = All-weaker IsProgramLawful IsProgramWellFormed lawful_program_formed tree.programs lawful.programs_lawful;
  some_resource = lawful.some_resource;
  resources = formed_resources tree tree.resources lawful.resources_lawful;
}

-- a further word behind a whole plant is the first from which none goes on
pub misplaced_behind : (tree : Tree) (old new : ReaderValue) → old.words ≡ words_of tree ++ new.words → KeepsLines old new → IsTreeLawful tree → new.words ≢ [] → MeetsMisplaced old (next_line new)
misplaced_behind tree old new e keeps lawful some = on new.words refl
  where
    on : (words : List Token) → new.words ≡ words → MeetsMisplaced old (next_line new)
    on [] is = absurd (some is)
    on (t ∷ more) is = inr (record {
      front = words_of tree ++ t ∷ [];
      rest = more;
      parts = e ∙ ap (λ ws. words_of tree ++ ws) is ∙ sym (append_assoc (words_of tree) (t ∷ []) more);
      holds = record {
        before = words_of tree;
        word = t;
        parts = refl;
        goes_on = (tree, [], tree_sound tree lawful ∙ sym (append-nil (sounds (words_of tree))), tree_formed tree lawful);
        misplaced = λ g.
            let whole : words_of tree ++ t ∷ g.1 ≡ words_of g.0 ++ [] = sym (append_assoc (words_of tree) (t ∷ []) g.1) ∙ sym g.2 ∙ sym (append-nil (words_of g.0)) in
            let none : t ∷ g.1 ≡ [] = (one_tree tree g.0 (t ∷ g.1) [] whole).0 in
            cc;
        misfit = λ due. absurd (none_due (words_of tree) (tree_walked tree (tree_formed tree lawful)) due);
      };
      behind = λ all h. line_before all new (next_line new) (keeps.0 all h) refl t more is;
    })
