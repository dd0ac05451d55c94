-- The whole tree, from its parts.
use Rattle.std.proofs.Common.{◌≡◌, ℕ, ◌+◌, ◌<◌, ◌≤◌, ◌++◌, List, [], ◌∷◌, length, sym, ap, ◌∙◌, append_assoc, subst, arith}
use Rattle.std.specs.List.{flat_map}
use Rattle.plant_text.specs.declared.token.Token.{Token}
use Rattle.plant_text.specs.declared.token.Token.TheVariants as token
use Rattle.plant_text.specs.declared.token.Keyword.TheVariants as key
use Rattle.plant_grammar.specs.declared.grammar.tree.Resource.{Resource}
use Rattle.plant_grammar.specs.Grammar.{TextValue, key_word, program_words, resources_words, words_of}
use Rattle.plant_grammar.specs.Lawful.{uses_of, binds_of, IsResourceLawful, IsTreeLawful, AreProgramsDeclared, AreResourcesLawful}
use Rattle.plant_grammar.specs.Steps.Lines.{ReaderValue}
use Rattle.plant_grammar.specs.Steps.Reading.{programs_of, all_words, tree_written, AreSameWords, AreSameLines, IsTreeOf, BeginWithTexts}
use Rattle.plant_grammar.specs.Steps.ReadParts.{TallyValue, tally_with, types_alone}

-- a resource is lawful in each tree of these program types
lawful_in : (texts : List TextValue) (rs : List Resource) (name : List ℕ) (r : Resource) → IsResourceLawful (types_alone texts) r → IsResourceLawful (tree_written name texts rs) r
lawful_in texts rs name r lawful = record {
  tasks_apart = lawful.tasks_apart;
  few_tasks = lawful.few_tasks;
  intervals = lawful.intervals;
  instances_apart = lawful.instances_apart;
  uses_lawful = λ k u at. let known = lawful.uses_lawful k u at in record { task_is = known.task_is; type_is = known.type_is; apart = known.apart };
}

tree_lawful : (texts : List TextValue) (rs : List Resource) (name : List ℕ) (tally : TallyValue) → AreProgramsDeclared (programs_of texts) → 0 < length rs → AreResourcesLawful (types_alone texts) rs
    → tally ≡ tally_with (record { instances = 0; binds = 0 }) (flat_map uses_of rs) → tally.instances ≤ 64 → tally.binds ≤ 4096 → IsTreeLawful (tree_written name texts rs)
tree_lawful texts rs name tally programs some resources is few_instances few_binds =
    let instances : tally.instances ≡ 0 + length (flat_map uses_of rs) = ap (λ t. t.instances) is in
    let binds : tally.binds ≡ 0 + length (flat_map binds_of (flat_map uses_of rs)) = ap (λ t. t.binds) is in
    record {
      types_apart = programs.apart;
      few_types = programs.few;
      programs_lawful = programs.declared;
      some_resource = some;
      few_resources = resources.few;
      resources_apart = resources.apart;
      resources_lawful = λ k d lt. lawful_in texts rs name _ (resources.lawful k d lt);
      few_instances = omega (arith, instances, few_instances);
      few_binds = omega (arith, binds, few_binds);
    }

tree_words : (texts : List TextValue) (rs : List Resource) (name : List ℕ) (start one two three rest : List Token) → start ≡ flat_map program_words (programs_of texts) ++ one
    → one ≡ key_word key.Configuration ∷ two → two ≡ token.Name name ∷ three → three ≡ resources_words rs ++ rest → start ≡ words_of (tree_written name texts rs) ++ rest
unfolding words_of
tree_words texts rs name start one two three rest h0 h1 h2 h3 =
    let ps = flat_map program_words (programs_of texts) in
    h0 ∙ ap (λ ws. ps ++ ws) (h1 ∙ ap (λ ws. key_word key.Configuration ∷ ws) (h2 ∙ ap (λ ws. token.Name name ∷ ws) h3))
    ∙ sym (append_assoc ps (key_word key.Configuration ∷ token.Name name ∷ resources_words rs) rest)

pub tree_is : (texts : List TextValue) (rs : List Resource) (name : List ℕ) (tally : TallyValue) (start one two three rest : List Token) → start ≡ flat_map program_words (programs_of texts) ++ one
    → one ≡ key_word key.Configuration ∷ two → two ≡ token.Name name ∷ three → three ≡ resources_words rs ++ rest
    → AreProgramsDeclared (programs_of texts) → 0 < length rs → AreResourcesLawful (types_alone texts) rs
    → tally ≡ tally_with (record { instances = 0; binds = 0 }) (flat_map uses_of rs) → tally.instances ≤ 64 → tally.binds ≤ 4096 → IsTreeOf start texts rs rest
tree_is texts rs name tally start one two three rest h0 h1 h2 h3 declared some resources is few_instances few_binds = record {
  name = name;
  written = tree_words texts rs name start one two three rest h0 h1 h2 h3;
  lawful = tree_lawful texts rs name tally declared some resources is few_instances few_binds;
}

-- where nothing was read before, the words are those of the programs that are read, and what is left
pub begun_words : (old texts : List TextValue) (start one : List Token) → old ≡ [] → AreSameWords old start texts one → start ≡ all_words texts one
begun_words old texts start one none same = subst (λ ts. AreSameWords ts start texts one) none same

pub begin_with_texts : (r : ReaderValue) (old texts : List TextValue) (rest : List Token) (more : List ℕ) → old ≡ [] → AreSameWords old r.words texts rest → AreSameLines old r.bodies texts more → BeginWithTexts r texts
begin_with_texts r old texts rest more none words lines = record {
  rest = rest;
  more = more;
  written = begun_words old texts r.words rest none words;
  lines = subst (λ ts. AreSameLines ts r.bodies texts more) none lines;
}
