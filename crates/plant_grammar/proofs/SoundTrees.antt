-- A lawful tree's words have no fault.
use Rattle.std.proofs.Common.{◌≡◌, ◌+◌, List, [], ◌∷◌, ◌++◌, length, sym, ap, ◌∙◌, arith}
use Rattle.std.specs.List.{flat_map}
use Rattle.plant_text.specs.declared.token.Token.TheVariants as token
use Rattle.plant_text.specs.declared.token.Keyword.TheVariants as key
use Rattle.plant_grammar.specs.declared.grammar.tree.Resource.{Resource}
use Rattle.plant_grammar.specs.Grammar.{Tree, key_word, program_words, resource_words, resources_words, words_of}
use Rattle.plant_grammar.specs.JudgedWords.{Judged, sound, sounds, in_order}
use Rattle.plant_grammar.specs.Lawful.{uses_of, binds_of, programs_alone, IsResourceLawful, AreProgramsDeclared, AreResourcesLawful, IsTreeLawful}
use Rattle.plant_grammar.specs.NameFaults.{judged_program, judged_resource, judged_of}
use Rattle.plant_grammar.specs.Steps.SoundWords.{judged_resources_behind}
use Rattle.plant_grammar.proofs.WordLists.{resources_end}
use Rattle.plant_grammar.proofs.JudgedParts.{sounds_both, in_order_sound}
use Rattle.plant_grammar.proofs.SoundParts.{each_program_sound, each_resource_sound}
use Rattle.plant_grammar.proofs.LiftedWords.{from_nothing}

-- what is lawful in a tree is so beside its programs alone
alone_lawful : (tree : Tree) (r : Resource) → IsResourceLawful tree r → IsResourceLawful (programs_alone tree.programs) r
alone_lawful tree r lawful = record {
  tasks_apart = lawful.tasks_apart;
  few_tasks = lawful.few_tasks;
  intervals = lawful.intervals;
  instances_apart = lawful.instances_apart;
  uses_lawful = λ k u at. let is = lawful.uses_lawful k u at in record { task_is = is.task_is; type_is = is.type_is; apart = is.apart };
}

pub tree_sound : (tree : Tree) → IsTreeLawful tree → judged_of tree ≡ sounds (words_of tree)
unfolding judged_of words_of
tree_sound tree lawful =
    let ps = tree.programs in
    let rs = tree.resources in
    let declared : AreProgramsDeclared ps = record { few = lawful.few_types; apart = lawful.types_apart; declared = lawful.programs_lawful } in
    let are : AreResourcesLawful (programs_alone ps) rs = record {
      few = lawful.few_resources;
      apart = lawful.resources_apart;
      lawful = λ k d lt. alone_lawful tree _ (lawful.resources_lawful k d lt);
    } in
    let end : List Judged = sound (key_word key.EndConfiguration) ∷ [] in
    let first : List Judged = in_order judged_program [] ps in
    let resources : judged_resources_behind ps 0 0 rs ≡ sounds (resources_words rs) =
    ap (λ (a : List Judged). a ++ end) (in_order_sound (λ before r. judged_resource ps (0 + length (flat_map uses_of before)) (0 + length (flat_map binds_of (flat_map uses_of before))) before r) resource_words [] rs
    (each_resource_sound ps 0 0 rs declared.apart (are, (omega (arith, lawful.few_instances), omega (arith, lawful.few_binds)))))
    ∙ sym (ap sounds (resources_end rs) ∙ sounds_both (flat_map resource_words rs) (key_word key.EndConfiguration ∷ [])) in
    ap (λ (a : List Judged). first ++ sound (key_word key.Configuration) ∷ sound (token.Name tree.name) ∷ a) (from_nothing ps rs ∙ resources)
    ∙ ap (λ (a : List Judged). a ++ sounds (key_word key.Configuration ∷ token.Name tree.name ∷ resources_words rs)) (in_order_sound judged_program program_words [] ps (each_program_sound ps declared))
    ∙ sym (sounds_both (flat_map program_words ps) (key_word key.Configuration ∷ token.Name tree.name ∷ resources_words rs))
