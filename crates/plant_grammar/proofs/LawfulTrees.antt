-- The parts of a lawful tree, which no rule may refuse.
use Rattle.std.proofs.Common.{◌≡◌, ℕ, zero, suc, ◌<◌, IsTrue, List, [], ◌∷◌, ◌++◌, length, map, refl, sym, ap, subst, ◌∙◌, arith}
use Rattle.std.specs.Prelude.{All, Any}
use Rattle.std.specs.List.{flat_map}
use Rattle.plant_text.specs.declared.token.Token.{Token}
use Rattle.plant_text.specs.declared.token.Token.TheVariants as token
use Rattle.plant_text.specs.declared.token.Keyword.TheVariants as key
use Rattle.plant_grammar.specs.declared.grammar.tree.Program.{Program}
use Rattle.plant_grammar.specs.declared.grammar.tree.Use.{Use}
use Rattle.plant_grammar.specs.declared.grammar.tree.Item.{Item}
use Rattle.plant_grammar.specs.declared.grammar.tree.Resource.{Resource}
use Rattle.plant_grammar.specs.Kinds.{IsOfInputKind}
use Rattle.plant_grammar.specs.Grammar.{Tree, TextValue, key_word, program_words, resources_words, words_of}
use Rattle.plant_grammar.specs.Names.{is_named}
use Rattle.plant_grammar.specs.Lawful.{uses_of, binds_of, IsUseLawful, IsResourceLawful, IsTreeLawful, AreProgramsDeclared, AreResourcesLawful}
use Rattle.plant_grammar.specs.Parts.{ProgramParts, program_parts, IsSameTree}
use Rattle.plant_grammar.specs.Steps.Lines.{IsNotNext}
use Rattle.plant_grammar.specs.Steps.ReadParts.{TallyValue, types_alone}
use Rattle.plant_grammar.specs.Steps.Reading.{programs_of, all_words, tree_written, AreSameWords, IsTreeOf}
use Rattle.plant_grammar.specs.Steps.Refusing.{HasRoomFor, AreTypesApart}
use Rattle.plant_grammar.proofs.OneTree.{all_read, one_program, program_stops, configuration_stops, tree_parts_of, one_tree}
use Rattle.plant_grammar.proofs.WholeTrees.{begun_words}

-- the programs of a tree are refused wrongly
pub programs_allowed : (old : List TextValue) (tree : Tree) (start rest : List Token) → old ≡ [] → start ≡ words_of tree ++ rest → IsTreeLawful tree
    → ((ps : List Program) (after : List Token) → all_words old start ≡ flat_map program_words ps ++ after → IsNotNext (key_word key.Program) after → AreProgramsDeclared ps → ⊥) → ⊥
programs_allowed old tree start rest none e lawful refuses =
    let words : all_words old start ≡ flat_map program_words tree.programs ++ key_word key.Configuration ∷ token.Name tree.name ∷ (resources_words tree.resources ++ rest) =
    ap (λ (ts : List TextValue). all_words ts start) none ∙ e ∙ tree_parts_of tree rest in
    refuses tree.programs (key_word key.Configuration ∷ token.Name tree.name ∷ (resources_words tree.resources ++ rest)) words (λ more h. cc)
    (record { few = lawful.few_types; apart = lawful.types_apart; declared = lawful.programs_lawful })

-- behind programs that are read stands the configuration
pub behind_programs : (old texts : List TextValue) (tree : Tree) (start one rest : List Token) → old ≡ [] → AreSameWords old start texts one → IsNotNext (key_word key.Program) one → start ≡ words_of tree ++ rest
    → (map program_parts (programs_of texts) ≡ map program_parts tree.programs) × (one ≡ key_word key.Configuration ∷ token.Name tree.name ∷ (resources_words tree.resources ++ rest))
behind_programs old texts tree start one rest none same last e =
    let behind = token.Name tree.name ∷ (resources_words tree.resources ++ rest) in
    all_read program_words program_parts one_program (programs_of texts) tree.programs start one (key_word key.Configuration ∷ behind) (program_stops one last) (configuration_stops behind) (begun_words old texts start one none same) (e ∙ tree_parts_of tree rest)

-- behind its name stand the resources
pub behind_name : (tree : Tree) (name : List ℕ) (one two three rest : List Token) → one ≡ key_word key.Configuration ∷ token.Name tree.name ∷ (resources_words tree.resources ++ rest) → one ≡ key_word key.Configuration ∷ two → two ≡ token.Name name ∷ three
    → three ≡ resources_words tree.resources ++ rest
behind_name tree name one two three rest e f g = cc (e, f, g)

pub name_follows : (tree : Tree) (one two rest : List Token) → one ≡ key_word key.Configuration ∷ token.Name tree.name ∷ (resources_words tree.resources ++ rest) → one ≡ key_word key.Configuration ∷ two → two ≡ token.Name tree.name ∷ (resources_words tree.resources ++ rest)
name_follows tree one two rest e f = cc (e, f)

-- what holds of what one of them says holds of one of the others
any_same : {A V : Type 0} (view : A → V) (P : V → Type 0) (xs ys : List A) → map view xs ≡ map view ys → Any (λ x. P (view x)) xs → Any (λ y. P (view y)) ys
any_same view P [] ys e (k, z, lt, at, h) = absurd (omega (arith, lt))
any_same view P (x ∷ xs) [] e some = absurd cc
any_same view P (x ∷ xs) (y ∷ ys) e (zero, z, lt, at, h) =
    let first : view x ≡ view y = cc (e) in
    (0, y, omega arith, refl, subst P (ap view (sym at) ∙ first) h)
any_same view P (x ∷ xs) (y ∷ ys) e (suc k, z, lt, at, h) =
    let rest : map view xs ≡ map view ys = cc (e) in
    let short : k < length xs = omega (arith, lt) in
    let r = any_same view P xs ys rest (k, z, short, at, h) in
    (suc r.0, r.1, omega (arith, r.2), r.3, r.4)

-- an instance is lawful with program types that say the same
use_lawful_with : (tree : Tree) (texts : List TextValue) (before : List Item) (u : Use) → map program_parts (programs_of texts) ≡ map program_parts tree.programs → IsUseLawful tree before u → IsUseLawful (types_alone texts) before u
use_lawful_with tree texts before u same lawful = record {
  task_is = lawful.task_is;
  type_is = any_same program_parts (λ (p : ProgramParts). IsTrue (is_named u.program p.name) × All (IsOfInputKind p.declarations) (binds_of u)) tree.programs (programs_of texts) (sym same) lawful.type_is;
  apart = lawful.apart;
}

resource_lawful_with : (tree : Tree) (texts : List TextValue) (r : Resource) → map program_parts (programs_of texts) ≡ map program_parts tree.programs → IsResourceLawful tree r → IsResourceLawful (types_alone texts) r
resource_lawful_with tree texts r same lawful = record {
  tasks_apart = lawful.tasks_apart;
  few_tasks = lawful.few_tasks;
  intervals = lawful.intervals;
  instances_apart = lawful.instances_apart;
  uses_lawful = λ k u at. use_lawful_with tree texts _ u same (lawful.uses_lawful k u at);
}

-- the resources of a tree are refused wrongly
pub resources_allowed : (tree : Tree) (texts types : List TextValue) (tally : TallyValue) (three rest : List Token) → types ≡ texts → AreProgramsDeclared (programs_of texts) → map program_parts (programs_of texts) ≡ map program_parts tree.programs
    → tally ≡ record { instances = 0; binds = 0 } → three ≡ resources_words tree.resources ++ rest → IsTreeLawful tree
    → ((rs : List Resource) (after : List Token) → three ≡ resources_words rs ++ after → 0 < length rs → AreTypesApart types → AreResourcesLawful (types_alone types) rs → HasRoomFor tally (flat_map uses_of rs) → ⊥) → ⊥
resources_allowed tree texts types tally three rest seen declared same none e lawful refuses =
    let instances : tally.instances ≡ 0 = ap (λ (t : TallyValue). t.instances) none in
    let binds : tally.binds ≡ 0 = ap (λ (t : TallyValue). t.binds) none in
    let apart : AreTypesApart texts = declared.apart in
    let these : AreResourcesLawful (types_alone texts) tree.resources = record {
      few = lawful.few_resources;
      apart = lawful.resources_apart;
      lawful = λ k d lt. resource_lawful_with tree texts _ same (lawful.resources_lawful k d lt);
    } in
    refuses tree.resources rest e lawful.some_resource (subst AreTypesApart (sym seen) apart) (subst (λ (ts : List TextValue). AreResourcesLawful (types_alone ts) tree.resources) (sym seen) these)
    (omega (arith, instances, lawful.few_instances), omega (arith, binds, lawful.few_binds))

-- the tree that was read says what any tree of the words says, and what stands behind it is left
pub read_alone : (tree : Tree) (texts : List TextValue) (rs : List Resource) (start new rest : List Token) → IsTreeOf start texts rs new → start ≡ words_of tree ++ rest → (new ≡ rest) × IsSameTree tree (tree_written tree.name texts rs)
read_alone tree texts rs start new rest read e =
    let o = one_tree tree (tree_written read.name texts rs) rest new (sym e ∙ read.written) in
    let same = o.1 in
    (sym o.0, record { programs = same.programs; name = refl; resources = same.resources })
