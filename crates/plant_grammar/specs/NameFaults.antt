-- The words of a plant's text, each with its fault in view of those before it, and the first word that has one.
use Rattle.std.specs.Prelude.{◌≡◌, ℕ, ◌+◌, List, [], ◌∷◌, ◌++◌, length, map, Option, Some, None}
use Rattle.std.specs.List.{flat_map, find}
use Rattle.declared_names.specs.declared.declarations.Declaration.{Declaration}
use Rattle.plant_grammar.specs.declared.grammar_fault.GrammarFaultKind.{GrammarFaultKind}
use Rattle.plant_text.specs.declared.token.Token.{Token}
use Rattle.plant_text.specs.declared.token.Token.TheVariants as token
use Rattle.plant_text.specs.declared.token.Keyword.TheVariants as key
use Rattle.plant_text.specs.declared.token.Punctuation.TheVariants.{Open, Close, Colon, Semicolon, Assign}
use Rattle.plant_grammar.specs.declared.grammar.tree.Section.{Section}
use Rattle.plant_grammar.specs.declared.grammar.tree.NameList.{NameList}
use Rattle.plant_grammar.specs.declared.grammar.tree.VarBlock.{VarBlock}
use Rattle.plant_grammar.specs.declared.grammar.tree.Program.{Program}
use Rattle.plant_grammar.specs.declared.grammar.tree.TaskLine.{TaskLine}
use Rattle.plant_grammar.specs.declared.grammar.tree.Bind.{Bind}
use Rattle.plant_grammar.specs.declared.grammar.tree.Use.{Use}
use Rattle.plant_grammar.specs.declared.grammar.tree.Item.{Item}
use Rattle.plant_grammar.specs.declared.grammar.tree.Item.TheVariants as item
use Rattle.plant_grammar.specs.declared.grammar.tree.Resource.{Resource}
use Rattle.plant_grammar.specs.Grammar.{Tree, key_word, mark_word, section_words, settings, binds_listed}
use Rattle.plant_grammar.specs.Kinds.{input_kind_of}
use Rattle.plant_grammar.specs.JudgedWords.{Judged, sound, sounds, new_name, known_name, input_name, judged_source, judged_type, in_order, listed}
use Rattle.plant_grammar.specs.Names.{is_named}
use Rattle.plant_grammar.specs.Lawful.{lists_variables, block_variables, variables, task_of, use_of, uses_of, binds_of}
use Rattle.plant_grammar.specs.WellFormed.{IsTreeWellFormed}

-- a variable behind these of its program, and these names of its list
abbrev pub judged_variable : List Declaration → List (List ℕ) → List ℕ → List Judged
judged_variable ds before name =
    new_name (map (λ (d : Declaration). d.name) ds ++ before) (length ds + length before) 1000 name ∷ []

-- a list of a section behind these variables of its program
unfoldable pub judged_list : Section → List Declaration → NameList → List Judged
judged_list s ds l =
    listed (judged_variable ds) [] l.names.items
    ++ sound (mark_word Colon) ∷ judged_type s l.type_name ∷ sound (mark_word Semicolon) ∷ []

-- a block behind these variables of its program
unfoldable pub judged_block : List Declaration → VarBlock → List Judged
judged_block ds b =
    sounds (section_words b.section)
    ++ (in_order (λ ls l. judged_list b.section (ds ++ lists_variables b.section ls) l) [] b.lists.items
    ++ sound (key_word key.EndVar) ∷ [])

-- a program behind these
unfoldable pub judged_program : List Program → Program → List Judged
judged_program before p =
    sound (key_word key.Program) ∷ new_name (map (λ (q : Program). q.name) before) (length before) 64 p.name
    ∷ in_order (λ bs b. judged_block (flat_map block_variables bs) b) [] p.blocks.items
    ++ sounds (token.Body p.body ∷ key_word key.EndProgram ∷ [])

-- a task behind these of its resource
unfoldable pub judged_task : List TaskLine → TaskLine → List Judged
judged_task before t =
    sound (key_word key.Task) ∷ new_name (map (λ (u : TaskLine). u.name) before) (length before) 16 t.name
    ∷ sounds (mark_word Open ∷ settings t.order t.interval t.priority ++ mark_word Close ∷ mark_word Semicolon ∷ [])

-- a bind behind these of its instance, of a type with these variables, and so many of the plant
unfoldable pub judged_bind : List Declaration → ℕ → List Bind → Bind → List Judged
judged_bind ds count before b =
    input_name ds before count b.input ∷ sound (mark_word Assign)
    ∷ judged_source (input_kind_of ds b.input) b.source

-- the binds of an instance behind so many of the plant
abbrev pub judged_binds : List Declaration → ℕ → Option (List Bind) → List Judged
judged_binds ds binds None = []
judged_binds ds binds (Some bs) =
    sound (mark_word Open) ∷ listed (λ before b. judged_bind ds (binds + length before) before b) [] bs
    ++ sound (mark_word Close) ∷ []

-- the variables of the first program of the name
abbrev pub variables_found : Option Program → List Declaration
variables_found None = []
variables_found (Some p) = variables p

abbrev pub variables_named : List Program → List ℕ → List Declaration
variables_named programs name = variables_found (find (λ (p : Program). is_named name p.name) programs)

-- an instance of one of these programs, behind these lines of its resource, and so many instances and binds of the plant
unfoldable pub judged_use : List Program → ℕ → ℕ → List Item → Use → List Judged
judged_use programs instances binds before u =
    sound (key_word key.Program) ∷ new_name (map (λ (v : Use). v.instance) (flat_map use_of before)) instances 64 u.instance
    ∷ sound (key_word key.With) ∷ known_name (map (λ (t : TaskLine). t.name) (flat_map task_of before)) u.task
    ∷ sound (mark_word Colon) ∷ known_name (map (λ (p : Program). p.name) programs) u.program
    ∷ judged_binds (variables_named programs u.program) binds (binds_listed u.binds) ++ sound (mark_word Semicolon) ∷ []

-- a line of a resource behind these, and so many instances and binds of the plant
abbrev pub judged_item : List Program → ℕ → ℕ → List Item → Item → List Judged
judged_item programs instances binds before (item.Task t) = judged_task (flat_map task_of before) t
judged_item programs instances binds before (item.Use u) = judged_use programs instances binds before u

-- a resource behind these, and so many instances and binds of the plant
unfoldable pub judged_resource : List Program → ℕ → ℕ → List Resource → Resource → List Judged
judged_resource programs instances binds before r =
    sound (key_word key.Resource) ∷ new_name (map (λ (q : Resource). q.name) before) (length before) 16 r.name
    ∷ sound (key_word key.On) ∷ sound (token.Name r.node)
    ∷ in_order (λ xs x. judged_item programs (instances + length (flat_map use_of xs))
    (binds + length (flat_map binds_of (flat_map use_of xs))) xs x) [] r.items.items
    ++ sound (key_word key.EndResource) ∷ []

-- the words of a tree, in order, each with its fault
unfoldable pub judged_of : Tree → List Judged
judged_of t =
    in_order judged_program [] t.programs
    ++ sound (key_word key.Configuration) ∷ sound (token.Name t.name)
    ∷ (in_order (λ rs r. judged_resource t.programs (length (flat_map uses_of rs))
    (length (flat_map binds_of (flat_map uses_of rs))) rs r) [] t.resources
    ++ sound (key_word key.EndConfiguration) ∷ [])

-- Some plant, as the grammar has it, begins with these words, none of which has a fault.
abbrev pub GoesOnSound : List Token → Type 0
GoesOnSound words =
    (tree : Tree) × (more : List Judged) × (judged_of tree ≡ sounds words ++ more) × IsTreeWellFormed tree

-- Some plant, as the grammar has it, begins with these words, of which the last is the first that has a fault, and this one.
pub record IsLastRefused (k : GrammarFaultKind) (words : List Token) : Type 0 where
  pub before : List Token
  pub word : Token
  pub parts : words ≡ before ++ word ∷ []
  pub tree : Tree
  pub more : List Judged
  pub judged : judged_of tree ≡ sounds before ++ record { word = word; fault = Some k } ∷ more
  pub formed : IsTreeWellFormed tree
