-- The words of a plant's text, in order.
use Rattle.std.specs.Prelude.{ℕ, List, [], ◌∷◌, ◌++◌, Option, Some, None}
use Rattle.std.specs.Global.{Vec}
use Rattle.std.specs.List.{flat_map}
use Rattle.declared_names.specs.declared.declarations.Kind.{Kind}
use Rattle.declared_names.specs.declared.declarations.Kind.TheVariants as kind
use Rattle.plant_text.specs.declared.token.Token.{Token}
use Rattle.plant_text.specs.declared.token.Token.TheVariants as token
use Rattle.plant_text.specs.declared.token.Keyword.{Keyword}
use Rattle.plant_text.specs.declared.token.Keyword.TheVariants as key
use Rattle.plant_text.specs.declared.token.Punctuation.{Punctuation}
use Rattle.plant_text.specs.declared.token.Punctuation.TheVariants.{Open, Close, Colon, Semicolon, Comma, Dot, Assign}
use Rattle.plant_grammar.specs.declared.grammar.tree.Section.{Section}
use Rattle.plant_grammar.specs.declared.grammar.tree.Section.TheVariants as section
use Rattle.plant_grammar.specs.declared.grammar.tree.TypeName.{TypeName}
use Rattle.plant_grammar.specs.declared.grammar.tree.TypeName.TheVariants.{Elementary, Block}
use Rattle.plant_grammar.specs.declared.grammar.tree.NameList.{NameList}
use Rattle.plant_grammar.specs.declared.grammar.tree.VarBlock.{VarBlock}
use Rattle.plant_grammar.specs.declared.grammar.tree.Program.{Program}
use Rattle.plant_grammar.specs.declared.grammar.tree.Order.{Order}
use Rattle.plant_grammar.specs.declared.grammar.tree.Order.TheVariants.{IntervalFirst, PriorityFirst}
use Rattle.plant_grammar.specs.declared.grammar.tree.TaskLine.{TaskLine}
use Rattle.plant_grammar.specs.declared.grammar.tree.SourceName.{SourceName}
use Rattle.plant_grammar.specs.declared.grammar.tree.SourceName.TheVariants as source
use Rattle.plant_grammar.specs.declared.grammar.tree.Bind.{Bind}
use Rattle.plant_grammar.specs.declared.grammar.tree.Use.{Use}
use Rattle.plant_grammar.specs.declared.grammar.tree.Item.{Item}
use Rattle.plant_grammar.specs.declared.grammar.tree.Item.TheVariants as item
use Rattle.plant_grammar.specs.declared.grammar.tree.Resource.{Resource}

-- a plant as it is written: its program types, the configuration's name, and its resources
pub record Tree : Type 0 where
  pub programs : List Program
  pub name : List ℕ
  pub resources : List Resource

-- a program as it is written, and the line that its body begins on
pub record TextValue : Type 0 where
  pub program : Program
  pub first_line : ℕ

-- a keyword, as a word
abbrev pub key_word : Keyword → Token
key_word k = token.Keyword k

-- a mark, as a word
abbrev pub mark_word : Punctuation → Token
mark_word p = token.Punctuation p

-- VAR_INPUT, VAR_OUTPUT, VAR or VAR RETAIN
abbrev pub section_words : Section → List Token
section_words section.Input = key_word key.VarInput ∷ []
section_words section.Output = key_word key.VarOutput ∷ []
section_words section.Local = key_word key.Var ∷ []
section_words section.Retained = key_word key.Var ∷ key_word key.Retain ∷ []

abbrev pub kind_word : Kind → Token
kind_word kind.Bool = key_word key.Bool
kind_word kind.Int = key_word key.Int
kind_word kind.Time = key_word key.Time

-- BOOL, INT, TIME or the type of a standard block
abbrev pub type_word : TypeName → Token
type_word (Elementary k) = kind_word k
type_word (Block b) = token.Block b

-- names with commas between them
abbrev pub name_words : List (List ℕ) → List Token
name_words [] = []
name_words (n ∷ []) = token.Name n ∷ []
name_words (n ∷ m ∷ more) = token.Name n ∷ mark_word Comma ∷ name_words (m ∷ more)

-- names, a colon, their type, a semicolon
unfoldable pub list_words : NameList → List Token
list_words l = name_words l.names.items ++ mark_word Colon ∷ type_word l.type_name ∷ mark_word Semicolon ∷ []

-- lists of names, and the end of the block
abbrev pub lists_words : List NameList → List Token
lists_words [] = key_word key.EndVar ∷ []
lists_words (l ∷ ls) = list_words l ++ lists_words ls

unfoldable pub block_words : VarBlock → List Token
block_words b = section_words b.section ++ lists_words b.lists.items

-- PROGRAM, its name, its blocks, its body, END_PROGRAM
unfoldable pub program_words : Program → List Token
program_words p =
    key_word key.Program ∷ token.Name p.name ∷ flat_map block_words p.blocks.items
    ++ token.Body p.body ∷ key_word key.EndProgram ∷ []

abbrev pub interval_words : ℕ → List Token
interval_words n = key_word key.Interval ∷ mark_word Assign ∷ token.Duration n ∷ []

abbrev pub priority_words : ℕ → List Token
priority_words n = key_word key.Priority ∷ mark_word Assign ∷ token.Number n ∷ []

-- the two settings of a task, in either order
abbrev pub settings : Order → ℕ → ℕ → List Token
settings IntervalFirst interval priority = interval_words interval ++ mark_word Comma ∷ priority_words priority
settings PriorityFirst interval priority = priority_words priority ++ mark_word Comma ∷ interval_words interval

unfoldable pub task_words : TaskLine → List Token
task_words t =
    key_word key.Task ∷ token.Name t.name ∷ mark_word Open ∷ settings t.order t.interval t.priority
    ++ mark_word Close ∷ mark_word Semicolon ∷ []

-- an address, or `resource.instance.output`
abbrev pub source_words : SourceName → List Token
source_words (source.Field address) = token.Address address ∷ []
source_words (source.Output resource instance output) =
    token.Name resource ∷ mark_word Dot ∷ token.Name instance ∷ mark_word Dot ∷ token.Name output ∷ []

unfoldable pub bind_words : Bind → List Token
bind_words b = token.Name b.input ∷ mark_word Assign ∷ source_words b.source

-- binds with commas between them
abbrev pub with_commas : List Bind → List Token
with_commas [] = []
with_commas (b ∷ []) = bind_words b
with_commas (b ∷ c ∷ bs) = bind_words b ++ mark_word Comma ∷ with_commas (c ∷ bs)

-- there may be no parentheses
abbrev pub binds_words : Option (List Bind) → List Token
binds_words None = []
binds_words (Some binds) = mark_word Open ∷ with_commas binds ++ mark_word Close ∷ []

-- the binds of an instance, where it has parentheses
abbrev pub binds_listed : Option (Vec Bind) → Option (List Bind)
binds_listed None = None
binds_listed (Some binds) = Some binds.items

unfoldable pub use_words : Use → List Token
use_words u =
    key_word key.Program ∷ token.Name u.instance ∷ key_word key.With ∷ token.Name u.task
    ∷ mark_word Colon ∷ token.Name u.program ∷ binds_words (binds_listed u.binds) ++ mark_word Semicolon ∷ []

abbrev pub item_words : Item → List Token
item_words (item.Task t) = task_words t
item_words (item.Use u) = use_words u

-- tasks and instances, and the end of the resource
abbrev pub items_words : List Item → List Token
items_words [] = key_word key.EndResource ∷ []
items_words (x ∷ xs) = item_words x ++ items_words xs

unfoldable pub resource_words : Resource → List Token
resource_words r =
    key_word key.Resource ∷ token.Name r.name ∷ key_word key.On ∷ token.Name r.node ∷ items_words r.items.items

-- resources, and the end of the configuration
abbrev pub resources_words : List Resource → List Token
resources_words [] = key_word key.EndConfiguration ∷ []
resources_words (r ∷ rs) = resource_words r ++ resources_words rs

-- the words of a tree, in order
unfoldable pub words_of : Tree → List Token
words_of t =
    flat_map program_words t.programs ++ key_word key.Configuration ∷ token.Name t.name ∷ resources_words t.resources
