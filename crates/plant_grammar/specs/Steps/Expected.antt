-- What the grammar expects, word by word.
use Rattle.std.specs.Prelude.{◌≡◌, ◌≢◌, ◌⊎◌, ◌++◌, ◌==◌, ◌||◌, not, ℕ, Bool, true, false, if◌then◌else◌, List, [], ◌∷◌, Option, Some, None}
use Rattle.plant_text.specs.declared.token.Token.{Token}
use Rattle.plant_text.specs.declared.token.Token.TheVariants as token
use Rattle.plant_text.specs.declared.token.Keyword.{Keyword}
use Rattle.plant_text.specs.declared.token.Keyword.TheVariants as key
use Rattle.plant_text.specs.declared.token.Punctuation.{Punctuation}
use Rattle.plant_text.specs.declared.token.Punctuation.TheVariants as mark
use Rattle.plant_grammar.specs.declared.grammar_fault.GrammarFault.{GrammarFault}
use Rattle.plant_grammar.specs.declared.grammar_fault.GrammarFaultKind.TheVariants.{Syntax}
use Rattle.plant_grammar.specs.GoesOn.{IsLastMisplaced}
use Rattle.plant_grammar.specs.NameFaults.{GoesOnSound}
use Rattle.plant_grammar.specs.Steps.Lines.{ReaderValue, HasLinesOf}
use Rattle.plant_grammar.specs.Steps.Declaring.{BeginWith, IsLineBefore}

-- a word, or a part of a rule of the grammar
pub data Expected : Type 0 where
  Key : Keyword → Expected
  Mark : Punctuation → Expected
  AName : Expected
  ABody : Expected
  ADuration : Expected
  ANumber : Expected
  AType : Expected
  ASection : Expected
  ASource : Expected
  AnItem : Expected
  MayRetain : Expected
  MayHaveBinds : Expected
  TheSettings : Expected
  FirstBind : Expected
  MorePrograms : Expected
  MoreBlocks : Expected
  MoreLists : Expected
  MoreNames : Expected
  MoreBinds : Expected
  MoreItems : Expected
  MoreResources : Expected

-- keywords and marks, numbered
abbrev pub number_of_keyword : Keyword → ℕ
number_of_keyword key.Program = 0
number_of_keyword key.EndProgram = 1
number_of_keyword key.Var = 2
number_of_keyword key.VarInput = 3
number_of_keyword key.VarOutput = 4
number_of_keyword key.Retain = 5
number_of_keyword key.EndVar = 6
number_of_keyword key.Configuration = 7
number_of_keyword key.EndConfiguration = 8
number_of_keyword key.Resource = 9
number_of_keyword key.EndResource = 10
number_of_keyword key.On = 11
number_of_keyword key.Task = 12
number_of_keyword key.With = 13
number_of_keyword key.Interval = 14
number_of_keyword key.Priority = 15
number_of_keyword key.Bool = 16
number_of_keyword key.Int = 17
number_of_keyword key.Time = 18

abbrev pub number_of_mark : Punctuation → ℕ
number_of_mark mark.Open = 0
number_of_mark mark.Close = 1
number_of_mark mark.Colon = 2
number_of_mark mark.Semicolon = 3
number_of_mark mark.Comma = 4
number_of_mark mark.Dot = 5
number_of_mark mark.Assign = 6

-- whether a word is this keyword, or this mark
abbrev pub is_key : Keyword → Token → Bool
is_key k (token.Keyword l) = number_of_keyword k == number_of_keyword l
is_key k t = false

abbrev pub is_mark : Punctuation → Token → Bool
is_mark p (token.Punctuation q) = number_of_mark p == number_of_mark q
is_mark p t = false

-- whether a word is of its kind
abbrev pub is_name : Token → Bool
is_name (token.Name n) = true
is_name t = false

abbrev pub is_body : Token → Bool
is_body (token.Body b) = true
is_body t = false

abbrev pub is_number : Token → Bool
is_number (token.Number n) = true
is_number t = false

abbrev pub is_address : Token → Bool
is_address (token.Address a) = true
is_address t = false

abbrev pub is_block_type : Token → Bool
is_block_type (token.Block b) = true
is_block_type t = false

-- a duration that isn't 0
abbrev pub is_interval : Token → Bool
is_interval (token.Duration n) = not (n == 0)
is_interval t = false

-- this one where it is so, else the other
abbrev pub where_so : Bool → List Expected → Option (List Expected) → Option (List Expected)
where_so true this other = Some this
where_so false this other = other

-- the parts of rules behind their first words
abbrev pub program_rest : List Expected
program_rest = AName ∷ MoreBlocks ∷ ABody ∷ Key key.EndProgram ∷ []

abbrev pub list_rest : List Expected
list_rest = MoreNames ∷ Mark mark.Colon ∷ AType ∷ Mark mark.Semicolon ∷ []

abbrev pub interval_rest : List Expected
interval_rest = Mark mark.Assign ∷ ADuration ∷ []

abbrev pub priority_rest : List Expected
priority_rest = Mark mark.Assign ∷ ANumber ∷ []

abbrev pub bind_rest : List Expected
bind_rest = Mark mark.Assign ∷ ASource ∷ []

abbrev pub task_rest : List Expected
task_rest = AName ∷ Mark mark.Open ∷ TheSettings ∷ Mark mark.Close ∷ Mark mark.Semicolon ∷ []

abbrev pub instance_rest : List Expected
instance_rest =
    AName ∷ Key key.With ∷ AName ∷ Mark mark.Colon ∷ AName ∷ MayHaveBinds ∷ Mark mark.Semicolon ∷ []

abbrev pub resource_rest : List Expected
resource_rest = AName ∷ Key key.On ∷ AName ∷ MoreItems ∷ []

-- what is expected behind a word that begins this, to end it; none where the word doesn't
unfoldable pub begun : Expected → Token → Option (List Expected)
begun (Key k) t = where_so (is_key k t) [] None
begun (Mark p) t = where_so (is_mark p t) [] None
begun AName t = where_so (is_name t) [] None
begun ABody t = where_so (is_body t) [] None
begun ADuration t = where_so (is_interval t) [] None
begun ANumber t = where_so (is_number t) [] None
begun AType t = where_so (is_block_type t || (is_key key.Int t || (is_key key.Time t || is_key key.Bool t))) [] None
begun ASection t =
    where_so (is_key key.VarInput t || is_key key.VarOutput t) [] (where_so (is_key key.Var t) (MayRetain ∷ []) None)
begun ASource t =
    where_so (is_address t) [] (where_so (is_name t) (Mark mark.Dot ∷ AName ∷ Mark mark.Dot ∷ AName ∷ []) None)
begun AnItem t = where_so (is_key key.Task t) task_rest (where_so (is_key key.Program t) instance_rest None)
begun MayRetain t = where_so (is_key key.Retain t) [] None
begun MayHaveBinds t = where_so (is_mark mark.Open t) (FirstBind ∷ []) None
begun TheSettings t =
    where_so (is_key key.Interval t) (interval_rest ++ Mark mark.Comma ∷ Key key.Priority ∷ priority_rest)
    (where_so (is_key key.Priority t) (priority_rest ++ Mark mark.Comma ∷ Key key.Interval ∷ interval_rest) None)
begun FirstBind t = where_so (is_mark mark.Close t) [] (where_so (is_name t) (bind_rest ++ MoreBinds ∷ []) None)
begun MorePrograms t = where_so (is_key key.Program t) (program_rest ++ MorePrograms ∷ []) None
begun MoreBlocks t =
    where_so (is_key key.VarInput t || is_key key.VarOutput t) (MoreLists ∷ MoreBlocks ∷ [])
    (where_so (is_key key.Var t) (MayRetain ∷ MoreLists ∷ MoreBlocks ∷ []) None)
begun MoreLists t = where_so (is_key key.EndVar t) [] (where_so (is_name t) (list_rest ++ MoreLists ∷ []) None)
begun MoreNames t = where_so (is_mark mark.Comma t) (AName ∷ MoreNames ∷ []) None
begun MoreBinds t =
    where_so (is_mark mark.Comma t) (AName ∷ bind_rest ++ MoreBinds ∷ []) (where_so (is_mark mark.Close t) [] None)
begun MoreItems t =
    where_so (is_key key.EndResource t) []
    (where_so (is_key key.Task t) (task_rest ++ MoreItems ∷ [])
    (where_so (is_key key.Program t) (instance_rest ++ MoreItems ∷ []) None))
begun MoreResources t =
    where_so (is_key key.EndConfiguration t) []
    (where_so (is_key key.Resource t) (resource_rest ++ MoreResources ∷ []) None)

-- whether it may be left out
unfoldable pub may_end : Expected → Bool
may_end MayRetain = true
may_end MayHaveBinds = true
may_end MorePrograms = true
may_end MoreBlocks = true
may_end MoreNames = true
may_end e = false

-- what is expected behind a word that begins the first of these, or else behind one that begins what may stand there too
abbrev pub or_skipped : Option (List Expected) → List Expected → Option (List Expected) → Option (List Expected)
or_skipped (Some new) es skipped = Some (new ++ es)
or_skipped None es skipped = skipped

-- what is expected behind a word, where these are expected one after the other; none where the word can't stand there
unfoldable pub step : List Expected → Token → Option (List Expected)
step [] t = None
step (e ∷ es) t = or_skipped (begun e t) es (if may_end e then step es t else None)

-- if there is something, what this makes of it
abbrev pub and_then : Option (List Expected) → (List Expected → Option (List Expected)) → Option (List Expected)
and_then None f = None
and_then (Some es) f = f es

-- what is expected behind words; none where one of them can't stand there
unfoldable pub walk : List Expected → List Token → Option (List Expected)
walk es [] = Some es
walk es (t ∷ more) = and_then (step es t) (λ new. walk new more)

-- what is expected where a plant begins
abbrev pub whole_plant : List Expected
whole_plant = MorePrograms ∷ Key key.Configuration ∷ AName ∷ Key key.Resource ∷ resource_rest ++ MoreResources ∷ []

-- Words of which each but the last can stand where it does, and something is expected in the place of that. Of those before
-- it this is known.
pub record EndsUnexpected (Known : List Token → Type 0) (es : List Expected) (words : List Token) : Type 0 where
  pub before : List Token
  pub word : Token
  pub parts : words ≡ before ++ word ∷ []
  pub expected : List Expected
  pub walked : walk es before ≡ Some expected
  pub more : expected ≢ []
  pub unexpected : step expected word ≡ None
  pub known : Known before

-- All of these words can stand where they do, and more is expected. This is known of them.
pub record IsUnended (Known : List Token → Type 0) (es : List Expected) (words : List Token) : Type 0 where
  pub expected : List Expected
  pub walked : walk es words ≡ Some expected
  pub more : expected ≢ []
  pub known : Known words

-- this is the line of the word before the rest
abbrev pub IsOnLine : ReaderValue → ℕ → List Token → Type 0
IsOnLine left line rest = (all : List ℕ) → HasLinesOf all left → IsLineBefore all line rest

-- this is the line on which the text ends
abbrev pub IsOnLast : ReaderValue → ℕ → Type 0
IsOnLast left line = (all : List ℕ) → HasLinesOf all left → line ≡ left.last

-- The words that are left lead to one that can't stand there, and this is its line; or they end too early, and this is
-- the line on which the text ends. Of the words before it this is known.
abbrev pub IsStuck : (List Token → Type 0) → List Expected → ReaderValue → ℕ → Type 0
IsStuck Known es left line =
    (IsUnended Known es left.words × IsOnLast left line)
    ⊎ BeginWith (IsOnLine left line) (EndsUnexpected Known es) left.words

-- where the fault is Syntax, so it is, whatever is expected behind these
abbrev pub GetsStuck : (List Token → Type 0) → List Expected → ReaderValue → GrammarFault → Type 0
GetsStuck Known es left fault =
    fault.kind ≡ Syntax → (behind : List Expected) → IsStuck Known (es ++ behind) left fault.line

-- A plant goes on from all words that are left, and this is the line on which the text ends; or they lead to the first
-- from which none does, and this is its line. None of the words before it has a fault.
abbrev pub MeetsMisplaced : ReaderValue → ℕ → Type 0
MeetsMisplaced left line =
    (GoesOnSound left.words × IsOnLast left line) ⊎ BeginWith (IsOnLine left line) IsLastMisplaced left.words
