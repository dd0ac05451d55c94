-- What `plc explain` tells.
use Rattle.std.specs.Prelude.{ℕ, ◌++◌, Bool, List, [], ◌∷◌, codes, bytes_eq, filter, fold, map}
use Rattle.std.specs.List.{flat_map}
use Rattle.std.specs.Char.{to_ascii_lowercase}
use Rattle.std.specs.Str.Lines.{lines}
use Rattle.guidance.specs.declared.advice.Layer.{Layer}
use Rattle.guidance.specs.declared.remarks.Occasion.{Occasion}
use Rattle.guidance.specs.declared.remarks.Occasion.TheVariants as occasion
use Rattle.guidance.specs.declared.remarks.TheConstants as table
use Rattle.guidance.specs.declared.topic.Topic.{Topic}
use Rattle.guidance.specs.declared.topic.TheConstants.{TOPICS}
use Rattle.guidance.specs.Kinds.{heading_of, kind_text, layer_of, layer_text}
use Rattle.guidance.specs.Topics.{Told, told_of}

-- two names are the same, in whatever case
abbrev pub is_called : List ℕ → List ℕ → Bool
is_called name kind = bytes_eq (map to_ascii_lowercase name) (map to_ascii_lowercase kind)

-- a line, behind two blanks
abbrev pub shown_line : List ℕ → List ℕ
shown_line line = codes "  " ++ line ++ codes "\n"

-- the lines of a text
abbrev pub shown_lines : List ℕ → List ℕ
shown_lines text = flat_map shown_line (lines text)

-- a kind, where it is met, and what is wrong; a text that is refused or warned of comes next
abbrev pub head_text : List ℕ → Layer → List ℕ → List ℕ
head_text kind layer sentence =
    kind ++ codes " " ++ layer_text layer ++ codes ":\n" ++ sentence ++ codes "\n\n" ++ heading_of layer ++ codes ":\n\n"

-- What is told of a kind of fault or warning, with a text that has it, and the text mended.
unfoldable pub told_text : List ℕ → Layer → Told → List ℕ
told_text kind layer t =
    head_text kind layer t.sentence ++ shown_lines t.example ++ codes "\nMended:\n\n" ++ shown_lines t.mended

abbrev pub topic_text : Topic → List ℕ
topic_text t = told_text (kind_text t) (layer_of t) (told_of t)

-- where a kind is met of what happens
abbrev pub occasion_text : Occasion → List ℕ
occasion_text occasion.Event = codes "in a REFUSED line of plc sim"
occasion_text occasion.Command = codes "in a FAULT line of plc run"
occasion_text occasion.Run = codes "where plc run gives no report"
occasion_text occasion.State = codes "in a folder of state"
occasion_text occasion.Node = codes "in a REFUSED line of plc node"
occasion_text occasion.Audit = codes "in an UNSHOWN line of plc audit"

-- a kind of what happens, and what it means
pub record RemarkValue : Type 0 where
  pub kind : List ℕ
  pub sentence : List ℕ

abbrev pub remark : List ℕ → List ℕ → RemarkValue
remark kind sentence = record { kind = kind; sentence = sentence }

-- the kinds that are met there
abbrev pub remarks_on : Occasion → List RemarkValue
remarks_on occasion.Event = map (λ r. remark r.0.now r.1.now) table.EVENTS
remarks_on occasion.Command = map (λ r. remark r.0.now r.1.now) table.COMMANDS
remarks_on occasion.Run = map (λ r. remark r.0.now r.1.now) table.RUNS
remarks_on occasion.State = map (λ r. remark r.0.now r.1.now) table.STATES
remarks_on occasion.Node = map (λ r. remark r.0.now r.1.now) table.NODES
remarks_on occasion.Audit = map (λ r. remark r.0.now r.1.now) table.AUDITS

-- what is told of a kind of what happens
abbrev pub remark_text : Occasion → RemarkValue → List ℕ
remark_text o r = r.kind ++ codes " " ++ occasion_text o ++ codes ":\n" ++ r.sentence ++ codes "\n"

-- what is told of the kinds of this name that are met on an occasion
abbrev pub told_on : List ℕ → Occasion → List (List ℕ)
told_on kind o = map (remark_text o) (filter (λ (r : RemarkValue). is_called r.kind kind) (remarks_on o))

-- a text, and a further part behind it and an empty line
abbrev pub and_part : List ℕ → List ℕ → List ℕ
and_part [] part = part
and_part (c ∷ text) part = (c ∷ text) ++ codes "\n" ++ part

-- what is told of the faults and warnings of this name
abbrev pub topics_told : List ℕ → List (List ℕ)
topics_told kind = map topic_text (filter (λ t. is_called (kind_text t) kind) TOPICS)

-- What is told of the kinds of this name: of faults and warnings, then of what happens; empty where there is none.
abbrev pub explained : List ℕ → List ℕ
explained kind = fold and_part [] (topics_told kind ++ flat_map (told_on kind) table.OCCASIONS)

-- a line for a kind: its name, and where it is met
abbrev pub kind_line : List ℕ → List ℕ → List ℕ
kind_line kind place = kind ++ codes " " ++ place ++ codes "\n"

abbrev pub topic_line : Topic → List ℕ
topic_line t = kind_line (kind_text t) (layer_text (layer_of t))

abbrev pub remark_line : Occasion → RemarkValue → List ℕ
remark_line o r = kind_line r.kind (occasion_text o)

-- a line for each kind that is met on an occasion
abbrev pub remark_lines : Occasion → List ℕ
remark_lines o = flat_map (remark_line o) (remarks_on o)

-- All kinds, a line for each with where it is met.
abbrev pub all_kinds : List ℕ
all_kinds = flat_map topic_line TOPICS ++ flat_map remark_lines table.OCCASIONS
