-- Which of a node's inputs may say what. A node with a field has an input of the field's and one of its neighbours'; without a
-- field it has one input, which may say all but what the field is.
use Rattle.std.specs.Prelude.{ℕ, ◌==◌, Bool, false, if◌then◌else◌, List, [], ◌∷◌, codes, unwrap_or}
use Rattle.words.specs.Chars.{same_word, first_that}
use Rattle.words.specs.Lines.{without_last}
use Rattle.evaluation.specs.InputTexts.{words_of}
use Rattle.cycle.specs.declared.line_word.LineWord.{LineWord}
use Rattle.cycle.specs.declared.line_word.LineWord.TheVariants.{Idle, Input, Evaluate, Message, Hello, Restart, Other}
use Rattle.cycle.specs.declared.origin.Origin.{Origin}
use Rattle.cycle.specs.declared.origin.Origin.TheVariants.{Field, Neighbours}
use Rattle.cycle.specs.declared.origin.Verdict.{Verdict}
use Rattle.cycle.specs.declared.origin.Verdict.TheVariants.{Answer, Tell, Refuse}
use Rattle.cycle.specs.declared.origin.Inlets.{Inlets}
use Rattle.cycle.specs.declared.field_refusal.FieldRefusal.TheVariants.{NotFromThere, Cycling}

-- a word begins with `#`
abbrev pub is_marked : List ℕ → Bool
is_marked [] = false
is_marked (c ∷ more) = c == 35

-- the keyword that a word is, in either case; a word that begins with `#` is none, since its line is a comment
unfoldable pub keyword_of : List ℕ → LineWord
keyword_of w = unwrap_or (first_that (
    (is_marked w, Idle) ∷ (same_word w (codes "INPUT"), Input) ∷ (same_word w (codes "EVAL"), Evaluate)
    ∷ (same_word w (codes "MESSAGE"), Message) ∷ (same_word w (codes "HELLO"), Hello)
    ∷ (same_word w (codes "RESTART"), Restart) ∷ [])) Other

-- the keyword that the first of these words is
abbrev pub first_word : List (List ℕ) → LineWord
first_word [] = Idle
first_word (word ∷ more) = keyword_of word

-- what a line begins with; a carriage return at its end is none of it
abbrev pub word_of_line : List ℕ → LineWord
word_of_line line = first_word (words_of (without_last 13 line))

-- an EVAL line, where there is a cycle or none
abbrev pub verdict_of_eval : Bool → Verdict
verdict_of_eval cycles = if cycles then Refuse Cycling else Answer

-- What the field may say: INPUT, RESTART and, without a cycle, EVAL. What neighbours may say: MESSAGE and HELLO.
abbrev pub verdict_beside_field : Bool → Origin → LineWord → Verdict
verdict_beside_field cycles Field Idle = Answer
verdict_beside_field cycles Field Input = Tell
verdict_beside_field cycles Field Evaluate = verdict_of_eval cycles
verdict_beside_field cycles Field Message = Refuse NotFromThere
verdict_beside_field cycles Field Hello = Refuse NotFromThere
verdict_beside_field cycles Field Restart = Answer
verdict_beside_field cycles Field Other = Refuse NotFromThere
verdict_beside_field cycles Neighbours Idle = Answer
verdict_beside_field cycles Neighbours Input = Refuse NotFromThere
verdict_beside_field cycles Neighbours Evaluate = Refuse NotFromThere
verdict_beside_field cycles Neighbours Message = Answer
verdict_beside_field cycles Neighbours Hello = Answer
verdict_beside_field cycles Neighbours Restart = Refuse NotFromThere
verdict_beside_field cycles Neighbours Other = Refuse NotFromThere

-- without a field all is answered as ever, but for EVAL where there is a cycle
abbrev pub verdict_alone : Bool → LineWord → Verdict
verdict_alone cycles Idle = Answer
verdict_alone cycles Input = Answer
verdict_alone cycles Evaluate = verdict_of_eval cycles
verdict_alone cycles Message = Answer
verdict_alone cycles Hello = Answer
verdict_alone cycles Restart = Answer
verdict_alone cycles Other = Answer

-- what is done with a line that begins with this word and comes by an input
abbrev pub verdict_of : Inlets → Origin → LineWord → Verdict
verdict_of inlets origin word =
    if inlets.has_field then verdict_beside_field inlets.cycles origin word else verdict_alone inlets.cycles word
