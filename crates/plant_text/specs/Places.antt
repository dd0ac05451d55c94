-- Where the words of a plant's text stand.
use Rattle.std.specs.Prelude.{◌≡◌, Bool, true, false, List, [], ◌∷◌}
use Rattle.plant_text.specs.declared.token.Token.{Token}
use Rattle.plant_text.specs.declared.token.Token.TheVariants as token
use Rattle.plant_text.specs.declared.token.Keyword.TheVariants as key
use Rattle.plant_text.specs.declared.lexer.Stage.{Stage}
use Rattle.plant_text.specs.declared.lexer.Stage.TheVariants as stage

-- where the word behind this one stands
abbrev pub stage_behind : Token → Stage → Stage
stage_behind (token.Keyword key.Program) stage.Outside = stage.Heading
stage_behind (token.Keyword key.Configuration) stage.Outside = stage.Configuration
stage_behind t stage.Outside = stage.Outside
stage_behind (token.Name n) stage.Heading = stage.BodyDue
stage_behind t stage.Heading = stage.Blocks
stage_behind t stage.BodyDue = stage.Blocks
stage_behind (token.Keyword key.EndVar) stage.Blocks = stage.BodyDue
stage_behind t stage.Blocks = stage.Blocks
stage_behind t stage.Configuration = stage.Configuration

-- where a body is due
abbrev pub is_due : Stage → Bool
is_due stage.BodyDue = true
is_due _ = false

-- where the word behind this one stands, which may be a body
abbrev pub stage_after : Stage → Token → Stage
stage_after s (token.Body body) = stage.Outside
stage_after s t = stage_behind t s

-- a body
abbrev pub is_body : Token → Bool
is_body (token.Body body) = true
is_body _ = false

-- a body, or VAR, VAR_INPUT or VAR_OUTPUT
abbrev pub may_be_due : Token → Bool
may_be_due (token.Body body) = true
may_be_due (token.Keyword key.Var) = true
may_be_due (token.Keyword key.VarInput) = true
may_be_due (token.Keyword key.VarOutput) = true
may_be_due _ = false

-- where a body is due, the word is one or begins a block of variables; elsewhere it is no body
abbrev pub FitsPlace : Bool → Token → Type 0
FitsPlace true t = may_be_due t ≡ true
FitsPlace false t = is_body t ≡ false

-- where the word behind all of these stands
abbrev pub stage_after_all : Stage → List Token → Stage
stage_after_all s [] = s
stage_after_all s (t ∷ more) = stage_after_all (stage_after s t) more

-- Behind these words, the first of a plant's text, a body is due: they end with a program's name, or an END_VAR of its
-- blocks.
abbrev pub is_body_due : List Token → Bool
is_body_due ts = is_due (stage_after_all stage.Outside ts)
