-- What is told so far.
use Rattle.std.specs.Prelude.{ℕ, if◌then◌else◌, List, fold}
use Rattle.guidance.specs.declared.remarks.Occasion.{Occasion}
use Rattle.guidance.specs.declared.topic.Topic.{Topic}
use Rattle.guidance.specs.Kinds.{kind_text}
use Rattle.guidance.specs.Explaining.{RemarkValue, and_part, is_called, remark_text, told_on, topic_text}

-- a text, and behind it what is told of a kind of fault or warning, if it has this name
abbrev pub and_topic : List ℕ → List ℕ → Topic → List ℕ
and_topic kind text t = if is_called (kind_text t) kind then and_part text (topic_text t) else text

-- so it is with a kind of what happens
abbrev pub and_remark : Occasion → List ℕ → List ℕ → RemarkValue → List ℕ
and_remark o kind text r = if is_called r.kind kind then and_part text (remark_text o r) else text

-- a text, and behind it what is told of the kinds of this name on an occasion
abbrev pub and_occasion : List ℕ → List ℕ → Occasion → List ℕ
and_occasion name text o = fold and_part text (told_on name o)
