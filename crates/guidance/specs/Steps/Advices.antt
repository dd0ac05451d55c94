-- The table of advice: for each kind of fault where it is met, its name, and its texts.
use Rattle.std.specs.Prelude.{◌≡◌}
use Rattle.guidance.specs.declared.advice.Advice.{Advice}
use Rattle.guidance.specs.declared.topic.Topic.{Topic}
use Rattle.guidance.specs.Kinds.{kind_text, layer_of}
use Rattle.guidance.specs.Topics.{told, told_of}

-- the advice is on this kind: it has its layer and its name, and the texts of the table
pub record IsAdviceOn (t : Topic) (a : Advice) : Type 0 where
  pub layer : a.layer ≡ layer_of t
  pub kind : a.kind.now ≡ kind_text t
  pub texts : told a.sentence.now a.example.now a.mended.now ≡ told_of t
