-- From what came of a command to how it ended.
use Rattle.std.proofs.Common.{◌≡◌, ◌⊎◌, ℕ, List, Option, Some, None, Result, IfOk, String, inr, option_map, string_bytes, refl, ap, ◌∙◌}
use Rattle.std.specs.Global.{Global}
use Rattle.std.specs.Option.{is_some}
use Rattle.std.proofs.lemmas.Result.{IfOk-weaker}
use Rattle.plant.specs.PlantValue.{PlantValue}
use Rattle.text_commands.specs.CheckText.{IsPlantOf}
use Rattle.console.specs.declared.answered.Answered.{Answered}
use Rattle.console.specs.declared.request.SimRequest.{SimRequest}
use Rattle.console.specs.declared.request.VerifyRequest.{VerifyRequest}
use Rattle.console.specs.declared.verify_answer.Verified.{Verified}
use Rattle.console.specs.Endings.{AreDrawingsVerified, AreLinesDone, EndsSim, EndsWith, IsDrawingAnswered}

-- the lines of standard input were done with the plant of a file
pub lines_simulated : {E : Type 0} (request : SimRequest) (plant : PlantValue) (r : Result Answered E) → ((text : List ℕ) × IsPlantOf text plant)
    → IfOk r (λ answered. EndsWith 3 answered ⊎ AreLinesDone plant request answered) → IfOk r (EndsSim request)
lines_simulated request plant r read ended =
    IfOk-weaker r _ _ (λ answered done. inr (record { text = read.0; plant = plant; read = read.1; done = inr (inr done) })) ended

is_there : (file : Option (String Global)) → is_some (option_map string_bytes file) ≡ is_some file
is_there None = refl
is_there (Some text) = refl

-- the claims about drawings were answered, where the second one's file was read
pub drawings_answered : {E : Type 0} (request : VerifyRequest) (text : List ℕ) (file : Option (String Global)) (other : Option (List ℕ)) (r : Result Verified E) → is_some file ≡ is_some request.second
    → other ≡ option_map string_bytes file → IfOk r (IsDrawingAnswered request text other) → IfOk r (AreDrawingsVerified request text)
drawings_answered request text file other r read is answered =
    IfOk-weaker r _ _ (λ verified done. inr (other, ap is_some is ∙ is_there file ∙ read, done)) answered
