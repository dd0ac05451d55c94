use Rattle.std.proofs.Common.{◌≡◌, inl, sym, ap, ◌∙◌}
use Rattle.std.proofs.lemmas.Result.{IfOk-weaker}
use Rattle.plant_text.specs.Lines.{body_lines}
use Rattle.plant_grammar.specs.Steps.Lines.{ReaderValue}
use Rattle.warnings.specs.OfPlant.{BeginWithPlant, tokens_of}
use Rattle.warnings.proofs.WarnedBodies.{plant_told}
use Rattle.warnings.proofs.of_plant.warnings_of_a_plant.Goals as goal

pub returns-in-Ok : goal.returns-in-Ok
returns-in-Ok c =
    let tokens : c.new-reader.result.words ≡ tokens_of c.in_ok-words.words
    = ap (λ (r : ReaderValue). r.words) c.new-reader.ensures ∙ ap tokens_of c.words-2.ensures.value in
    let lines : c.new-reader.result.bodies ≡ body_lines c.in_ok-words.words
    = ap (λ (r : ReaderValue). r.bodies) c.new-reader.ensures ∙ ap body_lines c.words-2.ensures.value in
    let tree = c.in-Ok.ensures.ok in
    let begun : BeginWithPlant c.in_ok-words.words c.read_tree.new.texts.items c.in-Ok.resources.items = record {
      name = tree.name;
      rest = c.read_tree.new.reader.words;
      more = c.in-Ok.ensures.texts.more;
      written = sym tokens ∙ tree.written;
      lawful = tree.lawful;
      lines = sym lines ∙ c.in-Ok.ensures.texts.lines;
    } in
    IfOk-weaker c.tree_warnings.result _ _
    (plant_told c.args.time c.args.text.now c.in_ok-words.words c.read_tree.new.texts.items c.in-Ok.resources.items (record { spelled = c.in_ok-words.ensures.spelled; begun = c.in_ok-words.ensures.begun }) begun)
    (rw c.deref.ensures.value at c.tree_warnings.ensures)

pub returns : goal.returns
returns c =
    let tokens : c.new-reader.result.words ≡ tokens_of c.in_ok-words.words
    = ap (λ (r : ReaderValue). r.words) c.new-reader.ensures ∙ ap tokens_of c.words-2.ensures.value in
    record {
      words = c.in_ok-words.words;
      written = record { spelled = c.in_ok-words.ensures.spelled; begun = c.in_ok-words.ensures.begun };
      refused = inl (λ tree rest e lawful. c.in-Err.ensures.refused c.in_default.not-Memory tree rest (tokens ∙ e) lawful);
    }
