use Rattle.std.proofs.Common.{◌≡◌, [], ◌∷◌, ◌++◌, string_bytes, ap, ◌∙◌, sym, subst}
use Rattle.std.specs.Prelude.{true}
use Rattle.std.specs.BTreeSet.{contains_text}
use Rattle.std.proofs.lemmas.Map.Text.{btree_set_updates_text}
use Rattle.warnings.specs.Found.{small}
use Rattle.warnings.specs.Steps.NameSets.{AnswerAsSmall}
use Rattle.warnings.proofs.SameNames.{answers_more, seen_before, small_more}
use Rattle.warnings.proofs.small_names.push_small.Goals as goal

pub returns-then-contains : goal.returns-then-contains
returns-then-contains c = λ names are answers.
    let seen = c.args.seen.now in
    let name = c.args.name.now in
    let key : c.as_str.result.now ≡ small name = c.as_str.ensures.value ∙ c.in_ok-letters.ensures in
    seen_before names c.args.all.now.items name seen (ap (contains_text seen) (sym key) ∙ sym c.contains.ensures ∙ c.if-contains.true) are answers

pub returns : goal.returns
returns c = λ names are answers.
    let all = c.args.all.now.items in
    let name = c.args.name.now in
    let key = string_bytes c.in_ok-letters.letters in
    let pushed : c.push.new.self.items ≡ all ++ small name ∷ [] = c.in_ok-push.ensures.items ∙ ap (λ s. all ++ s ∷ []) c.in_ok-of.ensures in (
      small_more names name key c.args.seen.now c.insert.new.self c.in_ok-letters.ensures are
          (btree_set_updates_text key c.args.seen.now c.insert.new.self true c.in_ok-insert.ensures.updates),
      subst (λ xs. AnswerAsSmall (names ++ name ∷ []) xs) (sym pushed) (answers_more names all name answers),
    )
