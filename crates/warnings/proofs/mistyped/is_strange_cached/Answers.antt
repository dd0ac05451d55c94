use Rattle.std.proofs.Common.{◌≡◌, ℕ, Bool, true, false, cond, List, String, Global, string_bytes, refl, sym, ap, ◌∙◌}
use Rattle.std.specs.BTreeSet.{BTreeSet, contains_text}
use Rattle.std.specs.Str.{bytes_eq}
use Rattle.std.proofs.lemmas.Map.Text.{btree_set_updates_text}
use Rattle.std.proofs.lemmas.Slice.Eq.{bytes_eq-Decides}
use Rattle.warnings.specs.Steps.NameSets.{is_strange, ArePlain}
use Rattle.warnings.proofs.mistyped.is_strange_cached.Goals as goal

-- one plain name more
plain_more : (stored : BTreeSet (String Global)) (names : List (List ℕ)) (old new : BTreeSet (String Global)) (key : List ℕ) → is_strange stored names key ≡ false → ArePlain stored names old
    → ((q : List ℕ) → contains_text new q ≡ cond (bytes_eq key q) true (contains_text old q)) → ArePlain stored names new
plain_more stored names old new key not_strange are sets q h = by (bytes_eq key q) refl
  where
    by : (b : Bool) → bytes_eq key q ≡ b → is_strange stored names q ≡ false
    by true e = ap (is_strange stored names) (sym ((bytes_eq-Decides key q).0 e)) ∙ not_strange
    by false e = are q (sym (sets q ∙ ap (λ b. cond b true (contains_text old q)) e) ∙ h)

pub returns-clause-plain : goal.returns-clause-plain
returns-clause-plain c = λ plain.
    let stored = c.args.stored.now in
    let names = c.args.names.now in
    let key = string_bytes c.into_letters.result in
    let not_strange : is_strange stored names key ≡ false
    = ap (is_strange stored names) c.into_letters.ensures ∙ sym c.is_strange.ensures ∙ c.if-is_strange.false in
    plain_more stored names c.args.plain.now c.insert.new.self key not_strange plain
    (btree_set_updates_text key c.args.plain.now c.insert.new.self true c.in_ok-insert.ensures.updates)
