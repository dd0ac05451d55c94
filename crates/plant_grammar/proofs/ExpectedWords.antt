-- What is expected behind words, and where one of them can't stand.
use Rattle.std.proofs.Common.{◌≡◌, ◌≢◌, inl, inr, ℕ, List, [], ◌∷◌, ◌++◌, Option, Some, None, refl, sym, ap, subst, ◌∙◌, append_assoc}
use Rattle.plant_text.specs.declared.token.Token.{Token}
use Rattle.plant_grammar.specs.declared.grammar_fault.GrammarFault.{GrammarFault}
use Rattle.plant_grammar.specs.Steps.Lines.{ReaderValue, KeepsLines, next_line}
use Rattle.plant_grammar.specs.Steps.Declaring.{BeginWith}
use Rattle.plant_grammar.specs.Steps.Expected.{Expected, and_then, step, walk, EndsUnexpected, IsUnended, IsOnLine, IsStuck, GetsStuck}
use Rattle.plant_grammar.proofs.ReadLines.{line_before, line_last}

-- the step to the first of words
abbrev pub StepsOn : List Expected → Token → List Token → Option (List Expected) → Type 0
StepsOn es t more end = (new : List Expected) × (step es t ≡ Some new) × (walk new more ≡ end)

-- from where a word is walked
pub walked_first : (es : List Expected) (t : Token) (more : List Token) (fs : List Expected) → walk es (t ∷ more) ≡ Some fs → StepsOn es t more (Some fs)
unfolding walk
walked_first es t more fs e = go (step es t) refl e
  where
    go : (found : Option (List Expected)) → step es t ≡ found → and_then found (λ new. walk new more) ≡ Some fs → StepsOn es t more (Some fs)
    go None is e = cc (e)
    go (Some new) is e = (new, is, e)

-- a word is walked from there
pub walk_first : (es new : List Expected) (t : Token) (more : List Token) → step es t ≡ Some new → walk es (t ∷ more) ≡ walk new more
unfolding walk
walk_first es new t more is = ap (λ found. and_then found (λ gs. walk gs more)) is

walk_nothing : (es : List Expected) → walk es [] ≡ Some es
unfolding walk
walk_nothing es = refl

pub walk_none : (es fs : List Expected) → walk es [] ≡ Some fs → es ≡ fs
unfolding walk
walk_none es fs e = cc (e)

-- words behind words
pub walk_append : (es fs : List Expected) (read more : List Token) → walk es read ≡ Some fs → walk es (read ++ more) ≡ walk fs more
walk_append es fs [] more e = ap (λ gs. walk gs more) (walk_none es fs e)
walk_append es fs (t ∷ read) more e =
    let s = walked_first es t read fs e in
    walk_first es s.0 t (read ++ more) s.1 ∙ walk_append s.0 fs read more s.2

-- where a word can't stand behind words that can
pub unexpected_behind : (Known : List Token → Type 0) (es fs : List Expected) (read words : List Token) → walk es read ≡ Some fs → EndsUnexpected (λ w. Known (read ++ w)) fs words → EndsUnexpected Known es (read ++ words)
unexpected_behind Known es fs read words e s = record {
  before = read ++ s.before;
  word = s.word;
  parts = ap (λ ws. read ++ ws) s.parts ∙ sym (append_assoc read s.before (s.word ∷ []));
  expected = s.expected;
  walked = walk_append es fs read s.before e ∙ s.walked;
  more = s.more;
  unexpected = s.unexpected;
  known = s.known;
}

-- words were read, and behind them it is so
pub stuck_behind : (Known : List Token → Type 0) (es fs : List Expected) (read : List Token) (old new : ReaderValue) (line : ℕ) → old.words ≡ read ++ new.words → KeepsLines old new → walk es read ≡ Some fs → IsStuck (λ w. Known (read ++ w)) fs new line → IsStuck Known es old line
stuck_behind Known es fs read old new line e keeps w (inl (u, last)) =
    inl (record { expected = u.expected; walked = ap (walk es) e ∙ walk_append es fs read new.words w ∙ u.walked; more = u.more; known = subst Known (sym e) u.known }, λ all h. last all (keeps.0 all h) ∙ keeps.1)
stuck_behind Known es fs read old new line e keeps w (inr b) =
    inr (record {
      front = read ++ b.front;
      rest = b.rest;
      parts = e ∙ ap (λ ws. read ++ ws) b.parts ∙ sym (append_assoc read b.front b.rest);
      holds = unexpected_behind Known es fs read b.front w b.holds;
      behind = λ all h. b.behind all (keeps.0 all h);
    })

-- the next word can't stand where it does, or there is none
pub stuck_here : (Known : List Token → Type 0) → Known [] → (es : List Expected) (r : ReaderValue) (line : ℕ) → line ≡ next_line r → es ≢ [] → ((t : Token) (rest : List Token) → r.words ≡ t ∷ rest → step es t ≡ None) → IsStuck Known es r line
unfolding walk
stuck_here Known nothing es r line is some none = go r.words refl
  where
    go : (words : List Token) → r.words ≡ words → IsStuck Known es r line
    go [] e = inl (record { expected = es; walked = rw e refl; more = some; known = subst Known (sym e) nothing }, λ all h. line_last all r line h is e)
    go (t ∷ rest) e = inr (record {
      front = t ∷ [];
      rest = rest;
      parts = e;
      holds = record { before = []; word = t; parts = refl; expected = es; walked = refl; more = some; unexpected = none t rest e; known = nothing };
      behind = λ all h. line_before all r line h is t rest e;
    })

-- where the first word leads to the same from both
pub stuck_as : (Known : List Token → Type 0) (es fs : List Expected) (r : ReaderValue) (line : ℕ) → fs ≢ [] → ((t : Token) (rest : List Token) → r.words ≡ t ∷ rest → step es t ≡ step fs t) → IsStuck Known es r line → IsStuck Known fs r line
stuck_as Known es fs r line some same stuck = go r.words refl stuck
  where
    unended : (words : List Token) → r.words ≡ words → IsUnended Known es words → IsUnended Known fs words
    unended [] e u = record { expected = fs; walked = walk_nothing fs; more = some; known = u.known }
    unended (t ∷ rest) e u =
        let s = walked_first es t rest u.expected u.walked in
        record { expected = u.expected; walked = walk_first fs s.0 t rest (sym (same t rest e) ∙ s.1) ∙ s.2; more = u.more; known = u.known }

    unexpected_as : (words rest before : List Token) (word : Token) → r.words ≡ words ++ rest → words ≡ before ++ word ∷ [] → (expected : List Expected) → walk es before ≡ Some expected → expected ≢ [] → step expected word ≡ None → Known before → EndsUnexpected Known fs words
    unexpected_as words rest [] word e parts expected walked more unexpected known = record {
      before = [];
      word = word;
      parts = parts;
      expected = fs;
      walked = walk_nothing fs;
      more = some;
      unexpected = sym (same word rest (e ∙ ap (λ ws. ws ++ rest) parts)) ∙ ap (λ gs. step gs word) (walk_none es expected walked) ∙ unexpected;
      known = known;
    }
    unexpected_as words rest (t ∷ before) word e parts expected walked more unexpected known =
        let s = walked_first es t before expected walked in
        record {
          before = t ∷ before;
          word = word;
          parts = parts;
          expected = expected;
          walked = walk_first fs s.0 t before (sym (same t ((before ++ word ∷ []) ++ rest) (e ∙ ap (λ ws. ws ++ rest) parts)) ∙ s.1) ∙ s.2;
          more = more;
          unexpected = unexpected;
          known = known;
        }

    seen : BeginWith (IsOnLine r line) (EndsUnexpected Known es) r.words → BeginWith (IsOnLine r line) (EndsUnexpected Known fs) r.words
    seen b = record {
      front = b.front;
      rest = b.rest;
      parts = b.parts;
      holds = unexpected_as b.front b.rest b.holds.before b.holds.word b.parts b.holds.parts b.holds.expected b.holds.walked b.holds.more b.holds.unexpected b.holds.known;
      behind = b.behind;
    }

    go : (words : List Token) → r.words ≡ words → IsStuck Known es r line → IsStuck Known fs r line
    go words e (inl (un, last)) = inl (unended r.words refl un, last)
    go words e (inr b) = inr (seen b)

-- what follows from what is known of the words before it is known too
pub stuck_told : (Known Told : List Token → Type 0) (es : List Expected) (r : ReaderValue) (fault : GrammarFault) → ((w : List Token) → Told w → Known w) → GetsStuck Told es r fault → GetsStuck Known es r fault
stuck_told Known Told es r fault more stuck = λ syntax behind. go (es ++ behind) (stuck syntax behind)
  where
    go : (fs : List Expected) → IsStuck Told fs r fault.line → IsStuck Known fs r fault.line
    go fs (inl (u, last)) = inl (record { expected = u.expected; walked = u.walked; more = u.more; known = more r.words u.known }, last)
    go fs (inr b) =
        let h = b.holds in
        inr (record {
          front = b.front;
          rest = b.rest;
          parts = b.parts;
          holds = record { before = h.before; word = h.word; parts = h.parts; expected = h.expected; walked = h.walked; more = h.more; unexpected = h.unexpected; known = more h.before h.known };
          behind = b.behind;
        })
