use Rattle.std.proofs.Common.{ℕ, ◌+◌, ◌-◌, ◌≡◌, ◌∙◌, true, ap, sym, subst, arith, inl, inr}
use Rattle.std.proofs.lemmas.Bool.{cases_lt}
use Rattle.ladder_rows.specs.Rows.{Rows, width}
use Rattle.ladder_text.specs.Places.{layout_of}
use Rattle.ladder_text.specs.Names.{in_word}
use Rattle.ladder_text.proofs.Words.RowWords.{word_within}
use Rattle.ladder_text.proofs.names.spans.word_rest.Goals as goal

pub returns-else-goes_on_with-clause-rest : goal.returns-else-goes_on_with-clause-rest
returns-else-goes_on_with-clause-rest c =
    let a = c.args in
    let wide = ap (λ (e : Rows). width e) c.grid-grid.ensures in
    sym (c.runs_end.ensures (in_word (layout_of a.marked.now) a.row) (a.column + 1) c.loop-n.n (width a.marked.now) (omega (arith, wide)) c.loop-n.invariant.1 (λ k. sym c.goes_on_with.ensures ∙ c.if-goes_on_with.false))

pub returns-else-goes_on_with-clause-within : goal.returns-else-goes_on_with-clause-within
unfolding layout_of
returns-else-goes_on_with-clause-within c = λ inside. word_within (layout_of c.args.marked.now) c.args.row c.args.column c.loop-n.n inside c.loop-n.invariant.1

pub returns-after-loop-n-clause-rest : goal.returns-after-loop-n-clause-rest
returns-after-loop-n-clause-rest c =
    let a = c.args in
    let wide = ap (λ (e : Rows). width e) c.grid-grid.ensures in
    sym (c.runs_end.ensures (in_word (layout_of a.marked.now) a.row) (a.column + 1) c.loop-n.n (width a.marked.now) (omega (arith, wide)) c.loop-n.invariant.1 (λ k. absurd (omega (arith, wide))))

pub returns-after-loop-n-clause-within : goal.returns-after-loop-n-clause-within
unfolding layout_of
returns-after-loop-n-clause-within c = λ inside. word_within (layout_of c.args.marked.now) c.args.row c.args.column c.loop-n.n inside c.loop-n.invariant.1

pub goes_on_with-requires-clause-before : goal.goes_on_with-requires-clause-before
goes_on_with-requires-clause-before c =
    let p = layout_of c.args.marked.now in
    elim (cases_lt 0 c.loop-n.n) [
      | inl h ↦
          let e : c.args.column + 1 + (c.loop-n.n - 1) ≡ c.args.column + 1 + c.loop-n.n - 1 = omega arith in
          subst (λ (k : ℕ). in_word p c.args.row k ≡ true) e (c.loop-n.invariant.1 (c.loop-n.n - 1) (omega arith))
      | inr h ↦
          let e : c.args.column ≡ c.args.column + 1 + c.loop-n.n - 1 = omega arith in
          subst (λ (k : ℕ). in_word p c.args.row k ≡ true) e c.requires.inside
    ]
