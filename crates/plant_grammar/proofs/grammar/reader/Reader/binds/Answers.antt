use Rattle.std.proofs.Common.{◌≢◌, ◌+◌, ◌≤◌, List, length, map, refl, sym, ◌∙◌, arith, subst, ap, ◌≡◌, ◌∷◌, [], ◌++◌}
use Rattle.plant_grammar.specs.declared.grammar.tree.Bind.{Bind}
use Rattle.plant_grammar.specs.Steps.ReadParts.{TallyValue, EndWithBinds}
use Rattle.plant_grammar.proofs.Apart.{apart_more}
use Rattle.plant_grammar.specs.Kinds.{IsOfInputKind}
use Rattle.plant_grammar.specs.Lawful.{variables}
use Rattle.plant_grammar.proofs.WordLists.{binds_more, grown, all_more}
use Rattle.plant_grammar.proofs.ResourceLines.{bind_counted}
use Rattle.plant_grammar.specs.Steps.NamesRead.{RefusesOneBind, RefusesBind, IsNew}
use Rattle.plant_grammar.specs.Steps.Declaring.{BeginWith, BeginRefused, IsLineBefore}
use Rattle.lists.proofs.Results.{kept_fault}
use Rattle.plant_grammar.proofs.RefusedPlaces.{first_bind, next_bind}
use Rattle.std.proofs.lemmas.List.Elements.{All-nil}
use Rattle.plant_text.specs.declared.token.Token.{Token}
use Rattle.plant_grammar.specs.declared.grammar_fault.GrammarFaultKind.TheVariants.{Memory}
use Rattle.std.specs.Prelude.{All}
use Rattle.std.specs.Global.{Vec}
use Rattle.plant_grammar.specs.declared.grammar.tree.SourceLines.{SourceLines}
use Rattle.plant_text.specs.declared.token.Punctuation.TheVariants.{Close, Comma}
use Rattle.plant_grammar.specs.Grammar.{mark_word, with_commas}
use Rattle.plant_grammar.specs.Names.{AreNamesApart}
use Rattle.plant_grammar.specs.Steps.Lines.{ReaderValue, IsNotNext, syntax_at}
use Rattle.plant_grammar.proofs.LawfulResources.{first_bind_allowed, next_bind_allowed, close_allowed}
use Rattle.plant_grammar.specs.SourceLines.{AreBindsOn}
use Rattle.plant_grammar.proofs.PlacedSources.{binds_pushed, no_binds_on}
use Rattle.plant_grammar.specs.Steps.Expected.{AName, FirstBind, bind_rest, GetsStuck}
use Rattle.plant_grammar.proofs.WalkedResources.{stuck_in_first_bind, stuck_in_next_bind, stuck_behind_binds}
use Rattle.plant_grammar.specs.NameFaults.{judged_bind}
use Rattle.plant_grammar.specs.Steps.SoundWords.{Fits, BeginsSound, judged_in_parentheses}
use Rattle.plant_grammar.proofs.ExpectedWords.{stuck_told}
use Rattle.plant_grammar.proofs.SoundFronts.{binds_front, first_bind_begun, next_bind_begun}
use Rattle.plant_grammar.proofs.grammar.reader.Reader.binds.Goals as goal
use Rattle.plant_grammar.proofs.grammar.reader.Reader.binds.Goals.{then-not-sees_punctuation+in_ok-bind+in_ok-push+else-binds-test, else-not-sees_punctuation}

pub binds-preserved : goal.binds-preserved
binds-preserved c = record {
  left = (λ all h. c.in_ok-bind-2.ensures.left.0 all (c.in_ok-punctuation.ensures.left.0 all (c.binds.invariant.left.0 all h)), c.in_ok-bind-2.ensures.left.1 ∙ c.in_ok-punctuation.ensures.left.1 ∙ c.binds.invariant.left.1);
  some = omega (arith, grown c.binds.binds.items c.push-in-binds.new.self.items c.in_ok-bind-2.field-0 c.in_ok-push-2.ensures.items);
  words = binds_more c.binds.binds.items c.push-in-binds.new.self.items c.in_ok-bind-2.field-0 c.args.self.now.words c.binds.self.words c.punctuation.new.self.words c.bind-in-binds.new.self.words
      c.binds.invariant.some c.in_ok-push-2.ensures.items c.binds.invariant.words c.in_ok-punctuation.ensures.ok c.in_ok-bind-2.ensures.ok;
  lined = λ all h. let kept = c.in_ok-bind-2.ensures.lined in
      binds_pushed all c.binds.binds.items c.push-in-binds.new.self.items c.in_ok-bind-2.field-0 c.binds.lines.items c.bind-in-binds.new.lines.items kept.0 c.binds.self.words c.punctuation.new.self.words c.bind-in-binds.new.self.words
      c.in_ok-push-2.ensures.items kept.1 c.in_ok-punctuation.ensures.ok c.in_ok-bind-2.ensures.ok (c.binds.invariant.lined all h) (kept.2 all (c.in_ok-punctuation.ensures.left.0 all (c.binds.invariant.left.0 all h)));
  apart = apart_more (λ (b : Bind). b.input) c.binds.binds.items c.push-in-binds.new.self.items c.in_ok-bind-2.field-0 c.in_ok-push-2.ensures.items c.binds.invariant.apart
      (subst (λ bs. IsNew (λ (b : Bind). b.input) bs c.in_ok-bind-2.field-0.input) c.deref-in-binds.ensures.value c.in_ok-bind-2.ensures.new);
  kinds = all_more (IsOfInputKind (variables c.args.program.now.program)) c.binds.binds.items c.push-in-binds.new.self.items c.in_ok-bind-2.field-0 c.in_ok-push-2.ensures.items c.binds.invariant.kinds c.in_ok-bind-2.ensures.kind;
  tally = bind_counted c.binds.binds.items c.push-in-binds.new.self.items c.in_ok-bind-2.field-0 c.args.tally.now c.binds.tally c.bind-in-binds.new.tally c.in_ok-push-2.ensures.items c.binds.invariant.tally c.in_ok-bind-2.ensures.tally;
}

pub returns-in_err-bind-clause-names : goal.returns-in_err-bind-clause-names
returns-in_err-bind-clause-names c =
    let fault = c.in_err-bind.field-0.0 in
    let ds = variables c.args.program.now.program in
    kept_fault fault (BeginRefused (λ k. RefusesBind k c.args.tally.now.binds ds) c.args.self.now) c.from_residual.result c.from_residual.ensures.1
    (λ all h of. first_bind fault.kind c.args.tally.now.binds ds c.args.self.now.words c.binds-bound.ensures.few
    (subst (λ (bs : List Bind). BeginWith (IsLineBefore all fault.line) (RefusesOneBind c.args.tally.now.binds ds bs fault.kind) c.args.self.now.words) (c.deref.ensures.value ∙ c.new-binds.ensures.items) (c.in_err-bind.ensures.names all h of)))

pub returns-in_err-bind-2-clause-names : goal.returns-in_err-bind-2-clause-names
returns-in_err-bind-2-clause-names c =
    let fault = c.in_err-bind-2.field-0.0 in
    let ds = variables c.args.program.now.program in
    kept_fault fault (BeginRefused (λ k. RefusesBind k c.args.tally.now.binds ds) c.args.self.now) c.from_residual-in_err-bind-2.result c.from_residual-in_err-bind-2.ensures.1
    (λ all h of. next_bind fault.kind c.binds.tally.binds c.args.tally.now.binds ds c.binds.binds.items c.args.self.now.words c.binds.self.words c.punctuation.new.self.words c.binds.invariant.some c.binds.invariant.words c.in_ok-punctuation.ensures.ok
    (ap (λ (t : TallyValue). t.binds) c.binds.invariant.tally)
    (record {
      apart = c.binds.invariant.apart;
      kinds = c.binds.invariant.kinds;
      few = subst (λ (t : TallyValue). t.binds ≤ 4096) c.binds.invariant.tally c.binds-bound-in-binds.ensures.few;
    })
    (subst (λ (bs : List Bind). BeginWith (IsLineBefore all fault.line) (RefusesOneBind c.binds.tally.binds ds bs fault.kind) c.punctuation.new.self.words) c.deref-in-binds.ensures.value (c.in_err-bind-2.ensures.names all (c.in_ok-punctuation.ensures.left.0 all (c.binds.invariant.left.0 all h)) of)))

pub returns-clause-kinds : goal.returns-clause-kinds
returns-clause-kinds c = elim c.if-not-sees_punctuation.branch [
  | then-not-sees_punctuation+in_ok-bind+in_ok-push+else-binds-test w ↦ rw w.binds-is w.binds.invariant.kinds
  | else-not-sees_punctuation w ↦ rw (w.binds-is, c.new-binds.ensures.items) (All-nil (IsOfInputKind (variables c.args.program.now.program)))
]

pub returns-in_err-bind-clause-other : goal.returns-in_err-bind-clause-other
returns-in_err-bind-clause-other c =
    let fault = c.in_err-bind.field-0.0 in
    kept_fault fault (λ f. f.kind ≢ Memory → (bs : List Bind) (rest : List Token) → EndWithBinds bs c.args.self.now.words rest → AreNamesApart (map (λ (b : Bind). b.input) bs) → All (IsOfInputKind (variables c.args.program.now.program)) bs → c.args.tally.now.binds + length bs ≤ 4096 → ⊥) c.from_residual.result c.from_residual.ensures.1
    (λ known bs rest e apart kinds few. first_bind_allowed (variables c.args.program.now.program) c.args.tally.now.binds bs c.args.self.now.words rest e (c.if-not-sees_punctuation.ensures.no refl) apart kinds few
    (rw (c.deref.ensures.value ∙ c.new-binds.ensures.items) at (c.in_err-bind.ensures.other known)))

pub returns-in_err-bind-2-clause-other : goal.returns-in_err-bind-2-clause-other
returns-in_err-bind-2-clause-other c =
    let fault = c.in_err-bind-2.field-0.0 in
    kept_fault fault (λ f. f.kind ≢ Memory → (bs : List Bind) (rest : List Token) → EndWithBinds bs c.args.self.now.words rest → AreNamesApart (map (λ (b : Bind). b.input) bs) → All (IsOfInputKind (variables c.args.program.now.program)) bs → c.args.tally.now.binds + length bs ≤ 4096 → ⊥) c.from_residual-in_err-bind-2.result c.from_residual-in_err-bind-2.ensures.1
    (λ known bs rest e apart kinds few. next_bind_allowed (variables c.args.program.now.program) c.binds.tally.binds c.args.tally.now.binds c.binds.binds.items bs c.args.self.now.words c.binds.self.words c.punctuation.new.self.words rest
    c.binds.invariant.some c.binds.invariant.words c.in_ok-punctuation.ensures.ok (ap (λ (t : TallyValue). t.binds) c.binds.invariant.tally) e apart kinds few
    (rw c.deref-in-binds.ensures.value at (c.in_err-bind-2.ensures.other known)))

pub returns-in_err-punctuation-2-clause-other : goal.returns-in_err-punctuation-2-clause-other
returns-in_err-punctuation-2-clause-other c =
    let fault = c.in_err-punctuation-2.field-0.0 in
    kept_fault fault (λ f. f.kind ≢ Memory → (bs : List Bind) (rest : List Token) → EndWithBinds bs c.args.self.now.words rest → AreNamesApart (map (λ (b : Bind). b.input) bs) → All (IsOfInputKind (variables c.args.program.now.program)) bs → c.args.tally.now.binds + length bs ≤ 4096 → ⊥) c.from_residual-in_err-punctuation-2.result c.from_residual-in_err-punctuation-2.ensures.1
    (λ known bs rest e apart kinds few. elim c.if-not-sees_punctuation.branch [
      | then-not-sees_punctuation+in_ok-bind+in_ok-push+else-binds-test w ↦ close_allowed w.binds.binds.items bs c.args.self.now.words w.binds.self.words rest w.binds.invariant.some w.binds.invariant.words (w.binds-test.ensures.no refl) e
          (subst (λ (r : ReaderValue). IsNotNext (mark_word Close) r.words) w.self-is c.in_err-punctuation-2.ensures.other)
      | else-not-sees_punctuation w ↦ let next = w.if-not-sees_punctuation.ensures.yes refl in
          (subst (λ (r : ReaderValue). IsNotNext (mark_word Close) r.words) w.self-is c.in_err-punctuation-2.ensures.other) next.0 next.1
    ])

pub returns-clause-lined : goal.returns-clause-lined
returns-clause-lined c = λ all h. elim c.if-not-sees_punctuation.branch [
  | then-not-sees_punctuation+in_ok-bind+in_ok-push+else-binds-test w ↦ subst (AreBindsOn all _ _) (ap (λ (r : ReaderValue). r.words) (sym w.self-is) ∙ c.in_ok-punctuation-2.ensures.ok) (rw (w.binds-is, w.lines-is) (w.binds.invariant.lined all h))
  | else-not-sees_punctuation w ↦ no_binds_on all _ _ _ (ap (λ (v : Vec Bind). v.items) w.binds-is ∙ c.new-binds.ensures.items) (ap (λ (v : Vec SourceLines). v.items) w.lines-is ∙ c.requires)
]

pub returns-in_err-bind-clause-stuck : goal.returns-in_err-bind-clause-stuck
returns-in_err-bind-clause-stuck c =
    let fault = c.in_err-bind.field-0.0 in
    let ds = variables c.args.program.now.program in
    let m = c.args.tally.now.binds in
    let Known : List Token → Type 0 = BeginsSound (judged_in_parentheses ds m) Fits in
    kept_fault fault (GetsStuck Known (FirstBind ∷ []) c.args.self.now) c.from_residual.result c.from_residual.ensures.1
    (stuck_in_first_bind Known c.args.self.now fault (c.if-not-sees_punctuation.ensures.no refl)
    (stuck_told Known (BeginsSound (judged_bind ds m c.deref.result.now) (λ (b : Bind). Unit {0})) (AName ∷ bind_rest) c.args.self.now fault
    (λ w b. first_bind_begun ds m w c.binds-bound.ensures.few (subst (λ (bs : List Bind). BeginsSound (judged_bind ds m bs) (λ (b : Bind). Unit {0}) w) (c.deref.ensures.value ∙ c.new-binds.ensures.items) b)) c.in_err-bind.ensures.stuck))

pub returns-in_err-bind-2-clause-stuck : goal.returns-in_err-bind-2-clause-stuck
returns-in_err-bind-2-clause-stuck c =
    let fault = c.in_err-bind-2.field-0.0 in
    let ds = variables c.args.program.now.program in
    let m = c.args.tally.now.binds in
    let Known : List Token → Type 0 = BeginsSound (judged_in_parentheses ds m) Fits in
    kept_fault fault (GetsStuck Known (FirstBind ∷ []) c.args.self.now) c.from_residual-in_err-bind-2.result c.from_residual-in_err-bind-2.ensures.1
    (stuck_in_next_bind Known c.binds.binds.items c.args.self.now c.binds.self c.punctuation.new.self fault c.binds.invariant.some c.binds.invariant.words c.binds.invariant.left
    c.in_ok-punctuation.ensures.ok c.in_ok-punctuation.ensures.left
    (stuck_told (λ w. Known (with_commas c.binds.binds.items ++ mark_word Comma ∷ w)) (BeginsSound (judged_bind ds c.binds.tally.binds c.deref-in-binds.result.now) (λ (b : Bind). Unit {0})) (AName ∷ bind_rest) c.punctuation.new.self fault
    (λ w b. next_bind_begun ds c.binds.tally.binds m c.binds.binds.items w c.binds.invariant.some (ap (λ (t : TallyValue). t.binds) c.binds.invariant.tally) (record { apart = c.binds.invariant.apart; kinds = c.binds.invariant.kinds; few = subst (λ (t : TallyValue). t.binds ≤ 4096) c.binds.invariant.tally c.binds-bound-in-binds.ensures.few }) (subst (λ (bs : List Bind). BeginsSound (judged_bind ds c.binds.tally.binds bs) (λ (b : Bind). Unit {0}) w) c.deref-in-binds.ensures.value b))
    c.in_err-bind-2.ensures.stuck))

pub returns-in_err-punctuation-2-clause-stuck : goal.returns-in_err-punctuation-2-clause-stuck
returns-in_err-punctuation-2-clause-stuck c =
    let fault = c.in_err-punctuation-2.field-0.0 in
    let ds = variables c.args.program.now.program in
    let m = c.args.tally.now.binds in
    let Known : List Token → Type 0 = BeginsSound (judged_in_parentheses ds m) Fits in
    kept_fault fault (GetsStuck Known (FirstBind ∷ []) c.args.self.now) c.from_residual-in_err-punctuation-2.result c.from_residual-in_err-punctuation-2.ensures.1
    (elim c.if-not-sees_punctuation.branch [
      | then-not-sees_punctuation+in_ok-bind+in_ok-push+else-binds-test w ↦ stuck_behind_binds Known w.binds.binds.items
          (binds_front ds m w.binds.binds.items (omega (arith, subst (λ (t : TallyValue). t.binds ≤ 4096) (w.tally-is ∙ w.binds.invariant.tally) c.binds-all.ensures.few))
          (record { apart = w.binds.invariant.apart; kinds = w.binds.invariant.kinds; few = subst (λ (t : TallyValue). t.binds ≤ 4096) (w.tally-is ∙ w.binds.invariant.tally) c.binds-all.ensures.few })) c.args.self.now w.binds.self fault w.binds.invariant.some w.binds.invariant.words w.binds.invariant.left
          (subst (λ (r : ReaderValue). fault ≡ syntax_at r) w.self-is c.in_err-punctuation-2.ensures.err.0) (w.binds-test.ensures.no refl)
          (subst (λ (r : ReaderValue). IsNotNext (mark_word Close) r.words) w.self-is c.in_err-punctuation-2.ensures.other)
      | else-not-sees_punctuation w ↦ let next = w.if-not-sees_punctuation.ensures.yes refl in
          absurd ((subst (λ (r : ReaderValue). IsNotNext (mark_word Close) r.words) w.self-is c.in_err-punctuation-2.ensures.other) next.0 next.1)
    ])
