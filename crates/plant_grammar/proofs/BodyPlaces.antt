-- Where a body is due, one is expected, or a block of variables.
use Rattle.std.proofs.Common.{◌≡◌, ◌⊎◌, ◌||◌, inl, inr, ℕ, Bool, true, false, List, [], ◌∷◌, ◌++◌, Option, Some, None, refl, sym, ap, subst, ◌∙◌}
use Rattle.std.specs.List.{list_all}
use Rattle.std.proofs.lemmas.Bool.{and_parts, and_from, cases_Bool}
use Rattle.plant_text.specs.declared.token.Token.{Token}
use Rattle.plant_text.specs.declared.token.Token.TheVariants as token
use Rattle.plant_text.specs.declared.token.Keyword.TheVariants as key
use Rattle.plant_text.specs.declared.token.Punctuation.{Punctuation}
use Rattle.plant_text.specs.declared.token.Punctuation.TheVariants as mark
use Rattle.plant_text.specs.declared.lexer.Stage.{Stage}
use Rattle.plant_text.specs.declared.lexer.Stage.TheVariants as stage
use Rattle.plant_text.specs.Places.{is_due, stage_after, stage_after_all, is_body_due, may_be_due}
use Rattle.plant_grammar.specs.Steps.Expected.{Expected, Key, Mark, AName, ABody, ADuration, ANumber, AType, ASection, ASource, AnItem, MayRetain, MayHaveBinds, TheSettings, FirstBind, MorePrograms, MoreBlocks, MoreLists, MoreNames, MoreBinds, MoreItems, MoreResources, is_key, is_mark, is_name, is_number, is_address, is_block_type, is_interval, where_so, program_rest, list_rest, interval_rest, priority_rest, bind_rest, task_rest, instance_rest, resource_rest, begun, may_end, step, walk, whole_plant}
use Rattle.plant_grammar.proofs.ExpectedWords.{walked_first, walk_none}
use Rattle.plant_grammar.proofs.FirstWords.{stepped, by_test, no_other}

-- what is expected where a body is due
abbrev pub due_expected : List Expected
due_expected = MoreBlocks ∷ ABody ∷ Key key.EndProgram ∷ whole_plant

-- what is expected in a block of variables
abbrev InBlock : List Expected → Type 0
InBlock [] = ⊥
InBlock (MoreLists ∷ es) = es ≡ due_expected
InBlock (AName ∷ es) = InBlock es
InBlock (MoreNames ∷ es) = InBlock es
InBlock (Mark p ∷ es) = InBlock es
InBlock (AType ∷ es) = InBlock es
InBlock (MayRetain ∷ es) = InBlock es
InBlock (e ∷ es) = ⊥

-- it begins with no body, whatever was read of it
abbrev is_settled : Expected → Bool
is_settled ABody = false
is_settled MorePrograms = false
is_settled MoreBlocks = false
is_settled e = true

abbrev AreSettled : List Expected → Type 0
AreSettled es = list_all is_settled es ≡ true

-- what is expected where the next word stands so
abbrev Fits : Stage → List Expected → Type 0
Fits stage.Outside es = (es ≡ whole_plant) ⊎ (es ≡ Key key.EndProgram ∷ whole_plant)
Fits stage.Heading es = es ≡ program_rest ++ whole_plant
Fits stage.Blocks es = InBlock es
Fits stage.BodyDue es = es ≡ due_expected
Fits stage.Configuration es = AreSettled es

-- behind a word between programs
outside : (t : Token) (new : List Expected) → step whole_plant t ≡ Some new → Fits (stage_after stage.Outside t) new
unfolding step begun may_end
outside (token.Keyword key.Program) new e = let same : program_rest ++ whole_plant ≡ new = cc (e) in sym same
outside (token.Keyword key.Configuration) new e =
    let same : AName ∷ Key key.Resource ∷ resource_rest ++ MoreResources ∷ [] ≡ new = cc (e) in
    subst AreSettled same refl
outside _ new e = absurd cc

-- behind a body
behind_body : (t : Token) (new : List Expected) → step (Key key.EndProgram ∷ whole_plant) t ≡ Some new → Fits (stage_after stage.Outside t) new
unfolding step begun may_end
behind_body (token.Keyword key.EndProgram) new e = let same : whole_plant ≡ new = cc (e) in inl (sym same)
behind_body _ new e = absurd cc

-- behind PROGRAM
heading : (t : Token) (new : List Expected) → step (program_rest ++ whole_plant) t ≡ Some new → Fits (stage_after stage.Heading t) new
unfolding step begun may_end
heading (token.Name n) new e = let same : due_expected ≡ new = cc (e) in sym same
heading _ new e = absurd cc

-- where a body is due
at_body : (t : Token) (new : List Expected) → step due_expected t ≡ Some new → Fits (stage_after stage.BodyDue t) new
unfolding step begun may_end
at_body (token.Body b) new e = let same : Key key.EndProgram ∷ whole_plant ≡ new = cc (e) in inr (sym same)
at_body (token.Keyword key.VarInput) new e = let same : MoreLists ∷ due_expected ≡ new = cc (e) in subst InBlock same refl
at_body (token.Keyword key.VarOutput) new e = let same : MoreLists ∷ due_expected ≡ new = cc (e) in subst InBlock same refl
at_body (token.Keyword key.Var) new e = let same : MayRetain ∷ MoreLists ∷ due_expected ≡ new = cc (e) in subst InBlock same refl
at_body _ new e = absurd cc

-- in a block
at_lists : (es : List Expected) (t : Token) (new : List Expected) → es ≡ due_expected → step (MoreLists ∷ es) t ≡ Some new → Fits (stage_after stage.Blocks t) new
unfolding step begun may_end
at_lists es (token.Keyword key.EndVar) new h e = let same : es ≡ new = cc (e) in sym same ∙ h
at_lists es (token.Name n) new h e = let same : list_rest ++ MoreLists ∷ es ≡ new = cc (e) in subst InBlock same h
at_lists es _ new h e = absurd cc

at_name : (es : List Expected) (t : Token) (new : List Expected) → InBlock es → step (AName ∷ es) t ≡ Some new → Fits (stage_after stage.Blocks t) new
unfolding step begun may_end
at_name es (token.Name n) new h e = let same : es ≡ new = cc (e) in subst InBlock same h
at_name es _ new h e = absurd cc

at_type : (es : List Expected) (t : Token) (new : List Expected) → InBlock es → step (AType ∷ es) t ≡ Some new → Fits (stage_after stage.Blocks t) new
unfolding step begun may_end
at_type es (token.Block b) new h e = let same : es ≡ new = cc (e) in subst InBlock same h
at_type es (token.Keyword key.Int) new h e = let same : es ≡ new = cc (e) in subst InBlock same h
at_type es (token.Keyword key.Time) new h e = let same : es ≡ new = cc (e) in subst InBlock same h
at_type es (token.Keyword key.Bool) new h e = let same : es ≡ new = cc (e) in subst InBlock same h
at_type es _ new h e = absurd cc

-- a mark, a comma or RETAIN
mark_begun : (p : Punctuation) (es : List Expected) (t : Token) (front : List Expected) → InBlock es → begun (Mark p) t ≡ Some front → Fits (stage_after stage.Blocks t) (front ++ es)
unfolding begun
mark_begun p es (token.Punctuation q) front h b = by_test (is_mark p (token.Punctuation q)) [] None front b (λ t same. subst (λ fs. InBlock (fs ++ es)) same h) (no_other front)
mark_begun p es _ front h b = absurd cc

comma_begun : (es : List Expected) (t : Token) (front : List Expected) → InBlock es → begun MoreNames t ≡ Some front → Fits (stage_after stage.Blocks t) (front ++ es)
unfolding begun
comma_begun es (token.Punctuation q) front h b = by_test (is_mark mark.Comma (token.Punctuation q)) (AName ∷ MoreNames ∷ []) None front b (λ t same. subst (λ fs. InBlock (fs ++ es)) same h) (no_other front)
comma_begun es _ front h b = absurd cc

retain_begun : (es : List Expected) (t : Token) (front : List Expected) → InBlock es → begun MayRetain t ≡ Some front → Fits (stage_after stage.Blocks t) (front ++ es)
unfolding begun
retain_begun es (token.Keyword key.Retain) front h b = let same : [] ≡ front = cc (b) in subst (λ fs. InBlock (fs ++ es)) same h
retain_begun es _ front h b = absurd cc

mark_must : (p : Punctuation) → may_end (Mark p) ≡ true → ⊥
unfolding may_end
mark_must p e = cc (e)

-- whatever the first word is, where something is expected first
first_is : (e : Expected) (es : List Expected) (t : Token) (new : List Expected) → step (e ∷ es) t ≡ Some new → ((front : List Expected) → begun e t ≡ Some front → Fits (stage_after stage.Blocks t) (front ++ es))
    → (may_end e ≡ true → step es t ≡ Some new → Fits (stage_after stage.Blocks t) new) → Fits (stage_after stage.Blocks t) new
first_is e es t new is first skip = elim (stepped e es t new is) [
  | inl found ↦ subst (λ fs. Fits (stage_after stage.Blocks t) fs) found.2 (first found.0 found.1)
  | inr left ↦ skip left.0 left.1
]

in_block : (es : List Expected) (t : Token) (new : List Expected) → InBlock es → step es t ≡ Some new → Fits (stage_after stage.Blocks t) new
in_block [] t new h e = absurd h
in_block (MoreLists ∷ es) t new h e = at_lists es t new h e
in_block (AName ∷ es) t new h e = at_name es t new h e
in_block (AType ∷ es) t new h e = at_type es t new h e
in_block (Mark p ∷ es) t new h e = first_is (Mark p) es t new e (λ front b. mark_begun p es t front h b) (λ may s. absurd (mark_must p may))
in_block (MoreNames ∷ es) t new h e = first_is MoreNames es t new e (λ front b. comma_begun es t front h b) (λ may s. in_block es t new h s)
in_block (MayRetain ∷ es) t new h e = first_is MayRetain es t new e (λ front b. retain_begun es t front h b) (λ may s. in_block es t new h s)
in_block (e ∷ es) t new h is = absurd h

-- what a test leads to
leads : (b : Bool) (this : List Expected) (other : Option (List Expected)) (front : List Expected) → where_so b this other ≡ Some front → AreSettled this → (other ≡ Some front → AreSettled front) → AreSettled front
leads b this other front is h k = by_test b this other front is (λ t same. subst AreSettled same h) k

-- a configuration has no body
begun_settled : (e : Expected) (t : Token) (front : List Expected) → is_settled e ≡ true → begun e t ≡ Some front → AreSettled front
unfolding begun
begun_settled (Key k) t f s is = leads (is_key k t) [] None f is refl (no_other f)
begun_settled (Mark p) t f s is = leads (is_mark p t) [] None f is refl (no_other f)
begun_settled AName t f s is = leads (is_name t) [] None f is refl (no_other f)
begun_settled ABody t f s is = absurd cc
begun_settled ADuration t f s is = leads (is_interval t) [] None f is refl (no_other f)
begun_settled ANumber t f s is = leads (is_number t) [] None f is refl (no_other f)
begun_settled AType t f s is = leads (is_block_type t || (is_key key.Int t || (is_key key.Time t || is_key key.Bool t))) [] None f is refl (no_other f)
begun_settled ASection t f s is =
    leads (is_key key.VarInput t || is_key key.VarOutput t) [] (where_so (is_key key.Var t) (MayRetain ∷ []) None) f is refl (λ o. leads (is_key key.Var t) (MayRetain ∷ []) None f o refl (no_other f))
begun_settled ASource t f s is =
    leads (is_address t) [] (where_so (is_name t) (Mark mark.Dot ∷ AName ∷ Mark mark.Dot ∷ AName ∷ []) None) f is refl (λ o. leads (is_name t) (Mark mark.Dot ∷ AName ∷ Mark mark.Dot ∷ AName ∷ []) None f o refl (no_other f))
begun_settled AnItem t f s is = leads (is_key key.Task t) task_rest (where_so (is_key key.Program t) instance_rest None) f is refl (λ o. leads (is_key key.Program t) instance_rest None f o refl (no_other f))
begun_settled MayRetain t f s is = leads (is_key key.Retain t) [] None f is refl (no_other f)
begun_settled MayHaveBinds t f s is = leads (is_mark mark.Open t) (FirstBind ∷ []) None f is refl (no_other f)
begun_settled TheSettings t f s is =
    leads (is_key key.Interval t) (interval_rest ++ Mark mark.Comma ∷ Key key.Priority ∷ priority_rest) (where_so (is_key key.Priority t) (priority_rest ++ Mark mark.Comma ∷ Key key.Interval ∷ interval_rest) None) f is refl
    (λ o. leads (is_key key.Priority t) (priority_rest ++ Mark mark.Comma ∷ Key key.Interval ∷ interval_rest) None f o refl (no_other f))
begun_settled FirstBind t f s is = leads (is_mark mark.Close t) [] (where_so (is_name t) (bind_rest ++ MoreBinds ∷ []) None) f is refl (λ o. leads (is_name t) (bind_rest ++ MoreBinds ∷ []) None f o refl (no_other f))
begun_settled MorePrograms t f s is = absurd cc
begun_settled MoreBlocks t f s is = absurd cc
begun_settled MoreLists t f s is = leads (is_key key.EndVar t) [] (where_so (is_name t) (list_rest ++ MoreLists ∷ []) None) f is refl (λ o. leads (is_name t) (list_rest ++ MoreLists ∷ []) None f o refl (no_other f))
begun_settled MoreNames t f s is = leads (is_mark mark.Comma t) (AName ∷ MoreNames ∷ []) None f is refl (no_other f)
begun_settled MoreBinds t f s is = leads (is_mark mark.Comma t) (AName ∷ bind_rest ++ MoreBinds ∷ []) (where_so (is_mark mark.Close t) [] None) f is refl (λ o. leads (is_mark mark.Close t) [] None f o refl (no_other f))
begun_settled MoreItems t f s is =
    leads (is_key key.EndResource t) [] (where_so (is_key key.Task t) (task_rest ++ MoreItems ∷ []) (where_so (is_key key.Program t) (instance_rest ++ MoreItems ∷ []) None)) f is refl
    (λ o. leads (is_key key.Task t) (task_rest ++ MoreItems ∷ []) (where_so (is_key key.Program t) (instance_rest ++ MoreItems ∷ []) None) f o refl (λ p. leads (is_key key.Program t) (instance_rest ++ MoreItems ∷ []) None f p refl (no_other f)))
begun_settled MoreResources t f s is =
    leads (is_key key.EndConfiguration t) [] (where_so (is_key key.Resource t) (resource_rest ++ MoreResources ∷ []) None) f is refl (λ o. leads (is_key key.Resource t) (resource_rest ++ MoreResources ∷ []) None f o refl (no_other f))

-- nor does a body begin any of it
no_body_begins : (e : Expected) (b : List ℕ) (front : List Expected) → is_settled e ≡ true → begun e (token.Body b) ≡ Some front → ⊥
unfolding begun
no_body_begins ABody b front s is = cc (s)
no_body_begins MorePrograms b front s is = cc (s)
no_body_begins MoreBlocks b front s is = cc (s)
no_body_begins _ b front s is = cc (is)

settled_both : (xs ys : List Expected) → AreSettled xs → AreSettled ys → AreSettled (xs ++ ys)
settled_both [] ys h k = k
settled_both (x ∷ xs) ys h k = let p = and_parts (is_settled x) (list_all is_settled xs) h in and_from (is_settled x) (list_all is_settled (xs ++ ys)) p.0 (settled_both xs ys p.1 k)

step_none : (t : Token) (new : List Expected) → step [] t ≡ Some new → ⊥
unfolding step
step_none t new e = cc (e)

step_settled : (es : List Expected) (t : Token) (new : List Expected) → AreSettled es → step es t ≡ Some new → AreSettled new
step_settled [] t new h e = absurd (step_none t new e)
step_settled (x ∷ es) t new h e =
    let p = and_parts (is_settled x) (list_all is_settled es) h in
    elim (stepped x es t new e) [
      | inl found ↦ subst AreSettled found.2 (settled_both found.0 es (begun_settled x t found.0 p.0 found.1) p.1)
      | inr left ↦ step_settled es t new p.1 left.1
    ]

no_body_steps : (es : List Expected) (b : List ℕ) (new : List Expected) → AreSettled es → step es (token.Body b) ≡ Some new → ⊥
no_body_steps [] b new h e = step_none (token.Body b) new e
no_body_steps (x ∷ es) b new h e =
    let p = and_parts (is_settled x) (list_all is_settled es) h in
    elim (stepped x es (token.Body b) new e) [
      | inl found ↦ no_body_begins x b found.0 p.0 found.1
      | inr left ↦ no_body_steps es b new p.1 left.1
    ]

configuration : (es : List Expected) (t : Token) (new : List Expected) → AreSettled es → step es t ≡ Some new → Fits (stage_after stage.Configuration t) new
configuration es (token.Body b) new h e = absurd (no_body_steps es b new h e)
configuration es (token.Keyword key.Program) new h e = step_settled es (token.Keyword key.Program) new h e
configuration es t new h e = step_settled es t new h e

-- what is expected behind a word fits where that stands
step_fits : (s : Stage) (es : List Expected) (t : Token) (new : List Expected) → Fits s es → step es t ≡ Some new → Fits (stage_after s t) new
step_fits stage.Outside es t new (inl h) e = outside t new (ap (λ fs. step fs t) (sym h) ∙ e)
step_fits stage.Outside es t new (inr h) e = behind_body t new (ap (λ fs. step fs t) (sym h) ∙ e)
step_fits stage.Heading es t new h e = heading t new (ap (λ fs. step fs t) (sym h) ∙ e)
step_fits stage.Blocks es t new h e = in_block es t new h e
step_fits stage.BodyDue es t new h e = at_body t new (ap (λ fs. step fs t) (sym h) ∙ e)
step_fits stage.Configuration es t new h e = configuration es t new h e

-- and so it is behind words
walk_fits : (s : Stage) (es fs : List Expected) (words : List Token) → Fits s es → walk es words ≡ Some fs → Fits (stage_after_all s words) fs
walk_fits s es fs [] h e = subst (λ gs. Fits s gs) (walk_none es fs e) h
walk_fits s es fs (t ∷ more) h e = let st = walked_first es t more fs e in walk_fits (stage_after s t) st.0 fs more (step_fits s es t st.0 h st.1) st.2

-- where a body is due, it or a block is expected
pub due_expects : (words : List Token) (es : List Expected) → walk whole_plant words ≡ Some es → is_body_due words ≡ true → es ≡ due_expected
due_expects words es e due = on (stage_after_all stage.Outside words) (walk_fits stage.Outside whole_plant es words (inl refl) e) due
  where
    on : (s : Stage) → Fits s es → is_due s ≡ true → es ≡ due_expected
    on stage.BodyDue h d = h
    on _ h d = absurd cc

-- a body and the beginning of a block can stand there
due_stands : (t : Token) → may_be_due t ≡ true → step due_expected t ≡ None → ⊥
unfolding step begun may_end
due_stands (token.Body b) h n = cc (n)
due_stands (token.Keyword key.Var) h n = cc (n)
due_stands (token.Keyword key.VarInput) h n = cc (n)
due_stands (token.Keyword key.VarOutput) h n = cc (n)
due_stands _ h n = cc (h)

-- a word that can't stand where a body is due is none, and begins no block
pub misfits : (words : List Token) (es : List Expected) (t : Token) → walk whole_plant words ≡ Some es → step es t ≡ None → is_body_due words ≡ true → may_be_due t ≡ false
misfits words es t e none due = elim (cases_Bool (may_be_due t)) [
  | inl may ↦ absurd (due_stands t may (ap (λ fs. step fs t) (sym (due_expects words es e due)) ∙ none))
  | inr misses ↦ misses
]

-- no body is due behind a whole plant
pub none_due : (words : List Token) → walk whole_plant words ≡ Some [] → is_body_due words ≡ true → ⊥
none_due words e due = let none : [] ≡ due_expected = due_expects words [] e due in cc
