-- What is expected behind whole things of a resource.
use Rattle.std.proofs.Common.{◌≡◌, ℕ, Bool, true, false, not, ◌<◌, List, [], ◌∷◌, ◌++◌, Option, None, Some, length, refl, sym, ap, subst, ◌∙◌, append_assoc, arith}
use Rattle.std.specs.Prelude.{All}
use Rattle.std.specs.List.{flat_map}
use Rattle.std.proofs.lemmas.List.{append-nil}
use Rattle.std.proofs.lemmas.List.Concat.{flat_map-cons}
use Rattle.std.proofs.lemmas.List.Elements.{All-head, All-tail, All-weaker}
use Rattle.std.proofs.lemmas.Bool.{ne_eqb}
use Rattle.lists.proofs.Members.{all_first, all_last}
use Rattle.plant_text.specs.declared.token.Token.{Token}
use Rattle.plant_text.specs.declared.token.Token.TheVariants as token
use Rattle.plant_text.specs.declared.token.Keyword.{Keyword}
use Rattle.plant_text.specs.declared.token.Punctuation.{Punctuation}
use Rattle.plant_text.specs.declared.token.Keyword.TheVariants as key
use Rattle.plant_text.specs.declared.token.Punctuation.TheVariants as mark
use Rattle.plant_grammar.specs.declared.grammar_fault.GrammarFault.{GrammarFault}
use Rattle.plant_grammar.specs.declared.grammar.tree.Order.{Order}
use Rattle.plant_grammar.specs.declared.grammar.tree.Order.TheVariants.{IntervalFirst, PriorityFirst}
use Rattle.plant_grammar.specs.declared.grammar.tree.TaskLine.{TaskLine}
use Rattle.plant_grammar.specs.declared.grammar.tree.SourceName.{SourceName}
use Rattle.plant_grammar.specs.declared.grammar.tree.SourceName.TheVariants as source
use Rattle.plant_grammar.specs.declared.grammar.tree.Bind.{Bind}
use Rattle.plant_grammar.specs.declared.grammar.tree.Use.{Use}
use Rattle.plant_grammar.specs.declared.grammar.tree.Item.{Item}
use Rattle.plant_grammar.specs.declared.grammar.tree.Item.TheVariants as item
use Rattle.plant_grammar.specs.declared.grammar.tree.Resource.{Resource}
use Rattle.plant_grammar.specs.Grammar.{Tree, key_word, mark_word, interval_words, priority_words, settings, task_words, source_words, bind_words, with_commas, binds_words, binds_listed, use_words, item_words, items_words, resource_words, resources_words}
use Rattle.plant_grammar.specs.Lawful.{task_of, IsResourceLawful}
use Rattle.plant_grammar.specs.WellFormed.{AreIntervalsPositive, IsResourceWellFormed}
use Rattle.plant_grammar.specs.Steps.Lines.{ReaderValue, KeepsLines, syntax_at, IsWordNext, IsNotNext, IsNoneNext}
use Rattle.plant_grammar.specs.Steps.Expected.{Expected, Key, Mark, AName, ADuration, ASource, AnItem, MayHaveBinds, TheSettings, FirstBind, MoreBinds, MoreItems, MoreResources, interval_rest, priority_rest, bind_rest, task_rest, instance_rest, resource_rest, is_key, is_mark, is_name, is_interval, where_so, or_skipped, and_then, begun, may_end, step, walk, IsStuck, GetsStuck}
use Rattle.plant_grammar.proofs.ExpectedWords.{walk_append, stuck_as}
use Rattle.plant_grammar.proofs.UnexpectedWords.{no_key, no_mark, no_address_word, some_expected, left_out, stuck_at, mark_stuck}
use Rattle.plant_grammar.proofs.StuckBehind.{stuck_after}

-- where more is expected behind it
pub stuck_more : (Known : List Token → Type 0) (es more : List Expected) (r : ReaderValue) (fault : GrammarFault) → GetsStuck Known es r fault → GetsStuck Known (es ++ more) r fault
stuck_more Known es more r fault stuck = λ syntax behind. subst (λ (fs : List Expected). IsStuck Known fs r fault.line) (sym (append_assoc es more behind)) (stuck syntax (more ++ behind))

-- where the first word leads to the same from a part of a rule and from what it begins
stuck_alike : (Known : List Token → Type 0) (e : Expected) (es more : List Expected) (r : ReaderValue) (fault : GrammarFault) → ((behind : List Expected) (t : Token) (rest : List Token) → r.words ≡ t ∷ rest → step (es ++ (more ++ behind)) t ≡ step (e ∷ behind) t)
    → GetsStuck Known es r fault → GetsStuck Known (e ∷ []) r fault
stuck_alike Known e es more r fault same stuck = λ syntax behind.
    stuck_as Known (es ++ (more ++ behind)) (e ∷ behind) r fault.line (some_expected e behind) (same behind) (stuck syntax (more ++ behind))

-- where it begins with this word
stuck_begun : (Known : List Token → Type 0) (e : Expected) (es more : List Expected) (u : Token) (r : ReaderValue) (fault : GrammarFault) → IsWordNext u r.words → ((behind : List Expected) → step (es ++ (more ++ behind)) u ≡ step (e ∷ behind) u)
    → GetsStuck Known es r fault → GetsStuck Known (e ∷ []) r fault
stuck_begun Known e es more u r fault next same stuck =
    stuck_alike Known e es more r fault (λ behind t rest h. let words : u ∷ next.0 ≡ t ∷ rest = sym next.1 ∙ h in let first : u ≡ t = cc (words) in subst (λ (t : Token). step (es ++ (more ++ behind)) t ≡ step (e ∷ behind) t) first (same behind)) stuck

-- the next word isn't this keyword, or this mark
not_key : (k : Keyword) (words rest : List Token) (t : Token) → IsNotNext (token.Keyword k) words → words ≡ t ∷ rest → is_key k t ≡ false
not_key k words rest t none h = no_key k t (λ e. none rest (h ∙ ap (λ u. u ∷ rest) e))

not_mark : (p : Punctuation) (words rest : List Token) (t : Token) → IsNotNext (token.Punctuation p) words → words ≡ t ∷ rest → is_mark p t ≡ false
not_mark p words rest t none h = no_mark p t (λ e. none rest (h ∙ ap (λ u. u ∷ rest) e))

-- one word and what stands behind it, in two parts or in one
one_way : (b : Bool) (xs es : List Expected) → or_skipped (where_so b [] None) (xs ++ es) None ≡ or_skipped (where_so b xs None) es None
one_way true xs es = refl
one_way false xs es = refl

-- so it is with two words
two_ways : (a b : Bool) (xs ys zs es : List Expected) → or_skipped (where_so a xs (where_so b ys None)) (zs ++ es) None ≡ or_skipped (where_so a (xs ++ zs) (where_so b (ys ++ zs) None)) es None
two_ways true b xs ys zs es = ap (λ (new : List Expected). Some new) (sym (append_assoc xs zs es))
two_ways false true xs ys zs es = ap (λ (new : List Expected). Some new) (sym (append_assoc ys zs es))
two_ways false false xs ys zs es = refl

-- a duration that isn't 0 is an interval
interval_is : (n : ℕ) → 0 < n → is_interval (token.Duration n) ≡ true
interval_is n positive = ap not (ne_eqb n 0 (λ e. omega (arith, e, positive)))

-- the duration of an interval
duration_walked : (n : ℕ) (more : List Token) (es : List Expected) → 0 < n → walk (ADuration ∷ es) (token.Duration n ∷ more) ≡ walk es more
unfolding walk step begun may_end
duration_walked n more es positive =
    ap (λ yes. and_then (or_skipped (where_so yes [] None) es None) (λ new. walk new more)) (interval_is n positive)

-- an interval, and more behind it
interval_first : (n : ℕ) (more : List Token) (es : List Expected) → 0 < n → walk (Key key.Interval ∷ interval_rest ++ es) (interval_words n ++ more) ≡ walk es more
unfolding walk step begun
interval_first n more es positive = duration_walked n more es positive

-- an interval
pub interval_walked : (n : ℕ) (es : List Expected) → 0 < n → walk (Key key.Interval ∷ interval_rest ++ es) (interval_words n) ≡ Some es
unfolding walk
interval_walked n es positive = interval_first n [] es positive

-- a priority
pub priority_walked : (n : ℕ) (es : List Expected) → walk (Key key.Priority ∷ priority_rest ++ es) (priority_words n) ≡ Some es
unfolding walk step begun
priority_walked n es = refl

-- the settings of a task
pub settings_walked : (o : Order) (i n : ℕ) (es : List Expected) → 0 < i → walk (TheSettings ∷ es) (settings o i n) ≡ Some es
unfolding walk step begun
settings_walked IntervalFirst i n es positive =
    let behind = Mark mark.Comma ∷ Key key.Priority ∷ priority_rest ++ es in
    interval_first i (mark_word mark.Comma ∷ priority_words n) behind positive
settings_walked PriorityFirst i n es positive = interval_walked i es positive

-- what the settings expect behind an interval, or behind a priority
abbrev pub behind_interval : List Expected
behind_interval = Mark mark.Comma ∷ Key key.Priority ∷ priority_rest

abbrev pub behind_priority : List Expected
behind_priority = Mark mark.Comma ∷ Key key.Interval ∷ interval_rest

-- the first of two settings
pub first_interval_walked : (n : ℕ) (es : List Expected) → 0 < n → walk (TheSettings ∷ es) (interval_words n) ≡ Some (behind_interval ++ es)
unfolding walk step begun
first_interval_walked n es positive = interval_walked n (behind_interval ++ es) positive

pub first_priority_walked : (n : ℕ) (es : List Expected) → walk (TheSettings ∷ es) (priority_words n) ≡ Some (behind_priority ++ es)
unfolding walk step begun
first_priority_walked n es = refl

-- where the settings begin with an interval, or with a priority
pub stuck_in_interval : (Known : List Token → Type 0) (r : ReaderValue) (fault : GrammarFault) → IsWordNext (key_word key.Interval) r.words → GetsStuck Known (Key key.Interval ∷ interval_rest) r fault → GetsStuck Known (TheSettings ∷ []) r fault
unfolding step begun
stuck_in_interval Known r fault next stuck = stuck_begun Known TheSettings (Key key.Interval ∷ interval_rest) behind_interval (key_word key.Interval) r fault next (λ behind. refl) stuck

pub stuck_in_priority : (Known : List Token → Type 0) (r : ReaderValue) (fault : GrammarFault) → IsNotNext (key_word key.Interval) r.words → GetsStuck Known (Key key.Priority ∷ priority_rest) r fault → GetsStuck Known (TheSettings ∷ []) r fault
unfolding step begun may_end
stuck_in_priority Known r fault none stuck =
    stuck_alike Known TheSettings (Key key.Priority ∷ priority_rest) behind_priority r fault (λ behind t rest h.
    one_way (is_key key.Priority t) (priority_rest ++ behind_priority) behind
    ∙ sym (ap (λ b. or_skipped (where_so b (interval_rest ++ behind_interval) (where_so (is_key key.Priority t) (priority_rest ++ behind_priority) None)) behind None) (not_key key.Interval r.words rest t none h))) stuck

-- a task
pub task_walked : (t : TaskLine) (es : List Expected) → 0 < t.interval → walk (Key key.Task ∷ task_rest ++ es) (task_words t) ≡ Some es
unfolding walk step begun task_words
task_walked t es positive =
    let end = Mark mark.Close ∷ Mark mark.Semicolon ∷ es in
    walk_append (TheSettings ∷ end) end (settings t.order t.interval t.priority) (mark_word mark.Close ∷ mark_word mark.Semicolon ∷ []) (settings_walked t.order t.interval t.priority end positive)

-- a source
pub source_walked : (s : SourceName) (es : List Expected) → walk (ASource ∷ es) (source_words s) ≡ Some es
unfolding walk step begun
source_walked (source.Field address) es = refl
source_walked (source.Output resource instance output) es = refl

-- where a source begins with a name
pub stuck_in_output : (Known : List Token → Type 0) (r : ReaderValue) (fault : GrammarFault) → IsNoneNext token.Address r.words → GetsStuck Known (AName ∷ Mark mark.Dot ∷ AName ∷ Mark mark.Dot ∷ AName ∷ []) r fault → GetsStuck Known (ASource ∷ []) r fault
unfolding step begun may_end
stuck_in_output Known r fault none stuck =
    let parts : List Expected = Mark mark.Dot ∷ AName ∷ Mark mark.Dot ∷ AName ∷ [] in
    stuck_alike Known ASource (AName ∷ parts) [] r fault (λ behind t rest h.
    one_way (is_name t) parts behind
    ∙ sym (ap (λ b. or_skipped (where_so b [] (where_so (is_name t) parts None)) behind None) (no_address_word t (λ a e. none a rest (h ∙ ap (λ u. u ∷ rest) e))))) stuck

-- a bind
pub bind_walked : (b : Bind) (es : List Expected) → walk (AName ∷ bind_rest ++ es) (bind_words b) ≡ Some es
unfolding walk step begun bind_words
bind_walked b es = source_walked b.source es

-- what stands behind a comma
comma_walked : (b : Bind) (bs : List Bind) (es : List Expected) → walk (MoreBinds ∷ es) (mark_word mark.Comma ∷ with_commas (b ∷ bs)) ≡ walk (AName ∷ bind_rest ++ MoreBinds ∷ es) (with_commas (b ∷ bs))
unfolding walk step begun
comma_walked b bs es = refl

-- binds with commas between them, where one is expected
binds_walked : (b : Bind) (bs : List Bind) (es : List Expected) → walk (AName ∷ bind_rest ++ MoreBinds ∷ es) (with_commas (b ∷ bs)) ≡ Some (MoreBinds ∷ es)
binds_walked b [] es = bind_walked b (MoreBinds ∷ es)
binds_walked b (c ∷ bs) es =
    walk_append (AName ∷ bind_rest ++ MoreBinds ∷ es) (MoreBinds ∷ es) (bind_words b) (mark_word mark.Comma ∷ with_commas (c ∷ bs)) (bind_walked b (MoreBinds ∷ es))
    ∙ comma_walked c bs es ∙ binds_walked c bs es

-- the first of binds begins as one does
first_walked : (b : Bind) (bs : List Bind) (es : List Expected) → walk (FirstBind ∷ es) (with_commas (b ∷ bs)) ≡ walk (AName ∷ bind_rest ++ MoreBinds ∷ es) (with_commas (b ∷ bs))
unfolding walk step begun bind_words
first_walked b [] es = refl
first_walked b (c ∷ bs) es = refl

-- binds with commas between them
pub commas_walked : (bs : List Bind) (es : List Expected) → 0 < length bs → walk (FirstBind ∷ es) (with_commas bs) ≡ Some (MoreBinds ∷ es)
commas_walked [] es some = absurd (omega (arith, some))
commas_walked (b ∷ bs) es some = first_walked b bs es ∙ binds_walked b bs es

-- a further bind, behind a comma
pub next_walked : (b : Bind) (es : List Expected) → walk (MoreBinds ∷ es) (mark_word mark.Comma ∷ bind_words b) ≡ Some (MoreBinds ∷ es)
next_walked b es = comma_walked b [] es ∙ binds_walked b [] es

-- where the first of binds can't stand, and no parenthesis closes them
pub stuck_in_first_bind : (Known : List Token → Type 0) (r : ReaderValue) (fault : GrammarFault) → IsNotNext (mark_word mark.Close) r.words → GetsStuck Known (AName ∷ bind_rest) r fault → GetsStuck Known (FirstBind ∷ []) r fault
unfolding step begun may_end
stuck_in_first_bind Known r fault none stuck =
    stuck_alike Known FirstBind (AName ∷ bind_rest) (MoreBinds ∷ []) r fault (λ behind t rest h.
    one_way (is_name t) (bind_rest ++ MoreBinds ∷ []) behind
    ∙ sym (ap (λ b. or_skipped (where_so b [] (where_so (is_name t) (bind_rest ++ MoreBinds ∷ []) None)) behind None) (not_mark mark.Close r.words rest t none h))) stuck

-- the word that leads to a further bind
comma_steps : (es : List Expected) → walk (MoreBinds ∷ es) (mark_word mark.Comma ∷ []) ≡ Some (AName ∷ bind_rest ++ MoreBinds ∷ es)
unfolding walk step begun
comma_steps es = refl

-- where a further bind can't stand behind its comma
pub stuck_in_next_bind : (Known : List Token → Type 0) (bs : List Bind) (old now mid : ReaderValue) (fault : GrammarFault) → 0 < length bs → old.words ≡ with_commas bs ++ now.words → KeepsLines old now → now.words ≡ mark_word mark.Comma ∷ mid.words → KeepsLines now mid
    → GetsStuck (λ w. Known (with_commas bs ++ mark_word mark.Comma ∷ w)) (AName ∷ bind_rest) mid fault → GetsStuck Known (FirstBind ∷ []) old fault
stuck_in_next_bind Known bs old now mid fault some e keeps comma further stuck =
    stuck_after Known (FirstBind ∷ []) (MoreBinds ∷ []) (with_commas bs) old now fault e keeps (λ behind. commas_walked bs behind some)
    (stuck_after (λ w. Known (with_commas bs ++ w)) (MoreBinds ∷ []) (AName ∷ bind_rest ++ MoreBinds ∷ []) (mark_word mark.Comma ∷ []) now mid fault comma further comma_steps
    (stuck_more (λ w. Known (with_commas bs ++ mark_word mark.Comma ∷ w)) (AName ∷ bind_rest) (MoreBinds ∷ []) mid fault stuck))

-- neither a comma nor the parenthesis that closes stands behind binds
close_stuck : (Known : List Token → Type 0) → Known [] → (r : ReaderValue) (fault : GrammarFault) → fault ≡ syntax_at r → IsNotNext (mark_word mark.Comma) r.words → IsNotNext (mark_word mark.Close) r.words → GetsStuck Known (MoreBinds ∷ []) r fault
unfolding begun may_end
close_stuck Known nothing r fault is no_comma no_close =
    stuck_at Known nothing MoreBinds [] r fault refl (λ known. is) (λ known t rest h.
    ap (λ b. where_so b (AName ∷ bind_rest ++ MoreBinds ∷ []) (where_so (is_mark mark.Close t) [] None)) (not_mark mark.Comma r.words rest t no_comma h)
    ∙ ap (λ b. where_so b [] None) (not_mark mark.Close r.words rest t no_close h))

pub stuck_behind_binds : (Known : List Token → Type 0) (bs : List Bind) → Known (with_commas bs) → (old now : ReaderValue) (fault : GrammarFault) → 0 < length bs → old.words ≡ with_commas bs ++ now.words → KeepsLines old now
    → fault ≡ syntax_at now → IsNotNext (mark_word mark.Comma) now.words → IsNotNext (mark_word mark.Close) now.words → GetsStuck Known (FirstBind ∷ []) old fault
stuck_behind_binds Known bs known old now fault some e keeps is no_comma no_close =
    stuck_after Known (FirstBind ∷ []) (MoreBinds ∷ []) (with_commas bs) old now fault e keeps (λ behind. commas_walked bs behind some) (close_stuck (λ w. Known (with_commas bs ++ w)) (subst Known (sym (append-nil (with_commas bs))) known) now fault is no_comma no_close)

-- the parenthesis that opens binds
open_steps : (es : List Expected) → walk (MayHaveBinds ∷ es) (mark_word mark.Open ∷ []) ≡ Some (FirstBind ∷ es)
unfolding walk step begun
open_steps es = refl

-- where binds can't stand behind it
pub stuck_in_binds : (Known : List Token → Type 0) (old new : ReaderValue) (fault : GrammarFault) → old.words ≡ mark_word mark.Open ∷ new.words → KeepsLines old new → GetsStuck (λ w. Known (mark_word mark.Open ∷ w)) (FirstBind ∷ []) new fault → GetsStuck Known (MayHaveBinds ∷ []) old fault
stuck_in_binds Known old new fault e keeps stuck = stuck_after Known (MayHaveBinds ∷ []) (FirstBind ∷ []) (mark_word mark.Open ∷ []) old new fault e keeps open_steps stuck

-- binds in parentheses
pub parentheses_walked : (bs : List Bind) (es : List Expected) → walk (MayHaveBinds ∷ es) (binds_words (Some bs)) ≡ Some es
unfolding walk step begun
parentheses_walked [] es = refl
parentheses_walked (b ∷ bs) es = walk_append (FirstBind ∷ es) (MoreBinds ∷ es) (with_commas (b ∷ bs)) (mark_word mark.Close ∷ []) (commas_walked (b ∷ bs) es (omega arith))

-- binds in parentheses, or none, and the semicolon
pub listed_walked : (bs : Option (List Bind)) (es : List Expected) → walk (MayHaveBinds ∷ Mark mark.Semicolon ∷ es) (binds_words bs ++ mark_word mark.Semicolon ∷ []) ≡ Some es
unfolding walk step begun may_end
listed_walked None es = refl
listed_walked (Some bs) es =
    let end = Mark mark.Semicolon ∷ es in
    walk_append (MayHaveBinds ∷ end) end (binds_words (Some bs)) (mark_word mark.Semicolon ∷ []) (parentheses_walked bs end)

-- neither binds nor the semicolon stand next
no_binds_stuck : (Known : List Token → Type 0) → Known [] → (r : ReaderValue) (fault : GrammarFault) → fault ≡ syntax_at r → IsNotNext (mark_word mark.Open) r.words → IsNotNext (mark_word mark.Semicolon) r.words → GetsStuck Known (MayHaveBinds ∷ Mark mark.Semicolon ∷ []) r fault
unfolding begun may_end
no_binds_stuck Known nothing r fault is no_open no_end = λ syntax behind.
    let end : List Expected = Mark mark.Semicolon ∷ behind in
    stuck_as Known end (MayHaveBinds ∷ end) r fault.line (some_expected MayHaveBinds end)
    (λ t rest h. sym (left_out MayHaveBinds end t refl (ap (λ b. where_so b (FirstBind ∷ []) None) (not_mark mark.Open r.words rest t no_open h))))
    (mark_stuck Known nothing mark.Semicolon [] r fault is no_end syntax behind)

-- no semicolon stands behind the binds of an instance
pub semicolon_stuck : (Known : List Token → Type 0) (bs : Option (List Bind)) → Known (binds_words bs) → (old new : ReaderValue) (fault : GrammarFault) → old.words ≡ binds_words bs ++ new.words → KeepsLines old new → (bs ≡ None → IsNotNext (mark_word mark.Open) new.words)
    → fault ≡ syntax_at new → IsNotNext (mark_word mark.Semicolon) new.words → GetsStuck Known (MayHaveBinds ∷ Mark mark.Semicolon ∷ []) old fault
unfolding walk
semicolon_stuck Known None known old new fault e keeps whole is no_end =
    stuck_after Known (MayHaveBinds ∷ Mark mark.Semicolon ∷ []) (MayHaveBinds ∷ Mark mark.Semicolon ∷ []) [] old new fault e keeps (λ behind. refl) (no_binds_stuck Known known new fault is (whole refl) no_end)
semicolon_stuck Known (Some bs) known old new fault e keeps whole is no_end =
    stuck_after Known (MayHaveBinds ∷ Mark mark.Semicolon ∷ []) (Mark mark.Semicolon ∷ []) (binds_words (Some bs)) old new fault e keeps (λ behind. parentheses_walked bs (Mark mark.Semicolon ∷ behind)) (mark_stuck (λ w. Known (binds_words (Some bs) ++ w)) (subst Known (sym (append-nil (binds_words (Some bs)))) known) mark.Semicolon [] new fault is no_end)

-- an instance
pub use_walked : (u : Use) (es : List Expected) → walk (Key key.Program ∷ instance_rest ++ es) (use_words u) ≡ Some es
unfolding walk step begun use_words
use_walked u es = listed_walked (binds_listed u.binds) es

-- no task of these has the interval 0
abbrev pub ArePositive : List TaskLine → Type 0
ArePositive ts = All (λ (t : TaskLine). 0 < t.interval) ts

-- a task as a line of a resource
task_line_walked : (t : TaskLine) (es : List Expected) → walk (AnItem ∷ es) (task_words t) ≡ walk (Key key.Task ∷ task_rest ++ es) (task_words t)
unfolding walk step begun task_words
task_line_walked t es = refl

-- an instance as a line of a resource
use_line_walked : (u : Use) (es : List Expected) → walk (AnItem ∷ es) (use_words u) ≡ walk (Key key.Program ∷ instance_rest ++ es) (use_words u)
unfolding walk step begun use_words
use_line_walked u es = refl

-- a line of a resource
pub item_walked : (x : Item) (es : List Expected) → ArePositive (task_of x) → walk (AnItem ∷ es) (item_words x) ≡ Some es
item_walked (item.Task t) es positive = task_line_walked t es ∙ task_walked t es (All-head (λ (t : TaskLine). 0 < t.interval) t [] positive)
item_walked (item.Use u) es positive = use_line_walked u es ∙ use_walked u es

-- where a line begins as a task, or as an instance
pub stuck_in_task_line : (Known : List Token → Type 0) (r : ReaderValue) (fault : GrammarFault) → IsWordNext (key_word key.Task) r.words → GetsStuck Known (Key key.Task ∷ task_rest) r fault → GetsStuck Known (AnItem ∷ []) r fault
unfolding step begun
stuck_in_task_line Known r fault next stuck = stuck_begun Known AnItem (Key key.Task ∷ task_rest) [] (key_word key.Task) r fault next (λ behind. refl) stuck

pub stuck_in_use_line : (Known : List Token → Type 0) (r : ReaderValue) (fault : GrammarFault) → IsNotNext (key_word key.Task) r.words → GetsStuck Known (Key key.Program ∷ instance_rest) r fault → GetsStuck Known (AnItem ∷ []) r fault
unfolding step begun may_end
stuck_in_use_line Known r fault none stuck =
    stuck_alike Known AnItem (Key key.Program ∷ instance_rest) [] r fault (λ behind t rest h.
    one_way (is_key key.Program t) instance_rest behind
    ∙ sym (ap (λ b. or_skipped (where_so b task_rest (where_so (is_key key.Program t) instance_rest None)) behind None) (not_key key.Task r.words rest t none h))) stuck

-- a task among lines
task_among_walked : (t : TaskLine) (es : List Expected) → walk (MoreItems ∷ es) (task_words t) ≡ walk (AnItem ∷ MoreItems ∷ es) (task_words t)
unfolding walk step begun task_words
task_among_walked t es = refl

-- an instance among lines
use_among_walked : (u : Use) (es : List Expected) → walk (MoreItems ∷ es) (use_words u) ≡ walk (AnItem ∷ MoreItems ∷ es) (use_words u)
unfolding walk step begun use_words
use_among_walked u es = refl

-- a line among lines
among_walked : (x : Item) (es : List Expected) → walk (MoreItems ∷ es) (item_words x) ≡ walk (AnItem ∷ MoreItems ∷ es) (item_words x)
among_walked (item.Task t) es = task_among_walked t es
among_walked (item.Use u) es = use_among_walked u es

-- of these lines and those behind them, no task has the interval 0
positive_parts : (x : Item) (xs : List Item) → AreIntervalsPositive (x ∷ xs) → ArePositive (task_of x) × AreIntervalsPositive xs
positive_parts x xs positive =
    let tasks = subst ArePositive (flat_map-cons task_of x xs) positive in
    (all_first (λ (t : TaskLine). 0 < t.interval) (task_of x) (flat_map task_of xs) tasks, all_last (λ (t : TaskLine). 0 < t.interval) (task_of x) (flat_map task_of xs) tasks)

-- a line, and more behind it
line_first : (x : Item) (more : List Token) (es : List Expected) → ArePositive (task_of x) → walk (MoreItems ∷ es) (item_words x ++ more) ≡ walk (MoreItems ∷ es) more
line_first x more es positive =
    walk_append (MoreItems ∷ es) (MoreItems ∷ es) (item_words x) more (among_walked x es ∙ item_walked x (MoreItems ∷ es) positive)

-- lines of a resource
pub lines_walked : (xs : List Item) (es : List Expected) → AreIntervalsPositive xs → walk (MoreItems ∷ es) (flat_map item_words xs) ≡ Some (MoreItems ∷ es)
unfolding walk
lines_walked [] es positive = refl
lines_walked (x ∷ xs) es positive =
    let parts = positive_parts x xs positive in
    ap (walk (MoreItems ∷ es)) (flat_map-cons item_words x xs) ∙ line_first x (flat_map item_words xs) es parts.0 ∙ lines_walked xs es parts.1

-- where a line can't stand among others, and the resource doesn't end
line_stuck : (Known : List Token → Type 0) (r : ReaderValue) (fault : GrammarFault) → IsNotNext (key_word key.EndResource) r.words → GetsStuck Known (AnItem ∷ []) r fault → GetsStuck Known (MoreItems ∷ []) r fault
unfolding step begun may_end
line_stuck Known r fault none stuck =
    let more : List Expected = MoreItems ∷ [] in
    stuck_alike Known MoreItems (AnItem ∷ []) more r fault (λ behind t rest h.
    two_ways (is_key key.Task t) (is_key key.Program t) task_rest instance_rest more behind
    ∙ sym (ap (λ b. or_skipped (where_so b [] (where_so (is_key key.Task t) (task_rest ++ more) (where_so (is_key key.Program t) (instance_rest ++ more) None))) behind None) (not_key key.EndResource r.words rest t none h))) stuck

pub stuck_in_line : (Known : List Token → Type 0) (xs : List Item) (old now : ReaderValue) (fault : GrammarFault) → old.words ≡ flat_map item_words xs ++ now.words → KeepsLines old now → AreIntervalsPositive xs → IsNotNext (key_word key.EndResource) now.words
    → GetsStuck (λ w. Known (flat_map item_words xs ++ w)) (AnItem ∷ []) now fault → GetsStuck Known (MoreItems ∷ []) old fault
stuck_in_line Known xs old now fault e keeps positive none stuck =
    stuck_after Known (MoreItems ∷ []) (MoreItems ∷ []) (flat_map item_words xs) old now fault e keeps (λ behind. lines_walked xs behind positive) (line_stuck (λ w. Known (flat_map item_words xs ++ w)) now fault none stuck)

-- lines of a resource, and its end
pub items_walked : (xs : List Item) (es : List Expected) → AreIntervalsPositive xs → walk (MoreItems ∷ es) (items_words xs) ≡ Some es
unfolding walk step begun
items_walked [] es positive = refl
items_walked (x ∷ xs) es positive =
    let parts = positive_parts x xs positive in
    line_first x (items_words xs) es parts.0 ∙ items_walked xs es parts.1

-- a resource
pub resource_walked : (r : Resource) (es : List Expected) → IsResourceWellFormed r → walk (Key key.Resource ∷ resource_rest ++ es) (resource_words r) ≡ Some es
unfolding walk step begun resource_words
resource_walked r es formed = items_walked r.items.items es formed

-- a resource among others
resource_among : (r : Resource) (es : List Expected) → walk (MoreResources ∷ es) (resource_words r) ≡ walk (Key key.Resource ∷ resource_rest ++ MoreResources ∷ es) (resource_words r)
unfolding walk step begun resource_words
resource_among r es = refl

-- a resource where a first one is expected, and more behind it
pub resource_first : (r : Resource) (more : List Token) (es : List Expected) → IsResourceWellFormed r → walk (Key key.Resource ∷ resource_rest ++ MoreResources ∷ es) (resource_words r ++ more) ≡ walk (MoreResources ∷ es) more
resource_first r more es formed =
    walk_append (Key key.Resource ∷ resource_rest ++ MoreResources ∷ es) (MoreResources ∷ es) (resource_words r) more (resource_walked r (MoreResources ∷ es) formed)

-- a resource among others, and more behind it
resource_next : (r : Resource) (more : List Token) (es : List Expected) → IsResourceWellFormed r → walk (MoreResources ∷ es) (resource_words r ++ more) ≡ walk (MoreResources ∷ es) more
resource_next r more es formed =
    walk_append (MoreResources ∷ es) (MoreResources ∷ es) (resource_words r) more (resource_among r es ∙ resource_walked r (MoreResources ∷ es) formed)

-- further resources
more_walked : (rs : List Resource) (es : List Expected) → All IsResourceWellFormed rs → walk (MoreResources ∷ es) (flat_map resource_words rs) ≡ Some (MoreResources ∷ es)
unfolding walk
more_walked [] es formed = refl
more_walked (r ∷ rs) es formed =
    ap (walk (MoreResources ∷ es)) (flat_map-cons resource_words r rs)
    ∙ resource_next r (flat_map resource_words rs) es (All-head IsResourceWellFormed r rs formed)
    ∙ more_walked rs es (All-tail IsResourceWellFormed r rs formed)

-- further resources, and the end of the configuration
rest_walked : (rs : List Resource) (es : List Expected) → All IsResourceWellFormed rs → walk (MoreResources ∷ es) (resources_words rs) ≡ Some es
unfolding walk step begun
rest_walked [] es formed = refl
rest_walked (r ∷ rs) es formed = resource_next r (resources_words rs) es (All-head IsResourceWellFormed r rs formed) ∙ rest_walked rs es (All-tail IsResourceWellFormed r rs formed)

-- resources, of which there is one at least
pub resources_walked : (rs : List Resource) (es : List Expected) → 0 < length rs → All IsResourceWellFormed rs → walk (Key key.Resource ∷ resource_rest ++ MoreResources ∷ es) (flat_map resource_words rs) ≡ Some (MoreResources ∷ es)
resources_walked [] es some formed = absurd (omega (arith, some))
resources_walked (r ∷ rs) es some formed =
    ap (walk (Key key.Resource ∷ resource_rest ++ MoreResources ∷ es)) (flat_map-cons resource_words r rs)
    ∙ resource_first r (flat_map resource_words rs) es (All-head IsResourceWellFormed r rs formed)
    ∙ more_walked rs es (All-tail IsResourceWellFormed r rs formed)

-- resources, of which there is one at least, and the end of the configuration
pub configured_walked : (rs : List Resource) (es : List Expected) → 0 < length rs → All IsResourceWellFormed rs → walk (Key key.Resource ∷ resource_rest ++ MoreResources ∷ es) (resources_words rs) ≡ Some es
configured_walked [] es some formed = absurd (omega (arith, some))
configured_walked (r ∷ rs) es some formed = resource_first r (resources_words rs) es (All-head IsResourceWellFormed r rs formed) ∙ rest_walked rs es (All-tail IsResourceWellFormed r rs formed)

-- where a further resource can't stand, and the configuration doesn't end
resource_stuck : (Known : List Token → Type 0) (r : ReaderValue) (fault : GrammarFault) → IsNotNext (key_word key.EndConfiguration) r.words → GetsStuck Known (Key key.Resource ∷ resource_rest) r fault → GetsStuck Known (MoreResources ∷ []) r fault
unfolding step begun may_end
resource_stuck Known r fault none stuck =
    let more : List Expected = MoreResources ∷ [] in
    stuck_alike Known MoreResources (Key key.Resource ∷ resource_rest) more r fault (λ behind t rest h.
    one_way (is_key key.Resource t) (resource_rest ++ more) behind
    ∙ sym (ap (λ b. or_skipped (where_so b [] (where_so (is_key key.Resource t) (resource_rest ++ more) None)) behind None) (not_key key.EndConfiguration r.words rest t none h))) stuck

-- so it is behind others
pub stuck_in_resource : (Known : List Token → Type 0) (rs : List Resource) (old now : ReaderValue) (fault : GrammarFault) → old.words ≡ flat_map resource_words rs ++ now.words → KeepsLines old now → All IsResourceWellFormed rs
    → (0 < length rs → IsNotNext (key_word key.EndConfiguration) now.words) → GetsStuck (λ w. Known (flat_map resource_words rs ++ w)) (Key key.Resource ∷ resource_rest) now fault → GetsStuck Known (Key key.Resource ∷ resource_rest ++ MoreResources ∷ []) old fault
unfolding walk
stuck_in_resource Known [] old now fault e keeps formed none stuck =
    let first = Key key.Resource ∷ resource_rest ++ MoreResources ∷ [] in
    stuck_after Known first first [] old now fault e keeps (λ behind. refl) (stuck_more Known (Key key.Resource ∷ resource_rest) (MoreResources ∷ []) now fault stuck)
stuck_in_resource Known (r ∷ rs) old now fault e keeps formed none stuck =
    let some : 0 < length (r ∷ rs) = omega arith in
    stuck_after Known (Key key.Resource ∷ resource_rest ++ MoreResources ∷ []) (MoreResources ∷ []) (flat_map resource_words (r ∷ rs)) old now fault e keeps
    (λ behind. resources_walked (r ∷ rs) behind some formed) (resource_stuck (λ w. Known (flat_map resource_words (r ∷ rs) ++ w)) now fault (none some) stuck)

-- lawful resources are well-formed
pub formed_resources : (tree : Tree) (rs : List Resource) → All (IsResourceLawful tree) rs → All IsResourceWellFormed rs
formed_resources tree rs lawful = All-weaker (IsResourceLawful tree) IsResourceWellFormed (λ r h. h.intervals) rs lawful
