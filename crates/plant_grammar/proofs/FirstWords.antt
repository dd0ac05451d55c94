-- Words that are all that is expected: what the first of them is.
use Rattle.std.proofs.Common.{◌≡◌, ◌⊎◌, inl, inr, ℕ, ◌+◌, ◌<◌, ◌==◌, ◌||◌, not, if◌then◌else◌, Bool, true, false, List, [], ◌∷◌, ◌++◌, Option, Some, None, length, refl, sym, ap, subst, ◌∙◌, arith}
use Rattle.std.proofs.lemmas.Bool.{eqb-true, eqb-false}
use Rattle.declared_names.specs.declared.declarations.Kind.TheVariants as kind
use Rattle.plant_text.specs.declared.token.Token.{Token}
use Rattle.plant_text.specs.declared.token.Token.TheVariants as token
use Rattle.plant_text.specs.declared.token.Keyword.{Keyword}
use Rattle.plant_text.specs.declared.token.Keyword.TheVariants as key
use Rattle.plant_text.specs.declared.token.Punctuation.{Punctuation}
use Rattle.plant_text.specs.declared.token.Punctuation.TheVariants as mark
use Rattle.words.specs.declared.address.Address.{Address}
use Rattle.plant_grammar.specs.declared.grammar.tree.Section.{Section}
use Rattle.plant_grammar.specs.declared.grammar.tree.Section.TheVariants as section
use Rattle.plant_grammar.specs.declared.grammar.tree.TypeName.{TypeName}
use Rattle.plant_grammar.specs.declared.grammar.tree.TypeName.TheVariants.{Elementary, Block}
use Rattle.plant_grammar.specs.Grammar.{type_word, section_words}
use Rattle.plant_grammar.specs.Steps.Expected.{Expected, Key, Mark, AName, ABody, ADuration, ANumber, AType, ASource, MayRetain, MayHaveBinds, TheSettings, FirstBind, MorePrograms, MoreBlocks, MoreLists, MoreNames, MoreBinds, MoreItems, MoreResources, number_of_keyword, number_of_mark, is_key, is_mark, is_name, is_body, is_number, is_address, is_block_type, is_interval, where_so, program_rest, list_rest, interval_rest, priority_rest, bind_rest, task_rest, instance_rest, resource_rest, begun, may_end, or_skipped, step, walk}
use Rattle.plant_grammar.proofs.ExpectedWords.{walked_first, walk_first}
use Rattle.plant_grammar.proofs.UnexpectedWords.{same_keyword, same_mark}

-- these words are all that is expected
abbrev pub Ends : List Expected → List Token → Type 0
Ends es words = walk es words ≡ Some []

-- The first word begins the first of what is expected.
record Begins (e : Expected) (es : List Expected) (words : List Token) : Type 0 where
  word : Token
  more : List Token
  parts : words ≡ word ∷ more
  new : List Expected
  opens : begun e word ≡ Some new
  ends : Ends (new ++ es) more

-- This word is the first, and behind it the words are all that is expected.
pub record After (word : Token) (es : List Expected) (words : List Token) : Type 0 where
  pub rest : List Token
  pub parts : words ≡ word ∷ rest
  pub ends : Ends es rest

-- behind a word there is one word less
pub one_less : {w : Token} {es : List Expected} {words : List Token} (a : After w es words) → length words ≡ length a.rest + 1
one_less a = omega (arith, ap length a.parts)

-- how a step was made: the word begins the first of what is expected, or that may be left out
pub stepped : (e : Expected) (es : List Expected) (t : Token) (new : List Expected) → step (e ∷ es) t ≡ Some new
    → ((front : List Expected) × (begun e t ≡ Some front) × (front ++ es ≡ new)) ⊎ ((may_end e ≡ true) × (step es t ≡ Some new))
unfolding step
stepped e es t new is = go (begun e t) refl is
  where
    skip : (may : Bool) → may_end e ≡ may → (if may then step es t else None) ≡ Some new → (may_end e ≡ true) × (step es t ≡ Some new)
    skip true m s = (m, s)
    skip false m s = absurd cc

    go : (found : Option (List Expected)) → begun e t ≡ found → or_skipped found es (if may_end e then step es t else None) ≡ Some new
        → ((front : List Expected) × (begun e t ≡ Some front) × (front ++ es ≡ new)) ⊎ ((may_end e ≡ true) × (step es t ≡ Some new))
    go (Some front) f s = let same : front ++ es ≡ new = cc (s) in inl (front, f, same)
    go None f s = inr (skip (may_end e) refl s)

-- the first word begins the first of what is expected, or that may be left out
first_word : (e : Expected) (es : List Expected) (words : List Token) → Ends (e ∷ es) words → Begins e es words ⊎ ((may_end e ≡ true) × Ends es words)
unfolding walk
first_word e es [] ends = absurd cc
first_word e es (t ∷ more) ends = let s = walked_first (e ∷ es) t more [] ends in go s.0 s.2 (stepped e es t s.0 s.1)
  where
    go : (new : List Expected) → Ends new more → ((front : List Expected) × (begun e t ≡ Some front) × (front ++ es ≡ new)) ⊎ ((may_end e ≡ true) × (step es t ≡ Some new)) → Begins e es (t ∷ more) ⊎ ((may_end e ≡ true) × Ends es (t ∷ more))
    go new w (inl (front, b, same)) = inl (record { word = t; more = more; parts = refl; new = front; opens = b; ends = subst (λ fs. Ends fs more) (sym same) w })
    go new w (inr (may, s)) = inr (may, walk_first es new t more s ∙ w)

-- what may not be left out begins with the first word
first_begins : (e : Expected) (es : List Expected) (words : List Token) → may_end e ≡ false → Ends (e ∷ es) words → Begins e es words
first_begins e es words must ends = go (first_word e es words ends)
  where
    go : Begins e es words ⊎ ((may_end e ≡ true) × Ends es words) → Begins e es words
    go (inl b) = b
    go (inr (may, s)) = let wrong : true ≡ false = sym may ∙ must in absurd cc

-- by a test there is this or the other
pub by_test : {C : Type 0} (b : Bool) (this : List Expected) (other : Option (List Expected)) (new : List Expected) → where_so b this other ≡ Some new → (b ≡ true → this ≡ new → C) → (other ≡ Some new → C) → C
by_test true this other new e first second = let same : this ≡ new = cc (e) in first refl same
by_test false this other new e first second = second e

-- what isn't there is nothing new
pub no_other : {C : Type 0} (new : List Expected) → None ≡ Some new → C
no_other new e = absurd cc

-- what is behind a word that is known
after_word : {e : Expected} {es : List Expected} {words : List Token} (b : Begins e es words) (w : Token) (this : List Expected) → b.word ≡ w → this ≡ b.new → After w (this ++ es) words
after_word {e} {es} {words} b w this is same = record {
  rest = b.more;
  parts = b.parts ∙ ap (λ u. u ∷ b.more) is;
  ends = subst (λ fs. Ends (fs ++ es) b.more) (sym same) b.ends;
}

-- a word that is tested to be a keyword is that keyword
key_is : (k : Keyword) (t : Token) → is_key k t ≡ true → t ≡ token.Keyword k
key_is k (token.Keyword l) e = ap token.Keyword (sym (same_keyword k l (eqb-true (number_of_keyword k) (number_of_keyword l) e)))
key_is k t e = absurd cc

-- a word that is tested to be a mark is that mark
mark_is : (p : Punctuation) (t : Token) → is_mark p t ≡ true → t ≡ token.Punctuation p
mark_is p (token.Punctuation q) e = ap token.Punctuation (sym (same_mark p q (eqb-true (number_of_mark p) (number_of_mark q) e)))
mark_is p t e = absurd cc

-- a word that is tested to be a name is one
name_is : (t : Token) → is_name t ≡ true → (n : List ℕ) × (t ≡ token.Name n)
name_is (token.Name n) e = (n, refl)
name_is t e = absurd cc

-- a word that is tested to be a body is one
body_is : (t : Token) → is_body t ≡ true → (b : List ℕ) × (t ≡ token.Body b)
body_is (token.Body b) e = (b, refl)
body_is t e = absurd cc

-- a word that is tested to be a number is one
number_is : (t : Token) → is_number t ≡ true → (n : ℕ) × (t ≡ token.Number n)
number_is (token.Number n) e = (n, refl)
number_is t e = absurd cc

-- a word that is tested to be an address is one
address_is : (t : Token) → is_address t ≡ true → (a : Address) × (t ≡ token.Address a)
address_is (token.Address a) e = (a, refl)
address_is t e = absurd cc

-- a word that is tested to be an interval is a duration that isn't 0
interval_is : (t : Token) → is_interval t ≡ true → (n : ℕ) × (0 < n) × (t ≡ token.Duration n)
interval_is (token.Duration n) e = (n, some (n == 0) refl e, refl)
  where
    some : (none : Bool) → (n == 0) ≡ none → not none ≡ true → 0 < n
    some true is h = absurd cc
    some false is h = let apart = eqb-false n 0 is in omega (arith, apart)
interval_is t e = absurd cc

-- where one of two tests holds it is the first or the second
either : {C : Type 0} (a b : Bool) → (a || b) ≡ true → (a ≡ true → C) → (b ≡ true → C) → C
either true b e first second = first refl
either false b e first second = second e

-- a word that is tested to be the type of a block is one
block_type_is : (t : Token) → is_block_type t ≡ true → (n : TypeName) × (t ≡ type_word n)
block_type_is (token.Block b) e = (Block b, refl)
block_type_is t e = absurd cc

-- a word that is tested to be a type is one
type_is : (t : Token) → (is_block_type t || (is_key key.Int t || (is_key key.Time t || is_key key.Bool t))) ≡ true → (n : TypeName) × (t ≡ type_word n)
type_is t e =
    either (is_block_type t) (is_key key.Int t || (is_key key.Time t || is_key key.Bool t)) e (block_type_is t)
    (λ f. either (is_key key.Int t) (is_key key.Time t || is_key key.Bool t) f (λ h. (Elementary kind.Int, key_is key.Int t h))
    (λ g. either (is_key key.Time t) (is_key key.Bool t) g (λ h. (Elementary kind.Time, key_is key.Time t h)) (λ h. (Elementary kind.Bool, key_is key.Bool t h))))

-- where a keyword is expected it is the first word
pub key_read : (k : Keyword) (es : List Expected) (words : List Token) → Ends (Key k ∷ es) words → After (token.Keyword k) es words
unfolding begun may_end
key_read k es words ends =
    let b = first_begins (Key k) es words refl ends in
    by_test (is_key k b.word) [] None b.new b.opens (λ t same. after_word b (token.Keyword k) [] (key_is k b.word t) same) (no_other b.new)

-- where a mark is expected it is the first word
pub mark_read : (p : Punctuation) (es : List Expected) (words : List Token) → Ends (Mark p ∷ es) words → After (token.Punctuation p) es words
unfolding begun may_end
mark_read p es words ends =
    let b = first_begins (Mark p) es words refl ends in
    by_test (is_mark p b.word) [] None b.new b.opens (λ t same. after_word b (token.Punctuation p) [] (mark_is p b.word t) same) (no_other b.new)

-- a word with something in it is the first, and behind it the words are all that is expected
abbrev pub AfterOne : {A : Type 0} → (A → Token) → List Expected → List Token → Type 0
AfterOne {A} f es words = (x : A) × After (f x) es words

-- where a name is expected the first word is one
pub name_read : (es : List Expected) (words : List Token) → Ends (AName ∷ es) words → AfterOne token.Name es words
unfolding begun may_end
name_read es words ends =
    let b = first_begins AName es words refl ends in
    by_test (is_name b.word) [] None b.new b.opens (λ t same. let n = name_is b.word t in (n.0, after_word b (token.Name n.0) [] n.1 same)) (no_other b.new)

-- where a body is expected the first word is one
pub body_read : (es : List Expected) (words : List Token) → Ends (ABody ∷ es) words → AfterOne token.Body es words
unfolding begun may_end
body_read es words ends =
    let b = first_begins ABody es words refl ends in
    by_test (is_body b.word) [] None b.new b.opens (λ t same. let n = body_is b.word t in (n.0, after_word b (token.Body n.0) [] n.1 same)) (no_other b.new)

-- where a number is expected the first word is one
pub number_read : (es : List Expected) (words : List Token) → Ends (ANumber ∷ es) words → AfterOne token.Number es words
unfolding begun may_end
number_read es words ends =
    let b = first_begins ANumber es words refl ends in
    by_test (is_number b.word) [] None b.new b.opens (λ t same. let n = number_is b.word t in (n.0, after_word b (token.Number n.0) [] n.1 same)) (no_other b.new)

-- where an interval is expected the first word is a duration that isn't 0
pub duration_read : (es : List Expected) (words : List Token) → Ends (ADuration ∷ es) words → (n : ℕ) × (0 < n) × After (token.Duration n) es words
unfolding begun may_end
duration_read es words ends =
    let b = first_begins ADuration es words refl ends in
    by_test (is_interval b.word) [] None b.new b.opens (λ t same. let n = interval_is b.word t in (n.0, n.1, after_word b (token.Duration n.0) [] n.2 same)) (no_other b.new)

-- where a type is expected the first word is one
pub type_read : (es : List Expected) (words : List Token) → Ends (AType ∷ es) words → AfterOne type_word es words
unfolding begun may_end
type_read es words ends =
    let b = first_begins AType es words refl ends in
    by_test (is_block_type b.word || (is_key key.Int b.word || (is_key key.Time b.word || is_key key.Bool b.word))) [] None b.new b.opens (λ t same. let n = type_is b.word t in (n.0, after_word b (type_word n.0) [] n.1 same)) (no_other b.new)

-- a source begins with an address or a name
pub source_begin : (es : List Expected) (words : List Token) → Ends (ASource ∷ es) words → AfterOne token.Address es words ⊎ AfterOne token.Name (Mark mark.Dot ∷ AName ∷ Mark mark.Dot ∷ AName ∷ es) words
unfolding begun may_end
source_begin es words ends =
    let b = first_begins ASource es words refl ends in
    let field : List Expected = Mark mark.Dot ∷ AName ∷ Mark mark.Dot ∷ AName ∷ [] in
    by_test (is_address b.word) [] (where_so (is_name b.word) field None) b.new b.opens (λ t same. let n = address_is b.word t in inl (n.0, after_word b (token.Address n.0) [] n.1 same))
    (λ o. by_test (is_name b.word) field None b.new o (λ t same. let n = name_is b.word t in inr (n.0, after_word b (token.Name n.0) field n.1 same)) (no_other b.new))

-- the settings of a task begin with INTERVAL or PRIORITY
pub settings_begin : (es : List Expected) (words : List Token) → Ends (TheSettings ∷ es) words
    → After (token.Keyword key.Interval) (interval_rest ++ Mark mark.Comma ∷ Key key.Priority ∷ priority_rest ++ es) words
    ⊎ After (token.Keyword key.Priority) (priority_rest ++ Mark mark.Comma ∷ Key key.Interval ∷ interval_rest ++ es) words
unfolding begun may_end
settings_begin es words ends =
    let b = first_begins TheSettings es words refl ends in
    let one : List Expected = interval_rest ++ Mark mark.Comma ∷ Key key.Priority ∷ priority_rest in
    let other : List Expected = priority_rest ++ Mark mark.Comma ∷ Key key.Interval ∷ interval_rest in
    by_test (is_key key.Interval b.word) one (where_so (is_key key.Priority b.word) other None) b.new b.opens (λ t same. inl (after_word b (token.Keyword key.Interval) one (key_is key.Interval b.word t) same))
    (λ o. by_test (is_key key.Priority b.word) other None b.new o (λ t same. inr (after_word b (token.Keyword key.Priority) other (key_is key.Priority b.word t) same)) (no_other b.new))

-- behind a parenthesis it is closed, or there is a name
pub first_bind_begin : (es : List Expected) (words : List Token) → Ends (FirstBind ∷ es) words → After (token.Punctuation mark.Close) es words ⊎ AfterOne token.Name (bind_rest ++ MoreBinds ∷ es) words
unfolding begun may_end
first_bind_begin es words ends =
    let b = first_begins FirstBind es words refl ends in
    let more : List Expected = bind_rest ++ MoreBinds ∷ [] in
    by_test (is_mark mark.Close b.word) [] (where_so (is_name b.word) more None) b.new b.opens (λ t same. inl (after_word b (token.Punctuation mark.Close) [] (mark_is mark.Close b.word t) same))
    (λ o. by_test (is_name b.word) more None b.new o (λ t same. let n = name_is b.word t in inr (n.0, after_word b (token.Name n.0) more n.1 same)) (no_other b.new))

-- behind a bind there is a comma, or the parenthesis is closed
pub more_binds_begin : (es : List Expected) (words : List Token) → Ends (MoreBinds ∷ es) words → After (token.Punctuation mark.Comma) (AName ∷ bind_rest ++ MoreBinds ∷ es) words ⊎ After (token.Punctuation mark.Close) es words
unfolding begun may_end
more_binds_begin es words ends =
    let b = first_begins MoreBinds es words refl ends in
    let more : List Expected = AName ∷ bind_rest ++ MoreBinds ∷ [] in
    by_test (is_mark mark.Comma b.word) more (where_so (is_mark mark.Close b.word) [] None) b.new b.opens (λ t same. inl (after_word b (token.Punctuation mark.Comma) more (mark_is mark.Comma b.word t) same))
    (λ o. by_test (is_mark mark.Close b.word) [] None b.new o (λ t same. inr (after_word b (token.Punctuation mark.Close) [] (mark_is mark.Close b.word t) same)) (no_other b.new))

-- in a block there is END_VAR or a name
pub lists_begin : (es : List Expected) (words : List Token) → Ends (MoreLists ∷ es) words → After (token.Keyword key.EndVar) es words ⊎ AfterOne token.Name (list_rest ++ MoreLists ∷ es) words
unfolding begun may_end
lists_begin es words ends =
    let b = first_begins MoreLists es words refl ends in
    let more : List Expected = list_rest ++ MoreLists ∷ [] in
    by_test (is_key key.EndVar b.word) [] (where_so (is_name b.word) more None) b.new b.opens (λ t same. inl (after_word b (token.Keyword key.EndVar) [] (key_is key.EndVar b.word t) same))
    (λ o. by_test (is_name b.word) more None b.new o (λ t same. let n = name_is b.word t in inr (n.0, after_word b (token.Name n.0) more n.1 same)) (no_other b.new))

-- in a resource there is END_RESOURCE, TASK or PROGRAM
pub items_begin : (es : List Expected) (words : List Token) → Ends (MoreItems ∷ es) words
    → After (token.Keyword key.EndResource) es words ⊎ (After (token.Keyword key.Task) (task_rest ++ MoreItems ∷ es) words ⊎ After (token.Keyword key.Program) (instance_rest ++ MoreItems ∷ es) words)
unfolding begun may_end
items_begin es words ends =
    let b = first_begins MoreItems es words refl ends in
    let task : List Expected = task_rest ++ MoreItems ∷ [] in
    let instance : List Expected = instance_rest ++ MoreItems ∷ [] in
    by_test (is_key key.EndResource b.word) [] (where_so (is_key key.Task b.word) task (where_so (is_key key.Program b.word) instance None)) b.new b.opens (λ t same. inl (after_word b (token.Keyword key.EndResource) [] (key_is key.EndResource b.word t) same))
    (λ o. by_test (is_key key.Task b.word) task (where_so (is_key key.Program b.word) instance None) b.new o (λ t same. inr (inl (after_word b (token.Keyword key.Task) task (key_is key.Task b.word t) same)))
    (λ p. by_test (is_key key.Program b.word) instance None b.new p (λ t same. inr (inr (after_word b (token.Keyword key.Program) instance (key_is key.Program b.word t) same))) (no_other b.new)))

-- behind a resource there is END_CONFIGURATION or RESOURCE
pub resources_begin : (es : List Expected) (words : List Token) → Ends (MoreResources ∷ es) words → After (token.Keyword key.EndConfiguration) es words ⊎ After (token.Keyword key.Resource) (resource_rest ++ MoreResources ∷ es) words
unfolding begun may_end
resources_begin es words ends =
    let b = first_begins MoreResources es words refl ends in
    let more : List Expected = resource_rest ++ MoreResources ∷ [] in
    by_test (is_key key.EndConfiguration b.word) [] (where_so (is_key key.Resource b.word) more None) b.new b.opens (λ t same. inl (after_word b (token.Keyword key.EndConfiguration) [] (key_is key.EndConfiguration b.word t) same))
    (λ o. by_test (is_key key.Resource b.word) more None b.new o (λ t same. inr (after_word b (token.Keyword key.Resource) more (key_is key.Resource b.word t) same)) (no_other b.new))

-- what may be left out stands there or is left out
maybe : {C : Type 0} (e : Expected) (es : List Expected) (words : List Token) → Ends (e ∷ es) words → (Begins e es words → C) → (Ends es words → C) → C
maybe {C} e es words ends there missing = go (first_word e es words ends)
  where
    go : Begins e es words ⊎ ((may_end e ≡ true) × Ends es words) → C
    go (inl b) = there b
    go (inr (may, s)) = missing s

-- behind a name there is a comma, or no more names
pub names_begin : (es : List Expected) (words : List Token) → Ends (MoreNames ∷ es) words → After (token.Punctuation mark.Comma) (AName ∷ MoreNames ∷ es) words ⊎ Ends es words
unfolding begun
names_begin es words ends =
    let more : List Expected = AName ∷ MoreNames ∷ [] in
    maybe MoreNames es words ends (λ b. by_test (is_mark mark.Comma b.word) more None b.new b.opens (λ t same. inl (after_word b (token.Punctuation mark.Comma) more (mark_is mark.Comma b.word t) same)) (no_other b.new)) (λ s. inr s)

-- there is PROGRAM, or no more programs
pub programs_begin : (es : List Expected) (words : List Token) → Ends (MorePrograms ∷ es) words → After (token.Keyword key.Program) (program_rest ++ MorePrograms ∷ es) words ⊎ Ends es words
unfolding begun
programs_begin es words ends =
    let more : List Expected = program_rest ++ MorePrograms ∷ [] in
    maybe MorePrograms es words ends (λ b. by_test (is_key key.Program b.word) more None b.new b.opens (λ t same. inl (after_word b (token.Keyword key.Program) more (key_is key.Program b.word t) same)) (no_other b.new)) (λ s. inr s)

-- there is a parenthesis, or there are no binds
pub may_have_binds_begin : (es : List Expected) (words : List Token) → Ends (MayHaveBinds ∷ es) words → After (token.Punctuation mark.Open) (FirstBind ∷ es) words ⊎ Ends es words
unfolding begun
may_have_binds_begin es words ends =
    let more : List Expected = FirstBind ∷ [] in
    maybe MayHaveBinds es words ends (λ b. by_test (is_mark mark.Open b.word) more None b.new b.opens (λ t same. inl (after_word b (token.Punctuation mark.Open) more (mark_is mark.Open b.word t) same)) (no_other b.new)) (λ s. inr s)

-- The words of a section, and behind them the words are all that is expected.
pub record AfterSection (es : List Expected) (words : List Token) : Type 0 where
  pub section : Section
  pub rest : List Token
  pub parts : words ≡ section_words section ++ rest
  pub less : length rest < length words
  pub ends : Ends es rest

-- behind VAR there is RETAIN or not
retain_read : (es : List Expected) (words : List Token) → After (token.Keyword key.Var) (MayRetain ∷ es) words → AfterSection es words
unfolding begun
retain_read es words a =
    maybe MayRetain es a.rest a.ends
    (λ b. by_test (is_key key.Retain b.word) [] None b.new b.opens (λ t same. let r = after_word b (token.Keyword key.Retain) [] (key_is key.Retain b.word t) same in
    record { section = section.Retained; rest = r.rest; parts = a.parts ∙ ap (λ ts. token.Keyword key.Var ∷ ts) r.parts; less = omega (arith, one_less a, one_less r); ends = r.ends }) (no_other b.new))
    (λ s. record { section = section.Local; rest = a.rest; parts = a.parts; less = omega (arith, one_less a); ends = s })

-- there is a section, or no more blocks
pub blocks_begin : (es : List Expected) (words : List Token) → Ends (MoreBlocks ∷ es) words → AfterSection (MoreLists ∷ MoreBlocks ∷ es) words ⊎ Ends es words
unfolding begun
blocks_begin es words ends =
    let lists : List Expected = MoreLists ∷ MoreBlocks ∷ [] in
    let local : List Expected = MayRetain ∷ MoreLists ∷ MoreBlocks ∷ [] in
    maybe MoreBlocks es words ends
    (λ b. by_test (is_key key.VarInput b.word || is_key key.VarOutput b.word) lists (where_so (is_key key.Var b.word) local None) b.new b.opens
    (λ t same. inl (either (is_key key.VarInput b.word) (is_key key.VarOutput b.word) t
    (λ h. plain section.Input key.VarInput refl (after_word b (token.Keyword key.VarInput) lists (key_is key.VarInput b.word h) same))
    (λ h. plain section.Output key.VarOutput refl (after_word b (token.Keyword key.VarOutput) lists (key_is key.VarOutput b.word h) same))))
    (λ o. by_test (is_key key.Var b.word) local None b.new o (λ t same. inl (retain_read (MoreLists ∷ MoreBlocks ∷ es) words (after_word b (token.Keyword key.Var) local (key_is key.Var b.word t) same))) (no_other b.new)))
    (λ s. inr s)
  where
    plain : (s : Section) (k : Keyword) → section_words s ≡ token.Keyword k ∷ [] → After (token.Keyword k) (MoreLists ∷ MoreBlocks ∷ es) words → AfterSection (MoreLists ∷ MoreBlocks ∷ es) words
    plain s k is a = record { section = s; rest = a.rest; parts = a.parts ∙ ap (λ ts. ts ++ a.rest) (sym is); less = omega (arith, one_less a); ends = a.ends }
