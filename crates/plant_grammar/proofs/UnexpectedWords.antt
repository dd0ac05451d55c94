-- Words that can't stand where a single word is expected.
use Rattle.std.proofs.Common.{◌≡◌, ◌≢◌, ◌==◌, ◌||◌, ◌<◌, not, if◌then◌else◌, ℕ, Bool, true, false, List, [], ◌∷◌, ◌++◌, Some, None, slice_get, refl, sym, ap, ◌∙◌, arith}
use Rattle.std.proofs.lemmas.Bool.{eqb-true, eqb-false}
use Rattle.plant_text.specs.declared.token.Token.{Token}
use Rattle.plant_text.specs.declared.token.Token.TheVariants as token
use Rattle.plant_text.specs.declared.token.Keyword.{Keyword}
use Rattle.plant_text.specs.declared.token.Keyword.TheVariants as key
use Rattle.plant_text.specs.declared.token.Punctuation.{Punctuation}
use Rattle.plant_text.specs.declared.token.Punctuation.TheVariants as mark
use Rattle.std_blocks.specs.declared.block_type.BlockType.{BlockType}
use Rattle.words.specs.declared.address.Address.{Address}
use Rattle.plant_grammar.specs.declared.grammar_fault.GrammarFault.{GrammarFault}
use Rattle.plant_grammar.specs.declared.grammar_fault.GrammarFaultKind.TheVariants.{Memory, Syntax}
use Rattle.plant_grammar.specs.Steps.Lines.{ReaderValue, syntax_at, IsNotNext, IsNoneNext}
use Rattle.plant_grammar.specs.Steps.Expected.{Expected, Key, Mark, AName, ABody, ADuration, ANumber, AType, ASection, ASource, MayRetain, number_of_keyword, number_of_mark, is_key, is_mark, is_name, is_body, is_number, is_address, is_block_type, is_interval, where_so, begun, may_end, or_skipped, step, GetsStuck}
use Rattle.plant_grammar.proofs.ExpectedWords.{stuck_here}

-- want of memory is no fault of the grammar
pub memory_no_syntax : (fault : GrammarFault) → fault.kind ≡ Memory → fault.kind ≡ Syntax → ⊥
memory_no_syntax fault m s = let wrong : Memory ≡ Syntax = sym m ∙ s in cc

syntax_no_memory : (fault : GrammarFault) → fault.kind ≡ Syntax → fault.kind ≢ Memory
syntax_no_memory fault s m = memory_no_syntax fault m s

-- the keywords, and the marks, in the order of their numbers
abbrev all_keywords : List Keyword
all_keywords =
    key.Program ∷ key.EndProgram ∷ key.Var ∷ key.VarInput ∷ key.VarOutput ∷ key.Retain ∷ key.EndVar ∷ key.Configuration ∷ key.EndConfiguration
    ∷ key.Resource ∷ key.EndResource ∷ key.On ∷ key.Task ∷ key.With ∷ key.Interval ∷ key.Priority ∷ key.Bool ∷ key.Int ∷ key.Time ∷ []

abbrev all_marks : List Punctuation
all_marks = mark.Open ∷ mark.Close ∷ mark.Colon ∷ mark.Semicolon ∷ mark.Comma ∷ mark.Dot ∷ mark.Assign ∷ []

-- each stands at its number
keyword_there : (k : Keyword) → slice_get all_keywords (number_of_keyword k) ≡ Some k
keyword_there key.Program = refl
keyword_there key.EndProgram = refl
keyword_there key.Var = refl
keyword_there key.VarInput = refl
keyword_there key.VarOutput = refl
keyword_there key.Retain = refl
keyword_there key.EndVar = refl
keyword_there key.Configuration = refl
keyword_there key.EndConfiguration = refl
keyword_there key.Resource = refl
keyword_there key.EndResource = refl
keyword_there key.On = refl
keyword_there key.Task = refl
keyword_there key.With = refl
keyword_there key.Interval = refl
keyword_there key.Priority = refl
keyword_there key.Bool = refl
keyword_there key.Int = refl
keyword_there key.Time = refl

mark_there : (p : Punctuation) → slice_get all_marks (number_of_mark p) ≡ Some p
mark_there mark.Open = refl
mark_there mark.Close = refl
mark_there mark.Colon = refl
mark_there mark.Semicolon = refl
mark_there mark.Comma = refl
mark_there mark.Dot = refl
mark_there mark.Assign = refl

-- keywords of one number are one, and so are marks
pub same_keyword : (k l : Keyword) → number_of_keyword k ≡ number_of_keyword l → k ≡ l
same_keyword k l e =
    let same : Some k ≡ Some l = sym (keyword_there k) ∙ ap (slice_get all_keywords) e ∙ keyword_there l in
    cc (same)

pub same_mark : (p q : Punctuation) → number_of_mark p ≡ number_of_mark q → p ≡ q
same_mark p q e =
    let same : Some p ≡ Some q = sym (mark_there p) ∙ ap (slice_get all_marks) e ∙ mark_there q in
    cc (same)

-- numbers that differ
apart_numbers : (m n : ℕ) → m ≢ n → (m == n) ≡ false
apart_numbers m n apart = go (m == n) refl
  where
    go : (same : Bool) → (m == n) ≡ same → (m == n) ≡ false
    go true e = absurd (apart (eqb-true m n e))
    go false e = e

-- the word is another one than this keyword
pub no_key : (k : Keyword) (t : Token) → t ≢ token.Keyword k → is_key k t ≡ false
no_key k (token.Keyword l) other = apart_numbers (number_of_keyword k) (number_of_keyword l) (λ e. other (ap (λ m. token.Keyword m) (sym (same_keyword k l e))))
no_key k (token.Block b) other = refl
no_key k (token.Punctuation p) other = refl
no_key k (token.Name n) other = refl
no_key k (token.Number n) other = refl
no_key k (token.Duration n) other = refl
no_key k (token.Address a) other = refl
no_key k (token.Body b) other = refl
no_key k token.Unknown other = refl

-- the word is another one than this mark
pub no_mark : (p : Punctuation) (t : Token) → t ≢ token.Punctuation p → is_mark p t ≡ false
no_mark p (token.Keyword l) other = refl
no_mark p (token.Block b) other = refl
no_mark p (token.Punctuation q) other = apart_numbers (number_of_mark p) (number_of_mark q) (λ e. other (ap (λ m. token.Punctuation m) (sym (same_mark p q e))))
no_mark p (token.Name n) other = refl
no_mark p (token.Number n) other = refl
no_mark p (token.Duration n) other = refl
no_mark p (token.Address a) other = refl
no_mark p (token.Body b) other = refl
no_mark p token.Unknown other = refl

-- the word is no name
pub no_name_word : (t : Token) → ((n : List ℕ) → t ≢ token.Name n) → is_name t ≡ false
no_name_word (token.Keyword l) other = refl
no_name_word (token.Block b) other = refl
no_name_word (token.Punctuation q) other = refl
no_name_word (token.Name n) other = absurd (other n refl)
no_name_word (token.Number n) other = refl
no_name_word (token.Duration n) other = refl
no_name_word (token.Address a) other = refl
no_name_word (token.Body b) other = refl
no_name_word token.Unknown other = refl

-- the word is no body
pub no_body_word : (t : Token) → ((b : List ℕ) → t ≢ token.Body b) → is_body t ≡ false
no_body_word (token.Keyword l) other = refl
no_body_word (token.Block b) other = refl
no_body_word (token.Punctuation q) other = refl
no_body_word (token.Name n) other = refl
no_body_word (token.Number n) other = refl
no_body_word (token.Duration n) other = refl
no_body_word (token.Address a) other = refl
no_body_word (token.Body b) other = absurd (other b refl)
no_body_word token.Unknown other = refl

-- the word is no number
pub no_number_word : (t : Token) → ((n : ℕ) → t ≢ token.Number n) → is_number t ≡ false
no_number_word (token.Keyword l) other = refl
no_number_word (token.Block b) other = refl
no_number_word (token.Punctuation q) other = refl
no_number_word (token.Name n) other = refl
no_number_word (token.Number n) other = absurd (other n refl)
no_number_word (token.Duration n) other = refl
no_number_word (token.Address a) other = refl
no_number_word (token.Body b) other = refl
no_number_word token.Unknown other = refl

-- the word is no address
pub no_address_word : (t : Token) → ((a : Address) → t ≢ token.Address a) → is_address t ≡ false
no_address_word (token.Keyword l) other = refl
no_address_word (token.Block b) other = refl
no_address_word (token.Punctuation q) other = refl
no_address_word (token.Name n) other = refl
no_address_word (token.Number n) other = refl
no_address_word (token.Duration n) other = refl
no_address_word (token.Address a) other = absurd (other a refl)
no_address_word (token.Body b) other = refl
no_address_word token.Unknown other = refl

-- the word is no type of a standard block
pub no_block_word : (t : Token) → ((b : BlockType) → t ≢ token.Block b) → is_block_type t ≡ false
no_block_word (token.Keyword l) other = refl
no_block_word (token.Block b) other = absurd (other b refl)
no_block_word (token.Punctuation q) other = refl
no_block_word (token.Name n) other = refl
no_block_word (token.Number n) other = refl
no_block_word (token.Duration n) other = refl
no_block_word (token.Address a) other = refl
no_block_word (token.Body b) other = refl
no_block_word token.Unknown other = refl

-- the word is no duration but 0
pub no_interval_word : (t : Token) → ((n : ℕ) → t ≡ token.Duration n → 0 < n → ⊥) → is_interval t ≡ false
no_interval_word (token.Keyword l) other = refl
no_interval_word (token.Block b) other = refl
no_interval_word (token.Punctuation q) other = refl
no_interval_word (token.Name n) other = refl
no_interval_word (token.Number n) other = refl
no_interval_word (token.Duration n) other = go (n == 0) refl
  where
    go : (zero : Bool) → (n == 0) ≡ zero → not (n == 0) ≡ false
    go true e = ap (λ b. not b) e
    go false e = absurd (other n refl (let some = eqb-false n 0 e in omega (arith, some)))
no_interval_word (token.Address a) other = refl
no_interval_word (token.Body b) other = refl
no_interval_word token.Unknown other = refl

-- a word that doesn't begin what must stand there
pub not_begun : (e : Expected) (es : List Expected) (t : Token) → may_end e ≡ false → begun e t ≡ None → step (e ∷ es) t ≡ None
unfolding step
not_begun e es t must none = ap (λ found. or_skipped found es (if may_end e then step es t else None)) none ∙ ap (λ may. if may then step es t else None) must

-- a word that doesn't begin what may be left out
pub left_out : (e : Expected) (es : List Expected) (t : Token) → may_end e ≡ true → begun e t ≡ None → step (e ∷ es) t ≡ step es t
unfolding step
left_out e es t may none = ap (λ found. or_skipped found es (if may_end e then step es t else None)) none ∙ ap (λ may. if may then step es t else None) may

-- something is expected
pub some_expected : (e : Expected) (es : List Expected) → e ∷ es ≢ []
some_expected e es wrong = cc

-- the next word doesn't begin what must stand there
pub stuck_at : (Known : List Token → Type 0) → Known [] → (e : Expected) (es : List Expected) (r : ReaderValue) (fault : GrammarFault) → may_end e ≡ false → (fault.kind ≢ Memory → fault ≡ syntax_at r)
    → (fault.kind ≢ Memory → (t : Token) (rest : List Token) → r.words ≡ t ∷ rest → begun e t ≡ None) → GetsStuck Known (e ∷ es) r fault
stuck_at Known nothing e es r fault must is none = λ syntax behind.
    let known = syntax_no_memory fault syntax in
    stuck_here Known nothing (e ∷ (es ++ behind)) r fault.line (ap (λ (f : GrammarFault). f.line) (is known)) (some_expected e (es ++ behind)) (λ t rest h. not_begun e (es ++ behind) t must (none known t rest h))

-- no such keyword stands next
pub key_stuck : (Known : List Token → Type 0) → Known [] → (k : Keyword) (es : List Expected) (r : ReaderValue) (fault : GrammarFault) → fault ≡ syntax_at r → IsNotNext (token.Keyword k) r.words → GetsStuck Known (Key k ∷ es) r fault
unfolding begun may_end
key_stuck Known nothing k es r fault is none =
    stuck_at Known nothing (Key k) es r fault refl (λ known. is) (λ known t rest h. ap (λ b. where_so b [] None) (no_key k t (λ e. none rest (h ∙ ap (λ u. u ∷ rest) e))))

-- no such mark stands next
pub mark_stuck : (Known : List Token → Type 0) → Known [] → (p : Punctuation) (es : List Expected) (r : ReaderValue) (fault : GrammarFault) → fault ≡ syntax_at r → IsNotNext (token.Punctuation p) r.words → GetsStuck Known (Mark p ∷ es) r fault
unfolding begun may_end
mark_stuck Known nothing p es r fault is none =
    stuck_at Known nothing (Mark p) es r fault refl (λ known. is) (λ known t rest h. ap (λ b. where_so b [] None) (no_mark p t (λ e. none rest (h ∙ ap (λ u. u ∷ rest) e))))

-- no name stands next
pub name_stuck : (Known : List Token → Type 0) → Known [] → (es : List Expected) (r : ReaderValue) (fault : GrammarFault) → (fault.kind ≢ Memory → fault ≡ syntax_at r) → (fault.kind ≢ Memory → IsNoneNext token.Name r.words) → GetsStuck Known (AName ∷ es) r fault
unfolding begun may_end
name_stuck Known nothing es r fault is none =
    stuck_at Known nothing AName es r fault refl is (λ known t rest h. ap (λ b. where_so b [] None) (no_name_word t (λ n e. none known n rest (h ∙ ap (λ u. u ∷ rest) e))))

-- no body stands next
pub body_stuck : (Known : List Token → Type 0) → Known [] → (es : List Expected) (r : ReaderValue) (fault : GrammarFault) → (fault.kind ≢ Memory → fault ≡ syntax_at r) → (fault.kind ≢ Memory → IsNoneNext token.Body r.words) → GetsStuck Known (ABody ∷ es) r fault
unfolding begun may_end
body_stuck Known nothing es r fault is none =
    stuck_at Known nothing ABody es r fault refl is (λ known t rest h. ap (λ b. where_so b [] None) (no_body_word t (λ n e. none known n rest (h ∙ ap (λ u. u ∷ rest) e))))

-- no number stands next
pub number_stuck : (Known : List Token → Type 0) → Known [] → (es : List Expected) (r : ReaderValue) (fault : GrammarFault) → fault ≡ syntax_at r → IsNoneNext token.Number r.words → GetsStuck Known (ANumber ∷ es) r fault
unfolding begun may_end
number_stuck Known nothing es r fault is none =
    stuck_at Known nothing ANumber es r fault refl (λ known. is) (λ known t rest h. ap (λ b. where_so b [] None) (no_number_word t (λ n e. none n rest (h ∙ ap (λ u. u ∷ rest) e))))

-- no duration stands next, or 0
pub duration_stuck : (Known : List Token → Type 0) → Known [] → (es : List Expected) (r : ReaderValue) (fault : GrammarFault) → fault ≡ syntax_at r → ((n : ℕ) (rest : List Token) → r.words ≡ token.Duration n ∷ rest → 0 < n → ⊥) → GetsStuck Known (ADuration ∷ es) r fault
unfolding begun may_end
duration_stuck Known nothing es r fault is none =
    stuck_at Known nothing ADuration es r fault refl (λ known. is) (λ known t rest h. ap (λ b. where_so b [] None) (no_interval_word t (λ n e some. none n rest (h ∙ ap (λ u. u ∷ rest) e) some)))

-- neither an address nor a name stands next
pub source_stuck : (Known : List Token → Type 0) → Known [] → (es : List Expected) (r : ReaderValue) (fault : GrammarFault) → (fault.kind ≢ Memory → fault ≡ syntax_at r) → IsNoneNext token.Address r.words → (fault.kind ≢ Memory → IsNoneNext token.Name r.words) → GetsStuck Known (ASource ∷ es) r fault
unfolding begun may_end
source_stuck Known nothing es r fault is no_address none =
    stuck_at Known nothing ASource es r fault refl is (λ known t rest h.
    let parts : List Expected = Mark mark.Dot ∷ AName ∷ Mark mark.Dot ∷ AName ∷ [] in
    ap (λ b. where_so b [] (where_so (is_name t) parts None)) (no_address_word t (λ a e. no_address a rest (h ∙ ap (λ u. u ∷ rest) e)))
    ∙ ap (λ b. where_so b parts None) (no_name_word t (λ n e. none known n rest (h ∙ ap (λ u. u ∷ rest) e))))

-- no type stands next
pub type_stuck : (Known : List Token → Type 0) → Known [] → (es : List Expected) (r : ReaderValue) (fault : GrammarFault) → fault ≡ syntax_at r → IsNoneNext token.Block r.words
    → IsNotNext (token.Keyword key.Int) r.words → IsNotNext (token.Keyword key.Time) r.words → IsNotNext (token.Keyword key.Bool) r.words → GetsStuck Known (AType ∷ es) r fault
unfolding begun may_end
type_stuck Known nothing es r fault is no_block no_int no_time no_bool =
    stuck_at Known nothing AType es r fault refl (λ known. is) (λ known t rest h.
    let next : (k : Keyword) → IsNotNext (token.Keyword k) r.words → is_key k t ≡ false = λ k none. no_key k t (λ e. none rest (h ∙ ap (λ u. u ∷ rest) e)) in
    ap (λ b. where_so (b || (is_key key.Int t || (is_key key.Time t || is_key key.Bool t))) [] None) (no_block_word t (λ a e. no_block a rest (h ∙ ap (λ u. u ∷ rest) e)))
    ∙ ap (λ b. where_so (b || (is_key key.Time t || is_key key.Bool t)) [] None) (next key.Int no_int)
    ∙ ap (λ b. where_so (b || is_key key.Bool t) [] None) (next key.Time no_time)
    ∙ ap (λ b. where_so b [] None) (next key.Bool no_bool))

-- no section begins next
pub section_stuck : (Known : List Token → Type 0) → Known [] → (es : List Expected) (r : ReaderValue) (fault : GrammarFault) → fault ≡ syntax_at r
    → IsNotNext (token.Keyword key.VarInput) r.words → IsNotNext (token.Keyword key.VarOutput) r.words → IsNotNext (token.Keyword key.Var) r.words → GetsStuck Known (ASection ∷ es) r fault
unfolding begun may_end
section_stuck Known nothing es r fault is no_input no_output no_var =
    stuck_at Known nothing ASection es r fault refl (λ known. is) (λ known t rest h.
    let next : (k : Keyword) → IsNotNext (token.Keyword k) r.words → is_key k t ≡ false = λ k none. no_key k t (λ e. none rest (h ∙ ap (λ u. u ∷ rest) e)) in
    let retained : List Expected = MayRetain ∷ [] in
    ap (λ b. where_so (b || is_key key.VarOutput t) [] (where_so (is_key key.Var t) retained None)) (next key.VarInput no_input)
    ∙ ap (λ b. where_so b [] (where_so (is_key key.Var t) retained None)) (next key.VarOutput no_output)
    ∙ ap (λ b. where_so b retained None) (next key.Var no_var))
